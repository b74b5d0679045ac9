-- The lists of ranges are all names, each once, after each honest run that began with none; and what such a run is of the runs of other laws.
use Rattle.std.proofs.Common.{◌≡◌, ℕ, List, [], ◌∷◌, ◌++◌, Option, None, refl, sym, subst}
use Rattle.sw_hashpath.specs.declared.place.Place.{Place}
use Rattle.sw_hashpath.specs.declared.secrets.Secrets.{Secrets}
use Rattle.sw_keeper.specs.declared.tables.Tables.{Tables}
use Rattle.sw_listing_laws.specs.Plain.{Cluster, RunsSoundly}
use Rattle.sw_machine.proofs.Runs.{rows-are-merged}
use Rattle.sw_machine.specs.Honest.{AreHonest}
use Rattle.sw_machine.specs.Machine.{Machine, RunLine, Runs}
use Rattle.sw_machine.specs.Sides.{TellsAt}
use Rattle.sw_origin_laws.proofs.Lists.{list_of}
use Rattle.sw_peer.specs.Sights.{Nodes, cont_lock}
use Rattle.sw_pending_laws.proofs.Among.{none-among}
use Rattle.sw_exact_laws.proofs.Lines.{one}
use Rattle.sw_exact_laws.proofs.Standing.{AllBringTiled, IsTiled}
use Rattle.sw_exact_laws.proofs.Tiling.{IsTiledList}

-- where no container was created, and nothing is on its way
pub nothing-tiled : (m : Machine) → ((device : ℕ) (place : Place) → m.containers.half.holds device place ≡ None) → m.sent ≡ [] → IsTiled m
nothing-tiled m none no_messages = record {
  have = λ d p. subst (λ (t : Option Tables). IsTiledList (list_of t)) (sym (none d p)) tt;
  sent = subst AllBringTiled (sym no_messages) (λ message there. absurd (none-among message there));
}

pub stay-tiled : (nodes : Nodes) (secrets : Secrets) (replicas : Place → List ℕ) (lines done : List RunLine) (m after : Machine)
    → ((d : ℕ) (p : Place) → TellsAt (cont_lock nodes) m.containers d p) → IsTiled m → Runs nodes m lines after → AreHonest secrets replicas done lines
    → IsTiled after
stay-tiled nodes secrets replicas [] done m after tell tiled same honest = subst IsTiled (sym same) tiled
stay-tiled nodes secrets replicas (line ∷ lines) done m after tell tiled run honest =
    stay-tiled nodes secrets replicas lines (done ++ line ∷ []) run.0 after
    (λ d p. ((rows-are-merged nodes m (line ∷ []) run.0 (run.0, run.1, refl)).place d p (tell d p)).told)
    (one nodes secrets replicas done m tell tiled run.0 line run.1 honest.0) run.2 honest.1

-- a run in which all keep to their parts is honest
pub are-honest : (c : Cluster) (lines done : List RunLine) (m after : Machine) → RunsSoundly c done m lines after
    → AreHonest c.nodes.secrets c.replicas done lines
are-honest c [] done m after same = tt
are-honest c (line ∷ lines) done m after run = (run.2, are-honest c lines (done ++ line ∷ []) run.0 after run.5)
