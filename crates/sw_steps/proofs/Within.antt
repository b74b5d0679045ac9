-- A run of a door around another is one of the door inside: it knows nothing of what the one around counts.
use Rattle.std.proofs.Common.{ℕ, List}
use Rattle.sw_hashpath.specs.declared.place.Place.{Place}
use Rattle.sw_hashpath.specs.declared.secrets.Secrets.{Secrets}
use Rattle.sw_machine.specs.Honest.{RunsHonestly}
use Rattle.sw_lossy.specs.Losses.{around}
use Rattle.sw_lossy.specs.declared.acts.Acts.{Acts}
use Rattle.sw_machine.specs.Doors.{GoesOn, RunsOnLeaving, StandsFor}
use Rattle.sw_machine.specs.Machine.{Machine, RunLine}
use Rattle.sw_peer.specs.Sights.{Sight}

module _ (s t : Sight) (acts now : Acts) (sent faults asks messages more asked : ℕ) where
  stands-around : (m : Machine) → StandsFor s m → StandsFor (around s acts sent faults asks) m
  stands-around m stands = record { objects = stands.objects; containers = stands.containers }

  goes-inside : (m : Machine) (lines : List RunLine) → GoesOn (around s acts sent faults asks) m lines (around t now messages more asked) → GoesOn s m lines t
  goes-inside m lines goes = record {
    nodes = goes.nodes;
    after = goes.after;
    run = goes.run;
    stands = record { objects = goes.stands.objects; containers = goes.stands.containers };
    kept = goes.kept;
  }

  pub leaving-within : RunsOnLeaving (around s acts sent faults asks) (around t now messages more asked) → RunsOnLeaving s t
  leaving-within runs m stands = let run = runs m (stands-around m stands) in (run.0, run.1, goes-inside m run.0 run.2)

  pub honest-within : (secrets : Secrets) (replicas : Place → List ℕ)
      → RunsHonestly secrets replicas (around s acts sent faults asks) (around t now messages more asked) → RunsHonestly secrets replicas s t
  honest-within secrets replicas runs m stands = let run = runs m (stands-around m stands) in (run.0, run.1, goes-inside m run.0 run.2)
