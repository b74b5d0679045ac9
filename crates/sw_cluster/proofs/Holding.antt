-- An honest run loses nothing that is held.
use Rattle.std.proofs.Common.{ℕ, List, [], ◌∷◌, ◌++◌, subst, sym, append_assoc}
use Rattle.std.proofs.lemmas.List.{append-nil}
use Rattle.sw_hashpath.specs.declared.place.Place.{Place}
use Rattle.sw_hashpath.specs.declared.secrets.Secrets.{Secrets}
use Rattle.sw_machine.specs.Honest.{AreHonest}
use Rattle.sw_machine.specs.Machine.{Machine, RunLine, Runs, machine_of}
use Rattle.sw_pass.specs.Rings.{replicas_in}
use Rattle.sw_peer.specs.Sights.{Sight}
use Rattle.sw_point_laws.proofs.Ending.{acknowledged-is-held, held-stays-held, runs-begin-anew}
use Rattle.sw_ring.specs.declared.ring.Ring.{Ring}
use Rattle.sw_cluster.specs.Holding.{HoldsOn, ring_nodes}

module _ (secrets : Secrets) (replicas : Place → List ℕ) where
  abbrev Honest : List RunLine → List RunLine → Type 0
  Honest = AreHonest secrets replicas

  -- both parts of a list that is honest are, the later one behind the first
  honest-parts : (done xs ys : List RunLine) → Honest done (xs ++ ys) → Honest done xs × Honest (done ++ xs) ys
  honest-parts done [] ys are = (tt, subst (λ (before : List RunLine). Honest before ys) (sym (append-nil done)) are)
  honest-parts done (x ∷ xs) ys are =
      let parts = honest-parts (done ++ x ∷ []) xs ys are.1 in
      ((are.0, parts.0), subst (λ (before : List RunLine). Honest before ys) (append_assoc done (x ∷ []) xs) parts.1)

pub holds-on : (ring : Ring) (began : Sight) (lines : List RunLine) (machine : Machine) → Runs (ring_nodes ring) (machine_of began) lines machine
    → AreHonest ring.secrets (replicas_in ring) [] lines → HoldsOn ring began lines machine
holds-on ring began lines machine run honest begun = record {
  again = runs-begin-anew (ring_nodes ring) ring.secrets (replicas_in ring) (machine_of began) lines machine begun run honest;
  stays = λ first more mid parts one two device place row held.
      let whole = subst (λ (ls : List RunLine). AreHonest ring.secrets (replicas_in ring) [] ls) parts honest in
      let both = honest-parts ring.secrets (replicas_in ring) [] first more whole in
      held-stays-held (ring_nodes ring) ring.secrets (replicas_in ring) (machine_of began) first mid more machine begun one both.0 two both.1 device place row
      held;
  acknowledged = acknowledged-is-held (ring_nodes ring) ring.secrets (replicas_in ring) (machine_of began) lines machine begun run honest;
}
