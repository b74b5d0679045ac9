-- What is known of a machine goes on with each honest line, and so with a run.
use Rattle.std.proofs.Common.{◌≡◌, ℕ, List, [], ◌∷◌, ◌++◌, ◌⊎◌, inl, inr, refl, sym, subst}
use Rattle.std.proofs.Common.{append_assoc}
use Rattle.std.proofs.lemmas.List.{append-nil}
use Rattle.std.proofs.lemmas.List.Elements.{Contains-push_cases}
use Rattle.std.specs.List.{Contains}
use Rattle.sw_hashpath.specs.declared.place.Place.{Place}
use Rattle.sw_hashpath.specs.declared.secrets.Secrets.{Secrets}
use Rattle.sw_machine.proofs.Runs.{rows-are-merged}
use Rattle.sw_machine.specs.Honest.{AreHonest, IsHonest}
use Rattle.sw_machine.specs.Machine.{Machine, RunLine, Runs, Steps}
use Rattle.sw_machine.specs.Sides.{TellsAt}
use Rattle.sw_peer.specs.Sights.{Nodes, cont_lock}
use Rattle.sw_shard_laws.proofs.Running.{runs-keep}
use Rattle.sw_shard_laws.specs.Ledger.{Ground, Ledger}
use Rattle.sw_point_laws.proofs.Lines.{LineNext, one}
use Rattle.sw_point_laws.proofs.Going.{Goes, goes-by, goes-nowhere, goes-on}
use Rattle.sw_point_laws.proofs.Saying.{Says, says-still}
use Rattle.sw_point_laws.proofs.Standing.{IsSound}
use Rattle.sw_point_laws.specs.Laws.{ground_of, ledger_of}

module _ (secrets : Secrets) (nodes : Nodes) (replicas : Place → List ℕ) (done : List RunLine) (m : Machine) (sound : IsSound nodes replicas done m)
    (after : Machine) where
  abbrev g : Ground
  g = ground_of replicas

  abbrev l : Ledger
  l = ledger_of m

  -- each lock tells its contents still
  tell-after : (line : RunLine) → Steps nodes m line after → (d : ℕ) (p : Place) → TellsAt (cont_lock nodes) after.containers d p
  tell-after line step d p = ((rows-are-merged nodes m (line ∷ []) after (after, step, refl)).place d p (sound.tell d p)).told

  pub goes-with : (line : RunLine) → Steps nodes m line after → IsHonest secrets replicas done line
      → IsSound nodes replicas (done ++ line ∷ []) after × Goes g l (ledger_of after)
  goes-with line step honest = (
    record {
      tell = tell-after line step;
      ordered = (next.turns).ordered;
      listed = (next.turns).listed;
      points = runs-keep g l (next.turns).lines (ledger_of after) (next.turns).run sound.points;
      say = λ x inside. by x (Contains-push_cases done line x inside);
      comes = next.comes goes;
    },
    goes,
  )
    where
      next : LineNext g m after line
      next = one secrets nodes replicas done m sound after line step honest

      goes : Goes g l (ledger_of after)
      goes = goes-by g l (next.turns).lines (ledger_of after) (next.turns).run sound.points

      by : (x : RunLine) → Contains done x ⊎ (line ≡ x) → Says g (ledger_of after) x
      by x (inl old) = says-still g l (ledger_of after) goes x (sound.say x old)
      by x (inr new) = subst (λ (y : RunLine). Says g (ledger_of after) y) new (next.says goes)

-- ---- a run

pub ends : (secrets : Secrets) (nodes : Nodes) (replicas : Place → List ℕ) (lines done : List RunLine) (m after : Machine) → IsSound nodes replicas done m
    → Runs nodes m lines after → AreHonest secrets replicas done lines
    → IsSound nodes replicas (done ++ lines) after × Goes (ground_of replicas) (ledger_of m) (ledger_of after)
ends secrets nodes replicas [] done m after sound same honest =
    subst (λ (x : Machine). IsSound nodes replicas (done ++ []) x × Goes (ground_of replicas) (ledger_of m) (ledger_of x)) (sym same) (
      subst (λ (lines : List RunLine). IsSound nodes replicas lines m) (sym (append-nil done)) sound,
      goes-nowhere (ground_of replicas) (ledger_of m),
    )
ends secrets nodes replicas (line ∷ lines) done m after sound run honest =
    let one = goes-with secrets nodes replicas done m sound run.0 line run.1 honest.0 in
    let rest = ends secrets nodes replicas lines (done ++ line ∷ []) run.0 after one.0 run.2 honest.1 in (
      subst (λ (xs : List RunLine). IsSound nodes replicas xs after) (append_assoc done (line ∷ []) lines) rest.0,
      goes-on (ground_of replicas) (ledger_of m) (ledger_of run.0) (ledger_of after) one.1 rest.1,
    )
