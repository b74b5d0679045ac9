-- The laws, from what is known at the end of a run.
use Rattle.std.proofs.Common.{◌≡◌, ℕ, List, [], Option, refl, sym, subst, arith}
use Rattle.std.specs.List.{Contains}
use Rattle.sw_container_steps.specs.Entries.{rows_of}
use Rattle.sw_container_steps.specs.declared.cont_change.ContChange.TheVariants.{MergeRows}
use Rattle.sw_hashpath.specs.declared.place.Place.{Place}
use Rattle.sw_hashpath.specs.declared.secrets.Secrets.{Secrets}
use Rattle.sw_keeper.specs.declared.tables.Tables.{Tables}
use Rattle.sw_machine.specs.Honest.{AreHonest}
use Rattle.sw_machine.specs.Machine.{Machine, RunLine, Runs}
use Rattle.sw_machine.specs.Messages.{Message}
use Rattle.sw_peer.specs.Sights.{Nodes}
use Rattle.sw_rows.specs.Rows.{IsListed}
use Rattle.sw_shard_laws.proofs.Running.{begun-sound}
use Rattle.sw_shard_laws.specs.Laws.{begun}
use Rattle.sw_shard_laws.specs.Ledger.{Ledger}
use Rattle.sw_shard_laws.specs.Sound.{PointsHold}
use Rattle.sw_split_steps.proofs.Ordering.{nothing-in-order}
use Rattle.sw_split_steps.specs.Tables.{IsInOrder, tables_of}
use Rattle.sw_point_laws.proofs.Leaving.{nothing-listed}
use Rattle.sw_point_laws.proofs.Running.{ends}
use Rattle.sw_point_laws.proofs.Standing.{IsSound}
use Rattle.sw_point_laws.proofs.Told.{acknowledged-held, taken-made}
use Rattle.sw_point_laws.specs.Laws.{AcknowledgedIsHeld, HeldStaysHeld, IsBegun, PointsHoldOverRuns, RunsBegin, RunsBeginAnew, TakenIsHeld}
use Rattle.sw_point_laws.specs.Laws.{ground_of, ledger_of}

none-among : {X : Type 0} (x : X) → Contains [] x → ⊥
none-among x is = let within = is.1 in absurd (omega (arith, within))

begins : (nodes : Nodes) (replicas : Place → List ℕ) (m : Machine) → IsBegun nodes replicas m → IsSound nodes replicas [] m
begins nodes replicas m start = record {
  tell = start.tell;
  ordered = start.ordered;
  listed = start.listed;
  points = start.points;
  say = λ line inside. absurd (none-among line inside);
  comes = λ message inside. absurd (none-among message (subst (λ (sent : List Message). Contains sent message) start.no_messages inside));
}

at-end : (nodes : Nodes) (secrets : Secrets) (replicas : Place → List ℕ) (m : Machine) (lines : List RunLine) (after : Machine) → IsBegun nodes replicas m
    → Runs nodes m lines after → AreHonest secrets replicas [] lines → IsSound nodes replicas lines after
at-end nodes secrets replicas m lines after start run honest = (ends secrets nodes replicas lines [] m after (begins nodes replicas m start) run honest).0

pub points-hold-over-runs : PointsHoldOverRuns
points-hold-over-runs nodes secrets replicas m lines after start run honest = (at-end nodes secrets replicas m lines after start run honest).points

pub runs-begin-anew : RunsBeginAnew
runs-begin-anew nodes secrets replicas m lines after start run honest =
    let sound = at-end nodes secrets replicas m lines after start run honest in
    record { tell = sound.tell; ordered = sound.ordered; listed = sound.listed; points = sound.points; no_messages = refl }

pub held-stays-held : HeldStaysHeld
held-stays-held nodes secrets replicas m lines mid more after start run honest further still =
    (ends secrets nodes replicas more lines mid after (at-end nodes secrets replicas m lines mid start run honest) further still).1.holds

pub taken-is-held : TakenIsHeld
taken-is-held nodes secrets replicas m lines after start run honest device place rows taken =
    let sound = at-end nodes secrets replicas m lines after start run honest in
    taken-made (ground_of replicas) (ledger_of after) lines sound.say device place (MergeRows rows) taken

pub acknowledged-is-held : AcknowledgedIsHeld
acknowledged-is-held nodes secrets replicas m lines after start run honest device place row acknowledged =
    let sound = at-end nodes secrets replicas m lines after start run honest in
    acknowledged-held secrets replicas (ledger_of after) lines sound.say sound.points device place row acknowledged

pub runs-begin : RunsBegin
runs-begin nodes replicas m empty = record {
  tell = empty.tell;
  ordered = λ device place. subst IsInOrder (sym (empty.nothing device place)) nothing-in-order;
  listed = λ device place. subst (λ (t : Option Tables). IsListed (rows_of t)) (sym (empty.nothing device place)) nothing-listed;
  points = subst (λ (l : Ledger). PointsHold (ground_of replicas) l) is (begun-sound (ground_of replicas));
  no_messages = empty.no_messages;
}
  where
    is : begun ≡ ledger_of m
    is = λ i device place. tables_of (sym (empty.nothing device place) i)
