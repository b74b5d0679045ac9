-- Ranges may be set where honesty asks for it: each shard was created at each of its replicas.
use Rattle.std.proofs.Common.{◌≡◌, ℕ, List, Some, sym, subst}
use Rattle.std.proofs.lemmas.List.Elements.{All-contains}
use Rattle.std.specs.List.{Contains}
use Rattle.std.specs.Option.{IsSome}
use Rattle.sw_container_steps.specs.declared.cont_change.ContChange.TheVariants.{Create}
use Rattle.sw_hashpath.specs.declared.place.Place.{Place}
use Rattle.sw_hashpath.specs.declared.secrets.Secrets.{Secrets}
use Rattle.sw_machine.specs.Honest.{AreMade, WasTaken}
use Rattle.sw_machine.specs.Machine.{RunLine}
use Rattle.sw_shard_laws.proofs.Serving.{tiled-fit}
use Rattle.sw_shard_laws.specs.Changes.{CanSplit}
use Rattle.sw_shard_laws.specs.Ledger.{Ledger, shard_in}
use Rattle.sw_shard_range.specs.declared.range.Range.{Range}
use Rattle.sw_split_steps.specs.Tables.{ways_of}
use Rattle.sw_point_laws.proofs.Ranges.{all-hidden, range-of}
use Rattle.sw_point_laws.proofs.Saying.{AllSay}
use Rattle.sw_point_laws.proofs.Told.{taken-made}
use Rattle.sw_point_laws.specs.Laws.{ground_of}

pub can-split : (secrets : Secrets) (replicas : Place → List ℕ) (l : Ledger) (done : List RunLine) → AllSay (ground_of replicas) l done
    → (place : Place) (ranges : List Range) → AreMade secrets replicas done place ranges → CanSplit (ground_of replicas) l place (ways_of ranges)
can-split secrets replicas l done say place ranges are = record {
  plain = are.plain;
  fit = (tiled-fit ranges are.tiled (all-hidden ranges)).0;
  made = made;
}
  where
    made : (index : ℕ) (shard : Place) (device : ℕ) → shard_in (ways_of ranges) index ≡ Some shard → Contains (replicas shard) device
        → IsSome (l device shard)
    made index shard device is inside =
        let range = range-of ranges index shard is in
        let took : (time : ℕ) × WasTaken done device (range.0).shard (Create time) =
        All-contains (λ (r : Range). (d : ℕ) → Contains (replicas r.shard) d → (time : ℕ) × WasTaken done d r.shard (Create time)) ranges range.0 are.made
        range.1 device (subst (λ (p : Place). Contains (replicas p) device) (sym range.2) inside) in
        subst (λ (p : Place). IsSome (l device p)) range.2
        (taken-made (ground_of replicas) l done say device (range.0).shard (Create took.0) took.1)
