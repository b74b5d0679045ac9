-- A range may be closed where honesty asks for it: all devices of its shard are among those that are named.
use Rattle.std.proofs.Common.{◌≡◌, ℕ, List, Some, sym, ◌∙◌, ap, subst}
use Rattle.std.specs.List.{Contains}
use Rattle.sw_hashpath.specs.declared.place.Place.{Place}
use Rattle.sw_hashpath.specs.declared.secrets.Secrets.{Secrets}
use Rattle.sw_machine.specs.Honest.{AreAllOf}
use Rattle.sw_machine.specs.Machine.{RunLine}
use Rattle.sw_shard_laws.specs.Changes.{AreAll}
use Rattle.sw_shard_laws.specs.Ledger.{Ledger, Way, shard_in, table_at}
use Rattle.sw_split_steps.specs.Tables.{ways_of}
use Rattle.sw_point_laws.proofs.Acking.{ways-told}
use Rattle.sw_point_laws.proofs.Saying.{AllSay}
use Rattle.sw_point_laws.specs.Laws.{ground_of}

pub are-all : (secrets : Secrets) (replicas : Place → List ℕ) (l : Ledger) (done : List RunLine) → AllSay (ground_of replicas) l done
    → (device : ℕ) (place : Place) (index : ℕ) (devices : List ℕ) → AreAllOf secrets replicas done device place index devices
    → index ≡ (table_at l device place).cursor → AreAll (ground_of replicas) (table_at l device place) devices
are-all secrets replicas l done say device place index devices are at ways shard split is other inside =
    are.all other (subst (λ (p : Place). Contains (replicas p) other) same inside)
  where
    told : ((table_at l device place).ways ≡ Some (ways_of (are.told).ranges)) × (shard_in (ways_of (are.told).ranges) index ≡ Some (are.range).shard)
    told = ways-told (ground_of replicas) l done say device place are.sharding index are.range are.told

    same : shard ≡ (are.range).shard
    same =
        let whole : Some ways ≡ Some (ways_of (are.told).ranges) = sym split ∙ told.0 in
        let ways_are : ways ≡ ways_of (are.told).ranges = cc in
        let both : Some shard ≡ Some (are.range).shard =
        sym is ∙ (ap (λ (ws : List Way). shard_in ws (table_at l device place).cursor) ways_are
        ∙ (ap (λ (i : ℕ). shard_in (ways_of (are.told).ranges) i) (sym at) ∙ told.1)) in
        cc
