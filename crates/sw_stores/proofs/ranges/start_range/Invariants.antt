use Rattle.std.proofs.Common.{◌≡◌, ◌≤◌, ℕ, List, length, vec_capacity}
use Rattle.std.specs.Prelude.{zip}
use Rattle.sw_stores.proofs.InRange.{IsBegun}
use Rattle.sw_volume.specs.Volume.{raised_by}
use Rattle.sw_stores.proofs.ranges.start_range.Given as goal

abbrev pub invariant-loop-index : goal.invariant-loop-index
invariant-loop-index g l =
    let s = g.S.Stores in
    record {
      begun : IsBegun s.first (s.rests l.initial.stores) (s.rests l.stores) (s.out l.initial.stores) (s.out l.stores) l.stripes l.first l.index
          (zip l.volumes.items l.keepers.items);
      same : length l.volumes.items ≡ length l.keepers.items;
      each : length l.volumes.items ≡ l.index;
      room : l.count ≤ vec_capacity l.volumes;
      beside : l.count ≤ vec_capacity l.keepers;
      kept : (other : List ℕ) → s.text l.stores other ≡ s.text l.initial.stores other;
      faults : s.faults l.stores ≡ s.faults l.initial.stores;
      calls : s.calls l.stores ≡ raised_by l.index (s.calls l.initial.stores);
    }
