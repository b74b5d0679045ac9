use Rattle.std.proofs.Common.{◌≡◌, ℕ, List}
use Rattle.sw_stores.proofs.InRange.{IsGiving}
use Rattle.sw_stores.proofs.ranges.give_last.Given as goal

abbrev pub invariant-loop-index : goal.invariant-loop-index
invariant-loop-index g l =
    let s = g.S.Stores in
    record {
      giving : IsGiving (s.rests l.initial.stores) (s.rests l.stores) (s.out l.initial.stores) (s.out l.stores)
          l.stripes l.first l.count l.index l.initial.parts l.parts;
      kept : (other : List ℕ) → s.text l.stores other ≡ s.text l.initial.stores other;
      faults : s.faults l.stores ≡ s.faults l.initial.stores;
      calls : s.calls l.stores ≡ s.calls l.initial.stores;
    }
