use Rattle.std.proofs.Common.{◌≡◌, ℕ, ◌<◌, ◌∷◌, ◌++◌, [], List, None, Some, All, sym, ◌∙◌, ap, arith, subst}
use Rattle.std.proofs.Common.{Option}
use Rattle.std.specs.Arc.{arc_value}
use Rattle.std.specs.Option.{option_map}
use Rattle.std.specs.declared.alloc.Global.{Global}
use Rattle.std.specs.declared.sync.Arc.{Arc}
use Rattle.sw_rows.specs.declared.row.Row.{Row}
use Rattle.sw_rows.specs.Rows.{find_named, IsListed, Listed, without}
use Rattle.sw_rows.specs.Running.{AreSums}
use Rattle.sw_rows.specs.Sums.{live_count, live_size}
use Rattle.sw_rows.specs.declared.numbered.Numbered.{Numbered}
use Rattle.sw_rows.specs.declared.sums.Sums.{Sums}
use Rattle.sw_rows.proofs.Summing.{bytes-fit, bytes-gone, count-gone, IsWith, IsWithout, listed-put, sums-put_new, sums-put_over}
use Rattle.sw_rows.proofs.rows.Rows.put.Goals as goal
use Rattle.sw_rows.proofs.rows.Rows.put.Goals.{in-Some, in-None}

pub with-with-requires-clause-bytes : goal.with-with-requires-clause-bytes
with-with-requires-clause-bytes c = bytes-fit c.self.inside.sums c.self.inside.index c.self.invariant.1 (omega arith)

pub without-self-inside-requires-clause-count : goal.without-self-inside-requires-clause-count
without-self-inside-requires-clause-count c =
    let found : find_named c.self.inside.index (arc_value c.args.row).name ≡ Some (arc_value c.in-Some.gone) =
    sym c.in_ok-gone.ensures.old ∙ ap (λ (o : Option (Arc Row Global)). option_map arc_value o) c.in-Some.is in
    omega (
      arith,
      count-gone c.self.inside.sums c.self.inside.index (arc_value c.args.row).name (arc_value c.in-Some.gone) c.self.invariant.1 c.self.invariant.0.once found,
      ap live_count c.deref.ensures,
      ap live_count c.deref-in-Some.ensures,
      c.with-with.ensures.count,
    )

pub without-self-inside-requires-clause-bytes : goal.without-self-inside-requires-clause-bytes
without-self-inside-requires-clause-bytes c =
    let found : find_named c.self.inside.index (arc_value c.args.row).name ≡ Some (arc_value c.in-Some.gone) =
    sym c.in_ok-gone.ensures.old ∙ ap (λ (o : Option (Arc Row Global)). option_map arc_value o) c.in-Some.is in
    omega (
      arith,
      bytes-gone c.self.inside.sums c.self.inside.index (arc_value c.args.row).name (arc_value c.in-Some.gone) c.self.invariant.1 c.self.invariant.0.once found,
      ap live_size c.deref.ensures,
      ap live_size c.deref-in-Some.ensures,
      c.with-with.ensures.bytes,
    )

sums_are : (new sums : Sums) (all list : List Numbered) → new ≡ sums → all ≡ list → AreSums sums list → AreSums new all
sums_are new sums all list is same are = rw (is, same) are

pub invariant_of-self-2 : goal.invariant_of-self-2
invariant_of-self-2 c =
    let index = c.self.inside.index in
    let n : Numbered = record { rowid = c.args.rowid; row = arc_value c.args.row } in
    let top : ℕ = c.max-self-inside.result in
    let old : Listed = record { list = index; top = c.self.inside.top } in
    let B : List Numbered → Type 0 = λ x. All (λ m. m.rowid < c.args.rowid) x in
    let above : All (λ m. m.rowid < c.args.rowid) index = subst B (sym (ap (λ (l : Listed). l.list) c.self.view_is)) c.requires.above in
    let P : List Numbered → Type 0 = λ x. IsListed (record { list = x; top = top }) in
    let more : IsWith c.self.inside.sums c.with-with.result (arc_value c.args.row) = record {
      count = rw c.deref.ensures at c.with-with.ensures.count;
      bytes = rw c.deref.ensures at c.with-with.ensures.bytes;
      hash = rw c.deref.ensures at c.with-with.ensures.hash;
    } in (
      subst P (sym c.in_ok-gone.ensures.rows) (listed-put old n top c.self.invariant.0 c.requires.positive above (omega (arith, c.max-self-inside.ensures))
          (omega (arith, c.max-self-inside.ensures))),
      elim c.match-branch-2.branch [
        | in-Some w ↦
            (let found : find_named index n.row.name ≡ Some (arc_value w.in-Some.gone) =
            sym c.in_ok-gone.ensures.old ∙ ap (λ (o : Option (Arc Row Global)). option_map arc_value o) w.in-Some.is in
            let less : IsWithout c.with-with.result w.without-self-inside.result (arc_value w.in-Some.gone) = record {
              count = rw w.deref-in-Some.ensures at w.without-self-inside.ensures.count;
              bytes = rw w.deref-in-Some.ensures at w.without-self-inside.ensures.bytes;
              hash = rw w.deref-in-Some.ensures at w.without-self-inside.ensures.hash;
            } in
            sums_are c.match-branch-2.self w.without-self-inside.result c.put.new.self (without n.row.name index ++ n ∷ []) w.self-is c.in_ok-gone.ensures.rows
            (sums-put_over c.self.inside.sums c.with-with.result w.without-self-inside.result index n (arc_value w.in-Some.gone) c.self.invariant.1
            c.self.invariant.0.once found more less
            (rw c.deref.ensures at c.with-with.ensures.small)))
        | in-None w ↦
            (let none : find_named index n.row.name ≡ None =
            sym c.in_ok-gone.ensures.old ∙ ap (λ (o : Option (Arc Row Global)). option_map arc_value o) w.in-None.is in
            sums_are c.match-branch-2.self c.with-with.result c.put.new.self (without n.row.name index ++ n ∷ []) w.self-is c.in_ok-gone.ensures.rows
            (sums-put_new c.self.inside.sums c.with-with.result index n c.self.invariant.1 none more (rw c.deref.ensures at c.with-with.ensures.small)))
      ],
    )
