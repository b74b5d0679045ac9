use Rattle.std.proofs.Common.{◌≡◌, ◌≤◌, List, ◌∷◌, ◌++◌, [], All, sym, ◌∙◌, ap, append_assoc, subst, arith}
use Rattle.std.proofs.lemmas.List.{append-nil}
use Rattle.sw_rows.specs.Left.{shared, shared_left}
use Rattle.sw_rows.specs.Rows.{IsNamedOnce, IsRising, without}
use Rattle.sw_rows.specs.declared.numbered.Numbered.{Numbered}
use Rattle.sw_rows.specs.declared.row.Row.{Row}
use Rattle.sw_rows.proofs.Copying.{All-between, once-before, rising-above, rising-behind}
use Rattle.sw_rows.proofs.Named.{without-none}
use Rattle.sw_rows.proofs.Numbering.{same_listed}
use Rattle.sw_rows.proofs.rows.Rows.of.Goals as goal

pub put-requires-clause-positive : goal.put-requires-clause-positive
put-requires-clause-positive c =
    let n = shared (c.in-Some.rowid, c.in-Some.row) in
    let left = shared_left c.next.new.self in
    let done = c.loop-rowid.rows.list in
    let steps : shared_left c.loop-rowid.rowid-iterator ≡ n ∷ left = c.in-Some.ensures.steps in
    let whole : done ++ n ∷ left ≡ c.args.numbers.now = ap (λ (t : List Numbered). done ++ t) (sym steps) ∙ c.loop-rowid.invariant.list in
    let P : List Numbered → Type 0 = λ x. IsRising 0 x in
    rising-behind 0 done left n (subst P (sym whole) c.shared-rowid-items.ensures.rising)

pub put-requires-clause-above : goal.put-requires-clause-above
put-requires-clause-above c =
    let n = shared (c.in-Some.rowid, c.in-Some.row) in
    let left = shared_left c.next.new.self in
    let done = c.loop-rowid.rows.list in
    let steps : shared_left c.loop-rowid.rowid-iterator ≡ n ∷ left = c.in-Some.ensures.steps in
    let whole : done ++ n ∷ left ≡ c.args.numbers.now = ap (λ (t : List Numbered). done ++ t) (sym steps) ∙ c.loop-rowid.invariant.list in
    let P : List Numbered → Type 0 = λ x. IsRising 0 x in
    rising-above 0 done left n (subst P (sym whole) c.shared-rowid-items.ensures.rising)

pub loop-rowid-preserved : goal.loop-rowid-preserved
loop-rowid-preserved c =
    let n = shared (c.in-Some.rowid, c.in-Some.row) in
    let left = shared_left c.next.new.self in
    let done = c.loop-rowid.rows.list in
    let steps : shared_left c.loop-rowid.rowid-iterator ≡ n ∷ left = c.in-Some.ensures.steps in
    let whole : done ++ n ∷ left ≡ c.args.numbers.now = ap (λ (t : List Numbered). done ++ t) (sym steps) ∙ c.loop-rowid.invariant.list in
    let O : List Numbered → Type 0 = λ x. IsNamedOnce x in
    let T : Numbered → Type 0 = λ m. m.rowid ≤ c.args.top in
    let W : List Numbered → Type 0 = λ x. All T x in
    let none : without n.row.name done ≡ done = without-none n.row.name done (once-before done left n (subst O (sym whole) c.requires.once)) in
    let given : c.in-Some.rowid ≤ c.args.top = All-between T done left n (subst W (sym whole) c.requires.within) in
    let put : c.put.new.self.list ≡ done ++ n ∷ [] =
    c.in_ok-put.ensures.list
    ∙ ap (λ (r : Row). without r.name done ++ record { rowid = c.in-Some.rowid; row = r } ∷ []) c.in_ok-try_clone.ensures
    ∙ ap (λ (t : List Numbered). t ++ n ∷ []) none in
    record {
      list = ap (λ (t : List Numbered). t ++ left) put ∙ append_assoc done (n ∷ []) left ∙ whole;
      top = c.in_ok-put.ensures.top ∙ omega (arith, c.loop-rowid.invariant.top);
    }

pub returns : goal.returns
returns c =
    let none : shared_left c.loop-rowid.rowid-iterator ≡ [] = c.in-None.ensures.steps.0 in
    same_listed c.loop-rowid.rows (record { list = c.args.numbers.now; top = c.args.top })
    (sym (append-nil c.loop-rowid.rows.list) ∙ ap (λ (t : List Numbered). c.loop-rowid.rows.list ++ t) (sym none) ∙ c.loop-rowid.invariant.list)
    c.loop-rowid.invariant.top
