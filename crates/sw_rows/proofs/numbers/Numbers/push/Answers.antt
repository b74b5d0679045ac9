use Rattle.std.proofs.Common.{◌≡◌, ℕ, ◌<◌, ◌∷◌, ◌++◌, [], List, All, sym, ◌∙◌, ap, subst}
use Rattle.std.specs.Arc.{arc_value}
use Rattle.sw_rows.specs.Index.{rows_of}
use Rattle.sw_rows.specs.declared.numbered.Numbered.{Numbered}
use Rattle.sw_rows.proofs.Entries.{insert-above, rows-push}
use Rattle.sw_rows.proofs.Merging.{rising-below}
use Rattle.sw_rows.proofs.numbers.Numbers.push.Goals as goal

above_all : (old all : List Numbered) (rowid : ℕ) → old ≡ all → All (λ n. n.rowid < rowid) all → All (λ n. n.rowid < rowid) old
above_all old all rowid is above = let P : List Numbered → Type 0 = λ x. All (λ n. n.rowid < rowid) x in subst P (sym is) above

pub invariant_of-self-2 : goal.invariant_of-self-2
invariant_of-self-2 c =
    let es = c.self.inside.rows.entries in
    let n : Numbered = record { rowid = c.args.rowid; row = arc_value c.args.row } in
    let above = above_all (rows_of es) c.args.self.now c.args.rowid c.self.view_is c.requires.above in
    let all : rows_of c.insert.new.self.entries ≡ rows_of es ++ n ∷ [] =
    ap rows_of (c.in_ok-insert.ensures.entries ∙ insert-above es c.args.rowid c.args.row above) ∙ rows-push es c.args.rowid c.args.row in
    rw all (rising-below 0 (rows_of es) n c.requires.positive c.self.invariant above)

pub returns-clause-rows : goal.returns-clause-rows
returns-clause-rows c =
    let es = c.self.inside.rows.entries in
    let n : Numbered = record { rowid = c.args.rowid; row = arc_value c.args.row } in
    let above = above_all (rows_of es) c.args.self.now c.args.rowid c.self.view_is c.requires.above in
    ap rows_of (c.in_ok-insert.ensures.entries ∙ insert-above es c.args.rowid c.args.row above) ∙ rows-push es c.args.rowid c.args.row
    ∙ ap (λ (l : List Numbered). l ++ n ∷ []) c.self.view_is
