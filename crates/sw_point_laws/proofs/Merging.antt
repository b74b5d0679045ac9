-- Rows that a container took are held there.
use Rattle.std.proofs.Common.{◌≡◌, ℕ, Bool, true, false, cond, List, [], ◌∷◌, unwrap_or, Option, None, Some}
use Rattle.std.proofs.Common.{refl, sym, ◌∙◌, ap, subst}
use Rattle.std.proofs.lemmas.List.Elements.{All-contains, All-contains_itself, All-cons, All-nil, All-weaker}
use Rattle.std.specs.List.{All, Contains, fold}
use Rattle.std.specs.Option.{option_map, option_or}
use Rattle.sw_container_steps.proofs.Leaving.{rows-are-merged}
use Rattle.sw_container_steps.specs.Entries.{rows_of}
use Rattle.sw_container_steps.specs.Laws.{left}
use Rattle.sw_container_steps.specs.Presence.{is_present}
use Rattle.sw_container_steps.specs.Serving.{served}
use Rattle.sw_container_steps.specs.Steps.{cont_refusal, creator, entries_for, is_a_row, redirection}
use Rattle.sw_container_steps.specs.declared.cont_answer.ContAnswer.TheVariants as answers
use Rattle.sw_container_steps.specs.declared.cont_change.ContChange.TheVariants.{MergeRow, MergeRows}
use Rattle.sw_hashpath.specs.declared.place.Place.{Place}
use Rattle.sw_keeper.specs.declared.tables.Tables.{Tables}
use Rattle.sw_rows.specs.Rows.{Listed, merged}
use Rattle.sw_rows.specs.declared.row.Row.{Row}
use Rattle.sw_shard_laws.proofs.Rows.{has-merged, merged-has}
use Rattle.sw_shard_laws.specs.Ledger.{Ground, Has, Holds, Ledger, Table, Way, fresh, served as served_at, served_in, table_at}
use Rattle.sw_shard_range.specs.declared.range.Range.{Range}
use Rattle.sw_split_steps.proofs.Refusing.{AreOwn, redirection-own, unsplit-own}
use Rattle.sw_split_steps.proofs.Ways.{served-agrees, served-same}
use Rattle.sw_split_steps.specs.Tables.{IsInOrder, standing, tables_of, ways_of}
use Rattle.sw_point_laws.proofs.Holding.{has-holds}
use Rattle.sw_point_laws.proofs.Leaving.{all-alike, rows-plain, rows-standing}

-- ---- rows that were merged are had

has-fold : (l : Listed) (rows : List Row) (row : Row) → Has l row → Has (fold merged l rows) row
has-fold l [] row has = has
has-fold l (first ∷ rows) row has = has-fold (merged l first) rows row (has-merged l first row has)

fold-has : (l : Listed) (rows : List Row) → All (Has (fold merged l rows)) rows
fold-has l [] = All-nil (Has l)
fold-has l (row ∷ rows) =
    All-cons (Has (fold merged (merged l row) rows)) row rows (has-fold (merged l row) rows row (merged-has l row)) (fold-has (merged l row) rows)

-- ---- a row that is taken is the container's own

abbrev IsOwn : Option Tables → Row → Type 0
IsOwn t row = served_at (standing t) row.name ≡ None

own-all : (o : Option (List Range)) (cursor : ℕ) (rows : List Row) → AreOwn o cursor rows
    → All (λ row. served_in (option_map ways_of o) cursor row.name ≡ None) rows
own-all o cursor [] own = All-nil (λ (row : Row). served_in (option_map ways_of o) cursor row.name ≡ None)
own-all o cursor (row ∷ rows) own =
    All-cons (λ (row : Row). served_in (option_map ways_of o) cursor row.name ≡ None) row rows (sym (served-same o cursor row.name) ∙ own.0)
    (own-all o cursor rows own.1)

taken-own : (t : Option Tables) (place : Place) (rows : List Row) → IsInOrder t → cont_refusal t place (MergeRows rows) ≡ None → All (IsOwn t) rows
taken-own t place rows order allowed = by (is_present t) refl allowed
  where
    there : (t : Option Tables) → is_present t ≡ true → redirection t rows ≡ None → All (IsOwn t) rows
    there None is none = cc
    there (Some t) is none = own-all t.ranges t.cursor rows (redirection-own t rows none)

    absent : (t : Option Tables) → IsInOrder t → is_present t ≡ false → All (IsOwn t) rows
    absent None order is = All-weaker (Contains rows) (IsOwn None) (λ row inside. refl) rows (All-contains_itself rows)
    absent (Some t) order is = own-all t.ranges t.cursor rows (unsplit-own t.ranges t.cursor rows (order.whole is))

    by : (b : Bool) → is_present t ≡ b → cond b (redirection t rows) (cond (is_a_row (creator t place rows)) None (Some answers.Absent)) ≡ None
        → All (IsOwn t) rows
    by true is none = there t is none
    by false is none = absent t order is

-- ---- so it is held

module _ (g : Ground) (l : Ledger) (device : ℕ) (place : Place) (t : Option Tables) (rows : List Row) (order : IsInOrder t)
    (allowed : cont_refusal t place (MergeRows rows) ≡ None) (here : l device place ≡ tables_of (left t place (MergeRows rows))) where
  abbrev after : Option Tables
  after = left t place (MergeRows rows)

  own : (row : Row) → IsOwn t row → IsOwn after row
  own row is =
      let alike = all-alike t (entries_for t place (MergeRows rows)) (rows-plain t place rows) in
      ap (λ (w : Option (List Way)). served_in w (standing after).cursor row.name) alike.0
      ∙ (ap (λ (c : ℕ). served_in (standing t).ways c row.name) alike.1 ∙ is)

  rows-are : (standing after).rows ≡ fold merged (rows_of t) rows
  rows-are = rows-standing after ∙ (rows-are-merged t place rows allowed).1

  pub taken-held : All (Holds g l device place) rows
  taken-held = All-weaker (Contains rows) (Holds g l device place) holds rows (All-contains_itself rows)
    where
      holds : (row : Row) → Contains rows row → Holds g l device place row
      holds row inside =
          let same : standing after ≡ table_at l device place = sym (ap (λ (o : Option Table). unwrap_or o fresh) here) in
          has-holds g l device place row
          (subst (λ (x : Table). served_at x row.name ≡ None) same (own row (All-contains (IsOwn t) rows row (taken-own t place rows order allowed) inside)))
          (subst (λ (x : Table). Has x.rows row) same
          (subst (λ (x : Listed). Has x row) (sym rows-are)
          (All-contains (Has (fold merged (rows_of t) rows)) rows row (fold-has (rows_of t) rows) inside)))

-- ---- a row that is sent on

-- where a container answers that the name of a row is left to a shard, it is
pub redirected-left : (t : Option Tables) (place : Place) (row : Row) (shard : Place)
    → cont_refusal t place (MergeRow row) ≡ Some (answers.Redirect shard) → served_at (standing t) row.name ≡ Some shard
redirected-left t place row shard refused = by (is_present t) (is_a_row (creator t place (row ∷ []))) refused
  where
    first : (o : Option Place) → option_map answers.Redirect (option_or o None) ≡ Some (answers.Redirect shard) → o ≡ Some shard
    first None is = cc
    first (Some other) is = cc

    there : (t : Option Tables) → redirection t (row ∷ []) ≡ Some (answers.Redirect shard) → served_at (standing t) row.name ≡ Some shard
    there None is = cc
    there (Some t) is = sym (served-agrees t row.name) ∙ first (served t row.name) is

    by : (b c : Bool) → cond b (redirection t (row ∷ [])) (cond c None (Some answers.Absent)) ≡ Some (answers.Redirect shard)
        → served_at (standing t) row.name ≡ Some shard
    by true c is = there t is
    by false true is = cc
    by false false is = cc
