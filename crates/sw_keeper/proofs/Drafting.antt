-- A draft with a change more.
use Rattle.std.proofs.Common.{◌≡◌, ℕ, ◌<◌, ◌≤◌, not, true, List, [], ◌∷◌, ◌++◌, None, All, refl, sym, ◌∙◌, ap, append_assoc, arith}
use Rattle.std.proofs.lemmas.List.Elements.{All-filter, All-tail, All-weaker}
use Rattle.std.proofs.lemmas.List.Sums.{fold-append}
use Rattle.sw_rows.specs.Exchanging.{but_all, exchanged}
use Rattle.sw_rows.specs.Index.{but}
use Rattle.sw_rows.specs.Rows.{find_named, is_numbered, IsListed, IsRising, Listed, no_rows, with_numbered, without_numbered}
use Rattle.sw_keeper.specs.Drafts.{spared_of}
use Rattle.sw_rows.specs.declared.numbered.Numbered.{Numbered}
use Rattle.sw_rows.specs.declared.row.Row.{Row}
use Rattle.sw_rows.proofs.Exchanging.{but-append, but-behind, find-below}
use Rattle.sw_rows.proofs.Latest.{but-below}
use Rattle.sw_rows.proofs.Merging.{rising-below}
use Rattle.sw_rows.proofs.Numbering.{listed-with_numbered, listed-without_numbered}

abbrev numbered : Row → ℕ → Numbered
numbered row rowid = record { rowid = rowid; row = row }

abbrev listed : List Numbered → ℕ → Listed
listed list top = record { list = list; top = top }

all-right : (P : Numbered → Type 0) (xs ys : List Numbered) → All P (xs ++ ys) → All P ys
all-right P [] ys all = all
all-right P (x ∷ xs) ys all = all-right P xs ys (All-tail P x (xs ++ ys) all)

within-but_all : (P : Numbered → Type 0) (list : List Numbered) (numbers : List ℕ) → All P list → All P (but_all list numbers)
within-but_all P list [] all = all
within-but_all P list (rowid ∷ numbers) all = within-but_all P (but list rowid) numbers (All-filter (λ n. not (is_numbered rowid n)) P list all)

-- ---- a row that comes

pub draft-put : (l : Listed) (numbers : List ℕ) (rows : List Numbered) (top : ℕ) (row : Row) (rowid : ℕ)
    → exchanged l numbers (rows ++ record { rowid = rowid; row = row } ∷ []) rowid ≡ with_numbered (exchanged l numbers rows top) row rowid
draft-put l numbers rows top row rowid = ap (λ (x : List Numbered). listed x rowid) (sym (append_assoc (but_all l.list numbers) rows (numbered row rowid ∷ [])))

pub put-listed : (l : Listed) (numbers : List ℕ) (rows : List Numbered) (top : ℕ) (row : Row) (rowid : ℕ) → IsListed (exchanged l numbers rows top) →
    top < rowid
    → find_named (exchanged l numbers rows top).list row.name ≡ None → IsListed (exchanged l numbers (rows ++ record { rowid = rowid; row = row } ∷ []) rowid)
put-listed l numbers rows top row rowid is above none =
    rw (draft-put l numbers rows top row rowid) (listed-with_numbered (exchanged l numbers rows top) row rowid is above none)

pub put-rising : (l : Listed) (numbers : List ℕ) (rows : List Numbered) (top : ℕ) (row : Row) (rowid : ℕ) → IsListed (exchanged l numbers rows top) →
    l.top ≤ top
    → top < rowid → IsRising l.top rows → IsRising l.top (rows ++ record { rowid = rowid; row = row } ∷ [])
put-rising l numbers rows top row rowid is le above rising =
    let W : Numbered → Type 0 = λ n. n.rowid ≤ top in
    let B : Numbered → Type 0 = λ n. n.rowid < rowid in
    rising-below l.top rows (numbered row rowid) (omega arith) rising
    (All-weaker W B (λ n h. let b : n.rowid ≤ top = h in omega arith) rows (all-right W (but_all l.list numbers) rows is.within))

-- ---- a row of the draft that goes

pub draft-cut_new : (l : Listed) (numbers : List ℕ) (rows : List Numbered) (top rowid : ℕ) → IsListed l → l.top < rowid
    → exchanged l numbers (but rows rowid) top ≡ without_numbered (exchanged l numbers rows top) rowid
draft-cut_new l numbers rows top rowid is above =
    let W : Numbered → Type 0 = λ n. n.rowid ≤ l.top in
    let B : Numbered → Type 0 = λ n. n.rowid < rowid in
    let below : All B (but_all l.list numbers) =
    within-but_all B l.list numbers (All-weaker W B (λ n h. let b : n.rowid ≤ l.top = h in omega arith) l.list is.within) in
    ap (λ (x : List Numbered). listed x top) (sym (but-append (but_all l.list numbers) rows rowid
    ∙ ap (λ (x : List Numbered). x ++ but rows rowid) (but-below rowid (but_all l.list numbers) below)))

-- ---- a row of the tables that goes

pub draft-cut_old : (l : Listed) (numbers : List ℕ) (rows : List Numbered) (top rowid : ℕ) → rowid ≤ l.top → IsRising l.top rows
    → exchanged l (numbers ++ rowid ∷ []) rows top ≡ without_numbered (exchanged l numbers rows top) rowid
draft-cut_old l numbers rows top rowid le rising =
    ap (λ (x : List Numbered). listed x top) (ap (λ (x : List Numbered). x ++ rows) (fold-append but l.list numbers (rowid ∷ []))
    ∙ sym (but-behind (but_all l.list numbers) rows rowid (find-below rowid l.top rows le rising)))

pub cut-listed : (l new : Listed) (rowid : ℕ) → IsListed l → new ≡ without_numbered l rowid → IsListed new
cut-listed l new rowid is same = rw same (listed-without_numbered l rowid is)

-- ---- all rows that were there go

pub rising-from : (low high : ℕ) (ns : List Numbered) → low ≤ high → IsRising high ns → IsRising low ns
rising-from low high [] le rising = tt
rising-from low high (n ∷ ns) le rising = (omega (arith, le, rising.0), rising.1)

none-left : (numbers : List ℕ) → but_all [] numbers ≡ []
none-left [] = refl
none-left (rowid ∷ numbers) = none-left numbers

pub cleared : (l : Listed) (numbers : List ℕ) (rows : List Numbered) (top : ℕ)
    → exchanged (spared_of true l) numbers rows top ≡ exchanged no_rows [] rows top
cleared l numbers rows top = ap (λ (x : List Numbered). listed (x ++ rows) top) (none-left numbers)
