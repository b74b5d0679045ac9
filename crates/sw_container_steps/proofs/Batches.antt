-- The batch of entries makes them, and a keeper takes it.
use Rattle.std.proofs.Common.{◌≡◌, ℕ, ◌+◌, ◌-◌, ◌^◌, ◌<◌, ◌≤◌, Bool, true, false, cond, nat_lt, not, List}
use Rattle.std.proofs.Common.{[], ◌∷◌, ◌++◌, length, drop, get_or, Option, None, Some}
use Rattle.std.proofs.Common.{refl, sym, ◌∙◌, ap, subst, append_assoc, arith}
use Rattle.std.specs.Bool.{⊤}
use Rattle.std.specs.List.{filter, find}
use Rattle.std.specs.Option.{IsSome, option_map}
use Rattle.std.proofs.lemmas.Bool.{ne_eqb, eq-eqb}
use Rattle.std.proofs.Math.ListN.{drop_of_length-le}
use Rattle.std.proofs.lemmas.List.{append-nil}
use Rattle.std.proofs.lemmas.List.Sums.{fold-append, sum_by-cons}
use Rattle.sw_keeper.specs.Changes.{CanChange, IsBatch, all_changed, changed}
use Rattle.sw_keeper.specs.declared.batch.Change.{Change}
use Rattle.sw_keeper.specs.declared.batch.Change.TheVariants.{PutRow, SetRanges, SetCursor, SetPoint, Empty}
use Rattle.sw_rows.specs.Rows.{find_named, fits, is_named, is_numbered, IsListed, IsNamedOnce, IsRising, merged, no_rows, no_rows_at, with_row, without}
use Rattle.sw_rows.specs.declared.numbered.Numbered.{Numbered}
use Rattle.sw_rows.specs.declared.row.Row.{Row}
use Rattle.sw_keeper.specs.declared.tables.Tables.{Tables}
use Rattle.sw_rows.proofs.Merging.{listed-with_row}
use Rattle.sw_rows.proofs.Named.{find-without, same_name, without-none}
use Rattle.sw_shard_range.specs.States.{all_in_state, with_state}
use Rattle.sw_shard_range.specs.declared.range.Range.{Range}
use Rattle.sw_sync.specs.Points.{PointList, is_above, point_at, with_point}
use Rattle.sw_container_steps.specs.Batches.{acking_changes, batch_for, changes_of, closing_changes, cut, emptying_changes, ranging_changes, replacement}
use Rattle.sw_container_steps.specs.Batches.{row_changes}
use Rattle.sw_container_steps.specs.Entries.{all_entered, closed, emptied, entered, is_merge, ranged, row_count, rows_in, rows_of, top_of}
use Rattle.sw_container_steps.specs.declared.cont_entry.ContEntry.{ContEntry}
use Rattle.sw_container_steps.specs.declared.cont_entry.ContEntry.TheVariants.{Created, Removed, Merged, Ranged, Acked, Closed, Emptied, Synced}
use Rattle.sw_container_steps.proofs.Over.{merged-top, step-at}

-- ---- the row of a name is the row of its number

none-numbered : (rowid low : ℕ) (ns : List Numbered) → rowid ≤ low → IsRising low ns → filter (λ n. not (is_numbered rowid n)) ns ≡ ns
none-numbered rowid low [] le rising = refl
none-numbered rowid low (n ∷ ns) le rising =
    let apart : is_numbered rowid n ≡ false = ne_eqb n.rowid rowid (λ same. absurd (omega (arith, rising.0))) in
    rw apart (ap (λ (t : List Numbered). n ∷ t) (none-numbered rowid n.rowid ns (omega (arith, rising.0)) rising.1))

-- what is found has a number above the lower bound
found-above : (name : List ℕ) (low : ℕ) (ns : List Numbered) (n : Numbered) → IsRising low ns → find (is_named name) ns ≡ Some n → low < n.rowid
found-above name low [] n rising found = cc
found-above name low (m ∷ ms) n rising found = at (is_named name m) found (λ again. found-above name m.rowid ms n rising.1 again)
  where
    at : (b : Bool) → cond b (Some m) (find (is_named name) ms) ≡ Some n → (find (is_named name) ms ≡ Some n → m.rowid < n.rowid) → low < n.rowid
    at true found again =
        let same : m ≡ n = cc in
        subst (λ (x : Numbered). low < x.rowid) same rising.0
    at false found again = let above : m.rowid < n.rowid = again found in omega (arith, rising.0)

cut-is-without : (name : List ℕ) (low : ℕ) (ns : List Numbered) (n : Numbered) → IsRising low ns → IsNamedOnce ns → find (is_named name) ns ≡ Some n
    → filter (λ m. not (is_numbered n.rowid m)) ns ≡ without name ns
cut-is-without name low [] n rising once found = cc
cut-is-without name low (m ∷ ms) n rising once found = at (is_named name m) refl found (λ again. cut-is-without name m.rowid ms n rising.1 once.1 again)
  where
    at : (b : Bool) → is_named name m ≡ b → cond b (Some m) (find (is_named name) ms) ≡ Some n
        → (find (is_named name) ms ≡ Some n → filter (λ x. not (is_numbered n.rowid x)) ms ≡ without name ms)
        → cond (not (is_numbered n.rowid m)) (m ∷ filter (λ x. not (is_numbered n.rowid x)) ms) (filter (λ x. not (is_numbered n.rowid x)) ms)
        ≡ cond (not b) (m ∷ without name ms) (without name ms)
    at true is found again =
        let same : m ≡ n = cc in
        let numbers : m.rowid ≡ n.rowid = ap (λ (x : Numbered). x.rowid) same in
        let here : is_numbered n.rowid m ≡ true = eq-eqb m.rowid n.rowid numbers in
        let gone : find (is_named name) ms ≡ None = subst (λ (x : List ℕ). find (is_named x) ms ≡ None) (same_name m.row.name name is) once.0 in
        rw here (none-numbered n.rowid m.rowid ms (omega (arith, numbers)) rising.1 ∙ sym (without-none name ms gone))
    at false is found again =
        let above : m.rowid < n.rowid = found-above name m.rowid ms n rising.1 found in
        let apart : is_numbered n.rowid m ≡ false = ne_eqb m.rowid n.rowid (λ same. absurd (omega (arith, above))) in
        rw apart (ap (λ (t : List Numbered). m ∷ t) (again found))

-- what is found by its name is found by its number
found-numbered : (name : List ℕ) (ns : List Numbered) (n : Numbered) → find (is_named name) ns ≡ Some n → IsSome (find (is_numbered n.rowid) ns)
found-numbered name [] n found = cc
found-numbered name (m ∷ ms) n found = at (is_named name m) (is_numbered n.rowid m) refl found (λ again. found-numbered name ms n again)
  where
    at : (b d : Bool) → is_numbered n.rowid m ≡ d → cond b (Some m) (find (is_named name) ms) ≡ Some n
        → (find (is_named name) ms ≡ Some n → IsSome (find (is_numbered n.rowid) ms))
        → IsSome (cond d (Some m) (find (is_numbered n.rowid) ms))
    at b true number found again = refl
    at true false number found again =
        let same : m ≡ n = cc in
        let here : is_numbered n.rowid m ≡ true = eq-eqb m.rowid n.rowid (ap (λ (x : Numbered). x.rowid) same) in
        absurd (clash (sym number ∙ here))
      where
        clash : false ≡ true → ⊥
        clash same = cc
    at false false number found again = again found

-- ---- changes that may be made one after the other

abbrev pub CanAll : Option Tables → List Change → Type 0
CanAll t [] = ⊤
CanAll t (change ∷ changes) = CanChange t change × CanAll (changed t change) changes

can-append : (t : Option Tables) (xs ys : List Change) → CanAll t xs → CanAll (all_changed t xs) ys → CanAll t (xs ++ ys)
can-append t [] ys can more = more
can-append t (x ∷ xs) ys can more = (can.0, can-append (changed t x) xs ys can.1 more)

can-batch : (t : Option Tables) (xs : List Change) → CanAll t xs → IsSome (all_changed t xs) → IsBatch t xs
can-batch t [] can some = some
can-batch t (x ∷ xs) can some = (can.0, can-batch (changed t x) xs can.1 some)

-- changes make this of tables, and may be made
abbrev Makes : Option Tables → List Change → Option Tables → Type 0
Makes t changes after = (all_changed t changes ≡ after) × CanAll t changes

replacement-makes : (t : Tables) (row : Row) → IsListed t.rows → Makes (Some t) (replacement t.rows row) (Some (record t { rows = with_row t.rows row }))
replacement-makes t row is = at (find (is_named row.name) t.rows.list) refl
  where
    list_is : (ns : List Numbered) → ns ≡ without row.name t.rows.list
        → Some (record t { rows = record { list = ns ++ record { rowid = t.rows.top + 1; row = row } ∷ []; top = t.rows.top + 1 } }) ≡ Some
        (record t { rows = with_row t.rows row })
    list_is ns same = ap (λ (xs : List Numbered). Some (record t {
      rows = record { list = xs ++ record { rowid = t.rows.top + 1; row = row } ∷ []; top = t.rows.top + 1 };
    })) same

    nothing : (ns : List Numbered) → find (is_named row.name) ns ≡ None → find_named ns row.name ≡ None
    nothing ns none = ap (λ (o : Option Numbered). option_map (λ n. n.row) o) none

    at : (o : Option Numbered) → find (is_named row.name) t.rows.list ≡ o
        → Makes (Some t) (cut o ++ PutRow row (t.rows.top + 1) ∷ []) (Some (record t { rows = with_row t.rows row }))
    at None found = (list_is t.rows.list (sym (without-none row.name t.rows.list found)), ((omega arith, nothing t.rows.list found), tt))
    at (Some n) found =
        let same : filter (λ m. not (is_numbered n.rowid m)) t.rows.list ≡ without row.name t.rows.list =
        cut-is-without row.name 0 t.rows.list n is.rising is.once found in
        let gone : find (is_named row.name) (filter (λ m. not (is_numbered n.rowid m)) t.rows.list) ≡ None =
        ap (λ (xs : List Numbered). find (is_named row.name) xs) same ∙ find-without row.name t.rows.list in (
          list_is (filter (λ m. not (is_numbered n.rowid m)) t.rows.list) same,
          (found-numbered row.name t.rows.list n found, ((omega arith, nothing (filter (λ m. not (is_numbered n.rowid m)) t.rows.list) gone), tt)),
        )

row-makes : (t : Tables) (row : Row) → IsListed t.rows → Makes (Some t) (row_changes t.rows row) (Some (record t { rows = merged t.rows row }))
row-makes t row is = at (fits (find_named t.rows.list row.name) row)
  where
    at : (b : Bool) → Makes (Some t) (cond b (replacement t.rows row) []) (Some (record t { rows = cond b (with_row t.rows row) t.rows }))
    at true = replacement-makes t row is
    at false = (refl, tt)

ranging-makes : (t : Tables) (ranges : List Range) (o : Option (List Range)) → Makes (Some t) (ranging_changes o ranges) (Some (ranged t o ranges))
ranging-makes t ranges None = (refl, (tt, (tt, tt)))
ranging-makes t ranges (Some old) = (refl, tt)

acking-makes : (t : Tables) (range device rowid : ℕ) (b : Bool)
    → Makes (Some t) (cond b (SetPoint range device rowid ∷ []) [])
    (Some (record t { points = cond b (with_point t.points range device rowid) t.points }))
acking-makes t range device rowid true = (refl, (tt, tt))
acking-makes t range device rowid false = (refl, tt)

closing-makes : (t : Tables) (o : Option (List Range)) → Makes (Some t) (closing_changes o t.cursor) (Some (closed t o))
closing-makes t None = (refl, tt)
closing-makes t (Some ranges) = by (nat_lt t.cursor (length ranges))
  where
    by : (b : Bool) → Makes (Some t) (cond b (SetRanges (with_state 30 t.cursor ranges) ∷ SetCursor (t.cursor + 1) ∷ []) [])
        (Some (cond b (record t { ranges = Some (with_state 30 t.cursor ranges); cursor = t.cursor + 1 }) t))
    by true = (refl, (tt, (tt, tt)))
    by false = (refl, tt)

emptying-makes : (t : Tables) (o : Option (List Range)) → Makes (Some t) (emptying_changes o t.cursor) (Some (emptied t o))
emptying-makes t None = (refl, tt)
emptying-makes t (Some ranges) = by (nat_lt t.cursor (length ranges))
  where
    by : (b : Bool) → Makes (Some t) (cond b [] (SetRanges (all_in_state 40 ranges) ∷ Empty ∷ []))
        (Some (cond b t (record t { rows = no_rows_at t.rows.top; ranges = Some (all_in_state 40 ranges); emptied = true })))
    by true = (refl, tt)
    by false = (refl, (tt, (tt, tt)))

changes-make : (t : Option Tables) (entry : ContEntry) → IsListed (rows_of t) → Makes t (changes_of t entry) (entered t entry)
changes-make None (Created place time) is = (refl, (tt, tt))
changes-make None (Removed place time) is = (refl, tt)
changes-make None (Merged place row) is = (refl, tt)
changes-make None (Ranged place ranges) is = (refl, tt)
changes-make None (Acked place range device rowid) is = (refl, tt)
changes-make None (Closed place range) is = (refl, tt)
changes-make None (Emptied place) is = (refl, tt)
changes-make None (Synced place device rowid) is = (refl, tt)
changes-make (Some t) (Created place time) is = (refl, (tt, tt))
changes-make (Some t) (Removed place time) is = (refl, (tt, tt))
changes-make (Some t) (Merged place row) is = row-makes t row is
changes-make (Some t) (Ranged place ranges) is = ranging-makes t ranges t.ranges
changes-make (Some t) (Acked place range device rowid) is = acking-makes t range device rowid (is_above rowid (point_at t.points range device))
changes-make (Some t) (Closed place range) is = closing-makes t t.ranges
changes-make (Some t) (Emptied place) is = emptying-makes t t.ranges
changes-make (Some t) (Synced place device rowid) is = (refl, (tt, tt))

none-listed : (top : ℕ) → IsListed (no_rows_at top)
none-listed top = record { rising = tt; within = λ k d within. absurd (omega (arith, within)); once = tt }

no_rows-listed : IsListed no_rows
no_rows-listed = none-listed 0

ranged-listed : (t : Tables) (ranges : List Range) (o : Option (List Range)) → IsListed t.rows → IsListed (ranged t o ranges).rows
ranged-listed t ranges None is = is
ranged-listed t ranges (Some old) is = is

closed-listed : (t : Tables) (o : Option (List Range)) → IsListed t.rows → IsListed (closed t o).rows
closed-listed t None is = is
closed-listed t (Some ranges) is = by (nat_lt t.cursor (length ranges))
  where
    by : (b : Bool) → IsListed (cond b (record t { ranges = Some (with_state 30 t.cursor ranges); cursor = t.cursor + 1 }) t).rows
    by true = is
    by false = is

emptied-listed : (t : Tables) (o : Option (List Range)) → IsListed t.rows → IsListed (emptied t o).rows
emptied-listed t None is = is
emptied-listed t (Some ranges) is = by (nat_lt t.cursor (length ranges))
  where
    by : (b : Bool) → IsListed (cond b t (record t { rows = no_rows_at t.rows.top; ranges = Some (all_in_state 40 ranges); emptied = true })).rows
    by true = is
    by false = none-listed t.rows.top

pub listed-entered : (t : Option Tables) (entry : ContEntry) → IsListed (rows_of t) → IsListed (rows_of (entered t entry))
listed-entered None (Created place time) is = no_rows-listed
listed-entered None (Removed place time) is = no_rows-listed
listed-entered None (Merged place row) is = no_rows-listed
listed-entered None (Ranged place ranges) is = no_rows-listed
listed-entered None (Acked place range device rowid) is = no_rows-listed
listed-entered None (Closed place range) is = no_rows-listed
listed-entered None (Emptied place) is = no_rows-listed
listed-entered None (Synced place device rowid) is = no_rows-listed
listed-entered (Some t) (Created place time) is = is
listed-entered (Some t) (Removed place time) is = is
listed-entered (Some t) (Ranged place ranges) is = ranged-listed t ranges t.ranges is
listed-entered (Some t) (Acked place range device rowid) is = is
listed-entered (Some t) (Closed place range) is = closed-listed t t.ranges is
listed-entered (Some t) (Emptied place) is = emptied-listed t t.ranges is
listed-entered (Some t) (Synced place device rowid) is = is
listed-entered (Some t) (Merged place row) is = at (fits (find_named t.rows.list row.name) row)
  where
    at : (b : Bool) → IsListed (cond b (with_row t.rows row) t.rows)
    at true = listed-with_row t.rows row is
    at false = is

batch-makes : (t : Option Tables) (entries : List ContEntry) → IsListed (rows_of t) → Makes t (batch_for t entries) (all_entered t entries)
batch-makes t [] is = (refl, tt)
batch-makes t (entry ∷ entries) is =
    let one = changes-make t entry is in
    let more = batch-makes (entered t entry) entries (listed-entered t entry is) in (
      fold-append changed t (changes_of t entry) (batch_for (entered t entry) entries)
          ∙ ap (λ (x : Option Tables). all_changed x (batch_for (entered t entry) entries)) one.0 ∙ more.0,
      can-append t (changes_of t entry) (batch_for (entered t entry) entries) one.1
          (subst (λ (x : Option Tables). CanAll x (batch_for (entered t entry) entries)) (sym one.0) more.1),
    )

pub batch-is : (t : Option Tables) (entries : List ContEntry) → IsListed (rows_of t) → all_changed t (batch_for t entries) ≡ all_entered t entries
batch-is t entries is = (batch-makes t entries is).0

pub batch-fits : (t : Option Tables) (entries : List ContEntry) → IsListed (rows_of t) → IsSome (all_entered t entries) → IsBatch t (batch_for t entries)
batch-fits t entries is some =
    let both = batch-makes t entries is in
    can-batch t (batch_for t entries) both.1 (subst (λ (x : Option Tables). IsSome x) (sym both.0) some)

-- ---- what is left of the entries, as the batch is made

-- the tables so far, and the changes so far: with those of the entries from i on they are the tables and the batch of all
pub record Left (t : Option Tables) (all : List ContEntry) (now : Option Tables) (i : ℕ) (changes : List Change) : Type 0 where
  pub numbers : top_of now + rows_in (drop i all) ≤ 2 ^ 64 - 1
  pub tables : all_entered now (drop i all) ≡ all_entered t all
  pub batch : changes ++ batch_for now (drop i all) ≡ batch_for t all

rows_in-cons : (entry : ContEntry) (entries : List ContEntry) → rows_in (entry ∷ entries) ≡ row_count entry + rows_in entries
rows_in-cons entry entries = sum_by-cons (λ (e : ContEntry). cond (is_merge e) 1 0) entry entries

ranged-top : (t : Tables) (ranges : List Range) (o : Option (List Range)) → (ranged t o ranges).rows.top ≤ t.rows.top
ranged-top t ranges None = omega arith
ranged-top t ranges (Some old) = omega arith

closed-top : (t : Tables) (o : Option (List Range)) → (closed t o).rows.top ≤ t.rows.top
closed-top t None = omega arith
closed-top t (Some ranges) = by (nat_lt t.cursor (length ranges))
  where
    by : (b : Bool) → (cond b (record t { ranges = Some (with_state 30 t.cursor ranges); cursor = t.cursor + 1 }) t).rows.top ≤ t.rows.top
    by true = omega arith
    by false = omega arith

emptied-top : (t : Tables) (o : Option (List Range)) → (emptied t o).rows.top ≤ t.rows.top
emptied-top t None = omega arith
emptied-top t (Some ranges) = by (nat_lt t.cursor (length ranges))
  where
    by : (b : Bool)
        → (cond b t (record t { rows = no_rows_at t.rows.top; ranges = Some (all_in_state 40 ranges); emptied = true })).rows.top ≤ t.rows.top
    by true = omega arith
    by false = omega arith

entered-top : (t : Option Tables) (entry : ContEntry) → top_of (entered t entry) ≤ top_of t + row_count entry
entered-top None (Created place time) = omega arith
entered-top None (Removed place time) = omega arith
entered-top None (Merged place row) = omega arith
entered-top None (Ranged place ranges) = omega arith
entered-top None (Acked place range device rowid) = omega arith
entered-top None (Closed place range) = omega arith
entered-top None (Emptied place) = omega arith
entered-top None (Synced place device rowid) = omega arith
entered-top (Some t) (Created place time) = omega arith
entered-top (Some t) (Removed place time) = omega arith
entered-top (Some t) (Merged place row) = merged-top t.rows row
entered-top (Some t) (Ranged place ranges) = let le = ranged-top t ranges t.ranges in omega (arith, le)
entered-top (Some t) (Acked place range device rowid) = omega arith
entered-top (Some t) (Closed place range) = let le = closed-top t t.ranges in omega (arith, le)
entered-top (Some t) (Emptied place) = let le = emptied-top t t.ranges in omega (arith, le)
entered-top (Some t) (Synced place device rowid) = omega arith

pub left-room : (t : Option Tables) (all : List ContEntry) (now : Option Tables) (i : ℕ) (changes : List Change) (entry : ContEntry)
    → Left t all now i changes → i < length all → entry ≡ get_or all i entry → top_of now + row_count entry ≤ 2 ^ 64 - 1
left-room t all now i changes entry left within is =
    let steps : drop i all ≡ entry ∷ drop (i + 1) all = step-at all i entry within is in
    let numbers : top_of now + rows_in (entry ∷ drop (i + 1) all) ≤ 2 ^ 64 - 1 =
    subst (λ (es : List ContEntry). top_of now + rows_in es ≤ 2 ^ 64 - 1) steps left.numbers in
    let count : rows_in (entry ∷ drop (i + 1) all) ≡ row_count entry + rows_in (drop (i + 1) all) = rows_in-cons entry (drop (i + 1) all) in
    omega (arith, numbers, count)

pub left-next : (t : Option Tables) (all : List ContEntry) (now : Option Tables) (i : ℕ) (changes : List Change) (entry : ContEntry) (after : Option Tables)
    (more : List Change)
    → Left t all now i changes → i < length all → entry ≡ get_or all i entry → after ≡ entered now entry → more ≡ changes ++ changes_of now entry
    → Left t all after (i + 1) more
left-next t all now i changes entry after more left within is entered_is more_is =
    let steps : drop i all ≡ entry ∷ drop (i + 1) all = step-at all i entry within is in
    let numbers : top_of now + rows_in (entry ∷ drop (i + 1) all) ≤ 2 ^ 64 - 1 =
    subst (λ (es : List ContEntry). top_of now + rows_in es ≤ 2 ^ 64 - 1) steps left.numbers in
    let tables : all_entered now (entry ∷ drop (i + 1) all) ≡ all_entered t all =
    subst (λ (es : List ContEntry). all_entered now es ≡ all_entered t all) steps left.tables in
    let batch : changes ++ batch_for now (entry ∷ drop (i + 1) all) ≡ batch_for t all =
    subst (λ (es : List ContEntry). changes ++ batch_for now es ≡ batch_for t all) steps left.batch in
    let count : rows_in (entry ∷ drop (i + 1) all) ≡ row_count entry + rows_in (drop (i + 1) all) = rows_in-cons entry (drop (i + 1) all) in
    let top : top_of (entered now entry) ≤ top_of now + row_count entry = entered-top now entry in
    let there : Left t all (entered now entry) (i + 1) (changes ++ changes_of now entry) =
    record {
      numbers = omega (arith, numbers, count, top);
      tables = tables;
      batch = append_assoc changes (changes_of now entry) (batch_for (entered now entry) (drop (i + 1) all)) ∙ batch;
    } in
    subst (λ (x : Option Tables). Left t all x (i + 1) more) (sym entered_is)
    (subst (λ (x : List Change). Left t all (entered now entry) (i + 1) x) (sym more_is) there)

pub left-none : (t : Option Tables) (all : List ContEntry) (now : Option Tables) (i : ℕ) (changes : List Change) → Left t all now i changes → length all ≤ i
    → (now ≡ all_entered t all) × (changes ≡ batch_for t all)
left-none t all now i changes left past =
    let none : drop i all ≡ [] = drop_of_length-le all past in
    let batch : changes ++ [] ≡ batch_for t all = subst (λ (es : List ContEntry). changes ++ batch_for now es ≡ batch_for t all) none left.batch in
    (subst (λ (es : List ContEntry). all_entered now es ≡ all_entered t all) none left.tables, sym (append-nil changes) ∙ batch)
