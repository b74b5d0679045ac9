-- Rows and names that are left to shards, as they are gone through.
use Rattle.std.proofs.Common.{◌≡◌, ℕ, ◌+◌, ◌<◌, ◌≤◌, Bool, true, false, cond, not, List, [], ◌∷◌, ◌++◌, length, drop, get_or, Option, None, Some, All}
use Rattle.std.proofs.Common.{append_assoc, ap, arith, refl, subst, sym, ◌∙◌, Bor}
use Rattle.std.proofs.Math.ListN.{drop_of_length-le}
use Rattle.std.proofs.lemmas.Bool.{le-leb, le-ltb, lt-ltb}
use Rattle.std.proofs.lemmas.List.{append-nil}
use Rattle.std.proofs.lemmas.List.Elements.{All-filter, All-weaker}
use Rattle.std.proofs.lemmas.List.Sums.{list_all-from_AllPass}
use Rattle.std.specs.List.{filter, find, list_all}
use Rattle.std.specs.Option.{option_copied, option_or}
use Rattle.std.specs.Prelude.{is_none, is_some, nat_le, nat_lt}
use Rattle.sw_container_steps.proofs.Over.{step-at}
use Rattle.sw_container_steps.specs.Serving.{first_served, served, served_by, unserved}
use Rattle.sw_hashpath.specs.declared.place.Place.{Place}
use Rattle.sw_keeper.specs.declared.tables.Tables.{Tables}
use Rattle.sw_rows.proofs.Copying.{All-between, once-before, rising-above, rising-behind}
use Rattle.sw_rows.proofs.Merging.{rising-filter}
use Rattle.sw_rows.proofs.Numbering.{once-filter, same_listed}
use Rattle.sw_rows.specs.Rows.{can_restore, find_named, restored, IsListed, IsNamedOnce, IsRising, Listed}
use Rattle.sw_rows.specs.declared.numbered.Numbered.{Numbered}
use Rattle.sw_rows.specs.declared.row.Row.{Row}
use Rattle.sw_shard_range.specs.Ranges.{index_in}
use Rattle.sw_shard_range.specs.declared.range.Range.{Range}

-- ---- the first of the rows whose name is left to a shard

pub first-here : (t : Tables) (rows : List Row) (i : ℕ) (row : Row) (shard : Place) → i < length rows → row ≡ get_or rows i row
    → first_served t (drop i rows) ≡ first_served t rows → served t row.name ≡ Some shard → first_served t rows ≡ Some shard
first-here t rows i row shard within is so_far here =
    sym so_far ∙ ap (λ (rs : List Row). first_served t rs) (step-at rows i row within is)
    ∙ ap (λ (o : Option Place). option_or o (first_served t (drop (i + 1) rows))) here

pub first-later : (t : Tables) (rows : List Row) (i : ℕ) (row : Row) → i < length rows → row ≡ get_or rows i row
    → first_served t (drop i rows) ≡ first_served t rows → served t row.name ≡ None → first_served t (drop (i + 1) rows) ≡ first_served t rows
first-later t rows i row within is so_far here =
    sym (ap (λ (o : Option Place). option_or o (first_served t (drop (i + 1) rows))) here)
    ∙ sym (ap (λ (rs : List Row). first_served t rs) (step-at rows i row within is)) ∙ so_far

pub first-none : (t : Tables) (rows : List Row) (i : ℕ) → length rows ≤ i → first_served t (drop i rows) ≡ first_served t rows → first_served t rows ≡ None
first-none t rows i past so_far = sym so_far ∙ ap (λ (rs : List Row). first_served t rs) (drop_of_length-le rows past)

-- what isn't lent isn't there
pub none-found : {A : Type 0} (lent : Option (Bor A)) (found : Option A) → ((x : Bor A) → lent ≡ Some x → ⊥) → option_copied lent ≡ found → found ≡ None
none-found None found apart same = sym same
none-found (Some x) found apart same = absurd (apart x refl)

-- ---- a list that is searched or filtered from its front on

module _ (p : Numbered → Bool) (n : Numbered) (ns left : List Numbered) (steps : left ≡ n ∷ ns) where
  pub find-here : (o : Option Numbered) → p n ≡ true → find p left ≡ o → o ≡ Some n
  find-here o passes is = sym is ∙ ap (λ (x : List Numbered). find p x) steps ∙ ap (λ (b : Bool). cond b (Some n) (find p ns)) passes

  pub find-later : (o : Option Numbered) → p n ≡ false → find p left ≡ o → find p ns ≡ o
  find-later o fails is = sym (ap (λ (b : Bool). cond b (Some n) (find p ns)) fails) ∙ sym (ap (λ (x : List Numbered). find p x) steps) ∙ is

  pub filter-here : p n ≡ true → filter p left ≡ n ∷ filter p ns
  filter-here passes = ap (λ (x : List Numbered). filter p x) steps ∙ ap (λ (b : Bool). cond b (n ∷ filter p ns) (filter p ns)) passes

  pub filter-later : p n ≡ false → filter p left ≡ filter p ns
  filter-later fails = ap (λ (x : List Numbered). filter p x) steps ∙ ap (λ (b : Bool). cond b (n ∷ filter p ns) (filter p ns)) fails

-- ---- whether a row stays

abbrev stays : Tables → Numbered → Bool
stays t n = is_none (served t n.row.name)

all-stay : (p : Numbered → Bool) (ns : List Numbered) → ((n : Numbered) → p n ≡ true) → filter p ns ≡ ns
all-stay p [] passes = refl
all-stay p (n ∷ ns) passes = rw (passes n) (ap (λ (x : List Numbered). n ∷ x) (all-stay p ns passes))

-- where there are no ranges, no name is left to a shard
pub none-ranged : (t : Tables) → is_some t.ranges ≡ false → unserved t ≡ t.rows.list
none-ranged t none = all-stay (stays t) t.rows.list (λ n. at t.ranges n.row.name none)
  where
    at : (ranges : Option (List Range)) (name : List ℕ) → is_some ranges ≡ false → is_none (served_by ranges t.cursor name) ≡ true
    at None name none = refl
    at (Some ranges) name none = cc

-- nor where none is closed
pub none-closed : (t : Tables) → t.cursor ≡ 0 → unserved t ≡ t.rows.list
none-closed t zero_is = all-stay (stays t) t.rows.list (λ n. rw zero_is (at t.ranges n.row.name))
  where
    at : (ranges : Option (List Range)) (name : List ℕ) → is_none (served_by ranges 0 name) ≡ true
    at None name = refl
    at (Some ranges) name = let above : nat_lt (index_in ranges name) 0 ≡ false = le-ltb (index_in ranges name) 0 (omega arith) in rw above refl

-- whether nothing is found is told of what is lent as of what it copies
pub none-lent : {A : Type 0} (lent : Option (Bor A)) (found : Option A) (b : Bool) → is_some lent ≡ not b → option_copied lent ≡ found → is_none found ≡ b
none-lent lent found b told same = rw (sym same) (at lent b told)
  where
    at : {A : Type 0} (lent : Option (Bor A)) (b : Bool) → is_some lent ≡ not b → is_none (option_copied lent) ≡ b
    at None true told = refl
    at None false told = cc
    at (Some x) true told = cc
    at (Some x) false told = refl

-- ---- the rows that aren't left to shards are put back in their order

-- a row can stand behind those before it in a list of rows
can-stand : (l : Listed) (n : Numbered) (left : List Numbered) → IsRising 0 (l.list ++ n ∷ left) → n.rowid ≤ l.top → IsNamedOnce (l.list ++ n ∷ left)
    → can_restore l n.rowid n.row ≡ true
can-stand l n left rising given once =
    let positive : nat_lt 0 n.rowid ≡ true = lt-ltb 0 n.rowid (rising-behind 0 l.list left n rising) in
    let within : nat_le n.rowid l.top ≡ true = le-leb n.rowid l.top given in
    let below : All (λ m. m.rowid < n.rowid) l.list = rising-above 0 l.list left n rising in
    let B : Numbered → Type 0 = λ m. m.rowid < n.rowid in
    let T : Numbered → Type 0 = λ m. nat_lt m.rowid n.rowid ≡ true in
    let above : list_all (λ m. nat_lt m.rowid n.rowid) l.list ≡ true =
    list_all-from_AllPass (λ m. nat_lt m.rowid n.rowid) l.list (All-weaker B T (λ m h. lt-ltb m.rowid n.rowid h) l.list below) in
    let none : is_none (find_named l.list n.row.name) ≡ true = rw (once-before l.list left n once) refl in
    rw (positive, within, above, none) refl

pub left-put : (t : Tables) (l new : Listed) (n : Numbered) (ns left : List Numbered) → IsListed t.rows → left ≡ n ∷ ns
    → l.list ++ filter (stays t) left ≡ unserved t → l.top ≡ t.rows.top → is_none (served t n.row.name) ≡ true → new ≡ restored l n.rowid n.row
    → (new.list ++ filter (stays t) ns ≡ unserved t) × (new.top ≡ t.rows.top)
left-put t l new n ns left is steps so_far top passes new_is =
    let rest : List Numbered = filter (stays t) ns in
    let whole : l.list ++ n ∷ rest ≡ unserved t =
    sym (ap (λ (x : List Numbered). l.list ++ x) (filter-here (stays t) n ns left steps passes)) ∙ so_far in
    let R : List Numbered → Type 0 = λ x. IsRising 0 x in
    let O : List Numbered → Type 0 = λ x. IsNamedOnce x in
    let T : Numbered → Type 0 = λ m. m.rowid ≤ t.rows.top in
    let W : List Numbered → Type 0 = λ x. All T x in
    let rising : IsRising 0 (l.list ++ n ∷ rest) = subst R (sym whole) (rising-filter (stays t) 0 t.rows.list is.rising) in
    let once : IsNamedOnce (l.list ++ n ∷ rest) = subst O (sym whole) (once-filter (stays t) t.rows.list is.once) in
    let given : n.rowid ≤ t.rows.top = All-between T l.list rest n (subst W (sym whole) (All-filter (stays t) T t.rows.list is.within)) in
    let can : can_restore l n.rowid n.row ≡ true =
    can-stand l n rest rising (subst (λ (x : ℕ). n.rowid ≤ x) (sym top) given) once in
    let put : Listed = record l { list = l.list ++ n ∷ [] } in
    let same : new ≡ put = new_is ∙ ap (λ (b : Bool). cond b put l) can in
    (ap (λ (x : Listed). x.list ++ rest) same ∙ append_assoc l.list (n ∷ []) rest ∙ whole, ap (λ (x : Listed). x.top) same ∙ top)

pub left-passed : (t : Tables) (l : Listed) (n : Numbered) (ns left : List Numbered) → left ≡ n ∷ ns
    → l.list ++ filter (stays t) left ≡ unserved t → is_none (served t n.row.name) ≡ false → l.list ++ filter (stays t) ns ≡ unserved t
left-passed t l n ns left steps so_far fails = sym (ap (λ (x : List Numbered). l.list ++ x) (filter-later (stays t) n ns left steps fails)) ∙ so_far

pub left-all : (t : Tables) (l : Listed) (left : List Numbered) → left ≡ [] → l.list ++ filter (stays t) left ≡ unserved t → l.top ≡ t.rows.top
    → l ≡ record { list = unserved t; top = t.rows.top }
left-all t l left none so_far top =
    same_listed l (record { list = unserved t; top = t.rows.top })
    (sym (append-nil l.list) ∙ sym (ap (λ (x : List Numbered). l.list ++ filter (stays t) x) none) ∙ so_far) top
