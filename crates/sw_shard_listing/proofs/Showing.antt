-- What rows are listed as.
use Rattle.std.proofs.Common.{◌≡◌, ℕ, Bool, true, false, cond, not, List, [], ◌∷◌, length, take, Option, None, Some, refl, sym, ◌∙◌, ap, subst, ◌⊎◌, inl, inr}
use Rattle.std.specs.Prelude.{◌&&◌}
use Rattle.std.specs.Str.{bytes_eq}
use Rattle.std.proofs.lemmas.List.{append-nil}
use Rattle.sw_listing.specs.Asking.{is_asked, rolled_text}
use Rattle.sw_listing.specs.Entries.{entry_text}
use Rattle.sw_listing.specs.Listing.{entries_asked, entry_of, shows}
use Rattle.sw_listing.specs.declared.entry.Entry.{Entry}
use Rattle.sw_listing.specs.declared.entry.Entry.TheVariants as entry
use Rattle.sw_listing.specs.declared.query.Query.{Query}
use Rattle.sw_rows.specs.declared.numbered.Numbered.{Numbered}
use Rattle.sw_rows.specs.declared.row.Row.{Row}
use Rattle.sw_shard_listing.specs.Laws.{ListingIsOfItsRows, ShowsIn}
use Rattle.sw_shard_listing.proofs.Members.{In, Once, contains-in, in-contains, once-of}
use Rattle.sw_shard_listing.proofs.Rolling.{rolled-again}
use Rattle.sw_shard_listing.proofs.Sorting.{in-order, in_order, one-rising, order-in, order-rising}

-- what the name of a row is rolled up to
abbrev pub rolled_of : Query → List ℕ → Option (List ℕ)
rolled_of q name = rolled_text q.delimiter (length q.prefix) name

abbrev pub IsWhole : Query → Row → Entry → Type 0
IsWhole q row e = (rolled_of q row.name ≡ None) × (e ≡ entry.Row row)

abbrev pub IsRolled : Query → Row → Entry → Type 0
IsRolled q row e = (t : List ℕ) × (rolled_of q row.name ≡ Some t) × (bytes_eq t q.marker ≡ false) × (e ≡ entry.Subdir t)

-- a row is listed as this entry
pub record IsShown (q : Query) (row : Row) (e : Entry) : Type 0 where
  pub live : row.deleted ≡ false
  pub asked : is_asked q row.name ≡ true
  pub how : IsWhole q row e ⊎ IsRolled q row e

some-is : {A : Type 0} (x y : A) → Some x ≡ Some y → y ≡ x
some-is x y h = cc

entry-told : (q : Query) (row : Row) (e : Entry) (o : Option (List ℕ)) → rolled_of q row.name ≡ o → entry_of q row o ≡ Some e
    → IsWhole q row e ⊎ IsRolled q row e
entry-told q row e None is h = inl (is, some-is (entry.Row row) e h)
entry-told q row e (Some t) is h = by (bytes_eq t q.marker) refl h
  where
    by : (b : Bool) → bytes_eq t q.marker ≡ b → cond b None (Some (entry.Subdir t)) ≡ Some e → IsWhole q row e ⊎ IsRolled q row e
    by true same h = cc
    by false other h = inr (t, is, other, some-is (entry.Subdir t) e h)

pub shown-is : (q : Query) (row : Row) (e : Entry) → shows q row ≡ Some e → IsShown q row e
shown-is q row e h = by row.deleted refl (is_asked q row.name) refl h
  where
    by : (d : Bool) → row.deleted ≡ d → (a : Bool) → is_asked q row.name ≡ a
        → cond (not d && a) (entry_of q row (rolled_of q row.name)) None ≡ Some e → IsShown q row e
    by true is a asked h = cc
    by false is false asked h = cc
    by false is true asked h = record { live = is; asked = asked; how = entry-told q row e (rolled_of q row.name) refl h }

pub is-shown : (q : Query) (row : Row) (e : Entry) → IsShown q row e → shows q row ≡ Some e
is-shown q row e s = passes row.deleted (is_asked q row.name) s.live s.asked (entry_of q row (rolled_of q row.name)) ∙ by s.how
  where
    passes : (d a : Bool) → d ≡ false → a ≡ true → (o : Option Entry) → cond (not d && a) o None ≡ o
    passes d a is asked o = rw (is, asked) refl

    by : IsWhole q row e ⊎ IsRolled q row e → entry_of q row (rolled_of q row.name) ≡ Some e
    by (inl w) = ap (entry_of q row) w.0 ∙ ap (λ (f : Entry). Some f) (sym w.1)
    by (inr r) = ap (entry_of q row) r.1 ∙ rw (r.2) (ap (λ (f : Entry). Some f) (sym r.3))

-- ---- entries of rows

pub asked-in : (q : Query) (rows : List Numbered) (e : Entry) → In e (entries_asked q rows) → (n : Numbered) × In n rows × IsShown q n.row e
asked-in q [] e h = absurd h
asked-in q (n ∷ ns) e h = by (shows q n.row) refl (asked-in q ns e) h
  where
    use_of : List Entry → Type 0
    use_of es = (m : Numbered) × In m (n ∷ ns) × IsShown q m.row e

    by : (o : Option Entry) → shows q n.row ≡ o → (In e (entries_asked q ns) → (m : Numbered) × In m ns × IsShown q m.row e) → In e (entries_asked q (n ∷ ns))
        → (m : Numbered) × In m (n ∷ ns) × IsShown q m.row e
    by None is rest h = let r = rest (rw is at h) in (r.0, inr r.1, r.2)
    by (Some f) is rest h = at (rw is at h)
      where
        at : In e (f ∷ entries_asked q ns) → (m : Numbered) × In m (n ∷ ns) × IsShown q m.row e
        at (inl same) = (n, inl refl, shown-is q n.row e (is ∙ ap (λ (u : Entry). Some u) (sym same)))
        at (inr a) = let r = rest a in (r.0, inr r.1, r.2)

pub in-asked : (q : Query) (rows : List Numbered) (n : Numbered) (e : Entry) → In n rows → IsShown q n.row e → In e (entries_asked q rows)
in-asked q [] n e h s = absurd h
in-asked q (m ∷ ms) n e (inl is) s =
    rw (is-shown q m.row e (subst (λ (u : Numbered). IsShown q u.row e) is s)) (inl refl)
in-asked q (m ∷ ms) n e (inr h) s = by (shows q m.row) refl (in-asked q ms n e h s)
  where
    by : (o : Option Entry) → shows q m.row ≡ o → In e (entries_asked q ms) → In e (entries_asked q (m ∷ ms))
    by None is rest = rw is rest
    by (Some f) is rest = rw is (inr rest)

-- entries of one text are one
pub one-entry : (q : Query) (m n : Row) (e f : Entry) → (m.name ≡ n.name → m ≡ n) → IsShown q m e → IsShown q n f → entry_text e ≡ entry_text f → e ≡ f
one-entry q m n e f once s t same = by s.how t.how
  where
    never : (name : List ℕ) (u : List ℕ) (other : List ℕ) → rolled_of q name ≡ None → rolled_of q other ≡ Some u → name ≡ u → ⊥
    never name u other no_one some is =
        let again : rolled_of q u ≡ Some u = ap (rolled_of q) (sym (append-nil u)) ∙ rolled-again q.delimiter (length q.prefix) other u [] some in
        let none : rolled_of q u ≡ None = ap (rolled_of q) (sym is) ∙ no_one in
        cc

    by : IsWhole q m e ⊎ IsRolled q m e → IsWhole q n f ⊎ IsRolled q n f → e ≡ f
    by (inl w) (inl x) =
        let names : m.name ≡ n.name = ap entry_text (sym w.1) ∙ same ∙ ap entry_text x.1 in
        w.1 ∙ ap (λ (r : Row). entry.Row r) (once names) ∙ sym x.1
    by (inl w) (inr x) = absurd (never m.name x.0 n.name w.0 x.1 (ap entry_text (sym w.1) ∙ same ∙ ap entry_text x.3))
    by (inr w) (inl x) = absurd (never n.name w.0 m.name x.0 w.1 (ap entry_text (sym x.1) ∙ sym same ∙ ap entry_text w.3))
    by (inr w) (inr x) =
        let texts : w.0 ≡ x.0 = ap entry_text (sym w.3) ∙ same ∙ ap entry_text x.3 in
        w.3 ∙ ap (λ (u : List ℕ). entry.Subdir u) texts ∙ sym x.3

-- ---- listings without their limit

abbrev pub all_entries : Query → List Numbered → List Entry
all_entries q rows = in_order q.reverse (entries_asked q rows)

pub entries-in : (q : Query) (rows : List Numbered) → Once rows → (n : Numbered) (e : Entry) → In n rows → IsShown q n.row e → In e (all_entries q rows)
entries-in q rows once n e h s =
    order-in q.reverse (entries_asked q rows) e (λ v a same. by v (asked-in q rows v a) same) (in-asked q rows n e h s)
  where
    by : (v : Entry) → (m : Numbered) × In m rows × IsShown q m.row v → entry_text e ≡ entry_text v → e ≡ v
    by v found same = one-entry q n.row found.0.row e v (once n found.0 h found.1) s found.2 same

pub in-entries : (q : Query) (rows : List Numbered) (e : Entry) → In e (all_entries q rows) → (n : Numbered) × In n rows × IsShown q n.row e
in-entries q rows e h = asked-in q rows e (in-order q.reverse (entries_asked q rows) e h)

-- a listing is of its live rows alone
pub of-its-rows : ListingIsOfItsRows
of-its-rows query rows others once again here there =
    ap (λ (es : List Entry). take query.limit es)
    (one-rising query.reverse (all_entries query rows) (all_entries query others)
    (order-rising query.reverse (entries_asked query rows)) (order-rising query.reverse (entries_asked query others))
    (λ e h. to rows others (once-of others again) here e (in-entries query rows e h))
    (λ e h. to others rows (once-of rows once) there e (in-entries query others e h)))
  where
    to : (from : List Numbered) (onto : List Numbered) → Once onto → ShowsIn from onto → (e : Entry) → (n : Numbered) × In n from × IsShown query n.row e
        → In e (all_entries query onto)
    to from onto once shown e found =
        let other = shown found.0 (in-contains found.0 from found.1) found.2.live in
        entries-in query onto once other.0 e (contains-in other.0 onto other.1) (subst (λ (r : Row). IsShown query r e) (sym other.2) found.2)
