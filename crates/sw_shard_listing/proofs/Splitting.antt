-- Listings over ranges add up.
use Rattle.std.proofs.Common.{◌≡◌, ℕ, ◌+◌, ◌-◌, ◌≤◌, Bool, true, false, cond, not, List, [], ◌∷◌, ◌++◌, length, take, drop, Option, None, Some, refl, sym}
use Rattle.std.proofs.Common.{◌∙◌, ap, subst, arith, ◌⊎◌, inl, inr}
use Rattle.std.specs.List.{filter}
use Rattle.std.specs.Prelude.{◌&&◌, nat_lt}
use Rattle.std.specs.Str.{bytes_eq}
use Rattle.std.proofs.Math.Seq.{take-append-add, take-nil}
use Rattle.std.proofs.lemmas.Bool.Decides.{nat_tests}
use Rattle.std.proofs.lemmas.List.{append-nil, take-append-le, take-append-drop, take_all, length-take-le}
use Rattle.sw_listing.specs.Asking.{is_before}
use Rattle.sw_listing.specs.Entries.{entry_text}
use Rattle.sw_listing.specs.Listing.{entries_asked, listing}
use Rattle.sw_listing.specs.declared.entry.Entry.{Entry}
use Rattle.sw_listing.specs.declared.entry.Entry.TheVariants as entry
use Rattle.sw_listing.specs.declared.query.Query.{Query}
use Rattle.sw_rows.proofs.Named.{name_itself, same_name}
use Rattle.sw_rows.specs.declared.numbered.Numbered.{Numbered}
use Rattle.sw_rows.specs.declared.row.Row.{Row}
use Rattle.sw_shard_listing.specs.Laws.{IsPlain, ListingsAddUp, is_ahead}
use Rattle.sw_shard_listing.specs.Ranges.{Segment, after_entries, all_within, behind, begun, is_between, is_this, last_entry, leaves_out, listed_in_turn}
use Rattle.sw_shard_listing.specs.Ranges.{moved, passed, within}
use Rattle.sw_shard_listing.proofs.Clearing.{IsClear, apart, asked-from, asked-onward, behind-apart, behind-marker, behind-or, behind-other, clear-of-other}
use Rattle.sw_shard_listing.proofs.Clearing.{from, front-lt, is_onward, lt-over, over-lt, moved-shown, plain-end, plain-rolled, rolled-alike, rolled-is-some}
use Rattle.sw_shard_listing.proofs.Clearing.{shown-from, shown-moved}
use Rattle.sw_shard_listing.proofs.Members.{In, InTurn, Once, Segments, in-append, in-append-left, in-append-right, segments-of, turn-of}
use Rattle.sw_shard_listing.proofs.Order.{Begins, Lt, begins-before-end, begins-or, lt-asym, lt-irrefl}
use Rattle.sw_shard_listing.proofs.Rolling.{rolled-begins}
use Rattle.sw_shard_listing.proofs.Showing.{IsRolled, IsShown, IsWhole, all_entries, entries-in, in-entries, rolled_of}
use Rattle.sw_shard_listing.proofs.Sorting.{Ahead, Rising, ahead-irrefl, ahead-trans, one-rising, order-rising, rising-append}

abbrev pub ArePlain : List Numbered → Type 0
ArePlain rows = (n : Numbered) → In n rows → IsPlain n.row.name

-- ---- names in order have entries in order

abbrev BothRolled : Query → List ℕ → List ℕ → Type 0
BothRolled q x y = (t : List ℕ) × (rolled_of q x ≡ Some t) × (rolled_of q y ≡ Some t)

abbrev shown_text : Option (List ℕ) → List ℕ → List ℕ
shown_text None x = x
shown_text (Some t) x = t

text-of : (q : Query) (row : Row) (e : Entry) → IsShown q row e → entry_text e ≡ shown_text (rolled_of q row.name) row.name
text-of q row e s = by s.how
  where
    by : IsWhole q row e ⊎ IsRolled q row e → entry_text e ≡ shown_text (rolled_of q row.name) row.name
    by (inl w) = ap entry_text w.1 ∙ sym (ap (λ (o : Option (List ℕ)). shown_text o row.name) w.0)
    by (inr r) = ap entry_text r.3 ∙ sym (ap (λ (o : Option (List ℕ)). shown_text o row.name) r.1)

mono : (q : Query) (x y : List ℕ) → Lt x y → Lt (shown_text (rolled_of q x) x) (shown_text (rolled_of q y) y) ⊎ BothRolled q x y
mono q x y less = by (rolled_of q y) refl
  where
    front : (o : Option (List ℕ)) → rolled_of q x ≡ o → (z : List ℕ) → Lt x z → Lt (shown_text o x) z
    front None is z p = p
    front (Some t) is z p = front-lt x t z (rolled-begins q.delimiter (length q.prefix) x t is) p

    by : (o : Option (List ℕ)) → rolled_of q y ≡ o → Lt (shown_text (rolled_of q x) x) (shown_text o y) ⊎ BothRolled q x y
    by None is = inl (front (rolled_of q x) refl y less)
    by (Some s) is = at (begins-or x s)
      where
        begins : Begins y s
        begins = rolled-begins q.delimiter (length q.prefix) y s is

        at : Begins x s ⊎ (Lt x s ⊎ ((z : List ℕ) → Lt (s ++ z) x)) → Lt (shown_text (rolled_of q x) x) (shown_text (Some s) y) ⊎ BothRolled q x y
        at (inl b) = inr (s, rolled-alike q y x s is b, is)
        at (inr (inl p)) = inl (front (rolled_of q x) refl s p)
        at (inr (inr more)) = absurd (lt-asym x y less (subst (λ (t : List ℕ). Lt t x) (sym begins.1) (more begins.0)))

-- an entry of a name that is rolled up
rolled-entry : (q : Query) (row : Row) (e : Entry) (t : List ℕ) → IsShown q row e → rolled_of q row.name ≡ Some t → e ≡ entry.Subdir t
rolled-entry q row e t s is = by s.how
  where
    by : IsWhole q row e ⊎ IsRolled q row e → e ≡ entry.Subdir t
    by (inl w) = let none = w.0 in cc
    by (inr r) = let some = r.1 in let same : r.0 ≡ t = cc in r.3 ∙ ap (λ (u : List ℕ). entry.Subdir u) same

abbrev BothSubdir : Entry → Entry → Type 0
BothSubdir e f = (t : List ℕ) × (e ≡ entry.Subdir t) × (f ≡ entry.Subdir t)

in-direction : (back : Bool) (q : Query) (a b : Row) (e f : Entry) → is_ahead back a.name b.name ≡ true → IsShown q a e → IsShown q b f
    → Ahead back e f ⊎ BothSubdir e f
in-direction true q a b e f less s t = by (mono q b.name a.name less)
  where
    by : Lt (shown_text (rolled_of q b.name) b.name) (shown_text (rolled_of q a.name) a.name) ⊎ BothRolled q b.name a.name → Ahead true e f ⊎ BothSubdir e f
    by (inl p) = inl (ap (λ (u : List ℕ). is_before u (entry_text e)) (text-of q b f t)
        ∙ ap (is_before (shown_text (rolled_of q b.name) b.name)) (text-of q a e s) ∙ p)
    by (inr r) = inr (r.0, rolled-entry q a e r.0 s r.2, rolled-entry q b f r.0 t r.1)
in-direction false q a b e f less s t = by (mono q a.name b.name less)
  where
    by : Lt (shown_text (rolled_of q a.name) a.name) (shown_text (rolled_of q b.name) b.name) ⊎ BothRolled q a.name b.name → Ahead false e f ⊎ BothSubdir e f
    by (inl p) = inl (ap (λ (u : List ℕ). is_before u (entry_text f)) (text-of q a e s)
        ∙ ap (is_before (shown_text (rolled_of q a.name) a.name)) (text-of q b f t) ∙ p)
    by (inr r) = inr (r.0, rolled-entry q a e r.0 s r.1, rolled-entry q b f r.0 t r.2)

-- ---- after an entry

-- the last entry was shown of a row
abbrev Came : Query → (Row → Type 0) → Option Entry → Type 0
Came q P None = Unit {0}
Came q P (Some l) = (a : Row) × IsPlain a.name × IsShown q a l × P a

subdir-begins : (q : Query) (a : Row) (s : List ℕ) → IsShown q a (entry.Subdir s) → (rolled_of q a.name ≡ Some s) × Begins a.name s
subdir-begins q a s shown = by shown.how
  where
    by : IsWhole q a (entry.Subdir s) ⊎ IsRolled q a (entry.Subdir s) → (rolled_of q a.name ≡ Some s) × Begins a.name s
    by (inl w) = let never = w.1 in cc
    by (inr r) =
        let last = r.3 in
        let same : r.0 ≡ s = cc in
        let is : rolled_of q a.name ≡ Some s = r.1 ∙ ap (λ (u : List ℕ). Some u) same in
        (is, rolled-begins q.delimiter (length q.prefix) a.name s is)

passed-shown : (q : Query) (P : Row → Type 0) (l : Option Entry) (row : Row) (e : Entry) → IsClear q → Came q P l → IsPlain row.name
    → IsShown (passed q l) row e → IsShown q row e
passed-shown q P None row e clear came plain s = s
passed-shown q P (Some (entry.Row r)) row e clear came plain s = s
passed-shown q P (Some (entry.Subdir t)) row e clear came plain s =
    let sub = subdir-begins q came.0 t came.2 in
    shown-from (passed q (Some (entry.Subdir t))) q.marker row e s
    (behind-marker q t came.0.name row.name (rolled-is-some q came.0.name t sub.0) came.1 sub.1 (asked-onward q came.0.name came.2.asked)
    (asked-onward (passed q (Some (entry.Subdir t))) row.name s.asked))
    (λ u is. clear-here u is)
  where
    sub : (rolled_of q came.0.name ≡ Some t) × Begins came.0.name t
    sub = subdir-begins q came.0 t came.2

    onward : is_onward q.reverse q.marker row.name ≡ true
    onward = behind-marker q t came.0.name row.name (rolled-is-some q came.0.name t sub.0) came.1 sub.1 (asked-onward q came.0.name came.2.asked)
        (asked-onward (passed q (Some (entry.Subdir t))) row.name s.asked)

    clear-here : (u : List ℕ) → rolled_of q row.name ≡ Some u → bytes_eq u q.marker ≡ false
    clear-here u is = clear row.name plain (asked-from (passed q (Some (entry.Subdir t))) q.marker row.name s.asked onward) u is

passed-clear : (q : Query) (P : Row → Type 0) (l : Option Entry) → IsClear q → Came q P l → IsClear (passed q l)
passed-clear q P None clear came = λ x plain asked t is. clear x plain asked t is
passed-clear q P (Some (entry.Row r)) clear came = λ x plain asked t is. clear x plain asked t is
passed-clear q P (Some (entry.Subdir s)) clear came = λ x plain asked t is.
    let sub = subdir-begins q came.0 s came.2 in
    behind-other q s x t (rolled-is-some q came.0.name s sub.0) plain (asked-onward (passed q (Some (entry.Subdir s))) x asked) is

-- what comes after a row is shown after its entry, or is that entry
shown-passed : (q : Query) (l : Option Entry) (b : Row) (e : Entry) → Came q (λ a. is_ahead q.reverse a.name b.name ≡ true) l
    → IsPlain b.name → IsShown q b e → IsShown (passed q l) b e ⊎ (l ≡ Some e)
shown-passed q None b e came plain s = inl s
shown-passed q (Some (entry.Row r)) b e came plain s = inl s
shown-passed q (Some (entry.Subdir t)) b e came plain s = by (behind-or q.reverse t came.0.name b.name sub.1 came.3)
  where
    sub : (rolled_of q came.0.name ≡ Some t) × Begins came.0.name t
    sub = subdir-begins q came.0 t came.2

    some : t ≡ [] → ⊥
    some = rolled-is-some q came.0.name t sub.0

    by : is_onward q.reverse (behind q.reverse t) b.name ≡ true ⊎ Begins b.name t
        → IsShown (passed q (Some (entry.Subdir t))) b e ⊎ (Some (entry.Subdir t) ≡ Some e)
    by (inl onward) = inl (shown-from q (behind q.reverse t) b e s onward (λ u is. behind-other q t b.name u some plain onward is))
    by (inr begins) = inr (ap (λ (f : Entry). Some f) (sym (rolled-entry q b e t s (rolled-alike q came.0.name b.name t sub.0 begins))))

-- what is shown after a rolled-up entry doesn't begin with it
passed-apart : (q : Query) (t : List ℕ) (b : Row) (e : Entry) → (t ≡ [] → ⊥) → IsPlain b.name → IsShown (passed q (Some (entry.Subdir t))) b e
    → Begins b.name t → ⊥
passed-apart q t b e some plain s begins =
    behind-apart q.reverse t b.name some plain (asked-onward (passed q (Some (entry.Subdir t))) b.name s.asked) begins

reverse-passed : (q : Query) (l : Option Entry) → (passed q l).reverse ≡ q.reverse
reverse-passed q None = refl
reverse-passed q (Some (entry.Row r)) = refl
reverse-passed q (Some (entry.Subdir t)) = refl

-- ---- the last entry

last-in : (es : List Entry) (l : Entry) → last_entry es ≡ Some l → In l es
last-in [] l h = cc
last-in (e ∷ []) l h = let same : l ≡ e = cc in inl same
last-in (e ∷ f ∷ es) l h = inr (last-in (f ∷ es) l h)

last-none : (es : List Entry) → last_entry es ≡ None → es ≡ []
last-none [] h = refl
last-none (e ∷ []) h = cc
last-none (e ∷ f ∷ es) h = let never = last-none (f ∷ es) h in cc

last-greatest : (back : Bool) (es : List Entry) (l e : Entry) → Rising back es → last_entry es ≡ Some l → In e es → (e ≡ l) ⊎ Ahead back e l
last-greatest back [] l e p h i = absurd i
last-greatest back (x ∷ []) l e p h (inl is) = let same : x ≡ l = cc in inl (is ∙ same)
last-greatest back (x ∷ []) l e p h (inr i) = absurd i
last-greatest back (x ∷ y ∷ es) l e p h (inl is) = inr (subst (λ (u : Entry). Ahead back u l) (sym is) (p.0 l (last-in (y ∷ es) l h)))
last-greatest back (x ∷ y ∷ es) l e p h (inr i) = last-greatest back (y ∷ es) l e p.1 h i

-- ---- rows of a range

pub filter-in : (p : Numbered → Bool) (ns : List Numbered) (n : Numbered) → In n (filter p ns) → In n ns × (p n ≡ true)
filter-in p [] n h = absurd h
filter-in p (m ∷ ms) n h = by (p m) refl (filter-in p ms n) h
  where
    by : (b : Bool) → p m ≡ b → (In n (filter p ms) → In n ms × (p n ≡ true)) → In n (cond b (m ∷ filter p ms) (filter p ms)) → In n (m ∷ ms) × (p n ≡ true)
    by true is rest (inl same) = (inl same, ap p same ∙ is)
    by true is rest (inr i) = let r = rest i in (inr r.0, r.1)
    by false is rest i = let r = rest i in (inr r.0, r.1)

pub in-filter : (p : Numbered → Bool) (ns : List Numbered) (n : Numbered) → In n ns → p n ≡ true → In n (filter p ns)
in-filter p [] n h t = absurd h
in-filter p (m ∷ ms) n (inl same) t = let is : p m ≡ true = ap p (sym same) ∙ t in rw is (inl same)
in-filter p (m ∷ ms) n (inr i) t = by (p m) (in-filter p ms n i t)
  where
    by : (b : Bool) → In n (filter p ms) → In n (cond b (m ∷ filter p ms) (filter p ms))
    by true r = inr r
    by false r = r

-- ---- one range and what comes after it

module _ (q : Query) (s : Segment) (R : List Numbered) (clear : IsClear q) (once : Once s.rows) (plain : ArePlain s.rows) (onceR : Once R) (plainR : ArePlain R)
    (later : (m n : Numbered) → In m (within s) → In n R → is_ahead q.reverse m.row.name n.row.name ≡ true) where
  abbrev E : List Entry
  E = all_entries (moved q s.lower s.upper) s.rows

  here : (n : Numbered) → In n (within s) → In n s.rows × (is_between s.lower s.upper n.row.name ≡ true)
  here n i = filter-in (λ m. is_between s.lower s.upper m.row.name) s.rows n i

  -- an entry of the range was shown of one of its rows
  from-here : (e : Entry) → In e E → (n : Numbered) × In n (within s) × IsShown q n.row e
  from-here e i =
      let found = in-entries (moved q s.lower s.upper) s.rows e i in
      let shown = moved-shown q s.lower s.upper found.0.row e clear (plain found.0 found.1) found.2 in
      (found.0, in-filter (λ m. is_between s.lower s.upper m.row.name) s.rows found.0 found.1 shown.1, shown.0)

  to-here : (n : Numbered) (e : Entry) → In n (within s) → IsShown q n.row e → In e E
  to-here n e i shown =
      let h = here n i in
      entries-in (moved q s.lower s.upper) s.rows once n e h.0 (shown-moved q s.lower s.upper n.row e (plain n h.0) shown h.1)

  not-ahead : (back : Bool) (x y : List ℕ) → is_ahead back x y ≡ true → x ≡ y → ⊥
  not-ahead true x y less same = lt-irrefl y (subst (λ (t : List ℕ). Lt y t) same less)
  not-ahead false x y less same = lt-irrefl y (subst (λ (t : List ℕ). Lt t y) same less)

  once-both : Once (within s ++ R)
  once-both m n i j same = by (in-append m (within s) R i) (in-append n (within s) R j)
    where
      by : In m (within s) ⊎ In m R → In n (within s) ⊎ In n R → m.row ≡ n.row
      by (inl a) (inl b) = once m n (here m a).0 (here n b).0 same
      by (inl a) (inr b) = absurd (not-ahead q.reverse m.row.name n.row.name (later m n a b) same)
      by (inr a) (inl b) = absurd (not-ahead q.reverse n.row.name m.row.name (later n m b a) (sym same))
      by (inr a) (inr b) = onceR m n a b same

  came : (l : Option Entry) → last_entry E ≡ l → Came q (λ a. (m : Numbered) × In m (within s) × (m.row ≡ a)) l
  came None is = tt
  came (Some l) is =
      let found = from-here l (last-in E l is) in
      (found.0.row, plain found.0 (here found.0 found.1).0, found.2, (found.0, found.1, refl))

  came-ahead : (l : Option Entry) → last_entry E ≡ l → (n : Numbered) → In n R → Came q (λ a. is_ahead q.reverse a.name n.row.name ≡ true) l
  came-ahead None is n i = tt
  came-ahead (Some l) is n i =
      let found = from-here l (last-in E l is) in
      (found.0.row, plain found.0 (here found.0 found.1).0, found.2, later found.0 n found.1 i)

  abbrev rest : List Entry
  rest = all_entries (passed q (last_entry E)) R

  from-rest : (e : Entry) → In e rest → (n : Numbered) × In n R × IsShown (passed q (last_entry E)) n.row e × IsShown q n.row e
  from-rest e i =
      let found = in-entries (passed q (last_entry E)) R e i in (
        found.0,
        found.1,
        found.2,
        passed-shown q (λ a. (m : Numbered) × In m (within s) × (m.row ≡ a)) (last_entry E) found.0.row e clear
            (came (last_entry E) refl) (plainR found.0 found.1) found.2,
      )

  backward : (e : Entry) → In e (E ++ rest) → In e (all_entries q (within s ++ R))
  backward e i = by (in-append e E rest i)
    where
      by : In e E ⊎ In e rest → In e (all_entries q (within s ++ R))
      by (inl a) = let f = from-here e a in entries-in q (within s ++ R) once-both f.0 e (in-append-left f.0 (within s) R f.1) f.2
      by (inr a) = let f = from-rest e a in entries-in q (within s ++ R) once-both f.0 e (in-append-right f.0 (within s) R f.1) f.3

  forward : (e : Entry) → In e (all_entries q (within s ++ R)) → In e (E ++ rest)
  forward e i = found (in-entries q (within s ++ R) e i)
    where
      found : (n : Numbered) × In n (within s ++ R) × IsShown q n.row e → In e (E ++ rest)
      found f = by (in-append f.0 (within s) R f.1)
        where
          by : In f.0 (within s) ⊎ In f.0 R → In e (E ++ rest)
          by (inl a) = in-append-left e E rest (to-here f.0 e a f.2)
          by (inr a) = at (shown-passed q (last_entry E) f.0.row e (came-ahead (last_entry E) refl f.0 a) (plainR f.0 a) f.2)
            where
              at : IsShown (passed q (last_entry E)) f.0.row e ⊎ (last_entry E ≡ Some e) → In e (E ++ rest)
              at (inl shown) = in-append-right e E rest (entries-in (passed q (last_entry E)) R onceR f.0 e a shown)
              at (inr is) = in-append-left e E rest (last-in E e is)

  -- the last entry of the range, where that and one after it are rolled up alike
  not-alike : (l : Option Entry) → last_entry E ≡ l → (e f : Entry) → In e E → (n : Numbered) → In n R → IsShown (passed q l) n.row f → IsShown q n.row f
      → BothSubdir e f → ⊥
  not-alike None is e f i n j shown there alike = let none = last-none E is in absurd (subst (λ (es : List Entry). In e es) none i)
  not-alike (Some l) is e f i n j shown there alike = by (last-greatest q.reverse E l e rising is i)
    where
      rising : Rising q.reverse E
      rising = order-rising q.reverse (entries_asked (moved q s.lower s.upper) s.rows)

      one : e ≡ f
      one = alike.1 ∙ sym alike.2

      same : e ≡ l → ⊥
      same is =
          let last : l ≡ entry.Subdir alike.0 = sym is ∙ alike.1 in
          let sub = subdir-begins q n.row alike.0 (subst (λ (u : Entry). IsShown q n.row u) alike.2 there) in
          passed-apart q alike.0 n.row f (rolled-is-some q n.row.name alike.0 sub.0) (plainR n j)
          (subst (λ (u : Entry). IsShown (passed q (Some u)) n.row f) last shown) sub.1

      ahead : Ahead q.reverse e l → ⊥
      ahead before = at (in-direction q.reverse q found.0.row n.row l f (later found.0 n found.1 j) found.2 there)
        where
          found : (m : Numbered) × In m (within s) × IsShown q m.row l
          found = from-here l (last-in E l is)

          at : Ahead q.reverse l f ⊎ BothSubdir l f → ⊥
          at (inl after) = ahead-irrefl q.reverse e (ahead-trans q.reverse e l e before (subst (λ (u : Entry). Ahead q.reverse l u) (sym one) after))
          at (inr pair) = same (one ∙ (pair.2 ∙ sym pair.1))

      by : (e ≡ l) ⊎ Ahead q.reverse e l → ⊥
      by (inl is) = same is
      by (inr before) = ahead before

  cross : (e f : Entry) → In e E → In f rest → Ahead q.reverse e f
  cross e f i j = by (from-here e i) (from-rest f j)
    where
      by : (m : Numbered) × In m (within s) × IsShown q m.row e → (n : Numbered) × In n R × IsShown (passed q (last_entry E)) n.row f × IsShown q n.row f
          → Ahead q.reverse e f
      by m n = at (in-direction q.reverse q m.0.row n.0.row e f (later m.0 n.0 m.1 n.1) m.2 n.3)
        where
          at : Ahead q.reverse e f ⊎ BothSubdir e f → Ahead q.reverse e f
          at (inl p) = p
          at (inr alike) = absurd (not-alike (last_entry E) refl e f i n.0 n.1 n.2 n.3 alike)

  step : all_entries q (within s ++ R) ≡ E ++ rest
  step =
      one-rising q.reverse (all_entries q (within s ++ R)) (E ++ rest) (order-rising q.reverse (entries_asked q (within s ++ R)))
      (rising-append q.reverse E rest (order-rising q.reverse (entries_asked (moved q s.lower s.upper) s.rows))
      (subst (λ (b : Bool). Rising b rest) (reverse-passed q (last_entry E))
      (order-rising (passed q (last_entry E)).reverse (entries_asked (passed q (last_entry E)) R)))
      cross)
      forward backward

-- ---- all ranges

all-plain : (ss : List Segment) → Segments ss → ArePlain (all_within ss)
all-plain [] are n h = absurd h
all-plain (s ∷ ss) are n h = by (all-plain ss are.2) (in-append n (within s) (all_within ss) h)
  where
    by : ArePlain (all_within ss) → In n (within s) ⊎ In n (all_within ss) → IsPlain n.row.name
    by more (inl a) = are.1 n (filter-in (λ m. is_between s.lower s.upper m.row.name) s.rows n a).0
    by more (inr a) = more n a

apart-names : (back : Bool) (x y : List ℕ) → is_ahead back x y ≡ true → x ≡ y → ⊥
apart-names true x y less same = lt-irrefl y (subst (λ (t : List ℕ). Lt y t) same less)
apart-names false x y less same = lt-irrefl y (subst (λ (t : List ℕ). Lt t y) same less)

pub all-once : (back : Bool) (ss : List Segment) → Segments ss → InTurn back ss → Once (all_within ss)
all-once back [] are turn m n i j same = absurd i
all-once back (s ∷ ss) are turn m n i j same =
    by (all-once back ss are.2 turn.1) (in-append m (within s) (all_within ss) i) (in-append n (within s) (all_within ss) j)
  where
    here : (k : Numbered) → In k (within s) → In k s.rows
    here k a = (filter-in (λ l. is_between s.lower s.upper l.row.name) s.rows k a).0

    by : Once (all_within ss) → In m (within s) ⊎ In m (all_within ss) → In n (within s) ⊎ In n (all_within ss) → m.row ≡ n.row
    by more (inl a) (inl b) = are.0 m n (here m a) (here n b) same
    by more (inl a) (inr b) = absurd (apart-names back m.row.name n.row.name (turn.0 m n a b) same)
    by more (inr a) (inl b) = absurd (apart-names back n.row.name m.row.name (turn.0 n m b a) (sym same))
    by more (inr a) (inr b) = more m n a b same

nothing-listed : (q : Query) → listing q [] ≡ []
nothing-listed q = ap (λ (es : List Entry). take q.limit es) (by q.reverse) ∙ take-nil q.limit
  where
    none : List Entry
    none = []

    by : (b : Bool) → all_entries (record q { reverse = b }) [] ≡ []
    by true = refl
    by false = refl

-- so many entries, and then so many of others as are left
take-both : (n : ℕ) (E Y : List Entry) → take n (E ++ Y) ≡ take n E ++ take (n - length (take n E)) Y
take-both n E Y = by (nat_lt n (length E)) refl
  where
    all : length E ≤ n → take n (E ++ Y) ≡ take n E ++ take (n - length (take n E)) Y
    all within =
        let whole : take n E ≡ E = take_all n E within in
        let more : length E + (n - length E) ≡ n = omega (arith, within) in
        ap (λ (k : ℕ). take k (E ++ Y)) (sym more) ∙ take-append-add E Y (n - length E)
        ∙ ap (λ (F : List Entry). F ++ take (n - length F) Y) (sym whole)

    part : n ≤ length E → take n (E ++ Y) ≡ take n E ++ take (n - length (take n E)) Y
    part within =
        let none : n - length (take n E) ≡ 0 = omega (arith, length-take-le n E within) in
        take-append-le n E Y within ∙ sym (append-nil (take n E)) ∙ ap (λ (k : ℕ). take n E ++ take k Y) (sym none)

    by : (b : Bool) → nat_lt n (length E) ≡ b → take n (E ++ Y) ≡ take n E ++ take (n - length (take n E)) Y
    by true is = part (grind (arith, nat_tests, is))
    by false is = all (grind (arith, nat_tests, is))

-- where fewer entries are shown than there are, none is asked for after them
after-taken : (n : ℕ) (E : List Entry) (q : Query) (R : List Numbered)
    → take (n - length (take n E)) (all_entries (passed q (last_entry (take n E))) R) ≡ take (n - length (take n E)) (all_entries (passed q (last_entry E)) R)
after-taken n E q R = by (nat_lt n (length E)) refl
  where
    by : (b : Bool) → nat_lt n (length E) ≡ b
        → take (n - length (take n E)) (all_entries (passed q (last_entry (take n E))) R)
        ≡ take (n - length (take n E)) (all_entries (passed q (last_entry E)) R)
    by true is =
        let within : n ≤ length E = grind (arith, nat_tests, is) in
        let none : n - length (take n E) ≡ 0 = omega (arith, length-take-le n E within) in
        ap (λ (k : ℕ). take k (all_entries (passed q (last_entry (take n E))) R)) none
        ∙ ap (λ (k : ℕ). take k (all_entries (passed q (last_entry E)) R)) (sym none)
    by false is =
        let within : length E ≤ n = grind (arith, nat_tests, is) in
        ap (λ (F : List Entry). take (n - length (take n E)) (all_entries (passed q (last_entry F)) R)) (take_all n E within)

in-take : (n : ℕ) (es : List Entry) (e : Entry) → In e (take n es) → In e es
in-take n es e h = subst (In e) (take-append-drop n es) (in-append-left e (take n es) (drop n es) h)

abbrev entries_of : Query → Segment → List Entry
entries_of q s = all_entries (moved q s.lower s.upper) s.rows

abbrev next_of : Query → Segment → Query
next_of q s = after_entries q (take q.limit (entries_of q s))

module _ (q : Query) (s : Segment) (ss : List Segment) (clear : IsClear q) (are : Segments (s ∷ ss)) (turn : InTurn q.reverse (s ∷ ss)) where
  onceR : Once (all_within ss)
  onceR = all-once q.reverse ss are.2 turn.1

  plainR : ArePlain (all_within ss)
  plainR = all-plain ss are.2

  all-of : all_entries q (within s ++ all_within ss) ≡ entries_of q s ++ all_entries (passed q (last_entry (entries_of q s))) (all_within ss)
  all-of = step q s (all_within ss) clear are.0 are.1 onceR plainR turn.0

  shown-of : (l : Option Entry) → last_entry (take q.limit (entries_of q s)) ≡ l → Came q (λ a. Unit {0}) l
  shown-of None is = tt
  shown-of (Some l) is =
      let found = from-here q s (all_within ss) clear are.0 are.1 onceR plainR turn.0 l
      (in-take q.limit (entries_of q s) l (last-in (take q.limit (entries_of q s)) l is)) in
      let row = here q s (all_within ss) clear are.0 are.1 onceR plainR turn.0 found.0 found.1 in
      (found.0.row, are.1 found.0 row.0, found.2, tt)

  clear-next : IsClear (next_of q s)
  clear-next x plain asked t is =
      passed-clear q (λ a. Unit {0}) (last_entry (take q.limit (entries_of q s))) clear (shown-of (last_entry (take q.limit (entries_of q s))) refl) x
      plain asked t is

  turn-next : InTurn (next_of q s).reverse ss
  turn-next = subst (λ (b : Bool). InTurn b ss) (sym (reverse-passed q (last_entry (take q.limit (entries_of q s))))) turn.1

pub in-turn : (q : Query) (ss : List Segment) → IsClear q → Segments ss → InTurn q.reverse ss → listed_in_turn q ss ≡ listing q (all_within ss)
in-turn q [] clear are turn = sym (nothing-listed q)
in-turn q (s ∷ ss) clear are turn =
    ap (λ (es : List Entry). take q.limit (entries_of q s) ++ es)
    (in-turn (next_of q s) ss (clear-next q s ss clear are turn) are.2 (turn-next q s ss clear are turn))
    ∙ ap (λ (es : List Entry). take q.limit (entries_of q s) ++ es) (after-taken q.limit (entries_of q s) q (all_within ss))
    ∙ sym (take-both q.limit (entries_of q s) (all_entries (passed q (last_entry (entries_of q s))) (all_within ss)))
    ∙ ap (λ (es : List Entry). take q.limit es) (sym (all-of q s ss clear are turn))

-- ---- the query as it begins

begun-clear : (q : Query) → IsClear (begun q)
begun-clear q = by (leaves_out q) refl
  where
    by : (b : Bool) → leaves_out q ≡ b → IsClear (from q (cond b (behind false q.marker) q.marker))
    by true is x plain asked t rolled = apart t (q.marker ++ 255 ∷ []) (λ same. plain-end q.marker (subst IsPlain same (plain-rolled q x t plain rolled)))
    by false is x plain asked t rolled = clear-of-other q is x plain asked t rolled

-- where names are left out, the marker is what they are rolled up to, and the listing goes forwards
abbrev LeavesOut : Query → Type 0
LeavesOut q = (q.reverse ≡ false) × (rolled_of q q.marker ≡ Some q.marker)

leaves-out-is : (q : Query) → leaves_out q ≡ true → LeavesOut q
leaves-out-is q is = by q.reverse refl (rolled_of q q.marker) refl is
  where
    by : (b : Bool) → q.reverse ≡ b → (o : Option (List ℕ)) → rolled_of q q.marker ≡ o → (not b && is_this q.marker o) ≡ true
        → (q.reverse ≡ false) × (rolled_of q q.marker ≡ Some q.marker)
    by true back o rolled h = cc
    by false back None rolled h = cc
    by false back (Some t) rolled h = (back, rolled ∙ ap (λ (u : List ℕ). Some u) (sym (same_name q.marker t h)))

over-marker : (q : Query) → (rolled_of q q.marker ≡ Some q.marker) → (x : List ℕ) → is_onward false q.marker x ≡ true → Lt q.marker x
over-marker q is x h = over-lt q.marker x (rolled-is-some q q.marker q.marker is) h

-- it shows what the query shows
begun-shows : (q : Query) (row : Row) (e : Entry) → IsPlain row.name → IsShown q row e → IsShown (begun q) row e
begun-shows q row e plain s = by (leaves_out q) refl
  where
    abs : LeavesOut q → IsShown (from q (behind false q.marker)) row e
    abs out =
        shown-from q (behind false q.marker) row e s (subst (λ (b : Bool). is_onward b (behind false q.marker) row.name ≡ true) (sym out.0) onward)
        (λ t is. apart t (behind false q.marker) (λ same. plain-end q.marker (subst IsPlain same (plain-rolled q row.name t plain is))))
      where
        less : Lt q.marker row.name
        less = over-marker q out.1 row.name (subst (λ (b : Bool). is_onward b q.marker row.name ≡ true) out.0 (asked-onward q row.name s.asked))

        at : Begins row.name q.marker ⊎ (Lt row.name q.marker ⊎ ((z : List ℕ) → Lt (q.marker ++ z) row.name)) → Lt (q.marker ++ 255 ∷ []) row.name
        at (inl b) = absurd (how s.how)
          where
            rolled : rolled_of q row.name ≡ Some q.marker
            rolled = rolled-alike q q.marker row.name q.marker out.1 b

            how : IsWhole q row e ⊎ IsRolled q row e → ⊥
            how (inl w) = let none = w.0 in let one = rolled in cc
            how (inr r) =
                let some = r.1 in
                let one = rolled in
                let same : r.0 ≡ q.marker = cc in
                let self : bytes_eq r.0 q.marker ≡ true = ap (λ (t : List ℕ). bytes_eq t q.marker) same ∙ name_itself q.marker in
                let other = r.2 in
                cc
        at (inr (inl p)) = absurd (lt-asym q.marker row.name less p)
        at (inr (inr more)) = more (255 ∷ [])

        onward : is_onward false (behind false q.marker) row.name ≡ true
        onward = lt-over (q.marker ++ 255 ∷ []) row.name (at (begins-or row.name q.marker))

    by : (b : Bool) → leaves_out q ≡ b → IsShown (from q (cond b (behind false q.marker) q.marker)) row e
    by true is = abs (leaves-out-is q is)
    by false is = record { live = s.live; asked = s.asked; how = s.how }

shows-begun : (q : Query) (row : Row) (e : Entry) → IsPlain row.name → IsShown (begun q) row e → IsShown q row e
shows-begun q row e plain s = by (leaves_out q) refl s
  where
    not-nil : (s : List ℕ) → s ++ 255 ∷ [] ≡ [] → ⊥
    not-nil [] h = cc
    not-nil (b ∷ bs) h = cc

    abs : LeavesOut q → IsShown (from q (behind false q.marker)) row e → IsShown q row e
    abs out s =
        shown-from (from q (behind false q.marker)) q.marker row e s
        (subst (λ (b : Bool). is_onward b q.marker row.name ≡ true) (sym out.0)
        (lt-over q.marker row.name (front-lt (q.marker ++ 255 ∷ []) q.marker row.name (255 ∷ [], refl) less)))
        (λ t is. apart t q.marker (λ same. other t is same))
      where
        less : Lt (q.marker ++ 255 ∷ []) row.name
        less =
            over-lt (q.marker ++ 255 ∷ []) row.name (not-nil q.marker)
            (subst (λ (b : Bool). is_onward b (behind false q.marker) row.name ≡ true) out.0 (asked-onward (from q (behind false q.marker)) row.name s.asked))

        other : (t : List ℕ) → rolled_of q row.name ≡ Some t → t ≡ q.marker → ⊥
        other t is same =
            let begins = subst (Begins row.name) same (rolled-begins q.delimiter (length q.prefix) row.name t is) in
            lt-asym row.name (q.marker ++ 255 ∷ []) (begins-before-end row.name q.marker plain begins) less

    by : (b : Bool) → leaves_out q ≡ b → IsShown (from q (cond b (behind false q.marker) q.marker)) row e → IsShown q row e
    by true is s = abs (leaves-out-is q is) s
    by false is s = record { live = s.live; asked = s.asked; how = s.how }

begun-lists : (q : Query) (rows : List Numbered) → Once rows → ArePlain rows → listing (begun q) rows ≡ listing q rows
begun-lists q rows once plain =
    ap (λ (es : List Entry). take q.limit es)
    (one-rising q.reverse (all_entries (begun q) rows) (all_entries q rows)
    (order-rising q.reverse (entries_asked (begun q) rows)) (order-rising q.reverse (entries_asked q rows))
    (λ e h. let n = in-entries (begun q) rows e h in entries-in q rows once n.0 e n.1 (shows-begun q n.0.row e (plain n.0 n.1) n.2))
    (λ e h. let n = in-entries q rows e h in entries-in (begun q) rows once n.0 e n.1 (begun-shows q n.0.row e (plain n.0 n.1) n.2)))

pub add-up : ListingsAddUp
add-up q segments are turn = by (segments-of segments are) (turn-of q.reverse segments turn)
  where
    by : Segments segments → InTurn q.reverse segments → listed_in_turn (begun q) segments ≡ listing q (all_within segments)
    by them order =
        in-turn (begun q) segments (begun-clear q) them order
        ∙ begun-lists q (all_within segments) (all-once q.reverse segments them order) (all-plain segments them)
