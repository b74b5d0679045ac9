-- A walk over rows in the order of names gives the entries of the listing, one after the other.
use Rattle.std.proofs.Common.{◌≡◌, ℕ, ◌<◌, ◌≤◌, zero, suc, Bool, true, false, cond, not, ◌&&◌, List, [], ◌∷◌, ◌++◌, length, map, take, reverse}
use Rattle.std.proofs.Common.{append_assoc, Option, None, Some, refl, sym, ◌∙◌, ap, arith, subst, ◌⊎◌, inl, inr}
use Rattle.std.specs.Cmp.{IsTotalOrder}
use Rattle.std.specs.Cmp.Lexicographic.{slice_cmp}
use Rattle.std.specs.List.{AllByRecursion, cons_option, find, fold}
use Rattle.std.specs.List.Sorted.{IsStrictlySortedBy}
use Rattle.std.specs.Map.{keys_of, values_of}
use Rattle.std.specs.Option.{option_map}
use Rattle.std.specs.Ordering.{flip_args, is_le, is_lt, nat_cmp}
use Rattle.std.specs.Str.{bytes_eq}
use Rattle.std.specs.declared.cmp.Ordering.{Ordering}
use Rattle.std.specs.declared.cmp.Ordering.TheVariants.{Less, Equal, Greater}
use Rattle.std.proofs.lemmas.Cmp.{back_total, nat_list_cmp_total}
use Rattle.std.proofs.lemmas.List.{append-nil, length-append, reverse-append, take_all}
use Rattle.std.proofs.lemmas.Map.Lookups.{exact_bytes}
use Rattle.std.proofs.lemmas.Str.{IsUtf8-had}
use Rattle.sw_rows.specs.Names.{is_between, ListsBetween, row_of}
use Rattle.sw_rows.specs.Rows.{find_named, is_named, IsNamedOnce}
use Rattle.sw_rows.specs.declared.numbered.Numbered.{Numbered}
use Rattle.sw_rows.specs.declared.row.Row.{Row}
use Rattle.sw_rows.proofs.Named.{name_itself, same_name}
use Rattle.sw_listing.specs.Asking.{is_asked, rolled_text}
use Rattle.sw_listing.specs.Entries.{entry_text}
use Rattle.sw_listing.specs.Listing.{by_text, entries_asked, entry_of, in_direction, listing, shows, with_entry}
use Rattle.sw_listing.specs.Walking.{above_all, AreBeyond, AreHidden, Finds, IsLower, IsUpper, Joins, Skips, Takes}
use Rattle.sw_listing.specs.declared.entry.Entry.{Entry}
use Rattle.sw_listing.specs.declared.entry.Entry.TheVariants as entry
use Rattle.sw_listing.specs.declared.query.Query.{Query}
use Rattle.sw_listing.proofs.Members.{all-in, front-of, In, in-append, in-left, in-reverse, in-reversed, in-right, insert-keeps, insert-keyed}
use Rattle.sw_listing.proofs.Members.{insert-there, inserted}
use Rattle.sw_listing.proofs.Members.{not-itself, sorted-across, sorted-back, sorted-front, sorted-insert, sorted-push, sorted-reverse}
use Rattle.sw_listing.proofs.Orders.{Begins, begins-below, between-begins, le-begins, le-lt, less_or, low-text, lt-le}
use Rattle.sw_listing.proofs.Rolls.{rolled_in_order, shown_text, text-begins, text-same}

abbrev names_of : List Row → List (List ℕ)
names_of rows = map (λ r. r.name) rows

abbrev texts_of : List Entry → List (List ℕ)
texts_of entries = map entry_text entries

-- the order of names in the direction of a listing
abbrev pub toward : Bool → List ℕ → List ℕ → Ordering
toward true = flip_args (slice_cmp nat_cmp)
toward false = slice_cmp nat_cmp

toward_total : (back : Bool) → IsTotalOrder (toward back)
toward_total true = back_total nat_list_cmp_total
toward_total false = nat_list_cmp_total

-- ---- what a row is listed as

-- a row that is listed has the text of its name, and the entry that goes with it
pub record Listed_as (query : Query) (row : Row) (e : Entry) : Type 0 where
  pub rolled : Option (List ℕ)
  pub is : rolled_text query.delimiter (length query.prefix) row.name ≡ rolled
  pub entry : entry_of query row rolled ≡ Some e
  pub asked : is_asked query row.name ≡ true

pub and_true : (a b : Bool) → (a && b) ≡ true → (a ≡ true) × (b ≡ true)
and_true true b is = (refl, is)
and_true false b is = cc

pub listed_as : (query : Query) (row : Row) (e : Entry) → shows query row ≡ Some e → Listed_as query row e
listed_as query row e shown = at (not row.deleted && is_asked query row.name) refl shown
  where
    at : (b : Bool) → (not row.deleted && is_asked query row.name) ≡ b →
        cond b (entry_of query row (rolled_text query.delimiter (length query.prefix) row.name)) None ≡ Some e → Listed_as query row e
    at true is shown = record {
      rolled = rolled_text query.delimiter (length query.prefix) row.name;
      is = refl;
      entry = shown;
      asked = (and_true (not row.deleted) (is_asked query row.name) is).1;
    }
    at false is shown = cc

entry_shown : (query : Query) (row : Row) (e : Entry) (u : Option (List ℕ)) → entry_of query row u ≡ Some e → entry_text e ≡ shown_text row.name u
entry_shown query row e None is = let same : entry.Row row ≡ e = cc in ap entry_text (sym same)
entry_shown query row e (Some text) is = at (bytes_eq text query.marker) is
  where
    at : (b : Bool) → cond b None (Some (entry.Subdir text)) ≡ Some e → entry_text e ≡ text
    at true is = cc
    at false is = let same : entry.Subdir text ≡ e = cc in ap entry_text (sym same)

-- the entry of a name that is rolled up is that of its text alone
entry_rolled : (query : Query) (a b : Row) (e f : Entry) (text : List ℕ) → entry_of query a (Some text) ≡ Some e → entry_of query b (Some text) ≡ Some f → e ≡ f
entry_rolled query a b e f text is_e is_f = let both : Some e ≡ Some f = sym is_e ∙ is_f in cc

-- ---- members of the rows

abbrev pub IsShown : Query → List Numbered → Entry → Type 0
IsShown query list e = (n : Numbered) × In n list × (shows query n.row ≡ Some e)

found_in : (p : Numbered → Bool) (ns : List Numbered) (n : Numbered) → find p ns ≡ Some n → In n ns × (p n ≡ true)
found_in p [] n found = cc
found_in p (m ∷ ms) n found = at (p m) refl found (λ h. found_in p ms n h)
  where
    at : (b : Bool) → p m ≡ b → cond b (Some m) (find p ms) ≡ Some n → (find p ms ≡ Some n → In n ms × (p n ≡ true)) → In n (m ∷ ms) × (p n ≡ true)
    at true is found rest = let same : m ≡ n = cc in (inl same, ap p (sym same) ∙ is)
    at false is found rest = let r = rest found in (inr r.0, r.1)

row_found : (ns : List Numbered) (name : List ℕ) (row : Row) → find_named ns name ≡ Some row → (n : Numbered) × In n ns × (n.row ≡ row)
row_found ns name row found = at (find (is_named name) ns) refl found
  where
    at : (o : Option Numbered) → find (is_named name) ns ≡ o → option_map (λ n. n.row) o ≡ Some row → (n : Numbered) × In n ns × (n.row ≡ row)
    at None is found = cc
    at (Some n) is found = (n, (found_in (is_named name) ns n is).0, cc)

-- each row is found by its name
found_itself : (ns : List Numbered) (n : Numbered) → IsNamedOnce ns → In n ns → find (is_named n.row.name) ns ≡ Some n
found_itself [] n once is = absurd is
found_itself (m ∷ ms) n once (inl here) = subst (λ (x : Numbered). find (is_named x.row.name) (m ∷ ms) ≡ Some x) here (rw (name_itself m.row.name) refl)
found_itself (m ∷ ms) n once (inr there) = at (is_named n.row.name m) refl (found_itself ms n once.1 there)
  where
    at : (b : Bool) → is_named n.row.name m ≡ b → find (is_named n.row.name) ms ≡ Some n → cond b (Some m) (find (is_named n.row.name) ms) ≡ Some n
    at true is rest =
        let named : m.row.name ≡ n.row.name = same_name m.row.name n.row.name is in
        let none : find (is_named m.row.name) ms ≡ None = once.0 in
        let gone : find (is_named n.row.name) ms ≡ None = subst (λ (x : List ℕ). find (is_named x) ms ≡ None) named none in
        cc
    at false is rest = rest

named_itself : (ns : List Numbered) (n : Numbered) → IsNamedOnce ns → In n ns → find_named ns n.row.name ≡ Some n.row
named_itself ns n once is = ap (λ (o : Option Numbered). option_map (λ m. m.row) o) (found_itself ns n once is)

name_in : (rows : List Row) (row : Row) → In row rows → In row.name (names_of rows)
name_in [] row is = absurd is
name_in (r ∷ rs) row (inl here) = inl (ap (λ (x : Row). x.name) here)
name_in (r ∷ rs) row (inr there) = inr (name_in rs row there)

-- a row among rows in the order of names is found by its name, and a row that is found is among them
row_itself : (rows : List Row) (row : Row) → IsStrictlySortedBy (slice_cmp nat_cmp) (names_of rows) → In row rows → row_of rows row.name ≡ Some row
unfolding IsStrictlySortedBy
row_itself [] row sorted is = absurd is
row_itself (r ∷ rs) row sorted (inl here) = subst (λ (x : Row). row_of (r ∷ rs) x.name ≡ Some x) here (rw (name_itself r.name) refl)
row_itself (r ∷ rs) row sorted (inr there) = at (bytes_eq r.name row.name) refl (row_itself rs row sorted.1 there)
  where
    at : (b : Bool) → bytes_eq r.name row.name ≡ b → row_of rs row.name ≡ Some row → cond b (Some r) (row_of rs row.name) ≡ Some row
    at true is rest =
        let named : r.name ≡ row.name = same_name r.name row.name is in
        let up : slice_cmp nat_cmp r.name row.name ≡ Less = all-in (λ y. slice_cmp nat_cmp r.name y
        ≡ Less) (names_of rs) row.name sorted.0 (name_in rs row there) in
        absurd (not-itself nat_list_cmp_total row.name (subst (λ (x : List ℕ). slice_cmp nat_cmp x row.name ≡ Less) named up))
    at false is rest = rest

row_in : (rows : List Row) (name : List ℕ) (row : Row) → row_of rows name ≡ Some row → In row rows
row_in [] name row found = cc
row_in (r ∷ rs) name row found = at (bytes_eq r.name name) found (λ h. row_in rs name row h)
  where
    at : (b : Bool) → cond b (Some r) (row_of rs name) ≡ Some row → (row_of rs name ≡ Some row → In row rs) → In row (r ∷ rs)
    at true found rest = inl cc
    at false found rest = inr (rest found)

-- rows between two bounds are rows of the list, and those whose names lie there are among them
between_stored : (lower upper : List ℕ) (list : List Numbered) (rows : List Row) → ListsBetween lower upper list rows → (row : Row) → In row rows →
    (is_between lower upper row.name ≡ true) × ((n : Numbered) × In n list × (n.row ≡ row))
between_stored lower upper list rows lists row is =
    at (is_between lower upper row.name) refl (sym (lists.exact row.name) ∙ row_itself rows row lists.ascending is)
  where
    at : (b : Bool) → is_between lower upper row.name ≡ b → cond b (find_named list row.name) None ≡ Some row →
        (is_between lower upper row.name ≡ true) × ((n : Numbered) × In n list × (n.row ≡ row))
    at true within found = (within, row_found list row.name row found)
    at false within found = cc

between_listed : (lower upper : List ℕ) (list : List Numbered) (rows : List Row) → IsNamedOnce list → ListsBetween lower upper list rows → (n : Numbered) →
    In n list →
    is_between lower upper n.row.name ≡ true → In n.row rows
between_listed lower upper list rows once lists n is within =
    row_in rows n.row.name n.row (lists.exact n.row.name ∙ rw within (named_itself list n once is))

-- ---- the walk

-- what was given so far is the beginning of the listing: what is listed besides is left, and comes behind it
pub record Walk (query : Query) (list : List Numbered) (out : List Entry) (left : List Row) : Type 0 where
  pub listed : (x : Entry) → In x out → IsShown query list x
  pub rising : IsStrictlySortedBy (toward query.reverse) (texts_of out)
  pub rest : (n : Numbered) → In n list → (e : Entry) → shows query n.row ≡ Some e → In e out ⊎ In n.row left
  pub beyond : (r : Row) → In r left → (e : Entry) → shows query r ≡ Some e → (x : Entry) → In x out → toward query.reverse (entry_text x) (entry_text e) ≡ Less
  pub stored : (r : Row) → In r left → (n : Numbered) × In n list × (n.row ≡ r)
  pub sorted : IsStrictlySortedBy (slice_cmp nat_cmp) (names_of left)

both_true : (a b : Bool) → a ≡ true → b ≡ true → (a && b) ≡ true
both_true a b is_a is_b = rw (is_a, is_b) refl

pub walk-start : (query : Query) (list : List Numbered) (lower upper : List ℕ) (left : List Row) → IsNamedOnce list → IsLower query lower →
    IsUpper query upper →
    ListsBetween lower upper list left → Walk query list [] left
unfolding IsStrictlySortedBy
walk-start query list lower upper left once low high lists = record {
  listed = λ x is. absurd is;
  rising = tt;
  rest = λ n is e shown. inr (between_listed lower upper list left once lists n is
      (both_true (is_le (slice_cmp nat_cmp lower n.row.name)) (is_lt (slice_cmp nat_cmp n.row.name upper)) (low n.row e shown) (high n.row e shown)));
  beyond = λ r is e shown x no_x. absurd no_x;
  stored = λ r is. (between_stored lower upper list left lists r is).1;
  sorted = lists.ascending;
}

-- rows that aren't listed are passed over
hidden_none : (query : Query) (rows : List Row) (r : Row) (e : Entry) → AreHidden query rows → In r rows → shows query r ≡ Some e → ⊥
hidden_none query [] r e hidden is shown = is
hidden_none query (x ∷ xs) r e hidden (inl here) shown =
    let none : shows query r ≡ None = subst (λ (y : Row). shows query y ≡ None) here hidden.0 in
    cc
hidden_none query (x ∷ xs) r e hidden (inr there) shown = hidden_none query xs r e hidden.1 there shown

names-append : (xs ys : List Row) → names_of (xs ++ ys) ≡ names_of xs ++ names_of ys
names-append [] ys = refl
names-append (x ∷ xs) ys = ap (λ (t : List (List ℕ)). x.name ∷ t) (names-append xs ys)

-- what is left of rows, where some were passed over or taken
record Keeps (back : Bool) (old passed new : List Row) : Type 0 where
  from : (r : Row) → In r old → In r passed ⊎ In r new
  into : (r : Row) → In r new → In r old
  gone : (r : Row) → In r passed → In r old
  sorted : IsStrictlySortedBy (slice_cmp nat_cmp) (names_of new)
  across : (a b : Row) → In a passed → In b new → toward back a.name b.name ≡ Less

keeps : (back : Bool) (old passed new : List Row) → Joins back old passed new → IsStrictlySortedBy (slice_cmp nat_cmp) (names_of old) →
    Keeps back old passed new
keeps true old passed new joined sorted =
    let S : List Row → Type 0 = λ x. IsStrictlySortedBy (slice_cmp nat_cmp) (names_of x) in
    let all : IsStrictlySortedBy (slice_cmp nat_cmp) (names_of new ++ names_of passed) =
    subst (λ (x : List (List ℕ)). IsStrictlySortedBy (slice_cmp nat_cmp) x) (ap names_of joined ∙ names-append new passed) sorted in
    record {
      from = λ r is. elim (in-append r new passed (subst (λ (x : List Row). In r x) joined is)) [ inl l ↦ inr l | inr p ↦ inl p ];
      into = λ r is. subst (λ (x : List Row). In r x) (sym joined) (in-left r new passed is);
      gone = λ r is. subst (λ (x : List Row). In r x) (sym joined) (in-right r new passed is);
      sorted = sorted-front (slice_cmp nat_cmp) (names_of new) (names_of passed) all;
      across = λ a b is_a is_b. sorted-across (slice_cmp nat_cmp) (names_of new) (names_of passed) all b.name a.name (name_in new b is_b)
          (name_in passed a is_a);
    }
keeps false old passed new joined sorted =
    let all : IsStrictlySortedBy (slice_cmp nat_cmp) (names_of passed ++ names_of new) =
    subst (λ (x : List (List ℕ)). IsStrictlySortedBy (slice_cmp nat_cmp) x) (ap names_of joined ∙ names-append passed new) sorted in
    record {
      from = λ r is. in-append r passed new (subst (λ (x : List Row). In r x) joined is);
      into = λ r is. subst (λ (x : List Row). In r x) (sym joined) (in-right r passed new is);
      gone = λ r is. subst (λ (x : List Row). In r x) (sym joined) (in-left r passed new is);
      sorted = sorted-back (slice_cmp nat_cmp) (names_of passed) (names_of new) all;
      across = λ a b is_a is_b. sorted-across (slice_cmp nat_cmp) (names_of passed) (names_of new) all a.name b.name (name_in passed a is_a)
          (name_in new b is_b);
    }

pub walk-skip : (query : Query) (list : List Numbered) (out : List Entry) (left new : List Row) → Walk query list out left → Skips query left new →
    Walk query list out new
walk-skip query list out left new walk skips =
    let k = keeps query.reverse left skips.passed new skips.joined walk.sorted in
    record {
      listed = walk.listed;
      rising = walk.rising;
      rest = λ n is e shown. elim (walk.rest n is e shown) [
        | inl done ↦ inl done
        | inr there ↦ elim (k.from n.row there) [
          | inl passed ↦ absurd (hidden_none query skips.passed n.row e skips.hidden passed shown)
          | inr still ↦ inr still
        ]
      ];
      beyond = λ r is e shown x is_x. walk.beyond r (k.into r is) e shown x is_x;
      stored = λ r is. walk.stored r (k.into r is);
      sorted = k.sorted;
    }

takes_joins : (back : Bool) (old : List Row) (row : Row) (new : List Row) → Takes back old row new → Joins back old (row ∷ []) new
takes_joins true old row new takes = takes
takes_joins false old row new takes = takes

texts-push : (out : List Entry) (e : Entry) → texts_of (out ++ e ∷ []) ≡ texts_of out ++ entry_text e ∷ []
texts-push [] e = refl
texts-push (x ∷ xs) e = ap (λ (t : List (List ℕ)). entry_text x ∷ t) (texts-push xs e)

text_all : (P : List ℕ → Type 0) (out : List Entry) → ((x : Entry) → In x out → P (entry_text x)) → AllByRecursion P (texts_of out)
text_all P [] each = tt
text_all P (x ∷ xs) each = (each x (inl refl), text_all P xs (λ y is. each y (inr is)))

-- one entry more, where what is left then comes behind it
walk-step : (query : Query) (list : List Numbered) (out : List Entry) (met after : List Row) (row : Row) (e : Entry) → Walk query list out met → In row met →
    shows query row ≡ Some e → ((r : Row) → In r after → (n : Numbered) × In n list × (n.row ≡ r)) → IsStrictlySortedBy (slice_cmp nat_cmp) (names_of after) →
    ((n : Numbered) → In n list → (f : Entry) → shows query n.row ≡ Some f → In n.row met → (f ≡ e) ⊎ In n.row after) →
    ((r : Row) → In r after → (f : Entry) → shows query r ≡ Some f → toward query.reverse (entry_text e) (entry_text f) ≡ Less) →
    Walk query list (out ++ e ∷ []) after
walk-step query list out met after row e walk is_row shown stored sorted further behind = record {
  listed = λ x is. elim (in-append x out (e ∷ []) is) [
    | inl old ↦ walk.listed x old
    | inr new ↦ elim new [
      | inl here ↦ subst (λ (y : Entry). IsShown query list y) here
          (let n = walk.stored row is_row in (n.0, n.1, ap (λ (r : Row). shows query r) n.2 ∙ shown))
      | inr there ↦ absurd there
    ]
  ];
  rising = subst (λ (t : List (List ℕ)). IsStrictlySortedBy (toward query.reverse) t) (sym (texts-push out e))
      (sorted-push (toward query.reverse) (texts_of out) (entry_text e) walk.rising
      (text_all (λ t. toward query.reverse t (entry_text e) ≡ Less) out (λ x is. walk.beyond row is_row e shown x is)));
  rest = λ n is f shown_f. elim (walk.rest n is f shown_f) [
    | inl done ↦ inl (in-left f out (e ∷ []) done)
    | inr there ↦ elim (further n is f shown_f there) [
      | inl same ↦ inl (in-right f out (e ∷ []) (inl (sym same)))
      | inr still ↦ inr still
    ]
  ];
  beyond = λ r is f shown_f x is_x. elim (in-append x out (e ∷ []) is_x) [
    | inl old ↦ (toward_total query.reverse).trans (entry_text x) (entry_text e) (entry_text f) (walk.beyond row is_row e shown x old) (behind r is f shown_f)
    | inr new ↦ elim new [
      | inl here ↦ subst (λ (y : Entry). toward query.reverse (entry_text y) (entry_text f) ≡ Less) here (behind r is f shown_f)
      | inr there ↦ absurd there
    ]
  ];
  stored = stored;
  sorted = sorted;
}

-- ---- the order of texts

less_apart : (a b : List ℕ) → is_le (slice_cmp nat_cmp a b) ≡ true → (a ≡ b → ⊥) → slice_cmp nat_cmp a b ≡ Less
less_apart a b le apart = at (slice_cmp nat_cmp a b) refl le
  where
    at : (o : Ordering) → slice_cmp nat_cmp a b ≡ o → is_le o ≡ true → o ≡ Less
    at Less is h = refl
    at Equal is h = absurd (apart (exact_bytes a b is))
    at Greater is h = cc

module _ (delimiter : Option ℕ) (behind : ℕ) where
  abbrev rolls : List ℕ → Option (List ℕ)
  rolls name = rolled_text delimiter behind name

  -- the texts of two names are apart, where the second one doesn't begin with what the first one is rolled up to
  texts_apart : (a b : List ℕ) (u v : Option (List ℕ)) → rolls a ≡ u → rolls b ≡ v → (a ≡ b → ⊥) → ((t : List ℕ) → u ≡ Some t → Begins b t → ⊥) →
      shown_text a u ≡ shown_text b v → ⊥
  texts_apart a b None None is_a is_b apart no_begin same = apart same
  texts_apart a b None (Some t) is_a is_b apart no_begin same =
      let begins : Begins a t = ([], same ∙ sym (append-nil t)) in
      let rolled : rolls a ≡ Some t = text-same delimiter behind b a t is_b begins in
      cc
  texts_apart a b (Some t) None is_a is_b apart no_begin same = no_begin t refl ([], sym same ∙ sym (append-nil t))
  texts_apart a b (Some t) (Some s) is_a is_b apart no_begin same =
      no_begin t refl (subst (λ (x : List ℕ). Begins b x) (sym same) (text-begins delimiter behind b s is_b))

  names_apart : (a b : List ℕ) → slice_cmp nat_cmp a b ≡ Less → a ≡ b → ⊥
  names_apart a b less same = not-itself nat_list_cmp_total b (subst (λ (x : List ℕ). slice_cmp nat_cmp x b ≡ Less) same less)

  forward_less : (a b : List ℕ) (u v : Option (List ℕ)) → rolls a ≡ u → rolls b ≡ v → slice_cmp nat_cmp a b ≡ Less → ((t : List ℕ) → u ≡ Some t →
      Begins b t → ⊥) →
      slice_cmp nat_cmp (shown_text a u) (shown_text b v) ≡ Less
  forward_less a b u v is_a is_b less no_begin =
      less_apart (shown_text a u) (shown_text b v) (rolled_in_order delimiter behind a b u v is_a is_b less)
      (texts_apart a b u v is_a is_b (names_apart a b less) no_begin)

  backward_less : (a b : List ℕ) (u v : Option (List ℕ)) → rolls a ≡ u → rolls b ≡ v → slice_cmp nat_cmp b a ≡ Less → ((t : List ℕ) → u ≡ Some t →
      Begins b t → ⊥) →
      slice_cmp nat_cmp (shown_text b v) (shown_text a u) ≡ Less
  backward_less a b u v is_a is_b less no_begin =
      less_apart (shown_text b v) (shown_text a u) (rolled_in_order delimiter behind b a v u is_b is_a less)
      (λ same. texts_apart a b u v is_a is_b (λ one. names_apart b a less (sym one)) no_begin (sym same))

  toward_less : (back : Bool) (a b : List ℕ) (u v : Option (List ℕ)) → rolls a ≡ u → rolls b ≡ v → toward back a b ≡ Less → ((t : List ℕ) → u ≡ Some t →
      Begins b t → ⊥) →
      toward back (shown_text a u) (shown_text b v) ≡ Less
  toward_less true = backward_less
  toward_less false = forward_less

-- entries of two rows stand as their names do, unless the second name begins with what the first is rolled up to
entries_less : (query : Query) (a b : Row) (e f : Entry) (la : Listed_as query a e) → shows query b ≡ Some f → toward query.reverse a.name b.name ≡ Less →
    ((t : List ℕ) → la.rolled ≡ Some t → Begins b.name t → ⊥) → toward query.reverse (entry_text e) (entry_text f) ≡ Less
entries_less query a b e f la shown less no_begin =
    let lb = listed_as query b f shown in
    rw (entry_shown query a e la.rolled la.entry, entry_shown query b f lb.rolled lb.entry)
    (toward_less query.delimiter (length query.prefix) query.reverse a.name b.name la.rolled lb.rolled la.is lb.is less no_begin)

-- ---- a row

pub walk-row : (query : Query) (list : List Numbered) (out : List Entry) (met new : List Row) (row : Row) (e : Entry) → Walk query list out met →
    Takes query.reverse met row new →
    shows query row ≡ Some e → rolled_text query.delimiter (length query.prefix) row.name ≡ None → Walk query list (out ++ e ∷ []) new
walk-row query list out met new row e walk takes shown unrolled =
    let k = keeps query.reverse met (row ∷ []) new (takes_joins query.reverse met row new takes) walk.sorted in
    let la = listed_as query row e shown in
    walk-step query list out met new row e walk (k.gone row (inl refl)) shown (λ r is. walk.stored r (k.into r is)) k.sorted
    (λ n is f shown_f there. elim (k.from n.row there) [
      | inl one ↦ elim one [
        | inl here ↦ inl (let both : Some f ≡ Some e = sym shown_f ∙ ap (λ (r : Row). shows query r) (sym here) ∙ shown in cc)
        | inr never ↦ absurd never
      ]
      | inr still ↦ inr still
    ])
    (λ r is f shown_f. entries_less query row r e f la shown_f (k.across row r (inl refl) is)
    (λ t rolled begins. let wrong : None ≡ Some t = sym unrolled ∙ la.is ∙ rolled in cc))

-- ---- names that are rolled up

pub less_dec : (a b : List ℕ) → (slice_cmp nat_cmp a b ≡ Less) ⊎ (is_le (slice_cmp nat_cmp b a) ≡ true)
less_dec a b = at (slice_cmp nat_cmp a b) refl
  where
    at : (o : Ordering) → slice_cmp nat_cmp a b ≡ o → (slice_cmp nat_cmp a b ≡ Less) ⊎ (is_le (slice_cmp nat_cmp b a) ≡ true)
    at Less is = inl is
    at Equal is = inr (less_or a b (λ e. let wrong : Equal ≡ Less = sym is ∙ e in cc))
    at Greater is = inr (less_or a b (λ e. let wrong : Greater ≡ Less = sym is ∙ e in cc))

pub is_less : (o : Ordering) → is_lt o ≡ true → o ≡ Less
is_less Less is = refl
is_less Equal is = cc
is_less Greater is = cc

not_le_lt : (a b : List ℕ) → is_le (slice_cmp nat_cmp a b) ≡ true → slice_cmp nat_cmp b a ≡ Less → ⊥
not_le_lt a b le lt = not-itself nat_list_cmp_total a (le-lt a b a le lt)

pub begins_le : (name text : List ℕ) → Begins name text → is_le (slice_cmp nat_cmp text name) ≡ true
begins_le name text begins = ap (λ (x : List ℕ). is_le (slice_cmp nat_cmp text x)) begins.1 ∙ le-begins text begins.0

pub row_below : (row : Row) (text : List ℕ) → Begins row.name text → slice_cmp nat_cmp row.name (above_all text) ≡ Less
row_below row text begins = begins-below text row.name (low-text row.name (IsUtf8-had row.name row.is_text)) begins

-- what stands behind the rows that are rolled up to a text
record Behind (back : Bool) (query : Query) (list : List Numbered) (text : List ℕ) (row : Row) (new after : List Row) : Type 0 where
  stored : (r : Row) → In r after → (n : Numbered) × In n list × (n.row ≡ r)
  sorted : IsStrictlySortedBy (slice_cmp nat_cmp) (names_of after)
  further : (n : Numbered) → In n list → (f : Entry) → shows query n.row ≡ Some f → In n.row new → Begins n.row.name text ⊎ In n.row after
  less : (r : Row) → In r after → toward back row.name r.name ≡ Less
  apart : (r : Row) → In r after → Begins r.name text → ⊥

stands_behind : (back : Bool) (query : Query) (list : List Numbered) (lower upper text : List ℕ) (row : Row) (new after : List Row) → IsNamedOnce list →
    IsLower query lower → IsUpper query upper → Begins row.name text → ((r : Row) → In r new → toward back row.name r.name ≡ Less) →
    AreBeyond back lower upper text list after → Behind back query list text row new after
stands_behind true query list lower upper text row new after once low high begins come lists = record {
  stored = λ r is. (between_stored lower text list after lists r is).1;
  sorted = lists.ascending;
  further = λ n is f shown there. elim (less_dec n.row.name text) [
    | inl under ↦ inr (between_listed lower text list after once lists n is
        (both_true (is_le (slice_cmp nat_cmp lower n.row.name)) (is_lt (slice_cmp nat_cmp n.row.name text)) (low n.row f shown) (ap is_lt under)))
    | inr above ↦ inl (between-begins text n.row.name begins.0 above (ap (λ (x : List ℕ). slice_cmp nat_cmp n.row.name x) (sym begins.1) ∙ come n.row there))
  ];
  less = λ r is. lt-le r.name text row.name
      (is_less (slice_cmp nat_cmp r.name text) (and_true (is_le (slice_cmp nat_cmp lower r.name)) (is_lt (slice_cmp nat_cmp r.name text))
      (between_stored lower text list after lists r is).0).1) (begins_le row.name text begins);
  apart = λ r is starts. not_le_lt text r.name (begins_le r.name text starts)
      (is_less (slice_cmp nat_cmp r.name text) (and_true (is_le (slice_cmp nat_cmp lower r.name)) (is_lt (slice_cmp nat_cmp r.name text))
      (between_stored lower text list after lists r is).0).1);
}
stands_behind false query list lower upper text row new after once low high begins come lists = record {
  stored = λ r is. (between_stored (above_all text) upper list after lists r is).1;
  sorted = lists.ascending;
  further = λ n is f shown there. elim (less_dec n.row.name (above_all text)) [
    | inl under ↦ inl (between-begins text n.row.name (255 ∷ []) (ap is_le (le-lt text row.name n.row.name (begins_le row.name text begins)
        (come n.row there))) under)
    | inr above ↦ inr (between_listed (above_all text) upper list after once lists n is
        (both_true (is_le (slice_cmp nat_cmp (above_all text) n.row.name)) (is_lt (slice_cmp nat_cmp n.row.name upper)) above (high n.row f shown)))
  ];
  less = λ r is. lt-le row.name (above_all text) r.name (row_below row text begins)
      (and_true (is_le (slice_cmp nat_cmp (above_all text) r.name)) (is_lt (slice_cmp nat_cmp r.name upper))
      (between_stored (above_all text) upper list after lists r is).0).0;
  apart = λ r is starts. not_le_lt (above_all text) r.name
      (and_true (is_le (slice_cmp nat_cmp (above_all text) r.name)) (is_lt (slice_cmp nat_cmp r.name upper))
      (between_stored (above_all text) upper list after lists r is).0).0 (row_below r text starts);
}

pub walk-rolled : (query : Query) (list : List Numbered) (out : List Entry) (met new after : List Row) (row : Row) (e : Entry)
    (lower upper text : List ℕ) → IsNamedOnce list →
    IsLower query lower → IsUpper query upper → Walk query list out met → Takes query.reverse met row new → shows query row ≡ Some e →
    rolled_text query.delimiter (length query.prefix) row.name ≡ Some text → AreBeyond query.reverse lower upper text list after →
    Walk query list (out ++ e ∷ []) after
walk-rolled query list out met new after row e lower upper text once low high walk takes shown rolled beyond =
    let k = keeps query.reverse met (row ∷ []) new (takes_joins query.reverse met row new takes) walk.sorted in
    let la = listed_as query row e shown in
    let is_text : la.rolled ≡ Some text = sym la.is ∙ rolled in
    let entry : entry_of query row (Some text) ≡ Some e = ap (λ (u : Option (List ℕ)). entry_of query row u) (sym is_text) ∙ la.entry in
    let begins = text-begins query.delimiter (length query.prefix) row.name text rolled in
    let b = stands_behind query.reverse query list lower upper text row new after once low high begins (λ r is. k.across row r (inl refl) is) beyond in
    walk-step query list out met after row e walk (k.gone row (inl refl)) shown b.stored b.sorted
    (λ n is f shown_f there. elim (k.from n.row there) [
      | inl one ↦ elim one [
        | inl here ↦ inl (let both : Some f ≡ Some e = sym shown_f ∙ ap (λ (r : Row). shows query r) (sym here) ∙ shown in cc)
        | inr never ↦ absurd never
      ]
      | inr still ↦ elim (b.further n is f shown_f still) [
        | inl starts ↦ inl
            (let lb = listed_as query n.row f shown_f in
            let same : lb.rolled ≡ Some text = sym lb.is ∙ text-same query.delimiter (length query.prefix) row.name n.row.name text rolled starts in
            let entry_n : entry_of query n.row (Some text) ≡ Some f = ap (λ (u : Option (List ℕ)). entry_of query n.row u) (sym same) ∙ lb.entry in
            sym (entry_rolled query row n.row e f text entry entry_n))
        | inr after_it ↦ inr after_it
      ]
    ])
    (λ r is f shown_f. entries_less query row r e f la shown_f (b.less r is)
    (λ t rolled_t starts. let one : t ≡ text = (let both : Some t ≡ Some text = sym rolled_t ∙ is_text in cc) in
    b.apart r is (subst (λ (x : List ℕ). Begins r.name x) one starts)))

-- ---- the listing

shown_once : (query : Query) (list : List Numbered) → IsNamedOnce list → (x y : Entry) → IsShown query list x → IsShown query list y →
    entry_text x ≡ entry_text y → x ≡ y
shown_once query list once x y (n, is_n, shown_n) (m, is_m, shown_m) same =
    let la = listed_as query n.row x shown_n in
    let lb = listed_as query m.row y shown_m in
    at la.rolled lb.rolled la.is lb.is la.entry lb.entry (sym (entry_shown query n.row x la.rolled la.entry) ∙ same
    ∙ entry_shown query m.row y lb.rolled lb.entry)
  where
    at : (u v : Option (List ℕ)) → rolled_text query.delimiter (length query.prefix) n.row.name ≡ u →
        rolled_text query.delimiter (length query.prefix) m.row.name ≡ v →
        entry_of query n.row u ≡ Some x → entry_of query m.row v ≡ Some y → shown_text n.row.name u ≡ shown_text m.row.name v → x ≡ y
    at None None is_u is_v entry_x entry_y one =
        let found : find (is_named n.row.name) list ≡ Some n = found_itself list n once is_n in
        let other : find (is_named n.row.name) list ≡ Some m = subst (λ (t : List ℕ). find (is_named t) list
        ≡ Some m) (sym one) (found_itself list m once is_m) in
        let rows : n ≡ m = (let both : Some n ≡ Some m = sym found ∙ other in cc) in
        let both : Some x ≡ Some y = sym shown_n ∙ ap (λ (k : Numbered). shows query k.row) rows ∙ shown_m in
        cc
    at None (Some t) is_u is_v entry_x entry_y one =
        let rolled : rolled_text query.delimiter (length query.prefix) n.row.name ≡ Some t =
        text-same query.delimiter (length query.prefix) m.row.name n.row.name t is_v ([], one ∙ sym (append-nil t)) in
        cc
    at (Some s) None is_u is_v entry_x entry_y one =
        let rolled : rolled_text query.delimiter (length query.prefix) m.row.name ≡ Some s =
        text-same query.delimiter (length query.prefix) n.row.name m.row.name s is_u ([], sym one ∙ sym (append-nil s)) in
        cc
    at (Some s) (Some t) is_u is_v entry_x entry_y one =
        entry_rolled query n.row m.row x y t (ap (λ (z : List ℕ). entry_of query n.row (Some z)) (sym one) ∙ entry_x) entry_y

-- what is asked for is what is shown
asked_shown : (query : Query) (list : List Numbered) (x : Entry) → In x (entries_asked query list) → IsShown query list x
asked_shown query [] x is = absurd is
asked_shown query (n ∷ ns) x is = at (shows query n.row) refl is (λ h. let s = asked_shown query ns x h in (s.0, inr s.1, s.2))
  where
    at : (o : Option Entry) → shows query n.row ≡ o → In x (cons_option o (entries_asked query ns)) → (In x (entries_asked query ns) →
        IsShown query (n ∷ ns) x) →
        IsShown query (n ∷ ns) x
    at None shown is rest = rest is
    at (Some e) shown (inl here) rest = (n, inl refl, shown ∙ ap (λ (y : Entry). Some y) here)
    at (Some e) shown (inr there) rest = rest there

shown_asked : (query : Query) (list : List Numbered) (n : Numbered) (x : Entry) → In n list → shows query n.row ≡ Some x → In x (entries_asked query list)
shown_asked query [] n x is shown = is
shown_asked query (m ∷ ms) n x (inl here) shown =
    let first : shows query m.row ≡ Some x = ap (λ (k : Numbered). shows query k.row) here ∙ shown in
    rw first (inl refl)
shown_asked query (m ∷ ms) n x (inr there) shown = at (shows query m.row) (shown_asked query ms n x there shown)
  where
    at : (o : Option Entry) → In x (entries_asked query ms) → In x (cons_option o (entries_asked query ms))
    at None is = is
    at (Some e) is = inr is

abbrev Table : Type 0
Table = List (List ℕ × Entry)

record InOrder (table : Table) : Type 0 where
  sorted : IsStrictlySortedBy (slice_cmp nat_cmp) (keys_of table)
  keyed : AllByRecursion (λ e. e.0 ≡ entry_text e.1) table

ordered : (es : List Entry) (table : Table) → InOrder table → InOrder (fold with_entry table es)
ordered [] table is = is
ordered (e ∷ es) table is = ordered es (with_entry table e) (record {
  sorted = sorted-insert nat_list_cmp_total table (entry_text e) e is.sorted;
  keyed = insert-keyed nat_list_cmp_total entry_text exact_bytes table e is.keyed;
})

folded_from : (es : List Entry) (table : Table) (x : Entry) → In x (values_of (fold with_entry table es)) → In x (values_of table) ⊎ In x es
folded_from [] table x is = inl is
folded_from (e ∷ es) table x is = elim (folded_from es (with_entry table e) x is) [
  | inl there ↦ elim (inserted nat_list_cmp_total table (entry_text e) e x there) [ inl new ↦ inr (inl new) | inr old ↦ inl old ]
  | inr later ↦ inr (inr later)
]

folded_all : (es : List Entry) (table : Table) → InOrder table →
    ((x y : Entry) → In x (values_of table) ⊎ In x es → In y (values_of table) ⊎ In y es → entry_text x ≡ entry_text y → x ≡ y) →
    (x : Entry) → In x (values_of table) ⊎ In x es → In x (values_of (fold with_entry table es))
folded_all [] table is one x (inl there) = there
folded_all [] table is one x (inr there) = absurd there
folded_all (e ∷ es) table is one x member = folded_all es (with_entry table e) (ordered (e ∷ []) table is)
    (λ a b is_a is_b same. one a b (back a is_a) (back b is_b) same) x (forth member)
  where
    back : (a : Entry) → In a (values_of (with_entry table e)) ⊎ In a es → In a (values_of table) ⊎ In a (e ∷ es)
    back a (inl there) = elim (inserted nat_list_cmp_total table (entry_text e) e a there) [ inl new ↦ inr (inl new) | inr old ↦ inl old ]
    back a (inr later) = inr (inr later)

    forth : In x (values_of table) ⊎ In x (e ∷ es) → In x (values_of (with_entry table e)) ⊎ In x es
    forth (inl there) = elim (insert-keeps nat_list_cmp_total entry_text table (entry_text e) e x is.keyed there) [
      | inl still ↦ inl still
      | inr tied ↦ inl (subst (λ (y : Entry). In y (values_of (with_entry table e)))
          (one e x (inr (inl refl)) (inl there) (exact_bytes (entry_text e) (entry_text x) tied)) (insert-there nat_list_cmp_total table (entry_text e) e))
    ]
    forth (inr (inl here)) = inl (subst (λ (y : Entry). In y (values_of (with_entry table e))) here (insert-there nat_list_cmp_total table (entry_text e) e))
    forth (inr (inr later)) = inr later

keyed_texts : (table : Table) → AllByRecursion (λ e. e.0 ≡ entry_text e.1) table → keys_of table ≡ texts_of (values_of table)
keyed_texts [] keyed = refl
keyed_texts (e ∷ es) keyed =
    ap (λ (k : List ℕ). k ∷ keys_of es) keyed.0 ∙ ap (λ (t : List (List ℕ)). entry_text e.1 ∷ t) (keyed_texts es keyed.1)

texts-append : (xs ys : List Entry) → texts_of (xs ++ ys) ≡ texts_of xs ++ texts_of ys
texts-append [] ys = refl
texts-append (x ∷ xs) ys = ap (λ (t : List (List ℕ)). entry_text x ∷ t) (texts-append xs ys)

texts-reverse : (xs : List Entry) → texts_of (reverse xs) ≡ reverse (texts_of xs)
texts-reverse [] = refl
texts-reverse (x ∷ xs) =
    ap texts_of (reverse-append (x ∷ []) xs) ∙ texts-append (reverse xs) (x ∷ [])
    ∙ ap (λ (t : List (List ℕ)). t ++ entry_text x ∷ []) (texts-reverse xs) ∙ sym (reverse-append (entry_text x ∷ []) (texts_of xs))

-- all entries, in the direction of the listing
abbrev all_entries : Query → List Numbered → List Entry
all_entries query list = in_direction query.reverse (values_of (by_text (entries_asked query list)))

abbrev no_entries : Table
no_entries = []

nothing_yet : InOrder no_entries
unfolding IsStrictlySortedBy
nothing_yet = record { sorted = tt; keyed = tt }

direction_sorted : (back : Bool) (xs : List Entry) → IsStrictlySortedBy (slice_cmp nat_cmp) (texts_of xs) →
    IsStrictlySortedBy (toward back) (texts_of (in_direction back xs))
direction_sorted true xs sorted =
    subst (λ (t : List (List ℕ)). IsStrictlySortedBy (flip_args (slice_cmp nat_cmp)) t) (sym (texts-reverse xs)) (sorted-reverse (slice_cmp nat_cmp)
    (texts_of xs) sorted)
direction_sorted false xs sorted = sorted

direction_in : (back : Bool) (x : Entry) (xs : List Entry) → In x xs → In x (in_direction back xs)
direction_in true x xs is = in-reverse x xs is
direction_in false x xs is = is

direction_from : (back : Bool) (x : Entry) (xs : List Entry) → In x (in_direction back xs) → In x xs
direction_from true x xs is = in-reversed x xs is
direction_from false x xs is = is

all_sorted : (query : Query) (list : List Numbered) → IsStrictlySortedBy (toward query.reverse) (texts_of (all_entries query list))
all_sorted query list =
    let o = ordered (entries_asked query list) no_entries nothing_yet in
    direction_sorted query.reverse (values_of (by_text (entries_asked query list)))
    (subst (λ (t : List (List ℕ)). IsStrictlySortedBy (slice_cmp nat_cmp) t) (keyed_texts (by_text (entries_asked query list)) o.keyed) o.sorted)

all_shown : (query : Query) (list : List Numbered) (x : Entry) → In x (all_entries query list) → IsShown query list x
all_shown query list x is =
    elim (folded_from (entries_asked query list) no_entries x (direction_from query.reverse x (values_of (by_text (entries_asked query list))) is)) [
      | inl never ↦ absurd never
      | inr asked ↦ asked_shown query list x asked
    ]

shown_all : (query : Query) (list : List Numbered) → IsNamedOnce list → (x : Entry) → IsShown query list x → In x (all_entries query list)
shown_all query list once x shown =
    direction_in query.reverse x (values_of (by_text (entries_asked query list)))
    (folded_all (entries_asked query list) no_entries nothing_yet one x (inr (shown_asked query list shown.0 x shown.1 shown.2)))
  where
    is_shown : (y : Entry) → In y (values_of no_entries) ⊎ In y (entries_asked query list) → IsShown query list y
    is_shown y (inl never) = absurd never
    is_shown y (inr asked) = asked_shown query list y asked

    one : (a b : Entry) → In a (values_of no_entries) ⊎ In a (entries_asked query list) → In b (values_of no_entries) ⊎ In b (entries_asked query list) →
        entry_text a ≡ entry_text b → a ≡ b
    one a b is_a is_b same = shown_once query list once a b (is_shown a is_a) (is_shown b is_b) same

-- what was given is the beginning of all
walked : (query : Query) (list : List Numbered) (out : List Entry) (left : List Row) → IsNamedOnce list → Walk query list out left →
    take (length out) (all_entries query list) ≡ out
walked query list out left once walk =
    front-of entry_text (toward_total query.reverse) out (all_entries query list) walk.rising (all_sorted query list)
    (λ x is. shown_all query list once x (walk.listed x is))
    (λ x is. let s = all_shown query list x is in
    elim (walk.rest s.0 s.1 x s.2) [ inl done ↦ inl done | inr there ↦ inr (λ a is_a. walk.beyond s.0.row there x s.2 a is_a) ])

pub walk-full : (query : Query) (list : List Numbered) (out : List Entry) (left : List Row) → IsNamedOnce list → Walk query list out left →
    length out ≡ query.limit →
    out ≡ listing query list
walk-full query list out left once walk full = sym (ap (λ (n : ℕ). take n (all_entries query list)) (sym full) ∙ walked query list out left once walk)

take_short : (n : ℕ) (xs : List Entry) → length (take n xs) ≤ length xs
take_short zero xs = omega arith
take_short (suc n) [] = omega arith
take_short (suc n) (x ∷ xs) = let rest : length (take n xs) ≤ length xs = take_short n xs in omega arith

pub walk-done : (query : Query) (list : List Numbered) (out : List Entry) (left : List Row) → IsNamedOnce list → Walk query list out left →
    Skips query left [] →
    length out ≤ query.limit → out ≡ listing query list
walk-done query list out left once walk skips le =
    let end : Walk query list out [] = walk-skip query list out left [] walk skips in
    let all : List Entry = all_entries query list in
    let given : (x : Entry) → In x all → In x out =
    λ x is. (let s = all_shown query list x is in elim (end.rest s.0 s.1 x s.2) [ inl done ↦ done | inr never ↦ absurd never ]) in
    let front : take (length out) all ≡ out = walked query list out [] once end in
    let back : take (length all) out ≡ all =
    front-of entry_text (toward_total query.reverse) all out (all_sorted query list) walk.rising given
    (λ x is. inl (shown_all query list once x (walk.listed x is))) in
    let short : length all ≤ length out = subst (λ (t : List Entry). length t ≤ length out) back (take_short (length all) out) in
    let same : all ≡ out = sym (take_all (length out) all short) ∙ front in
    sym (take_all query.limit all (omega arith) ∙ same)

-- ---- the steps of the walk

entry_row : (query : Query) (row r : Row) (u : Option (List ℕ)) → entry_of query row u ≡ Some (entry.Row r) → u ≡ None
entry_row query row r None is = refl
entry_row query row r (Some text) is = at (bytes_eq text query.marker) is
  where
    at : (b : Bool) → cond b None (Some (entry.Subdir text)) ≡ Some (entry.Row r) → Some text ≡ None
    at true is = cc
    at false is = cc

entry_subdir : (query : Query) (row : Row) (t : List ℕ) (u : Option (List ℕ)) → entry_of query row u ≡ Some (entry.Subdir t) → u ≡ Some t
entry_subdir query row t None is = cc
entry_subdir query row t (Some text) is = at (bytes_eq text query.marker) is
  where
    at : (b : Bool) → cond b None (Some (entry.Subdir text)) ≡ Some (entry.Subdir t) → Some text ≡ Some t
    at true is = cc
    at false is = cc

pub step-row : (query : Query) (list : List Numbered) (out : List Entry) (left new : List Row) (r : Row) → Walk query list out left →
    Finds query left (entry.Row r) new →
    Walk query list (out ++ entry.Row r ∷ []) new
step-row query list out left new r walk finds =
    let la = listed_as query finds.row (entry.Row r) finds.shown in
    walk-row query list out finds.met new finds.row (entry.Row r) (walk-skip query list out left finds.met walk finds.skips) finds.takes finds.shown
    (la.is ∙ entry_row query finds.row r la.rolled la.entry)

pub step-rolled : (query : Query) (list : List Numbered) (out : List Entry) (left new after : List Row) (lower upper text : List ℕ) → IsNamedOnce list →
    IsLower query lower →
    IsUpper query upper → Walk query list out left → Finds query left (entry.Subdir text) new → AreBeyond query.reverse lower upper text list after →
    Walk query list (out ++ entry.Subdir text ∷ []) after
step-rolled query list out left new after lower upper text once low high walk finds beyond =
    let la = listed_as query finds.row (entry.Subdir text) finds.shown in
    walk-rolled query list out finds.met new after finds.row (entry.Subdir text) lower upper text once low high
    (walk-skip query list out left finds.met walk finds.skips) finds.takes finds.shown (la.is ∙ entry_subdir query finds.row text la.rolled la.entry) beyond

-- ---- what is passed over

pub skips-none : (query : Query) (rows : List Row) → Skips query rows rows
skips-none query rows = record { passed = []; joined = joins query.reverse; hidden = tt }
  where
    joins : (back : Bool) → Joins back rows [] rows
    joins true = sym (append-nil rows)
    joins false = refl

hidden_append : (query : Query) (xs ys : List Row) → AreHidden query xs → AreHidden query ys → AreHidden query (xs ++ ys)
hidden_append query [] ys hidden more = more
hidden_append query (x ∷ xs) ys hidden more = (hidden.0, hidden_append query xs ys hidden.1 more)

further : Bool → List Row → Row → List Row
further true passed row = row ∷ passed
further false passed row = passed ++ row ∷ []

further_joins : (back : Bool) (old passed met : List Row) (row : Row) (new : List Row) → Joins back old passed met → Takes back met row new →
    Joins back old (further back passed row) new
unfolding further
further_joins true old passed met row new joins takes = joins ∙ ap (λ (x : List Row). x ++ passed) takes ∙ append_assoc new (row ∷ []) passed
further_joins false old passed met row new joins takes = joins ∙ ap (λ (x : List Row). passed ++ x) takes ∙ sym (append_assoc passed (row ∷ []) new)

further_hidden : (query : Query) (back : Bool) (passed : List Row) (row : Row) → AreHidden query passed → shows query row ≡ None →
    AreHidden query (further back passed row)
unfolding further
further_hidden query true passed row hidden none = (none, hidden)
further_hidden query false passed row hidden none = hidden_append query passed (row ∷ []) hidden (none, tt)

pub skips-more : (query : Query) (old met new : List Row) (row : Row) → Skips query old met → Takes query.reverse met row new → shows query row ≡ None →
    Skips query old new
skips-more query old met new row skips takes none = record {
  passed = further query.reverse skips.passed row;
  joined = further_joins query.reverse old skips.passed met row new skips.joined takes;
  hidden = further_hidden query query.reverse skips.passed row skips.hidden none;
}

pub takes-fewer : (back : Bool) (old : List Row) (row : Row) (new : List Row) → Takes back old row new → length new < length old
takes-fewer true old row new takes = omega (arith, ap length takes, length-append new (row ∷ []))
takes-fewer false old row new takes = omega (arith, ap length takes)
