-- Rows of which the same is shown have one listing, in whatever order they stand.
use Rattle.std.proofs.Common.{◌≡◌, ℕ, Bool, true, false, cond, List, [], ◌∷◌, length, take, Option, None, Some, refl, sym, ◌∙◌, ap, subst, inl, inr}
use Rattle.std.proofs.lemmas.List.{append-nil}
use Rattle.std.specs.List.{Contains, cons_option, find}
use Rattle.std.specs.Option.{option_map}
use Rattle.std.specs.Str.{bytes_eq}
use Rattle.sw_listing.proofs.Members.{In}
use Rattle.sw_listing.proofs.Rolls.{shown_text, text-same}
use Rattle.sw_listing.proofs.Walks.{IsShown, listed_as}
use Rattle.sw_listing.specs.Asking.{rolled_text}
use Rattle.sw_listing.specs.Entries.{entry_text}
use Rattle.sw_listing.specs.Listing.{entries_asked, entry_of, in_direction, listing, shows}
use Rattle.sw_listing.specs.declared.entry.Entry.{Entry}
use Rattle.sw_listing.specs.declared.entry.Entry.TheVariants as entry
use Rattle.sw_listing.specs.declared.query.Query.{Query}
use Rattle.sw_pending_laws.proofs.Among.{behind, front-or-behind, in-front, none-among}
use Rattle.sw_rows.proofs.Named.{name_itself, same_name}
use Rattle.sw_rows.specs.Rows.{IsNamedOnce, find_named, is_named}
use Rattle.sw_rows.specs.declared.numbered.Numbered.{Numbered}
use Rattle.sw_rows.specs.declared.row.Row.{Row}
use Rattle.sw_listing_laws.proofs.Texts.{AreApart, by-text-one}

-- ---- rows by their names

pub in-contained : (ns : List Numbered) (n : Numbered) → Contains ns n → In n ns
in-contained [] n there = absurd (none-among n there)
in-contained (m ∷ ms) n there = elim (front-or-behind m ms n there) [ inl same ↦ inl (sym same) | inr later ↦ inr (in-contained ms n later) ]

pub contained-in : (ns : List Numbered) (n : Numbered) → In n ns → Contains ns n
contained-in [] n is = absurd is
contained-in (m ∷ ms) n (inl here) = subst (λ (x : Numbered). Contains (m ∷ ms) x) here (in-front m ms)
contained-in (m ∷ ms) n (inr there) = behind m ms n (contained-in ms n there)

found-in : (p : Numbered → Bool) (ns : List Numbered) (n : Numbered) → find p ns ≡ Some n → In n ns
found-in p [] n found = cc
found-in p (m ∷ ms) n found = at (p m) found (λ h. found-in p ms n h)
  where
    at : (b : Bool) → cond b (Some m) (find p ms) ≡ Some n → (find p ms ≡ Some n → In n ms) → In n (m ∷ ms)
    at true found rest = inl cc
    at false found rest = inr (rest found)

-- the row that a name has is among the rows
pub row-found : (ns : List Numbered) (name : List ℕ) (row : Row) → find_named ns name ≡ Some row → (n : Numbered) × In n ns × (n.row ≡ row)
row-found ns name row found = at (find (is_named name) ns) refl found
  where
    at : (o : Option Numbered) → find (is_named name) ns ≡ o → option_map (λ n. n.row) o ≡ Some row → (n : Numbered) × In n ns × (n.row ≡ row)
    at None is found = cc
    at (Some n) is found = (n, found-in (is_named name) ns n is, cc)

found-itself : (ns : List Numbered) (n : Numbered) → IsNamedOnce ns → In n ns → find (is_named n.row.name) ns ≡ Some n
found-itself [] n once is = absurd is
found-itself (m ∷ ms) n once (inl here) = subst (λ (x : Numbered). find (is_named x.row.name) (m ∷ ms) ≡ Some x) here (rw (name_itself m.row.name) refl)
found-itself (m ∷ ms) n once (inr there) = at (is_named n.row.name m) refl (found-itself ms n once.1 there)
  where
    at : (b : Bool) → is_named n.row.name m ≡ b → find (is_named n.row.name) ms ≡ Some n → cond b (Some m) (find (is_named n.row.name) ms) ≡ Some n
    at true is rest =
        let gone : find (is_named n.row.name) ms ≡ None =
        subst (λ (x : List ℕ). find (is_named x) ms ≡ None) (same_name m.row.name n.row.name is) once.0 in
        cc
    at false is rest = rest

-- each row is the one that its name has
pub row-itself : (ns : List Numbered) (n : Numbered) → IsNamedOnce ns → In n ns → find_named ns n.row.name ≡ Some n.row
row-itself ns n once is = ap (λ (o : Option Numbered). option_map (λ m. m.row) o) (found-itself ns n once is)

-- ---- what is shown

entry-shown : (query : Query) (row : Row) (e : Entry) (u : Option (List ℕ)) → entry_of query row u ≡ Some e → entry_text e ≡ shown_text row.name u
entry-shown query row e None is = let same : entry.Row row ≡ e = cc in ap entry_text (sym same)
entry-shown query row e (Some text) is = at (bytes_eq text query.marker) is
  where
    at : (b : Bool) → cond b None (Some (entry.Subdir text)) ≡ Some e → entry_text e ≡ text
    at true is = cc
    at false is = let same : entry.Subdir text ≡ e = cc in ap entry_text (sym same)

module _ (query : Query) where
  abbrev rolled : List ℕ → Option (List ℕ)
  rolled name = rolled_text query.delimiter (length query.prefix) name

  -- what a name is rolled up to is rolled up to itself, so a row of that name isn't listed as it is
  rolls-up : (name other : List ℕ) → rolled name ≡ Some other → rolled other ≡ Some other
  rolls-up name other is = text-same query.delimiter (length query.prefix) name other other is ([], sym (append-nil other))

  asked-shown : (ns : List Numbered) (e : Entry) → In e (entries_asked query ns) → IsShown query ns e
  asked-shown [] e is = absurd is
  asked-shown (n ∷ ns) e is = at (shows query n.row) refl is (λ h. let s = asked-shown ns e h in (s.0, inr s.1, s.2))
    where
      at : (o : Option Entry) → shows query n.row ≡ o → In e (cons_option o (entries_asked query ns))
          → (In e (entries_asked query ns) → IsShown query (n ∷ ns) e) → IsShown query (n ∷ ns) e
      at None shown is rest = rest is
      at (Some f) shown (inl here) rest = (n, inl refl, shown ∙ ap (λ (x : Entry). Some x) here)
      at (Some f) shown (inr there) rest = rest there

  shown-asked : (ns : List Numbered) (e : Entry) → IsShown query ns e → In e (entries_asked query ns)
  shown-asked [] e is = absurd is.1
  shown-asked (m ∷ ms) e (n, inl here, shown) =
      let first : shows query m.row ≡ Some e = ap (λ (k : Numbered). shows query k.row) here ∙ shown in
      rw first (inl refl)
  shown-asked (m ∷ ms) e (n, inr there, shown) = at (shows query m.row) (shown-asked ms e (n, there, shown))
    where
      at : (o : Option Entry) → In e (entries_asked query ms) → In e (cons_option o (entries_asked query ms))
      at None is = is
      at (Some f) is = inr is

  -- no two entries of rows that are named once have one text
  shown-apart : (ns : List Numbered) → IsNamedOnce ns → AreApart (IsShown query ns)
  shown-apart ns once x y (n, is_n, shown_n) (m, is_m, shown_m) same =
      let a = listed_as query n.row x shown_n in
      let b = listed_as query m.row y shown_m in
      at a.rolled b.rolled a.is b.is a.entry b.entry (sym (entry-shown query n.row x a.rolled a.entry) ∙ (same ∙ entry-shown query m.row y b.rolled b.entry))
    where
      at : (u v : Option (List ℕ)) → rolled n.row.name ≡ u → rolled m.row.name ≡ v → entry_of query n.row u ≡ Some x → entry_of query m.row v ≡ Some y
          → shown_text n.row.name u ≡ shown_text m.row.name v → x ≡ y
      at None None is_u is_v entry_x entry_y one =
          let found : find_named ns n.row.name ≡ Some n.row = row-itself ns n once is_n in
          let other : find_named ns n.row.name ≡ Some m.row = ap (find_named ns) one ∙ row-itself ns m once is_m in
          let rows : n.row ≡ m.row = cc in
          let both : Some x ≡ Some y = sym shown_n ∙ (ap (shows query) rows ∙ shown_m) in
          cc
      at None (Some t) is_u is_v entry_x entry_y one =
          let never : None ≡ Some t = sym is_u ∙ (ap rolled one ∙ rolls-up m.row.name t is_v) in cc
      at (Some s) None is_u is_v entry_x entry_y one =
          let never : None ≡ Some s = sym is_v ∙ (ap rolled (sym one) ∙ rolls-up n.row.name s is_u) in cc
      at (Some s) (Some t) is_u is_v entry_x entry_y one =
          let first : entry_of query m.row (Some t) ≡ Some x = ap (λ (z : List ℕ). entry_of query n.row (Some z)) (sym one) ∙ entry_x in
          let both : Some x ≡ Some y = sym first ∙ entry_y in
          cc

  -- ---- the listing

  pub listing-one : (ns ms : List Numbered) → IsNamedOnce ns → IsNamedOnce ms → ((e : Entry) → IsShown query ns e → IsShown query ms e)
      → ((e : Entry) → IsShown query ms e → IsShown query ns e) → listing query ns ≡ listing query ms
  listing-one ns ms once also forth back =
      ap (λ (es : List Entry). take query.limit (in_direction query.reverse es))
      (by-text-one (entries_asked query ns) (entries_asked query ms) (apart ns once) (apart ms also)
      (λ e is. shown-asked ms e (forth e (asked-shown ns e is))) (λ e is. shown-asked ns e (back e (asked-shown ms e is))))
    where
      apart : (list : List Numbered) → IsNamedOnce list → AreApart (λ e. In e (entries_asked query list))
      apart list named x y is_x is_y = shown-apart list named x y (asked-shown list x is_x) (asked-shown list y is_y)
