-- The bounds of a query: between them lie all names that it lists.
use Rattle.std.proofs.Common.{◌≡◌, ℕ, Bool, true, false, cond, ◌&&◌, ◌||◌, List, [], ◌∷◌, ◌++◌, ◌==◌, length, take, drop}
use Rattle.std.proofs.Common.{Option, None, Some, refl, sym, ◌∙◌, ap, arith, subst, ◌⊎◌, inl, inr}
use Rattle.std.specs.Cmp.Lexicographic.{slice_cmp}
use Rattle.std.specs.List.{starts_with}
use Rattle.std.specs.Option.{option_map}
use Rattle.std.specs.Ordering.{is_le, is_lt, nat_cmp}
use Rattle.std.specs.declared.cmp.Ordering.TheVariants.{Less}
use Rattle.std.proofs.lemmas.Bool.Decides.{nat_tests}
use Rattle.std.proofs.lemmas.List.{take-append-drop, take_all}
use Rattle.std.proofs.lemmas.Slice.Eq.{bytes_eq-Decides}
use Rattle.std.specs.Prelude.{nat_eq}
use Rattle.sw_rows.specs.declared.row.Row.{Row}
use Rattle.sw_rows.proofs.Named.{name_itself}
use Rattle.sw_listing.specs.Asking.{is_above, is_below, is_within, rolled_size, rolled_text}
use Rattle.sw_listing.specs.Listing.{entry_of, shows}
use Rattle.sw_listing.specs.Walking.{above_all, IsLower, IsUpper}
use Rattle.sw_listing.specs.declared.entry.Entry.{Entry}
use Rattle.sw_listing.specs.declared.entry.Entry.TheVariants as entry
use Rattle.sw_listing.specs.declared.query.Query.{Query}
use Rattle.sw_listing.proofs.Orders.{Begins, between-begins}
use Rattle.sw_listing.proofs.Rolls.{text-same}
use Rattle.sw_listing.proofs.Walks.{and_true, begins_le, is_less, less_dec, Listed_as, listed_as, row_below}

asked_parts : (query : Query) (row : Row) (e : Entry) → shows query row ≡ Some e →
    (is_within query row.name ≡ true) × (starts_with nat_eq row.name query.prefix ≡ true)
asked_parts query row e shown = and_true (is_within query row.name) (starts_with nat_eq row.name query.prefix) (listed_as query row e shown).asked

begins_of : (name text : List ℕ) → starts_with nat_eq name text ≡ true → Begins name text
begins_of name text is = (drop (length text) name, whole)
  where
    same : text ≡ take (length text) name
    same = (bytes_eq-Decides text (take (length text) name)).0 is

    whole : name ≡ text ++ drop (length text) name
    whole = sym (ap (λ (t : List ℕ). t ++ drop (length text) name) same ∙ take-append-drop (length text) name)

pub prefix-lower : (query : Query) → IsLower query query.prefix
prefix-lower query row e shown = begins_le row.name query.prefix (begins_of row.name query.prefix (asked_parts query row e shown).1)

pub prefix-upper : (query : Query) → IsUpper query (above_all query.prefix)
prefix-upper query row e shown = ap is_lt (row_below row query.prefix (begins_of row.name query.prefix (asked_parts query row e shown).1))

-- the marker that names come after in byte order
abbrev low_marker : Query → List ℕ
low_marker query = cond query.reverse query.end_marker query.marker

some_bytes : (b : ℕ) (bs : List ℕ) → (length (b ∷ bs) == 0) ≡ false
some_bytes b bs = grind (arith, nat_tests)

above_or : (bound name : List ℕ) → is_above bound name ≡ true → is_le (slice_cmp nat_cmp bound name) ≡ true
above_or [] [] is = refl
above_or [] (x ∷ xs) is = refl
above_or (b ∷ bs) name is =
    let before : is_lt (slice_cmp nat_cmp (b ∷ bs) name) ≡ true =
    sym (ap (λ (v : Bool). v || is_lt (slice_cmp nat_cmp (b ∷ bs) name)) (some_bytes b bs)) ∙ is in
    ap is_le (is_less (slice_cmp nat_cmp (b ∷ bs) name) before)

low_within : (query : Query) (name : List ℕ) → is_within query name ≡ true → is_above (low_marker query) name ≡ true
low_within query name is = at query.reverse is
  where
    at : (back : Bool) → cond back (is_below query.marker name && is_above query.end_marker name)
        (is_above query.marker name && is_below query.end_marker name) ≡ true → is_above (cond back query.end_marker query.marker) name ≡ true
    at true is = (and_true (is_below query.marker name) (is_above query.end_marker name) is).1
    at false is = (and_true (is_above query.marker name) (is_below query.end_marker name) is).0

pub marker-lower : (query : Query) → IsLower query (low_marker query)
marker-lower query row e shown = above_or (low_marker query) row.name (low_within query row.name (asked_parts query row e shown).0)

-- a marker up to and with the first delimiter behind the prefix is what names are rolled up to
pub rolled-whole : (query : Query) (delimiter size : ℕ) → query.delimiter ≡ Some delimiter →
    Some size ≡ rolled_size delimiter (length query.prefix) query.marker → size ≡ length query.marker →
    rolled_text query.delimiter (length query.prefix) query.marker ≡ Some query.marker
rolled-whole query delimiter size is sized whole =
    ap (λ (d : Option ℕ). rolled_text d (length query.prefix) query.marker) is
    ∙ sym (ap (λ (o : Option ℕ). option_map (λ n. take n query.marker) o) sized)
    ∙ ap (λ (t : List ℕ). Some t) (take_all size query.marker (omega (arith, whole)))

-- and these names aren't listed, since the marker isn't
pub marker-passed : (query : Query) → query.reverse ≡ false → rolled_text query.delimiter (length query.prefix) query.marker ≡ Some query.marker →
    IsLower query (above_all query.marker)
marker-passed query forward rolled row e shown = at (less_dec row.name (above_all query.marker))
  where
    la : Listed_as query row e
    la = listed_as query row e shown

    low : is_le (slice_cmp nat_cmp query.marker row.name) ≡ true
    low = subst (λ (b : Bool). is_le (slice_cmp nat_cmp (cond b query.end_marker query.marker) row.name) ≡ true) forward (marker-lower query row e shown)

    at : (slice_cmp nat_cmp row.name (above_all query.marker) ≡ Less) ⊎ (is_le (slice_cmp nat_cmp (above_all query.marker) row.name) ≡ true) →
        is_le (slice_cmp nat_cmp (above_all query.marker) row.name) ≡ true
    at (inr above) = above
    at (inl under) =
        let begins = between-begins query.marker row.name (255 ∷ []) low under in
        let same : la.rolled ≡ Some query.marker =
        sym la.is ∙ text-same query.delimiter (length query.prefix) query.marker row.name query.marker rolled begins in
        let left_out : entry_of query row (Some query.marker) ≡ None =
        ap (λ (b : Bool). cond b None (Some (entry.Subdir query.marker))) (name_itself query.marker) in
        let wrong : None ≡ Some e = sym left_out ∙ ap (λ (u : Option (List ℕ)). entry_of query row u) (sym same) ∙ la.entry in
        cc
