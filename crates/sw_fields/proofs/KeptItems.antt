-- Which items are kept.
use Rattle.std.proofs.Common.{◌≡◌, ℕ, Bool, true, false, cond, List, [], ◌∷◌, Option, None, Some, refl, sym, ap, ◌∙◌, fold, reverse}
use Rattle.std.specs.List.{filter, find}
use Rattle.std.specs.Option.{option_map, option_or}
use Rattle.std.specs.Str.{bytes_eq, str_to_ascii_lowercase}
use Rattle.std.proofs.lemmas.List.{reverse-append}
use Rattle.std.proofs.lemmas.List.Folds.{find-append}
use Rattle.std.proofs.lemmas.Slice.Eq.{bytes_eq-Decides}
use Rattle.sw_message.specs.declared.fields.Field.{Field}
use Rattle.sw_state.proofs.NameOrder.{before-asym, before-itself, before-other}
use Rattle.sw_state.specs.HeadNames.{is_before, value_of, with_head}
use Rattle.sw_state.specs.declared.head.Head.{Head}
use Rattle.sw_fields.specs.Items.{is_item_field, item_of, with_field}
use Rattle.sw_fields.specs.Laws.{KeepsTheLast, is_item_named}

-- ---- the first that passes one test among those that pass another

all_at : (q t : Head → Bool) (h : Head) (hs : List Head) (b d : Bool) → q h ≡ b → t h ≡ d → (q h ≡ true → t h ≡ true)
    → find q (filter t hs) ≡ find q hs → find q (cond (t h) (h ∷ filter t hs) (filter t hs)) ≡ cond (q h) (Some h) (find q hs)
all_at q t h hs true true is there given rest = rw (there, is) refl
all_at q t h hs true false is there given rest = absurd (let wrong = given is in cc)
all_at q t h hs false true is there given rest = rw (there, is) rest
all_at q t h hs false false is there given rest = rw (there, is) rest

find-filter_all : (q t : Head → Bool) (hs : List Head) → ((x : Head) → q x ≡ true → t x ≡ true) → find q (filter t hs) ≡ find q hs
find-filter_all q t [] given = refl
find-filter_all q t (h ∷ hs) given = all_at q t h hs (q h) (t h) refl refl (given h) (find-filter_all q t hs given)

none_at : (q t : Head → Bool) (h : Head) (hs : List Head) (b d : Bool) → q h ≡ b → t h ≡ d → (q h ≡ true → t h ≡ false)
    → find q (filter t hs) ≡ None → find q (cond (t h) (h ∷ filter t hs) (filter t hs)) ≡ None
none_at q t h hs true true is there given rest = absurd (let wrong = given is in cc)
none_at q t h hs true false is there given rest = rw there rest
none_at q t h hs false true is there given rest = rw (there, is) rest
none_at q t h hs false false is there given rest = rw there rest

find-filter_none : (q t : Head → Bool) (hs : List Head) → ((x : Head) → q x ≡ true → t x ≡ false) → find q (filter t hs) ≡ None
find-filter_none q t [] given = refl
find-filter_none q t (h ∷ hs) given = none_at q t h hs (q h) (t h) refl refl (given h) (find-filter_none q t hs given)

-- ---- the value under a name, where one more item is put in its place

abbrev has_name : List ℕ → Head → Bool
has_name name x = bytes_eq x.name name

abbrev below : Head → Head → Bool
below h x = is_before x.name h.name

abbrev above : Head → Head → Bool
above h x = is_before h.name x.name

same_name : (a b : List ℕ) → bytes_eq a b ≡ true → a ≡ b
same_name a b same = (bytes_eq-Decides a b).0 same

apart_at : (a b : List ℕ) (d : Bool) → bytes_eq b a ≡ d → bytes_eq a b ≡ false → bytes_eq b a ≡ false
apart_at a b true is apart =
    absurd (let same : bytes_eq a b ≡ true = (bytes_eq-Decides a b).1 (sym (same_name b a is)) in cc)
apart_at a b false is apart = is

or-none : (o : Option Head) → option_or o None ≡ o
or-none None = refl
or-none (Some h) = refl

found_same : (hs : List Head) (h : Head) (name : List ℕ) → bytes_eq h.name name ≡ true → find (has_name name) (with_head hs h) ≡ Some h
found_same hs h name same =
    let none : find (has_name name) (filter (below h) hs) ≡ None =
    find-filter_none (has_name name) (below h) hs
    (λ x is. ap (λ (n : List ℕ). is_before n h.name) (same_name x.name name is ∙ sym (same_name h.name name same)) ∙ before-itself h.name) in
    find-append (has_name name) (filter (below h) hs) (h ∷ filter (above h) hs) ∙ rw (none, same) refl

found_other : (hs : List Head) (h : Head) (name : List ℕ) (b : Bool) → is_before name h.name ≡ b → bytes_eq h.name name ≡ false
    → find (has_name name) (with_head hs h) ≡ find (has_name name) hs
found_other hs h name true is apart =
    let all : find (has_name name) (filter (below h) hs) ≡ find (has_name name) hs =
    find-filter_all (has_name name) (below h) hs (λ x here. ap (λ (n : List ℕ). is_before n h.name) (same_name x.name name here) ∙ is) in
    let none : find (has_name name) (filter (above h) hs) ≡ None =
    find-filter_none (has_name name) (above h) hs
    (λ x here. ap (λ (n : List ℕ). is_before h.name n) (same_name x.name name here) ∙ before-asym name h.name is) in
    find-append (has_name name) (filter (below h) hs) (h ∷ filter (above h) hs) ∙ rw (all, apart, none) (or-none (find (has_name name) hs))
found_other hs h name false is apart =
    let later : is_before h.name name ≡ true = before-other name h.name is (apart_at h.name name (bytes_eq name h.name) refl apart) in
    let none : find (has_name name) (filter (below h) hs) ≡ None =
    find-filter_none (has_name name) (below h) hs (λ x here. ap (λ (n : List ℕ). is_before n h.name) (same_name x.name name here) ∙ is) in
    let all : find (has_name name) (filter (above h) hs) ≡ find (has_name name) hs =
    find-filter_all (has_name name) (above h) hs (λ x here. ap (λ (n : List ℕ). is_before h.name n) (same_name x.name name here) ∙ later) in
    find-append (has_name name) (filter (below h) hs) (h ∷ filter (above h) hs) ∙ rw (none, apart, all) refl

-- ---- the value under a name, where one more field is taken

abbrev value : Field → List ℕ
value f = f.value

abbrev last_value : List ℕ → List Field → Option (List ℕ)
last_value name fields = option_map value (find (is_item_named name) (reverse fields))

-- the value of a field that is an item of the name
abbrev own_value : List ℕ → Field → Option (List ℕ)
own_value name f = cond (is_item_named name f) (Some f.value) None

taken_item : (items : List Head) (f : Field) (name : List ℕ) (b : Bool) → bytes_eq (str_to_ascii_lowercase f.name) name ≡ b
    → value_of (with_head items (item_of f)) name ≡ option_or (cond (bytes_eq (str_to_ascii_lowercase f.name) name) (Some f.value) None) (value_of items name)
taken_item items f name true is = rw (found_same items (item_of f) name is, is) refl
taken_item items f name false is = rw (found_other items (item_of f) name (is_before name (item_of f).name) refl is, is) refl

taken : (items : List Head) (f : Field) (name : List ℕ) (b : Bool) → is_item_field f ≡ b
    → value_of (with_field items f) name ≡ option_or (own_value name f) (value_of items name)
taken items f name true is = rw is (taken_item items f name (bytes_eq (str_to_ascii_lowercase f.name) name) refl)
taken items f name false is = rw is refl

or-assoc : (a b c : Option (List ℕ)) → option_or a (option_or b c) ≡ option_or (option_or a b) c
or-assoc None b c = refl
or-assoc (Some a) b c = refl

map-or : (a b : Option Field) → option_map value (option_or a b) ≡ option_or (option_map value a) (option_map value b)
map-or None b = refl
map-or (Some a) b = refl

one : (name : List ℕ) (f : Field) (b : Bool) → is_item_named name f ≡ b → option_map value (find (is_item_named name) (f ∷ [])) ≡ own_value name f
one name f true is = rw is refl
one name f false is = rw is refl

last_value-cons : (name : List ℕ) (f : Field) (fields : List Field) → last_value name (f ∷ fields) ≡ option_or (last_value name fields) (own_value name f)
last_value-cons name f fields =
    ap (λ (l : List Field). option_map value (find (is_item_named name) l)) (reverse-append (f ∷ []) fields)
    ∙ (ap (option_map value) (find-append (is_item_named name) (reverse fields) (f ∷ []))
    ∙ (map-or (find (is_item_named name) (reverse fields)) (find (is_item_named name) (f ∷ []))
    ∙ ap (option_or (last_value name fields)) (one name f (is_item_named name f) refl)))

kept_after : (fields : List Field) (items : List Head) (name : List ℕ)
    → value_of (fold with_field items fields) name ≡ option_or (last_value name fields) (value_of items name)
kept_after [] items name = refl
kept_after (f ∷ fields) items name =
    kept_after fields (with_field items f) name
    ∙ (ap (option_or (last_value name fields)) (taken items f name (is_item_field f) refl)
    ∙ (or-assoc (last_value name fields) (own_value name f) (value_of items name)
    ∙ ap (λ o. option_or o (value_of items name)) (sym (last_value-cons name f fields))))

or-nothing : (o : Option (List ℕ)) → option_or o None ≡ o
or-nothing None = refl
or-nothing (Some value) = refl

pub keeps_the_last : KeepsTheLast
keeps_the_last fields name = kept_after fields [] name ∙ or-nothing (last_value name fields)
