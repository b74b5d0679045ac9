-- What stays loaded: that it is bounded, that no place has it twice, and that what is true of all of it stays so.
use Rattle.std.proofs.Common.{◌≡◌, ◌≢◌, ℕ, ◌+◌, ◌<◌, ◌≤◌, Bool, true, false, ◌&&◌, cond, nat_lt, nat_le, List}
use Rattle.std.proofs.Common.{[], ◌∷◌, ◌++◌, length, get_or, Option, None, Some}
use Rattle.std.proofs.Common.{All, ◌⊎◌, inl, inr, IfSome, refl, sym, ◌∙◌, ap, subst, arith, length-append}
use Rattle.std.proofs.Common.{is_some, option_to_list, position, slice_get, suc, take, drop}
use Rattle.std.specs.List.{position_or_len, remove}
use Rattle.std.proofs.lemmas.Bool.{le-leb, leb-true, ltb-false, ltb-true}
use Rattle.std.proofs.lemmas.List.{append-nil, get_or_append_left, get_or_default}
use Rattle.std.proofs.lemmas.Option.{get_or_from_slice_get, slice_get_cases, slice_get_read, slice_get_within}
use Rattle.std.proofs.Math.Seq.{get_or-append_seam}
use Rattle.std.proofs.lemmas.List.Edits.{get_or-remove_above, get_or-remove_below, length-remove}
use Rattle.std.proofs.lemmas.List.Elements.{All-append, All-drop, All-get_or, All-nil, All-push, All-tail, All-take}
use Rattle.std.proofs.lemmas.List.Quantifiers.{all_pairs_push, all_pairs_remove, position-Some}
use Rattle.std.proofs.lemmas.List.Sums.{fails_before_first, sum_by-remove, sum_by_push}
use Rattle.sw_hashpath.specs.declared.place.Place.{Place}
use Rattle.sw_keeper.specs.declared.tables.Tables.{Tables}
use Rattle.sw_container_steps.proofs.Placing.{place-same, place-self}
use Rattle.sw_container_steps.specs.Entries.{is_same_place}
use Rattle.sw_container_db.specs.LoadedList.{AreApart, IsBounded, IsLoadedList, Lacks, all_rows, but, found, found_by, has_room}
use Rattle.sw_container_db.specs.LoadedList.{is_loaded, is_of, rows_held, tables_at, touched}
use Rattle.sw_container_db.specs.LoadedList.{trimmed, without}
use Rattle.sw_container_db.specs.declared.loaded_list.Loaded.{Loaded}

abbrev pub Differ : Loaded → Loaded → Type 0
Differ l m = l.place ≢ m.place

-- ---- those that stay where one more comes

pub trimmed-all : (P : Loaded → Type 0) (more : ℕ) (list : List Loaded) → All P list → All P (trimmed more list)
trimmed-all P more [] all = all
trimmed-all P more (l ∷ ls) all = by (has_room more (l ∷ ls)) (trimmed-all P more ls (All-tail P l ls all))
  where
    by : (b : Bool) → All P (trimmed more ls) → All P (cond b (l ∷ ls) (trimmed more ls))
    by true rest = all
    by false rest = rest

pub trimmed-apart : (more : ℕ) (list : List Loaded) → AreApart list → AreApart (trimmed more list)
trimmed-apart more [] apart = apart
trimmed-apart more (l ∷ ls) apart =
    by (has_room more (l ∷ ls)) (trimmed-apart more ls (all_pairs_remove Differ (l ∷ ls) 0 (omega arith) apart))
  where
    by : (b : Bool) → AreApart (trimmed more ls) → AreApart (cond b (l ∷ ls) (trimmed more ls))
    by true rest = apart
    by false rest = rest

-- the first one went
pub trimmed-rest : (more : ℕ) (l : Loaded) (ls : List Loaded) → has_room more (l ∷ ls) ≡ false → trimmed more (l ∷ ls) ≡ trimmed more ls
trimmed-rest more l ls full = ap (λ (b : Bool). cond b (l ∷ ls) (trimmed more ls)) full

-- none has to go
pub trimmed-none : (more : ℕ) (list : List Loaded) → has_room more list ≡ true → trimmed more list ≡ list
trimmed-none more [] room = refl
trimmed-none more (l ∷ ls) room = ap (λ (b : Bool). cond b (l ∷ ls) (trimmed more ls)) room

room-parts : (p q : Bool) → (p && q) ≡ true → (p ≡ true) × (q ≡ true)
room-parts true q is = (refl, is)
room-parts false q is = cc

-- there is room beside those that stay, or none stay
abbrev pub HasRoom : ℕ → List Loaded → Type 0
HasRoom more list = (list ≡ []) ⊎ ((length list < 64) × (all_rows list + more ≤ 262144))

pub trimmed-room : (more : ℕ) (list : List Loaded) → HasRoom more (trimmed more list)
trimmed-room more [] = inl refl
trimmed-room more (l ∷ ls) = by (has_room more (l ∷ ls)) refl (trimmed-room more ls)
  where
    by : (b : Bool) → has_room more (l ∷ ls) ≡ b → HasRoom more (trimmed more ls) → HasRoom more (cond b (l ∷ ls) (trimmed more ls))
    by true is rest =
        let parts = room-parts (nat_lt (length (l ∷ ls)) 64) (nat_le (all_rows (l ∷ ls) + more) 262144) is in
        inr (ltb-true (length (l ∷ ls)) 64 parts.0, leb-true (all_rows (l ∷ ls) + more) 262144 parts.1)
    by false is rest = rest

-- ---- the last one

pub apart-front : (xs : List Loaded) (l : Loaded) → AreApart (xs ++ l ∷ []) → AreApart xs
apart-front xs l apart i j d before within =
    let all : length (xs ++ l ∷ []) ≡ length xs + 1 = length-append xs (l ∷ []) in
    let inside : j < length (xs ++ l ∷ []) = omega arith in
    let first : i < length xs = omega arith in
    let both : Differ (get_or (xs ++ l ∷ []) i d) (get_or (xs ++ l ∷ []) j d) = apart i j d before inside in
    subst (λ (a : Loaded). Differ a (get_or xs j d)) (get_or_append_left xs (l ∷ []) d i first)
    (subst (λ (b : Loaded). Differ (get_or (xs ++ l ∷ []) i d) b) (get_or_append_left xs (l ∷ []) d j within) both)

-- the others aren't those of the last place
pub apart-last : (xs : List Loaded) (l : Loaded) → AreApart (xs ++ l ∷ []) → Lacks l.place xs
apart-last xs l apart k d within =
    let all : length (xs ++ l ∷ []) ≡ length xs + 1 = length-append xs (l ∷ []) in
    let inside : length xs < length (xs ++ l ∷ []) = omega arith in
    let both : Differ (get_or (xs ++ l ∷ []) k d) (get_or (xs ++ l ∷ []) (length xs) d) = apart k (length xs) d within inside in
    subst (λ (a : Loaded). Differ a l) (get_or_append_left xs (l ∷ []) d k within)
    (subst (λ (b : Loaded). Differ (get_or (xs ++ l ∷ []) k d) b) (get_or-append_seam xs l [] d) both)

pub apart-push : (xs : List Loaded) (l : Loaded) → AreApart xs → Lacks l.place xs → AreApart (xs ++ l ∷ [])
apart-push xs l apart lacks = all_pairs_push Differ xs l apart (λ k d within. lacks k d within)

-- ---- what is always so

pub list-none : IsLoadedList []
list-none = record {
  bounded = record { containers = omega arith; rows = inl (omega arith) };
  apart = λ i j d before within. absurd (omega (arith, within));
}

pub list-trimmed : (more : ℕ) (list : List Loaded) → IsLoadedList list → IsLoadedList (trimmed more list)
list-trimmed more list is = record {
  bounded = elim (trimmed-room more list) [
    | inl none ↦ subst IsBounded (sym none) list-none.bounded
    | inr room ↦ record { containers = let short = room.0 in omega (arith, short); rows = inr (let few = room.1 in omega (arith, few)) }
  ];
  apart = trimmed-apart more list is.apart;
}

-- one more came, for which there was room made
pub list-pushed : (list : List Loaded) (place : Place) (tables : Option Tables) → AreApart list → Lacks place list
    → IsLoadedList (trimmed (rows_held tables) list ++ tables_at place tables ∷ [])
list-pushed list place tables apart lacks = record {
  bounded = bound (trimmed (rows_held tables) list) (trimmed-room (rows_held tables) list);
  apart = apart-push (trimmed (rows_held tables) list) (tables_at place tables) (trimmed-apart (rows_held tables) list apart)
      (trimmed-all (λ l. l.place ≢ place) (rows_held tables) list lacks);
}
  where
    bound : (stay : List Loaded) → HasRoom (rows_held tables) stay → IsBounded (stay ++ tables_at place tables ∷ [])
    bound stay (inl none) = subst (λ (xs : List Loaded). IsBounded (xs ++ tables_at place tables ∷ [])) (sym none)
        (record { containers = omega arith; rows = inl (omega arith) })
    bound stay (inr room) =
        let all : length (stay ++ tables_at place tables ∷ []) ≡ length stay + 1 = length-append stay (tables_at place tables ∷ []) in
        let sum : all_rows (stay ++ tables_at place tables ∷ []) ≡ all_rows stay + rows_held tables =
        sum_by_push (λ (l : Loaded). rows_held l.tables) stay (tables_at place tables) in
        let short = room.0 in let few = room.1 in
        record { containers = omega (arith, all, short); rows = inr (omega (arith, sum, few)) }

-- its tables were taken out
pub list-emptied : (list : List Loaded) (l : Loaded) → IsLoadedList (list ++ l ∷ []) → IsLoadedList (list ++ tables_at l.place None ∷ [])
list-emptied list l is =
    let all : length (list ++ l ∷ []) ≡ length list + 1 = length-append list (l ∷ []) in
    let many : length (list ++ tables_at l.place None ∷ []) ≡ length list + 1 = length-append list (tables_at l.place None ∷ []) in
    let sum : all_rows (list ++ l ∷ []) ≡ all_rows list + rows_held l.tables = sum_by_push (λ (m : Loaded). rows_held m.tables) list l in
    let less : all_rows (list ++ tables_at l.place None ∷ []) ≡ all_rows list + 0 =
    sum_by_push (λ (m : Loaded). rows_held m.tables) list (tables_at l.place None) in
    let few = is.bounded.containers in
    record {
      bounded = record {
        containers = omega (arith, all, many, few);
        rows = elim is.bounded.rows [ inl one ↦ inl (omega (arith, all, many, one)) | inr bound ↦ inr (omega (arith, sum, less, bound)) ];
      };
      apart = apart-push list (tables_at l.place None) (apart-front list l is.apart) (apart-last list l is.apart);
    }

-- the one at this number became the last
pub list-moved : (list : List Loaded) (at : ℕ) (l : Loaded) → at < length list → l ≡ get_or list at l → IsLoadedList list
    → IsLoadedList (remove list at ++ l ∷ [])
list-moved list at l within there is =
    let fewer : length (remove list at) + 1 ≡ length list = length-remove list at within in
    let all : length (remove list at ++ l ∷ []) ≡ length (remove list at) + 1 = length-append (remove list at) (l ∷ []) in
    let less : all_rows (remove list at) + rows_held (get_or list at l).tables ≡ all_rows list =
    sum_by-remove (λ (m : Loaded). rows_held m.tables) list at l within in
    let own : rows_held l.tables ≡ rows_held (get_or list at l).tables = ap (λ (m : Loaded). rows_held m.tables) there in
    let sum : all_rows (remove list at ++ l ∷ []) ≡ all_rows (remove list at) + rows_held l.tables =
    sum_by_push (λ (m : Loaded). rows_held m.tables) (remove list at) l in
    let few = is.bounded.containers in
    record {
      bounded = record {
        containers = omega (arith, fewer, all, few);
        rows = elim is.bounded.rows [ inl one ↦ inl (omega (arith, fewer, all, one)) | inr bound ↦ inr (omega (arith, less, own, sum, bound)) ];
      };
      apart = apart-push (remove list at) l (all_pairs_remove Differ list at within is.apart) lacks;
    }
  where
    lacks : Lacks l.place (remove list at)
    lacks k d inside = elim (below-or k at) [
      | inl before ↦ subst (λ (m : Loaded). m.place ≢ l.place) (sym (get_or-remove_below list at d k before within))
          (λ same. is.apart k at d before within (same ∙ ap (λ (m : Loaded). m.place) (mine d)))
      | inr behind ↦
          let fewer : length (remove list at) + 1 ≡ length list = length-remove list at within in
          let far : k + 1 < length list = omega (arith, fewer, inside) in
          let past : at < k + 1 = omega (arith, behind) in
          subst (λ (m : Loaded). m.place ≢ l.place) (sym (get_or-remove_above list at d k behind within))
          (λ same. is.apart at (k + 1) d past far (ap (λ (m : Loaded). m.place) (sym (mine d)) ∙ sym same))
    ]
      where
        below-or : (i j : ℕ) → (i < j) ⊎ (j ≤ i)
        below-or i j = by (nat_lt i j) refl
          where
            by : (b : Bool) → nat_lt i j ≡ b → (i < j) ⊎ (j ≤ i)
            by true so = inl (ltb-true i j so)
            by false so = inr (ltb-false i j so)

        mine : (d : Loaded) → l ≡ get_or list at d
        mine d = there ∙ get_or_default list at l d within

-- ---- those of a place

-- none are those of a place that isn't loaded
pub lacks-unless : (place : Place) (list : List Loaded) → is_loaded place list ≡ false → Lacks place list
lacks-unless place list isnt k d within = by (nat_lt (position_or_len (is_of place) list) (length list)) refl isnt
  where
    by : (b : Bool) → nat_lt (position_or_len (is_of place) list) (length list) ≡ b
        → is_some (cond b (Some (position_or_len (is_of place) list)) None) ≡ false → (get_or list k d).place ≢ place
    by true is never same = cc
    by false is none same =
        let past : length list ≤ position_or_len (is_of place) list = ltb-false (position_or_len (is_of place) list) (length list) is in
        let before : k < position_or_len (is_of place) list = omega (arith, past, within) in
        let apart : is_same_place (get_or list k d).place place ≡ false = fails_before_first (is_of place) list k d before in
        let here : is_same_place (get_or list k d).place place ≡ true =
        subst (λ (p : Place). is_same_place p place ≡ true) (sym same) (place-self place) in
        let clash : false ≡ true = sym apart ∙ here in cc

-- the one that was found became the last
pub moved-is : (place : Place) (list : List Loaded) (at : ℕ) (l : Loaded) → position (is_of place) list ≡ Some at → l ≡ get_or list at l
    → remove list at ++ l ∷ [] ≡ touched place list
moved-is place list at l stands there =
    let within : at < length list = (position-Some (is_of place) list at l stands).0 in
    let got : slice_get list at ≡ Some l = slice_get_read list (length list) at l refl within there in
    rw stands (rw got refl)

-- what is true of all is true of them once one became the last
pub touched-all : (P : Loaded → Type 0) (place : Place) (list : List Loaded) → All P list → All P (touched place list)
touched-all P place list all = by (position (is_of place) list)
  where
    gone : (at : ℕ) → All P (remove list at)
    gone at = All-append P (take at list) (drop (suc at) list) (All-take P at list all) (All-drop P (suc at) list all)

    last : (at : ℕ) (got : Option Loaded) → slice_get list at ≡ got → All P (remove list at ++ option_to_list got)
    last at None is = All-append P (remove list at) [] (gone at) (All-nil P)
    last at (Some l) is = All-push P (remove list at) l (gone at)
        (subst P (get_or_from_slice_get list at l l is) (All-get_or P list at l (slice_get_within list at l is) all))

    by : (at : Option ℕ) → All P (but list at ++ option_to_list (found_by list at))
    by None = All-append P list [] all (All-nil P)
    by (Some at) = last at (slice_get list at) refl

-- none was found
pub touched-none : (place : Place) (list : List Loaded) → is_loaded place list ≡ false → touched place list ≡ list
touched-none place list isnt = by (position (is_of place) list) isnt
  where
    by : (at : Option ℕ) → is_some at ≡ false → but list at ++ option_to_list (found_by list at) ≡ list
    by None none = append-nil list
    by (Some at) none = cc

-- one was found: it is that of the place, and is held where all are
pub record IsFound (place : Place) (list : List Loaded) : Type 0 where
  pub read : Option Tables
  pub found_is : found place list ≡ Some (tables_at place read)
  pub touched_is : touched place list ≡ without place list ++ tables_at place read ∷ []
  pub held : (held : Place → Option Tables) → All (λ l. l.tables ≡ held l.place) list → read ≡ held place

pub is-found : (place : Place) (list : List Loaded) → is_loaded place list ≡ true → IsFound place list
is-found place list is = by (position (is_of place) list) refl is
  where
    one : (at : ℕ) (l : Loaded) → position (is_of place) list ≡ Some at → slice_get list at ≡ Some l → IsFound place list
    one at l stands got =
        let within : at < length list = slice_get_within list at l got in
        let there : get_or list at l ≡ l = get_or_from_slice_get list at l l got in
        let own : is_same_place (get_or list at l).place place ≡ true = (position-Some (is_of place) list at l stands).1 in
        let here : l.place ≡ place = place-same l.place place (subst (λ (m : Loaded). is_same_place m.place place ≡ true) there own) in
        let whole : l ≡ tables_at place l.tables = λ i. record { place = here i; tables = l.tables } in
        let found_so : found place list ≡ Some (tables_at place l.tables) = ap (found_by list) stands ∙ (got ∙ ap Some whole) in
        record {
          read = l.tables;
          found_is = found_so;
          touched_is = ap (λ (o : Option Loaded). without place list ++ option_to_list o) found_so;
          held = λ held all. subst (λ (m : Loaded). m.tables ≡ held m.place) there (All-get_or (λ (m : Loaded). m.tables ≡ held m.place) list at l within all)
              ∙ ap held here;
        }

    by : (at : Option ℕ) → position (is_of place) list ≡ at → is_some at ≡ true → IsFound place list
    by None stands none = cc
    by (Some at) stands some = elim (slice_get_cases list at).1 [
      | inl there ↦ one at there.0 stands there.2
      | inr past ↦ absurd (omega (arith, past.0, inside at (position_or_len (is_of place) list) stands))
    ]
      where
        inside : (at first : ℕ) → cond (nat_lt first (length list)) (Some first) None ≡ Some at → at < length list
        inside at first so = at_first (nat_lt first (length list)) refl so
          where
            at_first : (b : Bool) → nat_lt first (length list) ≡ b → cond b (Some first) None ≡ Some at → at < length list
            at_first true is same = let eq : first ≡ at = cc in let less : first < length list = ltb-true first (length list) is in omega (arith, eq, less)
            at_first false is same = cc

-- where none has room, none of more rows has
pub less-room : (more : ℕ) (list : List Loaded) → has_room 0 list ≡ false → has_room more list ≡ false
less-room more list none = by (has_room more list) refl
  where
    by : (b : Bool) → has_room more list ≡ b → b ≡ false
    by false is = refl
    by true is =
        let parts = room-parts (nat_lt (length list) 64) (nat_le (all_rows list + more) 262144) is in
        let few : all_rows list + more ≤ 262144 = leb-true (all_rows list + more) 262144 parts.1 in
        let fewer : nat_le (all_rows list + 0) 262144 ≡ true = le-leb (all_rows list + 0) 262144 (omega (arith, few)) in
        let room : has_room 0 list ≡ true = rw (parts.0, fewer) refl in
        let clash : true ≡ false = sym room ∙ none in cc

-- room that is made twice
pub trimmed-twice : (more : ℕ) (list : List Loaded) → trimmed more (trimmed 0 list) ≡ trimmed more list
trimmed-twice more [] = refl
trimmed-twice more (l ∷ ls) = by (has_room 0 (l ∷ ls)) refl (trimmed-twice more ls)
  where
    by : (b : Bool) → has_room 0 (l ∷ ls) ≡ b → trimmed more (trimmed 0 ls) ≡ trimmed more ls
        → trimmed more (cond b (l ∷ ls) (trimmed 0 ls)) ≡ trimmed more (l ∷ ls)
    by true is rest = refl
    by false is rest = rest ∙ sym (trimmed-rest more l ls (less-room more (l ∷ ls) is))

pub none-found : (place : Place) (list : List Loaded) (P : Loaded → Type 0) → is_loaded place list ≡ false → IfSome (found place list) P
none-found place list P isnt = by (position (is_of place) list) isnt
  where
    by : (at : Option ℕ) → is_some at ≡ false → IfSome (found_by list at) P
    by None none = tt
    by (Some at) none = cc
