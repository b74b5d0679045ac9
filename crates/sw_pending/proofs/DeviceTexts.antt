-- The text of devices, and how it is read.
use Rattle.std.proofs.Common.{◌≡◌, ℕ, zero, suc, ◌+◌, ◌<◌, true, false, cond, List, [], ◌∷◌, ◌++◌, length, get_or, map, take, All, refl, sym, ap, subst}
use Rattle.std.proofs.Common.{◌∙◌, append_assoc, arith, inl, inr, Option, Some, None}
use Rattle.std.specs.Char.{is_ascii_digit}
use Rattle.std.specs.Fmt.{decimal}
use Rattle.std.specs.List.{join_with_byte, list_all, slice_split}
use Rattle.std.specs.Prelude.{codes, nat_lt}
use Rattle.std.specs.Str.{bytes_eq}
use Rattle.std.proofs.lemmas.Bool.{and_from, and_parts, cases_Bool, cond-false, cond-true, false_from_ne_true, lt-ltb, ltb-true}
use Rattle.std.proofs.lemmas.Bool.Decides.{nat_tests}
use Rattle.std.proofs.lemmas.List.{map_more, take_more}
use Rattle.std.proofs.lemmas.List.Elements.{All-cons, All-head, All-nil, All-tail}
use Rattle.std.proofs.lemmas.List.Folds.{list_all-append}
use Rattle.std.proofs.lemmas.List.Splits.{join_with_byte-slice_split, length-slice_split, slice_split_at, slice_split_none}
use Rattle.std.proofs.lemmas.Option.{cond_some}
use Rattle.std.proofs.lemmas.Slice.Eq.{bytes_eq-Decides}
use Rattle.sw_metafile.specs.Files.{IsByte}
use Rattle.sw_metafile.specs.Reading.{◌>>=◌, delete_time_of}
use Rattle.sw_metafile.specs.Texts.{is_number}
use Rattle.sw_metafile.proofs.Escaping.{avoids}
use Rattle.sw_metafile.proofs.Numbers.{decimal_is_number, delete_time_again, delete_time_takes, number_has_no_line_feed, numeral}
use Rattle.sw_metafile.proofs.Steps.{bind_some, some_is}
use Rattle.sw_pending.specs.Reading.{device_of, devices_of, each_device, is_comma}
use Rattle.sw_pending.specs.Rules.{are_in_order}
use Rattle.sw_pending.specs.Texts.{devices_text}

-- one device more, behind a comma
devices_text-push : (d : ℕ) (ds : List ℕ) (e : ℕ) → devices_text (d ∷ (ds ++ e ∷ [])) ≡ devices_text (d ∷ ds) ++ 44 ∷ decimal e
devices_text-push d [] e = refl
devices_text-push d (x ∷ ds) e =
    ap (λ (t : List ℕ). decimal d ++ 44 ∷ t) (devices_text-push x ds e) ∙ sym (append_assoc (decimal d) (44 ∷ devices_text (x ∷ ds)) (44 ∷ decimal e))

devices_text-more : (d : ℕ) (ds : List ℕ) (i : ℕ) → i < length ds
    → devices_text (d ∷ take (i + 1) ds) ≡ devices_text (d ∷ take i ds) ++ 44 ∷ decimal (get_or ds i 0)
devices_text-more d ds i within =
    ap (λ (l : List ℕ). devices_text (d ∷ l)) (take_more ds i 0 within) ∙ devices_text-push d (take i ds) (get_or ds i 0)

pub number_pushed : (d : ℕ) (ds : List ℕ) (i : ℕ) (out before comma after : List ℕ) → i < length ds → before ≡ out ++ devices_text (d ∷ take i ds)
    → comma ≡ before ++ 44 ∷ [] → after ≡ comma ++ decimal (get_or ds i 0) → after ≡ out ++ devices_text (d ∷ take (i + 1) ds)
number_pushed d ds i out before comma after within one two three =
    three ∙ ap (λ (l : List ℕ). l ++ decimal (get_or ds i 0)) (two ∙ ap (λ (l : List ℕ). l ++ 44 ∷ []) one)
    ∙ append_assoc (out ++ devices_text (d ∷ take i ds)) (44 ∷ []) (decimal (get_or ds i 0))
    ∙ append_assoc out (devices_text (d ∷ take i ds)) (44 ∷ decimal (get_or ds i 0))
    ∙ ap (λ (l : List ℕ). out ++ l) (sym (devices_text-more d ds i within))

-- ---- each number

pub device_takes : (text : List ℕ) (d : ℕ) → device_of text ≡ Some d → (text ≡ decimal d) × (d < 256)
unfolding device_of
device_takes text d is =
    let number = bind_some (delete_time_of text) (λ n. cond (nat_lt n 256) (Some n) None) d is in
    let small = cond_some (nat_lt number.0 256) number.0 d number.2 in
    let P : ℕ → Type 0 = λ n. (text ≡ decimal n) × (n < 256) in
    subst P small.1 ((delete_time_takes text number.0 number.1).0, ltb-true number.0 256 small.0)

pub device_again : (d : ℕ) → d < 256 → device_of (decimal d) ≡ Some d
unfolding device_of
device_again d small = rw (delete_time_again d (omega arith)) (cond-true (nat_lt d 256) (Some d) None (lt-ltb d 256 small))

pub each_takes : (texts : List (List ℕ)) (ds : List ℕ) → each_device texts ≡ Some ds → (texts ≡ map decimal ds) × All IsByte ds
each_takes [] ds is =
    let P : List ℕ → Type 0 = λ l. ([] ≡ map decimal l) × All IsByte l in
    subst P (some_is [] ds is) (refl, All-nil IsByte)
each_takes (text ∷ texts) ds is =
    let first = bind_some (device_of text) (λ d. each_device texts >>= λ l. Some (d ∷ l)) ds is in
    let others = bind_some (each_device texts) (λ l. Some (first.0 ∷ l)) ds first.2 in
    let one = device_takes text first.0 first.1 in
    let more = each_takes texts others.0 others.1 in
    let P : List ℕ → Type 0 = λ l. (text ∷ texts ≡ map decimal l) × All IsByte l in
    subst P (some_is (first.0 ∷ others.0) ds others.2) (
      ap (λ (t : List ℕ). t ∷ texts) one.0 ∙ ap (λ (l : List (List ℕ)). decimal first.0 ∷ l) more.0,
      All-cons IsByte first.0 others.0 one.1 more.1,
    )

pub each_again : (ds : List ℕ) → All IsByte ds → each_device (map decimal ds) ≡ Some ds
each_again [] are = refl
each_again (d ∷ ds) are = rw (device_again d (All-head IsByte d ds are), each_again ds (All-tail IsByte d ds are)) refl

-- where one of the texts is no number
pub each_fails : {A : Type 0} (f : A → List ℕ) (xs : List A) (i : ℕ) (e : A) → i < length xs → device_of (f (get_or xs i e)) ≡ None
    → each_device (map f xs) ≡ None
each_fails f [] i e within none = absurd (omega arith)
each_fails f (x ∷ xs) zero e within none = rw none refl
each_fails f (x ∷ xs) (suc i) e within none = rw (each_fails f xs i e (omega arith) none) (by (device_of (f x)))
  where
    by : (o : Option ℕ) → (o >>= λ d. None >>= λ (l : List ℕ). Some (d ∷ l)) ≡ None
    by None = refl
    by (Some d) = refl

pub each_more : (texts : List (List ℕ)) (text : List ℕ) (ds : List ℕ) (d : ℕ) → each_device texts ≡ Some ds → device_of text ≡ Some d
    → each_device (texts ++ text ∷ []) ≡ Some (ds ++ d ∷ [])
each_more [] text ds d are is = rw is (ap (λ (l : List ℕ). Some (l ++ d ∷ [])) (some_is [] ds are))
each_more (t ∷ texts) text ds d are is =
    let first = bind_some (device_of t) (λ n. each_device texts >>= λ l. Some (n ∷ l)) ds are in
    let others = bind_some (each_device texts) (λ l. Some (first.0 ∷ l)) ds first.2 in
    rw (first.1, each_more texts text others.0 d others.1 is) (ap (λ (l : List ℕ). Some (l ++ d ∷ [])) (some_is (first.0 ∷ others.0) ds others.2))

pub each_next : {A : Type 0} (f : A → List ℕ) (xs : List A) (i : ℕ) (e : A) (ds : List ℕ) (d : ℕ) → i < length xs
    → each_device (map f (take i xs)) ≡ Some ds → device_of (f (get_or xs i e)) ≡ Some d → each_device (map f (take (i + 1) xs)) ≡ Some (ds ++ d ∷ [])
each_next f xs i e ds d within are is = ap each_device (map_more f xs i e within) ∙ each_more (map f (take i xs)) (f (get_or xs i e)) ds d are is

-- ---- all numbers

digits_of : (d : ℕ) → d < 256 → is_number (decimal d) ≡ true
digits_of d small = decimal_is_number d (omega arith)

no_comma : (d : ℕ) → is_ascii_digit d ≡ true → is_comma d ≡ false
no_comma d is = grind (arith, nat_tests)

all_no_comma : (ds : List ℕ) → list_all is_ascii_digit ds ≡ true → All (λ b. is_comma b ≡ false) ds
all_no_comma [] all = All-nil (λ b. is_comma b ≡ false)
all_no_comma (d ∷ ds) all =
    let parts = and_parts (is_ascii_digit d) (list_all is_ascii_digit ds) all in
    All-cons (λ b. is_comma b ≡ false) d ds (no_comma d parts.0) (all_no_comma ds parts.1)

number_no_comma : (d : ℕ) → d < 256 → All (λ b. is_comma b ≡ false) (decimal d)
number_no_comma d small = all_no_comma (decimal d) (numeral (decimal d) (digits_of d small)).digits

-- a text of devices is cut to their numbers
pub cut_devices : (d : ℕ) (ds : List ℕ) → All IsByte (d ∷ ds) → slice_split is_comma (devices_text (d ∷ ds)) ≡ map decimal (d ∷ ds)
cut_devices d [] are = slice_split_none is_comma (decimal d) (number_no_comma d (All-head IsByte d [] are))
cut_devices d (e ∷ ds) are =
    slice_split_at is_comma (decimal d) 44 (devices_text (e ∷ ds)) (number_no_comma d (All-head IsByte d (e ∷ ds) are)) refl
    ∙ ap (λ (l : List (List ℕ)). decimal d ∷ l) (cut_devices e ds (All-tail IsByte d (e ∷ ds) are))

-- it isn't the dash
dash_number : (d : ℕ) → d < 256 → decimal d ≡ codes "-" → ⊥
dash_number d small is = let number = sym (digits_of d small) ∙ ap is_number is in cc

no_dash : (d : ℕ) (ds : List ℕ) → All IsByte (d ∷ ds) → bytes_eq (devices_text (d ∷ ds)) (codes "-") ≡ false
no_dash d ds are = false_from_ne_true (bytes_eq (devices_text (d ∷ ds)) (codes "-")) (λ same.
    let text = (bytes_eq-Decides (devices_text (d ∷ ds)) (codes "-")).0 same in
    let cut : map decimal (d ∷ ds) ≡ codes "-" ∷ [] = sym (cut_devices d ds are) ∙ ap (slice_split is_comma) text in
    dash_number d (All-head IsByte d ds are) (ap (λ (l : List (List ℕ)). get_or l 0 []) cut))

pub devices_again : (ds : List ℕ) → All IsByte ds → are_in_order ds ≡ true → devices_of (devices_text ds) ≡ Some ds
unfolding devices_of
devices_again [] are order = refl
devices_again (d ∷ ds) are order = rw (no_dash d ds are, cut_devices d ds are, each_again (d ∷ ds) are, order) refl

abbrev TakesDevices : List ℕ → List ℕ → Type 0
TakesDevices text ds = (text ≡ devices_text ds) × All IsByte ds × (are_in_order ds ≡ true)

no_pieces : (text : List ℕ) → slice_split is_comma text ≡ [] → ⊥
no_pieces text none = let count = ap (λ (l : List (List ℕ)). length l) none in absurd (omega (arith, length-slice_split is_comma text, count))

joined_takes : (text ds : List ℕ) → slice_split is_comma text ≡ map decimal ds → text ≡ devices_text ds
joined_takes text [] cut = absurd (no_pieces text cut)
joined_takes text (d ∷ ds) cut = sym (join_with_byte-slice_split 44 text) ∙ ap (join_with_byte 44) cut

pub devices_take : (text ds : List ℕ) → devices_of text ≡ Some ds → TakesDevices text ds
unfolding devices_of
devices_take text ds is =
    elim (cases_Bool (bytes_eq text (codes "-"))) [
      | inl dash ↦
          let none = some_is [] ds (sym (cond-true (bytes_eq text (codes "-")) _ _ dash) ∙ is) in
          subst (TakesDevices text) none ((bytes_eq-Decides text (codes "-")).0 dash, All-nil IsByte, refl)
      | inr other ↦
          let after = sym (cond-false (bytes_eq text (codes "-")) _ _ other) ∙ is in
          let each = bind_some (each_device (slice_split is_comma text)) (λ l. cond (are_in_order l) (Some l) None) ds after in
          let order = cond_some (are_in_order each.0) each.0 ds each.2 in
          let numbers = each_takes (slice_split is_comma text) each.0 each.1 in
          subst (TakesDevices text) order.1 (joined_takes text each.0 numbers.0, numbers.1, order.0)
    ]

-- ---- no line ends in it

pub devices_have_no_line_feed : (ds : List ℕ) → All IsByte ds → list_all (avoids 10) (devices_text ds) ≡ true
devices_have_no_line_feed [] are = refl
devices_have_no_line_feed (d ∷ []) are = number_has_no_line_feed (decimal d) (digits_of d (All-head IsByte d [] are))
devices_have_no_line_feed (d ∷ e ∷ ds) are =
    list_all-append (avoids 10) (decimal d) (44 ∷ devices_text (e ∷ ds))
    ∙ and_from _ _ (number_has_no_line_feed (decimal d) (digits_of d (All-head IsByte d (e ∷ ds) are)))
    (devices_have_no_line_feed (e ∷ ds) (All-tail IsByte d (e ∷ ds) are))
