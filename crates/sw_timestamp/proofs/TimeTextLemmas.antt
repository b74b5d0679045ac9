-- What a text reads as is given by the digits that it begins with and by what follows them.
use Rattle.std.proofs.Common.{◌≡◌, ℕ, ◌<◌, ◌≤◌, List, [], ◌∷◌, length, take, drop, refl, ap, sym, ◌∙◌, arith, subst}
use Rattle.std.specs.Char.{is_ascii_digit}
use Rattle.std.specs.List.{prefix_len}
use Rattle.std.specs.Str.Parse.{AllDigits}
use Rattle.std.proofs.lemmas.List.{take-append-drop}
use Rattle.std.proofs.Math.Seq.{take-append_seam, drop-append_seam}
use Rattle.sw_timestamp.specs.TimeText.{IsTimeText, units_of_digits, with_point}
use Rattle.sw_timestamp.proofs.DigitsAtFront.{front_digits, prefix_len-digits}

-- how many digits the text begins with
abbrev pub digit_count : List ℕ → ℕ
digit_count text = prefix_len is_ascii_digit text

prefix_len-with_point : (decimals : List ℕ) → prefix_len is_ascii_digit (with_point decimals) ≡ 0
prefix_len-with_point [] = refl
prefix_len-with_point (d ∷ ds) = refl

seconds_count : (text : List ℕ) (t : ℕ) (is : IsTimeText text t) → digit_count text ≡ length is.seconds
seconds_count text t is =
    ap digit_count is.is_text
    ∙ prefix_len-digits is.seconds (with_point is.decimals) is.are_seconds.1 (prefix_len-with_point is.decimals)

-- the seconds of a time's text are the digits that it begins with
pub seconds_are : (text : List ℕ) (t : ℕ) (is : IsTimeText text t) → is.seconds ≡ take (digit_count text) text
seconds_are text t is =
    rw (seconds_count text t is, is.is_text) (sym (take-append_seam is.seconds (with_point is.decimals)))

-- and the decimals with their point are what follows
pub rest_is : (text : List ℕ) (t : ℕ) (is : IsTimeText text t) → with_point is.decimals ≡ drop (digit_count text) text
rest_is text t is =
    rw (seconds_count text t is, is.is_text) (sym (drop-append_seam is.seconds (with_point is.decimals)))

drop-with_point : (ds : List ℕ) → drop 1 (with_point ds) ≡ ds
drop-with_point [] = refl
drop-with_point (d ∷ ds) = refl

pub decimals_are : (text : List ℕ) (t : ℕ) (is : IsTimeText text t) → is.decimals ≡ drop 1 (drop (digit_count text) text)
decimals_are text t is = sym (drop-with_point is.decimals) ∙ ap (drop 1) (rest_is text t is)

pub reads_as_one : (text : List ℕ) (t u : ℕ) → IsTimeText text t → IsTimeText text u → t ≡ u
reads_as_one text t u at au =
    let st = seconds_are text t at in
    let su = seconds_are text u au in
    let dt = decimals_are text t at in
    let du = decimals_are text u au in
    at.is_units ∙ rw (st, dt, ← su, ← du) (sym au.is_units)

with_point-injective : (ds es : List ℕ) → with_point ds ≡ with_point es → ds ≡ es
with_point-injective ds es same = sym (drop-with_point ds) ∙ ap (drop 1) same ∙ drop-with_point es

-- so the digits at its front are those of a time's seconds
pub are_seconds : (text : List ℕ) (t : ℕ) → IsTimeText text t → AllDigits 10 (take (digit_count text) text) × (1 ≤ length (take (digit_count text) text)) ×
    (length (take (digit_count text) text) ≤ 10)
are_seconds text t is =
    let P : List ℕ → Type 0 = λ s. AllDigits 10 s × (1 ≤ length s) × (length s ≤ 10) in
    subst P (seconds_are text t is) (is.are_seconds.1, omega arith, is.seconds_fit)

-- and what follows them, but for a point, are decimals
pub are_decimals : (text decimals : List ℕ) (t : ℕ) → drop (digit_count text) text ≡ with_point decimals → IsTimeText text t →
    AllDigits 10 decimals × (0 ≤ length decimals) × (length decimals ≤ 5)
are_decimals text decimals t rest is =
    let P : List ℕ → Type 0 = λ s. AllDigits 10 s × (0 ≤ length s) × (length s ≤ 5) in
    subst P (with_point-injective is.decimals decimals (rest_is text t is ∙ rest)) (is.are_decimals, omega arith, is.decimals_fit)

-- a text with such parts reads as the time of its digits
pub reads : (text decimals : List ℕ)
    → drop (digit_count text) text ≡ with_point decimals
    → 0 < length (take (digit_count text) text)
    → length (take (digit_count text) text) ≤ 10
    → AllDigits 10 decimals
    → length decimals ≤ 5
    → IsTimeText text (units_of_digits (take (digit_count text) text) decimals)
reads text decimals rest some fit are_decimals decimals_fit = record {
  seconds = take (digit_count text) text;
  decimals = decimals;
  is_text = rw (← rest) (sym (take-append-drop (digit_count text) text));
  are_seconds = (some, front_digits text);
  seconds_fit = fit;
  are_decimals = are_decimals;
  decimals_fit = decimals_fit;
  is_units = refl;
}

-- so a text is no time's where a part is none
pub refuses_rest : (text rest : List ℕ) (n t : ℕ) → n ≡ digit_count text → rest ≡ drop n text → ((decimals : List ℕ) → rest ≡ with_point decimals → ⊥) →
    IsTimeText text t → ⊥
refuses_rest text rest n t count is_rest none is =
    none is.decimals (is_rest ∙ ap (λ (k : ℕ). drop k text) count ∙ sym (rest_is text t is))

pub refuses_seconds : (text seconds : List ℕ) (n t : ℕ) → n ≡ digit_count text → seconds ≡ take n text →
    (AllDigits 10 seconds × (1 ≤ length seconds) × (length seconds ≤ 10) → ⊥) → IsTimeText text t → ⊥
refuses_seconds text seconds n t count are none is =
    none (rw (are, count) (are_seconds text t is))

pub refuses_decimals : (text rest decimals : List ℕ) (n t : ℕ) → n ≡ digit_count text → rest ≡ drop n text → rest ≡ with_point decimals →
    (AllDigits 10 decimals × (0 ≤ length decimals) × (length decimals ≤ 5) → ⊥) → IsTimeText text t → ⊥
refuses_decimals text rest decimals n t count is_rest pointed none is =
    none (are_decimals text decimals t (ap (λ (k : ℕ). drop k text) (sym count) ∙ sym is_rest ∙ pointed) is)
