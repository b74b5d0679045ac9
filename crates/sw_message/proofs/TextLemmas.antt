-- Texts that end with a line feed: when one can stand in front of bytes.
use Rattle.std.proofs.Common.{◌≡◌, ℕ, ◌+◌, ◌-◌, ◌<◌, ◌≤◌, true, false, List, [], ◌∷◌, ◌++◌, length, take, drop, refl, sym, ap, ◌∙◌, arith, inl, inr}
use Rattle.std.proofs.Common.{append_assoc, length-append, take-append-drop}
use Rattle.std.specs.Prelude.{◌==◌}
use Rattle.std.specs.List.{list_any}
use lib.Seq.{drop-append-le}
use Rattle.std.proofs.lemmas.Bool.{cases_lt, or_right}
use Rattle.std.proofs.lemmas.List.{take-append-le, take_at}
use Rattle.sw_message.proofs.ListLemmas.{take_past}
use Rattle.httparse.specs.Grammar.{LineEnd, crlf, lf, print_end, Field, print_section, RequestHead, print_request}

abbrev EndsInLineFeed : List ℕ → Type 0
EndsInLineFeed bytes = (front : List ℕ) × (bytes ≡ front ++ 10 ∷ [])

ends_behind : (a b : List ℕ) → EndsInLineFeed b → EndsInLineFeed (a ++ b)
ends_behind a b ends = (a ++ ends.0, ap (λ (l : List ℕ). a ++ l) ends.1 ∙ sym (append_assoc a ends.0 (10 ∷ [])))

line_end_ends : (end : LineEnd) → EndsInLineFeed (print_end end)
line_end_ends crlf = (13 ∷ [], refl)
line_end_ends lf = ([], refl)

pub section_ends : (fields : List Field) (end : LineEnd) → EndsInLineFeed (print_section fields end)
section_ends fields end = ends_behind _ _ (line_end_ends end)

pub head_ends : (h : RequestHead) → EndsInLineFeed (print_request h)
unfolding print_request
head_ends h = ends_behind _ _ (section_ends h.fields h.last)

has_feed : (front rest : List ℕ) → list_any (λ b. b == 10) (front ++ 10 ∷ rest) ≡ true
has_feed [] rest = refl
has_feed (b ∷ front) rest = or_right _ _ (has_feed front rest)

-- the text doesn't stand in front of the first bytes, and no line feed stands behind them
pub no_new_text : (text rest bytes : List ℕ) (seen : ℕ) → EndsInLineFeed text → ((after : List ℕ) → ¬ (take seen bytes ≡ text ++ after))
    → list_any (λ b. b == 10) (drop seen bytes) ≡ false → bytes ≡ text ++ rest → ⊥
no_new_text text rest bytes seen ends none_seen no_feed e = elim (cases_lt seen (length text)) [ inl past ↦ behind past | inr inside ↦ within inside ]
  where
    within : length text ≤ seen → ⊥
    within inside =
        let more = seen - length text in
        let sum : length text + more ≡ seen = omega arith in
        none_seen (take more rest)
        (ap (take seen) e ∙ ap (λ (n : ℕ). take n (text ++ rest)) (sym sum) ∙ take_past text rest (length text) more refl)

    behind : seen < length text → ⊥
    behind past =
        let fits : seen ≤ length ends.0 = omega (arith, ap length ends.1, length-append ends.0 (10 ∷ [])) in
        let whole : drop seen bytes ≡ drop seen ends.0 ++ 10 ∷ rest =
        ap (drop seen) (e ∙ ap (λ (l : List ℕ). l ++ rest) ends.1 ∙ append_assoc ends.0 (10 ∷ []) rest) ∙ drop-append-le seen ends.0 (10 ∷ rest) fits in
        let feed = ap (list_any (λ b. b == 10)) whole ∙ has_feed (drop seen ends.0) rest in
        cc

-- a text that isn't longer than the bytes stands in front of them already
pub short_text : (text rest bytes more : List ℕ) → length text ≤ length bytes → bytes ++ more ≡ text ++ rest → bytes ≡ text ++ drop (length text) bytes
short_text text rest bytes more inside e =
    let n = length text in
    let front : take n bytes ≡ text = sym (take-append-le n bytes more inside) ∙ ap (take n) e ∙ take_at text rest n refl in
    sym (take-append-drop n bytes) ∙ ap (λ (l : List ℕ). l ++ drop n bytes) front
