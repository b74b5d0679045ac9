use Rattle.std.proofs.Common.{◌≡◌, ◌≤◌, ◌<◌, ℕ, List, [], ◌∷◌, length, get_or, Result, IfOk, arith, rules}
use Rattle.sw_message.specs.declared.fields.Field.{Field}
use Rattle.sw_outside.specs.declared.errors.NoMemory.{NoMemory}
use Rattle.sw_ring.specs.declared.ring.Ring.{Ring}
use Rattle.sw_control.specs.Asking.{IsAsked}
use Rattle.sw_control.specs.declared.asking.Control.{Control}
use Rattle.sw_control.proofs.asking.asked.Goals as goal

one_word : (words : List (List ℕ)) (word : List ℕ) → 1 ≤ length words → length words < 2 → word ≡ get_or words 0 word → words ≡ word ∷ []
one_word [] word least most is = absurd (omega arith)
one_word (w ∷ []) word least most is = cc
one_word (w ∷ v ∷ words) word least most is = absurd (omega arith)

two_words : (words : List (List ℕ)) (a b : List ℕ) → 2 ≤ length words → length words < 3 → a ≡ get_or words 0 a → b ≡ get_or words 1 b → words ≡ a ∷ b ∷ []
two_words [] a b least most is_a is_b = absurd (omega arith)
two_words (v ∷ []) a b least most is_a is_b = absurd (omega arith)
two_words (v ∷ w ∷ []) a b least most is_a is_b = cc
two_words (v ∷ w ∷ x ∷ words) a b least most is_a is_b = absurd (omega arith)

four_words : (words : List (List ℕ)) (a b c d : List ℕ) → 4 ≤ length words → length words < 5
    → a ≡ get_or words 0 a → b ≡ get_or words 1 b → c ≡ get_or words 2 c → d ≡ get_or words 3 d → words ≡ a ∷ b ∷ c ∷ d ∷ []
four_words [] a b c d least most is_a is_b is_c is_d = absurd (omega arith)
four_words (v ∷ []) a b c d least most is_a is_b is_c is_d = absurd (omega arith)
four_words (v ∷ w ∷ []) a b c d least most is_a is_b is_c is_d = absurd (omega arith)
four_words (v ∷ w ∷ x ∷ []) a b c d least most is_a is_b is_c is_d = absurd (omega arith)
four_words (v ∷ w ∷ x ∷ y ∷ []) a b c d least most is_a is_b is_c is_d = cc
four_words (v ∷ w ∷ x ∷ y ∷ z ∷ words) a b c d least most is_a is_b is_c is_d = absurd (omega arith)

five_words : (words : List (List ℕ)) (a b c d e : List ℕ) → 5 ≤ length words → length words < 6
    → a ≡ get_or words 0 a → b ≡ get_or words 1 b → c ≡ get_or words 2 c → d ≡ get_or words 3 d → e ≡ get_or words 4 e
    → words ≡ a ∷ b ∷ c ∷ d ∷ e ∷ []
five_words [] a b c d e least most is_a is_b is_c is_d is_e = absurd (omega arith)
five_words (v ∷ []) a b c d e least most is_a is_b is_c is_d is_e = absurd (omega arith)
five_words (v ∷ w ∷ []) a b c d e least most is_a is_b is_c is_d is_e = absurd (omega arith)
five_words (v ∷ w ∷ x ∷ []) a b c d e least most is_a is_b is_c is_d is_e = absurd (omega arith)
five_words (v ∷ w ∷ x ∷ y ∷ []) a b c d e least most is_a is_b is_c is_d is_e = absurd (omega arith)
five_words (v ∷ w ∷ x ∷ y ∷ z ∷ []) a b c d e least most is_a is_b is_c is_d is_e = cc
five_words (u ∷ v ∷ w ∷ x ∷ y ∷ z ∷ words) a b c d e least most is_a is_b is_c is_d is_e = absurd (omega arith)

along : (ring : Ring) (words same : List (List ℕ)) (fields : List Field) (asked : Control)
    → words ≡ same → IsAsked ring same fields asked → IsAsked ring words fields asked
along ring words same fields asked is known = rw is known

along_ok : (ring : Ring) (words same : List (List ℕ)) (fields : List Field) (got : Result Control NoMemory)
    → words ≡ same → IfOk got (IsAsked ring same fields) → IfOk got (IsAsked ring words fields)
along_ok ring words same fields got is known = rw is known

pub returns-in-len1-clause-asked : goal.returns-in-len1-clause-asked
returns-in-len1-clause-asked c =
    let words = one_word c.args.words.now c.word-item.result c.in-len1.len_at_least c.in-len1.len_below c.word-item.is in
    rw words (search rules)

pub returns-in-len2-clause-asked : goal.returns-in-len2-clause-asked
returns-in-len2-clause-asked c =
    let words = two_words c.args.words.now c.word-item-then-words-lt3.result c.device-item.result c.in-len2.len_at_least c.in-len2.len_below
    c.word-item-then-words-lt3.is c.device-item.is in
    along _ _ _ _ _ (cc) c.of_device.ensures.asked

pub returns-in-len4-clause-asked : goal.returns-in-len4-clause-asked
returns-in-len4-clause-asked c =
    let words = four_words c.args.words.now c.word-item-then-words-lt5.result c.first-item.result c.second-item.result c.third-item.result
    c.in-len4.len_at_least c.in-len4.len_below c.word-item-then-words-lt5.is c.first-item.is c.second-item.is c.third-item.is in
    along_ok _ _ _ _ _ (cc) c.of_three.ensures.asked

pub returns-in-len5-clause-asked : goal.returns-in-len5-clause-asked
returns-in-len5-clause-asked c =
    let words = five_words c.args.words.now c.word-item-then-words-lt6.result c.first-item-then-words-lt6.result c.second-item-then-words-lt6.result
    c.third-item-then-words-lt6.result c.fourth-item.result c.in-len5.len_at_least c.in-len5.len_below
    c.word-item-then-words-lt6.is c.first-item-then-words-lt6.is c.second-item-then-words-lt6.is c.third-item-then-words-lt6.is c.fourth-item.is in
    along_ok _ _ _ _ _ (cc) c.of_four.ensures.asked
