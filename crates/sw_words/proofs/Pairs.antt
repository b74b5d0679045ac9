-- Names and values in turn, as a list of pairs.
use Rattle.std.proofs.Common.{◌≡◌, ℕ, ◌+◌, suc, zero, Bool, true, false, cond, ◌&&◌, ◌||◌, List}
use Rattle.std.proofs.Common.{[], ◌∷◌, length, refl, sym, ap, subst, ◌∙◌, Option, Some, None, arith}
use Rattle.std.specs.Prelude.{not}
use Rattle.std.specs.List.{flat_map, list_any}
use Rattle.std.specs.List.Sorted.{IsPermutation}
use Rattle.std.specs.Str.{bytes_eq}
use Rattle.std.proofs.lemmas.List.Sorted.{IsPermutation-refl, IsPermutation-trans, IsPermutation-cons, IsPermutation-middle, list_any-IsPermutation}
use Rattle.std.proofs.lemmas.Slice.Eq.{bytes_eq-Decides}
use Rattle.sw_words.specs.Reading.{value_of}

abbrev pub Pair : Type 0
Pair = List ℕ × List ℕ

-- the words of pairs
abbrev pub words_of : List Pair → List (List ℕ)
words_of pairs = flat_map (λ pair. pair.0 ∷ pair.1 ∷ []) pairs

pub bytes_eq-same : (text : List ℕ) → bytes_eq text text ≡ true
bytes_eq-same text = (bytes_eq-Decides text text).1 refl

-- ---- an even number of words are pairs

pub record Paired (words : List (List ℕ)) (count : ℕ) : Type 0 where
  pub pairs : List Pair
  pub are : words ≡ words_of pairs
  pub as_many : length pairs ≡ count

pub paired : (count : ℕ) (words : List (List ℕ)) → length words ≡ count + count → Paired words count
paired zero [] is = record { pairs = []; are = refl; as_many = refl }
paired zero (name ∷ words) is = absurd (omega arith)
paired (suc count) [] is = absurd (omega arith)
paired (suc count) (name ∷ []) is = absurd (omega arith)
paired (suc count) (name ∷ value ∷ words) is =
    let rest = paired count words (omega arith) in
    record {
      pairs = (name, value) ∷ rest.pairs;
      are = ap (λ ws. name ∷ value ∷ ws) rest.are;
      as_many = ap suc rest.as_many;
    }

pub length-words_of : (pairs : List Pair) → length (words_of pairs) ≡ length pairs + length pairs
length-words_of [] = refl
length-words_of (pair ∷ pairs) = let more = length-words_of pairs in omega arith

-- ---- the value of a name

-- the value of the first pair of this name
abbrev pub value_in : List ℕ → List Pair → Option (List ℕ)
value_in wanted [] = None
value_in wanted (pair ∷ pairs) = cond (bytes_eq pair.0 wanted) (Some pair.1) (value_in wanted pairs)

pub value_of_words : (wanted : List ℕ) (pairs : List Pair) → value_of wanted (words_of pairs) ≡ value_in wanted pairs
unfolding value_of
value_of_words wanted [] = refl
value_of_words wanted (pair ∷ pairs) = ap (λ o. cond (bytes_eq pair.0 wanted) (Some pair.1) o) (value_of_words wanted pairs)

-- ---- a pair that is found, and the others

pub record Taken (name value : List ℕ) (pairs : List Pair) : Type 0 where
  pub others : List Pair
  pub same : IsPermutation ((name, value) ∷ others) pairs
  pub fewer : length pairs ≡ suc (length others)
  pub kept : (wanted : List ℕ) → bytes_eq name wanted ≡ false → value_in wanted others ≡ value_in wanted pairs

swapped : (a b : Pair) (pairs : List Pair) → IsPermutation (a ∷ b ∷ pairs) (b ∷ a ∷ pairs)
swapped a b pairs = IsPermutation-middle (a ∷ []) b pairs

taken_first : (name value : List ℕ) (pair : Pair) (pairs : List Pair) → pair.0 ≡ name → pair.1 ≡ value → Taken name value (pair ∷ pairs)
taken_first name value pair pairs is_name is_value =
    let is : (name, value) ≡ pair = ap (λ n. (n, value)) (sym is_name) ∙ ap (λ v. (pair.0, v)) (sym is_value) in
    record {
      others = pairs;
      same = subst (λ (p : Pair). IsPermutation ((name, value) ∷ pairs) (p ∷ pairs)) is (IsPermutation-refl ((name, value) ∷ pairs));
      fewer = refl;
      kept = λ wanted differs.
          let other : bytes_eq pair.0 wanted ≡ false = rw is_name differs in
          rw other refl;
    }

taken_later : (name value : List ℕ) (pair : Pair) (pairs : List Pair) → Taken name value pairs → Taken name value (pair ∷ pairs)
taken_later name value pair pairs later = record {
  others = pair ∷ later.others;
  same = IsPermutation-trans _ _ _ (swapped (name, value) pair later.others) (IsPermutation-cons pair _ _ later.same);
  fewer = ap suc later.fewer;
  kept = λ wanted differs. ap (λ o. cond (bytes_eq pair.0 wanted) (Some pair.1) o) (later.kept wanted differs);
}

some_same : (x y : List ℕ) → Some x ≡ Some y → x ≡ y
some_same x y e = cc

taken_by : (name value : List ℕ) (pair : Pair) (pairs : List Pair) (b : Bool) → bytes_eq pair.0 name ≡ b
    → (value_in name pairs ≡ Some value → Taken name value pairs)
    → cond b (Some pair.1) (value_in name pairs) ≡ Some value → Taken name value (pair ∷ pairs)
taken_by name value pair pairs true e later found = taken_first name value pair pairs ((bytes_eq-Decides pair.0 name).0 e) (some_same _ _ found)
taken_by name value pair pairs false e later found = taken_later name value pair pairs (later found)

pub taken : (name value : List ℕ) (pairs : List Pair) → value_in name pairs ≡ Some value → Taken name value pairs
taken name value [] is = absurd cc
taken name value (pair ∷ pairs) is = taken_by name value pair pairs (bytes_eq pair.0 name) refl (taken name value pairs) is

no_more : (pairs : List Pair) → length pairs ≡ 0 → pairs ≡ []
no_more [] is = refl
no_more (pair ∷ pairs) is = absurd (omega arith)

pub taken_alone : (name value : List ℕ) (pairs : List Pair) → Taken name value pairs → length pairs ≡ 1 → IsPermutation ((name, value) ∷ []) pairs
taken_alone name value pairs one alone =
    let fewer = one.fewer in
    let none : one.others ≡ [] = no_more one.others (omega arith) in
    subst (λ (ps : List Pair). IsPermutation ((name, value) ∷ ps) pairs) none one.same

-- ---- pairs in any order

-- no pair of this name has another value
abbrev pub differs : List ℕ → List ℕ → Pair → Bool
differs name value pair = bytes_eq pair.0 name && not (bytes_eq pair.1 value)

abbrev pub is_named : List ℕ → Pair → Bool
is_named name pair = bytes_eq pair.0 name

value_by : (name value : List ℕ) (pair : Pair) (pairs : List Pair) (named same : Bool) → bytes_eq pair.0 name ≡ named → bytes_eq pair.1 value ≡ same
    → (list_any (is_named name) pairs ≡ true → list_any (differs name value) pairs ≡ false → value_in name pairs ≡ Some value)
    → (named || list_any (is_named name) pairs) ≡ true → ((named && not same) || list_any (differs name value) pairs) ≡ false
    → cond named (Some pair.1) (value_in name pairs) ≡ Some value
value_by name value pair pairs true true n s later some one = ap Some ((bytes_eq-Decides pair.1 value).0 s)
value_by name value pair pairs true false n s later some one = absurd cc
value_by name value pair pairs false same n s later some one = later some one

pub value_is : (name value : List ℕ) (pairs : List Pair) → list_any (is_named name) pairs ≡ true → list_any (differs name value) pairs ≡ false
    → value_in name pairs ≡ Some value
value_is name value [] some one = absurd cc
value_is name value (pair ∷ pairs) some one =
    value_by name value pair pairs (bytes_eq pair.0 name) (bytes_eq pair.1 value) refl refl (value_is name value pairs) some one

-- what is found in one order is found in another
pub value_in_any_order : (name value : List ℕ) (wanted pairs : List Pair) → IsPermutation wanted pairs
    → list_any (is_named name) wanted ≡ true → list_any (differs name value) wanted ≡ false → value_in name pairs ≡ Some value
value_in_any_order name value wanted pairs order some one =
    value_is name value pairs
    (sym (list_any-IsPermutation (is_named name) wanted pairs order) ∙ some)
    (sym (list_any-IsPermutation (differs name value) wanted pairs order) ∙ one)
