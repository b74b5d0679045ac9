-- Ten digits are as many bytes, all of them digits, and write their number.
use Rattle.std.proofs.Common.{◌≡◌, ℕ, ◌*◌, ◌-◌, ◌≤◌, zero, suc, List, [], ◌++◌, length, drop, refl, sym, ◌∙◌, ap, arith, length-append}
use Rattle.std.specs.Prelude.{replicate}
use Rattle.std.specs.Fmt.{decimal}
use Rattle.std.specs.Str.Parse.{AllDigits, digits_value}
use Rattle.std.proofs.lemmas.Fmt.{decimal_is_IsNumeral, length-decimal-le}
use Rattle.std.proofs.lemmas.List.{append-nil, drop_all, length-drop, length-replicate, take-replicate}
use borrow.Rule.Slice.PartMut.{put_mid}
use Rattle.sw_timestamp.specs.TimeText.{IsTimeText}
use Rattle.sw_expiry.specs.TenDigits.{ten_digits}

pub at_most_ten : (n : ℕ) → n ≤ 9999999999 → length (decimal n) ≤ 10
at_most_ten n small = length-decimal-le 10 n (omega arith) (omega arith) (omega arith)

pub length-ten_digits : (n : ℕ) → n ≤ 9999999999 → length (ten_digits n) ≡ 10
unfolding ten_digits
length-ten_digits n small =
    let zeros : List ℕ = replicate (10 - length (decimal n)) 48 in
    omega (arith, length-append zeros (decimal n), length-replicate {A = ℕ} (10 - length (decimal n)) 48, at_most_ten n small)

zeros-digits : (k : ℕ) (ds : List ℕ) → AllDigits 10 ds → AllDigits 10 (replicate k 48 ++ ds)
zeros-digits zero ds all = all
zeros-digits (suc k) ds all = (omega arith, zeros-digits k ds all)

pub AllDigits-ten_digits : (n : ℕ) → n ≤ 9999999999 → AllDigits 10 (ten_digits n)
unfolding ten_digits
AllDigits-ten_digits n small = zeros-digits (10 - length (decimal n)) (decimal n) (decimal_is_IsNumeral n (omega arith)).0.1

zeros-value : (k : ℕ) (ds : List ℕ) → digits_value 10 (replicate k 48 ++ ds) ≡ digits_value 10 ds
zeros-value zero ds = refl
zeros-value (suc k) ds = zeros-value k ds

pub value-ten_digits : (n : ℕ) → n ≤ 9999999999 → digits_value 10 (ten_digits n) ≡ n
unfolding ten_digits
value-ten_digits n small = zeros-value (10 - length (decimal n)) (decimal n) ∙ (decimal_is_IsNumeral n (omega arith)).1

pub ten_digits-injective : (m n : ℕ) → m ≤ 9999999999 → n ≤ 9999999999 → ten_digits m ≡ ten_digits n → m ≡ n
ten_digits-injective m n small_m small_n same = sym (value-ten_digits m small_m) ∙ ap (digits_value 10) same ∙ value-ten_digits n small_n

-- they are the text of a time of whole seconds
pub ten_digits-time : (n : ℕ) → n ≤ 9999999999 → IsTimeText (ten_digits n) (n * 100000)
ten_digits-time n small =
    let ten : length (ten_digits n) ≡ 10 = length-ten_digits n small in
    record {
      seconds = ten_digits n;
      decimals = [];
      is_text = sym (append-nil (ten_digits n));
      are_seconds = (omega arith, AllDigits-ten_digits n small);
      seconds_fit = omega arith;
      are_decimals = tt;
      decimals_fit = omega arith;
      is_units = omega (arith, value-ten_digits n small);
    }

-- ten zeros over whose end the decimal text is written
pub written : (n : ℕ) (digits : List ℕ) → n ≤ 9999999999 → digits ≡ decimal n →
    put_mid (10 - length digits) (10 - (10 - length digits)) (replicate 10 48) digits ≡ ten_digits n
unfolding ten_digits
written n digits small is =
    let fits : length digits ≤ 10 = omega (arith, at_most_ten n small, ap length is) in
    let zeros : List ℕ = replicate 10 48 in
    let back : drop (10 - (10 - length digits)) (drop (10 - length digits) zeros) ≡ [] =
    drop_all (10 - (10 - length digits)) (drop (10 - length digits) zeros) (omega (arith, length-drop (10 - length digits) zeros)) in
    rw (back, append-nil, take-replicate {X = ℕ} (10 - length digits) 10 48 (omega arith), is) refl
