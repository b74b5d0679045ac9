-- The laws of times and their texts.
use Rattle.std.proofs.Common.{◌≡◌, ℕ, ◌+◌, ◌*◌, ◌-◌, ◌/◌, ◌%◌, ◌^◌, ◌<◌, ◌≤◌, List, [], ◌∷◌, length, refl, sym, arith, subst}
use Rattle.std.specs.Str.Parse.{digits_value}
use Rattle.std.proofs.lemmas.Grind.{common_steps}
use Rattle.sw_timestamp.specs.Laws.{NormalTextReadsBack, ReadsAsOneTime, ReadsAsTime, TextsDiffer}
use Rattle.sw_timestamp.specs.TimeText.{IsTimeText, last_digits, normal_text, with_point}
use Rattle.sw_timestamp.proofs.NormalText.{AllDigits-last_digits, digits_value-last_digits, length-last_digits}
use Rattle.sw_timestamp.proofs.TimeTextLemmas.{reads_as_one}
use Rattle.sw_timestamp.proofs.UnitsBound.{units_bound}

pub reads_as_one_time : ReadsAsOneTime
reads_as_one_time = reads_as_one

pub reads_as_time : ReadsAsTime
reads_as_time text t is =
    let bound = units_bound is.seconds is.decimals is.are_seconds.1 is.seconds_fit is.are_decimals is.decimals_fit in
    rw is.is_units bound

with_point-some : (ds : List ℕ) → 0 < length ds → with_point ds ≡ 46 ∷ ds
with_point-some [] some = absurd (omega arith)
with_point-some (d ∷ ds) some = refl

value_of_parts : (t whole part : ℕ) → whole ≡ t / 100000 → part ≡ t % 100000 → t ≡ whole * 100000 + part * 10 ^ (5 - 5)
value_of_parts t whole part a b = omega arith

normal_text_is : (t : ℕ) → t ≤ 999999999999999 → IsTimeText (normal_text t) t
normal_text_is t small =
    let whole : length (last_digits 10 (t / 100000)) ≡ 10 = length-last_digits 10 (t / 100000) in
    let part : length (last_digits 5 (t % 100000)) ≡ 5 = length-last_digits 5 (t % 100000) in
    record {
      seconds = last_digits 10 (t / 100000);
      decimals = last_digits 5 (t % 100000);
      is_text = rw (with_point-some (last_digits 5 (t % 100000)) (omega arith)) refl;
      are_seconds = (omega arith, AllDigits-last_digits 10 (t / 100000));
      seconds_fit = omega arith;
      are_decimals = AllDigits-last_digits 5 (t % 100000);
      decimals_fit = omega arith;
      is_units =
          let is_whole : digits_value 10 (last_digits 10 (t / 100000)) ≡ t / 100000 = digits_value-last_digits 10 (t / 100000) (omega arith) in
          let is_part : digits_value 10 (last_digits 5 (t % 100000)) ≡ t % 100000 = digits_value-last_digits 5 (t % 100000) (omega arith) in
          rw part (value_of_parts t (digits_value 10 (last_digits 10 (t / 100000))) (digits_value 10 (last_digits 5 (t % 100000))) is_whole is_part);
    }

length-normal_text : (t : ℕ) → length (normal_text t) ≡ 16
length-normal_text t = grind (arith, common_steps, length-last_digits 10 (t / 100000), length-last_digits 5 (t % 100000))

pub normal_text_reads_back : NormalTextReadsBack
normal_text_reads_back t small = (normal_text_is t small, length-normal_text t)

pub texts_differ : TextsDiffer
texts_differ t u small_t small_u same =
    let P : List ℕ → Type 0 = λ text. IsTimeText text u in
    reads_as_one (normal_text t) t u (normal_text_is t small_t) (subst P (sym same) (normal_text_is u small_u))
