-- What is wrong with the name of an entry.
use Rattle.std.proofs.Common.{◌≡◌, ℕ, ◌+◌, ◌<◌, ◌≤◌, Bool, true, false, not, ◌||◌, ◌==◌, cond, ltb, List, [], ◌∷◌, ◌++◌, length, None, Some, refl, ◌∙◌}
use Rattle.std.proofs.Common.{arith, length-append}
use lib.Utf8.{encode}
use Rattle.std.specs.List.{list_any}
use Rattle.std.specs.Str.{chars, is_utf8}
use Rattle.std.specs.Str.Parse.{AllDigits}
use Rattle.std.proofs.lemmas.Bool.{lt-ltb, ne_eqb}
use Rattle.std.proofs.lemmas.Bool.Decides.{nat_tests}
use Rattle.std.proofs.lemmas.Fmt.{IsAscii-from_digits}
use Rattle.std.proofs.lemmas.List.Folds.{list_any-append}
use Rattle.std.proofs.lemmas.Str.{IsUtf8-append, IsUtf8-from_ascii, IsUtf8-from_is_utf8, is_utf8-from_IsUtf8}
use Rattle.sw_timestamp.proofs.DigitsAtFront.{digit_is}
use Rattle.sw_hashpath.specs.BadNames.{bad_name, has_slash, is_empty, is_over, is_text}
use Rattle.sw_hashpath.specs.declared.bad_name.BadName.TheVariants.{NotText, TooLong}
use Rattle.sw_hashpath.specs.declared.name.Name.{Name}
use Rattle.sw_expiry.specs.Laws.{LongPathsAreRefused}
use Rattle.sw_expiry.specs.Queue.{entry_of, queue_account, queue_entry, queue_fault, queue_time}
use Rattle.sw_expiry.specs.TenDigits.{ten_digits}
use Rattle.sw_expiry.proofs.Good.{IsText, good-parts}
use Rattle.sw_expiry.proofs.QueueLaws.{not-later}
use Rattle.sw_expiry.proofs.TenDigits.{AllDigits-ten_digits, length-ten_digits}

-- ---- texts

-- no digit passes a test that only other bytes pass
digits-fail : (p : ℕ → Bool) → ((c : ℕ) → 48 ≤ c → p c ≡ false) → (ds : List ℕ) → AllDigits 10 ds → list_any p ds ≡ false
digits-fail p fails [] all = refl
digits-fail p fails (d ∷ ds) all = rw (fails d (digit_is d all.0).0, digits-fail p fails ds all.1) refl

digits-text : (ds : List ℕ) → AllDigits 10 ds → IsText ds
digits-text ds all = record {
  utf8 = is_utf8-from_IsUtf8 ds (IsUtf8-from_ascii ds (IsAscii-from_digits ds all));
  no_zero = digits-fail (λ b. b == 0) (λ c above. ne_eqb c 0 (λ e. omega arith)) ds all;
}

both-texts : (xs ys : List ℕ) → IsText xs → IsText ys → IsText (xs ++ ys)
both-texts xs ys one two = record {
  utf8 = is_utf8-from_IsUtf8 (xs ++ ys) (IsUtf8-append xs ys (IsUtf8-from_is_utf8 xs one.utf8) (IsUtf8-from_is_utf8 ys two.utf8));
  no_zero = list_any-append (λ b. b == 0) xs ys ∙ rw (one.no_zero, two.no_zero) refl;
}

dash-text : IsText (45 ∷ [])
unfolding is_utf8 chars encode
dash-text = record { utf8 = refl; no_zero = refl }

slash-text : IsText (47 ∷ [])
unfolding is_utf8 chars encode
slash-text = record { utf8 = refl; no_zero = refl }

account-utf8 : is_utf8 queue_account ≡ true
unfolding is_utf8 chars encode
account-utf8 = refl

entry-text : (t : ℕ) (a c o : List ℕ) → t ≤ 9999999999 → IsText a → IsText c → IsText o → IsText (queue_entry t a c o)
unfolding queue_entry
entry-text t a c o small account container object =
    both-texts (ten_digits t ++ 45 ∷ a ++ 47 ∷ c) (47 ∷ o)
    (both-texts (ten_digits t ++ 45 ∷ a) (47 ∷ c)
    (both-texts (ten_digits t) (45 ∷ a) (digits-text (ten_digits t) (AllDigits-ten_digits t small)) (both-texts (45 ∷ []) a dash-text account))
    (both-texts (47 ∷ []) c slash-text container))
    (both-texts (47 ∷ []) o slash-text object)

-- ---- lengths

pub length-entry : (t : ℕ) (a c o : List ℕ) → t ≤ 9999999999 → length (queue_entry t a c o) ≡ 13 + (length a + (length c + length o))
unfolding queue_entry
length-entry t a c o small =
    omega (
      arith,
      length-append (ten_digits t ++ 45 ∷ a ++ 47 ∷ c) (47 ∷ o),
      length-append (ten_digits t ++ 45 ∷ a) (47 ∷ c),
      length-append (ten_digits t) (45 ∷ a),
      length-ten_digits t small,
    )

-- ---- faults

-- of an entry in a container with a name of ten digits, only its length and its bytes can be wrong
any-fault : (n : ℕ) (e : List ℕ) → n ≤ 9999999999 → 0 < length e →
    bad_name queue_account (Some (ten_digits n)) (Some e) ≡ cond (is_over 2048 e) (Some TooLong) (cond (is_text e) None (Some NotText))
unfolding bad_name
any-fault n e small some =
    let all = AllDigits-ten_digits n small in
    let text = digits-text (ten_digits n) all in
    let slash : has_slash (ten_digits n) ≡ false = digits-fail (λ b. b == 47) (λ c above. ne_eqb c 47 (λ e. omega arith)) (ten_digits n) all in
    let full : is_empty e ≡ false = ne_eqb (length e) 0 (λ e. omega arith) in
    rw (length-ten_digits n small, full, slash, account-utf8, text.utf8, text.no_zero) (at (is_over 2048 e) (is_text e))
  where
    at : (x y : Bool) → cond (x || false) (Some TooLong) (cond (not y || false) (Some NotText) None) ≡ cond x (Some TooLong) (cond y None (Some NotText))
    at true y = refl
    at false true = refl
    at false false = refl

pub long-entry : (name : Name) (t : ℕ) → t ≤ 9999999999 → 2048 < length (entry_of name t) → queue_fault name t ≡ Some TooLong
long-entry name t small long =
    any-fault (queue_time name.hash t) (entry_of name t) (omega (arith, not-later t name.hash)) (omega arith)
    ∙ rw (lt-ltb 2048 (length (entry_of name t)) long) refl

pub long-paths-refused : LongPathsAreRefused
long-paths-refused name t small good =
    let parts = good-parts name.account name.container name.object good in
    let size = length name.account + (length name.container + length name.object) in
    let long : length (entry_of name t) ≡ 13 + size = length-entry t name.account name.container name.object small in
    let text = entry-text t name.account name.container name.object small parts.account_text parts.container_text parts.object_text in
    any-fault (queue_time name.hash t) (entry_of name t) (omega (arith, not-later t name.hash)) (omega arith)
    ∙ rw (text.utf8, text.no_zero, long, over size) refl
  where
    over : (n : ℕ) → ltb 2048 (13 + n) ≡ ltb 2035 n
    over n = grind (arith, nat_tests)
