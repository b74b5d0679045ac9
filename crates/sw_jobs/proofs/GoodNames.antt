-- Nothing is wrong with the names of a generated load.
use Rattle.std.proofs.Common.{arith, ◌≡◌, ℕ, ◌+◌, ◌-◌, ◌%◌, ◌==◌, ◌<◌, ◌≤◌, ◌^◌, zero, suc, Bool, true, false, ◌&&◌, nat_lt, refl, ◌∙◌, ap}
use Rattle.std.proofs.Common.{List, [], ◌∷◌, ◌++◌, length, None, Some, length-append}
use Rattle.std.specs.Prelude.{codes, decimal, replicate}
use Rattle.std.specs.List.{list_all, list_any}
use Rattle.std.specs.Str.{IsAscii, chars, is_utf8}
use Rattle.std.proofs.lemmas.Bool.Decides.{nat_tests}
use Rattle.std.proofs.lemmas.Fmt.{decimal_by_steps, length-decimal-le}
use Rattle.std.proofs.lemmas.List.{length-replicate}
use Rattle.std.proofs.lemmas.List.Folds.{list_all-append}
use Rattle.std.proofs.lemmas.Str.{IsUtf8-from_ascii, is_utf8-from_IsUtf8}
use Rattle.std.proofs.lemmas.Str.Ascii.{IsAscii-cons, IsAscii-nil}
use lib.Utf8.{encode}
use Rattle.sw_hashpath.specs.BadNames.{bad_name, has_slash, is_empty, is_over, is_text, object_limit}
use Rattle.sw_jobs.specs.Requests.{container_name, object_name}

-- ---- what makes names good

good-from : (a c o : List ℕ) → is_empty a ≡ false → is_empty c ≡ false → is_empty o ≡ false → has_slash a ≡ false → has_slash c ≡ false
    → is_over 256 a ≡ false → is_over 256 c ≡ false → is_over (object_limit a) o ≡ false → is_text a ≡ true → is_text c ≡ true → is_text o ≡ true
    → bad_name a (Some c) (Some o) ≡ None
unfolding bad_name
good-from a c o some_a some_c some_o whole_a whole_c short_a short_c short_o text_a text_c text_o =
    rw (some_a, some_c, some_o, whole_a, whole_c, short_a, short_c, short_o, text_a, text_c, text_o) refl

-- ---- containers

account-text : is_text (codes "a") ≡ true
unfolding is_utf8 chars encode
account-text = refl

container-text : (k : ℕ) → k < 4 → is_text (container_name k) ≡ true
unfolding is_utf8 chars encode
container-text zero few = refl
container-text (suc zero) few = refl
container-text (suc (suc zero)) few = refl
container-text (suc (suc (suc zero))) few = refl
container-text (suc (suc (suc (suc k)))) few = absurd (omega arith)

container-whole : (k : ℕ) → has_slash (container_name k) ≡ false
container-whole k = grind (arith, nat_tests)

-- ---- objects

-- whether a byte is ASCII, and not zero
printable : ℕ → Bool
printable b = nat_lt 0 b && nat_lt b 128

digit-printable : (d : ℕ) → d < 10 → printable (48 + d) ≡ true
unfolding printable
digit-printable d small = grind (arith, nat_tests)

replicate-printable : (n : ℕ) → list_all printable (replicate n 48) ≡ true
unfolding printable
replicate-printable zero = refl
replicate-printable (suc n) = replicate-printable n

push-printable : (ds : List ℕ) (d : ℕ) → d < 10 → list_all printable ds ≡ true → list_all printable (ds ++ (48 + d) ∷ []) ≡ true
push-printable ds d small all = list_all-append printable ds ((48 + d) ∷ []) ∙ rw (all, digit-printable d small) refl

decimal-printable : (n : ℕ) → n < 10 ^ 8 → list_all printable (decimal n) ≡ true
decimal-printable n small = decimal_by_steps (λ n ds. list_all printable ds ≡ true) (λ n less. push-printable [] n less refl)
    (λ n ds more all. push-printable ds (n % 10) (omega arith) all) n (omega arith)

object-printable : (n : ℕ) → n < 10 ^ 8 → list_all printable (object_name n) ≡ true
unfolding printable object_name
object-printable n small = list_all-append printable (replicate (8 - length (decimal n)) 48) (decimal n)
    ∙ rw (replicate-printable (8 - length (decimal n)), decimal-printable n small) refl

and-first : (a b : Bool) → (a && b) ≡ true → a ≡ true
and-first true b both = refl
and-first false b both = both

and-second : (a b : Bool) → (a && b) ≡ true → b ≡ true
and-second true b both = both
and-second false b both = cc

printable-ascii : (b : ℕ) → printable b ≡ true → b < 128
unfolding printable
printable-ascii b is = grind (arith, nat_tests)

printable-some : (b : ℕ) → printable b ≡ true → (b == 0) ≡ false
unfolding printable
printable-some b is = grind (arith, nat_tests)

all-ascii : (t : List ℕ) → list_all printable t ≡ true → IsAscii t
all-ascii [] all = IsAscii-nil
all-ascii (b ∷ bs) all =
    IsAscii-cons b bs (printable-ascii b (and-first (printable b) (list_all printable bs) all))
    (all-ascii bs (and-second (printable b) (list_all printable bs) all))

all-some : (t : List ℕ) → list_all printable t ≡ true → list_any (λ b. b == 0) t ≡ false
all-some [] all = refl
all-some (b ∷ bs) all =
    rw (printable-some b (and-first (printable b) (list_all printable bs) all), all-some bs (and-second (printable b) (list_all printable bs) all)) refl

printable-text : (t : List ℕ) → list_all printable t ≡ true → is_text t ≡ true
printable-text t all = rw (is_utf8-from_IsUtf8 t (IsUtf8-from_ascii t (all-ascii t all)), all-some t all) refl

pub length-object_name : (n : ℕ) → n < 10 ^ 8 → length (object_name n) ≡ 9
unfolding object_name
length-object_name n small =
    let few : length (decimal n) ≤ 8 = length-decimal-le 8 n (omega arith) small (omega arith) in
    let zeros : length (replicate (8 - length (decimal n)) 48) ≡ 8 - length (decimal n) = length-replicate {A = ℕ} (8 - length (decimal n)) 48 in
    ap suc (length-append (replicate (8 - length (decimal n)) 48) (decimal n)) ∙ rw zeros (omega arith)

object-some : (n : ℕ) → n < 10 ^ 8 → is_empty (object_name n) ≡ false
object-some n small = rw (length-object_name n small) refl

object-short : (n : ℕ) → n < 10 ^ 8 → is_over (object_limit (codes "a")) (object_name n) ≡ false
object-short n small = rw (length-object_name n small) refl

pub names-good : (k n : ℕ) → k < 4 → n < 10 ^ 8 → bad_name (codes "a") (Some (container_name k)) (Some (object_name n)) ≡ None
names-good k n few small =
    good-from (codes "a") (container_name k) (object_name n) refl refl (object-some n small) refl (container-whole k) refl refl (object-short n small)
    account-text (container-text k few) (printable-text (object_name n) (object-printable n small))
