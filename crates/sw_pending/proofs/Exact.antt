-- What is read is the outcome, and the only one.
use Rattle.std.proofs.Common.{◌≡◌, ◌≢◌, ℕ, true, false, ◌==◌, List, [], ◌∷◌, ◌++◌, length, refl, sym, ap, subst, ◌∙◌, append_assoc, arith, inl, inr}
use Rattle.std.proofs.Common.{Option, Some, None, Result, Ok, Err, append-nil}
use Rattle.std.proofs.lemmas.Bool.{cases_Bool, cond-false, cond-true}
use Rattle.std.proofs.lemmas.Bool.Decides.{nat_tests}
use Rattle.sw_hashpath.specs.declared.decode_error.BadFile.{BadFile}
use Rattle.sw_hashpath.specs.declared.decode_error.BadFile.TheVariants.{Header, Field, Length}
use Rattle.sw_hashpath.specs.declared.decode_error.DecodeError.{DecodeError}
use Rattle.sw_hashpath.specs.declared.decode_error.DecodeError.TheVariants.{Bad, NoMemory}
use Rattle.sw_hashpath.specs.declared.secrets.Secrets.{Secrets}
use Rattle.sw_metafile.specs.Reading.{Gives}
use Rattle.sw_metafile.specs.Texts.{path_line, time_line}
use Rattle.sw_metafile.proofs.Steps.{some_is}
use Rattle.sw_pending.specs.Decoding.{IsRead, decoded, decoded_from}
use Rattle.sw_pending.specs.Laws.{DecodedIsOutcome, DecodedReadsBack, OneOutcome, OneSpelling, ReadsBack, SomeOutcome}
use Rattle.sw_pending.specs.Outcomes.{BeginsWith, HasText, IsBad, IsOutcome, IsRecord}
use Rattle.sw_pending.specs.Reading.{Plain, after_first_line, lines_at, plain, record_at, unless_more, with_lines}
use Rattle.sw_pending.specs.Texts.{done_line, first_line, queue_line, record_text}
use Rattle.sw_pending.specs.declared.filed.Filed.{Filed}
use Rattle.sw_pending.proofs.RecordLines.{AreLines, first_again, first_takes, lines_again, lines_take, lines_text}
use Rattle.sw_pending.proofs.SameRecords.{decoded_plain, record_with, same_records}

-- ---- the text of a record

text_then : (a b c d e rest : List ℕ) → (((((a ++ b) ++ c) ++ d) ++ e) ++ 10 ∷ []) ++ rest ≡ a ++ (b ++ (c ++ (d ++ (e ++ 10 ∷ rest))))
text_then a b c d e rest = simp append_assoc

-- as it is cut
text_parts : (filed : Filed) (rest : List ℕ) → record_text filed ++ rest ≡ first_line ++ lines_text (plain filed) rest
unfolding record_text
text_parts filed rest =
    text_then first_line (path_line filed.name.account filed.name.container filed.name.object) (time_line filed.time) (queue_line filed.queue)
    (done_line filed.done) rest

are_lines : (secrets : Secrets) (filed : Filed) → IsRecord secrets filed → AreLines secrets (plain filed)
are_lines secrets filed is = record {
  names = record { account = is.account; container = is.container; object = is.object; good = is.name.good };
  hashed = ap (λ h. record { account = filed.name.account; container = filed.name.container; object = filed.name.object; hash = h }) is.name.hashed;
  time = is.time;
  right = filed.queue_right;
  done = is.done;
  order = filed.in_order;
}

is_record : (secrets : Secrets) (p : Plain) (are : AreLines secrets p) → IsRecord secrets (record_with p are.right are.order)
is_record secrets p are = record {
  name = record { good = are.names.good; hashed = ap (λ n. n.hash) are.hashed };
  account = are.names.account;
  container = are.names.container;
  object = are.names.object;
  time = are.time;
  done = are.done;
}

-- a text is read as its record, and what follows decides
has_again : (secrets : Secrets) (bytes : List ℕ) (filed : Filed) (rest : List ℕ) → HasText secrets bytes filed rest →
    record_at secrets bytes ≡ unless_more (Some (plain filed, rest))
unfolding record_at
has_again secrets bytes filed rest has =
    ap (λ (l : List ℕ). with_lines secrets (after_first_line l)) (has.is_text ∙ text_parts filed rest)
    ∙ ap (with_lines secrets) (first_again (lines_text (plain filed) rest))
    ∙ ap unless_more (lines_again secrets (plain filed) rest (are_lines secrets filed has.is_record))

-- and lines that were read are the text of a record
has_text : (secrets : Secrets) (bytes after : List ℕ) (x : Plain × List ℕ) → bytes ≡ first_line ++ after → (after ≡ lines_text x.0 x.1) × AreLines secrets x.0
    → (filed : Filed) × (plain filed ≡ x.0) × HasText secrets bytes filed x.1
has_text secrets bytes after x first lines = (
  record_with x.0 lines.1.right lines.1.order,
  refl,
  record {
    is_record = is_record secrets x.0 lines.1;
    is_text = first ∙ ap (λ (l : List ℕ). first_line ++ l) lines.0 ∙ sym (text_parts (record_with x.0 lines.1.right lines.1.order) x.1);
  },
)

-- ---- what bytes are read as

some_rest : (rest : List ℕ) → rest ≢ [] → (length rest == 0) ≡ false
some_rest [] some = absurd (some refl)
some_rest (b ∷ rest) some = grind (arith, nat_tests)

no_rest : (rest : List ℕ) → (length rest == 0) ≡ true → rest ≡ []
no_rest [] is = refl
no_rest (b ∷ rest) is = absurd (grind (arith, nat_tests))

not_empty : (rest : List ℕ) → (length rest == 0) ≡ false → rest ≢ []
not_empty rest some none = let zero = ap (λ (l : List ℕ). length l == 0) none in cc

-- what bytes are that are read so
data Found (secrets : Secrets) (bytes : List ℕ) (read : Result Plain BadFile) : Type 0 where
  header : (¬ (BeginsWith bytes)) → read ≡ Err Header → Found secrets bytes read
  field : BeginsWith bytes → ((filed : Filed) (rest : List ℕ) → ¬ (HasText secrets bytes filed rest)) → read ≡ Err Field → Found secrets bytes read
  more : (filed : Filed) (rest : List ℕ) → HasText secrets bytes filed rest → rest ≢ [] → read ≡ Err Length → Found secrets bytes read
  whole : (filed : Filed) → IsRecord secrets filed → bytes ≡ record_text filed → read ≡ Ok (plain filed) → Found secrets bytes read

-- a text begins with the first line, and its lines follow
after_text : (secrets : Secrets) (bytes : List ℕ) (filed : Filed) (rest : List ℕ) → HasText secrets bytes filed rest
    → after_first_line bytes ≡ Some (lines_text (plain filed) rest)
after_text secrets bytes filed rest has =
    ap after_first_line (has.is_text ∙ text_parts filed rest) ∙ first_again (lines_text (plain filed) rest)

no_lines : (secrets : Secrets) (bytes after : List ℕ) → after_first_line bytes ≡ Some after → lines_at secrets after ≡ None
    → (filed : Filed) (rest : List ℕ) → ¬ (HasText secrets bytes filed rest)
no_lines secrets bytes after first none filed rest has =
    let same : after ≡ lines_text (plain filed) rest = some_is after (lines_text (plain filed) rest) (sym first ∙ after_text secrets bytes filed rest has) in
    let clash = sym none ∙ ap (lines_at secrets) same ∙ lines_again secrets (plain filed) rest (are_lines secrets filed has.is_record) in
    cc

found_rest : (secrets : Secrets) (bytes : List ℕ) (x : Plain × List ℕ) → (filed : Filed) × (plain filed ≡ x.0) × HasText secrets bytes filed x.1
    → Found secrets bytes (unless_more (Some x))
found_rest secrets bytes x text =
    elim (cases_Bool (length x.1 == 0)) [
      | inl none ↦
          let end = no_rest x.1 none in
          whole text.0 text.2.is_record (text.2.is_text ∙ ap (λ (l : List ℕ). record_text text.0 ++ l) end ∙ append-nil (record_text text.0))
          (cond-true (length x.1 == 0) (Ok x.0) (Err Length) none ∙ ap Ok (sym text.1))
      | inr some ↦ more text.0 x.1 text.2 (not_empty x.1 some) (cond-false (length x.1 == 0) (Ok x.0) (Err Length) some)
    ]

found_lines : (secrets : Secrets) (bytes after : List ℕ) → after_first_line bytes ≡ Some after → (o : Option (Plain × List ℕ)) → lines_at secrets after ≡ o
    → Found secrets bytes (unless_more o)
found_lines secrets bytes after first None lines = field (after, first_takes bytes after first) (no_lines secrets bytes after first lines) refl
found_lines secrets bytes after first (Some x) lines =
    found_rest secrets bytes x (has_text secrets bytes after x (first_takes bytes after first) (lines_take secrets after x lines))

found_first : (secrets : Secrets) (bytes : List ℕ) (o : Option (List ℕ)) → after_first_line bytes ≡ o → Found secrets bytes (with_lines secrets o)
found_first secrets bytes None first =
    header (λ begins. let clash = sym first ∙ ap after_first_line begins.1 ∙ first_again begins.0 in cc) refl
found_first secrets bytes (Some after) first = found_lines secrets bytes after first (lines_at secrets after) refl

found : (secrets : Secrets) (bytes : List ℕ) → Found secrets bytes (record_at secrets bytes)
unfolding record_at
found secrets bytes = found_first secrets bytes (after_first_line bytes) refl

-- ---- both ways

ok_is : (p q : Plain) → let a : Result Plain BadFile = Ok p in let b : Result Plain BadFile = Ok q in a ≡ b → p ≡ q
ok_is p q same = cc

found_outcome : (secrets : Secrets) (bytes : List ℕ) (read : Result Plain BadFile) (outcome : Result Filed DecodeError) → Found secrets bytes read
    → Gives plain outcome read → IsOutcome secrets bytes outcome
found_outcome secrets bytes read (Ok filed) (header none is) gives = absurd (let clash = sym is ∙ gives in cc)
found_outcome secrets bytes read (Ok filed) (field begins none is) gives = absurd (let clash = sym is ∙ gives in cc)
found_outcome secrets bytes read (Ok filed) (more f rest has some is) gives = absurd (let clash = sym is ∙ gives in cc)
found_outcome secrets bytes read (Ok filed) (whole f own text is) gives =
    subst (λ (g : Filed). IsRecord secrets g × (bytes ≡ record_text g)) (same_records f filed (ok_is (plain f) (plain filed) (sym is ∙ gives))) (own, text)
found_outcome secrets bytes read (Err (Bad Header)) (header none is) gives = none
found_outcome secrets bytes read (Err (Bad Header)) (field begins none is) gives = absurd (let clash = sym is ∙ gives in cc)
found_outcome secrets bytes read (Err (Bad Header)) (more f rest has some is) gives = absurd (let clash = sym is ∙ gives in cc)
found_outcome secrets bytes read (Err (Bad Header)) (whole f own text is) gives = absurd (let clash = sym is ∙ gives in cc)
found_outcome secrets bytes read (Err (Bad Field)) (header none is) gives = absurd (let clash = sym is ∙ gives in cc)
found_outcome secrets bytes read (Err (Bad Field)) (field begins none is) gives = (begins, none)
found_outcome secrets bytes read (Err (Bad Field)) (more f rest has some is) gives = absurd (let clash = sym is ∙ gives in cc)
found_outcome secrets bytes read (Err (Bad Field)) (whole f own text is) gives = absurd (let clash = sym is ∙ gives in cc)
found_outcome secrets bytes read (Err (Bad Length)) (header none is) gives = absurd (let clash = sym is ∙ gives in cc)
found_outcome secrets bytes read (Err (Bad Length)) (field begins none is) gives = absurd (let clash = sym is ∙ gives in cc)
found_outcome secrets bytes read (Err (Bad Length)) (more f rest has some is) gives = (f, rest, has, some)
found_outcome secrets bytes read (Err (Bad Length)) (whole f own text is) gives = absurd (let clash = sym is ∙ gives in cc)
found_outcome secrets bytes read (Err NoMemory) at gives = tt

-- what reading gives is the outcome
pub read_outcome : (secrets : Secrets) (bytes : List ℕ) (outcome : Result Filed DecodeError) → Gives plain outcome (record_at secrets bytes)
    → IsOutcome secrets bytes outcome
read_outcome secrets bytes outcome gives = found_outcome secrets bytes (record_at secrets bytes) outcome (found secrets bytes) gives

has_itself : (secrets : Secrets) (bytes : List ℕ) (filed : Filed) → IsRecord secrets filed → bytes ≡ record_text filed → HasText secrets bytes filed []
has_itself secrets bytes filed is text = record { is_record = is; is_text = text ∙ sym (append-nil (record_text filed)) }

text_begins : (secrets : Secrets) (bytes : List ℕ) (filed : Filed) (rest : List ℕ) → HasText secrets bytes filed rest → BeginsWith bytes
text_begins secrets bytes filed rest has = (lines_text (plain filed) rest, has.is_text ∙ text_parts filed rest)

header_read : (secrets : Secrets) (bytes : List ℕ) (read : Result Plain BadFile) → Found secrets bytes read → IsBad secrets bytes Header → read ≡ Err Header
header_read secrets bytes read (header none is) bad = is
header_read secrets bytes read (field begins none is) bad = absurd (bad begins)
header_read secrets bytes read (more f rest has some is) bad = absurd (bad (text_begins secrets bytes f rest has))
header_read secrets bytes read (whole f own text is) bad = absurd (bad (text_begins secrets bytes f [] (has_itself secrets bytes f own text)))

field_read : (secrets : Secrets) (bytes : List ℕ) (read : Result Plain BadFile) → Found secrets bytes read → IsBad secrets bytes Field → read ≡ Err Field
field_read secrets bytes read (header none is) bad = absurd (none bad.0)
field_read secrets bytes read (field begins none is) bad = is
field_read secrets bytes read (more f rest has some is) bad = absurd (bad.1 f rest has)
field_read secrets bytes read (whole f own text is) bad = absurd (bad.1 f [] (has_itself secrets bytes f own text))

-- and the outcome is what reading gives
pub outcome_read : (secrets : Secrets) (bytes : List ℕ) (outcome : Result Filed DecodeError) → outcome ≢ Err NoMemory → IsOutcome secrets bytes outcome
    → Gives plain outcome (record_at secrets bytes)
outcome_read secrets bytes (Ok filed) memory is = has_again secrets bytes filed [] (has_itself secrets bytes filed is.0 is.1)
outcome_read secrets bytes (Err (Bad Header)) memory is = header_read secrets bytes (record_at secrets bytes) (found secrets bytes) is
outcome_read secrets bytes (Err (Bad Field)) memory is = field_read secrets bytes (record_at secrets bytes) (found secrets bytes) is
outcome_read secrets bytes (Err (Bad Length)) memory is =
    has_again secrets bytes is.0 is.1 is.2 ∙ cond-false (length is.1 == 0) (Ok (plain is.0)) (Err Length) (some_rest is.1 is.3)
outcome_read secrets bytes (Err NoMemory) memory is = tt

-- so there is one
same_bad : (read : Result Plain BadFile) (b c : BadFile) → read ≡ Err b → read ≡ Err c → b ≡ c
same_bad read b c is other = let same = sym is ∙ other in cc

abbrev bad_outcome : BadFile → Result Filed DecodeError
bad_outcome bad = Err (Bad bad)

pub one_gives : (read : Result Plain BadFile) (outcome other : Result Filed DecodeError) → outcome ≢ Err NoMemory → other ≢ Err NoMemory
    → Gives plain outcome read → Gives plain other read → outcome ≡ other
one_gives read (Ok f) (Ok g) n m is also = ap Ok (same_records f g (ok_is (plain f) (plain g) (sym is ∙ also)))
one_gives read (Ok f) (Err (Bad bad)) n m is also = absurd (let both = sym is ∙ also in cc)
one_gives read (Ok f) (Err NoMemory) n m is also = absurd (m refl)
one_gives read (Err (Bad bad)) (Ok g) n m is also = absurd (let both = sym is ∙ also in cc)
one_gives read (Err (Bad bad)) (Err (Bad worse)) n m is also = ap bad_outcome (same_bad read bad worse is also)
one_gives read (Err (Bad bad)) (Err NoMemory) n m is also = absurd (m refl)
one_gives read (Err NoMemory) other n m is also = absurd (n refl)

pub read_decoded : (secrets : Secrets) (bytes : List ℕ) (outcome : Result Filed DecodeError) → Gives plain outcome (record_at secrets bytes)
    → IsRead outcome (decoded secrets bytes)
unfolding decoded
read_decoded secrets bytes (Ok filed) gives = ap decoded_from gives ∙ decoded_plain filed
read_decoded secrets bytes (Err (Bad bad)) gives = ap decoded_from gives
read_decoded secrets bytes (Err NoMemory) gives = tt

-- ---- the laws

pub one_outcome : OneOutcome
one_outcome secrets bytes outcome other n m is also =
    one_gives (record_at secrets bytes) outcome other n m (outcome_read secrets bytes outcome n is) (outcome_read secrets bytes other m also)

pub one_spelling : OneSpelling
one_spelling secrets filed other is also same =
    let one = outcome_read secrets (record_text filed) (Ok filed) (λ e. cc) (is, refl) in
    let two = outcome_read secrets (record_text filed) (Ok other) (λ e. cc) (also, same) in
    same_records filed other (ok_is (plain filed) (plain other) (sym one ∙ two))

pub reads_back : ReadsBack
reads_back secrets filed outcome is memory reads = one_outcome secrets (record_text filed) outcome (Ok filed) memory (λ e. cc) reads (is, refl)

outcome_of : (secrets : Secrets) (bytes : List ℕ) (read : Result Plain BadFile) → Found secrets bytes read
    → (outcome : Result Filed DecodeError) × (outcome ≢ Err NoMemory) × IsOutcome secrets bytes outcome
outcome_of secrets bytes read (header none is) = (Err (Bad Header), (λ e. cc), none)
outcome_of secrets bytes read (field begins none is) = (Err (Bad Field), (λ e. cc), (begins, none))
outcome_of secrets bytes read (more f rest has some is) = (Err (Bad Length), (λ e. cc), (f, rest, has, some))
outcome_of secrets bytes read (whole f own text is) = (Ok f, (λ e. cc), (own, text))

pub some_outcome : SomeOutcome
some_outcome secrets bytes = outcome_of secrets bytes (record_at secrets bytes) (found secrets bytes)

pub decoded_is_outcome : DecodedIsOutcome
decoded_is_outcome secrets bytes outcome memory is = read_decoded secrets bytes outcome (outcome_read secrets bytes outcome memory is)

pub decoded_reads_back : DecodedReadsBack
decoded_reads_back secrets filed is = decoded_is_outcome secrets (record_text filed) (Ok filed) (λ e. cc) (is, refl)
