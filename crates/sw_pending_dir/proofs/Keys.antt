-- Keys of records: which keys a record can have, and that two keys have two places.
use Rattle.std.proofs.Common.{◌≡◌, ◌≢◌, ℕ, zero, suc, ◌<◌, refl, sym, ◌∙◌, ap, subst, true, ◌==◌, inl, inr, List, get_or}
use Rattle.std.proofs.Common.{Result, Ok, Err, arith}
use Rattle.std.proofs.lemmas.Bool.{and_from, and_parts}
use Rattle.std.proofs.lemmas.Bool.Decides.{eqb_tells}
use Rattle.std.proofs.lemmas.List.Elements.{All-append, All-nil}
use Rattle.std.proofs.lemmas.Slice.Eq.{bytes_eq-Decides}
use Rattle.std.specs.Int.{w32, to_le_bytes}
use Rattle.std.specs.List.{All}
use Rattle.std.specs.Prelude.{slice_index}
use Rattle.std.specs.Str.{bytes_eq}
use Rattle.md5.specs.Md5.{digest_bytes, md5}
use Rattle.md5.proofs.StandardFacts.{length-md5}
use Rattle.sw_hashpath.specs.HashParts.{IsDigest}
use Rattle.sw_hashpath.specs.declared.decode_error.DecodeError.{DecodeError}
use Rattle.sw_hashpath.specs.declared.decode_error.DecodeError.TheVariants.{Bad, NoMemory}
use Rattle.sw_hashpath.specs.declared.secrets.Secrets.{Secrets}
use Rattle.sw_pending.proofs.Exact.{decoded_is_outcome, some_outcome}
use Rattle.sw_pending.specs.Decoding.{IsRead, decoded}
use Rattle.sw_pending.specs.Names.{IsKey}
use Rattle.sw_pending.specs.Outcomes.{IsOutcome, IsRecord}
use Rattle.sw_pending.specs.Records.{key_of}
use Rattle.sw_pending.specs.declared.filed.Filed.{Filed}
use Rattle.sw_pending.specs.declared.key.RecordKey.{RecordKey}
use Rattle.sw_pending_dir.specs.Places.{is_same_key}

-- ---- an MD5 is bytes

abbrev IsSmall : ℕ → Type 0
IsSmall b = b < 256

four-bytes : (n : ℕ) → All IsSmall (to_le_bytes w32 n)
four-bytes n k d inside = by k d inside
  where
    by : (k d : ℕ) → k < 4 → IsSmall (get_or (to_le_bytes w32 n) k d)
    by zero d inside = omega arith
    by (suc zero) d inside = omega arith
    by (suc (suc zero)) d inside = omega arith
    by (suc (suc (suc zero))) d inside = omega arith
    by (suc (suc (suc (suc k)))) d inside = absurd (omega arith)

bytes-of-words : (h : List ℕ) (n : ℕ) → All IsSmall (digest_bytes h n)
unfolding digest_bytes
bytes-of-words h zero = All-nil IsSmall
bytes-of-words h (suc n) = All-append IsSmall (digest_bytes h n) (to_le_bytes w32 (slice_index h n)) (bytes-of-words h n) (four-bytes (slice_index h n))

small-md5 : (m : List ℕ) → All IsSmall (md5 m)
unfolding md5
small-md5 m = bytes-of-words _ 4

pub digest-md5 : (m : List ℕ) → IsDigest (md5 m)
digest-md5 m = (length-md5 m, small-md5 m)

-- ---- the key of a record

pub record-key : (secrets : Secrets) (filed : Filed) → IsRecord secrets filed → IsKey (key_of filed)
record-key secrets filed is = record { hash = subst IsDigest (sym is.name.hashed) (digest-md5 _); time = is.time }

-- what bytes are decoded as is a record
pub decoded-record : (secrets : Secrets) (bytes : List ℕ) (filed : Filed) → decoded secrets bytes ≡ Ok filed → IsRecord secrets filed
decoded-record secrets bytes filed e =
    let some = some_outcome secrets bytes in
    by some.0 some.1 some.2 (decoded_is_outcome secrets bytes some.0 some.1 some.2)
  where
    by : (o : Result Filed DecodeError) → o ≢ Err NoMemory → IsOutcome secrets bytes o → IsRead o (decoded secrets bytes) → IsRecord secrets filed
    by (Ok f) some is read = let same : f ≡ filed = (let both = sym read ∙ e in cc) in subst (λ (g : Filed). IsRecord secrets g) same is.0
    by (Err (Bad bad)) some is read = let both = sym read ∙ e in cc
    by (Err NoMemory) some is read = absurd (some refl)

-- ---- keys that are the same

pub key-is : (key other : RecordKey) → is_same_key key other ≡ true → key ≡ other
key-is key other is =
    let parts = and_parts (bytes_eq key.hash other.hash) (key.time == other.time) is in
    let hash : key.hash ≡ other.hash = (bytes_eq-Decides key.hash other.hash).0 parts.0 in
    let time : key.time ≡ other.time = elim (eqb_tells key.time other.time) [ inl here ↦ here.1 | inr away ↦ (let clash = sym parts.1 ∙ away.0 in cc) ] in
    ap (λ (h : List ℕ). let k : RecordKey = record { hash = h; time = key.time } in k) hash
    ∙ ap (λ (t : ℕ). let k : RecordKey = record { hash = other.hash; time = t } in k) time

pub key-same : (key : RecordKey) → is_same_key key key ≡ true
key-same key =
    and_from (bytes_eq key.hash key.hash) (key.time == key.time) ((bytes_eq-Decides key.hash key.hash).1 refl)
    (elim (eqb_tells key.time key.time) [ inl here ↦ here.0 | inr away ↦ absurd (away.1 refl) ])
