-- What stands for a key, and what its file is read as.
use Rattle.std.proofs.Common.{◌≡◌, ◌≢◌, ℕ, inl, inr, ◌⊎◌, refl, sym, ◌∙◌, ap, subst, Bool, true, false, List, Option, None, Some, Result, Ok, Err}
use Rattle.std.proofs.lemmas.Bool.{cond-true}
use Rattle.std.proofs.lemmas.Option.{cond_some}
use Rattle.sw_hashpath.specs.declared.decode_error.BadFile.{BadFile}
use Rattle.sw_hashpath.specs.declared.decode_error.BadFile.TheVariants.{Field}
use Rattle.sw_hashpath.specs.declared.secrets.Secrets.{Secrets}
use Rattle.sw_pending.specs.Decoding.{decoded}
use Rattle.sw_pending.specs.Names.{IsKey}
use Rattle.sw_pending.specs.Records.{key_of}
use Rattle.sw_pending.specs.declared.filed.Filed.{Filed}
use Rattle.sw_pending.specs.declared.key.RecordKey.{RecordKey}
use Rattle.sw_volume.specs.Tree.{Folders, contents}
use Rattle.sw_pending_dir.specs.Laws.{OneReading, WhatStandsIsOfKey}
use Rattle.sw_pending_dir.specs.Places.{AllRecordsInOrder, IsRecordOf, bytes_at, is_same_key, record_at, record_from, record_in, with_key}
use Rattle.sw_pending_dir.specs.Readings.{IsDamage, IsDamaged, IsFound}
use Rattle.sw_pending_dir.proofs.Keys.{decoded-record, key-is, key-same, record-key}

pub ok_is : (a b : Filed) → let x : Result Filed BadFile = Ok a in let y : Result Filed BadFile = Ok b in x ≡ y → a ≡ b
ok_is a b e = cc

pub some_is : (a b : Filed) → let x : Option Filed = Some a in let y : Option Filed = Some b in x ≡ y → a ≡ b
some_is a b e = cc

module _ (secrets : Secrets) (key : RecordKey) where
  -- ---- bytes

  pub in-record : (bytes : List ℕ) (filed : Filed) → IsRecordOf secrets key bytes filed → record_in secrets key bytes ≡ Some filed
  in-record bytes filed is =
      ap (with_key key) is.decodes
      ∙ cond-true (is_same_key (key_of filed) key) (Some filed) None (ap (λ (k : RecordKey). is_same_key k key) is.keyed ∙ key-same key)

  pub record-in : (bytes : List ℕ) (filed : Filed) → record_in secrets key bytes ≡ Some filed → IsRecordOf secrets key bytes filed
  record-in bytes filed = by (decoded secrets bytes) refl
    where
      by : (o : Result Filed BadFile) → decoded secrets bytes ≡ o → with_key key o ≡ Some filed → IsRecordOf secrets key bytes filed
      by (Err bad) e is = cc
      by (Ok f) e is =
          let found = cond_some (is_same_key (key_of f) key) f filed is in
          record {
            decodes = e ∙ ap (λ (g : Filed). let r : Result Filed BadFile = Ok g in r) found.1;
            keyed = ap key_of (sym found.1) ∙ key-is (key_of f) key found.0;
          }

  pub key-of-bytes : (bytes : List ℕ) (filed : Filed) → IsRecordOf secrets key bytes filed → IsKey key
  key-of-bytes bytes filed is = subst IsKey is.keyed (record-key secrets filed (decoded-record secrets bytes filed is.decodes))

  -- a record of the key isn't damaged
  pub sound-bytes : (bytes : List ℕ) (filed : Filed) (bad : BadFile) → IsRecordOf secrets key bytes filed → IsDamage secrets key bytes bad → ⊥
  sound-bytes bytes filed bad is (inl e) = let clash = sym is.decodes ∙ e in cc
  sound-bytes bytes filed bad is (inr (field, other)) =
      other.elsewhere (ap key_of (ok_is other.filed filed (sym other.decodes ∙ is.decodes)) ∙ is.keyed)

  module _ (folders : Folders) where
    abbrev bytes_there : Option (List ℕ)
    bytes_there = bytes_at (contents folders) key

    -- ---- what stands

    pub at-record : (bytes : List ℕ) (filed : Filed) → bytes_there ≡ Some bytes → IsRecordOf secrets key bytes filed → record_at secrets folders key
        ≡ Some filed
    unfolding record_at
    at-record bytes filed there is = ap (record_from secrets key) there ∙ in-record bytes filed is

    pub record-at : (filed : Filed) → record_at secrets folders key ≡ Some filed
        → (bytes : List ℕ) × (bytes_there ≡ Some bytes) × IsRecordOf secrets key bytes filed
    unfolding record_at
    record-at filed = by bytes_there refl
      where
        by : (o : Option (List ℕ)) → bytes_there ≡ o → record_from secrets key o ≡ Some filed
            → (bytes : List ℕ) × (bytes_there ≡ Some bytes) × IsRecordOf secrets key bytes filed
        by None e is = cc
        by (Some bytes) e is = (bytes, e, record-in bytes filed is)

    pub key-at : (filed : Filed) → record_at secrets folders key ≡ Some filed → IsKey key
    key-at filed is = let x = record-at filed is in key-of-bytes x.0 filed x.2

    pub none-at : bytes_there ≡ None → record_at secrets folders key ≡ None
    unfolding record_at
    none-at e = ap (record_from secrets key) e

    -- what is found is what stands
    pub found-at : (found : Option Filed) → IsFound secrets key bytes_there found → found ≡ record_at secrets folders key
    found-at found = by bytes_there refl found
      where
        by : (o : Option (List ℕ)) → bytes_there ≡ o → (f : Option Filed) → IsFound secrets key o f → f ≡ record_at secrets folders key
        by None e None is = sym (none-at e)
        by None e (Some filed) is = absurd is
        by (Some bytes) e None is = absurd is
        by (Some bytes) e (Some filed) is = sym (at-record bytes filed e is)

    -- where all is in order nothing is damaged
    pub damaged-disorder : (bad : BadFile) → IsKey key → IsDamaged secrets key bytes_there bad → ¬ (AllRecordsInOrder secrets folders)
    damaged-disorder bad is damaged order =
        let right = order key damaged.bytes is damaged.is_there in sound-bytes damaged.bytes right.0 bad right.1 damaged.damage

-- ---- laws

pub what_stands_is_of_key : WhatStandsIsOfKey
what_stands_is_of_key secrets folders key filed is =
    let x = record-at secrets key folders filed is in
    record { is_key = key-at secrets key folders filed is; keyed = x.2.keyed; is_record = decoded-record secrets x.0 filed x.2.decodes }

bad_is : (a b : BadFile) → let x : Result Filed BadFile = Err a in let y : Result Filed BadFile = Err b in x ≡ y → a ≡ b
bad_is a b e = cc

module _ (secrets : Secrets) (key : RecordKey) (bytes : List ℕ) where
  some-reading : (o : Result Filed BadFile) → decoded secrets bytes ≡ o
      → ((filed : Filed) × IsRecordOf secrets key bytes filed) ⊎ ((bad : BadFile) × IsDamage secrets key bytes bad)
  some-reading (Err bad) e = inr (bad, inl e)
  some-reading (Ok filed) e = by (is_same_key (key_of filed) key) refl
    where
      by : (b : Bool) → is_same_key (key_of filed) key ≡ b
          → ((filed : Filed) × IsRecordOf secrets key bytes filed) ⊎ ((bad : BadFile) × IsDamage secrets key bytes bad)
      by true same = inl (filed, record { decodes = e; keyed = key-is (key_of filed) key same })
      by false apart =
          let other : key_of filed ≢ key =
          λ same. let clash = sym apart ∙ (ap (λ (k : RecordKey). is_same_key k key) same ∙ key-same key) in cc in
          inr (Field, inr (refl, record { filed = filed; decodes = e; elsewhere = other }))

  one-fault : (bad other : BadFile) → IsDamage secrets key bytes bad → IsDamage secrets key bytes other → bad ≡ other
  one-fault bad other (inl x) (inl y) = bad_is bad other (sym x ∙ y)
  one-fault bad other (inl x) (inr (fault, y)) = let both = sym x ∙ y.decodes in cc
  one-fault bad other (inr (fault, x)) (inl y) = let both = sym y ∙ x.decodes in cc
  one-fault bad other (inr (fault, x)) (inr (again, y)) = fault ∙ sym again

pub one_reading : OneReading
one_reading secrets key bytes = record {
  some = some-reading secrets key bytes (decoded secrets bytes) refl;
  apart = λ filed bad is damage. sound-bytes secrets key bytes filed bad is damage;
  one_record = λ filed other x y. ok_is filed other (sym x.decodes ∙ y.decodes);
  one_fault = one-fault secrets key bytes;
}
