-- What stands for all keys, once some files have changed.
use Rattle.std.proofs.Common.{◌≡◌, ◌≢◌, ℕ, inl, inr, refl, sym, ◌∙◌, ap, subst, Bool, true, false, List, ◌++◌, Option, None, Some, codes, drop, take}
use Rattle.std.proofs.Common.{slice_index, arith}
use Rattle.hex.specs.Hex.{encode_lower}
use Rattle.sw_hashpath.specs.declared.secrets.Secrets.{Secrets}
use Rattle.sw_pending.proofs.Exact.{decoded_reads_back}
use Rattle.sw_pending.proofs.Naming.{names_differ}
use Rattle.sw_pending.specs.Names.{IsKey, folder_text, name_text}
use Rattle.sw_pending.specs.Outcomes.{IsName, IsRecord}
use Rattle.sw_pending.specs.Records.{key_of}
use Rattle.sw_pending.specs.Texts.{record_text}
use Rattle.sw_pending.specs.declared.filed.Filed.{Filed}
use Rattle.sw_pending.specs.declared.key.RecordKey.{RecordKey}
use Rattle.sw_volume.specs.Tree.{Folders, contents}
use Rattle.sw_volume.specs.Volume.{IsSame, MaySet, Sets}
use Rattle.sw_pending_dir.specs.Laws.{ElsewhereKeeps, ObjectsStay}
use Rattle.sw_pending_dir.specs.Places.{AllRecordsInOrder, IsRecordOf, bytes_at, is_same_key, record_at, record_from}
use Rattle.sw_pending_dir.specs.Steps.{DropsRecord, FilesRecord, KeepsRecords, MayDropRecord, MayFileRecord, SetsRecord}
use Rattle.sw_pending_dir.proofs.Keys.{key-is, key-same, record-key}
use Rattle.sw_pending_dir.proofs.Standing.{at-record, key-at, none-at}

module _ (secrets : Secrets) (old new : Folders) where
  -- what stands for a key is the same, where its file is
  pub still : (key : RecordKey) → (IsKey key → bytes_at (contents new) key ≡ bytes_at (contents old) key)
      → record_at secrets new key ≡ record_at secrets old key
  unfolding record_at
  still key same = by (record_at secrets new key) refl (record_at secrets old key) refl
    where
      moved : IsKey key → record_at secrets new key ≡ record_at secrets old key
      moved is = ap (record_from secrets key) (same is)

      by : (n : Option Filed) → record_at secrets new key ≡ n → (o : Option Filed) → record_at secrets old key ≡ o
          → record_at secrets new key ≡ record_at secrets old key
      by None a None b = a ∙ sym b
      by (Some filed) a o b = moved (key-at secrets key new filed a)
      by None a (Some filed) b = moved (key-at secrets key old filed b)

  -- nothing changed at the places of keys
  pub keeps : ((key : RecordKey) → IsKey key → bytes_at (contents new) key ≡ bytes_at (contents old) key) → KeepsRecords secrets old new
  keeps same = record {
    order = λ order key bytes is there. order key bytes is (sym (same key is) ∙ there);
    same = λ key. still key (same key);
  }

  pub keeps-same : IsSame (contents old) (contents new) → KeepsRecords secrets old new
  keeps-same same = keeps (λ key is. same (folder_text key.hash) (name_text key))

  module _ (key : RecordKey) (is_key : IsKey key) (w : Option (List ℕ))
      (sets : Sets (contents old) (contents new) (folder_text key.hash) (name_text key) w) where
    -- at the place of another key stands what stood there
    beside : (other : RecordKey) → other ≢ key → IsKey other → bytes_at (contents new) other ≡ bytes_at (contents old) other
    beside other apart is = sets.elsewhere (folder_text other.hash) (name_text other) (λ e. apart (names_differ other key is is_key e.1))

    -- a record of the key was put in its place, or its file was taken away
    pub sets-record : (value : Option Filed) → record_at secrets new key ≡ value
        → ((bytes : List ℕ) → w ≡ Some bytes → (filed : Filed) × IsRecordOf secrets key bytes filed) → SetsRecord secrets key value old new
    sets-record value here right = record {
      order = λ order other bytes is there. ordered order other bytes is there (is_same_key other key) refl;
      here = here;
      others = λ other apart. still other (beside other apart);
    }
      where
        ordered : AllRecordsInOrder secrets old → (other : RecordKey) (bytes : List ℕ) → IsKey other → bytes_at (contents new) other ≡ Some bytes
            → (b : Bool) → is_same_key other key ≡ b → (filed : Filed) × IsRecordOf secrets other bytes filed
        ordered order other bytes is there true e =
            let same : other ≡ key = key-is other key e in
            let own : w ≡ Some bytes = sym sets.there ∙ (ap (λ (k : RecordKey). bytes_at (contents new) k) (sym same) ∙ there) in
            let filed = right bytes own in
            (filed.0, subst (λ (k : RecordKey). IsRecordOf secrets k bytes filed.0) (sym same) filed.1)
        ordered order other bytes is there false e =
            order other bytes is (sym (beside other (apart other e) is) ∙ there)
          where
            apart : (k : RecordKey) → is_same_key k key ≡ false → k ≢ key
            apart k away same = let here = ap (λ (x : RecordKey). is_same_key x key) same ∙ key-same key in let clash = sym away ∙ here in cc

-- ---- one step after another

module _ (secrets : Secrets) (a b c : Folders) where
  pub keeps-both : KeepsRecords secrets a b → KeepsRecords secrets b c → KeepsRecords secrets a c
  keeps-both one two = record { order = λ order. two.order (one.order order); same = λ key. two.same key ∙ one.same key }

  pub sets-kept : (key : RecordKey) (value : Option Filed) → SetsRecord secrets key value a b → KeepsRecords secrets b c → SetsRecord secrets key value a c
  sets-kept key value one two = record {
    order = λ order. two.order (one.order order);
    here = two.same key ∙ one.here;
    others = λ other apart. two.same other ∙ one.others other apart;
  }

  pub kept-sets : (key : RecordKey) (value : Option Filed) → KeepsRecords secrets a b → SetsRecord secrets key value b c → SetsRecord secrets key value a c
  kept-sets key value one two = record {
    order = λ order. two.order (one.order order);
    here = two.here;
    others = λ other apart. two.others other apart ∙ one.same other;
  }

-- ---- changes elsewhere

pub elsewhere_keeps : ElsewhereKeeps
elsewhere_keeps secrets old new same = keeps secrets old new (λ key is. same (take 3 (drop 29 (encode_lower key.hash))) (name_text key))

pub objects_stay : ObjectsStay
objects_stay old new key w sets rest file = sets.elsewhere (codes "objects" ++ rest) file (λ e. let first : 111 ≡ 97 = ap (λ
    (l : List ℕ). slice_index l 0) e.0 in omega arith)

-- ---- the calls

module _ (old new : Folders) where
  pub put-files : (filed : Filed) → ((secrets : Secrets) → IsName secrets filed.name → IsRecord secrets filed)
      → Sets (contents old) (contents new) (folder_text filed.name.hash) (name_text (key_of filed)) (Some (record_text filed)) → FilesRecord filed old new
  put-files filed is_record sets secrets named =
      let is : IsRecord secrets filed = is_record secrets named in
      let of : IsRecordOf secrets (key_of filed) (record_text filed) filed = record { decodes = decoded_reads_back secrets filed is; keyed = refl } in
      sets-record secrets old new (key_of filed) (record-key secrets filed is) (Some (record_text filed)) sets (Some filed)
      (at-record secrets (key_of filed) new (record_text filed) filed sets.there of)
      (λ bytes e. (filed, subst (λ (b : List ℕ). IsRecordOf secrets (key_of filed) b filed) (let same : record_text filed ≡ bytes = cc in same) of))

  pub put-may-file : (filed : Filed) → ((secrets : Secrets) → IsName secrets filed.name → IsRecord secrets filed)
      → MaySet (contents old) (contents new) (folder_text filed.name.hash) (name_text (key_of filed)) (Some (record_text filed))
      → MayFileRecord filed old new
  put-may-file filed is_record (inl same) secrets named = inl (keeps-same secrets old new same)
  put-may-file filed is_record (inr sets) secrets named = inr (put-files filed is_record sets secrets named)

  pub unlink-drops : (key : RecordKey) → IsKey key → Sets (contents old) (contents new) (folder_text key.hash) (name_text key) None
      → DropsRecord key old new
  unlink-drops key is sets secrets =
      sets-record secrets old new key is None sets None (none-at secrets key new sets.there) (λ bytes e. cc)

  pub unlink-may-drop : (key : RecordKey) → IsKey key → MaySet (contents old) (contents new) (folder_text key.hash) (name_text key) None
      → MayDropRecord key old new
  unlink-may-drop key is (inl same) secrets = inl (keeps-same secrets old new same)
  unlink-may-drop key is (inr sets) secrets = inr (unlink-drops key is sets secrets)
