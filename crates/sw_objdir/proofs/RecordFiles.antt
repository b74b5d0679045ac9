-- What a change of the file of one record makes of a directory: of what stands under each hash, and of its order.
use Rattle.std.proofs.Common.{◌≡◌, ◌≢◌, ℕ, Bool, true, false, List, [], ◌++◌, drop, codes, Option, None, Some, refl, sym, ◌∙◌, ap, subst}
use Rattle.std.proofs.Common.{inl, inr, ◌⊎◌, if◌then◌else◌}
use Rattle.std.specs.Str.{bytes_eq}
use Rattle.std.proofs.lemmas.Bool.{cases_Bool, cond-true, cond-false}
use Rattle.sw_hashdir.proofs.Standing.{order_moved, state_moved}
use Rattle.sw_hashdir.specs.Places.{AllInOrder, dir_text, holds, is_place, state_in, write_in}
use Rattle.sw_hashpath.specs.declared.secrets.Secrets.{Secrets}
use Rattle.sw_journal.specs.Entries.{about_record, is_record_of, record_left}
use Rattle.sw_object_steps.proofs.Hashes.{hash-same, hash-self}
use Rattle.sw_object_steps.proofs.Recording.{same-key, same-self}
use Rattle.sw_object_steps.specs.Journals.{Hash, Journal, with_doubt, with_entry}
use Rattle.sw_object_steps.specs.Rules.{obj_applied}
use Rattle.sw_object_steps.specs.Values.{ObjValue, is_same_key, set_record}
use Rattle.sw_object_steps.specs.declared.entry.ObjEntry.{ObjEntry}
use Rattle.sw_object_steps.specs.declared.entry.ObjEntry.TheVariants.{Dropped, Files, Marked, Wrote}
use Rattle.sw_objdir.proofs.Looking.{tells-now, values-told, values-untold}
use Rattle.sw_objdir.proofs.RecordSettling.{IsOne, kept-doubted, kept-entered}
use Rattle.sw_objdir.specs.Directories.{IsDir, Kept, history_of, is_told, records_of, value_at, values_of}
use Rattle.sw_pending.specs.Records.{key_of}
use Rattle.sw_pending.specs.Names.{folder_text, name_text}
use Rattle.sw_pending.specs.declared.filed.Filed.{Filed}
use Rattle.sw_pending.specs.declared.key.RecordKey.{RecordKey}
use Rattle.sw_pending_dir.proofs.Stepping.{objects_stay}
use Rattle.sw_pending_dir.specs.Places.{AllRecordsInOrder, record_at}
use Rattle.sw_pending_dir.specs.Steps.{KeepsRecords, SetsRecord}
use Rattle.sw_state.specs.States.{state_of}
use Rattle.sw_volume.specs.Tree.{Folders, contents}
use Rattle.sw_volume.specs.Volume.{Contents, MaySet, Sets}

-- ---- files of objects stay

-- each file in or below `objects` is what it was
abbrev pub ObjectsStill : Contents → Contents → Type 0
ObjectsStill old new = (rest file : List ℕ) → new (codes "objects" ++ rest) file ≡ old (codes "objects" ++ rest) file

pub still-set : (old new : Contents) (key : RecordKey) (w : Option (List ℕ)) → Sets old new (folder_text key.hash) (name_text key) w → ObjectsStill old new
still-set old new key w sets = objects_stay old new key w sets

pub still-may : (old new : Contents) (key : RecordKey) (w : Option (List ℕ)) → MaySet old new (folder_text key.hash) (name_text key) w → ObjectsStill old new
still-may old new key w (inl same) = λ rest file. same (codes "objects" ++ rest) file
still-may old new key w (inr sets) = objects_stay old new key w sets

module _ (secrets : Secrets) (power : ℕ) (old new : Folders) (still : ObjectsStill (contents old) (contents new)) (order : AllInOrder secrets power old) where
  in-dir : (hash : Hash) (name : List ℕ) → contents new (dir_text power hash) name ≡ contents old (dir_text power hash) name
  in-dir hash name = still (drop 7 (dir_text power hash)) name

  pub order-still : AllInOrder secrets power new
  order-still hash place =
      order_moved (write_in secrets hash) (contents old) (contents new) (dir_text power hash) (λ name. in-dir hash name) (order hash place)

  pub holds-still : (hash : Hash) → holds secrets power new hash ≡ holds secrets power old hash
  holds-still hash = elim (cases_Bool (is_place power hash)) [
    | inl place ↦ cond-true (is_place power hash) (state_in (write_in secrets hash) new (dir_text power hash)) (state_of []) place
        ∙ (state_moved (write_in secrets hash) old new (dir_text power hash) (λ name. in-dir hash name) (order hash place)
        ∙ sym (cond-true (is_place power hash) (state_in (write_in secrets hash) old (dir_text power hash)) (state_of []) place))
    | inr none ↦ cond-false (is_place power hash) _ _ none ∙ sym (cond-false (is_place power hash) _ _ none)
  ]

-- ---- records

module _ (secrets : Secrets) (old new : Folders) where
  pub records-still : KeepsRecords secrets old new → (hash : Hash) → records_of secrets new hash ≡ records_of secrets old hash
  records-still keeps hash i key = if bytes_eq key.hash hash then keeps.same key i else None

  module _ (key : RecordKey) (value : Option Filed) (sets : SetsRecord secrets key value old new) where
    pub records-here : records_of secrets new key.hash ≡ set_record (records_of secrets old key.hash) key value
    records-here i k = at k (is_same_key key k) refl i
      where
        at : (x : RecordKey) (b : Bool) → is_same_key key x ≡ b
            → records_of secrets new key.hash x ≡ set_record (records_of secrets old key.hash) key value x
        at x true is =
            subst (λ (y : RecordKey). records_of secrets new key.hash y ≡ set_record (records_of secrets old key.hash) key value y) (same-key key x is)
            (rw (same-self key, hash-self key.hash) sets.here)
        at x false apart =
            let others : record_at secrets new x ≡ record_at secrets old x = sets.others x (λ same.
            let is : is_same_key key x ≡ true = subst (λ (y : RecordKey). is_same_key key y ≡ true) (sym same) (same-self key) in cc) in
            rw (apart, others) refl

    pub records-others : (hash : Hash) → hash ≢ key.hash → records_of secrets new hash ≡ records_of secrets old hash
    records-others hash away i k = at k (bytes_eq k.hash hash) refl i
      where
        at : (x : RecordKey) (b : Bool) → bytes_eq x.hash hash ≡ b → records_of secrets new hash x ≡ records_of secrets old hash x
        at x true is =
            let others : record_at secrets new x ≡ record_at secrets old x =
            sets.others x (λ same. away (sym (hash-same x.hash hash is) ∙ ap (λ (y : RecordKey). y.hash) same)) in
            rw others refl
        at x false apart = rw apart refl

-- ---- a directory

-- what an entry of one record leaves
pub applied-one : (v : ObjValue) (key : RecordKey) (e : ObjEntry) → is_record_of key e ≡ true
    → obj_applied v e ≡ record { state = v.state; records = set_record v.records key (record_left e) }
applied-one v key (Wrote name w records) of = cc
applied-one v key (Files by filed) of = λ i. record { state = v.state; records = set_record v.records (sym (same-key key (key_of filed) of) i) (Some filed) }
applied-one v key (Marked by filed device) of =
    λ i. record { state = v.state; records = set_record v.records (sym (same-key key (key_of filed) of) i) (Some filed) }
applied-one v key (Dropped by filed) of = λ i. record { state = v.state; records = set_record v.records (sym (same-key key (key_of filed) of) i) None }

module _ {V : Type 0} (tells : V → Bool) (files : V → Folders) (faults : V → ℕ) (k : Kept V) (dir : IsDir tells files faults k) (key : RecordKey)
    (e : ObjEntry) (one : IsOne key e) (settled : about_record key k.journal.doubts ≡ []) (v : V) (told_is : tells v ≡ tells k.volume)
    (still : tells k.volume ≡ true → ObjectsStill (contents (files k.volume)) (contents (files v))) where
  abbrev moved : Journal → Kept V
  moved j = record k { volume = v; journal = j }

  abbrev IsSet : Type 0
  IsSet = SetsRecord k.secrets key (record_left e) (files k.volume) (files v)

  abbrev IsKept : Type 0
  IsKept = KeepsRecords k.secrets (files k.volume) (files v)

  told-still : is_told tells files faults k ≡ true → ObjectsStill (contents (files k.volume)) (contents (files v))
  told-still told = still (tells-now tells files faults k dir told)

  holds-now : is_told tells files faults k ≡ true → (hash : Hash)
      → holds k.secrets k.power (files v) hash ≡ holds k.secrets k.power (files k.volume) hash
  holds-now told = holds-still k.secrets k.power (files k.volume) (files v) (told-still told) (dir.order told)

  value-set : (j : Journal) → is_told tells files faults k ≡ true → IsSet
      → values_of tells files faults (moved j) key.hash ≡ obj_applied (values_of tells files faults k key.hash) e
  value-set j told sets =
      values-told tells files faults (moved j) key.hash told
      ∙ ((λ i. record { state = holds-now told key.hash i; records = records-here k.secrets (files k.volume) (files v) key (record_left e) sets i })
      ∙ (sym (applied-one (value_at k.secrets k.power (files k.volume) key.hash) key e one.of)
      ∙ ap (λ (x : ObjValue). obj_applied x e) (sym (values-told tells files faults k key.hash told))))

  value-kept : (j : Journal) → is_told tells files faults k ≡ true → IsKept → (hash : Hash)
      → values_of tells files faults (moved j) hash ≡ values_of tells files faults k hash
  value-kept j told keeps hash =
      values-told tells files faults (moved j) hash told
      ∙ ((λ i. record { state = holds-now told hash i; records = records-still k.secrets (files k.volume) (files v) keeps hash i })
      ∙ sym (values-told tells files faults k hash told))

  value-other : (j : Journal) → is_told tells files faults k ≡ true → IsSet → (hash : Hash) → hash ≢ key.hash
      → values_of tells files faults (moved j) hash ≡ values_of tells files faults k hash
  value-other j told sets hash away =
      values-told tells files faults (moved j) hash told
      ∙ ((λ i. record {
        state = holds-now told hash i;
        records = records-others k.secrets (files k.volume) (files v) key (record_left e) sets hash away i;
      })
      ∙ sym (values-told tells files faults k hash told))

  by-told : (j : Journal) (hash : Hash)
      → (is_told tells files faults k ≡ true → values_of tells files faults (moved j) hash ≡ values_of tells files faults k hash)
      → values_of tells files faults (moved j) hash ≡ values_of tells files faults k hash
  by-told j hash told_so = elim (cases_Bool (is_told tells files faults k)) [
    | inl told ↦ told_so told
    | inr none ↦ values-untold tells files faults (moved j) hash none ∙ sym (values-untold tells files faults k hash none)
  ]

  -- ---- the change was made

  module _ (sets : is_told tells files faults k ≡ true → SetsRecord k.secrets key (record_left e) (files k.volume) (files v)) where
    pub here-entered : is_told tells files faults k ≡ true
        → values_of tells files faults (record k { volume = v; journal = with_entry k.journal e }) key.hash
        ≡ obj_applied (values_of tells files faults k key.hash) e
    here-entered told = value-set (with_entry k.journal e) told (sets told)

    pub others-entered : (hash : Hash) → hash ≢ key.hash
        → values_of tells files faults (record k { volume = v; journal = with_entry k.journal e }) hash ≡ values_of tells files faults k hash
    others-entered hash away = by-told (with_entry k.journal e) hash (λ told. value-other (with_entry k.journal e) told (sets told) hash away)

    pub dir-entered : IsDir tells files faults (record k { volume = v; journal = with_entry k.journal e })
    dir-entered = record {
      same = told_is ∙ dir.same;
      order = λ told. order-still k.secrets k.power (files k.volume) (files v) (told-still told) (dir.order told);
      records_order = λ told. (sets told).order (dir.records_order told);
      kept = kept-entered (history_of tells files faults k) (values_of tells files faults k) dir.kept key e one settled
          (values_of tells files faults (moved (with_entry k.journal e))) others-entered (faults v) here-entered;
      least = dir.least;
      greatest = dir.greatest;
    }

  -- ---- it was made or wasn't

  module _ (may : is_told tells files faults k ≡ true → KeepsRecords k.secrets (files k.volume) (files v)
      ⊎ SetsRecord k.secrets key (record_left e) (files k.volume) (files v)) where
    pub here-doubted : is_told tells files faults k ≡ true
        → (values_of tells files faults (record k { volume = v; journal = with_doubt k.journal e }) key.hash ≡ values_of tells files faults k key.hash)
        ⊎ (values_of tells files faults (record k { volume = v; journal = with_doubt k.journal e }) key.hash
        ≡ obj_applied (values_of tells files faults k key.hash) e)
    here-doubted told = elim (may told) [
      | inl keeps ↦ inl (value-kept (with_doubt k.journal e) told keeps key.hash)
      | inr sets ↦ inr (value-set (with_doubt k.journal e) told sets)
    ]

    pub others-doubted : (hash : Hash) → hash ≢ key.hash
        → values_of tells files faults (record k { volume = v; journal = with_doubt k.journal e }) hash ≡ values_of tells files faults k hash
    others-doubted hash away = by-told (with_doubt k.journal e) hash (λ told. elim (may told) [
      | inl keeps ↦ value-kept (with_doubt k.journal e) told keeps hash
      | inr sets ↦ value-other (with_doubt k.journal e) told sets hash away
    ])

    either-order : is_told tells files faults k ≡ true → KeepsRecords k.secrets (files k.volume) (files v)
        ⊎ SetsRecord k.secrets key (record_left e) (files k.volume) (files v) → AllRecordsInOrder k.secrets (files v)
    either-order told (inl keeps) = keeps.order (dir.records_order told)
    either-order told (inr sets) = sets.order (dir.records_order told)

    pub dir-doubted : IsDir tells files faults (record k { volume = v; journal = with_doubt k.journal e })
    dir-doubted = record {
      same = told_is ∙ dir.same;
      order = λ told. order-still k.secrets k.power (files k.volume) (files v) (told-still told) (dir.order told);
      records_order = λ told. either-order told (may told);
      kept = kept-doubted (history_of tells files faults k) (values_of tells files faults k) dir.kept key e one settled
          (values_of tells files faults (moved (with_doubt k.journal e))) others-doubted (faults v) here-doubted;
      least = dir.least;
      greatest = dir.greatest;
    }
