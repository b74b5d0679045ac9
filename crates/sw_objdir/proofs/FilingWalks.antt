-- What is read of all records, once no doubt of a change of one is left, is what is filed under the hashes.
use Rattle.std.proofs.Common.{◌≡◌, ℕ, suc, ◌+◌, ◌≤◌, ◌↔◌, Bool, true, false, List, [], ◌∷◌, Option, Some, refl, sym, ◌∙◌, ap, subst}
use Rattle.std.proofs.Common.{inl, inr, length, Result, Ok, Err, IfOk, Vec, Global}
use Rattle.std.specs.List.{All, AllByRecursion, Contains}
use Rattle.std.specs.Str.{bytes_eq}
use Rattle.std.proofs.lemmas.Bool.{cases_Bool}
use Rattle.std.proofs.lemmas.List.Elements.{All-cons, All-nil, recursion_from_All}
use Rattle.sw_hashpath.specs.declared.secrets.Secrets.{Secrets}
use Rattle.sw_objdir.proofs.Looking.{dir-moved, looks-grows, looks-moved, looks-trans, still-values, tells-now, values-same, values-told}
use Rattle.sw_objdir.proofs.Reading.{risen-once}
use Rattle.sw_objdir.specs.Comparing.{IfDamagedPart}
use Rattle.sw_objdir.specs.Directories.{IsDir, IsPlain, Kept, is_told, value_at, values_of}
use Rattle.sw_objdir.specs.Filings.{EndsSettling, IsDamageIn, least_for}
use Rattle.sw_objdir.specs.Filings.{FilingsCalled, IsFilingsStep, SettlesFilings, StopsAt, Walks, fault_of_record, filings}
use Rattle.sw_objdir.specs.Stepping.{LooksAt, SameFiles}
use Rattle.sw_object_steps.proofs.Hashes.{hash-self}
use Rattle.sw_object_steps.proofs.Singles.{singles}
use Rattle.sw_object_steps.specs.Filings.{AreFiled}
use Rattle.sw_object_steps.specs.Histories.{IsRecorded, part_look}
use Rattle.sw_object_steps.specs.Journals.{Hash}
use Rattle.sw_object_steps.specs.Recorded.{doubts_records}
use Rattle.sw_object_steps.specs.Rules.{obj_rules}
use Rattle.sw_object_steps.specs.Values.{ObjValue, Records}
use Rattle.sw_object_steps.specs.declared.dir_fault.DirFault.{DirFault}
use Rattle.sw_object_steps.specs.declared.dir_fault.DirFault.TheVariants as faulted
use Rattle.sw_object_steps.specs.declared.entry.ObjEntry.{ObjEntry}
use Rattle.sw_object_steps.specs.declared.entry.ObjEntry.TheVariants.{Dropped, Files, Marked, Wrote}
use Rattle.sw_outside.specs.Counts.{raised}
use Rattle.sw_outside.specs.Faults.{HasRisen}
use Rattle.sw_pending.specs.Orders.{AreAscending}
use Rattle.sw_pending.specs.Outcomes.{IsRecord}
use Rattle.sw_pending.specs.Records.{key_of}
use Rattle.sw_pending.specs.declared.filed.Filed.{Filed}
use Rattle.sw_pending_dir.specs.Places.{AllRecordsInOrder, record_at}
use Rattle.sw_pending_dir.specs.Readings.{IfDamaged, OnFailedRead}
use Rattle.sw_pending_dir.specs.Walks.{AreRecords, IsCourse, IsFirstDamage}
use Rattle.sw_pending_dir.specs.declared.fault.ReadFault.{ReadFault}
use Rattle.sw_pending_dir.specs.declared.fault.ReadFault.TheVariants as reads
use Rattle.sw_step.specs.Rules.{NoneOf, doubts_about}
use Rattle.sw_step.specs.Steps.{IsDamaged, IsLost, Tells}
use Rattle.sw_volume.specs.Tree.{Folders, contents}
use Rattle.sw_volume.specs.Volume.{Contents, raised_by}

-- ---- doubts

-- where no change of a record is in doubt, no doubt changes one: that of a write files none
none-filed : (hash : Hash) (ds : List ObjEntry) → AllByRecursion IsPlain ds → filings ds ≡ []
    → NoneOf doubts_records (doubts_about obj_rules hash (singles ds))
none-filed hash [] plain none = tt
none-filed hash (Wrote name w records ∷ ds) plain none = elim (cases_Bool (bytes_eq name.hash hash)) [
  | inl is ↦ rw is (
    subst (λ (rs : List Filed). doubts_records (Wrote name w rs ∷ []) ≡ false) (sym plain.0) refl,
    none-filed hash ds plain.1 none,
  )
  | inr isnt ↦ rw isnt (none-filed hash ds plain.1 none)
]
none-filed hash (Files by filed ∷ ds) plain none = let no : Files by filed ∷ filings ds ≡ [] = none in cc
none-filed hash (Marked by filed device ∷ ds) plain none = let no : Marked by filed device ∷ filings ds ≡ [] = none in cc
none-filed hash (Dropped by filed ∷ ds) plain none = let no : Dropped by filed ∷ filings ds ≡ [] = none in cc

-- the answer as which that of the walk is told
abbrev pub walked : Result (Vec Filed Global) ReadFault → Result (Vec Filed Global) DirFault
walked (Ok records) = Ok records
walked (Err fault) = Err (fault_of_record fault)

module _ {V : Type 0} (tells : V → Bool) (files : V → Folders) (faults calls lists : V → ℕ) where
  filings-read : {A : Type 0} (k n : Kept V) → LooksAt tells files faults (λ hash. true) k n → IsDir tells files faults n
      → (reading : Bool → (Hash → Records) → A → Type 0) (got : Result A DirFault) → (part_look got ≡ Tells → filings n.journal.doubts ≡ [])
      → (part_look got ≡ Tells → IsRecorded (reading (is_told tells files faults n)) (values_of tells files faults n) got)
      → (part_look got ≡ IsDamaged → is_told tells files faults n ≡ false)
      → (part_look got ≡ IsLost → HasRisen (faults k.volume) (faults n.volume)) → IsFilingsStep tells files faults k reading got n
  filings-read k n looks after reading got none shown orderly cause = record {
    same = looks.same;
    all = still-values tells files faults (λ hash. true) k n looks after;
    reads = record {
      read = values_of tells files faults n;
      follows = looks-grows tells files faults (λ hash. true) k n looks;
      settles = λ alone. looks.settles;
      settled = λ x key is. none-filed key n.journal.doubts (recursion_from_All IsPlain n.journal.doubts after.kept.plain) (none x);
      shown = shown;
      orderly = orderly;
      failed = cause;
      known = λ told x key is. after.kept.can told key;
      kept = λ alone told key is. after.kept.can told key;
      held = λ alone told x key is. refl;
    };
  }

  -- a doubt couldn't be settled
  pub stopped-step : {A : Type 0} (most : ℕ) (k n : Kept V) → LooksAt tells files faults (λ hash. true) k n → IsDir tells files faults n
      → (reading : Bool → (Hash → Records) → A → Type 0) (fault : ReadFault) → StopsAt tells files faults calls lists most k fault n
      → IsFilingsStep tells files faults {A = A} k reading (Err (fault_of_record fault)) n
  stopped-step most k n looks after reading (reads.Damaged bad) stops =
      filings-read k n looks after reading (Err (faulted.Damaged bad)) (λ is. cc) (λ is. cc) (λ is. stops.sound.untold) (λ is. cc)
  stopped-step most k n looks after reading reads.Failed stops =
      filings-read k n looks after reading (Err faulted.Failed) (λ is. cc) (λ is. cc) (λ is. cc)
      (λ is. risen-once (faults k.volume) (faults n.volume) stops.counts.failed)
  stopped-step most k n looks after reading reads.NoMemory stops =
      filings-read k n looks after reading (Err faulted.NoMemory) (λ is. cc) (λ is. cc) (λ is. cc) (λ is. cc)

  pub stopped-damage : (most : ℕ) (k n : Kept V) (fault : ReadFault) → StopsAt tells files faults calls lists most k fault n
      → IfDamagedPart {A = Vec Filed Global} (Err (fault_of_record fault)) (λ bad. tells k.volume ≡ true
      → IsDamageIn k.secrets (contents (files k.volume)) k.journal.doubts bad)
  stopped-damage most k n (reads.Damaged bad) stops = λ told. inl (stops.sound.damaged told)
  stopped-damage most k n reads.Failed stops = tt
  stopped-damage most k n reads.NoMemory stops = tt

  pub stopped-called : (k n : Kept V) (fault : ReadFault) → StopsAt tells files faults calls lists (length (filings k.journal.doubts)) k fault n
      → FilingsCalled tells files faults calls lists k (Err (fault_of_record fault)) n
  stopped-called k n fault stops = by fault stops
    where
      ends : (x : ReadFault) (stops : StopsAt tells files faults calls lists (length (filings k.journal.doubts)) k x n)
          → EndsSettling tells files faults calls lists (least_for x) k n
      ends x stops = record {
        doubted = stops.doubted;
        count = stops.count;
        made = stops.made;
        within = stops.within;
        called = stops.counts.called;
        listed = stops.counts.listed;
      }

      by : (x : ReadFault) → StopsAt tells files faults calls lists (length (filings k.journal.doubts)) k x n
          → FilingsCalled tells files faults calls lists k (Err (fault_of_record x)) n
      by (reads.Damaged bad) stops = inl (ends (reads.Damaged bad) stops)
      by reads.Failed stops = inl (ends reads.Failed stops)
      by reads.NoMemory stops = inl (ends reads.NoMemory stops)

  -- ---- what is filed

  -- what stands for the key of a record is what is filed under its hash
  told-filed : (m : Kept V) → is_told tells files faults m ≡ true → (filed : Filed)
      → record_at m.secrets (files m.volume) (key_of filed) ≡ (values_of tells files faults m filed.name.hash).records (key_of filed)
  told-filed m told filed =
      let here : record_at m.secrets (files m.volume) (key_of filed)
      ≡ (value_at m.secrets m.power (files m.volume) filed.name.hash).records (key_of filed) = rw (hash-self filed.name.hash) refl in
      here ∙ ap (λ (x : ObjValue). x.records (key_of filed)) (sym (values-told tells files faults m filed.name.hash told))

  -- all doubts were settled, and then all records walked through
  module _ (k m : Kept V) (looks : LooksAt tells files faults (λ hash. true) k m) (after : IsDir tells files faults m)
      (all : SettlesFilings tells files faults calls lists k m) (v : V) (told_is : tells v ≡ tells m.volume)
      (stay : SameFiles tells files faults m (record m { volume = v })) (up : faults m.volume ≤ faults v) where
    abbrev moved : Kept V
    moved = record m { volume = v }

    moved-looks : LooksAt tells files faults (λ hash. true) k moved
    moved-looks = looks-trans tells files faults k m moved looks (looks-moved tells files faults m v told_is stay up)

    moved-dir : IsDir tells files faults moved
    moved-dir = dir-moved tells files faults m v after told_is stay

    moved-filed : is_told tells files faults m ≡ true → (filed : Filed)
        → record_at m.secrets (files m.volume) (key_of filed) ≡ (values_of tells files faults moved filed.name.hash).records (key_of filed)
    moved-filed told filed =
        told-filed m told filed
        ∙ ap (λ (x : ObjValue). x.records (key_of filed)) (sym (values-same tells files faults m moved after
        (record { began = refl; secrets = refl; power = refl; told = told_is }) stay filed.name.hash))

    every-one : (records : List Filed) → All (λ filed. true ≡ true) records
    every-one [] = All-nil (λ filed. true ≡ true)
    every-one (filed ∷ more) = All-cons (λ filed. true ≡ true) filed more refl (every-one more)

    are-filed : (records : List Filed) → (tells m.volume ≡ true → AreRecords m.secrets (files m.volume) records) → AreAscending records
        → All (IsRecord m.secrets) records
        → AreFiled k.secrets (λ hash. true) (is_told tells files faults moved) (λ hash. (values_of tells files faults moved hash).records) records
    are-filed records are ascending sound = record {
      ascending = ascending;
      sound = subst (λ (s : Secrets). All (IsRecord s) records) looks.same.secrets sound;
      within = every-one records;
      exact = λ told filed at. subst (λ (o : Option Filed). Contains records filed ↔ (o ≡ Some filed)) (moved-filed told filed)
          ((are (tells-now tells files faults m after told)).exact filed);
    }

    pub walk-step : (r : Result (Vec Filed Global) ReadFault)
        → IfOk r (λ records. tells m.volume ≡ true → AreRecords m.secrets (files m.volume) records.items)
        → IfOk r (λ records. AreAscending records.items) → IfOk r (λ records. All (IsRecord m.secrets) records.items)
        → IfDamaged r (λ bad. tells m.volume ≡ true → ¬ (AllRecordsInOrder m.secrets (files m.volume)))
        → OnFailedRead r (faults v ≡ raised (faults m.volume))
        → IsFilingsStep tells files faults k (λ told r got. AreFiled k.secrets (λ hash. true) told r got.items) (walked r) (record m { volume = v })
    walk-step (Ok records) are ascending sound disorder failed =
        filings-read k moved moved-looks moved-dir (λ told r got. AreFiled k.secrets (λ hash. true) told r got.items) (Ok records) (λ is. all.none)
        (λ is. are-filed records.items are ascending sound) (λ is. cc) (λ is. cc)
    walk-step (Err (reads.Damaged bad)) are ascending sound disorder failed =
        filings-read k moved moved-looks moved-dir (λ told r got. AreFiled k.secrets (λ hash. true) told r got.items) (Err (faulted.Damaged bad))
        (λ is. cc) (λ is. cc) (λ is. untold (is_told tells files faults m) refl) (λ is. cc)
      where
        untold : (b : Bool) → is_told tells files faults m ≡ b → b ≡ false
        untold true told = absurd (disorder (tells-now tells files faults m after told) (after.records_order told))
        untold false none_told = refl
    walk-step (Err reads.Failed) are ascending sound disorder failed =
        filings-read k moved moved-looks moved-dir (λ told r got. AreFiled k.secrets (λ hash. true) told r got.items) (Err faulted.Failed)
        (λ is. cc) (λ is. cc) (λ is. cc) (λ is. risen-once (faults k.volume) (faults v) (failed ∙ ap raised all.counts.failed))
    walk-step (Err reads.NoMemory) are ascending sound disorder failed =
        filings-read k moved moved-looks moved-dir (λ told r got. AreFiled k.secrets (λ hash. true) told r got.items) (Err faulted.NoMemory)
        (λ is. cc) (λ is. cc) (λ is. cc) (λ is. cc)

    same-files : tells k.volume ≡ true → contents (files m.volume) ≡ contents (files k.volume)
    same-files told = λ i d f. looks.still told d f i

    pub walk-damage : (r : Result (Vec Filed Global) ReadFault)
        → IfDamaged r (λ bad. tells m.volume ≡ true → IsFirstDamage m.secrets (contents (files m.volume)) bad)
        → IfDamagedPart (walked r) (λ bad. tells k.volume ≡ true → IsDamageIn k.secrets (contents (files k.volume)) k.journal.doubts bad)
    walk-damage (Ok records) damaged = tt
    walk-damage (Err (reads.Damaged bad)) damaged = λ told. inr
        (subst (λ (stood : Contents). IsFirstDamage k.secrets stood bad) (same-files told)
        (subst (λ (s : Secrets). IsFirstDamage s (contents (files m.volume)) bad) looks.same.secrets (damaged (looks.same.told ∙ told))))
    walk-damage (Err reads.Failed) damaged = tt
    walk-damage (Err reads.NoMemory) damaged = tt

    -- ---- calls

    module _ (folders count : ℕ) (called : calls v ≡ raised_by (suc (folders + count)) (calls m.volume))
        (listed : lists v ≡ raised_by (suc folders) (lists m.volume)) where
      walks : (r : Result (Vec Filed Global) ReadFault)
          → (tells m.volume ≡ true → IsCourse m.secrets (contents (files m.volume)) folders count r)
          → Walks tells files faults calls lists k r moved
      walks r course = record {
        folders = folders;
        reads = count;
        called = called ∙ ap (raised_by (suc (folders + count))) all.counts.called;
        listed = listed ∙ ap (raised_by (suc folders)) all.counts.listed;
        course = λ told.
            subst (λ (stood : Contents). IsCourse k.secrets stood folders count r) (same-files told)
            (subst (λ (s : Secrets). IsCourse s (contents (files m.volume)) folders count r) looks.same.secrets (course (looks.same.told ∙ told)));
      }

      pub walk-called : (r : Result (Vec Filed Global) ReadFault)
          → (tells m.volume ≡ true → IsCourse m.secrets (contents (files m.volume)) folders count r)
          → FilingsCalled tells files faults calls lists k (walked r) (record m { volume = v })
      walk-called (Ok records) course = walks (Ok records) course
      walk-called (Err (reads.Damaged bad)) course = inr (walks (Err (reads.Damaged bad)) course)
      walk-called (Err reads.Failed) course = inr (walks (Err reads.Failed) course)
      walk-called (Err reads.NoMemory) course = inr (walks (Err reads.NoMemory) course)
