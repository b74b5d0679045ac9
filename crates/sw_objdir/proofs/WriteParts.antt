-- What the parts of a write leave: no doubt of what it files, and its records behind the entries.
use Rattle.std.proofs.Common.{◌≡◌, ◌≢◌, ℕ, Bool, true, List, [], ◌∷◌, ◌++◌, refl, sym, ◌∙◌, ap, subst, inl, inr, ◌⊎◌, map}
use Rattle.std.specs.List.{fold, list_any}
use Rattle.std.specs.Str.{bytes_eq}
use Rattle.std.proofs.Math.Bool.{or-false}
use Rattle.std.proofs.lemmas.List.{append-nil}
use Rattle.std.proofs.lemmas.List.Elements.{recursion_from_All}
use Rattle.sw_hashpath.specs.declared.name.Name.{Name}
use Rattle.sw_object_steps.proofs.Recording.{same-key}
use Rattle.sw_object_steps.specs.Journals.{Hash, written}
use Rattle.sw_object_steps.specs.Recorded.{filed_entries, filings, is_write, records_for, step_files}
use Rattle.sw_object_steps.specs.Rules.{obj_applied}
use Rattle.sw_object_steps.specs.Singles.{recorded}
use Rattle.sw_object_steps.specs.Values.{ObjValue, is_same_key}
use Rattle.sw_object_steps.specs.declared.change.Change.{Change}
use Rattle.sw_object_steps.specs.declared.change.Change.TheVariants.{Put, Post, Delete, Receive, MarkRecord, DropRecord}
use Rattle.sw_object_steps.specs.declared.entry.ObjEntry.{ObjEntry}
use Rattle.sw_object_steps.specs.declared.entry.ObjEntry.TheVariants.{Files, Wrote}
use Rattle.sw_objdir.proofs.Looking.{looks-refl}
use Rattle.sw_objdir.proofs.RecordSettling.{not-recorded}
use Rattle.sw_objdir.proofs.WriteSteps.{NoneFiled}
use Rattle.sw_objdir.specs.Directories.{IsDir, IsPlain, Kept, is_told, values_of}
use Rattle.sw_objdir.specs.Recording.{Enters}
use Rattle.sw_objdir.specs.Stepping.{IsSameDir, LooksAt}
use Rattle.sw_objdir.specs.Writing.{AreReady, ArePut, Readies}
use Rattle.sw_pending.specs.Records.{key_of, new_record}
use Rattle.sw_pending.specs.declared.filed.Filed.{Filed}
use Rattle.sw_pending.specs.declared.key.RecordKey.{RecordKey}
use Rattle.sw_state.specs.declared.write.Write.{Write}
use Rattle.sw_step.specs.Journals.{flat}
use Rattle.sw_volume.specs.Tree.{Folders}

-- ---- the records of a write

-- it files none, or one of its name
pub record-of : (name : Name) (change : Change) → (records_for name change ≡ []) ⊎ ((time : ℕ) × (records_for name change ≡ new_record name time ∷ []))
record-of name (Put time content none_match) = inr (time, refl)
record-of name (Post time heads) = inl refl
record-of name (Delete time if_delete_at) = inr (time, refl)
record-of name (Receive write) = inl refl
record-of name (MarkRecord filed device) = inl refl
record-of name (DropRecord filed all) = inl refl

pub own-time : (name : Name) (change : Change) (filed : Filed) → records_for name change ≡ filed ∷ [] → (time : ℕ) × (filed ≡ new_record name time)
own-time name change filed own = elim (record-of name change) [
  | inl none ↦ absurd (let clash = sym none ∙ own in cc)
  | inr one ↦ (one.0, let both : new_record name one.0 ∷ [] ≡ filed ∷ [] = sym one.1 ∙ own in cc)
]

pub files-are : (hash : Hash) (name : Name) (change : Change) → is_write change ≡ true → step_files hash name change ≡ map key_of (records_for name change)
files-are hash name (Put time content none_match) writes = refl
files-are hash name (Post time heads) writes = refl
files-are hash name (Delete time if_delete_at) writes = refl
files-are hash name (Receive write) writes = refl
files-are hash name (MarkRecord filed device) writes = cc
files-are hash name (DropRecord filed all) writes = cc

-- what they enter, where the step stops behind them
pub flat-filings : (hash : Hash) (records : List Filed) → flat (filings hash records) ≡ filed_entries hash records
flat-filings hash [] = refl
flat-filings hash (filed ∷ more) = ap (λ (es : List ObjEntry). Files hash filed ∷ es) (flat-filings hash more)

-- the write behind them leaves what the one entry with them does
pub write-behind : (v : ObjValue) (hash : Hash) (name : Name) (w : Write) (records : List Filed)
    → obj_applied (fold obj_applied v (filed_entries hash records)) (Wrote name w []) ≡ obj_applied v (Wrote name w records)
write-behind v hash name w [] = refl
write-behind v hash name w (filed ∷ more) = write-behind (obj_applied v (Files hash filed)) hash name w more

-- ---- their doubts, and their files

module _ {V : Type 0} (tells : V → Bool) (files : V → Folders) (faults calls lists : V → ℕ) (name : Name) (change : Change) where
  -- the directory, once no doubt is left of what the step files
  pub record IsReadied (k m : Kept V) : Type 0 where
    pub dir : IsDir tells files faults m
    pub looks : LooksAt tells files faults (λ key. bytes_eq key name.hash) k m
    pub undoubted : written name.hash m.journal.doubts ≡ []
    pub none : NoneFiled name.hash name change m.journal.doubts

  pub readied : (k m : Kept V) → is_write change ≡ true → IsDir tells files faults k → written name.hash k.journal.doubts ≡ []
      → AreReady tells files faults calls lists (records_for name change) k m → IsReadied k m
  readied k m writes dir undoubted are = elim (record-of name change) [
    | inl none ↦
        let same : m ≡ k = subst (λ (rs : List Filed). AreReady tells files faults calls lists rs k m) none are in
        subst (λ (x : Kept V). IsReadied k x) (sym same) (record {
          dir = dir;
          looks = looks-refl tells files faults k;
          undoubted = undoubted;
          none = λ key is. absurd (no-file none key is);
        })
    | inr one ↦
        let so : (mid : Kept V) × Readies tells files faults calls lists k (new_record name one.0) mid × (m ≡ mid) =
        subst (λ (rs : List Filed). AreReady tells files faults calls lists rs k m) one.1 are in
        subst (λ (x : Kept V). IsReadied k x) (sym so.2) (record {
          dir = so.1.dir;
          looks = so.1.looks;
          undoubted = so.1.writes name.hash ∙ undoubted;
          none = λ key is. subst (λ (x : RecordKey). recorded name.hash x so.0.journal.doubts ≡ []) (sym (own-file one.0 one.1 key is))
              (not-recorded (key_of (new_record name one.0)) so.0.journal.doubts (recursion_from_All IsPlain so.0.journal.doubts so.1.dir.kept.plain)
              so.1.settled name.hash);
        })
  ]
    where
      among : (rs : List Filed) → records_for name change ≡ rs → (key : RecordKey)
          → list_any (λ other. is_same_key key other) (step_files name.hash name change) ≡ true
          → list_any (λ other. is_same_key key other) (map key_of rs) ≡ true
      among rs are_so key is = sym (ap (λ (keys : List RecordKey). list_any (λ other. is_same_key key other) keys)
          (files-are name.hash name change writes ∙ ap (map key_of) are_so)) ∙ is

      no-file : records_for name change ≡ [] → (key : RecordKey)
          → list_any (λ other. is_same_key key other) (step_files name.hash name change) ≡ true → ⊥
      no-file none key is = let clash = among [] none key is in cc

      own-file : (time : ℕ) → records_for name change ≡ new_record name time ∷ [] → (key : RecordKey)
          → list_any (λ other. is_same_key key other) (step_files name.hash name change) ≡ true → key ≡ key_of (new_record name time)
      own-file time one key is = same-key key (key_of (new_record name time))
          (sym (or-false (is_same_key key (key_of (new_record name time)))) ∙ among (new_record name time ∷ []) one key is)

  -- the directory, once these were put
  pub record IsFiled (m : Kept V) (records : List Filed) (n : Kept V) : Type 0 where
    pub dir : IsDir tells files faults n
    pub same : IsSameDir tells files faults m n
    pub here : is_told tells files faults m ≡ true
        → values_of tells files faults n name.hash ≡ fold obj_applied (values_of tells files faults m name.hash) (filed_entries name.hash records)
    pub others : (hash : Hash) → hash ≢ name.hash → values_of tells files faults n hash ≡ values_of tells files faults m hash
    pub failed : faults n.volume ≡ faults m.volume
    pub entered : n.journal ≡ record m.journal { entries = m.journal.entries ++ filed_entries name.hash records }

  pub filed-so : (m n : Kept V) → IsDir tells files faults m → ArePut tells files faults calls lists (records_for name change) m n
      → IsFiled m (records_for name change) n
  filed-so m n dir put = elim (record-of name change) [
    | inl none ↦
        let same : n ≡ m = subst (λ (rs : List Filed). ArePut tells files faults calls lists rs m n) none put in
        subst (λ (rs : List Filed). IsFiled m rs n) (sym none) (subst (λ (x : Kept V). IsFiled m [] x) (sym same) (record {
          dir = dir;
          same = record { began = refl; secrets = refl; power = refl; told = refl };
          here = λ told. refl;
          others = λ hash apart. refl;
          failed = refl;
          entered = ap (λ (es : List ObjEntry). record m.journal { entries = es }) (sym (append-nil m.journal.entries));
        }))
    | inr one ↦
        let so : (mid : Kept V)
        × Enters tells files faults calls lists m (key_of (new_record name one.0)) (Files name.hash (new_record name one.0)) mid × (n ≡ mid) =
        subst (λ (rs : List Filed). ArePut tells files faults calls lists rs m n) one.1 put in
        subst (λ (rs : List Filed). IsFiled m rs n) (sym one.1) (subst (λ (x : Kept V). IsFiled m (new_record name one.0 ∷ []) x) (sym so.2) (record {
          dir = so.1.dir;
          same = so.1.same;
          here = so.1.here;
          others = so.1.others;
          failed = so.1.counts.failed;
          entered = so.1.entered;
        }))
  ]
