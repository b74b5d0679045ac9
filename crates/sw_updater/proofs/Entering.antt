-- The entries of marks and drops where no change of a record is in doubt: none takes a device back.
use Rattle.std.proofs.Common.{◌≡◌, ℕ, Bool, true, false, List, [], ◌∷◌, Option, None, Some, bytes_eq, inl, inr, refl, sym, ◌∙◌, ap, subst}
use Rattle.std.proofs.Common.{if◌then◌else◌}
use Rattle.std.proofs.lemmas.Bool.{and_left, cases_Bool, or_from}
use Rattle.sw_object_steps.proofs.Hashes.{hash-same, hash-self}
use Rattle.sw_object_steps.proofs.Recording.{same-key}
use Rattle.sw_object_steps.proofs.Telling.{tells-record, none-wider, no-records}
use Rattle.sw_object_steps.specs.Histories.{ChangesObject}
use Rattle.sw_object_steps.specs.Journals.{Hash}
use Rattle.sw_object_steps.specs.Recorded.{doubts_record, doubts_records, dropping_entries, found, is_gone, marking_entries, may_go, of_key}
use Rattle.sw_object_steps.specs.Rules.{ObjHistory, ObjJournal, Writes, obj_rules}
use Rattle.sw_object_steps.specs.Values.{ObjValue, is_same_key}
use Rattle.sw_object_steps.specs.declared.answer.Answer.TheVariants as answers
use Rattle.sw_object_steps.specs.declared.change.Change.{Change}
use Rattle.sw_object_steps.specs.declared.change.Change.TheVariants.{DropRecord, MarkRecord}
use Rattle.sw_object_steps.specs.declared.entry.ObjEntry.{ObjEntry}
use Rattle.sw_object_steps.specs.declared.entry.ObjEntry.TheVariants.{Dropped, Marked}
use Rattle.sw_pending.specs.Records.{key_of, marked}
use Rattle.sw_pending.specs.Rules.{is_done}
use Rattle.sw_pending.specs.declared.filed.Filed.{Filed}
use Rattle.sw_pending.specs.declared.key.RecordKey.{RecordKey}
use Rattle.sw_step.specs.Rules.{CanStand, about, doubts_about, stands}
use Rattle.sw_step.specs.Steps.{IsDone}
use Rattle.sw_updater.proofs.Quiet.{IsClear, IsQuiet, quiet-trans, settled-quiet}
use Rattle.sw_updater.proofs.Standing.{all-marked}
use Rattle.sw_updater.proofs.Taking.{is-done, looked}
use Rattle.sw_updater.specs.Laws.{any_unmarks, takes_back, unmarks}

-- the record that was found is what is filed for its key
found-filed : (v : ObjValue) (filed stood : Filed) → found v filed.name.hash filed ≡ Some stood
    → (key_of stood ≡ key_of filed) × (v.records (key_of filed) ≡ Some stood)
found-filed v filed stood is = let own = hash-self filed.name.hash in by (v.records (key_of filed)) refl (rw own at is)
  where
    one : (other : Filed) (same : Bool) → is_same_key (key_of other) (key_of filed) ≡ same → v.records (key_of filed) ≡ Some other
        → (if same then Some other else None) ≡ Some stood → (key_of stood ≡ key_of filed) × (v.records (key_of filed) ≡ Some stood)
    one other true same there got =
        let equal : other ≡ stood = cc in
        (subst (λ (f : Filed). key_of f ≡ key_of filed) equal (same-key (key_of other) (key_of filed) same), there ∙ got)
    one other false same there got = absurd cc

    by : (o : Option Filed) → v.records (key_of filed) ≡ o → of_key (key_of filed) o ≡ Some stood
        → (key_of stood ≡ key_of filed) × (v.records (key_of filed) ≡ Some stood)
    by None there got = absurd cc
    by (Some other) there got = one other (is_same_key (key_of other) (key_of filed)) refl there got

-- no mark among these takes a device back from what stands under their hash
abbrev Keeps : (Hash → ObjValue) → List ObjEntry → Type 0
Keeps v es = (hash : Hash) (key : RecordKey) → any_unmarks key (v hash) (about obj_rules hash es) ≡ false

one-keeps : (v : Hash → ObjValue) (e : ObjEntry) → ((key : RecordKey) → unmarks key (v (obj_rules.key_of e)) e ≡ false) → Keeps v (e ∷ [])
one-keeps v e none hash key = elim (cases_Bool (bytes_eq (obj_rules.key_of e) hash)) [
  | inl is ↦ rw is (or_from (unmarks key (v hash) e) false
      (subst (λ (x : Hash). unmarks key (v x) e ≡ false) (hash-same (obj_rules.key_of e) hash is) (none key)) refl)
  | inr isnt ↦ rw isnt refl
]

dropping-keeps : (v : Hash → ObjValue) (hash : Hash) (o : Option Filed) (goes : Bool) → Keeps v (dropping_entries hash o goes)
dropping-keeps v hash None goes = λ other key. refl
dropping-keeps v hash (Some stood) true = one-keeps v (Dropped hash stood) (λ key. refl)
dropping-keeps v hash (Some stood) false = λ other key. refl

marking-keeps : (v : Hash → ObjValue) (hash : Hash) (o : Option Filed) (to : ℕ)
    → ((stood : Filed) → o ≡ Some stood → (v hash).records (key_of stood) ≡ Some stood) → Keeps v (marking_entries hash o to)
marking-keeps v hash None to stands = λ other key. refl
marking-keeps v hash (Some stood) to stands = by (is_done to stood.done)
  where
    none : (key : RecordKey) → unmarks key (v hash) (Marked hash (marked stood to) to) ≡ false
    none key = elim (cases_Bool (is_same_key (key_of stood) key)) [
      | inl is ↦
          let there : (v hash).records key ≡ Some stood =
          subst (λ (k : RecordKey). (v hash).records k ≡ Some stood) (same-key (key_of stood) key is) (stands stood refl) in
          let all = all-marked stood to in
          rw is (rw there (rw all refl))
      | inr isnt ↦ and_left (is_same_key (key_of stood) key) (takes_back ((v hash).records key) (marked stood to)) isnt
    ]

    by : (done : Bool) → Keeps v (if done then [] else Marked hash (marked stood to) to ∷ [])
    by true = λ other key. refl
    by false = one-keeps v (Marked hash (marked stood to) to) none

-- ---- steps that were taken, where nobody else is at the nodes

module _ (h : ObjHistory) (s : Hash → ObjValue) (filed : Filed) (change : Change) (is : Bool) (g : ObjHistory) (t : ObjValue)
    (step : ChangesObject true h s filed.name change (answers.Took is) g t) (clear : IsClear h.journal) where
  first : IsQuiet h step.before
  first = settled-quiet (obj_rules.reaches filed.name.hash) h step.before (step.settles refl) clear

  own : Keeps (stands obj_rules step.before) (obj_rules.entries_for step.read filed.name.hash (Writes filed.name change)) → IsQuiet h g
  own keeps =
      quiet-trans h step.before g step.follows.opening first
      (record {
        clear = subst IsClear (sym done.entered) first.clear;
        more = obj_rules.entries_for step.read filed.name.hash (Writes filed.name change);
        grown = ap (λ (j : ObjJournal). j.entries) done.entered;
        keeps = keeps;
      })
    where
      done : IsDone obj_rules step.read step.before.journal filed.name.hash (Writes filed.name change) (answers.Took is) step.made g.journal
      done = is-done true h s filed.name change is g t step

  -- what was read of a record is what the entries tell
  told-filed : step.before.told ≡ true → (stood : Filed) → found step.read filed.name.hash filed ≡ Some stood
      → (stands obj_rules step.before filed.name.hash).records (key_of stood) ≡ Some stood
  told-filed told stood found_it =
      let there = found-filed step.read filed stood found_it in
      let can : CanStand obj_rules step.before filed.name.hash step.read = step.known told (looked true h s filed.name change is g t step) in
      subst (λ (k : RecordKey). (stands obj_rules step.before filed.name.hash).records k ≡ Some stood) (sym there.0)
      (sym (tells-record step.before filed.name.hash step.read can (key_of filed)
      (none-wider (doubts_record (key_of filed)) doubts_records (no-records (key_of filed))
      (doubts_about obj_rules filed.name.hash step.before.journal.doubts) (first.clear filed.name.hash)))
      ∙ there.1)

pub mark-quiet : (h : ObjHistory) (s : Hash → ObjValue) (filed : Filed) (to : ℕ) (is : Bool) (g : ObjHistory) (t : ObjValue)
    → (step : ChangesObject true h s filed.name (MarkRecord filed to) (answers.Took is) g t) → step.before.told ≡ true → IsClear h.journal → IsQuiet h g
mark-quiet h s filed to is g t step told clear =
    own h s filed (MarkRecord filed to) is g t step clear
    (marking-keeps (stands obj_rules step.before) filed.name.hash (found step.read filed.name.hash filed) to
    (told-filed h s filed (MarkRecord filed to) is g t step clear told))

pub drop-quiet : (h : ObjHistory) (s : Hash → ObjValue) (filed : Filed) (all : List ℕ) (is : Bool) (g : ObjHistory) (t : ObjValue)
    → (step : ChangesObject true h s filed.name (DropRecord filed all) (answers.Took is) g t) → IsClear h.journal → IsQuiet h g
drop-quiet h s filed all is g t step clear =
    own h s filed (DropRecord filed all) is g t step clear
    (dropping-keeps (stands obj_rules step.before) filed.name.hash (found step.read filed.name.hash filed)
    (may_go (found step.read filed.name.hash filed) all (is_gone step.read.state filed.time)))
