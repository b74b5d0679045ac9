-- Entries that have nothing to do with a doubt may as well be made before it.
use Rattle.std.proofs.Common.{◌≡◌, true, false, List, [], ◌∷◌, ◌++◌, Option, refl, sym, ◌∙◌, ap, subst, inl, inr, ◌⊎◌, append_assoc}
use Rattle.std.specs.List.{fold, list_any}
use Rattle.std.proofs.lemmas.Bool.{cases_Bool, or_cases, or_left, or_parts}
use Rattle.std.proofs.lemmas.List.Folds.{list_any-append}
use Rattle.sw_object_steps.proofs.Recording.{record_by, record-kept, record-left, same-key, same-value, state_by, state-kept, state-left}
use Rattle.sw_object_steps.specs.Recorded.{doubts_record, doubts_write, entry_files, is_wrote}
use Rattle.sw_object_steps.specs.Rules.{obj_applied}
use Rattle.sw_object_steps.specs.Values.{ObjValue, is_same_key}
use Rattle.sw_object_steps.specs.declared.entry.ObjEntry.{ObjEntry}
use Rattle.sw_pending.specs.declared.filed.Filed.{Filed}
use Rattle.sw_pending.specs.declared.key.RecordKey.{RecordKey}
use Rattle.sw_state.specs.declared.state.State.{State}
use Rattle.sw_step.specs.Journals.{flat}

-- these entries change nothing that the doubt changes: not both have a write, and no record is changed by both
pub record AreApart (es d : List ObjEntry) : Type 0 where
  pub writes : doubts_write es ≡ true → doubts_write d ≡ false
  pub records : (key : RecordKey) → doubts_record key es ≡ true → doubts_record key d ≡ false

-- one of two lists of entries does nothing to what they act on
swapped : {X : Type 0} (f : X → ObjEntry → X) (x : X) (es d : List ObjEntry) → ((y : X) → fold f y es ≡ y) ⊎ ((y : X) → fold f y d ≡ y)
    → fold f (fold f x d) es ≡ fold f (fold f x es) d
swapped f x es d (inl none) = none (fold f x d) ∙ ap (λ y. fold f y d) (sym (none x))
swapped f x es d (inr none) = ap (λ y. fold f y es) (none x) ∙ sym (none (fold f x es))

module _ (es d : List ObjEntry) (apart : AreApart es d) where
  states-swap : (s : State) → fold state_by (fold state_by s d) es ≡ fold state_by (fold state_by s es) d
  states-swap s = swapped state_by s es d (elim (cases_Bool (doubts_write es)) [
    | inl is ↦ inr (state-kept d (apart.writes is))
    | inr isnt ↦ inl (state-kept es isnt)
  ])

  records-swap : (key : RecordKey) (o : Option Filed) → fold (record_by key) (fold (record_by key) o d) es ≡ fold (record_by key) (fold (record_by key) o es) d
  records-swap key o = swapped (record_by key) o es d (elim (cases_Bool (doubts_record key es)) [
    | inl is ↦ inr (record-kept key d (apart.records key is))
    | inr isnt ↦ inl (record-kept key es isnt)
  ])

  pub apart-swap : (v : ObjValue) → fold obj_applied (fold obj_applied v d) es ≡ fold obj_applied (fold obj_applied v es) d
  apart-swap v = same-value (fold obj_applied (fold obj_applied v d) es) (fold obj_applied (fold obj_applied v es) d) states records
    where
      states : (fold obj_applied (fold obj_applied v d) es).state ≡ (fold obj_applied (fold obj_applied v es) d).state
      states =
          state-left (fold obj_applied v d) es
          ∙ (ap (λ (s : State). fold state_by s es) (state-left v d)
          ∙ (states-swap v.state
          ∙ sym (state-left (fold obj_applied v es) d ∙ ap (λ (s : State). fold state_by s d) (state-left v es))))

      records : (key : RecordKey) → (fold obj_applied (fold obj_applied v d) es).records key ≡ (fold obj_applied (fold obj_applied v es) d).records key
      records key =
          record-left (fold obj_applied v d) es key
          ∙ (ap (λ (o : Option Filed). fold (record_by key) o es) (record-left v d key)
          ∙ (records-swap key (v.records key)
          ∙ sym (record-left (fold obj_applied v es) d key ∙ ap (λ (o : Option Filed). fold (record_by key) o d) (record-left v es key))))

-- no entries are apart from any
pub none-apart : (d : List ObjEntry) → AreApart [] d
none-apart d = record { writes = λ is. cc; records = λ key is. cc }

-- the first entries of some that are apart
pub front-apart : (xs ys d : List ObjEntry) → AreApart (xs ++ ys) d → AreApart xs d
front-apart xs ys d apart = record {
  writes = λ is. apart.writes (list_any-append is_wrote xs ys ∙ or_left (doubts_write xs) (doubts_write ys) is);
  records = λ key is. apart.records key (list_any-append (λ (entry : ObjEntry). list_any (λ other. is_same_key key other) (entry_files entry)) xs ys
      ∙ or_left (doubts_record key xs) (doubts_record key ys) is);
}

pub flat-append : (xs ys : List (List ObjEntry)) → flat (xs ++ ys) ≡ flat xs ++ flat ys
flat-append [] ys = refl
flat-append (x ∷ xs) ys = ap (λ (es : List ObjEntry). x ++ es) (flat-append xs ys) ∙ sym (append_assoc x (flat xs) (flat ys))

-- a doubt of none of these keys doesn't change the record of a key among them
pub untouched : (d : List ObjEntry) (keys : List RecordKey) (key : RecordKey) → list_any (λ other. doubts_record other d) keys ≡ false
    → list_any (λ other. is_same_key key other) keys ≡ true → doubts_record key d ≡ false
untouched d [] key none is = cc
untouched d (first ∷ keys) key none is =
    let parts = or_parts (doubts_record first d) (list_any (λ other. doubts_record other d) keys) none in
    elim (or_cases (is_same_key key first) (list_any (λ other. is_same_key key other) keys) is) [
      | inl here ↦ subst (λ (k : RecordKey). doubts_record k d ≡ false) (sym (same-key key first here)) parts.0
      | inr behind ↦ untouched d keys key parts.1 behind
    ]
