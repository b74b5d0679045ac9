-- What a hash can stand for, where of its doubts none changes its state or a record of it, or one does: in any history.
use Rattle.std.proofs.Common.{◌≡◌, true, false, Bool, ◌&&◌, ◌||◌, List, [], ◌∷◌, ◌++◌, Option, None, Some, refl, sym, ◌∙◌, ap, subst, inl, inr, ◌⊎◌}
use Rattle.std.specs.List.{filter, fold, list_any}
use Rattle.std.proofs.lemmas.Bool.{cases_Bool, or_from, or_left, or_parts, or_right}
use Rattle.std.proofs.lemmas.List.Sums.{fold-append}
use Rattle.sw_hashpath.specs.declared.name.Name.{Name}
use Rattle.sw_object_steps.proofs.Recording.{record_by, record-kept, record-left, same-self, same-value, state_by, state-kept, state-left}
use Rattle.sw_object_steps.specs.Journals.{Hash}
use Rattle.sw_object_steps.specs.Recorded.{doubts_record, doubts_records, doubts_write, entry_files, lists, step_files}
use Rattle.sw_object_steps.specs.Rules.{ObjHistory, Writes, obj_rules, touched_files}
use Rattle.sw_object_steps.specs.Steps.{refusal_of}
use Rattle.sw_object_steps.specs.Values.{ObjValue, is_same_key}
use Rattle.sw_object_steps.specs.declared.answer.Answer.{Answer}
use Rattle.sw_object_steps.specs.declared.change.Change.{Change}
use Rattle.sw_object_steps.specs.declared.entry.ObjEntry.{ObjEntry}
use Rattle.sw_pending.specs.declared.filed.Filed.{Filed}
use Rattle.sw_pending.specs.declared.key.RecordKey.{RecordKey}
use Rattle.sw_state.specs.declared.state.State.{State}
use Rattle.sw_step.specs.Rules.{AreChosen, CanStand, NoneOf, doubts_about, stands}

-- ---- doubts that pass no test

pub none-passes : (test : List ObjEntry → Bool) (ds : List (List ObjEntry)) → filter test ds ≡ [] → NoneOf test ds
none-passes test [] none = tt
none-passes test (d ∷ ds) none = elim (cases_Bool (test d)) [
  | inl is ↦ let no : d ∷ filter test ds ≡ [] = rw is at none in cc
  | inr isnt ↦ (isnt, none-passes test ds (rw isnt at none))
]

pub passes-none : (test : List ObjEntry → Bool) (ds : List (List ObjEntry)) → NoneOf test ds → filter test ds ≡ []
passes-none test [] none = refl
passes-none test (d ∷ ds) none = let isnt = none.0 in rw isnt (passes-none test ds none.1)

-- where each that passes the one passes the other
pub none-wider : (test more : List ObjEntry → Bool) → ((d : List ObjEntry) → more d ≡ false → test d ≡ false) → (ds : List (List ObjEntry)) → NoneOf more ds
    → NoneOf test ds
none-wider test more wider [] none = tt
none-wider test more wider (d ∷ ds) none = (wider d none.0, none-wider test more wider ds none.1)

none-or : (test other : List ObjEntry → Bool) (ds : List (List ObjEntry)) → NoneOf test ds → NoneOf other ds → NoneOf (λ d. test d || other d) ds
none-or test other [] none also = tt
none-or test other (d ∷ ds) none also = (or_from (test d) (other d) none.0 also.0, none-or test other ds none.1 also.1)

none-and : (b : Bool) (test : List ObjEntry → Bool) (ds : List (List ObjEntry)) → (b ≡ true → NoneOf test ds) → NoneOf (λ d. b && test d) ds
none-and true test ds none = none refl
none-and false test ds none = never ds
  where
    never : (xs : List (List ObjEntry)) → NoneOf (λ d. false) xs
    never [] = tt
    never (x ∷ xs) = (refl, never xs)

none-any : (keys : List RecordKey) (ds : List (List ObjEntry))
    → ((key : RecordKey) → list_any (λ other. is_same_key key other) keys ≡ true → NoneOf (doubts_record key) ds)
    → NoneOf (λ d. list_any (λ key. doubts_record key d) keys) ds
none-any [] ds none = never ds
  where
    never : (xs : List (List ObjEntry)) → NoneOf (λ d. false) xs
    never [] = tt
    never (x ∷ xs) = (refl, never xs)
none-any (first ∷ keys) ds none =
    none-or (doubts_record first) (λ d. list_any (λ key. doubts_record key d) keys) ds
    (none first (or_left (is_same_key first first) (list_any (λ other. is_same_key first other) keys) (same-self first)))
    (none-any keys ds (λ key is. none key (or_right (is_same_key key first) (list_any (λ other. is_same_key key other) keys) is)))

-- those that a step touches: the writes where it lists, and those of the records whose files it reads, puts or unlinks where nothing refuses it
pub none-to-touch : (v : ObjValue) (hash : Hash) (name : Name) (change : Change) (ds : List (List ObjEntry))
    → (lists v hash change ≡ true → NoneOf doubts_write ds)
    → (refusal_of v.state change ≡ None → (key : RecordKey) → list_any (λ other. is_same_key key other) (step_files hash name change) ≡ true
    → NoneOf (doubts_record key) ds)
    → NoneOf (obj_rules.touches v hash (Writes name change)) ds
none-to-touch v hash name change ds writes records =
    none-or (λ d. lists v hash change && doubts_write d)
    (λ d. list_any (λ key. doubts_record key d) (touched_files (refusal_of v.state change) hash name change)) ds
    (none-and (lists v hash change) doubts_write ds writes) (by (refusal_of v.state change) records)
  where
    by : (refused : Option Answer)
        → (refused ≡ None → (key : RecordKey) → list_any (λ other. is_same_key key other) (step_files hash name change) ≡ true → NoneOf (doubts_record key) ds)
        → NoneOf (λ d. list_any (λ key. doubts_record key d) (touched_files refused hash name change)) ds
    by None none = none-any (step_files hash name change) ds (none refl)
    by (Some answer) none = none-any [] ds (λ key is. cc)

any-record : (key : RecordKey) (keys : List RecordKey) → list_any (λ (other : RecordKey). true) keys ≡ false
    → list_any (λ other. is_same_key key other) keys ≡ false
any-record key [] none = refl
any-record key (first ∷ keys) none = cc

-- one that changes no record doesn't change this one
pub no-records : (key : RecordKey) (d : List ObjEntry) → doubts_records d ≡ false → doubts_record key d ≡ false
no-records key [] none = refl
no-records key (e ∷ es) none =
    let parts = or_parts (list_any (λ (other : RecordKey). true) (entry_files e)) (doubts_records es) none in
    or_from (list_any (λ other. is_same_key key other) (entry_files e)) (doubts_record key es) (any-record key (entry_files e) parts.0)
    (no-records key es parts.1)

-- ---- a part of a value, on which a doubt that doesn't pass the test does nothing

module _ {X : Type 0} (f : X → ObjEntry → X) (test : List ObjEntry → Bool) (idle : (es : List ObjEntry) → test es ≡ false → (x : X) → fold f x es ≡ x)
  where
    none-chosen : (ds : List (List ObjEntry)) (made : List ObjEntry) → NoneOf test ds → AreChosen obj_rules ds made → (x : X) → fold f x made ≡ x
    none-chosen [] made none are x = ap (λ (es : List ObjEntry). fold f x es) are
    none-chosen (d ∷ ds) made none are x = by (none-chosen ds are.0 none.1 are.1) are.2
      where
        by : ((y : X) → fold f y are.0 ≡ y) → (made ≡ are.0) ⊎ (made ≡ d ++ are.0) → fold f x made ≡ x
        by rest (inl same) = ap (λ (es : List ObjEntry). fold f x es) same ∙ rest x
        by rest (inr more) = ap (λ (es : List ObjEntry). fold f x es) more
            ∙ (fold-append f x d are.0 ∙ (rest (fold f x d) ∙ idle d none.0 x))

    one-chosen : (ds : List (List ObjEntry)) (made one : List ObjEntry) → filter test ds ≡ one ∷ [] → AreChosen obj_rules ds made → (x : X)
        → (fold f x made ≡ x) ⊎ (fold f x made ≡ fold f x one)
    one-chosen [] made one is are x = cc
    one-chosen (d ∷ ds) made one is are x = elim (cases_Bool (test d)) [
      | inl passes ↦
          let both : d ∷ filter test ds ≡ one ∷ [] = rw passes at is in
          let same : d ≡ one = cc in
          let none : filter test ds ≡ [] = cc in
          last same (none-chosen ds are.0 (none-passes test ds none) are.1) are.2
      | inr not ↦ later not (one-chosen ds are.0 one (rw not at is) are.1) are.2
    ]
      where
        last : d ≡ one → ((y : X) → fold f y are.0 ≡ y) → (made ≡ are.0) ⊎ (made ≡ d ++ are.0) → (fold f x made ≡ x) ⊎ (fold f x made ≡ fold f x one)
        last same rest (inl left) = inl (ap (λ (es : List ObjEntry). fold f x es) left ∙ rest x)
        last same rest (inr more) = inr (ap (λ (es : List ObjEntry). fold f x es) more
            ∙ (fold-append f x d are.0 ∙ (rest (fold f x d) ∙ ap (λ (es : List ObjEntry). fold f x es) same)))

        later : test d ≡ false → ((y : X) → (fold f y are.0 ≡ y) ⊎ (fold f y are.0 ≡ fold f y one)) → (made ≡ are.0) ⊎ (made ≡ d ++ are.0)
            → (fold f x made ≡ x) ⊎ (fold f x made ≡ fold f x one)
        later not rest (inl left) = subst (λ (y : X). (y ≡ x) ⊎ (y ≡ fold f x one)) (sym (ap (λ (es : List ObjEntry). fold f x es) left)) (rest x)
        later not rest (inr more) = subst (λ (y : X). (y ≡ x) ⊎ (y ≡ fold f x one))
            (sym (ap (λ (es : List ObjEntry). fold f x es) more
            ∙ (fold-append f x d are.0 ∙ ap (λ (y : X). fold f y are.0) (idle d not x)))) (rest x)

-- ---- what can stand

module _ (h : ObjHistory) (hash : Hash) (v : ObjValue) (can : CanStand obj_rules h hash v) where
  abbrev told : ObjValue
  told = stands obj_rules h hash

  abbrev doubts : List (List ObjEntry)
  doubts = doubts_about obj_rules hash h.journal.doubts

  state-is : v.state ≡ fold state_by told.state can.0
  state-is = ap (λ (x : ObjValue). x.state) can.2 ∙ state-left told can.0

  record-is : (key : RecordKey) → v.records key ≡ fold (record_by key) (told.records key) can.0
  record-is key = ap (λ (x : ObjValue). x.records key) can.2 ∙ record-left told can.0 key

  -- no write is in doubt
  pub tells-state : NoneOf doubts_write doubts → v.state ≡ told.state
  tells-state none = state-is ∙ none-chosen state_by doubts_write state-kept doubts can.0 none can.1 told.state

  -- no change of this record
  pub tells-record : (key : RecordKey) → NoneOf (doubts_record key) doubts → v.records key ≡ told.records key
  tells-record key none = record-is key
      ∙ none-chosen (record_by key) (doubts_record key) (record-kept key) doubts can.0 none can.1 (told.records key)

  -- no change of any record
  pub tells-records : NoneOf doubts_records doubts → v.records ≡ told.records
  tells-records none = λ i key. tells-record key (none-wider (doubts_record key) doubts_records (no-records key) doubts none) i

  -- neither
  pub tells-value : NoneOf doubts_write doubts → NoneOf doubts_records doubts → v ≡ told
  tells-value writes records = same-value v told (tells-state writes)
      (λ key. tells-record key (none-wider (doubts_record key) doubts_records (no-records key) doubts records))

  -- one change with a write is in doubt
  pub either-state : (one : List ObjEntry) → filter doubts_write doubts ≡ one ∷ [] → (v.state ≡ told.state) ⊎ (v.state ≡ fold state_by told.state one)
  either-state one is = subst (λ (s : State). (s ≡ told.state) ⊎ (s ≡ fold state_by told.state one)) (sym state-is)
      (one-chosen state_by doubts_write state-kept doubts can.0 one is can.1 told.state)

  -- one change of this record
  pub either-record : (key : RecordKey) (one : List ObjEntry) → filter (doubts_record key) doubts ≡ one ∷ []
      → (v.records key ≡ told.records key) ⊎ (v.records key ≡ fold (record_by key) (told.records key) one)
  either-record key one is = subst (λ (o : Option Filed). (o ≡ told.records key) ⊎ (o ≡ fold (record_by key) (told.records key) one)) (sym (record-is key))
      (one-chosen (record_by key) (doubts_record key) (record-kept key) doubts can.0 one is can.1 (told.records key))
