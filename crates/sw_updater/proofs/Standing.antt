-- What entries do to a record that stands with some devices done.
use Rattle.std.proofs.Common.{◌≡◌, ◌==◌, ℕ, Bool, true, false, ◌||◌, List, [], ◌∷◌, ◌++◌, Option, Some, ◌⊎◌, inl, inr, refl, sym, ◌∙◌, ap, subst}
use Rattle.std.proofs.Common.{map}
use Rattle.std.proofs.lemmas.Bool.{and_from, and_parts, cases_Bool, eq-eqb, eqb-true, or_cases, or_from, or_left, or_parts, or_right}
use Rattle.std.proofs.Math.Bool.{or_assoc}
use Rattle.std.specs.List.{fold, list_any}
use Rattle.sw_object_steps.proofs.Recording.{other-key, record-kept, record-left, same-key}
use Rattle.sw_object_steps.specs.Recorded.{doubts_record}
use Rattle.sw_object_steps.specs.Rules.{obj_applied}
use Rattle.sw_object_steps.specs.Values.{ObjValue, is_same_key}
use Rattle.sw_object_steps.specs.declared.entry.ObjEntry.{ObjEntry}
use Rattle.sw_object_steps.specs.declared.entry.ObjEntry.TheVariants.{Dropped, Files, Marked, Wrote}
use Rattle.sw_pending.proofs.Marks.{marks_add}
use Rattle.sw_pending.specs.Records.{key_of, marked}
use Rattle.sw_pending.specs.Rules.{are_done, is_done}
use Rattle.sw_pending.specs.declared.filed.Filed.{Filed}
use Rattle.sw_pending.specs.declared.key.RecordKey.{RecordKey}
use Rattle.sw_updater.specs.Laws.{any_unmarks, ends, unmarks}

-- ---- devices

-- a device among some that are all done is done
pub all-done : (d : ℕ) (ds done : List ℕ) → are_done ds done ≡ true → is_done d ds ≡ true → is_done d done ≡ true
all-done d [] done all is = absurd cc
all-done d (e ∷ ds) done all is =
    let parts = and_parts (is_done e done) (are_done ds done) all in
    elim (or_cases (d == e) (is_done d ds) is) [
      | inl same ↦ subst (λ (x : ℕ). is_done x done ≡ true) (sym (eqb-true d e same)) parts.0
      | inr later ↦ all-done d ds done parts.1 later
    ]

pub done-all : (ds done : List ℕ) → ((d : ℕ) → is_done d ds ≡ true → is_done d done ≡ true) → are_done ds done ≡ true
done-all [] done each = refl
done-all (d ∷ ds) done each =
    and_from (is_done d done) (are_done ds done) (each d (or_left (d == d) (is_done d ds) (eq-eqb d d refl)))
    (done-all ds done (λ e is. each e (or_right (e == d) (is_done e ds) is)))

-- a mark keeps those that are done
pub all-marked : (filed : Filed) (to : ℕ) → are_done filed.done (marked filed to).done ≡ true
all-marked filed to = done-all filed.done (marked filed to).done (λ d is. marks_add filed to d ∙ or_right (d == to) (is_done d filed.done) is)

-- ---- a record that stands

-- it is one of the key, with at least these devices done
pub record Stands (P : ℕ → Type 0) (key : RecordKey) (o : Option Filed) : Type 0 where
  pub stood : Filed
  pub is : o ≡ Some stood
  pub own : key_of stood ≡ key
  pub done : (d : ℕ) → P d → is_done d stood.done ≡ true

pub stands-fewer : (P Q : ℕ → Type 0) (key : RecordKey) (o : Option Filed) → ((d : ℕ) → Q d → P d) → Stands P key o → Stands Q key o
stands-fewer P Q key o fewer s = record { stood = s.stood; is = s.is; own = s.own; done = λ d is. s.done d (fewer d is) }

none-filed : (key : RecordKey) (records : List Filed) → list_any (λ filed. is_same_key (key_of filed) key) records ≡ false
    → list_any (λ other. is_same_key key other) (map key_of records) ≡ false
none-filed key [] none = refl
none-filed key (filed ∷ more) none =
    let parts = or_parts (is_same_key (key_of filed) key) (list_any (λ f. is_same_key (key_of f) key) more) none in
    or_from (is_same_key key (key_of filed)) (list_any (λ other. is_same_key key other) (map key_of more)) (other-key (key_of filed) key parts.0)
    (none-filed key more parts.1)

module _ (P : ℕ → Type 0) (key : RecordKey) where
  -- one entry ends it, takes a device back, or leaves it with what was done
  abbrev Leads : ObjValue → ObjEntry → Type 0
  Leads v e = (ends key e ≡ true) ⊎ ((unmarks key v e ≡ true) ⊎ Stands P key ((obj_applied v e).records key))

  untouched : (v : ObjValue) (e : ObjEntry) → doubts_record key (e ∷ []) ≡ false → Stands P key (v.records key) → Stands P key ((obj_applied v e).records key)
  untouched v e none s =
      subst (λ (o : Option Filed). Stands P key o)
      (sym (record-left v (e ∷ []) key ∙ record-kept key (e ∷ []) none (v.records key))) s

  not-this : (other : RecordKey) → is_same_key other key ≡ false → ((is_same_key key other || false) || false) ≡ false
  not-this other isnt = let away : is_same_key key other ≡ false = other-key other key isnt in rw away refl

  marks : (v : ObjValue) (by : List ℕ) (filed : Filed) (device : ℕ) → is_same_key (key_of filed) key ≡ true → Stands P key (v.records key)
      → Leads v (Marked by filed device)
  marks v by filed device same s = elim (cases_Bool (are_done s.stood.done filed.done)) [
    | inl all ↦ inr (inr (record {
      stood = filed;
      is = rw same refl;
      own = same-key (key_of filed) key same;
      done = λ d is. all-done d s.stood.done filed.done all (s.done d is);
    }))
    | inr less ↦
        let stood = s.is in
        inr (inl (and_from (is_same_key (key_of filed) key) _ same (rw stood (rw less refl))))
  ]

  one-leads : (v : ObjValue) (e : ObjEntry) → Stands P key (v.records key) → Leads v e
  one-leads v (Wrote name w records) s = elim (cases_Bool (list_any (λ filed. is_same_key (key_of filed) key) records)) [
    | inl is ↦ inl is
    | inr isnt ↦ inr (inr (untouched v (Wrote name w records)
        (or_from (list_any (λ other. is_same_key key other) (map key_of records)) false (none-filed key records isnt) refl) s))
  ]
  one-leads v (Files by filed) s = elim (cases_Bool (is_same_key (key_of filed) key)) [
    | inl is ↦ inl is
    | inr isnt ↦ inr (inr (untouched v (Files by filed) (not-this (key_of filed) isnt) s))
  ]
  one-leads v (Marked by filed device) s = elim (cases_Bool (is_same_key (key_of filed) key)) [
    | inl is ↦ marks v by filed device is s
    | inr isnt ↦ inr (inr (untouched v (Marked by filed device) (not-this (key_of filed) isnt) s))
  ]
  one-leads v (Dropped by filed) s = elim (cases_Bool (is_same_key (key_of filed) key)) [
    | inl is ↦ inl is
    | inr isnt ↦ inr (inr (untouched v (Dropped by filed) (not-this (key_of filed) isnt) s))
  ]

  -- so do several, one after the other
  abbrev pub LeadAll : ObjValue → List ObjEntry → Type 0
  LeadAll v es = (list_any (ends key) es ≡ true) ⊎ ((any_unmarks key v es ≡ true) ⊎ Stands P key ((fold obj_applied v es).records key))

  pub all-lead : (v : ObjValue) (es : List ObjEntry) → Stands P key (v.records key) → LeadAll v es
  all-lead v [] s = inr (inr s)
  all-lead v (e ∷ es) s = by (all-lead (obj_applied v e) es) (one-leads v e s)
    where
      rest : LeadAll (obj_applied v e) es → LeadAll v (e ∷ es)
      rest (inl is) = inl (or_right (ends key e) (list_any (ends key) es) is)
      rest (inr (inl is)) = inr (inl (or_right (unmarks key v e) (any_unmarks key (obj_applied v e) es) is))
      rest (inr (inr stands)) = inr (inr stands)

      by : (Stands P key ((obj_applied v e).records key) → LeadAll (obj_applied v e) es) → Leads v e → LeadAll v (e ∷ es)
      by later (inl is) = inl (or_left (ends key e) (list_any (ends key) es) is)
      by later (inr (inl is)) = inr (inl (or_left (unmarks key v e) (any_unmarks key (obj_applied v e) es) is))
      by later (inr (inr stands)) = rest (later stands)

-- ---- tests of several entries

pub any-unmarks-append : (key : RecordKey) (v : ObjValue) (xs ys : List ObjEntry)
    → any_unmarks key v (xs ++ ys) ≡ (any_unmarks key v xs || any_unmarks key (fold obj_applied v xs) ys)
any-unmarks-append key v [] ys = refl
any-unmarks-append key v (x ∷ xs) ys =
    ap (λ (b : Bool). unmarks key v x || b) (any-unmarks-append key (obj_applied v x) xs ys)
    ∙ sym (or_assoc (unmarks key v x) (any_unmarks key (obj_applied v x) xs) (any_unmarks key (fold obj_applied (obj_applied v x) xs) ys))
