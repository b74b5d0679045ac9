-- What a step at a record leaves of what a device has: all that it was, the record marked, or none in its place.
use Rattle.std.proofs.Common.{◌≡◌, ℕ, ◌<◌, Bool, true, false, ◌||◌, List, [], ◌∷◌, ◌++◌, Option, None, Some, ◌⊎◌, inl, inr, refl, ◌∙◌, ap, subst}
use Rattle.std.proofs.Common.{arith, if◌then◌else◌, length, suc, zero}
use Rattle.std.specs.Bool.{⊤}
use Rattle.std.specs.List.{Contains, fold, slice_index_or}
use Rattle.std.specs.Str.{bytes_eq}
use Rattle.std.proofs.lemmas.Bool.{and_parts, or_cases}
use Rattle.std.proofs.lemmas.List.{append-nil}
use Rattle.sw_hashpath.specs.declared.name.Name.{Name}
use Rattle.sw_machine.specs.Machine.{made_writes}
use Rattle.sw_object_steps.proofs.Hashes.{hash-same}
use Rattle.sw_object_steps.proofs.Recording.{same-key}
use Rattle.sw_object_steps.specs.Journals.{Hash}
use Rattle.sw_object_steps.specs.Recorded.{dropping_entries, found, is_gone, marking_entries, may_go, of_key}
use Rattle.sw_object_steps.specs.Rules.{Writes, at_once, obj_applied, obj_rules}
use Rattle.sw_object_steps.specs.Values.{ObjValue, is_same_key}
use Rattle.sw_object_steps.specs.declared.change.Change.TheVariants.{DropRecord, MarkRecord}
use Rattle.sw_object_steps.specs.declared.entry.ObjEntry.{ObjEntry}
use Rattle.sw_object_steps.specs.declared.entry.ObjEntry.TheVariants.{Dropped, Marked}
use Rattle.sw_pending.specs.Records.{key_of, marked}
use Rattle.sw_pending.specs.Rules.{are_done, is_done}
use Rattle.sw_pending.specs.declared.filed.Filed.{Filed}
use Rattle.sw_step.specs.Journals.{flat}
use Rattle.sw_listing_laws.proofs.Making.{IsFirst, IsMadeOf}
use Rattle.sw_listing_laws.proofs.Setting.{set_value}

-- ---- the record that a step finds

pub record IsFound (v : ObjValue) (hash : Hash) (filed stood : Filed) : Type 0 where
  pub hash_is : filed.name.hash ≡ hash
  pub key_is : key_of stood ≡ key_of filed
  pub stands : v.records (key_of filed) ≡ Some stood

pub found-is : (v : ObjValue) (hash : Hash) (filed stood : Filed) → found v hash filed ≡ Some stood → IsFound v hash filed stood
found-is v hash filed stood is = by (bytes_eq filed.name.hash hash) refl (v.records (key_of filed)) refl is
  where
    at : (other : Filed) (same : Bool) → is_same_key (key_of other) (key_of filed) ≡ same → filed.name.hash ≡ hash → v.records (key_of filed) ≡ Some other
        → (if same then Some other else None) ≡ Some stood → IsFound v hash filed stood
    at other true same here there got =
        let one : other ≡ stood = cc in record {
          hash_is = here;
          key_is = subst (λ (f : Filed). key_of f ≡ key_of filed) one (same-key (key_of other) (key_of filed) same);
          stands = there ∙ got;
        }
    at other false same here there got = cc

    by : (own : Bool) → bytes_eq filed.name.hash hash ≡ own → (o : Option Filed) → v.records (key_of filed) ≡ o
        → (if own then of_key (key_of filed) o else None) ≡ Some stood → IsFound v hash filed stood
    by true own None there got = cc
    by true own (Some other) there got =
        at other (is_same_key (key_of other) (key_of filed)) refl (hash-same filed.name.hash hash own) there got
    by false own o there got = cc

-- ---- what was made of a step at a record

-- all of it, or nothing
all-or-none : (es made : List ObjEntry) → (made ≡ es) ⊎ IsFirst (at_once es) made → (made ≡ es) ⊎ (made ≡ [])
all-or-none es made (inl all) = inl all
all-or-none [] made (inr part) = by part.first part.behind part.cut part.made_is
  where
    by : (first behind : List (List ObjEntry)) → [] ≡ first ++ behind → made ≡ flat first → (made ≡ []) ⊎ (made ≡ [])
    by [] behind cut is = inr is
    by (x ∷ first) behind cut is = cc
all-or-none (e ∷ es) made (inr part) = by part.first part.behind part.cut part.made_is
  where
    by : (first behind : List (List ObjEntry)) → (e ∷ es) ∷ [] ≡ first ++ behind → made ≡ flat first → (made ≡ e ∷ es) ⊎ (made ≡ [])
    by [] behind cut is = inr is
    by (x ∷ []) behind cut is =
        let one : x ≡ e ∷ es = cc in
        inl (is ∙ (append-nil x ∙ one))
    by (x ∷ y ∷ first) behind cut is = cc

module _ (v : ObjValue) (name : Name) (made : List ObjEntry) where
  -- nothing changed, or the record that stood was set to this
  pub record Sets (filed : Filed) (P : Filed → Type 0) (to : Filed → Option Filed) : Type 0 where
    pub stood : Filed
    pub is_found : IsFound v name.hash filed stood
    pub holds : P stood
    pub left : fold obj_applied v made ≡ set_value v (key_of stood) (to stood)

  abbrev pub MaySet : Filed → (Filed → Type 0) → (Filed → Option Filed) → Type 0
  MaySet filed P to = ((fold obj_applied v made ≡ v) ⊎ Sets filed P to) × (made_writes name made ≡ [])

  none-set : (filed : Filed) (P : Filed → Type 0) (to : Filed → Option Filed) → made ≡ [] → MaySet filed P to
  none-set filed P to none = (inl (ap (fold obj_applied v) none), ap (made_writes name) none)

  pub marking : (filed : Filed) (to : ℕ) → (made ≡ []) ⊎ IsMadeOf obj_rules v name.hash (Writes name (MarkRecord filed to)) made
      → MaySet filed (λ stood. ⊤) (λ stood. Some (marked stood to))
  marking filed to (inl none) = none-set filed (λ stood. ⊤) (λ stood. Some (marked stood to)) none
  marking filed to (inr some) = by (found v name.hash filed) refl (all-or-none (marking_entries name.hash (found v name.hash filed) to) made some.part)
    where
      Result : Type 0
      Result = MaySet filed (λ stood. ⊤) (λ stood. Some (marked stood to))

      at : (stood : Filed) (done : Bool) → found v name.hash filed ≡ Some stood
          → made ≡ (if done then [] else Marked name.hash (marked stood to) to ∷ []) → Result
      at stood true is all = none-set filed (λ stood. ⊤) (λ stood. Some (marked stood to)) all
      at stood false is all = (
        inr (record { stood = stood; is_found = found-is v name.hash filed stood is; holds = tt; left = ap (fold obj_applied v) all }),
        ap (made_writes name) all,
      )

      by : (o : Option Filed) → found v name.hash filed ≡ o → (made ≡ marking_entries name.hash o to) ⊎ (made ≡ []) → Result
      by o is (inr none) = none-set filed (λ stood. ⊤) (λ stood. Some (marked stood to)) none
      by None is (inl all) = none-set filed (λ stood. ⊤) (λ stood. Some (marked stood to)) all
      by (Some stood) is (inl all) = at stood (is_done to stood.done) is all

  -- it went: all these devices are marked, or nothing as late stands
  pub dropping : (filed : Filed) (all : List ℕ) → (made ≡ []) ⊎ IsMadeOf obj_rules v name.hash (Writes name (DropRecord filed all)) made
      → MaySet filed (λ stood. (are_done all stood.done ≡ true) ⊎ (is_gone v.state filed.time ≡ true)) (λ stood. None)
  dropping filed all (inl none) =
      none-set filed (λ stood. (are_done all stood.done ≡ true) ⊎ (is_gone v.state filed.time ≡ true)) (λ stood. None) none
  dropping filed all (inr some) =
      by (found v name.hash filed) refl
      (all-or-none (dropping_entries name.hash (found v name.hash filed) (may_go (found v name.hash filed) all (is_gone v.state filed.time))) made some.part)
    where
      Told : Filed → Type 0
      Told stood = (are_done all stood.done ≡ true) ⊎ (is_gone v.state filed.time ≡ true)

      Result : Type 0
      Result = MaySet filed Told (λ stood. None)

      at : (stood : Filed) (goes : Bool) → (are_done all stood.done || is_gone v.state filed.time) ≡ goes → found v name.hash filed ≡ Some stood
          → made ≡ (if goes then Dropped name.hash stood ∷ [] else []) → Result
      at stood true may is whole = (
        inr (record {
          stood = stood;
          is_found = found-is v name.hash filed stood is;
          holds = or_cases (are_done all stood.done) (is_gone v.state filed.time) may;
          left = ap (fold obj_applied v) whole;
        }),
        ap (made_writes name) whole,
      )
      at stood false may is whole = none-set filed Told (λ stood. None) whole

      by : (o : Option Filed) → found v name.hash filed ≡ o
          → (made ≡ dropping_entries name.hash o (may_go o all (is_gone v.state filed.time))) ⊎ (made ≡ []) → Result
      by o is (inr none) = none-set filed Told (λ stood. None) none
      by None is (inl whole) = none-set filed Told (λ stood. None) whole
      by (Some stood) is (inl whole) = at stood (are_done all stood.done || is_gone v.state filed.time) refl is whole

-- ---- devices that are done

-- each of these devices is
pub each-done : (devices done : List ℕ) → are_done devices done ≡ true → (r : ℕ) → Contains devices r → is_done r done ≡ true
each-done devices done all r there = by devices all there.0 there.1 there.2
  where
    by : (ds : List ℕ) → are_done ds done ≡ true → (k : ℕ) → k < length ds → slice_index_or ds k r ≡ r → is_done r done ≡ true
    by [] all k within is = absurd (let lt = within in omega arith)
    by (d ∷ ds) all zero within is =
        subst (λ (x : ℕ). is_done x done ≡ true) is (and_parts (is_done d done) (are_done ds done) all).0
    by (d ∷ ds) all (suc k) within is = by ds (and_parts (is_done d done) (are_done ds done) all).1 k (omega (arith, within)) is
