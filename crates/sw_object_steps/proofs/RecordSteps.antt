-- The entries of a step at a record: of which hash they are, and which records they change.
use Rattle.std.proofs.Common.{◌≡◌, true, false, Bool, ◌||◌, ℕ, List, [], ◌∷◌, Option, Some, None, if◌then◌else◌, refl, sym, ◌∙◌, subst}
use Rattle.std.specs.List.{list_any}
use Rattle.std.proofs.Math.Bool.{or-false}
use Rattle.std.proofs.lemmas.Bool.{or_left}
use Rattle.sw_object_steps.proofs.Recording.{same-key}
use Rattle.sw_object_steps.specs.Journals.{Hash}
use Rattle.sw_object_steps.specs.Recorded.{doubts_record, doubts_write, dropping_entries, found, is_gone, marking_entries, may_go, of_key, record_entries}
use Rattle.sw_object_steps.specs.Rules.{obj_rules}
use Rattle.sw_object_steps.specs.Values.{ObjValue, is_same_key}
use Rattle.sw_object_steps.specs.declared.change.Change.{Change}
use Rattle.sw_object_steps.specs.declared.change.Change.TheVariants.{Put, Post, Delete, Receive, MarkRecord, DropRecord}
use Rattle.sw_object_steps.specs.declared.entry.ObjEntry.TheVariants.{Marked}
use Rattle.sw_pending.specs.Records.{key_of, marked}
use Rattle.sw_pending.specs.Rules.{is_done}
use Rattle.sw_pending.specs.declared.filed.Filed.{Filed}
use Rattle.sw_pending.specs.declared.key.RecordKey.{RecordKey}
use Rattle.sw_step.specs.Rules.{AllAt}

marking-own : (hash : Hash) (o : Option Filed) (device : ℕ) → AllAt obj_rules hash (marking_entries hash o device)
marking-own hash None device = tt
marking-own hash (Some stood) device = by (is_done device stood.done)
  where
    by : (b : Bool) → AllAt obj_rules hash (if b then [] else Marked hash (marked stood device) device ∷ [])
    by true = tt
    by false = (refl, tt)

dropping-own : (hash : Hash) (o : Option Filed) (goes : Bool) → AllAt obj_rules hash (dropping_entries hash o goes)
dropping-own hash None goes = tt
dropping-own hash (Some stood) true = (refl, tt)
dropping-own hash (Some stood) false = tt

pub record-own : (v : ObjValue) (hash : Hash) (change : Change) → AllAt obj_rules hash (record_entries v hash change)
record-own v hash (Put time content none_match) = tt
record-own v hash (Post time heads) = tt
record-own v hash (Delete time if_delete_at) = tt
record-own v hash (Receive write) = tt
record-own v hash (MarkRecord filed device) = marking-own hash (found v hash filed) device
record-own v hash (DropRecord filed all) =
    dropping-own hash (found v hash filed) (may_go (found v hash filed) all (is_gone v.state filed.time))

-- the record that a step finds is one of the keys whose files it reads
pub found-files : (b : Bool) (o : Option Filed) (filed stood : Filed) → (if b then of_key (key_of filed) o else None) ≡ Some stood
    → list_any (λ other. is_same_key (key_of stood) other) (if b then key_of filed ∷ [] else []) ≡ true
found-files false o filed stood is = cc
found-files true None filed stood is = cc
found-files true (Some other) filed stood is = by (is_same_key (key_of other) (key_of filed)) refl is
  where
    by : (b : Bool) → is_same_key (key_of other) (key_of filed) ≡ b → (if b then Some other else None) ≡ Some stood
        → (is_same_key (key_of stood) (key_of filed) || false) ≡ true
    by true same told =
        let one : other ≡ stood = cc in
        or_left (is_same_key (key_of stood) (key_of filed)) false (subst (λ (x : Filed). is_same_key (key_of x) (key_of filed) ≡ true) one same)
    by false other_key told = cc

-- so are the records that its entries change
module _ (hash : Hash) (keys : List RecordKey) where
  abbrev pub IsWithin : Option Filed → Type 0
  IsWithin o = (stood : Filed) → o ≡ Some stood → list_any (λ other. is_same_key (key_of stood) other) keys ≡ true

  one-within : (stood : Filed) → list_any (λ other. is_same_key (key_of stood) other) keys ≡ true → (key : RecordKey)
      → ((is_same_key key (key_of stood) || false) || false) ≡ true → list_any (λ other. is_same_key key other) keys ≡ true
  one-within stood within key is =
      let same : is_same_key key (key_of stood) ≡ true =
      sym (or-false (is_same_key key (key_of stood))) ∙ (sym (or-false (is_same_key key (key_of stood) || false)) ∙ is) in
      subst (λ (k : RecordKey). list_any (λ other. is_same_key k other) keys ≡ true) (sym (same-key key (key_of stood) same)) within

  pub marking-within : (o : Option Filed) (device : ℕ) → IsWithin o → (key : RecordKey) → doubts_record key (marking_entries hash o device) ≡ true
      → list_any (λ other. is_same_key key other) keys ≡ true
  marking-within None device within key is = cc
  marking-within (Some stood) device within key is = by (is_done device stood.done) is
    where
      by : (b : Bool) → doubts_record key (if b then [] else Marked hash (marked stood device) device ∷ []) ≡ true
          → list_any (λ other. is_same_key key other) keys ≡ true
      by true none = cc
      by false one = one-within stood (within stood refl) key one

  pub dropping-within : (o : Option Filed) (goes : Bool) → IsWithin o → (key : RecordKey) → doubts_record key (dropping_entries hash o goes) ≡ true
      → list_any (λ other. is_same_key key other) keys ≡ true
  dropping-within None goes within key is = cc
  dropping-within (Some stood) true within key is = one-within stood (within stood refl) key is
  dropping-within (Some stood) false within key is = cc

pub marking-writes : (hash : Hash) (o : Option Filed) (device : ℕ) → doubts_write (marking_entries hash o device) ≡ false
marking-writes hash None device = refl
marking-writes hash (Some stood) device = by (is_done device stood.done)
  where
    by : (b : Bool) → doubts_write (if b then [] else Marked hash (marked stood device) device ∷ []) ≡ false
    by true = refl
    by false = refl

pub dropping-writes : (hash : Hash) (o : Option Filed) (goes : Bool) → doubts_write (dropping_entries hash o goes) ≡ false
dropping-writes hash None goes = refl
dropping-writes hash (Some stood) true = refl
dropping-writes hash (Some stood) false = refl
