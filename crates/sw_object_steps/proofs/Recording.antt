-- What entries leave of a value: of its state, and of the record of each key.
use Rattle.std.proofs.Common.{◌≡◌, ◌==◌, true, false, bytes_eq, List, [], ◌∷◌, map, Option, Some, None, if◌then◌else◌, refl, sym, ◌∙◌, ap, subst, inl, inr}
use Rattle.std.specs.List.{fold, list_any}
use Rattle.std.proofs.lemmas.Bool.{and_from, and_parts, cases_Bool, eq-eqb, eqb-true, or_parts}
use Rattle.sw_object_steps.proofs.Hashes.{hash-same, hash-self}
use Rattle.sw_object_steps.specs.Recorded.{doubts_record, doubts_write, entry_files}
use Rattle.sw_object_steps.specs.Rules.{obj_applied}
use Rattle.sw_object_steps.specs.Values.{ObjValue, Records, is_same_key, with_record, with_records}
use Rattle.sw_object_steps.specs.declared.entry.ObjEntry.{ObjEntry}
use Rattle.sw_object_steps.specs.declared.entry.ObjEntry.TheVariants.{Dropped, Files, Marked, Wrote}
use Rattle.sw_pending.specs.Records.{key_of}
use Rattle.sw_pending.specs.declared.filed.Filed.{Filed}
use Rattle.sw_pending.specs.declared.key.RecordKey.{RecordKey}
use Rattle.sw_state.specs.States.{joined}
use Rattle.sw_state.specs.declared.state.State.{State}

-- ---- keys of records

pub same-key : (a b : RecordKey) → is_same_key a b ≡ true → a ≡ b
same-key a b is =
    let parts = and_parts (bytes_eq a.hash b.hash) (a.time == b.time) is in
    λ i. record { hash = hash-same a.hash b.hash parts.0 i; time = eqb-true a.time b.time parts.1 i }

pub same-self : (a : RecordKey) → is_same_key a a ≡ true
same-self a = and_from (bytes_eq a.hash a.hash) (a.time == a.time) (hash-self a.hash) (eq-eqb a.time a.time refl)

-- two that aren't the same aren't so either way
pub other-key : (a b : RecordKey) → is_same_key a b ≡ false → is_same_key b a ≡ false
other-key a b isnt = elim (cases_Bool (is_same_key b a)) [
  | inl is ↦ let same : is_same_key a b ≡ true = subst (λ (k : RecordKey). is_same_key a k ≡ true) (sym (same-key b a is)) (same-self a) in cc
  | inr also ↦ also
]

-- ---- the two parts of a value

-- what an entry leaves of the state
abbrev pub state_by : State → ObjEntry → State
state_by s (Wrote name w records) = joined s w
state_by s (Files by filed) = s
state_by s (Marked by filed device) = s
state_by s (Dropped by filed) = s

-- what is filed for a key once this record is filed
abbrev pub file_at : RecordKey → Option Filed → Filed → Option Filed
file_at key o filed = if is_same_key (key_of filed) key then Some filed else o

-- what an entry leaves of the record of a key
abbrev pub record_by : RecordKey → Option Filed → ObjEntry → Option Filed
record_by key o (Wrote name w records) = fold (file_at key) o records
record_by key o (Files by filed) = file_at key o filed
record_by key o (Marked by filed device) = file_at key o filed
record_by key o (Dropped by filed) = if is_same_key (key_of filed) key then None else o

applied-state : (v : ObjValue) (e : ObjEntry) → (obj_applied v e).state ≡ state_by v.state e
applied-state v (Wrote name w records) = refl
applied-state v (Files by filed) = refl
applied-state v (Marked by filed device) = refl
applied-state v (Dropped by filed) = refl

with-records-at : (records : Records) (more : List Filed) (key : RecordKey) → with_records records more key ≡ fold (file_at key) (records key) more
with-records-at records [] key = refl
with-records-at records (filed ∷ more) key = with-records-at (with_record records filed) more key

applied-record : (v : ObjValue) (e : ObjEntry) (key : RecordKey) → (obj_applied v e).records key ≡ record_by key (v.records key) e
applied-record v (Wrote name w records) key = with-records-at v.records records key
applied-record v (Files by filed) key = refl
applied-record v (Marked by filed device) key = refl
applied-record v (Dropped by filed) key = refl

-- entries act on the state alone by their writes
pub state-left : (v : ObjValue) (es : List ObjEntry) → (fold obj_applied v es).state ≡ fold state_by v.state es
state-left v [] = refl
state-left v (e ∷ es) = state-left (obj_applied v e) es ∙ ap (λ (s : State). fold state_by s es) (applied-state v e)

-- and on the record of each key by themselves
pub record-left : (v : ObjValue) (es : List ObjEntry) (key : RecordKey) → (fold obj_applied v es).records key ≡ fold (record_by key) (v.records key) es
record-left v [] key = refl
record-left v (e ∷ es) key = record-left (obj_applied v e) es key ∙ ap (λ (o : Option Filed). fold (record_by key) o es) (applied-record v e key)

-- two values with one state, and one record for each key, are one
pub same-value : (v w : ObjValue) → v.state ≡ w.state → ((key : RecordKey) → v.records key ≡ w.records key) → v ≡ w
same-value v w state records = λ i. record { state = state i; records = λ key. records key i }

-- ---- what entries leave as it is

-- those that don't change the record of a key
kept-filings : (key : RecordKey) (o : Option Filed) (records : List Filed)
    → list_any (λ other. is_same_key key other) (map key_of records) ≡ false → fold (file_at key) o records ≡ o
kept-filings key o [] none = refl
kept-filings key o (filed ∷ more) none =
    let parts = or_parts (is_same_key key (key_of filed)) (list_any (λ other. is_same_key key other) (map key_of more)) none in
    let other : is_same_key (key_of filed) key ≡ false = other-key key (key_of filed) parts.0 in
    rw other (kept-filings key o more parts.1)

kept-by : (key : RecordKey) (o : Option Filed) (e : ObjEntry) → list_any (λ other. is_same_key key other) (entry_files e) ≡ false → record_by key o e ≡ o
kept-by key o (Wrote name w records) none = kept-filings key o records none
kept-by key o (Files by filed) none = let other : is_same_key (key_of filed) key ≡ false =
    other-key key (key_of filed) (or_parts (is_same_key key (key_of filed)) false none).0 in rw other refl
kept-by key o (Marked by filed device) none = let other : is_same_key (key_of filed) key ≡ false =
    other-key key (key_of filed) (or_parts (is_same_key key (key_of filed)) false none).0 in rw other refl
kept-by key o (Dropped by filed) none = let other : is_same_key (key_of filed) key ≡ false =
    other-key key (key_of filed) (or_parts (is_same_key key (key_of filed)) false none).0 in rw other refl

pub record-kept : (key : RecordKey) (es : List ObjEntry) → doubts_record key es ≡ false → (o : Option Filed) → fold (record_by key) o es ≡ o
record-kept key [] none o = refl
record-kept key (e ∷ es) none o =
    let parts = or_parts (list_any (λ other. is_same_key key other) (entry_files e)) (doubts_record key es) none in
    ap (λ (p : Option Filed). fold (record_by key) p es) (kept-by key o e parts.0) ∙ record-kept key es parts.1 o

-- those without a write
pub state-kept : (es : List ObjEntry) → doubts_write es ≡ false → (s : State) → fold state_by s es ≡ s
state-kept [] none s = refl
state-kept (Wrote name w records ∷ es) none s = cc
state-kept (Files by filed ∷ es) none s = state-kept es none s
state-kept (Marked by filed device ∷ es) none s = state-kept es none s
state-kept (Dropped by filed ∷ es) none s = state-kept es none s
