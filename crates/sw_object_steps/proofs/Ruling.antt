-- The rules of objects are rules.
use Rattle.std.proofs.Common.{◌≡◌, true, false, Bool, ◌&&◌, ◌||◌, List, [], ◌∷◌, ◌++◌, map, Option, None, Some, if◌then◌else◌, refl, sym, ◌∙◌, ap, subst}
use Rattle.std.specs.List.{fold, list_any}
use Rattle.std.specs.Str.{bytes_eq}
use Rattle.std.proofs.Math.Bool.{or-false}
use Rattle.std.proofs.lemmas.Bool.{or_left, or_parts}
use Rattle.std.proofs.lemmas.List.{append-nil}
use Rattle.sw_hashpath.specs.declared.name.Name.{Name}
use Rattle.sw_object_steps.proofs.Apart.{AreApart, apart-swap, flat-append, front-apart, none-apart, untouched}
use Rattle.sw_object_steps.proofs.Hashes.{hash-same, hash-self}
use Rattle.sw_object_steps.proofs.RecordSteps.{dropping-within, dropping-writes, found-files, marking-within, marking-writes, record-own}
use Rattle.sw_object_steps.specs.Journals.{Hash}
use Rattle.sw_object_steps.specs.Laws.{ObjectsAreRules}
use Rattle.sw_object_steps.specs.Recorded.{doubts_record, doubts_write, dropping_entries, filings, found, is_gone, is_write, lists, marking_entries, may_go}
use Rattle.sw_object_steps.specs.Recorded.{record_entries, records_for, step_files}
use Rattle.sw_object_steps.specs.Rules.{ObjChange, Writes, at_once, obj_applied, obj_key, obj_rules, touched_files}
use Rattle.sw_object_steps.specs.Steps.{refusal_of, write_of}
use Rattle.sw_object_steps.specs.Values.{ObjValue, is_same_key}
use Rattle.sw_object_steps.specs.declared.answer.Answer.{Answer}
use Rattle.sw_object_steps.specs.declared.change.Change.{Change}
use Rattle.sw_object_steps.specs.declared.change.Change.TheVariants.{Put, Post, Delete, Receive, MarkRecord, DropRecord}
use Rattle.sw_object_steps.specs.declared.entry.ObjEntry.{ObjEntry}
use Rattle.sw_object_steps.specs.declared.entry.ObjEntry.TheVariants.{Wrote}
use Rattle.sw_pending.specs.Records.{key_of}
use Rattle.sw_pending.specs.declared.filed.Filed.{Filed}
use Rattle.sw_pending.specs.declared.key.RecordKey.{RecordKey}
use Rattle.sw_state.specs.declared.write.Write.{Write}
use Rattle.sw_step.specs.Journals.{flat}
use Rattle.sw_step.specs.Rules.{AllAt, AreOf, is_about}

never : true ≡ false → ⊥
never is = cc

-- ---- a doubt that a step doesn't touch is apart from its entries

apart-from : (es d : List ObjEntry) (keys : List RecordKey) → (doubts_write es ≡ true → doubts_write d ≡ false)
    → ((key : RecordKey) → doubts_record key es ≡ true → list_any (λ other. is_same_key key other) keys ≡ true)
    → list_any (λ other. doubts_record other d) keys ≡ false → AreApart es d
apart-from es d keys writes within none = record { writes = writes; records = λ key is. untouched d keys key none (within key is) }

record-apart : (v : ObjValue) (hash : Hash) (name : Name) (change : Change) (d : List ObjEntry)
    → list_any (λ key. doubts_record key d) (step_files hash name change) ≡ false → AreApart (record_entries v hash change) d
record-apart v hash name (Put time content none_match) d none = none-apart d
record-apart v hash name (Post time heads) d none = none-apart d
record-apart v hash name (Delete time if_delete_at) d none = none-apart d
record-apart v hash name (Receive write) d none = none-apart d
record-apart v hash name (MarkRecord filed device) d none =
    apart-from (marking_entries hash (found v hash filed) device) d (step_files hash name (MarkRecord filed device))
    (λ is. absurd (never (sym is ∙ marking-writes hash (found v hash filed) device)))
    (marking-within hash (step_files hash name (MarkRecord filed device)) (found v hash filed) device
    (λ stood is. found-files (bytes_eq filed.name.hash hash) (v.records (key_of filed)) filed stood is))
    none
record-apart v hash name (DropRecord filed all) d none =
    let goes : Bool = may_go (found v hash filed) all (is_gone v.state filed.time) in
    apart-from (dropping_entries hash (found v hash filed) goes) d (step_files hash name (DropRecord filed all))
    (λ is. absurd (never (sym is ∙ dropping-writes hash (found v hash filed) goes)))
    (dropping-within hash (step_files hash name (DropRecord filed all)) (found v hash filed) goes
    (λ stood is. found-files (bytes_eq filed.name.hash hash) (v.records (key_of filed)) filed stood is))
    none

-- the changes of a write, with its records before it
abbrev write_changes : Name → Write → List Filed → List (List ObjEntry)
write_changes name w records = filings name.hash records ++ (Wrote name w [] ∷ []) ∷ []

changes-within : (name : Name) (w : Write) (records : List Filed) (key : RecordKey)
    → doubts_record key (flat (write_changes name w records)) ≡ list_any (λ other. is_same_key key other) (map key_of records)
changes-within name w [] key = refl
changes-within name w (filed ∷ more) key =
    ap (λ (b : Bool). b || doubts_record key (flat (write_changes name w more))) (or-false (is_same_key key (key_of filed)))
    ∙ ap (λ (b : Bool). is_same_key key (key_of filed) || b) (changes-within name w more key)

module _ (name : Name) (w : Write) (records : List Filed) (d : List ObjEntry) (write : doubts_write d ≡ false)
    (none : list_any (λ key. doubts_record key d) (map key_of records) ≡ false) where
  write-apart : AreApart (Wrote name w records ∷ []) d
  write-apart = apart-from (Wrote name w records ∷ []) d (map key_of records) (λ is. write)
      (λ key is. sym (or-false (list_any (λ other. is_same_key key other) (map key_of records))) ∙ is) none

  changes-apart : AreApart (flat (write_changes name w records)) d
  changes-apart = apart-from (flat (write_changes name w records)) d (map key_of records) (λ is. write)
      (λ key is. sym (changes-within name w records key) ∙ is) none

-- a step that nothing refuses comes to all its files
all-files : (refused : Option Answer) (hash : Hash) (name : Name) (change : Change) → refused ≡ None
    → touched_files refused hash name change ≡ step_files hash name change
all-files None hash name change allowed = refl
all-files (Some answer) hash name change allowed = cc

allowed-touch : (v : ObjValue) (hash : Hash) (name : Name) (change : Change) (d : List ObjEntry) → refusal_of v.state change ≡ None
    → obj_rules.touches v hash (Writes name change) d
    ≡ ((lists v hash change && doubts_write d) || list_any (λ key. doubts_record key d) (step_files hash name change))
allowed-touch v hash name change d allowed =
    ap (λ (keys : List RecordKey). (lists v hash change && doubts_write d) || list_any (λ key. doubts_record key d) keys)
    (all-files (refusal_of v.state change) hash name change allowed)

-- a write lists, and files its records
writes-touch : (v : ObjValue) (hash : Hash) (name : Name) (change : Change) (d : List ObjEntry) → is_write change ≡ true
    → ((lists v hash change && doubts_write d) || list_any (λ key. doubts_record key d) (step_files hash name change))
    ≡ (doubts_write d || list_any (λ key. doubts_record key d) (map key_of (records_for name change)))
writes-touch v hash name (Put time content none_match) d is = refl
writes-touch v hash name (Post time heads) d is = refl
writes-touch v hash name (Delete time if_delete_at) d is = refl
writes-touch v hash name (Receive write) d is = refl
writes-touch v hash name (MarkRecord filed device) d is = cc
writes-touch v hash name (DropRecord filed all) d is = cc

flat-once : (es : List ObjEntry) → flat (at_once es) ≡ es
flat-once [] = refl
flat-once (e ∷ es) = append-nil (e ∷ es)

module _ (v : ObjValue) (key : Hash) (name : Name) (change : Change) (d : List ObjEntry) (allowed : refusal_of v.state change ≡ None)
    (untouched : obj_rules.touches v key (Writes name change) d ≡ false) where
  none : ((lists v key change && doubts_write d) || list_any (λ other. doubts_record other d) (step_files key name change)) ≡ false
  none = sym (allowed-touch v key name change d allowed) ∙ untouched

  at-record : AreApart (record_entries v key change) d
  at-record = record-apart v key name change d
      (or_parts (lists v key change && doubts_write d) (list_any (λ other. doubts_record other d) (step_files key name change)) none).1

  at-write : is_write change ≡ true
      → (doubts_write d ≡ false) × (list_any (λ other. doubts_record other d) (map key_of (records_for name change)) ≡ false)
  at-write is = or_parts (doubts_write d) (list_any (λ other. doubts_record other d) (map key_of (records_for name change)))
      (sym (writes-touch v key name change d is) ∙ none)

  entries-apart : AreApart (obj_rules.entries_for v key (Writes name change)) d
  entries-apart = by (is_write change) refl
    where
      by : (b : Bool) → is_write change ≡ b
          → AreApart (if b then Wrote name (write_of change) (records_for name change) ∷ [] else record_entries v key change) d
      by true is = write-apart name (write_of change) (records_for name change) d (at-write is).0 (at-write is).1
      by false is = at-record

  all-apart : AreApart (flat (obj_rules.changes_for v key (Writes name change))) d
  all-apart = by (is_write change) refl
    where
      by : (b : Bool) → is_write change ≡ b
          → AreApart (flat (if b then write_changes name (write_of change) (records_for name change) else at_once (record_entries v key change))) d
      by true is = changes-apart name (write_of change) (records_for name change) d (at-write is).0 (at-write is).1
      by false is = subst (λ (es : List ObjEntry). AreApart es d) (sym (flat-once (record_entries v key change))) at-record

-- ---- the rules

changes-own : (key : Hash) (name : Name) (w : Write) (records : List Filed) → bytes_eq name.hash key ≡ true → AreOf obj_rules key (write_changes name w records)
changes-own key name w [] is = (record { is = rw is refl; all = (hash-same name.hash key is, tt) }, tt)
changes-own key name w (filed ∷ more) is = (record { is = rw is refl; all = (hash-same name.hash key is, tt) }, changes-own key name w more is)

once-own : (key : Hash) (es : List ObjEntry) → AllAt obj_rules key es → AreOf obj_rules key (at_once es)
once-own key [] all = tt
once-own key (e ∷ es) all = (
  record {
    is = or_left (bytes_eq (obj_key e) key) (is_about obj_rules key es) (subst (λ (k : Hash). bytes_eq k key ≡ true) (sym all.0) (hash-self key));
    all = all;
  },
  tt,
)

pub are-rules : ObjectsAreRules
are-rules = record {
  keys = hash-same;
  itself = hash-self;
  reached = hash-self;
  own = own;
  own_changes = own_changes;
  apart = apart;
  apart_first = apart_first;
}
  where
    own : (v : ObjValue) (key : Hash) (change : ObjChange) → obj_rules.is_for key change ≡ true → AllAt obj_rules key (obj_rules.entries_for v key change)
    own v key (Writes name change) is = by (is_write change)
      where
        by : (b : Bool) → AllAt obj_rules key (if b then Wrote name (write_of change) (records_for name change) ∷ [] else record_entries v key change)
        by true = (hash-same name.hash key is, tt)
        by false = record-own v key change

    own_changes : (v : ObjValue) (key : Hash) (change : ObjChange) → obj_rules.is_for key change ≡ true
        → AreOf obj_rules key (obj_rules.changes_for v key change)
    own_changes v key (Writes name change) is = by (is_write change)
      where
        by : (b : Bool)
            → AreOf obj_rules key (if b then write_changes name (write_of change) (records_for name change) else at_once (record_entries v key change))
        by true = changes-own key name (write_of change) (records_for name change) is
        by false = once-own key (record_entries v key change) (record-own v key change)

    apart : (v w : ObjValue) (key : Hash) (change : ObjChange) (d : List ObjEntry) → obj_rules.refusal v key change ≡ None
        → obj_rules.touches v key change d ≡ false
        → fold obj_applied (fold obj_applied w d) (obj_rules.entries_for v key change)
        ≡ fold obj_applied (fold obj_applied w (obj_rules.entries_for v key change)) d
    apart v w key (Writes name change) d allowed none =
        apart-swap (obj_rules.entries_for v key (Writes name change)) d (entries-apart v key name change d allowed none) w

    apart_first : (v w : ObjValue) (key : Hash) (change : ObjChange) (d : List ObjEntry) (first behind : List (List ObjEntry))
        → obj_rules.refusal v key change ≡ None → obj_rules.touches v key change d ≡ false → obj_rules.changes_for v key change ≡ first ++ behind
        → fold obj_applied (fold obj_applied w d) (flat first) ≡ fold obj_applied (fold obj_applied w (flat first)) d
    apart_first v w key (Writes name change) d first behind allowed none cut = apart-swap (flat first) d
        (front-apart (flat first) (flat behind) d (subst (λ (es : List ObjEntry). AreApart es d) (ap flat cut ∙ flat-append first behind)
        (all-apart v key name change d allowed none))) w
