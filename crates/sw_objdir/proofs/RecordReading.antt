-- What a step at a record read, and what it makes of that by the rules.
use Rattle.std.proofs.Common.{◌≡◌, ℕ, Bool, true, false, ◌||◌, not, List, [], ◌∷◌, Option, None, Some, refl, sym, ◌∙◌, ap, subst, arith}
use Rattle.std.proofs.Common.{if◌then◌else◌}
use Rattle.std.specs.List.{All, list_any}
use Rattle.std.specs.Str.{bytes_eq}
use Rattle.std.proofs.Math.Bool.{or-false}
use Rattle.std.proofs.lemmas.Bool.{le-ltb}
use Rattle.std.proofs.lemmas.List.Elements.{recursion_from_All}
use Rattle.sw_hashpath.specs.declared.name.Name.{Name}
use Rattle.sw_journal.specs.Entries.{about_record}
use Rattle.sw_object_steps.proofs.Hashes.{hash-same}
use Rattle.sw_object_steps.proofs.Recording.{same-key, same-self}
use Rattle.sw_object_steps.proofs.Singles.{none-touched, singles}
use Rattle.sw_object_steps.specs.Journals.{Hash, written}
use Rattle.sw_object_steps.specs.Recorded.{asks_base, dropping_entries, found, is_gone, is_taken, is_there, lists, marking_entries, may_go, of_key}
use Rattle.sw_object_steps.specs.Recorded.{record_entries, step_files}
use Rattle.sw_object_steps.specs.Rules.{Writes, at_once, obj_changes, obj_entries, obj_made_answer, obj_refusal, obj_rules, obj_touches}
use Rattle.sw_object_steps.specs.Singles.{recorded}
use Rattle.sw_object_steps.specs.Values.{ObjValue, is_same_key, set_record}
use Rattle.sw_object_steps.specs.declared.answer.Answer.TheVariants as answers
use Rattle.sw_object_steps.specs.declared.change.Change.{Change}
use Rattle.sw_object_steps.specs.declared.change.Change.TheVariants.{MarkRecord, DropRecord}
use Rattle.sw_object_steps.specs.declared.entry.ObjEntry.{ObjEntry}
use Rattle.sw_objdir.proofs.RecordSettling.{not-recorded}
use Rattle.sw_objdir.specs.Directories.{IsPlain}
use Rattle.sw_objdir.specs.Recording.{asks_listing, entries_by, taken_by}
use Rattle.sw_pending.specs.Records.{key_of}
use Rattle.sw_pending.specs.Rules.{are_done}
use Rattle.sw_pending.specs.declared.filed.Filed.{Filed}
use Rattle.sw_pending.specs.declared.key.RecordKey.{RecordKey}
use Rattle.sw_state.specs.declared.base.Base.TheVariants as bases
use Rattle.sw_state.specs.declared.state.State.{State}
use Rattle.sw_step.specs.Rules.{NoneOf, doubts_about}

-- ---- the two kinds of steps

pub data Kind : Type 0 where
  Mark : (device : ℕ) → Kind
  Drop : (all : List ℕ) → Kind

abbrev pub step_at : Filed → Kind → Change
step_at filed (Mark device) = MarkRecord filed device
step_at filed (Drop all) = DropRecord filed all

-- nothing refuses them, and their entries and answers are those of a record
pub refuses-none : (x : ObjValue) (hash : Hash) (name : Name) (filed : Filed) (kind : Kind) → obj_refusal x hash (Writes name (step_at filed kind)) ≡ None
refuses-none x hash name filed (Mark device) = refl
refuses-none x hash name filed (Drop all) = refl

pub entries-are : (x : ObjValue) (hash : Hash) (name : Name) (filed : Filed) (kind : Kind)
    → obj_entries x hash (Writes name (step_at filed kind)) ≡ record_entries x hash (step_at filed kind)
entries-are x hash name filed (Mark device) = refl
entries-are x hash name filed (Drop all) = refl

pub changes-are : (x : ObjValue) (hash : Hash) (name : Name) (filed : Filed) (kind : Kind)
    → obj_changes x hash (Writes name (step_at filed kind)) ≡ at_once (record_entries x hash (step_at filed kind))
changes-are x hash name filed (Mark device) = refl
changes-are x hash name filed (Drop all) = refl

pub answers-are : (x : ObjValue) (hash : Hash) (name : Name) (filed : Filed) (kind : Kind) (front : ℕ)
    → obj_made_answer x hash (Writes name (step_at filed kind)) front ≡ answers.Took (is_taken x hash (step_at filed kind))
answers-are x hash name filed (Mark device) front = refl
answers-are x hash name filed (Drop all) front = refl

-- ---- by the record that was found

goes-same : (stood : Option Filed) (all : List ℕ) (g gone : Bool) → (asks_base stood all ≡ true → g ≡ gone) → may_go stood all g ≡ may_go stood all gone
goes-same None all g gone same = refl
goes-same (Some filed) all g gone same = by (are_done all filed.done) same
  where
    by : (b : Bool) → (not b ≡ true → g ≡ gone) → (b || g) ≡ (b || gone)
    by true so = refl
    by false so = so refl

module _ (x : ObjValue) (hash : Hash) (filed : Filed) (stood : Option Filed) (is : found x hash filed ≡ stood) where
  pub lists-by : (kind : Kind) → lists x hash (step_at filed kind) ≡ asks_listing (step_at filed kind) stood
  lists-by (Mark device) = refl
  lists-by (Drop all) = ap (λ (o : Option Filed). asks_base o all) is

  module _ (gone : Bool) where
    pub entries-by : (kind : Kind) → (asks_listing (step_at filed kind) stood ≡ true → is_gone x.state filed.time ≡ gone)
        → record_entries x hash (step_at filed kind) ≡ entries_by hash (step_at filed kind) stood gone
    entries-by (Mark device) told = ap (λ (o : Option Filed). marking_entries hash o device) is
    entries-by (Drop all) told =
        ap (λ (o : Option Filed). dropping_entries hash o (may_go o all (is_gone x.state filed.time))) is
        ∙ ap (dropping_entries hash stood) (goes-same stood all (is_gone x.state filed.time) gone told)

    pub taken-by : (kind : Kind) → (asks_listing (step_at filed kind) stood ≡ true → is_gone x.state filed.time ≡ gone)
        → is_taken x hash (step_at filed kind) ≡ taken_by (step_at filed kind) stood gone
    taken-by (Mark device) told = ap is_there is
    taken-by (Drop all) told =
        ap (λ (o : Option Filed). may_go o all (is_gone x.state filed.time)) is ∙ goes-same stood all (is_gone x.state filed.time) gone told

-- ---- no doubt is left that it touches

files-of : (hash : Hash) (name : Name) (filed : Filed) (kind : Kind)
    → step_files hash name (step_at filed kind) ≡ (if bytes_eq filed.name.hash hash then key_of filed ∷ [] else [])
files-of hash name filed (Mark device) = refl
files-of hash name filed (Drop all) = refl

among-own : (b : Bool) (key at : RecordKey) → list_any (λ other. is_same_key key other) (if b then at ∷ [] else []) ≡ true → (b ≡ true) × (at ≡ key)
among-own true key at is = (refl, sym (same-key key at (sym (or-false (is_same_key key at)) ∙ is)))
among-own false key at is = cc

pub none-touches : (x : ObjValue) (name : Name) (filed : Filed) (stood : Option Filed) (kind : Kind) (ds : List ObjEntry) → All IsPlain ds
    → found x name.hash filed ≡ stood → (asks_listing (step_at filed kind) stood ≡ true → written name.hash ds ≡ [])
    → (bytes_eq filed.name.hash name.hash ≡ true → about_record (key_of filed) ds ≡ [])
    → NoneOf (obj_touches x name.hash (Writes name (step_at filed kind))) (doubts_about obj_rules name.hash (singles ds))
none-touches x name filed stood kind ds plain is writes records =
    none-touched x name.hash name (step_at filed kind) ds
    (λ listing. writes (sym (lists-by x name.hash filed stood is kind) ∙ listing))
    (λ allowed key is_file.
    let own = among-own (bytes_eq filed.name.hash name.hash) key (key_of filed)
    (sym (ap (λ (keys : List RecordKey). list_any (λ other. is_same_key key other) keys) (files-of name.hash name filed kind)) ∙ is_file) in
    subst (λ (k : RecordKey). recorded name.hash k ds ≡ []) own.1
    (not-recorded (key_of filed) ds (recursion_from_All IsPlain ds plain) (records own.0) name.hash))

-- ---- a value that was read

-- a state beside which nothing as late stands, or something
abbrev state_as : Bool → ℕ → State
state_as true time = record { base = None; meta = None; meta_is_later = refl }
state_as false time = record { base = Some (bases.Del time); meta = None; meta_is_later = refl }

gone-as : (gone : Bool) (time : ℕ) → is_gone (state_as gone time) time ≡ gone
gone-as true time = refl
gone-as false time = le-ltb time time (omega arith)

-- a value in which the step finds this record, and nothing as late, or something
abbrev pub guessed : Filed → Option Filed → Bool → ObjValue
guessed filed stood gone = record { state = state_as gone filed.time; records = set_record (λ key. None) (key_of filed) stood }

-- the record is one that the step can find
pub record IsOwn (name : Name) (filed stood : Filed) : Type 0 where
  pub own : bytes_eq filed.name.hash name.hash ≡ true
  pub keyed : key_of stood ≡ key_of filed

pub own-hash : (name : Name) (filed stood : Filed) → IsOwn name filed stood → stood.name.hash ≡ name.hash
own-hash name filed stood is = ap (λ (k : RecordKey). k.hash) is.keyed ∙ hash-same filed.name.hash name.hash is.own

pub found-guessed : (name : Name) (filed : Filed) (stood : Option Filed) (gone : Bool) → ((s : Filed) → stood ≡ Some s → IsOwn name filed s)
    → found (guessed filed stood gone) name.hash filed ≡ stood
found-guessed name filed stood gone own = by stood own (bytes_eq filed.name.hash name.hash) refl
  where
    by : (o : Option Filed) → ((s : Filed) → o ≡ Some s → IsOwn name filed s) → (b : Bool) → bytes_eq filed.name.hash name.hash ≡ b
        → (if b then of_key (key_of filed) (set_record (λ key. None) (key_of filed) o (key_of filed)) else None) ≡ o
    by None are true is = rw (same-self (key_of filed)) refl
    by None are false is = refl
    by (Some s) are true is =
        let same : is_same_key (key_of s) (key_of filed) ≡ true =
        subst (λ (k : RecordKey). is_same_key k (key_of filed) ≡ true) (sym (are s refl).keyed) (same-self (key_of filed)) in
        rw (same-self (key_of filed)) (rw same refl)
    by (Some s) are false isnt = let own_so : bytes_eq filed.name.hash name.hash ≡ true = (are s refl).own in cc

pub gone-guessed : (filed : Filed) (stood : Option Filed) (gone : Bool) → is_gone (guessed filed stood gone).state filed.time ≡ gone
gone-guessed filed stood gone = gone-as gone filed.time
