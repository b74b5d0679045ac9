-- A history whose doubts are each one entry, by the rules.
use Rattle.std.proofs.Common.{◌≡◌, true, false, Bool, List, [], ◌∷◌, ◌++◌, bytes_eq, Option, None, refl, sym, ◌∙◌, ap, append_assoc, inl, inr, ◌⊎◌, map}
use Rattle.std.specs.List.{filter, fold, list_any}
use Rattle.std.proofs.lemmas.Bool.{cases_Bool}
use Rattle.std.proofs.lemmas.List.{append-nil}
use Rattle.sw_hashpath.specs.declared.name.Name.{Name}
use Rattle.sw_object_steps.proofs.Hashes.{left}
use Rattle.sw_object_steps.proofs.Recording.{record_by, record-kept, record-left, same-value}
use Rattle.sw_object_steps.proofs.Telling.{either-record, either-state, none-passes, none-to-touch, tells-record, tells-state}
use Rattle.sw_object_steps.specs.Journals.{Hash, Journal, has_room, written}
use Rattle.sw_object_steps.specs.Recorded.{doubts_record, doubts_write, is_wrote, lists, step_files}
use Rattle.sw_object_steps.specs.Rules.{Writes, flat_journal, obj_applied, obj_key, obj_rules}
use Rattle.sw_object_steps.specs.Singles.{History, recorded, single_history, single_journal, stands}
use Rattle.sw_object_steps.specs.Steps.{refusal_of}
use Rattle.sw_object_steps.specs.Values.{ObjValue, is_same_key}
use Rattle.sw_object_steps.specs.declared.change.Change.{Change}
use Rattle.sw_object_steps.specs.declared.entry.ObjEntry.{ObjEntry}
use Rattle.sw_object_steps.specs.declared.entry.ObjEntry.TheVariants.{Dropped, Files, Marked, Wrote}
use Rattle.sw_pending.specs.declared.filed.Filed.{Filed}
use Rattle.sw_pending.specs.declared.key.RecordKey.{RecordKey}
use Rattle.sw_state.proofs.StateLaws.{joins_one_more, state_of-writes_of}
use Rattle.sw_state.specs.States.{joined, state_of, writes_of}
use Rattle.sw_state.specs.declared.state.State.{State}
use Rattle.sw_state.specs.declared.write.Write.{Write}
use Rattle.sw_step.proofs.Settled.{can-tell}
use Rattle.sw_step.specs.Journals.{flat}
use Rattle.sw_step.specs.Rules.{CanStand, NoneOf, about, doubts_about}

-- ---- what entries tell of a hash

joins-all : (xs ws : List Write) → fold joined (state_of xs) ws ≡ state_of (xs ++ ws)
joins-all xs [] = ap state_of (sym (append-nil xs))
joins-all xs (w ∷ ws) =
    ap (λ (s : State). fold joined s ws) (joins_one_more xs w) ∙ (joins-all (xs ++ w ∷ []) ws ∙ ap state_of (append_assoc xs (w ∷ []) ws))

joins-from : (s : State) (ws : List Write) → fold joined s ws ≡ state_of (writes_of s ++ ws)
joins-from s ws = ap (λ (x : State). fold joined x ws) (sym (state_of-writes_of s)) ∙ joins-all (writes_of s) ws

-- of its state its writes tell
pub about-state : (v : ObjValue) (hash : Hash) (es : List ObjEntry)
    → (fold obj_applied v (about obj_rules hash es)).state ≡ fold joined v.state (written hash es)
about-state v hash [] = refl
about-state v hash (Wrote name w records ∷ es) = elim (cases_Bool (bytes_eq name.hash hash)) [
  | inl is ↦ rw is (about-state (obj_applied v (Wrote name w records)) hash es)
  | inr isnt ↦ rw isnt (about-state v hash es)
]
about-state v hash (Files by filed ∷ es) = elim (cases_Bool (bytes_eq by hash)) [
  | inl is ↦ rw is (about-state (obj_applied v (Files by filed)) hash es)
  | inr isnt ↦ rw isnt (about-state v hash es)
]
about-state v hash (Marked by filed device ∷ es) = elim (cases_Bool (bytes_eq by hash)) [
  | inl is ↦ rw is (about-state (obj_applied v (Marked by filed device)) hash es)
  | inr isnt ↦ rw isnt (about-state v hash es)
]
about-state v hash (Dropped by filed ∷ es) = elim (cases_Bool (bytes_eq by hash)) [
  | inl is ↦ rw is (about-state (obj_applied v (Dropped by filed)) hash es)
  | inr isnt ↦ rw isnt (about-state v hash es)
]

pub stands-state : (h : History) (hash : Hash) → (stands h hash).state ≡ fold joined (h.opening hash).state (written hash h.journal.entries)
stands-state h hash = about-state (h.opening hash) hash h.journal.entries

pub stands-left : (h : History) (hash : Hash) → (stands h hash).state ≡ left (h.opening hash).state hash h.journal.entries
stands-left h hash = stands-state h hash ∙ joins-from (h.opening hash).state (written hash h.journal.entries)

-- of the record of a key those that change it
only-changes : (key : RecordKey) (o : Option Filed) (es : List ObjEntry)
    → fold (record_by key) o es ≡ fold (record_by key) o (filter (λ e. doubts_record key (e ∷ [])) es)
only-changes key o [] = refl
only-changes key o (e ∷ es) = elim (cases_Bool (doubts_record key (e ∷ []))) [
  | inl is ↦ rw is (only-changes key (record_by key o e) es)
  | inr isnt ↦ rw isnt (ap (λ (p : Option Filed). fold (record_by key) p es) (record-kept key (e ∷ []) isnt o) ∙ only-changes key o es)
]

pub stands-record : (h : History) (hash : Hash) (key : RecordKey)
    → (stands h hash).records key ≡ fold (record_by key) ((h.opening hash).records key) (recorded hash key h.journal.entries)
stands-record h hash key =
    record-left (h.opening hash) (about obj_rules hash h.journal.entries) key
    ∙ only-changes key ((h.opening hash).records key) (about obj_rules hash h.journal.entries)

-- ---- the doubts of a hash

abbrev pub singles : List ObjEntry → List (List ObjEntry)
singles ds = map (λ entry. entry ∷ []) ds

pub doubts-singles : (hash : Hash) (ds : List ObjEntry) → doubts_about obj_rules hash (singles ds) ≡ singles (about obj_rules hash ds)
doubts-singles hash [] = refl
doubts-singles hash (e ∷ ds) = elim (cases_Bool (bytes_eq (obj_key e) hash)) [
  | inl is ↦ rw is (ap (λ (xs : List (List ObjEntry)). (e ∷ []) ∷ xs) (doubts-singles hash ds))
  | inr isnt ↦ rw isnt (doubts-singles hash ds)
]

filter-singles : (test : List ObjEntry → Bool) (es : List ObjEntry) → filter test (singles es) ≡ singles (filter (λ e. test (e ∷ [])) es)
filter-singles test [] = refl
filter-singles test (e ∷ es) = elim (cases_Bool (test (e ∷ []))) [
  | inl is ↦ rw is (ap (λ (xs : List (List ObjEntry)). (e ∷ []) ∷ xs) (filter-singles test es))
  | inr isnt ↦ rw isnt (filter-singles test es)
]

pub doubts-recorded : (hash : Hash) (key : RecordKey) (ds : List ObjEntry)
    → filter (doubts_record key) (doubts_about obj_rules hash (singles ds)) ≡ singles (recorded hash key ds)
doubts-recorded hash key ds =
    ap (λ (xs : List (List ObjEntry)). filter (doubts_record key) xs) (doubts-singles hash ds)
    ∙ filter-singles (doubts_record key) (about obj_rules hash ds)

-- the writes among its doubts
other-doubt : (hash : Hash) (e : ObjEntry) (ds : List ObjEntry) → is_wrote e ≡ false
    → filter doubts_write (doubts_about obj_rules hash (singles (e ∷ ds))) ≡ filter doubts_write (doubts_about obj_rules hash (singles ds))
other-doubt hash e ds none = elim (cases_Bool (bytes_eq (obj_key e) hash)) [
  | inl is ↦ rw (is, none) refl
  | inr isnt ↦ rw isnt refl
]

pub doubts-none : (hash : Hash) (ds : List ObjEntry) → written hash ds ≡ [] → filter doubts_write (doubts_about obj_rules hash (singles ds)) ≡ []
doubts-none hash [] none = refl
doubts-none hash (Wrote name w records ∷ ds) none = elim (cases_Bool (bytes_eq name.hash hash)) [
  | inl is ↦ let no : w ∷ written hash ds ≡ [] = rw is at none in cc
  | inr isnt ↦ rw isnt (doubts-none hash ds (rw isnt at none))
]
doubts-none hash (Files by filed ∷ ds) none = other-doubt hash (Files by filed) ds refl ∙ doubts-none hash ds none
doubts-none hash (Marked by filed device ∷ ds) none = other-doubt hash (Marked by filed device) ds refl ∙ doubts-none hash ds none
doubts-none hash (Dropped by filed ∷ ds) none = other-doubt hash (Dropped by filed) ds refl ∙ doubts-none hash ds none

-- one write of the hash is in doubt, with some records
abbrev DoubtsOne : Hash → List ObjEntry → Write → Type 0
DoubtsOne hash ds w =
    (name : Name) × (records : List Filed) × (filter doubts_write (doubts_about obj_rules hash (singles ds)) ≡ (Wrote name w records ∷ []) ∷ [])

doubts-one : (hash : Hash) (ds : List ObjEntry) (w : Write) → written hash ds ≡ w ∷ [] → DoubtsOne hash ds w
doubts-one hash [] w one = cc
doubts-one hash (Wrote name v records ∷ ds) w one = elim (cases_Bool (bytes_eq name.hash hash)) [
  | inl is ↦
      let both : v ∷ written hash ds ≡ w ∷ [] = rw is at one in
      let same : v ≡ w = cc in
      let none : written hash ds ≡ [] = cc in (
        name,
        records,
        rw is (ap (λ (xs : List (List ObjEntry)). (Wrote name v records ∷ []) ∷ xs) (doubts-none hash ds none)
            ∙ ap (λ (x : Write). (Wrote name x records ∷ []) ∷ []) same),
      )
  | inr isnt ↦ let rest = doubts-one hash ds w (rw isnt at one) in (rest.0, rest.1, rw isnt rest.2)
]
doubts-one hash (Files by filed ∷ ds) w one = let rest = doubts-one hash ds w one in (rest.0, rest.1, other-doubt hash (Files by filed) ds refl ∙ rest.2)
doubts-one hash (Marked by filed device ∷ ds) w one =
    let rest = doubts-one hash ds w one in (rest.0, rest.1, other-doubt hash (Marked by filed device) ds refl ∙ rest.2)
doubts-one hash (Dropped by filed ∷ ds) w one = let rest = doubts-one hash ds w one in (rest.0, rest.1, other-doubt hash (Dropped by filed) ds refl ∙ rest.2)

pub none-written : (hash : Hash) (ds : List ObjEntry) → written hash ds ≡ [] → NoneOf doubts_write (doubts_about obj_rules hash (singles ds))
none-written hash ds none = none-passes doubts_write (doubts_about obj_rules hash (singles ds)) (doubts-none hash ds none)

pub none-recorded : (hash : Hash) (key : RecordKey) (ds : List ObjEntry) → recorded hash key ds ≡ []
    → NoneOf (doubts_record key) (doubts_about obj_rules hash (singles ds))
none-recorded hash key ds none =
    none-passes (doubts_record key) (doubts_about obj_rules hash (singles ds)) (doubts-recorded hash key ds ∙ ap singles none)

-- no doubt of the hash is left that the step touches
pub none-touched : (v : ObjValue) (hash : Hash) (name : Name) (change : Change) (ds : List ObjEntry) → (lists v hash change ≡ true → written hash ds ≡ [])
    → (refusal_of v.state change ≡ None → (key : RecordKey) → list_any (λ other. is_same_key key other) (step_files hash name change) ≡ true
    → recorded hash key ds ≡ [])
    → NoneOf (obj_rules.touches v hash (Writes name change)) (doubts_about obj_rules hash (singles ds))
none-touched v hash name change ds writes records =
    none-to-touch v hash name change (doubts_about obj_rules hash (singles ds)) (λ is. none-written hash ds (writes is))
    (λ allowed key is. none-recorded hash key ds (records allowed key is))

-- ---- what a hash may stand for

-- what its entries tell, whatever is in doubt
pub stands-told : (h : History) (hash : Hash) → CanStand obj_rules (single_history h) hash (stands h hash)
stands-told h hash = can-tell obj_rules (single_history h) hash

module _ (h : History) (hash : Hash) (v : ObjValue) (can : CanStand obj_rules (single_history h) hash v) where
  -- where no write of it is in doubt
  pub told-state : written hash h.journal.doubts ≡ [] → v.state ≡ (stands h hash).state
  told-state none = tells-state (single_history h) hash v can (none-written hash h.journal.doubts none)

  -- where one write is: that, or that with the write
  pub doubted-state : (w : Write) → written hash h.journal.doubts ≡ w ∷ []
      → (v.state ≡ (stands h hash).state) ⊎ (v.state ≡ joined (stands h hash).state w)
  doubted-state w one =
      let found : DoubtsOne hash h.journal.doubts w = doubts-one hash h.journal.doubts w one in
      either-state (single_history h) hash v can (Wrote found.0 w found.1 ∷ []) found.2

  -- where no change of this record is in doubt
  pub told-record : (key : RecordKey) → recorded hash key h.journal.doubts ≡ [] → v.records key ≡ (stands h hash).records key
  told-record key none = tells-record (single_history h) hash v can key (none-recorded hash key h.journal.doubts none)

  -- where one is: that, or what it leaves
  pub doubted-record : (key : RecordKey) (e : ObjEntry) → recorded hash key h.journal.doubts ≡ e ∷ []
      → (v.records key ≡ (stands h hash).records key) ⊎ (v.records key ≡ record_by key ((stands h hash).records key) e)
  doubted-record key e one = either-record (single_history h) hash v can key (e ∷ []) (doubts-recorded hash key h.journal.doubts ∙ ap singles one)

  -- where nothing of it is
  pub told-value : written hash h.journal.doubts ≡ [] → ((key : RecordKey) → recorded hash key h.journal.doubts ≡ []) → v ≡ stands h hash
  told-value writes records = same-value v (stands h hash) (told-state writes) (λ key. told-record key (records key))

-- ---- room

flat-singles : (ds : List ObjEntry) → flat (singles ds) ≡ ds
flat-singles [] = refl
flat-singles (d ∷ ds) = ap (λ (es : List ObjEntry). d ∷ es) (flat-singles ds)

single-journal-flat : (j : Journal) → flat_journal (single_journal j) ≡ j
single-journal-flat j = ap (λ (ds : List ObjEntry). record j { doubts = ds }) (flat-singles j.doubts)

pub room-single : (j : Journal) (e : ObjEntry) → has_room (flat_journal (single_journal j)) e ≡ has_room j e
room-single j e = ap (λ (x : Journal). has_room x e) (single-journal-flat j)
