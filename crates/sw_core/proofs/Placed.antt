-- A step at one node, as the world tells it.
use Rattle.std.proofs.Common.{◌≡◌, ◌≢◌, ℕ, ◌-◌, ◌/◌, ◌^◌, ◌<◌, ◌≤◌, Bool, true, false, ◌==◌, List, [], ◌∷◌, ◌++◌, length, refl, sym, ◌∙◌, ap, arith}
use Rattle.std.proofs.Common.{subst, Global, Option, Vec}
use Rattle.std.proofs.Common.{Some, inl, inr, Result, Ok, slice_set, length-set}
use Rattle.std.specs.List.{fold, slice_get}
use Rattle.std.specs.Str.{bytes_eq}
use Rattle.std.proofs.lemmas.Option.{slice_get-get_or, slice_get_within, slice_get_past}
use Rattle.std.proofs.lemmas.List.{get_or-set_same, get_or-set_other}
use Rattle.std.proofs.lemmas.Bool.{cases_lt}
use Rattle.std.proofs.lemmas.Nat.{mod_below, pow_pos, same_from_place}
use Rattle.std.proofs.lemmas.Bool.Decides.{nat_tests}
use borrow.Author.Tests.{eqb-true, eqb-false}
use Rattle.sw_hashpath.specs.HashParts.{IsDigest, partition_of}
use Rattle.sw_hashpath.specs.declared.name.Name.{Name}
use Rattle.sw_hashpath.specs.declared.secrets.Secrets.{Secrets}
use Rattle.sw_history.proofs.Growing.{grows-refl, grows-trans}
use Rattle.sw_history.specs.Halves.{GrowsOf}
use Rattle.sw_object_steps.proofs.Hashes.{hash-same, hash-self}
use Rattle.sw_object_steps.specs.BaseRows.{IsBaseFor}
use Rattle.sw_object_steps.specs.Filings.{AreFiled}
use Rattle.sw_object_steps.specs.Histories.{ChangesObject, IsGiven, IsRecorded, got_look, part_look}
use Rattle.sw_object_steps.specs.Rules.{ObjHistory, obj_applied, obj_rules}
use Rattle.sw_object_steps.specs.Values.{ObjValue}
use Rattle.sw_object_steps.specs.declared.entry.ObjEntry.{ObjEntry}
use Rattle.sw_peer.proofs.Calls.{BaseFrame, PartFrame, StripeFrame, base-step, calls-once, faithful-once, made-step, part-step, read-step, records-step}
use Rattle.sw_step.specs.Rules.{CanStand}
use Rattle.sw_step.specs.Steps.{Look, StepReads, added_by}
use Rattle.sw_object_steps.specs.Journals.{Hash, Shows}
use Rattle.sw_object_steps.specs.Parts.{IsOfPart}
use Rattle.sw_pending.specs.declared.filed.Filed.{Filed}
use Rattle.sw_peer.specs.Sights.{Calls, IsAt, IsBaseRead, IsInPart, IsInStripe, IsMade, IsPartRead, IsRead, IsRecordsRead, Moves, Nodes, Sight, is_one}
use Rattle.sw_object_steps.specs.declared.dir_fault.DirFault.{DirFault}
use Rattle.sw_peer.specs.declared.part_read.PartRead.{PartRead}
use Rattle.sw_peer.specs.declared.part_read.PartRead.TheVariants.{Base, Records}
use Rattle.sw_rows.specs.declared.row.Row.{Row}
use Rattle.sw_state.specs.declared.state.State.{State}
use Rattle.sw_object_steps.specs.declared.answer.Answer.{Answer}
use Rattle.sw_object_steps.specs.declared.change.Change.{Change}
use Rattle.sw_object_steps.specs.declared.got.Got.{Got}
use Rattle.sw_peer.specs.declared.line.Event.TheVariants.{Changed, Read, ReadPart}
use Rattle.sw_peer.specs.declared.line.Line.{Line}
use Rattle.sw_peer.specs.declared.link.Link.{Link}
use Rattle.sw_objdir.specs.Directories.{Kept, is_told, steps_of, values_of}
use Rattle.sw_object_steps.specs.Recorded.{doubts_records, doubts_write}
use Rattle.sw_core.specs.Making.{IsChangedIn, IsGotIn, IsPartIn, IsRecordsIn}
use Rattle.sw_volume.specs.Tree.{Folders}
use Rattle.sw_core.specs.declared.slot.Slot.{Slot}
use Rattle.sw_core.specs.declared.slot.Slot.TheVariants as slots
use Rattle.sw_core.specs.Worlds.{AllNodes, KeeperSeen, held_of, lock_of, part_lock_of, seen_of, sight_of, stripe_at, stripe_in}
use Rattle.sw_core.specs.Worlds.{stripe_lock_of}

pub slice_get-set_same : {X : Type 0} (xs : List X) (i : ℕ) (x : X) → i < length xs → slice_get (slice_set xs i x) i ≡ Some x
slice_get-set_same xs i x h =
    let within : i < length (slice_set xs i x) = rw length-set h in
    slice_get-get_or (slice_set xs i x) i x within ∙ ap Some (get_or-set_same xs i x x h)

pub slice_get-set_other : {X : Type 0} (xs : List X) (i j : ℕ) (x : X) → j ≢ i → slice_get (slice_set xs i x) j ≡ slice_get xs j
slice_get-set_other xs i j x away = elim (cases_lt j (length xs)) [
  | inl within ↦
      let same : j < length (slice_set xs i x) = rw length-set within in
      slice_get-get_or (slice_set xs i x) j x same ∙ (ap Some (get_or-set_other xs i j x x away) ∙ sym (slice_get-get_or xs j x within))
  | inr past ↦
      let same : length (slice_set xs i x) ≤ j = rw length-set past in
      slice_get_past (slice_set xs i x) j same ∙ sym (slice_get_past xs j past)
]

-- ---- places

pub stripe-below : (bits power part : ℕ) → stripe_at bits power part < 2 ^ bits
stripe-below bits power part = mod_below (part / 2 ^ (power - bits)) (2 ^ bits) (pow_pos bits)

-- a lock tells its device
pub device-of : (bits power d e p q : ℕ) → part_lock_of bits power d p ≡ part_lock_of bits power e q → d ≡ e
device-of bits power d e p q is =
    (same_from_place d (stripe_at bits power p) e (stripe_at bits power q) (2 ^ bits) (stripe-below bits power p) (stripe-below bits power q) is).0

-- ---- a step of one lock, at a place where its directory stands

module _ {V : Type 0} (tells : V → Bool) (files : V → Folders) (faults : V → ℕ) (d x : Kept V) where
  abbrev seen : Option (Slot V) → ObjHistory
  seen o = seen_of tells files faults o

  abbrev holds : Option (Slot V) → Hash → ObjValue
  holds o hash = held_of tells files faults o hash

  -- a step that may change something: of what the device held it says something at the name's own hash alone
  module _ (name : Name) (change : Change) (answer : Answer)
      (step : ChangesObject true (steps_of tells files faults d) (values_of tells files faults d) name change answer (steps_of tells files faults x)
      (values_of tells files faults x name.hash)) (s : Hash → ObjValue) where
    abbrev ChangeAt : Option (Slot V) → Option (Slot V) → Type 0
    ChangeAt o u = ((key : Hash) → bytes_eq key name.hash ≡ true → s key ≡ holds o key)
        → (y : ChangesObject true (seen o) s name change answer (seen u) (holds u name.hash)) × (added_by obj_rules step ≡ added_by obj_rules y)

    change-here : ChangeAt (Some (slots.Open d)) (Some (slots.Open x))
    change-here same = (
      record {
        own = step.own;
        before = step.before;
        looked = step.looked;
        read = step.read;
        made = step.made;
        follows = step.follows;
        settles = step.settles;
        settled = step.settled;
        answered = step.answered;
        orderly = step.orderly;
        after = step.after;
        failed = step.failed;
        known = step.known;
        kept = λ alone told other is. subst (λ (v : ObjValue). CanStand obj_rules step.before other v) (sym (same other is)) (step.kept alone told other is);
        held = λ alone told looked. step.held alone told looked ∙ sym (same name.hash (hash-self name.hash));
        leaves = λ alone told. step.leaves alone told
            ∙ ap (λ (v : ObjValue). fold obj_applied v step.made) (sym (same name.hash (hash-self name.hash)));
      },
      refl,
    )

    change-at : (o u : Option (Slot V)) → o ≡ Some (slots.Open d) → u ≡ Some (slots.Open x) → ChangeAt o u
    change-at o u before after = subst (λ (y : Option (Slot V)). ChangeAt y u) (sym before)
        (subst (λ (y : Option (Slot V)). ChangeAt (Some (slots.Open d)) y) (sym after) change-here)

  -- a read: of what the device holds it says something at these hashes alone
  module _ {B : Type 0} (at : Hash → Bool) (touched : List ObjEntry → Bool) (look : B → Look) (reading : Bool → (Hash → ObjValue) → ℕ → B → Type 0) (got : B)
      (step : StepReads obj_rules true (steps_of tells files faults d) at touched look (reading (is_told tells files faults x)) got
      (steps_of tells files faults x) (values_of tells files faults x)) (t : Hash → ObjValue) where
    abbrev ReadAt : Option (Slot V) → Option (Slot V) → Type 0
    ReadAt o u = ((key : Hash) → at key ≡ true → t key ≡ holds u key)
        → (y : StepReads obj_rules true (seen o) at touched look (reading (seen u).told) got (seen u) t)
        × (step.follows.entries.0 ≡ y.follows.entries.0)

    read-here : ReadAt (Some (slots.Open d)) (Some (slots.Open x))
    read-here same = (
      record {
        read = step.read;
        follows = step.follows;
        settles = step.settles;
        settled = step.settled;
        shown = step.shown;
        orderly = step.orderly;
        failed = step.failed;
        known = step.known;
        kept = λ alone told key is. subst (λ (v : ObjValue). CanStand obj_rules (steps_of tells files faults x) key v) (sym (same key is))
            (step.kept alone told key is);
        held = λ alone told looked key is. step.held alone told looked key is ∙ sym (same key is);
      },
      refl,
    )

    read-at : (o u : Option (Slot V)) → o ≡ Some (slots.Open d) → u ≡ Some (slots.Open x) → ReadAt o u
    read-at o u before after = subst (λ (y : Option (Slot V)). ReadAt y u) (sym before)
        (subst (λ (y : Option (Slot V)). ReadAt (Some (slots.Open d)) y) (sym after) read-here)

-- ---- all nodes

-- one directory has made a step, and the others none
module _ {V K : Type 0} (tells : V → Bool) (files : V → Folders) (faults : V → ℕ) (keeps : KeeperSeen K) (w : AllNodes V K) (place : ℕ) (d x : Kept V)
    (there : slice_get w.slots place ≡ Some (slots.Open d)) (lines : List Line) (asks : ℕ) where
  abbrev pub stepped : AllNodes V K
  stepped = record w { slots = slice_set w.slots place (slots.Open x); lines = lines; asks = asks }

  pub now : slice_get (slice_set w.slots place (slots.Open x)) place ≡ Some (slots.Open x)
  now = slice_get-set_same w.slots place (slots.Open x) (slice_get_within w.slots place (slots.Open d) there)

  grows_at : GrowsOf (steps_of tells files faults d) (steps_of tells files faults x)
      → (l : ℕ) (b : Bool) → (l == place) ≡ b → GrowsOf (seen_of tells files faults (slice_get w.slots l))
      (seen_of tells files faults (slice_get (slice_set w.slots place (slots.Open x)) l))
  grows_at up l true is =
      let same : l ≡ place = eqb-true l place is in
      rw (same, now, there) up
  grows_at up l false is =
      let away : l ≢ place = λ same. absurd (omega (arith, nat_tests, eqb-false l place is, same)) in
      rw (slice_get-set_other w.slots place l (slots.Open x) away) (grows-refl (seen_of tells files faults (slice_get w.slots l)))

  -- what a hash stands for, which is the same where it is under this lock
  pub held_same : (e : ℕ) (h : Hash) → (lock_of w.lock_bits w.power e h ≡ place → values_of tells files faults x h ≡ values_of tells files faults d h)
      → held_of tells files faults (slice_get (slice_set w.slots place (slots.Open x)) (lock_of w.lock_bits w.power e h)) h
      ≡ held_of tells files faults (slice_get w.slots (lock_of w.lock_bits w.power e h)) h
  held_same e h same = by (lock_of w.lock_bits w.power e h == place) refl
    where
      by : (b : Bool) → (lock_of w.lock_bits w.power e h == place) ≡ b
          → held_of tells files faults (slice_get (slice_set w.slots place (slots.Open x)) (lock_of w.lock_bits w.power e h)) h
          ≡ held_of tells files faults (slice_get w.slots (lock_of w.lock_bits w.power e h)) h
      by true is =
          let equal : lock_of w.lock_bits w.power e h ≡ place = eqb-true (lock_of w.lock_bits w.power e h) place is in
          rw (equal, now, there) (same equal)
      by false is =
          let apart : lock_of w.lock_bits w.power e h ≢ place =
          λ equal. absurd (omega (arith, nat_tests, eqb-false (lock_of w.lock_bits w.power e h) place is, equal)) in
          ap (λ (o : Option (Slot V)). held_of tells files faults o h)
          (slice_get-set_other w.slots place (lock_of w.lock_bits w.power e h) (slots.Open x) apart)

  -- at these places, one of which is under this lock
  pub moves : (at : ℕ → Hash → Type 0) (e : ℕ) (h : Hash) → at e h → lock_of w.lock_bits w.power e h ≡ place
      → GrowsOf (steps_of tells files faults d) (steps_of tells files faults x)
      → ((e : ℕ) (h : Hash) → (at e h → ⊥) → lock_of w.lock_bits w.power e h ≡ place → values_of tells files faults x h ≡ values_of tells files faults d h)
      → Moves at (sight_of tells files faults keeps w) (sight_of tells files faults keeps stepped)
  moves at e h is here up same = record {
    nodes = refl;
    objects = record {
      grows = λ l. grows_at up l (l == place) refl;
      elsewhere = λ l away. ap (seen_of tells files faults) (slice_get-set_other w.slots place l (slots.Open x) (λ equal. away e h is (equal ∙ sym here)));
      others = λ a e h away. held_same e h (same e h away);
    };
    containers = refl;
    alone = λ a. a;
    faults = omega arith;
  }

-- a step at the lock of a name
module _ {V K : Type 0} (tells : V → Bool) (files : V → Folders) (faults : V → ℕ) (keeps : KeeperSeen K) (w : AllNodes V K) (device : ℕ) (name : Name)
    (d x : Kept V)
    (at : slice_get w.slots (lock_of w.lock_bits w.power device name.hash) ≡ Some (slots.Open d)) (link : Link) (line : Line) (lines : List Line)
    (items : lines ≡ w.lines ++ line ∷ []) where
  abbrev place : ℕ
  place = lock_of w.lock_bits w.power device name.hash

  abbrev after : AllNodes V K
  after = stepped tells files faults keeps w place d x at lines w.asks

  abbrev before_sight : Sight
  before_sight = sight_of tells files faults keeps w

  abbrev after_sight : Sight
  after_sight = sight_of tells files faults keeps (record w { slots = slice_set w.slots place (slots.Open x); lines = lines })

  moved : GrowsOf (steps_of tells files faults d) (steps_of tells files faults x) →
      ((h : Hash) → h ≢ name.hash → values_of tells files faults x h ≡ values_of tells files faults d h)
      → Moves (IsAt device name.hash) before_sight after_sight
  moved up same = moves tells files faults keeps w place d x at lines w.asks (IsAt device name.hash) device name.hash (refl, refl) refl up
      (λ e h away equal. same h (λ it. away (device-of w.lock_bits w.power e device (partition_of h w.power) (partition_of name.hash w.power) equal, it)))

  abbrev now_at : slice_get (slice_set w.slots place (slots.Open x)) place ≡ Some (slots.Open x)
  now_at = now tells files faults keeps w place d x at lines w.asks

  -- what a device holds under the name's hash is what stands at this lock
  own-holds : (all : List (Slot V)) (key : Hash) → bytes_eq key name.hash ≡ true
      → held_of tells files faults (slice_get all (lock_of w.lock_bits w.power device key)) key ≡ held_of tells files faults (slice_get all place) key
  own-holds all key is = ap (λ (h : Hash). held_of tells files faults (slice_get all (lock_of w.lock_bits w.power device h)) key) (hash-same key name.hash is)

  pub world-made : (change : Change) (answer : Answer) → IsChangedIn tells files faults d link device name change answer x line
      → Calls (IsMade link device name change) (sight_of tells files faults keeps w) link (Ok answer)
      (sight_of tells files faults keeps (record w { slots = slice_set w.slots (lock_of w.lock_bits w.power device name.hash) (slots.Open x); lines = lines }))
  world-made change answer made =
      let changes = made.step.changes in
      let step = change-at tells files faults d x name change answer changes (before_sight.objects.holds device) (slice_get w.slots place)
      (slice_get (slice_set w.slots place (slots.Open x)) place) at now_at (own-holds w.slots) in
      calls-once (Moves (IsAt device name.hash)) (IsMade link device name change) (made-step link device name change) before_sight after_sight link answer
      (faithful-once link)
      (record {
        moves = moved (grows-trans (steps_of tells files faults d) changes.before (steps_of tells files faults x) changes.follows changes.after)
            made.step.others;
        step = step.0;
        trail = inl (ap Some (items ∙ ap (λ (l : Line). w.lines ++ l ∷ []) (made.line_is
            ∙ ap (λ (es : List ObjEntry). record { device = device; link = link; event = Changed name change answer; added = es }) step.1)));
      })

  pub world-read : (got : Got) → IsGotIn tells files faults d link device name got x line
      → Calls (IsRead link device name) (sight_of tells files faults keeps w) link (Ok got)
      (sight_of tells files faults keeps (record w { slots = slice_set w.slots (lock_of w.lock_bits w.power device name.hash) (slots.Open x); lines = lines }))
  world-read got read =
      let step = read-at tells files faults d x (λ key. bytes_eq key name.hash) doubts_write got_look
      (λ told stood front y. Shows told (stood name.hash).state front y) got read.step.reads (after_sight.objects.holds device)
      (slice_get w.slots place) (slice_get (slice_set w.slots place (slots.Open x)) place) at now_at
      (own-holds (slice_set w.slots place (slots.Open x))) in
      calls-once (Moves (IsAt device name.hash)) (IsRead link device name) (read-step link device name) before_sight after_sight link got
      (faithful-once link)
      (record {
        moves = moved read.step.reads.follows (λ h away. read.step.all h);
        holds_all = λ alone e h. held_same tells files faults keeps w place d x at lines w.asks e h (λ equal. read.step.all h);
        step = step.0;
        trail = inl (ap Some (items ∙ ap (λ (l : Line). w.lines ++ l ∷ []) (read.line_is
            ∙ ap (λ (es : List ObjEntry). record { device = device; link = link; event = Read name got; added = es }) step.1)));
      })

-- a read of a partition, at its lock
module _ {V K A : Type 0} (tells : V → Bool) (files : V → Folders) (faults : V → ℕ) (keeps : KeeperSeen K) (w : AllNodes V K) (device part : ℕ) (d x : Kept V)
    (there : slice_get w.slots (part_lock_of w.lock_bits w.power device part) ≡ Some (slots.Open d)) (link : Link) (line : Line) (lines : List Line)
    (items : lines ≡ w.lines ++ line ∷ []) (asks : ℕ) (at : Nodes → Hash → Bool) (damages : Bool) (reading : Nodes → Bool → (Hash → State) → A → Type 0)
    (read : Result A DirFault → PartRead) where
  abbrev part_place : ℕ
  part_place = part_lock_of w.lock_bits w.power device part

  abbrev pub part_after : AllNodes V K
  part_after = record w { slots = slice_set w.slots (part_lock_of w.lock_bits w.power device part) (slots.Open x); lines = lines; asks = asks }

  abbrev pub nodes_in : Nodes
  nodes_in = (sight_of tells files faults keeps w).nodes

  -- all these hashes are of the partition, and there is one
  part-came : (got : Result A DirFault) (h : Hash) → IsOfPart w.power part h → at nodes_in h ≡ true
      → ((k : Hash) → at nodes_in k ≡ true → partition_of k w.power ≡ part)
      → IsPartIn tells files faults d link device (at nodes_in) damages (reading nodes_in) read got x line
      → IsPartRead link device part at damages reading read (sight_of tells files faults keeps w) got (sight_of tells files faults keeps part_after)
  part-came got h of_part is inside made =
      let reads = made.step.reads in
      let step = read-at tells files faults d x (at nodes_in) doubts_write part_look (λ told stood front y. IsGiven (reading nodes_in told) stood y) got reads
      ((sight_of tells files faults keeps part_after).objects.holds device) (slice_get w.slots part_place)
      (slice_get (slice_set w.slots part_place (slots.Open x)) part_place) there now_at
      (λ key own. ap (λ (p : ℕ). held_of tells files faults (slice_get (slice_set w.slots part_place (slots.Open x))
      (part_lock_of w.lock_bits w.power device p)) key) (inside key own)) in
      record {
        moves = moves tells files faults keeps w part_place d x there lines asks (IsInPart w.power device part (at nodes_in)) device h (refl, of_part, is)
            (ap (part_lock_of w.lock_bits w.power device) of_part.part_is) reads.follows (λ e k away equal. made.step.all k);
        holds_all = λ alone e k. held_same tells files faults keeps w part_place d x there lines asks e k (λ equal. made.step.all k);
        step = step.0;
        sound = made.step.sound;
        trail = inl (ap Some (items ∙ ap (λ (l : Line). w.lines ++ l ∷ []) (made.line_is
            ∙ ap (λ (es : List ObjEntry). record { device = device; link = link; event = ReadPart (read got); added = es }) step.1)));
      }
    where
      now_at : slice_get (slice_set w.slots part_place (slots.Open x)) part_place ≡ Some (slots.Open x)
      now_at = now tells files faults keeps w part_place d x there lines asks

  pub world-part : (got : Result A DirFault) (h : Hash) → IsOfPart w.power part h → at nodes_in h ≡ true
      → ((k : Hash) → at nodes_in k ≡ true → partition_of k w.power ≡ part)
      → IsPartIn tells files faults d link device (at nodes_in) damages (reading nodes_in) read got x line
      → Calls (IsPartRead link device part at damages reading read) (sight_of tells files faults keeps w) link (Ok got)
      (sight_of tells files faults keeps part_after)
  world-part got h of_part is inside made =
      calls-once (PartFrame device part at) (IsPartRead link device part at damages reading read) (part-step link device part at damages reading read)
      (sight_of tells files faults keeps w) (sight_of tells files faults keeps part_after) link got (faithful-once link)
      (part-came got h of_part is inside made)

-- a read of what stands under the name of a record, at its lock
module _ {V K : Type 0} (tells : V → Bool) (files : V → Folders) (faults : V → ℕ) (keeps : KeeperSeen K) (w : AllNodes V K) (device : ℕ) (filed : Filed)
    (d x : Kept V) (there : slice_get w.slots (lock_of w.lock_bits w.power device filed.name.hash) ≡ Some (slots.Open d)) (link : Link) (line : Line)
    (lines : List Line) (items : lines ≡ w.lines ++ line ∷ []) where
  abbrev pub base_after : AllNodes V K
  base_after = record w { slots = slice_set w.slots (lock_of w.lock_bits w.power device filed.name.hash) (slots.Open x); lines = lines }

  pub world-base : (got : Result (Option Row) DirFault) → IsDigest filed.name.hash
      → IsPartIn tells files faults d link device (bytes_eq filed.name.hash) true (λ told s row. told ≡ true → IsBaseFor filed (s filed.name.hash) row)
      (λ row. Base filed row) got x line
      → Calls (IsBaseRead link device filed) (sight_of tells files faults keeps w) link (Ok got) (sight_of tells files faults keeps base_after)
  world-base got digest made =
      calls-once (BaseFrame device filed) (IsBaseRead link device filed) (base-step link device filed) (sight_of tells files faults keeps w)
      (sight_of tells files faults keeps base_after) link got (faithful-once link)
      (part-came tells files faults keeps w device (partition_of filed.name.hash w.power) d x there link line lines items w.asks (is_one filed.name.hash) true
      (λ nodes told s row. told ≡ true → IsBaseFor filed (s filed.name.hash) row) (λ row. Base filed row) got filed.name.hash
      (record { digest = digest; part_is = refl }) (hash-self filed.name.hash)
      (λ key is. ap (λ (h : Hash). partition_of h w.power) (sym (hash-same filed.name.hash key is))) made)

-- a read of the records of a stripe, at its lock
module _ {V K : Type 0} (tells : V → Bool) (files : V → Folders) (faults : V → ℕ) (keeps : KeeperSeen K) (w : AllNodes V K) (device stripe : ℕ) (d x : Kept V)
    (there : slice_get w.slots (stripe_lock_of w.lock_bits device stripe) ≡ Some (slots.Open d)) (own : d.secrets ≡ w.secrets) (link : Link) (line : Line)
    (lines : List Line) (items : lines ≡ w.lines ++ line ∷ []) where
  abbrev pub stripe_place : ℕ
  stripe_place = stripe_lock_of w.lock_bits device stripe

  abbrev pub stripe_after : AllNodes V K
  stripe_after = record w { slots = slice_set w.slots stripe_place (slots.Open x); lines = lines }

  abbrev pub of_stripe : Hash → Bool
  of_stripe hash = stripe_in w.lock_bits w.power hash == stripe

  -- what stands at the lock of the stripe
  abbrev stripe_held : Hash → ObjValue
  stripe_held hash = held_of tells files faults (slice_get stripe_after.slots stripe_place) hash

  -- the stripe has a hash
  pub world-records : (got : Result (Vec Filed Global) DirFault) (h : Hash) → stripe_in w.lock_bits w.power h ≡ stripe
      → IsRecordsIn tells files faults d link device of_stripe stripe got x line
      → Calls (IsRecordsRead link device stripe) (sight_of tells files faults keeps w) link (Ok got) (sight_of tells files faults keeps stripe_after)
  world-records got h is made =
      let reads = made.step.reads in
      let read = read-at tells files faults d x (λ hash. true) doubts_records part_look
      (λ told stood front y. IsRecorded (λ records list. AreFiled d.secrets of_stripe told records list.items) stood y) got reads stripe_held
      (slice_get w.slots stripe_place) (slice_get stripe_after.slots stripe_place) there now_at (λ key at. refl) in
      let step = subst (λ (q : Secrets). (y : Reads got q) × (reads.follows.entries.0 ≡ y.follows.entries.0)) own read in
      calls-once (StripeFrame device stripe) (IsRecordsRead link device stripe) (records-step link device stripe)
      (sight_of tells files faults keeps w) (sight_of tells files faults keeps stripe_after) link got (faithful-once link)
      (record {
        moves = moves tells files faults keeps w stripe_place d x there lines w.asks (IsInStripe (sight_of tells files faults keeps w).nodes device stripe)
            device h (refl, is) (ap (stripe_lock_of w.lock_bits device) is) reads.follows (λ e k away equal. made.step.all k);
        some = (h, is);
        holds_all = λ alone e k. held_same tells files faults keeps w stripe_place d x there lines w.asks e k (λ equal. made.step.all k);
        held = stripe_held;
        is_held = λ alone hash equal. ap (λ (l : ℕ). held_of tells files faults (slice_get stripe_after.slots l) hash) (sym equal);
        step = step.0;
        trail = inl (ap Some (items ∙ ap (λ (l : Line). w.lines ++ l ∷ []) (made.line_is
            ∙ ap (λ (es : List ObjEntry). record { device = device; link = link; event = ReadPart (Records stripe got); added = es }) step.1)));
      })
    where
      now_at : slice_get (slice_set w.slots stripe_place (slots.Open x)) stripe_place ≡ Some (slots.Open x)
      now_at = now tells files faults keeps w stripe_place d x there lines w.asks

      -- such a read, by these secrets
      Reads : Result (Vec Filed Global) DirFault → Secrets → Type 0
      Reads y q = StepReads obj_rules true (seen_of tells files faults (slice_get w.slots stripe_place)) (λ hash. true) doubts_records part_look
          (λ stood front z. IsRecorded (λ records list. AreFiled q of_stripe (seen_of tells files faults (slice_get stripe_after.slots stripe_place)).told
          records list.items) stood z) y (seen_of tells files faults (slice_get stripe_after.slots stripe_place)) stripe_held
