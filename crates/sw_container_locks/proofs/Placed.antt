-- Steps, reads and restarts at some of all locks, as the user of a door knows them.
use Rattle.std.proofs.Common.{◌≡◌, ◌≢◌, ℕ, ◌+◌, ◌-◌, ◌<◌, ◌≤◌, Bool, true, false, ◌==◌, List, length, refl, sym, ◌∙◌, ap}
use Rattle.std.proofs.Common.{subst, arith, Option, Some, ◌⊎◌, inl, inr, Result, slice_set}
use Rattle.std.specs.List.{fold, slice_get}
use Rattle.std.proofs.lemmas.Option.{slice_get_within}
use borrow.Author.Tests.{eqb-true, eqb-false}
use Rattle.sw_container_db.specs.ContDirs.{ContKept, cont_history_of}
use Rattle.sw_container_steps.specs.Entries.{entered}
use Rattle.sw_container_steps.specs.Rules.{ChangesContainer, ContHistory, ReadsContainer, cont_rules}
use Rattle.sw_container_steps.specs.declared.cont_answer.ContAnswer.{ContAnswer}
use Rattle.sw_container_steps.specs.declared.cont_change.ContChange.{ContChange}
use Rattle.sw_hashpath.specs.declared.place.Place.{Place}
use Rattle.sw_history.proofs.Growing.{grows-refl, grows-trans}
use Rattle.sw_history.specs.Halves.{GrowsOf, HalfMoves, HalfRestarts}
use Rattle.sw_peer.specs.ContSights.{IsIn}
use Rattle.sw_peer.specs.declared.cont_event.ContEvent.{ContEvent}
use Rattle.sw_peer.specs.declared.cont_event.ContEvent.TheVariants.{Changed}
use Rattle.sw_peer.specs.declared.line.Line.{Line}
use Rattle.sw_peer.specs.declared.link.Link.{Link}
use Rattle.sw_keeper.specs.declared.tables.Tables.{Tables}
use Rattle.sw_step.specs.Rules.{CanStand}
use Rattle.sw_step.specs.Steps.{added_by}
use Rattle.sw_container_locks.proofs.Lists.{at-set_other, at-set_same}
use Rattle.sw_container_locks.specs.Halves.{MayStand, cont_held_of, cont_seen_of, half_of}
use Rattle.sw_container_locks.specs.Laws.{ChangeMoves, ChangesAtLock, HasLocks, IsOfDevice, LiftingRestarts, ReadMoves, ReadsAtLock}
use Rattle.sw_container_locks.specs.Making.{IsChangedAt, IsReadAt, line_of, taken}
use Rattle.sw_container_locks.specs.Slots.{AreSetDown, IsLock, Lifts, begun}
use Rattle.sw_container_locks.specs.declared.cont_slot.ContSlot.{ContSlot}
use Rattle.sw_container_locks.specs.declared.cont_slot.ContSlot.TheVariants as slots

module _ {K : Type 0} (tells : K → Bool) (holds : K → Place → Option Tables) (faults : K → ℕ) where
  -- ---- one lock

  abbrev history : ContKept K → ContHistory
  history k = cont_history_of tells holds faults k

  abbrev pub seen : Option (ContSlot K) → ContHistory
  seen o = cont_seen_of tells holds faults o

  abbrev pub held : Option (ContSlot K) → Place → Option Tables
  held o place = cont_held_of tells holds faults o place

  -- what is told of a place is what the keeper holds
  pub held-told : (k : ContKept K) (place : Place) → tells k.keeper ≡ true → holds k.keeper place ≡ held (Some (slots.Open k)) place
  held-told k place told = rw told refl

  -- and what isn't is nothing, before a step and after it
  held-same : (k n : ContKept K) (place : Place) → tells n.keeper ≡ tells k.keeper → (tells k.keeper ≡ true → holds n.keeper place ≡ holds k.keeper place)
      → held (Some (slots.Open n)) place ≡ held (Some (slots.Open k)) place
  held-same k n place told same = by (tells k.keeper) refl
    where
      by : (b : Bool) → tells k.keeper ≡ b → held (Some (slots.Open n)) place ≡ held (Some (slots.Open k)) place
      by true is = sym (held-told n place (told ∙ is)) ∙ (same is ∙ held-told k place is)
      by false is = rw (told, is) refl

  -- where a lock's own places may stand for what its keeper holds, they may for what is told of that
  pub may-stand : (all : List (ContSlot K)) (l : ℕ) (k : ContKept K) → slice_get all l ≡ Some (slots.Open k) → IsLock tells k
      → (tells k.began ≡ true → (place : Place) → CanStand cont_rules (history k) place (holds k.keeper place)) → MayStand tells holds faults all l
  may-stand all l k there is can =
      subst (λ (o : Option (ContSlot K)). (seen o).told ≡ true → (place : Place) → CanStand cont_rules (seen o) place (held o place)) (sym there)
      (λ told place.
      subst (λ (t : Option Tables). CanStand cont_rules (history k) place t) (held-told k place (is.told ∙ told)) (can told place))

  -- ---- all locks, one of which has made a step

  module _ (lock : ℕ → Place → ℕ) (all : List (ContSlot K)) (l : ℕ) (k n : ContKept K) (there : slice_get all l ≡ Some (slots.Open k)) where
    abbrev next : List (ContSlot K)
    next = slice_set all l (slots.Open n)

    now : slice_get next l ≡ Some (slots.Open n)
    now = at-set_same all l (slots.Open n) (slice_get_within all l (slots.Open k) there)

    away-from : (m : ℕ) → (m == l) ≡ false → m ≢ l
    away-from m apart same = eqb-false m l apart same

    grows-at : GrowsOf (history k) (history n) → (m : ℕ) (b : Bool) → (m == l) ≡ b → GrowsOf (seen (slice_get all m)) (seen (slice_get next m))
    grows-at up m true is =
        let same : m ≡ l = eqb-true m l is in
        rw (same, now, there) up
    grows-at up m false is = rw (at-set_other all l m (slots.Open n) (away-from m is)) (grows-refl (seen (slice_get all m)))

    -- what a place holds, which is the same where it is under this lock
    held-at : (m : ℕ) (place : Place) → tells n.keeper ≡ tells k.keeper → (m ≡ l → tells k.keeper ≡ true → holds n.keeper place ≡ holds k.keeper place)
        → held (slice_get next m) place ≡ held (slice_get all m) place
    held-at m place told same = by (m == l) refl
      where
        by : (b : Bool) → (m == l) ≡ b → held (slice_get next m) place ≡ held (slice_get all m) place
        by true is =
            let here : m ≡ l = eqb-true m l is in
            ap (λ (i : ℕ). held (slice_get next i) place) here ∙ (ap (λ (o : Option (ContSlot K)). held o place) now
            ∙ (held-same k n place told (same here) ∙ (ap (λ (o : Option (ContSlot K)). held o place) (sym there)
            ∙ ap (λ (i : ℕ). held (slice_get all i) place) (sym here))))
        by false is = ap (λ (o : Option (ContSlot K)). held o place) (at-set_other all l m (slots.Open n) (away-from m is))

    moves : (device : ℕ) (place : Place) → lock device place ≡ l → GrowsOf (history k) (history n) → tells n.keeper ≡ tells k.keeper
        → ((d : ℕ) (p : Place) → (IsIn device place d p → ⊥) → lock d p ≡ l → tells k.keeper ≡ true → holds n.keeper p ≡ holds k.keeper p)
        → HalfMoves lock true (IsIn device place) (half_of tells holds faults lock all) (half_of tells holds faults lock next)
    moves device place here up told same = record {
      grows = λ m. grows-at up m (m == l) refl;
      elsewhere = λ m away. ap seen (at-set_other all l m (slots.Open n) (λ equal. away device place (refl, refl) (equal ∙ sym here)));
      others = λ a d p away. held-at (lock d p) p told (same d p away);
    }

  -- the keeper tells as the lock does
  pub was-told : (k : ContKept K) → IsLock tells k → (history k).told ≡ true → tells k.keeper ≡ true
  was-told k is told = is.told ∙ told

  -- ---- a step that may change a container

  module _ (place : Place) (change : ContChange) (answer : ContAnswer) (k n : ContKept K) (is : IsLock tells k) (same : tells n.keeper ≡ tells k.keeper)
      (step : ChangesContainer true (history k) (holds k.keeper) place change answer (history n) (holds n.keeper place)) where
    told-then : step.before.told ≡ true → tells k.keeper ≡ true
    told-then told = was-told k is (sym step.follows.told ∙ told)

    -- what is told to be held is what the keeper holds
    abbrev told-step : ChangesContainer true (history k) (λ p. held (Some (slots.Open k)) p) place change answer (history n) (held (Some (slots.Open n)) place)
    told-step = record {
      own = step.own;
      before = step.before;
      looked = step.looked;
      read = step.read;
      made = step.made;
      follows = step.follows;
      settles = step.settles;
      settled = step.settled;
      answered = step.answered;
      orderly = step.orderly;
      after = step.after;
      failed = step.failed;
      known = step.known;
      kept = λ alone told other reached.
          subst (λ (t : Option Tables). CanStand cont_rules step.before other t) (held-told k other (told-then told)) (step.kept alone told other reached);
      held = λ alone told looked. step.held alone told looked ∙ held-told k place (told-then told);
      leaves = λ alone told.
          sym (held-told n place (same ∙ told-then told))
          ∙ (step.leaves alone told ∙ ap (λ (t : Option Tables). fold entered t step.made) (held-told k place (told-then told)));
    }

    -- at locks of which this one stands there
    abbrev ChangeStep : Option (ContSlot K) → Option (ContSlot K) → Type 0
    ChangeStep o u = (x : ChangesContainer true (seen o) (λ p. held o p) place change answer (seen u) (held u place))
        × (added_by cont_rules step ≡ added_by cont_rules x)

    change-step : (o u : Option (ContSlot K)) → o ≡ Some (slots.Open k) → u ≡ Some (slots.Open n) → ChangeStep o u
    change-step o u before after =
        subst (λ (x : Option (ContSlot K)). ChangeStep x u) (sym before)
        (subst (λ (x : Option (ContSlot K)). ChangeStep (Some (slots.Open k)) x) (sym after) (told-step, refl))

  module _ (calls : K → ℕ) (lock : ℕ → Place → ℕ) (link : Link) (device : ℕ) (place : Place) (change : ContChange) (old : List (ContSlot K))
      (answer : ContAnswer) (new : List (ContSlot K)) (line : Line) (own : IsOfDevice lock device place)
      (at : IsChangedAt tells holds faults calls (lock device place) link device place change old answer new line) where
    abbrev k : ContKept K
    k = at.before

    abbrev n : ContKept K
    n = taken at.made.left

    abbrev after : List (ContSlot K)
    after = slice_set old (lock device place) (slots.Open (taken at.made.left))

    change-rest : new ≡ after
    change-rest = at.rest ∙ ap (λ (x : ContKept K). slice_set old (lock device place) (slots.Open x)) at.made.after

    change-told : tells n.keeper ≡ tells k.keeper
    change-told = at.made.step.same.told

    change-after : ChangesAtLock tells holds faults lock link device place change old answer after line
    change-after =
        let step = change-step place change answer k n at.is_lock change-told at.made.step.made (slice_get old (lock device place))
        (slice_get after (lock device place)) at.there (now lock old (lock device place) k n at.there) in
        record {
          moves = moves lock old (lock device place) k n at.there device place refl
              (grows-trans (history k) at.made.step.made.before (history n) at.made.step.made.follows at.made.step.made.after) change-told
              (λ d p away here tell. at.made.step.others tell p (λ same. away (own d p here, same)));
          step = record {
            held = λ p. held (slice_get old (lock device place)) p;
            is_held = λ alone p same. ap (λ (i : ℕ). held (slice_get old i) p) (sym same);
            step = step.0;
          };
          line_is = at.made.line_is ∙ ap (line_of link device (Changed place change answer)) step.1;
        }

    pub changes : ChangesAtLock tells holds faults lock link device place change old answer new line
    changes = subst (λ (all : List (ContSlot K)). ChangesAtLock tells holds faults lock link device place change old answer all line) (sym change-rest)
        change-after

  pub change-moves : (calls : K → ℕ) → ChangeMoves tells holds faults calls
  change-moves calls lock link device place change old answer new line own at = changes calls lock link device place change old answer new line own at

  -- ---- a read

  module _ {A : Type 0} (place : Place) (reading : Option Tables → ℕ → Result A ContAnswer) (got : Result A ContAnswer) (k n : ContKept K)
      (is : IsLock tells k) (same : tells n.keeper ≡ tells k.keeper)
      (step : ReadsContainer true (history k) place reading got (history n) (holds n.keeper)) where
    told-now : tells n.began ≡ true → tells n.keeper ≡ true
    told-now told = same ∙ was-told k is (sym step.follows.told ∙ told)

    abbrev told-read : ReadsContainer true (history k) place reading got (history n) (λ p. held (Some (slots.Open n)) p)
    told-read = record {
      read = step.read;
      follows = step.follows;
      settles = step.settles;
      settled = step.settled;
      shown = step.shown;
      orderly = step.orderly;
      failed = step.failed;
      known = step.known;
      kept = λ alone told other of_these.
          subst (λ (t : Option Tables). CanStand cont_rules (history n) other t) (held-told n other (told-now told)) (step.kept alone told other of_these);
      held = λ alone told looked other of_these. step.held alone told looked other of_these ∙ held-told n other (told-now told);
    }

    abbrev ReadStep : Option (ContSlot K) → Option (ContSlot K) → Type 0
    ReadStep o u = (x : ReadsContainer true (seen o) place reading got (seen u) (λ p. held u p)) × (step.follows.entries.0 ≡ x.follows.entries.0)

    read-step : (o u : Option (ContSlot K)) → o ≡ Some (slots.Open k) → u ≡ Some (slots.Open n) → ReadStep o u
    read-step o u before after =
        subst (λ (x : Option (ContSlot K)). ReadStep x u) (sym before)
        (subst (λ (x : Option (ContSlot K)). ReadStep (Some (slots.Open k)) x) (sym after) (told-read, refl))

  module _ {A : Type 0} (calls : K → ℕ) (lock : ℕ → Place → ℕ) (link : Link) (device : ℕ) (place : Place) (reading : Option Tables → ℕ → Result A ContAnswer)
      (event : Result A ContAnswer → ContEvent) (old : List (ContSlot K)) (got : Result A ContAnswer) (new : List (ContSlot K)) (line : Line)
      (at : IsReadAt tells holds faults calls (lock device place) link device place reading event old got new line) where
    abbrev k_read : ContKept K
    k_read = at.before

    abbrev n_read : ContKept K
    n_read = taken at.read.left

    abbrev after_read : List (ContSlot K)
    after_read = slice_set old (lock device place) (slots.Open (taken at.read.left))

    read-rest : new ≡ after_read
    read-rest = at.rest ∙ ap (λ (x : ContKept K). slice_set old (lock device place) (slots.Open x)) at.read.after

    read-told : tells n_read.keeper ≡ tells k_read.keeper
    read-told = at.read.step.same.told

    read-after : ReadsAtLock tells holds faults lock link device place reading event old got after_read line
    read-after =
        let step = read-step place reading got k_read n_read at.is_lock read-told at.read.step.read (slice_get old (lock device place))
        (slice_get after_read (lock device place)) at.there (now lock old (lock device place) k_read n_read at.there) in
        record {
          moves = moves lock old (lock device place) k_read n_read at.there device place refl at.read.step.read.follows read-told
              (λ d p away here tell. at.read.step.all tell p);
          holds_all = λ d p. held-at lock old (lock device place) k_read n_read at.there (lock d p) p read-told (λ here tell. at.read.step.all tell p);
          step = record {
            held = λ p. held (slice_get after_read (lock device place)) p;
            is_held = λ alone p same. ap (λ (i : ℕ). held (slice_get after_read i) p) (sym same);
            step = step.0;
          };
          line_is = at.read.line_is ∙ ap (line_of link device (event got)) step.1;
        }

    pub reads : ReadsAtLock tells holds faults lock link device place reading event old got new line
    reads = subst (λ (all : List (ContSlot K)). ReadsAtLock tells holds faults lock link device place reading event old got all line) (sym read-rest) read-after

  pub read-moves : {A : Type 0} (calls : K → ℕ) → ReadMoves tells holds faults calls A
  read-moves {A} calls lock link device place reading event old got new line at = reads calls lock link device place reading event old got new line at

  -- ---- a restart

  module _ (lock : ℕ → Place → ℕ) (device first past : ℕ) (old mid new : List (ContSlot K)) (given : List K) (of_device : HasLocks lock device first past)
      (up : Lifts tells first past old mid given) (down : AreSetDown first given mid new) where
    abbrev there : (place : Place) → (k : ContKept K) × (slice_get old (lock device place) ≡ Some (slots.Open k))
    there place = up.are_open (lock device place) (of_device.own place).0 (of_device.own place).1

    is_lock : (place : Place) → IsLock tells (there place).0
    is_lock place = up.locks (lock device place) (there place).0 (there place).1

    here : (place : Place) → slice_get new (lock device place) ≡ Some (slots.Open (begun (there place).0.keeper))
    here place =
        let from : first ≤ lock device place = (of_device.own place).0 in
        let to : lock device place < past = (of_device.own place).1 in
        let i : ℕ = lock device place - first in
        let at : first + i ≡ lock device place = omega (arith, from) in
        let k = (there place).0 in
        let out : slice_get mid (first + i) ≡ Some slots.Lifted = ap (slice_get mid) at ∙ up.lifted.within (lock device place) k from to (there place).1 in
        let keeper : slice_get given i ≡ Some k.keeper = up.lifted.gives i k (omega (arith, at, to)) (ap (slice_get old) at ∙ (there place).1) in
        ap (slice_get new) (sym at) ∙ down.within i k.keeper keeper out

    apart : (d : ℕ) (place : Place) → d ≢ device → slice_get new (lock d place) ≡ slice_get old (lock d place)
    apart d place away =
        down.outside (lock d place) (further (of_device.others d place away)) ∙ up.lifted.outside (lock d place) (of_device.others d place away)
      where
        further : (lock d place < first) ⊎ (past ≤ lock d place) → (lock d place < first) ⊎ (first + length given ≤ lock d place)
        further (inl low) = inl low
        further (inr high) = inr (omega (arith, up.lifted.amount, high))

    old-told : (place : Place) → (seen (slice_get old (lock device place))).told ≡ true → tells (there place).0.keeper ≡ true
    old-told place told = was-told (there place).0 (is_lock place) (sym (ap (λ (o : Option (ContSlot K)). (seen o).told) (there place).1) ∙ told)

    -- what its keeper holds, before it was lifted and after it was set down
    old-held : (place : Place) → held (slice_get old (lock device place)) place ≡ held (Some (slots.Open (there place).0)) place
    old-held place = ap (λ (o : Option (ContSlot K)). held o place) (there place).1

    pub restarts : HalfRestarts lock true device (half_of tells holds faults lock old) (half_of tells holds faults lock new)
    restarts = record {
      others = λ d place away. ap seen (apart d place away);
      told = λ place told. rw (here place) (old-told place told);
      opening = λ alone place told. rw (here place) (held-told (there place).0 place (old-told place told) ∙ sym (old-held place));
      entries = λ place. rw (here place) refl;
      doubts = λ place. rw (here place) refl;
      max_entries = λ place. rw (here place, (there place).1) (sym (is_lock place).max_entries);
      max_bytes = λ place. rw (here place, (there place).1) (sym (is_lock place).max_bytes);
      faults = λ place. rw (here place, (there place).1) (omega arith);
      holds = λ alone place told. ap (λ (o : Option (ContSlot K)). held o place) (here place) ∙ sym (old-held place);
      elsewhere = λ alone d place away. ap (λ (o : Option (ContSlot K)). held o place) (apart d place away);
    }

  pub lifting-restarts : LiftingRestarts tells holds faults
  lifting-restarts lock device first past old mid new given of_device up down = restarts lock device first past old mid new given of_device up down
