-- A step at one lane, as the door over all lanes tells it.
use Rattle.std.proofs.Common.{◌≡◌, ◌≢◌, ◌<◌, ℕ, zero, suc, Bool, true, List, [], ◌∷◌, length, map, get_or, refl, sym, ◌∙◌, ap, subst, arith}
use Rattle.std.proofs.Common.{Option, Some, Ok, inl, slice_set, length-set}
use Rattle.std.proofs.lemmas.Bool.{and_parts}
use Rattle.std.proofs.Math.Seq.{map-set_same}
use Rattle.std.proofs.lemmas.List.{length-map, map-set}
use Rattle.std.proofs.lemmas.Option.{get_or_from_slice_get, slice_get-map, slice_get_within}
use Rattle.std.specs.List.{list_all, slice_get}
use Rattle.std.specs.Option.{option_map}
use Rattle.std.specs.Str.{bytes_eq}
use borrow.Author.Tests.{eqb-true}
use mathlib.Core.Logic.{dite}
use native.Mathlib.Decide.{ℕ_discrete}
use Rattle.atomic_table.specs.Seated.{TableId}
use Rattle.sw_core.proofs.Keeping.{there-is}
use Rattle.sw_core.proofs.Placed.{device-of, slice_get-set_other, slice_get-set_same, stripe-below}
use Rattle.sw_core.proofs.Stripes.{lock-within}
use Rattle.sw_core.proofs.Wholes.{found}
use Rattle.sw_core.specs.Worlds.{lock_of, stripe_at}
use Rattle.sw_hashpath.specs.HashParts.{partition_of}
use Rattle.sw_hashpath.specs.declared.name.Name.{Name}
use Rattle.sw_hashpath.specs.declared.secrets.Secrets.{Secrets}
use Rattle.sw_history.proofs.Growing.{grows-refl, grows-trans}
use Rattle.sw_history.specs.Halves.{GrowsOf}
use Rattle.sw_objdir.specs.Directories.{Kept, steps_of}
use Rattle.sw_objdir.specs.Stepping.{IsReadStep, IsSameDir, IsStep}
use Rattle.sw_object_steps.proofs.Hashes.{hash-same}
use Rattle.sw_object_steps.specs.Histories.{ChangesObject, got_look}
use Rattle.sw_object_steps.specs.Journals.{Hash, Shows}
use Rattle.sw_object_steps.specs.Recorded.{doubts_write}
use Rattle.sw_object_steps.specs.Rules.{ObjHistory, obj_rules}
use Rattle.sw_object_steps.specs.Values.{ObjValue}
use Rattle.sw_object_steps.specs.declared.answer.Answer.{Answer}
use Rattle.sw_object_steps.specs.declared.change.Change.{Change}
use Rattle.sw_object_steps.specs.declared.got.Got.{Got}
use Rattle.sw_peer.proofs.Calls.{calls-once, faithful-once, made-step, read-step}
use Rattle.sw_peer.specs.Sights.{Calls, IsAt, IsMade, IsRead, MayStand, Moves, Sight}
use Rattle.sw_peer.specs.declared.link.Link.{Link}
use Rattle.sw_shared.proofs.Seeing.{changes, grows-on, has-seen, numbers-now, reads, seats-now, stays}
use Rattle.sw_shared.specs.Books.{began_of}
use Rattle.sw_shared.specs.Doors.{HasTurn, IsShared, SharedNodes, held_in, held_last, owns_all, seen_in, seen_last, shared_sight}
use Rattle.sw_shared.specs.Turning.{BeganSo, HasSeen, InTurn, ObjView}
use Rattle.sw_step.specs.Rules.{CanStand}
use Rattle.sw_step.specs.Steps.{StepReads}
use Rattle.sw_turn.specs.Rule.{OwnsAll}
use Rattle.sw_volume.specs.Tree.{Folders}

-- ---- lists

-- at one place stands another one
pub record IsPut {X : Type 0} (old : List X) (place : ℕ) (v u : X) (new : List X) : Type 0 where
  pub at : slice_get old place ≡ Some v
  pub now : slice_get new place ≡ Some u
  pub others : (l : ℕ) → l ≢ place → slice_get new l ≡ slice_get old l
  pub count : length new ≡ length old

pub puts : {X : Type 0} (xs : List X) (place : ℕ) (v u : X) → slice_get xs place ≡ Some v → IsPut xs place v u (slice_set xs place u)
puts xs place v u at = record {
  at = at;
  now = slice_get-set_same xs place u (slice_get_within xs place v at);
  others = λ l away. slice_get-set_other xs place l u away;
  count = length-set xs place u;
}

-- what all pass one passes
pub all-at : {X : Type 0} (p : X → Bool) (xs : List X) (i : ℕ) (x : X) → list_all p xs ≡ true → slice_get xs i ≡ Some x → p x ≡ true
all-at p [] i x all at = cc
all-at p (y ∷ ys) zero x all at =
    let same : y ≡ x = cc in
    subst (λ z. p z ≡ true) same (and_parts (p y) (list_all p ys) all).0
all-at p (y ∷ ys) (suc i) x all at = all-at p ys i x (and_parts (p y) (list_all p ys) all).1 at

pub all-from : {X : Type 0} (p : X → Bool) (xs : List X) → ((i : ℕ) (x : X) → slice_get xs i ≡ Some x → p x ≡ true) → list_all p xs ≡ true
all-from p [] each = refl
all-from p (y ∷ ys) each = rw (each zero y refl) (all-from p ys (λ i x at. each (suc i) x at))

some-one : {X : Type 0} (x y : X) (o : Option X) → o ≡ Some x → o ≡ Some y → x ≡ y
some-one x y o first second = cc

-- ---- all lanes

module _ {V : Type 0} (tells : V → Bool) (files : V → Folders) (faults : V → ℕ) (w : SharedNodes V) (is : IsShared tells files faults w) (place : ℕ)
    (v u : ObjView V) (lanes : List (ObjView V)) (asks : ℕ) (put : IsPut w.lanes place v u lanes) where
  abbrev pub after : SharedNodes V
  after = record w { lanes = lanes; asks = asks }

  abbrev pub was : Sight
  was = shared_sight tells files faults w

  abbrev pub is_now : Sight
  is_now = shared_sight tells files faults after

  pub seen-before : HasSeen tells files faults w.secrets w.power v
  seen-before = is.lanes place v put.at

  abbrev pub before_last : ObjHistory
  before_last = seen_last tells files faults v.known.last

  abbrev pub after_last : ObjHistory
  after_last = seen_last tells files faults u.known.last

  abbrev pub held_before : Hash → ObjValue
  held_before hash = held_last tells files faults v.known.last hash

  abbrev pub held_after : Hash → ObjValue
  held_after hash = held_last tells files faults u.known.last hash

  -- it is still one of all lanes
  pub still-shared : HasSeen tells files faults w.secrets w.power u → IsShared tells files faults after
  still-shared seen = record {
    devices = is.devices;
    lock_bits = is.lock_bits;
    fine = is.fine;
    least = is.least;
    greatest = is.greatest;
    count = put.count ∙ is.count;
    lanes = λ l x at. dite (ℕ_discrete l place)
        (λ e. subst (λ y. HasSeen tells files faults w.secrets w.power y) (some-one u x (slice_get lanes l) (ap (slice_get lanes) e ∙ put.now) at) seen)
        (λ ne. is.lanes l x (sym (put.others l ne) ∙ at));
  }

  module _ (numbers : u.numbers ≡ v.numbers) (seats : u.seats ≡ v.seats) where
    same-owner : owns_all u ≡ owns_all v
    same-owner = rw (numbers, seats) refl

    -- where the door is alone it was
    pub was-alone : is_now.alone ≡ true → was.alone ≡ true
    was-alone alone = all-from owns_all w.lanes (λ l x at. dite (ℕ_discrete l place)
        (λ e. ap owns_all (some-one x v (slice_get w.lanes l) at (ap (slice_get w.lanes) e ∙ put.at)) ∙ (sym same-owner
        ∙ all-at owns_all lanes place u alone put.now))
        (λ ne. all-at owns_all lanes l x alone (put.others l ne ∙ at)))

    pub owner : is_now.alone ≡ true → OwnsAll v
    owner alone = eqb-true (length v.numbers) v.seats (all-at owns_all w.lanes place v (was-alone alone) put.at)

    grows-at : GrowsOf before_last after_last → (l : ℕ) → GrowsOf (was.objects.seen l) (is_now.objects.seen l)
    grows-at up l = dite (ℕ_discrete l place)
        (λ e. subst (λ o. GrowsOf (seen_in tells files faults o) (is_now.objects.seen l)) (sym (ap (slice_get w.lanes) e ∙ put.at))
        (subst (λ o. GrowsOf before_last (seen_in tells files faults o)) (sym (ap (slice_get lanes) e ∙ put.now)) up))
        (λ ne. subst (λ o. GrowsOf (was.objects.seen l) (seen_in tells files faults o)) (sym (put.others l ne)) (grows-refl (was.objects.seen l)))

    -- what a hash stands for, which is the same where it is under this lock
    pub held-same : (e : ℕ) (h : Hash) → (lock_of w.lock_bits w.power e h ≡ place → held_after h ≡ held_before h)
        → is_now.objects.holds e h ≡ was.objects.holds e h
    held-same e h same = dite (ℕ_discrete (lock_of w.lock_bits w.power e h) place)
        (λ here. ap (λ o. held_in tells files faults o h) (ap (slice_get lanes) here ∙ put.now) ∙ (same here
        ∙ sym (ap (λ o. held_in tells files faults o h) (ap (slice_get w.lanes) here ∙ put.at))))
        (λ ne. ap (λ o. held_in tells files faults o h) (put.others (lock_of w.lock_bits w.power e h) ne))

    -- at these places, one of which is under this lock
    pub moves : (at : ℕ → Hash → Type 0) (e : ℕ) (h : Hash) → at e h → lock_of w.lock_bits w.power e h ≡ place → GrowsOf before_last after_last
        → (is_now.alone ≡ true → (e : ℕ) (h : Hash) → (at e h → ⊥) → lock_of w.lock_bits w.power e h ≡ place → held_after h ≡ held_before h)
        → Moves at was is_now
    moves at e h here_at here up same = record {
      nodes = refl;
      objects = record {
        grows = grows-at up;
        elsewhere = λ l away. ap (seen_in tells files faults) (put.others l (λ equal. away e h here_at (equal ∙ sym here)));
        others = λ alone e h away. held-same e h (same alone e h away);
      };
      containers = refl;
      alone = was-alone;
      faults = omega arith;
    }

-- ---- a step that may change what stands under a name, and a read of it

module _ {V : Type 0} (tells : V → Bool) (files : V → Folders) (faults : V → ℕ) (w : SharedNodes V) (is : IsShared tells files faults w) (device : ℕ)
    (name : Name) (v u : ObjView V) (lanes : List (ObjView V)) (put : IsPut w.lanes (lock_of w.lock_bits w.power device name.hash) v u lanes) (link : Link)
  where
    abbrev place : ℕ
    place = lock_of w.lock_bits w.power device name.hash

    abbrev old : Sight
    old = shared_sight tells files faults w

    abbrev new : Sight
    new = shared_sight tells files faults (record w { lanes = lanes })

    -- what a device holds under the name's hash is what stands at this lock
    own-holds : (all : List (ObjView V)) (x : ObjView V) → slice_get all place ≡ Some x → (key : Hash) → bytes_eq key name.hash ≡ true
        → held_in tells files faults (slice_get all (lock_of w.lock_bits w.power device key)) key ≡ held_last tells files faults x.known.last key
    own-holds all x at key own =
        ap (λ (h : Hash). held_in tells files faults (slice_get all (lock_of w.lock_bits w.power device h)) key) (hash-same key name.hash own)
        ∙ ap (λ o. held_in tells files faults o key) at

    pub door-made : (change : Change) (answer : Answer) → InTurn tells files faults (λ k n. IsStep tells files faults k name change answer n) v u
        → Calls (IsMade link device name change) old link (Ok answer) new
    door-made change answer (k, n, turn, step) =
        let seen = seen-before tells files faults w is place v u lanes w.asks put in
        let numbers = numbers-now tells files faults w.secrets w.power v seen k n u turn in
        let seats = seats-now tells files faults w.secrets w.power v seen k n u turn in
        let owns = owner tells files faults w is place v u lanes w.asks put numbers seats in
        let up = grows-trans (steps_of tells files faults k) step.changes.before (steps_of tells files faults n) step.changes.follows step.changes.after in
        let made = changes tells files faults w.secrets w.power v seen k n u turn new.alone owns name change answer step.changes (old.objects.holds device)
        (own-holds w.lanes v put.at) in
        let first = subst (λ o. ChangesObject new.alone (seen_in tells files faults o) (old.objects.holds device) name change answer
        (seen_last tells files faults u.known.last) (held_last tells files faults u.known.last name.hash)) (sym put.at) made in
        let both = subst (λ o. ChangesObject new.alone (old.objects.seen place) (old.objects.holds device) name change answer (seen_in tells files faults o)
        (held_in tells files faults o name.hash)) (sym put.now) first in
        calls-once (Moves (IsAt device name.hash)) (IsMade link device name change) (made-step link device name change) old new link answer
        (faithful-once link)
        (record {
          moves = moves tells files faults w is place v u lanes w.asks put numbers seats (IsAt device name.hash) device name.hash (refl, refl) refl
              (grows-on tells files faults w.secrets w.power v seen k n u turn up)
              (λ alone e h away equal. stays tells files faults w.secrets w.power v seen k n u turn h
              (step.others h (λ it. away (device-of w.lock_bits w.power e device (partition_of h w.power) (partition_of name.hash w.power) equal, it)))
              (owns alone));
          step = both;
          trail = inl refl;
        })

    pub door-read : (got : Got) → InTurn tells files faults (λ k n. IsReadStep tells files faults k name got n) v u
        → Calls (IsRead link device name) old link (Ok got) new
    door-read got (k, n, turn, step) =
        let seen = seen-before tells files faults w is place v u lanes w.asks put in
        let numbers = numbers-now tells files faults w.secrets w.power v seen k n u turn in
        let seats = seats-now tells files faults w.secrets w.power v seen k n u turn in
        let owns = owner tells files faults w is place v u lanes w.asks put numbers seats in
        let at : Hash → Bool = λ key. bytes_eq key name.hash in
        let shows : Bool → (Hash → ObjValue) → ℕ → Got → Type 0 = λ told read front x. Shows told (read name.hash).state front x in
        let made = reads tells files faults w.secrets w.power v seen k n u turn new.alone owns at doubts_write got_look shows got step.reads
        (new.objects.holds device) (own-holds lanes u put.now) in
        let first = subst (λ o. StepReads obj_rules new.alone (seen_in tells files faults o) at doubts_write got_look
        (shows (seen_last tells files faults u.known.last).told) got (seen_last tells files faults u.known.last) (new.objects.holds device))
        (sym put.at) made in
        let both = subst (λ o. StepReads obj_rules new.alone (old.objects.seen place) at doubts_write got_look
        (shows (seen_in tells files faults o).told) got (seen_in tells files faults o) (new.objects.holds device)) (sym put.now) first in
        calls-once (Moves (IsAt device name.hash)) (IsRead link device name) (read-step link device name) old new link got (faithful-once link)
        (record {
          moves = moves tells files faults w is place v u lanes w.asks put numbers seats (IsAt device name.hash) device name.hash (refl, refl) refl
              (grows-on tells files faults w.secrets w.power v seen k n u turn step.reads.follows)
              (λ alone e h away equal. stays tells files faults w.secrets w.power v seen k n u turn h (step.all h) (owns alone));
          holds_all = λ alone e h. held-same tells files faults w is place v u lanes w.asks put numbers seats e h
              (λ equal. stays tells files faults w.secrets w.power v seen k n u turn h (step.all h) (owns alone));
          step = both;
          trail = inl refl;
        })

-- ---- the door's own list

module _ {V L : Type 0} (tells : V → Bool) (files : V → Folders) (faults : V → ℕ) (items : List L) (view : L → ObjView V) (id : L → TableId)
    (devices bits power : ℕ) (secrets : Secrets) (asks : ℕ) where
  abbrev pub nodes-over : List L → SharedNodes V
  nodes-over lanes = record {
    devices = devices;
    lock_bits = bits;
    power = power;
    secrets = secrets;
    asks = asks;
    locks = map id lanes;
    lanes = map view lanes;
  }

  -- the lane at a place
  pub lane-at : (place : ℕ) (a : L) → place < length (map view items) → a ≡ get_or items place a → slice_get items place ≡ Some a
  lane-at place a within is = found items place a (subst (λ (n : ℕ). place < n) (length-map items view) within) is

  pub view-at : (place : ℕ) (a : L) → slice_get items place ≡ Some a → slice_get (map view items) place ≡ Some (view a)
  view-at place a at = slice_get-map view items place ∙ ap (option_map view) at

  pub lane-seen : IsShared tells files faults (nodes-over items) → (place : ℕ) (a : L) → slice_get items place ≡ Some a
      → HasSeen tells files faults secrets power (view a)
  lane-seen is place a at = is.lanes place (view a) (view-at place a at)

  -- the lane of one place was changed, and stays at its lock
  pub changed : (place : ℕ) (a b : L) → slice_get items place ≡ Some a → id b ≡ id a
      → nodes-over (slice_set items place b) ≡ record (nodes-over items) { lanes = slice_set (map view items) place (view b) }
  changed place a b at same =
      ap (λ (ids : List TableId). record (nodes-over (slice_set items place b)) { locks = ids })
      (map-set_same id items place b a (same ∙ ap id (sym (get_or_from_slice_get items place a a at))))
      ∙ ap (λ (vs : List (ObjView V)). record (nodes-over items) { lanes = vs }) (map-set view items place b)

  pub has-turn : (place : ℕ) (a b : L) → slice_get items place ≡ Some a → id b ≡ id a → (step : Kept V → Kept V → Type 0)
      → InTurn tells files faults step (view a) (view b)
      → HasTurn tells files faults (nodes-over items) place step (nodes-over (slice_set items place b))
  has-turn place a b at same step turn = record {
    before = view a;
    after = view b;
    at = view-at place a at;
    turn = turn;
    left = changed place a b at same;
  }

  -- they are nodes still, where the lane has seen its directory
  pub still-over : IsShared tells files faults (nodes-over items) → (place : ℕ) (a b : L) → slice_get items place ≡ Some a → id b ≡ id a
      → HasSeen tells files faults secrets power (view b) → IsShared tells files faults (nodes-over (slice_set items place b))
  still-over is place a b at same seen =
      subst (λ (x : SharedNodes V). IsShared tells files faults x) (sym (changed place a b at same))
      (still-shared tells files faults (nodes-over items) is place (view a) (view b) (slice_set (map view items) place (view b)) asks
      (puts (map view items) place (view a) (view b) (view-at place a at)) seen)

-- what a pass has seen tells how its directory began
module _ {V : Type 0} (tells : V → Bool) (files : V → Folders) (faults : V → ℕ) where
  pub began-so : (secrets : Secrets) (power : ℕ) (v : ObjView V) → HasSeen tells files faults secrets power v → (P : Secrets → ℕ → Type 0) → P secrets power
      → BeganSo (λ b. P b.secrets b.power) v.known
  began-so secrets power v seen P p = (
    began_of seen.last,
    seen.tells_all.opening,
    subst (λ (q : ℕ). P seen.last.secrets q) (sym seen.power_is) (subst (λ (s : Secrets). P s power) (sym seen.secrets_are) p),
  )

  -- after a turn they are nodes still
  pub shared-after : (w next : SharedNodes V) (place : ℕ) (step : Kept V → Kept V → Type 0) → IsShared tells files faults w
      → HasTurn tells files faults w place step next → ((k n : Kept V) → step k n → IsSameDir tells files faults k n) → IsShared tells files faults next
  shared-after w next place step is had same = go had.turn
    where
      go : InTurn tells files faults step had.before had.after → IsShared tells files faults next
      go (k, n, turn, made) =
          subst (λ (x : SharedNodes V). IsShared tells files faults x) (sym had.left)
          (still-shared tells files faults w is place had.before had.after (slice_set w.lanes place had.after) w.asks
          (puts w.lanes place had.before had.after had.at)
          (has-seen tells files faults w.secrets w.power had.before (is.lanes place had.before had.at) k n had.after turn (same k n made)))

  -- what stands at a device may stand there
  pub may-stand : (w : SharedNodes V) → IsShared tells files faults w → (device : ℕ) (hash : Hash) → device < w.devices
      → MayStand device hash (shared_sight tells files faults w)
  may-stand w is device hash below alone =
      let place : ℕ = lock_of w.lock_bits w.power device hash in
      let within : place < length w.lanes = subst (λ (n : ℕ). place < n) (sym is.count)
      (lock-within w.lock_bits w.devices device (stripe_at w.lock_bits w.power (partition_of hash w.power)) below
      (stripe-below w.lock_bits w.power (partition_of hash w.power))) in
      let there = there-is w.lanes place within in
      let seen = is.lanes place there.0 there.1 in
      subst (λ o. (seen_in tells files faults o).told ≡ true → CanStand obj_rules (seen_in tells files faults o) hash (held_in tells files faults o hash))
      (sym there.1) (subst (λ o. (seen_last tells files faults o).told ≡ true
      → CanStand obj_rules (seen_last tells files faults o) hash (held_last tells files faults o hash)) (sym seen.last_is) (λ told. seen.stands told hash))

  -- ---- calls

  pub made-door : (w next : SharedNodes V) (device : ℕ) (name : Name) (link : Link) (change : Change) (answer : Answer) → IsShared tells files faults w
      → HasTurn tells files faults w (lock_of w.lock_bits w.power device name.hash) (λ k n. IsStep tells files faults k name change answer n) next
      → Calls (IsMade link device name change) (shared_sight tells files faults w) link (Ok answer) (shared_sight tells files faults next)
  made-door w next device name link change answer is had =
      let place : ℕ = lock_of w.lock_bits w.power device name.hash in
      subst (λ (x : SharedNodes V). Calls (IsMade link device name change) (shared_sight tells files faults w) link (Ok answer)
      (shared_sight tells files faults x)) (sym had.left)
      (door-made tells files faults w is device name had.before had.after (slice_set w.lanes place had.after)
      (puts w.lanes place had.before had.after had.at) link change answer had.turn)

  pub read-door : (w next : SharedNodes V) (device : ℕ) (name : Name) (link : Link) (got : Got) → IsShared tells files faults w
      → HasTurn tells files faults w (lock_of w.lock_bits w.power device name.hash) (λ k n. IsReadStep tells files faults k name got n) next
      → Calls (IsRead link device name) (shared_sight tells files faults w) link (Ok got) (shared_sight tells files faults next)
  read-door w next device name link got is had =
      let place : ℕ = lock_of w.lock_bits w.power device name.hash in
      subst (λ (x : SharedNodes V). Calls (IsRead link device name) (shared_sight tells files faults w) link (Ok got)
      (shared_sight tells files faults x)) (sym had.left)
      (door-read tells files faults w is device name had.before had.after (slice_set w.lanes place had.after)
      (puts w.lanes place had.before had.after had.at) link got had.turn)
