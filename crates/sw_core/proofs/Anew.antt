-- A device that is lifted and set down over the same volumes was restarted.
use Rattle.std.proofs.Common.{◌≡◌, ◌≢◌, ℕ, ◌+◌, ◌*◌, ◌^◌, ◌<◌, ◌≤◌, Bool, true, List, [], ◌∷◌, ◌++◌, length, refl, sym, ◌∙◌, ap, subst, arith}
use Rattle.std.proofs.Common.{Option, None, Some, ◌⊎◌, inl, inr}
use Rattle.std.specs.List.{slice_get}
use Rattle.std.proofs.lemmas.Nat.{rows}
use Rattle.sw_hashpath.specs.HashParts.{partition_of}
use Rattle.sw_objdir.proofs.Looking.{values-told}
use Rattle.sw_objdir.specs.Directories.{Kept, is_told, started, steps_of, value_at, values_of}
use Rattle.sw_object_steps.specs.Rules.{ObjHistory}
use Rattle.sw_object_steps.specs.Journals.{Hash}
use Rattle.sw_peer.specs.Sights.{Restarts}
use Rattle.sw_volume.specs.Tree.{Folders}
use Rattle.sw_core.proofs.Apart.{apart-from}
use Rattle.sw_core.proofs.Containing.{device-restarts}
use Rattle.sw_core.proofs.Placed.{stripe-below}
use Rattle.sw_core.proofs.Wholes.{open-at}
use Rattle.sw_core.specs.Limits.{journal_entries}
use Rattle.sw_core.specs.Worlds.{AllNodes, KeeperSeen, HasLimits, IsWorld, Lifts, SetsDown, TellsOn, held_of, keepers_in, lock_of, past_of, first_of}
use Rattle.sw_core.specs.Worlds.{restart_line, seen_of}
use Rattle.sw_core.specs.Worlds.{sight_of, volumes_in}
use Rattle.sw_core.specs.Worlds.{stripe_at}
use Rattle.sw_core.specs.declared.slot.Slot.{Slot}
use Rattle.sw_core.specs.declared.slot.Slot.TheVariants as slots

module _ {V K : Type 0} (tells : V → Bool) (files : V → Folders) (faults : V → ℕ) (keeps : KeeperSeen K) (old mid new : AllNodes V K) (device : ℕ)
    (given : List (V × K))
    (whole : old.lifted ≡ None) (below : device < old.devices) (up : Lifts tells files faults keeps old device given mid) (sets : SetsDown mid device given new)
  where
    is : IsWorld old
    is = up.world

    abbrev bits : ℕ
    bits = old.lock_bits

    abbrev locked : Hash → ℕ
    locked hash = lock_of old.lock_bits old.power device hash

    abbrev between : AllNodes V K
    between = record old { slots = mid.slots; containers = mid.containers; lifted = Some device }

    down : SetsDown between device given new
    down = subst (λ (m : AllNodes V K). SetsDown m device given new) up.rest sets

    abbrev after : AllNodes V K
    after = record old { slots = new.slots; lines = old.lines ++ restart_line device ∷ []; lifted = None; containers = new.containers }

    low : (hash : Hash) → stripe_at old.lock_bits old.power (partition_of hash old.power) < 2 ^ old.lock_bits
    low hash = stripe-below old.lock_bits old.power (partition_of hash old.power)

    inside : (hash : Hash) → locked hash < length old.slots
    inside hash =
        let less = low hash in
        let within : locked hash < old.devices * 2 ^ old.lock_bits = grind (arith, rows) in
        rw is.count within

    abbrev there : (hash : Hash) → (k : Kept V) × (slice_get old.slots (locked hash) ≡ Some (slots.Open k))
    there hash = let at = open-at old is whole (locked hash) (inside hash) in (at.0, at.1)

    abbrev begun : Hash → Kept V
    begun hash = started (there hash).0.volume (there hash).0.secrets old.power journal_entries old.max_bytes

    powers : (hash : Hash) → (there hash).0.power ≡ old.power
    powers hash = (open-at old is whole (locked hash) (inside hash)).3

    limits : (hash : Hash) → HasLimits old.max_bytes (there hash).0
    limits hash = (open-at old is whole (locked hash) (inside hash)).4

    here : (hash : Hash) → slice_get new.slots (locked hash) ≡ Some (slots.Open (begun hash))
    here hash =
        let less = low hash in
        let within : locked hash < past_of old.lock_bits device = omega (arith, less) in
        let lifted = up.lifted.within (locked hash) (there hash).0 (omega arith) within (there hash).1 in
        let volume = up.lifted.gives (stripe_at old.lock_bits old.power (partition_of hash old.power)) (there hash).0 within (there hash).1 in
        down.down.within (stripe_at old.lock_bits old.power (partition_of hash old.power)) (there hash).0.volume (there hash).0.secrets volume lifted

    tells-on : (hash : Hash) → TellsOn tells files faults (there hash).0
    tells-on hash =
        let less = low hash in
        up.told (locked hash) (there hash).0 (omega arith) (omega (arith, less)) (there hash).1

    told-begun : (hash : Hash) → is_told tells files faults (there hash).0 ≡ true → is_told tells files faults (begun hash) ≡ true
    told-begun hash told =
        subst (λ (p : ℕ). is_told tells files faults (started (there hash).0.volume (there hash).0.secrets p journal_entries old.max_bytes) ≡ true)
        (powers hash) (tells-on hash told)

    -- the same files stand for the same
    held-begun : (hash : Hash) → is_told tells files faults (there hash).0 ≡ true → values_of tells files faults (begun hash) hash
        ≡ values_of tells files faults (there hash).0 hash
    held-begun hash told =
        values-told tells files faults (begun hash) hash (told-begun hash told)
        ∙ (ap (λ (p : ℕ). value_at (there hash).0.secrets p (files (there hash).0.volume) hash) (sym (powers hash))
        ∙ sym (values-told tells files faults (there hash).0 hash told))

    opening-begun : (hash : Hash) → is_told tells files faults (there hash).0 ≡ true
        → value_at (there hash).0.secrets old.power (files (there hash).0.volume) hash
        ≡ values_of tells files faults (there hash).0 hash
    opening-begun hash told =
        ap (λ (p : ℕ). value_at (there hash).0.secrets p (files (there hash).0.volume) hash) (sym (powers hash))
        ∙ sym (values-told tells files faults (there hash).0 hash told)

    seen-old : (hash : Hash) → seen_of tells files faults (slice_get old.slots (locked hash)) ≡ steps_of tells files faults (there hash).0
    seen-old hash = ap (seen_of tells files faults) (there hash).1

    told-old : (hash : Hash) → (seen_of tells files faults (slice_get old.slots (locked hash))).told ≡ true → is_told tells files faults (there hash).0 ≡ true
    told-old hash told = sym (ap (λ (h : ObjHistory). h.told) (seen-old hash)) ∙ told

    elsewhere : (d : ℕ) (hash : Hash) → d ≢ device → slice_get new.slots (lock_of old.lock_bits old.power d hash) ≡ slice_get old.slots
        (lock_of old.lock_bits old.power d hash)
    elsewhere d hash away =
        let out = apart-from (2 ^ old.lock_bits) d device (stripe_at old.lock_bits old.power (partition_of hash old.power))
        (stripe-below old.lock_bits old.power (partition_of hash old.power)) away in
        down.down.outside (lock_of old.lock_bits old.power d hash) (further (lock_of old.lock_bits old.power d hash) out) ∙ up.lifted.outside
        (lock_of old.lock_bits old.power d hash) out
      where
        further : (l : ℕ) → (l < first_of old.lock_bits device) ⊎ (past_of old.lock_bits device ≤ l)
            → (l < first_of old.lock_bits device) ⊎ (first_of old.lock_bits device + length (volumes_in given) ≤ l)
        further l (inl low) = inl low
        further l (inr high) = let amount = up.lifted.amount in inr (omega (arith, amount, high))

    restarts-after : Restarts device (sight_of tells files faults keeps old) (sight_of tells files faults keeps after)
    restarts-after = record {
      nodes = sym (ap (λ (o : Option ℕ). (sight_of tells files faults keeps (record old { lifted = o })).nodes) whole);
      objects = record {
        others = λ d hash away. ap (seen_of tells files faults) (elsewhere d hash away);
        told = λ hash told. rw (here hash) (told-begun hash (told-old hash told));
        opening = λ alone hash told. rw (here hash)
            (opening-begun hash (told-old hash told) ∙ ap (λ (o : Option (Slot V)). held_of tells files faults o hash) (sym (there hash).1));
        entries = λ hash. rw (here hash) refl;
        doubts = λ hash. rw (here hash) refl;
        max_entries = λ hash. rw (here hash, (there hash).1) (sym (limits hash).0);
        max_bytes = λ hash. rw (here hash, (there hash).1) (sym (limits hash).1);
        faults = λ hash. rw (here hash, (there hash).1) (omega arith);
        holds = λ alone hash told. rw (here hash)
            (held-begun hash (told-old hash told) ∙ ap (λ (o : Option (Slot V)). held_of tells files faults o hash) (sym (there hash).1));
        elsewhere = λ alone d hash away. ap (λ (o : Option (Slot V)). held_of tells files faults o hash) (elsewhere d hash away);
      };
      alone = refl;
      containers = device-restarts keeps old.lock_bits old.power device old.containers mid.containers new.containers (keepers_in given) up.containers
          down.containers;
      counts = (refl, refl);
      trail = refl;
    }

    pub restarts : Restarts device (sight_of tells files faults keeps old) (sight_of tells files faults keeps new)
    restarts = subst (λ (w : AllNodes V K). Restarts device (sight_of tells files faults keeps old) (sight_of tells files faults keeps w)) (sym down.rest)
        restarts-after
