-- Why a world stays one: opened, lifted, set down and looked at.
use Rattle.std.proofs.Common.{◌≡◌, ℕ, suc, zero, ◌+◌, ◌-◌, ◌*◌, ◌^◌, ◌<◌, ◌≤◌, Bool, true, false, List, [], ◌∷◌, ◌++◌, length, map, refl, sym, ◌∙◌, ap}
use Rattle.std.proofs.Common.{subst, arith, Option, None, Some, ◌⊎◌, inl, inr, All}
use Rattle.std.specs.Option.{option_map}
use Rattle.std.specs.List.{slice_get}
use Rattle.std.specs.declared.alloc.Global.{Global}
use Rattle.std.specs.declared.vec.Vec.{Vec}
use Rattle.std.proofs.Math.Nat.{mul-le-mul_right, suc-mul}
use Rattle.std.proofs.lemmas.Bool.{and_cases, and_parts, cases_Bool, cases_lt, leb-false, leb-true, ltb-false, ltb-true}
use Rattle.std.proofs.lemmas.List.{length-map}
use Rattle.std.proofs.lemmas.List.Elements.{All-get_or}
use Rattle.std.proofs.lemmas.Option.{get_or_from_slice_get, slice_get-map, slice_get_past, slice_get_within}
use Rattle.sw_hashpath.specs.HashParts.{partition_of}
use Rattle.sw_hashpath.specs.declared.secrets.Secrets.{Secrets}
use Rattle.sw_container_locks.specs.declared.cont_slot.ContSlot.{ContSlot}
use Rattle.sw_objdir.specs.Directories.{Kept, started, steps_of}
use Rattle.sw_outside.specs.Faults.{HasRisen}
use Rattle.sw_object_steps.specs.Rules.{ObjHistory}
use Rattle.sw_object_steps.specs.Journals.{Hash}
use Rattle.sw_peer.specs.Sights.{IsListed}
use Rattle.sw_peer.specs.declared.line.Event.TheVariants.{Listed}
use Rattle.sw_peer.specs.declared.line.Line.{Line}
use Rattle.sw_peer.specs.declared.link.Link.TheVariants.{Local}
use Rattle.sw_volume.specs.Tree.{Folders}
use Rattle.sw_core.proofs.Apart.{apart-from}
use Rattle.sw_core.proofs.Placed.{stripe-below}
use Rattle.sw_core.proofs.Slots.{same-some}
use Rattle.sw_core.proofs.Wholes.{none-some, open-at}
use Rattle.sw_core.specs.Limits.{journal_entries}
use Rattle.sw_core.specs.Listing.{AreLookedAt, IsLookedAt}
use Rattle.sw_core.specs.Worlds.{AllNodes, KeeperSeen, AreLifted, AreSetDown, HasRoom, IsSlot, IsWorld, first_of, held_of, is_out, lock_of, past_of, seen_of}
use Rattle.sw_core.specs.Worlds.{sight_of}
use Rattle.sw_core.specs.Worlds.{stripe_at}
use Rattle.sw_core.specs.declared.slot.Slot.{Slot}
use Rattle.sw_core.specs.declared.slot.Slot.TheVariants as slots

-- ---- lists

-- lists with the same at each index are one
pub same-places : {X : Type 0} (xs ys : List X) → length xs ≡ length ys → ((i : ℕ) (y : X) → slice_get ys i ≡ Some y → slice_get xs i ≡ Some y) → xs ≡ ys
same-places [] [] same at = refl
same-places [] (y ∷ ys) same at = absurd (omega arith)
same-places (x ∷ xs) [] same at = absurd (omega arith)
same-places (x ∷ xs) (y ∷ ys) same at =
    let first : x ≡ y = same-some x y (at zero y refl) in
    let rest : xs ≡ ys = same-places xs ys (omega arith) (λ i z is. at (suc i) z is) in
    cc

-- an index within a list has something
pub there-is : {X : Type 0} (xs : List X) (i : ℕ) → i < length xs → (x : X) × (slice_get xs i ≡ Some x)
there-is [] i within = absurd (omega arith)
there-is (x ∷ xs) zero within = (x, refl)
there-is (x ∷ xs) (suc i) within = there-is xs i (omega arith)

-- what holds of all holds of one
all-at : {X : Type 0} (P : X → Type 0) (xs : List X) (i : ℕ) → All P xs → i < length xs → (x : X) × (slice_get xs i ≡ Some x) × P x
all-at P xs i all within =
    let at = there-is xs i within in
    (at.0, at.1, subst P (get_or_from_slice_get xs i at.0 at.0 at.1) (All-get_or P xs i at.0 within all))

-- ---- the locks of the device that is out

-- a lock is one of them, or before or past them
pub out-cases : (bits device l : ℕ) → ((is_out bits (Some device) l ≡ true) × (first_of bits device ≤ l) × (l < past_of bits device))
    ⊎ ((is_out bits (Some device) l ≡ false) × ((l < first_of bits device) ⊎ (past_of bits device ≤ l)))
out-cases bits device l = elim (cases_Bool (is_out bits (Some device) l)) [
  | inl out ↦
      let both = and_parts _ _ out in
      inl (out, leb-true (first_of bits device) l both.0, ltb-true l (past_of bits device) both.1)
  | inr in_place ↦ inr (
    in_place,
    elim (and_cases _ _ in_place) [
      | inl low ↦ inl (leb-false (first_of bits device) l low)
      | inr high ↦ inr (ltb-false l (past_of bits device) high)
    ],
  )
]

-- ---- opened

module _ {V : Type 0} (secrets : Secrets) (power max_bytes : ℕ) (volumes : List V) (lifted new : List (Slot V)) (count : length lifted ≡ length volumes)
    (out : All (λ slot. slot ≡ slots.Lifted secrets) lifted) (down : AreSetDown power max_bytes 0 volumes lifted new) where
  abbrev begun : V → Slot V
  begun v = slots.Open (started v secrets power journal_entries max_bytes)

  begun-at : (l : ℕ) (v : V) → slice_get volumes l ≡ Some v → slice_get new l ≡ Some (begun v)
  begun-at l v is =
      let within : l < length lifted = let less = slice_get_within volumes l v is in omega (arith, less, count) in
      let was = all-at (λ slot. slot ≡ slots.Lifted secrets) lifted l out within in
      let place : 0 + l ≡ l = omega arith in
      let stood : slice_get lifted (0 + l) ≡ Some (slots.Lifted secrets) = ap (slice_get lifted) place ∙ (was.1 ∙ ap Some was.2) in
      ap (slice_get new) (sym place) ∙ down.within l v secrets is stood

  pub opened-slots : new ≡ map begun volumes
  opened-slots = same-places new (map begun volumes) (down.count ∙ (count ∙ sym (length-map volumes begun))) at
    where
      at : (l : ℕ) (y : Slot V) → slice_get (map begun volumes) l ≡ Some y → slice_get new l ≡ Some y
      at l y is =
          let below : l < length volumes = rw (← length-map volumes begun) (slice_get_within (map begun volumes) l y is) in
          let v = there-is volumes l below in
          begun-at l v.0 v.1 ∙ (sym (slice_get-map begun volumes l ∙ ap (option_map begun) v.1) ∙ is)

  pub opened-world : (devices bits : ℕ) (lines : List Line) (asks : ℕ) {K : Type 0} (containers : List (ContSlot K)) → devices ≤ 256 → bits ≤ 4 → bits ≤ power →
      1 ≤ power → power ≤ 32 → length volumes ≡ devices * 2 ^ bits
      → IsWorld (record {
        devices = devices;
        lock_bits = bits;
        power = power;
        secrets = secrets;
        slots = new;
        lines = lines;
        max_bytes = max_bytes;
        asks = asks;
        lifted = None;
        containers = containers;
      })
  opened-world devices bits lines asks {K} containers few narrow fine least greatest amount = record {
    devices = few;
    lock_bits = narrow;
    least = least;
    greatest = greatest;
    fine = fine;
    count = down.count ∙ (count ∙ amount);
    out = λ device is. cc;
    slots = λ l h.
        let v = there-is volumes l (omega (arith, h, down.count, count)) in
        (started v.0 secrets power journal_entries max_bytes, begun-at l v.0 v.1, refl, refl, (refl, refl));
  }

-- ---- lifted and set down

module _ {V K : Type 0} (w : AllNodes V K) (is : IsWorld w) (device : ℕ) where
  -- the locks of the device have open directories
  pub open-among : w.lifted ≡ None → device < w.devices → (l : ℕ) → first_of w.lock_bits device ≤ l → l < past_of w.lock_bits device
      → (k : Kept V) × (slice_get w.slots l ≡ Some (slots.Open k))
  open-among whole below l from to =
      let further : (suc device) * 2 ^ w.lock_bits ≤ w.devices * 2 ^ w.lock_bits =
      mul-le-mul_right {m = suc device} {n = w.devices} (2 ^ w.lock_bits) (omega (arith, below)) in
      let past : (suc device) * 2 ^ w.lock_bits ≡ device * 2 ^ w.lock_bits + 2 ^ w.lock_bits = suc-mul device (2 ^ w.lock_bits) in
      let there = open-at w is whole l (omega (arith, is.count, to, further, past)) in
      (there.0, there.1)

  pub lifted-world : (new : List (Slot V)) (given : List V) (lines : List Line) (containers : List (ContSlot K)) → w.lifted ≡ None → device < w.devices
      → AreLifted (first_of w.lock_bits device) (past_of w.lock_bits device) w.slots new given
      → IsWorld (record w { slots = new; lines = lines; lifted = Some device; containers = containers })
  lifted-world new given lines containers whole below up = record {
    devices = is.devices;
    lock_bits = is.lock_bits;
    least = is.least;
    greatest = is.greatest;
    fine = is.fine;
    count = up.count ∙ is.count;
    out = λ d same. let equal : device ≡ d = same-some device d same in subst (λ (e : ℕ). e < w.devices) equal below;
    slots = λ l h. slot l (subst (λ (n : ℕ). l < n) up.count h) (out-cases w.lock_bits device l);
  }
    where
      slot : (l : ℕ) → l < length w.slots → ((is_out w.lock_bits (Some device) l ≡ true) × (first_of w.lock_bits device ≤ l) × (l < past_of w.lock_bits device))
          ⊎ ((is_out w.lock_bits (Some device) l ≡ false) × ((l < first_of w.lock_bits device) ⊎ (past_of w.lock_bits device ≤ l)))
          → IsSlot w.secrets w.power w.max_bytes (is_out w.lock_bits (Some device) l) (slice_get new l)
      slot l h (inl out) =
          let there = open-at w is whole l h in
          subst (λ (b : Bool). IsSlot w.secrets w.power w.max_bytes b (slice_get new l)) (sym out.0)
          (up.within l there.0 out.1 out.2 there.1 ∙ ap (λ (s : Secrets). Some (slots.Lifted s)) there.2)
      slot l h (inr apart) =
          let there = open-at w is whole l h in
          subst (λ (b : Bool). IsSlot w.secrets w.power w.max_bytes b (slice_get new l)) (sym apart.0)
          (there.0, up.outside l apart.1 ∙ there.1, there.2, there.3, there.4)

  pub set-world : (new : List (Slot V)) (volumes : List V) (lines : List Line) (containers : List (ContSlot K)) → w.lifted ≡ Some device →
      length volumes ≡ 2 ^ w.lock_bits
      → AreSetDown w.power w.max_bytes (first_of w.lock_bits device) volumes w.slots new
      → IsWorld (record w { slots = new; lines = lines; lifted = None; containers = containers })
  set-world new volumes lines containers out amount down = record {
    devices = is.devices;
    lock_bits = is.lock_bits;
    least = is.least;
    greatest = is.greatest;
    fine = is.fine;
    count = down.count ∙ is.count;
    out = λ d same. cc;
    slots = λ l h. slot l (subst (λ (n : ℕ). l < n) down.count h) (out-cases w.lock_bits device l);
  }
    where
      was : (l : ℕ) → l < length w.slots → IsSlot w.secrets w.power w.max_bytes (is_out w.lock_bits (Some device) l) (slice_get w.slots l)
      was l h = subst (λ (o : Option ℕ). IsSlot w.secrets w.power w.max_bytes (is_out w.lock_bits o l) (slice_get w.slots l)) out (is.slots l h)

      slot : (l : ℕ) → l < length w.slots → ((is_out w.lock_bits (Some device) l ≡ true) × (first_of w.lock_bits device ≤ l) × (l < past_of w.lock_bits device))
          ⊎ ((is_out w.lock_bits (Some device) l ≡ false) × ((l < first_of w.lock_bits device) ⊎ (past_of w.lock_bits device ≤ l)))
          → IsSlot w.secrets w.power w.max_bytes false (slice_get new l)
      slot l h (inl at) =
          let stood : slice_get w.slots l ≡ Some (slots.Lifted w.secrets) =
          subst (λ (b : Bool). IsSlot w.secrets w.power w.max_bytes b (slice_get w.slots l)) at.0 (was l h) in
          let from : first_of w.lock_bits device ≤ l = at.1 in
          let to : l < past_of w.lock_bits device = at.2 in
          let i : ℕ = l - first_of w.lock_bits device in
          let place : first_of w.lock_bits device + i ≡ l = omega (arith, from) in
          let less : i < length volumes = omega (arith, from, to, amount) in
          let v = there-is volumes i less in (
            started v.0 w.secrets w.power journal_entries w.max_bytes,
            ap (slice_get new) (sym place) ∙ down.within i v.0 w.secrets v.1 (ap (slice_get w.slots) place ∙ stood),
            refl,
            refl,
            (refl, refl),
          )
      slot l h (inr apart) =
          let there = subst (λ (b : Bool). IsSlot w.secrets w.power w.max_bytes b (slice_get w.slots l)) apart.0 (was l h) in
          (there.0, down.outside l (further l apart.1) ∙ there.1, there.2, there.3, there.4)
        where
          further : (l : ℕ) → (l < first_of w.lock_bits device) ⊎ (past_of w.lock_bits device ≤ l)
              → (l < first_of w.lock_bits device) ⊎ (first_of w.lock_bits device + length volumes ≤ l)
          further l (inl low) = inl low
          further l (inr high) = inr (omega (arith, high, amount))

-- room for the line of a restart
pub roomy-out : {V : Type 0} (old new : List (Slot V)) (room : Vec V Global) (lines lines_now spare spare_now : Vec Line Global)
    (lifted : Option ℕ) (device : ℕ) → length new ≡ length old
    → (spare_now.items ≡ []) × (1 ≤ spare_now.cap) → length lines_now.items < lines_now.cap
    → HasRoom old room lines spare lifted → HasRoom new room lines_now spare_now (Some device)
roomy-out old new room lines lines_now spare spare_now lifted device same spared line has = record {
  empty = has.empty;
  wide = rw same has.wide;
  spared = λ out. spared;
  line = λ out. inr line;
}

-- no line of a restart is owed
pub roomy-in : {V : Type 0} (old new : List (Slot V)) (room : Vec V Global) (lines lines_now spare spare_now : Vec Line Global)
    (lifted : Option ℕ) → length new ≡ length old
    → HasRoom old room lines spare lifted → HasRoom new room lines_now spare_now None
roomy-in old new room lines lines_now spare spare_now lifted same has = record {
  empty = has.empty;
  wide = rw same has.wide;
  spared = λ out. none-some None refl out;
  line = λ out. none-some None refl out;
}

-- ---- looked at

module _ {V K : Type 0} (tells : V → Bool) (files : V → Folders) (faults : V → ℕ) (keeps : KeeperSeen K) (w : AllNodes V K) (is : IsWorld w)
    (whole : w.lifted ≡ None) (device : ℕ)
    (new : List (Slot V)) (lines : List Line)
    (looked : AreLookedAt tells files faults (first_of w.lock_bits device) (past_of w.lock_bits device) w.slots new) where
  pub looked-world : IsWorld (record w { slots = new; lines = lines })
  looked-world = record {
    devices = is.devices;
    lock_bits = is.lock_bits;
    least = is.least;
    greatest = is.greatest;
    fine = is.fine;
    count = looked.count ∙ is.count;
    out = is.out;
    slots = λ l h. slot l (subst (λ (n : ℕ). l < n) looked.count h);
  }
    where
      slot : (l : ℕ) → l < length w.slots → IsSlot w.secrets w.power w.max_bytes (is_out w.lock_bits w.lifted l) (slice_get new l)
      slot l h =
          let there = open-at w is whole l h in
          let now = looked.within l there.0 there.1 in
          let same = now.2.looks.same in
          subst (λ (o : Option ℕ). IsSlot w.secrets w.power w.max_bytes (is_out w.lock_bits o l) (slice_get new l)) (sym whole) (
            now.0,
            now.1,
            same.secrets ∙ there.2,
            same.power ∙ there.3,
            (ap (λ j. j.max_entries) now.2.journal ∙ there.4.0, ap (λ j. j.max_bytes) now.2.journal ∙ there.4.1),
          )

  -- nothing of a history changed but its count of faults
  history-looked : (k n : Kept V) → IsLookedAt tells files faults k n
      → steps_of tells files faults n ≡ record (steps_of tells files faults k) { faults = faults n.volume }
  history-looked k n at =
      let same = at.looks.same in
      rw (same.began, same.secrets, same.power, at.journal) refl

  abbrev old-seen : ℕ → ObjHistory
  old-seen l = seen_of tells files faults (slice_get w.slots l)

  abbrev new-seen : ℕ → ObjHistory
  new-seen l = seen_of tells files faults (slice_get new l)

  -- a lock after it was looked at
  seen-looked : (l : ℕ) → (new-seen l ≡ record (old-seen l) { faults = (new-seen l).faults }) × ((old-seen l).faults ≤ (new-seen l).faults)
  seen-looked l = elim (cases_lt l (length w.slots)) [
    | inl within ↦
        let there = open-at w is whole l within in
        let now = looked.within l there.0 there.1 in
        let same = history-looked there.0 now.0 now.2 in
        let later = now.2.looks.later in
        rw (there.1, now.1) (same, later)
    | inr past ↦
        let none = slice_get_past w.slots l past in
        let also = slice_get_past new l (subst (λ (n : ℕ). n ≤ l) (sym looked.count) past) in
        rw (none, also) (refl, omega arith)
  ]

  held-looked : (l : ℕ) (hash : Hash) → held_of tells files faults (slice_get new l) hash ≡ held_of tells files faults (slice_get w.slots l) hash
  held-looked l hash = elim (cases_lt l (length w.slots)) [
    | inl within ↦
        let there = open-at w is whole l within in
        let now = looked.within l there.0 there.1 in
        rw (there.1, now.1) (now.2.held hash)
    | inr past ↦
        let none = slice_get_past w.slots l past in
        let also = slice_get_past new l (subst (λ (n : ℕ). n ≤ l) (sym looked.count) past) in
        rw (none, also) refl
  ]

  pub listed : (failed : Bool) → lines ≡ w.lines ++ record { device = device; link = Local; event = Listed failed; added = [] } ∷ []
      → (failed ≡ true → (l : ℕ) × HasRisen (old-seen l).faults (new-seen l).faults)
      → IsListed device failed (sight_of tells files faults keeps w) (sight_of tells files faults keeps (record w { slots = new; lines = lines }))
  listed failed items risen = record {
    nodes = refl;
    same = λ l. (seen-looked l).0;
    later = λ l. (seen-looked l).1;
    others = λ d hash away. ap (seen_of tells files faults) (looked.outside (lock_of w.lock_bits w.power d hash)
        (apart-from (2 ^ w.lock_bits) d device (stripe_at w.lock_bits w.power (partition_of hash w.power))
        (stripe-below w.lock_bits w.power (partition_of hash w.power)) away));
    risen = risen;
    holds = λ d hash. held-looked (lock_of w.lock_bits w.power d hash) hash;
    alone = refl;
    containers = refl;
    counts = (refl, refl);
    trail = ap Some items;
  }
