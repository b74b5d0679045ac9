-- What nodes that are stopped give back, by its places.
use Rattle.std.proofs.Common.{◌≡◌, ℕ, zero, suc, ◌+◌, ◌*◌, ◌^◌, ◌<◌, ◌≤◌, Bool, true, false, List, [], ◌∷◌, ◌++◌, length, take, drop, refl, sym, ◌∙◌, ap, subst}
use Rattle.std.proofs.Common.{arith, zip, Option, None, Some, ◌⊎◌, inl, inr}
use Rattle.std.specs.List.{flat_map, slice_get}
use Rattle.std.proofs.Math.Nat.{min-eq_left}
use Rattle.std.proofs.lemmas.Grind.{flat_map-append}
use Rattle.std.proofs.lemmas.List.{length-append, length-take, take-append-drop}
use Rattle.std.proofs.lemmas.Nat.{rows}
use Rattle.sw_container_db.specs.ContDirs.{ContKept}
use Rattle.sw_container_locks.specs.Slots.{keeper_in, keepers_of}
use Rattle.sw_container_locks.specs.declared.cont_slot.ContSlot.{ContSlot}
use Rattle.sw_container_locks.specs.declared.cont_slot.ContSlot.TheVariants as cont_slots
use Rattle.sw_hashpath.specs.declared.secrets.Secrets.{Secrets}
use Rattle.sw_objdir.specs.Directories.{Kept}
use Rattle.sw_core.proofs.Keeping.{out-cases}
use Rattle.sw_core.proofs.Wholes.{some-same}
use Rattle.sw_core.specs.Stopping.{Gives, gap_first, gap_past}
use Rattle.sw_core.specs.Worlds.{AllNodes, AreContainers, IsContSlot, IsSlot, IsWorld, first_of, is_out, parts_of, past_of, volume_in}
use Rattle.sw_core.specs.declared.slot.Slot.{Slot}
use Rattle.sw_core.specs.declared.slot.Slot.TheVariants as slots

get-left : {A : Type 0} (ys zs : List A) (l : ℕ) → l < length ys → slice_get (ys ++ zs) l ≡ slice_get ys l
get-left [] zs l h = absurd (omega (arith, h))
get-left (y ∷ ys) zs zero h = refl
get-left (y ∷ ys) zs (suc l) h = get-left ys zs l (omega (arith, h))

get-right : {A : Type 0} (ys zs : List A) (n l : ℕ) → n ≡ length ys + l → slice_get (ys ++ zs) n ≡ slice_get zs l
get-right [] zs n l is = let same : n ≡ l = omega (arith, is) in ap (slice_get zs) same
get-right (y ∷ ys) zs zero l is = absurd (omega (arith, is))
get-right (y ∷ ys) zs (suc n) l is = get-right ys zs n l (omega (arith, is))

-- ---- a list in which some places give one thing, and those of a gap nothing

module _ {X Y : Type 0} (gives : X → List Y) where
  -- this place gives this
  abbrev GivesAt : List X → ℕ → Y → Type 0
  GivesAt xs l y = (x : X) × (slice_get xs l ≡ Some x) × (gives x ≡ y ∷ [])

  abbrev AllGive : List X → Type 0
  AllGive xs = (l : ℕ) → l < length xs → (y : Y) × GivesAt xs l y

  abbrev NoneGives : List X → Type 0
  NoneGives xs = (l : ℕ) → l < length xs → (x : X) × (slice_get xs l ≡ Some x) × (gives x ≡ [])

  inside-some : (a b : X) → Some a ≡ Some b → a ≡ b
  inside-some a b same = cc

  -- where each place gives, each thing stands at its place
  each-gives : (xs : List X) → AllGive xs → (length (flat_map gives xs) ≡ length xs) ×
      ((l : ℕ) (y : Y) → GivesAt xs l y → slice_get (flat_map gives xs) l ≡ Some y)
  each-gives [] all = (refl, λ l y at. cc)
  each-gives (x ∷ xs) all =
      let first = all 0 (omega arith) in
      let is : gives x ≡ first.0 ∷ [] = ap gives (inside-some x first.1.0 first.1.1) ∙ first.1.2 in
      let rest = each-gives xs (λ l h. all (suc l) (omega (arith, h))) in
      let whole : flat_map gives (x ∷ xs) ≡ first.0 ∷ flat_map gives xs = ap (λ (ys : List Y). ys ++ flat_map gives xs) is in
      (ap length whole ∙ ap suc rest.0, at first.0 is whole rest.1)
    where
      at : (z : Y) → gives x ≡ z ∷ [] → flat_map gives (x ∷ xs) ≡ z ∷ flat_map gives xs
          → ((l : ℕ) (y : Y) → GivesAt xs l y → slice_get (flat_map gives xs) l ≡ Some y)
          → (l : ℕ) (y : Y) → GivesAt (x ∷ xs) l y → slice_get (flat_map gives (x ∷ xs)) l ≡ Some y
      at z is whole rest zero y given =
          let also : gives x ≡ y ∷ [] = ap gives (inside-some x given.0 given.1) ∙ given.2 in
          let same : z ≡ y = cc in
          ap (λ (ys : List Y). slice_get ys 0) whole ∙ ap Some same
      at z is whole rest (suc l) y given = ap (λ (ys : List Y). slice_get ys (suc l)) whole ∙ rest l y given

  none-given : (xs : List X) → NoneGives xs → flat_map gives xs ≡ []
  none-given [] all = refl
  none-given (x ∷ xs) all =
      let first = all 0 (omega arith) in
      let is : gives x ≡ [] = ap gives (inside-some x first.0 first.1) ∙ first.2 in
      ap (λ (ys : List Y). ys ++ flat_map gives xs) is ∙ none-given xs (λ l h. all (suc l) (omega (arith, h)))

  -- what is given before a gap and behind it
  record GivesAround (first past : ℕ) (xs : List X) : Type 0 where
    before : List Y
    behind : List Y
    all : flat_map gives xs ≡ before ++ behind
    low : length before ≡ first
    high : past + length behind ≡ length xs
    front : (l : ℕ) (y : Y) → l < first → GivesAt xs l y → slice_get before l ≡ Some y
    back : (l : ℕ) (y : Y) → GivesAt xs (past + l) y → slice_get behind l ≡ Some y

  without-gap : (xs : List X) → AllGive xs → GivesAround 0 0 xs
  without-gap xs all =
      let each = each-gives xs all in
      record {
        before = [];
        behind = flat_map gives xs;
        all = refl;
        low = refl;
        high = let size = each.0 in omega (arith, size);
        front = λ l y low at. absurd (omega (arith, low));
        back = λ l y at. let same : 0 + l ≡ l = omega arith in each.1 l y (at.0, ap (slice_get xs) (sym same) ∙ at.1, at.2);
      }

  module _ (xs : List X) (first n past : ℕ) (past_is : past ≡ first + n) (enough : past ≤ length xs)
      (outside : (l : ℕ) → l < length xs → (l < first) ⊎ (past ≤ l) → (y : Y) × GivesAt xs l y)
      (inside : (l : ℕ) → first ≤ l → l < past → (x : X) × (slice_get xs l ≡ Some x) × (gives x ≡ [])) where
    abbrev front : List X
    front = take first xs

    abbrev rest : List X
    rest = drop first xs

    abbrev gap : List X
    gap = take n (drop first xs)

    abbrev end : List X
    end = drop n (drop first xs)

    parts : xs ≡ front ++ (gap ++ end)
    parts = sym (take-append-drop first xs) ∙ ap (λ (ys : List X). front ++ ys) (sym (take-append-drop n rest))

    front-length : length front ≡ first
    front-length = length-take first xs ∙ min-eq_left {n = first} {m = length xs} (omega (arith, enough, past_is))

    total : length xs ≡ length front + (length gap + length end)
    total = ap length parts ∙ (length-append front (gap ++ end) ∙ ap (λ (m : ℕ). length front + m) (length-append gap end))

    rest-length : length xs ≡ first + length rest
    rest-length = ap length (sym (take-append-drop first xs)) ∙ (length-append front rest ∙ ap (λ (m : ℕ). m + length rest) front-length)

    gap-length : length gap ≡ n
    gap-length = length-take n rest ∙ min-eq_left {n = n} {m = length rest} (let amount = rest-length in omega (arith, enough, past_is, amount))

    at-front : (l : ℕ) → l < first → slice_get xs l ≡ slice_get front l
    at-front l h = let amount = front-length in ap (λ (ys : List X). slice_get ys l) parts ∙ get-left front (gap ++ end) l (omega (arith, h, amount))

    at-gap : (l : ℕ) → l < n → slice_get xs (first + l) ≡ slice_get gap l
    at-gap l h =
        let amount = front-length in let size = gap-length in
        ap (λ (ys : List X). slice_get ys (first + l)) parts
        ∙ (get-right front (gap ++ end) (first + l) l (omega (arith, amount)) ∙ get-left gap end l (omega (arith, h, size)))

    at-end : (l : ℕ) → slice_get xs (past + l) ≡ slice_get end l
    at-end l =
        let amount = front-length in let size = gap-length in
        ap (λ (ys : List X). slice_get ys (past + l)) parts
        ∙ (get-right front (gap ++ end) (past + l) (n + l) (omega (arith, amount, past_is)) ∙ get-right gap end (n + l) l (omega (arith, size)))

    front-gives : (length (flat_map gives front) ≡ length front) × ((l : ℕ) (y : Y) → GivesAt front l y → slice_get (flat_map gives front) l ≡ Some y)
    front-gives = each-gives front (λ l h.
        let amount = front-length in
        let low : l < first = omega (arith, h, amount) in
        let there = outside l (omega (arith, low, enough, past_is)) (inl low) in
        (there.0, (there.1.0, sym (at-front l low) ∙ there.1.1, there.1.2)))

    end-gives : (length (flat_map gives end) ≡ length end) × ((l : ℕ) (y : Y) → GivesAt end l y → slice_get (flat_map gives end) l ≡ Some y)
    end-gives = each-gives end (λ l h.
        let amount = front-length in let size = gap-length in let all = total in
        let there = outside (past + l) (omega (arith, h, amount, size, all, past_is)) (inr (omega arith)) in
        (there.0, (there.1.0, sym (at-end l) ∙ there.1.1, there.1.2)))

    gap-none : flat_map gives gap ≡ []
    gap-none = none-given gap (λ l h.
        let size = gap-length in
        let there = inside (first + l) (omega arith) (omega (arith, h, size, past_is)) in
        (there.0, sym (at-gap l (omega (arith, h, size))) ∙ there.1, there.2))

    around-gap : GivesAround first past xs
    around-gap = record {
      before = flat_map gives front;
      behind = flat_map gives end;
      all = ap (flat_map gives) parts ∙ (flat_map-append gives front (gap ++ end)
          ∙ ap (λ (ys : List Y). flat_map gives front ++ ys)
          (flat_map-append gives gap end ∙ ap (λ (ys : List Y). ys ++ flat_map gives end) gap-none));
      low = front-gives.0 ∙ front-length;
      high = let amount = front-length in let size = gap-length in let all = total in let each = end-gives.0 in omega (arith, amount, size, all, each, past_is);
      front = λ l y h at. front-gives.1 l y (at.0, sym (at-front l h) ∙ at.1, at.2);
      back = λ l y at. end-gives.1 l y (at.0, sym (at-end l) ∙ at.1, at.2);
    }

-- ---- the locks of nodes, each an object lock and the container lock beside it

module _ {V K : Type 0} where
  -- what the two of a lock give: both, or nothing
  abbrev part_in : Slot V × ContSlot K → List (V × K)
  part_in p = zip (volume_in p.0) (keeper_in p.1)

  -- both or neither of a lock are there
  abbrev IsBeside : Option (Slot V) → Option (ContSlot K) → Type 0
  IsBeside x y = ((k : Kept V) × (c : ContKept K) × (x ≡ Some (slots.Open k)) × (y ≡ Some (cont_slots.Open c)))
      ⊎ ((s : Secrets) × (x ≡ Some (slots.Lifted s)) × (y ≡ Some cont_slots.Lifted))

  -- of each lock of two lists
  abbrev AreBeside : List (Slot V) → List (ContSlot K) → Type 0
  AreBeside xs ys = (length xs ≡ length ys) × ((l : ℕ) → l < length xs → IsBeside (slice_get xs l) (slice_get ys l))

  -- so they give as many volumes as keepers, and each volume with its keeper
  pub beside-gives : (xs : List (Slot V)) (ys : List (ContSlot K)) → AreBeside xs ys
      → (length (flat_map volume_in xs) ≡ length (flat_map keeper_in ys))
      × (zip (flat_map volume_in xs) (flat_map keeper_in ys) ≡ flat_map part_in (zip xs ys))
  beside-gives [] [] are = (refl, refl)
  beside-gives [] (y ∷ ys) are = let same = are.0 in absurd (omega (arith, same))
  beside-gives (x ∷ xs) [] are = let same = are.0 in absurd (omega (arith, same))
  beside-gives (x ∷ xs) (y ∷ ys) are =
      by x y (are.1 0 (omega arith)) (beside-gives xs ys (let same = are.0 in omega (arith, same), λ l h. are.1 (suc l) (omega (arith, h))))
    where
      shut-apart : (c : ContKept K) → Some cont_slots.Lifted ≡ Some (cont_slots.Open c) → ⊥
      shut-apart c same = cc

      empty-apart : (c : ContKept K) → Some cont_slots.Empty ≡ Some (cont_slots.Open c) → ⊥
      empty-apart c same = cc

      open-apart : (k : Kept V) (s : Secrets) → Some (slots.Open k) ≡ Some (slots.Lifted s) → ⊥
      open-apart k s same = cc

      lifted-apart : (s : Secrets) (k : Kept V) → Some (slots.Lifted s) ≡ Some (slots.Open k) → ⊥
      lifted-apart s k same = cc

      none-apart : (k : Kept V) → Some slots.Empty ≡ Some (slots.Open k) → ⊥
      none-apart k same = cc

      cont-apart : (c : ContKept K) → Some (cont_slots.Open c) ≡ Some cont_slots.Lifted → ⊥
      cont-apart c same = cc

      by : (x : Slot V) (y : ContSlot K) → IsBeside (Some x) (Some y)
          → (length (flat_map volume_in xs) ≡ length (flat_map keeper_in ys))
          × (zip (flat_map volume_in xs) (flat_map keeper_in ys) ≡ flat_map part_in (zip xs ys))
          → (length (flat_map volume_in (x ∷ xs)) ≡ length (flat_map keeper_in (y ∷ ys)))
          × (zip (flat_map volume_in (x ∷ xs)) (flat_map keeper_in (y ∷ ys)) ≡ flat_map part_in (zip (x ∷ xs) (y ∷ ys)))
      by (slots.Open k) (cont_slots.Open c) beside rest = (ap suc rest.0, ap (λ (ps : List (V × K)). (k.volume, c.keeper) ∷ ps) rest.1)
      by (slots.Lifted s) cont_slots.Lifted beside rest = rest
      by slots.Empty cont_slots.Empty beside rest = rest
      by slots.Empty cont_slots.Lifted beside rest = rest
      by (slots.Lifted s) cont_slots.Empty beside rest = rest
      by (slots.Open k) cont_slots.Lifted (inl both) rest = absurd (shut-apart both.1 both.3)
      by (slots.Open k) cont_slots.Lifted (inr out) rest = absurd (open-apart k out.0 out.1)
      by (slots.Open k) cont_slots.Empty (inl both) rest = absurd (empty-apart both.1 both.3)
      by (slots.Open k) cont_slots.Empty (inr out) rest = absurd (open-apart k out.0 out.1)
      by (slots.Lifted s) (cont_slots.Open c) (inl both) rest = absurd (lifted-apart s both.0 both.2)
      by (slots.Lifted s) (cont_slots.Open c) (inr out) rest = absurd (cont-apart c out.2)
      by slots.Empty (cont_slots.Open c) (inl both) rest = absurd (none-apart both.0 both.2)
      by slots.Empty (cont_slots.Open c) (inr out) rest = absurd (cont-apart c out.2)

  -- what stands at a place of two lists
  zip-at : (xs : List (Slot V)) (ys : List (ContSlot K)) (l : ℕ) (x : Slot V) (y : ContSlot K) → slice_get xs l ≡ Some x → slice_get ys l ≡ Some y
      → slice_get (zip xs ys) l ≡ Some (x, y)
  zip-at [] ys l x y at also = cc
  zip-at (a ∷ xs) [] l x y at also = cc
  zip-at (a ∷ xs) (b ∷ ys) zero x y at also =
      let one : a ≡ x = some-same a x at in let other : b ≡ y = some-same b y also in cc
  zip-at (a ∷ xs) (b ∷ ys) (suc l) x y at also = zip-at xs ys l x y at also

  zip-long : (xs : List (Slot V)) (ys : List (ContSlot K)) → length xs ≡ length ys → length (zip xs ys) ≡ length xs
  zip-long [] [] same = refl
  zip-long [] (y ∷ ys) same = absurd (omega arith)
  zip-long (x ∷ xs) [] same = absurd (omega arith)
  zip-long (x ∷ xs) (y ∷ ys) same = ap suc (zip-long xs ys (omega arith))

  module _ (w : AllNodes V K) (is : IsWorld w) (are : AreContainers w.devices w.lock_bits w.lifted w.containers) where
    abbrev all : List (Slot V × ContSlot K)
    all = zip w.slots w.containers

    same-count : length w.slots ≡ length w.containers
    same-count = is.count ∙ sym are.count

    count : length all ≡ w.devices * 2 ^ w.lock_bits
    count = zip-long w.slots w.containers same-count ∙ is.count

    -- by whether a lock is one of the device that is out
    open-pair : (l : ℕ) → l < length w.slots → is_out w.lock_bits w.lifted l ≡ false
        → (k : Kept V) × (c : ContKept K) × (slice_get w.slots l ≡ Some (slots.Open k)) × (slice_get w.containers l ≡ Some (cont_slots.Open c))
    open-pair l h in_place =
        let slot = subst (λ (b : Bool). IsSlot w.secrets w.power w.max_bytes b (slice_get w.slots l)) in_place (is.slots l h) in
        let beside = subst (λ (b : Bool). IsContSlot b (slice_get w.containers l)) in_place (are.slots l (subst (λ (n : ℕ). l < n) same-count h)) in
        (slot.0, beside.0, slot.1, beside.1)

    lifted-pair : (l : ℕ) → l < length w.slots → is_out w.lock_bits w.lifted l ≡ true
        → (slice_get w.slots l ≡ Some (slots.Lifted w.secrets)) × (slice_get w.containers l ≡ Some cont_slots.Lifted)
    lifted-pair l h out = (
      subst (λ (b : Bool). IsSlot w.secrets w.power w.max_bytes b (slice_get w.slots l)) out (is.slots l h),
      subst (λ (b : Bool). IsContSlot b (slice_get w.containers l)) out (are.slots l (subst (λ (n : ℕ). l < n) same-count h)),
    )

    beside : AreBeside w.slots w.containers
    beside = (same-count, λ l h. by l h (is_out w.lock_bits w.lifted l) refl)
      where
        by : (l : ℕ) → l < length w.slots → (b : Bool) → is_out w.lock_bits w.lifted l ≡ b → IsBeside (slice_get w.slots l) (slice_get w.containers l)
        by l h false in_place = let pair = open-pair l h in_place in inl (pair.0, pair.1, pair.2, pair.3)
        by l h true out = let pair = lifted-pair l h out in inr (w.secrets, pair.0, pair.1)

    -- as many volumes are there as keepers
    pub same-parts : length (flat_map volume_in w.slots) ≡ length (keepers_of w.containers)
    same-parts = (beside-gives w.slots w.containers beside).0

    parts-are : parts_of w ≡ flat_map part_in all
    parts-are = (beside-gives w.slots w.containers beside).1

    abbrev Given : Option ℕ → Type 0
    Given o = Gives o w (parts_of w)

    gives-open : (l : ℕ) (k : Kept V) (c : ContKept K) → slice_get w.slots l ≡ Some (slots.Open k) → slice_get w.containers l ≡ Some (cont_slots.Open c)
        → GivesAt part_in all l (k.volume, c.keeper)
    gives-open l k c at also = ((slots.Open k, cont_slots.Open c), zip-at w.slots w.containers l (slots.Open k) (cont_slots.Open c) at also, refl)

    around : (o : Option ℕ) → GivesAround part_in (gap_first w.lock_bits o) (gap_past w.lock_bits o) all → Given o
    around o given = record {
      before = given.before;
      behind = given.behind;
      all = parts-are ∙ given.all;
      low = given.low;
      high = given.high ∙ count;
      first = λ l k c low at also. given.front l (k.volume, c.keeper) low (gives-open l k c at also);
      then = λ l k c at also. given.back l (k.volume, c.keeper) (gives-open (gap_past w.lock_bits o + l) k c at also);
    }

    whole-gives : w.lifted ≡ None → Given None
    whole-gives whole = around None (without-gap part_in all (λ l h.
        let pair = open-pair l (subst (λ (n : ℕ). l < n) (zip-long w.slots w.containers same-count) h)
        (ap (λ (o : Option ℕ). is_out w.lock_bits o l) whole) in
        ((pair.0.volume, pair.1.keeper), gives-open l pair.0 pair.1 pair.2 pair.3)))

    lifted-gives : (device : ℕ) → w.lifted ≡ Some device → Given (Some device)
    lifted-gives device out = around (Some device) (around-gap part_in all (first_of w.lock_bits device) (2 ^ w.lock_bits) (past_of w.lock_bits device) refl
        enough outside inside)
      where
        below : device < w.devices
        below = is.out device out

        enough : past_of w.lock_bits device ≤ length all
        enough =
            let less : device < w.devices = below in
            let within : device * 2 ^ w.lock_bits + 2 ^ w.lock_bits ≤ w.devices * 2 ^ w.lock_bits = grind (arith, rows) in
            rw count within

        same-out : (l : ℕ) → is_out w.lock_bits w.lifted l ≡ is_out w.lock_bits (Some device) l
        same-out l = ap (λ (o : Option ℕ). is_out w.lock_bits o l) out

        within-slots : (l : ℕ) → l < length all → l < length w.slots
        within-slots l h = subst (λ (n : ℕ). l < n) (zip-long w.slots w.containers same-count) h

        outside : (l : ℕ) → l < length all → (l < first_of w.lock_bits device) ⊎ (past_of w.lock_bits device ≤ l) → (y : V × K) × GivesAt part_in all l y
        outside l h away = by (out-cases w.lock_bits device l) away
          where
            by : ((is_out w.lock_bits (Some device) l ≡ true) × (first_of w.lock_bits device ≤ l) × (l < past_of w.lock_bits device))
                ⊎ ((is_out w.lock_bits (Some device) l ≡ false) × ((l < first_of w.lock_bits device) ⊎ (past_of w.lock_bits device ≤ l)))
                → (l < first_of w.lock_bits device) ⊎ (past_of w.lock_bits device ≤ l) → (y : V × K) × GivesAt part_in all l y
            by (inl here) (inl low) = absurd (omega (arith, low, here.1))
            by (inl here) (inr high) = absurd (omega (arith, high, here.2))
            by (inr there) any =
                let pair = open-pair l (within-slots l h) (same-out l ∙ there.0) in
                ((pair.0.volume, pair.1.keeper), gives-open l pair.0 pair.1 pair.2 pair.3)

        inside : (l : ℕ) → first_of w.lock_bits device ≤ l → l < past_of w.lock_bits device
            → (x : Slot V × ContSlot K) × (slice_get all l ≡ Some x) × (part_in x ≡ [])
        inside l low high = by (out-cases w.lock_bits device l)
          where
            by : ((is_out w.lock_bits (Some device) l ≡ true) × (first_of w.lock_bits device ≤ l) × (l < past_of w.lock_bits device))
                ⊎ ((is_out w.lock_bits (Some device) l ≡ false) × ((l < first_of w.lock_bits device) ⊎ (past_of w.lock_bits device ≤ l)))
                → (x : Slot V × ContSlot K) × (slice_get all l ≡ Some x) × (part_in x ≡ [])
            by (inl here) =
                let most = enough in
                let pair = lifted-pair l (within-slots l (omega (arith, high, most))) (same-out l ∙ here.0) in
                ((slots.Lifted w.secrets, cont_slots.Lifted), zip-at w.slots w.containers l (slots.Lifted w.secrets) cont_slots.Lifted pair.0 pair.1, refl)
            by (inr there) = absurd (apart there.1)
              where
                apart : (l < first_of w.lock_bits device) ⊎ (past_of w.lock_bits device ≤ l) → ⊥
                apart (inl less) = absurd (omega (arith, less, low))
                apart (inr more) = absurd (omega (arith, more, high))

    gives-as : (o : Option ℕ) → w.lifted ≡ o → Given o
    gives-as None whole = whole-gives whole
    gives-as (Some device) out = lifted-gives device out

    pub gives : Gives w.lifted w (parts_of w)
    gives = gives-as w.lifted refl
