-- A world none of whose devices is out.
use Rattle.std.proofs.Common.{◌≡◌, ◌≢◌, ℕ, ◌<◌, ◌==◌, Bool, true, false, ◌&&◌, List, length, get_or, refl, sym, ◌∙◌, ap, subst, arith, Option, None, Some}
use Rattle.std.proofs.Common.{is_none, IsSome, slice_set, length-set}
use Rattle.std.specs.List.{slice_get}
use Rattle.std.specs.declared.alloc.Global.{Global}
use Rattle.std.specs.declared.vec.Vec.{Vec}
use Rattle.std.proofs.lemmas.Bool.Decides.{nat_tests}
use Rattle.std.proofs.lemmas.Option.{slice_get-get_or, slice_get_within}
use borrow.Author.Tests.{eqb-true, eqb-false}
use Rattle.sw_hashdir.specs.Steps.{IsHashed}
use Rattle.sw_hashpath.specs.BadNames.{bad_name}
use Rattle.sw_hashpath.specs.HashParts.{IsDigest}
use Rattle.sw_hashpath.specs.Paths.{hash_of, path_text}
use Rattle.sw_hashpath.specs.declared.bad_name.BadName.{BadName}
use Rattle.sw_hashpath.specs.declared.name.Name.{Name}
use Rattle.sw_hashpath.specs.declared.secrets.Secrets.{Secrets}
use Rattle.sw_container_locks.specs.declared.cont_slot.ContSlot.{ContSlot}
use Rattle.sw_objdir.specs.Directories.{Kept}
use Rattle.sw_object_steps.proofs.Hashes.{hash-same}
use Rattle.sw_pending_dir.proofs.Keys.{digest-md5}
use Rattle.sw_peer.specs.declared.line.Line.{Line}
use Rattle.sw_core.proofs.Placed.{slice_get-set_other, slice_get-set_same}
use Rattle.sw_core.specs.Worlds.{AllNodes, HasLimits, HasRoom, IsSlot, IsWorld, is_out, shown}
use Rattle.sw_hashdir.specs.Steps.{is_hashed}
use Rattle.sw_core.specs.declared.slot.Slot.{Slot}
use Rattle.sw_core.specs.declared.slot.Slot.TheVariants as slots

-- a device may be asked only while none is out
pub none-out : (lifted : Option ℕ) (device devices : ℕ) → device < shown lifted devices → lifted ≡ None
none-out None device devices h = refl
none-out (Some out) device devices h = absurd (omega (arith, h))

pub shown-whole : (lifted : Option ℕ) (devices : ℕ) → lifted ≡ None → shown lifted devices ≡ devices
shown-whole lifted devices whole = ap (λ (o : Option ℕ). shown o devices) whole

-- where as many devices are shown as before, none is out
pub still-whole : (lifted now : Option ℕ) (device devices more : ℕ) → lifted ≡ None → device < devices → shown now more ≡ shown lifted devices → now ≡ None
still-whole lifted now device devices more whole below same =
    none-out now device more (subst (λ (n : ℕ). device < n) (sym (same ∙ shown-whole lifted devices whole)) below)

pub some-same : {A : Type 0} (a b : A) → Some a ≡ Some b → a ≡ b
some-same a b same = cc

-- what stands at an index
pub found : {A : Type 0} (xs : List A) (l : ℕ) (x : A) → l < length xs → x ≡ get_or xs l x → slice_get xs l ≡ Some x
found xs l x within is = slice_get-get_or xs l x within ∙ ap Some (sym is)

no-bad : (o : Option BadName) → is_none o ≡ true → o ≡ None
no-bad None is = refl
no-bad (Some bad) is = cc

both-true : (a b : Bool) → (a && b) ≡ true → (a ≡ true) × (b ≡ true)
both-true true true is = (refl, refl)
both-true true false is = cc
both-true false b is = cc

-- a name that fits is hashed
pub hashed : (secrets : Secrets) (name : Name) → is_hashed secrets name ≡ true → IsHashed secrets name
hashed secrets name is =
    let both = both-true _ _ is in
    record {
      hashed = hash-same (hash_of secrets name.account (Some name.container) (Some name.object)) name.hash both.0;
      good = no-bad (bad_name name.account (Some name.container) (Some name.object)) both.1;
    }

-- whose hash is the MD5 of a path
pub digest-of : (secrets : Secrets) (name : Name) → IsHashed secrets name → IsDigest name.hash
digest-of secrets name is = subst IsDigest is.hashed (digest-md5 (path_text secrets name.account (Some name.container) (Some name.object)))

pub none-some : {P : Type 0} (o : Option ℕ) → o ≡ None → IsSome o → P
none-some None is some = cc
none-some (Some x) is some = cc

-- lines of any room: no line of a restart is owed
pub roomy : {V : Type 0} (old new : List (Slot V)) (room : Vec V Global) (lines lines_now spare : Vec Line Global)
    (lifted : Option ℕ) → lifted ≡ None → length new ≡ length old
    → HasRoom old room lines spare lifted → HasRoom new room lines_now spare lifted
roomy old new room lines lines_now spare lifted whole same has = record {
  empty = has.empty;
  wide = rw same has.wide;
  spared = λ out. none-some lifted whole out;
  line = λ out. none-some lifted whole out;
}

module _ {V K : Type 0} (w : AllNodes V K) (is : IsWorld w) where
  -- the same with other lines, and another count
  pub lined : (lines : List Line) (asks : ℕ) → IsWorld (record w { lines = lines; asks = asks })
  lined lines asks =
      record {
        devices = is.devices;
        lock_bits = is.lock_bits;
        least = is.least;
        greatest = is.greatest;
        fine = is.fine;
        count = is.count;
        out = is.out;
        slots = is.slots;
      }

  -- or with other containers
  pub contained : (lines : List Line) (containers : List (ContSlot K)) → IsWorld (record w { lines = lines; containers = containers })
  contained lines containers =
      record {
        devices = is.devices;
        lock_bits = is.lock_bits;
        least = is.least;
        greatest = is.greatest;
        fine = is.fine;
        count = is.count;
        out = is.out;
        slots = is.slots;
      }

  module _ (whole : w.lifted ≡ None) where
    -- each lock has an open directory
    pub open-at : (l : ℕ) → l < length w.slots
        → (k : Kept V) × (slice_get w.slots l ≡ Some (slots.Open k)) × (k.secrets ≡ w.secrets) × (k.power ≡ w.power) × HasLimits w.max_bytes k
    open-at l h = subst (λ (o : Option ℕ). IsSlot w.secrets w.power w.max_bytes (is_out w.lock_bits o l) (slice_get w.slots l)) whole (is.slots l h)

    -- and this is it
    pub open-is : (l : ℕ) (k : Kept V) → slice_get w.slots l ≡ Some (slots.Open k) → (k.secrets ≡ w.secrets) × (k.power ≡ w.power) × HasLimits w.max_bytes k
    open-is l k at =
        let there = open-at l (slice_get_within w.slots l (slots.Open k) at) in
        let same : k ≡ there.0 = opened-same k there.0 (some-same (slots.Open k) (slots.Open there.0) (sym at ∙ there.1)) in (
          ap (λ (x : Kept V). x.secrets) same ∙ there.2,
          ap (λ (x : Kept V). x.power) same ∙ there.3,
          subst (λ (x : Kept V). HasLimits w.max_bytes x) (sym same) there.4,
        )
      where
        opened-same : (a b : Kept V) → slots.Open a ≡ slots.Open b → a ≡ b
        opened-same a b same = cc

    -- one directory after a step, with other lines
    pub stepped : (l : ℕ) (k n : Kept V) (lines : List Line) (asks : ℕ) → slice_get w.slots l ≡ Some (slots.Open k) → n.secrets ≡ k.secrets → n.power ≡ k.power
        → n.journal.max_entries ≡ k.journal.max_entries → n.journal.max_bytes ≡ k.journal.max_bytes
        → IsWorld (record w { slots = slice_set w.slots l (slots.Open n); lines = lines; asks = asks })
    stepped l k n lines asks at secrets power entries bytes = record {
      devices = is.devices;
      lock_bits = is.lock_bits;
      least = is.least;
      greatest = is.greatest;
      fine = is.fine;
      count = length-set w.slots l (slots.Open n) ∙ is.count;
      out = is.out;
      slots = λ m h. slot m (rw (← length-set w.slots l (slots.Open n)) h) (m == l) refl;
    }
      where
        slot : (m : ℕ) → m < length w.slots → (b : Bool) → (m == l) ≡ b
            → IsSlot w.secrets w.power w.max_bytes (is_out w.lock_bits w.lifted m) (slice_get (slice_set w.slots l (slots.Open n)) m)
        slot m h true same =
            let equal : m ≡ l = eqb-true m l same in
            let now : slice_get (slice_set w.slots l (slots.Open n)) m ≡ Some (slots.Open n) =
            ap (slice_get (slice_set w.slots l (slots.Open n))) equal
            ∙ slice_get-set_same w.slots l (slots.Open n) (subst (λ (i : ℕ). i < length w.slots) equal h) in
            subst (λ (o : Option ℕ). IsSlot w.secrets w.power w.max_bytes (is_out w.lock_bits o m) (slice_get (slice_set w.slots l (slots.Open n)) m))
            (sym whole)
            (n, now, secrets ∙ (open-is l k at).0, power ∙ (open-is l k at).1, (entries ∙ (open-is l k at).2.0, bytes ∙ (open-is l k at).2.1))
        slot m h false apart =
            let away : m ≢ l = λ equal. absurd (omega (arith, nat_tests, eqb-false m l apart, equal)) in
            subst (λ (o : Option (Slot V)). IsSlot w.secrets w.power w.max_bytes (is_out w.lock_bits w.lifted m) o)
            (sym (slice_get-set_other w.slots l m (slots.Open n) away)) (is.slots m h)
