-- The calls by which a container gets its shard ranges, one after the other, and what they count for. (OpenStack Swift's sharder finds the ranges at one
-- replica and creates their shards; that every replica of a shard is created before the list is set anywhere is this project's own.)
use Rattle.std.specs.Prelude.{◌≡◌, ℕ, suc, ◌==◌, not, Bool, true, false, List, [], ◌∷◌, length, filter, fold, Option, None, Some, ◌⊎◌, Result, Ok, Err}
use Rattle.sw_container_steps.specs.Reads.{parcel_of, sharding_of}
use Rattle.sw_container_steps.specs.declared.cont_answer.ContAnswer.{ContAnswer}
use Rattle.sw_container_steps.specs.declared.cont_answer.ContAnswer.TheVariants.{HasRanges}
use Rattle.sw_container_steps.specs.declared.cont_change.ContChange.{ContChange}
use Rattle.sw_container_steps.specs.declared.cont_change.ContChange.TheVariants.{Create, SetRanges}
use Rattle.sw_container_steps.specs.declared.sharding.Sharding.{Sharding}
use Rattle.sw_container_steps.specs.declared.syncing.Parcel.{Parcel}
use Rattle.sw_hashpath.specs.declared.place.Place.{Place}
use Rattle.sw_outside.specs.declared.errors.NoMemory.{NoMemory}
use Rattle.sw_pass.specs.Outcomes.{Hinders, Keeps, cont_hindrance, is_acknowledged, losing, nothing_yet, sending, unanswered}
use Rattle.sw_pass.specs.Rings.{replicas_in}
use Rattle.sw_pass.specs.Turns.{InTurn}
use Rattle.sw_pass.specs.declared.hindrance.Hindrance.TheVariants.{Failed}
use Rattle.sw_pass.specs.declared.outcome.Outcome.{Outcome}
use Rattle.sw_peer.specs.ContSights.{IsContMade, IsLooked}
use Rattle.sw_peer.specs.Sights.{Calls, Sight}
use Rattle.sw_peer.specs.declared.cont_event.ContEvent.TheVariants.{Parceled, Sharded}
use Rattle.sw_peer.specs.declared.link.Link.TheVariants.{Local, Sent}
use Rattle.sw_peer.specs.declared.link.Lost.{Lost}
use Rattle.sw_ring.specs.declared.ring.Ring.{Ring}
use Rattle.sw_rows.specs.Rows.{merged, no_rows}
use Rattle.sw_shard_range.specs.Bounds.{inner_bounds}
use Rattle.sw_shard_range.specs.declared.range.Range.{Range}
use Rattle.sw_cleave.specs.Cleaving.{leaves}
use Rattle.sw_cleave.specs.Counting.{IsOutcome}
use Rattle.sw_cleave.specs.Cutting.{IsCutInto}
use Rattle.sw_cleave.specs.declared.counting.Came.{Came}

-- what a part of the pass answered by itself
abbrev pub made_told : Result Bool NoMemory → Bool
made_told (Ok made) = made
made_told (Err wanting) = false

-- things that are created in their order, up to the first that isn't made
module _ {A : Type 0} (one : A → Sight → Outcome → Sight → Outcome → Bool → Bool → Type 0) where
  abbrev pub UpToFirst : List A → Sight → Outcome → Sight → Outcome → Bool → Bool → Type 0
  UpToFirst [] s o t p made on = (t ≡ s) × (p ≡ o) × (made ≡ true) × (on ≡ true)
  UpToFirst (x ∷ xs) s o t p made on =
      ((mid : Sight) × (between : Outcome) × one x s o mid between true true × UpToFirst xs mid between t p made on)
      ⊎ (one x s o t p false on × (made ≡ false))

-- ---- shards

-- what the answer to the creation of a shard counts for, and whether it is there
abbrev pub IsCreationHeard : Result ContAnswer Lost → Outcome → Outcome → Bool → Bool → Type 0
IsCreationHeard (Ok answer) o p made on =
    ((is_acknowledged answer ≡ true) × (p ≡ o) × (made ≡ true) × (on ≡ true))
    ⊎ ((is_acknowledged answer ≡ false) × Keeps (cont_hindrance answer) o p on × (made ≡ false))
IsCreationHeard (Err lost) o p made on = (p ≡ unanswered o) × (made ≡ false) × (on ≡ true)

module _ (time : ℕ) where
  -- a shard is created at a device
  abbrev pub IsCreated : Place → ℕ → Sight → Outcome → Sight → Outcome → Bool → Bool → Type 0
  IsCreated shard to s o t p made on =
      (answer : Result ContAnswer Lost) × Calls (IsContMade Sent to shard (Create time)) s Sent answer t × IsCreationHeard answer (sending o) p made on

  -- at these devices in their order, up to the first at which it isn't made
  abbrev pub IsCreatedAt : Place → List ℕ → Sight → Outcome → Sight → Outcome → Bool → Bool → Type 0
  IsCreatedAt shard devices s o t p made on = UpToFirst (IsCreated shard) devices s o t p made on

  -- the shards of these ranges in their order, each at all its devices
  abbrev pub AreCreated : Ring → List Range → Sight → Outcome → Sight → Outcome → Bool → Bool → Type 0
  AreCreated ring ranges s o t p made on =
      UpToFirst (λ (range : Range). IsCreatedAt range.shard (replicas_in ring range.shard)) ranges s o t p made on

-- ---- the list

-- a replica acknowledges the list where it sets it, or has one
abbrev pub has_list : ContAnswer → Bool
has_list HasRanges = true
has_list answer = is_acknowledged answer

abbrev pub IsListHeard : Result ContAnswer Lost → Outcome → Outcome → Bool → Type 0
IsListHeard (Ok answer) o p on =
    ((has_list answer ≡ true) × (p ≡ o) × (on ≡ true)) ⊎ ((has_list answer ≡ false) × Hinders (cont_hindrance answer) o p on)
IsListHeard (Err lost) o p on = (p ≡ losing o) × (on ≡ true)

-- it is sent to a replica
abbrev pub IsListSent : Place → ContChange → ℕ → Sight → Outcome → Sight → Outcome → Bool → Type 0
IsListSent place list to s o t p on =
    (answer : Result ContAnswer Lost) × Calls (IsContMade Sent to place list) s Sent answer t × IsListHeard answer (sending o) p on

-- the devices of a container but this one
abbrev pub others_of : ℕ → List ℕ → List ℕ
others_of device devices = filter (λ d. not (d == device)) devices

module _ (ring : Ring) (device : ℕ) (place : Place) where
  abbrev pub others : List ℕ
  others = others_of device (replicas_in ring place)

  -- to all other replicas in their order: those are left that don't acknowledge it
  abbrev pub IsListGiven : ContChange → Sight → Outcome → Sight → Outcome → Came → Bool → Type 0
  IsListGiven list s o t p came on =
      InTurn (IsListSent place list) others s o t p on × (on ≡ true → came ≡ record { done = (p.left == 0); left = p.left })

  -- what the container's own answer to the list comes to: only where it has set it the others are sent it
  abbrev pub IsSetNext : ContChange → ContAnswer → Sight → Outcome → Sight → Outcome → Came → Bool → Type 0
  IsSetNext list answer s o t p came on =
      ((is_acknowledged answer ≡ true) × IsListGiven list s o t p came on)
      ⊎ ((is_acknowledged answer ≡ false) × (t ≡ s) × (came ≡ leaves (suc (length others))) × Keeps (cont_hindrance answer) o p on)

  abbrev pub IsListSet : ContChange → Sight → Outcome → Sight → Outcome → Came → Bool → Type 0
  IsListSet list s o t p came on =
      (answer : ContAnswer) × (mid : Sight) × Calls (IsContMade Local device place list) s Local (Ok answer) mid
      × IsSetNext list answer mid o t p came on

  module _ (time : ℕ) where
    -- first all shards, and then the list
    abbrev pub IsSplit : List Range → Sight → Outcome → Sight → Outcome → Came → Bool → Type 0
    IsSplit ranges s o t p came on =
        ((mid : Sight) × (between : Outcome) × AreCreated time ring ranges s o mid between true true
        × IsListSet (SetRanges ranges) mid between t p came on)
        ⊎ (AreCreated time ring ranges s o t p false on × (came ≡ leaves (suc (length others))))

    abbrev pub IsCutNext : Option (List Range) → Sight → Outcome → Sight → Outcome → Came → Bool → Type 0
    IsCutNext (Some ranges) s o t p came on = IsSplit ranges s o t p came on
    IsCutNext None s o t p came on = (t ≡ s) × (came ≡ leaves 1) × Keeps (Some Failed) o p on

  -- memory ran out before a call
  abbrev pub Wants : Sight → Outcome → Sight → Outcome → Bool → Type 0
  Wants s o t p on = (t ≡ s) × (p ≡ o) × (on ≡ false)

  module _ (per_shard time : ℕ) where
    -- the bounds are those of the rows that were read
    abbrev pub IsFoundNext : Result Parcel ContAnswer → Sight → Outcome → Sight → Outcome → Came → Bool → Type 0
    IsFoundNext (Ok parcel) s o t p came on =
        ((cut : Option (List Range)) × IsCutInto ring.secrets place time (inner_bounds per_shard (fold merged no_rows parcel.rows).list) cut
        × IsCutNext time cut s o t p came on)
        ⊎ Wants s o t p on
    IsFoundNext (Err answer) s o t p came on = (t ≡ s) × (came ≡ leaves 1) × Keeps (cont_hindrance answer) o p on

    -- the container's rows are read as those for its own device, for which it keeps no sync point: so all of them
    abbrev pub IsFound : Sight → Outcome → Sight → Outcome → Came → Bool → Type 0
    IsFound s o t p came on =
        (got : Result Parcel ContAnswer) × (mid : Sight)
        × Calls (IsLooked Local device place (parcel_of device) (λ read. Parceled place device read)) s Local (Ok got) mid
        × IsFoundNext got mid o t p came on

    -- a list that is there is only sent
    abbrev pub IsListNext : Option (List Range) → Sight → Outcome → Sight → Outcome → Came → Bool → Type 0
    IsListNext None s o t p came on = IsFound s o t p came on
    IsListNext (Some ranges) s o t p came on = IsListGiven (SetRanges ranges) s o t p came on

    abbrev pub IsShardingNext : Result Sharding ContAnswer → Sight → Outcome → Sight → Outcome → Came → Bool → Type 0
    IsShardingNext (Ok sharding) s o t p came on = IsListNext sharding.ranges s o t p came on
    IsShardingNext (Err answer) s o t p came on = (t ≡ s) × (came ≡ leaves 1) × Keeps (cont_hindrance answer) o p on

    -- first the container tells whether it has a list
    abbrev pub IsRun : Sight → Sight → Outcome → Came → Bool → Type 0
    IsRun s t p came on =
        (got : Result Sharding ContAnswer) × (mid : Sight)
        × Calls (IsLooked Local device place sharding_of (λ read. Sharded place read)) s Local (Ok got) mid × IsShardingNext got mid nothing_yet t p came on

    -- and what it is answered
    abbrev pub IsCreate : Sight → Result Outcome NoMemory → Sight → Type 0
    IsCreate s result t = IsOutcome (IsRun s t) result
