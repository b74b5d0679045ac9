-- The calls by which the rows of a container that is split are counted, one after the other, and what they are answered. (OpenStack Swift's proxy adds up what
-- shards tell of themselves; here each shard is asked, and the container itself for the rows whose names aren't left to shards.)
use Rattle.std.specs.Prelude.{◌≡◌, ℕ, ◌+◌, ◌-◌, ◌^◌, min, true, false, List, [], ◌∷◌, map, ◌⊎◌, Result, Ok, Err}
use Rattle.sw_container_steps.specs.Reads.{info_of}
use Rattle.sw_container_steps.specs.declared.cont_answer.ContAnswer.{ContAnswer}
use Rattle.sw_container_steps.specs.declared.cont_answer.ContAnswer.TheVariants.{Failed}
use Rattle.sw_container_steps.specs.declared.info.Info.{Info}
use Rattle.sw_container_steps.specs.declared.sharding.Sharding.{Sharding}
use Rattle.sw_hashpath.specs.declared.place.Place.{Place}
use Rattle.sw_peer.specs.ContSights.{IsLooked}
use Rattle.sw_peer.specs.Sights.{Calls, Sight}
use Rattle.sw_peer.specs.declared.cont_event.ContEvent.TheVariants.{Informed}
use Rattle.sw_peer.specs.declared.link.Link.TheVariants.{Local}
use Rattle.sw_ring.specs.declared.ring.Ring.{Ring}
use Rattle.sw_shard_range.specs.declared.range.Range.{Range}
use Rattle.sw_sharded_listing.specs.Across.{IsShardingRead}
use Rattle.sw_sharded_listing.specs.Parts.{are_places, replica_at, served_in}

-- how many rows are live, and how many bytes their objects have together
abbrev pub Sums : Type 0
Sums = ℕ × ℕ

abbrev pub Count : Type 0
Count = Result Sums ContAnswer

-- a sum, up to the greatest count
abbrev pub capped : ℕ → ℕ → ℕ
capped one other = min (one + other) (2 ^ 64 - 1)

abbrev pub with_info : Sums → Info → Sums
with_info sums info = (capped sums.0 info.count, capped sums.1 info.bytes)

-- a container, and the device that tells of it
pub record Site : Type 0 where
  pub device : ℕ
  pub place : Place

-- a container is asked what is told of it, at the device itself
abbrev pub IsInformed : Site → Sight → Result Info ContAnswer → Sight → Type 0
IsInformed site old got new =
    Calls (IsLooked Local site.device site.place info_of (λ read. Informed site.place read)) old Local (Ok got) new

-- it is asked, and what it tells is added to these sums; or it tells nothing
abbrev pub IsAddedNext : Sums → Result Info ContAnswer → Count → Type 0
IsAddedNext sums (Ok info) got = got ≡ Ok (with_info sums info)
IsAddedNext sums (Err answer) got = got ≡ Err answer

abbrev pub IsSiteAdded : ℕ → Place → Sums → Sight → Count → Sight → Type 0
IsSiteAdded device place sums old got new =
    (told : Result Info ContAnswer) × IsInformed (record { device = device; place = place }) old told new × IsAddedNext sums told got

-- Each is asked once, in turn, and what it tells is added to these sums. The first that tells nothing ends it, with its answer: nothing partial is answered
abbrev pub AreCounted : List Site → Sums → Sight → Count → Sight → Type 0
AreCounted [] sums old got new = (new ≡ old) × (got ≡ Ok sums)
AreCounted (site ∷ sites) sums old got new =
    ((answer : ContAnswer) × IsInformed site old (Err answer) new × (got ≡ Err answer))
    ⊎ ((info : Info) × (mid : Sight) × IsInformed site old (Ok info) mid × AreCounted sites (with_info sums info) mid got new)

-- the shard of a range, at the device of this number
abbrev pub shard_site : Ring → ℕ → Range → Site
shard_site ring replica range = record { device = replica_at ring replica range.shard; place = range.shard }

module _ (ring : Ring) (device : ℕ) (place : Place) (replica : ℕ) where
  -- first the container itself, which counts the rows whose names aren't left to shards, and then the shards of the ranges that are, in their order
  abbrev pub sites_of : List Range → List Site
  sites_of served = record { device = device; place = place } ∷ map (shard_site ring replica) served

  -- where the nodes know each shard that a range is left to; a list that names another place is a fault, and then none is asked
  abbrev pub IsCountedNext : Result Sharding ContAnswer → Sight → Count → Sight → Type 0
  IsCountedNext (Ok sharding) old got new =
      ((are_places ring.secrets (served_in sharding.ranges sharding.cursor) ≡ true)
      × AreCounted (sites_of (served_in sharding.ranges sharding.cursor)) (0, 0) old got new)
      ⊎ ((are_places ring.secrets (served_in sharding.ranges sharding.cursor) ≡ false) × (new ≡ old) × (got ≡ Err Failed))
  IsCountedNext (Err answer) old got new = (new ≡ old) × (got ≡ Err answer)

  -- first the container tells how far it is split
  abbrev pub IsCountedAcross : Sight → Count → Sight → Type 0
  IsCountedAcross old got new = (read : Result Sharding ContAnswer) × (mid : Sight) × IsShardingRead device place old read mid × IsCountedNext read mid got new
