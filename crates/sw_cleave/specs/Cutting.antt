-- The shard ranges into which bounds cut all names. (OpenStack Swift's sharder: a range goes on where the one before it ends.)
use Rattle.std.specs.Prelude.{◌≡◌, ℕ, ◌≤◌, ◌^◌, suc, List, [], ◌∷◌, length, Option, None, Some, ◌⊎◌}
use Rattle.sw_hashpath.specs.BadNames.{bad_name}
use Rattle.sw_hashpath.specs.Paths.{hash_of}
use Rattle.sw_hashpath.specs.declared.bad_name.BadName.{BadName}
use Rattle.sw_hashpath.specs.declared.place.Place.{Place}
use Rattle.sw_hashpath.specs.declared.secrets.Secrets.{Secrets}
use Rattle.sw_shard_range.specs.Laws.{AreTiled}
use Rattle.sw_shard_range.specs.Ranges.{first_fault}
use Rattle.sw_shard_range.specs.ShardNames.{shard_account, shard_container}
use Rattle.sw_shard_range.specs.declared.range.Range.{Range}

module _ (secrets : Secrets) (place : Place) (time : ℕ) where
  -- the shard with this index
  abbrev pub shard_place : ℕ → Place
  shard_place index = record {
    account = shard_account place.account;
    container = shard_container place.container time index;
    hash = hash_of secrets (shard_account place.account) (Some (shard_container place.container time index)) None;
  }

  abbrev pub IsBadShard : ℕ → Type 0
  IsBadShard index = (bad : BadName) × (bad_name (shard_account place.account) (Some (shard_container place.container time index)) None ≡ Some bad)

  -- a range that lies between these bounds, whose shard is named by this index, and was created
  pub record IsRangeBetween (index : ℕ) (lower upper : List ℕ) (range : Range) : Type 0 where
    pub lower_is : range.lower ≡ lower
    pub upper_is : range.upper ≡ upper
    pub shard_is : range.shard ≡ shard_place index
    pub good : bad_name (shard_account place.account) (Some (shard_container place.container time index)) None ≡ None
    pub state_is : range.state ≡ 20

  -- those from this index and bound on, which go on from each bound to the next, and from the last one to none
  abbrev pub AreCutFrom : ℕ → List ℕ → List (List ℕ) → List Range → Type 0
  AreCutFrom index lower bounds [] = ⊥
  AreCutFrom index lower [] (range ∷ []) = IsRangeBetween index lower [] range
  AreCutFrom index lower [] (range ∷ more ∷ ranges) = ⊥
  AreCutFrom index lower (bound ∷ bounds) (range ∷ ranges) = IsRangeBetween index lower bound range × AreCutFrom (suc index) bound bounds ranges

  abbrev pub AreCut : List (List ℕ) → List Range → Type 0
  AreCut bounds ranges = AreCutFrom 0 [] bounds ranges

  -- nothing can be cut so: one of the shards would have a bad name, the bounds don't rise, or there are too many
  abbrev pub CantCut : List (List ℕ) → Type 0
  CantCut bounds =
      ((index : ℕ) × (index ≤ length bounds) × IsBadShard index)
      ⊎ (((ranges : List Range) × AreCut bounds ranges × (fault : ℕ) × (first_fault ranges ≡ Some fault)) ⊎ (2 ^ 32 ≤ suc (length bounds)))

  -- what was cut was tested: its ranges are all names, each once
  abbrev pub IsCutInto : List (List ℕ) → Option (List Range) → Type 0
  IsCutInto bounds (Some ranges) = AreCut bounds ranges × AreTiled ranges
  IsCutInto bounds None = CantCut bounds
