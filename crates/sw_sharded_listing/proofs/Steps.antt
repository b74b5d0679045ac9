-- What each call of a listing across shards, or of a count, makes of the nodes, all of them make: an induction on the calls.
use Rattle.std.proofs.Common.{◌≡◌, ℕ, Bool, true, false, List, [], ◌∷◌, ◌++◌, map, reverse, refl, sym, subst, ◌⊎◌, inl, inr, Result, Ok, Err}
use Rattle.std.proofs.lemmas.List.Elements.{All-append, All-cons, All-head, All-map, All-nil, All-push, All-tail, All-weaker}
use Rattle.std.proofs.lemmas.List.Sums.{AllPass-from_list_all}
use Rattle.std.specs.List.{All}
use Rattle.sw_container_steps.specs.declared.cont_answer.ContAnswer.{ContAnswer}
use Rattle.sw_container_steps.specs.declared.info.Info.{Info}
use Rattle.sw_container_steps.specs.declared.sharding.Sharding.{Sharding}
use Rattle.sw_hashpath.specs.declared.place.Place.{Place}
use Rattle.sw_listing.specs.declared.query.Query.{Query}
use Rattle.sw_pass.specs.Rings.{is_place}
use Rattle.sw_peer.specs.Sights.{Sight}
use Rattle.sw_ring.specs.declared.ring.Ring.{Ring}
use Rattle.sw_shard_listing.proofs.Members.{reverse-cons}
use Rattle.sw_shard_listing.specs.Ranges.{after_entries, begun, moved}
use Rattle.sw_shard_range.specs.declared.range.Range.{Range}
use Rattle.sw_sharded_listing.specs.Across.{AreAllListed, AreListed, GivesUp, IsListed, IsListedAcross, IsListedNext, IsPartListed, IsShardingRead, Listing}
use Rattle.sw_sharded_listing.specs.Across.{are_some, preceded}
use Rattle.sw_sharded_listing.specs.Counts.{AreCounted, Count, IsCountedAcross, IsCountedNext, IsInformed, Site, Sums, shard_site, sites_of, with_info}
use Rattle.sw_sharded_listing.specs.Parts.{Part, are_places, has_own, own_parts, parts_of, replica_at, served_in, shard_part, turned}

-- a relation that no call, calls one after the other, and each call keep, where `at` tells of the device and the container that are asked
pub record AreSteps (at : ℕ → Place → Type 0) (P : Sight → Sight → Type 0) : Type 0 where
  pub itself : (s : Sight) → P s s
  pub join : (a b c : Sight) → P a b → P b c → P a c
  pub sharded : (device : ℕ) (place : Place) (s : Sight) (got : Result Sharding ContAnswer) (t : Sight) → at device place
      → IsShardingRead device place s got t → P s t
  pub informed : (device : ℕ) (place : Place) (s : Sight) (got : Result Info ContAnswer) (t : Sight) → at device place
      → IsInformed (record { device = device; place = place }) s got t → P s t
  pub listed : (device : ℕ) (place : Place) (query : Query) (s : Sight) (got : Listing) (t : Sight) → at device place → IsListed device place query s got t
      → P s t

-- ---- who is asked

-- the container itself at the device, or a shard that the nodes know, at its device of this number
abbrev pub IsAsked : Ring → ℕ → Place → ℕ → ℕ → Place → Type 0
IsAsked ring device place replica d p =
    ((d ≡ device) × (p ≡ place)) ⊎ ((is_place ring.secrets p ≡ true) × (d ≡ replica_at ring replica p))

all-reverse : {X : Type 0} (P : X → Type 0) (xs : List X) → All P xs → All P (reverse xs)
all-reverse {X} P [] all = All-nil P
all-reverse {X} P (x ∷ xs) all =
    subst (λ (ys : List X). All P ys) (sym (reverse-cons x xs))
    (All-push P (reverse xs) x (all-reverse P xs (All-tail P x xs all)) (All-head P x xs all))

all-turned : (P : Part → Type 0) (backwards : Bool) (parts : List Part) → All P parts → All P (turned backwards parts)
all-turned P true parts all = all-reverse P parts all
all-turned P false parts all = all

module _ (ring : Ring) (device : ℕ) (place : Place) (replica : ℕ) where
  abbrev AtPart : Part → Type 0
  AtPart part = IsAsked ring device place replica part.device part.place

  abbrev AtSite : Site → Type 0
  AtSite site = IsAsked ring device place replica site.device site.place

  shards-at : (served : List Range) → are_places ring.secrets served ≡ true
      → All (λ (r : Range). IsAsked ring device place replica (replica_at ring replica r.shard) r.shard) served
  shards-at served are =
      All-weaker (λ (r : Range). is_place ring.secrets r.shard ≡ true)
      (λ (r : Range). IsAsked ring device place replica (replica_at ring replica r.shard) r.shard) (λ r is. inr (is, refl)) served
      (AllPass-from_list_all (λ (r : Range). is_place ring.secrets r.shard) served are)

  own-at : (served : List Range) (own : Bool) → All AtPart (own_parts device place served own)
  own-at served true = All-cons AtPart _ [] (inl (refl, refl)) (All-nil AtPart)
  own-at served false = All-nil AtPart

  parts-at : (backwards : Bool) (served : List Range) (own : Bool) → are_places ring.secrets served ≡ true
      → All AtPart (turned backwards (map (shard_part ring replica) served ++ own_parts device place served own))
  parts-at backwards served own are =
      all-turned AtPart backwards (map (shard_part ring replica) served ++ own_parts device place served own)
      (All-append AtPart (map (shard_part ring replica) served) (own_parts device place served own)
      (All-map AtPart (shard_part ring replica) served (shards-at served are)) (own-at served own))

  sites-at : (served : List Range) → are_places ring.secrets served ≡ true → All AtSite (sites_of ring device place replica served)
  sites-at served are =
      All-cons AtSite (record { device = device; place = place }) (map (shard_site ring replica) served) (inl (refl, refl))
      (All-map AtSite (shard_site ring replica) served (shards-at served are))

-- ---- the calls

module _ (ring : Ring) (device : ℕ) (place : Place) (replica : ℕ) (P : Sight → Sight → Type 0)
    (steps : AreSteps (IsAsked ring device place replica) P) where
  none : (old new : Sight) → new ≡ old → P old new
  none old new same = subst (P old) (sym same) (steps.itself old)

  part-steps : (query : Query) (part : Part) (old : Sight) (got : Listing) (new : Sight) → AtPart ring device place replica part
      → IsPartListed query part old got new → P old new
  part-steps query part old got new at (inl gives) = none old new gives.1
  part-steps query part old got new at (inr listed) = steps.listed part.device part.place (moved query part.lower part.upper) old got new at listed

  parts-steps : (query : Query) (parts : List Part) (old : Sight) (got : Listing) (new : Sight) → All (AtPart ring device place replica) parts
      → AreListed query parts old got new → P old new
  parts-steps query [] old got new at listed = none old new listed.0
  parts-steps query (part ∷ parts) old got new at (inl refused) =
      part-steps query part old (Err refused.0) new (All-head (AtPart ring device place replica) part parts at) refused.1
  parts-steps query (part ∷ parts) old got new at (inr listed) =
      steps.join old listed.1 new
      (part-steps query part old (Ok listed.0) listed.1 (All-head (AtPart ring device place replica) part parts at) listed.2)
      (by (λ later h. parts-steps (after_entries query listed.0) parts listed.1 later new (All-tail (AtPart ring device place replica) part parts at) h)
      listed.3)
    where
      by : ((later : Listing) → AreListed (after_entries query listed.0) parts listed.1 later new → P listed.1 new)
          → GivesUp (are_some listed.0) listed.1 got new
          ⊎ ((later : Listing) × AreListed (after_entries query listed.0) parts listed.1 later new × (got ≡ preceded listed.0 later))
          → P listed.1 new
      by again (inl gives) = none listed.1 new gives.1
      by again (inr later) = again later.0 later.1

  all-steps : (query : Query) (parts : List Part) (old : Sight) (got : Listing) (new : Sight) → All (AtPart ring device place replica) parts
      → AreAllListed query parts old got new → P old new
  all-steps query parts old got new at (inl gives) = none old new gives.1
  all-steps query parts old got new at (inr listed) = parts-steps (begun query) parts old got new at listed

  listed-next : (query : Query) (read : Result Sharding ContAnswer) (old : Sight) (got : Listing) (new : Sight)
      → IsListedNext ring device place query replica read old got new → P old new
  listed-next query (Ok sharding) old got new (inl listed) =
      all-steps query (parts_of ring device place replica query.reverse sharding.ranges sharding.cursor) old got new
      (parts-at ring device place replica query.reverse (served_in sharding.ranges sharding.cursor) (has_own sharding.ranges sharding.cursor) listed.0)
      listed.1
  listed-next query (Ok sharding) old got new (inr unknown) = none old new unknown.1
  listed-next query (Err answer) old got new refused = none old new refused.0

  pub across-steps : (query : Query) (old : Sight) (got : Listing) (new : Sight) → IsListedAcross ring device place query replica old got new → P old new
  across-steps query old got new across =
      steps.join old across.1 new (steps.sharded device place old across.0 across.1 (inl (refl, refl)) across.2)
      (listed-next query across.0 across.1 got new across.3)

  sites-steps : (sites : List Site) (sums : Sums) (old : Sight) (got : Count) (new : Sight) → All (AtSite ring device place replica) sites
      → AreCounted sites sums old got new → P old new
  sites-steps [] sums old got new at counted = none old new counted.0
  sites-steps (site ∷ sites) sums old got new at (inl refused) =
      steps.informed site.device site.place old (Err refused.0) new (All-head (AtSite ring device place replica) site sites at) refused.1
  sites-steps (site ∷ sites) sums old got new at (inr counted) =
      steps.join old counted.1 new
      (steps.informed site.device site.place old (Ok counted.0) counted.1 (All-head (AtSite ring device place replica) site sites at) counted.2)
      (sites-steps sites (with_info sums counted.0) counted.1 got new (All-tail (AtSite ring device place replica) site sites at) counted.3)

  counted-next : (read : Result Sharding ContAnswer) (old : Sight) (got : Count) (new : Sight) → IsCountedNext ring device place replica read old got new
      → P old new
  counted-next (Ok sharding) old got new (inl counted) =
      sites-steps (sites_of ring device place replica (served_in sharding.ranges sharding.cursor)) (0, 0) old got new
      (sites-at ring device place replica (served_in sharding.ranges sharding.cursor) counted.0) counted.1
  counted-next (Ok sharding) old got new (inr unknown) = none old new unknown.1
  counted-next (Err answer) old got new refused = none old new refused.0

  pub counts-steps : (old : Sight) (got : Count) (new : Sight) → IsCountedAcross ring device place replica old got new → P old new
  counts-steps old got new across =
      steps.join old across.1 new (steps.sharded device place old across.0 across.1 (inl (refl, refl)) across.2)
      (counted-next across.0 across.1 got new across.3)
