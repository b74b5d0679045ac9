-- One container that was asked for its counts, and then the others.
use Rattle.std.proofs.Common.{◌≡◌, ℕ, ◌+◌, ◌<◌, ◌∙◌, ◌⊎◌, Bool, true, false, List, ◌∷◌, drop, get_or, length, map, subst, sym, inl, inr, Ok, Err}
use Rattle.sw_container_steps.specs.declared.cont_answer.ContAnswer.{ContAnswer}
use Rattle.sw_container_steps.specs.declared.cont_answer.ContAnswer.TheVariants as answers
use Rattle.sw_container_steps.specs.declared.sharding.Sharding.{Sharding}
use Rattle.sw_hashpath.specs.declared.place.Place.{Place}
use Rattle.sw_peer.specs.Sights.{Sight}
use Rattle.sw_ring.specs.declared.ring.Ring.{Ring}
use Rattle.sw_shard_range.specs.declared.range.Range.{Range}
use Rattle.sw_sharded_listing.proofs.Ends.{here}
use Rattle.sw_sharded_listing.specs.Counts.{AreCounted, Count, IsCountedNext, IsSiteAdded, Site, Sums, shard_site, sites_of, with_info}
use Rattle.sw_sharded_listing.specs.Parts.{are_places, replica_at, served_in}

abbrev IsOk : Sums → Count → Type 0
IsOk x r = Ok x ≡ r

ok-is : (x y : Sums) → IsOk x (Ok y) → x ≡ y
ok-is x y same = cc

module _ (device : ℕ) (place : Place) (sites : List Site) (sums : Sums) (old : Sight) where
  pub counted-err : (answer : ContAnswer) (new : Sight) → IsSiteAdded device place sums old (Err answer) new
      → AreCounted (record { device = device; place = place } ∷ sites) sums old (Err answer) new
  counted-err answer new (Ok info, asked, is) = cc
  counted-err answer new (Err other, asked, is) = inl (other, asked, is)

  pub counted-ok : (next : Sums) (mid : Sight) → IsSiteAdded device place sums old (Ok next) mid → (later : Count) (new : Sight)
      → AreCounted sites next mid later new → AreCounted (record { device = device; place = place } ∷ sites) sums old later new
  counted-ok next mid (Ok info, asked, is) later new rest =
      inr (info, mid, asked, subst (λ (x : Sums). AreCounted sites x mid later new) (ok-is next (with_info sums info) is) rest)
  counted-ok next mid (Err other, asked, is) later new rest = cc

-- what is known of all that is still to come is known after a shard too, or where it ends
module _ (ring : Ring) (replica : ℕ) (served : List Range) (P : Count → Sight → Type 0) (i : ℕ) (range : Range) (at : ℕ) (sums : Sums) (old : Sight)
    (within : i < length served) (here_is : range ≡ get_or served i range) (at_is : at ≡ replica_at ring replica range.shard)
    (whole : (later : Count) (new : Sight) → AreCounted (map (shard_site ring replica) (drop i served)) sums old later new → P later new) where
  shards-from : (later : Count) (new : Sight)
      → AreCounted (record { device = at; place = range.shard } ∷ map (shard_site ring replica) (drop (i + 1) served)) sums old later new → P later new
  shards-from later new counted =
      whole later new
      (subst (λ (rs : List Range). AreCounted (map (shard_site ring replica) rs) sums old later new) (sym (here served i range within here_is))
      (subst (λ (d : ℕ). AreCounted (record { device = d; place = range.shard } ∷ map (shard_site ring replica) (drop (i + 1) served)) sums old later new)
      at_is counted))

  pub shards-ended : (answer : ContAnswer) (new : Sight) → IsSiteAdded at range.shard sums old (Err answer) new → P (Err answer) new
  shards-ended answer new added =
      shards-from (Err answer) new (counted-err at range.shard (map (shard_site ring replica) (drop (i + 1) served)) sums old answer new added)

  pub shards-more : (next : Sums) (mid : Sight) → IsSiteAdded at range.shard sums old (Ok next) mid → (later : Count) (new : Sight)
      → AreCounted (map (shard_site ring replica) (drop (i + 1) served)) next mid later new → P later new
  shards-more next mid added later new rest =
      shards-from later new (counted-ok at range.shard (map (shard_site ring replica) (drop (i + 1) served)) sums old next mid added later new rest)

-- the container told how far it is split, and all places were tested
pub counted-next : (ring : Ring) (device : ℕ) (place : Place) (replica : ℕ) (sharding : Sharding) (served : List Range) (test : Bool) (old : Sight)
    (got : Count) (new : Sight) → served ≡ served_in sharding.ranges sharding.cursor → test ≡ are_places ring.secrets served → test ≡ true
    → AreCounted (sites_of ring device place replica served) (0, 0) old got new → IsCountedNext ring device place replica (Ok sharding) old got new
counted-next ring device place replica sharding served test old got new same test_is tested counted =
    subst (λ (rs : List Range). ((are_places ring.secrets rs ≡ true) × AreCounted (sites_of ring device place replica rs) (0, 0) old got new)
    ⊎ ((are_places ring.secrets rs ≡ false) × (new ≡ old) × (got ≡ Err answers.Failed))) same (inl (sym test_is ∙ tested, counted))
