-- By what a listing across shards, or a count, is refused.
use Rattle.std.proofs.Common.{◌≡◌, ℕ, List, [], ◌∷◌, refl, sym, subst, ◌⊎◌, inl, inr, Option, Result, Ok, Err}
use Rattle.sw_container_steps.specs.Reads.{info_of, listing_of, sharding_of}
use Rattle.sw_container_steps.specs.Rules.{cont_look}
use Rattle.sw_container_steps.specs.declared.cont_answer.ContAnswer.{ContAnswer}
use Rattle.sw_container_steps.specs.declared.cont_answer.ContAnswer.TheVariants as answers
use Rattle.sw_container_steps.specs.declared.sharding.Sharding.{Sharding}
use Rattle.sw_hashpath.specs.declared.place.Place.{Place}
use Rattle.sw_keeper.specs.declared.tables.Tables.{Tables}
use Rattle.sw_listing.specs.declared.entry.Entry.{Entry}
use Rattle.sw_listing.specs.declared.query.Query.{Query}
use Rattle.sw_peer.specs.ContSights.{IsLooked}
use Rattle.sw_peer.specs.Sights.{Calls, Sight}
use Rattle.sw_peer.specs.declared.cont_event.ContEvent.{ContEvent}
use Rattle.sw_peer.specs.declared.cont_event.ContEvent.TheVariants.{Informed, Listed, Sharded}
use Rattle.sw_peer.specs.declared.link.Link.TheVariants.{Local}
use Rattle.sw_ring.specs.declared.ring.Ring.{Ring}
use Rattle.sw_shard_listing.specs.Ranges.{after_entries, begun, moved}
use Rattle.sw_sharded_listing.proofs.Looks.{IsErr, came, err-is, err-ok, only-absent}
use Rattle.sw_sharded_listing.specs.Across.{AreAllListed, AreListed, GivesUp, IsListedNext, IsPartListed, IsShardingRead, Listing, are_some}
use Rattle.sw_sharded_listing.specs.Across.{preceded}
use Rattle.sw_sharded_listing.specs.Counts.{AreCounted, IsCountedNext, IsInformed, Site, Sums, sites_of, with_info}
use Rattle.sw_sharded_listing.specs.Parts.{Part, parts_of, served_in}
use Rattle.sw_sharded_listing.specs.Reads.{IsOfRead, RefusalsAreFew}
use Rattle.sw_step.specs.Steps.{Tells}

-- what was answered before is answered
passed-on : (A : Type 0) (a b : ContAnswer) → IsErr {A = A} a (Err b) → IsOfRead b → IsOfRead a
passed-on A a b is of = subst IsOfRead (sym (err-is A a b is)) of

-- ---- one read

absent : (answer : ContAnswer) → answer ≡ answers.Absent → IsOfRead answer
absent answer is = subst IsOfRead (sym is) tt

of-read : (A : Type 0) (answer : ContAnswer) → (cont_look {A = A} (Err answer) ≡ Tells → answer ≡ answers.Absent) → IsOfRead answer
of-read A answers.Failed only = tt
of-read A answers.NoMemory only = tt
of-read A answer only = absent answer (only refl)

module _ {A : Type 0} (device : ℕ) (place : Place) (reading : Option Tables → ℕ → Result A ContAnswer) (event : Result A ContAnswer → ContEvent) where
  pub look-refused : ((t : Option Tables) (front : ℕ) (answer : ContAnswer) → Err answer ≡ reading t front → answer ≡ answers.Absent)
      → (s : Sight) (answer : ContAnswer) (t : Sight) → Calls (IsLooked Local device place reading event) s Local (Ok (Err answer)) t → IsOfRead answer
  look-refused only s answer t p =
      let comes = came (IsLooked Local device place reading event) s (Err answer) t p in
      of-read A answer (λ tells. only (comes.1.step.step.read place) _ answer (comes.1.step.step.shown tells))

pub sharding-refused : (device : ℕ) (place : Place) (s : Sight) (answer : ContAnswer) (t : Sight) → IsShardingRead device place s (Err answer) t
    → IsOfRead answer
sharding-refused device place s answer t p =
    look-refused device place sharding_of (λ read. Sharded place read) (λ t front a is. only-absent t _ a is) s answer t p

pub info-refused : (site : Site) (s : Sight) (answer : ContAnswer) (t : Sight) → IsInformed site s (Err answer) t → IsOfRead answer
info-refused site s answer t p =
    look-refused site.device site.place info_of (λ read. Informed site.place read) (λ t front a is. only-absent t _ a is) s answer t p

part-refused : (query : Query) (part : Part) (old : Sight) (answer : ContAnswer) (new : Sight) → IsPartListed query part old (Err answer) new → IsOfRead answer
part-refused query part old answer new (inl gives) = passed-on (List Entry) answer answers.NoMemory gives.2 tt
part-refused query part old answer new (inr listed) =
    let asked = moved query part.lower part.upper in
    look-refused part.device part.place (listing_of asked) (λ read. Listed part.place asked read) (λ t front a is. only-absent t _ a is) old answer new listed

-- ---- a listing

preceded-err : (found : List Entry) (later : Listing) (answer : ContAnswer) → Err answer ≡ preceded found later → later ≡ Err answer
preceded-err found (Ok rest) answer is = cc
preceded-err found (Err other) answer is = sym is

parts-refused : (query : Query) (parts : List Part) (old : Sight) (answer : ContAnswer) (new : Sight) → AreListed query parts old (Err answer) new
    → IsOfRead answer
parts-refused query [] old answer new listed = absurd (err-ok {A = List Entry} answer [] listed.1)
parts-refused query (part ∷ parts) old answer new (inl refused) =
    passed-on (List Entry) answer refused.0 refused.2 (part-refused query part old refused.0 new refused.1)
parts-refused query (part ∷ parts) old answer new (inr listed) =
    by (λ h. parts-refused (after_entries query listed.0) parts listed.1 answer new h) listed.3
  where
    by : (AreListed (after_entries query listed.0) parts listed.1 (Err answer) new → IsOfRead answer) → GivesUp (are_some listed.0) listed.1 (Err answer) new
        ⊎ ((later : Listing) × AreListed (after_entries query listed.0) parts listed.1 later new × (Err answer ≡ preceded listed.0 later)) → IsOfRead answer
    by again (inl gives) = passed-on (List Entry) answer answers.NoMemory gives.2 tt
    by again (inr later) =
        again (subst (λ (r : Listing). AreListed (after_entries query listed.0) parts listed.1 r new) (preceded-err listed.0 later.0 answer later.2) later.1)

all-refused : (query : Query) (parts : List Part) (old : Sight) (answer : ContAnswer) (new : Sight) → AreAllListed query parts old (Err answer) new
    → IsOfRead answer
all-refused query parts old answer new (inl gives) = passed-on (List Entry) answer answers.NoMemory gives.2 tt
all-refused query parts old answer new (inr listed) = parts-refused (begun query) parts old answer new listed

-- ---- a count

sites-refused : (sites : List Site) (sums : Sums) (old : Sight) (answer : ContAnswer) (new : Sight) → AreCounted sites sums old (Err answer) new
    → IsOfRead answer
sites-refused [] sums old answer new counted = absurd (err-ok answer sums counted.1)
sites-refused (site ∷ sites) sums old answer new (inl refused) =
    passed-on Sums answer refused.0 refused.2 (info-refused site old refused.0 new refused.1)
sites-refused (site ∷ sites) sums old answer new (inr counted) = sites-refused sites (with_info sums counted.0) counted.1 answer new counted.3

-- ---- the whole

module _ (ring : Ring) (device : ℕ) (place : Place) (replica : ℕ) (old : Sight) (answer : ContAnswer) (mid new : Sight) where
  listed-refused : (query : Query) (read : Result Sharding ContAnswer) → IsShardingRead device place old read mid
      → IsListedNext ring device place query replica read mid (Err answer) new → IsOfRead answer
  listed-refused query (Ok sharding) read (inl listed) =
      all-refused query (parts_of ring device place replica query.reverse sharding.ranges sharding.cursor) mid answer new listed.1
  listed-refused query (Ok sharding) read (inr unknown) = passed-on (List Entry) answer answers.Failed unknown.2 tt
  listed-refused query (Err other) read refused = passed-on (List Entry) answer other refused.1 (sharding-refused device place old other mid read)

  counted-refused : (read : Result Sharding ContAnswer) → IsShardingRead device place old read mid
      → IsCountedNext ring device place replica read mid (Err answer) new → IsOfRead answer
  counted-refused (Ok sharding) read (inl counted) =
      sites-refused (sites_of ring device place replica (served_in sharding.ranges sharding.cursor)) (0, 0) mid answer new counted.1
  counted-refused (Ok sharding) read (inr unknown) = passed-on Sums answer answers.Failed unknown.2 tt
  counted-refused (Err other) read refused = passed-on Sums answer other refused.1 (sharding-refused device place old other mid read)

pub refusals-are-few : RefusalsAreFew
refusals-are-few = record {
  listing = λ ring device place query replica old answer new across.
      listed-refused ring device place replica old answer across.1 new query across.0 across.2 across.3;
  count = λ ring device place replica old answer new across.
      counted-refused ring device place replica old answer across.1 new across.0 across.2 across.3;
}
