-- A reply to a read that found no memory tells something: no read is refused with a time or a shard.
use Rattle.std.proofs.Common.{◌≡◌, ℕ, true, List, refl, sym, subst, inl, inr, Result, Ok, Err}
use Rattle.sw_container_steps.specs.Reads.{listing_of}
use Rattle.sw_container_steps.specs.declared.cont_answer.ContAnswer.{ContAnswer}
use Rattle.sw_container_steps.specs.declared.cont_answer.ContAnswer.TheVariants as answers
use Rattle.sw_container_steps.specs.declared.info.Info.{Info}
use Rattle.sw_hashpath.specs.declared.place.Place.{Place}
use Rattle.sw_listing.specs.declared.entry.Entry.{Entry}
use Rattle.sw_listing.specs.declared.query.Query.{Query}
use Rattle.sw_peer.specs.Sights.{Sight}
use Rattle.sw_peer.specs.declared.cont_event.ContEvent.TheVariants.{Listed}
use Rattle.sw_ring.specs.declared.ring.Ring.{Ring}
use Rattle.sw_sharded_listing.proofs.Looks.{err-is, err-ok, only-absent}
use Rattle.sw_sharded_listing.proofs.Refusing.{info-refused, look-refused, refusals-are-few}
use Rattle.sw_sharded_listing.specs.Counts.{Count, IsCountedAcross}
use Rattle.sw_sharded_listing.specs.Reads.{IsOfRead}
use Rattle.sw_container_server.specs.Counting.{with_count, with_sums}
use Rattle.sw_container_server.specs.Replies.{shows_time, takes_memory}
use Rattle.sw_container_server.specs.Serving.{AreCounted, IsInformed, IsShown, IsTold, is_unshown, may_starve}

no-time : (answer : ContAnswer) → IsOfRead answer → shows_time answer ≡ true → ⊥
no-time answers.Absent of shows = cc
no-time answers.Failed of shows = cc
no-time answers.NoMemory of shows = cc
no-time answer of shows = absurd of

module _ (ring : Ring) (device : ℕ) (place : Place) (replica : ℕ) where
  -- ---- what is told of a container

  count-refused : (info : Info) (mid : Sight) (answer : ContAnswer) (count : Count) (new : Sight) → IsCountedAcross ring device place replica mid count new
      → Err answer ≡ with_count info count → IsOfRead answer
  count-refused info mid answer (Ok sums) new p is = absurd (err-ok answer (with_sums info sums) is)
  count-refused info mid answer (Err other) new p is =
      subst IsOfRead (sym (err-is Info answer other is)) (refusals-are-few.count ring device place replica mid other new p)

  pub read-refused : (read : Result Info ContAnswer) (old mid : Sight) (answer : ContAnswer) (new : Sight) → IsInformed device place old read mid
      → AreCounted ring device place replica read mid (Err answer) new → IsOfRead answer
  read-refused (Ok info) old mid answer new read (inl plain) = absurd (err-ok answer info plain.2)
  read-refused (Ok info) old mid answer new read (inr counted) = count-refused info mid answer counted.1 new counted.2 counted.3
  read-refused (Err other) old mid answer new read refused =
      subst IsOfRead (sym (err-is Info answer other refused.1))
      (info-refused (record { device = device; place = place }) old other mid read.called)

  -- where nothing was told, the reply needs no memory
  pub refused-fed : (old : Sight) (answer : ContAnswer) (new : Sight) → IsTold ring device place replica old (Err answer) new → shows_time answer ≡ true → ⊥
  refused-fed old answer new p shows = no-time answer (read-refused p.0 old p.1 answer new p.2 p.3) shows

  -- a reply to a HEAD that found no memory tells of a container
  pub told-left : (old : Sight) (told : Result Info ContAnswer) (new : Sight) → IsTold ring device place replica old told new → takes_memory told ≡ true
      → (info : Info) × IsTold ring device place replica old (Ok info) new
  told-left old (Ok info) new p takes = (info, p)
  told-left old (Err answer) new p takes = absurd (refused-fed old answer new p takes)

  -- ---- its listing

  pub shown-refused : (query : Query) (info : Info) (mid : Sight) (answer : ContAnswer) (new : Sight)
      → IsShown ring device place replica query info mid (Err answer) new → IsOfRead answer
  shown-refused query info mid answer new (inl own) =
      look-refused device place (listing_of query) (λ listed. Listed place query listed) (λ t front a is. only-absent t _ a is) mid answer new own.1.called
  shown-refused query info mid answer new (inr across) = refusals-are-few.listing ring device place query replica mid answer new across.1

  -- a reply to a GET that found no memory shows entries
  pub shown-left : (query : Query) (info : Info) (mid : Sight) (listed : Result (List Entry) ContAnswer) (new : Sight)
      → IsShown ring device place replica query info mid listed new → takes_memory listed ≡ true → may_starve info listed ≡ true
  shown-left query info mid (Ok entries) new p takes = refl
  shown-left query info mid (Err answer) new p takes = absurd (no-time answer (shown-refused query info mid answer new p) takes)

-- one that isn't shown wanted memory itself
pub unshown-left : (info : Info) (listed : Result (List Entry) ContAnswer) → is_unshown info listed ≡ true → may_starve info listed ≡ true
unshown-left info (Ok entries) is = cc
unshown-left info (Err answer) is = is
