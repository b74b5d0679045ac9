-- The reads of a request change nothing.
use Rattle.std.proofs.Common.{ℕ, List, sym, subst, inl, inr, Result, Ok, Err}
use Rattle.sw_container_steps.specs.Reads.{info_of, listing_of}
use Rattle.sw_container_steps.specs.declared.cont_answer.ContAnswer.{ContAnswer}
use Rattle.sw_container_steps.specs.declared.info.Info.{Info}
use Rattle.sw_hashpath.specs.declared.place.Place.{Place}
use Rattle.sw_listing.specs.declared.entry.Entry.{Entry}
use Rattle.sw_listing.specs.declared.query.Query.{Query}
use Rattle.sw_message.specs.declared.response.Response.{Response}
use Rattle.sw_peer.specs.Sights.{Sight}
use Rattle.sw_peer.specs.declared.cont_event.ContEvent.TheVariants.{Informed, Listed}
use Rattle.sw_ring.specs.declared.ring.Ring.{Ring}
use Rattle.sw_sharded_listing.proofs.Leaving.{leaves-itself, leaves-join, look-leaves, reads-leave-all}
use Rattle.sw_sharded_listing.specs.Reads.{LeavesAll}
use Rattle.sw_container_server.specs.Serving.{AreCounted, IsFollowed, IsListingLeft, IsShown, IsTold}

module _ (ring : Ring) (device : ℕ) (place : Place) (replica : ℕ) where
  counted-leaves : (read : Result Info ContAnswer) (mid : Sight) (told : Result Info ContAnswer) (new : Sight)
      → AreCounted ring device place replica read mid told new → LeavesAll mid new
  counted-leaves (Ok info) mid told new (inl plain) = subst (λ (x : Sight). LeavesAll mid x) (sym plain.1) (leaves-itself mid)
  counted-leaves (Ok info) mid told new (inr counted) = reads-leave-all.count ring device place replica mid counted.1 new counted.2
  counted-leaves (Err answer) mid told new refused = subst (λ (x : Sight). LeavesAll mid x) (sym refused.0) (leaves-itself mid)

  pub told-leaves : (old : Sight) (told : Result Info ContAnswer) (new : Sight) → IsTold ring device place replica old told new → LeavesAll old new
  told-leaves old told new p =
      leaves-join old p.1 new (look-leaves device place info_of (λ read. Informed place read) old p.0 p.1 p.2.called) (counted-leaves p.0 p.1 told new p.3)

  shown-leaves : (query : Query) (info : Info) (mid : Sight) (listed : Result (List Entry) ContAnswer) (new : Sight)
      → IsShown ring device place replica query info mid listed new → LeavesAll mid new
  shown-leaves query info mid listed new (inl own) =
      look-leaves device place (listing_of query) (λ read. Listed place query read) mid listed new own.1.called
  shown-leaves query info mid listed new (inr across) = reads-leave-all.listing ring device place query replica mid listed new across.1

  pub followed-leaves : (query : Query) (mid new : Sight) (told : Result Info ContAnswer) (response : Response)
      → IsFollowed ring mid new device place query replica told response → LeavesAll mid new
  followed-leaves query mid new (Ok info) response p = shown-leaves query info mid p.0 new p.1
  followed-leaves query mid new (Err answer) response p = subst (λ (x : Sight). LeavesAll mid x) (sym p.0) (leaves-itself mid)

  pub listing-leaves : (query : Query) (old new : Sight) → IsListingLeft ring old new device place query replica → LeavesAll old new
  listing-leaves query old new p = leaves-join old p.1 new (told-leaves old (Ok p.0) p.1 p.3) (shown-leaves query p.0 p.1 p.2 new p.4)
