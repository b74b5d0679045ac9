use Rattle.sw_listing_reply_laws.proofs.Showing.{replies-exact}
use Rattle.sw_listing_reply_laws.proofs.laws.listing_replies_are_exact.Goals as goal

pub returns : goal.returns
returns g c = replies-exact g.D.Door.sight
