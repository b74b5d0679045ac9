-- A part that was asked.
use Rattle.std.proofs.Common.{◌≡◌, ◌≤◌, ℕ, List, length, ap, inr, arith, subst, sym, Result, Ok, Err, IfOk}
use Rattle.std.proofs.lemmas.List.{length-take}
use Rattle.std.specs.Map.{values_of}
use Rattle.sw_container_steps.specs.Reads.{listing_of}
use Rattle.sw_container_steps.specs.Serving.{unserved}
use Rattle.sw_hashpath.specs.declared.place.Place.{Place}
use Rattle.sw_listing.specs.Listing.{by_text, entries_asked, in_direction}
use Rattle.sw_listing.specs.declared.entry.Entry.{Entry}
use Rattle.sw_listing.specs.declared.query.Query.{Query}
use Rattle.sw_peer.proofs.Heard.{heard}
use Rattle.sw_peer.specs.ContSights.{IsLooked}
use Rattle.sw_peer.specs.Sights.{Calls, Sight}
use Rattle.sw_peer.specs.declared.cont_event.ContEvent.TheVariants.{Listed}
use Rattle.sw_peer.specs.declared.link.Link.TheVariants.{Local}
use Rattle.sw_peer.specs.declared.link.Lost.{Lost}
use Rattle.sw_shard_listing.specs.Ranges.{moved}
use Rattle.sw_sharded_listing.proofs.Reading.{one}
use Rattle.sw_sharded_listing.specs.Across.{IsListed, IsPartListed, Listing}
use Rattle.sw_sharded_listing.specs.Parts.{Part}

pub part-listed : (query : Query) (part p : Part) (asked : Query) (old : Sight) (heard_is : Result Listing Lost) (got : Listing) (new : Sight) → part ≡ p
    → asked ≡ moved query p.lower p.upper → heard_is ≡ Ok got
    → Calls (IsLooked Local p.device p.place (listing_of asked) (λ read. Listed p.place asked read)) old Local heard_is new
    → IsPartListed query part old got new
part-listed query part p asked old heard_is got new same moves is calls =
    subst (λ (x : Part). IsPartListed query x old got new) (sym same)
    (inr (subst (λ (q : Query). IsListed p.device p.place q old got new) moves
    (heard (IsLooked Local p.device p.place (listing_of asked) (λ read. Listed p.place asked read)) old Local heard_is (Ok got) new is calls)))

-- no more comes than is asked for
pub within-limit : (device : ℕ) (place : Place) (asked : Query) (limit : ℕ) (old : Sight) (heard_is : Result Listing Lost) (got : Listing) (new : Sight)
    → heard_is ≡ Ok got → asked.limit ≡ limit
    → Calls (IsLooked Local device place (listing_of asked) (λ read. Listed place asked read)) old Local heard_is new
    → IfOk got (λ (entries : List Entry). length entries ≤ limit)
within-limit device place asked limit old heard_is (Err answer) new is same calls = tt
within-limit device place asked limit old heard_is (Ok es) new is same calls =
    let read = one device place asked old es new
    (heard (IsLooked Local device place (listing_of asked) (λ got. Listed place asked got)) old Local heard_is (Ok (Ok es)) new is calls) in
    let all = in_direction asked.reverse (values_of (by_text (entries_asked asked (unserved read.0)))) in
    omega (arith, same, ap length read.2, length-take asked.limit all)
