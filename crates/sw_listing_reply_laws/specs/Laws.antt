-- What replies to listings of containers show. (This project's own.)
use Rattle.std.specs.Prelude.{◌≡◌, ◌==◌, ◌||◌, ℕ, Bool, true, false, List, [], Ok}
use Rattle.sw_account_laws.specs.Accounts.{Account}
use Rattle.sw_account_laws.specs.Laws.{HidesByName}
use Rattle.sw_account_laws.specs.Sound.{IsSound}
use Rattle.sw_across_laws.specs.Laws.{IsDoorTo}
use Rattle.sw_container_server.specs.Asking.{IsAsked}
use Rattle.sw_container_server.specs.Replies.{IsListingReply}
use Rattle.sw_container_server.specs.Serving.{IsAnswered}
use Rattle.sw_container_server.specs.declared.asked.ContAsked.TheVariants as asks
use Rattle.sw_container_steps.specs.declared.info.Info.{Info}
use Rattle.sw_exact_laws.specs.Laws.{AreTexts}
use Rattle.sw_hashpath.specs.declared.place.Place.{Place}
use Rattle.sw_listing.specs.Listing.{listing}
use Rattle.sw_listing.specs.declared.entry.Entry.{Entry}
use Rattle.sw_listing.specs.declared.query.Query.{Query}
use Rattle.sw_listing_laws.specs.Laws.{AreLiveRows, DoAgree, IsSettled}
use Rattle.sw_listing_laws.specs.Plain.{Cluster, RunsSoundly}
use Rattle.sw_machine.specs.Machine.{Machine, RunLine}
use Rattle.sw_message.specs.declared.request.Request.{Request}
use Rattle.sw_message.specs.declared.response.Response.{Response}
use Rattle.sw_origin_laws.specs.Roots.{AreRooted, AreRoots, runs_of}
use Rattle.sw_peer.specs.Sights.{Sight}
use Rattle.sw_ring.specs.declared.ring.Ring.{Ring}
use Rattle.sw_rows.specs.declared.numbered.Numbered.{Numbered}
use Rattle.sw_shard_range.specs.Names.{is_hidden}

-- the reply to a GET tells of the container: with entries, or that there are none to be shown
abbrev pub is_shown : Response → Bool
is_shown response = (response.status == 200) || (response.status == 204)

-- it shows exactly these entries, in their order, whatever else is told of the container
abbrev pub ShowsEntries : Query → List Entry → Response → Type 0
ShowsEntries query entries response = (info : Info) × IsListingReply query.json info (Ok entries) response

-- After any rooted run in which all keep to their parts, that began with a machine which was sound with its account, whatever failed, was lost, came again or
-- was restarted: where a request lists a container that isn't hidden, and of which no record is pending, over a door that is alone until then, a reply that
-- tells of the container shows exactly what is asked of the rows of its live objects, by all writes of the account and of the run. That is so at each of its
-- replicas, split or not, and whichever replicas of its shards are asked
abbrev pub ListingRepliesAreExact : {D : Type 0} → (D → Sight) → Type 0
ListingRepliesAreExact {D} sight = (c : Cluster) (root : Place → Place) (m : Machine) (account : Account) (lines : List RunLine) (after : Machine)
    → HidesByName c → AreRoots root → IsSound c root m account → (run : RunsSoundly c [] m lines after)
    → AreRooted c root m lines after (runs_of c [] m lines after run) → DoAgree after → AreTexts after
    → (ring : Ring) (old new : D) → IsDoorTo c after ring (sight old) → (sight new).alone ≡ true
    → (r : Request) (device : ℕ) (place : Place) (query : Query) (replica : ℕ) → IsAsked ring r (asks.List device place query replica)
    → (response : Response) → IsAnswered sight old new ring r response → is_shown response ≡ true
    → is_hidden place ≡ false → IsSettled c after place → (rows : List Numbered) → AreLiveRows c after place rows
    → ShowsEntries query (listing query rows) response
