-- The law: what a reply shows of a container is what is asked of the rows of its live objects.
use Rattle.std.proofs.Common.{◌≡◌, ℕ, Bool, true, false, true≢false, List, Option, None, Some, refl, sym, ◌∙◌, ap, subst, inl, inr, Result, Ok, Err}
use Rattle.std.specs.List.{Contains}
use Rattle.sw_account_laws.proofs.Listing.{door-here, rest, rows-here, showable-after}
use Rattle.sw_across_laws.proofs.Across.{listings-exact}
use Rattle.sw_across_laws.proofs.Doors.{door-kept}
use Rattle.sw_across_laws.proofs.Keeping.{KeepsAll, keeps-counted, keeps-is, keeps-join, keeps-look}
use Rattle.sw_across_laws.proofs.Reading.{read-there}
use Rattle.sw_across_laws.proofs.Single.{single-exact}
use Rattle.sw_across_laws.specs.Laws.{HasReplica, IsDoorTo}
use Rattle.sw_across_laws.specs.Showable.{AreNamed, IsShowable}
use Rattle.sw_container_server.proofs.AtKeepers.{asks_at_keepers}
use Rattle.sw_container_server.proofs.Looks.{read-refused, shown-refused}
use Rattle.sw_container_server.proofs.OneAsking.{asks_for_one}
use Rattle.sw_container_server.specs.Counting.{is_split, is_split_state, with_count, with_sums}
use Rattle.sw_container_server.specs.Laws.{IsAtReplica}
use Rattle.sw_container_server.specs.Replies.{IsListingReply}
use Rattle.sw_container_server.specs.Serving.{AreCounted, IsFollowed, IsInformed, IsListed, IsListingServed, IsServed, IsShown, IsTold}
use Rattle.sw_container_server.specs.declared.asked.ContAsked.{ContAsked}
use Rattle.sw_container_server.specs.declared.asked.ContAsked.TheVariants as asks
use Rattle.sw_container_steps.specs.Reads.{info_of, listing_of, split_over, told_of}
use Rattle.sw_container_steps.specs.Serving.{unserved}
use Rattle.sw_container_steps.specs.declared.cont_answer.ContAnswer.{ContAnswer}
use Rattle.sw_container_steps.specs.declared.info.Info.{Info}
use Rattle.sw_hashpath.specs.declared.place.Place.{Place}
use Rattle.sw_keeper.specs.declared.tables.Tables.{Tables}
use Rattle.sw_listing.specs.Listing.{listing}
use Rattle.sw_listing.specs.declared.entry.Entry.{Entry}
use Rattle.sw_listing.specs.declared.query.Query.{Query}
use Rattle.sw_listing_laws.specs.Laws.{AreLiveRows, DoAgree}
use Rattle.sw_listing_laws.specs.Plain.{Cluster}
use Rattle.sw_machine.specs.Machine.{Machine}
use Rattle.sw_message.specs.declared.response.Response.{Response}
use Rattle.sw_peer.specs.Sights.{Sight}
use Rattle.sw_peer.specs.declared.cont_event.ContEvent.TheVariants.{Informed, Listed}
use Rattle.sw_ring.specs.declared.ring.Ring.{Ring}
use Rattle.sw_rows.specs.declared.numbered.Numbered.{Numbered}
use Rattle.sw_shard_range.specs.declared.range.Range.{Range}
use Rattle.sw_sharded_listing.proofs.Looks.{err-ok}
use Rattle.sw_sharded_listing.proofs.Reading.{ok-is}
use Rattle.sw_sharded_listing.specs.Across.{IsListedAcross}
use Rattle.sw_sharded_listing.specs.Counts.{Count}
use Rattle.sw_sharded_listing.specs.Laws.{IsReadAt}
use Rattle.sw_listing_reply_laws.proofs.Looking.{IsToldOf, told-of}
use Rattle.sw_listing_reply_laws.proofs.Refusals.{unshown}
use Rattle.sw_listing_reply_laws.proofs.Replicas.{has-replica, is-keeper}
use Rattle.sw_listing_reply_laws.specs.Laws.{ListingRepliesAreExact, ShowsEntries, is_shown}

-- ---- answers

some-same : (a b : Tables) → Some a ≡ Some b → a ≡ b
some-same a b same = cc

-- a container that isn't split has no ranges
none-split : (o : Option (List Range)) (emptied : Bool) → is_split_state (split_over o emptied) ≡ false → o ≡ None
none-split None emptied is = refl
none-split (Some ranges) true is = cc
none-split (Some ranges) false is = cc

-- ---- what was told of the container

module _ (ring : Ring) (device : ℕ) (place : Place) (replica : ℕ) where
  -- that keeps all
  keeps-informed : (old : Sight) (read : Result Info ContAnswer) (first : Sight) → IsInformed device place old read first → KeepsAll old first
  keeps-informed old read first informed = keeps-look device place info_of (λ told. Informed place told) old read first informed.called

  keeps-told : (old : Sight) (told : Result Info ContAnswer) (mid : Sight) → IsTold ring device place replica old told mid → KeepsAll old mid
  keeps-told old told mid is = keeps-join old is.1 mid (keeps-informed old is.0 is.1 is.2) (by is.0 is.1 is.3)
    where
      by : (read : Result Info ContAnswer) (first : Sight) → AreCounted ring device place replica read first told mid → KeepsAll first mid
      by (Ok info) first (inl plain) = keeps-is first mid plain.1
      by (Ok info) first (inr across) = keeps-counted ring device place replica first across.1 mid across.2
      by (Err answer) first refused = keeps-is first mid refused.0

  -- where it isn't split, the tables that were read have no ranges
  abbrev IsPlainRead : Sight → Sight → Type 0
  IsPlainRead old mid = (t : Tables) × IsReadAt device place t old mid × (t.ranges ≡ None)

  told-plain : (old : Sight) (info : Info) (mid : Sight) → IsTold ring device place replica old (Ok info) mid → is_split info ≡ false
      → IsPlainRead old mid
  told-plain old info mid told plain = by told.0 told.1 told.2 told.3
    where
      by : (read : Result Info ContAnswer) (first : Sight) → IsInformed device place old read first
          → AreCounted ring device place replica read first (Ok info) mid → IsPlainRead old mid
      by (Err answer) first informed counted = absurd (err-ok answer info (sym counted.1))
      by (Ok got) first informed (inr across) = absurd (split across.1 across.3)
        where
          split : (count : Count) → Ok info ≡ with_count got count → ⊥
          split (Ok sums) same =
              let is = ok-is info (with_sums got sums) same in
              true≢false (sym across.0 ∙ (sym (ap is_split is) ∙ plain))
          split (Err answer) same = err-ok answer info (sym same)
      by (Ok got) first informed (inl counted) =
          let read : IsToldOf told_of device place got old first = told-of told_of device place (λ told. Informed place told) old got first informed.called in
          let is : info ≡ got = ok-is info got counted.2 in
          let none : (read.0).ranges ≡ None =
          none-split (read.0).ranges (read.0).emptied (sym (ap is_split (is ∙ read.3)) ∙ plain) in
          (read.0, subst (λ (s : Sight). IsReadAt device place read.0 old s) (sym counted.1) read.2, none)

-- ---- what is shown of it

module _ (c : Cluster) (root : Place → Place) (m : Machine) (place : Place) (can : IsShowable c root m place) (named : AreNamed c m) (agree : DoAgree m)
    (ring : Ring) (old new : Sight) (door : IsDoorTo c m ring old) (alone : new.alone ≡ true) (device : ℕ) (query : Query) (replica : ℕ)
    (at : IsAtReplica ring device place replica) (response : Response) (shows : is_shown response ≡ true) (rows : List Numbered)
    (live : AreLiveRows c m place rows) where
  has : HasReplica ring replica
  has = has-replica ring replica at.1

  among : Contains (c.replicas place) device
  among = subst (λ (all : List ℕ). Contains all device) (sym (door.keepers place)) (is-keeper ring device place at.0)

  -- a container that isn't split is listed by one read, of the tables that were told of
  single : (info : Info) (mid : Sight) (entries : List Entry) → IsTold ring device place replica old (Ok info) mid → is_split info ≡ false
      → IsListed device place query mid (Ok entries) new → entries ≡ listing query rows
  single info mid entries told unsplit listed =
      by
      (told-plain ring device place replica old info mid told unsplit)
      (told-of (λ front t. listing query (unserved t)) device place (λ got. Listed place query got) mid entries new listed.called)
    where
      kept : KeepsAll mid new
      kept = keeps-look device place (listing_of query) (λ got. Listed place query got) mid (Ok entries) new listed.called

      later : mid.alone ≡ true
      later = kept.alone alone

      by : IsPlainRead ring device place replica old mid → IsToldOf (λ front t. listing query (unserved t)) device place entries mid new
          → entries ≡ listing query rows
      by first second =
          second.3
          ∙ single-exact c root m place can named agree device among second.0 there none rows live query
        where
          was : m.containers.half.holds device place ≡ Some first.0
          was = read-there c m ring device place first.0 old mid first.1 door later

          there : m.containers.half.holds device place ≡ Some second.0
          there =
              read-there c m ring device place second.0 mid new second.2
              (door-kept c m ring old mid door (keeps-told ring device place replica old (Ok info) mid told)) alone

          none : (second.0).ranges ≡ None
          none = subst (λ (t : Tables). t.ranges ≡ None) (some-same first.0 second.0 (sym was ∙ there)) first.2

  -- one that is by a listing across its shards
  across : (info : Info) (mid : Sight) (entries : List Entry) → IsTold ring device place replica old (Ok info) mid
      → IsListedAcross ring device place query replica mid (Ok entries) new → entries ≡ listing query rows
  across info mid entries told listed =
      listings-exact c root m place can named agree ring mid
      (door-kept c m ring old mid door (keeps-told ring device place replica old (Ok info) mid told)) device among replica has query entries new alone
      listed rows live

  shown : (info : Info) (mid : Sight) (listed : Result (List Entry) ContAnswer) → IsTold ring device place replica old (Ok info) mid
      → IsShown ring device place replica query info mid listed new → IsListingReply query.json info listed response
      → ShowsEntries query (listing query rows) response
  shown info mid (Ok entries) told (inl one) reply =
      (info, subst (λ (all : List Entry). IsListingReply query.json info (Ok all) response) (single info mid entries told one.0 one.1) reply)
  shown info mid (Ok entries) told (inr all) reply =
      (info, subst (λ (all : List Entry). IsListingReply query.json info (Ok all) response) (across info mid entries told all.1) reply)
  shown info mid (Err answer) told is reply =
      absurd (unshown answer (shown-refused ring device place replica query info mid answer new is) (subst (λ (r : Response). is_shown r ≡ true) reply shows))

  followed : (told : Result Info ContAnswer) (mid : Sight) → IsTold ring device place replica old told mid
      → IsFollowed ring mid new device place query replica told response → ShowsEntries query (listing query rows) response
  followed (Ok info) mid told follows = shown info mid follows.0 told follows.1 follows.3
  followed (Err answer) mid told follows =
      absurd (unshown answer (read-refused ring device place replica told.0 old told.1 answer mid told.2 told.3)
      (subst (λ (r : Response). is_shown r ≡ true) follows.1 shows))

  served : IsListingServed ring old new device place query replica response → ShowsEntries query (listing query rows) response
  served is = followed is.0 is.1 is.2 is.3

pub replies-exact : {D : Type 0} (sight : D → Sight) → ListingRepliesAreExact sight
replies-exact {D} sight c root m account lines after hides roots sound run rooted agree texts ring old new door alone r device place query replica asked
    response answered shows plain settled rows live =
    let can = showable-after c root m account lines after hides roots sound run rooted texts place plain settled in
    served c root (rest c after) place can.0 can.1 agree ring (sight old) (sight new) (door-here c after ring (sight old) door) alone device query replica
    (asks_at_keepers ring r device place query replica asked) response shows rows (rows-here c after place rows live)
    (subst (λ (a : ContAsked). IsServed sight ring old new a response)
    (asks_for_one ring r answered.0 (asks.List device place query replica) answered.1 asked) answered.2)
