-- A trail tells what a container was listed as across its shards, and how it was counted: the first read leaves a line that tells who is asked next, and so
-- each read does.
use Rattle.std.proofs.Common.{◌≡◌, ℕ, Bool, true, false, List, [], ◌∷◌, ◌++◌, append-nil, Some, refl, sym, ap, ◌∙◌, subst, ◌⊎◌, inl, inr, Result, Ok, Err}
use Rattle.std.proofs.Common.{true≢false}
use Rattle.std.proofs.lemmas.List.{append_cancel_left}
use Rattle.std.proofs.lemmas.Option.{same_Some}
use Rattle.sw_container_steps.specs.Reads.{info_of, listing_of, sharding_of}
use Rattle.sw_container_steps.specs.declared.cont_answer.ContAnswer.{ContAnswer}
use Rattle.sw_container_steps.specs.declared.cont_answer.ContAnswer.TheVariants as answers
use Rattle.sw_container_steps.specs.declared.info.Info.{Info}
use Rattle.sw_container_steps.specs.declared.sharding.Sharding.{Sharding}
use Rattle.sw_hashpath.specs.declared.place.Place.{Place}
use Rattle.sw_listing.specs.declared.entry.Entry.{Entry}
use Rattle.sw_listing.specs.declared.query.Query.{Query}
use Rattle.sw_peer.specs.Sights.{Sight}
use Rattle.sw_peer.specs.declared.cont_event.ContEvent.{ContEvent}
use Rattle.sw_peer.specs.declared.cont_event.ContEvent.TheVariants.{Informed, Listed, Sharded}
use Rattle.sw_peer.specs.declared.line.Line.{Line}
use Rattle.sw_ring.specs.declared.ring.Ring.{Ring}
use Rattle.sw_shard_listing.specs.Ranges.{after_entries, begun, moved}
use Rattle.sw_sharded_listing.proofs.Lines.{Adds, Follows, IsOne, heard-look, one-follows, refused-adds, told-adds}
use Rattle.sw_sharded_listing.proofs.Reading.{given}
use Rattle.sw_sharded_listing.specs.Across.{AreAllListed, AreListed, GivesUp, IsListed, IsListedAcross, IsListedNext, IsPartListed, IsShardingRead, Listing}
use Rattle.sw_sharded_listing.specs.Across.{are_some, preceded}
use Rattle.sw_sharded_listing.specs.Counts.{AreCounted, Count, IsCountedAcross, IsCountedNext, Site, Sums, sites_of, with_info}
use Rattle.sw_sharded_listing.specs.Parts.{Part, are_places, parts_of, served_in}
use Rattle.sw_sharded_listing.specs.Reads.{TrailsTellOne}

-- ---- lines in general

-- a door that is as it was has no more lines
none-added : (Told : List Line → Type 0) (lines : List Line) (old new : Sight) → old.trail ≡ Some lines → new ≡ old → Told [] → Adds Told lines new
none-added Told lines old new is same told = ([], ap (λ (s : Sight). s.trail) same ∙ (is ∙ ap Some (sym (append-nil lines))), told)

-- the lines that were added are these
pub added-are : (lines more others : List Line) (new : Sight) → new.trail ≡ Some (lines ++ more) → new.trail ≡ Some (lines ++ others) → more ≡ others
added-are lines more others new p q = append_cancel_left lines more others (same_Some (lines ++ more) (lines ++ others) (sym p ∙ q))

-- the event of a container that tells how far it is split
abbrev sharded_as : Place → Result Sharding ContAnswer → ContEvent
sharded_as place read = Sharded place read

one-sharding : (place : Place) (x y : Result Sharding ContAnswer) → Sharded place x ≡ Sharded place y → x ≡ y
one-sharding place x y is = cc

one-info : (place : Place) (x y : Result Info ContAnswer) → Informed place x ≡ Informed place y → x ≡ y
one-info place x y is = cc

one-listing : (place : Place) (query : Query) (x y : Listing) → Listed place query x ≡ Listed place query y → x ≡ y
one-listing place query x y is = cc

-- what a test tells of the ranges: they are asked for, or none is
module _ {B : Type 0} (test : Bool) (Told : Result B ContAnswer → List Line → Type 0) where
  abbrev Tested : Result B ContAnswer → List Line → Type 0
  Tested got more = ((test ≡ true) × Told got more) ⊎ ((test ≡ false) × (got ≡ Err answers.Failed) × (more ≡ []))

  one-tested : (End : List Line → Type 0) → IsOne End Told → IsOne End Tested
  one-tested End one got told more others behind beyond (inl p) (inl q) end end' same = one got told more others behind beyond p.1 q.1 end end' same
  one-tested End one got told more others behind beyond (inl p) (inr q) end end' same = absurd (true≢false (sym p.0 ∙ q.0))
  one-tested End one got told more others behind beyond (inr p) (inl q) end end' same = absurd (true≢false (sym q.0 ∙ p.0))
  one-tested End one got told more others behind beyond (inr p) (inr q) end end' same = (p.1 ∙ sym q.1, p.2 ∙ sym q.2)

-- ---- counts: where one found no memory, no line follows

abbrev NoLine : List Line → Type 0
NoLine behind = behind ≡ []

-- the event of a container that is asked
abbrev informed_as : Site → Result Info ContAnswer → ContEvent
informed_as site read = Informed site.place read

abbrev TellsSites : List Site → Sums → Count → List Line → Type 0
TellsSites [] sums got more = (got ≡ Ok sums) × (more ≡ [])
TellsSites (site ∷ sites) sums got more =
    Follows site.device (informed_as site) (λ (info : Info) (later : Count) (rest : List Line). TellsSites sites (with_info sums info) later rest) got more

-- what is told behind one that was asked
abbrev TellsRest : List Site → Sums → Info → Count → List Line → Type 0
TellsRest sites sums info = TellsSites sites (with_info sums info)

one-sites : (sites : List Site) (sums : Sums) → IsOne NoLine (TellsSites sites sums)
one-sites [] sums = λ got told more others behind beyond p q end end' same. (p.0 ∙ sym q.0, p.1 ∙ sym q.1)
one-sites (site ∷ sites) sums =
    one-follows NoLine (λ behind is. is) site.device (informed_as site) (one-info site.place) (TellsRest sites sums)
    (λ info. one-sites sites (with_info sums info))

sites-add : (sites : List Site) (sums : Sums) (lines : List Line) (old : Sight) (got : Count) (new : Sight) → old.trail ≡ Some lines
    → AreCounted sites sums old got new → Adds (TellsSites sites sums got) lines new
sites-add [] sums lines old got new is counted = none-added (TellsSites [] sums got) lines old new is counted.0 (counted.1, refl)
sites-add (site ∷ sites) sums lines old got new is (inl refused) =
    refused-adds site.device (informed_as site) (TellsRest sites sums) site.place info_of lines old got new refused.0 is refused.1 refused.2
sites-add (site ∷ sites) sums lines old got new is (inr counted) =
    told-adds site.device (informed_as site) (TellsRest sites sums) site.place info_of lines old got new counted.0 counted.1 is counted.2
    (λ ls at. sites-add sites (with_info sums counted.0) ls counted.1 got new at counted.3)

module _ (ring : Ring) (device : ℕ) (place : Place) (replica : ℕ) where
  abbrev CountedNext : Sharding → Count → List Line → Type 0
  CountedNext sharding got more =
      Tested (are_places ring.secrets (served_in sharding.ranges sharding.cursor))
      (TellsSites (sites_of ring device place replica (served_in sharding.ranges sharding.cursor)) (0, 0)) got more

  abbrev TellsCount : Count → List Line → Type 0
  TellsCount got more = Follows device (sharded_as place) CountedNext got more

  one-count : IsOne NoLine TellsCount
  one-count =
      one-follows NoLine (λ behind is. is) device (sharded_as place) (one-sharding place) CountedNext
      (λ sharding. one-tested (are_places ring.secrets (served_in sharding.ranges sharding.cursor))
      (TellsSites (sites_of ring device place replica (served_in sharding.ranges sharding.cursor)) (0, 0)) NoLine
      (one-sites (sites_of ring device place replica (served_in sharding.ranges sharding.cursor)) (0, 0)))

  next-counts : (sharding : Sharding) (lines : List Line) (old : Sight) (got : Count) (new : Sight) → old.trail ≡ Some lines
      → IsCountedNext ring device place replica (Ok sharding) old got new → Adds (CountedNext sharding got) lines new
  next-counts sharding lines old got new is (inl counted) =
      let more = sites-add (sites_of ring device place replica (served_in sharding.ranges sharding.cursor)) (0, 0) lines old got new is counted.1 in
      (more.0, more.1, inl (counted.0, more.2))
  next-counts sharding lines old got new is (inr unknown) =
      none-added (CountedNext sharding got) lines old new is unknown.1 (inr (unknown.0, unknown.2, refl))

  count-adds : (lines : List Line) (old : Sight) (got : Count) (new : Sight) → old.trail ≡ Some lines → IsCountedAcross ring device place replica old got new
      → Adds (TellsCount got) lines new
  count-adds lines old got new is across = by across.0 across.2 across.3
    where
      by : (read : Result Sharding ContAnswer) → IsShardingRead device place old read across.1
          → IsCountedNext ring device place replica read across.1 got new → Adds (TellsCount got) lines new
      by (Ok sharding) read next =
          told-adds device (sharded_as place) CountedNext place sharding_of lines old got new sharding across.1 is read
          (λ ls at. next-counts sharding ls across.1 got new at next)
      by (Err answer) read refused =
          refused-adds device (sharded_as place) CountedNext place sharding_of lines old got new answer is
          (subst (λ (s : Sight). IsShardingRead device place old (Err answer) s) (sym refused.0) read) refused.1

-- ---- listings: nothing is said of one that found no memory

abbrev Never : List Line → Type 0
Never behind = ⊥

module _ {B : Type 0} (Told : Result B ContAnswer → List Line → Type 0) where
  -- no memory was found, or this is told
  abbrev Fed : Result B ContAnswer → List Line → Type 0
  Fed got more = (got ≡ Err answers.NoMemory) ⊎ Told got more

  one-fed : IsOne Never Told → IsOne Never Fed
  one-fed one got told more others behind beyond (inl starved) q end end' same = absurd (end starved)
  one-fed one got told more others behind beyond (inr p) (inl starved) end end' same = absurd (end' starved)
  one-fed one got told more others behind beyond (inr p) (inr q) end end' same = one got told more others behind beyond p q end end' same

  fed-adds : (got : Result B ContAnswer) (lines : List Line) (new : Sight) → Adds (Told got) lines new → Adds (Fed got) lines new
  fed-adds got lines new (more, is, told) = (more, is, inr told)

-- entries, and what is told behind them
abbrev Preceded : List Entry → (Listing → List Line → Type 0) → Listing → List Line → Type 0
Preceded entries Told got more = (later : Listing) × Told later more × (got ≡ preceded entries later)

one-preceded : (entries : List Entry) (Told : Listing → List Line → Type 0) → IsOne Never Told → IsOne Never (Preceded entries Told)
one-preceded entries Told one got told more others behind beyond p q end end' same =
    let is = one p.0 q.0 more others behind beyond p.1 q.1 (λ starved. end (p.2 ∙ ap (preceded entries) starved))
    (λ starved. end' (q.2 ∙ ap (preceded entries) starved)) same in
    (p.2 ∙ (ap (preceded entries) is.0 ∙ sym q.2), is.1)

abbrev asked_of : Query → Part → Query
asked_of query part = moved query part.lower part.upper

-- the event of a part that is asked
abbrev listed_as : Query → Part → Listing → ContEvent
listed_as query part read = Listed part.place (asked_of query part) read

abbrev TellsParts : Query → List Part → Listing → List Line → Type 0
TellsParts query [] got more = (got ≡ Ok []) × (more ≡ [])
TellsParts query (part ∷ parts) got more =
    Fed (Follows part.device (listed_as query part)
    (λ (entries : List Entry). Preceded entries (λ (later : Listing) (rest : List Line). TellsParts (after_entries query entries) parts later rest))) got more

-- what is told behind a part
abbrev TellsBehind : Query → List Part → List Entry → Listing → List Line → Type 0
TellsBehind query parts entries = Preceded entries (TellsParts (after_entries query entries) parts)

abbrev TellsPart : Query → Part → List Part → Listing → List Line → Type 0
TellsPart query part parts = Follows part.device (listed_as query part) (TellsBehind query parts)

one-parts : (query : Query) (parts : List Part) → IsOne Never (TellsParts query parts)
one-parts query [] = λ got told more others behind beyond p q end end' same. (p.0 ∙ sym q.0, p.1 ∙ sym q.1)
one-parts query (part ∷ parts) =
    one-fed (TellsPart query part parts)
    (one-follows Never (λ behind never. absurd never) part.device (listed_as query part) (one-listing part.place (asked_of query part))
    (TellsBehind query parts)
    (λ entries. one-preceded entries (TellsParts (after_entries query entries) parts) (one-parts (after_entries query entries) parts)))

parts-add : (query : Query) (parts : List Part) (lines : List Line) (old : Sight) (got : Listing) (new : Sight) → old.trail ≡ Some lines
    → AreListed query parts old got new → Adds (TellsParts query parts got) lines new
parts-add query [] lines old got new is listed = none-added (TellsParts query [] got) lines old new is listed.0 (listed.1, refl)
parts-add query (part ∷ parts) lines old got new is (inl refused) = by refused.1
  where
    by : IsPartListed query part old (Err refused.0) new → Adds (TellsParts query (part ∷ parts) got) lines new
    by (inl gives) = none-added (TellsParts query (part ∷ parts) got) lines old new is gives.1 (inl (refused.2 ∙ gives.2))
    by (inr listed) =
        fed-adds (TellsPart query part parts) got lines new
        (refused-adds part.device (listed_as query part) (TellsBehind query parts) part.place (listing_of (asked_of query part)) lines old got new refused.0 is
        listed refused.2)
parts-add query (part ∷ parts) lines old got new is (inr listed) =
    by (λ ls later at h. parts-add (after_entries query listed.0) parts ls listed.1 later new at h) listed.3
  where
    read : IsListed part.device part.place (asked_of query part) old (Ok listed.0) listed.1
    read = given query part old listed.0 listed.1 listed.2

    by : ((ls : List Line) (later : Listing) → listed.1.trail ≡ Some ls → AreListed (after_entries query listed.0) parts listed.1 later new
        → Adds (TellsParts (after_entries query listed.0) parts later) ls new)
        → GivesUp (are_some listed.0) listed.1 got new
        ⊎ ((later : Listing) × AreListed (after_entries query listed.0) parts listed.1 later new × (got ≡ preceded listed.0 later))
        → Adds (TellsParts query (part ∷ parts) got) lines new
    by again (inl gives) =
        let told = heard-look part.device part.place (listing_of (asked_of query part)) (listed_as query part) lines old (Ok listed.0) listed.1 is read in
        (told.0, ap (λ (s : Sight). s.trail) gives.1 ∙ told.1, inl gives.2)
    by again (inr later) =
        fed-adds (TellsPart query part parts) got lines new
        (told-adds part.device (listed_as query part) (TellsBehind query parts) part.place (listing_of (asked_of query part)) lines old got new listed.0
        listed.1 is read
        (λ ls at. let behind = again ls later.0 at later.1 in (behind.0, behind.1, (later.0, behind.2, later.2))))

module _ (ring : Ring) (device : ℕ) (place : Place) (query : Query) (replica : ℕ) where
  abbrev parts_by : Sharding → List Part
  parts_by sharding = parts_of ring device place replica query.reverse sharding.ranges sharding.cursor

  abbrev ListedNext : Sharding → Listing → List Line → Type 0
  ListedNext sharding got more =
      Tested (are_places ring.secrets (served_in sharding.ranges sharding.cursor)) (Fed (TellsParts (begun query) (parts_by sharding))) got more

  abbrev TellsListing : Listing → List Line → Type 0
  TellsListing got more = Follows device (sharded_as place) ListedNext got more

  one-across : IsOne Never TellsListing
  one-across =
      one-follows Never (λ behind never. absurd never) device (sharded_as place) (one-sharding place) ListedNext
      (λ sharding. one-tested (are_places ring.secrets (served_in sharding.ranges sharding.cursor)) (Fed (TellsParts (begun query) (parts_by sharding))) Never
      (one-fed (TellsParts (begun query) (parts_by sharding)) (one-parts (begun query) (parts_by sharding))))

  all-add : (parts : List Part) (lines : List Line) (old : Sight) (got : Listing) (new : Sight) → old.trail ≡ Some lines
      → AreAllListed query parts old got new → Adds (Fed (TellsParts (begun query) parts) got) lines new
  all-add parts lines old got new is (inl gives) = none-added (Fed (TellsParts (begun query) parts) got) lines old new is gives.1 (inl gives.2)
  all-add parts lines old got new is (inr listed) =
      fed-adds (TellsParts (begun query) parts) got lines new (parts-add (begun query) parts lines old got new is listed)

  next-lists : (sharding : Sharding) (lines : List Line) (old : Sight) (got : Listing) (new : Sight) → old.trail ≡ Some lines
      → IsListedNext ring device place query replica (Ok sharding) old got new → Adds (ListedNext sharding got) lines new
  next-lists sharding lines old got new is (inl listed) =
      let more = all-add (parts_by sharding) lines old got new is listed.1 in (more.0, more.1, inl (listed.0, more.2))
  next-lists sharding lines old got new is (inr unknown) =
      none-added (ListedNext sharding got) lines old new is unknown.1 (inr (unknown.0, unknown.2, refl))

  listing-adds : (lines : List Line) (old : Sight) (got : Listing) (new : Sight) → old.trail ≡ Some lines
      → IsListedAcross ring device place query replica old got new → Adds (TellsListing got) lines new
  listing-adds lines old got new is across = by across.0 across.2 across.3
    where
      by : (read : Result Sharding ContAnswer) → IsShardingRead device place old read across.1
          → IsListedNext ring device place query replica read across.1 got new → Adds (TellsListing got) lines new
      by (Ok sharding) read next =
          told-adds device (sharded_as place) ListedNext place sharding_of lines old got new sharding across.1 is read
          (λ ls at. next-lists sharding ls across.1 got new at next)
      by (Err answer) read refused =
          refused-adds device (sharded_as place) ListedNext place sharding_of lines old got new answer is
          (subst (λ (s : Sight). IsShardingRead device place old (Err answer) s) (sym refused.0) read) refused.1

-- ---- the laws

listing-is : (ring : Ring) (device : ℕ) (place : Place) (query : Query) (replica : ℕ) (lines : List Line) (got told : Listing) (new now : Sight)
    → Adds (TellsListing ring device place query replica got) lines new → Adds (TellsListing ring device place query replica told) lines now
    → ¬ (got ≡ Err answers.NoMemory) → ¬ (told ≡ Err answers.NoMemory) → new.trail ≡ now.trail → got ≡ told
listing-is ring device place query replica lines got told new now p q fed feeds same =
    (one-across ring device place query replica got told p.0 q.0 [] [] p.2 q.2 fed feeds
    (ap (λ (ls : List Line). ls ++ []) (added-are lines p.0 q.0 new p.1 (same ∙ q.1)))).0

count-is : (ring : Ring) (device : ℕ) (place : Place) (replica : ℕ) (lines more others behind beyond : List Line) (got told : Count) (new now : Sight)
    → Adds (TellsCount ring device place replica got) lines new → Adds (TellsCount ring device place replica told) lines now
    → new.trail ≡ Some (lines ++ more) → now.trail ≡ Some (lines ++ others) → (got ≡ Err answers.NoMemory → behind ≡ [])
    → (told ≡ Err answers.NoMemory → beyond ≡ []) → more ++ behind ≡ others ++ beyond → (got ≡ told) × (more ≡ others)
count-is ring device place replica lines more others behind beyond got told new now p q is is' end end' same =
    one-count ring device place replica got told more others behind beyond
    (subst (λ (ls : List Line). TellsCount ring device place replica got ls) (added-are lines p.0 more new p.1 is) p.2)
    (subst (λ (ls : List Line). TellsCount ring device place replica told ls) (added-are lines q.0 others now q.1 is') q.2) end end' same

pub trails-tell-one : TrailsTellOne
trails-tell-one = record {
  listing = λ ring device place query replica lines old other got told new now is is' across across' fed feeds same.
      listing-is ring device place query replica lines got told new now (listing-adds ring device place query replica lines old got new is across)
      (listing-adds ring device place query replica lines other told now is' across') fed feeds same;
  adds = λ ring device place query replica lines old got new is across.
      let more = listing-adds ring device place query replica lines old got new is across in (more.0, more.1);
  count = λ ring device place replica lines old other got told new now more others behind beyond is is' across across' added added' end end' same.
      count-is ring device place replica lines more others behind beyond got told new now
      (count-adds ring device place replica lines old got new is across) (count-adds ring device place replica lines other told now is' across') added added'
      end end' same;
  counts = λ ring device place replica lines old got new is across.
      let more = count-adds ring device place replica lines old got new is across in (more.0, more.1);
}
