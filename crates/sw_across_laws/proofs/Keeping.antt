-- What reads of containers keep: what the devices hold, and which locks tell their contents.
use Rattle.std.proofs.Common.{◌≡◌, ℕ, true, List, [], ◌∷◌, ◌++◌, Option, refl, sym, ◌∙◌, ap, subst, Result, Ok}
use Rattle.sw_container_steps.specs.Reads.{info_of, listing_of, sharding_of}
use Rattle.sw_container_steps.specs.declared.cont_answer.ContAnswer.{ContAnswer}
use Rattle.sw_hashpath.specs.declared.place.Place.{Place}
use Rattle.sw_keeper.specs.declared.tables.Tables.{Tables}
use Rattle.sw_listing.specs.declared.query.Query.{Query}
use Rattle.sw_peer.specs.ContSights.{ContMoves, HoldsTables, IsIn, IsLooked}
use Rattle.sw_peer.specs.Sights.{Calls, Comes, IsSame, Sight}
use Rattle.sw_peer.specs.declared.cont_event.ContEvent.{ContEvent}
use Rattle.sw_peer.specs.declared.cont_event.ContEvent.TheVariants.{Informed, Listed, Sharded}
use Rattle.sw_peer.specs.declared.link.Link.{Link}
use Rattle.sw_peer.specs.declared.link.Link.TheVariants.{Local}
use Rattle.sw_ring.specs.declared.ring.Ring.{Ring}
use Rattle.sw_sharded_listing.proofs.Steps.{AreSteps, IsAsked, across-steps, counts-steps}
use Rattle.sw_sharded_listing.specs.Across.{IsListedAcross, Listing}
use Rattle.sw_sharded_listing.specs.Counts.{Count, IsCountedAcross}
use Rattle.sw_sharded_listing.specs.Laws.{IsReadAt}
use Rattle.sw_sharded_listing.specs.Reads.{LeavesAll}

-- the nodes are what they were, and so is which locks tell; every device holds the tables that it held
pub record KeepsAll (old new : Sight) : Type 0 where
  pub nodes : new.nodes ≡ old.nodes
  pub told : (l : ℕ) → (new.containers.seen l).told ≡ (old.containers.seen l).told
  pub holds_all : HoldsTables old new
  pub alone : new.alone ≡ true → old.alone ≡ true

pub keeps-refl : (s : Sight) → KeepsAll s s
keeps-refl s = record { nodes = refl; told = λ l. refl; holds_all = λ alone d p. refl; alone = λ is. is }

pub keeps-is : (old new : Sight) → new ≡ old → KeepsAll old new
keeps-is old new is = subst (λ (s : Sight). KeepsAll old s) (sym is) (keeps-refl old)

pub keeps-same : (old new : Sight) → IsSame old new → KeepsAll old new
keeps-same old new is = record {
  nodes = ap (λ (s : Sight). s.nodes) is.same;
  told = λ l. ap (λ (s : Sight). (s.containers.seen l).told) is.same;
  holds_all = λ alone d p. ap (λ (s : Sight). s.containers.holds d p) is.same;
  alone = λ alone. sym (ap (λ (s : Sight). s.alone) is.same) ∙ alone;
}

pub keeps-join : (a b c : Sight) → KeepsAll a b → KeepsAll b c → KeepsAll a c
keeps-join a b c p q = record {
  nodes = q.nodes ∙ p.nodes;
  told = λ l. q.told l ∙ p.told l;
  holds_all = λ alone d place. q.holds_all alone d place ∙ p.holds_all (q.alone alone) d place;
  alone = λ alone. p.alone (q.alone alone);
}

-- steps that change no tables do
pub keeps-moved : (at : ℕ → Place → Type 0) (old new : Sight) → ContMoves at old new → HoldsTables old new → KeepsAll old new
keeps-moved at old new moves holds = record {
  nodes = moves.nodes;
  told = λ l. (moves.containers.grows l).told;
  holds_all = holds;
  alone = moves.alone;
}

-- what leaves all does, where the locks tell what they told
pub keeps-left : (old new : Sight) → LeavesAll old new → ((l : ℕ) → (new.containers.seen l).told ≡ (old.containers.seen l).told) → KeepsAll old new
keeps-left old new leaves told = record { nodes = leaves.nodes; told = told; holds_all = leaves.holds_all; alone = leaves.alone }

-- ---- one read

pub keeps-read : (device : ℕ) (place : Place) (t : Tables) (old new : Sight) → IsReadAt device place t old new → KeepsAll old new
keeps-read device place t old new read =
    keeps-join old read.at new (keeps-moved (IsIn device place) old read.at read.moves read.holds_all) (keeps-same read.at new read.same)

module _ {A : Type 0} (link : Link) (device : ℕ) (place : Place) (reading : Option Tables → ℕ → Result A ContAnswer)
    (event : Result A ContAnswer → ContEvent) where
  abbrev Step : Sight → Result A ContAnswer → Sight → Type 0
  Step = IsLooked link device place reading event

  pub keeps-comes : (old : Sight) (answers : List (Result A ContAnswer)) (new : Sight) → Comes Step old answers new → KeepsAll old new
  keeps-comes old [] new came = keeps-same old new came
  keeps-comes old (answer ∷ answers) new came =
      keeps-join old came.0 new (keeps-moved (IsIn device place) old came.0 came.1.moves came.1.holds_all) (keeps-comes came.0 answers new came.2)

-- one that is answered
pub keeps-look : {A : Type 0} (device : ℕ) (place : Place) (reading : Option Tables → ℕ → Result A ContAnswer) (event : Result A ContAnswer → ContEvent)
    (old : Sight) (got : Result A ContAnswer) (new : Sight) → Calls (IsLooked Local device place reading event) old Local (Ok got) new → KeepsAll old new
keeps-look {A} device place reading event old got new called =
    keeps-comes Local device place reading event old (called.0 ++ got ∷ []) new called.2

-- ---- listings and counts across shards

keeping : (at : ℕ → Place → Type 0) → AreSteps at KeepsAll
keeping at = record {
  itself = keeps-refl;
  join = keeps-join;
  sharded = λ device place s got t is called. keeps-look device place sharding_of (λ read. Sharded place read) s got t called;
  informed = λ device place s got t is called. keeps-look device place info_of (λ read. Informed place read) s got t called;
  listed = λ device place query s got t is called. keeps-look device place (listing_of query) (λ read. Listed place query read) s got t called;
}

-- whatever is told
module _ (ring : Ring) (device : ℕ) (place : Place) (replica : ℕ) (old : Sight) where
  pub keeps-listed : (query : Query) (got : Listing) (new : Sight) → IsListedAcross ring device place query replica old got new → KeepsAll old new
  keeps-listed query got new across = across-steps ring device place replica KeepsAll (keeping (IsAsked ring device place replica)) query old got new across

  pub keeps-counted : (got : Count) (new : Sight) → IsCountedAcross ring device place replica old got new → KeepsAll old new
  keeps-counted got new across = counts-steps ring device place replica KeepsAll (keeping (IsAsked ring device place replica)) old got new across
