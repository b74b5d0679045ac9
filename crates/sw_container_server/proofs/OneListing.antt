-- The lines of a trail tell how a container was listed, whose listing follows on what was told of it.
use Rattle.std.proofs.Common.{◌≡◌, ℕ, true, false, List, [], ◌++◌, append-nil, append_assoc, Some, refl, sym, ap, ◌∙◌, subst, inl, inr, Result, Ok, Err}
use Rattle.std.proofs.Common.{true≢false}
use Rattle.std.specs.Prelude.{◌&&◌}
use Rattle.sw_container_steps.specs.Reads.{listing_of}
use Rattle.sw_container_steps.specs.declared.cont_answer.ContAnswer.{ContAnswer}
use Rattle.sw_container_steps.specs.declared.cont_answer.ContAnswer.TheVariants as answers
use Rattle.sw_container_steps.specs.declared.info.Info.{Info}
use Rattle.sw_hashpath.specs.declared.place.Place.{Place}
use Rattle.sw_listing.specs.declared.query.Query.{Query}
use Rattle.sw_message.specs.declared.response.Response.{Response}
use Rattle.sw_peer.specs.Sights.{Sight}
use Rattle.sw_peer.specs.declared.cont_event.ContEvent.{ContEvent}
use Rattle.sw_peer.specs.declared.cont_event.ContEvent.TheVariants.{Listed}
use Rattle.sw_peer.specs.declared.line.Line.{Line}
use Rattle.sw_ring.specs.declared.ring.Ring.{Ring}
use Rattle.sw_sharded_listing.proofs.Lines.{Adds, Tells, heard-look}
use Rattle.sw_sharded_listing.proofs.OneReading.{added-are, trails-tell-one}
use Rattle.sw_sharded_listing.specs.Across.{Listing}
use Rattle.sw_sharded_listing.specs.Reads.{AddsLines}
use Rattle.sw_container_server.proofs.OneReply.{has_one_reply}
use Rattle.sw_container_server.proofs.OneStep.{one-heard}
use Rattle.sw_container_server.proofs.Told.{Ends, one-told, told-adds}
use Rattle.sw_container_server.specs.Counting.{is_split}
use Rattle.sw_container_server.specs.Replies.{IsListingReply, is_starved}
use Rattle.sw_container_server.specs.Serving.{IsFollowed, IsListed, IsListingServed, IsShown, is_unshown}

-- a listing across shards that is shown found memory
found-memory : (info : Info) (listed : Listing) → is_split info ≡ true → is_unshown info listed ≡ false → listed ≡ Err answers.NoMemory → ⊥
found-memory info listed split shown starved =
    true≢false (sym (ap (λ b. b && is_starved answers.NoMemory) split) ∙ subst (λ (l : Listing). is_unshown info l ≡ false) starved shown)

module _ (ring : Ring) (device : ℕ) (place : Place) (query : Query) (replica : ℕ) where
  abbrev listed_as : Listing → ContEvent
  listed_as read = Listed place query read

  one-event : (x y : Listing) → Listed place query x ≡ Listed place query y → x ≡ y
  one-event x y is = cc

  own-adds : (lines : List Line) (old : Sight) (got : Listing) (new : Sight) → old.trail ≡ Some lines → IsListed device place query old got new
      → Adds (Tells device listed_as (Err answers.NoMemory) got) lines new
  own-adds lines old got new is p = heard-look device place (listing_of query) listed_as lines old got new is p.called

  shown-adds : (info : Info) (lines : List Line) (mid : Sight) (listed : Listing) (new : Sight) → mid.trail ≡ Some lines
      → IsShown ring device place replica query info mid listed new → AddsLines lines new
  shown-adds info lines mid listed new is (inl own) = let more = own-adds lines mid listed new is own.1 in (more.0, more.1)
  shown-adds info lines mid listed new is (inr across) = trails-tell-one.adds ring device place query replica lines mid listed new is across.1

  one-shown : (info : Info) (lines : List Line) (mid other : Sight) (listed shown : Listing) (new now : Sight) → mid.trail ≡ Some lines
      → other.trail ≡ Some lines → IsShown ring device place replica query info mid listed new → IsShown ring device place replica query info other shown now
      → is_unshown info listed ≡ false → is_unshown info shown ≡ false → new.trail ≡ now.trail → listed ≡ shown
  one-shown info lines mid other listed shown new now is is' (inl p) (inl q) fed feeds same =
      one-heard device listed_as (Err answers.NoMemory) one-event lines listed shown new now (own-adds lines mid listed new is p.1)
      (own-adds lines other shown now is' q.1) same
  one-shown info lines mid other listed shown new now is is' (inl p) (inr q) fed feeds same = absurd (true≢false (sym q.0 ∙ p.0))
  one-shown info lines mid other listed shown new now is is' (inr p) (inl q) fed feeds same = absurd (true≢false (sym p.0 ∙ q.0))
  one-shown info lines mid other listed shown new now is is' (inr p) (inr q) fed feeds same =
      trails-tell-one.listing ring device place query replica lines mid other listed shown new now is is' p.1 q.1 (found-memory info listed p.0 fed)
      (found-memory info shown q.0 feeds) same

  -- ---- what follows on what was told

  abbrev Told : Type 0
  Told = Result Info ContAnswer

  abbrev Follows : Sight → Sight → Told → Response → Type 0
  Follows mid new = IsFollowed ring mid new device place query replica

  followed-adds : (told : Told) (lines : List Line) (mid new : Sight) (response : Response) → mid.trail ≡ Some lines → Follows mid new told response
      → AddsLines lines new
  followed-adds (Ok info) lines mid new response is p = shown-adds info lines mid p.0 new is p.1
  followed-adds (Err answer) lines mid new response is p =
      ([], ap (λ (s : Sight). s.trail) p.0 ∙ (is ∙ ap Some (sym (append-nil lines))))

  followed-ends : (told : Told) (lines behind : List Line) (mid new : Sight) (response : Response) → mid.trail ≡ Some lines
      → new.trail ≡ Some (lines ++ behind) → Follows mid new told response → Ends told behind
  followed-ends (Ok info) lines behind mid new response is added p = λ answer told. absurd (no answer told)
    where
      no : (answer : ContAnswer) → Ok info ≡ Err answer → ⊥
      no answer same = cc
  followed-ends (Err other) lines behind mid new response is added p =
      λ answer told. added-are lines behind [] new added (ap (λ (s : Sight). s.trail) p.0 ∙ (is ∙ ap Some (sym (append-nil lines))))

  one-followed : (told : Told) (lines : List Line) (mid other new : Sight) (a b : Response) → mid.trail ≡ Some lines → other.trail ≡ Some lines
      → Follows mid new told a → Follows other new told b → a ≡ b
  one-followed (Ok info) lines mid other new a b is is' p q =
      let listed : p.0 ≡ q.0 = one-shown info lines mid other p.0 q.0 new new is is' p.1 q.1 p.2 q.2 refl in
      has_one_reply query.json info p.0 a b p.3 (subst (λ (l : Listing). IsListingReply query.json info l b) (sym listed) q.3)
  one-followed (Err answer) lines mid other new a b is is' p q = p.1 ∙ sym q.1

  -- a GET leaves no choice of its reply
  pub one-get : (lines : List Line) (old new : Sight) (a b : Response) → old.trail ≡ Some lines
      → IsListingServed ring old new device place query replica a → IsListingServed ring old new device place query replica b → a ≡ b
  one-get lines old new a b is p q =
      let front = told-adds ring device place replica lines old p.0 p.1 is p.2 in
      let other = told-adds ring device place replica lines old q.0 q.1 is q.2 in
      let back = followed-adds p.0 (lines ++ front.0) p.1 new a front.1 p.3 in
      let behind = followed-adds q.0 (lines ++ other.0) q.1 new b other.1 q.3 in
      let same : front.0 ++ back.0 ≡ other.0 ++ behind.0 =
      added-are lines (front.0 ++ back.0) (other.0 ++ behind.0) new (back.1 ∙ ap Some (append_assoc lines front.0 back.0))
      (behind.1 ∙ ap Some (append_assoc lines other.0 behind.0)) in
      let one = one-told ring device place replica lines old p.0 q.0 p.1 q.1 front.0 other.0 back.0 behind.0 is p.2 q.2 front.1 other.1
      (followed-ends p.0 (lines ++ front.0) back.0 p.1 new a front.1 back.1 p.3) (followed-ends q.0 (lines ++ other.0) behind.0 q.1 new b other.1 behind.1 q.3)
      same in
      one-followed p.0 (lines ++ front.0) p.1 q.1 new a b front.1 (other.1 ∙ ap Some (ap (λ (ls : List Line). lines ++ ls) (sym one.1))) p.3
      (subst (λ (t : Told). Follows q.1 new t b) (sym one.0) q.3)
