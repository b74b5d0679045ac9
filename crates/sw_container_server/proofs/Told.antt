-- The lines of a trail tell what was told of a container: there is one of the read of it, and where it is split those of its count stand behind that.
use Rattle.std.proofs.Common.{◌≡◌, ℕ, List, [], ◌++◌, append-nil, append_assoc, Some, refl, sym, ap, ◌∙◌, subst, inl, inr, Result, Ok, Err}
use Rattle.std.proofs.Common.{true≢false}
use Rattle.std.proofs.lemmas.List.{append_cancel_left}
use Rattle.sw_container_steps.specs.Reads.{info_of}
use Rattle.sw_container_steps.specs.declared.cont_answer.ContAnswer.{ContAnswer}
use Rattle.sw_container_steps.specs.declared.cont_answer.ContAnswer.TheVariants as answers
use Rattle.sw_container_steps.specs.declared.info.Info.{Info}
use Rattle.sw_hashpath.specs.declared.place.Place.{Place}
use Rattle.sw_peer.specs.Sights.{Sight}
use Rattle.sw_peer.specs.declared.cont_event.ContEvent.{ContEvent}
use Rattle.sw_peer.specs.declared.cont_event.ContEvent.TheVariants.{Informed}
use Rattle.sw_peer.specs.declared.line.Line.{Line}
use Rattle.sw_ring.specs.declared.ring.Ring.{Ring}
use Rattle.sw_sharded_listing.proofs.Lines.{Adds, Follows, IsOne, Tells, heard-look, one-follows}
use Rattle.sw_sharded_listing.proofs.OneReading.{added-are, trails-tell-one}
use Rattle.sw_sharded_listing.specs.Reads.{AddsLines}
use Rattle.sw_container_server.specs.Counting.{with_count}
use Rattle.sw_container_server.specs.Serving.{AreCounted, IsInformed, IsTold}

abbrev Told : Type 0
Told = Result Info ContAnswer

-- where nothing was told, no line follows
abbrev pub Ends : Told → List Line → Type 0
Ends told behind = (answer : ContAnswer) → told ≡ Err answer → behind ≡ []

-- a door that is as it was has no more lines
no-lines : (lines more : List Line) (mid new : Sight) → mid.trail ≡ Some lines → new ≡ mid → new.trail ≡ Some (lines ++ more) → more ≡ []
no-lines lines more mid new is same added =
    added-are lines more [] new added (ap (λ (s : Sight). s.trail) same ∙ (is ∙ ap Some (sym (append-nil lines))))

none-added : (lines : List Line) (mid new : Sight) → mid.trail ≡ Some lines → new ≡ mid → AddsLines lines new
none-added lines mid new is same = ([], ap (λ (s : Sight). s.trail) same ∙ (is ∙ ap Some (sym (append-nil lines))))

-- ---- one read of it

module _ (device : ℕ) (place : Place) where
  abbrev informed_as : Told → ContEvent
  informed_as read = Informed place read

  one-event : (x y : Told) → Informed place x ≡ Informed place y → x ≡ y
  one-event x y is = cc

  abbrev TellsRead : Told → List Line → Type 0
  TellsRead = Tells device informed_as (Err answers.NoMemory)

  abbrev NoLine : List Line → Type 0
  NoLine behind = behind ≡ []

  -- nothing is behind it
  abbrev Alone : Info → Told → List Line → Type 0
  Alone info told later = (told ≡ Ok info) × (later ≡ [])

  one-alone : (info : Info) → IsOne NoLine (Alone info)
  one-alone info told heard more others behind beyond p q end end' same = (p.0 ∙ sym q.0, p.1 ∙ sym q.1)

  follows-of : (read : Told) (more : List Line) → TellsRead read more → Follows device informed_as Alone read more
  follows-of (Ok info) more (inl line) = inr (info, line.0, [], line.1, (refl, refl))
  follows-of (Ok info) more (inr none) = absurd (no none.0)
    where
      no : Ok info ≡ Err answers.NoMemory → ⊥
      no same = cc
  follows-of (Err answer) more told = inl (answer, told, refl)

  one-read : (read other : Told) (more others behind beyond : List Line) → TellsRead read more → TellsRead other others
      → (read ≡ Err answers.NoMemory → behind ≡ []) → (other ≡ Err answers.NoMemory → beyond ≡ []) → more ++ behind ≡ others ++ beyond
      → (read ≡ other) × (more ≡ others)
  one-read read other more others behind beyond p q end end' same =
      one-follows NoLine (λ behind is. is) device informed_as one-event Alone one-alone read other more others behind beyond (follows-of read more p)
      (follows-of other others q) end end' same

-- ---- the counts behind it

module _ (ring : Ring) (device : ℕ) (place : Place) (replica : ℕ) where
  counted-adds : (read : Told) (lines : List Line) (mid : Sight) (told : Told) (new : Sight) → mid.trail ≡ Some lines
      → AreCounted ring device place replica read mid told new → AddsLines lines new
  counted-adds (Ok info) lines mid told new is (inl plain) = none-added lines mid new is plain.1
  counted-adds (Ok info) lines mid told new is (inr counted) = trails-tell-one.counts ring device place replica lines mid counted.1 new is counted.2
  counted-adds (Err answer) lines mid told new is refused = none-added lines mid new is refused.0

  one-counted : (read : Told) (lines : List Line) (mid other : Sight) (told heard : Told) (new now : Sight) (more others behind beyond : List Line)
      → mid.trail ≡ Some lines → other.trail ≡ Some lines → AreCounted ring device place replica read mid told new
      → AreCounted ring device place replica read other heard now → new.trail ≡ Some (lines ++ more) → now.trail ≡ Some (lines ++ others)
      → Ends told behind → Ends heard beyond → more ++ behind ≡ others ++ beyond → (told ≡ heard) × (more ≡ others)
  one-counted (Ok info) lines mid other told heard new now more others behind beyond is is' (inl p) (inl q) added added' end end' same =
      (p.2 ∙ sym q.2, no-lines lines more mid new is p.1 added ∙ sym (no-lines lines others other now is' q.1 added'))
  one-counted (Ok info) lines mid other told heard new now more others behind beyond is is' (inl p) (inr q) added added' end end' same =
      absurd (true≢false (sym q.0 ∙ p.0))
  one-counted (Ok info) lines mid other told heard new now more others behind beyond is is' (inr p) (inl q) added added' end end' same =
      absurd (true≢false (sym p.0 ∙ q.0))
  one-counted (Ok info) lines mid other told heard new now more others behind beyond is is' (inr p) (inr q) added added' end end' same =
      let one = trails-tell-one.count ring device place replica lines mid other p.1 q.1 new now more others behind beyond is is' p.2 q.2 added added'
      (λ starved. end answers.NoMemory (p.3 ∙ ap (with_count info) starved)) (λ starved. end' answers.NoMemory (q.3 ∙ ap (with_count info) starved)) same in
      (p.3 ∙ (ap (with_count info) one.0 ∙ sym q.3), one.1)
  one-counted (Err answer) lines mid other told heard new now more others behind beyond is is' p q added added' end end' same =
      (p.1 ∙ sym q.1, no-lines lines more mid new is p.0 added ∙ sym (no-lines lines others other now is' q.0 added'))

  -- where the read told nothing, no line follows it
  read-ends : (read : Told) (lines : List Line) (mid : Sight) (told : Told) (new : Sight) (more behind : List Line) → mid.trail ≡ Some lines
      → AreCounted ring device place replica read mid told new → new.trail ≡ Some (lines ++ more) → Ends told behind → read ≡ Err answers.NoMemory
      → more ++ behind ≡ []
  read-ends read lines mid told new more behind is p added end starved =
      let refused = subst (λ (r : Told). AreCounted ring device place replica r mid told new) starved p in
      ap (λ (ls : List Line). ls ++ behind) (no-lines lines more mid new is refused.0 added) ∙ end answers.NoMemory refused.1

  -- ---- both

  -- the lines of a read and of the counts behind it
  record Heard (lines : List Line) (read told : Told) (mid new : Sight) : Type 0 where
    first : List Line
    then : List Line
    first_is : mid.trail ≡ Some (lines ++ first)
    tells : TellsRead device place read first
    then_is : new.trail ≡ Some ((lines ++ first) ++ then)
    all_is : new.trail ≡ Some (lines ++ (first ++ then))

  heard-told : (lines : List Line) (old : Sight) (read : Told) (mid : Sight) (told : Told) (new : Sight) → old.trail ≡ Some lines
      → IsInformed device place old read mid → AreCounted ring device place replica read mid told new → Heard lines read told mid new
  heard-told lines old read mid told new is p counted =
      let front : Adds (TellsRead device place read) lines mid = heard-look device place info_of (informed_as device place) lines old read mid is p.called in
      let back = counted-adds read (lines ++ front.0) mid told new front.1 counted in
      record {
        first = front.0;
        then = back.0;
        first_is = front.1;
        tells = front.2;
        then_is = back.1;
        all_is = back.1 ∙ ap Some (append_assoc lines front.0 back.0);
      }

  pub told-adds : (lines : List Line) (old : Sight) (told : Told) (new : Sight) → old.trail ≡ Some lines → IsTold ring device place replica old told new
      → AddsLines lines new
  told-adds lines old told new is p =
      let h = heard-told lines old p.0 p.1 told new is p.2 p.3 in (h.first ++ h.then, h.all_is)

  one-both : (lines : List Line) (read other told heard : Told) (mid at new now : Sight) (behind beyond : List Line)
      → (p : Heard lines read told mid new) → (q : Heard lines other heard at now) → AreCounted ring device place replica read mid told new
      → AreCounted ring device place replica other at heard now → Ends told behind → Ends heard beyond
      → p.first ++ (p.then ++ behind) ≡ q.first ++ (q.then ++ beyond) → (told ≡ heard) × (p.first ++ p.then ≡ q.first ++ q.then)
  one-both lines read other told heard mid at new now behind beyond p q counted counted' end end' same =
      let reads = one-read device place read other p.first q.first (p.then ++ behind) (q.then ++ beyond) p.tells q.tells
      (read-ends read (lines ++ p.first) mid told new p.then behind p.first_is counted p.then_is end)
      (read-ends other (lines ++ q.first) at heard now q.then beyond q.first_is counted' q.then_is end') same in
      let fronts : lines ++ q.first ≡ lines ++ p.first = ap (λ (ls : List Line). lines ++ ls) (sym reads.1) in
      let counts = one-counted read (lines ++ p.first) mid at told heard new now p.then q.then behind beyond p.first_is (q.first_is ∙ ap Some fronts) counted
      (subst (λ (r : Told). AreCounted ring device place replica r at heard now) (sym reads.0) counted') p.then_is
      (q.then_is ∙ ap Some (ap (λ (ls : List Line). ls ++ q.then) fronts)) end end'
      (append_cancel_left p.first (p.then ++ behind) (q.then ++ beyond)
      (same ∙ ap (λ (ls : List Line). ls ++ (q.then ++ beyond)) (sym reads.1))) in
      (counts.0, ap (λ (ls : List Line). ls ++ p.then) reads.1 ∙ ap (λ (ls : List Line). q.first ++ ls) counts.1)

  -- two that leave the same lines, which others follow only where something was told, were told the same
  pub one-told : (lines : List Line) (old : Sight) (told heard : Told) (new now : Sight) (more others behind beyond : List Line) → old.trail ≡ Some lines
      → IsTold ring device place replica old told new → IsTold ring device place replica old heard now → new.trail ≡ Some (lines ++ more)
      → now.trail ≡ Some (lines ++ others) → Ends told behind → Ends heard beyond → more ++ behind ≡ others ++ beyond → (told ≡ heard) × (more ≡ others)
  one-told lines old told heard new now more others behind beyond is p q added added' end end' same =
      let h = heard-told lines old p.0 p.1 told new is p.2 p.3 in
      let k = heard-told lines old q.0 q.1 heard now is q.2 q.3 in
      let these : more ≡ h.first ++ h.then = added-are lines more (h.first ++ h.then) new added h.all_is in
      let those : others ≡ k.first ++ k.then = added-are lines others (k.first ++ k.then) now added' k.all_is in
      let one = one-both lines p.0 q.0 told heard p.1 q.1 new now behind beyond h k p.3 q.3 end end'
      (sym (append_assoc h.first h.then behind)
      ∙ (ap (λ (ls : List Line). ls ++ behind) (sym these)
      ∙ (same ∙ (ap (λ (ls : List Line). ls ++ beyond) those ∙ append_assoc k.first k.then beyond)))) in
      (one.0, these ∙ (one.1 ∙ sym those))
