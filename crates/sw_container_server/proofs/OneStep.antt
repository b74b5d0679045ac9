-- The line of a step tells what it was answered.
use Rattle.std.proofs.Common.{◌≡◌, ℕ, List, [], ◌∷◌, Some, refl, sym, ap, ◌∙◌, inl, inr}
use Rattle.sw_container_steps.specs.Rules.{cont_rules}
use Rattle.sw_container_steps.specs.declared.cont_answer.ContAnswer.{ContAnswer}
use Rattle.sw_container_steps.specs.declared.cont_answer.ContAnswer.TheVariants as answers
use Rattle.sw_container_steps.specs.declared.cont_change.ContChange.{ContChange}
use Rattle.sw_container_steps.specs.declared.cont_entry.ContEntry.{ContEntry}
use Rattle.sw_hashpath.specs.declared.place.Place.{Place}
use Rattle.sw_peer.specs.ContSights.{IsContMade, is_wanting_cont}
use Rattle.sw_peer.specs.Sights.{Sight}
use Rattle.sw_peer.specs.declared.cont_event.ContEvent.{ContEvent}
use Rattle.sw_peer.specs.declared.cont_event.ContEvent.TheVariants.{Changed}
use Rattle.sw_peer.specs.declared.line.Event.TheVariants.{AtContainer}
use Rattle.sw_peer.specs.declared.line.Line.{Line}
use Rattle.sw_peer.specs.declared.link.Link.TheVariants.{Local}
use Rattle.sw_sharded_listing.proofs.Lines.{Adds, Tells, heard, line_at, wanted}
use Rattle.sw_sharded_listing.proofs.Looks.{came}
use Rattle.sw_sharded_listing.proofs.OneReading.{added-are}
use Rattle.sw_step.specs.Steps.{added_by}
use Rattle.sw_container_server.specs.Serving.{IsChanged}

module _ {X : Type 0} (device : ℕ) (event : X → ContEvent) (none : X) where
  -- where a step wanted memory there may be no line
  one-told : ((x y : X) → event x ≡ event y → x ≡ y) → (x y : X) (more others : List Line) → Tells device event none x more
      → Tells device event none y others → more ≡ others → x ≡ y
  one-told injective x y more others (inl p) (inl q) same = injective x y (one-event p.0 q.0 (sym p.1 ∙ (same ∙ q.1)))
    where
      one-event : (a b : List ContEntry) → line_at device (event x) a ∷ [] ≡ line_at device (event y) b ∷ [] → event x ≡ event y
      one-event a b is =
          let lines : line_at device (event x) a ≡ line_at device (event y) b = cc in
          let events : AtContainer (event x) a ≡ AtContainer (event y) b = ap (λ (l : Line). l.event) lines in
          cc
  one-told injective x y more others (inl p) (inr q) same = absurd (no (sym p.1 ∙ (same ∙ q.1)))
    where
      no : line_at device (event x) p.0 ∷ [] ≡ [] → ⊥
      no is = cc
  one-told injective x y more others (inr p) (inl q) same = absurd (no (sym q.1 ∙ (sym same ∙ p.1)))
    where
      no : line_at device (event y) q.0 ∷ [] ≡ [] → ⊥
      no is = cc
  one-told injective x y more others (inr p) (inr q) same = p.0 ∙ sym q.0

  -- behind the same lines
  pub one-heard : ((x y : X) → event x ≡ event y → x ≡ y) → (lines : List Line) (x y : X) (new now : Sight)
      → Adds (Tells device event none x) lines new → Adds (Tells device event none y) lines now → new.trail ≡ now.trail → x ≡ y
  one-heard injective lines x y new now p q same =
      one-told injective x y p.0 q.0 p.2 q.2 (added-are lines p.0 q.0 new p.1 (same ∙ q.1))

-- ---- a change

module _ (device : ℕ) (place : Place) (change : ContChange) where
  abbrev changed_as : ContAnswer → ContEvent
  changed_as answer = Changed place change answer

  one-event : (x y : ContAnswer) → Changed place change x ≡ Changed place change y → x ≡ y
  one-event x y is = cc

  answered : (lines : List Line) (old : Sight) (answer : ContAnswer) (new : Sight) → old.trail ≡ Some lines → IsChanged device place change old answer new
      → Adds (Tells device changed_as answers.NoMemory answer) lines new
  answered lines old answer new is p =
      let comes = came (IsContMade Local device place change) old answer new p.called in
      heard device changed_as answers.NoMemory lines answer (added_by cont_rules comes.1.step.step) (is_wanting_cont answer) old comes.0 new
      (wanted answer) is comes.1.trail comes.2

  pub one-change : (lines : List Line) (old : Sight) (x y : ContAnswer) (new : Sight) → old.trail ≡ Some lines → IsChanged device place change old x new
      → IsChanged device place change old y new → x ≡ y
  one-change lines old x y new is p q =
      one-heard device changed_as answers.NoMemory one-event lines x y new new (answered lines old x new is p) (answered lines old y new is q) refl
