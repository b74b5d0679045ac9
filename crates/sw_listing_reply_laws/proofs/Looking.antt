-- What was read of a container by one step at its device, which tells something.
use Rattle.std.proofs.Common.{◌≡◌, ℕ, Bool, true, false, cond, Option, None, Some, refl, sym, ◌∙◌, Result, Ok, Err}
use Rattle.sw_container_steps.specs.Presence.{deletion_after, is_no_time, is_present}
use Rattle.sw_container_steps.specs.Reads.{where_present}
use Rattle.sw_container_steps.specs.declared.cont_answer.ContAnswer.{ContAnswer}
use Rattle.sw_container_steps.specs.declared.cont_answer.ContAnswer.TheVariants as answers
use Rattle.sw_hashpath.specs.declared.place.Place.{Place}
use Rattle.sw_keeper.specs.declared.tables.Tables.{Tables}
use Rattle.sw_peer.specs.ContSights.{IsLooked}
use Rattle.sw_peer.specs.Sights.{Calls, Sight}
use Rattle.sw_peer.specs.declared.cont_event.ContEvent.{ContEvent}
use Rattle.sw_peer.specs.declared.link.Link.TheVariants.{Local}
use Rattle.sw_sharded_listing.proofs.Looks.{came}
use Rattle.sw_sharded_listing.proofs.Reading.{IsOk, ok-is}
use Rattle.sw_sharded_listing.specs.Laws.{IsReadAt}

module _ {A : Type 0} (told : ℕ → Tables → A) where
  -- what is told of a container is told of one that is there
  abbrev IsThere : Option Tables → ℕ → A → Type 0
  IsThere t front x = (tables : Tables) × (t ≡ Some tables) × (is_present (Some tables) ≡ true) × (x ≡ told front tables)

  there : (t : Option Tables) (front : ℕ) (x : A) → IsOk x (where_present t (told front)) → IsThere t front x
  there None front x shown = cc
  there (Some t) front x shown = by (is_no_time (deletion_after t.put_time t.delete_time)) refl shown
    where
      by : (b : Bool) → is_no_time (deletion_after t.put_time t.delete_time) ≡ b → IsOk x (cond b (Ok (told front t)) (Err answers.Absent))
          → IsThere (Some t) front x
      by true is shown = (t, refl, is, ok-is x (told front t) shown)
      by false is shown = cc

  -- the tables, and the front of which it was told
  abbrev pub IsToldOf : ℕ → Place → A → Sight → Sight → Type 0
  IsToldOf device place x old new = (tables : Tables) × (front : ℕ) × IsReadAt device place tables old new × (x ≡ told front tables)

  pub told-of : (device : ℕ) (place : Place) (event : Result A ContAnswer → ContEvent) (old : Sight) (x : A) (new : Sight)
      → Calls (IsLooked Local device place (λ t front. where_present t (told front)) event) old Local (Ok (Ok x)) new → IsToldOf device place x old new
  told-of device place event old x new calls =
      let comes = came Step old (Ok x) new calls in
      let looked = comes.1 in
      let read = looked.step.step.read place in
      let is = there read _ x (looked.step.step.shown refl) in (
        is.0,
        _,
        record {
          at = comes.0;
          present = is.2;
          held = λ alone known. sym is.1 ∙ (looked.step.step.held alone known refl place refl ∙ looked.step.is_held alone place refl);
          moves = looked.moves;
          holds_all = looked.holds_all;
          same = comes.2;
        },
        is.3,
      )
    where
      Step : Sight → Result A ContAnswer → Sight → Type 0
      Step = IsLooked Local device place (λ t front. where_present t (told front)) event
