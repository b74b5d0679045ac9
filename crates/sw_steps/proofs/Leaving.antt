-- Calls whose steps leave records as they are: what goes on by them marks and drops none.
use Rattle.std.proofs.Common.{◌≡◌, ℕ, Bool, true, List, [], ◌∷◌, sym, subst, inl, inr, ◌⊎◌, Result, Ok}
use Rattle.std.proofs.lemmas.List.Elements.{Contains-push}
use Rattle.std.specs.Prelude.{Contains}
use Rattle.sw_machine.proofs.Going.{going-joins, lines-leaving, sending-goes}
use Rattle.sw_machine.specs.Doors.{AreLinesOf, ChangesGoOn, EndsAsHeard, GoesOn, IsDirect, LeaveRecords, ReadsGoOn, RunsOnLeaving, StandsFor, leaves_records}
use Rattle.sw_machine.specs.Machine.{Came, Carries, Machine, RunLine, Went}
use Rattle.sw_machine.specs.Messages.{Arrives, Message}
use Rattle.sw_peer.specs.Sights.{Calls, Sight}
use Rattle.sw_peer.specs.declared.line.Line.{Line}
use Rattle.sw_peer.specs.declared.link.Link.{Link}
use Rattle.sw_peer.specs.declared.link.Link.TheVariants.{Local, Sent}
use Rattle.sw_peer.specs.declared.link.Lost.{Lost}

module _ {A E : Type 0} {step : Link → Sight → A → Sight → Type 0} {line : Link → A → List E → Line} {wanting : A → Bool} where
  pub reads-leave : ReadsGoOn step line wanting → ((link : Link) (x : A) (added : List E) → leaves_records (line link x added).event ≡ true)
      → (link : Link) (s : Sight) (r : Result A Lost) (t : Sight) → Calls (step link) s link r t → t.alone ≡ true → RunsOnLeaving s t
  reads-leave goes leaves link s r t calls alone m stands =
      let came = goes.calls link s r t alone calls m stands in
      (came.0, lines-leaving (line link) wanting (leaves link) came.0 came.1, came.3)

  -- a step at the device itself
  pub made-leaves : ChangesGoOn step line wanting → ((x : A) (added : List E) → leaves_records (line Local x added).event ≡ true)
      → (s : Sight) (x : A) (t : Sight) → Calls (step Local) s Local (Ok x) t → t.alone ≡ true → RunsOnLeaving s t
  made-leaves goes leaves s x t calls alone m stands =
      let came = goes.call s x t alone calls m stands in
      (came.0, one-leaves came.0 came.1, came.2)
    where
      one-leaves : (lines : List RunLine)
          → ((added : List E) × (lines ≡ Came (line Local x added) ∷ [])) ⊎ ((wanting x ≡ true) × (lines ≡ [])) → LeaveRecords lines
      one-leaves lines (inl is) = subst LeaveRecords (sym is.1) (leaves x is.0, tt)
      one-leaves lines (inr none) = subst LeaveRecords (sym none.1) tt

  -- a message that a device may send goes, and behind it come lines of its steps, by what was heard of it
  pub sends-on : ChangesGoOn step line wanting → (from : ℕ) (message : Message)
      → ((x : A) (added : List E) → Arrives message (line Sent x added).device (line Sent x added).event)
      → (a : Sight) (r : Result A Lost) (b : Sight) → Calls (step Sent) a Sent r b → b.alone ≡ true → (m : Machine) → StandsFor a m
      → Carries a.nodes m from message
      → (lines : List RunLine) × AreLinesOf (line Sent) wanting lines × EndsAsHeard (line Sent) wanting r lines
      × GoesOn a m (Went from message ∷ lines) b
  sends-on goes from message arrives a r b calls alone m stands carries =
      let went = sending-goes a m from message stands carries in
      let is_sent : Contains went.0.after.sent message =
      subst (λ (x : Machine). Contains x.sent message) (sym went.1) (Contains-push m.sent message) in
      let came = goes.calls Sent a r b went.0.after went.0.stands alone (λ x added is_message may. (message, is_sent, arrives x added)) calls in
      (came.0, came.1, came.2, (going-joins a m (Went from message ∷ []) a came.0 b went.0 came.3).0)

  pub sent-leaves : ChangesGoOn step line wanting → (from : ℕ) (message : Message) → IsDirect message
      → ((x : A) (added : List E) → Arrives message (line Sent x added).device (line Sent x added).event)
      → ((x : A) (added : List E) → leaves_records (line Sent x added).event ≡ true)
      → (a : Sight) (r : Result A Lost) (b : Sight) → Calls (step Sent) a Sent r b → b.alone ≡ true
      → ((m : Machine) → StandsFor a m → Carries a.nodes m from message) → RunsOnLeaving a b
  sent-leaves goes from message direct arrives leaves a r b calls alone carried m stands =
      let came = sends-on goes from message arrives a r b calls alone m stands (carried m stands) in
      (Went from message ∷ came.0, (direct, lines-leaving (line Sent) wanting leaves came.0 came.1), came.3)
