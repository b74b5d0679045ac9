-- What becomes of a step that goes through a door which loses and repeats messages is a call of that door.
use Rattle.std.proofs.Common.{◌≡◌, ℕ, ◌+◌, ◌≤◌, Bool, true, false, refl, sym, ◌∙◌, ap, subst, arith, inl, inr, Result, Ok, Err, IsErr}
use Rattle.sw_outside.specs.Counts.{raised}
use Rattle.sw_outside.specs.Faults.{HasRisen}
use Rattle.sw_peer.proofs.Calls.{IsStep, calls-again, calls-around, calls-moves, calls-twice, carried, delivery_in, lost-after, lost-before, made-step, wanting}
use Rattle.sw_peer.proofs.Calls.{wanting-on}
use Rattle.sw_peer.specs.Carriage.{Carriage, Carries, Delivery, IsNext, faithful}
use Rattle.sw_hashpath.specs.declared.name.Name.{Name}
use Rattle.sw_peer.specs.Sights.{Calls, IsAt, IsMade, MayStand, Moves, Sight}
use Rattle.sw_object_steps.specs.declared.answer.Answer.TheVariants as answers
use Rattle.sw_object_steps.specs.declared.change.Change.{Change}
use Rattle.sw_peer.specs.declared.link.Link.{Link}
use Rattle.sw_peer.specs.declared.link.Link.TheVariants.{Local, Sent}
use Rattle.sw_peer.specs.declared.link.Lost.{Lost}
use Rattle.sw_lossy.specs.Losses.{Happens, around, carried_by, delivered, fate_of, faults_after, is_loss, messages_after}
use Rattle.sw_lossy.specs.declared.acts.Acts.{Acts}
use Rattle.sw_lossy.specs.declared.acts.Fate.{Fate}
use Rattle.sw_lossy.specs.declared.acts.Fate.TheVariants.{Goes, IsLost, LosesReply, ComesTwice}

risen-beside : (a b f f' : ℕ) → a ≤ b → HasRisen f f' → HasRisen (a + f) (b + f')
risen-beside a b f f' up (inl more) = inl (omega (arith, up, more))
risen-beside a b f f' up (inr end) = inr (omega (arith, end))

-- what is said at the device itself goes through
abbrev GoesLocal : Link → Fate → Type 0
GoesLocal link fate = link ≡ Local → fate ≡ Goes

pub goes_local : (acts : Acts) (link : Link) (messages : ℕ) → GoesLocal link (fate_of acts link messages)
goes_local acts Local messages is = refl
goes_local acts Sent messages is = cc

-- ---- what becomes of a step at a door around one that delivers each message once

-- delivered in so many copies, and heard or not
abbrev as_told : ℕ → Bool → Delivery
as_told n heard = record { copies = n; is_heard = heard }

-- such a door delivered it once
once-carried : (old new : Carriage) (n : ℕ) (heard : Bool) → old ≡ faithful → Carries old Sent n heard new → as_told 1 true ≡ as_told n heard
once-carried old new n heard is p = subst (λ (c : Carriage). IsNext c (as_told n heard)) is p.1

-- a message that comes twice, of which each was delivered so
abbrev both : Delivery → Delivery → Delivery
both a b = record { copies = a.copies + b.copies; is_heard = b.is_heard }

module _ {D A : Type 0} (sight : D → Sight) (faithfully : (d : D) → (sight d).carriage ≡ faithful)
    {frame : Sight → Sight → Type 0} {step : Sight → A → Sight → Type 0} (is : IsStep frame step) (acts : Acts) (messages : ℕ) where
  abbrev Outside : Link → D → ℕ → ℕ → Result A Lost → D → ℕ → ℕ → Type 0
  Outside link d f k r e f' k' =
      Calls step (around (sight d) acts messages f k) link r (around (sight e) acts (messages_after link messages) f' k')

  -- a message of this fate is carried so
  sent : (fate : Fate) (d : Delivery) → fate_of acts Sent messages ≡ fate → delivered fate ≡ d
      → Carries (carried_by acts messages) Sent d.copies d.is_heard (carried_by acts (raised messages))
  sent fate d same is_so = (refl, ap delivered same ∙ is_so)

  -- the door inside delivered it once
  delivers : (d e : D) (r : Result A Lost) (p : Calls step (sight d) Sent r (sight e))
      → as_told 1 true ≡ delivery_in frame step is (sight d) Sent r (sight e) p
  delivers d e r p =
      once-carried (sight d).carriage (sight e).carriage (delivery_in frame step is (sight d) Sent r (sight e) p).copies
      (delivery_in frame step is (sight d) Sent r (sight e) p).is_heard (faithfully d) (carried frame step is (sight d) Sent r (sight e) p)

  goes-through : (link : Link) (d e : D) (r : Result A Lost) (f k k' : ℕ) → fate_of acts link messages ≡ Goes → Calls step (sight d) link r (sight e)
      → Outside link d f k r e f k'
  goes-through Local d e r f k k' fate p =
      calls-around frame step is (sight d) Local r (sight e) f k k' (carried_by acts messages) (carried_by acts messages) p refl
  goes-through Sent d e r f k k' fate p =
      calls-around frame step is (sight d) Sent r (sight e) f k k' (carried_by acts messages) (carried_by acts (raised messages)) p
      (sent Goes (delivery_in frame step is (sight d) Sent r (sight e) p) fate (delivers d e r p))

  never-heard : (d e : D) (r : Result A Lost) (f f' k k' : ℕ) → fate_of acts Sent messages ≡ IsLost → IsErr r → f ≤ f' → HasRisen f f' → e ≡ d
      → Outside Sent d f k r e f' k'
  never-heard d e (Ok x) f f' k k' fate err later risen same = cc
  never-heard d e (Err lost) f f' k k' fate err later risen same =
      let s : Sight = sight d in
      let all =
      lost-before frame step is s f f' k k' (carried_by acts messages) (carried_by acts (raised messages)) lost later
      (risen-beside s.faults s.faults f f' (omega arith) risen) (sent IsLost (as_told 0 false) fate refl) in
      subst (λ (x : D). Outside Sent d f k (Err lost) x f' k') (sym same) all

  heard-nothing : (d e : D) (unheard r : Result A Lost) (f f' k k' : ℕ) → fate_of acts Sent messages ≡ LosesReply → IsErr r → f ≤ f' → HasRisen f f'
      → Calls step (sight d) Sent unheard (sight e) → Outside Sent d f k r e f' k'
  heard-nothing d e unheard (Ok x) f f' k k' fate err later risen p = cc
  heard-nothing d e unheard (Err lost) f f' k k' fate err later risen p =
      let s : Sight = sight d in
      let t : Sight = sight e in
      let up : s.faults ≤ t.faults = is.frames.faults s t (calls-moves frame step is s Sent unheard t p) in
      lost-after frame step is s Sent unheard t f f' k k' (carried_by acts messages) (carried_by acts (raised messages)) lost later
      (risen-beside s.faults t.faults f f' up risen) p
      (sent LosesReply (as_told (delivery_in frame step is s Sent unheard t p).copies false) fate
      (ap (λ (x : Delivery). as_told x.copies false) (delivers d e unheard p)))

  heard-again : (d m e : D) (first r : Result A Lost) (f k k' : ℕ) → fate_of acts Sent messages ≡ ComesTwice
      → Calls step (sight d) Sent first (sight m) → Calls step (sight m) Sent r (sight e) → Outside Sent d f k r e f k'
  heard-again d m e first r f k k' fate p q =
      calls-twice frame step is (sight d) first (sight m) r (sight e) f k k' (carried_by acts messages) (carried_by acts (raised messages)) p q
      (sent ComesTwice (both (delivery_in frame step is (sight d) Sent first (sight m) p) (delivery_in frame step is (sight m) Sent r (sight e) q)) fate
      (ap (λ (x : Delivery). both x (as_told 1 true)) (delivers d m first p)
      ∙ ap (both (delivery_in frame step is (sight d) Sent first (sight m) p)) (delivers m e r q)))

  sent_by : (link : Link) (fate : Fate) → fate_of acts link messages ≡ fate → (fate ≡ Goes → ⊥) → link ≡ Sent
  sent_by Sent fate same other = refl
  sent_by Local fate same other = absurd (other (sym same))

  as-sent : (link : Link) (d : D) (f k : ℕ) (r : Result A Lost) (e : D) (f' k' : ℕ) → link ≡ Sent → Outside Sent d f k r e f' k' → Outside link d f k r e f' k'
  as-sent link d f k r e f' k' is_sent p = subst (λ (l : Link). Outside l d f k r e f' k') (sym is_sent) p

  -- what becomes of a step is a call of the door around
  pub happens-calls : (fate : Fate) (link : Link) (d e : D) (r : Result A Lost) (f f' k k' : ℕ)
      → fate_of acts link messages ≡ fate → f' ≡ faults_after fate f → f ≤ f' → (is_loss fate ≡ true → HasRisen f f')
      → Happens sight step link fate d r e → Outside link d f k r e f' k'
  happens-calls Goes link d e r f f' k k' same count later risen p =
      subst (λ (n : ℕ). Outside link d f k r e n k') (sym count) (goes-through link d e r f k k' same p)
  happens-calls IsLost link d e r f f' k k' same count later risen p =
      let is_sent : link ≡ Sent = sent_by link IsLost same (λ is. cc) in
      as-sent link d f k r e f' k' is_sent
      (never-heard d e r f f' k k' (subst (λ (l : Link). fate_of acts l messages ≡ IsLost) is_sent same) p.1 later (risen refl) p.0)
  happens-calls LosesReply link d e r f f' k k' same count later risen p =
      let is_sent : link ≡ Sent = sent_by link LosesReply same (λ is. cc) in
      as-sent link d f k r e f' k' is_sent
      (heard-nothing d e p.0.0 r f f' k k' (subst (λ (l : Link). fate_of acts l messages ≡ LosesReply) is_sent same) p.1 later (risen refl)
      (subst (λ (l : Link). Calls step (sight d) l p.0.0 (sight e)) is_sent p.0.1))
  happens-calls ComesTwice link d e r f f' k k' same count later risen p =
      let is_sent : link ≡ Sent = sent_by link ComesTwice same (λ is. cc) in
      as-sent link d f k r e f' k' is_sent
      (subst (λ (n : ℕ). Outside Sent d f k r e n k') (sym count)
      (heard-again d p.0 e p.1.0 r f k k' (subst (λ (l : Link). fate_of acts l messages ≡ ComesTwice) is_sent same)
      (subst (λ (l : Link). Calls step (sight d) l p.1.0 (sight p.0)) is_sent p.1.1)
      (subst (λ (l : Link). Calls step (sight p.0) l r (sight e)) is_sent p.2)))

  -- the same where the acts decided it, with the door as it was left before
  pub becomes : (link : Link) (fate : Fate) (d c e : D) (r : Result A Lost) (acts' : Acts) (messages' f f' k k' : ℕ)
      → c ≡ d → fate_of acts link messages ≡ fate → acts' ≡ acts → messages' ≡ messages_after link messages
      → f' ≡ faults_after (fate_of acts link messages) f → f ≤ f'
      → (is_loss (fate_of acts link messages) ≡ true → HasRisen f f')
      → Happens sight step link fate c r e
      → Calls step (around (sight d) acts messages f k) link r (around (sight e) acts' messages' f' k')
  becomes link fate d c e r acts' messages' f f' k k' door same acts_are messages_are count later risen p =
      subst (λ (a : Acts). Calls step (around (sight d) acts messages f k) link r (around (sight e) a messages' f' k')) (sym acts_are)
      (subst (λ (n : ℕ). Calls step (around (sight d) acts messages f k) link r (around (sight e) acts n f' k')) (sym messages_are)
      (happens-calls (fate_of acts link messages) link d e r f f' k k' refl count later risen
      (subst (λ (x : Fate). Happens sight step link x d r e) (sym same) (subst (λ (x : D). Happens sight step link fate x r e) door p))))

-- after a call the nodes are the same, where what its steps keep has them
pub nodes-after : {A : Type 0} {frame : Sight → Sight → Type 0} {step : Sight → A → Sight → Type 0} (is : IsStep frame step)
    → ((a b : Sight) → frame a b → b.nodes ≡ a.nodes) → (s t u : Sight) (link : Link) (r : Result A Lost) → t ≡ s → Calls step t link r u → u.nodes ≡ s.nodes
nodes-after {A} {frame} {step} is keeps s t u link r same p = keeps t u (calls-moves frame step is t link r u p) ∙ ap (λ (x : Sight). x.nodes) same

-- what comes twice is no loss
pub kept : (fate : Fate) (f f' : ℕ) → fate ≡ ComesTwice → f' ≡ faults_after fate f → f' ≡ f
kept fate f f' is count = count ∙ ap (λ (x : Fate). faults_after x f) is

abbrev Made : ℕ → Name → Change → Sight → Sight → Type 0
Made device name change s t = Calls (IsMade Sent device name change) s Sent (Ok answers.NoMemory) t

-- a change that is to come twice, and wants memory for its copy
pub uncopied : (link : Link) (device : ℕ) (name : Name) (change : Change) (s t : Sight) (acts acts' : Acts) (messages messages' f f' k k' : ℕ)
    → fate_of acts link messages ≡ ComesTwice → t ≡ s → acts' ≡ acts → messages' ≡ messages_after link messages → f' ≡ f → k' ≡ k
    → MayStand device name.hash t
    → Calls (IsMade link device name change) (around s acts messages f k) link (Ok answers.NoMemory) (around t acts' messages' f' k')
uncopied Local device name change s t acts acts' messages messages' f f' k k' fate same acts_are messages_are faults asks may = cc
uncopied Sent device name change s t acts acts' messages messages' f f' k k' fate same acts_are messages_are faults asks may =
    let old : Sight = around s acts messages f k in
    let new : Sight = around s acts (raised messages) f k in
    let may_stand : MayStand device name.hash s = subst (λ (x : Sight). MayStand device name.hash x) same may in
    let made : Made device name change old new =
    calls-again (Moves (IsAt device name.hash)) (IsMade Sent device name change) (made-step Sent device name change) old old new answers.NoMemory
    (refl, ap delivered fate) (wanting Sent device name change old may_stand)
    (wanting-on Sent device name change old (carried_by acts (raised messages)) may_stand) in
    subst (λ (x : Sight). Made device name change old (around x acts' messages' f' k')) (sym same)
    (subst (λ (a : Acts). Made device name change old (around s a messages' f' k')) (sym acts_are)
    (subst (λ (n : ℕ). Made device name change old (around s acts n f' k')) (sym messages_are)
    (subst (λ (n : ℕ). Made device name change old (around s acts (raised messages) n k')) (sym faults)
    (subst (λ (n : ℕ). Made device name change old (around s acts (raised messages) f n)) (sym asks) made))))
