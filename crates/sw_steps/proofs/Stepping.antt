-- Steps that are made one after another.
use Rattle.std.proofs.Common.{◌≡◌, ℕ, Bool, true, ◌+◌, ◌<◌, ◌≤◌, ◌^◌, List, [], ◌∷◌, ◌++◌, take, drop, get_or, length, refl, sym, ◌∙◌, ap, subst, inl, inr}
use Rattle.std.proofs.Common.{arith, append_assoc, append-nil, Option, None, Result, Ok, Err, IfOk, OnOk, OnErr, All}
use Rattle.std.proofs.Math.Seq.{take-length}
use Rattle.std.proofs.lemmas.List.{take-append-drop, take_more}
use Rattle.std.proofs.lemmas.List.Elements.{All-get_or}
use Rattle.sw_core.proofs.Wholes.{shown-whole}
use Rattle.sw_hashpath.specs.declared.name.Name.{Name}
use Rattle.sw_lossy.specs.declared.acts.Acts.{Acts}
use Rattle.sw_machine.proofs.Doors.{device-listings, object-changes, object-reads, restarts}
use Rattle.sw_machine.proofs.Going.{same-goes}
use Rattle.sw_machine.specs.Doors.{RunsOn}
use Rattle.sw_core.specs.Worlds.{nodes_of, shown}
use Rattle.sw_hashpath.specs.declared.secrets.Secrets.{Secrets}
use Rattle.sw_outside.specs.declared.errors.NoMemory.{NoMemory}
use Rattle.sw_pass.specs.declared.outcome.Outcome.{Outcome}
use Rattle.sw_peer.proofs.Calls.{calls-moves, made-step, read-step, same-refl}
use Rattle.sw_object_steps.specs.declared.answer.Answer.{Answer}
use Rattle.sw_object_steps.specs.declared.change.Change.{Change}
use Rattle.sw_object_steps.specs.declared.got.Got.{Got}
use Rattle.sw_peer.specs.Sights.{Calls, IsAt, IsListed, IsMade, IsRead, Moves, Nodes, Restarts, Sight}
use Rattle.sw_peer.specs.declared.link.Link.TheVariants.{Local}
use Rattle.sw_steps.proofs.Running.{over-nodes}
use Rattle.sw_steps.specs.Passing.{IsPushedOver}
use Rattle.sw_steps.specs.Stepping.{AreMade, AreMadeUpTo, IsStepMade, IsStepTried, MayBeMade}
use Rattle.sw_steps.specs.declared.step.Step.{Step}
use Rattle.sw_steps.specs.declared.step.Step.TheVariants as steps

-- ---- answers of a step that may have wanted memory

pub on-ok : {P Q T E : Type 0} (r : Result T E) → (P → Q) → OnOk r P → OnOk r Q
on-ok (Ok x) f p = f p
on-ok (Err e) f p = tt

pub on-err : {P Q T E : Type 0} (r : Result T E) → (P → Q) → OnErr r P → OnErr r Q
on-err (Ok x) f p = tt
on-err (Err e) f p = f p

pub any-err : {P T E : Type 0} (r : Result T E) → P → OnErr r P
any-err (Ok x) p = tt
any-err (Err e) p = p

-- where nothing came, every run goes on
pub same-runs : {A : Type 0} (see : A → Sight) (old new : A) → new ≡ old → RunsOn (see old) (see new)
same-runs {A} see old new same =
    subst (λ (w : A). RunsOn (see old) (see w)) (sym same) (λ m stands. ([], (same-goes (see old) m (see old) stands (same-refl (see old))).0))

-- every run goes on by a step at a device itself
pub changed-runs : (device : ℕ) (name : Name) (change : Change) (s : Sight) (answer : Answer) (t : Sight) → t.alone ≡ true
    → Calls (IsMade Local device name change) s Local (Ok answer) t → RunsOn s t
changed-runs device name change s answer t alone calls m stands =
    let one = (object-changes device name change).call s answer t alone calls m stands in (one.0, one.2)

pub read-runs : (device : ℕ) (name : Name) (s : Sight) (got : Got) (t : Sight) → t.alone ≡ true → Calls (IsRead Local device name) s Local (Ok got) t
    → RunsOn s t
read-runs device name s got t alone calls m stands =
    let one = (object-reads device name).call s got t alone calls m stands in (one.0, one.2)

pub listed-runs : (device : ℕ) (failed : Bool) (s t : Sight) → IsListed device failed s t → RunsOn s t
listed-runs device failed s t listed m stands = (_, device-listings device failed s t m stands listed)

pub restarted-runs : (device : ℕ) (s t : Sight) → t.alone ≡ true → Restarts device s t → RunsOn s t
restarted-runs device s t alone anew m stands = (_, restarts device s t m stands alone anew)

-- ---- what a step came to

-- nothing came of it yet
pub tried-same : (step : Step) (s : Sight) → IsStepTried step s s
tried-same (steps.Change device name change) s = inl refl
tried-same (steps.Read device name) s = inl refl
tried-same (steps.List device) s = inl refl
tried-same (steps.Restart device) s = refl
tried-same (steps.Push from to part acts) s = inl refl

-- a push that ended tells its outcome
pub over-made : (from to part : ℕ) (acts : Acts) (s : Sight) (result : Result Outcome NoMemory) (t : Sight) → IsPushedOver from to part acts s result t
    → IfOk result (λ outcome. IsStepMade (steps.Push from to part acts) (outcome ∷ []) s t)
over-made from to part acts s (Ok outcome) t over = (outcome, refl, over)
over-made from to part acts s (Err wanting) t over = tt

pub over-tried : (from to part : ℕ) (acts : Acts) (s : Sight) (result : Result Outcome NoMemory) (t : Sight) → IsPushedOver from to part acts s result t
    → OnErr result (IsStepTried (steps.Push from to part acts) s t)
over-tried from to part acts s (Ok outcome) t over = tt
over-tried from to part acts s (Err wanting) t over = inr (wanting, over)

-- ---- the nodes stay

step-nodes : (step : Step) (told : List Outcome) (s t : Sight) → IsStepMade step told s t → t.nodes ≡ s.nodes
step-nodes (steps.Change device name change) told s t made =
    (calls-moves (Moves (IsAt device name.hash)) (IsMade Local device name change) (made-step Local device name change) s Local (Ok made.1) t made.3).nodes
step-nodes (steps.Read device name) told s t made =
    (calls-moves (Moves (IsAt device name.hash)) (IsRead Local device name) (read-step Local device name) s Local (Ok made.1) t made.3).nodes
step-nodes (steps.List device) told s t made = made.2.nodes
step-nodes (steps.Restart device) told s t made = made.1.nodes
step-nodes (steps.Push from to part acts) told s t made = over-nodes from to part acts s (Ok made.0) t made.2

pub made-nodes : (steps : List Step) (told : List Outcome) (s t : Sight) → AreMade steps told s t → t.nodes ≡ s.nodes
made-nodes [] told s t made = ap (λ (x : Sight). x.nodes) made.1
made-nodes (step ∷ steps) told s t made = made-nodes steps made.1 made.3 t made.5 ∙ step-nodes step made.0 s made.3 made.4

-- a step that may be made of one world may be made of another with the same nodes
may-still : (devices more : ℕ) (bits narrow power strong : ℕ) (secrets other : Secrets) →
    nodes_of more narrow strong other ≡ nodes_of devices bits power secrets → (step : Step)
    → MayBeMade devices power secrets step → MayBeMade more strong other step
may-still devices more bits narrow power strong secrets other same (steps.Change device name change) may = (
  subst (λ (n : ℕ). device < n) (sym (ap (λ (n : Nodes). n.devices) same)) may.0,
  ap (λ (n : Nodes). n.fits name) same ∙ may.1,
)
may-still devices more bits narrow power strong secrets other same (steps.Read device name) may = (
  subst (λ (n : ℕ). device < n) (sym (ap (λ (n : Nodes). n.devices) same)) may.0,
  ap (λ (n : Nodes). n.fits name) same ∙ may.1,
)
may-still devices more bits narrow power strong secrets other same (steps.List device) may =
    subst (λ (n : ℕ). device < n) (sym (ap (λ (n : Nodes). n.devices) same)) may
may-still devices more bits narrow power strong secrets other same (steps.Restart device) may =
    subst (λ (n : ℕ). device < n) (sym (ap (λ (n : Nodes). n.devices) same)) may
may-still devices more bits narrow power strong secrets other same (steps.Push from to part acts) may = (
  subst (λ (n : ℕ). from < n) (sym (ap (λ (n : Nodes). n.devices) same)) may.0,
  subst (λ (n : ℕ). to < n) (sym (ap (λ (n : Nodes). n.devices) same)) may.1,
  may.2,
  subst (λ (n : ℕ). part < 2 ^ n) (sym (ap (λ (n : Nodes). n.power) same)) may.3,
)

-- the next step may be made of the world that those before it left
pub may-next : (steps : List Step) (i : ℕ) (step : Step) (devices bits power now_devices now_bits now_power : ℕ) (secrets now_secrets : Secrets)
    (lifted now_lifted : Option ℕ)
    → lifted ≡ None → now_lifted ≡ None → nodes_of (shown now_lifted now_devices) now_bits now_power now_secrets
    ≡ nodes_of (shown lifted devices) bits power secrets
    → i < length steps → step ≡ get_or steps i step → All (MayBeMade devices power secrets) steps → MayBeMade now_devices now_power now_secrets step
may-next steps i step devices bits power now_devices now_bits now_power secrets now_secrets lifted now_lifted whole now_whole same within is all =
    let nodes : nodes_of now_devices now_bits now_power now_secrets ≡ nodes_of devices bits power secrets =
    ap (λ (n : ℕ). nodes_of n now_bits now_power now_secrets) (sym (shown-whole now_lifted now_devices now_whole))
    ∙ (same ∙ ap (λ (n : ℕ). nodes_of n bits power secrets) (shown-whole lifted devices whole)) in
    may-still devices now_devices bits now_bits power now_power secrets now_secrets nodes step
    (subst (MayBeMade devices power secrets) (sym is) (All-get_or (MayBeMade devices power secrets) steps i step within all))

-- ---- the steps of a list, up to one of them

pub made-append : (xs ys : List Step) (front back : List Outcome) (a b c : Sight) → AreMade xs front a b → AreMade ys back b c
    → AreMade (xs ++ ys) (front ++ back) a c
made-append [] ys front back a b c p q =
    subst (λ (l : List Outcome). AreMade ys (l ++ back) a c) (sym p.0) (subst (λ (x : Sight). AreMade ys back x c) p.1 q)
made-append (x ∷ xs) ys front back a b c p q = (
  p.0,
  p.1 ++ back,
  ap (λ (l : List Outcome). l ++ back) p.2 ∙ append_assoc p.0 p.1 back,
  p.3,
  p.4,
  made-append xs ys p.1 back p.3 b c p.5 q,
)

pub begun-all : (steps : List Step) (told : List Outcome) (s : Sight) → told ≡ [] → AreMade (take 0 steps) told s s
begun-all steps told s none = (none, refl)

one-further : (steps : List Step) (i : ℕ) (step : Step) → i < length steps → step ≡ get_or steps i step → take i steps ++ step ∷ [] ≡ take (i + 1) steps
one-further steps i step within is = ap (λ (x : Step). take i steps ++ x ∷ []) is ∙ sym (take_more steps i step within)

-- the next step was made too, and what it told was put behind the rest
pub next-made : (steps : List Step) (i : ℕ) (step : Step) (so_far held one now : List Outcome) (a b c : Sight) → i < length steps
    → step ≡ get_or steps i step → AreMade (take i steps) so_far a b → IsStepMade step one b c → held ≡ so_far → now ≡ held ++ one
    → AreMade (take (i + 1) steps) now a c
next-made steps i step so_far held one now a b c within is before made same kept =
    subst (λ (told : List Outcome). AreMade (take (i + 1) steps) told a c) (sym (kept ∙ ap (λ (l : List Outcome). l ++ one) same))
    (subst (λ (l : List Step). AreMade l (so_far ++ one) a c) (one-further steps i step within is)
    (made-append (take i steps) (step ∷ []) so_far one a b c before (one, [], sym (append-nil one), c, made, (refl, refl))))

pub all-made : (steps : List Step) (i : ℕ) (told : List Outcome) (a b : Sight) → length steps ≤ i → i ≤ length steps → AreMade (take i steps) told a b
    → AreMade steps told a b
all-made steps i told a b past low made =
    let end : i ≡ length steps = omega (arith, past, low) in
    subst (λ (l : List Step). AreMade l told a b) (ap (λ (n : ℕ). take n steps) end ∙ take-length steps) made

pub stopped : (steps : List Step) (i : ℕ) (step : Step) (told : List Outcome) (a b c : Sight) → i < length steps → step ≡ get_or steps i step
    → AreMade (take i steps) told a b → IsStepTried step b c → AreMadeUpTo steps a c
stopped steps i step told a b c within is so_far tried = record {
  done = take i steps;
  step = step;
  rest = drop (i + 1) steps;
  all_are = sym (take-append-drop (i + 1) steps)
      ∙ (ap (λ (l : List Step). l ++ drop (i + 1) steps) (sym (one-further steps i step within is))
      ∙ append_assoc (take i steps) (step ∷ []) (drop (i + 1) steps));
  told = told;
  mid = b;
  made = so_far;
  tried = tried;
}
