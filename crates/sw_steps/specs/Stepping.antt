-- Steps of the nodes, one after another, and the passes among them. (This project's own.)
use Rattle.std.specs.Prelude.{◌≡◌, ◌≢◌, ℕ, ◌^◌, ◌<◌, true, false, Bool, List, [], ◌∷◌, ◌++◌, Ok, Err, ◌⊎◌}
use Rattle.sw_hashdir.specs.Steps.{is_hashed}
use Rattle.sw_hashpath.specs.declared.secrets.Secrets.{Secrets}
use Rattle.sw_outside.specs.declared.errors.NoMemory.{NoMemory}
use Rattle.sw_pass.specs.declared.outcome.Outcome.{Outcome}
use Rattle.sw_peer.specs.Sights.{Calls, IsListed, IsMade, IsRead, Restarts, Sight, is_wanting, is_wanting_read}
use Rattle.sw_object_steps.specs.declared.answer.Answer.{Answer}
use Rattle.sw_object_steps.specs.declared.got.Got.{Got}
use Rattle.sw_peer.specs.declared.link.Link.TheVariants.{Local}
use Rattle.sw_steps.specs.Passing.{IsPushedOver}
use Rattle.sw_steps.specs.declared.step.Step.{Step}
use Rattle.sw_steps.specs.declared.step.Step.TheVariants as steps

-- its devices are two of so many, or one, its name is hashed under these secrets, and its partition one of 2 to this power
abbrev pub MayBeMade : ℕ → ℕ → Secrets → Step → Type 0
MayBeMade devices power secrets (steps.Change device name change) = (device < devices) × (is_hashed secrets name ≡ true)
MayBeMade devices power secrets (steps.Read device name) = (device < devices) × (is_hashed secrets name ≡ true)
MayBeMade devices power secrets (steps.List device) = device < devices
MayBeMade devices power secrets (steps.Restart device) = device < devices
MayBeMade devices power secrets (steps.Push from to part acts) = (from < devices) × (to < devices) × (from ≢ to) × (part < 2 ^ power)

-- The step was made, of nodes that were seen so before it, and so after it, and told this: a push told its one outcome, any other step none. A push
-- that was hindered, or lost messages, was made
abbrev pub IsStepMade : Step → List Outcome → Sight → Sight → Type 0
IsStepMade (steps.Change device name change) told s t =
    (told ≡ []) × (answer : Answer) × (is_wanting answer ≡ false) × Calls (IsMade Local device name change) s Local (Ok answer) t
IsStepMade (steps.Read device name) told s t =
    (told ≡ []) × (got : Got) × (is_wanting_read got ≡ false) × Calls (IsRead Local device name) s Local (Ok got) t
IsStepMade (steps.List device) told s t = (told ≡ []) × (failed : Bool) × IsListed device failed s t
IsStepMade (steps.Restart device) told s t = (told ≡ []) × Restarts device s t
IsStepMade (steps.Push from to part acts) told s t = (outcome : Outcome) × (told ≡ outcome ∷ []) × IsPushedOver from to part acts s (Ok outcome) t

-- It was tried, and wanted memory: it didn't come, or came as far as it could. A restart wants memory before it comes alone
abbrev pub IsStepTried : Step → Sight → Sight → Type 0
IsStepTried (steps.Change device name change) s t =
    (t ≡ s) ⊎ ((answer : Answer) × (is_wanting answer ≡ true) × Calls (IsMade Local device name change) s Local (Ok answer) t)
IsStepTried (steps.Read device name) s t = (t ≡ s) ⊎ ((got : Got) × (is_wanting_read got ≡ true) × Calls (IsRead Local device name) s Local (Ok got) t)
IsStepTried (steps.List device) s t = (t ≡ s) ⊎ IsListed device false s t
IsStepTried (steps.Restart device) s t = t ≡ s
IsStepTried (steps.Push from to part acts) s t = (t ≡ s) ⊎ ((wanting : NoMemory) × IsPushedOver from to part acts s (Err wanting) t)

-- the steps were made in this order, and told this, one behind the other
abbrev pub AreMade : List Step → List Outcome → Sight → Sight → Type 0
AreMade [] told s t = (told ≡ []) × (t ≡ s)
AreMade (step ∷ steps) told s t = (one : List Outcome) × (rest : List Outcome) × (told ≡ one ++ rest) × (mid : Sight) × IsStepMade step one s mid
    × AreMade steps rest mid t

-- those before one of them were, whatever they told, and that one was tried
pub record AreMadeUpTo (all : List Step) (s t : Sight) : Type 0 where
  pub done : List Step
  pub step : Step
  pub rest : List Step
  pub all_are : all ≡ done ++ step ∷ rest
  pub told : List Outcome
  pub mid : Sight
  pub made : AreMade done told s mid
  pub tried : IsStepTried step mid t
