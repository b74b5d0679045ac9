-- A push from one device to another in a list of steps, and a later one back. (This project's own.)
use Rattle.std.specs.Prelude.{◌≡◌, ◌≢◌, ℕ, true, List, ◌∷◌, ◌++◌, ◌⊎◌, Ok}
use Rattle.sw_lossy.specs.declared.acts.Acts.{Acts}
use Rattle.sw_pass.specs.declared.outcome.Outcome.{Outcome}
use Rattle.sw_object_steps.specs.Journals.{Hash}
use Rattle.sw_object_steps.specs.Parts.{IsOfPart}
use Rattle.sw_peer.specs.Sights.{Sight}
use Rattle.sw_replicator.specs.Laws.{BothTell, CollidesOnce, HoldSame}
use Rattle.sw_replicator.specs.Meeting.{state_at}
use Rattle.sw_state.specs.States.{together}
use Rattle.sw_steps.specs.Passing.{IsPushedOver}
use Rattle.sw_steps.specs.Stepping.{AreMade}
use Rattle.sw_steps.specs.declared.step.Step.{Step}
use Rattle.sw_steps.specs.declared.step.Step.TheVariants as steps

-- the list has a push of the partition from a to b, and later one from b to a
pub record HasExchange (a b part : ℕ) (all : List Step) : Type 0 where
  pub before : List Step
  pub there : Acts
  pub between : List Step
  pub back : Acts
  pub behind : List Step
  pub all_are : all ≡ before ++ steps.Push a b part there ∷ (between ++ steps.Push b a part back ∷ behind)

-- The sights around both pushes of such a list that was made, and what all told: the outcomes of both pushes stand in it behind those of the
-- steps before each
pub record Exchanges (a b part : ℕ) (all : List Step) (has : HasExchange a b part all) (told : List Outcome) (s t : Sight) : Type 0 where
  pub told_before : List Outcome
  pub first : Sight
  pub made_before : AreMade has.before told_before s first
  pub there : Outcome
  pub second : Sight
  pub pushed : IsPushedOver a b part has.there first (Ok there) second
  pub told_between : List Outcome
  pub third : Sight
  pub made_between : AreMade has.between told_between second third
  pub back : Outcome
  pub fourth : Sight
  pub pushed_back : IsPushedOver b a part has.back third (Ok back) fourth
  pub told_behind : List Outcome
  pub made_behind : AreMade has.behind told_behind fourth t
  pub told_are : told ≡ told_before ++ there ∷ (told_between ++ back ∷ told_behind)

-- where both were done, and what both devices hold of a hash was the same before the second as after the first, both hold after the second
-- the join of what both held before the first
abbrev pub HoldBoth : (a b part : ℕ) → Hash → Sight → Sight → Sight → Sight → Type 0
HoldBoth a b part hash s m n t =
    ((state_at t b hash ≡ together (state_at s b hash) (state_at s a hash))
    × (state_at t a hash ≡ together (state_at s a hash) (state_at t b hash)))
    ⊎ CollidesOnce a b part hash s m n t

abbrev pub MeetsWhereDone : (a b part : ℕ) (all : List Step) (has : HasExchange a b part all) (told : List Outcome) (s t : Sight) → Hash
    → Exchanges a b part all has told s t → Type 0
MeetsWhereDone a b part all has told s t hash e =
    e.there.done ≡ true → e.back.done ≡ true → HoldSame a b hash e.second e.third → HoldBoth a b part hash e.first e.second e.third e.fourth

-- whatever push and later one back the list has, between two devices that tell what they hold
abbrev pub AreMet : (all : List Step) (told : List Outcome) (s t : Sight) → Type 0
AreMet all told s t = (a b part : ℕ) (has : HasExchange a b part all) → a ≢ b → BothTell a b part s → (hash : Hash) → IsOfPart s.nodes.power part hash
    → (e : Exchanges a b part all has told s t) × MeetsWhereDone a b part all has told s t hash e
