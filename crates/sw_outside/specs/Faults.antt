-- Counts of faults. (This project's own.)
use Rattle.std.specs.Prelude.{◌≡◌, ℕ, ◌-◌, ◌^◌, ◌<◌, ◌≤◌, OnOk, OnErr, Result, Ok, Err}
use Rattle.std.proofs.Common.{◌⊎◌}
use Rattle.sw_outside.specs.Counts.{raised}
use Rattle.sw_outside.specs.declared.store_error.StoreError.{StoreError}
use Rattle.sw_outside.specs.declared.store_error.StoreError.TheVariants as errors

-- the count rose, or stands at its type's end
abbrev pub HasRisen : ℕ → ℕ → Type 0
HasRisen before now = (before < now) ⊎ (2 ^ 64 - 1 ≤ now)

-- one call counts one fault where it failed, and none else; so the count didn't fall, and has risen where the call failed
pub record HasCause {T E : Type 0} (before now : ℕ) (result : Result T E) : Type 0 where
  pub once : OnErr result (now ≡ raised before)
  pub kept : OnOk result (now ≡ before)
  pub later : before ≤ now
  pub risen : OnErr result (HasRisen before now)

-- the count of faults after a call that may want memory: one more where it failed, and the same after an answer or want of memory
abbrev pub faults_after : {T : Type 0} → ℕ → Result T StoreError → ℕ
faults_after before (Ok value) = before
faults_after before (Err errors.Failed) = raised before
faults_after before (Err errors.NoMemory) = before
