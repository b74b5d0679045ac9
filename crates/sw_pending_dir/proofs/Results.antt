-- Answers of calls: what holds of one holds of another.
use Rattle.std.proofs.Common.{◌≡◌, ℕ, ap, sym, ◌∙◌, List, ◌++◌, length, take, drop, Result, Ok, Err}
use Rattle.std.proofs.lemmas.List.{take_at}
use Rattle.std.specs.Prelude.{IfOk, OnErr, OnOk}
use Rattle.sw_hashpath.specs.declared.decode_error.BadFile.{BadFile}
use Rattle.sw_hashpath.specs.declared.decode_error.DecodeError.{DecodeError}
use Rattle.sw_hashpath.specs.declared.decode_error.DecodeError.TheVariants as decodings
use Rattle.sw_volume.specs.Volume.{OnFailed}
use Rattle.sw_volume.specs.declared.errors.VolumeError.{VolumeError}
use Rattle.sw_volume.specs.declared.errors.VolumeError.TheVariants as volumes
use Rattle.sw_pending_dir.specs.Readings.{IfBad, IfDamaged, fault_of_decoding}
use Rattle.sw_pending_dir.specs.declared.fault.ReadFault.{ReadFault}
use Rattle.sw_pending_dir.specs.declared.fault.ReadFault.TheVariants as faults

-- a name that was written to the front of its room
pub written : (name old out : List ℕ) (count : ℕ) → count ≡ length name → out ≡ name ++ drop count old → take count out ≡ name
written name old out count long is = ap (take count) is ∙ take_at name (drop count old) count (sym long)

module _ {T E : Type 0} (P Q : T → Type 0) (step : (x : T) → P x → Q x) where
  pub if-ok : (r : Result T E) → IfOk r P → IfOk r Q
  if-ok (Ok x) is = step x is
  if-ok (Err e) is = is

module _ {T E : Type 0} (P Q : Type 0) (step : P → Q) where
  pub on-ok : (r : Result T E) → OnOk r P → OnOk r Q
  on-ok (Ok x) is = step is
  on-ok (Err e) is = is

  pub on-err : (r : Result T E) → OnErr r P → OnErr r Q
  on-err (Ok x) is = is
  on-err (Err e) is = step is

module _ {T : Type 0} (P Q : Type 0) (step : P → Q) where
  pub on-failed : (r : Result T VolumeError) → OnFailed r P → OnFailed r Q
  on-failed (Ok x) is = is
  on-failed (Err volumes.Failed) is = step is
  on-failed (Err volumes.NoMemory) is = is

module _ (S T : Type 0) (P Q : BadFile → Type 0) (step : (bad : BadFile) → P bad → Q bad) where
  -- a fault of decoding, as it is told
  pub if-damaged : (error : DecodeError) → (let r : Result S DecodeError = Err error in IfBad r P)
      → (let r : Result T ReadFault = Err (fault_of_decoding error) in IfDamaged r Q)
  if-damaged (decodings.Bad bad) is = step bad is
  if-damaged decodings.NoMemory is = is

  pub if-damaged-again : (fault : ReadFault) → (let r : Result S ReadFault = Err fault in IfDamaged r P)
      → (let r : Result T ReadFault = Err fault in IfDamaged r Q)
  if-damaged-again (faults.Damaged bad) is = step bad is
  if-damaged-again faults.Failed is = is
  if-damaged-again faults.NoMemory is = is
