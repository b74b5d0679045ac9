-- A put that failed either found no memory, or was to fail.
use Rattle.std.proofs.Common.{◌≡◌, inl, inr, arith, refl, ℕ, List, Option, Some, None, Bool, true, min, length, take}
use Rattle.std.specs.Prelude.{is_some, unwrap_or}
use Rattle.std.proofs.lemmas.Grind.{common_steps}
use Rattle.std.proofs.lemmas.List.{take_min}
use Rattle.sw_outside.proofs.mem_sink.MemSinkSink.put.Goals.{then-is_err, else-is_err+else-is_none}
use Rattle.sw_outside.proofs.mem_sink.MemSinkSink.put.Goals as goal

-- the front that a plan tells, cut at the bytes' end or not, is one front
front_of : (plan : Option ℕ) (bs : List ℕ) (wanted : ℕ) → is_some plan ≡ true → wanted ≡ min (unwrap_or plan (length bs)) (length bs)
    → (taken : ℕ) × (plan ≡ Some taken) × (take wanted bs ≡ take taken bs)
front_of None bs wanted planned e = absurd (let P : Bool → Type 0 = λ b. b ≡ true in cc)
front_of (Some taken) bs wanted planned e = (taken, refl, rw e (take_min taken bs))

pub returns-clause-failed : goal.returns-clause-failed
returns-clause-failed c = elim c.if-is_err.branch [
  | then-is_err w ↦ inr (grind (arith, common_steps))
  | else-is_err+else-is_none w ↦ inl (
      let front = front_of _ c.args.bytes.now c.min-wanted.result w.if-is_none.ensures (grind (arith, common_steps)) in
      (front.0, grind (arith, common_steps, front.1), grind (arith, common_steps, front.2)))
]
