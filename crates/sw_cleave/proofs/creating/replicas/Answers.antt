use Rattle.std.proofs.Common.{ℕ, arith, not, take}
use Rattle.std.proofs.lemmas.List.{length-take-le}
use Rattle.std.proofs.lemmas.List.Sums.{count_by-le-length, length-filter}
use Rattle.std.specs.Prelude.{◌==◌}
use Rattle.sw_cleave.proofs.creating.replicas.Goals as goal

pub overflow_add-count : goal.overflow_add-count
overflow_add-count c =
    let all = take c.loop-other.other-index c.devices_of-other-items.result.now in
    let some = length-filter (λ (d : ℕ). not (d == c.args.device)) all in
    let few = count_by-le-length (λ (d : ℕ). not (d == c.args.device)) all in
    omega (arith, some, few, length-take-le c.loop-other.other-index c.devices_of-other-items.result.now (omega arith))
