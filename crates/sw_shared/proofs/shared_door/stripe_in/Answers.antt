use Rattle.std.proofs.Common.{◌-◌, ◌/◌, ◌^◌, ◌<◌, ℕ, sym, ◌∙◌, ap, subst, arith}
use Rattle.std.proofs.Math.Nat.{mod-eq_of_lt}
use Rattle.sw_core.proofs.Stripes.{few, part-below}
use Rattle.sw_hashpath.specs.HashParts.{partition_of}
use Rattle.sw_shared.proofs.shared_door.stripe_in.Goals as goal

pub overflow_cast-result-2 : goal.overflow_cast-result-2
overflow_cast-result-2 c =
    let below = part-below c.args.lock_bits c.args.power c.partition.result c.requires.fine c.partition.ensures.below in
    rw c.from.ensures (omega (arith, below, few c.args.lock_bits c.requires.few))

pub returns : goal.returns
returns c =
    let bits = c.args.lock_bits in let power = c.args.power in
    let part : ℕ = partition_of c.args.hash.now power in
    let within : part < 2 ^ power = subst (λ (n : ℕ). n < 2 ^ power) c.partition.ensures.value c.partition.ensures.below in
    ap (λ (n : ℕ). n / 2 ^ (power - bits)) (c.from.ensures ∙ c.partition.ensures.value) ∙ sym (mod-eq_of_lt (part-below bits power part c.requires.fine within))
