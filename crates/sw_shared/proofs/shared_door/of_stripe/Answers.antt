use Rattle.std.proofs.Common.{◌==◌, Bool, rules}
use Rattle.std.proofs.lemmas.Fn.{filter_same}
use Rattle.sw_core.specs.Worlds.{stripe_in}
use Rattle.sw_pending.specs.declared.filed.Filed.{Filed}
use Rattle.sw_shared.proofs.shared_door.of_stripe.Goals as goal

pub returns-in-Ok : goal.returns-in-Ok
returns-in-Ok c =
    let test : Filed → Bool = λ filed. stripe_in c.args.lock_bits c.args.power filed.name.hash == c.args.stripe in
    rw c.in-Ok.is (filter_same _ test _ (λ x b f' k. search rules) _ _ c.retain.ensures.filtered)
