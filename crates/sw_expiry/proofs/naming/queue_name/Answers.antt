use Rattle.std.proofs.Common.{◌≡◌, ◌∙◌, ap, Some}
use Rattle.sw_hashpath.specs.declared.bad_name.BadName.TheVariants.{TooLong}
use Rattle.sw_expiry.specs.Queue.{container_of, entry_of, queue_fault}
use Rattle.sw_expiry.specs.TenDigits.{ten_digits}
use Rattle.sw_expiry.proofs.Faults.{long-entry}
use Rattle.sw_expiry.proofs.naming.queue_name.Goals as goal

pub returns-in_default-clause-bad : goal.returns-in_default-clause-bad
returns-in_default-clause-bad c =
    let found : queue_fault c.args.name.now c.args.delete_at ≡ Some TooLong = long-entry c.args.name.now c.args.delete_at c.requires c.in_default.ensures in
    λ bad. (λ e. cc, λ e. cc)

pub returns-clause-good : goal.returns-clause-good
returns-clause-good c =
    let container : c.ten_digits-container.result ≡ container_of c.args.name.now c.args.delete_at =
    c.ten_digits-container.ensures ∙ ap ten_digits c.container_time.ensures.value in
    let entry : c.as_slice.result.now ≡ entry_of c.args.name.now c.args.delete_at = c.as_slice.ensures.value ∙ c.in-Some.ensures in
    rw (container, entry) at c.new.ensures.good

pub returns-clause-bad : goal.returns-clause-bad
returns-clause-bad c =
    let container : c.ten_digits-container.result ≡ container_of c.args.name.now c.args.delete_at =
    c.ten_digits-container.ensures ∙ ap ten_digits c.container_time.ensures.value in
    let entry : c.as_slice.result.now ≡ entry_of c.args.name.now c.args.delete_at = c.as_slice.ensures.value ∙ c.in-Some.ensures in
    rw (container, entry) at c.new.ensures.bad
