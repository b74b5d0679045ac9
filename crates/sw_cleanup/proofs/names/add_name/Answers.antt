use Rattle.std.proofs.Common.{◌∙◌}
use Rattle.sw_cleanup.proofs.Listed.{adds_none, adds_one}
use Rattle.sw_cleanup.proofs.names.add_name.Goals as goal

pub returns-in_ok-push-in-Ok : goal.returns-in_ok-push-in-Ok
returns-in_ok-push-in-Ok c = c.in_ok-push-in-Ok.ensures.items ∙ adds_one c.args.names.now.items c.in-Ok.name c.args.text.now c.in-Ok.ensures.is

pub returns-in-Err : goal.returns-in-Err
returns-in-Err c = adds_none c.args.names.now.items c.args.text.now c.in-Err.ensures.is
