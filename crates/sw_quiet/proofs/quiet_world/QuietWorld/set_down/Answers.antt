use Rattle.std.proofs.Common.{refl, sym}
use Rattle.sw_core.specs.Worlds.{without_lines}
use Rattle.sw_quiet.proofs.Trails.{sets-quietly}
use Rattle.sw_quiet.proofs.quiet_world.QuietWorld.set_down.Goals as goal

pub returns : goal.returns
returns g c =
    rw (sym c.self.view_is, c.take_trail.ensures.after)
    (sets-quietly c.self.inside.world c.args.device c.args.parts c.set_down.new.self (without_lines c.set_down.new.self) c.set_down.ensures refl)
