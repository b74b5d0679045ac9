use Rattle.std.proofs.Common.{Some, sym, subst}
use Rattle.sw_core.specs.Worlds.{AllMayStand}
use Rattle.sw_core.specs.declared.slot.Slot.{Slot}
use Rattle.sw_core.proofs.slot.Slot.may_stand.Goals as goal

pub returns-in-Open : goal.returns-in-Open
returns-in-Open g c =
    let v = g.V.Volume in
    subst (λ (s : Slot _). AllMayStand v.tells v.holds v.faults (Some s)) (sym c.in-Open.is) c.may_stand.ensures
