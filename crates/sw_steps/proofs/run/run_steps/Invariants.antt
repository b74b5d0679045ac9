use Rattle.std.proofs.Common.{◌≡◌, None, take}
use Rattle.sw_core.specs.Worlds.{keeper_seen, sight_of}
use Rattle.sw_machine.specs.Doors.{RunsOn}
use Rattle.sw_steps.specs.Stepping.{AreMade}
use Rattle.sw_steps.proofs.run.run_steps.Given as goal

abbrev pub invariant-loop-step : goal.invariant-loop-step
invariant-loop-step g l = let v = g.V.Volume in let k = g.K.Keeper in record {
  made : AreMade (take l.step-index l.steps) l.outcomes.items (sight_of v.tells v.holds v.faults (keeper_seen k.tells k.holds k.faults) l.initial.door.door)
      (sight_of v.tells v.holds v.faults (keeper_seen k.tells k.holds k.faults) l.door.door);
  runs : RunsOn (sight_of v.tells v.holds v.faults (keeper_seen k.tells k.holds k.faults) l.initial.door.door)
      (sight_of v.tells v.holds v.faults (keeper_seen k.tells k.holds k.faults) l.door.door);
  whole : l.door.door.lifted ≡ None;
}
