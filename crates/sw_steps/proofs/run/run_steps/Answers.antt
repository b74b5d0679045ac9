use Rattle.std.proofs.Common.{refl, take}
use Rattle.std.specs.Option.{option_to_list}
use Rattle.sw_core.specs.Worlds.{keeper_seen, sight_of}
use Rattle.sw_machine.proofs.Going.{runs-join}
use Rattle.sw_steps.proofs.Exchanging.{steps_meet}
use Rattle.sw_steps.proofs.Stepping.{all-made, any-err, begun-all, made-nodes, may-next, next-made, same-runs, stopped, tried-same}
use Rattle.sw_steps.proofs.run.run_steps.Goals as goal

pub loop-step-init : goal.loop-step-init
loop-step-init g c = let v = g.V.Volume in let k = g.K.Keeper in let see = sight_of v.tells v.holds v.faults (keeper_seen k.tells k.holds k.faults) in record {
  made = begun-all c.args.steps.now c.new-outcomes.result.items (see c.args.door.now.door) c.new-outcomes.ensures.items;
  runs = same-runs see c.args.door.now.door c.args.door.now.door refl;
  whole = c.requires.whole;
}

pub make-requires-clause-may : goal.make-requires-clause-may
make-requires-clause-may g c =
    let v = g.V.Volume in let k = g.K.Keeper in let see = sight_of v.tells v.holds v.faults (keeper_seen k.tells k.holds k.faults) in
    let old = c.args.door.now.door in
    let now = c.loop-step.door.door in
    may-next c.args.steps.now c.loop-step.step-index c.step-item.result old.devices old.lock_bits old.power now.devices now.lock_bits now.power
    old.secrets now.secrets old.lifted now.lifted c.requires.whole c.loop-step.invariant.whole
    (made-nodes (take c.loop-step.step-index c.args.steps.now) c.loop-step.outcomes.items (see old) (see now) c.loop-step.invariant.made)
    c.loop-step-test.true c.step-item.is c.requires.may

pub returns-in_err-reserve-clause-some : goal.returns-in_err-reserve-clause-some
returns-in_err-reserve-clause-some g c =
    let v = g.V.Volume in let k = g.K.Keeper in let see = sight_of v.tells v.holds v.faults (keeper_seen k.tells k.holds k.faults) in
    any-err c.from_residual.result (stopped c.args.steps.now c.loop-step.step-index c.step-item.result c.loop-step.outcomes.items
    (see c.args.door.now.door) (see c.loop-step.door.door) (see c.loop-step.door.door) c.loop-step-test.true c.step-item.is
    c.loop-step.invariant.made (tried-same c.step-item.result (see c.loop-step.door.door)))

pub returns-in_err-outcome-clause-some : goal.returns-in_err-outcome-clause-some
returns-in_err-outcome-clause-some g c =
    let v = g.V.Volume in let k = g.K.Keeper in let see = sight_of v.tells v.holds v.faults (keeper_seen k.tells k.holds k.faults) in
    any-err c.from_residual-in_err-outcome.result (stopped c.args.steps.now c.loop-step.step-index c.step-item.result c.loop-step.outcomes.items
    (see c.args.door.now.door) (see c.loop-step.door.door) (see c.make.new.door.door) c.loop-step-test.true c.step-item.is
    c.loop-step.invariant.made c.in_err-outcome.ensures.tried)

pub returns-in_err-outcome-clause-runs : goal.returns-in_err-outcome-clause-runs
returns-in_err-outcome-clause-runs g c =
    let v = g.V.Volume in let k = g.K.Keeper in let see = sight_of v.tells v.holds v.faults (keeper_seen k.tells k.holds k.faults) in
    runs-join (see c.args.door.now.door) (see c.loop-step.door.door) (see c.make.new.door.door) c.loop-step.invariant.runs c.make.ensures.runs

pub loop-step-preserved : goal.loop-step-preserved
loop-step-preserved g c = let v = g.V.Volume in let k = g.K.Keeper in let see = sight_of v.tells v.holds v.faults (keeper_seen k.tells k.holds k.faults) in
    record {
      made = next-made c.args.steps.now c.loop-step.step-index c.step-item.result c.loop-step.outcomes.items c.reserve.new.self.items
          (option_to_list c.in_ok-outcome.outcome) c.keep.new.outcomes.items (see c.args.door.now.door) (see c.loop-step.door.door)
          (see c.make.new.door.door) c.loop-step-test.true c.step-item.is c.loop-step.invariant.made c.in_ok-outcome.ensures.made
          c.reserve.ensures.items c.keep.ensures.items;
      runs = runs-join (see c.args.door.now.door) (see c.loop-step.door.door) (see c.make.new.door.door) c.loop-step.invariant.runs c.make.ensures.runs;
      whole = c.in_ok-outcome.ensures.whole;
    }

pub returns-clause-all : goal.returns-clause-all
returns-clause-all g c =
    let v = g.V.Volume in let k = g.K.Keeper in let see = sight_of v.tells v.holds v.faults (keeper_seen k.tells k.holds k.faults) in
    all-made c.args.steps.now c.loop-step.step-index c.loop-step.outcomes.items (see c.args.door.now.door) (see c.loop-step.door.door)
    c.loop-step-test.false c.loop-step.auto.step-index-end c.loop-step.invariant.made

pub returns-clause-met : goal.returns-clause-met
returns-clause-met g c =
    let v = g.V.Volume in let k = g.K.Keeper in let see = sight_of v.tells v.holds v.faults (keeper_seen k.tells k.holds k.faults) in
    steps_meet c.args.steps.now c.loop-step.outcomes.items (see c.args.door.now.door) (see c.loop-step.door.door) (returns-clause-all g c) refl
