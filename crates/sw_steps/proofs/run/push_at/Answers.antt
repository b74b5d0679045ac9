use Rattle.std.proofs.Common.{refl, ap}
use Rattle.sw_core.proofs.Wholes.{still-whole}
use Rattle.sw_core.specs.Worlds.{keeper_seen, sight_of}
use Rattle.sw_machine.proofs.Going.{leaving-runs}
use Rattle.sw_peer.specs.Sights.{Nodes}
use Rattle.sw_steps.proofs.Running.{over-nodes, pushing_runs}
use Rattle.sw_steps.proofs.Stepping.{over-made, over-tried}
use Rattle.sw_steps.proofs.run.push_at.Goals as goal

pub returns-clause-whole : goal.returns-clause-whole
returns-clause-whole g c =
    let v = g.V.Volume in let k = g.K.Keeper in let see = sight_of v.tells v.holds v.faults (keeper_seen k.tells k.holds k.faults) in
    let old = c.args.door.now.door in let new = c.push_over.new.door.door in
    still-whole old.lifted new.lifted c.args.from old.devices new.devices c.requires.whole c.requires.from
    (ap (λ (n : Nodes). n.devices) (over-nodes c.args.from c.args.to c.args.part c.args.acts (see old) c.push_over.result (see new) c.push_over.ensures))

pub returns-clause-made : goal.returns-clause-made
returns-clause-made g c =
    let v = g.V.Volume in let k = g.K.Keeper in let see = sight_of v.tells v.holds v.faults (keeper_seen k.tells k.holds k.faults) in
    over-made c.args.from c.args.to c.args.part c.args.acts (see c.args.door.now.door) c.push_over.result (see c.push_over.new.door.door) c.push_over.ensures

pub returns-clause-tried : goal.returns-clause-tried
returns-clause-tried g c =
    let v = g.V.Volume in let k = g.K.Keeper in let see = sight_of v.tells v.holds v.faults (keeper_seen k.tells k.holds k.faults) in
    over-tried c.args.from c.args.to c.args.part c.args.acts (see c.args.door.now.door) c.push_over.result (see c.push_over.new.door.door) c.push_over.ensures

pub returns-clause-runs : goal.returns-clause-runs
returns-clause-runs g c =
    let v = g.V.Volume in let k = g.K.Keeper in let see = sight_of v.tells v.holds v.faults (keeper_seen k.tells k.holds k.faults) in
    leaving-runs (see c.args.door.now.door) (see c.push_over.new.door.door)
    (pushing_runs c.args.from c.args.to c.args.part c.args.acts (see c.args.door.now.door) c.push_over.result (see c.push_over.new.door.door)
    c.push_over.ensures c.requires.apart refl)
