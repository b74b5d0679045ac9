use Rattle.sw_pass.specs.Turns.{InTurn}
use Rattle.std.proofs.Common.{sym, subst, Option}
use Rattle.std.specs.Option.{option_to_list}
use Rattle.std.specs.Result.{is_ok}
use Rattle.sw_diskfile.specs.declared.file_name.FileName.{FileName}
use Rattle.sw_pass.proofs.Turns.{turn-one}
use Rattle.sw_replicator.specs.Pushing.{IsFilePushed}
use Rattle.sw_replicator.proofs.offering.push_some_file.Goals as goal

pub returns-in-Some-clause-pushes : goal.returns-in-Some-clause-pushes
returns-in-Some-clause-pushes g c =
    let s = g.D.Door.sight in
    let one = IsFilePushed c.args.route.from c.args.route.to c.args.route.part c.args.theirs.now c.args.hash.now in
    subst (λ (x : Option FileName). InTurn one (option_to_list x) (s c.args.door.now) c.args.outcome.now (s c.push_file.new.door) c.push_file.new.outcome
    (is_ok c.push_file.result)) (sym c.in-Some.is)
    (turn-one one c.in-Some.file (s c.args.door.now) c.args.outcome.now (s c.push_file.new.door) c.push_file.new.outcome
    (is_ok c.push_file.result) c.push_file.ensures.pushes)
