-- Each step is the one that was asked for.
use Rattle.std.proofs.Common.{[], ◌∷◌, subst, sym}
use Rattle.sw_core.specs.Worlds.{keeper_seen, sight_of}
use Rattle.sw_steps.specs.Stepping.{IsStepMade, IsStepTried}
use Rattle.sw_steps.specs.declared.step.Step.{Step}
use Rattle.sw_steps.proofs.Stepping.{any-err}
use Rattle.sw_steps.proofs.run.make.Goals as goal

pub returns-in_ok-change_at-in-Change-clause-made : goal.returns-in_ok-change_at-in-Change-clause-made
returns-in_ok-change_at-in-Change-clause-made g c =
    let v = g.V.Volume in let k = g.K.Keeper in let see = sight_of v.tells v.holds v.faults (keeper_seen k.tells k.holds k.faults) in
    subst (λ (x : Step). IsStepMade x [] (see c.args.door.now.door) (see c.change_at.new.world)) (sym c.in-Change.is) c.in_ok-change_at-in-Change.ensures.made

pub returns-in_err-change_at-in-Change-clause-tried : goal.returns-in_err-change_at-in-Change-clause-tried
returns-in_err-change_at-in-Change-clause-tried g c =
    let v = g.V.Volume in let k = g.K.Keeper in let see = sight_of v.tells v.holds v.faults (keeper_seen k.tells k.holds k.faults) in
    any-err c.from_residual.result
    (subst (λ (x : Step). IsStepTried x (see c.args.door.now.door) (see c.change_at.new.world)) (sym c.in-Change.is) c.in_err-change_at-in-Change.ensures.tried)

pub returns-in_ok-read_at-in-Read-clause-made : goal.returns-in_ok-read_at-in-Read-clause-made
returns-in_ok-read_at-in-Read-clause-made g c =
    let v = g.V.Volume in let k = g.K.Keeper in let see = sight_of v.tells v.holds v.faults (keeper_seen k.tells k.holds k.faults) in
    subst (λ (x : Step). IsStepMade x [] (see c.args.door.now.door) (see c.read_at.new.world)) (sym c.in-Read.is) c.in_ok-read_at-in-Read.ensures.made

pub returns-in_err-read_at-in-Read-clause-tried : goal.returns-in_err-read_at-in-Read-clause-tried
returns-in_err-read_at-in-Read-clause-tried g c =
    let v = g.V.Volume in let k = g.K.Keeper in let see = sight_of v.tells v.holds v.faults (keeper_seen k.tells k.holds k.faults) in
    any-err c.from_residual-in_err-read_at-in-Read.result
    (subst (λ (x : Step). IsStepTried x (see c.args.door.now.door) (see c.read_at.new.world)) (sym c.in-Read.is) c.in_err-read_at-in-Read.ensures.tried)

pub returns-in_ok-list_at-in-List-clause-made : goal.returns-in_ok-list_at-in-List-clause-made
returns-in_ok-list_at-in-List-clause-made g c =
    let v = g.V.Volume in let k = g.K.Keeper in let see = sight_of v.tells v.holds v.faults (keeper_seen k.tells k.holds k.faults) in
    subst (λ (x : Step). IsStepMade x [] (see c.args.door.now.door) (see c.list_at.new.world)) (sym c.in-List.is) c.in_ok-list_at-in-List.ensures.made

pub returns-in_err-list_at-in-List-clause-tried : goal.returns-in_err-list_at-in-List-clause-tried
returns-in_err-list_at-in-List-clause-tried g c =
    let v = g.V.Volume in let k = g.K.Keeper in let see = sight_of v.tells v.holds v.faults (keeper_seen k.tells k.holds k.faults) in
    any-err c.from_residual-in_err-list_at-in-List.result
    (subst (λ (x : Step). IsStepTried x (see c.args.door.now.door) (see c.list_at.new.world)) (sym c.in-List.is) c.in_err-list_at-in-List.ensures.tried)

pub returns-in_ok-restart_at-in-Restart-clause-made : goal.returns-in_ok-restart_at-in-Restart-clause-made
returns-in_ok-restart_at-in-Restart-clause-made g c =
    let v = g.V.Volume in let k = g.K.Keeper in let see = sight_of v.tells v.holds v.faults (keeper_seen k.tells k.holds k.faults) in
    subst (λ (x : Step). IsStepMade x [] (see c.args.door.now.door) (see c.restart_at.new.world)) (sym c.in-Restart.is)
    c.in_ok-restart_at-in-Restart.ensures.made

pub returns-in_err-restart_at-in-Restart-clause-tried : goal.returns-in_err-restart_at-in-Restart-clause-tried
returns-in_err-restart_at-in-Restart-clause-tried g c =
    let v = g.V.Volume in let k = g.K.Keeper in let see = sight_of v.tells v.holds v.faults (keeper_seen k.tells k.holds k.faults) in
    any-err c.from_residual-in_err-restart_at-in-Restart.result
    (subst (λ (x : Step). IsStepTried x (see c.args.door.now.door) (see c.restart_at.new.world)) (sym c.in-Restart.is)
    c.in_err-restart_at-in-Restart.ensures.tried)

pub returns-in_ok-push_at-in-Push-clause-made : goal.returns-in_ok-push_at-in-Push-clause-made
returns-in_ok-push_at-in-Push-clause-made g c =
    let v = g.V.Volume in let k = g.K.Keeper in let see = sight_of v.tells v.holds v.faults (keeper_seen k.tells k.holds k.faults) in
    subst (λ (x : Step). IsStepMade x (c.in_ok-push_at-in-Push.field-0 ∷ []) (see c.args.door.now.door) (see c.push_at.new.door.door)) (sym c.in-Push.is)
    c.in_ok-push_at-in-Push.ensures.made

pub returns-in_err-push_at-in-Push-clause-tried : goal.returns-in_err-push_at-in-Push-clause-tried
returns-in_err-push_at-in-Push-clause-tried g c =
    let v = g.V.Volume in let k = g.K.Keeper in let see = sight_of v.tells v.holds v.faults (keeper_seen k.tells k.holds k.faults) in
    any-err c.from_residual-in_err-push_at-in-Push.result
    (subst (λ (x : Step). IsStepTried x (see c.args.door.now.door) (see c.push_at.new.door.door)) (sym c.in-Push.is) c.in_err-push_at-in-Push.ensures.tried)
