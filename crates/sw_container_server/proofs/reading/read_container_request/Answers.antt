use Rattle.std.proofs.lemmas.Result.{IfOk-weaker}
use Rattle.sw_container_server.proofs.AtKeepers.{asked-placed}
use Rattle.sw_container_server.proofs.reading.read_container_request.Goals as goal

-- what is asked for comes to a keeper
pub returns-in_ok-target-in-Some-clause-placed : goal.returns-in_ok-target-in-Some-clause-placed
returns-in_ok-target-in-Some-clause-placed c = IfOk-weaker c.read_target.result _ _
    (λ asked is. asked-placed c.args.ring.now c.in_ok-target-in-Some.target c.args.request.now c.in-Some.verb asked is) c.read_target.ensures
