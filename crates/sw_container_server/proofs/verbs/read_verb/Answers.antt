use Rattle.std.proofs.Common.{sym, subst}
use Rattle.sw_container_server.specs.Verdicts.{IsVerdict}
use Rattle.sw_container_server.specs.declared.verb.Verb.{Verb}
use Rattle.sw_container_server.proofs.verbs.read_verb.Goals as goal

pub returns-in-Head : goal.returns-in-Head
returns-in-Head c =
    subst (λ (verb : Verb). IsVerdict c.args.ring.now c.args.object c.args.request.now verb c.read_info.result) (sym c.in-Head.is) c.read_info.ensures
