use Rattle.std.proofs.Common.{sym, ◌∙◌, true≢false}
use Rattle.std.proofs.lemmas.Result.{IfOk-weaker}
use Rattle.sw_object_server.proofs.Decided.{by_target, for_others, of_no_verb}
use Rattle.sw_object_server.proofs.reading.read_request.Goals as goal

pub returns-then-not-is_for_objects-clause-asked : goal.returns-then-not-is_for_objects-clause-asked
returns-then-not-is_for_objects-clause-asked c =
    for_others c.args.ring.now c.args.request (λ is. true≢false (sym (c.is_for_objects.ensures ∙ is) ∙ c.if-not-is_for_objects.true))

pub returns-in-Some-clause-asked : goal.returns-in-Some-clause-asked
returns-in-Some-clause-asked c = IfOk-weaker c.read_target.result _ _
    (λ asked name. by_target c.args.ring.now c.args.request c.in-Some.verb asked
    (sym c.is_for_objects.ensures ∙ c.if-not-is_for_objects.false) (sym c.verb_of.ensures ∙ c.in-Some.is) name)
    c.read_target.ensures.asked

pub returns-in-None-clause-asked : goal.returns-in-None-clause-asked
returns-in-None-clause-asked c =
    of_no_verb c.args.ring.now c.args.request (sym c.is_for_objects.ensures ∙ c.if-not-is_for_objects.false) (sym c.verb_of.ensures ∙ c.in-None.is)
