use Rattle.std.proofs.Common.{sym, ◌∙◌, ◌≡◌, Option, Some, subst}
use Rattle.std.proofs.lemmas.Result.{err_from_is_err_and}
use Rattle.sw_http.proofs.RequestLemmas.{nothing_told, part_of_all}
use Rattle.sw_message.specs.Framing.{framing_of}
use Rattle.sw_message.specs.declared.framing.Framing.{Framing}
use Rattle.sw_http.specs.ChunkSteps.{IsBodyCut}
use Rattle.sw_http.proofs.InputLemmas.{seen_map}
use Rattle.sw_http.proofs.ReadsLemmas.{reads_map, reads_none}
use Rattle.sw_http.proofs.reader.read_body.Goals as goal

pub returns-in_default-clause-told : goal.returns-in_default-clause-told
returns-in_default-clause-told g c = nothing_told c.args.fields.now (sym c.in_default.is ∙ c.framing_of.ensures) _

pub returns-in_err-take_body-clause-told_part : goal.returns-in_err-take_body-clause-told_part
returns-in_err-take_body-clause-told_part g c =
    let exit = err_from_is_err_and c.from_residual-in_err-take_body.result c.from_residual-in_err-take_body.ensures.1 in
    rw exit.1 (part_of_all _ _ _ c.in_ok-send_continue.ensures.all)

pub returns-in_default-clause-reads : goal.returns-in_default-clause-reads
returns-in_default-clause-reads g c = reads_none _ _ _

pub returns-in_err-send_continue-clause-reads : goal.returns-in_err-send_continue-clause-reads
returns-in_err-send_continue-clause-reads g c = reads_none _ _ _

pub returns-in_err-take_body-clause-reads : goal.returns-in_err-take_body-clause-reads
returns-in_err-take_body-clause-reads g c =
    let framing : framing_of c.args.fields.now ≡ Some c.in-Some.framing = sym c.framing_of.ensures ∙ c.in-Some.is in
    reads_map _ _ (IsBodyCut (Some c.in-Some.framing) c.args.room) _ c.take_body.ensures.reads
    (λ now. seen_map _ now (IsBodyCut (Some c.in-Some.framing) c.args.room) (IsBodyCut (framing_of c.args.fields.now) c.args.room)
    (λ bytes cut. subst (λ (f : Option Framing). IsBodyCut f c.args.room bytes) (sym framing) cut))

pub returns-clause-reads : goal.returns-clause-reads
returns-clause-reads g c =
    let framing : framing_of c.args.fields.now ≡ Some c.in-Some.framing = sym c.framing_of.ensures ∙ c.in-Some.is in
    reads_map _ _ (IsBodyCut (Some c.in-Some.framing) c.args.room) _ c.take_body.ensures.reads
    (λ now. seen_map _ now (IsBodyCut (Some c.in-Some.framing) c.args.room) (IsBodyCut (framing_of c.args.fields.now) c.args.room)
    (λ bytes cut. subst (λ (f : Option Framing). IsBodyCut f c.args.room bytes) (sym framing) cut))
