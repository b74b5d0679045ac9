use Rattle.std.proofs.Common.{ℕ, List, ◌<◌, length, Ok, ap, arith, Some}
use Rattle.sw_http.specs.ChunkSteps.{HasNoBody}
use Rattle.sw_message.specs.declared.framing.Framing.TheVariants.{Length}
use Rattle.sw_http.proofs.BodyLemmas.{plain_taken, no_plain, plain_cut}
use Rattle.sw_http.proofs.InputLemmas.{if_some_map}
use Rattle.std.proofs.lemmas.Result.{err_from_is_err_and}
use Rattle.sw_http.proofs.ReadsLemmas.{reads_map, reads_none}
use Rattle.sw_http.proofs.body.take_plain.Goals as goal

pub returns-then-branch-clause-taken : goal.returns-then-branch-clause-taken
returns-then-branch-clause-taken g c =
    plain_taken _ _ _ _ _ _ c.in_ok-body.ensures.unread (c.in_ok-take_content.ensures.taken (ap Ok c.if-branch.true)) (omega arith)

pub returns-else-branch-clause-none : goal.returns-else-branch-clause-none
returns-else-branch-clause-none g c _ =
    if_some_map _ (λ (bytes : List ℕ). length bytes < c.args.len) (HasNoBody (Some (Length c.args.len)) c.args.room) (no_plain c.args.len c.args.room)
    (c.in_ok-take_content.ensures.none (ap Ok c.if-branch.false))

pub returns-in_err-take_content-clause-cut : goal.returns-in_err-take_content-clause-cut
returns-in_err-take_content-clause-cut g c e =
    let exit = err_from_is_err_and c.from_residual-in_err-take_content.result c.from_residual-in_err-take_content.ensures.1 in let given = exit.1 in let same =
    exit.2 in
    plain_cut _ _ _ _ (omega arith) (c.in_err-take_content.ensures.cut (cc))

pub returns-then-len-room-clause-reads : goal.returns-then-len-room-clause-reads
returns-then-len-room-clause-reads g c = reads_none _ _ _

pub returns-in_err-body-clause-reads : goal.returns-in_err-body-clause-reads
returns-in_err-body-clause-reads g c = reads_none _ _ _

pub returns-in_err-take_content-clause-reads : goal.returns-in_err-take_content-clause-reads
returns-in_err-take_content-clause-reads g c = reads_map _ _ _ _ c.take_content.ensures.reads (λ now. plain_cut _ now _ _ (omega arith))

pub returns-then-branch-clause-reads : goal.returns-then-branch-clause-reads
returns-then-branch-clause-reads g c = reads_map _ _ _ _ c.take_content.ensures.reads (λ now. plain_cut _ now _ _ (omega arith))

pub returns-else-branch-clause-reads : goal.returns-else-branch-clause-reads
returns-else-branch-clause-reads g c = reads_map _ _ _ _ c.take_content.ensures.reads (λ now. plain_cut _ now _ _ (omega arith))
