use Rattle.std.proofs.Common.{Ok, ap, Some}
use Rattle.sw_http.specs.ChunkSteps.{HasNoBody, HasNoChunked}
use Rattle.sw_message.specs.declared.framing.Framing.TheVariants.{Chunked}
use Rattle.sw_http.proofs.BodyLemmas.{chunks_taken, no_chunks, chunks_body_cut}
use Rattle.sw_http.proofs.InputLemmas.{if_some_map}
use Rattle.std.proofs.lemmas.Result.{err_from_is_err_and}
use Rattle.sw_http.proofs.ReadsLemmas.{reads_map, reads_none}
use Rattle.sw_http.proofs.body.take_chunks.Goals as goal

pub returns-then-branch-clause-taken : goal.returns-then-branch-clause-taken
returns-then-branch-clause-taken g c =
    chunks_taken _ _ _ _ _ c.in_ok-body.ensures.unread (c.in_ok-take_chunked.ensures.taken (ap Ok c.if-branch.true))

pub returns-else-branch-clause-none : goal.returns-else-branch-clause-none
returns-else-branch-clause-none g c _ =
    if_some_map _ (HasNoChunked c.args.room) (HasNoBody (Some Chunked) c.args.room) (no_chunks c.args.room)
    (c.in_ok-take_chunked.ensures.none (ap Ok c.if-branch.false))

pub returns-in_err-take_chunked-clause-cut : goal.returns-in_err-take_chunked-clause-cut
returns-in_err-take_chunked-clause-cut g c e =
    let exit = err_from_is_err_and c.from_residual-in_err-take_chunked.result c.from_residual-in_err-take_chunked.ensures.1 in let given = exit.1 in let same =
    exit.2 in
    chunks_body_cut _ _ _ (c.in_err-take_chunked.ensures.cut (cc))

pub returns-in_err-body-clause-reads : goal.returns-in_err-body-clause-reads
returns-in_err-body-clause-reads g c = reads_none _ _ _

pub returns-in_err-take_chunked-clause-reads : goal.returns-in_err-take_chunked-clause-reads
returns-in_err-take_chunked-clause-reads g c = reads_map _ _ _ _ c.take_chunked.ensures.reads (λ now. chunks_body_cut _ now _)

pub returns-then-branch-clause-reads : goal.returns-then-branch-clause-reads
returns-then-branch-clause-reads g c = reads_map _ _ _ _ c.take_chunked.ensures.reads (λ now. chunks_body_cut _ now _)

pub returns-else-branch-clause-reads : goal.returns-else-branch-clause-reads
returns-else-branch-clause-reads g c = reads_map _ _ _ _ c.take_chunked.ensures.reads (λ now. chunks_body_cut _ now _)
