use Rattle.std.proofs.Common.{◌≡◌, ap, arith, refl, ◌∙◌, Ok, Err}
use Rattle.std.specs.Io.KnownBytes.{prepend_known}
use Rattle.std.proofs.lemmas.Result.{err_from_is_err_and}
use Rattle.sw_session.specs.Passages.{Passage, passage}
use Rattle.sw_http.proofs.ReadsLemmas.{reads_none}
use Rattle.sw_session.proofs.Ends.{begun_with, ended_by, ended_well, fault_put, filled, full_put, none_put}
use Rattle.sw_session.proofs.Ends.{turn_made, turn_put, turn_reads, waits_behind, well_put}
use Rattle.sw_session.specs.declared.session.SessionFault.TheVariants as faults
use Rattle.sw_session.specs.declared.session.Turned.TheVariants as turns
use Rattle.sw_session.proofs.session.serve.Goals as goal

pub loop-init : goal.loop-init
loop-init g c = record {
  ready = c.requires.ready;
  progress = rw c.requires.none_read (rw c.new-held.ensures (begun_with g.V.Server.last g.V.Server.serves _ _ _));
  ticks = rw c.requires.none_read refl;
  needed = reads_none _ _ _;
  reads = refl;
  writes = refl;
  read_at = refl;
  written_at = refl;
  puts = rw c.requires.none_read (rw c.new-held.ensures (none_put g.V.Server.last g.V.Server.serves _ _ _ _));
}

pub turn-requires : goal.turn-requires
turn-requires g c = record { ready = c.loop.invariant.ready }

-- a fault ended it
pub returns-in_err-turn-clause-session : goal.returns-in_err-turn-clause-session
returns-in_err-turn-clause-session g c =
    let exit = err_from_is_err_and c.from_residual.result c.from_residual.ensures.1 in
    let source : Passage = passage g.R.Source.left g.R.Source.faults c.args.source.now c.turn.new.source in
    let sink : Passage = passage g.W.Sink.taken g.W.Sink.faults c.args.out.now c.turn.new.out in
    rw (exit.1, exit.2) (
    ended_by g.V.Server.last g.V.Server.serves g.V.Server.halts _ _ _ source sink _ (prepend_known c.turn.new.held (g.R.Source.left c.turn.new.source))
    _ _ _ _ _ _ _ c.loop.invariant.progress c.loop-test.true c.in_err-turn.ensures.turn
    c.loop.invariant.reads c.loop.invariant.writes c.in_err-turn.ensures.counted
    )

pub returns-in_err-turn-clause-own_puts : goal.returns-in_err-turn-clause-own_puts
returns-in_err-turn-clause-own_puts g c =
    let exit = err_from_is_err_and c.from_residual.result c.from_residual.ensures.1 in
    rw (exit.1, exit.2) (
    fault_put g.V.Server.last g.V.Server.serves g.V.Server.halts _ _ _ _ _ _ _ _ _ _ _ _ _ _ c.loop.invariant.puts _
    c.in_err-turn.ensures.turn c.in_err-turn.ensures.puts
    )

pub returns-in_err-turn-clause-waits : goal.returns-in_err-turn-clause-waits
returns-in_err-turn-clause-waits g c e =
    let exit = err_from_is_err_and c.from_residual.result c.from_residual.ensures.1 in
    let failed : c.in_err-turn.field-0.0 ≡ faults.ReadFault = cc in
    waits_behind g.V.Server.last g.V.Server.serves g.V.Server.halts _ _ _ _ _ _ _ _ _ _ _ _ _ _ _ c.in_err-turn.field-0.0 c.loop.invariant.puts
    c.in_err-turn.ensures.turn failed (c.in_err-turn.ensures.seen (ap Err failed))

-- the input ended, or the last request was answered
pub returns-in-Closed-clause-session : goal.returns-in-Closed-clause-session
returns-in-Closed-clause-session g c =
    let source : Passage = passage g.R.Source.left g.R.Source.faults c.args.source.now c.turn.new.source in
    let sink : Passage = passage g.W.Sink.taken g.W.Sink.faults c.args.out.now c.turn.new.out in
    ended_well g.V.Server.last g.V.Server.serves g.V.Server.halts _ _ _ source sink _ (prepend_known c.turn.new.held (g.R.Source.left c.turn.new.source))
    _ _ _ _ _ _ c.in_ok-turn.field-0 c.in-Closed.is c.loop.invariant.progress c.loop-test.true c.in_ok-turn.ensures.turn
    (λ is. c.in_ok-turn.ensures.at_end (ap Ok is)) c.loop.invariant.reads c.loop.invariant.writes c.in_ok-turn.ensures.counted

pub returns-in-Closed-clause-own_puts : goal.returns-in-Closed-clause-own_puts
returns-in-Closed-clause-own_puts g c =
    well_put g.V.Server.last g.V.Server.serves g.V.Server.halts _ _ _ _ _ _ _ _ _ _ _ _ _ _ c.in_ok-turn.field-0 c.in-Closed.is c.loop.invariant.puts
    c.in_ok-turn.ensures.turn c.in_ok-turn.ensures.puts

-- one request more
pub loop-preserved : goal.loop-preserved
loop-preserved g c = record {
  ready = c.in_ok-turn.ensures.ready;
  progress = turn_made g.V.Server.last g.V.Server.serves g.V.Server.halts _ _ _ _ _ _ _ _ _ _ _ _ c.loop.invariant.progress
      (rw c.in-Answered.is at c.in_ok-turn.ensures.turn);
  ticks = c.turn.ensures.ticks _ c.loop.invariant.ticks;
  needed = turn_reads g.V.Server.last g.V.Server.serves g.V.Server.halts _ _ _ _ _ _ _ _ _ _ _ _ (Ok turns.Answered) c.loop.invariant.progress
      (rw c.in-Answered.is at c.in_ok-turn.ensures.turn) c.loop.invariant.needed c.turn.ensures.reads;
  reads = c.in_ok-turn.ensures.counted.0 ∙ c.loop.invariant.reads;
  writes = c.in_ok-turn.ensures.counted.1 ∙ c.loop.invariant.writes;
  read_at = c.turn.ensures.source_number ∙ c.loop.invariant.read_at;
  written_at = c.turn.ensures.sink_number ∙ c.loop.invariant.written_at;
  puts = turn_put g.V.Server.last g.V.Server.serves _ _ _ _ _ _ _ _ _ _ _ _ _ _ c.loop.invariant.puts
      (rw c.in-Answered.is at c.in_ok-turn.ensures.puts);
}

-- as many requests were answered as a session has at most
pub returns-clause-session : goal.returns-clause-session
returns-clause-session g c = (
  filled g.V.Server.last g.V.Server.serves _ _ _ _ _ _ _ _ c.loop.invariant.progress (omega (arith, c.loop-test.false, c.loop.auto.counter-end)),
  c.loop.invariant.reads,
  c.loop.invariant.writes,
)

-- each read was needed
pub returns-in_err-turn-clause-reads : goal.returns-in_err-turn-clause-reads
returns-in_err-turn-clause-reads g c =
    turn_reads g.V.Server.last g.V.Server.serves g.V.Server.halts _ _ _ _ _ _ _ _ _ _ _ _ (Err c.in_err-turn.field-0.0) c.loop.invariant.progress
    c.in_err-turn.ensures.turn c.loop.invariant.needed c.turn.ensures.reads

pub returns-in-Closed-clause-reads : goal.returns-in-Closed-clause-reads
returns-in-Closed-clause-reads g c =
    turn_reads g.V.Server.last g.V.Server.serves g.V.Server.halts _ _ _ _ _ _ _ _ _ _ _ _ (Ok c.in_ok-turn.field-0) c.loop.invariant.progress
    c.in_ok-turn.ensures.turn c.loop.invariant.needed c.turn.ensures.reads

pub returns-clause-own_puts : goal.returns-clause-own_puts
returns-clause-own_puts g c = full_put g.V.Server.last g.V.Server.serves g.V.Server.halts _ _ _ _ _ _ _ _ _ c.loop.invariant.puts
