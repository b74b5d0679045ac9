use Rattle.std.proofs.lemmas.Result.{err_from_is_err_and}
use Rattle.std.proofs.Common.{◌≡◌, ◌∙◌, Err, ap, sym}
use Rattle.sw_session.proofs.Turns.{answered_puts, answered_step, broken_puts, broken_step, halted_puts, halted_step, kept_moment, one_more_tick}
use Rattle.sw_session.proofs.Turns.{reading_puts, reading_step, takes_and_tells, turned}
use Rattle.sw_session.proofs.session.turn.Goals as goal
use Rattle.sw_session.proofs.session.turn.Goals.{then-last, else-last}

-- no request was read
pub returns-in_err-request-clause-turn : goal.returns-in_err-request-clause-turn
returns-in_err-request-clause-turn g c =
    let exit = err_from_is_err_and c.from_residual.result c.from_residual.ensures.1 in
    rw (exit.1, exit.2) (
    reading_step g.V.Server.last g.V.Server.serves g.V.Server.halts c.args.server.now _ _ _ _ _ _ c.in_err-request.field-0.0 c.reserve.ensures.items
    c.in_err-request.ensures.received
    )

pub returns-in_err-request-clause-puts : goal.returns-in_err-request-clause-puts
returns-in_err-request-clause-puts g c =
    let exit = err_from_is_err_and c.from_residual.result c.from_residual.ensures.1 in
    rw (exit.1, exit.2) (
    reading_puts g.V.Server.last g.V.Server.serves g.V.Server.halts c.args.server.now _ _ _ _ _ _ _ _ _ c.in_err-request.field-0.0 c.in_err-request.ensures.puts
    )

-- the server halted
pub returns-in_err-response-clause-turn : goal.returns-in_err-response-clause-turn
returns-in_err-response-clause-turn g c =
    let exit = err_from_is_err_and c.from_residual-in_err-response.result c.from_residual-in_err-response.ensures.1 in
    rw (exit.1, exit.2) (
    halted_step g.V.Server.last g.V.Server.serves g.V.Server.halts c.args.server.now c.answer.new.self _ _ _ _ _ _ _ c.now-now.result
    c.in_err-response.field-0.0
    (rw c.in-Some.is at c.in_ok-request.ensures.received) c.in_err-response.ensures.halted
    (kept_moment _ _ _ c.now-now.result c.reserve.ensures.items c.push_reserved.ensures.items)
    )

pub returns-in_err-response-clause-ticks : goal.returns-in_err-response-clause-ticks
returns-in_err-response-clause-ticks g c = λ start each.
    rw (c.push_reserved.ensures.items, c.reserve.ensures.items) (one_more_tick start _ _ _ c.now-now.result each c.now-now.ensures)

pub returns-in_err-response-clause-puts : goal.returns-in_err-response-clause-puts
returns-in_err-response-clause-puts g c =
    let exit = err_from_is_err_and c.from_residual-in_err-response.result c.from_residual-in_err-response.ensures.1 in
    rw (exit.1, exit.2) (
    halted_puts g.V.Server.last g.V.Server.serves g.V.Server.halts c.args.server.now c.answer.new.self _ _ _ _ _ _ _ c.now-now.result _ _
    c.in_err-response.field-0.0 (rw c.in-Some.is at c.in_ok-request.ensures.received) c.in_err-response.ensures.halted
    (kept_moment _ _ _ c.now-now.result c.reserve.ensures.items c.push_reserved.ensures.items)
    (rw c.in-Some.is at c.in_ok-request.ensures.puts)
    )

-- the request was answered, and its reply not written whole
pub returns-in_err-write_response-clause-turn : goal.returns-in_err-write_response-clause-turn
returns-in_err-write_response-clause-turn g c =
    let exit = err_from_is_err_and c.from_residual-in_err-write_response.result c.from_residual-in_err-write_response.ensures.1 in
    rw (exit.1, exit.2) (
    broken_step g.V.Server.last g.V.Server.serves g.V.Server.halts c.args.server.now c.answer.new.self _ _ _ _ _ _ _ _ c.now-now.result
    c.in_ok-response.response c.in_err-write_response.field-0.0 (rw c.in-Some.is at c.in_ok-request.ensures.received)
    c.in_ok-response.ensures.served
    (kept_moment _ _ _ c.now-now.result c.reserve.ensures.items c.push_reserved.ensures.items)
    c.in_err-write_response.ensures.part
    )

pub returns-in_err-write_response-clause-ticks : goal.returns-in_err-write_response-clause-ticks
returns-in_err-write_response-clause-ticks g c = λ start each.
    rw (c.push_reserved.ensures.items, c.reserve.ensures.items) (one_more_tick start _ _ _ c.now-now.result each c.now-now.ensures)

pub returns-in_err-write_response-clause-puts : goal.returns-in_err-write_response-clause-puts
returns-in_err-write_response-clause-puts g c =
    let exit = err_from_is_err_and c.from_residual-in_err-write_response.result c.from_residual-in_err-write_response.ensures.1 in
    rw (exit.1, exit.2) (
    broken_puts g.V.Server.last g.V.Server.serves g.V.Server.halts c.args.server.now c.answer.new.self _ _ _ _ _ _ _ _ _ c.in_err-write_response.field-0.0
    (takes_and_tells _ _ _ _ _ _ _ (rw c.in-Some.is at c.in_ok-request.ensures.received) (rw c.in-Some.is at c.in_ok-request.ensures.puts))
    (λ not_memory. c.in_err-write_response.ensures.put_once (λ is. not_memory (cc)))
    (λ is. c.in_err-write_response.ensures.no_put (ap Err is))
    )

-- or written whole
pub returns-clause-turn : goal.returns-clause-turn
returns-clause-turn g c =
    let turned_is : c.if-last.result ≡ turned c.is_last-last.result = elim c.if-last.branch [
      | then-last w ↦ w.result-is ∙ ap turned (sym w.if-last.true)
      | else-last w ↦ w.result-is ∙ ap turned (sym w.if-last.false)
    ] in
    rw turned_is (
    answered_step g.V.Server.last g.V.Server.serves g.V.Server.halts c.args.server.now c.answer.new.self _ _ _ _ _ _ _ _ c.now-now.result
    c.in_ok-response.response c.is_last-last.result (rw c.in-Some.is at c.in_ok-request.ensures.received) c.in_ok-response.ensures.served
    (kept_moment _ _ _ c.now-now.result c.reserve.ensures.items c.push_reserved.ensures.items)
    c.in_ok-write_response.ensures.whole c.is_last-last.ensures
    )

pub returns-clause-ticks : goal.returns-clause-ticks
returns-clause-ticks g c = λ start each.
    rw (c.push_reserved.ensures.items, c.reserve.ensures.items) (one_more_tick start _ _ _ c.now-now.result each c.now-now.ensures)

pub returns-clause-puts : goal.returns-clause-puts
returns-clause-puts g c =
    let turned_is : c.if-last.result ≡ turned c.is_last-last.result = elim c.if-last.branch [
      | then-last w ↦ w.result-is ∙ ap turned (sym w.if-last.true)
      | else-last w ↦ w.result-is ∙ ap turned (sym w.if-last.false)
    ] in
    rw turned_is (
    answered_puts g.V.Server.last g.V.Server.serves g.V.Server.halts c.args.server.now c.answer.new.self _ _ _ _ _ _ _ _ c.now-now.result
    c.in_ok-response.response c.is_last-last.result _ _ _ (rw c.in-Some.is at c.in_ok-request.ensures.received) c.in_ok-response.ensures.served
    (kept_moment _ _ _ c.now-now.result c.reserve.ensures.items c.push_reserved.ensures.items)
    c.in_ok-write_response.ensures.whole c.is_last-last.ensures (rw c.in-Some.is at c.in_ok-request.ensures.puts)
    (c.in_ok-write_response.ensures.put_once (λ is. cc))
    )
