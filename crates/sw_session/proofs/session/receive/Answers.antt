use Rattle.std.proofs.Common.{inl, refl}
use Rattle.std.specs.Io.KnownBytes.{prepend_known}
use Rattle.sw_session.proofs.Turns.{counted_after, refused}
use Rattle.sw_session.proofs.session.receive.Goals as goal

-- the rest was refused, or its refusal not written whole
pub returns-in-Err-Bad-clause-received : goal.returns-in-Err-Bad-clause-received
returns-in-Err-Bad-clause-received g c =
    refused _ (prepend_known c.next_request.new.held (g.R.Source.left c.next_request.new.source)) _ _ _ c.refuse.result
    ((rw c.in-Err-Bad.field-0-is at c.in-Err-Bad.ensures.bad) refl) c.refuse.ensures.refused

-- the reading of a rest that is none fails no call
pub returns-in-Err-Bad-clause-counted : goal.returns-in-Err-Bad-clause-counted
returns-in-Err-Bad-clause-counted g c =
    counted_after _ _ _ _ _ c.refuse.result (c.in-Err-Bad.ensures.sound (λ is. cc)) (c.in-Err-Bad.ensures.written_sound (λ is. cc)) (c.refuse.ensures.counted _)

-- the write that tells the client failed, and no call was made before it
pub returns-in-Err-WriteFault-clause-puts : goal.returns-in-Err-WriteFault-clause-puts
returns-in-Err-WriteFault-clause-puts g c =
    (_, inl refl, ((rw c.in-Err-WriteFault.field-0-is at c.in-Err-WriteFault.ensures.stopped) refl).called)
