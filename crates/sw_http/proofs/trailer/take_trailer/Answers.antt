use Rattle.sw_http.proofs.TrailerLemmas.{trailer_over}
use Rattle.sw_http.proofs.trailer.take_trailer.Goals as goal

pub returns-in-Some-2-clause-none : goal.returns-in-Some-2-clause-none
returns-in-Some-2-clause-none g c _ =
    trailer_over _ _ _ _ _ c.in_ok-len.ensures.kept (rw c.in-Some.is at c.in_ok-len.ensures.found) c.if-len-room.false

pub returns-in_err-len-clause-reads : goal.returns-in_err-len-clause-reads
returns-in_err-len-clause-reads g c = c.read_trailer.ensures.reads

pub returns-in-Some-clause-reads : goal.returns-in-Some-clause-reads
returns-in-Some-clause-reads g c = c.read_trailer.ensures.reads

pub returns-in-Some-2-clause-reads : goal.returns-in-Some-2-clause-reads
returns-in-Some-2-clause-reads g c = c.read_trailer.ensures.reads

pub returns-in-None-clause-reads : goal.returns-in-None-clause-reads
returns-in-None-clause-reads g c = c.read_trailer.ensures.reads
