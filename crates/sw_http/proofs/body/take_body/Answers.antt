use Rattle.sw_http.proofs.BodyLemmas.{no_body_taken}
use Rattle.sw_http.proofs.ReadsLemmas.{reads_none}
use Rattle.sw_http.proofs.body.take_body.Goals as goal

pub returns-in_ok-unread_body-in-Unframed-clause-taken : goal.returns-in_ok-unread_body-in-Unframed-clause-taken
returns-in_ok-unread_body-in-Unframed-clause-taken g c = rw c.in-Unframed.is (no_body_taken _ _ _ c.in_ok-unread_body-in-Unframed.ensures.unread)

pub returns-in_err-unread_body-in-Unframed-clause-reads : goal.returns-in_err-unread_body-in-Unframed-clause-reads
returns-in_err-unread_body-in-Unframed-clause-reads g c = reads_none _ _ _

pub returns-in_ok-unread_body-in-Unframed-clause-reads : goal.returns-in_ok-unread_body-in-Unframed-clause-reads
returns-in_ok-unread_body-in-Unframed-clause-reads g c = reads_none _ _ _
