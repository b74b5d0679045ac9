use Rattle.sw_http.proofs.TrailerLemmas.{never_too_long}
use Rattle.sw_http.proofs.trailer.find_trailer.Goals as goal

pub returns-else-len-le-MAX_HEAD-clause-look : goal.returns-else-len-le-MAX_HEAD-clause-look
returns-else-len-le-MAX_HEAD-clause-look c =
    let found = rw c.in-Ok-Complete.field-0-is at c.in-Ok-Complete.ensures.complete in
    never_too_long _ _ _ _ found.0 found.1 found.2 c.if-len-le-MAX_HEAD.false
