use Rattle.sw_http.proofs.ReadingLemmas.{one_request}
use Rattle.sw_http.proofs.laws.one_request.Goals as goal

pub returns : goal.returns
returns c = one_request
