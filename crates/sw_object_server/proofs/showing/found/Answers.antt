use Rattle.std.proofs.lemmas.Result.{IfOk-weaker}
use Rattle.sw_object_server.proofs.showing.found.Goals as goal

-- the reply shows the date that was made
pub returns : goal.returns
returns c = IfOk-weaker c.found_on.result _ _ (λ response is. (c.date_text.result, c.date_text.ensures, is)) c.found_on.ensures
