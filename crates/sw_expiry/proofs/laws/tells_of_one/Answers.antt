use Rattle.sw_expiry.proofs.Telling.{tells-of-one}
use Rattle.sw_expiry.proofs.laws.tells_of_one.Goals as goal

pub returns : goal.returns
returns c = tells-of-one
