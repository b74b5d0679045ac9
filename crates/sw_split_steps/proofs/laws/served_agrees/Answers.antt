use Rattle.sw_split_steps.proofs.Ways.{served-agrees}
use Rattle.sw_split_steps.proofs.laws.served_agrees.Goals as goal

pub returns : goal.returns
returns c = served-agrees
