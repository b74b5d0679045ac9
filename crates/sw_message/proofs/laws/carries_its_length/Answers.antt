use Rattle.sw_message.proofs.ReplyLemmas.{carries_its_length}
use Rattle.sw_message.proofs.laws.carries_its_length.Goals as goal

pub returns : goal.returns
returns c = carries_its_length
