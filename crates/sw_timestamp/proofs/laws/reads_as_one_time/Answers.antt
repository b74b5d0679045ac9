use Rattle.sw_timestamp.proofs.TextLaws.{reads_as_one_time}
use Rattle.sw_timestamp.proofs.laws.reads_as_one_time.Goals as goal

pub returns : goal.returns
returns c = reads_as_one_time
