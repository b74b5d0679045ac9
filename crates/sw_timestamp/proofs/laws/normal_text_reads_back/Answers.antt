use Rattle.sw_timestamp.proofs.TextLaws.{normal_text_reads_back}
use Rattle.sw_timestamp.proofs.laws.normal_text_reads_back.Goals as goal

pub returns : goal.returns
returns c = normal_text_reads_back
