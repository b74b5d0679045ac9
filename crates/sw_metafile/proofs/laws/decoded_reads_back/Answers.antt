use Rattle.sw_metafile.proofs.Decoding.{decoded_text}
use Rattle.sw_metafile.proofs.laws.decoded_reads_back.Goals as goal

pub returns : goal.returns
returns c = decoded_text
