use Rattle.sw_metafile.proofs.Decoding.{outcome_decoded}
use Rattle.sw_metafile.proofs.laws.decoded_is_outcome.Goals as goal

pub returns : goal.returns
returns c = outcome_decoded
