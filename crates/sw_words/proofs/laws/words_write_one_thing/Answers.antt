use Rattle.sw_words.proofs.Serving.{one_reading}
use Rattle.sw_words.proofs.laws.words_write_one_thing.Goals as goal

pub returns : goal.returns
returns c = one_reading
