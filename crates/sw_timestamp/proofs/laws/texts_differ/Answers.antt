use Rattle.sw_timestamp.proofs.TextLaws.{texts_differ}
use Rattle.sw_timestamp.proofs.laws.texts_differ.Goals as goal

pub returns : goal.returns
returns c = texts_differ
