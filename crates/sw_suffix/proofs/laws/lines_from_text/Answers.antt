use Rattle.sw_suffix.proofs.Lines.{lines_from_text}
use Rattle.sw_suffix.proofs.laws.lines_from_text.Goals as goal

pub returns : goal.returns
returns c = lines_from_text
