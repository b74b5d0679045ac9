use Rattle.std.proofs.Common.{ap, ◌∙◌}
use Rattle.sw_stores.specs.Shelf.{is_out}
use Rattle.sw_cases.proofs.run.stores.Goals as goal

pub returns : goal.returns
returns c d s = ap (λ parts. is_out parts d s) c.new.ensures.parts ∙ c.in_ok-parts.ensures d s
