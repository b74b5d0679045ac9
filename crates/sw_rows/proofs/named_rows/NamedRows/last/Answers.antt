use Rattle.sw_rows.proofs.Ranging.{last-invariant}
use Rattle.sw_rows.proofs.named_rows.NamedRows.last.Goals as goal

pub invariant_of-self : goal.invariant_of-self
invariant_of-self c = last-invariant c.self.inside.names c.next_back.new.self c.next_back.result c.next_back.ensures.steps c.self.invariant
