use Rattle.sw_listing.proofs.text.Text.as_slice.Goals as goal

pub returns-clause-rule : goal.returns-clause-rule
returns-clause-rule c = rw (← c.self.view_is) c.self.invariant
