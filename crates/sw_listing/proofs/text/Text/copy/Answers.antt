use Rattle.sw_listing.proofs.text.Text.copy.Goals as goal

pub invariant_of-result : goal.invariant_of-result
invariant_of-result c = rw (c.in_ok-copy.ensures, c.as_slice.ensures) c.self.invariant
