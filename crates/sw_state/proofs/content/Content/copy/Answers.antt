use Rattle.sw_state.proofs.content.Content.copy.Goals as goal

-- the copied content type is the text that it was
pub invariant_of-result : goal.invariant_of-result
invariant_of-result c =
    record { is_text = rw (c.in_ok-copy-2.ensures, c.as_slice-2.ensures) c.args.self.now.is_text }
