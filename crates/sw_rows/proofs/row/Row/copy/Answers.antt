use Rattle.sw_rows.proofs.row.Row.copy.Goals as goal

-- the copied texts are those that they were
pub invariant_of-result : goal.invariant_of-result
invariant_of-result c =
    record {
      is_text = rw (c.in_ok-copy.ensures, c.as_slice.ensures) c.args.self.now.is_text;
      is_type_text = rw (c.in_ok-copy-2.ensures, c.as_slice-2.ensures) c.args.self.now.is_type_text;
    }
