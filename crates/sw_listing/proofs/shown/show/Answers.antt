use Rattle.sw_listing.proofs.shown.show.Goals as goal

pub roll_up-requires-clause-utf8 : goal.roll_up-requires-clause-utf8
roll_up-requires-clause-utf8 c = rw c.as_slice-2.ensures c.args.row.now.is_text
