use Rattle.sw_listing_json.proofs.values.write_subdir.Goals as goal

pub text_of-requires : goal.text_of-requires
text_of-requires c = rw c.as_slice.ensures.same c.as_slice.ensures.rule
