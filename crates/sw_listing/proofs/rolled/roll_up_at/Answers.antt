use Rattle.sw_listing.proofs.Rolling.{rolled-IsUtf8}
use Rattle.sw_listing.proofs.rolled.roll_up_at.Goals as goal

pub invariant_of-result : goal.invariant_of-result
invariant_of-result c =
    let within = c.in-Some.ensures.within in
    record { is_text = rolled-IsUtf8 c.args.name.now c.in-Some.size c.args.delimiter c.requires.utf8 c.requires.ascii within.0 within.1 within.2 }
