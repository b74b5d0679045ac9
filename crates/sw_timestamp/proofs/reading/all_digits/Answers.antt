use Rattle.sw_timestamp.proofs.DigitsAtFront.{digits_test}
use Rattle.sw_timestamp.proofs.reading.all_digits.Goals as goal

pub returns : goal.returns
returns c = digits_test c.args.text.now c.digits_at_front.result c.digits_at_front.ensures.count
