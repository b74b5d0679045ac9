use Rattle.std.proofs.Common.{◌∙◌, refl, sym}
use Rattle.sw_fields.proofs.Seconds.{reads}
use Rattle.sw_fields.proofs.expiry.second_of.Goals as goal

-- a second is a time, so it isn't refused as one
pub returns-in-Err-clause-value : goal.returns-in-Err-clause-value
returns-in-Err-clause-value c =
    absurd (c.in-Err.ensures.refuses refl _ (reads c.args.text.now (sym c.is_second.ensures ∙ c.if-not-is_second.false)))
