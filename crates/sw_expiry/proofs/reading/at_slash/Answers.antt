use Rattle.std.proofs.Common.{sym}
use Rattle.sw_expiry.proofs.Nones.{none-so}
use Rattle.sw_expiry.proofs.Slashes.{cut-at, no-slash}
use Rattle.sw_expiry.proofs.reading.at_slash.Goals as goal

pub returns-in_err-at : goal.returns-in_err-at
returns-in_err-at c = none-so _ _ _ c.from_residual.ensures (no-slash c.args.text.now (sym c.in_err-at.ensures))

pub returns : goal.returns
returns c = cut-at c.args.text.now c.in_ok-at.at (sym c.in_ok-at.ensures)
