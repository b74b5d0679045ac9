use Rattle.sw_account_laws.proofs.Ending.{accounts-are-sound}
use Rattle.sw_account_laws.proofs.laws.accounts_are_sound.Goals as goal

pub returns : goal.returns
returns c = accounts-are-sound
