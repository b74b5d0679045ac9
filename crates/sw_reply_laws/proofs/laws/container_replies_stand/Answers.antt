use Rattle.sw_reply_laws.proofs.Lines.{lines-of-changes-stand}
use Rattle.sw_reply_laws.proofs.Changing.{changes-stand}
use Rattle.sw_reply_laws.proofs.Running.{changes-stand-on}
use Rattle.sw_reply_laws.proofs.laws.container_replies_stand.Goals as goal

pub returns-clause-then : goal.returns-clause-then
returns-clause-then c = changes-stand

pub returns-clause-on : goal.returns-clause-on
returns-clause-on c = changes-stand-on

pub returns-clause-lines : goal.returns-clause-lines
returns-clause-lines c = lines-of-changes-stand
