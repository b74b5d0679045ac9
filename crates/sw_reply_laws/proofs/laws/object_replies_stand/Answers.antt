use Rattle.sw_reply_laws.proofs.Lines.{lines-of-writes-stand}
use Rattle.sw_reply_laws.proofs.Making.{writes-stand}
use Rattle.sw_reply_laws.proofs.Running.{writes-stand-on}
use Rattle.sw_reply_laws.proofs.laws.object_replies_stand.Goals as goal

pub returns-clause-then : goal.returns-clause-then
returns-clause-then c = writes-stand

pub returns-clause-on : goal.returns-clause-on
returns-clause-on c = writes-stand-on

pub returns-clause-lines : goal.returns-clause-lines
returns-clause-lines c = lines-of-writes-stand
