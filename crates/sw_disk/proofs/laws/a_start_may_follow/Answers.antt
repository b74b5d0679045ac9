use Rattle.sw_disk.proofs.Crashes.{blank-ordered, leaves-in_order, leaves-ordered}
use Rattle.sw_disk.proofs.laws.a_start_may_follow.Goals as goal

pub returns-clause-crashes : goal.returns-clause-crashes
returns-clause-crashes c = λ s t leaves. (leaves-ordered s t leaves, leaves-in_order s t leaves)

pub returns-clause-blank : goal.returns-clause-blank
returns-clause-blank c = blank-ordered
