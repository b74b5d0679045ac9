use Rattle.sw_state.proofs.StateTests.{joined_del, joined_put}
use Rattle.sw_state.proofs.state.State.join.Goals as goal

pub returns-in-Put-clause-state : goal.returns-in-Put-clause-state
returns-in-Put-clause-state c =
    joined_put c.args.self.now c.rebase.new.self c.args.write c.tag.result c.in-Put.content _ c.in-Put.content-is c.in-Put.is c.tag.ensures
    c.if-not-adds.ensures.told c.rebase.ensures

pub returns-in-Del-clause-state : goal.returns-in-Del-clause-state
returns-in-Del-clause-state c =
    joined_del c.args.self.now c.rebase-in-Del.new.self c.args.write c.tag.result c.in-Del.is c.tag.ensures c.if-not-adds.ensures.told c.rebase-in-Del.ensures
