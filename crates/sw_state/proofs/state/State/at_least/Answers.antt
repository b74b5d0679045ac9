use Rattle.std.proofs.Common.{false}
use Rattle.sw_state.proofs.StateTests.{at_least_test}
use Rattle.sw_state.proofs.state.State.at_least.Goals as goal

pub returns-then-not-wants_base_of : goal.returns-then-not-wants_base_of
returns-then-not-wants_base_of c =
    at_least_test c.args.self.now c.args.other.now false c.wants_meta_of.result c.if-not-wants_base_of.ensures c.wants_meta_of.ensures
