use Rattle.sw_machine.proofs.Going.{going-joins, runs-join}
use Rattle.sw_machine.proofs.laws.going_on_joins.Goals as goal

pub returns-clause-one : goal.returns-clause-one
returns-clause-one c = going-joins

pub returns-clause-every : goal.returns-clause-every
returns-clause-every c = runs-join
