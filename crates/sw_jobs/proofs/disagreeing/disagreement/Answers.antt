use Rattle.sw_jobs.proofs.Pairs.{found-disagreement}
use Rattle.sw_jobs.proofs.disagreeing.disagreement.Goals as goal

pub returns-clause-found : goal.returns-clause-found
returns-clause-found c =
    found-disagreement c.args.jobs.now c.in_ok-firsts.firsts c.first_pair.result c.in_ok-firsts.ensures.firsts c.first_pair.ensures
