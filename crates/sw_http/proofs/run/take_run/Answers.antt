use Rattle.sw_http.specs.Input.{IsAllRun, IsLongRun, HasNoRun, test_of}
use Rattle.sw_http.proofs.InputLemmas.{if_some_map, no_run_all, no_run_long}
use Rattle.sw_http.proofs.run.take_run.Goals as goal

pub returns-in-Ended-clause-none : goal.returns-in-Ended-clause-none
returns-in-Ended-clause-none g c _ =
    let run = rw c.in-Ended.is at c.in_ok-count.ensures.run in
    if_some_map _ (IsAllRun (test_of c.args.class) c.args.limit) (HasNoRun (test_of c.args.class) c.args.limit) (no_run_all _ _) run.0

pub returns-in-TooMany-clause-none : goal.returns-in-TooMany-clause-none
returns-in-TooMany-clause-none g c _ =
    let run = rw c.in-TooMany.is at c.in_ok-count.ensures.run in
    if_some_map _ (IsLongRun (test_of c.args.class) c.args.limit) (HasNoRun (test_of c.args.class) c.args.limit) (no_run_long _ _) run

pub returns-in_err-count-clause-reads : goal.returns-in_err-count-clause-reads
returns-in_err-count-clause-reads g c = c.skip_run.ensures.reads

pub returns-in-Begun-clause-reads : goal.returns-in-Begun-clause-reads
returns-in-Begun-clause-reads g c = c.skip_run.ensures.reads

pub returns-in-Ended-clause-reads : goal.returns-in-Ended-clause-reads
returns-in-Ended-clause-reads g c = c.skip_run.ensures.reads

pub returns-in-TooMany-clause-reads : goal.returns-in-TooMany-clause-reads
returns-in-TooMany-clause-reads g c = c.skip_run.ensures.reads
