use Rattle.sqlite.specs.Values.{bound}
use Rattle.sw_container_store.proofs.Running.{runs-one}
use Rattle.sw_container_store.proofs.writing.run_one.Goals as goal

pub returns-clause-runs : goal.returns-clause-runs
returns-clause-runs g c =
    runs-one g.D.Database.runs (record { command = c.args.command; values = bound c.args.values.now }) c.args.database.now c.run.new.self
    c.in_ok-run.ensures.runs
