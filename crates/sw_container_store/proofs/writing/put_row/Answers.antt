use Rattle.sw_container_store.specs.Values.{row_values}
use Rattle.sw_container_store.specs.declared.statements.Command.TheVariants.{PutRow}
use Rattle.sw_container_store.proofs.Running.{runs-one}
use Rattle.sw_container_store.proofs.writing.put_row.Goals as goal

pub returns-clause-runs : goal.returns-clause-runs
returns-clause-runs g c =
    runs-one g.D.Database.runs (record { command = PutRow; values = row_values c.args.rowid c.args.row.now }) c.args.database.now c.run_row.new.database
    c.in_ok-run_row.ensures.runs
