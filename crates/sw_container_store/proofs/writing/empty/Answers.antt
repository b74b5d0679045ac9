use Rattle.std.proofs.Common.{[], ◌∷◌}
use Rattle.sw_container_store.specs.declared.statements.Command.TheVariants.{CutRows, PutEmptied}
use Rattle.sw_container_store.proofs.Running.{runs-first, runs-one}
use Rattle.sw_container_store.proofs.writing.empty.Goals as goal

pub returns-clause-runs : goal.returns-clause-runs
returns-clause-runs g c =
    runs-first g.D.Database.runs (record { command = CutRows; values = [] }) (record { command = PutEmptied; values = [] } ∷ []) c.args.database.now
    c.run.new.self c.run-2.new.self c.in_ok-run.ensures.runs
    (runs-one g.D.Database.runs (record { command = PutEmptied; values = [] }) c.run.new.self c.run-2.new.self c.in_ok-run-2.ensures.runs)
