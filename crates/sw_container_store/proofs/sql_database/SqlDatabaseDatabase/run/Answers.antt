use Rattle.std.proofs.Common.{List, ℕ, Ok, subst}
use Rattle.sqlite.specs.Files.{file_state}
use Rattle.sqlite.specs.State.{Executes}
use Rattle.sqlite.specs.Values.{bound}
use Rattle.sw_container_store.proofs.sql_database.SqlDatabaseDatabase.run.Goals as goal

-- the text is that of the command, and as many rows were changed as it changes
pub returns-in-Ok-clause-runs : goal.returns-in-Ok-clause-runs
returns-in-Ok-clause-runs g c clean = (
  c.in-Ok.changed,
  c.has_changed.ensures c.if-has_changed.true,
  subst (λ (text : List ℕ). Executes text (bound c.args.values.now) (file_state c.args.self.now.connection) (file_state c.execute.new.self)
      (Ok c.in-Ok.changed))
      c.text.ensures
      (c.in-Ok.ensures.runs clean),
)
