use Rattle.std.proofs.Common.{ℕ, List, subst}
use Rattle.sqlite.specs.Files.{file_state}
use Rattle.sqlite.specs.State.{Shown}
use Rattle.sqlite.specs.Values.{bound}
use Rattle.sw_container_store.proofs.sql_database.SqlDatabaseDatabase.ask.Goals as goal

-- the text is that of the query
pub returns-in-Ok-clause-shows : goal.returns-in-Ok-clause-shows
returns-in-Ok-clause-shows g c clean =
    subst (λ (text : List ℕ). Shown text (bound c.args.values.now) (file_state c.args.self.now.connection) (file_state c.query_all.new.self) c.in-Ok.rows.items)
    c.text.ensures (c.in-Ok.ensures.ok clean)
