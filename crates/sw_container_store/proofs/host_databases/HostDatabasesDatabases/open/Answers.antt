use Rattle.std.proofs.Common.{IfOk, Result, Ok, Err, refl}
use Rattle.sw_container_store.proofs.host_databases.HostDatabasesDatabases.open.Goals as goal

-- what holds whatever was answered holds where a database was
whatever : {T E P : Type 0} (result : Result T E) → P → IfOk result (λ _. P)
whatever (Ok _) p = p
whatever (Err _) p = tt

pub returns-clause-opens : goal.returns-clause-opens
returns-clause-opens g c = whatever c.open.result (refl, refl)
