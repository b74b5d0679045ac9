-- What a container's database is asked, as statements of SQL. The tables are after those of OpenStack Swift's container databases. (The statements are this
-- project's own.)
use Rattle.std.specs.Prelude.{ℕ, List, Option, None, Some, codes}
use Rattle.sw_container_store.specs.declared.statements.Command.{Command}
use Rattle.sw_container_store.specs.declared.statements.Command.TheVariants.{Begin, Commit, PutInfo, PutRow, CutRow, PutSync}
use Rattle.sw_container_store.specs.declared.statements.Command.TheVariants.{CutRows, PutEmptied, CutRanges, PutRange, PutCursor, PutPoint}
use Rattle.sw_container_store.specs.declared.statements.Query.{Query}
use Rattle.sw_container_store.specs.declared.statements.Query.TheVariants.{Format, Info, Top, Rows, Syncs, Sharding, Ranges, Points}

unfoldable pub command_text : Command → List ℕ
command_text Begin = codes "BEGIN"
command_text Commit = codes "COMMIT"
command_text PutInfo =
    codes "INSERT OR REPLACE INTO container_info (id, account, container, hash, put_timestamp, delete_timestamp) VALUES (1, ?1, ?2, ?3, ?4, ?5)"
command_text PutRow = codes "INSERT INTO object (ROWID, name, created_at, size, content_type, etag, deleted) VALUES (?1, ?2, ?3, ?4, ?5, ?6, ?7)"
command_text CutRow = codes "DELETE FROM object WHERE ROWID = ?1"
command_text PutSync = codes "INSERT OR REPLACE INTO outgoing_sync (range, device, sync_point) VALUES (?1, ?2, ?3)"
command_text CutRows = codes "DELETE FROM object"
command_text PutEmptied = codes "UPDATE sharding SET emptied = 1"
command_text CutRanges = codes "DELETE FROM shard_range"
command_text PutRange = codes "INSERT INTO shard_range (range, account, container, hash, lower, upper, state) VALUES (?1, ?2, ?3, ?4, ?5, ?6, ?7)"
command_text PutCursor = codes "UPDATE sharding SET cursor = ?1"
command_text PutPoint = codes "INSERT OR REPLACE INTO shard_sync (range, device, sync_point) VALUES (?1, ?2, ?3)"

-- how many rows a command changes where it is done: none is said where it takes all away that are there
unfoldable pub changes_of : Command → Option ℕ
changes_of Begin = Some 0
changes_of Commit = Some 0
changes_of PutInfo = Some 1
changes_of PutRow = Some 1
changes_of CutRow = Some 1
changes_of PutSync = Some 1
changes_of CutRows = None
changes_of PutEmptied = Some 1
changes_of CutRanges = None
changes_of PutRange = Some 1
changes_of PutCursor = Some 1
changes_of PutPoint = Some 1

unfoldable pub query_text : Query → List ℕ
query_text Format = codes "SELECT version FROM format"
query_text Info = codes "SELECT account, container, hash, put_timestamp, delete_timestamp FROM container_info"
query_text Top = codes "SELECT seq FROM sqlite_sequence WHERE name = 'object'"
query_text Rows = codes "SELECT ROWID, name, created_at, size, content_type, etag, deleted FROM object WHERE ROWID > ?1 ORDER BY ROWID LIMIT 1000"
query_text Syncs = codes "SELECT range, device, sync_point FROM outgoing_sync ORDER BY range, device"
query_text Sharding = codes "SELECT cursor, emptied, (SELECT count(*) FROM shard_range), (SELECT count(*) FROM shard_sync) FROM sharding"
query_text Ranges = codes "SELECT range, account, container, hash, lower, upper, state FROM shard_range ORDER BY range"
query_text Points = codes "SELECT range, device, sync_point FROM shard_sync ORDER BY range, device"
