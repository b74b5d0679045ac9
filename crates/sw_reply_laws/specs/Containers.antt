-- What a reply to a change of a container says of its tables. (The statuses are those of OpenStack Swift's container server; the rest is this project's
-- own.)
use Rattle.std.specs.Prelude.{◌≡◌, ⊤, ℕ, ◌<◌, ◌≤◌, true, false, is_some, Option, None, Some, ◌⊎◌}
use Rattle.sw_container_steps.specs.declared.cont_change.ContChange.{ContChange}
use Rattle.sw_container_steps.specs.declared.cont_change.ContChange.TheVariants.{Create, Remove, MergeRow, MergeRows, SetRanges, Ack}
use Rattle.sw_container_steps.specs.declared.cont_change.ContChange.TheVariants.{CloseRange, EmptyOut, SetSync}
use Rattle.sw_keeper.specs.declared.tables.Tables.{Tables}
use Rattle.sw_machine.specs.Laws.{StandsAtLeast, row_named}
use Rattle.sw_machine.specs.Machine.{is_emptied}
use Rattle.sw_message.specs.declared.response.Response.{Response}
use Rattle.sw_object_server.specs.Replies.{at_time, bare}
use Rattle.sw_reply_laws.specs.Objects.{IsSince, tells_made}

-- the container was created at this time or later
abbrev pub IsPutSince : Option Tables → ℕ → Type 0
IsPutSince None time = ⊥
IsPutSince (Some t) time = time ≤ t.put_time

-- it was deleted at this time or later
abbrev pub IsDeletedSince : Option Tables → ℕ → Type 0
IsDeletedSince None time = ⊥
IsDeletedSince (Some t) time = IsSince t.delete_time time

-- it has shard ranges
abbrev pub IsSplit : Option Tables → Type 0
IsSplit None = ⊥
IsSplit (Some t) = is_some t.ranges ≡ true

-- The tables have a change: its time, or a row of its name that counts at least as much. That says nothing of rows once they were taken away, since the
-- shards have them then. (No request asks for several rows, for ranges or for a point)
abbrev pub HasChange : ContChange → Option Tables → Type 0
HasChange (Create time) t = IsPutSince t time
HasChange (Remove time) t = IsDeletedSince t time
HasChange (MergeRow row) t = is_emptied t ≡ false → StandsAtLeast (row_named row.name t) row
HasChange (MergeRows rows) t = ⊤
HasChange (SetRanges ranges) t = ⊤
HasChange (Ack range device rowid) t = ⊤
HasChange (CloseRange range devices) t = ⊤
HasChange EmptyOut t = ⊤
HasChange (SetSync device rowid) t = ⊤

-- A 409 to a creation shows the time of a later deletion, and one to a deletion that of a creation which isn't earlier, or that there were live rows or ranges.
-- One to ranges says that there are some
abbrev pub IsLateFor : Response → ContChange → Option Tables → Type 0
IsLateFor response (Create time) t = (gone : ℕ) × (response ≡ at_time 409 gone) × (time < gone) × IsDeletedSince t gone
IsLateFor response (Remove time) t =
    (response ≡ bare 409) ⊎ ((put : ℕ) × (response ≡ at_time 409 put) × (time ≤ put) × IsPutSince t put)
IsLateFor response (SetRanges ranges) t = (response ≡ bare 409) × IsSplit t
IsLateFor response change t = ⊥

-- the tables of a container bear out a reply to a change
pub record TablesBearOut (response : Response) (change : ContChange) (t : Option Tables) : Type 0 where
  pub made : tells_made response.status ≡ true → HasChange change t
  pub late : response.status ≡ 409 → IsLateFor response change t
