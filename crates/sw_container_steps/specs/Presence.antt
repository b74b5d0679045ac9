-- Whether a container is there. (OpenStack Swift's container server: a container is deleted where its delete time is later than its
-- put time; accounts that begin with `.` are its own hidden ones.)
use Rattle.std.specs.Prelude.{ℕ, Bool, true, false, ◌==◌, nat_lt, List, [], ◌∷◌, Option, None, Some, if◌then◌else◌}
use Rattle.sw_hashpath.specs.declared.place.Place.{Place}
use Rattle.sw_keeper.specs.declared.tables.Tables.{Tables}

-- a delete time that is later than the put time
abbrev pub deletion_after : ℕ → Option ℕ → Option ℕ
deletion_after put_time None = None
deletion_after put_time (Some gone) = if nat_lt put_time gone then Some gone else None

-- the delete time of a container that is deleted. What a place stands for is its tables, none where it was never created
abbrev pub deletion : Option Tables → Option ℕ
deletion None = None
deletion (Some t) = deletion_after t.put_time t.delete_time

abbrev pub is_no_time : Option ℕ → Bool
is_no_time None = true
is_no_time (Some time) = false

-- whether the container was created, and isn't deleted
abbrev pub is_present : Option Tables → Bool
is_present None = false
is_present (Some t) = is_no_time (deletion_after t.put_time t.delete_time)

-- whether a name begins with `.`
abbrev pub begins_with_dot : List ℕ → Bool
begins_with_dot [] = false
begins_with_dot (b ∷ bs) = b == 46

-- whether the account of a place begins with `.`
abbrev pub is_dotted : Place → Bool
is_dotted place = begins_with_dot place.account
