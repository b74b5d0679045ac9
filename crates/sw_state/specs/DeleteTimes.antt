-- When an object expires. OpenStack Swift's documentation of object expiry gives the time in whole seconds; the greatest
-- one is this project's own.
use Rattle.std.specs.Prelude.{ℕ, Bool, true, nat_le, Option, None, Some}

-- whether a delete time, where there is one, has ten digits at most
abbrev pub is_delete_time : Option ℕ → Bool
is_delete_time None = true
is_delete_time (Some seconds) = nat_le seconds 9999999999
