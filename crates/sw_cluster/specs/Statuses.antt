-- The statuses with which a command ends, as the host sees them. (This project's own.)
use Rattle.std.specs.Prelude.{ℕ}

-- the input was read to its end, or the command's text was written
abbrev pub complete : ℕ
complete = 0

-- a read of the input failed
abbrev pub read_fault : ℕ
read_fault = 1

-- the words are those of no command, or `where` was asked for a bad name
abbrev pub usage : ℕ
usage = 2

-- the ring's text is refused
abbrev pub bad_ring : ℕ
bad_ring = 3

-- a write of the output failed
abbrev pub write_fault : ℕ
write_fault = 4

-- the ring couldn't be read from the host
abbrev pub store_fault : ℕ
store_fault = 5

-- the port couldn't be opened, or a connection couldn't be accepted
abbrev pub door_fault : ℕ
door_fault = 6

-- as many requests were answered as a session has at most
abbrev pub too_long : ℕ
too_long = 7

-- the rest of the input is no request
abbrev pub bad_input : ℕ
bad_input = 8

-- memory ran out where the command couldn't go on without it
abbrev pub no_memory : ℕ
no_memory = 9
