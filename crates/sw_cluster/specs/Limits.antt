-- How many bytes the bodies in the journal of an object lock have at most, together, by the command. (This project's own.)
use Rattle.std.specs.Prelude.{ℕ}

-- where a journal lasts as long as the session
abbrev pub run_bytes : ℕ
run_bytes = 33554432

-- where it begins anew with each connection: as many as the entries can have, each the greatest size of an object
abbrev pub serve_bytes : ℕ
serve_bytes = 1374389534720
