-- Connections, as doors tell of them. (This project's own.)
use Rattle.std.specs.Prelude.{◌≡◌, ℕ, ◌+◌, List, [], ◌∷◌, Option, Some, None, IfSome, option_and_then, map, take, slice_get}
use Rattle.std.specs.Prelude.{Result, Err, MatchBool, MatchResult}
use Rattle.sw_outside.specs.Store.{Store}
use Rattle.sw_outside.specs.Supply.{Supply, is_failing}
use Rattle.sw_outside.specs.declared.mem_doors.MemConnection.{MemConnection}
use Rattle.sw_outside.specs.declared.mem_doors.MemFinished.{MemFinished}
use Rattle.sw_outside.specs.declared.store_error.StoreError.{StoreError}
use Rattle.sw_outside.specs.declared.store_error.StoreError.TheVariants as errors

-- the end of a connection from which it is read
pub record Giving : Type 0 where
  pub left : Option (List ℕ)  -- the bytes to come, where it tells them
  pub calls : ℕ
  pub faults : ℕ

-- the end to which it is written
pub record Taking : Type 0 where
  pub taken : Option (List ℕ)  -- the bytes taken so far, where it tells them
  pub calls : ℕ
  pub faults : ℕ

-- a connection, as its ends are when it is accepted
pub record Accepted : Type 0 where
  pub number : ℕ  -- the first has 1
  pub source : Giving
  pub sink : Taking

-- a connection, as its ends are when it is finished, and how it ended
pub record Finished : Type 0 where
  pub read_at : ℕ  -- the number of the connection from which it was read
  pub written_at : ℕ  -- and of the one to which it was written
  pub among : ℕ  -- how many connections had been accepted by then
  pub source : Giving
  pub sink : Taking
  pub status : ℕ

-- nothing was taken, where that is told
abbrev pub IsUntouched : Option (List ℕ) → Type 0
IsUntouched taken = IfSome taken (λ bytes. bytes ≡ [])

-- a source in memory, as doors tell of it
abbrev pub giving : Supply → Giving
giving s = record { left = Some s.left; calls = s.calls; faults = s.faults }

-- and a sink
abbrev pub taking : Store → Taking
taking s = record { taken = Some s.bytes; calls = s.calls; faults = s.faults }

-- the source of the connection in memory of this number, before its first call
abbrev pub supply_of : ℕ → MemConnection → Supply
supply_of number c = record { left = c.bytes; pieces = c.pieces.items; failing = c.failing_reads.items; calls = 0; faults = 0; number = number }

-- and its sink
abbrev pub store_of : ℕ → MemConnection → Store
store_of number c = record { bytes = []; failing = c.failing_puts.items; calls = 0; faults = 0; starved = 0; number = number }

-- it, as doors tell of it
abbrev pub accepted_as : ℕ → MemConnection → Accepted
accepted_as number c = record { number = number; source = giving (supply_of number c); sink = taking (store_of number c) }

-- connections in memory, of which the first has the number behind this one
abbrev pub accepted_from : ℕ → List MemConnection → List Accepted
accepted_from number [] = []
accepted_from number (c ∷ cs) = accepted_as (number + 1) c ∷ accepted_from (number + 1) cs

-- a connection in memory that was finished once so many had been accepted, as doors tell of it
abbrev pub finished_as : ℕ → MemFinished → Finished
finished_as among f = record {
  read_at = f.source.number;
  written_at = f.sink.number;
  among = among;
  source = giving f.source;
  sink = taking f.sink;
  status = f.status;
}

-- doors in memory
pub record MemDoorsState : Type 0 where
  pub connections : List MemConnection  -- all that come, in their order
  pub failing : List ℕ  -- the numbers of the calls that fail, counted from 0
  pub calls : ℕ  -- how many times it was listened, or a connection was to be accepted
  pub faults : ℕ  -- how many of these calls failed
  pub port : Option ℕ  -- where it was listened last
  pub accepted : ℕ  -- how many connections were accepted
  pub finished : List MemFinished  -- those that were finished, in that order

-- the connections that were accepted
abbrev pub accepts_of : MemDoorsState → List Accepted
accepts_of d = accepted_from 0 (take d.accepted d.connections)

-- and those that were finished
abbrev pub finished_of : MemDoorsState → List Finished
finished_of d = map (λ f. finished_as f.among f) d.finished

-- the connection that comes next, where doors listen
abbrev pub next_of : MemDoorsState → Option MemConnection
next_of d = option_and_then (λ _. slice_get d.connections d.accepted) d.port

-- a connection was accepted as it came, or there was no memory for it; and where none is to come, that failed
abbrev pub IsNext : ℕ → Option MemConnection → Result (Supply × Store) StoreError → Type 0
IsNext number None result = result ≡ Err errors.Failed
IsNext number (Some c) result =
    MatchResult result (λ ends. (ends.0 ≡ supply_of number c) × (ends.1 ≡ store_of number c)) (λ error. error ≡ errors.NoMemory)

-- how doors in memory answer who accepts: a call that is to fail fails
abbrev pub IsAccepted : MemDoorsState → Result (Supply × Store) StoreError → Type 0
IsAccepted d result = MatchBool (is_failing d.failing d.calls) (result ≡ Err errors.Failed) (IsNext (d.accepted + 1) (next_of d) result)
