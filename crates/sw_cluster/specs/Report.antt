-- What a command says on the error sink. (This project's own.)
use Rattle.std.specs.Prelude.{◌≡◌, ◌⊎◌, ℕ, List, [], codes, ◌==◌, ◌+◌, ◌++◌, ◌∷◌, if◌then◌else◌}
use Rattle.std.specs.Io.KnownBytes.{Appends}
use Rattle.sw_outside.specs.Counts.{raised}
use Rattle.sw_outside.specs.Taken.{AppendsPart}
use Rattle.sw_ring.specs.BadRings.{bad_ring_number}
use Rattle.sw_ring.specs.declared.bad_ring.BadRing.{BadRing}
use Rattle.sw_cluster.specs.Statuses as statuses
use Rattle.sw_cluster.specs.Told.{IsSilent, Output}

-- the line of a status, with its line feed
abbrev pub line_of : ℕ → List ℕ
line_of status =
    if status == statuses.read_fault then codes "sw: read fault\n" else (
    if status == statuses.usage then codes "sw: usage\n" else (
    if status == statuses.write_fault then codes "sw: write fault\n" else (
    if status == statuses.store_fault then codes "sw: store fault\n" else (
    if status == statuses.door_fault then codes "sw: door fault\n" else (
    if status == statuses.too_long then codes "sw: session too long\n" else (
    if status == statuses.bad_input then codes "sw: bad input\n" else (
    if status == statuses.no_memory then codes "sw: want of memory\n" else [])))))))

-- the line of what is wrong with a ring: its number is a digit
abbrev pub ring_line : BadRing → List ℕ
ring_line bad = codes "sw: bad ring " ++ (48 + bad_ring_number bad) ∷ 10 ∷ []

-- a line was put, in one call; a front of it where that call failed
pub record PutsLine (errors : Output) (line : List ℕ) : Type 0 where
  pub put : (Appends errors.before errors.now line × (errors.faults_now ≡ errors.faults))
      ⊎ (AppendsPart errors.before errors.now line × (errors.faults_now ≡ raised errors.faults))
  pub once : errors.calls_now ≡ raised errors.calls

-- the line of a status was put, where it has one
abbrev pub Reports : Output → List ℕ → Type 0
Reports errors [] = IsSilent errors
Reports errors (c ∷ line) = PutsLine errors (c ∷ line)
