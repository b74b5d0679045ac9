-- What a sink in memory is, as contracts see it. (This project's own.)
use Rattle.std.specs.Prelude.{◌≡◌, ℕ, ◌++◌, List, Option, Some, nat_eq, find, take}
use Rattle.std.specs.Option.{option_map}
use Rattle.sw_outside.specs.Counts.{raised}
use Rattle.sw_outside.specs.declared.mem_sink.FailingPut.{FailingPut}

-- a sink in memory
pub record Store : Type 0 where
  pub bytes : List ℕ  -- what it has taken
  pub failing : List FailingPut  -- the puts that fail
  pub calls : ℕ  -- how many puts there were
  pub faults : ℕ  -- how many of them failed
  pub starved : ℕ  -- how many of them found no memory
  pub number : ℕ  -- of the connection that it is an end of

-- how many bytes the put of this number takes, where it is to fail
abbrev pub breach_at : List FailingPut → ℕ → Option ℕ
breach_at failing call = option_map (λ p. p.taken) (find (λ p. nat_eq p.call call) failing)

-- the sink after one more put that failed, but for its bytes
abbrev pub after_fault : Store → Store
after_fault s = record s { calls = raised s.calls; faults = raised s.faults }

-- a put of bs failed as it was planned: the sink took as many of its bytes as the plan tells, from the front
abbrev pub FailsAsPlanned : Store → Store → List ℕ → Type 0
FailsAsPlanned old new bs = (taken : ℕ) × (breach_at old.failing old.calls ≡ Some taken) ×
    (new ≡ record (after_fault old) { bytes = old.bytes ++ take taken bs })

-- a put failed for want of memory: the sink took nothing
abbrev pub FindsNoMemory : Store → Store → Type 0
FindsNoMemory old new = new ≡ record (after_fault old) { starved = raised old.starved }
