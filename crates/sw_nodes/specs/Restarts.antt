-- The restarts that a trail tells, and how often the stores were called for them. (This project's own.)
use Rattle.std.specs.Prelude.{◌≡◌, ℕ, ◌+◌, ◌*◌, ◌^◌, ◌≤◌, List, [], ◌∷◌, Option, None}
use Rattle.sw_peer.specs.declared.line.Event.{Event}
use Rattle.sw_peer.specs.declared.line.Event.TheVariants.{AtContainer, Changed, Listed, Read, ReadPart, Restarted}
use Rattle.sw_peer.specs.declared.line.Line.{Line}
use Rattle.sw_ring.specs.declared.ring.Ring.{Ring}
use Rattle.sw_volume.specs.Volume.{raised_by}

-- how many restarts an event tells
abbrev pub restarts_of : Event → ℕ
restarts_of (Changed name change answer) = 0
restarts_of (Read name got) = 0
restarts_of (ReadPart read) = 0
restarts_of (Listed failed) = 0
restarts_of (AtContainer event entries) = 0
restarts_of Restarted = 1

-- how many lines tell of a restart
abbrev pub restarts_in : List Line → ℕ
restarts_in [] = 0
restarts_in (line ∷ lines) = restarts_of line.event + restarts_in lines

-- The stores were called once for each lock of each device that was restarted. Only where a device stayed out there are other calls: those that
-- tried to start its volumes, no more than its locks.
pub record AreCalled (ring : Ring) (lifted : Option ℕ) (steps : List Line) (calls calls_now : ℕ) : Type 0 where
  pub tried : ℕ
  pub whole : lifted ≡ None → tried ≡ 0
  pub most : tried ≤ 2 ^ ring.lock_bits
  pub calls_are : calls_now ≡ raised_by (tried + restarts_in steps * 2 ^ ring.lock_bits) calls
