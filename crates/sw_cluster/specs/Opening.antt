-- What a command finds where it opens its ring. (This project's own.)
use Rattle.std.specs.Prelude.{◌≡◌, ℕ, List, Result, Ok, Err, ◌⊎◌}
use Rattle.sw_outside.specs.Counts.{raised}
use Rattle.sw_ring.specs.Tables.{data_of}
use Rattle.sw_ring.specs.Texts.{ring_text}
use Rattle.sw_ring.specs.declared.bad_ring.BadRing.{BadRing}
use Rattle.sw_ring.specs.declared.ring.Ring.{Ring}
use Rattle.sw_stores.specs.Telling.{IsKept, Telling}
use Rattle.sw_cluster.specs.Statuses as statuses
use Rattle.sw_cluster.specs.declared.opening.OpenFault.{OpenFault}
use Rattle.sw_cluster.specs.declared.opening.OpenFault.TheVariants as faults

-- the text that the stores have is that of this ring
abbrev pub OpensTo : Telling → Ring → Type 0
OpensTo told ring = (text : List ℕ) × IsKept told text × (ring_text text ≡ Ok (data_of ring))

-- or this is the first thing that is wrong with it
abbrev pub OpensToBad : Telling → BadRing → Type 0
OpensToBad told bad = (text : List ℕ) × IsKept told text × (ring_text text ≡ Err bad)

-- what opening a ring finds, with the stores' counts of faults before and after it: one more only where they failed
abbrev pub IsOpening : Telling → ℕ → ℕ → Result Ring OpenFault → Type 0
IsOpening told before now (Ok ring) = OpensTo told ring × (now ≡ before)
IsOpening told before now (Err (faults.Bad bad)) = OpensToBad told bad × (now ≡ before)
IsOpening told before now (Err faults.Failed) = now ≡ raised before
IsOpening told before now (Err faults.NoMemory) = now ≡ before

-- How a command ends that opens its ring first. Where the ring isn't opened, what is `kept` is as it was, and the line says what is
-- wrong with the ring; else the command goes on with that ring.
abbrev pub EndsWith : Telling → ℕ → ℕ → Type 0 → (BadRing → Type 0) → (Ring → Type 0) → ℕ → Type 0
EndsWith told before now kept says goes_on status =
    ((status ≡ statuses.store_fault) × (now ≡ raised before) × kept)
    ⊎ (((status ≡ statuses.no_memory) × (now ≡ before) × kept)
    ⊎ (((bad : BadRing) × OpensToBad told bad × (now ≡ before) × (status ≡ statuses.bad_ring) × says bad × kept)
    ⊎ ((ring : Ring) × OpensTo told ring × goes_on ring)))

-- how a command ends whose ring wasn't opened
abbrev pub IsRingRefused : OpenFault → ℕ → (BadRing → Type 0) → Type 0
IsRingRefused faults.Failed status says = status ≡ statuses.store_fault
IsRingRefused faults.NoMemory status says = status ≡ statuses.no_memory
IsRingRefused (faults.Bad bad) status says = (status ≡ statuses.bad_ring) × says bad
