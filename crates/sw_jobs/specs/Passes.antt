-- The passes of daemons among the requests of a generated load. (This project's own.)
use Rattle.std.specs.Prelude.{ℕ, ◌+◌, ◌/◌, ◌%◌, ◌==◌, if◌then◌else◌, List, [], ◌∷◌, length}
use Rattle.sw_ring.specs.declared.ring.Ring.{Ring}
use Rattle.sw_jobs.specs.declared.job.Work.{Work}
use Rattle.sw_jobs.specs.declared.job.Work.TheVariants.{Replicate, Update, Rows}

-- pass q, counted from 1: the devices take turns, and so do the three kinds
unfoldable pub pass : Ring → ℕ → Work
pass ring q =
    let device = q % length ring.devices in
    if q % 3 == 1 then Replicate device else if q % 3 == 2 then Update device else Rows device

-- what comes right behind request i, counted from 0: a pass behind each 500th request, and else nothing
abbrev pub behind : Ring → ℕ → List Work
behind ring i = if (i + 1) % 500 == 0 then pass ring ((i + 1) / 500) ∷ [] else []
