-- The list of a generated load. (This project's own.)
use Rattle.std.specs.Prelude.{ℕ, List, ◌∷◌, map}
use Rattle.std.specs.List.{enumerate_from, flat_map, range_with_len}
use Rattle.sw_ring.specs.declared.ring.Ring.{Ring}
use Rattle.sw_jobs.specs.Passes.{behind}
use Rattle.sw_jobs.specs.Requests.{request}
use Rattle.sw_jobs.specs.declared.job.Job.{Job}
use Rattle.sw_jobs.specs.declared.job.Work.{Work}

-- request i, and what comes right behind it
abbrev pub turn : Ring → ℕ → ℕ → ℕ → List Work
turn ring seed requests i = request ring seed requests i ∷ behind ring i

-- what is asked for by so many requests, in order
abbrev pub works_of : Ring → ℕ → ℕ → List Work
works_of ring seed requests = flat_map (turn ring seed requests) (range_with_len 0 requests)

-- works in order, numbered from 0
abbrev pub numbered : List Work → List Job
numbered works = map (λ e. record { number = e.0; work = e.1 }) (enumerate_from 0 works)

-- the jobs of so many requests that are drawn from a seed
abbrev pub jobs_of : Ring → ℕ → ℕ → List Job
jobs_of ring seed requests = numbered (works_of ring seed requests)
