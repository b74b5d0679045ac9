-- For each time and name that is put a job of the least number, and the pairs that each job makes with the one of its time and name. (This project's own.)
use Rattle.std.specs.Prelude.{◌≡◌, ℕ, ◌≤◌, Bool, false, nat_le, nat_lt, ◌==◌, ◌&&◌, ◌||◌, if◌then◌else◌, List, Option, None, Some, map}
use Rattle.std.specs.Borrow.{Bor}
use Rattle.std.specs.BTreeMap.{BTreeMap, insert_entry, is_at}
use Rattle.std.specs.Cmp.Lexicographic.{slice_cmp}
use Rattle.std.specs.List.{Contains}
use Rattle.std.specs.Map.{lookup}
use Rattle.std.specs.Option.{option_and_then}
use Rattle.std.specs.Ordering.{nat_cmp, ordering_then}
use Rattle.std.specs.declared.cmp.Ordering.{Ordering}
use Rattle.sw_hashpath.specs.declared.name.Name.{Name}
use Rattle.sw_jobs.specs.Disagreements.{Clash}
use Rattle.sw_jobs.specs.declared.job.Job.{Job}
use Rattle.sw_jobs.specs.declared.job.Work.{Work}
use Rattle.sw_jobs.specs.declared.job.Work.TheVariants.{Put}

-- ---- what is kept

-- a time and a name
abbrev pub Key : Type 0
Key = ℕ × Name

-- by time, then by hash, then by the names
abbrev pub key_cmp : Key → Key → Ordering
key_cmp a b = ordering_then (ordering_then (ordering_then (ordering_then
    (nat_cmp a.0 b.0)
    (slice_cmp nat_cmp a.1.hash b.1.hash))
    (slice_cmp nat_cmp a.1.account b.1.account))
    (slice_cmp nat_cmp a.1.container b.1.container))
    (slice_cmp nat_cmp a.1.object b.1.object)

-- the time and name of a put
abbrev pub key_of : Work → Option Key
key_of (Put device name time content) = Some (time, name)
key_of _ = None

-- for each time and name a job
abbrev pub Kept : Type 0
Kept = List (Key × Job)

abbrev pub kept_at : Kept → Key → Option Job
kept_at kept key = lookup (is_at (key_cmp key)) kept

abbrev pub with_kept : Kept → Key → Job → Kept
with_kept kept key job = insert_entry key_cmp kept key job

-- whether a job is kept, and its number isn't above this one
abbrev pub is_upto : Option Job → ℕ → Bool
is_upto None number = false
is_upto (Some first) number = nat_le first.number number

-- a job for its time and name, unless one is kept for them whose number isn't above its own
abbrev pub keeping_at : Kept → Job → Option Key → Kept
keeping_at kept job None = kept
keeping_at kept job (Some key) = if is_upto (kept_at kept key) job.number then kept else with_kept kept key job

abbrev pub keeping : Kept → Job → Kept
keeping kept job = keeping_at kept job (key_of job.work)

-- for each time and name that a list puts, one of its jobs that put there is kept, of no greater number than any of them, and nothing else is kept
pub record KeepsFirsts (jobs : List Job) (kept : Kept) : Type 0 where
  pub found : (job : Job) (key : Key) → Contains jobs job → key_of job.work ≡ Some key →
      (first : Job) × (kept_at kept key ≡ Some first) × (first.number ≤ job.number)
  pub stands : (key : Key) (first : Job) → kept_at kept key ≡ Some first → Contains jobs first × (key_of first.work ≡ Some key)

-- ---- pairs

-- what is kept for the time and name of a put
abbrev pub first_for : Kept → Work → Option Job
first_for kept work = option_and_then (kept_at kept) (key_of work)

-- a job puts another content than the one that is kept for its time and name
pub record Differs (kept : Kept) (job first : Job) : Type 0 where
  pub is_kept : first_for kept job.work ≡ Some first
  pub clash : Clash first.work job.work

abbrev pub Pair : Type 0
Pair = ℕ × ℕ

-- the numbers of the kept job and of this one, where they differ
abbrev pub IsPairAt : Kept → Job → Option Pair → Type 0
IsPairAt kept job None = (first : Job) → ¬ Differs kept job first
IsPairAt kept job (Some pair) = (first : Job) × Differs kept job first × (pair ≡ (first.number, job.number))

-- whether a pair comes before another, by the later number, then by the earlier one
abbrev pub is_less : Pair → Pair → Bool
is_less p q = nat_lt p.1 q.1 || (p.1 == q.1 && nat_lt p.0 q.0)

abbrev pub lesser : Option Pair → Option Pair → Option Pair
lesser None pair = pair
lesser (Some found) None = Some found
lesser (Some found) (Some pair) = Some (if is_less pair found then pair else found)

-- a pair comes before another, or is it
abbrev pub IsUpto : Pair → Pair → Type 0
IsUpto p q = (p.1 ≤ q.1) × (q.1 ≡ p.1 → p.0 ≤ q.0)

-- a pair of a job of the list, up to those of all others
pub record IsLeastPair (kept : Kept) (jobs : List Job) (pair : Pair) : Type 0 where
  pub job : Job
  pub first : Job
  pub has_job : Contains jobs job
  pub differs : Differs kept job first
  pub is_pair : pair ≡ (first.number, job.number)
  pub least : (j f : Job) → Contains jobs j → Differs kept j f → IsUpto pair (f.number, j.number)

abbrev pub IsLeast : Kept → List Job → Option Pair → Type 0
IsLeast kept jobs None = (j f : Job) → Contains jobs j → ¬ Differs kept j f
IsLeast kept jobs (Some pair) = IsLeastPair kept jobs pair

-- ---- as a map keeps jobs

-- a time and a name, as the key that is made of borrowed texts
abbrev pub Borrowed : Type 0
Borrowed = ℕ × Bor (List ℕ) × Bor (List ℕ) × Bor (List ℕ) × Bor (List ℕ)

abbrev pub key_seen : Borrowed → Key
key_seen k = (k.0, record { account = k.2.now; container = k.3.now; object = k.4.now; hash = k.1.now })

abbrev pub seen : BTreeMap Borrowed (Bor Job) → Kept
seen m = map (λ e. (key_seen e.0, e.1.now)) m.entries
