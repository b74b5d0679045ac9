-- When jobs of a list disagree. (This project's own.)
use Rattle.std.specs.Prelude.{◌≡◌, ◌≢◌, ℕ, ◌≤◌, List, Option, None, Some}
use Rattle.std.specs.List.{Contains}
use Rattle.sw_state.specs.declared.content.Content.{Content}
use Rattle.sw_jobs.specs.declared.job.Job.{Job}
use Rattle.sw_jobs.specs.declared.job.Work.{Work}
use Rattle.sw_jobs.specs.declared.job.Work.TheVariants.{Put}

abbrev pub IsPut : Work → Type 0
IsPut (Put device name time content) = Unit {0}
IsPut _ = ⊥

-- a put of another content than this
abbrev pub PutsOther : Work → Content → Type 0
PutsOther (Put device name time own) content = own ≢ content
PutsOther _ content = ⊥

-- two puts of one name and time that differ in content
abbrev pub Clash : Work → Work → Type 0
Clash (Put device name time content) (Put other_device other_name other_time other_content) =
    (name ≡ other_name) × (time ≡ other_time) × (content ≢ other_content)
Clash _ _ = ⊥

-- two jobs of a list with these numbers disagree
pub record Disagree (jobs : List Job) (earlier later : ℕ) : Type 0 where
  pub one : Job
  pub other : Job
  pub has_one : Contains jobs one
  pub has_other : Contains jobs other
  pub is_earlier : one.number ≡ earlier
  pub is_later : other.number ≡ later
  pub in_order : earlier ≤ later
  pub clash : Clash one.work other.work

-- going up through the numbers, the first job that some lesser one disagrees with has the later of these, and of those lesser ones the first has the earlier
pub record IsFirst (jobs : List Job) (earlier later : ℕ) : Type 0 where
  pub pair : Disagree jobs earlier later
  pub least_later : (e l : ℕ) → Disagree jobs e l → later ≤ l
  pub least_earlier : (e : ℕ) → Disagree jobs e later → earlier ≤ e

-- the first pair that disagrees, or none where no two jobs do
abbrev pub IsDisagreement : List Job → Option (ℕ × ℕ) → Type 0
IsDisagreement jobs None = (earlier later : ℕ) → ¬ Disagree jobs earlier later
IsDisagreement jobs (Some pair) = IsFirst jobs pair.0 pair.1

-- a job of the list puts something
abbrev pub HasPut : List Job → Type 0
HasPut jobs = (job : Job) × Contains jobs job × IsPut job.work
