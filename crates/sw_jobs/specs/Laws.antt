-- What is promised of generated lists. (This project's own.)
use Rattle.std.specs.Prelude.{◌≡◌, ℕ, ◌≤◌, ◌<◌, length, map, Option, None, Some, IfSome}
use Rattle.std.specs.List.{All, filter_map, range_with_len}
use Rattle.std.specs.List.Sorted.{IsStrictlyIncreasing}
use Rattle.sw_hashpath.specs.BadNames.{bad_name}
use Rattle.sw_hashpath.specs.Paths.{hash_of}
use Rattle.sw_hashpath.specs.declared.name.Name.{Name}
use Rattle.sw_hashpath.specs.declared.secrets.Secrets.{Secrets}
use Rattle.sw_ring.specs.declared.ring.Ring.{Ring}
use Rattle.sw_jobs.specs.Disagreements.{Disagree, IsDisagreement}
use Rattle.sw_jobs.specs.Generated.{jobs_of}
use Rattle.sw_jobs.specs.declared.job.Work.{Work}
use Rattle.sw_jobs.specs.declared.job.Work.TheVariants.{Put, Delete, Get, Replicate, Update, Rows}

-- the time of a write
abbrev pub time_in : Work → Option ℕ
time_in (Put device name time content) = Some time
time_in (Delete device name time) = Some time
time_in _ = None

-- the name of a request
abbrev pub name_in : Work → Option Name
name_in (Put device name time content) = Some name
name_in (Delete device name time) = Some name
name_in (Get device name) = Some name
name_in _ = None

-- the device that a request comes to, or that makes a pass
abbrev pub device_in : Work → ℕ
device_in (Put device name time content) = device
device_in (Delete device name time) = device
device_in (Get device name) = device
device_in (Replicate device) = device
device_in (Update device) = device
device_in (Rows device) = device

-- nothing is wrong with a name, and its hash is that of its path
pub record IsGoodName (secrets : Secrets) (name : Name) : Type 0 where
  pub good : bad_name name.account (Some name.container) (Some name.object) ≡ None
  pub hashed : name.hash ≡ hash_of secrets name.account (Some name.container) (Some name.object)

-- the numbers are those from 0, in the order of the list: they rise, and each job has its own
abbrev pub NumbersRise : Type 0
NumbersRise = (ring : Ring) (seed requests : ℕ) →
    map (λ j. j.number) (jobs_of ring seed requests) ≡ range_with_len 0 (length (jobs_of ring seed requests))

-- each write is later than the writes before it
abbrev pub TimesRise : Type 0
TimesRise = (ring : Ring) (seed requests : ℕ) → IsStrictlyIncreasing (filter_map (λ j. time_in j.work) (jobs_of ring seed requests))

-- no two jobs disagree
abbrev pub NothingDisagrees : Type 0
NothingDisagrees = (ring : Ring) (seed requests earlier later : ℕ) → ¬ Disagree (jobs_of ring seed requests) earlier later

-- what tells of a disagreement tells of none
abbrev pub NoneIsFound : Type 0
NoneIsFound = (ring : Ring) (seed requests : ℕ) (found : Option (ℕ × ℕ)) → IsDisagreement (jobs_of ring seed requests) found → found ≡ None

-- each job's device stands in the ring
abbrev pub DevicesStand : Type 0
DevicesStand = (ring : Ring) (seed requests : ℕ) → All (λ j. device_in j.work < length ring.devices) (jobs_of ring seed requests)

-- nothing is wrong with the names
abbrev pub NamesAreGood : Type 0
NamesAreGood = (ring : Ring) (seed requests : ℕ) → requests ≤ 100000
    → All (λ j. IfSome (name_in j.work) (IsGoodName ring.secrets)) (jobs_of ring seed requests)
