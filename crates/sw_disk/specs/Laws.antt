-- What is promised of disks and crashes. (This project's own.)
use Rattle.std.specs.Prelude.{◌≡◌, ℕ, true, List, ◌∷◌, ◌++◌, Contains, Option}
use Rattle.std.proofs.Common.{◌⊎◌}
use Rattle.sw_disk.specs.Changes.{blank}
use Rattle.sw_disk.specs.Crash.{MayLeave}
use Rattle.sw_disk.specs.Disk.{DiskState}
use Rattle.sw_disk.specs.Keeping.{kept, IsDurable, IsInOrder, IsOrdered, Rests, Turns, writing}
use Rattle.sw_disk.specs.Leaving.{Leaves}
use Rattle.sw_disk.specs.Lives.{Step, Opening, Opened, Done, Tried, Looked, Goes, MayStand, Spares, Takes, is_open}
use Rattle.sw_disk.specs.Moments.{Passes}
use Rattle.sw_disk.specs.Standings.{bytes_at}
use Rattle.sw_volume.specs.Volume.{Sets}

-- ---- crashes

-- the disk is ordered that a crash leaves, whatever it was: so a start may follow; and it is in order where it was
abbrev pub CrashesLeaveOrder : Type 0
CrashesLeaveOrder = (s t : DiskState) → Leaves s t → IsOrdered t × (IsInOrder s → IsInOrder t)

-- at each path a crash leaves what is said of that path alone
abbrev pub CrashesLeavePaths : Type 0
CrashesLeavePaths = (s t : DiskState) → Leaves s t → (dir file : List ℕ) → MayLeave s dir file (bytes_at t dir file)

-- and each thing that is said of a path is left by some crash
abbrev pub EachIsLeft : Type 0
EachIsLeft = (s : DiskState) (dir file : List ℕ) (x : Option (List ℕ)) → IsOrdered s → MayLeave s dir file x
    → (t : DiskState) × Leaves s t × (bytes_at t dir file ≡ x)

-- what is found after a crash is there after each further one
abbrev pub FoundIsKept : Type 0
FoundIsKept = (s t : DiskState) → Leaves s t → (dir file : List ℕ) → IsDurable t dir file (bytes_at t dir file)

-- a disk with nothing on it is ordered
abbrev pub BlankIsOrdered : Type 0
BlankIsOrdered = IsOrdered blank

-- ---- crashes within a call

-- a moment of a call, which went from an old moment, behind these, to a new one, behind these others: the old one, or one since
pub record IsMoment (old : DiskState) (before : List DiskState) (new : DiskState) (after : List DiskState) (m : DiskState) : Type 0 where
  pub since : List DiskState
  pub moments : new ∷ after ≡ since ++ old ∷ before
  pub among : (m ≡ old) ⊎ Contains since m

-- a crash at any moment of a put or an unlink, on a disk in order, leaves one in order; each file that outlived each crash before is whole on it, but for the
-- one that was set: that is the old one or the new one, whole
pub record Outlasts (dir file : List ℕ) (w : Option (List ℕ)) (s u : DiskState) : Type 0 where
  pub order : IsInOrder u
  pub files : (d f : List ℕ) (x : Option (List ℕ)) → ¬ (d ≡ writing) → IsDurable s d f x
      → (kept u d f ≡ x) ⊎ ((d ≡ dir) × (f ≡ file) × (kept u d f ≡ w))

abbrev pub CallsAreOutlasted : Type 0
CallsAreOutlasted = (dir file : List ℕ) (w : Option (List ℕ)) (s t m u : DiskState) (before after : List DiskState)
    → IsInOrder s → Passes (Turns dir file w) s before t after → IsMoment s before t after m → Leaves m u → Outlasts dir file w s u

-- ---- any number of crashes

-- each moment of a call is a step that was tried, as the call's contract says it
pub record MomentsAreSteps (s t m : DiskState) (before after : List DiskState) : Type 0 where
  pub start : (IsOrdered s → Passes (Rests IsOrdered) s before t after) → Takes Opening s m
  pub change : (dir file : List ℕ) (w : Option (List ℕ)) → (IsInOrder s → Passes (Turns dir file w) s before t after) → Takes (Tried dir file w) s m
  pub look : Passes (Rests IsInOrder) s before t after → Takes Looked s m

abbrev pub EachMomentIsAStep : Type 0
EachMomentIsAStep = (s t m : DiskState) (before after : List DiskState) → IsMoment s before t after m → MomentsAreSteps s t m before after

-- a call that was answered is a step
pub record AnswersAreSteps (s t : DiskState) (before after : List DiskState) : Type 0 where
  pub start : (IsOrdered s → Passes (Rests IsOrdered) s before t after) → IsInOrder t → Takes Opened s t
  pub change : (dir file : List ℕ) (w : Option (List ℕ)) → (IsInOrder s → Passes (Turns dir file w) s before t after)
      → (IsInOrder s → Sets (kept s) (kept t) dir file w) → (IsInOrder s → IsDurable t dir file w) → Takes (Done dir file w) s t

abbrev pub EachAnswerIsAStep : Type 0
EachAnswerIsAStep = (s t : DiskState) (before after : List DiskState) → AnswersAreSteps s t before after

-- after some steps a start may follow; where a process runs whose start was answered, the disk is in order for its calls; and at each path stands what may
-- stand there, also after a further crash
pub record Outlives (s : DiskState) (steps : List Step) (t : DiskState) : Type 0 where
  pub order : IsOrdered t
  pub ready : is_open steps ≡ true → IsInOrder t
  pub now : (dir file : List ℕ) → ¬ (dir ≡ writing) → MayStand s steps dir file (kept t dir file)
  pub left : (dir file : List ℕ) (x : Option (List ℕ)) → ¬ (dir ≡ writing) → MayLeave t dir file x → MayStand s steps dir file x

abbrev pub WhatMayStand : Type 0
WhatMayStand = (s t : DiskState) (steps : List Step) → IsOrdered s → Goes steps s t → Outlives s steps t

-- What was acknowledged is kept: what a put or an unlink set at a path that was answered Ok is what stands there after any number of starts, calls, kills and
-- crashes, and after a further crash, as long as none of these calls is a put or an unlink of that path.
pub record IsKept (t : DiskState) (dir file : List ℕ) (w : Option (List ℕ)) : Type 0 where
  pub now : kept t dir file ≡ w
  pub durable : IsDurable t dir file w

abbrev pub AcknowledgedIsKept : Type 0
AcknowledgedIsKept = (s t : DiskState) (before after : List Step) (dir file : List ℕ) (w : Option (List ℕ)) → IsOrdered s → ¬ (dir ≡ writing)
    → Goes (after ++ Done dir file w ∷ before) s t → Spares after dir file → IsKept t dir file w
