-- What doors, stores, the input and the output tell of themselves: a clause has it as a call begins and as it ends. (This project's own.)
use Rattle.std.specs.Prelude.{◌≡◌, ℕ, List, Option}
use Rattle.sw_outside.specs.Doors.{Accepted, Finished, Giving}
use Rattle.sw_session.specs.Passages.{Passage}

-- what doors tell
pub record DoorsTold : Type 0 where
  pub accepted : List Accepted
  pub finished : List Finished
  pub calls : ℕ
  pub faults : ℕ

abbrev pub doors_told : {N : Type 0} → (N → List Accepted) → (N → List Finished) → (N → ℕ) → (N → ℕ) → N → DoorsTold
doors_told accepted finished calls faults doors =
    record { accepted = accepted doors; finished = finished doors; calls = calls doors; faults = faults doors }

-- what stores count
pub record Counts : Type 0 where
  pub calls : ℕ
  pub faults : ℕ

abbrev pub counts : {S : Type 0} → (S → ℕ) → (S → ℕ) → S → Counts
counts calls faults stores = record { calls = calls stores; faults = faults stores }

-- what a call made of the input
pub record Input : Type 0 where
  pub before : Option (List ℕ)  -- what it had left as the call began; none where it isn't told
  pub now : Option (List ℕ)  -- the same at the end
  pub faults : ℕ  -- how many of its calls had failed as the call began
  pub faults_now : ℕ  -- and at the end
  pub calls : ℕ  -- how many there had been, failed ones too
  pub calls_now : ℕ  -- and at the end

abbrev pub input : {R : Type 0} → (R → Option (List ℕ)) → (R → ℕ) → (R → ℕ) → R → R → Input
input left faults calls old new = record {
  before = left old;
  now = left new;
  faults = faults old;
  faults_now = faults new;
  calls = calls old;
  calls_now = calls new;
}

-- the input was left alone
abbrev pub IsUnread : Input → Type 0
IsUnread source = (source.now ≡ source.before) × (source.faults_now ≡ source.faults) × (source.calls_now ≡ source.calls)

-- without its count of calls
abbrev pub read_of : Input → Passage
read_of source = record { before = source.before; now = source.now; faults = source.faults; faults_now = source.faults_now }

-- it as the call began, and as it ended
abbrev pub given_before : Input → Giving
given_before source = record { left = source.before; calls = source.calls; faults = source.faults }

abbrev pub given_now : Input → Giving
given_now source = record { left = source.now; calls = source.calls_now; faults = source.faults_now }

-- what a call made of the output
pub record Output : Type 0 where
  pub before : Option (List ℕ)  -- what it had taken as the call began; none where it isn't told
  pub now : Option (List ℕ)  -- the same at the end
  pub faults : ℕ  -- how many of its calls had failed as the call began
  pub faults_now : ℕ  -- and at the end
  pub calls : ℕ  -- how many there had been, failed ones too
  pub calls_now : ℕ  -- and at the end

abbrev pub output : {W : Type 0} → (W → Option (List ℕ)) → (W → ℕ) → (W → ℕ) → W → W → Output
output taken faults calls old new = record {
  before = taken old;
  now = taken new;
  faults = faults old;
  faults_now = faults new;
  calls = calls old;
  calls_now = calls new;
}

-- the output was left alone
abbrev pub IsSilent : Output → Type 0
IsSilent out = (out.now ≡ out.before) × (out.faults_now ≡ out.faults) × (out.calls_now ≡ out.calls)

-- without its count of calls
abbrev pub written_of : Output → Passage
written_of out = record { before = out.before; now = out.now; faults = out.faults; faults_now = out.faults_now }
