-- A door over nodes of which nothing is known. (This project's own.)
use Rattle.std.specs.Prelude.{Bool, true, false, [], None, refl}
use Rattle.std.proofs.lemmas.Nat.{pow_pos}
use Rattle.sw_history.specs.Halves.{HistoryOf}
use Rattle.sw_object_steps.specs.Values.{bare}
use Rattle.sw_object_steps.specs.declared.answer.Answer.{Answer}
use Rattle.sw_object_steps.specs.declared.answer.Answer.TheVariants as answers
use Rattle.sw_object_steps.specs.declared.change.Change.{Change}
use Rattle.sw_object_steps.specs.declared.change.Change.TheVariants.{Receive}
use Rattle.sw_peer.specs.Carriage.{faithful}
use Rattle.sw_peer.specs.Sights.{Nodes, Sight}
use Rattle.sw_state.specs.States.{state_of}

-- A write that is sent is refused: the device has it, or has no room for it. Every other change wants memory
abbrev pub answer_to : Bool → Change → Answer
answer_to true (Receive write) = answers.Conflict write.time
answer_to false (Receive write) = answers.JournalFull
answer_to has_writes change = answers.NoMemory

-- a journal that has no room for an entry, over contents that aren't told
abbrev pub untold : {K V E D : Type 0} → V → HistoryOf K V E D
untold nothing = record {
  told = false;
  opening = λ key. nothing;
  journal = record { entries = []; doubts = []; max_entries = 0; max_bytes = 0 };
  faults = 0;
}

abbrev pub silent_nodes : Nodes
silent_nodes = record {
  devices = 256;
  lock_bits = 0;
  power = 0;
  secrets = record { prefix = []; suffix = [] };
  fits = λ name. true;
  fits_place = λ place. true;
  lock = λ device hash. 0;
  part_lock = λ device part. 0;
  one_lock = λ device hash. refl;
  stripe = λ hash. 0;
  stripe_lock = λ device stripe. 0;
  one_stripe = λ device hash. refl;
  within = λ hash. pow_pos 0;
  ways = [];
}

abbrev pub silent : Sight
silent = record {
  nodes = silent_nodes;
  objects = record { seen = λ lock. untold (bare (state_of [])); holds = λ device hash. bare (state_of []) };
  containers = record { seen = λ lock. untold None; holds = λ device place. None };
  alone = false;
  faults = 0;
  asks = 0;
  carriage = faithful;
  trail = None;
}
