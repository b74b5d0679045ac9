-- What a push that is done leaves at both devices. (This project's own.)
use Rattle.std.specs.Prelude.{◌≡◌, ◌≢◌, ℕ, true, List, ◌⊎◌}
use Rattle.md5.specs.Md5.{md5}
use Rattle.sw_hashpath.specs.HashParts.{suffix_of}
use Rattle.sw_history.specs.Halves.{GrowsOf}
use Rattle.sw_object_steps.specs.Journals.{Hash}
use Rattle.sw_object_steps.specs.Parts.{AreLines, IsOfPart}
use Rattle.sw_object_steps.specs.Rules.{ObjHistory, obj_rules}
use Rattle.sw_peer.specs.Sights.{Moves, Sight}
use Rattle.sw_state.specs.States.{IsAtLeast, together}
use Rattle.sw_state.specs.declared.state.State.{State}
use Rattle.sw_step.specs.Rules.{stands}
use Rattle.sw_suffix.specs.SuffixTexts.{suffix_text}
use Rattle.sw_suffix.specs.declared.dir_line.DirLine.{DirLine}

-- what is known of a device's lock that has the partition
abbrev pub known : Sight → ℕ → ℕ → ObjHistory
known s device part = s.objects.seen (s.nodes.part_lock device part)

-- the state that a hash stands for by the entries of a lock. Doubts that are not settled don't count
abbrev pub state_by : ObjHistory → Hash → State
state_by h hash = (stands obj_rules h hash).state

-- the state that a device holds under a hash; where the door is alone
abbrev pub state_at : Sight → ℕ → Hash → State
state_at s device hash = (s.objects.holds device hash).state

-- the hashes of this partition at these two devices
abbrev pub IsOfPair : ℕ → ℕ → ℕ → ℕ → ℕ → Hash → Type 0
IsOfPair power from to part d hash = IsOfPart power part hash × ((d ≡ from) ⊎ (d ≡ to))

abbrev pub PairMoves : ℕ → ℕ → ℕ → Sight → Sight → Type 0
PairMoves from to part old new = Moves (IsOfPair old.nodes.power from to part) old new

-- ---- the one way out: two texts that differ and have one MD5

-- a history that a device's lock had between two moments
pub record Between (device part : ℕ) (old new : Sight) (h : ObjHistory) : Type 0 where
  pub after : GrowsOf (known old device part) h
  pub before : GrowsOf h (known new device part)

-- the texts of this suffix of both devices, as they were compared, collide
pub record Collides (from to part suffix : ℕ) (old new : Sight) : Type 0 where
  pub ours : List DirLine
  pub theirs : List DirLine
  pub our_history : ObjHistory
  pub their_history : ObjHistory
  pub ours_were : Between from part old new our_history
  pub theirs_were : Between to part old new their_history
  pub ours_are : AreLines old.nodes.power part suffix true (state_by our_history) ours
  pub theirs_are : AreLines old.nodes.power part suffix true (state_by their_history) theirs
  pub differ : suffix_text ours ≢ suffix_text theirs
  pub collide : md5 (suffix_text ours) ≡ md5 (suffix_text theirs)

-- ---- where the push is done

-- whoever else uses the nodes: the receiver stands for at least what was known of the sender at the start
abbrev pub Reaches : ℕ → ℕ → ℕ → Sight → Sight → Type 0
Reaches from to part old new =
    (known old from part).told ≡ true → (known old to part).told ≡ true → (hash : Hash) → IsOfPart old.nodes.power part hash
    → IsAtLeast (state_by (known new to part) hash) (state_by (known old from part) hash) ⊎ Collides from to part (suffix_of hash) old new

-- nobody else changed the nodes: the receiver holds exactly the join of both, and the sender what it held
abbrev pub Meets : ℕ → ℕ → ℕ → Sight → Sight → Type 0
Meets from to part old new =
    new.alone ≡ true → (known old from part).told ≡ true → (known old to part).told ≡ true → (hash : Hash) → IsOfPart old.nodes.power part hash
    → (new.objects.holds from hash ≡ old.objects.holds from hash)
    × ((state_at new to hash ≡ together (state_at old to hash) (state_at old from hash)) ⊎ Collides from to part (suffix_of hash) old new)
