-- The push of a partition from one device to another, over any door: the calls that it makes, one after the other, and what it counts.
-- (OpenStack Swift's object replicator pushes the suffixes whose hashes differ; what of them is sent, and in which order, is this
-- project's own.)
use Rattle.std.specs.Prelude.{◌≡◌, ℕ, Bool, true, false, not, filter, List, Option, None, Some, ◌⊎◌, Result, Ok, Err}
use Rattle.std.specs.Str.{bytes_eq}
use Rattle.std.specs.declared.alloc.Global.{Global}
use Rattle.std.specs.declared.vec.Vec.{Vec}
use Rattle.sw_diskfile.specs.declared.file_name.FileName.{FileName}
use Rattle.sw_diskfile.specs.declared.picking.Picked.{Picked}
use Rattle.sw_pass.specs.Outcomes.{Hinders, answer_hindrance, asking, fault_hindrance, finished, hindered, losing, nothing_yet, sending}
use Rattle.sw_pass.specs.Turns.{InTurn}
use Rattle.sw_outside.specs.declared.errors.NoMemory.{NoMemory}
use Rattle.sw_pass.specs.declared.hindrance.Hindrance.TheVariants.{Missing}
use Rattle.sw_pass.specs.declared.outcome.Outcome.{Outcome}
use Rattle.sw_object_steps.specs.Journals.{Hash}
use Rattle.sw_object_steps.specs.Outlines.{is_new_to, picked_outline}
use Rattle.sw_object_steps.specs.Parts.{md5_in, picked_in}
use Rattle.sw_peer.specs.Sights.{Calls, IsFilesRead, IsHashesRead, IsMade, IsWriteRead, Sight}
use Rattle.sw_object_steps.specs.Steps.{is_held}
use Rattle.sw_object_steps.specs.declared.answer.Answer.{Answer}
use Rattle.sw_object_steps.specs.declared.change.Change.{Change}
use Rattle.sw_object_steps.specs.declared.change.Change.TheVariants.{Receive}
use Rattle.sw_object_steps.specs.declared.dir_fault.DirFault.{DirFault}
use Rattle.sw_peer.specs.declared.link.Link.TheVariants.{Local, Sent}
use Rattle.sw_peer.specs.declared.link.Lost.{Lost}
use Rattle.sw_object_steps.specs.declared.stored.Stored.{Stored}
use Rattle.sw_suffix.specs.SuffixTexts.{files}
use Rattle.sw_suffix.specs.declared.dir_line.DirLine.{DirLine}
use Rattle.sw_suffix.specs.declared.told.SuffixHash.{SuffixHash}

-- ---- what is compared

abbrev pub is_same_md5 : Option (List ℕ) → List ℕ → Bool
is_same_md5 None md5 = false
is_same_md5 (Some other) md5 = bytes_eq other md5

-- the suffixes of the sender whose MD5 isn't the receiver's, or that the receiver lacks
abbrev pub differing : List SuffixHash → List SuffixHash → List SuffixHash
differing ours theirs = filter (λ one. not (is_same_md5 (md5_in theirs one.suffix) one.md5)) ours

-- whether a receiver that told these files of the hash lacks what is in a file of this name
abbrev pub is_wanted : Picked → FileName → Bool
is_wanted theirs file = is_new_to (picked_outline theirs) file.time file.tag

-- ---- counts

-- what the answer of a transfer counts for: it is acknowledged where the receiver has the write now, or had it
abbrev pub CountsFor : Change → Result Answer Lost → Outcome → Outcome → Bool → Type 0
CountsFor change (Ok answer) o p on =
    ((is_held change answer ≡ true) × (p ≡ o) × (on ≡ true))
    ⊎ ((is_held change answer ≡ false) × Hinders (answer_hindrance answer) o p on)
CountsFor change (Err lost) o p on = (p ≡ losing o) × (on ≡ true)

-- ---- the calls of a push, in their order

module _ (from to part : ℕ) where
  -- what was read of a file is sent. Where it is gone the push is hindered, since what came in its place wasn't listed
  abbrev pub IsPassedOn : Result (Option Stored) DirFault → Sight → Outcome → Sight → Outcome → Bool → Type 0
  IsPassedOn (Ok (Some stored)) s o t p on =
      (answer : Result Answer Lost) × Calls (IsMade Sent to stored.name (Receive stored.write)) s Sent answer t
      × CountsFor (Receive stored.write) answer (sending o) p on
  IsPassedOn (Ok None) s o t p on = (t ≡ s) × (p ≡ hindered o Missing) × (on ≡ true)
  IsPassedOn (Err fault) s o t p on = (t ≡ s) × Hinders (fault_hindrance fault) o p on

  -- a file that the receiver lacks is read at the sender itself
  abbrev pub IsSentOn : Hash → FileName → Sight → Outcome → Sight → Outcome → Bool → Type 0
  IsSentOn hash file s o t p on =
      (got : Result (Option Stored) DirFault) × (mid : Sight) × Calls (IsWriteRead Local from part hash file) s Local (Ok got) mid
      × IsPassedOn got mid o t p on

  -- a file of a hash of which the receiver told these
  abbrev pub IsFilePushed : Picked → Hash → FileName → Sight → Outcome → Sight → Outcome → Bool → Type 0
  IsFilePushed theirs hash file s o t p on =
      ((is_wanted theirs file ≡ false) × (t ≡ s) × (p ≡ o) × (on ≡ true))
      ⊎ ((is_wanted theirs file ≡ true) × IsSentOn hash file s o t p on)

  -- the files of a hash, base before meta
  abbrev pub IsLinePushed : List DirLine → DirLine → Sight → Outcome → Sight → Outcome → Bool → Type 0
  IsLinePushed theirs line = InTurn (IsFilePushed (picked_in theirs line.hash) line.hash) (files line.picked)

  -- a suffix: the hashes of the sender in order
  abbrev pub IsOursPushed : List DirLine → Result (Vec DirLine Global) DirFault → Sight → Outcome → Sight → Outcome → Bool → Type 0
  IsOursPushed theirs (Ok ours) s o t p on = InTurn (IsLinePushed theirs) ours.items s o t p on
  IsOursPushed theirs (Err fault) s o t p on = (t ≡ s) × Hinders (fault_hindrance fault) o p on

  -- where the receiver's files were answered, the sender's are read at the sender itself
  abbrev pub IsBeside : ℕ → Result (Result (Vec DirLine Global) DirFault) Lost → Sight → Outcome → Sight → Outcome → Bool → Type 0
  IsBeside suffix (Ok (Ok theirs)) s o t p on =
      (ours : Result (Vec DirLine Global) DirFault) × (mid : Sight) × Calls (IsFilesRead Local from part suffix) s Local (Ok ours) mid
      × IsOursPushed theirs.items ours mid o t p on
  IsBeside suffix (Ok (Err fault)) s o t p on = (t ≡ s) × Hinders (fault_hindrance fault) o p on
  IsBeside suffix (Err lost) s o t p on = (t ≡ s) × (p ≡ losing o) × (on ≡ true)

  -- the receiver's files of the suffix are asked for in a message
  abbrev pub IsSuffixPushed : SuffixHash → Sight → Outcome → Sight → Outcome → Bool → Type 0
  IsSuffixPushed one s o t p on =
      (theirs : Result (Result (Vec DirLine Global) DirFault) Lost) × (mid : Sight) × Calls (IsFilesRead Sent to part one.suffix) s Sent theirs mid
      × IsBeside one.suffix theirs mid (asking o) t p on

  -- where both hashes were answered, the suffixes that differ follow in order
  abbrev pub IsCompared : List SuffixHash → Result (Result (Vec SuffixHash Global) DirFault) Lost → Sight → Outcome → Sight → Outcome → Bool → Type 0
  IsCompared ours (Ok (Ok theirs)) s o t p on = InTurn IsSuffixPushed (differing ours theirs.items) s o t p on
  IsCompared ours (Ok (Err fault)) s o t p on = (t ≡ s) × Hinders (fault_hindrance fault) o p on
  IsCompared ours (Err lost) s o t p on = (t ≡ s) × (p ≡ losing o) × (on ≡ true)

  -- the receiver's hashes are asked for in a message
  abbrev pub IsAskedNext : Result (Vec SuffixHash Global) DirFault → Sight → Outcome → Sight → Outcome → Bool → Type 0
  IsAskedNext (Ok ours) s o t p on =
      (theirs : Result (Result (Vec SuffixHash Global) DirFault) Lost) × (mid : Sight) × Calls (IsHashesRead Sent to part) s Sent theirs mid
      × IsCompared ours.items theirs mid (asking o) t p on
  IsAskedNext (Err fault) s o t p on = (t ≡ s) × Hinders (fault_hindrance fault) o p on

  -- the whole: first the sender's hashes are read at the sender itself
  abbrev pub IsRun : Sight → Sight → Outcome → Bool → Type 0
  IsRun s t p on =
      (ours : Result (Vec SuffixHash Global) DirFault) × (mid : Sight) × Calls (IsHashesRead Local from part) s Local (Ok ours) mid
      × IsAskedNext ours mid nothing_yet t p on

  -- and what it is answered
  abbrev pub IsPush : Sight → Result Outcome NoMemory → Sight → Type 0
  IsPush s (Ok outcome) t = (p : Outcome) × IsRun s t p true × (outcome ≡ finished p)
  IsPush s (Err wanting) t = (p : Outcome) × IsRun s t p false
