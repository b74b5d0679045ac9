-- What each part of a push keeps: where it moves, and why something is left.
use Rattle.sw_pass.proofs.Counts.{Counts, HasCause, counts-asking, counts-hindered, counts-hinders, counts-losing, counts-same, counts-sending, counts-trans}
use Rattle.sw_pass.specs.Turns.{InTurn}
use Rattle.std.proofs.Common.{◌≡◌, ◌≢◌, ℕ, Bool, true, false, List, [], ◌∷◌, refl, sym, ◌∙◌, ap, subst, ◌⊎◌, inl, inr, Option, Some, None, Result, Ok, Err}
use Rattle.std.proofs.Common.{IsErr, arith}
use Rattle.std.proofs.lemmas.List.Elements.{All-head, All-tail}
use Rattle.std.specs.Bool.{⊤}
use Rattle.std.specs.List.{All}
use Rattle.std.specs.Prelude.{◌==◌}
use Rattle.std.specs.declared.alloc.Global.{Global}
use Rattle.std.specs.declared.vec.Vec.{Vec}
use Rattle.sw_diskfile.specs.declared.file_name.FileName.{FileName}
use Rattle.sw_diskfile.specs.declared.picking.Picked.{Picked}
use Rattle.sw_outside.specs.Faults.{HasRisen}
use Rattle.sw_outside.specs.declared.errors.NoMemory.{NoMemory}
use Rattle.sw_pass.specs.Outcomes.{Hinders, answer_hindrance, asking, fault_hindrance, finished, losing, nothing_yet, sending}
use Rattle.sw_pass.specs.declared.hindrance.Hindrance.{Hindrance}
use Rattle.sw_pass.specs.declared.hindrance.Hindrance.TheVariants.{Missing}
use Rattle.sw_pass.specs.declared.outcome.Outcome.{Outcome}
use Rattle.sw_object_steps.specs.Journals.{Hash}
use Rattle.sw_object_steps.specs.Parts.{IsOfPart, picked_in}
use Rattle.sw_peer.specs.Sights.{Calls, IsFilesRead, IsHashesRead, IsMade, IsWriteRead, Nodes, Sight}
use Rattle.sw_object_steps.specs.declared.answer.Answer.{Answer}
use Rattle.sw_object_steps.specs.declared.change.Change.{Change}
use Rattle.sw_object_steps.specs.declared.change.Change.TheVariants.{Receive}
use Rattle.sw_object_steps.specs.declared.dir_fault.DirFault.{DirFault}
use Rattle.sw_peer.specs.declared.link.Link.TheVariants.{Local, Sent}
use Rattle.sw_peer.specs.declared.link.Lost.{Lost}
use Rattle.sw_object_steps.specs.declared.stored.Stored.{Stored}
use Rattle.sw_replicator.proofs.Reading.{files-pair, hashes-pair, lines-within, made-pair, pair-same, pair-trans, write-move, write-pair, write-told}
use Rattle.sw_replicator.specs.Causes.{HasCauses}
use Rattle.sw_replicator.specs.Meeting.{PairMoves}
use Rattle.sw_replicator.specs.Pushing.{CountsFor, IsAskedNext, IsBeside, IsCompared, IsFilePushed, IsLinePushed, IsOursPushed, IsPassedOn}
use Rattle.sw_replicator.specs.Pushing.{IsPush, IsRun, IsSentOn, IsSuffixPushed, differing}
use Rattle.sw_suffix.specs.SuffixTexts.{files}
use Rattle.sw_suffix.specs.declared.dir_line.DirLine.{DirLine}
use Rattle.sw_suffix.specs.declared.told.SuffixHash.{SuffixHash}

-- ---- a stretch of a push

module _ (from to part : ℕ) where
  pub record Keeps (s : Sight) (o : Outcome) (t : Sight) (p : Outcome) : Type 0 where
    pub moves : PairMoves from to part s t
    pub counts : Counts s.faults t.faults o p

  keeps-still : (s : Sight) (o : Outcome) (t : Sight) (p : Outcome) → t ≡ s → Counts s.faults t.faults o p → Keeps s o t p
  keeps-still s o t p same counts = record { moves = pair-same from to part s t same; counts = counts }

  pub keeps-trans : (a : Sight) (o : Outcome) (b : Sight) (p : Outcome) (c : Sight) (q : Outcome) → Keeps a o b p → Keeps b p c q → Keeps a o c q
  keeps-trans a o b p c q one two = record {
    moves = pair-trans from to part a b c one.moves two.moves;
    counts = counts-trans a.faults b.faults c.faults o p q one.moves.faults two.moves.faults one.counts two.counts;
  }

  keeps-hinders : (s : Sight) (o : Outcome) (t : Sight) (p : Outcome) (h : Option Hindrance) (on : Bool) → t ≡ s → Hinders h o p on → Keeps s o t p
  keeps-hinders s o t p h on same is = keeps-still s o t p same (counts-hinders s.faults t.faults h o p on is)

  -- nothing is counted of a read that was answered
  keeps-read : (s : Sight) (o : Outcome) (t : Sight) → PairMoves from to part s t → Keeps s o t o
  keeps-read s o t moves = record { moves = moves; counts = counts-same s.faults t.faults o o refl }

  -- ---- a file

  answered : (step : Sight → Answer → Sight → Type 0) (change : Change) (s : Sight) (r : Result Answer Lost) (t : Sight) (o p : Outcome) (on : Bool)
      → Calls step s Sent r t → CountsFor change r o p on → Counts s.faults t.faults o p
  answered step change s (Ok answer) t o p on call (inl held) = counts-same s.faults t.faults o p held.1
  answered step change s (Ok answer) t o p on call (inr hinders) = counts-hinders s.faults t.faults (answer_hindrance answer) o p on hinders.1
  answered step change s (Err lost) t o p on call counts =
      subst (λ (x : Outcome). Counts s.faults t.faults o x) (sym counts.0) (counts-losing s.faults t.faults o call.1)

  passed-keeps : (got : Result (Option Stored) DirFault) (s : Sight) (o : Outcome) (t : Sight) (p : Outcome) (on : Bool)
      → ((stored : Stored) → got ≡ Ok (Some stored) → IsOfPart s.nodes.power part stored.name.hash) → IsPassedOn from to part got s o t p on → Keeps s o t p
  passed-keeps (Ok (Some stored)) s o t p on within is = record {
    moves = made;
    counts = counts-trans s.faults s.faults t.faults o (sending o) p (omega arith) made.faults (counts-sending s.faults s.faults o)
        (answered (IsMade Sent to stored.name (Receive stored.write)) (Receive stored.write) s is.0 t (sending o) p on is.1 is.2);
  }
    where
      made : PairMoves from to part s t
      made = made-pair from to part stored.name (Receive stored.write) s is.0 t (within stored refl) is.1
  passed-keeps (Ok None) s o t p on within is =
      keeps-still s o t p is.0 (subst (λ (x : Outcome). Counts s.faults t.faults o x) (sym is.1) (counts-hindered s.faults t.faults o Missing))
  passed-keeps (Err fault) s o t p on within is = keeps-hinders s o t p (fault_hindrance fault) on is.0 is.1

  -- what was read of a hash of the partition is of it
  stored-within : (hash : Hash) (file : FileName) (s : Sight) (got : Result (Option Stored) DirFault) (t : Sight) → IsOfPart s.nodes.power part hash
      → Calls (IsWriteRead Local from part hash file) s Local (Ok got) t → (stored : Stored) → got ≡ Ok (Some stored)
      → IsOfPart t.nodes.power part stored.name.hash
  stored-within hash file s got t within call stored same =
      let is = write-told from part hash file s (Some stored) t
      (subst (λ (x : Result (Option Stored) DirFault). Calls (IsWriteRead Local from part hash file) s Local (Ok x) t) same call) within in
      subst (λ (n : Nodes). IsOfPart n.power part stored.name.hash) (sym (write-move from part hash file s (Ok got) t call).nodes)
      (subst (λ (h : Hash). IsOfPart s.nodes.power part h) (sym is.hash_is) within)

  sent-keeps : (hash : Hash) (file : FileName) (s : Sight) (o : Outcome) (t : Sight) (p : Outcome) (on : Bool) → IsOfPart s.nodes.power part hash
      → IsSentOn from to part hash file s o t p on → Keeps s o t p
  sent-keeps hash file s o t p on within is =
      keeps-trans s o is.1 o t p
      (keeps-read s o is.1 (write-pair from part hash file from to (inl refl) s (Ok is.0) is.1 is.2))
      (passed-keeps is.0 is.1 o t p on (stored-within hash file s is.0 is.1 within is.2) is.3)

  pub file-keeps : (theirs : Picked) (hash : Hash) (file : FileName) (s : Sight) (o : Outcome) (t : Sight) (p : Outcome) (on : Bool)
      → IsOfPart s.nodes.power part hash
      → IsFilePushed from to part theirs hash file s o t p on → Keeps s o t p
  file-keeps theirs hash file s o t p on within (inl other) = keeps-still s o t p other.1 (counts-same s.faults t.faults o p other.2)
  file-keeps theirs hash file s o t p on within (inr wanted) = sent-keeps hash file s o t p on within wanted.1

  -- ---- lists

  turn-keeps : {A : Type 0} (one : A → Sight → Outcome → Sight → Outcome → Bool → Type 0) (power : ℕ) (P : A → Type 0)
      → ((x : A) (s : Sight) (o : Outcome) (t : Sight) (p : Outcome) (on : Bool) → s.nodes.power ≡ power → P x → one x s o t p on → Keeps s o t p)
      → (xs : List A) (s : Sight) (o : Outcome) (t : Sight) (p : Outcome) (on : Bool) → s.nodes.power ≡ power → All P xs → InTurn one xs s o t p on
      → Keeps s o t p
  turn-keeps {A} one power P each [] s o t p on here all is = keeps-still s o t p is.0 (counts-same s.faults t.faults o p is.1)
  turn-keeps {A} one power P each (x ∷ xs) s o t p on here all (inl went) =
      let first = each x s o went.0 went.1 true here (All-head P x xs all) went.2 in
      keeps-trans s o went.0 went.1 t p first
      (turn-keeps one power P each xs went.0 went.1 t p on (ap (λ (n : Nodes). n.power) first.moves.nodes ∙ here) (All-tail P x xs all) went.3)
  turn-keeps {A} one power P each (x ∷ xs) s o t p on here all (inr stopped) = each x s o t p false here (All-head P x xs all) stopped.0

  pub files-keep : (theirs : Picked) (hash : Hash) (xs : List FileName) (s : Sight) (o : Outcome) (t : Sight) (p : Outcome) (on : Bool)
      → IsOfPart s.nodes.power part hash
      → InTurn (IsFilePushed from to part theirs hash) xs s o t p on → Keeps s o t p
  files-keep theirs hash xs s o t p on within is =
      turn-keeps (IsFilePushed from to part theirs hash) s.nodes.power (λ file. ⊤)
      (λ file a b c d e here any step. file-keeps theirs hash file a b c d e (subst (λ (n : ℕ). IsOfPart n part hash) (sym here) within) step)
      xs s o t p on refl (λ k d within. record {}) is

  pub lines-keep : (theirs lines : List DirLine) (s : Sight) (o : Outcome) (t : Sight) (p : Outcome) (on : Bool)
      → All (λ line. IsOfPart s.nodes.power part line.hash) lines
      → InTurn (IsLinePushed from to part theirs) lines s o t p on → Keeps s o t p
  lines-keep theirs lines s o t p on within is =
      turn-keeps (IsLinePushed from to part theirs) s.nodes.power (λ line. IsOfPart s.nodes.power part line.hash)
      (λ line a b c d e here own step. files-keep (picked_in theirs line.hash) line.hash (files line.picked) a b c d e
      (subst (λ (n : ℕ). IsOfPart n part line.hash) (sym here) own) step)
      lines s o t p on refl within is

  -- ---- a suffix

  ours-keep : (suffix : ℕ) (theirs : List DirLine) (ours : Result (Vec DirLine Global) DirFault) (s : Sight) (o : Outcome) (mid : Sight) (t : Sight)
      (p : Outcome) (on : Bool)
      → Calls (IsFilesRead Local from part suffix) s Local (Ok ours) mid → IsOursPushed from to part theirs ours mid o t p on → Keeps mid o t p
  ours-keep suffix theirs (Ok ours) s o mid t p on call is =
      lines-keep theirs ours.items mid o t p on (lines-within Local from part suffix s ours mid call) is
  ours-keep suffix theirs (Err fault) s o mid t p on call is = keeps-hinders mid o t p (fault_hindrance fault) on is.0 is.1

  asked-keeps : (s : Sight) (o : Outcome) (t : Sight) → PairMoves from to part s t → Keeps s o t (asking o)
  asked-keeps s o t moves = record { moves = moves; counts = counts-asking s.faults t.faults o }

  lost-keeps : (s : Sight) (o : Outcome) (mid t : Sight) (p : Outcome) → PairMoves from to part s mid → HasRisen s.faults mid.faults → t ≡ mid
      → p ≡ losing (asking o) → Keeps s o t p
  lost-keeps s o mid t p moves risen same is =
      subst (λ (x : Sight). Keeps s o x p) (sym same) (subst (λ (q : Outcome). Keeps s o mid q) (sym is) (record {
        moves = moves;
        counts = counts-trans s.faults s.faults mid.faults o (asking o) (losing (asking o)) (omega arith) moves.faults (counts-asking s.faults s.faults o)
            (counts-losing s.faults mid.faults (asking o) risen);
      }))

  beside-keeps : (suffix : ℕ) (theirs : Result (Result (Vec DirLine Global) DirFault) Lost) (s : Sight) (o : Outcome) (mid t : Sight) (p : Outcome) (on : Bool)
      → Calls (IsFilesRead Sent to part suffix) s Sent theirs mid → IsBeside from to part suffix theirs mid (asking o) t p on → Keeps s o t p
  beside-keeps suffix (Ok (Ok theirs)) s o mid t p on call is =
      keeps-trans s o mid (asking o) t p (asked-keeps s o mid (files-pair Sent to part suffix from to (inr refl) s (Ok (Ok theirs)) mid call))
      (keeps-trans mid (asking o) is.1 (asking o) t p
      (keeps-read mid (asking o) is.1 (files-pair Local from part suffix from to (inl refl) mid (Ok is.0) is.1 is.2))
      (ours-keep suffix theirs.items is.0 mid (asking o) is.1 t p on is.2 is.3))
  beside-keeps suffix (Ok (Err fault)) s o mid t p on call is =
      keeps-trans s o mid (asking o) t p (asked-keeps s o mid (files-pair Sent to part suffix from to (inr refl) s (Ok (Err fault)) mid call))
      (keeps-hinders mid (asking o) t p (fault_hindrance fault) on is.0 is.1)
  beside-keeps suffix (Err lost) s o mid t p on call is =
      lost-keeps s o mid t p (files-pair Sent to part suffix from to (inr refl) s (Err lost) mid call) call.1 is.0 is.1

  pub suffix-keeps : (one : SuffixHash) (s : Sight) (o : Outcome) (t : Sight) (p : Outcome) (on : Bool) → IsSuffixPushed from to part one s o t p on
      → Keeps s o t p
  suffix-keeps one s o t p on is = beside-keeps one.suffix is.0 s o is.1 t p on is.2 is.3

  pub suffixes-keep : (xs : List SuffixHash) (s : Sight) (o : Outcome) (t : Sight) (p : Outcome) (on : Bool)
      → InTurn (IsSuffixPushed from to part) xs s o t p on → Keeps s o t p
  suffixes-keep xs s o t p on is =
      turn-keeps (IsSuffixPushed from to part) s.nodes.power (λ one. ⊤) (λ one a b c d e here any step. suffix-keeps one a b c d e step) xs s o t p on refl
      (λ k d within. record {}) is

  -- ---- the whole

  compared-keeps : (ours : List SuffixHash) (theirs : Result (Result (Vec SuffixHash Global) DirFault) Lost) (s : Sight) (o : Outcome) (mid t : Sight)
      (p : Outcome) (on : Bool)
      → Calls (IsHashesRead Sent to part) s Sent theirs mid → IsCompared from to part ours theirs mid (asking o) t p on → Keeps s o t p
  compared-keeps ours (Ok (Ok theirs)) s o mid t p on call is =
      keeps-trans s o mid (asking o) t p (asked-keeps s o mid (hashes-pair Sent to part from to (inr refl) s (Ok (Ok theirs)) mid call))
      (suffixes-keep (differing ours theirs.items) mid (asking o) t p on is)
  compared-keeps ours (Ok (Err fault)) s o mid t p on call is =
      keeps-trans s o mid (asking o) t p (asked-keeps s o mid (hashes-pair Sent to part from to (inr refl) s (Ok (Err fault)) mid call))
      (keeps-hinders mid (asking o) t p (fault_hindrance fault) on is.0 is.1)
  compared-keeps ours (Err lost) s o mid t p on call is =
      lost-keeps s o mid t p (hashes-pair Sent to part from to (inr refl) s (Err lost) mid call) call.1 is.0 is.1

  asked-next-keeps : (ours : Result (Vec SuffixHash Global) DirFault) (s : Sight) (o : Outcome) (t : Sight) (p : Outcome) (on : Bool)
      → IsAskedNext from to part ours s o t p on → Keeps s o t p
  asked-next-keeps (Ok ours) s o t p on is = compared-keeps ours.items is.0 s o is.1 t p on is.2 is.3
  asked-next-keeps (Err fault) s o t p on is = keeps-hinders s o t p (fault_hindrance fault) on is.0 is.1

  pub run-keeps : (s t : Sight) (p : Outcome) (on : Bool) → IsRun from to part s t p on → Keeps s nothing_yet t p
  run-keeps s t p on is =
      keeps-trans s nothing_yet is.1 nothing_yet t p (keeps-read s nothing_yet is.1 (hashes-pair Local from part from to (inl refl) s (Ok is.0) is.1 is.2))
      (asked-next-keeps is.0 is.1 nothing_yet t p on is.3)

-- why a push isn't done
pub run-causes : (from to part : ℕ) (s t : Sight) (p : Outcome) (on : Bool) → IsRun from to part s t p on → HasCauses s t (finished p)
run-causes from to part s t p on is = record {
  done = refl;
  lost = λ some. losses some (run-keeps from to part s t p on is).counts.lost;
  hindered = λ undone. causes undone (run-keeps from to part s t p on is).counts.left;
}
  where
    losses : p.lost ≢ 0 → (p.lost ≡ 0) ⊎ HasRisen s.faults t.faults → HasRisen s.faults t.faults
    losses some (inl none) = absurd (some none)
    losses some (inr risen) = risen

    apart : true ≡ false → ⊥
    apart same = cc

    causes : (p.left == 0) ≡ false → (p.left ≡ 0) ⊎ HasCause p → HasCause p
    causes undone (inl none) = absurd (apart (sym (ap (λ (n : ℕ). n == 0) none) ∙ undone))
    causes undone (inr cause) = cause

-- a push that ended without memory
pub push-ended : (from to part : ℕ) (r : Result Outcome NoMemory) (s t : Sight) (p : Outcome) → IsErr r → IsRun from to part s t p false
    → IsPush from to part s r t
push-ended from to part (Ok outcome) s t p err is = cc
push-ended from to part (Err wanting) s t p err is = (p, is)
