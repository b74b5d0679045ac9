-- No step at an object or a container tells of a restart: so no push does.
use Rattle.sw_pass.specs.Turns.{InTurn}
use Rattle.std.proofs.Common.{◌≡◌, ℕ, Bool, true, false, List, [], ◌∷◌, ◌++◌, refl, ◌∙◌, ap, inl, inr, Option, Some, None, Result, Ok, Err, arith}
use Rattle.std.specs.Option.{option_map}
use Rattle.std.specs.declared.alloc.Global.{Global}
use Rattle.std.specs.declared.vec.Vec.{Vec}
use Rattle.sw_container_steps.specs.declared.cont_answer.ContAnswer.{ContAnswer}
use Rattle.sw_container_steps.specs.declared.cont_change.ContChange.{ContChange}
use Rattle.sw_hashpath.specs.declared.place.Place.{Place}
use Rattle.sw_peer.specs.ContSights.{IsContMade}
use Rattle.sw_diskfile.specs.declared.file_name.FileName.{FileName}
use Rattle.sw_diskfile.specs.declared.picking.Picked.{Picked}
use Rattle.sw_hashpath.specs.declared.name.Name.{Name}
use Rattle.sw_outside.specs.declared.errors.NoMemory.{NoMemory}
use Rattle.sw_pass.specs.Outcomes.{asking, nothing_yet}
use Rattle.sw_pass.specs.declared.outcome.Outcome.{Outcome}
use Rattle.sw_object_steps.specs.Journals.{Hash}
use Rattle.sw_object_steps.specs.Parts.{picked_in}
use Rattle.sw_peer.specs.Sights.{Calls, Comes, IsFilesRead, IsHashesRead, IsMade, IsPartRead, IsSame, IsWriteRead, Nodes, Sight, Trails}
use Rattle.sw_object_steps.specs.declared.answer.Answer.{Answer}
use Rattle.sw_object_steps.specs.declared.change.Change.{Change}
use Rattle.sw_object_steps.specs.declared.dir_fault.DirFault.{DirFault}
use Rattle.sw_peer.specs.declared.line.Line.{Line}
use Rattle.sw_peer.specs.declared.link.Link.{Link}
use Rattle.sw_peer.specs.declared.link.Link.TheVariants.{Local, Sent}
use Rattle.sw_peer.specs.declared.link.Lost.{Lost}
use Rattle.sw_peer.specs.declared.part_read.PartRead.{PartRead}
use Rattle.sw_object_steps.specs.declared.stored.Stored.{Stored}
use Rattle.sw_replicator.specs.Pushing.{IsAskedNext, IsBeside, IsCompared, IsFilePushed, IsLinePushed, IsOursPushed, IsPassedOn, IsPush, IsRun}
use Rattle.sw_replicator.specs.Pushing.{IsSuffixPushed, differing}
use Rattle.sw_state.specs.declared.state.State.{State}
use Rattle.sw_suffix.specs.SuffixTexts.{files}
use Rattle.sw_suffix.specs.declared.dir_line.DirLine.{DirLine}
use Rattle.sw_suffix.specs.declared.told.SuffixHash.{SuffixHash}
use Rattle.sw_nodes.proofs.Restarting.{one-line}
use Rattle.sw_nodes.specs.Restarts.{restarts_in, restarts_of}

-- the trail tells as many restarts as it did
abbrev pub IsCalm : Sight → Sight → Type 0
IsCalm s t = option_map restarts_in t.trail ≡ option_map restarts_in s.trail

pub calm-same : (s t : Sight) → t ≡ s → IsCalm s t
calm-same s t same = ap (λ (x : Sight). option_map restarts_in x.trail) same

pub calm-still : (s t : Sight) → IsSame s t → IsCalm s t
calm-still s t same = ap (λ (x : Sight). option_map restarts_in x.trail) same.same

pub calm-join : (a b c : Sight) → IsCalm a b → IsCalm b c → IsCalm a c
calm-join a b c p q = q ∙ p

-- ---- one step

-- one line more, which tells of no restart
calm-line : (lines : Option (List Line)) (line : Line) → restarts_of line.event ≡ 0
    → option_map restarts_in (option_map (λ ls. ls ++ line ∷ []) lines) ≡ option_map restarts_in lines
calm-line None line none = refl
calm-line (Some lines) line none =
    let one = one-line lines line in
    ap Some (let e : restarts_in (lines ++ line ∷ []) ≡ restarts_in lines = omega (arith, one, none) in e)

pub calm-trails : (s t : Sight) (line : Line) (wanting : Bool) → restarts_of line.event ≡ 0 → Trails s line wanting t → IsCalm s t
calm-trails s t line wanting none (inl kept) = ap (option_map restarts_in) kept ∙ calm-line s.trail line none
calm-trails s t line wanting none (inr same) = calm-still s t same.1

module _ {A : Type 0} (step : Sight → A → Sight → Type 0) (calm : (s : Sight) (x : A) (t : Sight) → step s x t → IsCalm s t) where
  calm-comes : (s : Sight) (xs : List A) (t : Sight) → Comes step s xs t → IsCalm s t
  calm-comes s [] t p = calm-still s t p
  calm-comes s (x ∷ xs) t p = calm-join s p.0 t (calm s x p.0 p.1) (calm-comes p.0 xs t p.2)

  pub calm-calls : (s : Sight) (link : Link) (r : Result A Lost) (t : Sight) → Calls step s link r t → IsCalm s t
  calm-calls s link (Ok x) t p = calm-comes s (p.0 ++ x ∷ []) t p.2
  calm-calls s link (Err lost) t p = calm-comes s p.2.0 t p.2.1

pub made-calm : (link : Link) (device : ℕ) (name : Name) (change : Change) (s : Sight) (r : Result Answer Lost) (t : Sight)
    → Calls (IsMade link device name change) s link r t → IsCalm s t
made-calm link device name change s r t p =
    calm-calls (IsMade link device name change) (λ a x b made. calm-trails a b _ _ refl made.trail) s link r t p

part-calm : {A : Type 0} (link : Link) (device part : ℕ) (at : Nodes → Hash → Bool) (damages : Bool) (reading : Nodes → Bool → (Hash → State) → A → Type 0)
    (read : Result A DirFault → PartRead) (s : Sight) (r : Result (Result A DirFault) Lost) (t : Sight)
    → Calls (IsPartRead link device part at damages reading read) s link r t → IsCalm s t
part-calm {A} link device part at damages reading read s r t p =
    calm-calls (IsPartRead link device part at damages reading read) (λ a x b made. calm-trails a b _ _ refl made.trail) s link r t p

hashes-calm : (link : Link) (device part : ℕ) (s : Sight) (r : Result (Result (Vec SuffixHash Global) DirFault) Lost) (t : Sight)
    → Calls (IsHashesRead link device part) s link r t → IsCalm s t
hashes-calm link device part s r t p = part-calm link device part _ _ _ _ s r t p

files-calm : (link : Link) (device part suffix : ℕ) (s : Sight) (r : Result (Result (Vec DirLine Global) DirFault) Lost) (t : Sight)
    → Calls (IsFilesRead link device part suffix) s link r t → IsCalm s t
files-calm link device part suffix s r t p = part-calm link device part _ _ _ _ s r t p

write-calm : (device part : ℕ) (hash : Hash) (file : FileName) (s : Sight) (r : Result (Result (Option Stored) DirFault) Lost) (t : Sight)
    → Calls (IsWriteRead Local device part hash file) s Local r t → IsCalm s t
write-calm device part hash file s r t p = part-calm Local device part _ _ _ _ s r t p

-- several things, one after the other
pub turn-calm : {A : Type 0} (one : A → Sight → Outcome → Sight → Outcome → Bool → Type 0)
    → ((x : A) (s : Sight) (o : Outcome) (t : Sight) (p : Outcome) (on : Bool) → one x s o t p on → IsCalm s t)
    → (xs : List A) (s : Sight) (o : Outcome) (t : Sight) (p : Outcome) (on : Bool) → InTurn one xs s o t p on → IsCalm s t
turn-calm {A} one each [] s o t p on is = calm-same s t is.0
turn-calm {A} one each (x ∷ xs) s o t p on (inl went) =
    calm-join s went.0 t (each x s o went.0 went.1 true went.2) (turn-calm one each xs went.0 went.1 t p on went.3)
turn-calm {A} one each (x ∷ xs) s o t p on (inr stopped) = each x s o t p false stopped.0

-- ---- a push, whatever came of it

module _ (from to part : ℕ) where
  passed-calm : (got : Result (Option Stored) DirFault) (s : Sight) (o : Outcome) (t : Sight) (p : Outcome) (on : Bool) →
      IsPassedOn from to part got s o t p on → IsCalm s t
  passed-calm (Ok (Some stored)) s o t p on is = made-calm Sent to stored.name _ s is.0 t is.1
  passed-calm (Ok None) s o t p on is = calm-same s t is.0
  passed-calm (Err fault) s o t p on is = calm-same s t is.0

  file-calm : (theirs : Picked) (hash : Hash) (file : FileName) (s : Sight) (o : Outcome) (t : Sight) (p : Outcome) (on : Bool)
      → IsFilePushed from to part theirs hash file s o t p on → IsCalm s t
  file-calm theirs hash file s o t p on (inl other) = calm-same s t other.1
  file-calm theirs hash file s o t p on (inr wanted) =
      let sent = wanted.1 in
      calm-join s sent.1 t (write-calm from part hash file s (Ok sent.0) sent.1 sent.2) (passed-calm sent.0 sent.1 o t p on sent.3)

  line-calm : (theirs : List DirLine) (line : DirLine) (s : Sight) (o : Outcome) (t : Sight) (p : Outcome) (on : Bool)
      → IsLinePushed from to part theirs line s o t p on → IsCalm s t
  line-calm theirs line s o t p on is =
      turn-calm (IsFilePushed from to part (picked_in theirs line.hash) line.hash) (file-calm (picked_in theirs line.hash) line.hash) (files line.picked) s o t
      p on is

  ours-calm : (theirs : List DirLine) (ours : Result (Vec DirLine Global) DirFault) (s : Sight) (o : Outcome) (t : Sight) (p : Outcome) (on : Bool)
      → IsOursPushed from to part theirs ours s o t p on → IsCalm s t
  ours-calm theirs (Ok ours) s o t p on is = turn-calm (IsLinePushed from to part theirs) (line-calm theirs) ours.items s o t p on is
  ours-calm theirs (Err fault) s o t p on is = calm-same s t is.0

  beside-calm : (suffix : ℕ) (theirs : Result (Result (Vec DirLine Global) DirFault) Lost) (s : Sight) (o : Outcome) (t : Sight) (p : Outcome) (on : Bool)
      → IsBeside from to part suffix theirs s o t p on → IsCalm s t
  beside-calm suffix (Ok (Ok theirs)) s o t p on is =
      calm-join s is.1 t (files-calm Local from part suffix s (Ok is.0) is.1 is.2) (ours-calm theirs.items is.0 is.1 o t p on is.3)
  beside-calm suffix (Ok (Err fault)) s o t p on is = calm-same s t is.0
  beside-calm suffix (Err lost) s o t p on is = calm-same s t is.0

  suffix-calm : (one : SuffixHash) (s : Sight) (o : Outcome) (t : Sight) (p : Outcome) (on : Bool) → IsSuffixPushed from to part one s o t p on → IsCalm s t
  suffix-calm one s o t p on is =
      calm-join s is.1 t (files-calm Sent to part one.suffix s is.0 is.1 is.2) (beside-calm one.suffix is.0 is.1 (asking o) t p on is.3)

  compared-calm : (ours : List SuffixHash) (theirs : Result (Result (Vec SuffixHash Global) DirFault) Lost) (s : Sight) (o : Outcome) (t : Sight) (p : Outcome)
      (on : Bool) → IsCompared from to part ours theirs s o t p on → IsCalm s t
  compared-calm ours (Ok (Ok theirs)) s o t p on is =
      turn-calm (IsSuffixPushed from to part) suffix-calm (differing ours theirs.items) s o t p on is
  compared-calm ours (Ok (Err fault)) s o t p on is = calm-same s t is.0
  compared-calm ours (Err lost) s o t p on is = calm-same s t is.0

  asked-calm : (ours : Result (Vec SuffixHash Global) DirFault) (s : Sight) (o : Outcome) (t : Sight) (p : Outcome) (on : Bool)
      → IsAskedNext from to part ours s o t p on → IsCalm s t
  asked-calm (Ok ours) s o t p on is =
      calm-join s is.1 t (hashes-calm Sent to part s is.0 is.1 is.2) (compared-calm ours.items is.0 is.1 (asking o) t p on is.3)
  asked-calm (Err fault) s o t p on is = calm-same s t is.0

  run-calm : (s t : Sight) (p : Outcome) (on : Bool) → IsRun from to part s t p on → IsCalm s t
  run-calm s t p on is =
      calm-join s is.1 t (hashes-calm Local from part s (Ok is.0) is.1 is.2) (asked-calm is.0 is.1 nothing_yet t p on is.3)

  pub push-calm : (s : Sight) (result : Result Outcome NoMemory) (t : Sight) → IsPush from to part s result t → IsCalm s t
  push-calm s (Ok outcome) t push = run-calm s t push.0 true push.1
  push-calm s (Err wanting) t push = run-calm s t push.0 false push.1

-- ---- the same of a step at a container

pub changed-calm : (link : Link) (device : ℕ) (place : Place) (change : ContChange) (s : Sight) (r : Result ContAnswer Lost) (t : Sight)
    → Calls (IsContMade link device place change) s link r t → IsCalm s t
changed-calm link device place change s r t p =
    calm-calls (IsContMade link device place change) (λ a x b made. calm-trails a b _ _ refl made.trail) s link r t p
