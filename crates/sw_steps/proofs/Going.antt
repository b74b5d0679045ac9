-- What goes on by the calls of a push at nodes that nobody else changes: the run of the machine, and what the sender holds.
use Rattle.std.proofs.Common.{◌≡◌, ◌≢◌, ℕ, true, List, [], ◌∷◌, ◌++◌, refl, sym, ◌∙◌, ap, subst, inl, Option, Result, Ok, Err}
use Rattle.std.specs.Prelude.{Contains}
use Rattle.std.specs.declared.alloc.Global.{Global}
use Rattle.std.specs.declared.vec.Vec.{Vec}
use Rattle.sw_diskfile.specs.declared.file_name.FileName.{FileName}
use Rattle.sw_hashpath.specs.declared.name.Name.{Name}
use Rattle.sw_machine.proofs.Doors.{files-reads, hashes-reads, object-changes, write-reads}
use Rattle.sw_machine.proofs.Going.{leaving-join, leaving-same}
use Rattle.sw_machine.specs.Doors.{RunsOnLeaving, StandsFor}
use Rattle.sw_machine.specs.Machine.{Machine}
use Rattle.sw_machine.specs.Messages.{Write_of}
use Rattle.sw_machine.specs.Sides.{TellsAt}
use Rattle.sw_object_steps.specs.Halves.{ObjHalf}
use Rattle.sw_object_steps.specs.Journals.{Hash}
use Rattle.sw_object_steps.specs.Parts.{IsOfPart}
use Rattle.sw_object_steps.specs.declared.answer.Answer.{Answer}
use Rattle.sw_object_steps.specs.declared.change.Change.TheVariants.{Receive}
use Rattle.sw_object_steps.specs.declared.dir_fault.DirFault.{DirFault}
use Rattle.sw_object_steps.specs.declared.stored.Stored.{Stored}
use Rattle.sw_peer.proofs.Calls.{calls-moves, made-step, moves-refl, same-refl}
use Rattle.sw_peer.specs.Sights.{Calls, Comes, HoldsAll, IsAt, IsFilesRead, IsHashesRead, IsMade, IsWriteRead, Moves, Nodes, Sight}
use Rattle.sw_peer.specs.declared.link.Link.{Link}
use Rattle.sw_peer.specs.declared.link.Link.TheVariants.{Local, Sent}
use Rattle.sw_peer.specs.declared.link.Lost.{Lost}
use Rattle.sw_replicator.proofs.Reading.{IsOne, files-pair, hashes-pair, made-pair, pair-trans, same-holds, told-before, write-pair}
use Rattle.sw_replicator.specs.Meeting.{IsOfPair, PairMoves, known, state_at}
use Rattle.sw_state.specs.States.{writes_of}
use Rattle.sw_state.specs.declared.write.Write.{Write}
use Rattle.sw_steps.proofs.Leaving.{reads-leave, sent-leaves}
use Rattle.sw_suffix.specs.declared.dir_line.DirLine.{DirLine}
use Rattle.sw_suffix.specs.declared.told.SuffixHash.{SuffixHash}

-- a call of steps that change nothing of what is held
module _ {A : Type 0} (step : Sight → A → Sight → Type 0) (back : (s : Sight) (x : A) (t : Sight) → step s x t → t.alone ≡ true → s.alone ≡ true)
    (holds : (s : Sight) (x : A) (t : Sight) → step s x t → HoldsAll s t) where
  came-back : (s : Sight) (xs : List A) (t : Sight) → Comes step s xs t → t.alone ≡ true → s.alone ≡ true
  came-back s [] t same alone = sym (ap (λ (x : Sight). x.alone) same.same) ∙ alone
  came-back s (x ∷ xs) t comes alone = back s x comes.0 comes.1 (came-back comes.0 xs t comes.2 alone)

  came-holds : (s : Sight) (xs : List A) (t : Sight) → Comes step s xs t → HoldsAll s t
  came-holds s [] t same alone d hash = same-holds s t same alone d hash
  came-holds s (x ∷ xs) t comes alone d hash =
      came-holds comes.0 xs t comes.2 alone d hash ∙ holds s x comes.0 comes.1 (came-back comes.0 xs t comes.2 alone) d hash

  call-holds : (link : Link) (s : Sight) (r : Result A Lost) (t : Sight) → Calls step s link r t → HoldsAll s t
  call-holds link s (Ok x) t calls = came-holds s (calls.0 ++ x ∷ []) t calls.2
  call-holds link s (Err lost) t calls = came-holds s calls.2.0 t calls.2.1

module _ (from to part : ℕ) where
  -- nobody else changes the nodes, and the sender's lock tells what it has
  abbrev pub Sure : Sight → Type 0
  Sure s = (s.alone ≡ true) × ((known s from part).told ≡ true)

  pub record Goes (a b : Sight) : Type 0 where
    pub moves : PairMoves from to part a b
    pub kept : Sure b → (h : Hash) → b.objects.holds from h ≡ a.objects.holds from h
    pub runs : b.alone ≡ true → RunsOnLeaving a b

  pub sure-before : (a b : Sight) → PairMoves from to part a b → Sure b → Sure a
  sure-before a b p sure = (p.alone sure.0, told-before from to part from a b p sure.1)

  pub part-later : (a b : Sight) (h : Hash) → PairMoves from to part a b → IsOfPart a.nodes.power part h → IsOfPart b.nodes.power part h
  part-later a b h p is = subst (λ (n : Nodes). IsOfPart n.power part h) (sym p.nodes) is

  pub goes-same : (a b : Sight) → b ≡ a → Goes a b
  goes-same a b same =
      subst (λ (x : Sight). Goes a x) (sym same)
      (record {
        moves = moves-refl (IsOfPair a.nodes.power from to part) a;
        kept = λ sure h. refl;
        runs = λ alone. leaving-same a a (same-refl a);
      })

  pub goes-join : (a b c : Sight) → Goes a b → Goes b c → Goes a c
  goes-join a b c p q = record {
    moves = pair-trans from to part a b c p.moves q.moves;
    kept = λ sure h. q.kept sure h ∙ p.kept (sure-before b c q.moves sure) h;
    runs = λ alone. leaving-join a b c (p.runs (q.moves.alone alone)) (q.runs alone);
  }

  -- ---- reads

  pub hashes-goes : (link : Link) (d : ℕ) → IsOne from to d → (a : Sight) (r : Result (Result (Vec SuffixHash Global) DirFault) Lost) (b : Sight)
      → Calls (IsHashesRead link d part) a link r b → Goes a b
  hashes-goes link d one a r b p = record {
    moves = hashes-pair link d part from to one a r b p;
    kept = λ sure h. call-holds (IsHashesRead link d part) (λ s x t read. read.moves.alone) (λ s x t read. read.holds_all) link a r b p sure.0 from h;
    runs = λ alone. reads-leave (hashes-reads d part) (λ way got added. refl) link a r b p alone;
  }

  pub files-goes : (link : Link) (d suffix : ℕ) → IsOne from to d → (a : Sight) (r : Result (Result (Vec DirLine Global) DirFault) Lost) (b : Sight)
      → Calls (IsFilesRead link d part suffix) a link r b → Goes a b
  files-goes link d suffix one a r b p = record {
    moves = files-pair link d part suffix from to one a r b p;
    kept = λ sure h. call-holds (IsFilesRead link d part suffix) (λ s x t read. read.moves.alone) (λ s x t read. read.holds_all) link a r b p sure.0 from h;
    runs = λ alone. reads-leave (files-reads d part suffix) (λ way got added. refl) link a r b p alone;
  }

  -- at the sender itself
  pub write-goes : (h : Hash) (file : FileName) (a : Sight) (r : Result (Result (Option Stored) DirFault) Lost) (b : Sight)
      → Calls (IsWriteRead Local from part h file) a Local r b → Goes a b
  write-goes h file a r b p = record {
    moves = write-pair from part h file from to (inl refl) a r b p;
    kept = λ sure k.
        call-holds (IsWriteRead Local from part h file) (λ s x t read. read.moves.alone) (λ s x t read. read.holds_all) Local a r b p sure.0 from k;
    runs = λ alone. reads-leave (write-reads from part h file) (λ way got added. refl) Local a r b p alone;
  }

  -- ---- transfers

  -- a write that the sender stands for goes, and comes as often as it does
  pub made-goes : from ≢ to → (name : Name) (w : Write) (a : Sight) (r : Result Answer Lost) (b : Sight) → Calls (IsMade Sent to name (Receive w)) a Sent r b
      → IsOfPart a.nodes.power part name.hash → (Sure a → Contains (writes_of (state_at a from name.hash)) w) → Goes a b
  made-goes apart name w a r b p is own = record {
    moves = moves;
    kept = λ sure h. (calls-moves (Moves (IsAt to name.hash)) (IsMade Sent to name (Receive w)) (made-step Sent to name (Receive w)) a Sent r b
        p).objects.others
        sure.0 from h (λ at. apart at.0);
    runs = runs;
  }
    where
      moves : PairMoves from to part a b
      moves = made-pair from to part name (Receive w) a r b is p

      -- the sender's lock tells what it has of the partition, where it does of this hash
      told : (a.objects.seen (a.nodes.lock from name.hash)).told ≡ true → (known a from part).told ≡ true
      told tells =
          subst (λ (l : ℕ). (a.objects.seen l).told ≡ true) (a.nodes.one_lock from name.hash ∙ ap (a.nodes.part_lock from) is.part_is) tells

      carried : (m : Machine) → StandsFor a m → b.alone ≡ true → TellsAt a.nodes.lock m.objects from name.hash
          → Contains (writes_of (m.objects.half.holds from name.hash).state) w
      carried m stands alone tells =
          subst (λ (half : ObjHalf). Contains (writes_of (half.holds from name.hash).state) w) stands.objects
          (own (
            moves.alone alone,
            told
                (subst (λ (half : ObjHalf). (half.seen (a.nodes.lock from name.hash)).told ≡ true) (sym stands.objects) tells),
          ))

      runs : b.alone ≡ true → RunsOnLeaving a b
      runs alone =
          sent-leaves (object-changes to name (Receive w)) from (Write_of to name w) tt (λ answer added. (refl, refl, refl)) (λ answer added. refl) a r b p
          alone (λ m stands. carried m stands alone)
