-- What the reads of a push tell, and where its calls move.
use Rattle.std.proofs.Common.{◌≡◌, ℕ, Bool, true, false, List, [], ◌∷◌, ◌++◌, get_or, refl, sym, ◌∙◌, ap, subst, ◌⊎◌, inl, inr, Option, Result, Ok}
use Rattle.std.proofs.Common.{arith}
use Rattle.std.proofs.lemmas.Bool.Decides.{nat_tests}
use Rattle.std.specs.List.{All}
use Rattle.std.specs.declared.alloc.Global.{Global}
use Rattle.std.specs.declared.vec.Vec.{Vec}
use Rattle.sw_peer.proofs.Heard.{last}
use Rattle.sw_diskfile.specs.declared.file_name.FileName.{FileName}
use Rattle.sw_hashpath.specs.HashParts.{suffix_of}
use Rattle.sw_hashpath.specs.declared.name.Name.{Name}
use Rattle.sw_history.specs.Halves.{GrowsOf}
use Rattle.sw_object_steps.proofs.Hashes.{hash-self}
use Rattle.sw_object_steps.proofs.Parts.{file-as, hashes-as, lines-as}
use Rattle.sw_object_steps.proofs.Undoubted.{state-told}
use Rattle.sw_object_steps.specs.Histories.{ReadsPart}
use Rattle.sw_object_steps.specs.Journals.{Hash}
use Rattle.sw_object_steps.specs.Parts.{AreHashes, AreLines, IsFile, IsOfPart}
use Rattle.sw_object_steps.specs.Rules.{ObjHistory}
use Rattle.sw_object_steps.specs.Values.{ObjValue}
use Rattle.sw_object_steps.specs.declared.answer.Answer.{Answer}
use Rattle.sw_object_steps.specs.declared.change.Change.{Change}
use Rattle.sw_object_steps.specs.declared.dir_fault.DirFault.{DirFault}
use Rattle.sw_object_steps.specs.declared.stored.Stored.{Stored}
use Rattle.sw_peer.proofs.Calls.{IsStep, PartFrame, calls-moves, comes-moves, made-step, moves-refl, moves-trans, moves-wider, part-step}
use Rattle.sw_peer.specs.Sights.{Calls, Comes, HoldsAll, IsAt, IsFilesRead, IsHashesRead, IsInPart, IsMade, IsPartRead, IsSame, IsWriteRead, Moves}
use Rattle.sw_peer.specs.Sights.{Nodes, PartMoves, Sight, in_part, in_suffix, is_one}
use Rattle.sw_peer.specs.declared.link.Link.{Link}
use Rattle.sw_peer.specs.declared.link.Link.TheVariants.{Local, Sent}
use Rattle.sw_peer.specs.declared.link.Lost.{Lost}
use Rattle.sw_peer.specs.declared.part_read.PartRead.{PartRead}
use Rattle.sw_peer.specs.declared.part_read.PartRead.TheVariants.{Files, Hashes, Write}
use Rattle.sw_replicator.proofs.Taking.{grown-least}
use Rattle.sw_replicator.specs.Meeting.{IsOfPair, PairMoves, known, state_at, state_by}
use Rattle.sw_state.specs.States.{IsAtLeast}
use Rattle.sw_state.specs.declared.state.State.{State}
use Rattle.sw_suffix.specs.declared.dir_line.DirLine.{DirLine}
use Rattle.sw_suffix.specs.declared.told.SuffixHash.{SuffixHash}

-- ---- frames

-- the device is one of the two
abbrev pub IsOne : ℕ → ℕ → ℕ → Type 0
IsOne from to device = (device ≡ from) ⊎ (device ≡ to)

pub pair-same : (from to part : ℕ) (s t : Sight) → t ≡ s → PairMoves from to part s t
pair-same from to part s t same = subst (λ (x : Sight). PairMoves from to part s x) (sym same) (moves-refl (IsOfPair s.nodes.power from to part) s)

pub pair-trans : (from to part : ℕ) (a b c : Sight) → PairMoves from to part a b → PairMoves from to part b c → PairMoves from to part a c
pair-trans from to part a b c p q =
    moves-trans (IsOfPair a.nodes.power from to part) a b c p (subst (λ (n : Nodes). Moves (IsOfPair n.power from to part) b c) p.nodes q)

-- a read at one of the two devices
part-pair : (from to part device : ℕ) (at : Hash → Bool) (s t : Sight) → IsOne from to device → PartMoves device part at s t → PairMoves from to part s t
part-pair from to part device at s t one p =
    moves-wider (IsInPart s.nodes.power device part at) (IsOfPair s.nodes.power from to part) s t (λ d hash is. (is.1, side d is.0 one)) p
  where
    side : (d : ℕ) → d ≡ device → IsOne from to device → IsOne from to d
    side d same (inl own) = inl (same ∙ own)
    side d same (inr their) = inr (same ∙ their)

-- what is known of a device only grows
pub later : (from to part device : ℕ) (a b : Sight) → PairMoves from to part a b → GrowsOf (known a device part) (known b device part)
later from to part device a b p =
    subst (λ (n : Nodes). GrowsOf (known a device part) (b.objects.seen (n.part_lock device part))) (sym p.nodes)
    (p.objects.grows (a.nodes.part_lock device part))

pub known-least : (from to part device : ℕ) (a b : Sight) (hash : Hash) → PairMoves from to part a b
    → IsAtLeast (state_by (known b device part) hash) (state_by (known a device part) hash)
known-least from to part device a b hash p = grown-least (known a device part) (known b device part) hash (later from to part device a b p)

pub told-before : (from to part device : ℕ) (a b : Sight) → PairMoves from to part a b → (known b device part).told ≡ true → (known a device part).told ≡ true
told-before from to part device a b p told = sym (later from to part device a b p).told ∙ told

-- what a device holds under a hash that is not of the frame
holds-trans : (a b c : Sight) → (c.alone ≡ true → b.alone ≡ true) → HoldsAll a b → HoldsAll b c → HoldsAll a c
holds-trans a b c earlier p q alone d hash = q alone d hash ∙ p (earlier alone) d hash

pub same-holds : (a b : Sight) → IsSame a b → HoldsAll a b
same-holds a b p alone d hash = ap (λ (s : Sight). s.objects.holds d hash) p.same

-- ---- reads of the partition

module _ {A : Type 0} (link : Link) (device part : ℕ) (at : Nodes → Hash → Bool) (damages : Bool) (reading : Nodes → Bool → (Hash → State) → A → Type 0)
    (read : Result A DirFault → PartRead) where
  abbrev Reads : Sight → Result A DirFault → Sight → Type 0
  Reads = IsPartRead link device part at damages reading read

  abbrev Frame : Sight → Sight → Type 0
  Frame = PartFrame device part at

  is_step : IsStep Frame Reads
  is_step = part-step link device part at damages reading read

  came-nodes : (s : Sight) (xs : List (Result A DirFault)) (t : Sight) → Comes Reads s xs t → t.nodes ≡ s.nodes
  came-nodes s xs t p = (comes-moves Frame Reads is_step s xs t p).nodes

  read-moves : (s : Sight) (r : Result (Result A DirFault) Lost) (t : Sight) → Calls Reads s link r t → Frame s t
  read-moves s r t p = calls-moves Frame Reads is_step s link r t p

  came-holds : (s : Sight) (xs : List (Result A DirFault)) (t : Sight) → Comes Reads s xs t → HoldsAll s t
  came-holds s [] t p = same-holds s t p
  came-holds s (x ∷ xs) t p =
      holds-trans s p.0 t (comes-moves Frame Reads is_step p.0 xs t p.2).alone p.1.holds_all (came-holds p.0 xs t p.2)

  read-holds : (s : Sight) (got : Result A DirFault) (t : Sight) → Calls Reads s link (Ok got) t → HoldsAll s t
  read-holds s got t p = came-holds s (p.0 ++ got ∷ []) t p.2

  -- What is answered is right of one state for each hash that was read. None of its writes is in doubt, so that is what stands by the entries, and where
  -- the door is alone what the device holds
  record Tells (nodes : Nodes) (got : A) (alone : Bool) (g : ObjHistory) (holds : Hash → ObjValue) : Type 0 where
    states : Hash → State
    shown : reading nodes g.told states got
    by : g.told ≡ true → (hash : Hash) → at nodes hash ≡ true → states hash ≡ state_by g hash
    held : alone ≡ true → g.told ≡ true → (hash : Hash) → at nodes hash ≡ true → states hash ≡ (holds hash).state

  one-tells : (nodes : Nodes) (alone : Bool) (h g : ObjHistory) (got : A) (holds : Hash → ObjValue)
      → ReadsPart alone h (at nodes) (reading nodes g.told) (Ok got) g holds → Tells nodes got alone g holds
  one-tells nodes alone h g got holds p = record {
    states = λ hash. (p.read hash).state;
    shown = p.shown refl;
    by = λ told hash is. state-told g hash (p.read hash) (p.known told refl hash is) (p.settled refl hash is);
    held = λ alone told hash is. ap (λ (v : ObjValue). v.state) (p.held alone told refl hash is);
  }

  read-tells : (s : Sight) (got : A) (t : Sight) → Calls Reads s link (Ok (Ok got)) t
      → Tells s.nodes got t.alone (known t device part) (t.objects.holds device)
  read-tells s got t p =
      let r = last Reads s p.0 (Ok got) t p.2 in
      let m : Sight = r.0 in
      let n : Sight = r.1 in
      let before : m.nodes ≡ s.nodes = came-nodes s p.0 m r.2 in
      let after : n.nodes ≡ m.nodes = r.3.moves.nodes in
      subst (λ (x : Sight). Tells s.nodes got x.alone (known x device part) (x.objects.holds device)) (sym r.4.same)
      (subst (λ (k : Nodes). Tells s.nodes got n.alone (n.objects.seen (k.part_lock device part)) (n.objects.holds device)) (sym after)
      (subst (λ (k : Nodes). Tells k got n.alone (n.objects.seen (m.nodes.part_lock device part)) (n.objects.holds device)) before
      (one-tells m.nodes n.alone (m.objects.seen (m.nodes.part_lock device part)) (n.objects.seen (m.nodes.part_lock device part)) got
      (n.objects.holds device) r.3.step)))

  -- what is known is what the device holds
  read-held : (s : Sight) (got : A) (t : Sight) → Calls Reads s link (Ok (Ok got)) t → t.alone ≡ true → (known t device part).told ≡ true
      → (hash : Hash) → at s.nodes hash ≡ true → state_by (known t device part) hash ≡ state_at t device hash
  read-held s got t p alone told hash is = let r = read-tells s got t p in sym (r.by told hash is) ∙ r.held alone told hash is

-- those of the files of a suffix
module _ (link : Link) (device part suffix : ℕ) where
  abbrev AreThere : Nodes → Bool → (Hash → State) → Vec DirLine Global → Type 0
  AreThere nodes told s got = AreLines nodes.power part suffix told s got.items

  abbrev as_files : Result (Vec DirLine Global) DirFault → PartRead
  as_files got = Files part suffix got

  is-there : (nodes : Nodes) (hash : Hash) → IsOfPart nodes.power part hash → suffix_of hash ≡ suffix → in_suffix part suffix nodes hash ≡ true
  is-there nodes hash is there = let own = is.part_is in grind (arith, nat_tests)

  pub files-move : (s : Sight) (r : Result (Result (Vec DirLine Global) DirFault) Lost) (t : Sight) → Calls (IsFilesRead link device part suffix) s link r t
      → PartFrame device part (in_suffix part suffix) s t
  files-move = read-moves link device part (in_suffix part suffix) false AreThere as_files

  pub files-pair : (from to : ℕ) → IsOne from to device → (s : Sight) (r : Result (Result (Vec DirLine Global) DirFault) Lost) (t : Sight)
      → Calls (IsFilesRead link device part suffix) s link r t → PairMoves from to part s t
  files-pair from to one s r t p = part-pair from to part device (in_suffix part suffix s.nodes) s t one (files-move s r t p)

  module _ (s : Sight) (v : Vec DirLine Global) (t : Sight) (p : Calls (IsFilesRead link device part suffix) s link (Ok (Ok v)) t) where
    pub files-hold : HoldsAll s t
    files-hold = read-holds link device part (in_suffix part suffix) false AreThere as_files s (Ok v) t p

    pub files-told : AreLines s.nodes.power part suffix (known t device part).told (state_by (known t device part)) v.items
    files-told =
        let r = read-tells link device part (in_suffix part suffix) false AreThere as_files s v t p in
        lines-as s.nodes.power part suffix (known t device part).told (known t device part).told r.states (state_by (known t device part)) v.items (λ e. e)
        (λ told hash is there. r.by told hash (is-there s.nodes hash is there)) r.shown

    pub files-held : (hash : Hash) → IsOfPart s.nodes.power part hash → suffix_of hash ≡ suffix → t.alone ≡ true → (known t device part).told ≡ true
        → state_by (known t device part) hash ≡ state_at t device hash
    files-held hash is there alone told =
        read-held link device part (in_suffix part suffix) false AreThere as_files s v t p alone told hash (is-there s.nodes hash is there)

    -- the lines are of hashes of the partition
    pub lines-within : All (λ line. IsOfPart t.nodes.power part line.hash) v.items
    lines-within k d within =
        subst (λ (n : Nodes). IsOfPart n.power part (get_or v.items k d).hash) (sym (files-move s (Ok (Ok v)) t p).nodes)
        (record { digest = (files-told.are.each k d within).digest; part_is = (files-told.within k d within).0 })

-- and those of the hashes of all suffixes
module _ (link : Link) (device part : ℕ) where
  abbrev AreSuch : Nodes → Bool → (Hash → State) → Vec SuffixHash Global → Type 0
  AreSuch nodes told s got = AreHashes nodes.power part told s got.items

  abbrev as_hashes : Result (Vec SuffixHash Global) DirFault → PartRead
  as_hashes got = Hashes part got

  is-in : (nodes : Nodes) (hash : Hash) → IsOfPart nodes.power part hash → in_part part nodes hash ≡ true
  is-in nodes hash is = let own = is.part_is in grind (arith, nat_tests)

  pub hashes-move : (s : Sight) (r : Result (Result (Vec SuffixHash Global) DirFault) Lost) (t : Sight) → Calls (IsHashesRead link device part) s link r t
      → PartFrame device part (in_part part) s t
  hashes-move = read-moves link device part (in_part part) false AreSuch as_hashes

  pub hashes-pair : (from to : ℕ) → IsOne from to device → (s : Sight) (r : Result (Result (Vec SuffixHash Global) DirFault) Lost) (t : Sight)
      → Calls (IsHashesRead link device part) s link r t → PairMoves from to part s t
  hashes-pair from to one s r t p = part-pair from to part device (in_part part s.nodes) s t one (hashes-move s r t p)

  module _ (s : Sight) (v : Vec SuffixHash Global) (t : Sight) (p : Calls (IsHashesRead link device part) s link (Ok (Ok v)) t) where
    pub hashes-hold : HoldsAll s t
    hashes-hold = read-holds link device part (in_part part) false AreSuch as_hashes s (Ok v) t p

    pub hashes-told : AreHashes s.nodes.power part (known t device part).told (state_by (known t device part)) v.items
    hashes-told =
        let r = read-tells link device part (in_part part) false AreSuch as_hashes s v t p in
        hashes-as s.nodes.power part (known t device part).told (known t device part).told r.states (state_by (known t device part)) v.items (λ e. e)
        (λ told hash is. r.by told hash (is-in s.nodes hash is)) r.shown

    pub hashes-held : (hash : Hash) → IsOfPart s.nodes.power part hash → t.alone ≡ true → (known t device part).told ≡ true
        → state_by (known t device part) hash ≡ state_at t device hash
    hashes-held hash is alone told =
        read-held link device part (in_part part) false AreSuch as_hashes s v t p alone told hash (is-in s.nodes hash is)

-- and that of a file
module _ (device part : ℕ) (hash : Hash) (file : FileName) where
  abbrev AsStored : Nodes → Bool → (Hash → State) → Option Stored → Type 0
  AsStored nodes told s got = IsFile nodes.fits hash file told s got

  abbrev as_write : Result (Option Stored) DirFault → PartRead
  as_write got = Write part hash file got

  pub write-move : (s : Sight) (r : Result (Result (Option Stored) DirFault) Lost) (t : Sight) → Calls (IsWriteRead Local device part hash file) s Local r t
      → PartFrame device part (is_one hash) s t
  write-move = read-moves Local device part (is_one hash) true AsStored as_write

  pub write-pair : (from to : ℕ) → IsOne from to device → (s : Sight) (r : Result (Result (Option Stored) DirFault) Lost) (t : Sight)
      → Calls (IsWriteRead Local device part hash file) s Local r t → PairMoves from to part s t
  write-pair from to one s r t p = part-pair from to part device (is_one hash s.nodes) s t one (write-move s r t p)

  module _ (s : Sight) (got : Option Stored) (t : Sight) (p : Calls (IsWriteRead Local device part hash file) s Local (Ok (Ok got)) t) where
    pub write-holds : HoldsAll s t
    write-holds = read-holds Local device part (is_one hash) true AsStored as_write s (Ok got) t p

    pub write-told : IsOfPart s.nodes.power part hash → IsFile s.nodes.fits hash file (known t device part).told (state_by (known t device part)) got
    write-told is =
        let r = read-tells Local device part (is_one hash) true AsStored as_write s got t p in
        file-as s.nodes.fits hash file (known t device part).told r.states (state_by (known t device part)) got
        (λ told. r.by told hash (hash-self hash)) r.shown

    pub write-held : t.alone ≡ true → (known t device part).told ≡ true → state_by (known t device part) hash ≡ state_at t device hash
    write-held alone told = read-held Local device part (is_one hash) true AsStored as_write s got t p alone told hash (hash-self hash)

-- ---- a write at the receiver

pub made-pair : (from to part : ℕ) (name : Name) (change : Change) (s : Sight) (r : Result Answer Lost) (t : Sight) → IsOfPart s.nodes.power part name.hash
    → Calls (IsMade Sent to name change) s Sent r t → PairMoves from to part s t
made-pair from to part name change s r t is p =
    moves-wider (IsAt to name.hash) (IsOfPair s.nodes.power from to part) s t
    (λ d k at. (subst (λ (h : Hash). IsOfPart s.nodes.power part h) (sym at.1) is, inr at.0))
    (calls-moves (Moves (IsAt to name.hash)) (IsMade Sent to name change) (made-step Sent to name change) s Sent r t p)
