-- What goes on along the parts of a push, whatever came of them.
use Rattle.sw_pass.specs.Turns.{InTurn}
use Rattle.std.proofs.Common.{◌≡◌, ◌≢◌, ℕ, Bool, true, false, List, [], ◌∷◌, refl, sym, ◌∙◌, ap, subst, inl, inr, Option, Some, None, Result, Ok, Err}
use Rattle.std.proofs.lemmas.List.Elements.{recursion_from_All}
use Rattle.std.specs.List.{AllByRecursion}
use Rattle.std.specs.Prelude.{Contains}
use Rattle.std.specs.declared.alloc.Global.{Global}
use Rattle.std.specs.declared.vec.Vec.{Vec}
use Rattle.sw_diskfile.specs.StateFiles.{picked_of}
use Rattle.sw_diskfile.specs.declared.file_name.FileName.{FileName}
use Rattle.sw_diskfile.specs.declared.picking.Picked.{Picked}
use Rattle.sw_hashpath.specs.HashParts.{partition_of, suffix_of}
use Rattle.sw_pass.specs.Outcomes.{asking, nothing_yet}
use Rattle.sw_pass.specs.declared.outcome.Outcome.{Outcome}
use Rattle.sw_object_steps.specs.Journals.{Hash}
use Rattle.sw_object_steps.specs.Values.{ObjValue}
use Rattle.sw_object_steps.specs.Parts.{AreLines, Counts, IsOfPart, IsStored, picked_in}
use Rattle.sw_peer.specs.Sights.{Calls, IsFilesRead, IsWriteRead, Sight}
use Rattle.sw_object_steps.specs.declared.dir_fault.DirFault.{DirFault}
use Rattle.sw_peer.specs.declared.link.Link.TheVariants.{Local, Sent}
use Rattle.sw_peer.specs.declared.link.Lost.{Lost}
use Rattle.sw_object_steps.specs.declared.stored.Stored.{Stored}
use Rattle.sw_replicator.proofs.Compared.{IsPicked, all-both, files-count, own-lines}
use Rattle.sw_replicator.proofs.Reading.{files-held, files-told, lines-within, write-held, write-told}
use Rattle.sw_replicator.specs.Meeting.{known, state_at, state_by}
use Rattle.sw_replicator.specs.Pushing.{IsAskedNext, IsBeside, IsCompared, IsFilePushed, IsLinePushed, IsOursPushed, IsPassedOn, IsRun, IsSuffixPushed}
use Rattle.sw_replicator.specs.Pushing.{differing}
use Rattle.sw_state.specs.States.{writes_of}
use Rattle.sw_state.specs.declared.state.State.{State}
use Rattle.sw_steps.proofs.Going.{Goes, Sure, files-goes, goes-join, goes-same, hashes-goes, made-goes, part-later, sure-before, write-goes}
use Rattle.sw_suffix.specs.SuffixLines.{IsLine}
use Rattle.sw_suffix.specs.SuffixTexts.{files}
use Rattle.sw_suffix.specs.declared.dir_line.DirLine.{DirLine}
use Rattle.sw_suffix.specs.declared.told.SuffixHash.{SuffixHash}

-- what holds of all elements for each b
all-each : {A B : Type 0} (P : B → A → Type 0) (xs : List A) → ((b : B) → AllByRecursion (P b) xs) → AllByRecursion (λ x. (b : B) → P b x) xs
all-each P [] all = tt
all-each P (x ∷ xs) all = (λ b. (all b).0, all-each P xs (λ b. (all b).1))

module _ (from to part : ℕ) (apart : from ≢ to) where
  abbrev Goes_on : Sight → Sight → Type 0
  Goes_on = Goes from to part

  abbrev Sure_of : Sight → Type 0
  Sure_of = Sure from to part

  -- ---- a file that counts at the sender

  module _ (h : Hash) (file : FileName) where
    passed-goes : (a mid : Sight) (got : Result (Option Stored) DirFault) (o : Outcome) (c : Sight) (p : Outcome) (on : Bool) → IsOfPart a.nodes.power part h
        → (Sure_of a → Counts (state_at a from h) file) → Calls (IsWriteRead Local from part h file) a Local (Ok got) mid
        → IsPassedOn from to part got mid o c p on → Goes_on mid c
    passed-goes a mid (Ok (Some stored)) o c p on is counts read made =
        made-goes from to part apart stored.name stored.write mid made.0 c made.1 there own
      where
        reads : Goes_on a mid
        reads = write-goes from to part h file a (Ok (Ok (Some stored))) mid read

        stored-is : IsStored a.nodes.fits h file (known mid from part).told (state_by (known mid from part)) stored
        stored-is = write-told from part h file a (Some stored) mid read is

        there : IsOfPart mid.nodes.power part stored.name.hash
        there =
            subst (λ (x : Hash). IsOfPart mid.nodes.power part x) (sym stored-is.hash_is) (part-later from to part a mid h reads.moves is)

        -- what was read is a write of the sender
        own : Sure_of mid → Contains (writes_of (state_at mid from stored.name.hash)) stored.write
        own sure =
            let held : state_by (known mid from part) h ≡ state_at mid from h = write-held from part h file a (Some stored) mid read sure.0 sure.1 in
            let before : Sure_of a = sure-before from to part a mid reads.moves sure in
            subst (λ (x : Hash). Contains (writes_of (state_at mid from x)) stored.write) (sym stored-is.hash_is)
            (subst (λ (s : State). Contains (writes_of s) stored.write) held
            (stored-is.counts sure.1 (subst (λ (s : State). Counts s file) (sym (held ∙ ap (λ (v : ObjValue). v.state) (reads.kept sure h))) (counts before))))
    passed-goes a mid (Ok None) o c p on is counts read made = goes-same from to part mid c made.0
    passed-goes a mid (Err fault) o c p on is counts read made = goes-same from to part mid c made.0

    file-goes : (theirs : Picked) (a : Sight) (o : Outcome) (c : Sight) (p : Outcome) (on : Bool) → IsOfPart a.nodes.power part h
        → (Sure_of a → Counts (state_at a from h) file) → IsFilePushed from to part theirs h file a o c p on → Goes_on a c
    file-goes theirs a o c p on is counts (inl other) = goes-same from to part a c other.1
    file-goes theirs a o c p on is counts (inr wanted) =
        let sent = wanted.1 in
        goes-join from to part a sent.1 c (write-goes from to part h file a (Ok sent.0) sent.1 sent.2)
        (passed-goes a sent.1 sent.0 o c p on is counts sent.2 sent.3)

  -- the files of a hash that counted at n, where it went on since then
  files-go : (h : Hash) (theirs : Picked) (n a : Sight) (fs : List FileName) (o : Outcome) (c : Sight) (p : Outcome) (on : Bool) → Goes_on n a
      → IsOfPart n.nodes.power part h → (Sure_of n → AllByRecursion (Counts (state_at n from h)) fs)
      → InTurn (IsFilePushed from to part theirs h) fs a o c p on → Goes_on a c
  files-go h theirs n a [] o c p on so_far is counts go = goes-same from to part a c go.0
  files-go h theirs n a (file ∷ fs) o c p on so_far is counts (inl went) =
      let mid : Sight = went.0 in
      let one : Goes_on a mid =
      file-goes h file theirs a o mid went.1 true (part-later from to part n a h so_far.moves is)
      (λ sure. subst (λ (v : ObjValue). Counts v.state file) (sym (so_far.kept sure h)) (counts (sure-before from to part n a so_far.moves sure)).0)
      went.2 in
      goes-join from to part a mid c one
      (files-go h theirs n mid fs went.1 c p on (goes-join from to part n a mid so_far one) is (λ sure. (counts sure).1) went.3)
  files-go h theirs n a (file ∷ fs) o c p on so_far is counts (inr stopped) =
      file-goes h file theirs a o c p false (part-later from to part n a h so_far.moves is)
      (λ sure. subst (λ (v : ObjValue). Counts v.state file) (sym (so_far.kept sure h)) (counts (sure-before from to part n a so_far.moves sure)).0)
      stopped.0

  -- ---- the lines of a suffix

  abbrev LineCounts : Sight → DirLine → Type 0
  LineCounts n line = Sure_of n → AllByRecursion (Counts (state_at n from line.hash)) (files line.picked)

  lines-go : (theirs : List DirLine) (n a : Sight) (lines : List DirLine) (o : Outcome) (c : Sight) (p : Outcome) (on : Bool) → Goes_on n a
      → AllByRecursion (λ line. IsOfPart n.nodes.power part line.hash) lines → AllByRecursion (LineCounts n) lines
      → InTurn (IsLinePushed from to part theirs) lines a o c p on → Goes_on a c
  lines-go theirs n a [] o c p on so_far is counts go = goes-same from to part a c go.0
  lines-go theirs n a (line ∷ lines) o c p on so_far is counts (inl went) =
      let mid : Sight = went.0 in
      let one : Goes_on a mid =
      files-go line.hash (picked_in theirs line.hash) n a (files line.picked) o mid went.1 true so_far is.0 counts.0 went.2 in
      goes-join from to part a mid c one
      (lines-go theirs n mid lines went.1 c p on (goes-join from to part n a mid so_far one) is.1 counts.1 went.3)
  lines-go theirs n a (line ∷ lines) o c p on so_far is counts (inr stopped) =
      files-go line.hash (picked_in theirs line.hash) n a (files line.picked) o c p false so_far is.0 counts.0 stopped.0

  -- what the sender told of the suffix counts there
  module _ (suffix : ℕ) (a : Sight) (ours : Vec DirLine Global) (n : Sight) (reads : Calls (IsFilesRead Local from part suffix) a Local (Ok (Ok ours)) n) where
    ours-are : AreLines a.nodes.power part suffix (known n from part).told (state_by (known n from part)) ours.items
    ours-are = files-told Local from part suffix a ours n reads

    abbrev IsWithin : DirLine → Type 0
    IsWithin line = (partition_of line.hash a.nodes.power ≡ part) × (suffix_of line.hash ≡ suffix)

    abbrev IsOwn : DirLine → Type 0
    IsOwn line = IsOfPart a.nodes.power part line.hash × (suffix_of line.hash ≡ suffix)

    lines-of : AllByRecursion IsOwn ours.items
    lines-of =
        all-both IsLine IsWithin IsOwn ours.items (λ line is within. (record { digest = is.digest; part_is = within.0 }, within.1))
        (recursion_from_All IsLine ours.items ours-are.are.each) (recursion_from_All IsWithin ours.items ours-are.within)

    lines-count : AllByRecursion (LineCounts n) ours.items
    lines-count =
        all-both IsOwn (λ line. (h : Hash) → IsPicked h ours.items line) (LineCounts n) ours.items
        (λ line is picked sure.
        files-count (state_at n from line.hash) line.picked
        (picked line.hash refl
        ∙ (ours-are.shown sure.1 line.hash is.0 is.1
        ∙ ap picked_of (files-held Local from part suffix a ours n reads line.hash is.0 is.1 sure.0 sure.1))))
        lines-of (all-each (λ h line. IsPicked h ours.items line) ours.items (λ h. own-lines h ours.items ours-are.are.ascending))

  -- ---- a suffix

  ours-go : (suffix : ℕ) (theirs : List DirLine) (a : Sight) (ours : Result (Vec DirLine Global) DirFault) (n : Sight) (o : Outcome) (c : Sight) (p : Outcome)
      (on : Bool)
      → Calls (IsFilesRead Local from part suffix) a Local (Ok ours) n → IsOursPushed from to part theirs ours n o c p on → Goes_on n c
  ours-go suffix theirs a (Ok ours) n o c p on reads go =
      lines-go theirs n n ours.items o c p on (goes-same from to part n n refl)
      (recursion_from_All (λ line. IsOfPart n.nodes.power part line.hash) ours.items (lines-within Local from part suffix a ours n reads))
      (lines-count suffix a ours n reads) go
  ours-go suffix theirs a (Err fault) n o c p on reads go = goes-same from to part n c go.0

  beside-goes : (suffix : ℕ) (theirs : Result (Result (Vec DirLine Global) DirFault) Lost) (a : Sight) (o : Outcome) (c : Sight) (p : Outcome) (on : Bool)
      → IsBeside from to part suffix theirs a o c p on → Goes_on a c
  beside-goes suffix (Ok (Ok theirs)) a o c p on go =
      goes-join from to part a go.1 c (files-goes from to part Local from suffix (inl refl) a (Ok go.0) go.1 go.2)
      (ours-go suffix theirs.items a go.0 go.1 o c p on go.2 go.3)
  beside-goes suffix (Ok (Err fault)) a o c p on go = goes-same from to part a c go.0
  beside-goes suffix (Err lost) a o c p on go = goes-same from to part a c go.0

  suffix-goes : (one : SuffixHash) (a : Sight) (o : Outcome) (c : Sight) (p : Outcome) (on : Bool) → IsSuffixPushed from to part one a o c p on → Goes_on a c
  suffix-goes one a o c p on go =
      goes-join from to part a go.1 c (files-goes from to part Sent to one.suffix (inr refl) a go.0 go.1 go.2)
      (beside-goes one.suffix go.0 go.1 (asking o) c p on go.3)

  suffixes-go : (xs : List SuffixHash) (a : Sight) (o : Outcome) (c : Sight) (p : Outcome) (on : Bool) → InTurn (IsSuffixPushed from to part) xs a o c p on
      → Goes_on a c
  suffixes-go [] a o c p on go = goes-same from to part a c go.0
  suffixes-go (one ∷ xs) a o c p on (inl went) =
      goes-join from to part a went.0 c (suffix-goes one a o went.0 went.1 true went.2) (suffixes-go xs went.0 went.1 c p on went.3)
  suffixes-go (one ∷ xs) a o c p on (inr stopped) = suffix-goes one a o c p false stopped.0

  -- ---- the whole

  compared-goes : (ours : List SuffixHash) (theirs : Result (Result (Vec SuffixHash Global) DirFault) Lost) (a : Sight) (o : Outcome) (c : Sight) (p : Outcome)
      (on : Bool) → IsCompared from to part ours theirs a o c p on → Goes_on a c
  compared-goes ours (Ok (Ok theirs)) a o c p on go = suffixes-go (differing ours theirs.items) a o c p on go
  compared-goes ours (Ok (Err fault)) a o c p on go = goes-same from to part a c go.0
  compared-goes ours (Err lost) a o c p on go = goes-same from to part a c go.0

  asked-next-goes : (ours : Result (Vec SuffixHash Global) DirFault) (a : Sight) (o : Outcome) (c : Sight) (p : Outcome) (on : Bool)
      → IsAskedNext from to part ours a o c p on → Goes_on a c
  asked-next-goes (Ok ours) a o c p on go =
      goes-join from to part a go.1 c (hashes-goes from to part Sent to (inr refl) a go.0 go.1 go.2)
      (compared-goes ours.items go.0 go.1 (asking o) c p on go.3)
  asked-next-goes (Err fault) a o c p on go = goes-same from to part a c go.0

  pub run-goes : (a c : Sight) (p : Outcome) (on : Bool) → IsRun from to part a c p on → Goes_on a c
  run-goes a c p on go =
      goes-join from to part a go.1 c (hashes-goes from to part Local from (inl refl) a (Ok go.0) go.1 go.2)
      (asked-next-goes go.0 go.1 nothing_yet c p on go.3)
