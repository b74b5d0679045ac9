-- Where each call of a push was answered and what was sent was acknowledged, the receiver has at least what the sender had.
use Rattle.std.proofs.Common.{◌≡◌, ℕ, ◌<◌, true, false, List, [], ◌∷◌, refl, sym, ◌∙◌, ap, subst, arith, ◌⊎◌, inl, inr, Ok}
use Rattle.std.proofs.lemmas.List.Elements.{recursion_from_All}
use Rattle.std.specs.List.{AllByRecursion}
use Rattle.sw_diskfile.specs.StateFiles.{picked_of}
use Rattle.sw_diskfile.specs.declared.file_name.FileName.{FileName}
use Rattle.sw_diskfile.specs.declared.picking.Picked.{Picked}
use Rattle.sw_hashpath.specs.HashParts.{partition_of, suffix_of}
use Rattle.sw_object_steps.specs.Journals.{Hash}
use Rattle.sw_object_steps.specs.Parts.{AreHashes, AreLines, Counts, IsOfPart, md5_in, picked_in, suffix_md5}
use Rattle.sw_peer.specs.Sights.{HoldsAll, Nodes, Sight}
use Rattle.sw_peer.specs.declared.link.Link.TheVariants.{Local, Sent}
use Rattle.sw_replicator.proofs.Compared.{Among, IsPicked, Verdict, all-both, all-map, compared, files-count, own-lines, picked-at}
use Rattle.sw_replicator.proofs.Going.{AllGo, FileGoes, LineGoes, Passes, RunGoes, SuffixGoes}
use Rattle.sw_replicator.proofs.Reading.{IsOne, files-held, files-hold, files-pair, files-told, hashes-held, hashes-hold, hashes-pair, hashes-told, later}
use Rattle.sw_replicator.proofs.Taking.{Covers, alike-least, files-least, least-keeps, unwanted-keeps}
use Rattle.sw_replicator.specs.Meeting.{Collides, PairMoves, known, state_at, state_by}
use Rattle.sw_replicator.specs.Pushing.{differing, is_wanted}
use Rattle.sw_state.proofs.JoinLaws.{at_least_transitive}
use Rattle.sw_state.specs.States.{IsAtLeast}
use Rattle.sw_state.specs.declared.state.State.{State}
use Rattle.sw_suffix.specs.SuffixLines.{IsLine}
use Rattle.sw_suffix.specs.SuffixTexts.{files}
use Rattle.sw_suffix.specs.declared.dir_line.DirLine.{DirLine}
use Rattle.sw_suffix.specs.declared.told.SuffixHash.{SuffixHash}

-- What is watched of a hash: a state of each of the two devices at each sight, which the reads tell, which never falls along R, and
-- which has what was acknowledged. It is what stands by the entries, or what the device holds where the door is alone
pub record Watches (from to part : ℕ) (hash : Hash) (Sure : Sight → Type 0) (V : ℕ → Sight → State) (R : Sight → Sight → Type 0) : Type 0 where
  pub moves : (a b : Sight) → R a b → PairMoves from to part a b
  pub stays : (a : Sight) → R a a
  pub join : (a b c : Sight) → R a b → R b c → R a c
  pub sure : (a b : Sight) → R a b → Sure b → Sure a
  pub told : (a : Sight) (d : ℕ) → IsOne from to d → Sure a → (known a d part).told ≡ true
  pub up : (a b : Sight) (d : ℕ) → IsOne from to d → R a b → Sure b → IsAtLeast (V d b) (V d a)
  pub reads : (a b : Sight) → PairMoves from to part a b → HoldsAll a b → R a b
  pub tells : (a : Sight) (d : ℕ) → IsOne from to d → Sure a
      → (a.alone ≡ true → (known a d part).told ≡ true → state_by (known a d part) hash ≡ state_at a d hash) → state_by (known a d part) hash ≡ V d a
  pub passes : (n a c : Sight) (h : Hash) (file : FileName) → R n a → IsOfPart a.nodes.power part h → (h ≡ hash → Sure n → Counts (V from n) file)
      → Passes from to part h file a c → R a c × (h ≡ hash → Sure c → Covers (V to c) file)

module _ (from to part : ℕ) (hash : Hash) (Sure : Sight → Type 0) (V : ℕ → Sight → State) (R : Sight → Sight → Type 0)
    (w : Watches from to part hash Sure V R) where
  first : IsOne from to from
  first = inl refl

  second : IsOne from to to
  second = inr refl

  -- a file wasn't wanted, or is covered
  abbrev Taken : Picked → State → FileName → Type 0
  Taken theirs v file = (is_wanted theirs file ≡ false) ⊎ Covers v file

  covers-up : (a b : Sight) (file : FileName) → R a b → Sure b → Covers (V to a) file → Covers (V to b) file
  covers-up a b file r sure is v named = least-keeps (V to b) (V to a) v (w.up a b to second r sure) (is v named)

  taken-up : (theirs : Picked) (a b : Sight) (file : FileName) → R a b → Sure b → Taken theirs (V to a) file → Taken theirs (V to b) file
  taken-up theirs a b file r sure (inl unwanted) = inl unwanted
  taken-up theirs a b file r sure (inr is) = inr (covers-up a b file r sure is)

  part-later : (a b : Sight) (h : Hash) → R a b → IsOfPart a.nodes.power part h → IsOfPart b.nodes.power part h
  part-later a b h r is = subst (λ (k : Nodes). IsOfPart k.power part h) (sym (w.moves a b r).nodes) is

  -- ---- a hash

  file-taken : (n a c : Sight) (theirs : Picked) (h : Hash) (file : FileName) → R n a → IsOfPart n.nodes.power part h
      → (h ≡ hash → Sure n → Counts (V from n) file) → FileGoes from to part theirs h file a c → R a c × (h ≡ hash → Sure c → Taken theirs (V to c) file)
  file-taken n a c theirs h file r is counts (inl unwanted) = (subst (λ (x : Sight). R a x) (sym unwanted.1) (w.stays a), λ same sure. inl unwanted.0)
  file-taken n a c theirs h file r is counts (inr passes) =
      let p = w.passes n a c h file r (part-later n a h r is) counts passes in (p.0, λ same sure. inr (p.1 same sure))

  files-taken : (n a c : Sight) (theirs : Picked) (h : Hash) (fs : List FileName) → R n a → IsOfPart n.nodes.power part h
      → (h ≡ hash → Sure n → AllByRecursion (Counts (V from n)) fs) → AllGo (FileGoes from to part theirs h) fs a c
      → R a c × (h ≡ hash → Sure c → AllByRecursion (Taken theirs (V to c)) fs)
  files-taken n a c theirs h [] r is counts go = (subst (λ (x : Sight). R a x) (sym go) (w.stays a), λ same sure. tt)
  files-taken n a c theirs h (file ∷ fs) r is counts go =
      let mid : Sight = go.0 in
      let p = file-taken n a mid theirs h file r is (λ same sure. (counts same sure).0) go.1 in
      let q = files-taken n mid c theirs h fs (w.join n a mid r p.0) is (λ same sure. (counts same sure).1) go.2 in
      (w.join a mid c p.0 q.0, λ same sure. (taken-up theirs mid c file q.0 sure (p.1 same (w.sure mid c q.0 sure)), q.1 same sure))

  -- ---- the lines of a suffix

  abbrev LineTaken : List DirLine → Sight → DirLine → Type 0
  LineTaken theirs c line = line.hash ≡ hash → AllByRecursion (Taken (picked_in theirs hash) (V to c)) (files line.picked)

  abbrev LineCounts : Sight → DirLine → Type 0
  LineCounts n line = line.hash ≡ hash → Sure n → AllByRecursion (Counts (V from n)) (files line.picked)

  lines-taken : (n a c : Sight) (theirs lines : List DirLine) → R n a → AllByRecursion (λ line. IsOfPart n.nodes.power part line.hash) lines
      → AllByRecursion (LineCounts n) lines → AllGo (LineGoes from to part theirs) lines a c
      → R a c × (Sure c → AllByRecursion (LineTaken theirs c) lines)
  lines-taken n a c theirs [] r is counts go = (subst (λ (x : Sight). R a x) (sym go) (w.stays a), λ sure. tt)
  lines-taken n a c theirs (line ∷ lines) r is counts go =
      let mid : Sight = go.0 in
      let p = files-taken n a mid (picked_in theirs line.hash) line.hash (files line.picked) r is.0 counts.0 go.1 in
      let q = lines-taken n mid c theirs lines (w.join n a mid r p.0) is.1 counts.1 go.2 in
      let own : Sure c → LineTaken theirs c line =
      λ sure same. all-map (Taken (picked_in theirs hash) (V to mid)) (Taken (picked_in theirs hash) (V to c)) (files line.picked)
      (λ file taken. taken-up (picked_in theirs hash) mid c file q.0 sure taken)
      (subst (λ (h : Hash). AllByRecursion (Taken (picked_in theirs h) (V to mid)) (files line.picked)) same (p.1 same (w.sure mid c q.0 sure))) in
      (w.join a mid c p.0 q.0, λ sure. (own sure, q.1 sure))

  -- ---- a suffix

  module _ (one : SuffixHash) (a c : Sight) (g : SuffixGoes from to part one a c) where
    abbrev IsOurs : Hash → Type 0
    IsOurs h = suffix_of h ≡ one.suffix

    asks-r : R a g.asked
    asks-r =
        w.reads a g.asked (files-pair Sent to part one.suffix from to second a (Ok (Ok g.theirs)) g.asked g.asks)
        (files-hold Sent to part one.suffix a g.theirs g.asked g.asks)

    reads-r : R g.asked g.read
    reads-r =
        w.reads g.asked g.read (files-pair Local from part one.suffix from to first g.asked (Ok (Ok g.ours)) g.read g.reads)
        (files-hold Local from part one.suffix g.asked g.ours g.read g.reads)

    theirs-are : AreLines a.nodes.power part one.suffix (known g.asked to part).told (state_by (known g.asked to part)) g.theirs.items
    theirs-are = files-told Sent to part one.suffix a g.theirs g.asked g.asks

    ours-are : AreLines g.asked.nodes.power part one.suffix (known g.read from part).told (state_by (known g.read from part)) g.ours.items
    ours-are = files-told Local from part one.suffix g.asked g.ours g.read g.reads

    theirs-picked : Sure g.asked → IsOfPart a.nodes.power part hash → IsOurs hash → picked_in g.theirs.items hash ≡ picked_of (V to g.asked)
    theirs-picked sure is ours =
        theirs-are.shown (w.told g.asked to second sure) hash is ours
        ∙ ap picked_of (w.tells g.asked to second sure (files-held Sent to part one.suffix a g.theirs g.asked g.asks hash is ours))

    ours-picked : Sure g.read → IsOfPart g.asked.nodes.power part hash → IsOurs hash → picked_in g.ours.items hash ≡ picked_of (V from g.read)
    ours-picked sure is ours =
        ours-are.shown (w.told g.read from first sure) hash is ours
        ∙ ap picked_of (w.tells g.read from first sure (files-held Local from part one.suffix g.asked g.ours g.read g.reads hash is ours))

    abbrev IsWithin : DirLine → Type 0
    IsWithin line = (partition_of line.hash g.asked.nodes.power ≡ part) × (suffix_of line.hash ≡ one.suffix)

    abbrev IsOwn : DirLine → Type 0
    IsOwn line = IsOfPart g.asked.nodes.power part line.hash × IsOurs line.hash

    -- each line is of a hash of the partition and the suffix
    lines-of : AllByRecursion IsOwn g.ours.items
    lines-of =
        all-both IsLine IsWithin IsOwn g.ours.items (λ line is within. (record { digest = is.digest; part_is = within.0 }, within.1))
        (recursion_from_All IsLine g.ours.items ours-are.are.each) (recursion_from_All IsWithin g.ours.items ours-are.within)

    lines-part : AllByRecursion (λ line. IsOfPart g.read.nodes.power part line.hash) g.ours.items
    lines-part =
        all-map IsOwn (λ line. IsOfPart g.read.nodes.power part line.hash) g.ours.items (λ line is. part-later g.asked g.read line.hash reads-r is.0) lines-of

    lines-count : AllByRecursion (LineCounts g.read) g.ours.items
    lines-count =
        all-both IsOwn (IsPicked hash g.ours.items) (LineCounts g.read) g.ours.items
        (λ line is picked same sure.
        files-count (V from g.read) line.picked
        (picked same ∙ ours-picked sure (subst (λ (h : Hash). IsOfPart g.asked.nodes.power part h) same is.0) (ap suffix_of (sym same) ∙ is.1)))
        lines-of (own-lines hash g.ours.items ours-are.are.ascending)

    pushes : R g.read c × (Sure c → AllByRecursion (LineTaken g.theirs.items c) g.ours.items)
    pushes = lines-taken g.read g.read c g.theirs.items g.ours.items (w.stays g.read) lines-part lines-count g.go

    asked-r : R g.asked c
    asked-r = w.join g.asked g.read c reads-r pushes.0

    suffix-r : R a c
    suffix-r = w.join a g.asked c asks-r asked-r

    taken-covers : Sure c → (file : FileName) → Taken (picked_of (V to g.asked)) (V to c) file → Covers (V to c) file
    taken-covers sure file (inl unwanted) v named =
        least-keeps (V to c) (V to g.asked) v (w.up g.asked c to second asked-r sure)
        (unwanted-keeps (V to g.asked) v (ap (is_wanted (picked_of (V to g.asked))) named ∙ unwanted))
    taken-covers sure file (inr is) v named = is v named

    suffix-taken : Sure c → IsOfPart a.nodes.power part hash → IsOurs hash → IsAtLeast (V to c) (V from a)
    suffix-taken sure is ours =
        at_least_transitive (V to c) (V from g.read) (V from a) (files-least (V to c) (V from g.read) all)
        (w.up a g.read from first (w.join a g.asked g.read asks-r reads-r) sure_read)
      where
        sure_read : Sure g.read
        sure_read = w.sure g.read c pushes.0 sure

        sure_asked : Sure g.asked
        sure_asked = w.sure g.asked c asked-r sure

        taken : AllByRecursion (Taken (picked_in g.theirs.items hash) (V to c)) (files (picked_in g.ours.items hash))
        taken = picked-at (λ p. AllByRecursion (Taken (picked_in g.theirs.items hash) (V to c)) (files p)) hash g.ours.items tt (pushes.1 sure)

        taken' : AllByRecursion (Taken (picked_of (V to g.asked)) (V to c)) (files (picked_of (V from g.read)))
        taken' =
            subst (λ (p : Picked). AllByRecursion (Taken (picked_of (V to g.asked)) (V to c)) (files p))
            (ours-picked sure_read (part-later a g.asked hash asks-r is) ours)
            (subst (λ (p : Picked). AllByRecursion (Taken p (V to c)) (files (picked_in g.ours.items hash))) (theirs-picked sure_asked is ours) taken)

        all : AllByRecursion (Covers (V to c)) (files (picked_of (V from g.read)))
        all = all-map (Taken (picked_of (V to g.asked)) (V to c)) (Covers (V to c)) (files (picked_of (V from g.read))) (taken-covers sure) taken'

  -- ---- the suffixes that differ

  abbrev Suffixes : Sight → Sight → List SuffixHash → Type 0
  Suffixes a c xs = R a c × (Sure c → IsOfPart a.nodes.power part hash → Among (suffix_of hash) xs → IsAtLeast (V to c) (V from a))

  suffixes-next : (a mid c : Sight) (one : SuffixHash) (xs : List SuffixHash) → SuffixGoes from to part one a mid → Suffixes mid c xs → Suffixes a c (one ∷ xs)
  suffixes-next a mid c one xs g rest = (w.join a mid c r rest.0, by)
    where
      r : R a mid
      r = suffix-r one a mid g

      by : Sure c → IsOfPart a.nodes.power part hash → Among (suffix_of hash) (one ∷ xs) → IsAtLeast (V to c) (V from a)
      by sure is (inl here) =
          at_least_transitive (V to c) (V to mid) (V from a) (w.up mid c to second rest.0 sure)
          (suffix-taken one a mid g (w.sure mid c rest.0 sure) is (sym here))
      by sure is (inr there) =
          at_least_transitive (V to c) (V from mid) (V from a) (rest.1 sure (part-later a mid hash r is) there)
          (w.up a mid from first r (w.sure mid c rest.0 sure))

  suffixes-taken : (a c : Sight) (xs : List SuffixHash) → AllGo (SuffixGoes from to part) xs a c → Suffixes a c xs
  suffixes-taken a c [] go = (subst (λ (x : Sight). R a x) (sym go) (w.stays a), λ sure is among. absurd among)
  suffixes-taken a c (one ∷ xs) go = suffixes-next a go.0 c one xs go.1 (suffixes-taken go.0 c xs go.2)

  -- ---- the whole

  -- the lines of a suffix whose hashes are told
  abbrev HasLines : ℕ → ℕ → (Hash → State) → List SuffixHash → Type 0
  HasLines power suffix s hashes = (lines : List DirLine) × AreLines power part suffix true s lines × (md5_in hashes suffix ≡ suffix_md5 lines)

  module _ (s t : Sight) (g : RunGoes from to part s t) where
    hashes-read-r : R s g.read
    hashes-read-r =
        w.reads s g.read (hashes-pair Local from part from to first s (Ok (Ok g.ours)) g.read g.reads) (hashes-hold Local from part s g.ours g.read g.reads)

    hashes-asked-r : R g.read g.asked
    hashes-asked-r =
        w.reads g.read g.asked (hashes-pair Sent to part from to second g.read (Ok (Ok g.theirs)) g.asked g.asks)
        (hashes-hold Sent to part g.read g.theirs g.asked g.asks)

    ours-hashes : AreHashes s.nodes.power part (known g.read from part).told (state_by (known g.read from part)) g.ours.items
    ours-hashes = hashes-told Local from part s g.ours g.read g.reads

    theirs-hashes : AreHashes g.read.nodes.power part (known g.asked to part).told (state_by (known g.asked to part)) g.theirs.items
    theirs-hashes = hashes-told Sent to part g.read g.theirs g.asked g.asks

    both-r : R s g.asked
    both-r = w.join s g.read g.asked hashes-read-r hashes-asked-r

    pushed : Suffixes g.asked t (differing g.ours.items g.theirs.items)
    pushed = suffixes-taken g.asked t (differing g.ours.items g.theirs.items) g.go

    run-r : R s t
    run-r = w.join s g.read t hashes-read-r (w.join g.read g.asked t hashes-asked-r pushed.0)

    run-taken : Sure t → IsOfPart s.nodes.power part hash → IsAtLeast (V to t) (V from s) ⊎ Collides from to part (suffix_of hash) s t
    run-taken sure is = by (compared g.ours.items g.theirs.items suffix lines others lines-are.are others-are.are own.2 other.2)
      where
        suffix : ℕ
        suffix = suffix_of hash

        below : suffix < 4096
        below = omega arith

        sure_asked : Sure g.asked
        sure_asked = w.sure g.asked t pushed.0 sure

        sure_read : Sure g.read
        sure_read = w.sure g.read g.asked hashes-asked-r sure_asked

        own : HasLines s.nodes.power suffix (state_by (known g.read from part)) g.ours.items
        own = ours-hashes.shown (w.told g.read from first sure_read) suffix below

        other : HasLines g.read.nodes.power suffix (state_by (known g.asked to part)) g.theirs.items
        other = theirs-hashes.shown (w.told g.asked to second sure_asked) suffix below

        lines : List DirLine
        lines = own.0

        others : List DirLine
        others = other.0

        lines-are : AreLines s.nodes.power part suffix true (state_by (known g.read from part)) lines
        lines-are = own.1

        others-are : AreLines s.nodes.power part suffix true (state_by (known g.asked to part)) others
        others-are =
            subst (λ (k : Nodes). AreLines k.power part suffix true (state_by (known g.asked to part)) others) (w.moves s g.read hashes-read-r).nodes other.1

        -- what the sender had at the start it has at its reading
        since-start : IsAtLeast (V from g.read) (V from s)
        since-start = w.up s g.read from first hashes-read-r sure_read

        lines-picked : picked_in lines hash ≡ picked_of (V from g.read)
        lines-picked =
            lines-are.shown refl hash is refl ∙ ap picked_of (w.tells g.read from first sure_read (hashes-held Local from part s g.ours g.read g.reads hash is))

        others-picked : picked_in others hash ≡ picked_of (V to g.asked)
        others-picked =
            others-are.shown refl hash is refl
            ∙ ap picked_of (w.tells g.asked to second sure_asked
            (hashes-held Sent to part g.read g.theirs g.asked g.asks hash (part-later s g.read hash hashes-read-r is)))

        by : Verdict g.ours.items g.theirs.items suffix lines others → IsAtLeast (V to t) (V from s) ⊎ Collides from to part suffix s t
        by (inl none) =
            let nothing : picked_in [] hash ≡ picked_of (V from g.read) =
            subst (λ (xs : List DirLine). picked_in xs hash ≡ picked_of (V from g.read)) none lines-picked in
            inl (at_least_transitive (V to t) (V from g.read) (V from s)
            (files-least (V to t) (V from g.read) (subst (λ (p : Picked). AllByRecursion (Covers (V to t)) (files p)) nothing tt)) since-start)
        by (inr (inl same)) =
            let alike : picked_of (V to g.asked) ≡ picked_of (V from g.read) =
            sym others-picked ∙ (sym (ap (λ (xs : List DirLine). picked_in xs hash) same) ∙ lines-picked) in
            inl (at_least_transitive (V to t) (V to g.asked) (V from s) (w.up g.asked t to second pushed.0 sure)
            (at_least_transitive (V to g.asked) (V from g.read) (V from s) (alike-least (V to g.asked) (V from g.read) alike) since-start))
        by (inr (inr (inl apart))) =
            inr (record {
              ours = lines;
              theirs = others;
              our_history = known g.read from part;
              their_history = known g.asked to part;
              ours_were = record {
                after = later from to part from s g.read (w.moves s g.read hashes-read-r);
                before = later from to part from g.read t (w.moves g.read t (w.join g.read g.asked t hashes-asked-r pushed.0));
              };
              theirs_were = record {
                after = later from to part to s g.asked (w.moves s g.asked both-r);
                before = later from to part to g.asked t (w.moves g.asked t pushed.0);
              };
              ours_are = lines-are;
              theirs_are = others-are;
              differ = apart.0;
              collide = apart.1;
            })
        by (inr (inr (inr among))) =
            inl (at_least_transitive (V to t) (V from g.asked) (V from s)
            (pushed.1 sure (part-later s g.asked hash both-r is) among)
            (w.up s g.asked from first both-r sure_asked))

    pub run-covers : R s t × (Sure t → IsOfPart s.nodes.power part hash → IsAtLeast (V to t) (V from s) ⊎ Collides from to part (suffix_of hash) s t)
    run-covers = (run-r, run-taken)
