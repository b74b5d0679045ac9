-- A push of which nothing is left: each call was answered, and what was sent was acknowledged.
use Rattle.sw_pass.specs.Turns.{InTurn}
use Rattle.std.proofs.Common.{◌≡◌, ℕ, Bool, true, false, List, [], ◌∷◌, sym, ◌∙◌, ap, arith, ◌⊎◌, inl, inr, Option, Some, None, Result, Ok, Err}
use Rattle.std.specs.declared.alloc.Global.{Global}
use Rattle.std.specs.declared.vec.Vec.{Vec}
use Rattle.sw_diskfile.specs.declared.file_name.FileName.{FileName}
use Rattle.sw_diskfile.specs.declared.picking.Picked.{Picked}
use Rattle.sw_outside.specs.Counts.{raised}
use Rattle.sw_pass.specs.Outcomes.{Hinders, answer_hindrance, asking, fault_hindrance, hindered, losing, nothing_yet, sending}
use Rattle.sw_pass.specs.declared.hindrance.Hindrance.{Hindrance}
use Rattle.sw_pass.specs.declared.hindrance.Hindrance.TheVariants.{Missing}
use Rattle.sw_pass.specs.declared.outcome.Outcome.{Outcome}
use Rattle.sw_object_steps.specs.Journals.{Hash}
use Rattle.sw_object_steps.specs.Parts.{picked_in}
use Rattle.sw_peer.specs.Sights.{Calls, IsFilesRead, IsHashesRead, IsMade, IsWriteRead, Sight}
use Rattle.sw_object_steps.specs.Steps.{is_held}
use Rattle.sw_object_steps.specs.declared.answer.Answer.{Answer}
use Rattle.sw_object_steps.specs.declared.change.Change.TheVariants.{Receive}
use Rattle.sw_object_steps.specs.declared.dir_fault.DirFault.{DirFault}
use Rattle.sw_peer.specs.declared.link.Link.TheVariants.{Local, Sent}
use Rattle.sw_peer.specs.declared.link.Lost.{Lost}
use Rattle.sw_object_steps.specs.declared.stored.Stored.{Stored}
use Rattle.sw_replicator.specs.Pushing.{CountsFor, IsAskedNext, IsBeside, IsCompared, IsFilePushed, IsLinePushed}
use Rattle.sw_replicator.specs.Pushing.{IsOursPushed, IsPassedOn, IsRun, IsSuffixPushed, differing, is_wanted}
use Rattle.sw_suffix.specs.SuffixTexts.{files}
use Rattle.sw_suffix.specs.declared.dir_line.DirLine.{DirLine}
use Rattle.sw_suffix.specs.declared.told.SuffixHash.{SuffixHash}

-- ---- the calls that are left of the relation where nothing hindered

module _ {A : Type 0} (goes : A → Sight → Sight → Type 0) where
  abbrev pub AllGo : List A → Sight → Sight → Type 0
  AllGo [] s t = t ≡ s
  AllGo (x ∷ xs) s t = (mid : Sight) × goes x s mid × AllGo xs mid t

module _ (from to part : ℕ) where
  -- a file was read, sent and acknowledged
  pub record Passes (hash : Hash) (file : FileName) (s t : Sight) : Type 0 where
    pub stored : Stored
    pub mid : Sight
    pub answer : Answer
    pub read : Calls (IsWriteRead Local from part hash file) s Local (Ok (Ok (Some stored))) mid
    pub made : Calls (IsMade Sent to stored.name (Receive stored.write)) mid Sent (Ok answer) t
    pub held : is_held (Receive stored.write) answer ≡ true

  abbrev pub FileGoes : Picked → Hash → FileName → Sight → Sight → Type 0
  FileGoes theirs hash file s t = ((is_wanted theirs file ≡ false) × (t ≡ s)) ⊎ Passes hash file s t

  abbrev pub LineGoes : List DirLine → DirLine → Sight → Sight → Type 0
  LineGoes theirs line = AllGo (FileGoes (picked_in theirs line.hash) line.hash) (files line.picked)

  -- both were answered the files of the suffix
  pub record SuffixGoes (one : SuffixHash) (s t : Sight) : Type 0 where
    pub theirs : Vec DirLine Global
    pub asked : Sight
    pub ours : Vec DirLine Global
    pub read : Sight
    pub asks : Calls (IsFilesRead Sent to part one.suffix) s Sent (Ok (Ok theirs)) asked
    pub reads : Calls (IsFilesRead Local from part one.suffix) asked Local (Ok (Ok ours)) read
    pub go : AllGo (LineGoes theirs.items) ours.items read t

  -- and both were answered the hashes
  pub record RunGoes (s t : Sight) : Type 0 where
    pub ours : Vec SuffixHash Global
    pub read : Sight
    pub theirs : Vec SuffixHash Global
    pub asked : Sight
    pub reads : Calls (IsHashesRead Local from part) s Local (Ok (Ok ours)) read
    pub asks : Calls (IsHashesRead Sent to part) read Sent (Ok (Ok theirs)) asked
    pub go : AllGo SuffixGoes (differing ours.items theirs.items) asked t

-- ---- where nothing is left nothing was before

raised-some : (n : ℕ) → raised n ≡ 0 → ⊥
raised-some n is = omega (arith, is)

never : true ≡ false → ⊥
never is = cc

abbrev left_is : (p o : Outcome) → p ≡ o → p.left ≡ 0 → o.left ≡ 0
left_is p o is none = ap (λ (x : Outcome). x.left) (sym is) ∙ none

hinders-none : (h : Option Hindrance) (o p : Outcome) → Hinders h o p true → p.left ≡ 0 → ⊥
hinders-none (Some h) o p is none = raised-some o.left (left_is p (hindered o h) is.0 none)
hinders-none None o p is none = never is.1

module _ {A : Type 0} (one : A → Sight → Outcome → Sight → Outcome → Bool → Type 0) (goes : A → Sight → Sight → Type 0)
    (each : (x : A) (s : Sight) (o : Outcome) (t : Sight) (p : Outcome) → one x s o t p true → p.left ≡ 0 → (o.left ≡ 0) × goes x s t) where
  all-go : (xs : List A) (s : Sight) (o : Outcome) (t : Sight) (p : Outcome) → InTurn one xs s o t p true → p.left ≡ 0 → (o.left ≡ 0) × AllGo goes xs s t
  all-go [] s o t p is none = (left_is p o is.1 none, is.0)
  all-go (x ∷ xs) s o t p (inl is) none =
      let rest = all-go xs is.0 is.1 t p is.3 none in
      let first = each x s o is.0 is.1 is.2 rest.0 in
      (first.0, (is.0, first.1, rest.1))
  all-go (x ∷ xs) s o t p (inr is) none = absurd (never is.1)

module _ (from to part : ℕ) where
  passed : (hash : Hash) (file : FileName) (got : Result (Option Stored) DirFault) (s mid : Sight) (o : Outcome) (t : Sight) (p : Outcome)
      → Calls (IsWriteRead Local from part hash file) s Local (Ok got) mid → IsPassedOn from to part got mid o t p true → p.left ≡ 0
      → (o.left ≡ 0) × Passes from to part hash file s t
  passed hash file (Ok (Some stored)) s mid o t p read is none = by is.0 is.1 is.2
    where
      by : (r : Result Answer Lost) → Calls (IsMade Sent to stored.name (Receive stored.write)) mid Sent r t
          → CountsFor (Receive stored.write) r (sending o) p true → (o.left ≡ 0) × Passes from to part hash file s t
      by (Ok answer) made (inl counts) = (
        left_is p (sending o) counts.1 none,
        record { stored = stored; mid = mid; answer = answer; read = read; made = made; held = counts.0 },
      )
      by (Ok answer) made (inr counts) = absurd (hinders-none (answer_hindrance answer) (sending o) p counts.1 none)
      by (Err lost) made counts = absurd (raised-some (sending o).left (left_is p (losing (sending o)) counts.0 none))
  passed hash file (Ok None) s mid o t p read is none = absurd (raised-some o.left (left_is p (hindered o Missing) is.1 none))
  passed hash file (Err fault) s mid o t p read is none = absurd (hinders-none (fault_hindrance fault) o p is.1 none)

  file-goes : (theirs : Picked) (hash : Hash) (file : FileName) (s : Sight) (o : Outcome) (t : Sight) (p : Outcome)
      → IsFilePushed from to part theirs hash file s o t p true → p.left ≡ 0 → (o.left ≡ 0) × FileGoes from to part theirs hash file s t
  file-goes theirs hash file s o t p (inl is) none = (left_is p o is.2 none, inl (is.0, is.1))
  file-goes theirs hash file s o t p (inr is) none = let r = passed hash file is.1.0 s is.1.1 o t p is.1.2 is.1.3 none in (r.0, inr r.1)

  line-goes : (theirs : List DirLine) (line : DirLine) (s : Sight) (o : Outcome) (t : Sight) (p : Outcome)
      → IsLinePushed from to part theirs line s o t p true → p.left ≡ 0 → (o.left ≡ 0) × LineGoes from to part theirs line s t
  line-goes theirs line s o t p is none =
      all-go (IsFilePushed from to part (picked_in theirs line.hash) line.hash) (FileGoes from to part (picked_in theirs line.hash) line.hash)
      (file-goes (picked_in theirs line.hash) line.hash) (files line.picked) s o t p is none

  suffix-goes : (one : SuffixHash) (s : Sight) (o : Outcome) (t : Sight) (p : Outcome)
      → IsSuffixPushed from to part one s o t p true → p.left ≡ 0 → (o.left ≡ 0) × SuffixGoes from to part one s t
  suffix-goes one s o t p is none = beside is.0 is.1 is.2 is.3
    where
      lines : (theirs ours : Vec DirLine Global) (asked read : Sight) → Calls (IsFilesRead Sent to part one.suffix) s Sent (Ok (Ok theirs)) asked
          → Calls (IsFilesRead Local from part one.suffix) asked Local (Ok (Ok ours)) read
          → IsOursPushed from to part theirs.items (Ok ours) read (asking o) t p true → (o.left ≡ 0) × SuffixGoes from to part one s t
      lines theirs ours asked read asks reads go =
          let r =
          all-go (IsLinePushed from to part theirs.items) (LineGoes from to part theirs.items) (line-goes theirs.items)
          ours.items read (asking o) t p go none in
          (r.0, record { theirs = theirs; asked = asked; ours = ours; read = read; asks = asks; reads = reads; go = r.1 })

      own : (theirs : Vec DirLine Global) (ours : Result (Vec DirLine Global) DirFault) (asked read : Sight)
          → Calls (IsFilesRead Sent to part one.suffix) s Sent (Ok (Ok theirs)) asked
          → Calls (IsFilesRead Local from part one.suffix) asked Local (Ok ours) read → IsOursPushed from to part theirs.items ours read (asking o) t p true
          → (o.left ≡ 0) × SuffixGoes from to part one s t
      own theirs (Ok ours) asked read asks reads go = lines theirs ours asked read asks reads go
      own theirs (Err fault) asked read asks reads go = absurd (hinders-none (fault_hindrance fault) (asking o) p go.1 none)

      beside : (theirs : Result (Result (Vec DirLine Global) DirFault) Lost) (asked : Sight) → Calls (IsFilesRead Sent to part one.suffix) s Sent theirs asked
          → IsBeside from to part one.suffix theirs asked (asking o) t p true → (o.left ≡ 0) × SuffixGoes from to part one s t
      beside (Ok (Ok theirs)) asked asks go = own theirs go.0 asked go.1 asks go.2 go.3
      beside (Ok (Err fault)) asked asks go = absurd (hinders-none (fault_hindrance fault) (asking o) p go.1 none)
      beside (Err lost) asked asks go = absurd (raised-some (asking o).left (left_is p (losing (asking o)) go.1 none))

  pub run-goes : (s t : Sight) (p : Outcome) → IsRun from to part s t p true → p.left ≡ 0 → RunGoes from to part s t
  run-goes s t p is none = next is.0 is.1 is.2 is.3
    where
      compared : (ours : Vec SuffixHash Global) (theirs : Result (Result (Vec SuffixHash Global) DirFault) Lost) (read asked : Sight)
          → Calls (IsHashesRead Local from part) s Local (Ok (Ok ours)) read → Calls (IsHashesRead Sent to part) read Sent theirs asked
          → IsCompared from to part ours.items theirs asked (asking nothing_yet) t p true → RunGoes from to part s t
      compared ours (Ok (Ok theirs)) read asked reads asks go =
          let r =
          all-go (IsSuffixPushed from to part) (SuffixGoes from to part) suffix-goes
          (differing ours.items theirs.items) asked (asking nothing_yet) t p go none in
          record { ours = ours; read = read; theirs = theirs; asked = asked; reads = reads; asks = asks; go = r.1 }
      compared ours (Ok (Err fault)) read asked reads asks go = absurd (hinders-none (fault_hindrance fault) (asking nothing_yet) p go.1 none)
      compared ours (Err lost) read asked reads asks go = absurd (raised-some (asking nothing_yet).left (left_is p (losing (asking nothing_yet)) go.1 none))

      next : (ours : Result (Vec SuffixHash Global) DirFault) (read : Sight) → Calls (IsHashesRead Local from part) s Local (Ok ours) read
          → IsAskedNext from to part ours read nothing_yet t p true → RunGoes from to part s t
      next (Ok ours) read reads go = compared ours go.0 read go.1 reads go.2 go.3
      next (Err fault) read reads go = absurd (hinders-none (fault_hindrance fault) nothing_yet p go.1 none)
