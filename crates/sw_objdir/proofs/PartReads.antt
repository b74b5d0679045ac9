-- What is read of a partition, once its doubts are settled, is what its hashes stand for.
use Rattle.std.proofs.Common.{◌≡◌, ℕ, Bool, true, false, ◌&&◌, List, [], sym, subst, Result, Ok, Err, IfOk, OnOk}
use Rattle.sw_hashdir.specs.Places.{holds, in_order}
use Rattle.std.proofs.lemmas.Bool.{and_from, and_parts}
use Rattle.sw_object_steps.proofs.Parts.{hashes-as, lines-as}
use Rattle.sw_objdir.proofs.Looking.{all-held, dir-moved, held-told, looks-moved, looks-trans, part-reads}
use Rattle.sw_objdir.proofs.Told.{reopens}
use Rattle.sw_objdir.specs.Comparing.{CountsFault, fault_of_volume}
use Rattle.sw_objdir.specs.Directories.{IsDir, Kept, are_in_order, held, is_told}
use Rattle.sw_objdir.specs.Stepping.{IsPartStep, LooksAt, SameFiles}
use Rattle.sw_object_steps.specs.Journals.{Hash, written}
use Rattle.sw_object_steps.specs.Parts.{AreHashes, AreLines}
use Rattle.sw_object_steps.specs.declared.dir_fault.DirFault.{DirFault}
use Rattle.sw_object_steps.specs.declared.dir_fault.DirFault.TheVariants as faulted
use Rattle.sw_pending_dir.specs.Places.{records_in_order}
use Rattle.sw_state.specs.declared.state.State.{State}
use Rattle.sw_suffix.specs.declared.dir_line.DirLine.{DirLine}
use Rattle.sw_suffix.specs.declared.told.SuffixHash.{SuffixHash}
use Rattle.sw_volume.specs.Tree.{Folders}
use Rattle.sw_volume.specs.Volume.{HasCause}
use Rattle.sw_volume.specs.declared.errors.VolumeError.{VolumeError}
use Rattle.sw_volume.specs.declared.errors.VolumeError.TheVariants as volumes

pub on-ok : {A E : Type 0} (r : Result A E) (P : Type 0) → P → OnOk r P
on-ok (Ok a) P is = is
on-ok (Err e) P is = tt

pub if-ok : {A E : Type 0} (r : Result A E) (P Q : A → Type 0) → ((a : A) → P a → Q a) → IfOk r P → IfOk r Q
if-ok (Ok a) P Q f is = f a is
if-ok (Err e) P Q f is = tt

module _ {V : Type 0} (tells : V → Bool) (files : V → Folders) (faults : V → ℕ) (m : Kept V) (dir : IsDir tells files faults m) where
  abbrev now : Hash → State
  now hash = holds m.secrets m.power (files m.volume) hash

  order-now : is_told tells files faults m ≡ true → (tells m.volume && in_order m.secrets m.power (files m.volume)) ≡ true
  order-now told =
      let both = and_parts (tells m.volume) (are_in_order m.secrets m.power (files m.volume)) (reopens tells files faults m dir told) in
      and_from _ _ both.0 (and_parts (in_order m.secrets m.power (files m.volume)) (records_in_order m.secrets (files m.volume)) both.1).0

  -- what was read of the files is of what the hashes stand for
  pub lines-held : (part suffix : ℕ) (lines : List DirLine)
      → AreLines m.power part suffix (tells m.volume && in_order m.secrets m.power (files m.volume)) now lines
      → AreLines m.power part suffix (is_told tells files faults m) (held tells files faults m) lines
  lines-held part suffix lines = lines-as m.power part suffix _ (is_told tells files faults m) now (held tells files faults m) lines
      order-now (λ told hash of last. sym (held-told tells files faults m hash told))

  pub hashes-held : (part : ℕ) (hashes : List SuffixHash)
      → AreHashes m.power part (tells m.volume && in_order m.secrets m.power (files m.volume)) now hashes
      → AreHashes m.power part (is_told tells files faults m) (held tells files faults m) hashes
  hashes-held part hashes = hashes-as m.power part _ (is_told tells files faults m) now (held tells files faults m) hashes
      order-now (λ told hash of. sym (held-told tells files faults m hash told))

-- ---- answers

-- the answer as which that of a call of a volume is told
abbrev pub told_as : {A : Type 0} → Result A VolumeError → Result A DirFault
told_as (Ok got) = Ok got
told_as (Err error) = Err (fault_of_volume error)

pub told-counts : {A : Type 0} (r : Result A VolumeError) (got : Result A DirFault) (before now : ℕ) → got ≡ told_as r → HasCause before now r
    → CountsFault before now got
told-counts (Ok a) got before now is cause = subst (λ (x : Result _ DirFault). CountsFault before now x) (sym is) cause.kept
told-counts (Err volumes.Failed) got before now is cause = subst (λ (x : Result _ DirFault). CountsFault before now x) (sym is) cause.once
told-counts (Err volumes.NoMemory) got before now is cause = subst (λ (x : Result _ DirFault). CountsFault before now x) (sym is) cause.memory

-- a cause doesn't depend on what would have been given
pub cause-as : {A B : Type 0} {before now : ℕ} (e : VolumeError) → HasCause {T = A} before now (Err e) → HasCause {T = B} before now (Err e)
cause-as volumes.Failed cause = record { once = cause.once; memory = tt; kept = tt; later = cause.later; risen = cause.risen }
cause-as volumes.NoMemory cause = record { once = tt; memory = cause.memory; kept = tt; later = cause.later; risen = tt }

module _ {V : Type 0} (tells : V → Bool) (files : V → Folders) (faults : V → ℕ) where
  -- a call of the volume was the last of a read
  pub part-told : {at : Hash → Bool} {damages : Bool} (k n : Kept V) → LooksAt tells files faults at k n → IsDir tells files faults n
      → {A : Type 0} (reading : Bool → (Hash → State) → A → Type 0) (r : Result A VolumeError) (got : Result A DirFault)
      → got ≡ told_as r → HasCause (faults k.volume) (faults n.volume) r → OnOk r ((hash : Hash) → at hash ≡ true → written hash n.journal.doubts ≡ [])
      → (s : Hash → State) → ((hash : Hash) → s hash ≡ held tells files faults n hash) → IfOk r (λ a. reading (is_told tells files faults n) s a)
      → IsPartStep tells files faults k at damages reading got n
  part-told {at} {damages} k n looks after {A} reading r got is cause settled s now shown =
      subst (λ (x : Result A DirFault). IsPartStep tells files faults k at damages reading x n) (sym is) (by r cause settled shown)
    where
      by : (x : Result A VolumeError) → HasCause (faults k.volume) (faults n.volume) x
          → OnOk x ((hash : Hash) → at hash ≡ true → written hash n.journal.doubts ≡ []) → IfOk x (λ a. reading (is_told tells files faults n) s a)
          → IsPartStep tells files faults k at damages reading (told_as x) n
      by (Ok a) cause none read = part-reads tells files faults k n at damages reading (Ok a) looks after (λ is. none) s now (λ is. read) (λ is. cc)
          (λ bad is. cc) (λ is. cc)
      by (Err volumes.Failed) cause none read = part-reads tells files faults k n at damages reading (Err faulted.Failed) looks after (λ is. cc) s now
          (λ is. cc) (λ is. cc) (λ bad is. cc) (λ is. cause.risen)
      by (Err volumes.NoMemory) cause none read = part-reads tells files faults k n at damages reading (Err faulted.NoMemory) looks after (λ is. cc) s now
          (λ is. cc) (λ is. cc) (λ bad is. cc) (λ is. cc)

  -- the same, after doubts were settled and no call failed
  module _ {at : Hash → Bool} (k m : Kept V) (looks : LooksAt tells files faults at k m) (after : IsDir tells files faults m)
      (fine : faults m.volume ≡ faults k.volume) (v : V) (told_is : tells v ≡ tells m.volume) (stay : SameFiles tells files faults m (record m { volume = v }))
      {A : Type 0} (r : Result A VolumeError) (cause : HasCause (faults m.volume) (faults v) r) where
    abbrev moved : Kept V
    moved = record m { volume = v }

    moves : LooksAt tells files faults at m moved
    moves = looks-moved tells files faults m v told_is stay cause.later

    pub moved-looks : LooksAt tells files faults at k (record m { volume = v })
    moved-looks = looks-trans tells files faults k m moved looks moves

    pub moved-dir : IsDir tells files faults (record m { volume = v })
    moved-dir = dir-moved tells files faults m v after told_is stay

    moved-cause : HasCause (faults k.volume) (faults v) r
    moved-cause = subst (λ (x : ℕ). HasCause x (faults v) r) fine cause

    pub moved-counts : (got : Result A DirFault) → got ≡ told_as r → CountsFault (faults k.volume) (faults v) got
    moved-counts got is = told-counts r got (faults k.volume) (faults v) is moved-cause

    pub moved-told : (reading : Bool → (Hash → State) → A → Type 0) (got : Result A DirFault)
        → got ≡ told_as r → ((hash : Hash) → at hash ≡ true → written hash m.journal.doubts ≡ [])
        → IfOk r (λ a. reading (is_told tells files faults m) (held tells files faults m) a)
        → IsPartStep tells files faults k at false reading got (record m { volume = v })
    moved-told reading got is none read =
        part-told k moved moved-looks moved-dir reading r got is moved-cause (on-ok r _ none) (held tells files faults m)
        (λ hash. sym (all-held tells files faults at m moved moves after hash)) read
