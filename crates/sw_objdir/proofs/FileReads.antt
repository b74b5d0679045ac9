-- A read of one file, once the doubt of its hash is settled.
use Rattle.std.proofs.Common.{arith, Some, ◌≡◌, ◌≢◌, ℕ, ◌≤◌, ◌∷◌, Bool, true, false, List, [], Option, refl, sym, ◌∙◌, ap, subst, inl, inr}
use Rattle.std.proofs.Common.{Ok, Err, IfSome, Result}
use Rattle.std.proofs.lemmas.Bool.{cases_Bool}
use Rattle.std.specs.Option.{option_map}
use Rattle.std.specs.Str.{bytes_eq}
use Rattle.sw_diskfile.specs.FileNames.{name_text}
use Rattle.sw_diskfile.specs.StateFiles.{name_of}
use Rattle.sw_diskfile.specs.declared.file_name.FileName.{FileName}
use Rattle.sw_hashdir.specs.Places.{dir_text, is_place}
use Rattle.sw_hashdir.specs.Readings.{IfDamaged, IsDamaged, IsFound, IsFoundAt, OnFailedRead}
use Rattle.sw_hashdir.specs.Steps.{IsHashed, is_hashed}
use Rattle.sw_hashdir.specs.declared.reading.ReadFault.{ReadFault}
use Rattle.sw_hashdir.specs.declared.reading.ReadFault.TheVariants as reads
use Rattle.sw_hashpath.specs.declared.decode_error.BadFile.{BadFile}
use Rattle.sw_hashpath.specs.declared.secrets.Secrets.{Secrets}
use Rattle.sw_objdir.proofs.Looking.{all-held, dir-moved, held-told, looks-moved, looks-trans, part-reads, read_as, tells-now}
use Rattle.sw_objdir.proofs.OneFile.{IsReadIn, damaged-never, is-file}
use Rattle.sw_objdir.proofs.Reading.{found-still, risen-once}
use Rattle.sw_objdir.specs.Comparing.{HasDoubt, IfDamagedPart, Looks, ReadsOnce, SettlesDoubt, fault_of_read, fault_of_volume, listings_of}
use Rattle.sw_objdir.specs.Directories.{IsDir, Kept, held, is_told}
use Rattle.sw_objdir.specs.Stepping.{IsPartStep, LooksAt, SameFiles}
use Rattle.sw_objdir.specs.declared.comparing.Scope.TheVariants as scopes
use Rattle.sw_outside.specs.Counts.{raised}
use Rattle.sw_outside.specs.Faults.{HasRisen}
use Rattle.sw_object_steps.proofs.Hashes.{hash-same, hash-self}
use Rattle.sw_object_steps.specs.Journals.{Hash, Journal, written}
use Rattle.sw_object_steps.specs.Parts.{IsFile}
use Rattle.sw_object_steps.specs.Histories.{IsGiven, part_look}
use Rattle.sw_object_steps.specs.declared.dir_fault.DirFault.{DirFault}
use Rattle.sw_object_steps.specs.declared.dir_fault.DirFault.TheVariants as faulted
use Rattle.sw_object_steps.specs.declared.entry.ObjEntry.{ObjEntry}
use Rattle.sw_object_steps.specs.declared.stored.Stored.{Stored}
use Rattle.sw_state.specs.declared.write.Write.{Write}
use Rattle.sw_step.specs.Steps.{IsDamaged as IsFoundDamaged, IsLost, Tells}
use Rattle.sw_volume.specs.Tree.{Folders, contents}
use Rattle.sw_volume.specs.declared.errors.VolumeError.{VolumeError}
use Rattle.sw_volume.specs.declared.errors.VolumeError.TheVariants as volumes

-- the hash is settled, whether it was in doubt or not
pub one-settled : {V : Type 0} (calls lists : V → ℕ) (k m : Kept V) (hash : Hash) (b : Bool) → SettlesDoubt calls lists k (scopes.Hash hash) (Ok b) m
    → written hash m.journal.doubts ≡ []
one-settled calls lists k m hash true some =
    subst (λ (h : Hash). written h m.journal.doubts ≡ []) (sym (hash-same hash some.doubt.hash some.doubt.within)) some.settled
one-settled calls lists k m hash false none =
    subst (λ (j : Journal). written hash j.doubts ≡ []) (sym none.same) (none.none hash (hash-self hash))

-- ---- calls

some-listing : (ws : List Write) → ws ≢ [] → listings_of ws ≡ 1
some-listing [] some = absurd (some refl)
some-listing (w ∷ ws) some = refl

one-listing : (power : ℕ) (hash : Hash) (ds : List ObjEntry) → HasDoubt power (scopes.Hash hash) ds → listings_of (written hash ds) ≡ 1
one-listing power hash ds doubt =
    subst (λ (h : Hash). listings_of (written h ds) ≡ 1) (sym (hash-same hash doubt.hash doubt.within)) (some-listing (written doubt.hash ds) doubt.doubted)

module _ {V : Type 0} (calls lists : V → ℕ) (k m : Kept V) (hash : Hash) where
  -- one listing, where the hash was in doubt
  pub settled-looks : (b : Bool) → SettlesDoubt calls lists k (scopes.Hash hash) (Ok b) m →
      Looks calls lists (listings_of (written hash k.journal.doubts)) 0 k m
  settled-looks true some =
      subst (λ (n : ℕ). Looks calls lists n 0 k m) (sym (one-listing k.power hash k.journal.doubts some.doubt)) some.listed
  settled-looks false none =
      subst (λ (n : ℕ). Looks calls lists n 0 k m) (sym (ap listings_of (none.none hash (hash-self hash)))) none.listed

  pub unsettled-calls : (A : Type 0) (error : VolumeError) (e : DirFault) → e ≡ fault_of_volume error
      → SettlesDoubt calls lists k (scopes.Hash hash) (Err error) m → ReadsOnce calls lists {A = A} (listings_of (written hash k.journal.doubts)) k (Err e) m
  unsettled-calls A volumes.Failed e is failed =
      subst (λ (x : DirFault). ReadsOnce calls lists {A = A} (listings_of (written hash k.journal.doubts)) k (Err x) m) (sym is)
      (inr (one-listing k.power hash k.journal.doubts failed.0, failed.1))
  unsettled-calls A volumes.NoMemory e is wanted =
      subst (λ (x : DirFault). ReadsOnce calls lists {A = A} (listings_of (written hash k.journal.doubts)) k (Err x) m) (sym is)
      (inr (wanted.1.0, (let one = one-listing k.power hash k.journal.doubts wanted.0 in let le = wanted.1.1 in omega (arith, one, le)), wanted.1.2))

  -- and then the read
  pub read-looks : (v : V) (listings : ℕ) → calls v ≡ raised (calls m.volume) → lists v ≡ lists m.volume → Looks calls lists listings 0 k m
      → Looks calls lists listings 1 k (record m { volume = v })
  read-looks v listings once none looks = record { called = once ∙ ap raised looks.called; listings = none ∙ looks.listings }

pub refused-calls : {V : Type 0} (calls lists : V → ℕ) (A : Type 0) (k n : Kept V) (listings : ℕ) (fault : ReadFault) (e : DirFault) → e ≡ fault_of_read fault
    → Looks calls lists listings 1 k n → ReadsOnce calls lists {A = A} listings k (Err e) n
refused-calls calls lists A k n listings fault e is looks =
    subst (λ (x : DirFault). ReadsOnce calls lists {A = A} listings k (Err x) n) (sym is) (by fault)
  where
    by : (x : ReadFault) → ReadsOnce calls lists {A = A} listings k (Err (fault_of_read x)) n
    by (reads.Damaged bad) = looks
    by reads.Failed = inl looks
    by reads.NoMemory = inl looks

-- ---- what stands in the files

-- what was found after the listing stood there before it
pub found-before : {V : Type 0} (tells : V → Bool) (files : V → Folders) (faults : V → ℕ) {at : Hash → Bool} (k m : Kept V)
    → LooksAt tells files faults at k m → (hash : Hash)
    (path dir : List ℕ) → path ≡ dir → (file : FileName) (found : Option Write)
    → (tells m.volume ≡ true → IsFoundAt m.secrets hash (files m.volume) path (Some file) found)
    → tells k.volume ≡ true → IsFoundAt k.secrets hash (files k.volume) dir (Some file) found
found-before tells files faults k m looks hash path dir path_is file found there told =
    found-still k.secrets hash (files k.volume) (files m.volume) dir (looks.still told) (Some file) found
    (subst (λ (s : Secrets). IsFoundAt s hash (files m.volume) dir (Some file) found) looks.same.secrets
    (subst (λ (p : List ℕ). IsFoundAt m.secrets hash (files m.volume) p (Some file) found) path_is (there (looks.same.told ∙ told))))

-- what is said of a damaged file
pub damaged-as : (A B : Type 0) (fault : ReadFault) (e : DirFault) (P Q : BadFile → Type 0) → e ≡ fault_of_read fault → ((bad : BadFile) → P bad → Q bad)
    → IfDamaged {T = A} (Err fault) P → IfDamagedPart {A = B} (Err e) Q
damaged-as A B (reads.Damaged bad) e P Q is f there = subst (λ (x : DirFault). IfDamagedPart {A = B} (Err x) Q) (sym is) (f bad there)
damaged-as A B reads.Failed e P Q is f there = subst (λ (x : DirFault). IfDamagedPart {A = B} (Err x) Q) (sym is) tt
damaged-as A B reads.NoMemory e P Q is f there = subst (λ (x : DirFault). IfDamagedPart {A = B} (Err x) Q) (sym is) tt

module _ {V : Type 0} (tells : V → Bool) (files : V → Folders) (faults : V → ℕ) (k m : Kept V) (hash : Hash)
    (looks : LooksAt tells files faults (bytes_eq hash) k m)
    (after : IsDir tells files faults m) (fine : faults m.volume ≡ faults k.volume) (v : V) (told_is : tells v ≡ tells m.volume)
    (stay : SameFiles tells files faults m (record m { volume = v })) (up : faults m.volume ≤ faults v) (file : FileName) (path : List ℕ)
    (le : file.time ≤ 999999999999999) (path_is : path ≡ dir_text m.power hash) (place : is_place m.power hash ≡ true)
    (none : written hash m.journal.doubts ≡ []) where
  abbrev moved : Kept V
  moved = record m { volume = v }

  moves : LooksAt tells files faults (bytes_eq hash) m moved
  moves = looks-moved tells files faults m v told_is stay up

  pub file-looks : LooksAt tells files faults (bytes_eq hash) k (record m { volume = v })
  file-looks = looks-trans tells files faults k m moved looks moves

  pub file-dir : IsDir tells files faults (record m { volume = v })
  file-dir = dir-moved tells files faults m v after told_is stay

  abbrev Reads : Result (Option Stored) DirFault → Type 0
  Reads got = IsPartStep tells files faults k (bytes_eq hash) true (λ told s got. IsFile (is_hashed k.secrets) hash file told s got) got moved

  -- what was told of the file is what a read of the hash gives
  read-so : (got : Result (Option Stored) DirFault)
      → (part_look got ≡ Tells → IsGiven (λ s x. IsFile (is_hashed k.secrets) hash file (is_told tells files faults m) s x)
      (read_as tells files faults moved (held tells files faults m)) got)
      → (part_look got ≡ IsFoundDamaged → is_told tells files faults m ≡ false)
      → (part_look got ≡ IsLost → HasRisen (faults k.volume) (faults v)) → Reads got
  read-so got shown orderly cause = part-reads tells files faults k moved (bytes_eq hash) true
      (λ told s got. IsFile (is_hashed k.secrets) hash file told s got) got
      file-looks file-dir (λ given other is. subst (λ (h : Hash). written h m.journal.doubts ≡ []) (hash-same hash other is) none)
      (held tells files faults m) (λ other. sym (all-held tells files faults (bytes_eq hash) m moved moves after other)) shown orderly (λ bad is. refl) cause

  read-in : is_told tells files faults m ≡ true
      → IsReadIn m.secrets m.power (files m.volume) hash (held tells files faults m hash)
  read-in told = record { place = place; order = after.order told; held = sym (held-told tells files faults m hash told) }

  pub file-given : (found : Option Stored)
      → (tells m.volume ≡ true → IsFound m.secrets hash file (contents (files m.volume) path (name_text file)) (option_map (λ x. x.write) found))
      → IfSome found (λ x. name_of x.write ≡ file) → IfSome found (λ x. (x.name.hash ≡ hash) × IsHashed m.secrets x.name)
      → IsPartStep tells files faults k (bytes_eq hash) true (λ told s got. IsFile (is_hashed k.secrets) hash file told s got) (Ok found)
      (record m { volume = v })
  file-given found there named hashed =
      read-so (Ok found)
      (λ is. subst (λ (x : Secrets). IsFile (is_hashed x) hash file (is_told tells files faults m) (held tells files faults m) found)
      looks.same.secrets
      (is-file m.secrets m.power (files m.volume) hash (held tells files faults m) file (is_told tells files faults m) found le read-in
      (λ told. subst (λ (p : List ℕ). IsFound m.secrets hash file (contents (files m.volume) p (name_text file)) (option_map (λ x. x.write) found)) path_is
      (there (tells-now tells files faults m after told))) named hashed))
      (λ e. cc) (λ e. cc)

  never : (bad : BadFile) → (tells m.volume ≡ true → IsDamaged m.secrets hash file (contents (files m.volume) path (name_text file)) bad)
      → is_told tells files faults m ≡ false
  never bad is = elim (cases_Bool (is_told tells files faults m)) [
    | inl told ↦ absurd (damaged-never m.secrets m.power (files m.volume) hash (held tells files faults m hash) (read-in told) file bad le
        (subst (λ (p : List ℕ). IsDamaged m.secrets hash file (contents (files m.volume) p (name_text file)) bad) path_is
        (is (tells-now tells files faults m after told))))
    | inr untold ↦ untold
  ]

  pub file-refused : (fault : ReadFault) (e : DirFault) → e ≡ fault_of_read fault
      → IfDamaged {T = Option Stored} (Err fault)
      (λ bad. tells m.volume ≡ true → IsDamaged m.secrets hash file (contents (files m.volume) path (name_text file)) bad)
      → OnFailedRead {T = Option Stored} (Err fault) (faults v ≡ raised (faults m.volume))
      → IsPartStep tells files faults k (bytes_eq hash) true (λ told s got. IsFile (is_hashed k.secrets) hash file told s got) (Err e) (record m { volume = v })
  file-refused fault e is damaged failed = subst (λ (x : DirFault). Reads (Err x)) (sym is) (by fault damaged failed)
    where
      by : (x : ReadFault)
          → IfDamaged {T = Option Stored} (Err x)
          (λ bad. tells m.volume ≡ true → IsDamaged m.secrets hash file (contents (files m.volume) path (name_text file)) bad)
          → OnFailedRead {T = Option Stored} (Err x) (faults v ≡ raised (faults m.volume)) → Reads (Err (fault_of_read x))
      by (reads.Damaged bad) there raise = read-so (Err (faulted.Damaged bad)) (λ is. cc) (λ is. never bad there) (λ is. cc)
      by reads.Failed there raise = read-so (Err faulted.Failed) (λ is. cc) (λ is. cc)
          (λ is. risen-once (faults k.volume) (faults v) (raise ∙ ap raised fine))
      by reads.NoMemory there raise = read-so (Err faulted.NoMemory) (λ is. cc) (λ is. cc) (λ is. cc)
