-- A read of one file: what it gives is what the state of its hash says of it.
use Rattle.std.proofs.Common.{◌≡◌, ℕ, ◌≤◌, inl, inr, refl, sym, ◌∙◌, ap, subst, Bool, true, List, [], ◌∷◌, Option, None, Some, IfSome, is_none, arith}
use Rattle.std.proofs.lemmas.Bool.{and_from}
use Rattle.std.proofs.lemmas.List.Elements.{Contains-append_left, Contains-append_right}
use Rattle.std.proofs.lemmas.Slice.Eq.{bytes_eq-Decides}
use Rattle.std.specs.List.{Contains}
use Rattle.std.specs.Option.{option_map}
use Rattle.sw_cleanup.proofs.Directory.{own_name}
use Rattle.sw_cleanup.specs.Directories.{IsInOrder, StandsFor}
use Rattle.sw_diskfile.specs.FileNames.{name_text}
use Rattle.sw_diskfile.specs.StateFiles.{name_of}
use Rattle.sw_diskfile.specs.declared.file_name.FileName.{FileName}
use Rattle.sw_hashpath.specs.Paths.{hash_of}
use Rattle.sw_hashpath.specs.declared.name.Name.{Name}
use Rattle.sw_hashpath.specs.declared.secrets.Secrets.{Secrets}
use Rattle.sw_object_steps.specs.Journals.{Hash}
use Rattle.sw_object_steps.specs.Parts.{Counts, IsFile}
use Rattle.sw_object_steps.specs.declared.stored.Stored.{Stored}
use Rattle.sw_state.proofs.StateOf.{is_state}
use Rattle.sw_state.specs.Bases.{base_at}
use Rattle.sw_state.specs.Metas.{Meta, meta_at}
use Rattle.sw_state.specs.States.{IsBaseOf, IsTopOf, base_writes, joined, meta_writes, state_of, writes_of}
use Rattle.sw_state.specs.declared.base.Base.{Base}
use Rattle.sw_state.specs.declared.base.Base.TheVariants as bases
use Rattle.sw_state.specs.declared.state.State.{State}
use Rattle.sw_state.specs.declared.write.Kind.{Kind}
use Rattle.sw_state.specs.declared.write.Kind.TheVariants as kinds
use Rattle.sw_state.specs.declared.write.Write.{Write}
use Rattle.sw_volume.specs.Tree.{Folders, contents}
use Rattle.sw_volume.specs.Volume.{Contents}
use Rattle.sw_hashdir.specs.Places.{AllInOrder, dir_text, holds, is_place, write_in}
use Rattle.sw_hashdir.specs.Readings.{IsFileOf, IsFound}
use Rattle.sw_hashdir.specs.Steps.{IsHashed, is_hashed}
use Rattle.sw_hashdir.proofs.Putting.{there-joins}
use Rattle.sw_hashdir.proofs.Sound.{base-name, base-read, base_file, file-decodes, meta-base, meta-name, meta-read, meta_file}
use Rattle.sw_hashdir.proofs.Standing.{holds_stands}

-- ---- names

-- the test of a name is met
pub hashed-is : (secrets : Secrets) (name : Name) → IsHashed secrets name → is_hashed secrets name ≡ true
hashed-is secrets name is = and_from _ _
    ((bytes_eq-Decides (hash_of secrets name.account (Some name.container) (Some name.object)) name.hash).1 is.hashed)
    (ap is_none is.good)

-- ---- the writes of a state

base-write : (t : ℕ) (k : Kind) (b : Base) → base_at t k ≡ Some b → base_writes (Some b) ≡ record { time = t; kind = k } ∷ []
base-write t (kinds.Put content) b is = let same : bases.Put t content ≡ b = cc in rw (← same) refl
base-write t kinds.Del b is = let same : bases.Del t ≡ b = cc in rw (← same) refl
base-write t (kinds.Meta heads) b is = cc

meta-write : (t : ℕ) (k : Kind) (m : Meta) → meta_at t k ≡ Some m → meta_writes (Some m) ≡ record { time = t; kind = k } ∷ []
meta-write t (kinds.Put content) m is = cc
meta-write t kinds.Del m is = cc
meta-write t (kinds.Meta heads) m is = let same : (t, heads) ≡ m = cc in rw (← same) refl

only : (w : Write) → Contains (w ∷ []) w
only w = (0, omega arith, refl)

base-named : (o : Option Base) (file : FileName) → option_map base_file o ≡ Some file → (b : Base) × (o ≡ Some b) × (file ≡ base_file b)
base-named None file e = cc
base-named (Some b) file e = (b, refl, (let same : file ≡ base_file b = cc in same))

-- ---- one file of a directory in order

module _ (decode : List ℕ → Option Write) (stood : Contents) (dir : List ℕ) (order : IsInOrder decode stood dir)
    (s : State) (stands : StandsFor decode stood dir s) (file : FileName) where
  -- a write of the directory stands under its own name
  write-stands : (v : Write) → Contains stands.writes v → name_of v ≡ file → (bytes : List ℕ) × (stood dir (name_text file) ≡ Some bytes)
  write-stands v inside named =
      let x = (stands.are_all v).0 inside in
      let own : x.file ≡ file = sym (own_name decode stood dir order v x) ∙ named in
      (x.bytes, ap (λ (f : FileName). stood dir (name_text f)) (sym own) ∙ x.stands)

  base-stands : (b : Base) → s.base ≡ Some b → file ≡ base_file b → (bytes : List ℕ) × (stood dir (name_text file) ≡ Some bytes)
  base-stands b e named =
      let chosen : (state_of stands.writes).base ≡ Some b = ap (λ (t : State). t.base) (sym stands.is_state) ∙ e in
      let is : IsBaseOf stands.writes (Some b) = subst (λ (o : Option Base). IsBaseOf stands.writes o) chosen (is_state stands.writes).is_base in
      let v : Write = is.0.0 in
      write-stands v is.0.1 (base-name v.time v.kind b is.0.2 ∙ sym named)

  meta-stands : (m : Meta) → s.meta ≡ Some m → file ≡ meta_file m → (bytes : List ℕ) × (stood dir (name_text file) ≡ Some bytes)
  meta-stands m e named =
      let base : Option Base = (state_of stands.writes).base in
      let chosen : (state_of stands.writes).meta ≡ Some m = ap (λ (t : State). t.meta) (sym stands.is_state) ∙ e in
      let is : IsTopOf stands.writes base (Some m) = subst (λ (o : Option Meta). IsTopOf stands.writes base o) chosen (is_state stands.writes).is_top in
      let v : Write = is.0.0 in
      write-stands v is.0.1 (meta-name v.time v.kind m is.0.2 ∙ sym named)

  -- a file that counts stands there
  counted-stands : Counts s file → (bytes : List ℕ) × (stood dir (name_text file) ≡ Some bytes)
  counted-stands (inl e) = let x = base-named s.base file e in base-stands x.0 x.1 x.2
  counted-stands (inr e) = let x = meta-base s.meta file e in meta-stands x.0 x.1 x.2

  module _ (bytes : List ℕ) (w : Write) (there : stood dir (name_text file) ≡ Some bytes) (reads : decode bytes ≡ Some w) where
    -- it is read as the write that counts
    counted-write : Counts s file → Contains (writes_of s) w
    counted-write (inl e) =
        let x = base-named s.base file e in
        let at : base_at w.time w.kind ≡ Some x.0 = base-read decode stood dir order s stands x.0 w bytes x.1
        (ap (λ (f : FileName). stood dir (name_text f)) (sym x.2) ∙ there) reads in
        let one : base_writes s.base ≡ w ∷ [] = ap base_writes x.1 ∙ base-write w.time w.kind x.0 at in
        Contains-append_left (base_writes s.base) (meta_writes s.meta) w (subst (λ (ws : List Write). Contains ws w) (sym one) (only w))
    counted-write (inr e) =
        let x = meta-base s.meta file e in
        let at : meta_at w.time w.kind ≡ Some x.0 = meta-read decode stood dir order s stands x.0 w bytes x.1
        (ap (λ (f : FileName). stood dir (name_text f)) (sym x.2) ∙ there) reads in
        let one : meta_writes s.meta ≡ w ∷ [] = ap meta_writes x.1 ∙ meta-write w.time w.kind x.0 at in
        Contains-append_right (base_writes s.base) (meta_writes s.meta) w (subst (λ (ws : List Write). Contains ws w) (sym one) (only w))

-- ---- one file of a hash

module _ (secrets : Secrets) (power : ℕ) (folders : Folders) (hash : Hash) (file : FileName) (place : is_place power hash ≡ true)
    (order : AllInOrder secrets power folders) where
  abbrev state : State
  state = holds secrets power folders hash

  abbrev bytes_there : Option (List ℕ)
  bytes_there = contents folders (dir_text power hash) (name_text file)

  stands-now : StandsFor (write_in secrets hash) (contents folders) (dir_text power hash) state
  stands-now = holds_stands secrets power folders hash place (order hash place)

  -- the bytes that a write was found in
  found-bytes : (w : Write) → IsFound secrets hash file bytes_there (Some w)
      → (bytes : List ℕ) × (bytes_there ≡ Some bytes) × IsFileOf secrets hash file bytes w
  found-bytes w = by bytes_there refl
    where
      by : (o : Option (List ℕ)) → bytes_there ≡ o → IsFound secrets hash file o (Some w)
          → (bytes : List ℕ) × (bytes_there ≡ Some bytes) × IsFileOf secrets hash file bytes w
      by None e is = absurd is
      by (Some bytes) e is = (bytes, e, is)

  -- what is found adds nothing
  pub found-joins : (w : Write) → IsFound secrets hash file bytes_there (Some w) → w.time ≤ 999999999999999 → joined state w ≡ state
  found-joins w found le =
      let x = found-bytes w found in
      there-joins (write_in secrets hash) (contents folders) (dir_text power hash) state w (order hash place) stands-now (record {
        file = file;
        is_time = subst (λ (f : FileName). f.time ≤ 999999999999999) x.2.named le;
        bytes = x.0;
        stands = x.1;
        reads = file-decodes secrets hash file x.0 w x.2;
      })

  -- where the file counts it is the write of that
  pub found-counts : (w : Write) → IsFound secrets hash file bytes_there (Some w) → Counts state file → Contains (writes_of state) w
  found-counts w found =
      let x = found-bytes w found in
      counted-write (write_in secrets hash) (contents folders) (dir_text power hash) (order hash place) state stands-now file x.0 w x.1
      (file-decodes secrets hash file x.0 w x.2)

  -- a file that isn't there doesn't count
  pub none-counts : IsFound secrets hash file bytes_there None → ¬ (Counts state file)
  none-counts = by bytes_there refl
    where
      by : (o : Option (List ℕ)) → bytes_there ≡ o → IsFound secrets hash file o None → ¬ (Counts state file)
      by None e is counts =
          let x = counted-stands (write_in secrets hash) (contents folders) (dir_text power hash) (order hash place) state stands-now file counts in
          let clash = sym e ∙ x.1 in cc
      by (Some bytes) e is counts = is

-- what `read_stored` gives of a file of a hash, where its hash stands for s
pub stored-is-file : (secrets : Secrets) (power : ℕ) (folders : Folders) (hash : Hash) (file : FileName) (dir : List ℕ) (told : Bool) (s : Hash → State)
    (found : Option Stored) → dir ≡ dir_text power hash → is_place power hash ≡ true
    → (told ≡ true → AllInOrder secrets power folders) → (told ≡ true → s hash ≡ holds secrets power folders hash)
    → (told ≡ true → IsFound secrets hash file (contents folders dir (name_text file)) (option_map (λ stored. stored.write) found))
    → IfSome found (λ stored. name_of stored.write ≡ file)
    → IfSome found (λ stored. stored.write.time ≤ 999999999999999)
    → IfSome found (λ stored. (stored.name.hash ≡ hash) × IsHashed secrets stored.name)
    → IsFile (is_hashed secrets) hash file told s found
stored-is-file secrets power folders hash file dir told s None at place order stands read named timed hashed = λ t counts.
    none-counts secrets power folders hash file place (order t)
    (subst (λ (d : List ℕ). IsFound secrets hash file (contents folders d (name_text file)) None) at (read t))
    (subst (λ (x : State). Counts x file) (stands t) counts)
stored-is-file secrets power folders hash file dir told s (Some stored) at place order stands read named timed hashed = record {
  hash_is = hashed.0;
  fits_is = hashed-is secrets stored.name hashed.1;
  named = named;
  adds_nothing = λ t. subst (λ (x : State). joined x stored.write ≡ x) (sym (stands t))
      (found-joins secrets power folders hash file place (order t) stored.write (here t) timed);
  counts = λ t counts. subst (λ (x : State). Contains (writes_of x) stored.write) (sym (stands t))
      (found-counts secrets power folders hash file place (order t) stored.write (here t) (subst (λ (x : State). Counts x file) (stands t) counts));
}
  where
    here : told ≡ true → IsFound secrets hash file (contents folders (dir_text power hash) (name_text file)) (Some stored.write)
    here t = subst (λ (d : List ℕ). IsFound secrets hash file (contents folders d (name_text file)) (Some stored.write)) at (read t)
