-- What is read of one file of a hash directory, and what the hash stands for.
use Rattle.std.proofs.Common.{◌≡◌, ℕ, ◌≤◌, zero, suc, Bool, true, List, [], ◌∷◌, Option, Some, None, refl, sym, ◌∙◌, ap, subst, arith, inl, inr, IfSome}
use Rattle.std.proofs.Common.{is_none}
use Rattle.std.proofs.lemmas.Bool.{and_from}
use Rattle.std.proofs.lemmas.List.Elements.{Contains-append_left, Contains-append_right}
use Rattle.std.specs.List.{Contains}
use Rattle.std.specs.Option.{option_map}
use Rattle.std.specs.Str.{bytes_eq}
use Rattle.sw_cleanup.proofs.Directory.{own_name}
use Rattle.sw_cleanup.specs.Directories.{IsInOrder, IsWriteIn, StandsFor}
use Rattle.sw_diskfile.specs.FileNames.{name_text}
use Rattle.sw_diskfile.specs.StateFiles.{name_of}
use Rattle.sw_diskfile.specs.declared.file_name.FileName.{FileName}
use Rattle.sw_hashdir.proofs.Sound.{file-decodes, reads-sound}
use Rattle.sw_hashdir.proofs.Standing.{holds_stands}
use Rattle.sw_hashdir.specs.Places.{AllInOrder, dir_text, holds, is_place, write_in}
use Rattle.sw_hashdir.specs.Readings.{IsDamaged, IsFound}
use Rattle.sw_hashdir.specs.Steps.{IsHashed, is_hashed}
use Rattle.sw_hashpath.specs.BadNames.{bad_name}
use Rattle.sw_hashpath.specs.Paths.{hash_of}
use Rattle.sw_hashpath.specs.declared.bad_name.BadName.{BadName}
use Rattle.sw_hashpath.specs.declared.decode_error.BadFile.{BadFile}
use Rattle.sw_hashpath.specs.declared.name.Name.{Name}
use Rattle.sw_hashpath.specs.declared.secrets.Secrets.{Secrets}
use Rattle.sw_object_steps.proofs.Hashes.{hash-self}
use Rattle.sw_object_steps.specs.Journals.{Hash}
use Rattle.sw_object_steps.specs.Parts.{Counts, IsFile}
use Rattle.sw_object_steps.specs.declared.stored.Stored.{Stored}
use Rattle.sw_state.proofs.JoinLaws.{at_least_one_write, at_least_transitive, join_is_at_least}
use Rattle.sw_state.proofs.StateLaws.{joins_lists}
use Rattle.sw_state.proofs.StateOf.{is_state}
use Rattle.sw_state.specs.Bases.{base_at, base_tag, base_time}
use Rattle.sw_state.specs.Metas.{Meta, meta_at}
use Rattle.sw_state.specs.States.{IsAtLeast, IsBaseOf, IsTopOf, base_writes, joined, meta_writes, state_of, together, writes_of}
use Rattle.sw_state.specs.declared.base.Base.{Base}
use Rattle.sw_state.specs.declared.base.Base.TheVariants as bases
use Rattle.sw_state.specs.declared.state.State.{State}
use Rattle.sw_state.specs.declared.write.Kind.{Kind}
use Rattle.sw_state.specs.declared.write.Kind.TheVariants as kinds
use Rattle.sw_state.specs.declared.write.Write.{Write}
use Rattle.sw_timestamp.specs.declared.tag.Tag.TheVariants as tags
use Rattle.sw_volume.specs.Tree.{Folders, contents}
use Rattle.sw_volume.specs.Volume.{Contents}

-- ---- a state, and a write among those that it is of

at-least-one : (ws : List Write) (w : Write) → Contains ws w → IsAtLeast (state_of ws) (state_of (w ∷ []))
at-least-one [] w is = absurd (let lt = is.1 in omega arith)
at-least-one (y ∷ ys) w (zero, inside, here) =
    subst (λ (s : State). IsAtLeast s (state_of (w ∷ []))) (joins_lists (y ∷ []) ys)
    (subst (λ (x : Write). IsAtLeast (together (state_of (y ∷ [])) (state_of ys)) (state_of (x ∷ []))) here
    (join_is_at_least (state_of (y ∷ [])) (state_of ys)).0)
at-least-one (y ∷ ys) w (suc k, inside, here) =
    subst (λ (s : State). IsAtLeast s (state_of (w ∷ []))) (joins_lists (y ∷ []) ys)
    (at_least_transitive (together (state_of (y ∷ [])) (state_of ys)) (state_of ys) (state_of (w ∷ []))
    (join_is_at_least (state_of (y ∷ [])) (state_of ys)).1 (at-least-one ys w (k, omega arith, here)))

adds-none : (ws : List Write) (w : Write) → Contains ws w → joined (state_of ws) w ≡ state_of ws
adds-none ws w is = (at_least_one_write (state_of ws) w).1 (at-least-one ws w is)

-- ---- the files that count

abbrev base_file : Base → FileName
base_file b = record { time = base_time b; tag = base_tag b }

abbrev meta_file : Meta → FileName
meta_file m = record { time = m.0; tag = tags.Meta }

first : (w : Write) → Contains (w ∷ []) w
first w = (0, omega arith, refl)

-- the write of a base has the name of its file
base-is : (t : ℕ) (k : Kind) (b : Base) → base_at t k ≡ Some b
    → (name_of (record { time = t; kind = k }) ≡ base_file b) × Contains (base_writes (Some b)) (record { time = t; kind = k })
base-is t (kinds.Put content) b is =
    let same : bases.Put t content ≡ b = cc in
    subst (λ (x : Base). (name_of (record { time = t; kind = kinds.Put content }) ≡ base_file x)
    × Contains (base_writes (Some x)) (record { time = t; kind = kinds.Put content })) same (refl, first (record { time = t; kind = kinds.Put content }))
base-is t kinds.Del b is =
    let same : bases.Del t ≡ b = cc in
    subst (λ (x : Base). (name_of (record { time = t; kind = kinds.Del }) ≡ base_file x)
    × Contains (base_writes (Some x)) (record { time = t; kind = kinds.Del })) same (refl, first (record { time = t; kind = kinds.Del }))
base-is t (kinds.Meta heads) b is = cc

-- and that of a meta
meta-is : (t : ℕ) (k : Kind) (m : Meta) → meta_at t k ≡ Some m
    → (name_of (record { time = t; kind = k }) ≡ meta_file m) × Contains (meta_writes (Some m)) (record { time = t; kind = k })
meta-is t (kinds.Put content) m is = cc
meta-is t kinds.Del m is = cc
meta-is t (kinds.Meta heads) m is =
    let same : (t, heads) ≡ m = cc in
    subst (λ (x : Meta). (name_of (record { time = t; kind = kinds.Meta heads }) ≡ meta_file x)
    × Contains (meta_writes (Some x)) (record { time = t; kind = kinds.Meta heads })) same (refl, first (record { time = t; kind = kinds.Meta heads }))

module _ (decode : List ℕ → Option Write) (stood : Contents) (dir : List ℕ) (order : IsInOrder decode stood dir) (s : State)
    (stands : StandsFor decode stood dir s) where
  -- a file that counts is that of a write in the directory, which the state has
  pub record IsOf (file : FileName) : Type 0 where
    pub write : Write
    pub inside : IsWriteIn decode stood dir write
    pub named : name_of write ≡ file
    pub has : Contains (writes_of s) write

  base-of : (o : Option Base) (file : FileName) → s.base ≡ o → option_map base_file o ≡ Some file → IsOf file
  base-of None file e is = cc
  base-of (Some b) file e is =
      let own : base_file b ≡ file = cc in
      let chosen : (state_of stands.writes).base ≡ Some b = ap (λ (t : State). t.base) (sym stands.is_state) ∙ e in
      let of : IsBaseOf stands.writes (Some b) = subst (λ (x : Option Base). IsBaseOf stands.writes x) chosen (is_state stands.writes).is_base in
      let v : Write = of.0.0 in
      let parts = base-is v.time v.kind b of.0.2 in
      record {
        write = v;
        inside = (stands.are_all v).0 of.0.1;
        named = parts.0 ∙ own;
        has = Contains-append_left (base_writes s.base) (meta_writes s.meta) v
            (subst (λ (x : Option Base). Contains (base_writes x) v) (sym e) parts.1);
      }

  meta-of : (o : Option Meta) (file : FileName) → s.meta ≡ o → option_map meta_file o ≡ Some file → IsOf file
  meta-of None file e is = cc
  meta-of (Some m) file e is =
      let own : meta_file m ≡ file = cc in
      let base : Option Base = (state_of stands.writes).base in
      let chosen : (state_of stands.writes).meta ≡ Some m = ap (λ (t : State). t.meta) (sym stands.is_state) ∙ e in
      let of : IsTopOf stands.writes base (Some m) = subst (λ (x : Option Meta). IsTopOf stands.writes base x) chosen (is_state stands.writes).is_top in
      let v : Write = of.0.0 in
      let parts = meta-is v.time v.kind m of.0.2 in
      record {
        write = v;
        inside = (stands.are_all v).0 of.0.1;
        named = parts.0 ∙ own;
        has = Contains-append_right (base_writes s.base) (meta_writes s.meta) v
            (subst (λ (x : Option Meta). Contains (meta_writes x) v) (sym e) parts.1);
      }

  counted : (file : FileName) → Counts s file → IsOf file
  counted file (inl e) = base-of s.base file refl e
  counted file (inr e) = meta-of s.meta file refl e

  -- its bytes stand under its name
  counted-stands : (file : FileName) (c : IsOf file) → stood dir (name_text file) ≡ Some c.inside.bytes
  counted-stands file c =
      ap (λ (f : FileName). stood dir (name_text f)) (sym c.named ∙ own_name decode stood dir order c.write c.inside) ∙ c.inside.stands

  -- so a file that isn't there doesn't count
  pub absent : (file : FileName) → stood dir (name_text file) ≡ None → ¬ (Counts s file)
  absent file none counts = let there = counted-stands file (counted file counts) in cc

  -- a file that is read as a write adds nothing, and where it counts it is a write that the state has
  module _ (file : FileName) (bytes : List ℕ) (w : Write) (there : stood dir (name_text file) ≡ Some bytes) (reads : decode bytes ≡ Some w) where
    pub present-adds : file.time ≤ 999999999999999 → joined s w ≡ s
    present-adds le =
        let among : Contains stands.writes w = (stands.are_all w).1 (record { file = file; is_time = le; bytes = bytes; stands = there; reads = reads }) in
        subst (λ (x : State). joined x w ≡ x) (sym stands.is_state) (adds-none stands.writes w among)

    pub present-counts : Counts s file → Contains (writes_of s) w
    present-counts counts =
        let c = counted file counts in
        let same : c.inside.bytes ≡ bytes = one (sym (counted-stands file c) ∙ there) in
        let own : c.write ≡ w = two (sym c.inside.reads ∙ (ap decode same ∙ reads)) in
        subst (λ (x : Write). Contains (writes_of s) x) own c.has
      where
        one : {a b : List ℕ} → (let x : Option (List ℕ) = Some a in let y : Option (List ℕ) = Some b in x ≡ y) → a ≡ b
        one e = cc

        two : {v u : Write} → (let x : Option Write = Some v in let y : Option Write = Some u in x ≡ y) → v ≡ u
        two e = cc

-- ---- a hash directory in order

no-name : (o : Option BadName) → o ≡ None → is_none o ≡ true
no-name None e = refl
no-name (Some bad) e = cc

pub hashed-is : (secrets : Secrets) (name : Name) → IsHashed secrets name → is_hashed secrets name ≡ true
hashed-is secrets name is =
    and_from (bytes_eq (hash_of secrets name.account (Some name.container) (Some name.object)) name.hash)
    (is_none (bad_name name.account (Some name.container) (Some name.object)))
    (subst (λ (h : Hash). bytes_eq h name.hash ≡ true) (sym is.hashed) (hash-self name.hash)) (no-name _ is.good)

-- the directory of a hash in order, where the hash stands for t
pub record IsReadIn (secrets : Secrets) (power : ℕ) (folders : Folders) (hash : Hash) (t : State) : Type 0 where
  pub place : is_place power hash ≡ true
  pub order : AllInOrder secrets power folders
  pub held : holds secrets power folders hash ≡ t

module _ (secrets : Secrets) (power : ℕ) (folders : Folders) (hash : Hash) (t : State) (is : IsReadIn secrets power folders hash t) (file : FileName) where
  here : IsInOrder (write_in secrets hash) (contents folders) (dir_text power hash)
  here = is.order hash is.place

  stands-here : StandsFor (write_in secrets hash) (contents folders) (dir_text power hash) t
  stands-here = subst (λ (x : State). StandsFor (write_in secrets hash) (contents folders) (dir_text power hash) x) is.held
      (holds_stands secrets power folders hash is.place here)

  -- no file of it is damaged
  pub damaged-never : (bad : BadFile) → file.time ≤ 999999999999999
      → IsDamaged secrets hash file (contents folders (dir_text power hash) (name_text file)) bad → ⊥
  damaged-never bad le damaged =
      let r = here file damaged.bytes le damaged.is_there in
      reads-sound secrets hash file damaged.bytes r.write bad r.reads r.named damaged.damage

  pub found-none : IsFound secrets hash file (contents folders (dir_text power hash) (name_text file)) None → ¬ (Counts t file)
  found-none found = absent (write_in secrets hash) (contents folders) (dir_text power hash) here t stands-here file
      (by (contents folders (dir_text power hash) (name_text file)) found)
    where
      by : (o : Option (List ℕ)) → IsFound secrets hash file o None → o ≡ None
      by None x = refl
      by (Some bytes) x = absurd x

  module _ (w : Write) (found : IsFound secrets hash file (contents folders (dir_text power hash) (name_text file)) (Some w)) where
    found-bytes : (bytes : List ℕ) × (contents folders (dir_text power hash) (name_text file) ≡ Some bytes) × (write_in secrets hash bytes ≡ Some w)
    found-bytes = by (contents folders (dir_text power hash) (name_text file)) refl found
      where
        by : (o : Option (List ℕ)) → contents folders (dir_text power hash) (name_text file) ≡ o → IsFound secrets hash file o (Some w)
            → (bytes : List ℕ) × (contents folders (dir_text power hash) (name_text file) ≡ Some bytes) × (write_in secrets hash bytes ≡ Some w)
        by None e x = absurd x
        by (Some bytes) e x = (bytes, e, file-decodes secrets hash file bytes w x)

    pub found-adds : file.time ≤ 999999999999999 → joined t w ≡ t
    found-adds le = present-adds (write_in secrets hash) (contents folders) (dir_text power hash) here t stands-here file
        found-bytes.0 w found-bytes.1 found-bytes.2 le

    pub found-counts : Counts t file → Contains (writes_of t) w
    found-counts = present-counts (write_in secrets hash) (contents folders) (dir_text power hash) here t stands-here file
        found-bytes.0 w found-bytes.1 found-bytes.2

-- what is read of a file is what its hash stands for
pub is-file : (secrets : Secrets) (power : ℕ) (folders : Folders) (hash : Hash) (s : Hash → State) (file : FileName) (told : Bool) (found : Option Stored)
    → file.time ≤ 999999999999999
    → (told ≡ true → IsReadIn secrets power folders hash (s hash))
    → (told ≡ true → IsFound secrets hash file (contents folders (dir_text power hash) (name_text file)) (option_map (λ x. x.write) found))
    → IfSome found (λ x. name_of x.write ≡ file) → IfSome found (λ x. (x.name.hash ≡ hash) × IsHashed secrets x.name)
    → IsFile (is_hashed secrets) hash file told s found
is-file secrets power folders hash s file told None le is read named hashed =
    λ yes. found-none secrets power folders hash (s hash) (is yes) file (read yes)
is-file secrets power folders hash s file told (Some stored) le is read named hashed = record {
  hash_is = hashed.0;
  fits_is = hashed-is secrets stored.name hashed.1;
  named = named;
  adds_nothing = λ yes. found-adds secrets power folders hash (s hash) (is yes) file stored.write (read yes) le;
  counts = λ yes. found-counts secrets power folders hash (s hash) (is yes) file stored.write (read yes);
}
