-- What is read of the picked files of a directory in order: the base and the meta of what it stands for, and no damage.
use Rattle.std.proofs.Common.{◌≡◌, ℕ, ◌⊎◌, inl, inr, refl, sym, ◌∙◌, ap, subst, Bool, true, false, if◌then◌else◌}
use Rattle.std.proofs.Common.{List, Option, None, Some, IsSome, Result, Ok, Err}
use Rattle.std.proofs.lemmas.Bool.{cond-true}
use Rattle.std.proofs.lemmas.Option.{cond_some}
use Rattle.std.proofs.lemmas.Slice.Eq.{bytes_eq-Decides}
use Rattle.std.specs.List.{Contains}
use Rattle.std.specs.Option.{option_and_then, option_map, unwrap_or}
use Rattle.std.specs.Str.{bytes_eq}
use Rattle.sw_cleanup.specs.Directories.{IsInOrder, StandsFor, StandsIn}
use Rattle.sw_diskfile.specs.StateFiles.{name_of, picked_of}
use Rattle.sw_cleanup.specs.Obsolete.{IsPickedFile, is_put}
use Rattle.sw_cleanup.proofs.Directory.{own_name, picks_state}
use Rattle.sw_diskfile.specs.FileNames.{name_text}
use Rattle.sw_diskfile.specs.Picking.{IsGreatestOf, IsPicked, is_base, is_later_meta}
use Rattle.sw_diskfile.specs.declared.file_name.FileName.{FileName}
use Rattle.sw_diskfile.specs.declared.picking.Picked.{Picked}
use Rattle.sw_hashpath.specs.declared.decode_error.BadFile.{BadFile}
use Rattle.sw_hashpath.specs.declared.secrets.Secrets.{Secrets}
use Rattle.sw_metafile.specs.Decoding.{decoded}
use Rattle.sw_metafile.specs.declared.file_body.FileBody.{FileBody}
use Rattle.sw_state.specs.Bases.{base_at, base_tag, base_time}
use Rattle.sw_state.specs.Metas.{Meta, meta_at}
use Rattle.sw_state.specs.States.{IsBaseOf, IsTopOf, heads_beside, state_of}
use Rattle.sw_state.specs.Writes.{tag_of}
use Rattle.sw_state.specs.declared.base.Base.{Base}
use Rattle.sw_state.specs.declared.base.Base.TheVariants as bases
use Rattle.sw_state.specs.declared.content.Content.{Content}
use Rattle.sw_state.specs.declared.state.State.{State}
use Rattle.sw_state.specs.declared.write.Kind.{Kind}
use Rattle.sw_state.specs.declared.write.Kind.TheVariants as kinds
use Rattle.sw_state.specs.declared.write.Write.{Write}
use Rattle.sw_state.proofs.StateOf.{is_state}
use Rattle.sw_timestamp.specs.declared.tag.Tag.TheVariants as tags
use Rattle.sw_volume.specs.Tree.{Folders, contents}
use Rattle.sw_volume.specs.Volume.{Contents}
use Rattle.sw_object_steps.specs.Journals.{Hash}
use Rattle.sw_outside.specs.Counts.{raised}
use Rattle.sw_object_steps.specs.Outlines.{standing_expiry}
use Rattle.sw_object_steps.specs.Steps.{got_beside, got_of}
use Rattle.sw_object_steps.specs.declared.got.Got.{Got}
use Rattle.sw_object_steps.specs.declared.got.Got.TheVariants as gots
use Rattle.sw_hashdir.specs.Places.{holds, write_in, write_with}
use Rattle.sw_hashdir.specs.Readings.{CallsFor, CallsWith, IsDamage, IsDamaged, IsDamagedAt, IsExpiryIn, IsFileOf, IsFound, IsFoundAt, IsGotIn}
use Rattle.sw_hashdir.specs.Readings.{IsDamagedOf, IsOutOfOrder, IsPickedIn, IsSecondRead, IsShown, IsShownBeside, IsShownWith, IsWholeAt, OnShown}
use Rattle.sw_hashdir.specs.Readings.{data_of, expiry_file, got_read, hash_said, meta_in, raised_where, second_in, second_of}
use Rattle.sw_hashdir.specs.declared.showing.Object.{Object}
use Rattle.sw_hashdir.proofs.Standing.{holds_stands}

-- ---- the file of a write

pub ok_is : (a b : FileBody) → let x : Result FileBody BadFile = Ok a in let y : Result FileBody BadFile = Ok b in x ≡ y → a ≡ b
ok_is a b e = cc

some_is : (v w : Write) → let x : Option Write = Some v in let y : Option Write = Some w in x ≡ y → v ≡ w
some_is v w e = cc

module _ (secrets : Secrets) (hash : Hash) (file : FileName) where
  -- it is the write that the directory's bytes are decoded as
  pub file-decodes : (bytes : List ℕ) (w : Write) → IsFileOf secrets hash file bytes w → write_in secrets hash bytes ≡ Some w
  file-decodes bytes w is =
      let said : Hash = hash_said secrets hash file is.body in
      ap (write_with secrets hash) is.decodes
      ∙ (cond-true (bytes_eq said hash) (Some is.body.write) None ((bytes_eq-Decides said hash).1 is.hashed)
      ∙ ap (λ (x : Write). let o : Option Write = Some x in o) is.write)

  -- and what is decoded as a write of this name is no damaged file
  sound-file : (o : Result FileBody BadFile) (bytes : List ℕ) (w : Write) (bad : BadFile) → decoded bytes ≡ o → write_with secrets hash o ≡ Some w
      → name_of w ≡ file → IsDamage secrets hash file bytes bad → ⊥
  sound-file (Err other) bytes w bad e reads named damage = cc
  sound-file (Ok body) bytes w bad e reads named (inl is) = let clash = sym e ∙ is in cc
  sound-file (Ok body) bytes w bad e reads named (inr (fault, is)) =
      let said : Hash = hash_said secrets hash file body in
      let found = cond_some (bytes_eq said hash) body.write w reads in
      let same : is.body ≡ body = ok_is is.body body (sym is.decodes ∙ e) in
      let hashed : hash_said secrets hash file is.body ≡ hash = ap (hash_said secrets hash file) same ∙ (bytes_eq-Decides said hash).0 found.0 in
      let own : name_of is.body.write ≡ file = ap (λ (b : FileBody). name_of b.write) same ∙ (ap name_of found.1 ∙ named) in
      elim is.elsewhere [ inl away ↦ away hashed | inr other ↦ other own ]

  pub reads-sound : (bytes : List ℕ) (w : Write) (bad : BadFile) → write_in secrets hash bytes ≡ Some w → name_of w ≡ file
      → IsDamage secrets hash file bytes bad → ⊥
  reads-sound bytes w bad = sound-file (decoded bytes) bytes w bad refl

-- ---- the files that are picked

greatest-among : (names : List FileName) (test : FileName → Bool) (o : Option FileName) (file : FileName) → o ≡ Some file
    → IsGreatestOf names test o → Contains names file
greatest-among names test None file e is = cc
greatest-among names test (Some f) file e is = let same : f ≡ file = cc in subst (λ (g : FileName). Contains names g) same is.among

picked-among : (names : List FileName) (picked : Picked) (file : FileName) → IsPicked names picked → IsPickedFile picked file → Contains names file
picked-among names picked file is (inl e) = greatest-among names is_base picked.base file e is.base
picked-among names picked file is (inr e) = greatest-among names (is_later_meta picked.base) picked.meta file e is.meta

-- ---- the names of a state's files

abbrev named_by : ℕ → Kind → FileName
named_by t k = record { time = t; tag = tag_of k }

abbrev pub base_file : Base → FileName
base_file b = record { time = base_time b; tag = base_tag b }

abbrev pub meta_file : Meta → FileName
meta_file m = record { time = m.0; tag = tags.Meta }

-- a base and a meta have the name of the write that they are
pub base-name : (t : ℕ) (k : Kind) (b : Base) → base_at t k ≡ Some b → named_by t k ≡ base_file b
base-name t (kinds.Put content) b is = let same : bases.Put t content ≡ b = cc in rw (← same) refl
base-name t kinds.Del b is = let same : bases.Del t ≡ b = cc in rw (← same) refl
base-name t (kinds.Meta heads) b is = cc

pub meta-name : (t : ℕ) (k : Kind) (m : Meta) → meta_at t k ≡ Some m → named_by t k ≡ meta_file m
meta-name t (kinds.Put content) m is = cc
meta-name t kinds.Del m is = cc
meta-name t (kinds.Meta heads) m is = let same : (t, heads) ≡ m = cc in rw (← same) refl

-- data is picked where the base is one
data-base : (b : Option Base) (file : FileName) → data_of (option_map base_file b) ≡ Some file
    → (t : ℕ) × (c : Content) × (b ≡ Some (bases.Put t c)) × (file ≡ base_file (bases.Put t c))
data-base None file e = cc
data-base (Some (bases.Put t c)) file e = (t, c, refl, (let same : file ≡ base_file (bases.Put t c) = cc in same))
data-base (Some (bases.Del t)) file e = cc

data-put : (f file : FileName) → data_of (Some f) ≡ Some file → (Some f ≡ Some file) × (is_put file.tag ≡ true)
data-put f file e = by (is_put f.tag) refl e
  where
    by : (b : Bool) → is_put f.tag ≡ b → (if b then Some f else None) ≡ Some file → (Some f ≡ Some file) × (is_put file.tag ≡ true)
    by true is also = let same : f ≡ file = cc in (also, ap (λ (g : FileName). is_put g.tag) (sym same) ∙ is)
    by false is also = cc

data-is-put : (o : Option FileName) (file : FileName) → data_of o ≡ Some file → is_put file.tag ≡ true
data-is-put None file e = cc
data-is-put (Some f) file e = (data-put f file e).1

data-picked : (o : Option FileName) (file : FileName) → data_of o ≡ Some file → o ≡ Some file
data-picked None file e = cc
data-picked (Some f) file e = (data-put f file e).0

pub meta-base : (m : Option Meta) (file : FileName) → option_map meta_file m ≡ Some file → (x : Meta) × (m ≡ Some x) × (file ≡ meta_file x)
meta-base None file e = cc
meta-base (Some x) file e = (x, refl, (let same : file ≡ meta_file x = cc in same))

none-meta : (m : Option Meta) → option_map meta_file m ≡ None → m ≡ None
none-meta None e = refl
none-meta (Some x) e = cc

abbrev expiry_beside : Option Base → Option Meta → Option ℕ
expiry_beside b m = option_and_then (λ heads. heads.delete_at) (heads_beside b m)

no-data-expiry : (b : Option Base) (m : Option Meta) → data_of (option_map base_file b) ≡ None → expiry_beside b m ≡ None
no-data-expiry None m e = refl
no-data-expiry (Some (bases.Put t c)) m e = cc
no-data-expiry (Some (bases.Del t)) m e = refl

no-data-got : (b : Option Base) (m : Option Meta) (front : ℕ) → data_of (option_map base_file b) ≡ None
    → gots.NotFound (option_map (λ f. f.time) (option_map base_file b)) ≡ got_beside b m front
no-data-got None m front e = refl
no-data-got (Some (bases.Put t c)) m front e = cc
no-data-got (Some (bases.Del t)) m front e = refl

-- the second that the file of data says, and that of metadata
data-second : (u : ℕ) (k : Kind) (t : ℕ) (c : Content) → base_at u k ≡ Some (bases.Put t c) → second_in k ≡ c.heads.delete_at
data-second u (kinds.Put content) t c e = let same : content ≡ c = cc in rw same refl
data-second u kinds.Del t c e = cc
data-second u (kinds.Meta heads) t c e = cc

meta-second : (u : ℕ) (k : Kind) (m : Meta) → meta_at u k ≡ Some m → second_in k ≡ m.1.delete_at
meta-second u (kinds.Put content) m e = cc
meta-second u kinds.Del m e = cc
meta-second u (kinds.Meta heads) m e = let same : (u, heads) ≡ m = cc in rw (← same) refl

-- ---- what is read of the files of a state

module _ (decode : List ℕ → Option Write) (stood : Contents) (dir : List ℕ) (order : IsInOrder decode stood dir)
    (s : State) (stands : StandsFor decode stood dir s) where
  -- one file is read as one write
  one-write : (v w : Write) (file : FileName) (bytes : List ℕ) → Contains stands.writes v → name_of v ≡ file → stood dir (name_text file) ≡ Some bytes
      → decode bytes ≡ Some w → v ≡ w
  one-write v w file bytes inside named there reads =
      let x = (stands.are_all v).0 inside in
      let files : x.file ≡ file = sym (own_name decode stood dir order v x) ∙ named in
      by x.bytes (sym x.stands ∙ (ap (λ (f : FileName). stood dir (name_text f)) files ∙ there)) x.reads
    where
      by : (bs : List ℕ) → let a : Option (List ℕ) = Some bs in let b : Option (List ℕ) = Some bytes in a ≡ b → decode bs ≡ Some v → v ≡ w
      by bs e own = let same : bs ≡ bytes = cc in some_is v w (sym own ∙ (ap decode same ∙ reads))

  -- the write of the base's file is the base
  pub base-read : (b : Base) (w : Write) (bytes : List ℕ) → s.base ≡ Some b → stood dir (name_text (base_file b)) ≡ Some bytes → decode bytes ≡ Some w
      → base_at w.time w.kind ≡ Some b
  base-read b w bytes e there reads =
      let chosen : (state_of stands.writes).base ≡ Some b = ap (λ (t : State). t.base) (sym stands.is_state) ∙ e in
      let is : IsBaseOf stands.writes (Some b) = subst (λ (o : Option Base). IsBaseOf stands.writes o) chosen (is_state stands.writes).is_base in
      let v : Write = is.0.0 in
      let same : v ≡ w = one-write v w (base_file b) bytes is.0.1 (base-name v.time v.kind b is.0.2) there reads in
      subst (λ (x : Write). base_at x.time x.kind ≡ Some b) same is.0.2

  -- and that of the meta's file the meta
  pub meta-read : (m : Meta) (w : Write) (bytes : List ℕ) → s.meta ≡ Some m → stood dir (name_text (meta_file m)) ≡ Some bytes → decode bytes ≡ Some w
      → meta_at w.time w.kind ≡ Some m
  meta-read m w bytes e there reads =
      let base : Option Base = (state_of stands.writes).base in
      let chosen : (state_of stands.writes).meta ≡ Some m = ap (λ (t : State). t.meta) (sym stands.is_state) ∙ e in
      let is : IsTopOf stands.writes base (Some m) = subst (λ (o : Option Meta). IsTopOf stands.writes base o) chosen (is_state stands.writes).is_top in
      let v : Write = is.0.0 in
      let same : v ≡ w = one-write v w (meta_file m) bytes is.0.1 (meta-name v.time v.kind m is.0.2) there reads in
      subst (λ (x : Write). meta_at x.time x.kind ≡ Some m) same is.0.2

-- ---- a directory in order

module _ (secrets : Secrets) (power : ℕ) (folders : Folders) (hash : Hash) (dir : List ℕ) (picked : Picked)
    (is : IsPickedIn secrets power folders hash dir picked) where
  abbrev now : State
  now = holds secrets power folders hash

  here : IsInOrder (write_in secrets hash) (contents folders) dir
  here = subst (λ (d : List ℕ). IsInOrder (write_in secrets hash) (contents folders) d) (sym is.dir_is) (is.order hash is.place)

  stands-now : StandsFor (write_in secrets hash) (contents folders) dir now
  stands-now =
      subst (λ (d : List ℕ). StandsFor (write_in secrets hash) (contents folders) d now) (sym is.dir_is)
      (holds_stands secrets power folders hash is.place (is.order hash is.place))

  picked-now : picked ≡ picked_of now
  picked-now = picks_state (contents folders) dir is.names picked is.are is.picks (write_in secrets hash) here now stands-now

  base-now : option_map base_file now.base ≡ picked.base
  base-now = ap (λ (p : Picked). p.base) (sym picked-now)

  meta-now : option_map meta_file now.meta ≡ picked.meta
  meta-now = ap (λ (p : Picked). p.meta) (sym picked-now)

  file-stands : (file : FileName) → IsPickedFile picked file → StandsIn (contents folders) dir file
  file-stands file one = (is.are file).0 (picked-among is.names picked file is.picks one)

  -- no picked file is damaged
  none-damaged : (file : FileName) (bad : BadFile) → IsPickedFile picked file → IsDamaged secrets hash file (contents folders dir (name_text file)) bad → ⊥
  none-damaged file bad one damaged =
      let r = here file damaged.bytes (file-stands file one).is_time damaged.is_there in
      reads-sound secrets hash file damaged.bytes r.write bad r.reads r.named damaged.damage

  -- each picked file is found
  found-picked : (file : FileName) (found : Option Write) → IsPickedFile picked file → IsFound secrets hash file (contents folders dir (name_text file)) found
      → (w : Write) × (bytes : List ℕ) × (found ≡ Some w) × (contents folders dir (name_text file) ≡ Some bytes) × (write_in secrets hash bytes ≡ Some w)
  found-picked file found one is_found = by (contents folders dir (name_text file)) found (file-stands file one).stands refl is_found
    where
      by : (o : Option (List ℕ)) (f : Option Write) → IsSome o → contents folders dir (name_text file) ≡ o → IsFound secrets hash file o f
          → (w : Write) × (bytes : List ℕ) × (f ≡ Some w) × (contents folders dir (name_text file) ≡ Some bytes) × (write_in secrets hash bytes ≡ Some w)
      by None f some e x = cc
      by (Some bytes) None some e x = absurd x
      by (Some bytes) (Some w) some e x = (w, bytes, refl, e, file-decodes secrets hash file bytes w x)

  -- the file of data is read as the base, and that of metadata as the meta
  found-data : (file : FileName) (found : Option Write) → data_of picked.base ≡ Some file
      → IsFound secrets hash file (contents folders dir (name_text file)) found
      → (t : ℕ) × (c : Content) × (w : Write) × (now.base ≡ Some (bases.Put t c)) × (found ≡ Some w) × (base_at w.time w.kind ≡ Some (bases.Put t c))
  found-data file found e is_found =
      let x = data-base now.base file (ap data_of base-now ∙ e) in
      let b : Base = bases.Put x.0 x.1 in
      let r = found-picked file found (inl (data-picked picked.base file e)) is_found in
      let there : contents folders dir (name_text (base_file b)) ≡ Some r.1 = subst (λ (f : FileName). contents folders dir (name_text f) ≡ Some r.1) x.3 r.3 in
      (x.0, x.1, r.0, x.2, r.2, base-read (write_in secrets hash) (contents folders) dir here now stands-now b r.0 r.1 x.2 there r.4)

  found-meta : (file : FileName) (found : Option Write) → picked.meta ≡ Some file → IsFound secrets hash file (contents folders dir (name_text file)) found
      → (m : Meta) × (w : Write) × (now.meta ≡ Some m) × (found ≡ Some w) × (meta_at w.time w.kind ≡ Some m)
  found-meta file found e is_found =
      let x = meta-base now.meta file (meta-now ∙ e) in
      let r = found-picked file found (inr e) is_found in
      let m : Meta = x.0 in
      let there : contents folders dir (name_text (meta_file m)) ≡ Some r.1 = subst (λ (f : FileName). contents folders dir (name_text f) ≡ Some r.1) x.2 r.3 in
      (x.0, r.0, x.1, r.2, meta-read (write_in secrets hash) (contents folders) dir here now stands-now x.0 r.0 r.1 x.1 there r.4)

  no-meta : picked.meta ≡ None → now.meta ≡ None
  no-meta e = none-meta now.meta (meta-now ∙ e)

  -- the second that is read is that of what stands
  second-now : (second : Option ℕ) → IsSecondRead secrets hash folders dir picked second → second ≡ standing_expiry now
  second-now second read = read.2 ∙ by (data_of picked.base) picked.meta refl refl read.0 read.1
    where
      by : (d m : Option FileName) → data_of picked.base ≡ d → picked.meta ≡ m → (found : Option Write)
          → IsFoundAt secrets hash folders dir (option_map (λ base. unwrap_or m base) d) found → second_of found ≡ standing_expiry now
      by None m e f found is_found = ap second_of is_found ∙ sym (no-data-expiry now.base now.meta (ap data_of base-now ∙ e))
      by (Some file) None e f found is_found =
          let x = found-data file found e is_found in
          let w : Write = x.2 in
          let stands : expiry_beside now.base now.meta ≡ expiry_beside (Some (bases.Put x.0 x.1)) None = rw (x.3, no-meta f) refl in
          ap second_of x.4 ∙ (data-second w.time w.kind x.0 x.1 x.5 ∙ sym stands)
      by (Some file) (Some meta) e f found is_found =
          let y = found-meta meta found f is_found in
          let w : Write = y.1 in
          let x = data-base now.base file (ap data_of base-now ∙ e) in
          let stands : expiry_beside now.base now.meta ≡ expiry_beside (Some (bases.Put x.0 x.1)) (Some y.0) = rw (x.2, y.2) refl in
          ap second_of y.3 ∙ (meta-second w.time w.kind y.0 y.4 ∙ sym stands)

  -- and what is shown is what stands
  meta-beside : (meta : Option FileName) (beside : Option Write) → picked.meta ≡ meta → IsFoundAt secrets hash folders dir meta beside
      → meta_in beside ≡ now.meta
  meta-beside None beside e at = ap meta_in at ∙ sym (no-meta e)
  meta-beside (Some file) beside e at =
      let y = found-meta file beside e at in
      ap meta_in y.3 ∙ (y.4 ∙ sym y.2)

  shown-now : (front : ℕ) (got : Got) → IsShown secrets hash folders dir front picked got → got ≡ got_of now front
  shown-now front got shown = by (data_of picked.base) refl shown
    where
      with_data : (o : Option Write) (w : Write) → o ≡ Some w → base_at w.time w.kind ≡ now.base
          → IsShownBeside secrets hash folders dir front picked.meta o got → got ≡ got_of now front
      with_data None w e base is = cc
      with_data (Some v) w e base is =
          let same : v ≡ w = some_is v w e in
          let beside : got_beside now.base (meta_in is.0) front ≡ got_of now front =
          ap (λ (m : Option Meta). got_beside now.base m front) (meta-beside picked.meta is.0 refl is.1) in
          is.2 ∙ (ap (λ (x : Write). got_read x is.0 front) same ∙ (ap (λ (b : Option Base). got_beside b (meta_in is.0) front) base ∙ beside))

      by : (d : Option FileName) → data_of picked.base ≡ d → IsShownWith secrets hash folders dir front d picked got → got ≡ got_of now front
      by None e is =
          is ∙ (ap (λ (o : Option FileName). gots.NotFound (option_map (λ f. f.time) o)) (sym base-now)
          ∙ no-data-got now.base now.meta front (ap data_of base-now ∙ e))
      by (Some file) e is = let x = found-data file is.0 e is.1 in with_data is.0 x.2 x.4 (x.5 ∙ sym x.3) is.2

-- ---- in whatever ring

module _ (secrets : Secrets) (hash : Hash) (folders : Folders) (dir : List ℕ) (picked : Picked) where
  pub shown-got : (front : ℕ) (got : Got) → IsShown secrets hash folders dir front picked got → IsGotIn secrets hash folders dir front picked got
  shown-got front got shown power is = shown-now secrets power folders hash dir picked is front got shown

  pub second-expiry : (second : Option ℕ) → IsSecondRead secrets hash folders dir picked second → IsExpiryIn secrets hash folders dir picked second
  second-expiry second read power is = second-now secrets power folders hash dir picked is second read

  -- where a file that is picked is damaged
  pub damaged-disorder : (bad : BadFile) (o : Option FileName) → ((file : FileName) → o ≡ Some file → IsPickedFile picked file)
      → IsDamagedAt secrets hash folders dir o bad → IsOutOfOrder secrets hash folders dir picked
  damaged-disorder bad None one damaged power is = absurd damaged
  damaged-disorder bad (Some file) one damaged power is = none-damaged secrets power folders hash dir picked is file bad (one file refl) damaged

  pub either-disorder : (file : FileName) (before after : ℕ) (bad : BadFile) → data_of picked.base ≡ Some file
      → IsDamagedOf secrets hash folders dir file picked.meta before after bad → IsOutOfOrder secrets hash folders dir picked
  either-disorder file before after bad e (inl (damaged, calls)) =
      damaged-disorder bad (Some file) (λ f is. inl (data-picked picked.base f (e ∙ is))) damaged
  either-disorder file before after bad e (inr (w, found, damaged, calls)) = damaged-disorder bad picked.meta (λ f is. inr is) damaged

pub expiry-picked : (picked : Picked) (file : FileName) → expiry_file picked ≡ Some file → IsPickedFile picked file
expiry-picked picked file e = by (data_of picked.base) picked.meta refl refl e
  where
    by : (d m : Option FileName) → data_of picked.base ≡ d → picked.meta ≡ m → option_map (λ base. unwrap_or m base) d ≡ Some file
        → IsPickedFile picked file
    by None m is also out = cc
    by (Some base) None is also out = inl (data-picked picked.base file (is ∙ out))
    by (Some base) (Some meta) is also out = inr (also ∙ out)

-- ---- what is shown, by what was read

module _ (secrets : Secrets) (hash : Hash) (folders : Folders) (dir : List ℕ) (front : ℕ) (picked : Picked) where
  by-data : (d : Option FileName) (got : Got) → data_of picked.base ≡ d → IsShownWith secrets hash folders dir front d picked got
      → IsShown secrets hash folders dir front picked got
  by-data d got e is = subst (λ (o : Option FileName). IsShownWith secrets hash folders dir front o picked got) (sym e) is

  pub shown-none : (time : Option ℕ) → data_of picked.base ≡ None → time ≡ option_map (λ f. f.time) picked.base
      → IsShown secrets hash folders dir front picked (gots.NotFound time)
  shown-none time e is = by-data None (gots.NotFound time) e (ap gots.NotFound is)

  pub shown-gone : (file : FileName) → data_of picked.base ≡ Some file → IsWholeAt secrets hash folders dir file picked.meta None
      → IsShown secrets hash folders dir front picked (gots.NotFound None)
  shown-gone file e gone = by-data (Some file) (gots.NotFound None) e (None, gone, refl)

  pub shown-some : (file : FileName) (object : Object) (got : Got) → data_of picked.base ≡ Some file
      → IsWholeAt secrets hash folders dir file picked.meta (Some object) → got ≡ got_read object.data object.meta front
      → IsShown secrets hash folders dir front picked got
  shown-some file object got e whole is = by-data (Some file) got e (Some object.data, whole.0, (object.meta, whole.1, is))

pub on-shown : (got : Got) (P : Type 0) → P → OnShown got P
on-shown (gots.Found time content heads front) P is = is
on-shown (gots.NotFound time) P is = is
on-shown (gots.Damaged bad) P is = tt
on-shown gots.Failed P is = tt
on-shown gots.NoMemory P is = tt

-- ---- how many calls were made

-- data is shown as an object, whatever is beside it
found-calls : (meta : Option FileName) (before now : ℕ) (t : ℕ) (k : Kind) (m : Option Meta) (front : ℕ) (got : Got)
    → is_put (tag_of k) ≡ true → got ≡ got_beside (base_at t k) m front → now ≡ raised_where meta (raised before) → CallsWith meta before now got
found-calls meta before now t (kinds.Put c) None front got put is calls = subst (λ (g : Got). CallsWith meta before now g) (sym is) calls
found-calls meta before now t (kinds.Put c) (Some m) front got put is calls = subst (λ (g : Got). CallsWith meta before now g) (sym is) calls
found-calls meta before now t kinds.Del m front got put is calls = cc
found-calls meta before now t (kinds.Meta heads) m front got put is calls = cc

pub object-calls : (base meta : Option FileName) (file : FileName) (object : Object) (before now front : ℕ) (got : Got)
    → data_of base ≡ Some file → name_of object.data ≡ file → (got ≡ gots.NoMemory) ⊎ (got ≡ got_read object.data object.meta front)
    → now ≡ raised_where meta (raised before) → CallsFor (data_of base) meta before now got
object-calls base meta file object before now front got e named is calls =
    subst (λ (d : Option FileName). CallsFor d meta before now got) (sym e) (by is)
  where
    by : (got ≡ gots.NoMemory) ⊎ (got ≡ got_read object.data object.meta front) → CallsWith meta before now got
    by (inl memory) = subst (λ (g : Got). CallsWith meta before now g) (sym memory) (inr calls)
    by (inr read) =
        let put : is_put (tag_of object.data.kind) ≡ true = ap (λ (f : FileName). is_put f.tag) named ∙ data-is-put base file e in
        found-calls meta before now object.data.time object.data.kind (meta_in object.meta) front got put read calls
