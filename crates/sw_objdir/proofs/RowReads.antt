-- The row of what stands, by the file of its base: what is read of that file is the base.
use Rattle.std.proofs.Common.{◌≡◌, ℕ, zero, suc, ◌≤◌, Bool, true, false, List, ◌++◌, Option, Some, None, refl, sym, ◌∙◌, ap, subst, arith, inl, inr}
use Rattle.std.proofs.Common.{Err, IfSome}
use Rattle.std.proofs.lemmas.Bool.{cases_Bool}
use Rattle.std.specs.List.{Contains}
use Rattle.std.specs.Option.{option_map}
use Rattle.sw_diskfile.specs.FileNames.{name_text}
use Rattle.sw_diskfile.specs.StateFiles.{name_of}
use Rattle.sw_diskfile.specs.declared.file_name.FileName.{FileName}
use Rattle.sw_hashdir.specs.Places.{dir_text, is_place}
use Rattle.sw_hashdir.specs.Readings.{IfDamaged, IsDamaged, IsFound, data_of}
use Rattle.sw_hashdir.specs.declared.reading.ReadFault.{ReadFault}
use Rattle.sw_hashdir.specs.declared.reading.ReadFault.TheVariants as reads
use Rattle.sw_hashpath.specs.declared.decode_error.BadFile.{BadFile}
use Rattle.sw_hashpath.specs.declared.secrets.Secrets.{Secrets}
use Rattle.sw_objdir.proofs.Looking.{held-told, tells-now}
use Rattle.sw_objdir.proofs.OneFile.{IsReadIn, damaged-never, found-counts, found-none}
use Rattle.sw_objdir.specs.BaseRows.{IsRowAt, IsRowBy, IsRowIn, IsRowRead, IsRowWith, base_in}
use Rattle.sw_objdir.specs.Comparing.{IfDamagedPart, fault_of_read}
use Rattle.sw_objdir.specs.Directories.{IsDir, Kept, held, is_told}
use Rattle.sw_object_steps.specs.Journals.{Hash}
use Rattle.sw_object_steps.specs.Outlines.{file_mark, mark_of}
use Rattle.sw_object_steps.specs.Parts.{Counts}
use Rattle.sw_object_steps.specs.declared.dir_fault.DirFault.{DirFault}
use Rattle.sw_object_steps.specs.declared.outline.Mark.{Mark}
use Rattle.sw_object_steps.specs.declared.outline.Mark.TheVariants.{Object}
use Rattle.sw_object_steps.specs.declared.stored.Stored.{Stored}
use Rattle.sw_rows.specs.declared.row.Row.{Row}
use Rattle.sw_state.specs.Bases.{base_at, base_tag, base_time}
use Rattle.sw_state.specs.Metas.{Meta}
use Rattle.sw_state.specs.States.{base_writes, meta_writes, writes_of}
use Rattle.sw_state.specs.Writes.{tag_of}
use Rattle.sw_state.specs.declared.base.Base.{Base}
use Rattle.sw_state.specs.declared.base.Base.TheVariants as bases
use Rattle.sw_state.specs.declared.state.State.{State}
use Rattle.sw_state.specs.declared.write.Write.{Write}
use Rattle.sw_timestamp.specs.declared.tag.Tag.{Tag}
use Rattle.sw_timestamp.specs.declared.tag.Tag.TheVariants as tags
use Rattle.sw_volume.specs.Tree.{Folders, contents}

-- ---- the file of data

abbrev base_file : Base → FileName
base_file b = record { time = base_time b; tag = base_tag b }

put-file : (file : FileName) → file.tag ≡ tags.Put → record { time = file.time; tag = tags.Put } ≡ file
put-file file is_data i = record { time = file.time; tag = sym is_data i }

-- it is the one of the base
base-is : (o : Option Base) (t : ℕ) → option_map mark_of o ≡ Some (Object t) → option_map base_file o ≡ Some (record { time = t; tag = tags.Put })
base-is None t e = cc
base-is (Some (bases.Put time content)) t e =
    let same : time ≡ t = cc in ap (λ (x : ℕ). let y : Option FileName = Some (record { time = x; tag = tags.Put }) in y) same
base-is (Some (bases.Del time)) t e = cc

put-mark : (o : Option Base) (file : FileName) → file.tag ≡ tags.Put → option_map mark_of o ≡ Some (file_mark file)
    → option_map mark_of o ≡ Some (Object file.time)
put-mark o file is_data e = e ∙ ap (λ (x : Tag). let y : Option Mark = Some (file_mark (record { time = file.time; tag = x })) in y) is_data

base-counts : (s : State) (file : FileName) → file.tag ≡ tags.Put → option_map mark_of s.base ≡ Some (file_mark file) → Counts s file
base-counts s file is_data e = inl (base-is s.base file.time (put-mark s.base file is_data e) ∙ ap Some (put-file file is_data))

-- of the writes that a state has, one of data is its base
base-write : (o : Option Base) (m : Option Meta) (t : ℕ) (w : Write) → option_map mark_of o ≡ Some (Object t) → tag_of w.kind ≡ tags.Put
    → Contains (base_writes o ++ meta_writes m) w → base_at w.time w.kind ≡ o
base-write None m t w e is_data has = cc
base-write (Some (bases.Del time)) m t w e is_data has = cc
base-write (Some (bases.Put time content)) m t w e is_data (zero, inside, here) =
    subst (λ (x : Write). base_at x.time x.kind ≡ Some (bases.Put time content)) here refl
base-write (Some (bases.Put time content)) None t w e is_data (suc k, inside, here) = absurd (let lt = inside in omega (arith, lt))
base-write (Some (bases.Put time content)) (Some m) t w e is_data (suc zero, inside, here) =
    let other : tags.Meta ≡ tags.Put = ap (λ (x : Write). tag_of x.kind) here ∙ is_data in cc
base-write (Some (bases.Put time content)) (Some m) t w e is_data (suc (suc k), inside, here) = absurd (let lt = inside in omega (arith, lt))

-- ---- the row by the file

data-is : (file : FileName) → file.tag ≡ tags.Put → data_of (Some file) ≡ Some file
data-is file is_data = ap (λ (x : Tag). data_of (Some (record { time = file.time; tag = x }))) is_data ∙ ap Some (put-file file is_data)

module _ (secrets : Secrets) (hash : Hash) (folders : Folders) (path : List ℕ) (object : List ℕ) (file : FileName) where
  -- what was read of data is told
  pub read-shown : (found : Option Stored) (got : Option Row) → file.tag ≡ tags.Put
      → IsFound secrets hash file (contents folders path (name_text file)) (option_map (λ x. x.write) found) → IsRowRead object found got
      → IsRowIn secrets hash folders path object file got
  read-shown found got is_data there is =
      subst (λ (d : Option FileName). IsRowWith secrets hash folders path object file d got) (sym (data-is file is_data))
      (option_map (λ x. x.write) found, there, same found is)
    where
      same : (x : Option Stored) → IsRowRead object x got → IsRowAt object (base_in (option_map (λ y. y.write) x)) got
      same None so = so
      same (Some stored) so = so

-- ---- a read

module _ {V : Type 0} (tells : V → Bool) (files : V → Folders) (faults : V → ℕ) (k : Kept V) (dir : IsDir tells files faults k) (hash : Hash)
    (place : is_place k.power hash ≡ true) (file : FileName) (path : List ℕ) (path_is : path ≡ dir_text k.power hash) where
  read-in : is_told tells files faults k ≡ true → IsReadIn k.secrets k.power (files k.volume) hash (held tells files faults k hash)
  read-in told = record { place = place; order = dir.order told; held = sym (held-told tells files faults k hash told) }

  here : (found : Option Write) → is_told tells files faults k ≡ true
      → (tells k.volume ≡ true → IsFound k.secrets hash file (contents (files k.volume) path (name_text file)) found)
      → IsFound k.secrets hash file (contents (files k.volume) (dir_text k.power hash) (name_text file)) found
  here found told there =
      subst (λ (p : List ℕ). IsFound k.secrets hash file (contents (files k.volume) p (name_text file)) found) path_is
      (there (tells-now tells files faults k dir told))

  pub row-read : (object : List ℕ) (found : Option Stored) (got : Option Row) → file.tag ≡ tags.Put
      → (tells k.volume ≡ true → IsFound k.secrets hash file (contents (files k.volume) path (name_text file)) (option_map (λ x. x.write) found))
      → IfSome found (λ x. name_of x.write ≡ file) → IsRowRead object found got
      → IsRowBy object file (is_told tells files faults k) (held tells files faults k hash) got
  row-read object None got is_data there named is told marks =
      absurd (found-none k.secrets k.power (files k.volume) hash (held tells files faults k hash) (read-in told) file (here None told there)
      (base-counts (held tells files faults k hash) file is_data marks))
  row-read object (Some stored) got is_data there named is told marks =
      let s = held tells files faults k hash in
      let has : Contains (writes_of s) stored.write =
      found-counts k.secrets k.power (files k.volume) hash s (read-in told) file stored.write (here (Some stored.write) told there)
      (base-counts s file is_data marks) in
      subst (λ (o : Option Base). IsRowAt object o got)
      (base-write s.base s.meta file.time stored.write (put-mark s.base file is_data marks) (ap (λ (f : FileName). f.tag) named ∙ is_data) has) is

  -- no file is damaged where the directory is told
  pub never-damaged : (A B : Type 0) (fault : ReadFault) (e : DirFault) → e ≡ fault_of_read fault → file.time ≤ 999999999999999
      → IfDamaged {T = A} (Err fault)
      (λ bad. tells k.volume ≡ true → IsDamaged k.secrets hash file (contents (files k.volume) path (name_text file)) bad)
      → IfDamagedPart {A = B} (Err e) (λ bad. is_told tells files faults k ≡ false)
  never-damaged A B fault e is le there =
      subst (λ (x : DirFault). IfDamagedPart {A = B} (Err x) (λ bad. is_told tells files faults k ≡ false)) (sym is) (by fault there)
    where
      never : (bad : BadFile) → (tells k.volume ≡ true → IsDamaged k.secrets hash file (contents (files k.volume) path (name_text file)) bad)
          → is_told tells files faults k ≡ false
      never bad damaged = elim (cases_Bool (is_told tells files faults k)) [
        | inl told ↦ absurd (damaged-never k.secrets k.power (files k.volume) hash (held tells files faults k hash) (read-in told) file bad le
            (subst (λ (p : List ℕ). IsDamaged k.secrets hash file (contents (files k.volume) p (name_text file)) bad) path_is
            (damaged (tells-now tells files faults k dir told))))
        | inr untold ↦ untold
      ]

      by : (x : ReadFault) → IfDamaged {T = A} (Err x)
          (λ bad. tells k.volume ≡ true → IsDamaged k.secrets hash file (contents (files k.volume) path (name_text file)) bad)
          → IfDamagedPart {A = B} (Err (fault_of_read x)) (λ bad. is_told tells files faults k ≡ false)
      by (reads.Damaged bad) damaged = never bad damaged
      by reads.Failed damaged = tt
      by reads.NoMemory damaged = tt
