-- The row that is told for a record, once the name's directory was listed.
use Rattle.std.proofs.Common.{◌≡◌, ℕ, Bool, true, false, List, [], Option, Some, None, refl, sym, ◌∙◌, ap, subst, inl, inr, nat_lt, if◌then◌else◌}
use Rattle.std.proofs.Common.{Result, Ok, Err, IfOk, OnOk}
use Rattle.std.specs.Option.{option_map}
use Rattle.std.specs.Str.{bytes_eq}
use Rattle.sw_cleanup.specs.Cleaning.{AreListedIn}
use Rattle.sw_diskfile.specs.Picking.{IsPicked}
use Rattle.sw_diskfile.specs.declared.file_name.FileName.{FileName}
use Rattle.sw_diskfile.specs.declared.picking.Picked.{Picked}
use Rattle.sw_hashdir.specs.Places.{dir_text}
use Rattle.sw_hashdir.specs.Readings.{IsDamagedAt, data_of}
use Rattle.sw_hashpath.specs.declared.decode_error.BadFile.{BadFile}
use Rattle.sw_hashpath.specs.declared.secrets.Secrets.{Secrets}
use Rattle.sw_journal.specs.Entries.{first_in}
use Rattle.sw_journal.specs.Settling.{SettlesFirst}
use Rattle.sw_objdir.proofs.Doubts.{MayCome, write-came}
use Rattle.sw_objdir.proofs.Looking.{all-held, looks-trans, looks-wider, part-reads, told-same}
use Rattle.sw_objdir.proofs.Reading.{damage-before, found-still, risen-once}
use Rattle.sw_objdir.specs.BaseRows.{BaseCalled, IsRowAt, IsRowBy, IsRowIn, IsRowTold, IsRowWith, LooksBase, LooksNone, OnReadFault}
use Rattle.sw_objdir.specs.BaseRows.{ShowsBase, base_to_tell, row_reads}
use Rattle.sw_objdir.specs.Calling.{Listed}
use Rattle.sw_objdir.specs.Comparing.{CountsFault, IfDamagedPart, Looks}
use Rattle.sw_objdir.specs.Directories.{IsDir, Kept, held, is_told}
use Rattle.sw_objdir.specs.Stepping.{IsPartStep, LooksAt}
use Rattle.sw_object_steps.proofs.Hashes.{hash-same, hash-self}
use Rattle.sw_object_steps.specs.BaseRows.{IsBaseFor}
use Rattle.sw_object_steps.specs.Journals.{Hash, Journal, written}
use Rattle.sw_object_steps.specs.Outlines.{file_mark, is_before, mark_of, mark_time, outline_of, picked_outline}
use Rattle.sw_object_steps.specs.Recorded.{is_gone}
use Rattle.sw_object_steps.specs.declared.dir_fault.DirFault.{DirFault}
use Rattle.sw_object_steps.specs.declared.dir_fault.DirFault.TheVariants as faulted
use Rattle.sw_object_steps.specs.declared.outline.Mark.{Mark}
use Rattle.sw_object_steps.specs.declared.outline.Outline.{Outline}
use Rattle.sw_outside.specs.Counts.{raised}
use Rattle.sw_pending.specs.declared.filed.Filed.{Filed}
use Rattle.sw_rows.specs.declared.row.Row.{Row}
use Rattle.sw_state.specs.declared.base.Base.{Base}
use Rattle.sw_state.specs.declared.state.State.{State}
use Rattle.sw_timestamp.specs.declared.tag.Tag.{Tag}
use Rattle.sw_timestamp.specs.declared.tag.Tag.TheVariants as tags
use Rattle.sw_volume.specs.Tree.{Folders, contents}
use Rattle.sw_volume.specs.Volume.{IsSame, raised_by}

-- ---- the file of the base that was picked

-- it is no earlier than the record
to-tell : (o : Option FileName) (time : ℕ) (file : FileName) → base_to_tell o time ≡ Some file → (o ≡ Some file) × (nat_lt file.time time ≡ false)
to-tell None time file e = cc
to-tell (Some b) time file e = by (nat_lt b.time time) refl e
  where
    by : (early : Bool) → nat_lt b.time time ≡ early → (if early then None else Some b) ≡ Some file
        → ((let o : Option FileName = Some b in o ≡ Some file)) × (nat_lt file.time time ≡ false)
    by true is e = cc
    by false is e = let same : b ≡ file = cc in (ap Some same, subst (λ (x : FileName). nat_lt x.time time ≡ false) same is)

mark-time : (t : ℕ) (tag : Tag) → mark_time (file_mark (record { time = t; tag = tag })) ≡ t
mark-time t tags.Put = refl
mark-time t tags.Del = refl
mark-time t tags.Meta = refl

-- where none is told, what stands is earlier
none-to-tell : (o : Option FileName) (time : ℕ) → base_to_tell o time ≡ None → is_before (option_map mark_time (option_map file_mark o)) time ≡ true
none-to-tell None time e = refl
none-to-tell (Some b) time e = ap (λ (x : ℕ). nat_lt x time) (mark-time b.time b.tag) ∙ by (nat_lt b.time time) refl e
  where
    by : (early : Bool) → nat_lt b.time time ≡ early → (let o : Option FileName = if early then None else Some b in o ≡ None) → nat_lt b.time time ≡ true
    by true is e = is
    by false is e = cc

-- a row that is told of what stands
told-row : (filed : Filed) (s : State) (o : Option Base) (mark : Mark) → s.base ≡ o → option_map mark_of o ≡ Some mark → is_gone s filed.time ≡ false
    → (x : Option Row) → IsRowAt filed.name.object o x → IsBaseFor filed s x
told-row filed s None mark e marks stands x is = cc
told-row filed s (Some b) mark e marks stands None is = absurd is
told-row filed s (Some b) mark e marks stands (Some row) is = (b, e, stands, is)

-- ---- files that stay

with-still : (secrets : Secrets) (hash : Hash) (old new : Folders) (dir : List ℕ) → IsSame (contents old) (contents new) → (object : List ℕ)
    (file : FileName) (read : Option FileName) (got : Option Row) → IsRowWith secrets hash new dir object file read got
    → IsRowWith secrets hash old dir object file read got
with-still secrets hash old new dir same object file None got is = is
with-still secrets hash old new dir same object file (Some read) got is =
    (is.0, found-still secrets hash old new dir same (Some read) is.0 is.1, is.2)

module _ {V : Type 0} (tells : V → Bool) (files : V → Folders) (faults calls lists : V → ℕ) (k : Kept V) (filed : Filed) where
  abbrev hash : Hash
  hash = filed.name.hash

  abbrev Reading : Bool → (Hash → State) → Option Row → Type 0
  Reading told s got = told ≡ true → IsBaseFor filed (s filed.name.hash) got

  pub own-looks : (n : Kept V) → LooksAt tells files faults (λ key. bytes_eq key filed.name.hash) k n
      → LooksAt tells files faults (bytes_eq filed.name.hash) k n
  own-looks n looks = looks-wider tells files faults (λ key. bytes_eq key hash) (bytes_eq hash)
      (λ key is. subst (λ (x : Hash). bytes_eq hash x ≡ true) (sym (hash-same key hash is)) (hash-self hash)) k n looks

  -- what was told of the listing and the file is what a read of the hash gives
  pub base-step : (n : Kept V) → LooksAt tells files faults (λ key. bytes_eq key filed.name.hash) k n → IsDir tells files faults n
      → (got : Result (Option Row) DirFault) → OnOk got (written filed.name.hash n.journal.doubts ≡ [])
      → IfOk got (λ x. is_told tells files faults n ≡ true → IsBaseFor filed (held tells files faults n filed.name.hash) x)
      → IfDamagedPart got (λ bad. is_told tells files faults n ≡ false) → CountsFault (faults k.volume) (faults n.volume) got
      → IsPartStep tells files faults k (bytes_eq filed.name.hash) true (λ told s x. told ≡ true → IsBaseFor filed (s filed.name.hash) x) got n
  base-step n looks dir (Ok got) none shown damaged counts =
      part-reads tells files faults k n (bytes_eq hash) true Reading (Ok got) (own-looks n looks) dir
      (λ is other at. subst (λ (x : Hash). written x n.journal.doubts ≡ []) (hash-same hash other at) none)
      (held tells files faults n) (λ other. refl) (λ is. shown) (λ is. cc) (λ bad is. refl) (λ is. cc)
  base-step n looks dir (Err (faulted.Damaged bad)) none shown damaged counts =
      part-reads tells files faults k n (bytes_eq hash) true Reading (Err (faulted.Damaged bad)) (own-looks n looks) dir (λ is. cc)
      (held tells files faults n) (λ other. refl) (λ is. cc) (λ is. damaged) (λ b is. refl) (λ is. cc)
  base-step n looks dir (Err faulted.Failed) none shown damaged counts =
      part-reads tells files faults k n (bytes_eq hash) true Reading (Err faulted.Failed) (own-looks n looks) dir (λ is. cc)
      (held tells files faults n) (λ other. refl) (λ is. cc) (λ is. cc) (λ b is. refl)
      (λ is. risen-once (faults k.volume) (faults n.volume) counts)
  base-step n looks dir (Err faulted.NoMemory) none shown damaged counts =
      part-reads tells files faults k n (bytes_eq hash) true Reading (Err faulted.NoMemory) (own-looks n looks) dir (λ is. cc)
      (held tells files faults n) (λ other. refl) (λ is. cc) (λ is. cc) (λ b is. refl) (λ is. cc)

  -- ---- behind the listing

  module _ (dir : IsDir tells files faults k) (m : Kept V) (looks : LooksAt tells files faults (λ key. bytes_eq key filed.name.hash) k m)
      (after : IsDir tells files faults m) (names : List FileName) (picked : Picked) (o : Outline)
      (are : tells k.volume ≡ true → AreListedIn (contents (files k.volume)) (dir_text k.power filed.name.hash) names) (picks : IsPicked names picked)
      (shape : o ≡ picked_outline picked)
      (outline : is_told tells files faults k ≡ true → o ≡ outline_of (held tells files faults k filed.name.hash))
      (settles : SettlesFirst filed.name.hash o k.journal m.journal) (none : written filed.name.hash m.journal.doubts ≡ [])
      (fine : faults m.volume ≡ faults k.volume) (called : calls m.volume ≡ raised (calls k.volume)) (listed : lists m.volume ≡ raised (lists k.volume)) where
    abbrev seen : Listed tells files faults calls lists k filed.name
    seen = record {
      names = names;
      picked = picked;
      are = are;
      picks = picks;
      journal = m.journal;
      settles = subst (λ (x : Outline). SettlesFirst filed.name.hash x k.journal m.journal) shape settles;
    }

    -- the state has the marks that were picked
    marks-now : is_told tells files faults m ≡ true → option_map mark_of (held tells files faults m hash).base ≡ option_map file_mark picked.base
    marks-now told =
        let before : is_told tells files faults k ≡ true = sym (told-same tells files faults k m looks.same) ∙ told in
        ap (λ (s : State). option_map mark_of s.base) (all-held tells files faults _ k m looks dir hash)
        ∙ ap (λ (x : Outline). x.base) (sym (outline before) ∙ shape)

    -- nothing stands that is as late
    none-shown : base_to_tell picked.base filed.time ≡ None → is_told tells files faults m ≡ true
        → IsBaseFor filed (held tells files faults m filed.name.hash) None
    none-shown e told = ap (λ (x : Option Mark). is_before (option_map mark_time x) filed.time) (marks-now told) ∙ none-to-tell picked.base filed.time e

    pub none-step : base_to_tell picked.base filed.time ≡ None
        → IsPartStep tells files faults k (bytes_eq filed.name.hash) true (λ told s x. told ≡ true → IsBaseFor filed (s filed.name.hash) x) (Ok None) m
    none-step e = base-step m looks after (Ok None) none (none-shown e) tt fine

    pub none-called : base_to_tell picked.base filed.time ≡ None → ShowsBase tells files faults calls lists k filed None m
    none-called e = record {
      looked = record {
        seen = seen;
        counts = subst (λ (r : ℕ). Looks calls lists 1 r k m) (sym (ap row_reads e)) (record { called = called; listings = listed });
        kept = refl;
      };
      shown = λ told. subst (λ (f : Option FileName). IsRowTold k.secrets hash (files k.volume) (dir_text k.power hash) filed.name.object f None)
          (sym e) refl;
    }

    module _ (file : FileName) (e : base_to_tell picked.base filed.time ≡ Some file) (n : Kept V) (later : IsDir tells files faults n)
        (more : LooksAt tells files faults (λ key. bytes_eq key filed.name.hash) m n) (same : n.journal ≡ m.journal) where
      file-marks : is_told tells files faults m ≡ true → option_map mark_of (held tells files faults m hash).base ≡ Some (file_mark file)
      file-marks told = marks-now told ∙ ap (option_map file_mark) (to-tell picked.base filed.time file e).0

      stands : is_told tells files faults m ≡ true → is_gone (held tells files faults m hash) filed.time ≡ false
      stands told =
          ap (λ (x : Option Mark). is_before (option_map mark_time x) filed.time) (file-marks told)
          ∙ (ap (λ (x : ℕ). nat_lt x filed.time) (mark-time file.time file.tag) ∙ (to-tell picked.base filed.time file e).1)

      -- what stands is told
      some-shown : (x : Option Row)
          → IsRowBy filed.name.object file (is_told tells files faults m) (held tells files faults m hash) x
          → is_told tells files faults n ≡ true → IsBaseFor filed (held tells files faults n hash) x
      some-shown x by told =
          let now : is_told tells files faults m ≡ true = sym (told-same tells files faults m n more.same) ∙ told in
          let s = held tells files faults m hash in
          subst (λ (t : State). IsBaseFor filed t x) (sym (all-held tells files faults _ m n more after hash))
          (told-row filed s s.base (file_mark file) refl (file-marks now) (stands now) x (by now (file-marks now)))

      pub some-step : (got : Result (Option Row) DirFault)
          → IfOk got (IsRowBy filed.name.object file (is_told tells files faults m) (held tells files faults m filed.name.hash))
          → IfDamagedPart got (λ bad. is_told tells files faults m ≡ false) → CountsFault (faults m.volume) (faults n.volume) got
          → IsPartStep tells files faults k (bytes_eq filed.name.hash) true (λ told s x. told ≡ true → IsBaseFor filed (s filed.name.hash) x) got n
      some-step got shown damaged counts =
          base-step n (looks-trans tells files faults k m n looks more) later got (on got)
          (lift got (IsRowBy filed.name.object file (is_told tells files faults m) (held tells files faults m hash))
          (λ x. is_told tells files faults n ≡ true → IsBaseFor filed (held tells files faults n hash) x) some-shown shown)
          (damage got damaged)
          (subst (λ (f : ℕ). CountsFault f (faults n.volume) got) fine counts)
        where
          on : (x : Result (Option Row) DirFault) → OnOk x (written hash n.journal.doubts ≡ [])
          on (Ok a) = subst (λ (j : Journal). written hash j.doubts ≡ []) (sym same) none
          on (Err a) = tt

          lift : (x : Result (Option Row) DirFault) (P Q : Option Row → Type 0) → ((a : Option Row) → P a → Q a) → IfOk x P → IfOk x Q
          lift (Ok a) P Q f is = f a is
          lift (Err a) P Q f is = tt

          damage : (x : Result (Option Row) DirFault) → IfDamagedPart x (λ bad. is_told tells files faults m ≡ false)
              → IfDamagedPart x (λ bad. is_told tells files faults n ≡ false)
          damage (Ok a) is = tt
          damage (Err (faulted.Damaged bad)) is = told-same tells files faults m n more.same ∙ is
          damage (Err faulted.Failed) is = tt
          damage (Err faulted.NoMemory) is = tt

      -- ---- the calls

      abbrev some-looked : Looks calls lists 0 (row_reads (Some file)) m n → LooksBase tells files faults calls lists k filed n
      some-looked counts = record {
        seen = seen;
        counts = subst (λ (r : ℕ). Looks calls lists 1 r k n) (sym (ap row_reads e)) (record {
          called = counts.called ∙ ap (raised_by (row_reads (Some file))) called;
          listings = counts.listings ∙ listed;
        });
        kept = same;
      }

      -- what stood there behind the listing stood there before it
      module _ (path : List ℕ) (path_is : path ≡ dir_text k.power filed.name.hash) where
        row-before : (x : Option Row)
            → (tells m.volume ≡ true → IsRowIn m.secrets filed.name.hash (files m.volume) path filed.name.object file x)
            → tells k.volume ≡ true → IsRowTold k.secrets hash (files k.volume) (dir_text k.power hash) filed.name.object
            (base_to_tell picked.base filed.time) x
        row-before x there told =
            subst (λ (f : Option FileName). IsRowTold k.secrets hash (files k.volume) (dir_text k.power hash) filed.name.object f x) (sym e)
            (with-still k.secrets hash (files k.volume) (files m.volume) (dir_text k.power hash) (looks.still told) filed.name.object file
            (data_of (Some file)) x
            (subst (λ (s : Secrets). IsRowIn s hash (files m.volume) (dir_text k.power hash) filed.name.object file x) looks.same.secrets
            (subst (λ (p : List ℕ). IsRowIn m.secrets hash (files m.volume) p filed.name.object file x) path_is (there (looks.same.told ∙ told)))))

        damage-told : (bad : BadFile)
            → (tells m.volume ≡ true → IsDamagedAt m.secrets filed.name.hash (files m.volume) path (Some file) bad)
            → tells k.volume ≡ true
            → IsDamagedAt k.secrets hash (files k.volume) (dir_text k.power hash) (base_to_tell picked.base filed.time) bad
        damage-told bad there told =
            subst (λ (f : Option FileName). IsDamagedAt k.secrets hash (files k.volume) (dir_text k.power hash) f bad) (sym e)
            (damage-before tells files faults k m looks hash path (dir_text k.power hash) path_is (Some file) bad there told)

        pub some-called : (got : Result (Option Row) DirFault)
            → IfOk got (λ x. tells m.volume ≡ true → IsRowIn m.secrets filed.name.hash (files m.volume) path filed.name.object file x)
            → IfDamagedPart got (λ bad. tells m.volume ≡ true → IsDamagedAt m.secrets filed.name.hash (files m.volume) path (Some file) bad)
            → OnReadFault got (row_reads (Some file) ≡ 1) → Looks calls lists 0 (row_reads (Some file)) m n
            → BaseCalled tells files faults calls lists k filed got n
        some-called (Ok got) shown damage asked counts = record { looked = some-looked counts; shown = row-before got shown }
        some-called (Err (faulted.Damaged bad)) shown damage asked counts = record {
          read = record { looked = some-looked counts; is_read = ap row_reads e ∙ asked };
          damaged = damage-told bad damage;
        }
        some-called (Err faulted.Failed) shown damage asked counts = inr (record { looked = some-looked counts; is_read = ap row_reads e ∙ asked })
        some-called (Err faulted.NoMemory) shown damage asked counts = inr (some-looked counts)

  -- ---- the entry of a doubt

  looked-came : (n : Kept V) → LooksBase tells files faults calls lists k filed n
      → MayCome (first_in filed.name.hash k.journal.doubts) k.journal.entries n.journal.entries
  looked-came n looked =
      subst (λ (j : Journal). MayCome (first_in hash k.journal.doubts) k.journal.entries j.entries) (sym looked.kept)
      (write-came hash _ k.journal looked.seen.journal looked.seen.settles)

  none-came : (listings : ℕ) (n : Kept V) → LooksNone tells files faults calls lists listings k n
      → MayCome (first_in filed.name.hash k.journal.doubts) k.journal.entries n.journal.entries
  none-came listings n looked = inl (ap (λ (j : Journal). j.entries) looked.kept)

  pub base-came : (got : Result (Option Row) DirFault) (n : Kept V) → BaseCalled tells files faults calls lists k filed got n
      → MayCome (first_in filed.name.hash k.journal.doubts) k.journal.entries n.journal.entries
  base-came (Ok got) n called = looked-came n called.looked
  base-came (Err (faulted.Damaged bad)) n called = looked-came n called.read.looked
  base-came (Err faulted.Failed) n called = elim called [ inl none ↦ none-came 1 n none | inr read ↦ looked-came n read.looked ]
  base-came (Err faulted.NoMemory) n called = elim called [
    | inl not ↦ elim not [ inl none ↦ none-came 0 n none | inr none ↦ none-came 1 n none ]
    | inr looked ↦ looked-came n looked
  ]
