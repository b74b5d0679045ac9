-- What the files of a name tell, read after they were listed, and which calls that takes.
use Rattle.std.proofs.Common.{◌≡◌, ℕ, ◌≤◌, Bool, true, false, List, [], Option, Some, None}
use Rattle.std.proofs.Common.{Result, Ok, Err, length, refl, sym, ◌∙◌, ap, subst, arith, ◌⊎◌, inl, inr, IfOk}
use Rattle.std.specs.Str.{bytes_eq}
use Rattle.std.proofs.lemmas.Bool.{cases_Bool, cases_lt}
use Rattle.sw_cleanup.specs.Cleaning.{AreListedIn}
use Rattle.sw_cleanup.specs.Directories.{AreNamesIn, StandsIn}
use Rattle.sw_diskfile.specs.FileNames.{name_text}
use Rattle.sw_diskfile.specs.Picking.{IsPicked}
use Rattle.sw_diskfile.specs.declared.file_name.FileName.{FileName}
use Rattle.sw_diskfile.specs.declared.picking.Picked.{Picked}
use Rattle.sw_hashdir.specs.Places.{dir_text}
use Rattle.sw_hashdir.specs.Readings.{CallsFor, CallsWith, CountsFault, HasFront, IfDamaged, IfShownDamaged, IsDamageShown, IsDamaged, IsDamagedAt}
use Rattle.sw_hashdir.specs.Readings.{IsExpiryIn, IsFound, IsFoundAt, IsGotIn, IsSecondRead, IsShown, IsShownBeside, IsShownWith}
use Rattle.sw_hashdir.specs.Readings.{IsOutOfOrder, IsPickedIn, OnShown, data_of, expiry_file, raised_where}
use Rattle.sw_hashdir.specs.Steps.{IsOurs}
use Rattle.sw_object_steps.specs.Outlines.{picked_outline}
use Rattle.sw_hashdir.specs.declared.reading.ReadFault.{ReadFault}
use Rattle.sw_hashdir.specs.declared.reading.ReadFault.TheVariants as faulted
use Rattle.sw_hashpath.specs.declared.decode_error.BadFile.{BadFile}
use Rattle.sw_hashpath.specs.declared.name.Name.{Name}
use Rattle.sw_hashpath.specs.declared.secrets.Secrets.{Secrets}
use Rattle.sw_journal.specs.Settling.{SettlesFirst}
use Rattle.sw_object_steps.specs.Histories.{got_look}
use Rattle.sw_objdir.proofs.Looking.{all-held, dir-moved, held-told, looks-moved, looks-trans, reads, tells-now}
use Rattle.sw_objdir.specs.Calling.{Counts, Listed, ReadCalled, ReadsFiles, object_reads, read_calls}
use Rattle.sw_objdir.specs.Directories.{IsDir, Kept, held, is_told}
use Rattle.sw_objdir.specs.Stepping.{IsReadStep, LooksAt, SameFiles}
use Rattle.sw_outside.specs.Counts.{raised}
use Rattle.sw_outside.specs.Faults.{HasRisen}
use Rattle.sw_object_steps.specs.Journals.{Hash, Shows, written}
use Rattle.sw_object_steps.specs.Outlines.{standing_expiry}
use Rattle.sw_object_steps.specs.Steps.{got_of}
use Rattle.sw_object_steps.specs.declared.got.Got.{Got}
use Rattle.sw_object_steps.specs.declared.got.Got.TheVariants as gots
use Rattle.sw_state.specs.declared.heads.Heads.{Heads}
use Rattle.sw_state.specs.declared.state.State.{State}
use Rattle.sw_state.specs.declared.content.Content.{Content}
use Rattle.sw_state.specs.declared.write.Write.{Write}
use Rattle.sw_step.specs.Steps.{IsLost, Tells}
use Rattle.sw_volume.specs.Tree.{Folders, contents}
use Rattle.sw_volume.specs.Volume.{Contents, IsSame, raised_by}

-- ---- counts

-- a count that was raised once has risen, or stands at its end
pub risen-once : (before now : ℕ) → now ≡ raised before → HasRisen before now
risen-once before now is = elim (cases_lt before now) [
  | inl less ↦ inl less
  | inr more ↦ inr (omega (arith, more, is))
]

-- ---- files that stay have the same names

stands-moved : (old new : Contents) (path : List ℕ) (file : FileName) → IsSame old new → StandsIn old path file → StandsIn new path file
stands-moved old new path file same there = record {
  is_time = there.is_time;
  stands = rw (same path (name_text file)) there.stands;
}

pub names-moved : (old new : Contents) (path : List ℕ) (names : List FileName) → IsSame old new → AreNamesIn old path names → AreNamesIn new path names
names-moved old new path names same are file = (
  (λ among. stands-moved old new path file same ((are file).0 among)),
  (λ there. (are file).1 (stands-moved new old path file (λ d f. sym (same d f)) there)),
)

-- ---- files that stay tell the same

module _ (secrets : Secrets) (hash : Hash) (old new : Folders) (dir : List ℕ) (same : IsSame (contents old) (contents new)) where
  pub damaged-still : (file : Option FileName) (bad : BadFile) → IsDamagedAt secrets hash new dir file bad → IsDamagedAt secrets hash old dir file bad
  damaged-still None bad never = never
  damaged-still (Some file) bad there = subst (λ (x : Option (List ℕ)). IsDamaged secrets hash file x bad) (same dir (name_text file)) there

  pub found-still : (file : Option FileName) (found : Option Write) → IsFoundAt secrets hash new dir file found → IsFoundAt secrets hash old dir file found
  found-still None found is = is
  found-still (Some file) found is = subst (λ (x : Option (List ℕ)). IsFound secrets hash file x found) (same dir (name_text file)) is

  damage-still : (base meta : Option FileName) (before now : ℕ) (bad : BadFile) → IsDamageShown secrets hash new dir base meta before now bad
      → IsDamageShown secrets hash old dir base meta before now bad
  damage-still None meta before now bad never = never
  damage-still (Some file) meta before now bad (inl first) = inl (damaged-still (Some file) bad first.0, first.1)
  damage-still (Some file) meta before now bad (inr behind) = inr (
    behind.0,
    found-still (Some file) (Some behind.0) behind.1,
    damaged-still meta bad behind.2,
    behind.3,
  )

  beside-still : (front : ℕ) (meta : Option FileName) (found : Option Write) (got : Got) → IsShownBeside secrets hash new dir front meta found got
      → IsShownBeside secrets hash old dir front meta found got
  beside-still front meta None got is = is
  beside-still front meta (Some w) got beside = (beside.0, found-still meta beside.0 beside.1, beside.2)

  with-still : (front : ℕ) (base : Option FileName) (picked : Picked) (got : Got) → IsShownWith secrets hash new dir front base picked got
      → IsShownWith secrets hash old dir front base picked got
  with-still front None picked got is = is
  with-still front (Some file) picked got shown =
      (shown.0, found-still (Some file) shown.0 shown.1, beside-still front picked.meta shown.0 got shown.2)

-- ---- files that were listed, and then read

module _ {V : Type 0} (tells : V → Bool) (files : V → Folders) (faults : V → ℕ) where
  -- these are picked of the files of the name, where the directory is told
  abbrev IsPickedOf : Kept V → Hash → List ℕ → Picked → Type 0
  IsPickedOf k hash path picked = is_told tells files faults k ≡ true → IsPickedIn k.secrets k.power (files k.volume) hash path picked

  -- no file of a directory that is told is damaged
  untold : (k : Kept V) → IsDir tells files faults k → (hash : Hash) (path : List ℕ) (picked : Picked) → IsPickedOf k hash path picked
      → (tells k.volume ≡ true → IsOutOfOrder k.secrets hash (files k.volume) path picked) → is_told tells files faults k ≡ false
  untold k dir hash path picked are out = elim (cases_Bool (is_told tells files faults k)) [
    | inl told ↦ absurd (out (tells-now tells files faults k dir told) k.power (are told))
    | inr none ↦ none
  ]

  module _ (k : Kept V) (dir : IsDir tells files faults k) (name : Name) (path : List ℕ) (names : List FileName) (picked : Picked)
      (ours : IsOurs k.secrets k.power name) (path_is : path ≡ dir_text k.power name.hash)
      (are : tells k.volume ≡ true → AreNamesIn (contents (files k.volume)) path names) (picks : IsPicked names picked) where
    picked-in : IsPickedOf k name.hash path picked
    picked-in told = record {
      place = ours.place;
      dir_is = path_is;
      order = dir.order told;
      names = names;
      are = are (tells-now tells files faults k dir told);
      picks = picks;
    }

    -- the second that was read is that of what stands
    pub second-held : (result : Result (Option ℕ) ReadFault) (Asked : Type 0)
        → IfOk result (λ second. tells k.volume ≡ true → IsExpiryIn k.secrets name.hash (files k.volume) path picked second)
        → IfOk result (λ second. is_told tells files faults k ≡ true → Asked
        → second ≡ standing_expiry (held tells files faults k name.hash))
    second-held (Ok second) Asked read = λ told asked.
        read (tells-now tells files faults k dir told) k.power (picked-in told)
        ∙ ap standing_expiry (sym (held-told tells files faults k name.hash told))
    second-held (Err fault) Asked read = tt

    -- a file that is damaged shows that the directory isn't told
    pub damaged-untold : (result : Result (Option ℕ) ReadFault)
        → IfDamaged result (λ bad. tells k.volume ≡ true → IsOutOfOrder k.secrets name.hash (files k.volume) path picked)
        → IfDamaged result (λ bad. is_told tells files faults k ≡ false)
    damaged-untold (Ok second) out = tt
    damaged-untold (Err (faulted.Damaged bad)) out = untold k dir name.hash path picked picked-in out
    damaged-untold (Err faulted.Failed) out = tt
    damaged-untold (Err faulted.NoMemory) out = tt

  -- the second was read where it is asked for
  pub second-asked : (result : Result (Option ℕ) ReadFault) (Told Asked : Type 0) (P : Option ℕ → Type 0) → IfOk result (λ second. Told → P second)
      → IfOk result (λ second. Told → Asked → P second)
  second-asked (Ok second) Told Asked P read = λ told asked. read told
  second-asked (Err fault) Told Asked P read = tt

  -- what was read of the files that a listing left is what stood there before it
  module _ {at : Hash → Bool} (k m : Kept V) (looks : LooksAt tells files faults at k m) (hash : Hash) (path dir : List ℕ) (path_is : path ≡ dir) where
    pub damage-before : (file : Option FileName) (bad : BadFile) → (tells m.volume ≡ true → IsDamagedAt m.secrets hash (files m.volume) path file bad)
        → tells k.volume ≡ true → IsDamagedAt k.secrets hash (files k.volume) dir file bad
    damage-before file bad there told =
        damaged-still k.secrets hash (files k.volume) (files m.volume) dir (looks.still told) file bad
        (subst (λ (s : Secrets). IsDamagedAt s hash (files m.volume) dir file bad) looks.same.secrets
        (subst (λ (p : List ℕ). IsDamagedAt m.secrets hash (files m.volume) p file bad) path_is (there (looks.same.told ∙ told))))

    pub second-before : (picked : Picked) (second : Option ℕ) (Asked : Type 0)
        → (tells m.volume ≡ true → Asked → IsSecondRead m.secrets hash (files m.volume) path picked second)
        → tells k.volume ≡ true → Asked → IsSecondRead k.secrets hash (files k.volume) dir picked second
    second-before picked second Asked read told asked =
        let there : IsSecondRead k.secrets hash (files m.volume) dir picked second =
        subst (λ (s : Secrets). IsSecondRead s hash (files m.volume) dir picked second) looks.same.secrets
        (subst (λ (p : List ℕ). IsSecondRead m.secrets hash (files m.volume) p picked second) path_is (read (looks.same.told ∙ told) asked)) in (
          there.0,
          found-still k.secrets hash (files k.volume) (files m.volume) dir (looks.still told) (expiry_file picked) there.0 there.1,
          there.2,
        )

    pub shown-before : (front : ℕ) (picked : Picked) (got : Got) → (tells m.volume ≡ true → IsShown m.secrets hash (files m.volume) path front picked got)
        → tells k.volume ≡ true → IsShown k.secrets hash (files k.volume) dir front picked got
    shown-before front picked got shown told =
        with-still k.secrets hash (files k.volume) (files m.volume) dir (looks.still told) front (data_of picked.base) picked got
        (subst (λ (s : Secrets). IsShown s hash (files m.volume) dir front picked got) looks.same.secrets
        (subst (λ (p : List ℕ). IsShown m.secrets hash (files m.volume) p front picked got) path_is (shown (looks.same.told ∙ told))))

    pub damages-before : (base meta : Option FileName) (before now : ℕ) (bad : BadFile)
        → (tells m.volume ≡ true → IsDamageShown m.secrets hash (files m.volume) path base meta before now bad)
        → tells k.volume ≡ true → IsDamageShown k.secrets hash (files k.volume) dir base meta before now bad
    damages-before base meta before now bad there told =
        damage-still k.secrets hash (files k.volume) (files m.volume) dir (looks.still told) base meta before now bad
        (subst (λ (s : Secrets). IsDamageShown s hash (files m.volume) dir base meta before now bad) looks.same.secrets
        (subst (λ (p : List ℕ). IsDamageShown m.secrets hash (files m.volume) p base meta before now bad) path_is (there (looks.same.told ∙ told))))

  -- ---- a read of the object

  module _ (k m : Kept V) (name : Name) (looks : LooksAt tells files faults (λ key. bytes_eq key name.hash) k m) (after : IsDir tells files faults m) where
    -- the listing failed, or memory ran out
    pub unread : (got : Got) → (got_look got ≡ Tells → ⊥)
        → Shows (is_told tells files faults m) (held tells files faults m name.hash) (length m.journal.entries) got
        → (got_look got ≡ IsLost → HasRisen (faults k.volume) (faults m.volume)) → IsReadStep tells files faults k name got m
    unread got never shown cause =
        reads tells files faults k m name got looks after (λ is. absurd (never is)) (held tells files faults m) (λ hash. refl) shown cause

    module _ (path : List ℕ) (names : List FileName) (picked : Picked) (ours : IsOurs k.secrets k.power name)
        (path_is : path ≡ dir_text k.power name.hash)
        (are : tells k.volume ≡ true → AreListedIn (contents (files k.volume)) path names) (picks : IsPicked names picked) where
      -- the listing left what it told
      picked-now : IsPickedOf m name.hash path picked
      picked-now told =
          let before : tells k.volume ≡ true = sym looks.same.told ∙ tells-now tells files faults m after told in
          picked-in m after name path names picked (rw (looks.same.secrets, looks.same.power) ours) (rw looks.same.power path_is)
          (λ now. names-moved (contents (files k.volume)) (contents (files m.volume)) path names (looks.still before) (are before).are_names)
          picks told

      module _ (settled : written name.hash m.journal.doubts ≡ []) (front : ℕ) (front_is : front ≡ length m.journal.entries) where
        got-held : (got : Got) → (tells m.volume ≡ true → IsGotIn m.secrets name.hash (files m.volume) path front picked got)
            → is_told tells files faults m ≡ true → got ≡ got_of (held tells files faults m name.hash) (length m.journal.entries)
        got-held got shown told =
            shown (tells-now tells files faults m after told) m.power (picked-now told)
            ∙ (ap (λ (s : State). got_of s front) (sym (held-told tells files faults m name.hash told))
            ∙ ap (got_of (held tells files faults m name.hash)) front_is)

        shows : (got : Got) → OnShown got (tells m.volume ≡ true → IsGotIn m.secrets name.hash (files m.volume) path front picked got)
            → HasFront front got
            → IfShownDamaged got (λ bad. tells m.volume ≡ true → IsOutOfOrder m.secrets name.hash (files m.volume) path picked)
            → Shows (is_told tells files faults m) (held tells files faults m name.hash) (length m.journal.entries) got
        shows (gots.Found time content heads at) shown at_front out =
            (at_front ∙ front_is, got-held (gots.Found time content heads at) shown)
        shows (gots.NotFound time) shown at_front out = got-held (gots.NotFound time) shown
        shows (gots.Damaged bad) shown at_front out = untold m after name.hash path picked picked-now out
        shows gots.Failed shown at_front out = tt
        shows gots.NoMemory shown at_front out = tt

        module _ (fine : faults m.volume ≡ faults k.volume) (v : V) (told_is : tells v ≡ tells m.volume)
            (stay : SameFiles tells files faults m (record m { volume = v })) (up : faults m.volume ≤ faults v) where
          -- what was read is what the name stands for
          pub read-step : (got : Got)
              → OnShown got (tells m.volume ≡ true → IsGotIn m.secrets name.hash (files m.volume) path front picked got)
              → HasFront front got
              → IfShownDamaged got (λ bad. tells m.volume ≡ true → IsOutOfOrder m.secrets name.hash (files m.volume) path picked)
              → CountsFault (faults m.volume) (faults v) got → IsReadStep tells files faults k name got (record m { volume = v })
          read-step got shown at_front out counts =
              let moved : Kept V = record m { volume = v } in
              let moves = looks-moved tells files faults m v told_is stay up in
              reads tells files faults k moved name got (looks-trans tells files faults k m moved looks moves)
              (dir-moved tells files faults m v after told_is stay) (λ is. settled)
              (held tells files faults m) (λ hash. sym (all-held tells files faults (λ key. bytes_eq key name.hash) m moved moves after hash))
              (shows got shown at_front out)
              (λ is. risen-once (faults k.volume) (faults v)
              (subst (λ (x : Got). CountsFault (faults m.volume) (faults v) x) (lost got is) counts ∙ ap raised fine))
            where
              lost : (x : Got) → got_look x ≡ IsLost → x ≡ gots.Failed
              lost (gots.Found time content heads at) same = cc
              lost (gots.NotFound time) same = cc
              lost (gots.Damaged bad) same = cc
              lost gots.Failed same = refl
              lost gots.NoMemory same = cc

-- ---- the calls of a read

-- so many files were read of those that there were
abbrev IsPart : Option FileName → Option FileName → ℕ → ℕ → Type 0
IsPart base meta before now = (count : ℕ) × (count ≤ object_reads base meta) × (now ≡ raised_by count before)

whole-read : (base meta : Option FileName) (before now time : ℕ) (content : Content) (heads : Heads) (front : ℕ)
    → CallsFor base meta before now (gots.Found time content heads front) → now ≡ raised_by (object_reads base meta) before
whole-read None meta before now time content heads front is = is
whole-read (Some file) None before now time content heads front is = is
whole-read (Some file) (Some beside) before now time content heads front is = is

data-read : (base meta : Option FileName) (before now : ℕ) (time : Option ℕ) → CallsFor base meta before now (gots.NotFound time)
    → now ≡ raised_by (read_calls base) before
data-read None meta before now time is = is
data-read (Some file) meta before now time is = is

part-with : (file : FileName) (meta : Option FileName) (before now : ℕ) → (now ≡ raised before) ⊎ (now ≡ raised_where meta (raised before))
    → IsPart (Some file) meta before now
part-with file meta before now (inl first) = (1, one meta, first)
  where
    one : (beside : Option FileName) → 1 ≤ object_reads (Some file) beside
    one None = omega arith
    one (Some other) = omega arith
part-with file None before now (inr all) = (1, omega arith, all)
part-with file (Some beside) before now (inr all) = (2, omega arith, all)

part-read : (base meta : Option FileName) (before now : ℕ) (got : Got)
    → (CallsWith meta before now got → (now ≡ raised before) ⊎ (now ≡ raised_where meta (raised before)))
    → CallsFor base meta before now got → IsPart base meta before now
part-read None meta before now got either is = (0, omega arith, is)
part-read (Some file) meta before now got either is = part-with file meta before now (either is)

two-at-most : (base meta : Option FileName) → object_reads base meta ≤ 2
two-at-most None meta = omega arith
two-at-most (Some file) None = omega arith
two-at-most (Some file) (Some beside) = omega arith

module _ {V : Type 0} (tells : V → Bool) (files : V → Folders) (faults calls lists : V → ℕ) {at : Hash → Bool} (k m : Kept V)
    (looks : LooksAt tells files faults at k m) (name : Name) (path : List ℕ) (names : List FileName) (picked : Picked)
    (path_is : path ≡ dir_text k.power name.hash)
    (are : tells k.volume ≡ true → AreListedIn (contents (files k.volume)) path names) (picks : IsPicked names picked)
    (fine : faults m.volume ≡ faults k.volume) (called : calls m.volume ≡ raised (calls k.volume))
    (listed : lists m.volume ≡ raised (lists k.volume)) (settles : SettlesFirst name.hash (picked_outline picked) k.journal m.journal) (v : V)
    (stay : SameFiles tells files faults m (record m { volume = v })) (no_list : lists v ≡ lists m.volume) where
  abbrev seen : Listed tells files faults calls lists k name
  seen = record {
    names = names;
    picked = picked;
    are = λ told. subst (λ (p : List ℕ). AreListedIn (contents (files k.volume)) p names) path_is (are told);
    picks = picks;
    journal = m.journal;
    settles = settles;
  }

  still : SameFiles tells files faults k (record m { volume = v })
  still told d f = stay (looks.same.told ∙ told) d f ∙ looks.still told d f

  counted : (more fails : ℕ) → calls v ≡ raised_by more (calls m.volume) → faults v ≡ raised_by fails (faults m.volume)
      → Counts tells files faults calls lists more fails k (record m { volume = v })
  counted more fails made failed = record {
    called = made ∙ ap (raised_by more) called;
    listed = no_list ∙ listed;
    failed = failed ∙ ap (raised_by fails) fine;
  }

  -- the answer is one after which so many files were read of those that there were
  some-read : (got : Got)
      → (CallsWith picked.meta (calls m.volume) (calls v) got
      → (calls v ≡ raised (calls m.volume)) ⊎ (calls v ≡ raised_where picked.meta (raised (calls m.volume))))
      → CallsFor (data_of picked.base) picked.meta (calls m.volume) (calls v) got
      → IsPart (data_of picked.base) picked.meta (calls m.volume) (calls v)
  some-read got either made = part-read (data_of picked.base) picked.meta (calls m.volume) (calls v) got either made

  abbrev part : (fails : ℕ) → IsPart (data_of picked.base) picked.meta (calls m.volume) (calls v) → faults v ≡ raised_by fails (faults m.volume)
      → ReadsFiles tells files faults calls lists k name (λ p. object_reads (data_of p.base) p.meta) fails (record m { volume = v })
  part fails some failed = record { seen = seen; reads = some.0; within = some.1; same = still; counts = counted some.0 fails some.2 failed; kept = refl }

  shown-in : (front : ℕ) → front ≡ length m.journal.entries → (got : Got)
      → (tells m.volume ≡ true → IsShown m.secrets name.hash (files m.volume) path front picked got) → tells k.volume ≡ true
      → IsShown k.secrets name.hash (files k.volume) (dir_text k.power name.hash) (length m.journal.entries) picked got
  shown-in front front_is got shown told =
      subst (λ (n : ℕ). IsShown k.secrets name.hash (files k.volume) (dir_text k.power name.hash) n picked got) front_is
      (shown-before tells files faults k m looks name.hash path (dir_text k.power name.hash) path_is front picked got shown told)

  -- each answer of a read has the calls that it takes
  pub read-called : (front : ℕ) → front ≡ length m.journal.entries → (got : Got)
      → CallsFor (data_of picked.base) picked.meta (calls m.volume) (calls v) got
      → CountsFault (faults m.volume) (faults v) got
      → OnShown got (tells m.volume ≡ true → IsShown m.secrets name.hash (files m.volume) path front picked got)
      → IfShownDamaged got (λ bad. tells m.volume ≡ true
      → IsDamageShown m.secrets name.hash (files m.volume) path (data_of picked.base) picked.meta (calls m.volume) (calls v) bad)
      → ReadCalled tells files faults calls lists k name got (record m { volume = v })
  read-called at at_is (gots.Found time content heads front) made failed shown bad_is =
      let base = data_of picked.base in
      let whole = whole-read base picked.meta (calls m.volume) (calls v) time content heads front made in
      record {
        seen = seen;
        same = still;
        counts = counted (object_reads base picked.meta) 0 whole failed;
        kept = refl;
        shown = shown-in at at_is (gots.Found time content heads front) shown;
      }
  read-called at at_is (gots.NotFound time) made failed shown bad_is =
      let base = data_of picked.base in
      let one = data-read base picked.meta (calls m.volume) (calls v) time made in
      record { seen = seen; same = still; counts = counted (read_calls base) 0 one failed; kept = refl; shown = shown-in at at_is (gots.NotFound time) shown }
  read-called at at_is (gots.Damaged bad) made failed shown bad_is = record {
    reads = part 0 (some-read (gots.Damaged bad) (λ e. e) made) failed;
    damaged = λ told. subst (λ (n : ℕ). IsDamageShown k.secrets name.hash (files k.volume) (dir_text k.power name.hash) (data_of picked.base) picked.meta
        n (calls v) bad) called
        (damages-before tells files faults k m looks name.hash path (dir_text k.power name.hash) path_is (data_of picked.base) picked.meta
        (calls m.volume) (calls v) bad bad_is told);
  }
  read-called at at_is gots.Failed made failed shown bad_is = inr (part 1 (some-read gots.Failed (λ e. e) made) failed)
  read-called at at_is gots.NoMemory made failed shown bad_is =
      let some = some-read gots.NoMemory (λ e. e) made in
      let few = some.1 in let most = two-at-most (data_of picked.base) picked.meta in
      record {
        same = still;
        failed = failed ∙ fine;
        called = inr (some.0, omega (arith, few, most), some.2 ∙ ap (raised_by some.0) called, no_list ∙ listed);
        journal = inr (seen, refl);
      }
