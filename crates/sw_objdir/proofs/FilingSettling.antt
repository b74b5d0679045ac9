-- How the doubts of changes of records are settled, one after the other, each by a read of its record's file.
use Rattle.std.proofs.Common.{◌≡◌, ◌≢◌, ℕ, suc, ◌+◌, ◌≤◌, Bool, true, false, List, [], ◌∷◌, ◌++◌, length, length-append, Option, None, Some, refl, sym, ◌∙◌, ap}
use Rattle.std.proofs.Common.{subst, arith, inl, inr, Result, Ok, Err, IsErrAnd}
use Rattle.std.specs.Bool.{⊤}
use Rattle.std.specs.Str.{bytes_eq}
use Rattle.std.proofs.lemmas.Bool.{cases_Bool}
use Rattle.std.proofs.lemmas.List.Elements.{filter-append}
use Rattle.sw_hashpath.specs.declared.secrets.Secrets.{Secrets}
use Rattle.sw_journal.specs.Entries.{about_record, is_record_of}
use Rattle.sw_journal.specs.Settling.{IsSettledBy, SettlesFirstRecord}
use Rattle.sw_object_steps.proofs.Hashes.{hash-self, written-append}
use Rattle.sw_object_steps.proofs.Recording.{same-self}
use Rattle.sw_object_steps.specs.Journals.{Hash, Journal, written}
use Rattle.sw_object_steps.specs.Values.{is_same_key}
use Rattle.sw_object_steps.specs.declared.change.Change.TheVariants.{MarkRecord}
use Rattle.sw_object_steps.specs.declared.entry.ObjEntry.{ObjEntry}
use Rattle.sw_object_steps.specs.declared.entry.ObjEntry.TheVariants.{Dropped, Files, Marked, Wrote}
use Rattle.sw_objdir.proofs.Looking.{looks-wider}
use Rattle.sw_objdir.proofs.RecordSettling.{no-write}
use Rattle.sw_objdir.specs.Directories.{IsDir, Kept}
use Rattle.sw_objdir.specs.Filings.{IsSound, SettlesAllFilings, SettlesFilings, SettlesOneFiling, StopsAt, fails_of, filings, first_key, is_filing}
use Rattle.sw_objdir.specs.Recording.{CallsMade, Finds, Reads, ReadsAs, once_if}
use Rattle.sw_objdir.specs.Stepping.{LooksAt}
use Rattle.sw_pending.specs.Names.{folder_text, name_text}
use Rattle.sw_pending.specs.Records.{key_of}
use Rattle.sw_pending.specs.declared.filed.Filed.{Filed}
use Rattle.sw_pending.specs.declared.key.RecordKey.{RecordKey}
use Rattle.sw_pending_dir.specs.Places.{bytes_at}
use Rattle.sw_pending_dir.specs.Readings.{IsDamaged}
use Rattle.sw_pending_dir.specs.declared.fault.ReadFault.{ReadFault}
use Rattle.sw_pending_dir.specs.declared.fault.ReadFault.TheVariants as reads
use Rattle.sw_state.specs.declared.write.Write.{Write}
use Rattle.sw_volume.proofs.Counting.{raised_by-plus}
use Rattle.sw_volume.specs.Tree.{Folders, contents}
use Rattle.sw_volume.specs.Volume.{raised_by}

-- ---- the first of them

-- it is the key of a record, of which a change is in doubt
pub record IsDoubted (key : RecordKey) (ds : List ObjEntry) : Type 0 where
  pub filed : Filed
  pub keyed : key_of filed ≡ key
  pub about : about_record key ds ≢ []
  pub some : filings ds ≢ []

here-about : (key : RecordKey) (filed : Filed) (e : ObjEntry) (ds : List ObjEntry) → key_of filed ≡ key
    → is_record_of key e ≡ is_same_key key (key_of filed) → about_record key (e ∷ ds) ≢ []
here-about key filed e ds same of none =
    let here : is_record_of key e ≡ true = of ∙ subst (λ (k : RecordKey). is_same_key key k ≡ true) (sym same) (same-self key) in
    let no : e ∷ about_record key ds ≡ [] = rw here at none in
    cc

pub first-doubted : (ds : List ObjEntry) (key : RecordKey) → first_key ds ≡ Some key → IsDoubted key ds
first-doubted [] key is = cc
first-doubted (Wrote name w records ∷ ds) key is =
    let rest = first-doubted ds key is in record { filed = rest.filed; keyed = rest.keyed; about = rest.about; some = rest.some }
first-doubted (Files by filed ∷ ds) key is =
    let same : key_of filed ≡ key = cc in
    record { filed = filed; keyed = same; about = here-about key filed (Files by filed) ds same refl; some = λ none. cc }
first-doubted (Marked by filed device ∷ ds) key is =
    let same : key_of filed ≡ key = cc in
    record { filed = filed; keyed = same; about = here-about key filed (Marked by filed device) ds same refl; some = λ none. cc }
first-doubted (Dropped by filed ∷ ds) key is =
    let same : key_of filed ≡ key = cc in
    record { filed = filed; keyed = same; about = here-about key filed (Dropped by filed) ds same refl; some = λ none. cc }

pub none-doubted : (ds : List ObjEntry) → first_key ds ≡ None → filings ds ≡ []
none-doubted [] is = refl
none-doubted (Wrote name w records ∷ ds) is = none-doubted ds is
none-doubted (Files by filed ∷ ds) is = cc
none-doubted (Marked by filed device ∷ ds) is = cc
none-doubted (Dropped by filed ∷ ds) is = cc

-- ---- one fewer

filing-of : (key : RecordKey) (e : ObjEntry) → is_record_of key e ≡ true → is_filing e ≡ true
filing-of key (Wrote name w records) of = cc
filing-of key (Files by filed) of = refl
filing-of key (Marked by filed device) of = refl
filing-of key (Dropped by filed) of = refl

doubts-left : (stood : Option Filed) (j : Journal) (before : List ObjEntry) (e : ObjEntry) (behind : List ObjEntry) (after : Journal)
    → IsSettledBy stood j before e behind after → after.doubts ≡ before ++ behind
doubts-left stood j before e behind after (inl made) = ap (λ (x : Journal). x.doubts) made.1
doubts-left stood j before e behind after (inr away) = ap (λ (x : Journal). x.doubts) away.1

fewer : (key : RecordKey) (stood : Option Filed) (j after : Journal) → about_record key j.doubts ≢ [] → SettlesFirstRecord key stood j after
    → suc (length (filings after.doubts)) ≡ length (filings j.doubts)
fewer key stood j after some (inl none) = absurd (some none.0)
fewer key stood j after some (inr one) =
    let is = filing-of key one.entry one.of_key in
    let more : filings j.doubts ≡ filings one.before ++ one.entry ∷ filings one.behind =
    ap filings one.among ∙ (filter-append is_filing one.before (one.entry ∷ one.behind) ∙ rw is refl) in
    let less : filings after.doubts ≡ filings one.before ++ filings one.behind =
    ap filings (doubts-left stood j one.before one.entry one.behind after one.settled) ∙ filter-append is_filing one.before one.behind in
    let a = ap length more ∙ length-append (filings one.before) (one.entry ∷ filings one.behind) in
    let b = ap length less ∙ length-append (filings one.before) (filings one.behind) in
    omega (arith, a, b)

-- and none of another record
about-without : (key : RecordKey) (xs : List ObjEntry) (e : ObjEntry) (ys : List ObjEntry) → about_record key (xs ++ ys) ≢ []
    → about_record key (xs ++ e ∷ ys) ≢ []
about-without key [] e ys some none = elim (cases_Bool (is_record_of key e)) [
  | inl is ↦ let no : e ∷ about_record key ys ≡ [] = rw is at none in cc
  | inr isnt ↦ some (rw isnt at none)
]
about-without key (x ∷ xs) e ys some none = elim (cases_Bool (is_record_of key x)) [
  | inl is ↦ let no : x ∷ about_record key (xs ++ e ∷ ys) ≡ [] = rw is at none in cc
  | inr isnt ↦
      let rest : about_record key (xs ++ ys) ≢ [] = rw isnt at some in
      about-without key xs e ys rest (rw isnt at none)
]

still : (key : RecordKey) (stood : Option Filed) (j after : Journal) → SettlesFirstRecord key stood j after → (other : RecordKey)
    → about_record other after.doubts ≢ [] → about_record other j.doubts ≢ []
still key stood j after (inl none) other some = subst (λ (x : Journal). about_record other x.doubts ≢ []) none.1 some
still key stood j after (inr one) other some =
    subst (λ (ds : List ObjEntry). about_record other ds ≢ []) (sym one.among)
    (about-without other one.before one.entry one.behind
    (subst (λ (ds : List ObjEntry). about_record other ds ≢ []) (doubts-left stood j one.before one.entry one.behind after one.settled) some))

-- the doubts of writes stay
write-stays : (key : RecordKey) (hash : Hash) (xs : List ObjEntry) (e : ObjEntry) (ys : List ObjEntry) → is_record_of key e ≡ true
    → written hash (xs ++ ys) ≡ written hash (xs ++ e ∷ ys)
write-stays key hash xs e ys of =
    written-append hash xs ys
    ∙ (ap (λ (ws : List Write). written hash xs ++ (ws ++ written hash ys)) (sym (no-write key e of hash))
    ∙ (ap (λ (ws : List Write). written hash xs ++ ws) (sym (written-append hash (e ∷ []) ys)) ∙ sym (written-append hash xs (e ∷ ys))))

writes-stay : (key : RecordKey) (stood : Option Filed) (j after : Journal) → SettlesFirstRecord key stood j after → (hash : Hash)
    → written hash after.doubts ≡ written hash j.doubts
writes-stay key stood j after (inl none) hash = ap (λ (x : Journal). written hash x.doubts) none.1
writes-stay key stood j after (inr one) hash =
    ap (written hash) (doubts-left stood j one.before one.entry one.behind after one.settled)
    ∙ (write-stays key hash one.before one.entry one.behind one.of_key ∙ ap (written hash) (sym one.among))

-- ---- the read of its file

-- what a read of a record's file is told as: that there was a doubt
abbrev pub settling : Result (Option Filed) ReadFault → Result Bool ReadFault
settling (Ok stood) = Ok true
settling (Err fault) = Err fault

-- what it leaves
pub record IsLooked {V : Type 0} (tells : V → Bool) (files : V → Folders) (faults : V → ℕ) (k n : Kept V) : Type 0 where
  pub dir : IsDir tells files faults n
  pub looks : LooksAt tells files faults (λ hash. true) k n

module _ {V : Type 0} (tells : V → Bool) (files : V → Folders) (faults calls lists : V → ℕ) (k n : Kept V) (filed : Filed) where
  wider : LooksAt tells files faults (λ key. bytes_eq key filed.name.hash) k n → LooksAt tells files faults (λ hash. true) k n
  wider looks = looks-wider tells files faults (λ key. bytes_eq key filed.name.hash) (λ hash. true) (λ hash is. refl) k n looks

  pub read-looks : (r : Result (Option Filed) ReadFault) → Finds tells files faults calls lists k filed.name filed r n → IsLooked tells files faults k n
  read-looks (Ok stood) finds = record { dir = finds.dir; looks = wider finds.looks }
  read-looks (Err (reads.Damaged bad)) finds = record { dir = finds.0.dir; looks = wider finds.0.looks }
  read-looks (Err reads.Failed) finds = record { dir = finds.0.dir; looks = wider finds.0.looks }
  read-looks (Err reads.NoMemory) finds = record { dir = finds.0.dir; looks = wider finds.0.looks }

  same-writes : (j : Journal) → j ≡ k.journal → (hash : Hash) → written hash j.doubts ≡ written hash k.journal.doubts
  same-writes j same hash = ap (λ (x : Journal). written hash x.doubts) same

  pub read-writes : (r : Result (Option Filed) ReadFault) → Finds tells files faults calls lists k filed.name filed r n → (hash : Hash)
      → written hash n.journal.doubts ≡ written hash k.journal.doubts
  read-writes (Ok stood) finds hash =
      let read : ReadsAs tells files faults calls lists k filed stood n.journal =
      subst (λ (b : Bool). Reads tells files faults calls lists b k filed stood n.journal) (hash-self filed.name.hash) finds.read in
      writes-stay (key_of filed) stood k.journal n.journal read.settles hash
  read-writes (Err (reads.Damaged bad)) finds hash = same-writes n.journal (finds.2 (MarkRecord filed 0)).kept hash
  read-writes (Err reads.Failed) finds hash = same-writes n.journal (finds.1 (MarkRecord filed 0)).kept hash
  read-writes (Err reads.NoMemory) finds hash = elim (finds.1 (MarkRecord filed 0)) [
    | inl unread ↦ same-writes n.journal unread.kept hash
    | inr read ↦ same-writes n.journal read.kept hash
  ]

  pub read-settles : about_record (key_of filed) k.journal.doubts ≢ [] → filings k.journal.doubts ≢ [] → (r : Result (Option Filed) ReadFault)
      → Finds tells files faults calls lists k filed.name filed r n → SettlesOneFiling tells files faults calls lists k (settling r) n
  read-settles about some (Ok stood) finds =
      let read : ReadsAs tells files faults calls lists k filed stood n.journal =
      subst (λ (b : Bool). Reads tells files faults calls lists b k filed stood n.journal) (hash-self filed.name.hash) finds.read in
      record {
        fewer = fewer (key_of filed) stood k.journal n.journal about read.settles;
        still = still (key_of filed) stood k.journal n.journal read.settles;
        counts = subst (λ (b : Bool). CallsMade tells files faults calls lists (once_if b) 0 0 k n) (hash-self filed.name.hash) finds.counts;
      }
  read-settles about some (Err (reads.Damaged bad)) finds =
      let bad_is = finds.2 (MarkRecord filed 0) in
      record {
        doubted = some;
        count = 1;
        made = omega arith;
        within = omega arith;
        counts = bad_is.counts;
        sound = record { untold = finds.1; damaged = λ told. record { key = key_of filed; doubted = about; damaged = bad_is.damaged told } };
      }
  read-settles about some (Err reads.Failed) finds =
      record { doubted = some; count = 1; made = omega arith; within = omega arith; counts = (finds.1 (MarkRecord filed 0)).counts; sound = tt }
  read-settles about some (Err reads.NoMemory) finds = elim (finds.1 (MarkRecord filed 0)) [
    | inl unread ↦ record { doubted = some; count = 0; made = omega arith; within = omega arith; counts = unread.counts; sound = tt }
    | inr read ↦ record { doubted = some; count = 1; made = omega arith; within = omega arith; counts = read.counts; sound = tt }
  ]

-- ---- one after the other

some-length : {X : Type 0} (xs : List X) → xs ≢ [] → 1 ≤ length xs
some-length [] some = absurd (some refl)
some-length (x ∷ xs) some = omega arith

length-some : {X : Type 0} (xs : List X) → 1 ≤ length xs → xs ≢ []
length-some xs more none = let no = ap length none in omega (arith, more, no)

module _ {V : Type 0} (tells : V → Bool) (files : V → Folders) (faults calls lists : V → ℕ) where
  -- so many were settled, each by one read, and no call failed
  pub record HasSettled (k m : Kept V) : Type 0 where
    pub count : ℕ
    pub fewer : count + length (filings m.journal.doubts) ≡ length (filings k.journal.doubts)
    pub still : (key : RecordKey) → about_record key m.journal.doubts ≢ [] → about_record key k.journal.doubts ≢ []
    pub counts : CallsMade tells files faults calls lists count 0 0 k m

  pub has-none : (k : Kept V) → HasSettled k k
  has-none k = record { count = 0; fewer = omega arith; still = λ key some. some; counts = record { called = refl; listed = refl; failed = refl } }

  calls-then : (x y fails : ℕ) (k m n : Kept V) → CallsMade tells files faults calls lists x 0 0 k m
      → CallsMade tells files faults calls lists y 0 fails m n → CallsMade tells files faults calls lists (y + x) 0 fails k n
  calls-then x y fails k m n first more = record {
    called = more.called ∙ (ap (raised_by y) first.called ∙ raised_by-plus y x (calls k.volume));
    listed = more.listed ∙ first.listed;
    failed = more.failed ∙ ap (raised_by fails) first.failed;
  }

  module _ (k m n : Kept V) (has : HasSettled k m) where
    pub has-more : SettlesOneFiling tells files faults calls lists m (Ok true) n → HasSettled k n
    has-more one = record {
      count = 1 + has.count;
      fewer = let a = has.fewer in let b = one.fewer in omega (arith, a, b);
      still = λ key some. has.still key (one.still key some);
      counts = calls-then has.count 1 0 k m n has.counts one.counts;
    }

    -- what was damaged was so before
    same-damage : LooksAt tells files faults (λ hash. true) k m → (fault : ReadFault) → IsSound tells files faults calls lists m fault n
        → IsSound tells files faults calls lists k fault n
    same-damage looks (reads.Damaged bad) sound = record {
      untold = sound.untold;
      damaged = λ told.
          let is = sound.damaged (looks.same.told ∙ told) in
          record {
            key = is.key;
            doubted = has.still is.key is.doubted;
            damaged = subst (λ (s : Secrets). IsDamaged s is.key (bytes_at (contents (files k.volume)) is.key) bad) looks.same.secrets
                (subst (λ (b : Option (List ℕ)). IsDamaged m.secrets is.key b bad)
                (looks.still told (folder_text is.key.hash) (name_text is.key)) is.damaged);
          };
    }
    same-damage looks reads.Failed sound = tt
    same-damage looks reads.NoMemory sound = tt

    -- one couldn't be
    pub has-stopped : LooksAt tells files faults (λ hash. true) k m → (fault : ReadFault) → StopsAt tells files faults calls lists 1 m fault n
        → StopsAt tells files faults calls lists (length (filings k.journal.doubts)) k fault n
    has-stopped looks fault stops =
        let some = some-length (filings m.journal.doubts) stops.doubted in let fewer = has.fewer in
        record {
          doubted = length-some (filings k.journal.doubts) (omega (arith, some, fewer));
          count = stops.count + has.count;
          made = let made = stops.made in omega (arith, made);
          within = let within = stops.within in omega (arith, some, fewer, within);
          counts = calls-then has.count stops.count (fails_of fault) k m n has.counts stops.counts;
          sound = same-damage looks fault stops.sound;
        }

    -- none was left
    pub has-all : SettlesOneFiling tells files faults calls lists m (Ok false) n → SettlesFilings tells files faults calls lists k n
    has-all none =
        let fewer = has.fewer in let left = ap length none.none in
        let all : has.count ≡ length (filings k.journal.doubts) = omega (arith, fewer, left) in
        subst (λ (x : Kept V). SettlesFilings tells files faults calls lists k x) (sym none.same)
        (record {
          none = none.none;
          counts = subst (λ (x : ℕ). CallsMade tells files faults calls lists x 0 0 k m) all has.counts;
        })

  -- the answer of the call that stopped is that of all of them
  pub all-stopped : (k n : Kept V) (r : Result ⊤ ReadFault) (fault : ReadFault) → IsErrAnd r (λ x. x ≡ fault)
      → StopsAt tells files faults calls lists (length (filings k.journal.doubts)) k fault n → SettlesAllFilings tells files faults calls lists k r n
  all-stopped k n (Ok done) fault is stops = absurd is
  all-stopped k n (Err e) fault is stops =
      subst (λ (x : ReadFault). StopsAt tells files faults calls lists (length (filings k.journal.doubts)) k x n) (sym is) stops
