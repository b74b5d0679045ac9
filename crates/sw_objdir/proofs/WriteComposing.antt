-- The parts of a write that nothing refuses, one behind the other: what each needs of those before it, how the write ends by them, and what a trail is
-- told of the entries that they add.
use Rattle.std.proofs.Common.{◌≡◌, ℕ, zero, suc, ◌+◌, ◌-◌, ◌≤◌, Bool, true, false, List, [], ◌∷◌, ◌++◌, length, map, take, None, Some, refl, sym}
use Rattle.std.proofs.Common.{◌∙◌, ap, subst, arith, append_assoc, length-append, Option, Result, Err, inl, inr, if◌then◌else◌, drop, nat_le, nat_lt, ◌⊎◌}
use Rattle.std.specs.Option.{option_map}
use Rattle.std.proofs.lemmas.Bool.{and_parts, leb-true}
use Rattle.std.proofs.Math.Seq.{take-append-add, take-length}
use Rattle.std.proofs.lemmas.List.{append-nil, append_cancel_left, map-append}
use Rattle.sw_cleanup.specs.Cleaning.{AreListedIn}
use Rattle.sw_diskfile.specs.declared.file_name.FileName.{FileName}
use Rattle.sw_hashdir.specs.Places.{dir_text}
use Rattle.sw_hashdir.specs.Steps.{IsOurs}
use Rattle.sw_hashpath.specs.declared.name.Name.{Name}
use Rattle.sw_hashpath.specs.declared.secrets.Secrets.{Secrets}
use Rattle.sw_journal.specs.Entries.{first_in}
use Rattle.sw_journal.specs.Settling.{SettlesFirst}
use Rattle.sw_objdir.proofs.Deciding.{listed-in}
use Rattle.sw_objdir.proofs.Doubts.{MayCome, briefs-told, write-came}
use Rattle.sw_objdir.proofs.Looking.{looks-refl, still-values, told-same}
use Rattle.sw_objdir.proofs.RecordFiles.{still-set}
use Rattle.sw_objdir.proofs.RecordTelling.{Tells, looks-more}
use Rattle.sw_objdir.specs.Calling.{entry_of}
use Rattle.sw_objdir.specs.Directories.{IsDir, Kept}
use Rattle.sw_objdir.specs.Recording.{Enters, answer_of}
use Rattle.sw_objdir.specs.Stepping.{IsSeenAs, LooksAt, TellsOthers, told_of}
use Rattle.sw_objdir.specs.Writing.{AreReady, ArePut, Behind, Called, EndsReady, HasFiled, MakesWrite, PutsFile, PutsOne, PutsRecord, PutsWrite, Readied}
use Rattle.sw_objdir.specs.Writing.{Readies, ReadyEnds, WriteEnds, answer_in, filing_of}
use Rattle.sw_object_steps.proofs.Answering.{allowed-new, outline-new}
use Rattle.sw_object_steps.proofs.Hashes.{bodies-append}
use Rattle.sw_object_steps.specs.Briefs.{brief_of}
use Rattle.sw_object_steps.specs.Journals.{Hash, Journal, bodies, body_size, has_room}
use Rattle.sw_object_steps.specs.Outlines.{has_object, outline_of}
use Rattle.sw_object_steps.specs.Recorded.{filed_entries, is_write, records_for}
use Rattle.sw_object_steps.specs.Steps.{deletion_answer, is_entered, made_answer, own_by, latest_time, refusal_of, write_of}
use Rattle.sw_object_steps.specs.Values.{ObjValue}
use Rattle.sw_object_steps.specs.declared.answer.Answer.{Answer}
use Rattle.sw_object_steps.specs.declared.answer.Answer.TheVariants as answers
use Rattle.sw_object_steps.specs.declared.change.Change.{Change}
use Rattle.sw_object_steps.specs.declared.change.Change.TheVariants.{Put, Post, Delete, Receive, MarkRecord, DropRecord}
use Rattle.sw_object_steps.specs.declared.entry.Brief.{Brief}
use Rattle.sw_object_steps.specs.declared.entry.ObjEntry.{ObjEntry}
use Rattle.sw_object_steps.specs.declared.entry.ObjEntry.TheVariants.{Files, Wrote}
use Rattle.sw_object_steps.specs.declared.outline.Outline.{Outline}
use Rattle.sw_pending.specs.Outcomes.{IsName}
use Rattle.sw_pending.specs.Records.{key_of, new_record}
use Rattle.sw_pending.specs.declared.filed.Filed.{Filed}
use Rattle.sw_pending_dir.specs.declared.fault.ReadFault.{ReadFault}
use Rattle.sw_pending_dir.specs.declared.fault.ReadFault.TheVariants as reads
use Rattle.sw_state.specs.Writes.{tag_of}
use Rattle.sw_state.specs.declared.state.State.{State}
use Rattle.sw_state.specs.declared.write.Write.{Write}
use Rattle.sw_volume.specs.Tree.{Folders, contents}
use Rattle.sw_volume.specs.declared.errors.VolumeError.{VolumeError}
use Rattle.sw_volume.specs.declared.errors.VolumeError.TheVariants as volumes

-- ---- answers

pub made-entered : (o : Outline) (change : Change) (front : ℕ) → is_entered (made_answer o change front) ≡ true
made-entered o (Put time content none_match) front = refl
made-entered o (Post time heads) front = refl
made-entered o (Receive write) front = refl
made-entered o (MarkRecord filed device) front = refl
made-entered o (DropRecord filed all) front = refl
made-entered o (Delete time if_delete_at) front = by (has_object o)
  where
    by : (b : Bool) → is_entered (deletion_answer b front) ≡ true
    by true = refl
    by false = refl

pub fails-unentered : (error : VolumeError) → is_entered (answer_in error) ≡ false
fails-unentered volumes.Failed = refl
fails-unentered volumes.NoMemory = refl

pub fault-unentered : (fault : ReadFault) → is_entered (answer_of fault) ≡ false
fault-unentered (reads.Damaged bad) = refl
fault-unentered reads.Failed = refl
fault-unentered reads.NoMemory = refl

abbrev count_if : Bool → ℕ
count_if b = if b then 1 else 0

own-one : (answer : Answer) → is_entered answer ≡ true → own_by answer ≡ 1
own-one answer is = ap count_if is

own-none : (answer : Answer) → is_entered answer ≡ false → own_by answer ≡ 0
own-none answer is = ap count_if is

-- ---- what a trail is told

abbrev nothing : List ObjEntry
nothing = []

take-none : (n : ℕ) → take n nothing ≡ nothing
take-none zero = refl
take-none (suc n) = refl

pub others-of : (answer : Answer) (old new : List ObjEntry) (before after : List Brief) (more : List ObjEntry) → new ≡ old ++ more
    → after ≡ before ++ map brief_of (take (length more - own_by answer) more) → TellsOthers answer old new before after
others-of answer old new before after more grown told added e =
    let same : added ≡ more = append_cancel_left old added more (sym e ∙ grown) in
    told ∙ ap (λ (l : List ObjEntry). before ++ map brief_of (take (length l - own_by answer) l)) (sym same)

-- nothing was added
pub others-none : (answer : Answer) (old new : List ObjEntry) (before after : List Brief) → new ≡ old → after ≡ before
    → TellsOthers answer old new before after
others-none answer old new before after same kept =
    others-of answer old new before after [] (same ∙ sym (append-nil old))
    (kept ∙ (sym (append-nil before) ∙ ap (λ (l : List ObjEntry). before ++ map brief_of l) (sym (take-none (0 - own_by answer)))))

-- its own entry alone
pub others-own : (answer : Answer) → is_entered answer ≡ true → (old new : List ObjEntry) (before after : List Brief) (entry : ObjEntry)
    → new ≡ old ++ entry ∷ [] → after ≡ before → TellsOthers answer old new before after
others-own answer is old new before after entry grown kept =
    let one : own_by answer ≡ 1 = own-one answer is in
    let none : length (entry ∷ []) - own_by answer ≡ 0 = omega (arith, one) in
    others-of answer old new before after (entry ∷ []) grown
    (kept ∙ (sym (append-nil before) ∙ ap (λ (n : ℕ). before ++ map brief_of (take n (entry ∷ []))) (sym none)))

-- entries of others alone
pub others-all : (answer : Answer) → is_entered answer ≡ false → (old new : List ObjEntry) (before after : List Brief) → Tells old new before after
    → TellsOthers answer old new before after
others-all answer is old new before after tells =
    let m = tells.grows.0 in
    let none : own_by answer ≡ 0 = own-none answer is in
    let all : length m - own_by answer ≡ length m = omega (arith, none) in
    others-of answer old new before after m tells.grows.1
    (tells.briefs m tells.grows.1
    ∙ ap (λ (l : List ObjEntry). before ++ map brief_of l) (sym (ap (λ (n : ℕ). take n m) all ∙ take-length m)))

-- the entries that were added, with its own among them
abbrev pub GrownBy : Answer → List ObjEntry → List ObjEntry → Type 0
GrownBy answer old new = (more : List ObjEntry) × (own_by answer ≤ length more) × (new ≡ old ++ more)

pub grown-then : (answer : Answer) (a b c : List ObjEntry) → (more : List ObjEntry) × (b ≡ a ++ more) → GrownBy answer b c → GrownBy answer a c
grown-then answer a b c first next = (
  first.0 ++ next.0,
  (let le = next.1 in let sum = length-append first.0 next.0 in omega (arith, le, sum)),
  next.2 ∙ (ap (λ (l : List ObjEntry). l ++ next.0) first.1 ∙ append_assoc a first.0 next.0),
)

pub others-then : (answer : Answer) (a b c : List ObjEntry) (x y z : List Brief) → Tells a b x y → GrownBy answer b c → TellsOthers answer b c y z
    → TellsOthers answer a c x z
others-then answer a b c x y z first grown next =
    let m = first.grows.0 in let n = grown.0 in
    let le : own_by answer ≤ length n = grown.1 in
    let counts : length (m ++ n) - own_by answer ≡ length m + (length n - own_by answer) =
    (let sum = length-append m n in omega (arith, le, sum)) in
    let rest = take (length n - own_by answer) n in
    others-of answer a c x z (m ++ n) (grown.2 ∙ (ap (λ (l : List ObjEntry). l ++ n) first.grows.1 ∙ append_assoc a m n))
    (next n grown.2
    ∙ (ap (λ (l : List Brief). l ++ map brief_of rest) (first.briefs m first.grows.1)
    ∙ (append_assoc x (map brief_of m) (map brief_of rest)
    ∙ ap (λ (l : List Brief). x ++ l) (sym (map-append brief_of m rest)
    ∙ ap (map brief_of) (sym (ap (λ (i : ℕ). take i (m ++ n)) counts ∙ take-append-add m n (length n - own_by answer)))))))

-- the doubt of its name, which was settled by the listing or wasn't
settled-came : (hash : Hash) (j after : Journal) → (after ≡ j) ⊎ ((o : Outline) × SettlesFirst hash o j after)
    → MayCome (first_in hash j.doubts) j.entries after.entries
settled-came hash j after (inl same) = inl (ap (λ (x : Journal). x.entries) same)
settled-came hash j after (inr one) = write-came hash one.0 j after one.1

pub doubt-tells : (hash : Hash) (j new : Journal) → (new ≡ j) ⊎ ((o : Outline) × SettlesFirst hash o j new) → (before after : List Brief)
    (brief : Option Brief) (came : Bool) → brief ≡ option_map brief_of (first_in hash j.doubts) → came ≡ nat_lt (length j.entries) (length new.entries)
    → after ≡ before ++ told_of brief came → Tells j.entries new.entries before after
doubt-tells hash j new settles before after brief came is more told = record {
  grows = grows (settled-came hash j new settles);
  briefs = briefs-told (first_in hash j.doubts) j.entries new.entries before after brief came (settled-came hash j new settles) is more told;
}
  where
    grows : MayCome (first_in hash j.doubts) j.entries new.entries → (entries : List ObjEntry) × (new.entries ≡ j.entries ++ entries)
    grows (inl same) = ([], same ∙ sym (append-nil j.entries))
    grows (inr one) = (one.0 ∷ [], one.2)

-- ---- the record

-- it is one of the write's name
pub record-name : (name : Name) (change : Change) (filed : Filed) → records_for name change ≡ filed ∷ [] → filed.name ≡ name
record-name name (Put time content none_match) filed own = let is : new_record name time ≡ filed = cc in sym (ap (λ (f : Filed). f.name) is)
record-name name (Delete time if_delete_at) filed own = let is : new_record name time ≡ filed = cc in sym (ap (λ (f : Filed). f.name) is)
record-name name (Post time heads) filed own = cc
record-name name (Receive write) filed own = cc
record-name name (MarkRecord other device) filed own = cc
record-name name (DropRecord other all) filed own = cc

pub puts-own : (secrets : Secrets) (power : ℕ) (name : Name) → IsOurs secrets power name → (filed : Filed) → filed.name ≡ name
    → PutsOne secrets (filing_of filed) filed
puts-own secrets power name ours filed is = record {
  leaves = refl;
  plain = refl;
  name = subst (λ (n : Name). IsName secrets n) (sym is) (record { good = ours.good; hashed = sym ours.hashed });
}

-- ---- what stood

-- a change that isn't refused wouldn't be as one that another device has
pub taken-over : (s : State) (change : Change) → is_write change ≡ true → refusal_of s change ≡ None → refusal_of s (Receive (write_of change)) ≡ None
taken-over s change writes is =
    ap (λ (b : Bool). if b then None else Some (answers.Conflict (latest_time (outline_of s) (tag_of (write_of change).kind))))
    (outline-new s (write_of change).time (tag_of (write_of change).kind) ∙ allowed-new s change writes is)

-- ---- room

pub room-bytes : (j : Journal) (name : Name) (change : Change) → has_room j (entry_of name change) ≡ true
    → bodies j.entries + bodies j.doubts + body_size (write_of change).kind ≤ j.max_bytes
room-bytes j name change room =
    leb-true (bodies j.entries + bodies j.doubts + body_size (write_of change).kind) j.max_bytes
    (and_parts (nat_le (length j.entries + length j.doubts + 1) j.max_entries)
    (nat_le (bodies j.entries + bodies j.doubts + body_size (write_of change).kind) j.max_bytes) room).1

module _ {V : Type 0} (tells : V → Bool) (files : V → Folders) (faults calls lists : V → ℕ) where
  -- where files were looked at
  pub seen-still : {at : Hash → Bool} (k m : Kept V) → IsDir tells files faults m → LooksAt tells files faults at k m → (hash : Hash) (o : Outline)
      (change : Change) (refused : Option Answer) → IsSeenAs tells files faults k hash o change refused → IsSeenAs tells files faults m hash o change refused
  seen-still k m dir looks hash o change refused seen = record {
    state = seen.state;
    held_is = λ told. seen.held_is (sym (told-same tells files faults k m looks.same) ∙ told)
        ∙ sym (ap (λ (v : ObjValue). v.state) (still-values tells files faults _ k m looks dir hash));
    outline_is = seen.outline_is;
    refuses = seen.refuses;
  }

  pub seen-received : (k : Kept V) (hash : Hash) (o : Outline) (change : Change) → is_write change ≡ true → IsSeenAs tells files faults k hash o change None
      → IsSeenAs tells files faults k hash o (Receive (write_of change)) None
  seen-received k hash o change writes seen = record {
    state = seen.state;
    held_is = seen.held_is;
    outline_is = seen.outline_is;
    refuses = taken-over seen.state change writes seen.refuses;
  }

  -- where the record was put
  module _ (k m : Kept V) (filed : Filed) (enters : Enters tells files faults calls lists k (key_of filed) (filing_of filed) m) where
    pub seen-filed : (o : Outline) (change : Change) (refused : Option Answer) → IsSeenAs tells files faults k filed.name.hash o change refused
        → IsSeenAs tells files faults m filed.name.hash o change refused
    seen-filed o change refused seen = record {
      state = seen.state;
      held_is = λ told. (let old = sym (told-same tells files faults k m enters.same) ∙ told in
          seen.held_is old ∙ sym (ap (λ (v : ObjValue). v.state) (enters.here old)));
      outline_is = seen.outline_is;
      refuses = seen.refuses;
    }

    pub names-filed : (hash : Hash) (names : List FileName)
        → (tells k.volume ≡ true → AreListedIn (contents (files k.volume)) (dir_text k.power hash) names)
        → tells m.volume ≡ true → AreListedIn (contents (files m.volume)) (dir_text m.power hash) names
    names-filed hash names are told =
        let old : tells k.volume ≡ true = sym enters.same.told ∙ told in
        let still = still-set (contents (files k.volume)) (contents (files m.volume)) (key_of filed) _ (enters.sets old) in
        subst (λ (p : ℕ). AreListedIn (contents (files m.volume)) (dir_text p hash) names) (sym enters.same.power)
        (listed-in (contents (files k.volume)) (contents (files m.volume)) (dir_text k.power hash) names
        (λ f. still (drop 7 (dir_text k.power hash)) f) (are old))

    bodies-filed : bodies m.journal.entries + bodies m.journal.doubts ≡ bodies k.journal.entries + bodies k.journal.doubts
    bodies-filed =
        let e : bodies m.journal.entries ≡ bodies k.journal.entries + bodies (filing_of filed ∷ []) =
        ap (λ (j : Journal). bodies j.entries) enters.entered ∙ bodies-append k.journal.entries (filing_of filed ∷ []) in
        let zero : bodies (filing_of filed ∷ []) ≡ 0 = refl in
        let d : bodies m.journal.doubts ≡ bodies k.journal.doubts = ap (λ (j : Journal). bodies j.doubts) enters.entered in
        omega (arith, e, zero, d)

    pub room-filed : (name : Name) (change : Change) → has_room k.journal (entry_of name change) ≡ true
        → bodies m.journal.entries + bodies m.journal.doubts + body_size (write_of change).kind ≤ m.journal.max_bytes
    room-filed name change room =
        let most : m.journal.max_bytes ≡ k.journal.max_bytes = ap (λ (j : Journal). j.max_bytes) enters.entered in
        let bytes = room-bytes k.journal name change room in
        rw (bodies-filed, most) bytes

    entries-filed : (name : Name) → filed.name ≡ name → m.journal.entries ≡ k.journal.entries ++ filed_entries name.hash (filed ∷ [])
    entries-filed name is = ap (λ (j : Journal). j.entries) enters.entered
        ∙ ap (λ (n : Name). k.journal.entries ++ Files n.hash filed ∷ []) is

    pub grown-filed : (name : Name) (change : Change) → records_for name change ≡ filed ∷ []
        → m.journal.entries ≡ k.journal.entries ++ filed_entries name.hash (records_for name change)
    grown-filed name change own = entries-filed name (record-name name change filed own)
        ∙ ap (λ (l : List Filed). k.journal.entries ++ filed_entries name.hash l) (sym own)

    pub has-filed : (name : Name) (change : Change) → records_for name change ≡ filed ∷ [] → has_room k.journal (entry_of name change) ≡ true
        → HasFiled tells files faults calls lists k name change m
    has-filed name change own room = record {
      room = room;
      are_put = subst (λ (l : List Filed). ArePut tells files faults calls lists l k m) (sym own) (m, enters, refl);
    }

  -- where there is none
  pub has-none : (k : Kept V) (name : Name) (change : Change) → records_for name change ≡ [] → has_room k.journal (entry_of name change) ≡ true
      → HasFiled tells files faults calls lists k name change k
  has-none k name change none room = record {
    room = room;
    are_put = subst (λ (l : List Filed). ArePut tells files faults calls lists l k k) (sym none) refl;
  }

  pub grown-none : (k : Kept V) (name : Name) (records : List Filed) → records ≡ []
      → k.journal.entries ≡ k.journal.entries ++ filed_entries name.hash records
  grown-none k name records none = sym (append-nil k.journal.entries)
      ∙ ap (λ (l : List Filed). k.journal.entries ++ filed_entries name.hash l) (sym none)

  -- what was put is the write, and its records
  pub puts-as : (m n : Kept V) (name : Name) (names : List FileName) (r : Result (Unit {0}) VolumeError) (w x : Write) (a b : List Filed) → w ≡ x → a ≡ b
      → PutsWrite tells files faults calls lists m name w a names r n → PutsWrite tells files faults calls lists m name x b names r n
  puts-as m n name names r w x a b same also puts =
      subst (λ (l : List Filed). PutsWrite tells files faults calls lists m name x l names r n) also
      (subst (λ (y : Write). PutsWrite tells files faults calls lists m name y a names r n) same puts)

  -- ---- no entry was added

  pub unput-same : (k n : Kept V) (entry : ObjEntry) (filed : Filed) (error : VolumeError)
      → PutsRecord tells files faults calls lists k entry filed (Err error) n → n.journal.entries ≡ k.journal.entries
  unput-same k n entry filed volumes.Failed puts = ap (λ (j : Journal). j.entries) puts.in_doubt
  unput-same k n entry filed volumes.NoMemory puts = ap (λ (j : Journal). j.entries) puts.kept

  pub unmade-same : (m n : Kept V) (name : Name) (w : Write) (records : List Filed) (names : List FileName) (error : VolumeError)
      → PutsWrite tells files faults calls lists m name w records names (Err error) n → n.journal.entries ≡ m.journal.entries
  unmade-same m n name w records names volumes.Failed puts = ap (λ (j : Journal). j.entries) puts.in_doubt
  unmade-same m n name w records names volumes.NoMemory puts = ap (λ (j : Journal). j.entries) puts.kept

  pub unready-same : (k n : Kept V) (filed : Filed) (fault : ReadFault) → Readied tells files faults calls lists k filed (Err fault) n
      → (more : List ObjEntry) × (n.journal.entries ≡ k.journal.entries ++ more)
  unready-same k n filed fault unread = ([], by fault unread ∙ sym (append-nil k.journal.entries))
    where
      by : (f : ReadFault) → Readied tells files faults calls lists k filed (Err f) n → n.journal.entries ≡ k.journal.entries
      by (reads.Damaged bad) so = ap (λ (j : Journal). j.entries) so.0.kept
      by reads.Failed so = ap (λ (j : Journal). j.entries) so.0.kept
      by reads.NoMemory so = ap (λ (j : Journal). j.entries) so.0.kept

  -- ---- how it ends

  module _ (k : Kept V) (name : Name) (change : Change) where
    abbrev W : Write
    W = write_of change

    abbrev R : List Filed
    R = records_for name change

    module _ (names : List FileName) (o : Outline) where
      abbrev Ready : Answer → Kept V → Type 0
      Ready answer n = ReadyEnds tells files faults calls lists k name change names o answer n

      entered-ends : (answer : Answer) (n : Kept V) → is_entered answer ≡ true → MakesWrite tells files faults calls lists k name change names o answer n
          → Ready answer n
      entered-ends (answers.Done front) n is makes = makes
      entered-ends (answers.Buried front) n is makes = makes
      entered-ends (answers.Took is_there) n is makes = cc
      entered-ends (answers.Conflict time) n is makes = cc
      entered-ends (answers.NotFound time) n is makes = cc
      entered-ends (answers.Mismatch second) n is makes = cc
      entered-ends answers.Exists n is makes = cc
      entered-ends answers.JournalFull n is makes = cc
      entered-ends (answers.Damaged bad) n is makes = cc
      entered-ends answers.Failed n is makes = cc
      entered-ends answers.NoMemory n is makes = cc

      module _ (m : Kept V) (filed : HasFiled tells files faults calls lists k name change m)
          (grown : m.journal.entries ≡ k.journal.entries ++ filed_entries name.hash R) where
        pub made-entries : (n : Kept V) → PutsFile tells files faults calls lists m name W R names n
            → n.journal.entries ≡ k.journal.entries ++ Wrote name W R ∷ []
        made-entries n puts = ap (λ (j : Journal). j.entries) (puts.entered k.journal.entries grown)

        pub made-ends : (n : Kept V) → PutsFile tells files faults calls lists m name W R names n → (answer : Answer) (front : ℕ)
            → answer ≡ made_answer o change front → front ≡ length k.journal.entries + 1 → Ready answer n
        made-ends n puts answer front is fronts =
            entered-ends answer n (ap is_entered is ∙ made-entered o change front) (record {
              filed = m;
              has_filed = filed;
              puts = puts;
              answered = is ∙ ap (made_answer o change)
                  (fronts ∙ sym (ap length (made-entries n puts) ∙ length-append k.journal.entries (Wrote name W R ∷ [])));
            })

        pub unmade-ends : (error : VolumeError) (n : Kept V) → PutsWrite tells files faults calls lists m name W R names (Err error) n
            → Ready (answer_in error) n
        unmade-ends volumes.Failed n puts = inr (record { filed = m; has_filed = filed; puts = puts })
        unmade-ends volumes.NoMemory n puts = inr (record { filed = m; has_filed = filed; puts = puts })

      -- its record wasn't put
      pub unfiled-ends : has_room k.journal (entry_of name change) ≡ true → (filed : Filed) → R ≡ filed ∷ [] → (error : VolumeError) (n : Kept V)
          → PutsRecord tells files faults calls lists k (filing_of filed) filed (Err error) n → Ready (answer_in error) n
      unfiled-ends room filed own volumes.Failed n puts = inl (record { room = room; filed = filed; own = own; puts = puts })
      unfiled-ends room filed own volumes.NoMemory n puts = inl (record { room = room; filed = filed; own = own; puts = puts })

      -- memory was wanting before that
      pub wanted-ends : IsDir tells files faults k → has_room k.journal (entry_of name change) ≡ true → (filed : Filed) → R ≡ filed ∷ []
          → Ready answers.NoMemory k
      wanted-ends dir room filed own = inl (record {
        room = room;
        filed = filed;
        own = own;
        puts = record {
          dir = dir;
          looks = looks-refl tells files faults k;
          puts = 0;
          within = omega arith;
          counts = record { called = refl; listed = refl; failed = refl };
          kept = refl;
        };
      })

      abbrev All : Answer → Kept V → Type 0
      All answer n = WriteEnds tells files faults calls lists k name change names o answer n

      -- no doubt of its records was left
      ends-by : (answer : Answer) (n : Kept V) → EndsReady tells files faults calls lists k name change names o answer n → All answer n
      ends-by (answers.Done front) n ends = ends
      ends-by (answers.Buried front) n ends = ends
      ends-by (answers.Took is_there) n ends = ends
      ends-by (answers.Conflict time) n ends = ends
      ends-by (answers.NotFound time) n ends = ends
      ends-by (answers.Mismatch second) n ends = ends
      ends-by answers.Exists n ends = ends
      ends-by answers.JournalFull n ends = ends
      ends-by (answers.Damaged bad) n ends = absurd ends.ends
      ends-by answers.Failed n ends = inr ends
      ends-by answers.NoMemory n ends = inr ends

      pub ends-alone : R ≡ [] → (answer : Answer) (n : Kept V) → Ready answer n → All answer n
      ends-alone none answer n ends = ends-by answer n (record {
        ready = k;
        are_ready = subst (λ (l : List Filed). AreReady tells files faults calls lists l k k) (sym none) refl;
        ends = ends;
      })

      pub ends-settled : (filed : Filed) → R ≡ filed ∷ [] → (m : Kept V) → Readies tells files faults calls lists k filed m → (answer : Answer) (n : Kept V)
          → ReadyEnds tells files faults calls lists m name change names o answer n → All answer n
      ends-settled filed own m readies answer n ends = ends-by answer n (record {
        ready = m;
        are_ready = subst (λ (l : List Filed). AreReady tells files faults calls lists l k m) (sym own) (m, readies, refl);
        ends = ends;
      })

      -- the file of its record couldn't be read
      pub ends-unready : (filed : Filed) → R ≡ filed ∷ [] → (fault : ReadFault) (n : Kept V) → Readied tells files faults calls lists k filed (Err fault) n
          → All (answer_of fault) n
      ends-unready filed own (reads.Damaged bad) n unread = record { filed = filed; own = own; readied = unread }
      ends-unready filed own reads.Failed n unread = inl (record { filed = filed; own = own; readied = unread })
      ends-unready filed own reads.NoMemory n unread = inl (inr (record { filed = filed; own = own; readied = unread }))

      -- ---- the entries that it adds

      none-grown : (answer : Answer) (n : Kept V) → is_entered answer ≡ false → n.journal.entries ≡ k.journal.entries
          → GrownBy answer k.journal.entries n.journal.entries
      none-grown answer n is same = ([], (let none = own-none answer is in omega (arith, none)), same ∙ sym (append-nil k.journal.entries))

      put-grown : (m : Kept V) → HasFiled tells files faults calls lists k name change m
          → m.journal.entries ≡ k.journal.entries ++ filed_entries name.hash R
      put-grown m has = by change has.are_put
        where
          none : m ≡ k → m.journal.entries ≡ k.journal.entries ++ []
          none same = ap (λ (x : Kept V). x.journal.entries) same ∙ sym (append-nil k.journal.entries)

          by : (c : Change) → ArePut tells files faults calls lists (records_for name c) k m
              → m.journal.entries ≡ k.journal.entries ++ filed_entries name.hash (records_for name c)
          by (Put time content none_match) put = ap (λ (x : Kept V). x.journal.entries) put.2 ∙ ap (λ (j : Journal). j.entries) put.1.entered
          by (Delete time if_delete_at) put = ap (λ (x : Kept V). x.journal.entries) put.2 ∙ ap (λ (j : Journal). j.entries) put.1.entered
          by (Post time heads) put = none put
          by (Receive write) put = none put
          by (MarkRecord filed device) put = none put
          by (DropRecord filed all) put = none put

      makes-grown : (answer : Answer) (n : Kept V) → is_entered answer ≡ true → MakesWrite tells files faults calls lists k name change names o answer n
          → GrownBy answer k.journal.entries n.journal.entries
      makes-grown answer n is makes = (
        Wrote name W R ∷ [],
        (let one = own-one answer is in omega (arith, one)),
        made-entries makes.filed makes.has_filed (put-grown makes.filed makes.has_filed) n makes.puts,
      )

      filed-grown : (answer : Answer) (m n : Kept V) → is_entered answer ≡ false → HasFiled tells files faults calls lists k name change m
          → n.journal.entries ≡ m.journal.entries → GrownBy answer k.journal.entries n.journal.entries
      filed-grown answer m n is has same = (
        filed_entries name.hash R,
        (let none = own-none answer is in omega (arith, none)),
        same ∙ put-grown m has,
      )

      pub ready-grown : (answer : Answer) (n : Kept V) → Ready answer n → GrownBy answer k.journal.entries n.journal.entries
      ready-grown (answers.Done front) n ends = makes-grown (answers.Done front) n refl ends
      ready-grown (answers.Buried front) n ends = makes-grown (answers.Buried front) n refl ends
      ready-grown answers.JournalFull n ends = none-grown answers.JournalFull n refl (ap (λ (x : Kept V). x.journal.entries) ends.same)
      ready-grown answers.Failed n (inl unfiled) = none-grown answers.Failed n refl (ap (λ (j : Journal). j.entries) unfiled.puts.in_doubt)
      ready-grown answers.Failed n (inr unmade) =
          filed-grown answers.Failed unmade.filed n refl unmade.has_filed (ap (λ (j : Journal). j.entries) unmade.puts.in_doubt)
      ready-grown answers.NoMemory n (inl unfiled) = none-grown answers.NoMemory n refl (ap (λ (j : Journal). j.entries) unfiled.puts.kept)
      ready-grown answers.NoMemory n (inr unmade) =
          filed-grown answers.NoMemory unmade.filed n refl unmade.has_filed (ap (λ (j : Journal). j.entries) unmade.puts.kept)
      ready-grown (answers.Took is_there) n ends = absurd ends
      ready-grown (answers.Conflict time) n ends = absurd ends
      ready-grown (answers.NotFound time) n ends = absurd ends
      ready-grown (answers.Mismatch second) n ends = absurd ends
      ready-grown answers.Exists n ends = absurd ends
      ready-grown (answers.Damaged bad) n ends = absurd ends

  are-ready-grow : (records : List Filed) (k n : Kept V) → AreReady tells files faults calls lists records k n
      → (more : List ObjEntry) × (n.journal.entries ≡ k.journal.entries ++ more)
  are-ready-grow [] k n same = ([], ap (λ (x : Kept V). x.journal.entries) same ∙ sym (append-nil k.journal.entries))
  are-ready-grow (filed ∷ records) k n ready =
      let first = looks-more tells files faults calls lists k ready.0 ready.1.looks in
      let next = are-ready-grow records ready.0 n ready.2 in (
        first.0 ++ next.0,
        next.1 ∙ (ap (λ (l : List ObjEntry). l ++ next.0) first.1 ∙ append_assoc k.journal.entries first.0 next.0),
      )

  module _ (k : Kept V) (name : Name) (change : Change) (names : List FileName) (o : Outline) where
    abbrev Added : Answer → Kept V → Type 0
    Added answer n = GrownBy answer k.journal.entries n.journal.entries

    after-grown : (answer : Answer) (n : Kept V) → EndsReady tells files faults calls lists k name change names o answer n → Added answer n
    after-grown answer n ends =
        grown-then answer k.journal.entries ends.ready.journal.entries n.journal.entries
        (are-ready-grow (records_for name change) k ends.ready ends.are_ready)
        (ready-grown ends.ready name change names o answer n ends.ends)

    kept-grown : (answer : Answer) (n : Kept V) → is_entered answer ≡ false → n.journal ≡ k.journal → Added answer n
    kept-grown answer n is same = none-grown k name change names o answer n is (ap (λ (j : Journal). j.entries) same)

    pub write-grown : (answer : Answer) (n : Kept V) → WriteEnds tells files faults calls lists k name change names o answer n → Added answer n
    write-grown (answers.Done front) n ends = after-grown (answers.Done front) n ends
    write-grown (answers.Buried front) n ends = after-grown (answers.Buried front) n ends
    write-grown answers.JournalFull n ends = after-grown answers.JournalFull n ends
    write-grown (answers.Damaged bad) n ends = kept-grown (answers.Damaged bad) n refl ends.readied.0.kept
    write-grown answers.Failed n (inl unready) = kept-grown answers.Failed n refl unready.readied.0.kept
    write-grown answers.Failed n (inr ends) = after-grown answers.Failed n ends
    write-grown answers.NoMemory n (inl (inl wants)) = kept-grown answers.NoMemory n refl (ap (λ (x : Kept V). x.journal) wants.same)
    write-grown answers.NoMemory n (inl (inr unready)) = kept-grown answers.NoMemory n refl unready.readied.0.kept
    write-grown answers.NoMemory n (inr ends) = after-grown answers.NoMemory n ends
    write-grown (answers.Took is_there) n ends = absurd ends.ends
    write-grown (answers.Conflict time) n ends = absurd ends.ends
    write-grown (answers.NotFound time) n ends = absurd ends.ends
    write-grown (answers.Mismatch second) n ends = absurd ends.ends
    write-grown answers.Exists n ends = absurd ends.ends

  -- ---- all of it

  pub called-behind : (k : Kept V) (name : Name) (change : Change) (answer : Answer) (n : Kept V)
      → Behind tells files faults calls lists k name change answer n → Called tells files faults calls lists k name change answer n
  called-behind k name change (answers.Done front) n behind = behind
  called-behind k name change (answers.Buried front) n behind = behind
  called-behind k name change answers.JournalFull n behind = behind
  called-behind k name change (answers.Damaged bad) n behind = inr behind
  called-behind k name change answers.Failed n behind = inr behind
  called-behind k name change answers.NoMemory n behind = inr behind
  called-behind k name change (answers.Took is_there) n behind = absurd behind.ends.ends
  called-behind k name change (answers.Conflict time) n behind = absurd behind.ends.ends
  called-behind k name change (answers.NotFound time) n behind = absurd behind.ends.ends
  called-behind k name change (answers.Mismatch second) n behind = absurd behind.ends.ends
  called-behind k name change answers.Exists n behind = absurd behind.ends.ends
