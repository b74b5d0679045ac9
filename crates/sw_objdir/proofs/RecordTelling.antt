-- What a trail is told of the entries that a step at a record makes: those of the doubts that it settles, and its own.
use Rattle.std.proofs.Common.{◌≡◌, ◌≢◌, ℕ, Bool, true, false, List, [], ◌∷◌, ◌++◌, find, Option, Some, None, IsSome}
use Rattle.std.proofs.Common.{Result, Ok, Err, refl, sym, ◌∙◌, ap, subst, inl, inr, append_assoc}
use Rattle.std.specs.List.{filter}
use Rattle.std.specs.Str.{bytes_eq}
use Rattle.std.proofs.lemmas.Bool.{cases_Bool}
use Rattle.std.proofs.lemmas.List.{append-nil}
use Rattle.sw_hashpath.specs.declared.name.Name.{Name}
use Rattle.sw_journal.specs.Entries.{about_record, first_about, first_in, is_record_of}
use Rattle.sw_journal.specs.Settling.{SettlesFirstRecord}
use Rattle.sw_objdir.proofs.Doubts.{MayCome, briefs-both, write-came}
use Rattle.sw_objdir.proofs.Looking.{looks-grows}
use Rattle.sw_objdir.specs.Directories.{Kept}
use Rattle.sw_objdir.specs.Recording.{Decides, Ends, Finds, Reads, ReadsAs, TellsGone}
use Rattle.sw_objdir.specs.Stepping.{AddsBriefs, LooksAt}
use Rattle.sw_object_steps.specs.Journals.{Hash, Journal}
use Rattle.sw_object_steps.specs.declared.answer.Answer.{Answer}
use Rattle.sw_object_steps.specs.declared.answer.Answer.TheVariants as answers
use Rattle.sw_object_steps.specs.declared.change.Change.TheVariants.{MarkRecord}
use Rattle.sw_object_steps.specs.declared.entry.Brief.{Brief}
use Rattle.sw_object_steps.specs.declared.entry.ObjEntry.{ObjEntry}
use Rattle.sw_pending.specs.Records.{key_of}
use Rattle.sw_pending.specs.declared.filed.Filed.{Filed}
use Rattle.sw_pending.specs.declared.key.RecordKey.{RecordKey}
use Rattle.sw_pending_dir.specs.declared.fault.ReadFault.{ReadFault}
use Rattle.sw_pending_dir.specs.declared.fault.ReadFault.TheVariants as faulted
use Rattle.sw_volume.specs.Tree.{Folders}
use Rattle.sw_volume.specs.declared.errors.VolumeError.{VolumeError}
use Rattle.sw_volume.specs.declared.errors.VolumeError.TheVariants as volumes

-- ---- the first of those that meet a test

-- it stands behind such that don't
first-behind : {X : Type 0} (test : X → Bool) (xs ys : List X) (x : X) → filter test xs ≡ [] → test x ≡ true → find test (xs ++ x ∷ ys) ≡ Some x
first-behind test [] ys x none is = rw is refl
first-behind test (y ∷ xs) ys x none is = elim (cases_Bool (test y)) [
  | inl meets ↦ let no : y ∷ filter test xs ≡ [] = rw meets at none in cc
  | inr isnt ↦ rw isnt (first-behind test xs ys x (rw isnt at none) is)
]

first-none : {X : Type 0} (test : X → Bool) (xs : List X) → filter test xs ≡ [] → find test xs ≡ None
first-none test [] none = refl
first-none test (y ∷ xs) none = elim (cases_Bool (test y)) [
  | inl meets ↦ let no : y ∷ filter test xs ≡ [] = rw meets at none in cc
  | inr isnt ↦ rw isnt (first-none test xs (rw isnt at none))
]

pub first-doubts : (key : RecordKey) (ds : List ObjEntry) → IsSome (first_about key ds) → about_record key ds ≢ []
first-doubts key ds some none =
    let no : false ≡ true = subst (λ (o : Option ObjEntry). IsSome o) (first-none (is_record_of key) ds none) some in cc

-- ---- the entry of a doubt

pub record-came : (key : RecordKey) (stood : Option Filed) (j after : Journal) → SettlesFirstRecord key stood j after
    → MayCome (first_about key j.doubts) j.entries after.entries
record-came key stood j after (inl none) = inl (ap (λ (x : Journal). x.entries) none.1)
record-came key stood j after (inr one) = elim one.settled [
  | inl made ↦ inr (
    one.entry,
    ap (find (is_record_of key)) one.among ∙ first-behind (is_record_of key) one.before one.behind one.entry one.first one.of_key,
    ap (λ (x : Journal). x.entries) made.1,
  )
  | inr not_made ↦ inl (ap (λ (x : Journal). x.entries) not_made.1)
]

-- ---- the parts of a step

module _ {V : Type 0} (tells : V → Bool) (files : V → Folders) (faults calls lists : V → ℕ) (k : Kept V) where
  abbrev pub Grown : Kept V → Type 0
  Grown n = (more : List ObjEntry) × (n.journal.entries ≡ k.journal.entries ++ more)

  kept-grows : (n : Kept V) → n.journal ≡ k.journal → Grown n
  kept-grows n same = ([], ap (λ (j : Journal). j.entries) same ∙ sym (append-nil k.journal.entries))

  pub looks-more : {at : Hash → Bool} (n : Kept V) → LooksAt tells files faults at k n → Grown n
  looks-more n looks = (looks-grows tells files faults _ k n looks).entries

  -- the record was looked for, and was one of the name's hash
  pub finds-came : (name : Name) (filed : Filed) → bytes_eq filed.name.hash name.hash ≡ true → (r : Result (Option Filed) ReadFault) (n : Kept V)
      → Finds tells files faults calls lists k name filed r n
      → MayCome (first_about (key_of filed) k.journal.doubts) k.journal.entries n.journal.entries
  finds-came name filed own (Ok stood) n finds =
      let read : ReadsAs tells files faults calls lists k filed stood n.journal =
      subst (λ (b : Bool). Reads tells files faults calls lists b k filed stood n.journal) own finds.read in
      record-came (key_of filed) stood k.journal n.journal read.settles
  finds-came name filed own (Err (faulted.Damaged bad)) n finds = inl (ap (λ (j : Journal). j.entries) (finds.2 (MarkRecord filed 0)).kept)
  finds-came name filed own (Err faulted.Failed) n finds = inl (ap (λ (j : Journal). j.entries) (finds.1 (MarkRecord filed 0)).kept)
  finds-came name filed own (Err faulted.NoMemory) n finds = elim (finds.1 (MarkRecord filed 0)) [
    | inl unread ↦ inl (ap (λ (j : Journal). j.entries) unread.kept)
    | inr read ↦ inl (ap (λ (j : Journal). j.entries) read.kept)
  ]

  -- its directory was to be listed
  pub gone-came : (name : Name) (time : ℕ) (r : Result Bool VolumeError) (n : Kept V) → TellsGone tells files faults calls lists k name time r n
      → MayCome (first_in name.hash k.journal.doubts) k.journal.entries n.journal.entries
  gone-came name time (Ok gone) n looks =
      subst (λ (j : Journal). MayCome (first_in name.hash k.journal.doubts) k.journal.entries j.entries) (sym looks.listed.kept)
      (write-came name.hash _ k.journal looks.listed.seen.journal looks.listed.seen.settles)
  gone-came name time (Err volumes.Failed) n looks = inl (ap (λ (j : Journal). j.entries) looks.0.kept)
  gone-came name time (Err volumes.NoMemory) n looks = inl (ap (λ (j : Journal). j.entries) looks.0.kept)

  pub gone-grows : (name : Name) (time : ℕ) (r : Result Bool VolumeError) (n : Kept V) → TellsGone tells files faults calls lists k name time r n → Grown n
  gone-grows name time (Ok gone) n looks = looks-more n looks.looks
  gone-grows name time (Err volumes.Failed) n looks = kept-grows n looks.0.kept
  gone-grows name time (Err volumes.NoMemory) n looks = kept-grows n looks.0.kept

  pub decides-grows : (done : Bool) (name : Name) (time : ℕ) (r : Result Bool VolumeError) (n : Kept V)
      → Decides tells files faults calls lists done k name time r n → Grown n
  decides-grows true name time (Ok goes) n so = kept-grows n (ap (λ (x : Kept V). x.journal) so.same)
  decides-grows true name time (Err error) n so = absurd so
  decides-grows false name time r n so = gone-grows name time r n so

  -- an entry was to be made
  pub ends-grow : (key : RecordKey) (entry : ObjEntry) (answer : Answer) (n : Kept V) → Ends tells files faults calls lists k key entry answer n → Grown n
  ends-grow key entry (answers.Took is) n ends = (entry ∷ [], ap (λ (j : Journal). j.entries) ends.1.so.entered)
  ends-grow key entry answers.JournalFull n ends = kept-grows n (ap (λ (x : Kept V). x.journal) ends.same)
  ends-grow key entry answers.Failed n ends =
      ([], ap (λ (j : Journal). j.entries) ends.so.in_doubt ∙ sym (append-nil k.journal.entries))
  ends-grow key entry answers.NoMemory n ends = kept-grows n ends.kept
  ends-grow key entry (answers.Done front) n ends = absurd ends
  ends-grow key entry (answers.Buried front) n ends = absurd ends
  ends-grow key entry (answers.Conflict time) n ends = absurd ends
  ends-grow key entry (answers.NotFound time) n ends = absurd ends
  ends-grow key entry (answers.Mismatch second) n ends = absurd ends
  ends-grow key entry answers.Exists n ends = absurd ends
  ends-grow key entry (answers.Damaged bad) n ends = absurd ends

-- ---- parts of a step one after the other

-- a part added entries, and told these briefs of them
pub record Tells (old new : List ObjEntry) (before after : List Brief) : Type 0 where
  pub grows : (more : List ObjEntry) × (new ≡ old ++ more)
  pub briefs : AddsBriefs old new before after

pub tells-then : (a b c : List ObjEntry) (x y z : List Brief) → Tells a b x y → Tells b c y z → Tells a c x z
tells-then a b c x y z first next = record {
  grows = (
    first.grows.0 ++ next.grows.0,
    next.grows.1 ∙ (ap (λ (l : List ObjEntry). l ++ next.grows.0) first.grows.1 ∙ append_assoc a first.grows.0 next.grows.0),
  );
  briefs = briefs-both a b c x y z first.grows.0 next.grows.0 first.grows.1 next.grows.1 first.briefs next.briefs;
}
