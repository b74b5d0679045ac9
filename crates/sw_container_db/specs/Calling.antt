-- The calls of the keeper that a step makes, in their order, and how many of them failed: the load that settles the doubt, the load of the
-- container's tables where they aren't loaded already, and the commit; and what stays loaded then. (This project's own.)
use Rattle.std.specs.Prelude.{◌≡◌, ◌≢◌, ⊤, ℕ, zero, suc, ◌≤◌, Bool, true, if◌then◌else◌, List, [], ◌∷◌, ◌++◌, Option, None, IfSome, ◌⊎◌, Result, Ok, Err}
use Rattle.sw_hashpath.specs.declared.place.Place.{Place}
use Rattle.sw_outside.specs.Counts.{raised}
use Rattle.sw_keeper.specs.declared.tables.Tables.{Tables}
use Rattle.sw_container_steps.specs.Entries.{all_entered}
use Rattle.sw_container_steps.specs.Deciding.{TakesMemory}
use Rattle.sw_container_steps.specs.Steps.{entries_for}
use Rattle.sw_container_steps.specs.declared.cont_answer.ContAnswer.{ContAnswer}
use Rattle.sw_container_steps.specs.declared.cont_answer.ContAnswer.TheVariants as answers
use Rattle.sw_container_steps.specs.declared.cont_change.ContChange.{ContChange}
use Rattle.sw_container_db.specs.ContDirs.{ContKept}
use Rattle.sw_container_db.specs.LoadedList.{found, is_loaded, rows_held, tables_at, trimmed, without}
use Rattle.sw_container_db.specs.declared.loaded_list.Loaded.{Loaded}

-- one more for each of so many calls, up to the greatest count
abbrev pub raised_by : ℕ → ℕ → ℕ
raised_by zero n = n
raised_by (suc k) n = raised (raised_by k n)

-- one call where there are any: the load that settles what is in doubt, or the commit that makes new entries
abbrev pub call_for : {A : Type 0} → List A → ℕ
call_for [] = 0
call_for (x ∷ xs) = 1

-- what stays loaded once the doubt is settled: where there was one, room was made for the tables by which it is settled
abbrev pub loaded_after : {A : Type 0} → List A → List Loaded → List Loaded
loaded_after [] loaded = loaded
loaded_after (x ∷ xs) loaded = trimmed 0 loaded

-- the load of the tables of a place: none where they are loaded
abbrev pub load_for : List Loaded → Place → ℕ
load_for loaded place = if is_loaded place loaded then 0 else 1

-- what stays loaded beside the tables of a place once they were read: all else where they were loaded already, and where not what leaves room for them
abbrev pub beside : Place → Option Tables → List Loaded → List Loaded
beside place read loaded = if is_loaded place loaded then without place loaded else trimmed (rows_held read) loaded

-- what stays loaded beside them once these entries were made: all else where there are none, and what leaves room for what they leave where there are
abbrev pub beside_made : {A : Type 0} → List A → Option Tables → List Loaded → List Loaded
beside_made [] left others = others
beside_made (x ∷ xs) left others = trimmed (rows_held left) others

-- the tables that a step leaves, over those that it read
abbrev pub left_by : Option Tables → Place → ContChange → Option Tables
left_by read place change = all_entered read (entries_for read place change)

-- the step isn't refused over these tables and enters something, or it is sent on to a shard: no other step takes memory once they were read
abbrev pub Enters : Place → ContChange → Option Tables → Type 0
Enters place change read = TakesMemory read place change

-- the same, where memory ran out
abbrev pub EntersOn : ContAnswer → Place → ContChange → Option Tables → Type 0
EntersOn answers.NoMemory place change read = Enters place change read
EntersOn answer place change read = ⊤

-- of no tables: what is so read takes no memory
abbrev pub OfNone : Option Tables → Type 0
OfNone read = ⊥

-- what is loaded once the doubt of a lock is settled
abbrev pub settled_in : {K : Type 0} → ContKept K → List Loaded
settled_in k = loaded_after k.journal.doubts k.loaded

-- the load of the tables of a place once the doubt is settled
abbrev pub load_at : {K : Type 0} → ContKept K → Place → ℕ
load_at k place = load_for (settled_in k) place

module _ {K : Type 0} (tells : K → Bool) (holds : K → Place → Option Tables) (faults calls : K → ℕ) where
  -- at every place is held what was held there
  abbrev pub SameTables : ContKept K → ContKept K → Type 0
  SameTables k n = tells k.keeper ≡ true → (place : Place) → holds n.keeper place ≡ holds k.keeper place

  -- the tables that a step reads at a place: those that are loaded, where they are, and those that are held, where the keeper tells them
  pub record IsRead (k : ContKept K) (place : Place) (read : Option Tables) : Type 0 where
    pub loaded : IfSome (found place (settled_in k)) (λ l. read ≡ l.tables)
    pub known : tells k.keeper ≡ true → read ≡ holds k.keeper place

  -- the call that settles the doubt, where there is one, so many loads, so many commits after them, and so many calls that failed
  pub record Counts (loads commits fails : ℕ) (k n : ContKept K) : Type 0 where
    pub called : calls n.keeper ≡ raised_by commits (raised_by loads (raised_by (call_for k.journal.doubts) (calls k.keeper)))
    pub failed : faults n.keeper ≡ raised_by fails (faults k.keeper)

  -- ---- once the tables were read, where so many loads were made and these others stay loaded

  -- no doubt is left, nothing was committed, and the tables of the place are the last
  pub record Looked (loads : ℕ) (others : List Loaded) (read : Option Tables) (k : ContKept K) (place : Place) (n : ContKept K) : Type 0 where
    pub counts : Counts loads 0 0 k n
    pub settled : n.journal.doubts ≡ []
    pub same : SameTables k n
    pub loaded : n.loaded ≡ others ++ tables_at place read ∷ []

  -- no doubt is left; what the step enters was committed, where it enters anything, and the tables that it leaves are the last
  pub record Wrote (loads : ℕ) (others : List Loaded) (read : Option Tables) (k : ContKept K) (place : Place) (change : ContChange) (n : ContKept K)
      : Type 0 where
    pub counts : Counts loads (call_for (entries_for read place change)) 0 k n
    pub settled : n.journal.doubts ≡ []
    pub loaded : n.loaded ≡ beside_made (entries_for read place change) (left_by read place change) others ++ tables_at place (left_by read place change) ∷ []

  -- the commit failed: what the step enters is in doubt, and the others alone are loaded
  pub record CommitFails (loads : ℕ) (others : List Loaded) (read : Option Tables) (k : ContKept K) (place : Place) (change : ContChange) (n : ContKept K)
      : Type 0 where
    pub counts : Counts loads 1 1 k n
    pub doubted : n.journal.doubts ≡ entries_for read place change ∷ []
    pub loaded : n.loaded ≡ others

  -- memory ran out: no tables have changed, no call failed, and no doubt is left. The commit was made or wasn't, and the tables of the place are the last,
  -- or the others alone are loaded
  pub record CommitWants (loads : ℕ) (others : List Loaded) (read : Option Tables) (k : ContKept K) (place : Place) (n : ContKept K) : Type 0 where
    pub commits : ℕ
    pub within : commits ≤ 1
    pub counts : Counts loads commits 0 k n
    pub settled : n.journal.doubts ≡ []
    pub same : SameTables k n
    pub loaded : (n.loaded ≡ others ++ tables_at place read ∷ []) ⊎ (n.loaded ≡ others)

  -- by the answer of the step
  abbrev pub CalledBy : ℕ → List Loaded → Option Tables → ContKept K → Place → ContChange → ContAnswer → ContKept K → Type 0
  CalledBy loads others read k place change (answers.New front) n = Wrote loads others read k place change n
  CalledBy loads others read k place change (answers.There front) n = Wrote loads others read k place change n
  CalledBy loads others read k place change (answers.Done front) n = Wrote loads others read k place change n
  CalledBy loads others read k place change answers.Absent n = Looked loads others read k place n
  CalledBy loads others read k place change (answers.Stale time) n = Looked loads others read k place n
  CalledBy loads others read k place change (answers.NotEmpty count) n = Looked loads others read k place n
  CalledBy loads others read k place change answers.HasRanges n = Looked loads others read k place n
  CalledBy loads others read k place change answers.NoRanges n = Looked loads others read k place n
  CalledBy loads others read k place change (answers.Redirect shard) n = Looked loads others read k place n
  CalledBy loads others read k place change (answers.StillOpen cursor) n = Looked loads others read k place n
  CalledBy loads others read k place change (answers.Later number) n = Looked loads others read k place n
  CalledBy loads others read k place change (answers.NotAcked lagging) n = Looked loads others read k place n
  CalledBy loads others read k place change answers.JournalFull n = Looked loads others read k place n
  CalledBy loads others read k place change answers.Failed n = CommitFails loads others read k place change n
  CalledBy loads others read k place change answers.NoMemory n = CommitWants loads others read k place n

  -- ---- of whole steps

  -- the doubt wasn't settled: so many calls failed, and where none did memory ran out. Nothing has changed, but that room was made
  pub record Unsettled (fails : ℕ) (k n : ContKept K) : Type 0 where
    pub in_doubt : call_for k.journal.doubts ≡ 1
    pub counts : Counts 0 0 fails k n
    pub journal : n.journal ≡ k.journal
    pub same : SameTables k n
    pub loaded : n.loaded ≡ trimmed 0 k.loaded

  -- a load was needed, and gave no tables: so many calls failed, and where none did memory ran out. No tables have changed, no doubt is left, and room was
  -- made for the tables
  pub record Unread (fails loads : ℕ) (k n : ContKept K) : Type 0 where
    pub needed : loads ≡ 1
    pub counts : Counts 1 0 fails k n
    pub settled : n.journal.doubts ≡ []
    pub same : SameTables k n
    pub loaded : n.loaded ≡ trimmed 0 (settled_in k)

  -- the tables of the place were read, and nothing else was done
  pub record Seen (k : ContKept K) (place : Place) (n : ContKept K) : Type 0 where
    pub read : Option Tables
    pub is_read : IsRead k place read
    pub looked : Looked (load_at k place) (beside place read (settled_in k)) read k place n

  -- the tables of the place were read, and the step came to this answer over them
  pub record Came (k : ContKept K) (place : Place) (change : ContChange) (answer : ContAnswer) (n : ContKept K) : Type 0 where
    pub read : Option Tables
    pub is_read : IsRead k place read
    pub called : CalledBy (load_at k place) (beside place read (settled_in k)) read k place change answer n

  -- of a step at a place
  abbrev pub Called : ContKept K → Place → ContChange → ContAnswer → ContKept K → Type 0
  Called k place change answers.Failed n = Unsettled 1 k n ⊎ Unread 1 (load_at k place) k n ⊎ Came k place change answers.Failed n
  Called k place change answers.NoMemory n = Unsettled 0 k n ⊎ Unread 0 (load_at k place) k n ⊎ Came k place change answers.NoMemory n
  Called k place change answer n = Came k place change answer n

  -- of a read at a place, by the answer in place of what it reads
  abbrev pub RefusedBy : ContKept K → Place → ContAnswer → ContKept K → Type 0
  RefusedBy k place answers.Failed n = Unsettled 1 k n ⊎ Unread 1 (load_at k place) k n
  RefusedBy k place answers.NoMemory n = Unsettled 0 k n ⊎ Unread 0 (load_at k place) k n ⊎ Seen k place n
  RefusedBy k place answer n = Seen k place n

  -- of a read at a place
  abbrev pub ReadCalled : {A : Type 0} → ContKept K → Place → Result A ContAnswer → ContKept K → Type 0
  ReadCalled k place (Ok got) n = Seen k place n
  ReadCalled k place (Err answer) n = RefusedBy k place answer n

  -- the names were asked for in one call, of which so many failed, with no doubt left; what is loaded stays
  pub record Named (fails : ℕ) (k n : ContKept K) : Type 0 where
    pub counts : Counts 1 0 fails k n
    pub settled : n.journal.doubts ≡ []
    pub same : SameTables k n
    pub loaded : n.loaded ≡ settled_in k

  -- of the names
  abbrev pub NamesCalled : {A : Type 0} → ContKept K → Result A ContAnswer → ContKept K → Type 0
  NamesCalled k (Ok got) n = Named 0 k n
  NamesCalled k (Err answers.Failed) n = Unsettled 1 k n ⊎ Named 1 k n
  NamesCalled k (Err answers.NoMemory) n = Unsettled 0 k n ⊎ Named 0 k n
  NamesCalled k (Err answer) n = Named 0 k n

  -- ---- where memory ran out

  -- the doubt wasn't settled, or a load was needed and gave no tables, or this holds of the tables that were read
  abbrev pub WantsOver : (Option Tables → Type 0) → ContKept K → Place → ContKept K → Type 0
  WantsOver takes k place n = Unsettled 0 k n ⊎ Unread 0 (load_at k place) k n ⊎ ((read : Option Tables) × IsRead k place read × takes read)

  -- of a step at a place
  abbrev pub StepWants : ContKept K → Place → ContChange → ContAnswer → ContKept K → Type 0
  StepWants k place change answers.NoMemory n = WantsOver (Enters place change) k place n
  StepWants k place change answer n = ⊤

  -- of a read at a place, by the answer in place of what it reads
  abbrev pub RefusedWants : (Option Tables → Type 0) → ContKept K → Place → ContAnswer → ContKept K → Type 0
  RefusedWants takes k place answers.NoMemory n = WantsOver takes k place n
  RefusedWants takes k place answer n = ⊤

  -- of a read at a place
  abbrev pub ReadWants : {A : Type 0} → (Option Tables → Type 0) → ContKept K → Place → Result A ContAnswer → ContKept K → Type 0
  ReadWants takes k place (Ok got) n = ⊤
  ReadWants takes k place (Err answer) n = RefusedWants takes k place answer n
