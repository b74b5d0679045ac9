-- Which calls of the keeper a step makes, over plain counts.
use Rattle.std.proofs.Common.{◌≡◌, ◌≢◌, ℕ, ◌≤◌, Bool, true, false, if◌then◌else◌, List, [], ◌∷◌, ◌++◌, refl, sym, ◌∙◌}
use Rattle.std.proofs.Common.{ap, subst, arith, Option, Some, None, ◌⊎◌, inl}
use Rattle.std.proofs.Common.{inr, Result, Ok, Err}
use Rattle.std.specs.Option.{option_map_or}
use Rattle.sw_hashpath.specs.declared.place.Place.{Place}
use Rattle.sw_outside.specs.Counts.{raised}
use Rattle.sw_keeper.specs.declared.tables.Tables.{Tables}
use Rattle.sw_rows.specs.Rows.{rows_above}
use Rattle.sw_sync.specs.Points.{point_at}
use Rattle.sw_listing.specs.Listing.{listing}
use Rattle.sw_listing.specs.declared.entry.Entry.{Entry}
use Rattle.sw_listing.specs.declared.query.Query.{Query}
use Rattle.sw_step.specs.Rules.{Refuses, Wants}
use Rattle.sw_step.specs.Steps.{Tells}
use Rattle.sw_container_steps.specs.Presence.{deletion_after, is_no_time, is_present}
use Rattle.sw_container_steps.specs.Reads.{info_of, listing_of, parcel_of, range_parcel, range_parcel_of, rows_for, told_of, where_present}
use Rattle.sw_container_steps.specs.Serving.{unserved}
use Rattle.sw_shard_range.specs.declared.range.Range.{Range}
use Rattle.sw_container_steps.specs.Deciding.{IsDecided}
use Rattle.sw_container_steps.specs.Steps.{cont_made_answer, cont_refusal, creation_answer, entries_for}
use Rattle.sw_container_steps.specs.declared.deciding.Decision.TheVariants.{Makes}
use Rattle.sw_container_steps.specs.Rules.{cont_ending, look_by}
use Rattle.sw_container_steps.specs.declared.cont_answer.ContAnswer.{ContAnswer}
use Rattle.sw_container_steps.specs.declared.cont_answer.ContAnswer.TheVariants as conts
use Rattle.sw_container_steps.specs.declared.cont_change.ContChange.{ContChange}
use Rattle.sw_container_steps.specs.declared.cont_change.ContChange.TheVariants.{Create, Remove, MergeRow, MergeRows, SetRanges, Ack, CloseRange}
use Rattle.sw_container_steps.specs.declared.cont_change.ContChange.TheVariants.{EmptyOut, SetSync}
use Rattle.sw_container_steps.specs.declared.cont_entry.ContEntry.{ContEntry}
use Rattle.sw_container_steps.specs.declared.info.Info.{Info}
use Rattle.sw_container_steps.specs.declared.syncing.Parcel.{Parcel}
use Rattle.sw_container_db.specs.Calling.{Called, CalledBy, Came, CommitFails, CommitWants, Counts, Looked, ReadCalled, RefusedBy, SameTables, Seen}
use Rattle.sw_container_db.specs.Calling.{Enters, EntersOn, IsRead, OfNone, ReadWants, RefusedWants, StepWants}
use Rattle.sw_container_db.specs.Calling.{Wrote, beside, beside_made, call_for, left_by, load_at, loaded_after, raised_by}
use Rattle.sw_container_db.specs.ContDirs.{ContKept, doubts_in}
use Rattle.sw_container_db.specs.LoadedList.{rows_held, tables_at, trimmed}
use Rattle.sw_container_db.specs.declared.loaded_list.Loaded.{Loaded}
use Rattle.sw_container_db.specs.declared.sign.Doubt.{Doubt}

zero-one : (n : ℕ) → n ≡ 0 → n ≡ 1 → ⊥
zero-one n a b = omega (arith, a, b)

pub one-call : {A : Type 0} (entries : List A) → entries ≢ [] → call_for entries ≡ 1
one-call [] full = absurd (full refl)
one-call (e ∷ es) full = refl

pub one-doubt : (doubt : Option Doubt) (d : Doubt) → doubt ≡ Some d → call_for (doubts_in doubt) ≡ 1
one-doubt doubt d is = ap (λ (x : Option Doubt). call_for (doubts_in x)) is

pub no-doubt : (doubt : Option Doubt) → doubt ≡ None → call_for (doubts_in doubt) ≡ 0
no-doubt doubt is = ap (λ (x : Option Doubt). call_for (doubts_in x)) is

-- a step that enters something leaves room for what it leaves
pub room-left : {A : Type 0} (entries : List A) (left : Option Tables) (others : List Loaded) → entries ≢ []
    → beside_made entries left others ≡ trimmed (rows_held left) others
room-left [] left others full = absurd (full refl)
room-left (e ∷ es) left others full = refl

-- ---- where memory ran out

-- an answer of another kind
pub fine-wants : (place : Place) (change : ContChange) (read : Option Tables) (answer : ContAnswer) → cont_ending answer ≢ Wants
    → EntersOn answer place change read
fine-wants place change read conts.NoMemory fine = absurd (fine refl)
fine-wants place change read (conts.New front) fine = tt
fine-wants place change read (conts.There front) fine = tt
fine-wants place change read (conts.Done front) fine = tt
fine-wants place change read conts.Absent fine = tt
fine-wants place change read (conts.Stale time) fine = tt
fine-wants place change read (conts.NotEmpty count) fine = tt
fine-wants place change read conts.HasRanges fine = tt
fine-wants place change read conts.NoRanges fine = tt
fine-wants place change read (conts.Redirect shard) fine = tt
fine-wants place change read (conts.StillOpen cursor) fine = tt
fine-wants place change read (conts.Later number) fine = tt
fine-wants place change read (conts.NotAcked lagging) fine = tt
fine-wants place change read conts.JournalFull fine = tt
fine-wants place change read conts.Failed fine = tt

-- a step that was decided to make entries
pub makes-enters : (t given : Option Tables) (place : Place) (change : ContChange) (entries batch : List ContEntry)
    → IsDecided t place change (Makes entries) → batch ≡ entries → batch ≢ [] → t ≡ given → Enters place change given
makes-enters t given place change entries batch decided is full was =
    let enters : Enters place change t = inl (decided.0, λ none. full (is ∙ (decided.1 ∙ none))) in
    subst (Enters place change) was enters

module _ {K : Type 0} (tells : K → Bool) (holds : K → Place → Option Tables) (faults calls : K → ℕ) where
  -- ---- where no doubt is left, and the tables are the last

  pub counts : (k n : ContKept K) (commits fails : ℕ) → k.journal.doubts ≡ [] → calls n.keeper ≡ raised_by commits (calls k.keeper) →
      faults n.keeper ≡ raised_by fails (faults k.keeper)
      → Counts tells holds faults calls 0 commits fails k n
  counts k n commits fails none called failed = record {
    called = called ∙ ap (λ (d : List (List ContEntry)). raised_by commits (raised_by (call_for d) (calls k.keeper))) (sym none);
    failed = failed;
  }

  module _ (others : List Loaded) (read : Option Tables) (k n : ContKept K) (place : Place) (none : k.journal.doubts ≡ []) where
    pub wanted : (commits : ℕ) → commits ≤ 1 → n.journal.doubts ≡ [] → calls n.keeper ≡ raised_by commits (calls k.keeper)
        → faults n.keeper ≡ faults k.keeper → SameTables tells holds faults calls k n
        → (n.loaded ≡ others ++ tables_at place read ∷ []) ⊎ (n.loaded ≡ others) → CommitWants tells holds faults calls 0 others read k place n
    wanted commits within left called failed same loaded = record {
      commits = commits;
      within = within;
      counts = counts k n commits 0 none called failed;
      settled = left;
      same = same;
      loaded = loaded;
    }

    module _ (change : ContChange) where
      pub wrote : (after : Option Tables) → n.journal.doubts ≡ [] → entries_for read place change ≢ [] → calls n.keeper ≡ raised (calls k.keeper)
          → faults n.keeper ≡ faults k.keeper → after ≡ left_by read place change
          → n.loaded ≡ trimmed (rows_held after) others ++ tables_at place after ∷ [] → Wrote tells holds faults calls 0 others read k place change n
      wrote after left full called failed leaves loaded = record {
        counts = counts k n (call_for (entries_for read place change)) 0 none
            (called ∙ ap (λ (c : ℕ). raised_by c (calls k.keeper)) (sym (one-call (entries_for read place change) full))) failed;
        settled = left;
        loaded = loaded ∙ (ap (λ (t : Option Tables). trimmed (rows_held t) others ++ tables_at place t ∷ []) leaves
            ∙ ap (λ (xs : List Loaded). xs ++ tables_at place (left_by read place change) ∷ [])
            (sym (room-left (entries_for read place change) (left_by read place change) others full)));
      }

      pub commit-fails : n.journal.doubts ≡ entries_for read place change ∷ [] → calls n.keeper ≡ raised (calls k.keeper)
          → faults n.keeper ≡ raised (faults k.keeper) → n.loaded ≡ others → CommitFails tells holds faults calls 0 others read k place change n
      commit-fails doubts called failed loaded = record { counts = counts k n 1 1 none called failed; doubted = doubts; loaded = loaded }

  -- ---- by the answer

  pub called-refused : (loads : ℕ) (others : List Loaded) (read : Option Tables) (k n : ContKept K) (place : Place) (change : ContChange)
      (answer : ContAnswer) → cont_ending answer ≡ Refuses → Looked tells holds faults calls loads others read k place n
      → CalledBy tells holds faults calls loads others read k place change answer n
  called-refused loads others read k n place change (conts.New front) is look = cc
  called-refused loads others read k n place change (conts.There front) is look = cc
  called-refused loads others read k n place change (conts.Done front) is look = cc
  called-refused loads others read k n place change conts.Absent is look = look
  called-refused loads others read k n place change (conts.Stale time) is look = look
  called-refused loads others read k n place change (conts.NotEmpty count) is look = look
  called-refused loads others read k n place change conts.HasRanges is look = look
  called-refused loads others read k n place change conts.NoRanges is look = look
  called-refused loads others read k n place change (conts.Redirect shard) is look = look
  called-refused loads others read k n place change (conts.StillOpen cursor) is look = look
  called-refused loads others read k n place change (conts.Later number) is look = look
  called-refused loads others read k n place change (conts.NotAcked lagging) is look = look
  called-refused loads others read k n place change conts.JournalFull is look = cc
  called-refused loads others read k n place change conts.Failed is look = cc
  called-refused loads others read k n place change conts.NoMemory is look = cc

  pub called-made : (loads : ℕ) (others : List Loaded) (read : Option Tables) (k n : ContKept K) (place : Place) (change : ContChange) (t : Option Tables)
      (front : ℕ) → Wrote tells holds faults calls loads others read k place change n
      → CalledBy tells holds faults calls loads others read k place change (cont_made_answer t change front) n
  called-made loads others read k n place (Create time) t front done = by (is_present t)
    where
      by : (b : Bool) → CalledBy tells holds faults calls loads others read k place (Create time) (creation_answer b front) n
      by true = done
      by false = done
  called-made loads others read k n place (Remove time) t front done = done
  called-made loads others read k n place (MergeRow row) t front done = done
  called-made loads others read k n place (MergeRows rows) t front done = done
  called-made loads others read k n place (SetRanges ranges) t front done = done
  called-made loads others read k n place (Ack range device rowid) t front done = done
  called-made loads others read k n place (CloseRange range devices) t front done = done
  called-made loads others read k n place EmptyOut t front done = done
  called-made loads others read k n place (SetSync device rowid) t front done = done

  -- ---- what was read of the tables

  pub listed : (k n : ContKept K) (place : Place) (query : Query) (t : Option Tables) (front : ℕ) (got : Result (List Entry) ContAnswer)
      → got ≡ listing_of query t front → Seen tells holds faults calls k place n → ReadCalled tells holds faults calls k place got n
  listed k n place query t front got is look = subst (λ (r : Result (List Entry) ContAnswer). ReadCalled tells holds faults calls k place r n) (sym is) (by t)
    where
      by : (t : Option Tables) → ReadCalled tells holds faults calls k place (listing_of query t front) n
      by None = look
      by (Some t) = at (is_no_time (deletion_after t.put_time t.delete_time))
        where
          at : (b : Bool) → ReadCalled tells holds faults calls k place (if b then Ok (listing query (unserved t)) else Err conts.Absent) n
          at true = look
          at false = look

  pub informed : (k n : ContKept K) (place : Place) (t : Option Tables) (front : ℕ) (got : Result Info ContAnswer) → got ≡ info_of t front
      → Seen tells holds faults calls k place n → ReadCalled tells holds faults calls k place got n
  informed k n place t front got is look = subst (λ (r : Result Info ContAnswer). ReadCalled tells holds faults calls k place r n) (sym is) (by t)
    where
      by : (t : Option Tables) → ReadCalled tells holds faults calls k place (info_of t front) n
      by None = look
      by (Some t) = at (is_no_time (deletion_after t.put_time t.delete_time))
        where
          at : (b : Bool) → ReadCalled tells holds faults calls {A = Info} k place
              (if b then Ok (told_of front t) else Err conts.Absent) n
          at true = look
          at false = look

  pub parceled : (k n : ContKept K) (place : Place) (device : ℕ) (t : Option Tables) (front : ℕ) (got : Result Parcel ContAnswer)
      → got ≡ parcel_of device t front → Seen tells holds faults calls k place n → ReadCalled tells holds faults calls k place got n
  parceled k n place device t front got is look = subst (λ (r : Result Parcel ContAnswer). ReadCalled tells holds faults calls k place r n) (sym is) (by t)
    where
      by : (t : Option Tables) → ReadCalled tells holds faults calls k place (parcel_of device t front) n
      by None = look
      by (Some t) = at (is_no_time (deletion_after t.put_time t.delete_time))
        where
          at : (b : Bool) → ReadCalled tells holds faults calls {A = Parcel} k place
              (if b then Ok (record {
                rows = rows_above (option_map_or (λ (rowid : ℕ). rowid) (point_at t.syncs 0 device) 0) t.rows.list;
                top = t.rows.top;
              }) else Err conts.Absent) n
          at true = look
          at false = look

  -- what is told of a container that is there, whatever it is
  pub shown : {A : Type 0} (k n : ContKept K) (place : Place) (t : Option Tables) (told : Tables → A) (got : Result A ContAnswer)
      → got ≡ where_present t told → Seen tells holds faults calls k place n → ReadCalled tells holds faults calls k place got n
  shown {A} k n place t told got is look = subst (λ (r : Result A ContAnswer). ReadCalled tells holds faults calls k place r n) (sym is) (by t)
    where
      by : (t : Option Tables) → ReadCalled tells holds faults calls k place (where_present t told) n
      by None = look
      by (Some t) = at (is_no_time (deletion_after t.put_time t.delete_time))
        where
          at : (b : Bool) → ReadCalled tells holds faults calls {A = A} k place (if b then Ok (told t) else Err conts.Absent) n
          at true = look
          at false = look

  pub range-parceled : (k n : ContKept K) (place : Place) (range point : ℕ) (t : Option Tables) (front : ℕ) (got : Result Parcel ContAnswer)
      → got ≡ range_parcel_of range point t front → Seen tells holds faults calls k place n → ReadCalled tells holds faults calls k place got n
  range-parceled k n place range point t front got is look =
      subst (λ (r : Result Parcel ContAnswer). ReadCalled tells holds faults calls k place r n) (sym is) (by t)
    where
      by : (t : Option Tables) → ReadCalled tells holds faults calls k place (range_parcel_of range point t front) n
      by None = look
      by (Some t) = at (is_no_time (deletion_after t.put_time t.delete_time)) t.ranges
        where
          at : (b : Bool) (o : Option (List Range))
              → ReadCalled tells holds faults calls {A = Parcel} k place (if b then range_parcel o range point t else Err conts.Absent) n
          at true None = look
          at true (Some ranges) = look
          at false o = look

  -- ---- where the tables were read first

  pub came : (k n : ContKept K) (place : Place) (change : ContChange) (answer : ContAnswer) → Came tells holds faults calls k place change answer n
      → Called tells holds faults calls k place change answer n
  came k n place change (conts.New front) c = c
  came k n place change (conts.There front) c = c
  came k n place change (conts.Done front) c = c
  came k n place change conts.Absent c = c
  came k n place change (conts.Stale time) c = c
  came k n place change (conts.NotEmpty count) c = c
  came k n place change conts.HasRanges c = c
  came k n place change conts.NoRanges c = c
  came k n place change (conts.Redirect shard) c = c
  came k n place change (conts.StillOpen cursor) c = c
  came k n place change (conts.Later number) c = c
  came k n place change (conts.NotAcked lagging) c = c
  came k n place change conts.JournalFull c = c
  came k n place change conts.Failed c = inr (inr c)
  came k n place change conts.NoMemory c = inr (inr c)

  module _ (k i : ContKept K) (place : Place) (seen : Seen tells holds faults calls k place i) (told : tells i.keeper ≡ tells k.keeper) where
    abbrev others : List Loaded
    others = beside place seen.read (loaded_after k.journal.doubts k.loaded)

    counts-after : (n : ContKept K) (commits fails : ℕ) → Counts tells holds faults calls 0 commits fails i n
        → Counts tells holds faults calls (load_at k place) commits fails k n
    counts-after n commits fails c = record {
      called = c.called ∙ (ap (λ (d : List (List ContEntry)). raised_by commits (raised_by (call_for d) (calls i.keeper))) seen.looked.settled
          ∙ ap (raised_by commits) seen.looked.counts.called);
      failed = c.failed ∙ ap (raised_by fails) seen.looked.counts.failed;
    }

    same-after : (n : ContKept K) → SameTables tells holds faults calls i n → SameTables tells holds faults calls k n
    same-after n more tell p = more (told ∙ tell) p ∙ seen.looked.same tell p

    looked-after : (n : ContKept K) → Looked tells holds faults calls 0 others seen.read i place n
        → Looked tells holds faults calls (load_at k place) others seen.read k place n
    looked-after n l = record { counts = counts-after n 0 0 l.counts; settled = l.settled; same = same-after n l.same; loaded = l.loaded }

    wrote-after : (n : ContKept K) (change : ContChange) → Wrote tells holds faults calls 0 others seen.read i place change n
        → Wrote tells holds faults calls (load_at k place) others seen.read k place change n
    wrote-after n change w = record {
      counts = counts-after n (call_for (entries_for seen.read place change)) 0 w.counts;
      settled = w.settled;
      loaded = w.loaded;
    }

    called-by-after : (n : ContKept K) (change : ContChange) (answer : ContAnswer)
        → CalledBy tells holds faults calls 0 others seen.read i place change answer n
        → CalledBy tells holds faults calls (load_at k place) others seen.read k place change answer n
    called-by-after n change (conts.New front) c = wrote-after n change c
    called-by-after n change (conts.There front) c = wrote-after n change c
    called-by-after n change (conts.Done front) c = wrote-after n change c
    called-by-after n change conts.Absent c = looked-after n c
    called-by-after n change (conts.Stale time) c = looked-after n c
    called-by-after n change (conts.NotEmpty count) c = looked-after n c
    called-by-after n change conts.HasRanges c = looked-after n c
    called-by-after n change conts.NoRanges c = looked-after n c
    called-by-after n change (conts.Redirect shard) c = looked-after n c
    called-by-after n change (conts.StillOpen cursor) c = looked-after n c
    called-by-after n change (conts.Later number) c = looked-after n c
    called-by-after n change (conts.NotAcked lagging) c = looked-after n c
    called-by-after n change conts.JournalFull c = looked-after n c
    called-by-after n change conts.Failed c = record { counts = counts-after n 1 1 c.counts; doubted = c.doubted; loaded = c.loaded }
    called-by-after n change conts.NoMemory c = record {
      commits = c.commits;
      within = c.within;
      counts = counts-after n c.commits 0 c.counts;
      settled = c.settled;
      same = same-after n c.same;
      loaded = c.loaded;
    }

    pub called-after : (n : ContKept K) (change : ContChange) (answer : ContAnswer)
        → ((others : List Loaded) (read : Option Tables) → i.loaded ≡ others ++ tables_at place read ∷ []
        → CalledBy tells holds faults calls 0 others read i place change answer n) → Called tells holds faults calls k place change answer n
    called-after n change answer by = came k n place change answer (record {
      read = seen.read;
      is_read = seen.is_read;
      called = called-by-after n change answer (by others seen.read seen.looked.loaded);
    })

  -- of a step that didn't come to the container's tables, or wants memory once it read them
  pub called-fault : (k n : ContKept K) (place : Place) (change : ContChange) (answer : ContAnswer) → look_by (cont_ending answer) ≢ Tells
      → RefusedBy tells holds faults calls k place answer n → Called tells holds faults calls k place change answer n
  called-fault k n place change conts.Failed fault (inl unsettled) = inl unsettled
  called-fault k n place change conts.Failed fault (inr unread) = inr (inl unread)
  called-fault k n place change conts.NoMemory fault (inl unsettled) = inl unsettled
  called-fault k n place change conts.NoMemory fault (inr (inl unread)) = inr (inl unread)
  called-fault k n place change conts.NoMemory fault (inr (inr seen)) = inr (inr (record {
    read = seen.read;
    is_read = seen.is_read;
    called = record {
      commits = 0;
      within = omega arith;
      counts = seen.looked.counts;
      settled = seen.looked.settled;
      same = seen.looked.same;
      loaded = inl seen.looked.loaded;
    };
  }))
  called-fault k n place change (conts.New front) fault w = absurd (fault refl)
  called-fault k n place change (conts.There front) fault w = absurd (fault refl)
  called-fault k n place change (conts.Done front) fault w = absurd (fault refl)
  called-fault k n place change conts.Absent fault w = absurd (fault refl)
  called-fault k n place change (conts.Stale time) fault w = absurd (fault refl)
  called-fault k n place change (conts.NotEmpty count) fault w = absurd (fault refl)
  called-fault k n place change conts.HasRanges fault w = absurd (fault refl)
  called-fault k n place change conts.NoRanges fault w = absurd (fault refl)
  called-fault k n place change (conts.Redirect shard) fault w = absurd (fault refl)
  called-fault k n place change (conts.StillOpen cursor) fault w = absurd (fault refl)
  called-fault k n place change (conts.Later number) fault w = absurd (fault refl)
  called-fault k n place change (conts.NotAcked lagging) fault w = absurd (fault refl)
  called-fault k n place change conts.JournalFull fault w = absurd (fault refl)

  -- ---- where memory ran out

  module _ (k n : ContKept K) (place : Place) where
    -- of a step or a read that came to no tables
    pub unready-step : (change : ContChange) (answer : ContAnswer) → RefusedWants tells holds faults calls OfNone k place answer n
        → StepWants tells holds faults calls k place change answer n
    unready-step change conts.NoMemory (inl unsettled) = inl unsettled
    unready-step change conts.NoMemory (inr (inl unread)) = inr (inl unread)
    unready-step change conts.NoMemory (inr (inr none)) = absurd none.2
    unready-step change (conts.New front) w = tt
    unready-step change (conts.There front) w = tt
    unready-step change (conts.Done front) w = tt
    unready-step change conts.Absent w = tt
    unready-step change (conts.Stale time) w = tt
    unready-step change (conts.NotEmpty count) w = tt
    unready-step change conts.HasRanges w = tt
    unready-step change conts.NoRanges w = tt
    unready-step change (conts.Redirect shard) w = tt
    unready-step change (conts.StillOpen cursor) w = tt
    unready-step change (conts.Later number) w = tt
    unready-step change (conts.NotAcked lagging) w = tt
    unready-step change conts.JournalFull w = tt
    unready-step change conts.Failed w = tt

    pub unready-read : (takes : Option Tables → Type 0) (answer : ContAnswer) → RefusedWants tells holds faults calls OfNone k place answer n
        → RefusedWants tells holds faults calls takes k place answer n
    unready-read takes conts.NoMemory (inl unsettled) = inl unsettled
    unready-read takes conts.NoMemory (inr (inl unread)) = inr (inl unread)
    unready-read takes conts.NoMemory (inr (inr none)) = absurd none.2
    unready-read takes (conts.New front) w = tt
    unready-read takes (conts.There front) w = tt
    unready-read takes (conts.Done front) w = tt
    unready-read takes conts.Absent w = tt
    unready-read takes (conts.Stale time) w = tt
    unready-read takes (conts.NotEmpty count) w = tt
    unready-read takes conts.HasRanges w = tt
    unready-read takes conts.NoRanges w = tt
    unready-read takes (conts.Redirect shard) w = tt
    unready-read takes (conts.StillOpen cursor) w = tt
    unready-read takes (conts.Later number) w = tt
    unready-read takes (conts.NotAcked lagging) w = tt
    unready-read takes conts.JournalFull w = tt
    unready-read takes conts.Failed w = tt

    -- of one that came to these tables
    pub read-step-wants : (change : ContChange) (read : Option Tables) (answer : ContAnswer) → IsRead tells holds faults calls k place read
        → EntersOn answer place change read → StepWants tells holds faults calls k place change answer n
    read-step-wants change read conts.NoMemory is enters = inr (inr (read, is, enters))
    read-step-wants change read (conts.New front) is enters = tt
    read-step-wants change read (conts.There front) is enters = tt
    read-step-wants change read (conts.Done front) is enters = tt
    read-step-wants change read conts.Absent is enters = tt
    read-step-wants change read (conts.Stale time) is enters = tt
    read-step-wants change read (conts.NotEmpty count) is enters = tt
    read-step-wants change read conts.HasRanges is enters = tt
    read-step-wants change read conts.NoRanges is enters = tt
    read-step-wants change read (conts.Redirect shard) is enters = tt
    read-step-wants change read (conts.StillOpen cursor) is enters = tt
    read-step-wants change read (conts.Later number) is enters = tt
    read-step-wants change read (conts.NotAcked lagging) is enters = tt
    read-step-wants change read conts.JournalFull is enters = tt
    read-step-wants change read conts.Failed is enters = tt

    -- what is read of tables finds memory
    pub informed-wants : (takes : Option Tables → Type 0) (t : Option Tables) (front : ℕ) (got : Result Info ContAnswer) → got ≡ info_of t front
        → ReadWants tells holds faults calls takes k place got n
    informed-wants takes t front got is = subst (λ (r : Result Info ContAnswer). ReadWants tells holds faults calls takes k place r n) (sym is) (by t)
      where
        by : (t : Option Tables) → ReadWants tells holds faults calls takes k place (info_of t front) n
        by None = tt
        by (Some t) = at (is_no_time (deletion_after t.put_time t.delete_time))
          where
            at : (b : Bool) → ReadWants tells holds faults calls {A = Info} takes k place
                (if b then Ok (told_of front t) else Err conts.Absent) n
            at true = tt
            at false = tt

    pub listed-wants : (takes : Option Tables → Type 0) (query : Query) (t : Option Tables) (front : ℕ) (got : Result (List Entry) ContAnswer)
        → got ≡ listing_of query t front → ReadWants tells holds faults calls takes k place got n
    listed-wants takes query t front got is =
        subst (λ (r : Result (List Entry) ContAnswer). ReadWants tells holds faults calls takes k place r n) (sym is) (by t)
      where
        by : (t : Option Tables) → ReadWants tells holds faults calls takes k place (listing_of query t front) n
        by None = tt
        by (Some t) = at (is_no_time (deletion_after t.put_time t.delete_time))
          where
            at : (b : Bool) → ReadWants tells holds faults calls takes k place (if b then Ok (listing query (unserved t)) else Err conts.Absent) n
            at true = tt
            at false = tt

    pub parceled-wants : (takes : Option Tables → Type 0) (device : ℕ) (t : Option Tables) (front : ℕ) (got : Result Parcel ContAnswer)
        → got ≡ parcel_of device t front → ReadWants tells holds faults calls takes k place got n
    parceled-wants takes device t front got is =
        subst (λ (r : Result Parcel ContAnswer). ReadWants tells holds faults calls takes k place r n) (sym is) (by t)
      where
        by : (t : Option Tables) → ReadWants tells holds faults calls takes k place (parcel_of device t front) n
        by None = tt
        by (Some t) = at (is_no_time (deletion_after t.put_time t.delete_time))
          where
            at : (b : Bool) → ReadWants tells holds faults calls {A = Parcel} takes k place
                (if b then Ok (record { rows = rows_for device t; top = t.rows.top }) else Err conts.Absent) n
            at true = tt
            at false = tt

    pub shown-wants : {A : Type 0} (takes : Option Tables → Type 0) (t : Option Tables) (told : Tables → A) (got : Result A ContAnswer)
        → got ≡ where_present t told → ReadWants tells holds faults calls takes k place got n
    shown-wants {A} takes t told got is = subst (λ (r : Result A ContAnswer). ReadWants tells holds faults calls takes k place r n) (sym is) (by t)
      where
        by : (t : Option Tables) → ReadWants tells holds faults calls takes k place (where_present t told) n
        by None = tt
        by (Some t) = at (is_no_time (deletion_after t.put_time t.delete_time))
          where
            at : (b : Bool) → ReadWants tells holds faults calls {A = A} takes k place (if b then Ok (told t) else Err conts.Absent) n
            at true = tt
            at false = tt

    pub range-parceled-wants : (takes : Option Tables → Type 0) (range point : ℕ) (t : Option Tables) (front : ℕ) (got : Result Parcel ContAnswer)
        → got ≡ range_parcel_of range point t front → ReadWants tells holds faults calls takes k place got n
    range-parceled-wants takes range point t front got is =
        subst (λ (r : Result Parcel ContAnswer). ReadWants tells holds faults calls takes k place r n) (sym is) (by t)
      where
        by : (t : Option Tables) → ReadWants tells holds faults calls takes k place (range_parcel_of range point t front) n
        by None = tt
        by (Some t) = at (is_no_time (deletion_after t.put_time t.delete_time)) t.ranges
          where
            at : (b : Bool) (o : Option (List Range))
                → ReadWants tells holds faults calls {A = Parcel} takes k place (if b then range_parcel o range point t else Err conts.Absent) n
            at true None = tt
            at true (Some ranges) = tt
            at false o = tt
