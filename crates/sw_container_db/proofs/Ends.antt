-- How a step ends, over plain histories.
use Rattle.std.proofs.Common.{◌≡◌, ◌≢◌, ℕ, ◌≤◌, Bool, true, false, if◌then◌else◌, List, [], ◌∷◌, ◌++◌, length, Option, Some, None, Result, Ok, Err, ◌⊎◌}
use Rattle.std.proofs.Common.{inl, inr, refl, sym, ◌∙◌, ap, subst, arith}
use Rattle.std.specs.List.{fold}
use Rattle.std.specs.Option.{option_map_or}
use Rattle.std.proofs.lemmas.List.{append-nil}
use Rattle.sw_hashpath.specs.declared.place.Place.{Place}
use Rattle.sw_outside.specs.Faults.{HasRisen}
use Rattle.sw_keeper.specs.declared.tables.Tables.{Tables}
use Rattle.sw_rows.specs.Rows.{rows_above}
use Rattle.sw_sync.specs.Points.{point_at}
use Rattle.sw_listing.specs.Listing.{listing}
use Rattle.sw_listing.specs.declared.query.Query.{Query}
use Rattle.sw_history.proofs.Growing.{grows-refl, grows-trans}
use Rattle.sw_history.specs.Halves.{GrowsOf}
use Rattle.sw_step.proofs.Settled.{settles-both}
use Rattle.sw_step.specs.Rules.{CanStand, Damages, Ending, Fails, Makes, NoneOf, Overflows, Refuses, Wants, doubts_about}
use Rattle.sw_step.specs.Steps.{Answers, EndsSeen, EndsUnseen, IsDamaged, IsLost, OnlySettles, Tells}
use Rattle.sw_container_steps.proofs.Ruling.{made-ends, never-damaged, refusal-ends}
use Rattle.sw_container_steps.specs.Entries.{entered}
use Rattle.sw_container_steps.specs.Presence.{deletion_after, is_no_time}
use Rattle.sw_container_steps.specs.Reads.{info_of, listing_of, parcel_of, range_parcel, range_parcel_of, told_of, where_present}
use Rattle.sw_container_steps.specs.Serving.{unserved}
use Rattle.sw_shard_range.specs.declared.range.Range.{Range}
use Rattle.sw_container_steps.specs.Rules.{ChangesContainer, ContHistory, ContJournal, ReadsContainer, cont_ending, cont_look, cont_room, cont_rules, look_by}
use Rattle.sw_container_steps.specs.Rules.{one_batch}
use Rattle.sw_container_steps.specs.Steps.{cont_made_answer, cont_refusal, entries_for}
use Rattle.sw_container_steps.specs.declared.cont_answer.ContAnswer.{ContAnswer}
use Rattle.sw_container_steps.specs.declared.cont_answer.ContAnswer.TheVariants as conts
use Rattle.sw_container_steps.specs.declared.cont_change.ContChange.{ContChange}
use Rattle.sw_container_steps.specs.declared.cont_entry.ContEntry.{ContEntry}
use Rattle.sw_container_steps.specs.declared.info.Info.{Info}
use Rattle.sw_container_steps.specs.declared.syncing.Parcel.{Parcel}

abbrev pub later : ContHistory → ContJournal → ℕ → ContHistory
later h j f = record h { journal = j; faults = f }

none-of : (place : Place) (ds : List (List ContEntry)) → ds ≡ [] → NoneOf (λ (d : List ContEntry). true) (doubts_about cont_rules place ds)
none-of place ds none = subst (λ (xs : List (List ContEntry)). NoneOf (λ (d : List ContEntry). true) (doubts_about cont_rules place xs)) (sym none) tt

refuses-fine : Refuses ≡ Fails → ⊥
refuses-fine is = cc

makes-fine : Makes ≡ Fails → ⊥
makes-fine is = cc

batch-is : (batch : List ContEntry) → batch ≢ [] → one_batch batch ≡ batch ∷ []
batch-is [] full = absurd (full refl)
batch-is (e ∷ es) full = refl

-- ---- at a lock in which nothing is in doubt, whose places stand for what it holds, and where these tables were read

module _ (h : ContHistory) (s : Place → Option Tables) (place : Place) (change : ContChange) (none : h.journal.doubts ≡ [])
    (fits : h.told ≡ true → (p : Place) → CanStand cont_rules h p (s p)) (read : Option Tables) (is : h.told ≡ true → read ≡ s place) where
  ended : (looked : Bool) (answer : ContAnswer) (made : List ContEntry) (j : ContJournal) (f : ℕ) (t : Option Tables) → GrowsOf h (later h j f)
      → Answers cont_rules looked read h.journal place change answer made j → (cont_ending answer ≡ Fails → HasRisen h.faults f)
      → (h.told ≡ true → t ≡ fold entered (s place) made) → ChangesContainer true h s place change answer (later h j f) t
  ended looked answer made j f t up answered cause leaves = record {
    own = refl;
    before = h;
    looked = looked;
    read = read;
    made = made;
    follows = grows-refl h;
    settles = λ alone. (0, refl);
    settled = λ saw. none-of place h.journal.doubts none;
    answered = answered;
    orderly = λ bad. absurd (never-damaged answer bad);
    after = up;
    failed = cause;
    known = λ told saw. subst (λ (v : Option Tables). CanStand cont_rules h place v) (sym (is told)) (fits told place);
    kept = λ alone told other reached. fits told other;
    held = λ alone told saw. is told;
    leaves = λ alone told. leaves told;
  }

  grows : (j : ContJournal) (more : List ContEntry) (f : ℕ) → j.entries ≡ h.journal.entries ++ more → j.max_entries ≡ h.journal.max_entries
      → j.max_bytes ≡ h.journal.max_bytes → h.faults ≤ f → GrowsOf h (later h j f)
  grows j more f entries max_entries max_bytes up = record {
    told = refl;
    opening = λ p. refl;
    entries = (more, entries);
    max_entries = max_entries;
    max_bytes = max_bytes;
    faults = up;
  }

  stays : (f : ℕ) → h.faults ≤ f → GrowsOf h (later h h.journal f)
  stays f up = grows h.journal [] f (sym (append-nil h.journal.entries)) refl refl up

  pub refused : (answer : ContAnswer) → cont_refusal read place change ≡ Some answer
      → ChangesContainer true h s place change answer (later h h.journal h.faults) (s place)
  refused answer stands_so = ended true answer [] h.journal h.faults (s place) (stays h.faults (omega arith))
      (subst (λ (e : Ending). EndsSeen cont_rules e read h.journal place change answer [] h.journal) (sym (refusal-ends read place change answer stands_so))
      (record { leaves = record { not_made = refl; same = refl }; refused = stands_so }))
      (λ fails. absurd (refuses-fine (sym (refusal-ends read place change answer stands_so) ∙ fails))) (λ told. refl)

  pub full : cont_refusal read place change ≡ None → cont_room h.journal read (entries_for read place change) ≡ false
      → ChangesContainer true h s place change conts.JournalFull (later h h.journal h.faults) (s place)
  full allowed lacks = ended true conts.JournalFull [] h.journal h.faults (s place) (stays h.faults (omega arith))
      (record { leaves = record { not_made = refl; same = refl }; not_refused = allowed; full = lacks }) (λ fails. cc) (λ told. refl)

  pub wanted : (entries : List ContEntry) (f : ℕ) (t : Option Tables) → entries ≡ h.journal.entries → h.faults ≤ f → (h.told ≡ true → t ≡ s place)
      → ChangesContainer true h s place change conts.NoMemory (later h (record h.journal { entries = entries }) f) t
  wanted entries f t same up now =
      rw same (ended false conts.NoMemory [] h.journal f t (stays f up) (record { not_made = refl; same = refl }) (λ fails. cc) now)

  pub done : (answer : ContAnswer) (entries : List ContEntry) (f : ℕ) (t : Option Tables) → cont_refusal read place change ≡ None
      → cont_room h.journal read (entries_for read place change) ≡ true → entries ≡ h.journal.entries ++ entries_for read place change
      → answer ≡ cont_made_answer read change (length entries) → h.faults ≤ f
      → (h.told ≡ true → t ≡ fold entered (s place) (entries_for read place change))
      → ChangesContainer true h s place change answer (later h (record h.journal { entries = entries }) f) t
  done answer entries f t allowed room are so up now =
      let ends : cont_ending answer ≡ Makes = ap cont_ending so ∙ made-ends read change (length entries) in
      let j : ContJournal = record h.journal { entries = entries } in
      ended true answer (entries_for read place change) j f t (grows j (entries_for read place change) f are refl refl up)
      (subst (λ (e : Ending). EndsSeen cont_rules e read h.journal place change answer (entries_for read place change) j) (sym ends)
      (record {
        not_refused = allowed;
        room = room;
        is_made = refl;
        entered = ap (λ (es : List ContEntry). record h.journal { entries = es }) are;
        answer_is = so;
      }))
      (λ fails. absurd (makes-fine (sym ends ∙ fails))) now

  -- its commit failed, and it was made or wasn't
  pub doubted : (batch : List ContEntry) (f : ℕ) (t : Option Tables) → cont_refusal read place change ≡ None
      → cont_room h.journal read (entries_for read place change) ≡ true → batch ≡ entries_for read place change → batch ≢ [] → HasRisen h.faults f
      → h.faults ≤ f → (h.told ≡ true → (t ≡ s place) ⊎ (t ≡ fold entered (s place) batch))
      → ChangesContainer true h s place change conts.Failed (later h (record h.journal { doubts = batch ∷ [] }) f) t
  doubted batch f t allowed room are full risen up now =
      ended true conts.Failed was.0 j f t (grows j [] f (sym (append-nil h.journal.entries)) refl refl up)
      (record {
        not_refused = allowed;
        room = room;
        first = [];
        here = batch;
        behind = [];
        cut = ap one_batch (sym are) ∙ batch-is batch full;
        doubted = true;
        may_doubt = λ x. refl;
        is_made = elim was.1 [ inl nothing ↦ inl nothing | inr all ↦ inr (refl, all) ];
        entered = λ i. record h.journal {
          entries = sym (append-nil h.journal.entries) i;
          doubts = ap (λ (ds : List (List ContEntry)). ds ++ batch ∷ []) (sym none) i;
        };
      })
      (λ fails. risen) was.2
    where
      j : ContJournal
      j = record h.journal { doubts = batch ∷ [] }

      by : (b : Bool) → h.told ≡ b
          → (made : List ContEntry) × ((made ≡ []) ⊎ (made ≡ batch)) × (h.told ≡ true → t ≡ fold entered (s place) made)
      by true told = elim (now told) [ inl same ↦ ([], inl refl, λ x. same) | inr made ↦ (batch, inr refl, λ x. made) ]
      by false isnt = ([], inl refl, λ told. let never : false ≡ true = sym isnt ∙ told in cc)

      was : (made : List ContEntry) × ((made ≡ []) ⊎ (made ≡ batch)) × (h.told ≡ true → t ≡ fold entered (s place) made)
      was = by h.told refl

-- ---- a doubt is settled first

pub risen-from : (a b c : ℕ) → a ≤ b → HasRisen b c → HasRisen a c
risen-from a b c up (inl more) = inl (omega (arith, up, more))
risen-from a b c up (inr end) = inr end

pub after-settling : (h i g : ContHistory) (s s' : Place → Option Tables) (t : Option Tables) (place : Place) (change : ContChange) (answer : ContAnswer)
    → GrowsOf h i → OnlySettles cont_rules (λ p. true) h i → (h.told ≡ true → (p : Place) → s' p ≡ s p)
    → ChangesContainer true i s' place change answer g t → ChangesContainer true h s place change answer g t
after-settling h i g s s' t place change answer up settles same step = record {
  own = step.own;
  before = step.before;
  looked = step.looked;
  read = step.read;
  made = step.made;
  follows = grows-trans h i step.before up step.follows;
  settles = λ alone. settles-both cont_rules (λ p. true) settles.0 (step.settles alone).0 h.journal i.journal step.before.journal settles.1
      (step.settles alone).1;
  settled = step.settled;
  answered = step.answered;
  orderly = step.orderly;
  after = step.after;
  failed = λ fails. risen-from h.faults i.faults g.faults up.faults (step.failed fails);
  known = step.known;
  kept = λ alone told p reached. subst (λ (v : Option Tables). CanStand cont_rules step.before p v) (same (first told) p) (step.kept alone told p reached);
  held = λ alone told saw. step.held alone told saw ∙ same (first told) place;
  leaves = λ alone told. step.leaves alone told ∙ ap (λ (v : Option Tables). fold entered v step.made) (same (first told) place);
}
  where
    first : step.before.told ≡ true → h.told ≡ true
    first told = sym (step.follows.told ∙ up.told) ∙ told

unseen : (e : Ending) (j : ContJournal) → look_by e ≢ Tells → EndsUnseen cont_rules e j [] j
unseen Fails j fault = record { not_made = refl; same = refl }
unseen Wants j fault = record { not_made = refl; same = refl }
unseen Damages j fault = record { not_made = refl; same = refl }
unseen Makes j fault = absurd (fault refl)
unseen Refuses j fault = absurd (fault refl)
unseen Overflows j fault = absurd (fault refl)

-- the doubt wasn't settled, or the tables weren't read
pub unready : (h i : ContHistory) (s : Place → Option Tables) (t : Option Tables) (place : Place) (change : ContChange) (answer : ContAnswer)
    → GrowsOf h i → OnlySettles cont_rules (λ p. true) h i → (i.told ≡ true → (p : Place) → CanStand cont_rules i p (s p))
    → (i.told ≡ true → t ≡ s place) → look_by (cont_ending answer) ≢ Tells → (cont_ending answer ≡ Fails → HasRisen h.faults i.faults)
    → ChangesContainer true h s place change answer i t
unready h i s t place change answer up settles fits same fault cause = record {
  own = refl;
  before = i;
  looked = false;
  read = None;
  made = [];
  follows = up;
  settles = λ alone. settles;
  settled = λ saw. let never : false ≡ true = saw in cc;
  answered = unseen (cont_ending answer) i.journal fault;
  orderly = λ bad. absurd (never-damaged answer bad);
  after = grows-refl i;
  failed = cause;
  known = λ told saw. let never : false ≡ true = saw in cc;
  kept = λ alone told p reached. fits told p;
  held = λ alone told saw. let never : false ≡ true = saw in cc;
  leaves = λ alone told. same told;
}

-- ---- reads

damaged-so : (e : Ending) → look_by e ≡ IsDamaged → e ≡ Damages
damaged-so Damages is = refl
damaged-so Makes is = cc
damaged-so Refuses is = cc
damaged-so Overflows is = cc
damaged-so Fails is = cc
damaged-so Wants is = cc

lost-so : (e : Ending) → look_by e ≡ IsLost → e ≡ Fails
lost-so Fails is = refl
lost-so Makes is = cc
lost-so Refuses is = cc
lost-so Overflows is = cc
lost-so Damages is = cc
lost-so Wants is = cc

lost-apart : Tells ≡ IsLost → ⊥
lost-apart is = cc

damaged-apart : Tells ≡ IsDamaged → ⊥
damaged-apart is = cc

module _ {B : Type 0} (h g : ContHistory) (place : Place) (t : Place → Option Tables) (reading : Option Tables → ℕ → Result B ContAnswer) (up : GrowsOf h g)
    (settles : OnlySettles cont_rules (λ (p : Place). true) h g) (fits : g.told ≡ true → (p : Place) → CanStand cont_rules g p (t p)) where
  -- the tables that are loaded tell what is read
  pub reads : (tables : Option Tables) (got : Result B ContAnswer) → g.journal.doubts ≡ [] → (g.told ≡ true → tables ≡ t place)
      → got ≡ reading tables (length g.journal.entries) → cont_look got ≡ Tells → ReadsContainer true h place reading got g t
  reads tables got none held shown tells = record {
    read = λ p. at g.told p;
    follows = up;
    settles = λ alone. settles;
    settled = λ saw key is. none-of key g.journal.doubts none;
    shown = λ saw. shown ∙ ap (λ (v : Option Tables). reading v (length g.journal.entries)) (sym (here g.told refl));
    orderly = λ bad. absurd (damaged-apart (sym tells ∙ bad));
    failed = λ lost. absurd (lost-apart (sym tells ∙ lost));
    known = λ told saw key is. subst (λ (b : Bool). CanStand cont_rules g key (at b key)) (sym told) (fits told key);
    kept = λ alone told key is. fits told key;
    held = λ alone told saw key is. ap (λ (b : Bool). at b key) told;
  }
    where
      at : Bool → Place → Option Tables
      at true p = t p
      at false p = tables

      here : (b : Bool) → g.told ≡ b → at b place ≡ tables
      here true told = sym (held told)
      here false isnt = refl

  -- they weren't read
  pub reads-none : (answer : ContAnswer) → look_by (cont_ending answer) ≢ Tells → (cont_ending answer ≡ Fails → HasRisen h.faults g.faults)
      → ReadsContainer true h place reading (Err answer) g t
  reads-none answer fault cause = record {
    read = t;
    follows = up;
    settles = λ alone. settles;
    settled = λ saw. absurd (fault saw);
    shown = λ saw. absurd (fault saw);
    orderly = λ bad. absurd (never-damaged answer (damaged-so (cont_ending answer) bad));
    failed = λ lost. cause (lost-so (cont_ending answer) lost);
    known = λ told saw. absurd (fault saw);
    kept = λ alone told key is. fits told key;
    held = λ alone told saw. absurd (fault saw);
  }

pub info-tells : (t : Option Tables) (front : ℕ) → cont_look (info_of t front) ≡ Tells
info-tells None front = refl
info-tells (Some t) front = by (is_no_time (deletion_after t.put_time t.delete_time))
  where
    by : (b : Bool) → cont_look {A = Info} (if b then Ok (told_of front t) else Err conts.Absent) ≡ Tells
    by true = refl
    by false = refl

pub listing-tells : (query : Query) (t : Option Tables) (front : ℕ) → cont_look (listing_of query t front) ≡ Tells
listing-tells query None front = refl
listing-tells query (Some t) front = by (is_no_time (deletion_after t.put_time t.delete_time))
  where
    by : (b : Bool) → cont_look (if b then Ok (listing query (unserved t)) else Err conts.Absent) ≡ Tells
    by true = refl
    by false = refl

pub parcel-tells : (device : ℕ) (t : Option Tables) (front : ℕ) → cont_look (parcel_of device t front) ≡ Tells
parcel-tells device None front = refl
parcel-tells device (Some t) front = by (is_no_time (deletion_after t.put_time t.delete_time))
  where
    by : (b : Bool) → cont_look {A = Parcel} (if b then Ok (record {
      rows = rows_above (option_map_or (λ (rowid : ℕ). rowid) (point_at t.syncs 0 device) 0) t.rows.list;
      top = t.rows.top;
    }) else Err conts.Absent) ≡ Tells
    by true = refl
    by false = refl

pub shown-tells : {A : Type 0} (t : Option Tables) (told : Tables → A) → cont_look (where_present t told) ≡ Tells
shown-tells None told = refl
shown-tells {A} (Some t) told = by (is_no_time (deletion_after t.put_time t.delete_time))
  where
    by : (b : Bool) → cont_look {A = A} (if b then Ok (told t) else Err conts.Absent) ≡ Tells
    by true = refl
    by false = refl

pub range-parcel-tells : (range point : ℕ) (t : Option Tables) (front : ℕ) → cont_look (range_parcel_of range point t front) ≡ Tells
range-parcel-tells range point None front = refl
range-parcel-tells range point (Some t) front = by (is_no_time (deletion_after t.put_time t.delete_time)) t.ranges
  where
    by : (b : Bool) (o : Option (List Range)) → cont_look {A = Parcel} (if b then range_parcel o range point t else Err conts.Absent) ≡ Tells
    by true None = refl
    by true (Some ranges) = refl
    by false o = refl
