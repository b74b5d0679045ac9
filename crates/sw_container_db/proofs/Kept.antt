-- How the containers of one lock keep what is promised of them: what each call leaves is in order.
use Rattle.std.proofs.Common.{◌≡◌, ◌≢◌, ℕ, ◌+◌, ◌-◌, ◌^◌, Bool, true, List, [], ◌∷◌, ◌++◌, length, refl, sym, ◌∙◌, ap, subst, arith}
use Rattle.std.proofs.Common.{length-append, nat_le, ◌&&◌, Option, Some, None, IsSome, Contains, ◌⊎◌, inl, inr, ◌↔◌}
use Rattle.std.specs.List.{fold}
use Rattle.std.proofs.lemmas.List.{append-nil}
use Rattle.std.proofs.lemmas.List.Elements.{All-pop, All-weaker}
use Rattle.sw_hashpath.specs.declared.place.Place.{Place}
use Rattle.sw_keeper.specs.Keeping.{ListsPlaces}
use Rattle.sw_keeper.specs.declared.tables.Tables.{Tables}
use Rattle.sw_step.proofs.Keeping.{about-other, about-own, isnt-about, keeps-held, keeps-its-key, stand-more}
use Rattle.sw_step.proofs.Settled.{can-tell, tell}
use Rattle.sw_step.specs.Journals.{flat}
use Rattle.sw_step.specs.Rules.{AreChosen, AreOf, CanStand, IsOf, about, doubts_about, stands}
use Rattle.sw_step.specs.Steps.{OnlySettles, SettlesOne}
use Rattle.sw_container_steps.proofs.Placing.{place-cases}
use Rattle.sw_container_steps.proofs.Ruling.{are-rules}
use Rattle.sw_container_steps.specs.Entries.{entered, rows_in, top_of}
use Rattle.sw_container_steps.specs.Laws.{sign_of}
use Rattle.sw_container_steps.specs.Rules.{ChangesContainer, ContHistory, ContJournal, cont_room, cont_rules, one_batch}
use Rattle.sw_container_steps.specs.declared.cont_answer.ContAnswer.{ContAnswer}
use Rattle.sw_container_steps.specs.declared.cont_change.ContChange.{ContChange}
use Rattle.sw_container_steps.specs.declared.cont_entry.ContEntry.{ContEntry}
use Rattle.sw_container_db.specs.ContDirs.{AreHeld, AreOwn, ContKept, IsContDir, IsSigned, cont_history_of, doubts_in}
use Rattle.sw_container_db.specs.LoadedList.{Lacks, tables_at}
use Rattle.sw_container_db.specs.declared.loaded_list.Loaded.{Loaded}
use Rattle.sw_container_db.specs.declared.sign.Doubt.{Doubt}

no-doubt : (doubt : Option Doubt) (stood : Place → Option Tables) → doubts_in doubt ≡ [] → IsSigned doubt stood
no-doubt None stood none = record {}
no-doubt (Some d) stood none = let never : d.batch.items ∷ [] ≡ [] = none in cc

pub still-held : (loaded : List Loaded) (before now : Place → Option Tables) → ((p : Place) → now p ≡ before p) → AreHeld loaded before → AreHeld loaded now
still-held loaded before now same are =
    All-weaker (λ (l : Loaded). l.tables ≡ before l.place) (λ (l : Loaded). l.tables ≡ now l.place) (λ l is. is ∙ sym (same l.place)) loaded are

-- what has changed is held at another place
pub others-held : (others : List Loaded) (place : Place) (before now : Place → Option Tables) → ((p : Place) → p ≢ place → now p ≡ before p)
    → Lacks place others → AreHeld others before → AreHeld others now
others-held others place before now away lacks are k d within = are k d within ∙ sym (away _ (lacks k d within))

pub held-parts : (loaded others : List Loaded) (l : Loaded) (held : Place → Option Tables) → loaded ≡ others ++ l ∷ [] → AreHeld loaded held
    → AreHeld others held × (l.tables ≡ held l.place)
held-parts loaded others l held one are = All-pop (λ (m : Loaded). m.tables ≡ held m.place) loaded others (Some l) one are

pub lists : (places : List Place) (held stood : Place → Option Tables) → ((p : Place) → held p ≡ stood p) → ListsPlaces places (λ p. IsSome (held p))
    → ListsPlaces places (λ p. IsSome (stood p))
lists places held stood same all = record {
  ascending = all.ascending;
  exact = λ p. subst (λ (t : Option Tables). Contains places p ↔ IsSome t) (same p) (all.exact p);
}

-- ---- the keeper and its journal

module _ {K : Type 0} (tells : K → Bool) (holds : K → Place → Option Tables) (faults : K → ℕ) (k : ContKept K) (doubt : Option Doubt)
    (node : IsContDir tells holds faults k doubt) where
  abbrev h : ContHistory
  h = cont_history_of tells holds faults k

  abbrev stood : Place → Option Tables
  stood place = stands cont_rules (cont_history_of tells holds faults k) place

  -- with no doubt left the entries tell what is held
  pub fits-none : k.journal.doubts ≡ [] → tells k.began ≡ true → (place : Place) →
      stands cont_rules (cont_history_of tells holds faults k) place ≡ holds k.keeper place
  fits-none none told place = sym (tell cont_rules h place (holds k.keeper place) (node.fits told place) (ap (doubts_about cont_rules place) none))

  -- the tables that were used last are held
  pub last-held : (others : List Loaded) (place : Place) (read : Option Tables) → k.loaded ≡ others ++ tables_at place read ∷ [] → tells k.keeper ≡ true
      → read ≡ holds k.keeper place
  last-held others place read at told =
      let parts = held-parts k.loaded others (tables_at place read) (holds k.keeper) at (node.held (sym node.same ∙ told)) in parts.1

  -- the keeper was called, and holds what it held
  pub kept-same : (keeper : K) (fresh : List ContEntry) (entries : List ContEntry) (now_loaded : List Loaded) → tells keeper ≡ tells k.keeper
      → (tells k.keeper ≡ true → (p : Place) → holds keeper p ≡ holds k.keeper p) → entries ≡ k.journal.entries
      → (tells k.began ≡ true → AreHeld now_loaded (holds keeper)) → IsContDir tells holds faults
      (record { keeper = keeper; began = k.began; loaded = now_loaded; fresh = fresh; journal = record k.journal { entries = entries } }) doubt
  kept-same keeper fresh entries now_loaded told same are still = rw are (record {
    same = told ∙ node.same;
    doubts = node.doubts;
    own = node.own;
    fits = λ is p. subst (λ (v : Option Tables). CanStand cont_rules h p v) (sym (same (node.same ∙ is) p)) (node.fits is p);
    signed = node.signed;
    held = still;
  })

  -- the doubt is put back
  pub kept-back : (d : Doubt) → doubt ≡ Some d → (keeper : K) (fresh : List ContEntry) (entries : List ContEntry) (now_loaded : List Loaded)
      → tells keeper ≡ tells k.keeper
      → (tells k.keeper ≡ true → (p : Place) → holds keeper p ≡ holds k.keeper p) → entries ≡ k.journal.entries
      → (tells k.began ≡ true → AreHeld now_loaded (holds keeper)) → IsContDir tells holds faults
      (record {
        keeper = keeper;
        began = k.began;
        loaded = now_loaded;
        fresh = fresh;
        journal = record k.journal { entries = entries; doubts = d.batch.items ∷ [] };
      }) (Some d)
  kept-back d one keeper fresh entries now_loaded told same are still = rw are (record {
    same = told ∙ node.same;
    doubts = refl;
    own = subst AreOwn one node.own;
    fits = λ is p. subst (λ (ds : List (List ContEntry)). CanStand cont_rules (record h { journal = record k.journal { doubts = ds } }) p (holds keeper p))
        (node.doubts ∙ ap doubts_in one)
        (subst (λ (v : Option Tables). CanStand cont_rules h p v) (sym (same (node.same ∙ is) p)) (node.fits is p));
    signed = λ is. subst (λ (x : Option Doubt). IsSigned x stood) one (node.signed is);
    held = still;
  })

  -- ---- what a step leaves, by the laws of steps

  pub fits-after : (g : ContHistory) (place : Place) (change : ContChange) (answer : ContAnswer) (now : Place → Option Tables)
      → ChangesContainer true (cont_history_of tells holds faults k) (holds k.keeper) place change answer g (now place)
      → (tells k.keeper ≡ true → (p : Place) → p ≢ place → now p ≡ holds k.keeper p) → tells k.began ≡ true → g.told ≡ true → (p : Place)
      → CanStand cont_rules g p (now p)
  fits-after g place change answer now step others told tell p = elim (place-cases p place) [
    | inl here ↦ subst (λ (x : Place). CanStand cont_rules g x (now x)) (sym here)
        (keeps-its-key cont_rules h (holds k.keeper) place change answer g (now place) are-rules step tell)
    | inr away ↦ subst (λ (v : Option Tables). CanStand cont_rules g p v) (sym (others (node.same ∙ told) p away))
        (keeps-held cont_rules h (holds k.keeper) place change answer g (now place) p are-rules step away tell (node.fits told p))
  ]

  -- a batch was entered
  pub kept-entered : (keeper : K) (fresh : List ContEntry) (now_loaded : List Loaded) (entries : List ContEntry) (place : Place) (change : ContChange)
      (answer : ContAnswer) → k.journal.doubts ≡ [] → tells keeper ≡ tells k.keeper
      → (tells k.keeper ≡ true → (p : Place) → p ≢ place → holds keeper p ≡ holds k.keeper p)
      → ChangesContainer true (cont_history_of tells holds faults k) (holds k.keeper) place change answer
      (record { told = tells k.began; opening = holds k.began; journal = record k.journal { entries = entries }; faults = faults keeper }) (holds keeper place)
      → (tells k.began ≡ true → AreHeld now_loaded (holds keeper)) → IsContDir tells holds faults
      (record { keeper = keeper; began = k.began; loaded = now_loaded; fresh = fresh; journal = record k.journal { entries = entries } }) doubt
  kept-entered keeper fresh now_loaded entries place change answer none told others step still = record {
    same = told ∙ node.same;
    doubts = node.doubts;
    own = node.own;
    fits = λ is. fits-after _ place change answer (holds keeper) step others is is;
    signed = λ is. no-doubt doubt _ (sym node.doubts ∙ none);
    held = still;
  }

  -- a commit failed
  pub kept-doubted : (keeper : K) (fresh : List ContEntry) (now_loaded : List Loaded) (d : Doubt) (change : ContChange) (answer : ContAnswer)
      → k.journal.doubts ≡ [] → tells keeper ≡ tells k.keeper
      → (tells k.keeper ≡ true → (p : Place) → p ≢ d.place → holds keeper p ≡ holds k.keeper p)
      → ChangesContainer true (cont_history_of tells holds faults k) (holds k.keeper) d.place change answer
      (record { told = tells k.began; opening = holds k.began; journal = record k.journal { doubts = d.batch.items ∷ [] }; faults = faults keeper })
      (holds keeper d.place)
      → (tells k.keeper ≡ true → d.sign ≡ sign_of d.batch.items (holds k.keeper d.place))
      → (tells k.keeper ≡ true → sign_of d.batch.items (fold entered (holds k.keeper d.place) d.batch.items) ≢ d.sign)
      → IsOf cont_rules d.place d.batch.items → (tells k.began ≡ true → AreHeld now_loaded (holds keeper)) → IsContDir tells holds faults
      (record { keeper = keeper; began = k.began; loaded = now_loaded; fresh = fresh; journal = record k.journal { doubts = d.batch.items ∷ [] } })
      (Some d)
  kept-doubted keeper fresh now_loaded d change answer none told others step sign apart own still = record {
    same = told ∙ node.same;
    doubts = refl;
    own = own;
    fits = λ is. fits-after _ d.place change answer (holds keeper) step others is is;
    signed = λ is.
        let here : stood d.place ≡ holds k.keeper d.place = fits-none none is d.place in (
          sign (node.same ∙ is) ∙ ap (sign_of d.batch.items) (sym here),
          subst (λ (t : Option Tables). sign_of d.batch.items (fold entered t d.batch.items) ≢ d.sign) (sym here) (apart (node.same ∙ is)),
        );
    held = still;
  }

  -- ---- what settling leaves

  module _ (d : Doubt) (one : doubt ≡ Some d) where
    own : IsOf cont_rules d.place d.batch.items
    own = subst AreOwn one node.own

    doubts : k.journal.doubts ≡ d.batch.items ∷ []
    doubts = node.doubts ∙ ap doubts_in one

    signed : tells k.began ≡ true → IsSigned (Some d) stood
    signed is = subst (λ (x : Option Doubt). IsSigned x stood) one (node.signed is)

    elsewhere : tells k.began ≡ true → (p : Place) → p ≢ d.place → holds k.keeper p ≡ stood p
    elsewhere is p away = tell cont_rules h p (holds k.keeper p) (node.fits is p) (ap (doubts_about cont_rules p) doubts
        ∙ rw (isnt-about cont_rules are-rules d.place p d.batch.items away own.all) refl)

    -- it was made or it wasn't
    either : tells k.began ≡ true → (holds k.keeper d.place ≡ stood d.place) ⊎ (holds k.keeper d.place ≡ fold entered (stood d.place) d.batch.items)
    either is = by chosen.2
      where
        can : CanStand cont_rules h d.place (holds k.keeper d.place)
        can = node.fits is d.place

        alone : doubts_about cont_rules d.place k.journal.doubts ≡ d.batch.items ∷ []
        alone = ap (doubts_about cont_rules d.place) doubts ∙ rw own.is refl

        chosen : AreChosen cont_rules (d.batch.items ∷ []) can.0
        chosen = subst (λ (ds : List (List ContEntry)). AreChosen cont_rules ds can.0) alone can.1

        by : (can.0 ≡ chosen.0) ⊎ (can.0 ≡ d.batch.items ++ chosen.0)
            → (holds k.keeper d.place ≡ stood d.place) ⊎ (holds k.keeper d.place ≡ fold entered (stood d.place) d.batch.items)
        by (inl none) = inl (can.2 ∙ ap (λ (es : List ContEntry). fold entered (stood d.place) es) (none ∙ chosen.1))
        by (inr all) = inr (can.2 ∙ ap (λ (es : List ContEntry). fold entered (stood d.place) es)
            (all ∙ (ap (λ (es : List ContEntry). d.batch.items ++ es) chosen.1 ∙ append-nil d.batch.items)))

    -- the batch of a doubt had been made
    pub kept-settled : (keeper : K) (fresh : List ContEntry) (now_loaded : List Loaded) (entries : List ContEntry) → tells keeper ≡ tells k.keeper
        → (tells k.keeper ≡ true → (p : Place) → holds keeper p ≡ holds k.keeper p)
        → (tells k.keeper ≡ true → sign_of d.batch.items (holds k.keeper d.place) ≢ d.sign) → entries ≡ k.journal.entries ++ d.batch.items
        → (tells k.began ≡ true → AreHeld now_loaded (holds keeper)) → IsContDir tells holds faults
        (record {
          keeper = keeper;
          began = k.began;
          loaded = now_loaded;
          fresh = fresh;
          journal = record k.journal { entries = entries; doubts = [] };
        }) None
    kept-settled keeper fresh now_loaded entries told same apart are still = record {
      same = told ∙ node.same;
      doubts = refl;
      own = record {};
      fits = λ is p. subst (λ (v : Option Tables). CanStand cont_rules g p v) (sym (same (node.same ∙ is) p ∙ at is p)) (can-tell cont_rules g p);
      signed = λ is. record {};
      held = still;
    }
      where
        g : ContHistory
        g = record h { journal = record k.journal { entries = entries; doubts = [] }; faults = faults keeper }

        more : (p : Place) → stands cont_rules g p ≡ fold entered (stood p) (about cont_rules p d.batch.items)
        more p = stand-more cont_rules are-rules h g p d.batch.items (λ x. refl) are

        made : tells k.began ≡ true → holds k.keeper d.place ≡ fold entered (stood d.place) d.batch.items
        made is = elim (either is) [
          | inl unmade ↦ absurd (apart (node.same ∙ is) (ap (sign_of d.batch.items) unmade ∙ sym (signed is).0))
          | inr all ↦ all
        ]

        at : tells k.began ≡ true → (p : Place) → holds k.keeper p ≡ stands cont_rules g p
        at is p = elim (place-cases p d.place) [
          | inl here ↦ subst (λ (x : Place). holds k.keeper x ≡ stands cont_rules g x) (sym here)
              (made is ∙ (ap (fold entered (stood d.place)) (sym (about-own cont_rules are-rules d.place d.batch.items own.all)) ∙ sym (more d.place)))
          | inr away ↦ elsewhere is p away
              ∙ (ap (fold entered (stood p)) (sym (about-other cont_rules are-rules d.place p d.batch.items away own.all)) ∙ sym (more p))
        ]

    -- it had not been made
    pub kept-dropped : (keeper : K) (fresh : List ContEntry) (now_loaded : List Loaded) → tells keeper ≡ tells k.keeper
        → (tells k.keeper ≡ true → (p : Place) → holds keeper p ≡ holds k.keeper p)
        → (tells k.keeper ≡ true → sign_of d.batch.items (holds k.keeper d.place) ≡ d.sign)
        → (tells k.began ≡ true → AreHeld now_loaded (holds keeper)) → IsContDir tells holds faults
        (record { keeper = keeper; began = k.began; loaded = now_loaded; fresh = fresh; journal = record k.journal { doubts = [] } }) None
    kept-dropped keeper fresh now_loaded told same sign still = record {
      same = told ∙ node.same;
      doubts = refl;
      own = record {};
      fits = λ is p. subst (λ (v : Option Tables). CanStand cont_rules g p v) (sym (same (node.same ∙ is) p ∙ at is p)) (can-tell cont_rules g p);
      signed = λ is. record {};
      held = still;
    }
      where
        g : ContHistory
        g = record h { journal = record k.journal { doubts = [] }; faults = faults keeper }

        at : tells k.began ≡ true → (p : Place) → holds k.keeper p ≡ stood p
        at is p = elim (place-cases p d.place) [
          | inl here ↦ subst (λ (x : Place). holds k.keeper x ≡ stood x) (sym here)
              (elim (either is) [
                | inl unmade ↦ unmade
                | inr made ↦ absurd ((signed is).1 (ap (sign_of d.batch.items) (sym made) ∙ sign (node.same ∙ is)))
              ])
          | inr away ↦ elsewhere is p away
        ]

    -- what is settled is the doubt
    settles-one : (after : ContJournal) → (after ≡ record k.journal { doubts = [] })
        ⊎ (after ≡ record k.journal { entries = k.journal.entries ++ d.batch.items; doubts = [] })
        → SettlesOne cont_rules (λ place. true) k.journal after
    settles-one after so = record { front = []; doubt = d.batch.items; behind = []; among = doubts; is_at = (d.place, refl, own); settled = so }

    pub settles-made : (f : ℕ) (entries : List ContEntry) → entries ≡ k.journal.entries ++ d.batch.items → OnlySettles cont_rules (λ place. true)
        (cont_history_of tells holds faults k)
        (record { told = tells k.began; opening = holds k.began; journal = record k.journal { entries = entries; doubts = [] }; faults = f })
    settles-made f entries are = (
      1,
      (
        record k.journal { entries = entries; doubts = [] },
        settles-one (record k.journal { entries = entries; doubts = [] })
            (inr (ap (λ (es : List ContEntry). record k.journal { entries = es; doubts = [] }) are)),
        refl,
      ),
    )

    pub settles-dropped : (f : ℕ) → OnlySettles cont_rules (λ place. true) (cont_history_of tells holds faults k)
        (record { told = tells k.began; opening = holds k.began; journal = record k.journal { doubts = [] }; faults = f })
    settles-dropped f = (1, (record k.journal { doubts = [] }, settles-one (record k.journal { doubts = [] }) (inl refl), refl))

pub of-batch : (place : Place) (es : List ContEntry) → es ≢ [] → AreOf cont_rules place (one_batch es) → IsOf cont_rules place es
of-batch place [] full all = absurd (full refl)
of-batch place (e ∷ es) full all = all.0

-- ---- room

room-full : (j : ContJournal) (t : Option Tables) (entries : List ContEntry) → entries ≢ []
    → cont_room j t entries ≡ (nat_le (length j.entries + length (flat j.doubts) + length entries) j.max_entries && nat_le (top_of t + rows_in entries)
    (2 ^ 64 - 1))
room-full j t [] full = absurd (full refl)
room-full j t (e ∷ es) full = refl

pub room-is : (j : ContJournal) (t : Option Tables) (count more : ℕ) (batch entries : List ContEntry) (numbers b : Bool) → j.doubts ≡ [] →
    count ≡ length j.entries → more ≡ length batch → batch ≡ entries
    → batch ≢ [] → numbers ≡ nat_le (top_of t + rows_in batch) (2 ^ 64 - 1) → b ≡ (nat_le (count + more) j.max_entries && numbers) →
    cont_room j t entries ≡ b
room-is j t count more batch entries numbers b none counts mores same full nums is =
    let zero_left : length (flat j.doubts) ≡ 0 = ap (λ (ds : List (List ContEntry)). length (flat ds)) none in
    let many : length batch ≡ length entries = ap length same in
    let sum : length j.entries + length (flat j.doubts) + length entries ≡ count + more = omega (arith, counts, zero_left, mores, many) in
    let rows : nat_le (top_of t + rows_in entries) (2 ^ 64 - 1) ≡ numbers =
    ap (λ (e : List ContEntry). nat_le (top_of t + rows_in e) (2 ^ 64 - 1)) (sym same) ∙ sym nums in
    room-full j t entries (λ empty_so. full (same ∙ empty_so))
    ∙ (ap (λ (n : ℕ). nat_le n j.max_entries && nat_le (top_of t + rows_in entries) (2 ^ 64 - 1)) sum
    ∙ (ap (λ (q : Bool). nat_le (count + more) j.max_entries && q) rows ∙ sym is))

pub room-none : (j : ContJournal) (t : Option Tables) (entries : List ContEntry) → entries ≡ [] → cont_room j t entries ≡ true
room-none j t entries none = ap (λ (es : List ContEntry). cont_room j t es) none

pub front-is : (entries batch : List ContEntry) (count more : ℕ) → count ≡ length entries → more ≡ length batch → count + more ≡ length (entries ++ batch)
front-is entries batch count more counts mores = let sum : length (entries ++ batch) ≡ length entries + length batch = length-append entries batch in
    omega (arith, counts, mores, sum)

pub empty : (batch : List ContEntry) (more : ℕ) → more ≡ length batch → more ≡ 0 → batch ≡ []
empty [] more counts zero_so = refl
empty (x ∷ xs) more counts zero_so = absurd (omega (arith, counts, zero_so))

pub nonempty : (batch : List ContEntry) (more : ℕ) → more ≡ length batch → more ≢ 0 → batch ≢ []
nonempty batch more counts apart is = apart (counts ∙ ap length is)
