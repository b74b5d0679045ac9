-- Why a step keeps what the journal tells of the keys.
use Rattle.std.proofs.Common.{◌≡◌, ◌≢◌, ℕ, zero, suc, Bool, true, false, ◌||◌, if◌then◌else◌, List, [], ◌∷◌, ◌++◌, append_assoc}
use Rattle.std.proofs.Common.{refl, sym, ◌∙◌, ap, subst, inl, inr, ◌⊎◌, None}
use Rattle.std.specs.List.{fold}
use Rattle.std.proofs.lemmas.Bool.{cases_Bool}
use Rattle.std.proofs.lemmas.List.{append-nil}
use Rattle.std.proofs.lemmas.List.Elements.{filter-append}
use Rattle.std.proofs.lemmas.List.Sums.{fold-append}
use Rattle.sw_step.specs.Journals.{StepHistory, StepJournal, flat}
use Rattle.sw_step.specs.Laws.{KeepsHeld, KeepsItsKey, KeepsOthers}
use Rattle.sw_step.specs.Rules.{AllAt, AreChosen, AreOf, AreRules, CanStand, Damages, Ending, Fails, IsOf, Makes, NoneOf, Overflows, Refuses, RulesOf}
use Rattle.sw_step.specs.Rules.{Wants, about, doubts_about, is_about, stands}
use Rattle.sw_step.specs.Steps.{Answers, StepChanges, EndsSeen, EndsUnseen, Leaves, at_key, Settles, SettlesOne, Stops}

abbrev stop_shape : {E : Type 0} → StepJournal E → List E → List E → Bool → StepJournal E
stop_shape j es here b = record j { entries = j.entries ++ es; doubts = j.doubts ++ (if b then here ∷ [] else []) }

module _ {K V E C A : Type 0} (r : RulesOf K V E C A) (are : AreRules r) where
  pub about-own : (key : K) (es : List E) → AllAt r key es → about r key es ≡ es
  about-own key [] all = refl
  about-own key (e ∷ es) all =
      let here : r.is_key (r.key_of e) key ≡ true = subst (λ (k : K). r.is_key k key ≡ true) (sym all.0) (are.itself key) in
      rw here (ap (λ (xs : List E). e ∷ xs) (about-own key es all.1))

  isnt-key : (a b : K) → a ≢ b → r.is_key a b ≡ false
  isnt-key a b away = elim (cases_Bool (r.is_key a b)) [
    | inl is ↦ absurd (away (are.keys a b is))
    | inr isnt ↦ isnt
  ]

  pub about-other : (key other : K) (es : List E) → other ≢ key → AllAt r key es → about r other es ≡ []
  about-other key other [] away all = refl
  about-other key other (e ∷ es) away all =
      let here : r.is_key (r.key_of e) other ≡ false = isnt-key (r.key_of e) other (λ same. away (sym same ∙ all.0)) in
      rw here (about-other key other es away all.1)

  pub isnt-about : (key other : K) (d : List E) → other ≢ key → AllAt r key d → is_about r other d ≡ false
  isnt-about key other [] away all = refl
  isnt-about key other (e ∷ es) away all =
      let here : r.is_key (r.key_of e) other ≡ false = isnt-key (r.key_of e) other (λ same. away (sym same ∙ all.0)) in
      rw here (isnt-about key other es away all.1)

  -- where no doubt has an entry of a key, none of their entries is of it
  none-about : (key : K) (d : List E) → is_about r key d ≡ false → about r key d ≡ []
  none-about key [] isnt = refl
  none-about key (e ∷ es) isnt = elim (cases_Bool (r.is_key (r.key_of e) key)) [
    | inl is ↦ let never : (true || is_about r key es) ≡ false = subst (λ (b : Bool). (b || is_about r key es) ≡ false) is isnt in cc
    | inr not ↦ rw not (none-about key es (subst (λ (b : Bool). (b || is_about r key es) ≡ false) not isnt))
  ]

  pub none-doubted : (key : K) (ds : List (List E)) → doubts_about r key ds ≡ [] → about r key (flat ds) ≡ []
  none-doubted key [] none = refl
  none-doubted key (d ∷ ds) none = elim (cases_Bool (is_about r key d)) [
    | inl is ↦ let never : d ∷ doubts_about r key ds ≡ [] = rw is at none in cc
    | inr isnt ↦ filter-append (λ (e : E). r.is_key (r.key_of e) key) d (flat ds)
        ∙ (ap (λ (es : List E). es ++ about r key (flat ds)) (none-about key d isnt) ∙ none-doubted key ds (rw isnt at none))
  ]

  -- ---- chosen doubts

  chosen-none : (ds : List (List E)) (d : List E) (es : List E) → AreChosen r ds es → AreChosen r (ds ++ d ∷ []) es
  chosen-none [] d es are_chosen = ([], refl, inl are_chosen)
  chosen-none (x ∷ ds) d es are_chosen = (are_chosen.0, chosen-none ds d are_chosen.0 are_chosen.1, are_chosen.2)

  chosen-last : (ds : List (List E)) (d : List E) (es : List E) → AreChosen r ds es → AreChosen r (ds ++ d ∷ []) (es ++ d)
  chosen-last [] d es are_chosen = ([], refl, inr (rw are_chosen (sym (append-nil d))))
  chosen-last (x ∷ ds) d es are_chosen = (are_chosen.0 ++ d, chosen-last ds d are_chosen.0 are_chosen.1, by are_chosen.2)
    where
      by : (es ≡ are_chosen.0) ⊎ (es ≡ x ++ are_chosen.0) → (es ++ d ≡ are_chosen.0 ++ d) ⊎ (es ++ d ≡ x ++ (are_chosen.0 ++ d))
      by (inl same) = inl (ap (λ (xs : List E). xs ++ d) same)
      by (inr more) = inr (ap (λ (xs : List E). xs ++ d) more ∙ append_assoc x are_chosen.0 d)

  -- ---- what a key can stand for

  pub stand-more : (h g : StepHistory K V E) (key : K) (es : List E) → ((k : K) → g.opening k ≡ h.opening k) → g.journal.entries ≡ h.journal.entries ++ es
      → stands r g key ≡ fold r.applied (stands r h key) (about r key es)
  stand-more h g key es opening entries =
      ap (λ (v : V). fold r.applied v (about r key g.journal.entries)) (opening key)
      ∙ (ap (λ (xs : List E). fold r.applied (h.opening key) (about r key xs)) entries
      ∙ (ap (λ (xs : List E). fold r.applied (h.opening key) xs) (filter-append (λ (e : E). r.is_key (r.key_of e) key) h.journal.entries es)
      ∙ fold-append r.applied (h.opening key) (about r key h.journal.entries) (about r key es)))

  stand-same : (h g : StepHistory K V E) (key : K) (v : V) → ((k : K) → g.opening k ≡ h.opening k) → g.journal ≡ h.journal
      → CanStand r h key v → CanStand r g key v
  stand-same h g key v opening same can = (
    can.0,
    subst (λ (j : StepJournal E). AreChosen r (doubts_about r key j.doubts) can.0) (sym same) can.1,
    can.2 ∙ ap (λ (w : V). fold r.applied w can.0)
        (ap (λ (w : V). fold r.applied w (about r key h.journal.entries)) (sym (opening key))
        ∙ ap (λ (j : StepJournal E). fold r.applied (g.opening key) (about r key j.entries)) (sym same)),
  )

  -- all doubts of a list are passed over by what the step makes
  pass-doubts : (read : V) (w : V) (key : K) (change : C) (es : List E) (ds : List (List E)) (made : List E)
      → ((w : V) (d : List E) → r.touches read key change d ≡ false → fold r.applied (fold r.applied w d) es ≡ fold r.applied (fold r.applied w es) d)
      → NoneOf (r.touches read key change) ds → AreChosen r ds made
      → fold r.applied (fold r.applied w made) es ≡ fold r.applied (fold r.applied w es) made
  pass-doubts read w key change es [] made apart none are_chosen = rw are_chosen refl
  pass-doubts read w key change es (d ∷ ds) made apart none are_chosen =
      by are_chosen.2 (λ x. pass-doubts read x key change es ds are_chosen.0 apart none.1 are_chosen.1)
    where
      by : (made ≡ are_chosen.0) ⊎ (made ≡ d ++ are_chosen.0)
          → ((x : V) → fold r.applied (fold r.applied x are_chosen.0) es ≡ fold r.applied (fold r.applied x es) are_chosen.0)
          → fold r.applied (fold r.applied w made) es ≡ fold r.applied (fold r.applied w es) made
      by (inl same) rest = rw same (rest w)
      by (inr more) rest =
          ap (λ (xs : List E). fold r.applied (fold r.applied w xs) es) more
          ∙ (ap (λ (x : V). fold r.applied x es) (fold-append r.applied w d are_chosen.0)
          ∙ (rest (fold r.applied w d)
          ∙ (ap (λ (x : V). fold r.applied x are_chosen.0) (apart w d none.0)
          ∙ (sym (fold-append r.applied (fold r.applied w es) d are_chosen.0)
          ∙ ap (λ (xs : List E). fold r.applied (fold r.applied w es) xs) (sym more)))))

  all-front : (key : K) (first rest : List (List E)) → AreOf r key (first ++ rest) → AreOf r key first
  all-front key [] rest all = tt
  all-front key (x ∷ first) rest all = (all.0, all-front key first rest all.1)

  at-end : (key : K) (first : List (List E)) (here : List E) (behind : List (List E)) → AreOf r key (first ++ here ∷ behind) → IsOf r key here
  at-end key [] here behind all = all.0
  at-end key (x ∷ first) here behind all = at-end key first here behind all.1

  all-append : (key : K) (xs ys : List E) → AllAt r key xs → AllAt r key ys → AllAt r key (xs ++ ys)
  all-append key [] ys p q = q
  all-append key (x ∷ xs) ys p q = (p.0, all-append key xs ys p.1 q)

  all-flat : (key : K) (first : List (List E)) → AreOf r key first → AllAt r key (flat first)
  all-flat key [] all = tt
  all-flat key (x ∷ first) all = all-append key x (flat first) all.0.all (all-flat key first all.1)

  -- ---- one step

  -- what was entered behind the history at which it was answered, and what it left in doubt
  pub record Ended (h : StepHistory K V E) (s : V) (key : K) (g : StepHistory K V E) (t : V) : Type 0 where
    pub new : List E
    pub entered : g.journal.entries ≡ h.journal.entries ++ new
    pub own : AllAt r key new
    pub doubted : List (List E)
    pub doubts : g.journal.doubts ≡ h.journal.doubts ++ doubted
    pub doubts_own : AreOf r key doubted
    pub can : CanStand r h key s → h.told ≡ true → CanStand r g key t

  module _ (h g : StepHistory K V E) (s t : V) (key : K) (change : C) (answer : A) (read : V) (made : List E)
      (own_is : r.is_for key change ≡ true) (opening : (k : K) → g.opening k ≡ h.opening k) (leaves : h.told ≡ true → t ≡ fold r.applied s made) where
    left : Leaves r h.journal made g.journal → Ended h s key g t
    left l = record {
      new = [];
      entered = ap (λ (j : StepJournal E). j.entries) l.same ∙ sym (append-nil h.journal.entries);
      own = tt;
      doubted = [];
      doubts = ap (λ (j : StepJournal E). j.doubts) l.same ∙ sym (append-nil h.journal.doubts);
      doubts_own = tt;
      can = λ can told.
          subst (λ (v : V). CanStand r g key v) (sym (leaves told ∙ ap (λ (es : List E). fold r.applied s es) l.not_made))
          (stand-same h g key s opening l.same can);
    }

    module _ (none : NoneOf (r.touches read key change) (doubts_about r key h.journal.doubts)) (held : h.told ≡ true → read ≡ s) where
      -- entries came, which the doubts that stay may as well follow
      more : (es : List E) → AllAt r key es → made ≡ es
          → ((w : V) (d : List E) → r.touches read key change d ≡ false → fold r.applied (fold r.applied w d) es ≡ fold r.applied (fold r.applied w es) d)
          → g.journal ≡ record h.journal { entries = h.journal.entries ++ es }
          → Ended h s key g t
      more es all made_is apart same = record {
        new = es;
        entered = ap (λ (j : StepJournal E). j.entries) same;
        own = all;
        doubted = [];
        doubts = ap (λ (j : StepJournal E). j.doubts) same ∙ sym (append-nil h.journal.doubts);
        doubts_own = tt;
        can = λ can told. (
          can.0,
          subst (λ (j : StepJournal E). AreChosen r (doubts_about r key j.doubts) can.0) (sym same) can.1,
          leaves told
              ∙ (ap (λ (xs : List E). fold r.applied s xs) made_is
              ∙ (ap (λ (v : V). fold r.applied v es) can.2
              ∙ (pass-doubts read (stands r h key) key change es (doubts_about r key h.journal.doubts) can.0 apart none can.1
              ∙ ap (λ (v : V). fold r.applied v can.0)
              (ap (λ (xs : List E). fold r.applied (stands r h key) xs) (sym (about-own key es all))
              ∙ sym (stand-more h g key es opening (ap (λ (j : StepJournal E). j.entries) same)))))),
        );
      }

      module _ (allowed : r.refusal read key change ≡ None) (first : List (List E)) (here : List E) (behind : List (List E))
          (cut : r.changes_for read key change ≡ first ++ here ∷ behind) where
        all : AreOf r key (first ++ here ∷ behind)
        all = subst (AreOf r key) cut (are.own_changes read key change own_is)

        firsts : AreOf r key first
        firsts = all-front key first (here ∷ behind) all

        free-first : (w : V) (d : List E) → r.touches read key change d ≡ false
            → fold r.applied (fold r.applied w d) (flat first) ≡ fold r.applied (fold r.applied w (flat first)) d
        free-first w d free = are.apart_first read w key change d first (here ∷ behind) allowed free cut

        undoubted : made ≡ flat first → g.journal ≡ record h.journal { entries = h.journal.entries ++ flat first; doubts = h.journal.doubts ++ [] }
            → Ended h s key g t
        undoubted made_is entered = more (flat first) (all-flat key first firsts) made_is free-first
            (entered ∙ (λ i. record h.journal { entries = h.journal.entries ++ flat first; doubts = append-nil h.journal.doubts i }))

        in-doubt : (made ≡ flat first) ⊎ (made ≡ flat first ++ here)
            → g.journal ≡ record h.journal { entries = h.journal.entries ++ flat first; doubts = h.journal.doubts ++ here ∷ [] } → Ended h s key g t
        in-doubt made_is entered = record {
          new = flat first;
          entered = ap (λ (j : StepJournal E). j.entries) entered;
          own = all-flat key first firsts;
          doubted = here ∷ [];
          doubts = ap (λ (j : StepJournal E). j.doubts) entered;
          doubts_own = (last, tt);
          can = λ can told. by can told made_is;
        }
          where
            last : IsOf r key here
            last = at-end key first here behind all

            now : doubts_about r key g.journal.doubts ≡ doubts_about r key h.journal.doubts ++ here ∷ []
            now = ap (λ (j : StepJournal E). doubts_about r key j.doubts) entered
                ∙ (filter-append (is_about r key) h.journal.doubts (here ∷ []) ∙ rw last.is refl)

            own : about r key (flat first) ≡ flat first
            own = about-own key (flat first) (all-flat key first firsts)

            passed : (can : CanStand r h key s) → fold r.applied s (flat first) ≡ fold r.applied (stands r g key) can.0
            passed can =
                ap (λ (v : V). fold r.applied v (flat first)) can.2
                ∙ (pass-doubts read (stands r h key) key change (flat first) (doubts_about r key h.journal.doubts) can.0 free-first none can.1
                ∙ ap (λ (v : V). fold r.applied v can.0)
                (ap (λ (xs : List E). fold r.applied (stands r h key) xs) (sym own)
                ∙ sym (stand-more h g key (flat first) opening (ap (λ (j : StepJournal E). j.entries) entered))))

            by : (can : CanStand r h key s) → h.told ≡ true → (made ≡ flat first) ⊎ (made ≡ flat first ++ here) → CanStand r g key t
            by can told (inl same) = (
              can.0,
              subst (λ (ds : List (List E)). AreChosen r ds can.0) (sym now) (chosen-none (doubts_about r key h.journal.doubts) here can.0 can.1),
              leaves told ∙ (ap (λ (xs : List E). fold r.applied s xs) same ∙ passed can),
            )
            by can told (inr both) = (
              can.0 ++ here,
              subst (λ (ds : List (List E)). AreChosen r ds (can.0 ++ here)) (sym now)
                  (chosen-last (doubts_about r key h.journal.doubts) here can.0 can.1),
              leaves told
                  ∙ (ap (λ (xs : List E). fold r.applied s xs) both
                  ∙ (fold-append r.applied s (flat first) here
                  ∙ (ap (λ (v : V). fold r.applied v here) (passed can) ∙ sym (fold-append r.applied (stands r g key) can.0 here)))),
            )

      stopped : (failed : Bool) → Stops r failed read h.journal key change made g.journal → Ended h s key g t
      stopped failed st = by st.doubted refl st.is_made
        where
          by : (b : Bool) → st.doubted ≡ b → (made ≡ flat st.first) ⊎ ((st.doubted ≡ true) × (made ≡ flat st.first ++ st.here)) → Ended h s key g t
          by true is (inl same) =
              in-doubt st.not_refused st.first st.here st.behind st.cut (inl same) (st.entered ∙ ap (stop_shape h.journal (flat st.first) st.here) is)
          by true is (inr both) =
              in-doubt st.not_refused st.first st.here st.behind st.cut (inr both.1) (st.entered ∙ ap (stop_shape h.journal (flat st.first) st.here) is)
          by false is (inl same) =
              undoubted st.not_refused st.first st.here st.behind st.cut same (st.entered ∙ ap (stop_shape h.journal (flat st.first) st.here) is)
          by false is (inr both) = let yes_doubt : st.doubted ≡ true = both.0 in cc

      seen : (e : Ending) → EndsSeen r e read h.journal key change answer made g.journal → Ended h s key g t
      seen Makes so = more (r.entries_for read key change) (are.own read key change own_is) so.is_made
          (λ w d free. are.apart read w key change d so.not_refused free) so.entered
      seen Refuses so = left so.leaves
      seen Overflows so = left so.leaves
      seen Fails so = stopped true so
      seen Wants so = stopped false so
      seen Damages so = absurd so

    unseen : (e : Ending) → EndsUnseen r e h.journal made g.journal → Ended h s key g t
    unseen Fails so = left so
    unseen Wants so = left so
    unseen Damages so = left so
    unseen Makes so = absurd so
    unseen Refuses so = absurd so
    unseen Overflows so = absurd so

  ended : (h : StepHistory K V E) (s : K → V) (key : K) (change : C) (answer : A) (g : StepHistory K V E) (t : V)
      → (step : StepChanges r true h s key change answer g t) → Ended step.before (s key) key g t
  ended h s key change answer g t step = by step.looked refl
    where
      by : (b : Bool) → step.looked ≡ b → Ended step.before (s key) key g t
      by true is = seen step.before g (s key) t key change answer step.read step.made step.own step.after.opening (step.leaves refl) (step.settled is)
          (λ told. step.held refl told is) (r.ending answer)
          (subst (λ (c : Bool). Answers r c step.read step.before.journal key change answer step.made g.journal) is step.answered)
      by false is = unseen step.before g (s key) t key change answer step.read step.made step.own step.after.opening (step.leaves refl) (r.ending answer)
          (subst (λ (c : Bool). Answers r c step.read step.before.journal key change answer step.made g.journal) is step.answered)

pub keeps-its-key : {K V E C A : Type 0} (r : RulesOf K V E C A) → KeepsItsKey r
keeps-its-key r h s key change answer g t are step told =
    let told_before : step.before.told ≡ true = sym step.after.told ∙ told in
    (ended r are h s key change answer g t step).can (step.kept refl told_before key (are.reached key)) told_before

module _ {K V E C A : Type 0} (r : RulesOf K V E C A) (are : AreRules r) (at : K → Bool) (other : K) (away : at other ≡ false) where
  -- what another key has in a journal
  pub record SameAt (j after : StepJournal E) : Type 0 where
    pub entries : about r other after.entries ≡ about r other j.entries
    pub doubts : doubts_about r other after.doubts ≡ doubts_about r other j.doubts

  apart-from : (key : K) → at key ≡ true → other ≢ key
  apart-from key is same = let isnt : at key ≡ false = subst (λ (k : K). at k ≡ false) same away in cc

  doubts-own : (key : K) → at key ≡ true → (ds : List (List E)) → AreOf r key ds → doubts_about r other ds ≡ []
  doubts-own key is [] all = refl
  doubts-own key is (d ∷ ds) all = rw (isnt-about r are key other d (apart-from key is) all.0.all) (doubts-own key is ds all.1)

  pub same-after : (key : K) → at key ≡ true → (xs ys : List E) → AllAt r key ys → about r other (xs ++ ys) ≡ about r other xs
  same-after key is xs ys all =
      filter-append (λ (e : E). r.is_key (r.key_of e) other) xs ys
      ∙ (ap (λ (zs : List E). about r other xs ++ zs) (about-other r are key other ys (apart-from key is) all) ∙ append-nil (about r other xs))

  pub doubts-after : (key : K) → at key ≡ true → (xs ys : List (List E)) → AreOf r key ys → doubts_about r other (xs ++ ys) ≡ doubts_about r other xs
  doubts-after key is xs ys all =
      filter-append (is_about r other) xs ys
      ∙ (ap (λ (zs : List (List E)). doubts_about r other xs ++ zs) (doubts-own key is ys all) ∙ append-nil (doubts_about r other xs))

  without : (key : K) → at key ≡ true → (front : List (List E)) (d : List E) (behind : List (List E)) → IsOf r key d
      → doubts_about r other (front ++ behind) ≡ doubts_about r other (front ++ d ∷ behind)
  without key is front d behind of =
      filter-append (is_about r other) front behind
      ∙ (ap (λ (zs : List (List E)). doubts_about r other front ++ zs) (rw (isnt-about r are key other d (apart-from key is) of.all) refl)
      ∙ sym (filter-append (is_about r other) front (d ∷ behind)))

  one-same : (j after : StepJournal E) → SettlesOne r at j after → SameAt j after
  one-same j after one = by one.settled
    where
      ds : doubts_about r other (one.front ++ one.behind) ≡ doubts_about r other j.doubts
      ds = without one.is_at.0 one.is_at.1 one.front one.doubt one.behind one.is_at.2 ∙ ap (doubts_about r other) (sym one.among)

      by : (after ≡ record j { doubts = one.front ++ one.behind })
          ⊎ (after ≡ record j { entries = j.entries ++ one.doubt; doubts = one.front ++ one.behind }) → SameAt j after
      by (inl gone) = record {
        entries = ap (λ (x : StepJournal E). about r other x.entries) gone;
        doubts = ap (λ (x : StepJournal E). doubts_about r other x.doubts) gone ∙ ds;
      }
      by (inr entered) = record {
        entries = ap (λ (x : StepJournal E). about r other x.entries) entered ∙ same-after one.is_at.0 one.is_at.1 j.entries one.doubt one.is_at.2.all;
        doubts = ap (λ (x : StepJournal E). doubts_about r other x.doubts) entered ∙ ds;
      }

  pub settled-same : (n : ℕ) (j after : StepJournal E) → Settles r at n j after → SameAt j after
  settled-same zero j after same = record {
    entries = ap (λ (x : StepJournal E). about r other x.entries) same;
    doubts = ap (λ (x : StepJournal E). doubts_about r other x.doubts) same;
  }
  settled-same (suc n) j after more =
      let one = one-same j more.0 more.1 in
      let rest = settled-same n more.0 after more.2 in
      record { entries = rest.entries ∙ one.entries; doubts = rest.doubts ∙ one.doubts }

  pub still-can : (h g : StepHistory K V E) (v : V) → ((k : K) → g.opening k ≡ h.opening k) → SameAt h.journal g.journal → CanStand r h other v
      → CanStand r g other v
  still-can h g v opening same can = (
    can.0,
    subst (λ (ds : List (List E)). AreChosen r ds can.0) (sym same.doubts) can.1,
    can.2 ∙ ap (λ (w : V). fold r.applied w can.0)
        (ap (λ (w : V). fold r.applied w (about r other h.journal.entries)) (sym (opening other))
        ∙ ap (λ (es : List E). fold r.applied (g.opening other) es) (sym same.entries)),
  )

pub keeps-others : {K V E C A : Type 0} (r : RulesOf K V E C A) → KeepsOthers r
keeps-others r h s key change answer g t other v are step apart can =
    let settles = step.settles refl in
    let one = ended r are h s key change answer g t step in
    let own : r.reaches key key ≡ true = are.reached key in
    let first = settled-same r are (r.reaches key) other apart settles.0 h.journal step.before.journal settles.1 in
    still-can r are (r.reaches key) other apart h g v (λ k. step.after.opening k ∙ step.follows.opening k)
    (record {
      entries = ap (about r other) one.entered
          ∙ (same-after r are (r.reaches key) other apart key own step.before.journal.entries one.new one.own ∙ first.entries);
      doubts = ap (doubts_about r other) one.doubts
          ∙ (doubts-after r are (r.reaches key) other apart key own step.before.journal.doubts one.doubted one.doubts_own ∙ first.doubts);
    })
    can

pub keeps-held : {K V E C A : Type 0} (r : RulesOf K V E C A) → KeepsHeld r
keeps-held r h s key change answer g t other are step away told can = by (r.reaches key other) refl
  where
    by : (b : Bool) → r.reaches key other ≡ b → CanStand r g other (s other)
    by false apart = keeps-others r h s key change answer g t other (s other) are step apart can
    by true is =
        let one = ended r are h s key change answer g t step in
        let apart : at_key r key other ≡ false = isnt-key r are other key away in
        let own : at_key r key key ≡ true = are.itself key in
        still-can r are (at_key r key) other apart step.before g (s other) step.after.opening
        (record {
          entries = ap (about r other) one.entered ∙ same-after r are (at_key r key) other apart key own step.before.journal.entries one.new one.own;
          doubts = ap (doubts_about r other) one.doubts
              ∙ doubts-after r are (at_key r key) other apart key own step.before.journal.doubts one.doubted one.doubts_own;
        })
        (step.kept refl (sym step.after.told ∙ told) other is)
