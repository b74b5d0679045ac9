-- Why one side goes on, whatever its locks keep.
use Rattle.std.proofs.Common.{◌≡◌, ◌≢◌, ℕ, Bool, true, false, ◌&&◌, nat_eq, List, [], ◌∷◌, ◌++◌, map, refl, sym, ◌∙◌, ap, subst, inl, inr, ◌⊎◌}
use Rattle.std.proofs.Common.{append_assoc, if◌then◌else◌, true≢false}
use Rattle.std.proofs.lemmas.Bool.{cases_Bool, eq-eqb, eqb-false, eqb-true}
use Rattle.std.proofs.lemmas.List.{append-nil}
use Rattle.std.proofs.lemmas.List.Sums.{fold-append}
use Rattle.std.specs.Bool.{⊤}
use Rattle.std.specs.List.{fold}
use Rattle.sw_step.proofs.Keeping.{keeps-held, keeps-its-key, settled-same, still-can}
use Rattle.sw_step.specs.Journals.{StepHistory}
use Rattle.sw_step.specs.Rules.{AreChosen, AreRules, CanStand, RulesOf, about, doubts_about}
use Rattle.sw_step.specs.Steps.{Look}
use Rattle.sw_machine.specs.Sides.{CanStandAt, Side, SideMakes, SideReads, SideRestarts, TellsAt, known_at}

both : (p q : Bool) → (p && q) ≡ true → (p ≡ true) × (q ≡ true)
both true q is = (refl, is)
both false q is = cc

-- All that is to be said of one kind of lock: its rules, where its keys are, and what of a value and of what became known is told. `Apart` says that each
-- lock is one of one device, `gone` tells of a value whether what it absorbed was taken away
pub record Account (K V E C A N X W : Type 0) : Type 1 where
  pub rules : RulesOf K V E C A
  pub are : AreRules rules
  pub lock : ℕ → K → ℕ
  pub Apart : Type 0
  pub own : Apart → (d e : ℕ) (key other : K) → lock d key ≡ lock e other → d ≡ e
  pub key_in : N → K
  pub part : N → X
  pub view : V → W
  pub absorbed : W → X → W
  pub gone : V → Bool

module _ {K V E C A N X W : Type 0} (k : Account K V E C A N X W) where
  abbrev at : ℕ → K → List (ℕ × N) → List X
  at device key known = known_at k.rules.is_key k.key_in k.part device key known

  abbrev Tells : Side K V E N → ℕ → K → Type 0
  Tells m d key = TellsAt k.lock m d key

  abbrev Can : Side K V E N → ℕ → K → Type 0
  Can m d key = CanStandAt k.rules k.lock m d key

  -- From one moment to a later one some more became known; a lock that told its contents tells them; what a key stands for has absorbed what became known
  -- of it, where that wasn't taken away, and what was taken away stays so; and where it was what the entries tell, with doubts that were made, it still is
  pub record Goes (m after : Side K V E N) : Type 0 where
    pub more : List (ℕ × N)
    pub known : after.known ≡ m.known ++ more
    pub told : (d : ℕ) (key : K) → Tells m d key → Tells after d key
    pub absorbs : (d : ℕ) (key : K) → Tells m d key → k.gone (after.half.holds d key) ≡ false
        → k.view (after.half.holds d key) ≡ fold k.absorbed (k.view (m.half.holds d key)) (at d key more)
    pub stays : (d : ℕ) (key : K) → Tells m d key → k.gone (m.half.holds d key) ≡ true → k.gone (after.half.holds d key) ≡ true
    pub can : k.Apart → (d : ℕ) (key : K) → Tells m d key → Can m d key → Can after d key

  -- ---- what became known of a key

  at-append : (d : ℕ) (key : K) (xs ys : List (ℕ × N)) → at d key (xs ++ ys) ≡ at d key xs ++ at d key ys
  at-append d key [] ys = refl
  at-append d key (x ∷ xs) ys = by (nat_eq x.0 d && k.rules.is_key (k.key_in x.1) key) (at-append d key xs ys)
    where
      by : (b : Bool) → at d key (xs ++ ys) ≡ at d key xs ++ at d key ys
          → (if b then k.part x.1 ∷ at d key (xs ++ ys) else at d key (xs ++ ys)) ≡ (if b then k.part x.1 ∷ at d key xs else at d key xs) ++ at d key ys
      by true rest = ap (λ ns. k.part x.1 ∷ ns) rest
      by false rest = rest

  abbrev pub AllOf : K → List N → Type 0
  AllOf key [] = ⊤
  AllOf key (n ∷ ns) = (k.key_in n ≡ key) × AllOf key ns

  at-own : (d : ℕ) (key : K) (ns : List N) → AllOf key ns → at d key (map (λ n. (d, n)) ns) ≡ map k.part ns
  at-own d key [] all = refl
  at-own d key (n ∷ ns) all =
      let same_device : nat_eq d d ≡ true = eq-eqb d d refl in
      let same_key : k.rules.is_key (k.key_in n) key ≡ true = subst (λ (x : K). k.rules.is_key x key ≡ true) (sym all.0) (k.are.itself key) in
      rw (same_device, same_key) (ap (λ xs. k.part n ∷ xs) (at-own d key ns all.1))

  at-other : (device : ℕ) (key : K) (d : ℕ) (other : K) (ns : List N) → AllOf key ns → (nat_eq device d && k.rules.is_key key other) ≡ false
      → at d other (map (λ n. (device, n)) ns) ≡ []
  at-other device key d other [] all isnt = refl
  at-other device key d other (n ∷ ns) all isnt =
      let here : (nat_eq device d && k.rules.is_key (k.key_in n) other) ≡ false =
      subst (λ (x : K). (nat_eq device d && k.rules.is_key x other) ≡ false) (sym all.0) isnt in
      rw here (at-other device key d other ns all.1 isnt)

  -- ---- going on

  -- nothing changed but what is known of the locks, where it tells what it told
  pub as-it-was : (m after : Side K V E N) → after.known ≡ m.known → ((d : ℕ) (key : K) → Tells m d key → Tells after d key)
      → ((d : ℕ) (key : K) → Tells m d key → after.half.holds d key ≡ m.half.holds d key)
      → (k.Apart → (d : ℕ) (key : K) → Tells m d key → Can m d key → Can after d key) → Goes m after
  as-it-was m after known told holds can = record {
    more = [];
    known = known ∙ sym (append-nil m.known);
    told = told;
    absorbs = λ d key tells kept. ap k.view (holds d key tells);
    stays = λ d key tells gone. ap k.gone (holds d key tells) ∙ gone;
    can = can;
  }

  pub still : (m after : Side K V E N) → after ≡ m → Goes m after
  still m after same = as-it-was m after (ap (λ (x : Side K V E N). x.known) same)
      (λ d key told. subst (λ (x : Side K V E N). Tells x d key) (sym same) told)
      (λ d key told. ap (λ (x : Side K V E N). x.half.holds d key) same)
      (λ apart d key told can. subst (λ (x : Side K V E N). Can x d key) (sym same) can)

  pub on : (m mid after : Side K V E N) → Goes m mid → Goes mid after → Goes m after
  on m mid after first next = record {
    more = first.more ++ next.more;
    known = next.known ∙ (ap (λ (ns : List (ℕ × N)). ns ++ next.more) first.known ∙ append_assoc m.known first.more next.more);
    told = λ d key told. next.told d key (first.told d key told);
    absorbs = λ d key told kept.
        next.absorbs d key (first.told d key told) kept
        ∙ (ap (λ (w : W). fold k.absorbed w (at d key next.more)) (first.absorbs d key told (kept-before d key told kept))
        ∙ (sym (fold-append k.absorbed (k.view (m.half.holds d key)) (at d key first.more) (at d key next.more))
        ∙ ap (λ (xs : List X). fold k.absorbed (k.view (m.half.holds d key)) xs) (sym (at-append d key first.more next.more))));
    stays = λ d key told gone. next.stays d key (first.told d key told) (first.stays d key told gone);
    can = λ apart d key told can. next.can apart d key (first.told d key told) (first.can apart d key told can);
  }
    where
      -- what isn't taken away at the end wasn't in between
      kept-before : (d : ℕ) (key : K) → Tells m d key → k.gone (after.half.holds d key) ≡ false → k.gone (mid.half.holds d key) ≡ false
      kept-before d key told kept = by (cases_Bool (k.gone (mid.half.holds d key)))
        where
          by : (k.gone (mid.half.holds d key) ≡ true) ⊎ (k.gone (mid.half.holds d key) ≡ false) → k.gone (mid.half.holds d key) ≡ false
          by (inl gone) = absurd (true≢false (sym (next.stays d key (first.told d key told) gone) ∙ kept))
          by (inr isnt) = isnt

  -- ---- a step that may change something

  module _ (m : Side K V E N) (device : ℕ) (key : K) (change : C) (answer : A) (added : List E) (news : List E → List N) (after : Side K V E N)
      (makes : SideMakes k.rules k.lock m device key change answer added news after) where
    abbrev l : ℕ
    l = k.lock device key

    apart-from : (d : ℕ) (other : K) → (nat_eq device d && k.rules.is_key key other) ≡ false → (d ≡ device) × (other ≡ key) → ⊥
    apart-from d other away is =
        let one : nat_eq device d ≡ true = eq-eqb device d (sym is.0) in
        let two : k.rules.is_key key other ≡ true = subst (λ (q : K). k.rules.is_key key q ≡ true) (sym is.1) (k.are.itself key) in
        let never : (nat_eq device d && k.rules.is_key key other) ≡ true = rw (one, two) refl in cc

    -- what it has at its own key it has at one that is the same
    at-same : (P : ℕ → K → Type 0) (d : ℕ) (other : K) → (nat_eq device d && k.rules.is_key key other) ≡ true → P device key → P d other
    at-same P d other here p =
        let is = both (nat_eq device d) (k.rules.is_key key other) here in
        subst (λ (e : ℕ). P e other) (eqb-true device d is.0) (subst (λ (q : K). P device q) (k.are.keys key other is.1) p)

    holds-still : (d : ℕ) (other : K) → (nat_eq device d && k.rules.is_key key other) ≡ false → after.half.holds d other ≡ m.half.holds d other
    holds-still d other away = makes.moves.others refl d other (apart-from d other away)

    keeps-other : k.Apart → (d : ℕ) (other : K) → (nat_eq device d && k.rules.is_key key other) ≡ false → Tells m d other → Can m d other
        → Can after d other
    keeps-other apart d other away told can =
        subst (λ (v : V). CanStand k.rules (after.half.seen (k.lock d other)) other v) (sym (holds-still d other away))
        (by (cases_Bool (nat_eq (k.lock d other) l)))
      where
        by : (nat_eq (k.lock d other) l ≡ true) ⊎ (nat_eq (k.lock d other) l ≡ false)
            → CanStand k.rules (after.half.seen (k.lock d other)) other (m.half.holds d other)
        by (inr elsewhere) =
            let same : after.half.seen (k.lock d other) ≡ m.half.seen (k.lock d other) =
            makes.moves.elsewhere (k.lock d other) (λ e q is equal. eqb-false (k.lock d other) l elsewhere
            (equal ∙ (ap (λ (x : ℕ). k.lock x q) is.0 ∙ ap (k.lock device) is.1))) in
            subst (λ (h : StepHistory K V E). CanStand k.rules h other (m.half.holds d other)) (sym same) can
        by (inl here) =
            let same_lock : k.lock d other ≡ l = eqb-true (k.lock d other) l here in
            let same_device : d ≡ device = k.own apart d device other key same_lock in
            let held : makes.held other ≡ m.half.holds d other =
            makes.is_held other (ap (λ (e : ℕ). k.lock e other) (sym same_device) ∙ same_lock)
            ∙ ap (λ (e : ℕ). m.half.holds e other) (sym same_device) in
            subst (λ (x : ℕ). CanStand k.rules (after.half.seen x) other (m.half.holds d other)) (sym same_lock)
            (subst (λ (v : V). CanStand k.rules (after.half.seen l) other v) held
            (keeps-held k.rules (m.half.seen l) makes.held key change answer (after.half.seen l) (after.half.holds device key) other k.are makes.step
            (λ same. apart-from d other away (same_device, same))
            ((makes.moves.grows l).told ∙ subst (λ (x : ℕ). (m.half.seen x).told ≡ true) same_lock told)
            (subst (λ (v : V). CanStand k.rules (m.half.seen l) other v) (sym held)
            (subst (λ (x : ℕ). CanStand k.rules (m.half.seen x) other (m.half.holds d other)) same_lock can))))

    -- what was made of it has to be absorbed, where its lock tells its contents and it isn't taken away
    pub made-goes : AllOf key (news makes.step.made)
        → (Tells m device key → k.gone (after.half.holds device key) ≡ false
        → k.view (after.half.holds device key) ≡ fold k.absorbed (k.view (m.half.holds device key)) (map k.part (news makes.step.made)))
        → (Tells m device key → k.gone (m.half.holds device key) ≡ true → k.gone (after.half.holds device key) ≡ true)
        → Goes m after
    made-goes all absorbs stays = record {
      more = map (λ n. (device, n)) (news makes.step.made);
      known = makes.known;
      told = λ d other told. (makes.moves.grows (k.lock d other)).told ∙ told;
      absorbs = λ d other told kept. takes d other told kept (cases_Bool (nat_eq device d && k.rules.is_key key other));
      stays = λ d other told gone. stays_at d other told gone (cases_Bool (nat_eq device d && k.rules.is_key key other));
      can = λ apart d other told can. keeps apart d other told can (cases_Bool (nat_eq device d && k.rules.is_key key other));
    }
      where
        takes : (d : ℕ) (other : K) → Tells m d other → k.gone (after.half.holds d other) ≡ false
            → ((nat_eq device d && k.rules.is_key key other) ≡ true) ⊎ ((nat_eq device d && k.rules.is_key key other) ≡ false)
            → k.view (after.half.holds d other) ≡ fold k.absorbed (k.view (m.half.holds d other)) (at d other (map (λ n. (device, n)) (news makes.step.made)))
        takes d other told kept (inl here) = at-same
            (λ e q. Tells m e q → k.gone (after.half.holds e q) ≡ false → k.view (after.half.holds e q)
            ≡ fold k.absorbed (k.view (m.half.holds e q)) (at e q (map (λ n. (device, n)) (news makes.step.made))))
            d other here
            (λ tells remains. absorbs tells remains
            ∙ ap (λ (xs : List X). fold k.absorbed (k.view (m.half.holds device key)) xs) (sym (at-own device key (news makes.step.made) all)))
            told kept
        takes d other told kept (inr away) =
            ap k.view (holds-still d other away)
            ∙ ap (λ (xs : List X). fold k.absorbed (k.view (m.half.holds d other)) xs) (sym (at-other device key d other (news makes.step.made) all away))

        stays_at : (d : ℕ) (other : K) → Tells m d other → k.gone (m.half.holds d other) ≡ true
            → ((nat_eq device d && k.rules.is_key key other) ≡ true) ⊎ ((nat_eq device d && k.rules.is_key key other) ≡ false)
            → k.gone (after.half.holds d other) ≡ true
        stays_at d other told gone (inl here) = at-same
            (λ e q. Tells m e q → k.gone (m.half.holds e q) ≡ true → k.gone (after.half.holds e q) ≡ true) d other here stays told gone
        stays_at d other told gone (inr away) = ap k.gone (holds-still d other away) ∙ gone

        keeps : k.Apart → (d : ℕ) (other : K) → Tells m d other → Can m d other
            → ((nat_eq device d && k.rules.is_key key other) ≡ true) ⊎ ((nat_eq device d && k.rules.is_key key other) ≡ false)
            → Can after d other
        keeps apart d other told can (inl here) = at-same (λ e q. Tells m e q → Can after e q) d other here
            (λ tells. keeps-its-key k.rules (m.half.seen l) makes.held key change answer (after.half.seen l) (after.half.holds device key) k.are makes.step
            ((makes.moves.grows l).told ∙ tells))
            told
        keeps apart d other told can (inr away) = keeps-other apart d other away told can

  -- ---- a read

  module _ {B : Type 0} (m : Side K V E N) (device l : ℕ) (tested : K → Bool) (touched : List E → Bool) (look : B → Look)
      (reading : (K → V) → ℕ → B → Type 0) (got : B) (added : List E) (after : Side K V E N)
      (reads : SideReads k.rules k.lock m device l tested touched look reading got added after) where
    tells-still : (d : ℕ) (key : K) → Tells m d key → Tells after d key
    tells-still d key told = by (cases_Bool (nat_eq (k.lock d key) l))
      where
        by : (nat_eq (k.lock d key) l ≡ true) ⊎ (nat_eq (k.lock d key) l ≡ false) → Tells after d key
        by (inl here) =
            let same_lock : k.lock d key ≡ l = eqb-true (k.lock d key) l here in
            subst (λ (x : ℕ). (after.half.seen x).told ≡ true) (sym same_lock)
            (reads.step.follows.told ∙ subst (λ (x : ℕ). (m.half.seen x).told ≡ true) same_lock told)
        by (inr elsewhere) =
            ap (λ (h : StepHistory K V E). h.told) (reads.elsewhere (k.lock d key) (eqb-false (k.lock d key) l elsewhere)) ∙ told

    can-still : (k.Apart → (d : ℕ) (key : K) → k.lock d key ≡ l → d ≡ device) → k.Apart → (d : ℕ) (key : K) → Tells m d key → Can m d key
        → Can after d key
    can-still owns apart d key told can = by (cases_Bool (nat_eq (k.lock d key) l))
      where
        by : (nat_eq (k.lock d key) l ≡ true) ⊎ (nat_eq (k.lock d key) l ≡ false) → Can after d key
        by (inr elsewhere) =
            subst (λ (v : V). CanStand k.rules (after.half.seen (k.lock d key)) key v) (sym (reads.holds d key))
            (subst (λ (h : StepHistory K V E). CanStand k.rules h key (m.half.holds d key))
            (sym (reads.elsewhere (k.lock d key) (eqb-false (k.lock d key) l elsewhere))) can)
        by (inl here) = subst (λ (x : ℕ). CanStand k.rules (after.half.seen x) key (after.half.holds d key)) (sym same_lock) (within (cases_Bool (tested key)))
          where
            same_lock : k.lock d key ≡ l
            same_lock = eqb-true (k.lock d key) l here

            same_device : d ≡ device
            same_device = owns apart d key same_lock

            held : reads.held key ≡ after.half.holds d key
            held = reads.is_held key (ap (λ (e : ℕ). k.lock e key) (sym same_device) ∙ same_lock)
                ∙ ap (λ (e : ℕ). after.half.holds e key) (sym same_device)

            tells : (after.half.seen l).told ≡ true
            tells = reads.step.follows.told ∙ subst (λ (x : ℕ). (m.half.seen x).told ≡ true) same_lock told

            within : (tested key ≡ true) ⊎ (tested key ≡ false) → CanStand k.rules (after.half.seen l) key (after.half.holds d key)
            within (inl read) = subst (λ (v : V). CanStand k.rules (after.half.seen l) key v) held (reads.step.kept refl tells key read)
            within (inr unread) =
                let settles = reads.step.settles refl in
                subst (λ (v : V). CanStand k.rules (after.half.seen l) key v) (sym (reads.holds d key))
                (still-can k.rules k.are tested key unread (m.half.seen l) (after.half.seen l) (m.half.holds d key) reads.step.follows.opening
                (settled-same k.rules k.are tested key unread settles.0 (m.half.seen l).journal (after.half.seen l).journal settles.1)
                (subst (λ (x : ℕ). CanStand k.rules (m.half.seen x) key (m.half.holds d key)) same_lock can))

    pub read-goes : (k.Apart → (d : ℕ) (key : K) → k.lock d key ≡ l → d ≡ device) → Goes m after
    read-goes owns = as-it-was m after reads.known tells-still (λ d key told. reads.holds d key) (can-still owns)

  -- ---- a restart

  module _ (m : Side K V E N) (device : ℕ) (after : Side K V E N) (anew : SideRestarts k.lock m device after) where
    -- what holds at the device itself, and at any other, holds at all
    each : (P : ℕ → K → Type 0) (d : ℕ) (key : K) → P device key → (d ≢ device → P d key) → P d key
    each P d key here there = by (cases_Bool (nat_eq d device))
      where
        by : (nat_eq d device ≡ true) ⊎ (nat_eq d device ≡ false) → P d key
        by (inl is) = subst (λ (e : ℕ). P e key) (sym (eqb-true d device is)) here
        by (inr isnt) = there (eqb-false d device isnt)

    abbrev now : K → StepHistory K V E
    now key = after.half.seen (k.lock device key)

    fresh : (key : K) → Tells m device key → Can after device key
    fresh key told = (
      [],
      subst (λ (ds : List (List E)). AreChosen k.rules (doubts_about k.rules key ds) []) (sym (anew.half.doubts key)) refl,
      anew.half.holds refl key told
          ∙ (sym (anew.half.opening refl key told)
          ∙ ap (λ (es : List E). fold k.rules.applied ((now key).opening key) (about k.rules key es)) (sym (anew.half.entries key))),
    )

    pub restart-goes : Goes m after
    restart-goes = as-it-was m after anew.known
        (λ d key told. each (λ e q. Tells m e q → Tells after e q) d key (anew.half.told key)
        (λ away tells. ap (λ (h : StepHistory K V E). h.told) (anew.half.others d key away) ∙ tells) told)
        (λ d key told. each (λ e q. Tells m e q → after.half.holds e q ≡ m.half.holds e q) d key (anew.half.holds refl key)
        (λ away tells. anew.half.elsewhere refl d key away) told)
        (λ apart d key told can. each (λ e q. Tells m e q → Can m e q → Can after e q) d key
        (λ tells can. fresh key tells)
        (λ away tells can.
        subst (λ (v : V). CanStand k.rules (after.half.seen (k.lock d key)) key v) (sym (anew.half.elsewhere refl d key away))
        (subst (λ (h : StepHistory K V E). CanStand k.rules h key (m.half.holds d key)) (sym (anew.half.others d key away)) can))
        told can)
