-- Journals along a run: which entries come, that no doubt is left where nothing failed, and what the entries tell.
use Rattle.std.proofs.Common.{◌≡◌, ◌≢◌, ℕ, Bool, true, false, nat_eq, List, [], ◌∷◌, ◌++◌, refl, sym, ◌∙◌, ap, subst, append_assoc, if◌then◌else◌, ◌≤◌, arith}
use Rattle.std.proofs.Common.{inl, inr}
use Rattle.std.proofs.lemmas.Bool.{eqb-false, eqb-true}
use Rattle.std.proofs.lemmas.List.{append-nil}
use Rattle.std.specs.List.{fold}
use Rattle.sw_container_steps.proofs.Ruling.{are-rules as cont-rules}
use Rattle.sw_container_steps.specs.Rules.{ContHistory, cont_rules}
use Rattle.sw_container_steps.specs.declared.cont_entry.ContEntry.{ContEntry}
use Rattle.sw_hashpath.specs.declared.place.Place.{Place}
use Rattle.sw_object_steps.proofs.Ruling.{are-rules as obj-rules}
use Rattle.sw_object_steps.specs.Journals.{Hash}
use Rattle.sw_object_steps.specs.Rules.{ObjHistory, Writes, obj_rules}
use Rattle.sw_object_steps.specs.declared.entry.ObjEntry.{ObjEntry}
use Rattle.sw_peer.specs.Sights.{Nodes, cont_lock}
use Rattle.sw_peer.specs.declared.cont_event.ContEvent.{ContEvent}
use Rattle.sw_peer.specs.declared.cont_event.ContEvent.TheVariants as cont_events
use Rattle.sw_peer.specs.declared.line.Event.{Event}
use Rattle.sw_peer.specs.declared.line.Event.TheVariants.{AtContainer, Changed, Listed, Read, ReadPart, Restarted}
use Rattle.sw_peer.specs.declared.part_read.PartRead.{PartRead}
use Rattle.sw_peer.specs.declared.part_read.PartRead.TheVariants.{Base, Files, Hashes, Records, Write}
use Rattle.sw_step.proofs.Keeping.{stand-more}
use Rattle.sw_step.proofs.Settled.{added-is, can-tell, tell, nothing}
use Rattle.sw_step.specs.Journals.{StepHistory, StepJournal}
use Rattle.sw_step.specs.Rules.{AreRules, CanStand, RulesOf, about, doubts_about, stands, Damages, Ending, Fails, Makes, Overflows, Refuses, Wants}
use Rattle.sw_step.specs.Steps.{Look, Answers, EndsSeen, EndsUnseen, StepChanges, StepReads}
use Rattle.sw_machine.proofs.Runs.{hashes-may-stand, places-may-stand}
use Rattle.sw_machine.specs.Entering.{GrowsBy, IsNotRestarted, JournalsGrow, LinesTellHashes, LinesTellPlaces, cont_entered, entered_at, is_at_lock}
use Rattle.sw_machine.specs.Entering.{lock_in, obj_entered, restarts, HashesCalm, PlacesCalm}
use Rattle.sw_machine.specs.Machine.{Came, Comes, ContComes, ContSide, Machine, ObjReadsPart, ObjSide, RunLine, Runs, Went}
use Rattle.sw_machine.specs.Sides.{Side, SideMakes, SideReads, SideRestarts}
use Rattle.sw_outside.specs.Faults.{HasRisen}
use Rattle.std.specs.Bool.{⊤}

-- a count that has risen isn't 0
not-risen : (a b : ℕ) → HasRisen a b → b ≤ 0 → ⊥
not-risen a b (inl up) none = omega (arith, up, none)
not-risen a b (inr end) none = omega (arith, end, none)

module _ {K V E : Type 0} where
  -- from one moment of a lock to a later one
  pub record Calm (h g : StepHistory K V E) : Type 0 where
    pub later : h.faults ≤ g.faults
    pub none : h.journal.doubts ≡ [] → g.faults ≤ 0 → g.journal.doubts ≡ []

  calm-same : (h g : StepHistory K V E) → g ≡ h → Calm h g
  calm-same h g same =
      subst (λ (x : StepHistory K V E). Calm h x) (sym same) (record { later = omega arith; none = λ none no_fault. none })

  calm-on : (h i g : StepHistory K V E) → Calm h i → Calm i g → Calm h g
  calm-on h i g first next = record {
    later = let one = first.later in let two = next.later in omega (arith, one, two);
    none = λ none no_fault. next.none (first.none none (let two = next.later in omega (arith, two, no_fault))) no_fault;
  }

  module _ {C A : Type 0} (r : RulesOf K V E C A) where
    -- what a step leaves in doubt, where nothing was before it, and no call failed
    seen-none : (ending : Ending) (read : V) (j : StepJournal E) (key : K) (change : C) (answer : A) (made : List E) (after : StepJournal E)
        → EndsSeen r ending read j key change answer made after → (ending ≡ Fails → ⊥) → j.doubts ≡ [] → after.doubts ≡ []
    seen-none Makes read j key change answer made after so fine none = ap (λ (x : StepJournal E). x.doubts) so.entered ∙ none
    seen-none Refuses read j key change answer made after so fine none = ap (λ (x : StepJournal E). x.doubts) so.leaves.same ∙ none
    seen-none Overflows read j key change answer made after so fine none = ap (λ (x : StepJournal E). x.doubts) so.leaves.same ∙ none
    seen-none Fails read j key change answer made after so fine none = absurd (fine refl)
    seen-none Wants read j key change answer made after so fine none = by so.doubted refl
      where
        by : (b : Bool) → so.doubted ≡ b → after.doubts ≡ []
        by true is = let never : false ≡ true = so.may_doubt is in cc
        by false is =
            ap (λ (x : StepJournal E). x.doubts) so.entered
            ∙ (ap (λ (b : Bool). j.doubts ++ (if b then so.here ∷ [] else [])) is ∙ (append-nil j.doubts ∙ none))
    seen-none Damages read j key change answer made after so fine none = absurd so

    unseen-none : (ending : Ending) (j : StepJournal E) (made : List E) (after : StepJournal E) → EndsUnseen r ending j made after → j.doubts ≡ []
        → after.doubts ≡ []
    unseen-none Makes j made after so none = absurd so
    unseen-none Refuses j made after so none = absurd so
    unseen-none Overflows j made after so none = absurd so
    unseen-none Fails j made after so none = ap (λ (x : StepJournal E). x.doubts) so.same ∙ none
    unseen-none Wants j made after so none = ap (λ (x : StepJournal E). x.doubts) so.same ∙ none
    unseen-none Damages j made after so none = ap (λ (x : StepJournal E). x.doubts) so.same ∙ none

    answered-none : (looked : Bool) (read : V) (j : StepJournal E) (key : K) (change : C) (answer : A) (made : List E) (after : StepJournal E)
        → Answers r looked read j key change answer made after → (r.ending answer ≡ Fails → ⊥) → j.doubts ≡ [] → after.doubts ≡ []
    answered-none true read j key change answer made after so fine none =
        seen-none (r.ending answer) read j key change answer made after so fine none
    answered-none false read j key change answer made after so fine none = unseen-none (r.ending answer) j made after so none

    change-calm : (h : StepHistory K V E) (s : K → V) (key : K) (change : C) (answer : A) (g : StepHistory K V E) (t : V)
        → StepChanges r true h s key change answer g t → Calm h g
    change-calm h s key change answer g t step = record {
      later = let one = step.follows.faults in let two = step.after.faults in omega (arith, one, two);
      none = λ none no_fault.
          let settles = step.settles refl in
          let before : step.before.journal ≡ h.journal =
          nothing r (r.reaches key) settles.0 h.journal step.before.journal settles.1 none in
          answered-none step.looked step.read step.before.journal key change answer step.made g.journal step.answered
          (λ failed. not-risen h.faults g.faults (step.failed failed) no_fault) (ap (λ (x : StepJournal E). x.doubts) before ∙ none);
    }

    read-calm : {B : Type 0} (h : StepHistory K V E) (at : K → Bool) (touched : List E → Bool) (look : B → Look) (reading : (K → V) → ℕ → B → Type 0)
        (got : B) (g : StepHistory K V E) (t : K → V) → StepReads r true h at touched look reading got g t → Calm h g
    read-calm h at touched look reading got g t step = record {
      later = step.follows.faults;
      none = λ none no_fault.
          let settles = step.settles refl in
          ap (λ (x : StepJournal E). x.doubts) (nothing r at settles.0 h.journal g.journal settles.1 none) ∙ none;
    }

-- ---- one lock, from one moment to a later one

-- it grew by these entries, where it was `kept`, and not begun anew
pub record Along {K V E : Type 0} (h g : StepHistory K V E) (added : List E) (kept : Type 0) : Type 0 where
  pub grows : kept → GrowsBy h g added
  pub calm : Calm h g

module _ {K V E : Type 0} (kept : Type 0) where
  same-along : (h g : StepHistory K V E) → g ≡ h → Along h g [] kept
  same-along h g same = record {
    grows = λ is. record {
      entries = ap (λ (x : StepHistory K V E). x.journal.entries) same ∙ sym (append-nil h.journal.entries);
      opening = λ key. ap (λ (x : StepHistory K V E). x.opening key) same;
    };
    calm = calm-same h g same;
  }

  along-on : (more : Type 0) (h i g : StepHistory K V E) (xs ys : List E) → Along h i xs kept → Along i g ys more → Along h g (xs ++ ys) (kept × more)
  along-on more h i g xs ys first next = record {
    grows = λ is.
        let one = first.grows is.0 in
        let two = next.grows is.1 in
        record {
          entries = two.entries ∙ (ap (λ (es : List E). es ++ ys) one.entries ∙ append_assoc h.journal.entries xs ys);
          opening = λ key. two.opening key ∙ one.opening key;
        };
    calm = calm-on h i g first.calm next.calm;
  }

  module _ {C A N : Type 0} (r : RulesOf K V E C A) (lock : ℕ → K → ℕ) where
    -- only the journal of its own lock grows
    at-lock : (m after : Side K V E N) (l : ℕ) (added : List E) → ((other : ℕ) → other ≢ l → after.half.seen other ≡ m.half.seen other)
        → Along (m.half.seen l) (after.half.seen l) added kept
        → (other : ℕ) → Along (m.half.seen other) (after.half.seen other) (if nat_eq l other then added else []) kept
    at-lock m after l added elsewhere here other = by (nat_eq l other) refl
      where
        by : (b : Bool) → nat_eq l other ≡ b → Along (m.half.seen other) (after.half.seen other) (if b then added else []) kept
        by true is = subst (λ (x : ℕ). Along (m.half.seen x) (after.half.seen x) added kept) (eqb-true l other is) here
        by false isnt = same-along (m.half.seen other) (after.half.seen other) (elsewhere other (λ same. eqb-false l other isnt (sym same)))

    made-along : (m : Side K V E N) (device : ℕ) (key : K) (change : C) (answer : A) (added : List E) (news : List E → List N) (after : Side K V E N)
        → SideMakes r lock m device key change answer added news after
        → (l : ℕ) → Along (m.half.seen l) (after.half.seen l) (if nat_eq (lock device key) l then added else []) kept
    made-along m device key change answer added news after makes =
        at-lock m after (lock device key) added
        (λ other away. makes.moves.elsewhere other
        (λ d q is equal. away (equal ∙ (ap (λ (e : ℕ). lock e q) is.0 ∙ ap (lock device) is.1))))
        (record {
          grows = λ is. record {
            entries = added-is r makes.step ∙ ap (λ (es : List E). (m.half.seen (lock device key)).journal.entries ++ es) (sym makes.added_is);
            opening = (makes.moves.grows (lock device key)).opening;
          };
          calm = change-calm r (m.half.seen (lock device key)) makes.held key change answer (after.half.seen (lock device key)) (after.half.holds device key)
              makes.step;
        })

    read-along : {B : Type 0} (m : Side K V E N) (device own : ℕ) (at : K → Bool) (touched : List E → Bool) (look : B → Look)
        (reading : (K → V) → ℕ → B → Type 0) (got : B) (added : List E) (after : Side K V E N)
        → SideReads r lock m device own at touched look reading got added after
        → (l : ℕ) → Along (m.half.seen l) (after.half.seen l) (if nat_eq own l then added else []) kept
    read-along m device own at touched look reading got added after reads =
        at-lock m after own added reads.elsewhere
        (record {
          grows = λ is. record {
            entries = reads.step.follows.entries.1 ∙ ap (λ (es : List E). (m.half.seen own).journal.entries ++ es) (sym reads.added_is);
            opening = reads.step.follows.opening;
          };
          calm = read-calm r (m.half.seen own) at touched look reading got (after.half.seen own) reads.held reads.step;
        })

-- a restart of the device itself isn't kept
restart-along : {K V E N : Type 0} (lock : ℕ → K → ℕ) (m : Side K V E N) (device : ℕ) (after : Side K V E N) → SideRestarts lock m device after
    → (d : ℕ) (key : K) → Along (m.half.seen (lock d key)) (after.half.seen (lock d key)) [] (nat_eq device d ≡ false)
restart-along {K} {V} {E} lock m device after anew d key = by (nat_eq device d) refl
  where
    by : (b : Bool) → nat_eq device d ≡ b → Along (m.half.seen (lock d key)) (after.half.seen (lock d key)) [] (b ≡ false)
    by true is = record {
      grows = λ never. cc;
      calm = subst (λ (e : ℕ). Calm (m.half.seen (lock e key)) (after.half.seen (lock e key))) (eqb-true device d is)
          (record { later = anew.half.faults key; none = λ none no_fault. anew.half.doubts key });
    }
    by false isnt = same-along (false ≡ false) (m.half.seen (lock d key)) (after.half.seen (lock d key))
        (anew.half.others d key (λ same. eqb-false device d isnt (sym same)))

-- ---- both sides

module _ (nodes : Nodes) (device : ℕ) where
  -- what is along at the device's locks
  pub record BothAlong (m after : Machine) (of_objects : ℕ → List ObjEntry) (of_containers : ℕ → List ContEntry) (kept : Type 0) : Type 0 where
    pub objects : (hash : Hash) → Along (m.objects.half.seen (nodes.lock device hash)) (after.objects.half.seen (nodes.lock device hash))
        (of_objects (nodes.lock device hash)) kept
    pub containers : (place : Place) → Along (m.containers.half.seen (cont_lock nodes device place))
        (after.containers.half.seen (cont_lock nodes device place)) (of_containers (cont_lock nodes device place)) kept

  module _ (kept : Type 0) where
    objects-same : (m after : Machine) → after.objects ≡ m.objects → (l : ℕ) → Along (m.objects.half.seen l) (after.objects.half.seen l) [] kept
    objects-same m after same l =
        same-along kept (m.objects.half.seen l) (after.objects.half.seen l) (ap (λ (x : ObjSide). x.half.seen l) same)

    containers-same : (m after : Machine) → after.containers ≡ m.containers → (l : ℕ)
        → Along (m.containers.half.seen l) (after.containers.half.seen l) [] kept
    containers-same m after same l =
        same-along kept (m.containers.half.seen l) (after.containers.half.seen l) (ap (λ (x : ContSide). x.half.seen l) same)

    cont-along : (m : ContSide) (d : ℕ) (event : ContEvent) (entries : List ContEntry) (after : ContSide) → ContComes nodes m d event entries after
        → (l : ℕ) → Along (m.half.seen l) (after.half.seen l) (entered_at nodes l d (AtContainer event entries)) kept
    cont-along m d (cont_events.Changed place change answer) entries after step =
        made-along kept cont_rules (cont_lock nodes) m d place change answer entries _ after step
    cont-along m d (cont_events.Timed place got) entries after step =
        read-along kept cont_rules (cont_lock nodes) m d (cont_lock nodes d place) _ _ _ _ got entries after step
    cont-along m d (cont_events.Informed place got) entries after step =
        read-along kept cont_rules (cont_lock nodes) m d (cont_lock nodes d place) _ _ _ _ got entries after step
    cont-along m d (cont_events.Listed place query got) entries after step =
        read-along kept cont_rules (cont_lock nodes) m d (cont_lock nodes d place) _ _ _ _ got entries after step
    cont-along m d (cont_events.Parceled place to got) entries after step =
        read-along kept cont_rules (cont_lock nodes) m d (cont_lock nodes d place) _ _ _ _ got entries after step
    cont-along m d (cont_events.Sharded place got) entries after step =
        read-along kept cont_rules (cont_lock nodes) m d (cont_lock nodes d place) _ _ _ _ got entries after step
    cont-along m d (cont_events.Cleft place range above got) entries after step =
        read-along kept cont_rules (cont_lock nodes) m d (cont_lock nodes d place) _ _ _ _ got entries after step

    part-along : (m : ObjSide) (d : ℕ) (read : PartRead) (added : List ObjEntry) (after : ObjSide) → ObjReadsPart nodes m d read added after
        → (l : ℕ) → Along (m.half.seen l) (after.half.seen l) (if is_at_lock nodes l d (ReadPart read) then added else []) kept
    part-along m d (Hashes part got) added after step =
        read-along kept obj_rules nodes.lock m d (lock_in nodes d (Hashes part got)) _ _ _ _ got added after step.reads
    part-along m d (Files part suffix got) added after step =
        read-along kept obj_rules nodes.lock m d (lock_in nodes d (Files part suffix got)) _ _ _ _ got added after step.reads
    part-along m d (Write part hash file got) added after step =
        read-along kept obj_rules nodes.lock m d (lock_in nodes d (Write part hash file got)) _ _ _ _ got added after step.reads
    part-along m d (Records stripe got) added after step =
        read-along kept obj_rules nodes.lock m d (lock_in nodes d (Records stripe got)) _ _ _ _ got added after step.reads
    part-along m d (Base filed row) added after step =
        read-along kept obj_rules nodes.lock m d (lock_in nodes d (Base filed row)) _ _ _ _ row added after step.reads

  one-along : (m : Machine) (d : ℕ) (event : Event) (added : List ObjEntry) (after : Machine) → Comes nodes m d event added after
      → BothAlong m after (λ l. if is_at_lock nodes l d event then added else []) (λ l. entered_at nodes l d event) (restarts device d event ≡ false)
  one-along m d (Changed name change answer) added after step = record {
    objects = λ hash. made-along (false ≡ false) obj_rules nodes.lock m.objects d name.hash (Writes name change) answer added _ after.objects step.0
        (nodes.lock device hash);
    containers = λ place. containers-same (false ≡ false) m after step.1 (cont_lock nodes device place);
  }
  one-along m d (Read name got) added after step = record {
    objects = λ hash. read-along (false ≡ false) obj_rules nodes.lock m.objects d (nodes.lock d name.hash) _ _ _ _ got added after.objects step.0
        (nodes.lock device hash);
    containers = λ place. containers-same (false ≡ false) m after step.1 (cont_lock nodes device place);
  }
  one-along m d (ReadPart read) added after step = record {
    objects = λ hash. part-along (false ≡ false) m.objects d read added after.objects step.0 (nodes.lock device hash);
    containers = λ place. containers-same (false ≡ false) m after step.1 (cont_lock nodes device place);
  }
  one-along m d (Listed failed) added after step = record {
    objects = λ hash.
        let h = m.objects.half.seen (nodes.lock device hash) in
        let same = step.1.0.same (nodes.lock device hash) in
        record {
          grows = λ is. record {
            entries = ap (λ (x : ObjHistory). x.journal.entries) same ∙ sym (append-nil h.journal.entries);
            opening = λ key. ap (λ (x : ObjHistory). x.opening key) same;
          };
          calm = record {
            later = step.1.0.later (nodes.lock device hash);
            none = λ none no_fault. ap (λ (x : ObjHistory). x.journal.doubts) same ∙ none;
          };
        };
    containers = λ place. containers-same (false ≡ false) m after step.1.1 (cont_lock nodes device place);
  }
  one-along m d (AtContainer event entries) added after step = record {
    objects = λ hash. objects-same (false ≡ false) m after step.2 (nodes.lock device hash);
    containers = λ place. cont-along (false ≡ false) m.containers d event entries after.containers step.1 (cont_lock nodes device place);
  }
  one-along m d Restarted added after step = record {
    objects = restart-along nodes.lock m.objects d after.objects step.1 device;
    containers = restart-along (cont_lock nodes) m.containers d after.containers step.2 device;
  }

  along : (m : Machine) (lines : List RunLine) (after : Machine) → Runs nodes m lines after
      → BothAlong m after (λ l. obj_entered nodes l lines) (λ l. cont_entered nodes l lines) (IsNotRestarted device lines)
  along m [] after same = record {
    objects = λ hash. objects-same ⊤ m after (ap (λ (x : Machine). x.objects) same) (nodes.lock device hash);
    containers = λ place. containers-same ⊤ m after (ap (λ (x : Machine). x.containers) same) (cont_lock nodes device place);
  }
  along m (Came line ∷ lines) after run =
      let one = one-along m line.device line.event line.added run.0 run.1.1 in
      let rest = along run.0 lines after run.2 in
      let kept : Type 0 = restarts device line.device line.event ≡ false in
      record {
        objects = λ hash. along-on kept (IsNotRestarted device lines) _ _ _ _ _ (one.objects hash) (rest.objects hash);
        containers = λ place. along-on kept (IsNotRestarted device lines) _ _ _ _ _ (one.containers place) (rest.containers place);
      }
  along m (Went from message ∷ lines) after run =
      let rest = subst
      (λ (x : Machine). BothAlong x after (λ l. obj_entered nodes l lines) (λ l. cont_entered nodes l lines) (IsNotRestarted device lines))
      run.1.1 (along run.0 lines after run.2) in
      record { objects = rest.objects; containers = rest.containers }

-- ---- the laws

pub journals-grow : JournalsGrow
journals-grow nodes m lines after run device none =
    let both = along nodes device m lines after run in
    (λ hash. (both.objects hash).grows none, λ place. (both.containers place).grows none)

-- where no doubt is left of a key, what stood by the entries stands with those that came
told-by : {K V E C A : Type 0} (r : RulesOf K V E C A) (are : AreRules r) (h g : StepHistory K V E) (key : K) (v w : V) (added : List E)
    → v ≡ stands r h key → CanStand r g key w
    → doubts_about r key g.journal.doubts ≡ [] → GrowsBy h g added → w ≡ fold r.applied v (about r key added)
told-by {V = V} r are h g key v w added stood can none grows =
    tell r g key w can none
    ∙ (stand-more r are h g key added grows.opening grows.entries ∙ ap (λ (x : V). fold r.applied x (about r key added)) (sym stood))

module _ {K V E C A : Type 0} (r : RulesOf K V E C A) where
  can-as : (h : StepHistory K V E) (key : K) (v : V) → v ≡ stands r h key → CanStand r h key v
  can-as h key v stood = subst (λ (x : V). CanStand r h key x) (sym stood) (can-tell r h key)

pub lines-tell-hashes : LinesTellHashes
lines-tell-hashes nodes m lines after apart run device none hash told stood left =
    told-by obj_rules obj-rules h (after.objects.half.seen l) hash (m.objects.half.holds device hash) (after.objects.half.holds device hash)
    (obj_entered nodes l lines) stood
    (hashes-may-stand nodes m lines after apart run device hash told (can-as obj_rules h hash (m.objects.half.holds device hash) stood)) left
    (((along nodes device m lines after run).objects hash).grows none)
  where
    l : ℕ
    l = nodes.lock device hash

    h : ObjHistory
    h = m.objects.half.seen l

pub lines-tell-places : LinesTellPlaces
lines-tell-places nodes m lines after apart run device none place told stood left =
    told-by cont_rules cont-rules h (after.containers.half.seen l) place (m.containers.half.holds device place) (after.containers.half.holds device place)
    (cont_entered nodes l lines) stood
    (places-may-stand nodes m lines after apart run device place told (can-as cont_rules h place (m.containers.half.holds device place) stood)) left
    (((along nodes device m lines after run).containers place).grows none)
  where
    l : ℕ
    l = cont_lock nodes device place

    h : ContHistory
    h = m.containers.half.seen l

-- a count of no faults isn't above 0
no-faults : (n : ℕ) → n ≡ 0 → n ≤ 0
no-faults n is = omega (arith, is)

pub hashes-calm : HashesCalm
hashes-calm nodes m lines after run device hash none zero =
    ((along nodes device m lines after run).objects hash).calm.none none (no-faults (after.objects.half.seen (nodes.lock device hash)).faults zero)

pub places-calm : PlacesCalm
places-calm nodes m lines after run device place none zero =
    ((along nodes device m lines after run).containers place).calm.none none
    (no-faults (after.containers.half.seen (cont_lock nodes device place)).faults zero)
