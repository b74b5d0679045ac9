-- What an acknowledgement tells, however often the message came.
use Rattle.std.proofs.Common.{◌≡◌, ℕ, Bool, true, false, List, [], ◌∷◌, ◌++◌, refl, sym, ◌∙◌, ap, subst, ◌⊎◌, inl, inr, Result, Ok, Err}
use Rattle.std.proofs.lemmas.List.{append-nil}
use Rattle.std.specs.List.{fold}
use Rattle.sw_hashpath.specs.declared.name.Name.{Name}
use Rattle.sw_nodes_tests.specs.Sent.{Acknowledged, HeldBy, acknowledges, is_acknowledgement, state_by}
use Rattle.sw_object_steps.proofs.Answering.{refused-held}
use Rattle.sw_object_steps.proofs.Lists.{one-list}
use Rattle.sw_object_steps.proofs.Ruling.{are-rules}
use Rattle.sw_object_steps.proofs.Undoubted.{none-written, state-told}
use Rattle.sw_object_steps.specs.Histories.{ChangesObject}
use Rattle.sw_object_steps.specs.Journals.{Hash}
use Rattle.sw_object_steps.specs.Rules.{ObjChange, ObjHistory, ObjJournal, Writes, obj_applied, obj_ending, obj_rules}
use Rattle.sw_object_steps.specs.Values.{ObjValue}
use Rattle.sw_object_steps.specs.declared.answer.Answer.{Answer}
use Rattle.sw_object_steps.specs.declared.answer.Answer.TheVariants as answers
use Rattle.sw_object_steps.specs.declared.change.Change.TheVariants.{Receive}
use Rattle.sw_object_steps.specs.declared.entry.ObjEntry.{ObjEntry}
use Rattle.sw_object_steps.specs.declared.entry.ObjEntry.TheVariants.{Wrote}
use Rattle.sw_peer.proofs.Calls.{calls-moves, comes-moves, made-step}
use Rattle.sw_peer.specs.Sights.{Calls, Comes, IsAt, IsMade, Moves, Sight}
use Rattle.sw_peer.specs.declared.link.Link.TheVariants.{Sent}
use Rattle.sw_peer.specs.declared.link.Lost.{Lost}
use Rattle.sw_state.proofs.JoinLaws.{comes_again}
use Rattle.sw_state.specs.States.{joined}
use Rattle.sw_state.specs.declared.state.State.{State}
use Rattle.sw_state.specs.declared.write.Write.{Write}
use Rattle.sw_step.proofs.Keeping.{about-own, stand-more}
use Rattle.sw_step.specs.Journals.{flat}
use Rattle.sw_step.specs.Rules.{Damages, Ending, Fails, Makes, Overflows, Refuses, Wants, about, doubts_about, stands}
use Rattle.sw_step.specs.Steps.{Answers, EndsSeen, EndsUnseen, IsDone, IsRefused, Stops}

module _ (name : Name) (w : Write) where
  abbrev own : ObjChange
  own = Writes name (Receive w)

  -- a value with the write, and one that may have it
  abbrev with_write : ObjValue → ObjValue
  with_write v = obj_applied v (Wrote name w [])

  abbrev MayHave : ObjValue → ObjValue → Type 0
  MayHave was now = (now ≡ was) ⊎ (now ≡ with_write was)

  -- a value whose state has the write is not changed by it
  kept-by : (v : ObjValue) → joined v.state w ≡ v.state → with_write v ≡ v
  kept-by v is = ap (λ (s : State). record v { state = s }) is

  -- ---- one step

  module _ (alone : Bool) (h : ObjHistory) (s : Hash → ObjValue) (answer : Answer) (g : ObjHistory) (t : ObjValue)
      (p : ChangesObject alone h s name (Receive w) answer g t) (told : g.told ≡ true) where
    told_before : p.before.told ≡ true
    told_before = sym p.after.told ∙ told

    abbrev IsTaken : Answer → Type 0
    IsTaken a = IsDone obj_rules p.read p.before.journal name.hash own a p.made g.journal
        ⊎ IsRefused obj_rules p.read p.before.journal name.hash own a p.made g.journal

    -- an acknowledgement is an entry, or a refusal by what has the write
    taken : is_acknowledgement answer ≡ true → (p.looked ≡ true) × IsTaken answer
    taken is = by answer p.looked refl is p.answered
      where
        by : (a : Answer) (b : Bool) → p.looked ≡ b → is_acknowledgement a ≡ true
            → Answers obj_rules b p.read p.before.journal name.hash own a p.made g.journal → (p.looked ≡ true) × IsTaken a
        by (answers.Done front) true looked is q = (looked, inl q)
        by (answers.Conflict time) true looked is q = (looked, inr q)
        by (answers.Done front) false looked is q = absurd q
        by (answers.Conflict time) false looked is q = absurd q
        by a b looked is q = cc

    -- the write is made whole, or not at all
    made_whole : (p.made ≡ []) ⊎ (p.made ≡ Wrote name w [] ∷ [])
    made_whole = by p.looked p.answered
      where
        stopped : (failed : Bool) → Stops obj_rules failed p.read p.before.journal name.hash own p.made g.journal
            → (p.made ≡ []) ⊎ (p.made ≡ Wrote name w [] ∷ [])
        stopped failed st = cut (one-list (Wrote name w [] ∷ []) st.first st.here st.behind st.cut) st.is_made
          where
            cut : (st.first ≡ []) × (st.here ≡ Wrote name w [] ∷ []) × (st.behind ≡ [])
                → (p.made ≡ flat st.first) ⊎ ((st.doubted ≡ true) × (p.made ≡ flat st.first ++ st.here)) → (p.made ≡ []) ⊎ (p.made ≡ Wrote name w [] ∷ [])
            cut one (inl none) = inl (none ∙ ap flat one.0)
            cut one (inr both) = inr (both.1 ∙ (ap (λ (xs : List (List ObjEntry)). flat xs ++ st.here) one.0 ∙ one.1))

        seen : (e : Ending) → EndsSeen obj_rules e p.read p.before.journal name.hash own answer p.made g.journal
            → (p.made ≡ []) ⊎ (p.made ≡ Wrote name w [] ∷ [])
        seen Makes q = inr q.is_made
        seen Refuses q = inl q.leaves.not_made
        seen Overflows q = inl q.leaves.not_made
        seen Fails q = stopped true q
        seen Wants q = stopped false q
        seen Damages q = absurd q

        unseen : (e : Ending) → EndsUnseen obj_rules e p.before.journal p.made g.journal → p.made ≡ []
        unseen Fails q = q.not_made
        unseen Wants q = q.not_made
        unseen Damages q = q.not_made
        unseen e q = absurd q

        by : (b : Bool) → Answers obj_rules b p.read p.before.journal name.hash own answer p.made g.journal → (p.made ≡ []) ⊎ (p.made ≡ Wrote name w [] ∷ [])
        by true q = seen (obj_ending answer) q
        by false q = inl (unseen (obj_ending answer) q)

    -- what is known after it has the write
    step-has : is_acknowledgement answer ≡ true → joined (state_by g name.hash) w ≡ state_by g name.hash
    step-has is = by (taken is).1
      where
        stood : p.read.state ≡ state_by p.before name.hash
        stood = state-told p.before name.hash p.read (p.known told_before (taken is).0)
            (none-written p.read name.hash name (Receive w) (doubts_about obj_rules name.hash p.before.journal.doubts) refl (p.settled (taken is).0))

        more : (es : List ObjEntry) → g.journal.entries ≡ p.before.journal.entries ++ es
            → stands obj_rules g name.hash ≡ fold obj_applied (stands obj_rules p.before name.hash) (about obj_rules name.hash es)
        more es entries = stand-more obj_rules are-rules p.before g name.hash es p.after.opening entries

        by : IsTaken answer → joined (state_by g name.hash) w ≡ state_by g name.hash
        by (inl done) =
            let now : stands obj_rules g name.hash ≡ with_write (stands obj_rules p.before name.hash) =
            more (Wrote name w [] ∷ []) (ap (λ (j : ObjJournal). j.entries) done.entered)
            ∙ ap (fold obj_applied (stands obj_rules p.before name.hash)) (about-own obj_rules are-rules name.hash (Wrote name w [] ∷ []) (refl, tt)) in
            subst (λ (v : ObjValue). joined v.state w ≡ v.state) (sym now) (comes_again (state_by p.before name.hash) w)
        by (inr refused) =
            let same : g.journal.entries ≡ p.before.journal.entries ++ [] =
            ap (λ (j : ObjJournal). j.entries) refused.leaves.same ∙ sym (append-nil p.before.journal.entries) in
            subst (λ (v : State). joined v w ≡ v) (stood ∙ ap (λ (v : ObjValue). v.state) (sym (more [] same)))
            (refused-held p.read.state w answer refused.refused)

    module _ (is_alone : alone ≡ true) where
      left : (es : List ObjEntry) → p.made ≡ es → t ≡ fold obj_applied (s name.hash) es
      left es made = p.leaves is_alone told_before ∙ ap (fold obj_applied (s name.hash)) made

      -- and the device holds it
      step-holds : is_acknowledgement answer ≡ true → t ≡ with_write (s name.hash)
      step-holds is = by (taken is).1
        where
          by : IsTaken answer → t ≡ with_write (s name.hash)
          by (inl done) = left (Wrote name w [] ∷ []) done.is_made
          by (inr refused) = left [] refused.leaves.not_made ∙ sym (kept-by (s name.hash)
              (subst (λ (v : ObjValue). joined v.state w ≡ v.state) (p.held is_alone told_before (taken is).0)
              (refused-held p.read.state w answer refused.refused)))

      -- of a copy that nobody heard: the write, or nothing
      step-either : MayHave (s name.hash) t
      step-either = by made_whole
        where
          by : (p.made ≡ []) ⊎ (p.made ≡ Wrote name w [] ∷ []) → MayHave (s name.hash) t
          by (inl none) = inl (left [] none)
          by (inr all) = inr (left (Wrote name w [] ∷ []) all)

  -- ---- a call, at a device and one of its locks

  module _ (device l : ℕ) where
    abbrev Transfers : Sight → Answer → Sight → Type 0
    Transfers = IsMade Sent device name (Receive w)

    abbrev held : Sight → ObjValue
    held s = s.objects.holds device name.hash

    at-lock : (s : Sight) (a : Answer) (t : Sight) → s.nodes.lock device name.hash ≡ l → Transfers s a t
        → ChangesObject t.alone (s.objects.seen l) (s.objects.holds device) name (Receive w) a (t.objects.seen l) (held t)
    at-lock s a t is p =
        subst (λ (k : ℕ). ChangesObject t.alone (s.objects.seen k) (s.objects.holds device) name (Receive w) a (t.objects.seen k) (held t)) is p.step

    lock-kept : (s : Sight) (a : Answer) (t : Sight) → s.nodes.lock device name.hash ≡ l → Transfers s a t → t.nodes.lock device name.hash ≡ l
    lock-kept s a t is p = ap (λ n. n.lock device name.hash) p.moves.nodes ∙ is

    heard-has : (s : Sight) (xs : List Answer) (a : Answer) (t : Sight) → s.nodes.lock device name.hash ≡ l → Comes Transfers s (xs ++ a ∷ []) t
        → is_acknowledgement a ≡ true → (t.objects.seen l).told ≡ true
        → joined (state_by (t.objects.seen l) name.hash) w ≡ state_by (t.objects.seen l) name.hash
    heard-has s [] a t is p has =
        let mid : Sight = p.0 in
        subst (λ (x : Sight). (x.objects.seen l).told ≡ true → joined (state_by (x.objects.seen l) name.hash) w ≡ state_by (x.objects.seen l) name.hash)
        (sym p.2.same)
        (λ told. step-has mid.alone (s.objects.seen l) (s.objects.holds device) a (mid.objects.seen l) (held mid) (at-lock s a mid is p.1) told has)
    heard-has s (x ∷ xs) a t is p has = heard-has p.0 xs a t (lock-kept s x p.0 is p.1) p.2 has

    one : (was mid now : ObjValue) → MayHave was mid → now ≡ with_write mid → now ≡ with_write was
    one was mid now (inl same) is = is ∙ ap with_write same
    one was mid now (inr made) is = is ∙ (ap with_write made ∙ kept-by (with_write was) (comes_again was.state w))

    heard-holds : (s : Sight) (xs : List Answer) (a : Answer) (t : Sight) → s.nodes.lock device name.hash ≡ l → Comes Transfers s (xs ++ a ∷ []) t
        → is_acknowledgement a ≡ true → t.alone ≡ true → (t.objects.seen l).told ≡ true → held t ≡ with_write (held s)
    heard-holds s [] a t is p has =
        let mid : Sight = p.0 in
        subst (λ (x : Sight). x.alone ≡ true → (x.objects.seen l).told ≡ true → held x ≡ with_write (held s)) (sym p.2.same)
        (λ alone told. step-holds mid.alone (s.objects.seen l) (s.objects.holds device) a (mid.objects.seen l) (held mid)
        (at-lock s a mid is p.1) told alone has)
    heard-holds s (x ∷ xs) a t is p has = λ alone told.
        let mid : Sight = p.0 in
        let rest : Moves (IsAt device name.hash) mid t =
        comes-moves (Moves (IsAt device name.hash)) Transfers (made-step Sent device name (Receive w)) mid (xs ++ a ∷ []) t p.2 in
        one (held s) (held mid) (held t)
        (step-either mid.alone (s.objects.seen l) (s.objects.holds device) x (mid.objects.seen l) (held mid) (at-lock s x mid is p.1)
        (sym (rest.objects.grows l).told ∙ told) (rest.alone alone))
        (heard-holds mid xs a t (lock-kept s x mid is p.1) p.2 has alone told)

-- ---- over any door

module _ (device : ℕ) (name : Name) (w : Write) (s t : Sight) where
  abbrev Sends : Result Answer Lost → Type 0
  Sends r = Calls (IsMade Sent device name (Receive w)) s Sent r t

  pub sent-moves : (r : Result Answer Lost) → Sends r → Moves (IsAt device name.hash) s t
  sent-moves r p = calls-moves (Moves (IsAt device name.hash)) (IsMade Sent device name (Receive w)) (made-step Sent device name (Receive w)) s Sent r t p

  same-lock : (r : Result Answer Lost) → Sends r → s.nodes.lock device name.hash ≡ t.nodes.lock device name.hash
  same-lock r p = sym (ap (λ n. n.lock device name.hash) (sent-moves r p).nodes)

  pub sent-has : (r : Result Answer Lost) → Sends r → acknowledges r ≡ true → Acknowledged t device name.hash w
  sent-has (Ok a) p is = heard-has name w device (t.nodes.lock device name.hash) s p.0 a t (same-lock (Ok a) p) p.2 is
  sent-has (Err lost) p is = cc

  pub sent-holds : (r : Result Answer Lost) → Sends r → acknowledges r ≡ true → HeldBy s t device name.hash w
  sent-holds (Ok a) p is = heard-holds name w device (t.nodes.lock device name.hash) s p.0 a t (same-lock (Ok a) p) p.2 is
  sent-holds (Err lost) p is = cc
