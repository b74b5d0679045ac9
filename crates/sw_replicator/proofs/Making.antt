-- What a transfer that was acknowledged leaves at the receiver.
use Rattle.std.proofs.Common.{◌≡◌, ℕ, Bool, true, false, List, [], ◌∷◌, ◌++◌, refl, sym, ◌∙◌, ap, subst, ◌⊎◌, inl, inr, Ok}
use Rattle.std.specs.List.{fold}
use Rattle.sw_peer.proofs.Heard.{last}
use Rattle.sw_hashpath.specs.declared.name.Name.{Name}
use Rattle.sw_object_steps.proofs.Answering.{refused-held}
use Rattle.sw_object_steps.proofs.Ruling.{are-rules}
use Rattle.sw_object_steps.proofs.Undoubted.{none-written, state-told}
use Rattle.sw_object_steps.proofs.Lists.{one-list}
use Rattle.sw_object_steps.specs.Histories.{ChangesObject}
use Rattle.sw_object_steps.specs.Journals.{Hash}
use Rattle.sw_object_steps.specs.Parts.{IsOfPart}
use Rattle.sw_object_steps.specs.Rules.{ObjChange, ObjHistory, ObjJournal, Writes, obj_applied, obj_ending, obj_rules}
use Rattle.sw_object_steps.specs.Steps.{is_held}
use Rattle.sw_object_steps.specs.Values.{ObjValue}
use Rattle.sw_object_steps.specs.declared.answer.Answer.{Answer}
use Rattle.sw_object_steps.specs.declared.answer.Answer.TheVariants as answers
use Rattle.sw_object_steps.specs.declared.change.Change.TheVariants.{Receive}
use Rattle.sw_object_steps.specs.declared.entry.ObjEntry.{ObjEntry}
use Rattle.sw_object_steps.specs.declared.entry.ObjEntry.TheVariants.{Wrote}
use Rattle.sw_peer.proofs.Calls.{calls-moves, comes-moves, made-step}
use Rattle.sw_peer.specs.Sights.{Calls, Comes, IsAt, IsMade, Moves}
use Rattle.sw_peer.specs.Sights.{Nodes, Sight}
use Rattle.sw_peer.specs.declared.link.Link.TheVariants.{Sent}
use Rattle.sw_replicator.proofs.Reading.{same-holds}
use Rattle.sw_replicator.proofs.Taking.{grown-least, least-keeps}
use Rattle.sw_replicator.specs.Meeting.{known, state_at, state_by}
use Rattle.sw_state.proofs.JoinLaws.{comes_again}
use Rattle.sw_state.specs.States.{joined}
use Rattle.sw_state.specs.declared.state.State.{State}
use Rattle.sw_state.specs.declared.write.Write.{Write}
use Rattle.sw_step.proofs.Keeping.{about-own, stand-more}
use Rattle.sw_step.specs.Journals.{flat}
use Rattle.sw_step.specs.Rules.{Damages, Ending, Fails, Makes, Overflows, Refuses, Wants, doubts_about, stands}
use Rattle.sw_step.specs.Steps.{Answers, EndsSeen, EndsUnseen, IsDone, IsRefused, Stops}

module _ (to : ℕ) (name : Name) (w : Write) where
  abbrev Transfers : Sight → Answer → Sight → Type 0
  Transfers = IsMade Sent to name (Receive w)

  abbrev own : ObjChange
  own = Writes name (Receive w)

  abbrev entry : List ObjEntry
  entry = Wrote name w [] ∷ []

  -- the device's lock is that of the partition
  lock_is : (s : Sight) (part : ℕ) → IsOfPart s.nodes.power part name.hash → s.nodes.lock to name.hash ≡ s.nodes.part_lock to part
  lock_is s part is = s.nodes.one_lock to name.hash ∙ ap (s.nodes.part_lock to) is.part_is

  -- ---- one step

  module _ (alone : Bool) (h : ObjHistory) (s : Hash → ObjValue) (answer : Answer) (g : ObjHistory) (t : ObjValue)
      (p : ChangesObject alone h s name (Receive w) answer g t) where
    -- what is acknowledged was made, or what stood refused it
    abbrev IsTaken : Answer → Type 0
    IsTaken a = IsDone obj_rules p.read p.before.journal name.hash own a p.made g.journal
        ⊎ IsRefused obj_rules p.read p.before.journal name.hash own a p.made g.journal

    taken : is_held (Receive w) answer ≡ true → (p.looked ≡ true) × IsTaken answer
    taken held = by answer p.looked refl held p.answered
      where
        by : (a : Answer) (b : Bool) → p.looked ≡ b → is_held (Receive w) a ≡ true
            → Answers obj_rules b p.read p.before.journal name.hash own a p.made g.journal → (p.looked ≡ true) × IsTaken a
        by (answers.Done front) true looked is q = (looked, inl q)
        by (answers.Buried front) true looked is q = (looked, inl q)
        by (answers.Conflict time) true looked is q = (looked, inr q)
        by (answers.Done front) false looked is q = absurd q
        by (answers.Buried front) false looked is q = absurd q
        by (answers.Conflict time) false looked is q = absurd q
        by a b looked is q = cc

    -- of the write all is made, or nothing
    stopped : (failed : Bool) → Stops obj_rules failed p.read p.before.journal name.hash own p.made g.journal → (p.made ≡ []) ⊎ (p.made ≡ entry)
    stopped failed st = by (one-list entry st.first st.here st.behind st.cut) st.is_made
      where
        by : (st.first ≡ []) × (st.here ≡ entry) × (st.behind ≡ []) → (p.made ≡ flat st.first) ⊎ ((st.doubted ≡ true) × (p.made ≡ flat st.first ++ st.here))
            → (p.made ≡ []) ⊎ (p.made ≡ entry)
        by one (inl none) = inl (none ∙ ap flat one.0)
        by one (inr both) = inr (both.1 ∙ (ap (λ (xs : List (List ObjEntry)). flat xs ++ st.here) one.0 ∙ one.1))

    made_whole : (p.made ≡ []) ⊎ (p.made ≡ entry)
    made_whole = by p.looked p.answered
      where
        seen : (e : Ending) → EndsSeen obj_rules e p.read p.before.journal name.hash own answer p.made g.journal → (p.made ≡ []) ⊎ (p.made ≡ entry)
        seen Makes q = inr q.is_made
        seen Refuses q = inl q.leaves.not_made
        seen Overflows q = inl q.leaves.not_made
        seen Fails q = stopped true q
        seen Wants q = stopped false q
        seen Damages q = absurd q

        unseen : (e : Ending) → EndsUnseen obj_rules e p.before.journal p.made g.journal → p.made ≡ []
        unseen Fails q = q.not_made
        unseen Wants q = q.not_made
        unseen Damages q = q.not_made
        unseen e q = absurd q

        by : (b : Bool) → Answers obj_rules b p.read p.before.journal name.hash own answer p.made g.journal → (p.made ≡ []) ⊎ (p.made ≡ entry)
        by true q = seen (obj_ending answer) q
        by false q = inl (unseen (obj_ending answer) q)

    module _ (told : g.told ≡ true) where
      told_before : p.before.told ≡ true
      told_before = sym p.after.told ∙ told

      -- what is acknowledged stands
      stands_after : is_held (Receive w) answer ≡ true → joined (state_by g name.hash) w ≡ state_by g name.hash
      stands_after held = by (taken held).1
        where
          by : IsTaken answer → joined (state_by g name.hash) w ≡ state_by g name.hash
          by (inl done) =
              let is : stands obj_rules g name.hash ≡ obj_applied (stands obj_rules p.before name.hash) (Wrote name w []) =
              stand-more obj_rules are-rules p.before g name.hash entry p.after.opening (ap (λ (j : ObjJournal). j.entries) done.entered)
              ∙ ap (fold obj_applied (stands obj_rules p.before name.hash)) (about-own obj_rules are-rules name.hash entry (refl, tt)) in
              subst (λ (v : ObjValue). joined v.state w ≡ v.state) (sym is) (comes_again (state_by p.before name.hash) w)
          by (inr refused) =
              let read : p.read.state ≡ state_by p.before name.hash =
              state-told p.before name.hash p.read (p.known told_before (taken held).0)
              (none-written p.read name.hash name (Receive w) (doubts_about obj_rules name.hash p.before.journal.doubts) refl (p.settled (taken held).0)) in
              least-keeps (state_by g name.hash) (state_by p.before name.hash) w (grown-least p.before g name.hash p.after)
              (subst (λ (v : State). joined v w ≡ v) read (refused-held p.read.state w answer refused.refused))

      module _ (is : alone ≡ true) where
        holds : (es : List ObjEntry) → p.made ≡ es → t ≡ fold obj_applied (s name.hash) es
        holds es same = p.leaves is told_before ∙ ap (λ (xs : List ObjEntry). fold obj_applied (s name.hash) xs) same

        -- what the device then holds: the write is joined, or nothing changes
        joins_after : (t.state ≡ (s name.hash).state) ⊎ (t.state ≡ joined (s name.hash).state w)
        joins_after = by made_whole
          where
            by : (p.made ≡ []) ⊎ (p.made ≡ entry) → (t.state ≡ (s name.hash).state) ⊎ (t.state ≡ joined (s name.hash).state w)
            by (inl none) = inl (ap (λ (v : ObjValue). v.state) (holds [] none))
            by (inr all) = inr (ap (λ (v : ObjValue). v.state) (holds entry all))

        -- and where it is acknowledged the device holds it
        holds_after : is_held (Receive w) answer ≡ true → joined t.state w ≡ t.state
        holds_after held = by (taken held).1
          where
            by : IsTaken answer → joined t.state w ≡ t.state
            by (inl done) =
                subst (λ (v : ObjValue). joined v.state w ≡ v.state) (sym (holds entry done.is_made)) (comes_again (s name.hash).state w)
            by (inr refused) =
                subst (λ (v : ObjValue). joined v.state w ≡ v.state) (p.held is told_before (taken held).0 ∙ sym (holds [] refused.leaves.not_made))
                (refused-held p.read.state w answer refused.refused)

  -- ---- a call

  pub made-stands : (part : ℕ) (s : Sight) (answer : Answer) (t : Sight) → IsOfPart s.nodes.power part name.hash → Calls Transfers s Sent (Ok answer) t
      → is_held (Receive w) answer ≡ true → (known t to part).told ≡ true
      → joined (state_by (known t to part) name.hash) w ≡ state_by (known t to part) name.hash
  made-stands part s answer t is p held told =
      let r = last Transfers s p.0 answer t p.2 in
      let m : Sight = r.0 in
      let n : Sight = r.1 in
      let before : m.nodes ≡ s.nodes = (comes-moves (Moves (IsAt to name.hash)) Transfers (made-step Sent to name (Receive w)) s p.0 m r.2).nodes in
      let after : n.nodes ≡ m.nodes = r.3.moves.nodes in
      let lock : m.nodes.lock to name.hash ≡ n.nodes.part_lock to part =
      lock_is m part (subst (λ (k : Nodes). IsOfPart k.power part name.hash) (sym before) is) ∙ ap (λ (k : Nodes). k.part_lock to part) (sym after) in
      let P : ObjHistory → Type 0 = λ h. h.told ≡ true → joined (state_by h name.hash) w ≡ state_by h name.hash in
      subst (λ (x : Sight). P (known x to part)) (sym r.4.same)
      (subst (λ (l : ℕ). P (n.objects.seen l)) lock
      (λ x. stands_after n.alone (m.objects.seen (m.nodes.lock to name.hash)) (m.objects.holds to) answer (n.objects.seen (m.nodes.lock to name.hash))
      (n.objects.holds to name.hash) r.3.step x held)) told

  -- what the device holds where a copy came: the write is joined, or nothing changes
  abbrev Joins : State → State → Type 0
  Joins s t = (t ≡ s) ⊎ (t ≡ joined s w)

  joins-trans : (s t u : State) → Joins s t → Joins t u → Joins s u
  joins-trans s t u (inl p) (inl q) = inl (q ∙ p)
  joins-trans s t u (inl p) (inr q) = inr (q ∙ ap (λ (x : State). joined x w) p)
  joins-trans s t u (inr p) (inl q) = inr (q ∙ p)
  joins-trans s t u (inr p) (inr q) = inr (q ∙ (ap (λ (x : State). joined x w) p ∙ comes_again s w))

  comes-join : (s : Sight) (xs : List Answer) (t : Sight) → Comes Transfers s xs t → t.alone ≡ true → (t.objects.seen (s.nodes.lock to name.hash)).told ≡ true
      → Joins (state_at s to name.hash) (state_at t to name.hash)
  comes-join s [] t p alone told = inl (ap (λ (v : ObjValue). v.state) (same-holds s t p alone to name.hash))
  comes-join s (x ∷ xs) t p alone told =
      let mid : Sight = p.0 in
      let l : ℕ = s.nodes.lock to name.hash in
      let rest : Moves (IsAt to name.hash) mid t = comes-moves (Moves (IsAt to name.hash)) Transfers (made-step Sent to name (Receive w)) mid xs t p.2 in
      let told_mid : (mid.objects.seen l).told ≡ true = sym (rest.objects.grows l).told ∙ told in
      joins-trans (state_at s to name.hash) (state_at mid to name.hash) (state_at t to name.hash)
      (joins_after mid.alone (s.objects.seen l) (s.objects.holds to) x (mid.objects.seen l) (mid.objects.holds to name.hash) p.1.step told_mid
      (rest.alone alone))
      (comes-join mid xs t p.2 alone (subst (λ (k : Nodes). (t.objects.seen (k.lock to name.hash)).told ≡ true) (sym p.1.moves.nodes) told))

  lock_told : (part : ℕ) (s t : Sight) → IsOfPart s.nodes.power part name.hash → t.nodes ≡ s.nodes → (known t to part).told ≡ true
      → (t.objects.seen (s.nodes.lock to name.hash)).told ≡ true
  lock_told part s t is same told =
      subst (λ (l : ℕ). (t.objects.seen l).told ≡ true) (sym (lock_is s part is))
      (subst (λ (k : Nodes). (t.objects.seen (k.part_lock to part)).told ≡ true) same told)

  pub made-joins : (part : ℕ) (s : Sight) (answer : Answer) (t : Sight) → IsOfPart s.nodes.power part name.hash → Calls Transfers s Sent (Ok answer) t
      → t.alone ≡ true → (known t to part).told ≡ true → Joins (state_at s to name.hash) (state_at t to name.hash)
  made-joins part s answer t is p alone told =
      let moves : Moves (IsAt to name.hash) s t =
      calls-moves (Moves (IsAt to name.hash)) Transfers (made-step Sent to name (Receive w)) s Sent (Ok answer) t p in
      comes-join s (p.0 ++ answer ∷ []) t p.2 alone (lock_told part s t is moves.nodes told)

  pub made-holds : (part : ℕ) (s : Sight) (answer : Answer) (t : Sight) → IsOfPart s.nodes.power part name.hash → Calls Transfers s Sent (Ok answer) t
      → is_held (Receive w) answer ≡ true → t.alone ≡ true → (known t to part).told ≡ true
      → joined (state_at t to name.hash) w ≡ state_at t to name.hash
  made-holds part s answer t is p held alone told =
      let r = last Transfers s p.0 answer t p.2 in
      let m : Sight = r.0 in
      let n : Sight = r.1 in
      let before : m.nodes ≡ s.nodes = (comes-moves (Moves (IsAt to name.hash)) Transfers (made-step Sent to name (Receive w)) s p.0 m r.2).nodes in
      let same : t ≡ record n { faults = t.faults; asks = t.asks; carriage = t.carriage } = r.4.same in
      let told_n : (known n to part).told ≡ true = sym (ap (λ (x : Sight). (known x to part).told) same) ∙ told in
      let told_l : (n.objects.seen (m.nodes.lock to name.hash)).told ≡ true =
      lock_told part m n (subst (λ (k : Nodes). IsOfPart k.power part name.hash) (sym before) is) r.3.moves.nodes told_n in
      subst (λ (x : Sight). joined (state_at x to name.hash) w ≡ state_at x to name.hash) (sym same)
      (holds_after n.alone (m.objects.seen (m.nodes.lock to name.hash)) (m.objects.holds to) answer (n.objects.seen (m.nodes.lock to name.hash))
      (n.objects.holds to name.hash) r.3.step told_l (sym (ap (λ (x : Sight). x.alone) same) ∙ alone) held)

  -- under other hashes, and at other devices, nothing changes
  pub made-kept : (s : Sight) (answer : Answer) (t : Sight) → Calls Transfers s Sent (Ok answer) t → t.alone ≡ true → (d : ℕ) (hash : Hash)
      → (IsAt to name.hash d hash → ⊥) → t.objects.holds d hash ≡ s.objects.holds d hash
  made-kept s answer t p = (calls-moves (Moves (IsAt to name.hash)) Transfers (made-step Sent to name (Receive w)) s Sent (Ok answer) t p).objects.others
