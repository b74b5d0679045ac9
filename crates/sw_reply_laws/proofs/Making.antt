-- A write of an object whose step came: what stands behind it bears out the reply to it.
use Rattle.std.proofs.Common.{◌≡◌, ℕ, ◌≤◌, Bool, true, false, List, [], ◌∷◌, ◌++◌, None, Some, Ok, refl, sym, ◌∙◌, ap, subst, arith, fold, if◌then◌else◌}
use Rattle.sw_hashpath.specs.declared.name.Name.{Name}
use Rattle.sw_message.specs.declared.response.Response.{Response}
use Rattle.sw_object_server.specs.Replies.{made_reply, reply_to}
use Rattle.sw_object_steps.specs.Histories.{ChangesObject}
use Rattle.sw_object_steps.specs.Journals.{Hash}
use Rattle.sw_object_steps.specs.Recorded.{is_write, record_entries, records_for}
use Rattle.sw_object_steps.specs.Rules.{ObjHistory, Writes, obj_applied, obj_entries, obj_rules}
use Rattle.sw_object_steps.specs.Steps.{refusal_of, write_of}
use Rattle.sw_object_steps.specs.Values.{ObjValue}
use Rattle.sw_object_steps.specs.declared.answer.Answer.{Answer}
use Rattle.sw_object_steps.specs.declared.answer.Answer.TheVariants as answers
use Rattle.sw_object_steps.specs.declared.change.Change.{Change}
use Rattle.sw_object_steps.specs.declared.entry.ObjEntry.{ObjEntry}
use Rattle.sw_object_steps.specs.declared.entry.ObjEntry.TheVariants.{Wrote}
use Rattle.sw_peer.specs.Sights.{Calls, Comes, IsMade, IsSame, Sight}
use Rattle.sw_peer.specs.declared.link.Link.TheVariants.{Local}
use Rattle.sw_state.proofs.JoinLaws.{join_is_at_least, joined-together}
use Rattle.sw_state.specs.States.{IsAtLeast, joined, state_of}
use Rattle.sw_state.specs.Writes.{tag_of}
use Rattle.sw_state.specs.declared.state.State.{State}
use Rattle.sw_state.specs.declared.write.Kind.{Kind}
use Rattle.sw_state.specs.declared.write.Kind.TheVariants as kinds
use Rattle.sw_state.specs.declared.write.Write.{Write}
use Rattle.sw_step.specs.Steps.{Answers}
use Rattle.sw_reply_laws.proofs.Refusing.{refused-late}
use Rattle.sw_reply_laws.specs.Laws.{WritesStand}
use Rattle.sw_reply_laws.specs.Objects.{BearsOut, IsAsLate, tells_made}

-- a state joined with a write is at least the write
pub has-joined : (s : State) (w : Write) → IsAtLeast (joined s w) (state_of (w ∷ []))
has-joined s w =
    subst (λ (x : State). IsAtLeast x (state_of (w ∷ []))) (sym (joined-together s w)) (join_is_at_least s (state_of (w ∷ []))).1

-- a write is one entry
one-entry : (v : ObjValue) (hash : Hash) (name : Name) (change : Change) → is_write change ≡ true
    → obj_entries v hash (Writes name change) ≡ Wrote name (write_of change) (records_for name change) ∷ []
one-entry v hash name change writes =
    ap (λ (b : Bool). if b then Wrote name (write_of change) (records_for name change) ∷ [] else record_entries v hash change) writes

-- a reply that tells nothing of a write is borne out by anything
pub silent : (response : Response) (w : Write) (s : State) → tells_made response.status ≡ false → (response.status ≡ 409 → ⊥) → BearsOut response w s
silent response w s unmade not_late = record { made = λ is. absurd (apart is); late = λ is. absurd (not_late is) }
  where
    apart : tells_made response.status ≡ true → ⊥
    apart is = cc

-- the reply to a write that was made is no 409
not-late : (kind : Kind) → (made_reply kind).status ≡ 409 → ⊥
not-late (kinds.Put content) is = omega (arith, is)
not-late (kinds.Meta heads) is = omega (arith, is)
not-late kinds.Del is = omega (arith, is)

module _ (alone : Bool) (is_alone : alone ≡ true) (h : ObjHistory) (s : Hash → ObjValue) (name : Name) (change : Change) (writes : is_write change ≡ true)
    (answer : Answer) (g : ObjHistory) (t : ObjValue) (step : ChangesObject alone h s name change answer g t) (told : h.told ≡ true) where
  told-before : step.before.told ≡ true
  told-before = step.follows.told ∙ told

  -- where all of it was made, its write was joined
  has-write : step.made ≡ obj_entries step.read name.hash (Writes name change) → IsAtLeast t.state (state_of (write_of change ∷ []))
  has-write all =
      subst (λ (v : ObjValue). IsAtLeast v.state (state_of (write_of change ∷ [])))
      (sym (step.leaves is_alone told-before
      ∙ ap (λ (es : List ObjEntry). fold obj_applied (s name.hash) es) (all ∙ one-entry step.read name.hash name change writes)))
      (has-joined (s name.hash).state (write_of change))

  -- where it was refused, what stood stands
  is-late : (time : ℕ) → step.looked ≡ true → step.made ≡ [] → refusal_of step.read.state change ≡ Some (answers.Conflict time)
      → ((write_of change).time ≤ time) × IsAsLate t.state (tag_of (write_of change).kind) time
  is-late time looked none refused =
      refused-late t.state change time writes
      (subst (λ (v : ObjValue). refusal_of v.state change ≡ Some (answers.Conflict time)) (step.held is_alone told-before looked ∙ sym stands) refused)
    where
      stands : t ≡ s name.hash
      stands = step.leaves is_alone told-before ∙ ap (λ (es : List ObjEntry). fold obj_applied (s name.hash) es) none

  abbrev Bears : Answer → Type 0
  Bears a = BearsOut (reply_to (made_reply (write_of change).kind) a) (write_of change) t.state

  when-made : (a : Answer) → reply_to (made_reply (write_of change).kind) a ≡ made_reply (write_of change).kind
      → step.made ≡ obj_entries step.read name.hash (Writes name change) → Bears a
  when-made a is all = record {
    made = λ tells. has-write all;
    late = λ late. absurd (not-late (write_of change).kind (sym (ap (λ (r : Response). r.status) is) ∙ late));
  }

  by-answer : (a : Answer) (looked : Bool) → step.looked ≡ looked
      → Answers obj_rules looked step.read step.before.journal name.hash (Writes name change) a step.made g.journal → Bears a
  by-answer (answers.Done front) true is done = when-made (answers.Done front) refl done.is_made
  by-answer (answers.Done front) false is none = absurd none
  by-answer (answers.Took took) true is done = when-made (answers.Took took) refl done.is_made
  by-answer (answers.Took took) false is none = absurd none
  by-answer (answers.Conflict time) true is refused = record {
    made = λ tells. cc;
    late = λ late. let l = is-late time is refused.leaves.not_made refused.refused in (time, refl, l.0, l.1);
  }
  by-answer (answers.Conflict time) false is none = absurd none
  by-answer (answers.Buried front) looked is said = silent _ (write_of change) t.state refl (λ late. omega (arith, late))
  by-answer (answers.NotFound None) looked is said = silent _ (write_of change) t.state refl (λ late. omega (arith, late))
  by-answer (answers.NotFound (Some time)) looked is said = silent _ (write_of change) t.state refl (λ late. omega (arith, late))
  by-answer (answers.Mismatch second) looked is said = silent _ (write_of change) t.state refl (λ late. omega (arith, late))
  by-answer answers.Exists looked is said = silent _ (write_of change) t.state refl (λ late. omega (arith, late))
  by-answer answers.JournalFull looked is said = silent _ (write_of change) t.state refl (λ late. omega (arith, late))
  by-answer (answers.Damaged bad) looked is said = silent _ (write_of change) t.state refl (λ late. omega (arith, late))
  by-answer answers.Failed looked is said = silent _ (write_of change) t.state refl (λ late. omega (arith, late))
  by-answer answers.NoMemory looked is said = silent _ (write_of change) t.state refl (λ late. omega (arith, late))

  pub bears : Bears answer
  bears = by-answer answer step.looked refl step.answered

-- a call at the device itself comes once
pub once : {A : Type 0} (step : Sight → A → Sight → Type 0) (s : Sight) (x : A) (t : Sight) → Calls step s Local (Ok x) t
    → (mid : Sight) × step s x mid × IsSame mid t
once {A} step s x t calls = subst (λ (xs : List A). Comes step s (xs ++ x ∷ []) t) (calls.1 refl) calls.2

pub writes-stand : WritesStand
writes-stand s t device name change response alone writes (answer, stepped, is) told =
    subst (λ (r : Response). BearsOut r (write_of change) (t.objects.holds device name.hash).state) (sym is)
    (subst (λ (v : ObjValue). BearsOut (reply_to (made_reply (write_of change).kind) answer) (write_of change) v.state)
    (ap (λ (x : Sight). x.objects.holds device name.hash) (sym came.2.same))
    (bears (came.0).alone still (s.objects.seen (s.nodes.lock device name.hash)) (s.objects.holds device) name change writes answer
    ((came.0).objects.seen (s.nodes.lock device name.hash)) ((came.0).objects.holds device name.hash) (came.1).step told))
  where
    came : (mid : Sight) × IsMade Local device name change s answer mid × IsSame mid t
    came = once (IsMade Local device name change) s answer t stepped.called

    still : (came.0).alone ≡ true
    still = sym (ap (λ (x : Sight). x.alone) came.2.same) ∙ alone
