-- What two pushes leave that requests asked for, there and back.
use Rattle.std.proofs.Common.{◌≡◌, ◌≢◌, ℕ, Bool, true, false, ◌++◌, refl, sym, ◌∙◌, ap, subst, arith, ◌⊎◌, inl, inr, Result, Ok, Err, MatchBool}
use Rattle.sw_control.proofs.OneControl.{asks_for_one}
use Rattle.sw_control.proofs.ToldOutcomes.{tells_done}
use Rattle.sw_control.specs.Asking.{is_control}
use Rattle.sw_control.specs.OutcomeText.{outcome_text}
use Rattle.sw_control.specs.Texts.{text_reply}
use Rattle.sw_control.specs.declared.asking.Control.{Control}
use Rattle.sw_control.specs.declared.asking.Control.TheVariants as controls
use Rattle.sw_core.specs.Worlds.{KeeperSeen, AllNodes, sight_of}
use Rattle.sw_hashpath.specs.HashParts.{suffix_of}
use Rattle.sw_lossy.specs.Losses.{begun}
use Rattle.sw_lossy.specs.declared.acts.Acts.{Acts}
use Rattle.sw_message.specs.declared.response.ReplyBody.TheVariants.{Whole}
use Rattle.sw_message.specs.declared.response.Response.{Response}
use Rattle.sw_object_server.specs.Replies.{bare}
use Rattle.sw_object_steps.specs.Journals.{Hash}
use Rattle.sw_outside.specs.declared.errors.NoMemory.{NoMemory}
use Rattle.sw_pass.specs.declared.outcome.Outcome.{Outcome}
use Rattle.sw_peer.specs.Sights.{Sight}
use Rattle.sw_replicator.proofs.Exchanging.{exchange_agrees}
use Rattle.sw_replicator.specs.Laws.{CollidesOnce}
use Rattle.sw_ring.specs.declared.ring.Ring.{Ring}
use Rattle.sw_state.specs.States.{state_of, writes_of}
use Rattle.sw_state.specs.declared.state.State.{State}
use Rattle.sw_steps.proofs.Exchanging.{collides-out}
use Rattle.sw_steps.proofs.Running.{sight_after}
use Rattle.sw_steps.specs.Passing.{IsPushedOver}
use Rattle.sw_volume.specs.Tree.{Folders}
use Rattle.sw_nodes.specs.Exchanging.{ExchangeMeets, IsDonePush, TellsDone}
use Rattle.sw_nodes.specs.Server.{IsControlDone, IsControlled, IsPassReply, IsReplicated}

from_true : (X Y : Type 0) (b : Bool) → b ≡ true → MatchBool b X Y → X
from_true X Y true is x = x
from_true X Y false is x = cc

-- ---- replies

body_is : {x y : _} → Whole x ≡ Whole y → x ≡ y
body_is is = cc

same_text : (a b : Outcome) → text_reply (outcome_text a) ≡ text_reply (outcome_text b) → outcome_text a ≡ outcome_text b
same_text a b is = body_is (ap (λ (r : Response). r.body) is)

never_bare : (response : Response) (o : Outcome) → response ≡ text_reply (outcome_text o) → response ≡ bare 500 → ⊥
never_bare response o is is_bare = let e : 200 ≡ 500 = ap (λ (r : Response). r.status) (sym is ∙ is_bare) in omega (arith, e)

-- a reply that tells that a push is done is that to a push which is
done_by : (result : Result Outcome NoMemory) (response : Response) → TellsDone response → IsPassReply result response →
    (o : Outcome) × (result ≡ Ok o) × (o.done ≡ true)
done_by (Ok o) response told (inl reply) = (o, refl, tells_done o told.outcome (same_text o told.outcome (sym reply ∙ told.is_reply)) ∙ told.done)
done_by (Ok o) response told (inr reply) = absurd (never_bare response told.outcome told.is_reply reply)
done_by (Err wanting) response told reply = absurd (never_bare response told.outcome told.is_reply reply)

module _ {V K : Type 0} (tells : V → Bool) (files : V → Folders) (faults : V → ℕ) (keeps : KeeperSeen K) where
  abbrev see : AllNodes V K → Sight
  see w = sight_of tells files faults keeps w

  abbrev held : AllNodes V K → ℕ → Hash → State
  held w device hash = ((see w).objects.holds device hash).state

  -- a push that is done
  record IsPushed (from to part : ℕ) (w after : AllNodes V K) : Type 0 where
    acts : Acts
    outcome : Outcome
    done : outcome.done ≡ true
    apart : from ≢ to
    over : IsPushedOver from to part acts (see w) (Ok outcome) (see after)

  replicated : (ring : Ring) (from to part : ℕ) (w after : AllNodes V K) (p : IsDonePush tells files faults keeps ring from to part w after)
      → IsReplicated tells files faults keeps p.asked w p.response after
  replicated ring from to part w after p = by (from_true _ _ (is_control p.request.path) p.control p.answered.answers)
    where
      by : IsControlled tells files faults keeps ring w p.request p.response after → IsReplicated tells files faults keeps p.asked w p.response after
      by (inl answered) =
          subst (λ (c : Control). IsControlDone tells files faults keeps ring w c p.response after)
          (asks_for_one ring p.request answered.0 (controls.Replicate p.asked) answered.1 p.asks) answered.2
      by (inr wanted) = absurd (never_bare p.response p.told.outcome p.told.is_reply wanted.1)

  pushed : (ring : Ring) (from to part : ℕ) (w after : AllNodes V K) → IsDonePush tells files faults keeps ring from to part w after → IsPushed from to part w
      after
  pushed ring from to part w after p =
      let d = replicated ring from to part w after p in
      let by = done_by d.outcome p.response p.told d.reply in
      record {
        acts = p.asked.acts;
        outcome = by.0;
        done = by.2;
        apart = λ equal. (p.asks.3.devices).apart (p.route.0 ∙ (equal ∙ sym p.route.1));
        over = subst (λ (k : ℕ). IsPushedOver from to k p.asked.acts (see w) (Ok by.0) (see after)) p.route.2
            (subst (λ (k : ℕ). IsPushedOver from k p.asked.part p.asked.acts (see w) (Ok by.0) (see after)) p.route.1
            (subst (λ (k : ℕ). IsPushedOver k p.asked.to p.asked.part p.asked.acts (see w) (Ok by.0) (see after)) p.route.0
            (subst (λ (r : Result Outcome NoMemory). IsPushedOver p.asked.from p.asked.to p.asked.part p.asked.acts (see w) r (see after)) by.1 d.pushed)));
      }

  pub exchange_meets : ExchangeMeets tells files faults keeps
  exchange_meets ring a b part w m n after first second nodes told told_then hash is same agree =
      by (exchange_agrees a b part (begun there.acts (see w)) (sight_after there.over) (begun back.acts (see n)) (sight_after back.over) (record {
        apart = there.apart;
        there = there.outcome;
        pushes = there.over.pushes;
        there_done = there.done;
        alone = refl;
        told = told;
        nodes = nodes;
        back = back.outcome;
        pushes_back = back.over.pushes;
        back_done = back.done;
        alone_after = refl;
        told_then = told_then;
      }) hash is same agree)
    where
      there : IsPushed a b part w m
      there = pushed ring a b part w m first

      back : IsPushed b a part n after
      back = pushed ring b a part n after second

      both : State
      both = state_of (writes_of (held w a hash) ++ writes_of (held w b hash))

      by : ((held after a hash ≡ state_of (writes_of (held w a hash) ++ writes_of (held w b hash)))
          × (held after b hash ≡ state_of (writes_of (held w a hash) ++ writes_of (held w b hash))))
          ⊎ CollidesOnce a b part hash (begun there.acts (see w)) (sight_after there.over) (begun back.acts (see n)) (sight_after back.over)
          → ((held after a hash ≡ state_of (writes_of (held w a hash) ++ writes_of (held w b hash)))
          × (held after b hash ≡ state_of (writes_of (held w a hash) ++ writes_of (held w b hash))))
          ⊎ CollidesOnce a b part hash (see w) (see m) (see n) (see after)
      by (inl joined) = inl joined
      by (inr (inl collides)) = inr (inl (collides-out a b part (suffix_of hash) there.acts (see w) (Ok there.outcome) (see m) there.over collides))
      by (inr (inr collides)) = inr (inr (collides-out b a part (suffix_of hash) back.acts (see n) (Ok back.outcome) (see after) back.over collides))
