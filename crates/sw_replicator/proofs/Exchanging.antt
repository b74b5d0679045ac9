-- Two pushes that are done, there and back.
use Rattle.std.proofs.Common.{◌≡◌, ℕ, ◌++◌, sym, ◌∙◌, ap, subst, ◌⊎◌, inl, inr}
use Rattle.sw_hashpath.specs.HashParts.{suffix_of}
use Rattle.sw_object_steps.specs.Journals.{Hash}
use Rattle.sw_object_steps.specs.Parts.{IsOfPart}
use Rattle.sw_object_steps.specs.Values.{ObjValue}
use Rattle.sw_peer.specs.Sights.{Nodes, Sight}
use Rattle.sw_replicator.proofs.Meeting.{push-meets}
use Rattle.sw_replicator.specs.Laws.{CollidesOnce, ExchangeAgrees, ExchangeMeets, HoldSame, IsExchange}
use Rattle.sw_replicator.specs.Meeting.{Collides, state_at}
use Rattle.sw_state.proofs.JoinLaws.{commutes}
use Rattle.sw_state.proofs.StateLaws.{associates, idempotent}
use Rattle.sw_state.specs.States.{Agree, together, writes_of}
use Rattle.sw_state.specs.declared.state.State.{State}

module _ (a b part : ℕ) (s m n t : Sight) (x : IsExchange a b part s m n t) (hash : Hash) (is : IsOfPart s.nodes.power part hash) (same : HoldSame a b hash m n)
  where
    abbrev Before : ℕ → State
    Before d = state_at s d hash

    abbrev Holds : ℕ → State
    Holds d = state_at t d hash

    went : (m.objects.holds a hash ≡ s.objects.holds a hash) × ((state_at m b hash ≡ together (Before b) (Before a)) ⊎ Collides a b part (suffix_of hash) s m)
    went = push-meets a b part s m x.there x.apart x.pushes x.there_done x.alone x.told.0 x.told.1 hash is

    came : (t.objects.holds b hash ≡ n.objects.holds b hash)
        × ((Holds a ≡ together (state_at n a hash) (state_at n b hash)) ⊎ Collides b a part (suffix_of hash) n t)
    came = push-meets b a part n t x.back (λ equal. x.apart (sym equal)) x.pushes_back x.back_done x.alone_after x.told_then.1 x.told_then.0 hash
        (subst (λ (k : Nodes). IsOfPart k.power part hash) (sym x.nodes) is)

    abbrev Both : Type 0
    Both = (Holds b ≡ together (Before b) (Before a)) × (Holds a ≡ together (Before a) (Holds b))

    pub exchanged : Both ⊎ CollidesOnce a b part hash s m n t
    exchanged = by went.1 came.1
      where
        by : (state_at m b hash ≡ together (Before b) (Before a)) ⊎ Collides a b part (suffix_of hash) s m
            → (Holds a ≡ together (state_at n a hash) (state_at n b hash)) ⊎ Collides b a part (suffix_of hash) n t
            → Both ⊎ CollidesOnce a b part hash s m n t
        by (inr collides) back = inr (inl collides)
        by (inl there) (inr collides) = inr (inr collides)
        by (inl there) (inl back) =
            let kept : state_at m a hash ≡ Before a = ap (λ (v : ObjValue). v.state) went.0 in
            let stays : Holds b ≡ state_at n b hash = ap (λ (v : ObjValue). v.state) came.0 in
            inl (
              stays ∙ (same.1 ∙ there),
              back ∙ (ap (λ (v : State). together v (state_at n b hash)) (same.0 ∙ kept) ∙ ap (together (Before a)) (sym stays)),
            )

    module _ (agree : Agree (writes_of (Before a) ++ writes_of (Before b))) where
      agreed : Both → (Holds a ≡ together (Before a) (Before b)) × (Holds b ≡ together (Before a) (Before b))
      agreed both =
          let their : Holds b ≡ together (Before a) (Before b) = both.0 ∙ sym (commutes (Before a) (Before b) agree) in (
            both.1
                ∙ (ap (together (Before a)) their
                ∙ (sym (associates (Before a) (Before a) (Before b)) ∙ ap (λ (v : State). together v (Before b)) (idempotent (Before a)))),
            their,
          )

pub exchange_meets : ExchangeMeets
exchange_meets a b part s m n t x hash is same = exchanged a b part s m n t x hash is same

pub exchange_agrees : ExchangeAgrees
exchange_agrees a b part s m n t x hash is same agree =
    elim (exchanged a b part s m n t x hash is same) [
      | inl both ↦ inl (agreed a b part s m n t x hash is same agree both)
      | inr collides ↦ inr collides
    ]
