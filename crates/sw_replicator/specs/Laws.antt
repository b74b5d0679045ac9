-- What is promised of two pushes of a partition, there and back. (This project's own.)
use Rattle.std.specs.Prelude.{◌≡◌, ◌≢◌, ℕ, true, ◌++◌, ◌⊎◌, Ok}
use Rattle.sw_hashpath.specs.HashParts.{suffix_of}
use Rattle.sw_pass.specs.declared.outcome.Outcome.{Outcome}
use Rattle.sw_object_steps.specs.Journals.{Hash}
use Rattle.sw_object_steps.specs.Parts.{IsOfPart}
use Rattle.sw_peer.specs.Sights.{Sight}
use Rattle.sw_replicator.specs.Meeting.{Collides, known, state_at}
use Rattle.sw_replicator.specs.Pushing.{IsPush}
use Rattle.sw_state.specs.States.{Agree, state_of, together, writes_of}

-- both devices tell what they have of the partition
abbrev pub BothTell : ℕ → ℕ → ℕ → Sight → Type 0
BothTell a b part s = ((known s a part).told ≡ true) × ((known s b part).told ≡ true)

-- A push from a to b that is done, from the sight s to m, and later one from b to a that is done, from n to t. Nobody else changes the nodes
-- during either of them
pub record IsExchange (a b part : ℕ) (s m n t : Sight) : Type 0 where
  pub apart : a ≢ b
  pub there : Outcome
  pub pushes : IsPush a b part s (Ok there) m
  pub there_done : there.done ≡ true
  pub alone : m.alone ≡ true
  pub told : BothTell a b part s
  pub nodes : n.nodes ≡ s.nodes
  pub back : Outcome
  pub pushes_back : IsPush b a part n (Ok back) t
  pub back_done : back.done ≡ true
  pub alone_after : t.alone ≡ true
  pub told_then : BothTell a b part n

-- what both hold of the hash is the same at both sights
abbrev pub HoldSame : ℕ → ℕ → Hash → Sight → Sight → Type 0
HoldSame a b hash m n = (state_at n a hash ≡ state_at m a hash) × (state_at n b hash ≡ state_at m b hash)

-- the texts of the hash's suffix collided in one of the two pushes
abbrev pub CollidesOnce : ℕ → ℕ → ℕ → Hash → Sight → Sight → Sight → Sight → Type 0
CollidesOnce a b part hash s m n t = Collides a b part (suffix_of hash) s m ⊎ Collides b a part (suffix_of hash) n t

-- Where nothing else changed a hash of the partition in between, both then hold the join of what both held
abbrev pub ExchangeMeets : Type 0
ExchangeMeets = (a b part : ℕ) (s m n t : Sight) → IsExchange a b part s m n t → (hash : Hash) → IsOfPart s.nodes.power part hash → HoldSame a b hash m n
    → ((state_at t b hash ≡ together (state_at s b hash) (state_at s a hash))
    × (state_at t a hash ≡ together (state_at s a hash) (state_at t b hash)))
    ⊎ CollidesOnce a b part hash s m n t

-- Where moreover the writes of what both held at the start agree, both then hold one state: that of the writes of both
abbrev pub ExchangeAgrees : Type 0
ExchangeAgrees = (a b part : ℕ) (s m n t : Sight) → IsExchange a b part s m n t → (hash : Hash) → IsOfPart s.nodes.power part hash → HoldSame a b hash m n
    → Agree (writes_of (state_at s a hash) ++ writes_of (state_at s b hash))
    → ((state_at t a hash ≡ state_of (writes_of (state_at s a hash) ++ writes_of (state_at s b hash)))
    × (state_at t b hash ≡ state_of (writes_of (state_at s a hash) ++ writes_of (state_at s b hash))))
    ⊎ CollidesOnce a b part hash s m n t
