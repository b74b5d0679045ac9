-- What a message or a step of a push keeps.
use Rattle.std.proofs.Common.{◌≡◌, ℕ, subst, sym, ◌∙◌, refl, ◌⊎◌, inl, inr, Result, Ok}
use Rattle.std.specs.Bool.{⊤}
use Rattle.sw_container_steps.specs.Reads.{parcel_of}
use Rattle.sw_container_steps.specs.declared.cont_answer.ContAnswer.{ContAnswer}
use Rattle.sw_container_steps.specs.declared.cont_change.ContChange.{ContChange}
use Rattle.sw_container_steps.specs.declared.syncing.Parcel.{Parcel}
use Rattle.sw_cont_replicator.specs.Pushing.{IsReached}
use Rattle.sw_hashpath.specs.declared.place.Place.{Place}
use Rattle.sw_history.proofs.Growing.{half-wider}
use Rattle.sw_peer.proofs.Calls.{calls-moves}
use Rattle.sw_peer.proofs.ContCalls.{cont-made-step, cont-moves-refl, cont-moves-trans, look-step}
use Rattle.sw_peer.specs.ContSights.{ContMoves, IsContMade, IsIn, IsLooked}
use Rattle.sw_peer.specs.Sights.{Calls, Sight, cont_lock}
use Rattle.sw_peer.specs.declared.cont_event.ContEvent.TheVariants.{Parceled}
use Rattle.sw_peer.specs.declared.link.Link.{Link}
use Rattle.sw_peer.specs.declared.link.Link.TheVariants.{Local}
use Rattle.sw_peer.specs.declared.link.Lost.{Lost}
use Rattle.sw_ring.specs.declared.ring.Ring.{Ring}

pub made-moves : (link : Link) (device : ℕ) (place : Place) (change : ContChange) (s : Sight) (r : Result ContAnswer Lost) (t : Sight)
    → Calls (IsContMade link device place change) s link r t → ContMoves (IsIn device place) s t
made-moves link device place change s r t p =
    calls-moves (ContMoves (IsIn device place)) (IsContMade link device place change) (cont-made-step link device place change) s link r t p

-- these are among more places
pub moves-wider : (at more : ℕ → Place → Type 0) (s t : Sight) → ((d : ℕ) (other : Place) → at d other → more d other) → ContMoves at s t → ContMoves more s t
moves-wider at more s t wider p = record {
  nodes = p.nodes;
  objects = p.objects;
  containers = half-wider (cont_lock s.nodes) t.alone at more s.containers t.containers wider p.containers;
  alone = p.alone;
  faults = p.faults;
}

-- any place of any device
abbrev pub Anywhere : ℕ → Place → Type 0
Anywhere d other = ⊤

pub moves-anywhere : (at : ℕ → Place → Type 0) (s t : Sight) → ContMoves at s t → ContMoves Anywhere s t
moves-anywhere at s t p = moves-wider at Anywhere s t (λ d other is. tt) p

-- ---- the two devices, and what else is reached

-- the device is one of the two
abbrev pub IsOne : ℕ → ℕ → ℕ → Type 0
IsOne from to device = (device ≡ from) ⊎ (device ≡ to)

module _ (ring : Ring) (from to : ℕ) (place : Place) where
  abbrev pub PushMoves : Sight → Sight → Type 0
  PushMoves = ContMoves (IsReached ring from to place)

  pub push-same : (s t : Sight) → t ≡ s → PushMoves s t
  push-same s t same = subst (λ (x : Sight). PushMoves s x) (sym same) (cont-moves-refl (IsReached ring from to place) s)

  pub push-trans : (a b c : Sight) → PushMoves a b → PushMoves b c → PushMoves a c
  push-trans = cont-moves-trans (IsReached ring from to place)

  -- a step at one of the two
  one-moves : (device : ℕ) (s t : Sight) → IsOne from to device → ContMoves (IsIn device place) s t → PushMoves s t
  one-moves device s t one p =
      moves-wider (IsIn device place) (IsReached ring from to place) s t (λ d other is. inl (is.1, side d is.0 one)) p
    where
      side : (d : ℕ) → d ≡ device → IsOne from to device → IsOne from to d
      side d same (inl own) = inl (same ∙ own)
      side d same (inr their) = inr (same ∙ their)

  pub made-push : (link : Link) (device : ℕ) (change : ContChange) (s : Sight) (r : Result ContAnswer Lost) (t : Sight) → IsOne from to device
      → Calls (IsContMade link device place change) s link r t → PushMoves s t
  made-push link device change s r t one p = one-moves device s t one (made-moves link device place change s r t p)

  -- the read at the sender
  pub read-push : (s : Sight) (got : Result Parcel ContAnswer) (t : Sight)
      → Calls (IsLooked Local from place (parcel_of to) (λ read. Parceled place to read)) s Local (Ok got) t → PushMoves s t
  read-push s got t p =
      one-moves from s t (inl refl)
      (calls-moves (ContMoves (IsIn from place)) (IsLooked Local from place (parcel_of to) (λ read. Parceled place to read))
      (look-step Local from place (parcel_of to) (λ read. Parceled place to read)) s Local (Ok got) t p)
