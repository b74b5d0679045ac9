-- What is promised of states and of their join. (This project's own.)
use Rattle.std.specs.Prelude.{◌≡◌, ◌↔◌, false, List, [], ◌∷◌, ◌++◌}
use Rattle.sw_state.specs.States.{Agree, IsAtLeast, IsStateOf, SameWrites, is_new, joined, state_of, together, writes_of}
use Rattle.sw_state.specs.Writes.{tag_of}
use Rattle.sw_state.specs.declared.state.State.{State}
use Rattle.sw_state.specs.declared.write.Write.{Write}

-- the state of writes is what the relation says of them
abbrev pub StateIsState : Type 0
StateIsState = (ws : List Write) → IsStateOf ws (state_of ws)

-- of writes that agree there is one such state
abbrev pub OneState : Type 0
OneState = (ws : List Write) (s t : State) → Agree ws → IsStateOf ws s → IsStateOf ws t → s ≡ t

-- where the writes agree, which there are decides, and not their order nor how often each came
abbrev pub StateOfSet : Type 0
StateOfSet = (ws vs : List Write) → Agree ws → SameWrites ws vs → state_of ws ≡ state_of vs

-- a state is that of the writes that it consists of
abbrev pub StateOfItsWrites : Type 0
StateOfItsWrites = (s : State) → state_of (writes_of s) ≡ s

-- one write more, joined or listed
abbrev pub JoinsOneMore : Type 0
JoinsOneMore = (ws : List Write) (w : Write) → joined (state_of ws) w ≡ state_of (ws ++ w ∷ [])

-- the states of two lists together are the state of both lists
abbrev pub JoinsLists : Type 0
JoinsLists = (ws vs : List Write) → together (state_of ws) (state_of vs) ≡ state_of (ws ++ vs)

abbrev pub JoinAssociates : Type 0
JoinAssociates = (v u t : State) → together (together v u) t ≡ together v (together u t)

abbrev pub JoinCommutes : Type 0
JoinCommutes = (v u : State) → Agree (writes_of v ++ writes_of u) → together v u ≡ together u v

abbrev pub JoinIsIdempotent : Type 0
JoinIsIdempotent = (v : State) → together v v ≡ v

-- two writes that agree with the state's may come in either order
abbrev pub EitherOrder : Type 0
EitherOrder = (s : State) (v w : Write) → Agree (writes_of s ++ v ∷ w ∷ []) → joined (joined s v) w ≡ joined (joined s w) v

-- a write that comes again changes nothing
abbrev pub ComesAgain : Type 0
ComesAgain = (s : State) (w : Write) → joined (joined s w) w ≡ joined s w

abbrev pub AtLeastItself : Type 0
AtLeastItself = (v : State) → IsAtLeast v v

abbrev pub AtLeastTransitive : Type 0
AtLeastTransitive = (v u t : State) → IsAtLeast v u → IsAtLeast u t → IsAtLeast v t

abbrev pub AtLeastAntisymmetric : Type 0
AtLeastAntisymmetric = (v u : State) → Agree (writes_of v ++ writes_of u) → IsAtLeast v u → IsAtLeast u v → v ≡ u

-- a state with more writes is at least the state without them
abbrev pub JoinIsAtLeast : Type 0
JoinIsAtLeast = (v u : State) → IsAtLeast (together v u) v × IsAtLeast (together v u) u

-- a write changes nothing exactly where the state is at least that of the write alone
abbrev pub AtLeastOneWrite : Type 0
AtLeastOneWrite = (s : State) (w : Write) → (joined s w ≡ s) ↔ IsAtLeast s (state_of (w ∷ []))

-- a write changes the state exactly where it is new by its time and tag
abbrev pub NewChanges : Type 0
NewChanges = (s : State) (w : Write) → (is_new s w.time (tag_of w.kind) ≡ false) ↔ (joined s w ≡ s)
