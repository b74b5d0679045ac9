-- The laws of the join.
use Rattle.std.proofs.Common.{◌≡◌, inl, inr, List, [], ◌∷◌, ◌++◌, sym, ◌∙◌, ap, append_assoc}
use Rattle.std.specs.Prelude.{Contains, ◌↔◌}
use Rattle.std.proofs.lemmas.List.Elements.{Contains-append_left, Contains-append_right, Contains-append_cases}
use Rattle.sw_state.specs.Bases.{higher}
use Rattle.sw_state.specs.Metas.{above_base, later}
use Rattle.sw_state.specs.States.{Agree, IsAtLeast, SameWrites, joined, state_of, together, writes_of}
use Rattle.sw_state.specs.declared.state.State.{State}
use Rattle.sw_state.specs.declared.write.Write.{Write}
use Rattle.sw_state.proofs.BaseOrder.{higher-again, later-again}
use Rattle.sw_state.proofs.MetaCuts.{cut_left}
use Rattle.sw_state.proofs.OneState.{state_of_set}
use Rattle.sw_state.proofs.StateLaws.{above_base-cong, associates, idempotent, joins_lists, joins_one_more, same_state, state_of-writes_of, together-base}
use Rattle.sw_state.proofs.StateLaws.{together-meta}

swapped : (ws vs : List Write) (w : Write) → Contains (ws ++ vs) w → Contains (vs ++ ws) w
swapped ws vs w is =
    elim (Contains-append_cases ws vs w is) [
      | inl left ↦ Contains-append_right vs ws w left
      | inr right ↦ Contains-append_left vs ws w right
    ]

same_swapped : (ws vs : List Write) → SameWrites (ws ++ vs) (vs ++ ws)
same_swapped ws vs = λ w. (swapped ws vs w, swapped vs ws w)

pub commutes : (v u : State) → Agree (writes_of v ++ writes_of u) → together v u ≡ together u v
commutes v u agree =
    state_of_set (writes_of v ++ writes_of u) (writes_of u ++ writes_of v) agree (same_swapped (writes_of v) (writes_of u))

-- a write joined is its state joined
pub joined-together : (s : State) (w : Write) → joined s w ≡ together s (state_of (w ∷ []))
joined-together s w =
    sym (joins_lists (writes_of s) (w ∷ [])) ∙ ap (λ (x : State). together x (state_of (w ∷ []))) (state_of-writes_of s)

pub comes_again : (s : State) (w : Write) → joined (joined s w) w ≡ joined s w
comes_again s w =
    joined-together (joined s w) w
    ∙ ap (λ (x : State). together x (state_of (w ∷ []))) (joined-together s w)
    ∙ associates s (state_of (w ∷ [])) (state_of (w ∷ []))
    ∙ ap (together s) (idempotent (state_of (w ∷ [])))
    ∙ sym (joined-together s w)

two_more : (s : State) (v w : Write) → joined (joined s v) w ≡ state_of (writes_of s ++ v ∷ w ∷ [])
two_more s v w =
    joins_one_more (writes_of s ++ v ∷ []) w ∙ ap state_of (append_assoc (writes_of s) (v ∷ []) (w ∷ []))

pair : (v w x : Write) → Contains (v ∷ w ∷ []) x → Contains (w ∷ v ∷ []) x
pair v w x is = swapped (v ∷ []) (w ∷ []) x is

pairs : (ws : List Write) (v w x : Write) → Contains (ws ++ v ∷ w ∷ []) x → Contains (ws ++ w ∷ v ∷ []) x
pairs ws v w x is =
    elim (Contains-append_cases ws (v ∷ w ∷ []) x is) [
      | inl left ↦ Contains-append_left ws (w ∷ v ∷ []) x left
      | inr right ↦ Contains-append_right ws (w ∷ v ∷ []) x (pair v w x right)
    ]

pub either_order : (s : State) (v w : Write) → Agree (writes_of s ++ v ∷ w ∷ []) → joined (joined s v) w ≡ joined (joined s w) v
either_order s v w agree =
    two_more s v w
    ∙ state_of_set (writes_of s ++ v ∷ w ∷ []) (writes_of s ++ w ∷ v ∷ []) agree (λ x. (pairs (writes_of s) v w x, pairs (writes_of s) w v x))
    ∙ sym (two_more s w v)

pub at_least_transitive : (v u t : State) → IsAtLeast v u → IsAtLeast u t → IsAtLeast v t
at_least_transitive v u t vu ut =
    ap (λ (x : State). together x t) (sym vu) ∙ associates v u t ∙ ap (together v) ut ∙ vu

pub at_least_antisymmetric : (v u : State) → Agree (writes_of v ++ writes_of u) → IsAtLeast v u → IsAtLeast u v → v ≡ u
at_least_antisymmetric v u agree vu uv = sym vu ∙ commutes v u agree ∙ uv

at_least_first : (v u : State) → IsAtLeast (together v u) v
at_least_first v u =
    same_state (together (together v u) v) (together v u)
    (together-base (together v u) v ∙ ap (λ b. higher b v.base) (together-base v u) ∙ higher-again v.base u.base ∙ sym (together-base v u))
    (together-meta (together v u) v
    ∙ above_base-cong (higher (together v u).base v.base) (higher (higher v.base u.base) v.base) (later (together v u).meta v.meta)
    (later (above_base (higher v.base u.base) (later v.meta u.meta)) v.meta)
    (ap (λ b. higher b v.base) (together-base v u)) (ap (λ m. later m v.meta) (together-meta v u))
    ∙ cut_left (higher v.base u.base) v.base (later v.meta u.meta) v.meta
    ∙ above_base-cong (higher (higher v.base u.base) v.base) (higher v.base u.base) (later (later v.meta u.meta) v.meta) (later v.meta u.meta)
    (higher-again v.base u.base) (later-again v.meta u.meta)
    ∙ sym (together-meta v u))

pub join_is_at_least : (v u : State) → IsAtLeast (together v u) v × IsAtLeast (together v u) u
join_is_at_least v u = (at_least_first v u, associates v u u ∙ ap (together v) (idempotent u))

pub at_least_one_write : (s : State) (w : Write) → (joined s w ≡ s) ↔ IsAtLeast s (state_of (w ∷ []))
at_least_one_write s w = (λ same. sym (joined-together s w) ∙ same, λ same. joined-together s w ∙ same)
