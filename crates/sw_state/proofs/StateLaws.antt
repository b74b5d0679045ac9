-- States of lists of writes.
use Rattle.std.proofs.Common.{◌≡◌, true, List, [], ◌∷◌, ◌++◌, refl, sym, ◌∙◌, ap, subst, Option, None, Some, append_assoc}
use Rattle.std.proofs.Math.Bool.{Bool-set}
use Rattle.sw_state.specs.Bases.{base_at, higher}
use Rattle.sw_state.specs.Metas.{Meta, above_base, is_later, later, meta_at}
use Rattle.sw_state.specs.States.{base_of, base_writes, joined, latest_meta, meta_writes, state_of, together, writes_of}
use Rattle.sw_state.specs.declared.base.Base.{Base}
use Rattle.sw_state.specs.declared.base.Base.TheVariants as bases
use Rattle.sw_state.specs.declared.state.State.{State}
use Rattle.sw_state.specs.declared.write.Write.{Write}
use Rattle.sw_state.proofs.BaseOrder.{higher-assoc, higher-itself, higher-none, later-assoc, later-itself, later-none}
use Rattle.sw_state.proofs.MetaCuts.{cut_both, cut_left}

-- a base and a meta that is later than it
abbrev with_proof : (b : Option Base) (m : Option Meta) → is_later b m ≡ true → State
with_proof b m p = record { base = b; meta = m; meta_is_later = p }

same_proof : (b : Option Base) (m : Option Meta) (p q : is_later b m ≡ true) → with_proof b m p ≡ with_proof b m q
same_proof b m p q = ap (λ (r : is_later b m ≡ true). with_proof b m r) (Bool-set (is_later b m) true p q)

-- two states with one base and one meta are equal
pub same_state : (s t : State) → s.base ≡ t.base → s.meta ≡ t.meta → s ≡ t
same_state s t same_base same_meta =
    let P : Option Base → Type 0 = λ b. (q : is_later b s.meta ≡ true) → s ≡ with_proof b s.meta q in
    let Q : Option Meta → Type 0 = λ m. (q : is_later t.base m ≡ true) → s ≡ with_proof t.base m q in
    subst Q same_meta (subst P same_base (same_proof s.base s.meta s.meta_is_later)) t.meta_is_later

-- the base and the latest meta of two lists of writes
pub base_of-append : (xs ys : List Write) → base_of (xs ++ ys) ≡ higher (base_of xs) (base_of ys)
base_of-append [] ys = sym (higher-none (base_of ys))
base_of-append (w ∷ xs) ys =
    ap (higher (base_at w.time w.kind)) (base_of-append xs ys)
    ∙ sym (higher-assoc (base_at w.time w.kind) (base_of xs) (base_of ys))

pub latest_meta-append : (xs ys : List Write) → latest_meta (xs ++ ys) ≡ later (latest_meta xs) (latest_meta ys)
latest_meta-append [] ys = sym (later-none (latest_meta ys))
latest_meta-append (w ∷ xs) ys =
    ap (later (meta_at w.time w.kind)) (latest_meta-append xs ys)
    ∙ sym (later-assoc (meta_at w.time w.kind) (latest_meta xs) (latest_meta ys))

-- a state's own writes give it back
base_of-base_writes : (b : Option Base) → base_of (base_writes b) ≡ b
base_of-base_writes None = refl
base_of-base_writes (Some (bases.Put time content)) = refl
base_of-base_writes (Some (bases.Del time)) = refl

base_of-meta_writes : (m : Option Meta) → base_of (meta_writes m) ≡ None
base_of-meta_writes None = refl
base_of-meta_writes (Some m) = refl

latest_meta-base_writes : (b : Option Base) → latest_meta (base_writes b) ≡ None
latest_meta-base_writes None = refl
latest_meta-base_writes (Some (bases.Put time content)) = refl
latest_meta-base_writes (Some (bases.Del time)) = refl

latest_meta-meta_writes : (m : Option Meta) → latest_meta (meta_writes m) ≡ m
latest_meta-meta_writes None = refl
latest_meta-meta_writes (Some m) = refl

pub base_of-writes_of : (s : State) → base_of (writes_of s) ≡ s.base
base_of-writes_of s =
    base_of-append (base_writes s.base) (meta_writes s.meta)
    ∙ rw (base_of-base_writes s.base, base_of-meta_writes s.meta) refl

pub latest_meta-writes_of : (s : State) → latest_meta (writes_of s) ≡ s.meta
latest_meta-writes_of s =
    latest_meta-append (base_writes s.base) (meta_writes s.meta)
    ∙ rw (latest_meta-base_writes s.base, latest_meta-meta_writes s.meta) (later-none s.meta)

-- what two states together are, and a state with one write more
pub together-base : (v u : State) → (together v u).base ≡ higher v.base u.base
together-base v u =
    base_of-append (writes_of v) (writes_of u) ∙ rw (base_of-writes_of v, base_of-writes_of u) refl

together-latest : (v u : State) → latest_meta (writes_of v ++ writes_of u) ≡ later v.meta u.meta
together-latest v u =
    latest_meta-append (writes_of v) (writes_of u) ∙ rw (latest_meta-writes_of v, latest_meta-writes_of u) refl

pub above_base-cong : (b c : Option Base) (m n : Option Meta) → b ≡ c → m ≡ n → above_base b m ≡ above_base c n
above_base-cong b c m n same_base same_meta =
    ap (λ (x : Option Base). above_base x m) same_base ∙ ap (above_base c) same_meta

pub together-meta : (v u : State) → (together v u).meta ≡ above_base (higher v.base u.base) (later v.meta u.meta)
together-meta v u =
    above_base-cong (base_of (writes_of v ++ writes_of u)) (higher v.base u.base) (latest_meta (writes_of v ++ writes_of u)) (later v.meta u.meta)
    (together-base v u) (together-latest v u)

higher-one : (a : Option Base) → higher a None ≡ a
higher-one a = refl

pub joined-base : (s : State) (w : Write) → (joined s w).base ≡ higher s.base (base_at w.time w.kind)
joined-base s w =
    base_of-append (writes_of s) (w ∷ []) ∙ rw (base_of-writes_of s) refl

joined-latest : (s : State) (w : Write) → latest_meta (writes_of s ++ w ∷ []) ≡ later s.meta (meta_at w.time w.kind)
joined-latest s w =
    latest_meta-append (writes_of s) (w ∷ []) ∙ rw (latest_meta-writes_of s) refl

pub joined-meta : (s : State) (w : Write) → (joined s w).meta ≡ above_base (higher s.base (base_at w.time w.kind)) (later s.meta (meta_at w.time w.kind))
joined-meta s w =
    above_base-cong (base_of (writes_of s ++ w ∷ [])) (higher s.base (base_at w.time w.kind)) (latest_meta (writes_of s ++ w ∷ []))
    (later s.meta (meta_at w.time w.kind)) (joined-base s w) (joined-latest s w)

-- the state of more writes is that of the states of fewer
pub joins_one_more : (ws : List Write) (w : Write) → joined (state_of ws) w ≡ state_of (ws ++ w ∷ [])
joins_one_more ws w =
    same_state (joined (state_of ws) w) (state_of (ws ++ w ∷ []))
    (joined-base (state_of ws) w ∙ sym (base_of-append ws (w ∷ [])))
    (joined-meta (state_of ws) w
    ∙ cut_left (base_of ws) (base_at w.time w.kind) (latest_meta ws) (meta_at w.time w.kind)
    ∙ sym (above_base-cong (base_of (ws ++ w ∷ [])) (higher (base_of ws) (base_at w.time w.kind)) (latest_meta (ws ++ w ∷ []))
    (later (latest_meta ws) (meta_at w.time w.kind)) (base_of-append ws (w ∷ [])) (latest_meta-append ws (w ∷ []))))

pub joins_lists : (ws vs : List Write) → together (state_of ws) (state_of vs) ≡ state_of (ws ++ vs)
joins_lists ws vs =
    same_state (together (state_of ws) (state_of vs)) (state_of (ws ++ vs))
    (together-base (state_of ws) (state_of vs) ∙ sym (base_of-append ws vs))
    (together-meta (state_of ws) (state_of vs)
    ∙ cut_both (base_of ws) (base_of vs) (latest_meta ws) (latest_meta vs)
    ∙ sym (above_base-cong (base_of (ws ++ vs)) (higher (base_of ws) (base_of vs)) (latest_meta (ws ++ vs)) (later (latest_meta ws) (latest_meta vs))
    (base_of-append ws vs) (latest_meta-append ws vs)))

-- a state is that of its own writes
pub above_base-own : (b : Option Base) (m : Option Meta) → is_later b m ≡ true → above_base b m ≡ m
above_base-own b m is = rw is refl

pub state_of-writes_of : (s : State) → state_of (writes_of s) ≡ s
state_of-writes_of s =
    same_state (state_of (writes_of s)) s (base_of-writes_of s)
    (above_base-cong (base_of (writes_of s)) s.base (latest_meta (writes_of s)) s.meta (base_of-writes_of s) (latest_meta-writes_of s)
    ∙ above_base-own s.base s.meta s.meta_is_later)

pub associates : (v u t : State) → together (together v u) t ≡ together v (together u t)
associates v u t =
    ap (λ (x : State). together (together v u) x) (sym (state_of-writes_of t))
    ∙ joins_lists (writes_of v ++ writes_of u) (writes_of t)
    ∙ ap state_of (append_assoc (writes_of v) (writes_of u) (writes_of t))
    ∙ sym (joins_lists (writes_of v) (writes_of u ++ writes_of t))
    ∙ ap (λ (x : State). together x (together u t)) (state_of-writes_of v)

pub idempotent : (v : State) → together v v ≡ v
idempotent v =
    same_state (together v v) v (together-base v v ∙ higher-itself v.base)
    (together-meta v v ∙ above_base-cong (higher v.base v.base) v.base (later v.meta v.meta) v.meta (higher-itself v.base) (later-itself v.meta)
    ∙ above_base-own v.base v.meta v.meta_is_later)
