-- Of writes that agree there is one state, whatever their order.
use Rattle.std.proofs.Common.{◌≡◌, ℕ, ◌<◌, false, List, refl, sym, ◌∙◌, ap, subst, arith, Option, None, Some}
use Rattle.std.proofs.lemmas.Bool.Decides.{nat_tests}
use Rattle.sw_state.specs.Bases.{base_at, base_tag, base_time, is_above}
use Rattle.sw_state.specs.Metas.{Meta, meta_at}
use Rattle.sw_state.specs.States.{Agree, IsBaseOf, IsStateOf, IsTopOf, SameWrites, state_of}
use Rattle.sw_state.specs.Writes.{tag_of}
use Rattle.sw_state.specs.declared.base.Base.{Base}
use Rattle.sw_state.specs.declared.base.Base.TheVariants as bases
use Rattle.sw_state.specs.declared.state.State.{State}
use Rattle.sw_state.specs.declared.write.Kind.{Kind}
use Rattle.sw_state.specs.declared.write.Kind.TheVariants as kinds
use Rattle.sw_state.specs.declared.write.Write.{Write}
use Rattle.sw_timestamp.specs.declared.tag.Tag.TheVariants as tags
use Rattle.sw_state.proofs.StateLaws.{same_state}
use Rattle.sw_state.proofs.StateOf.{is_state, not_none}

-- a base and a meta have the time and the tag of the write that they are
base_is : (t : ℕ) (k : Kind) (b : Base) → base_at t k ≡ Some b → (t ≡ base_time b) × (tag_of k ≡ base_tag b)
base_is t (kinds.Put content) b is = let same : bases.Put t content ≡ b = cc in rw (← same) (refl, refl)
base_is t kinds.Del b is = let same : bases.Del t ≡ b = cc in rw (← same) (refl, refl)
base_is t (kinds.Meta heads) b is = cc

meta_is : (t : ℕ) (k : Kind) (m : Meta) → meta_at t k ≡ Some m → (t ≡ m.0) × (tag_of k ≡ tags.Meta)
meta_is t (kinds.Put content) m is = cc
meta_is t kinds.Del m is = cc
meta_is t (kinds.Meta heads) m is = let same : (t, heads) ≡ m = cc in rw (← same) (refl, refl)

-- two bases of which none is above the other have one time and one tag
level : (b c : Base) → is_above b c ≡ false → is_above c b ≡ false → (base_time b ≡ base_time c) × (base_tag b ≡ base_tag c)
level (bases.Put t x) (bases.Put u y) bc cb = (grind (arith, nat_tests), refl)
level (bases.Put t x) (bases.Del u) bc cb = absurd (grind (arith, nat_tests))
level (bases.Del t) (bases.Put u y) bc cb = absurd (grind (arith, nat_tests))
level (bases.Del t) (bases.Del u) bc cb = (grind (arith, nat_tests), refl)

one_base : (ws : List Write) (b c : Option Base) → Agree ws → IsBaseOf ws b → IsBaseOf ws c → b ≡ c
one_base ws None None agree is_b is_c = refl
one_base ws None (Some c) agree is_b is_c = absurd (not_none (base_at is_c.0.0.time is_c.0.0.kind) c (is_b is_c.0.0 is_c.0.1) is_c.0.2)
one_base ws (Some b) None agree is_b is_c = absurd (not_none (base_at is_b.0.0.time is_b.0.0.kind) b (is_c is_b.0.0 is_b.0.1) is_b.0.2)
one_base ws (Some b) (Some c) agree is_b is_c =
    let v : Write = is_b.0.0 in
    let w : Write = is_c.0.0 in
    let of_b = base_is v.time v.kind b is_b.0.2 in
    let of_c = base_is w.time w.kind c is_c.0.2 in
    let both = level b c (is_c.1 v b is_b.0.1 is_b.0.2) (is_b.1 w c is_c.0.1 is_c.0.2) in
    let same : v ≡ w = agree v w is_b.0.1 is_c.0.1 (of_b.0 ∙ both.0 ∙ sym of_c.0) (of_b.1 ∙ both.1 ∙ sym of_c.1) in
    sym is_b.0.2 ∙ ap (λ (x : Write). base_at x.time x.kind) same ∙ is_c.0.2

one_top : (ws : List Write) (b : Option Base) (m n : Option Meta) → Agree ws → IsTopOf ws b m → IsTopOf ws b n → m ≡ n
one_top ws b None None agree is_m is_n = refl
one_top ws b None (Some n) agree is_m is_n = absurd (let hidden = is_m is_n.0.0 n is_n.0.1 is_n.0.2 in let seen = is_n.1 in cc)
one_top ws b (Some m) None agree is_m is_n = absurd (let hidden = is_n is_m.0.0 m is_m.0.1 is_m.0.2 in let seen = is_m.1 in cc)
one_top ws b (Some m) (Some n) agree is_m is_n =
    let v : Write = is_m.0.0 in
    let w : Write = is_n.0.0 in
    let of_m = meta_is v.time v.kind m is_m.0.2 in
    let of_n = meta_is w.time w.kind n is_n.0.2 in
    let level : m.0 ≡ n.0 = same_time m.0 n.0 (is_m.2 w n is_n.0.1 is_n.0.2) (is_n.2 v m is_m.0.1 is_m.0.2) in
    let same : v ≡ w = agree v w is_m.0.1 is_n.0.1 (of_m.0 ∙ level ∙ sym of_n.0) (of_m.1 ∙ sym of_n.1) in
    sym is_m.0.2 ∙ ap (λ (x : Write). meta_at x.time x.kind) same ∙ is_n.0.2
  where
    same_time : (t u : ℕ) → (t < u → ⊥) → (u < t → ⊥) → t ≡ u
    same_time t u tu ut = omega arith

pub one_state : (ws : List Write) (s t : State) → Agree ws → IsStateOf ws s → IsStateOf ws t → s ≡ t
one_state ws s t agree is_s is_t =
    let base : s.base ≡ t.base = one_base ws s.base t.base agree is_s.is_base is_t.is_base in
    let P : Option Base → Type 0 = λ b. IsTopOf ws b t.meta in
    same_state s t base (one_top ws s.base s.meta t.meta agree is_s.is_top (subst P (sym base) is_t.is_top))

-- what is said of writes is said of each list of them
moved-base : (ws vs : List Write) (b : Option Base) → SameWrites ws vs → IsBaseOf vs b → IsBaseOf ws b
moved-base ws vs None same is = λ w in_it. is w ((same w).0 in_it)
moved-base ws vs (Some b) same is =
    ((is.0.0, (same is.0.0).1 is.0.1, is.0.2), λ w c in_it at. is.1 w c ((same w).0 in_it) at)

moved-top : (ws vs : List Write) (b : Option Base) (m : Option Meta) → SameWrites ws vs → IsTopOf vs b m → IsTopOf ws b m
moved-top ws vs b None same is = λ w n in_it at. is w n ((same w).0 in_it) at
moved-top ws vs b (Some m) same is =
    ((is.0.0, (same is.0.0).1 is.0.1, is.0.2), is.1, λ w n in_it at. is.2 w n ((same w).0 in_it) at)

pub state_of_set : (ws vs : List Write) → Agree ws → SameWrites ws vs → state_of ws ≡ state_of vs
state_of_set ws vs agree same =
    let there = is_state vs in
    one_state ws (state_of ws) (state_of vs) agree (is_state ws)
    (record {
      is_base = moved-base ws vs (state_of vs).base same there.is_base;
      is_top = moved-top ws vs (state_of vs).base (state_of vs).meta same there.is_top;
    })
