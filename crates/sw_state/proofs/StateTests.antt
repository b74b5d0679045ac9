-- The tests of a state: which bases and metas would change it.
use Rattle.std.proofs.Common.{arith, ◌≡◌, ℕ, Bool, true, false, ◌&&◌, not, refl, sym, ◌∙◌, ap, Option, None, Some, nat_lt}
use Rattle.std.specs.Option.{option_map_or}
use Rattle.std.specs.Prelude.{◌↔◌, IsTrue}
use Rattle.std.proofs.lemmas.Bool.Decides.{nat_tests}
use Rattle.sw_state.specs.Bases.{base_at, base_time, higher, is_deletion, is_new_base}
use Rattle.sw_state.specs.Laws.{NewChanges}
use Rattle.sw_state.specs.Metas.{Meta, above_base, is_after_base, is_after_meta, is_later, later, meta_at}
use Rattle.sw_state.specs.States.{IsAtLeast, is_new, joined, state_with, together}
use Rattle.sw_state.specs.Writes.{tag_of}
use Rattle.sw_state.specs.declared.base.Base.{Base}
use Rattle.sw_state.specs.declared.base.Base.TheVariants as bases
use Rattle.sw_state.specs.declared.content.Content.{Content}
use Rattle.sw_state.specs.declared.state.State.{State}
use Rattle.sw_state.specs.declared.write.Kind.{Kind}
use Rattle.sw_state.specs.declared.write.Kind.TheVariants as kinds
use Rattle.sw_state.specs.declared.write.Write.{Write}
use Rattle.sw_timestamp.specs.declared.tag.Tag.{Tag}
use Rattle.sw_timestamp.specs.declared.tag.Tag.TheVariants as tags
use Rattle.sw_state.proofs.BaseOrder.{above-itself, above_base-some, after}
use Rattle.sw_state.proofs.MetaCuts.{skip_right}
use Rattle.sw_state.proofs.StateLaws.{above_base-cong, above_base-own, joined-base, joined-meta, same_state, together-base, together-meta}

-- whether a base or a meta that may be there would change what a state has
abbrev pub wants_base : Option Base → Option Base → Bool
wants_base o p = option_map_or (λ b. is_new_base o (base_time b) (is_deletion b)) p false

abbrev pub wants_meta : Option Base → Option Meta → Option Meta → Bool
wants_meta b m n = option_map_or (λ x. is_after_base b x.0 && is_after_meta m x.0) n false

-- a base that is new becomes the base
pub higher-new : (o : Option Base) (b : Base) → is_new_base o (base_time b) (is_deletion b) ≡ true → higher o (Some b) ≡ Some b
higher-new None b is = refl
higher-new (Some a) b is = rw is refl

higher-old : (o : Option Base) (b : Base) → is_new_base o (base_time b) (is_deletion b) ≡ false → higher o (Some b) ≡ o
higher-old None b is = cc
higher-old (Some a) b is = rw is refl

old-again : (o : Option Base) (b : Base) → o ≡ Some b → is_new_base o (base_time b) (is_deletion b) ≡ false
old-again o b is = ap (λ (x : Option Base). is_new_base x (base_time b) (is_deletion b)) is ∙ above-itself b

stays-old : (o : Option Base) (b : Base) (p : Bool) → is_new_base o (base_time b) (is_deletion b) ≡ p → higher o (Some b) ≡ o → p ≡ false
stays-old o b true is stays = sym is ∙ old-again o b (sym stays ∙ higher-new o b is)
stays-old o b false is stays = refl

pub base_stays : (o p : Option Base) → (wants_base o p ≡ false) ↔ (higher o p ≡ o)
base_stays o None = (λ is. refl, λ is. refl)
base_stays o (Some b) =
    (higher-old o b, λ stays. stays-old o b (is_new_base o (base_time b) (is_deletion b)) refl stays)

-- and a meta that is new becomes the meta
is_after_base-after : (b : Option Base) (t : ℕ) → is_after_base b t ≡ after b t
is_after_base-after None t = refl
is_after_base-after (Some b) t = refl

later-new : (m : Option Meta) (x : Meta) → is_after_meta m x.0 ≡ true → later m (Some x) ≡ Some x
later-new None x is = refl
later-new (Some m) x is = rw is refl

later-old : (m : Option Meta) (x : Meta) → is_after_meta m x.0 ≡ false → later m (Some x) ≡ m
later-old None x is = cc
later-old (Some m) x is = rw is refl

not_before_itself : (t : ℕ) → nat_lt t t ≡ false
not_before_itself t = grind (arith, nat_tests)

after_itself : (m : Option Meta) (x : Meta) → m ≡ Some x → is_after_meta m x.0 ≡ false
after_itself m x is = ap (λ (o : Option Meta). is_after_meta o x.0) is ∙ not_before_itself x.0

pub above-new : (b : Option Base) (m : Option Meta) (x : Meta) → is_after_base b x.0 ≡ true → is_after_meta m x.0 ≡ true →
    above_base b (later m (Some x)) ≡ Some x
above-new b m x base_is meta_is =
    ap (above_base b) (later-new m x meta_is) ∙ above_base-some b x ∙ rw (← is_after_base-after b x.0, base_is) refl

meta_kept : (b : Option Base) (m : Option Meta) (x : Meta) (p q : Bool) → is_later b m ≡ true → is_after_base b x.0 ≡ p → is_after_meta m x.0 ≡ q →
    (p && q) ≡ false → above_base b (later m (Some x)) ≡ m
meta_kept b m x true true own base_is meta_is old = cc
meta_kept b m x true false own base_is meta_is old = ap (above_base b) (later-old m x meta_is) ∙ above_base-own b m own
meta_kept b m x false q own base_is meta_is old =
    sym (skip_right b m x (sym (is_after_base-after b x.0) ∙ base_is)) ∙ above_base-own b m own

meta_old : (b : Option Base) (m : Option Meta) (x : Meta) (p q : Bool) → is_after_base b x.0 ≡ p → is_after_meta m x.0 ≡ q →
    above_base b (later m (Some x)) ≡ m → (p && q) ≡ false
meta_old b m x true true base_is meta_is stays =
    sym meta_is ∙ after_itself m x (sym stays ∙ above-new b m x base_is meta_is)
meta_old b m x true false base_is meta_is stays = refl
meta_old b m x false q base_is meta_is stays = refl

pub meta_stays : (b : Option Base) (m n : Option Meta) → is_later b m ≡ true → (wants_meta b m n ≡ false) ↔ (above_base b (later m n) ≡ m)
meta_stays b m None own = (λ is. above_base-own b m own, λ is. refl)
meta_stays b m (Some x) own = (
  λ old. meta_kept b m x (is_after_base b x.0) (is_after_meta m x.0) own refl refl old,
  λ stays. meta_old b m x (is_after_base b x.0) (is_after_meta m x.0) refl refl stays,
)

-- a state that is together with another, as its parts
pub at_least_parts : (v u : State) → ((wants_base v.base u.base ≡ false) × (wants_meta v.base v.meta u.meta ≡ false)) ↔ IsAtLeast v u
at_least_parts v u = (
  λ old.
      let base : higher v.base u.base ≡ v.base = (base_stays v.base u.base).0 old.0 in
      same_state (together v u) v (together-base v u ∙ base)
      (together-meta v u
      ∙ above_base-cong (higher v.base u.base) v.base (later v.meta u.meta) (later v.meta u.meta) base refl
      ∙ (meta_stays v.base v.meta u.meta v.meta_is_later).0 old.1),
  λ same.
      let base : higher v.base u.base ≡ v.base = sym (together-base v u) ∙ ap (λ (s : State). s.base) same in
      let meta : above_base v.base (later v.meta u.meta) ≡ v.meta =
      sym (together-meta v u ∙ above_base-cong (higher v.base u.base) v.base (later v.meta u.meta) (later v.meta u.meta) base refl) ∙ ap (λ (s : State). s.meta)
      same in
      ((base_stays v.base u.base).1 base, (meta_stays v.base v.meta u.meta v.meta_is_later).1 meta),
)

tests : (p q : Bool) → IsTrue (not p && not q) ↔ ((p ≡ false) × (q ≡ false))
tests true q = (λ is. cc, λ is. cc)
tests false true = (λ is. cc, λ is. cc)
tests false false = (λ is. (refl, refl), λ is. refl)

pub at_least_test : (v u : State) (p q : Bool) → p ≡ wants_base v.base u.base → q ≡ wants_meta v.base v.meta u.meta → IsTrue (not p && not q) ↔ IsAtLeast v u
at_least_test v u p q base_is meta_is = (
  λ is. let parts = (tests p q).0 is in (at_least_parts v u).0 (sym base_is ∙ parts.0, sym meta_is ∙ parts.1),
  λ is. let parts = (at_least_parts v u).1 is in (tests p q).1 (base_is ∙ parts.0, meta_is ∙ parts.1),
)

-- a write as its parts
joined_parts : (s : State) (w : Write) → ((wants_base s.base (base_at w.time w.kind) ≡ false) × (wants_meta s.base s.meta (meta_at w.time w.kind) ≡ false)) ↔
    (joined s w ≡ s)
joined_parts s w = (
  λ old.
      let base : higher s.base (base_at w.time w.kind) ≡ s.base = (base_stays s.base (base_at w.time w.kind)).0 old.0 in
      same_state (joined s w) s (joined-base s w ∙ base)
      (joined-meta s w
      ∙ above_base-cong (higher s.base (base_at w.time w.kind)) s.base (later s.meta (meta_at w.time w.kind)) (later s.meta (meta_at w.time w.kind)) base refl
      ∙ (meta_stays s.base s.meta (meta_at w.time w.kind) s.meta_is_later).0 old.1),
  λ same.
      let base : higher s.base (base_at w.time w.kind) ≡ s.base = sym (joined-base s w) ∙ ap (λ (s : State). s.base) same in
      let meta : above_base s.base (later s.meta (meta_at w.time w.kind)) ≡ s.meta =
      sym (joined-meta s w ∙ above_base-cong (higher s.base (base_at w.time w.kind)) s.base (later s.meta (meta_at w.time w.kind))
      (later s.meta (meta_at w.time w.kind)) base refl) ∙ ap (λ (s : State). s.meta) same in
      ((base_stays s.base (base_at w.time w.kind)).1 base, (meta_stays s.base s.meta (meta_at w.time w.kind) s.meta_is_later).1 meta),
)

new_parts : (s : State) (t : ℕ) (k : Kind) → (is_new s t (tag_of k) ≡ false) ↔
    ((wants_base s.base (base_at t k) ≡ false) × (wants_meta s.base s.meta (meta_at t k) ≡ false))
new_parts s t (kinds.Put content) = (λ is. (is, refl), λ is. is.0)
new_parts s t kinds.Del = (λ is. (is, refl), λ is. is.0)
new_parts s t (kinds.Meta heads) = (λ is. (refl, is), λ is. is.1)

pub new_changes : NewChanges
new_changes s w =
    (λ is. (joined_parts s w).0 ((new_parts s w.time w.kind).0 is), λ same. (new_parts s w.time w.kind).1 ((joined_parts s w).1 same))

-- a base that is new put in the place of what is there
pub rebased : (s : State) (w : Write) (b : Base) → base_at w.time w.kind ≡ Some b → meta_at w.time w.kind ≡ None →
    is_new_base s.base (base_time b) (is_deletion b) ≡ true → state_with (Some b) s.meta ≡ joined s w
rebased s w b base_is meta_is new =
    let base : higher s.base (base_at w.time w.kind) ≡ Some b = ap (higher s.base) base_is ∙ higher-new s.base b new in
    let meta : later s.meta (meta_at w.time w.kind) ≡ s.meta = ap (later s.meta) meta_is in
    sym (same_state (joined s w) (state_with (Some b) s.meta) (joined-base s w ∙ base)
    (joined-meta s w ∙ above_base-cong (higher s.base (base_at w.time w.kind)) (Some b) (later s.meta (meta_at w.time w.kind)) s.meta base meta))

pub joined_put : (s new : State) (w : Write) (tag : Tag) (content used : Content) → used ≡ content → w.kind ≡ kinds.Put content → tag ≡ tag_of w.kind →
    true ≡ is_new s w.time tag
    → new ≡ state_with (Some (bases.Put w.time used)) s.meta → new ≡ joined s w
joined_put s new w tag content used same kind tagged is_fresh is =
    let put : tag ≡ tags.Put = tagged ∙ ap tag_of kind in
    is ∙ ap (λ (x : Content). state_with (Some (bases.Put w.time x)) s.meta) same
    ∙ rebased s w (bases.Put w.time content) (ap (base_at w.time) kind) (ap (meta_at w.time) kind) (sym (is_fresh ∙ ap (is_new s w.time) put))

pub joined_del : (s new : State) (w : Write) (tag : Tag) → w.kind ≡ kinds.Del → tag ≡ tag_of w.kind → true ≡ is_new s w.time tag
    → new ≡ state_with (Some (bases.Del w.time)) s.meta → new ≡ joined s w
joined_del s new w tag kind tagged is_fresh is =
    let del : tag ≡ tags.Del = tagged ∙ ap tag_of kind in
    is ∙ rebased s w (bases.Del w.time) (ap (base_at w.time) kind) (ap (meta_at w.time) kind) (sym (is_fresh ∙ ap (is_new s w.time) del))
