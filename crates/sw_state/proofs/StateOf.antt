-- The state of writes is the highest base and the latest meta above it, and there is only one.
use Rattle.std.proofs.Common.{length, get_or, zero, suc, ◌≡◌, ℕ, ◌<◌, ◌⊎◌, inl, inr, Bool, true, false, cond, List, [], ◌∷◌, refl, sym, ◌∙◌, subst, arith}
use Rattle.std.proofs.Common.{Option, None, Some, nat_lt}
use Rattle.std.specs.Prelude.{Contains}
use Rattle.std.proofs.lemmas.Bool.Decides.{nat_tests}
use Rattle.std.proofs.lemmas.List.Elements.{Contains-append_left, Contains-append_right}
use Rattle.sw_state.specs.Bases.{base_at, higher, is_above}
use Rattle.sw_state.specs.Metas.{Meta, above_base, is_later, later, meta_at}
use Rattle.sw_state.specs.States.{IsBaseOf, IsStateOf, IsTopOf, base_of, latest_meta, state_of}
use Rattle.sw_state.specs.declared.base.Base.{Base}
use Rattle.sw_state.specs.declared.write.Write.{Write}
use Rattle.sw_state.proofs.BaseOrder.{above-asym, above-itself, above-not, is_later-some}
use Rattle.sw_state.proofs.MetaCuts.{after-earlier}

-- an element of a list of one more
pub in_front : (w : Write) (ws : List Write) → Contains (w ∷ ws) w
in_front w ws = Contains-append_left (w ∷ []) ws w (0, omega arith, refl)

pub behind : (w : Write) (ws : List Write) (x : Write) → Contains ws x → Contains (w ∷ ws) x
behind w ws x in_it = Contains-append_right (w ∷ []) ws x in_it

front_or_behind_at : (w : Write) (ws : List Write) (x : Write) (k : ℕ) → k < length (w ∷ ws) → get_or (w ∷ ws) k x ≡ x → (x ≡ w) ⊎ Contains ws x
front_or_behind_at w ws x zero inside is = inl (sym is)
front_or_behind_at w ws x (suc k) inside is = inr (k, omega arith, is)

pub front_or_behind : (w : Write) (ws : List Write) (x : Write) → Contains (w ∷ ws) x → (x ≡ w) ⊎ Contains ws x
front_or_behind w ws x is = front_or_behind_at w ws x is.0 is.1 is.2

-- a fact of the write in front and of those behind it is one of all
each : (P : Write → Type 0) (w : Write) (ws : List Write) → P w → ((x : Write) → Contains ws x → P x) → (x : Write) → Contains (w ∷ ws) x → P x
each P w ws first rest x is =
    elim (front_or_behind w ws x is) [ inl same ↦ subst P (sym same) first | inr later ↦ rest x later ]

pub not_none : {T : Type 0} (o : Option T) (x : T) → o ≡ None → o ≡ Some x → ⊥
not_none o x none some = cc

same_above : (a d : Base) → let x : Option Base = Some a in let y : Option Base = Some d in x ≡ y → is_above d a ≡ false
same_above a d same = let e : a ≡ d = cc in rw (← e) (above-itself a)

base-chosen : (w : Write) (ws : List Write) (a b : Base) (p : Bool) → is_above b a ≡ p → base_at w.time w.kind ≡ Some a → IsBaseOf ws (Some b) →
    IsBaseOf (w ∷ ws) (Some (cond p b a))
base-chosen w ws a b true above is rest = (
  (rest.0.0, behind w ws rest.0.0 rest.0.1, rest.0.2),
  λ x c in_it at. each (λ y. (d : Base) → base_at y.time y.kind ≡ Some d → is_above d b ≡ false) w ws
      (λ d some. first d (sym is ∙ some)) (λ y later d some. rest.1 y d later some) x in_it c at,
)
  where
    first : (d : Base) → let x : Option Base = Some a in let y : Option Base = Some d in x ≡ y → is_above d b ≡ false
    first d same = let e : a ≡ d = cc in rw (← e) (above-asym a b above)
base-chosen w ws a b false above is rest = (
  (w, in_front w ws, is),
  λ x c in_it at. each (λ y. (d : Base) → base_at y.time y.kind ≡ Some d → is_above d a ≡ false) w ws
      (λ d some. same_above a d (sym is ∙ some)) (λ y later d some. above-not d b a (rest.1 y d later some) above) x in_it c at,
)

-- the base
base-cons : (w : Write) (ws : List Write) (a r : Option Base) → base_at w.time w.kind ≡ a → IsBaseOf ws r → IsBaseOf (w ∷ ws) (higher a r)
base-cons w ws None None is rest = each (λ x. base_at x.time x.kind ≡ None) w ws is rest
base-cons w ws None (Some b) is rest = (
  (rest.0.0, behind w ws rest.0.0 rest.0.1, rest.0.2),
  λ x c in_it at. each (λ y. (d : Base) → base_at y.time y.kind ≡ Some d → is_above d b ≡ false) w ws
      (λ d some. absurd (not_none (base_at w.time w.kind) d is some)) (λ y later d some. rest.1 y d later some) x in_it c at,
)
base-cons w ws (Some a) None is rest = (
  (w, in_front w ws, is),
  λ x c in_it at. each (λ y. (d : Base) → base_at y.time y.kind ≡ Some d → is_above d a ≡ false) w ws
      (λ d some. same_above a d (sym is ∙ some)) (λ y later d some. absurd (not_none (base_at y.time y.kind) d (rest y later) some)) x in_it c at,
)
base-cons w ws (Some a) (Some b) is rest = base-chosen w ws a b (is_above b a) refl is rest

pub is_base : (ws : List Write) → IsBaseOf ws (base_of ws)
is_base [] = λ w is. absurd (nothing w is)
  where
    nothing : (w : Write) → Contains [] w → ⊥
    nothing w is = absurd (omega (arith, is.1))
is_base (w ∷ ws) = base-cons w ws (base_at w.time w.kind) (base_of ws) refl (is_base ws)

-- the meta: first the latest of all
abbrev pub IsLatest : List Write → Option Meta → Type 0
IsLatest ws None = (w : Write) → Contains ws w → meta_at w.time w.kind ≡ None
IsLatest ws (Some m) =
    ((w : Write) × Contains ws w × (meta_at w.time w.kind ≡ Some m))
    × ((w : Write) (n : Meta) → Contains ws w → meta_at w.time w.kind ≡ Some n → nat_lt m.0 n.0 ≡ false)

not_later_itself : (a d : Meta) → let x : Option Meta = Some a in let y : Option Meta = Some d in x ≡ y → nat_lt a.0 d.0 ≡ false
not_later_itself a d same = let e : a ≡ d = cc in rw (← e) (grind (arith, nat_tests))

latest-chosen : (w : Write) (ws : List Write) (m n : Meta) (p : Bool) → nat_lt m.0 n.0 ≡ p → meta_at w.time w.kind ≡ Some m → IsLatest ws (Some n) →
    IsLatest (w ∷ ws) (Some (cond p n m))
latest-chosen w ws m n true order is rest = (
  (rest.0.0, behind w ws rest.0.0 rest.0.1, rest.0.2),
  λ x o in_it at. each (λ y. (o : Meta) → meta_at y.time y.kind ≡ Some o → nat_lt n.0 o.0 ≡ false) w ws
      (λ o some. first o (sym is ∙ some)) (λ y later o some. rest.1 y o later some) x in_it o at,
)
  where
    first : (o : Meta) → let x : Option Meta = Some m in let y : Option Meta = Some o in x ≡ y → nat_lt n.0 o.0 ≡ false
    first o same = let e : m ≡ o = cc in rw (← e) (grind (arith, nat_tests))
latest-chosen w ws m n false order is rest = (
  (w, in_front w ws, is),
  λ x o in_it at. each (λ y. (o : Meta) → meta_at y.time y.kind ≡ Some o → nat_lt m.0 o.0 ≡ false) w ws
      (λ o some. not_later_itself m o (sym is ∙ some)) (λ y later o some. not_later o (rest.1 y o later some)) x in_it o at,
)
  where
    not_later : (o : Meta) → nat_lt n.0 o.0 ≡ false → nat_lt m.0 o.0 ≡ false
    not_later o order' = grind (arith, nat_tests)

latest-cons : (w : Write) (ws : List Write) (m r : Option Meta) → meta_at w.time w.kind ≡ m → IsLatest ws r → IsLatest (w ∷ ws) (later m r)
latest-cons w ws None None is rest = each (λ x. meta_at x.time x.kind ≡ None) w ws is rest
latest-cons w ws None (Some n) is rest = (
  (rest.0.0, behind w ws rest.0.0 rest.0.1, rest.0.2),
  λ x o in_it at. each (λ y. (o : Meta) → meta_at y.time y.kind ≡ Some o → nat_lt n.0 o.0 ≡ false) w ws
      (λ o some. absurd (not_none (meta_at w.time w.kind) o is some)) (λ y later o some. rest.1 y o later some) x in_it o at,
)
latest-cons w ws (Some m) None is rest = (
  (w, in_front w ws, is),
  λ x o in_it at. each (λ y. (o : Meta) → meta_at y.time y.kind ≡ Some o → nat_lt m.0 o.0 ≡ false) w ws
      (λ o some. not_later_itself m o (sym is ∙ some)) (λ y later o some. absurd (not_none (meta_at y.time y.kind) o (rest y later) some)) x in_it o at,
)
latest-cons w ws (Some m) (Some n) is rest = latest-chosen w ws m n (nat_lt m.0 n.0) refl is rest

pub is_latest : (ws : List Write) → IsLatest ws (latest_meta ws)
is_latest [] = λ w is. absurd (nothing w is)
  where
    nothing : (w : Write) → Contains [] w → ⊥
    nothing w is = absurd (omega (arith, is.1))
is_latest (w ∷ ws) = latest-cons w ws (meta_at w.time w.kind) (latest_meta ws) refl (is_latest ws)

-- then as far as it is later than the base
top-at : (ws : List Write) (b : Option Base) (m : Meta) (p : Bool) → is_later b (Some m) ≡ p → IsLatest ws (Some m) → IsTopOf ws b (cond p (Some m) None)
top-at ws b m true is latest = (latest.0, is, λ w n in_it at order. not_later m.0 n.0 (latest.1 w n in_it at) order)
  where
    not_later : (t u : ℕ) → nat_lt t u ≡ false → t < u → ⊥
    not_later t u test order = grind (arith, nat_tests)
top-at ws b m false is latest =
    λ w n in_it at. is_later-some b n ∙ after-earlier b m.0 n.0 (latest.1 w n in_it at) (sym (is_later-some b m) ∙ is)

top-from : (ws : List Write) (b : Option Base) (r : Option Meta) → IsLatest ws r → IsTopOf ws b (above_base b r)
top-from ws None None latest = λ w n in_it at. absurd (not_none (meta_at w.time w.kind) n (latest w in_it) at)
top-from ws (Some b) None latest = λ w n in_it at. absurd (not_none (meta_at w.time w.kind) n (latest w in_it) at)
top-from ws b (Some m) latest = top-at ws b m (is_later b (Some m)) refl latest

pub is_state : (ws : List Write) → IsStateOf ws (state_of ws)
is_state ws = record { is_base = is_base ws; is_top = top-from ws (base_of ws) (latest_meta ws) (is_latest ws) }
