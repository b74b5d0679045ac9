-- A meta that a base covers makes no difference below a higher base.
use Rattle.std.proofs.Common.{◌≡◌, ℕ, Bool, true, false, cond, ◌&&◌, refl, sym, ◌∙◌, arith, Option, None, Some, nat_lt}
use Rattle.std.proofs.lemmas.Bool.Decides.{nat_tests}
use Rattle.sw_state.specs.Bases.{higher}
use Rattle.sw_state.specs.Metas.{Meta, above_base, later}
use Rattle.sw_state.specs.declared.base.Base.{Base}
use Rattle.sw_state.proofs.BaseOrder.{above_base-none, above_base-some, after, after-higher}

-- an earlier time than one that isn't later than a base isn't later either
pub after-earlier : (b : Option Base) (t u : ℕ) → nat_lt t u ≡ false → after b t ≡ false → after b u ≡ false
after-earlier None t u order is = is
after-earlier (Some b) t u order is = grind (arith, nat_tests)

lower_left : (a b : Option Base) (t : ℕ) → after a t ≡ false → after (higher a b) t ≡ false
lower_left a b t is = after-higher a b t ∙ rw is refl

not_right : (p : Bool) → (p && false) ≡ false
not_right true = refl
not_right false = refl

lower_right : (a b : Option Base) (t : ℕ) → after b t ≡ false → after (higher a b) t ≡ false
lower_right a b t is = after-higher a b t ∙ rw is (not_right (after a t))

hidden : (h : Option Base) (m : Meta) → after h m.0 ≡ false → above_base h (Some m) ≡ None
hidden h m is = above_base-some h m ∙ rw is refl

-- the one that is hidden left out, before another
skip_left_at : (h : Option Base) (x y : Meta) (p : Bool) → nat_lt x.0 y.0 ≡ p → after h x.0 ≡ false → above_base h (Some y) ≡ above_base h (Some (cond p y x))
skip_left_at h x y true order is = refl
skip_left_at h x y false order is = hidden h y (after-earlier h x.0 y.0 order is) ∙ sym (hidden h x is)

skip_left : (h : Option Base) (x : Meta) (n : Option Meta) → after h x.0 ≡ false → above_base h (later None n) ≡ above_base h (later (Some x) n)
skip_left h x None is = above_base-none h ∙ sym (hidden h x is)
skip_left h x (Some y) is = skip_left_at h x y (nat_lt x.0 y.0) refl is

cut_left_at : (a h : Option Base) (x : Meta) (n : Option Meta) (p : Bool) → after a x.0 ≡ p → (after a x.0 ≡ false → after h x.0 ≡ false)
    → above_base h (later (cond p (Some x) None) n) ≡ above_base h (later (Some x) n)
cut_left_at a h x n true is lower = refl
cut_left_at a h x n false is lower = skip_left h x n (lower is)

cut_left_below : (a h : Option Base) (m n : Option Meta) → ((t : ℕ) → after a t ≡ false → after h t ≡ false) →
    above_base h (later (above_base a m) n) ≡ above_base h (later m n)
cut_left_below a h None n lower = rw (above_base-none a) refl
cut_left_below a h (Some x) n lower = rw (above_base-some a x) (cut_left_at a h x n (after a x.0) refl (lower x.0))

pub cut_left : (a b : Option Base) (m n : Option Meta) → above_base (higher a b) (later (above_base a m) n) ≡ above_base (higher a b) (later m n)
cut_left a b m n = cut_left_below a (higher a b) m n (lower_left a b)

-- and after another
skip_right_at : (h : Option Base) (x y : Meta) (p : Bool) → nat_lt x.0 y.0 ≡ p → after h y.0 ≡ false → above_base h (Some x) ≡ above_base h (Some (cond p y x))
skip_right_at h x y true order is =
    let earlier : nat_lt y.0 x.0 ≡ false = grind (arith, nat_tests) in
    hidden h x (after-earlier h y.0 x.0 earlier is) ∙ sym (hidden h y is)
skip_right_at h x y false order is = refl

pub skip_right : (h : Option Base) (m : Option Meta) (y : Meta) → after h y.0 ≡ false → above_base h m ≡ above_base h (later m (Some y))
skip_right h None y is = above_base-none h ∙ sym (hidden h y is)
skip_right h (Some x) y is = skip_right_at h x y (nat_lt x.0 y.0) refl is

cut_right_at : (b h : Option Base) (m : Option Meta) (y : Meta) (p : Bool) → after b y.0 ≡ p → (after b y.0 ≡ false → after h y.0 ≡ false)
    → above_base h (later m (cond p (Some y) None)) ≡ above_base h (later m (Some y))
cut_right_at b h m y true is lower = refl
cut_right_at b h m y false is lower = skip_right h m y (lower is)

cut_right_below : (b h : Option Base) (m n : Option Meta) → ((t : ℕ) → after b t ≡ false → after h t ≡ false) →
    above_base h (later m (above_base b n)) ≡ above_base h (later m n)
cut_right_below b h m None lower = rw (above_base-none b) refl
cut_right_below b h m (Some y) lower = rw (above_base-some b y) (cut_right_at b h m y (after b y.0) refl (lower y.0))

pub cut_both : (a b : Option Base) (m n : Option Meta) → above_base (higher a b) (later (above_base a m) (above_base b n)) ≡ above_base (higher a b) (later m n)
cut_both a b m n =
    cut_right_below b (higher a b) (above_base a m) n (lower_right a b) ∙ cut_left a b m n
