-- What a pass made, after a step of its own.
use Rattle.std.proofs.Common.{◌≡◌, ℕ, ◌+◌, ◌<◌, Bool, true, false, cond, MatchBool, List, [], ◌∷◌, ◌++◌, length, refl, ap, sym, ◌∙◌, arith}
use Rattle.std.proofs.Common.{subst, length-append}
use mathlib.Core.Logic.{dite}
use native.Mathlib.Decide.{ℕ_discrete}
use Rattle.sw_turn.specs.declared.booked.Book.{Book}
use Rattle.sw_turn.specs.declared.booked.Known.{Known}
use Rattle.sw_turn.specs.Known.{times, Grows, Tells, taken_in}
use Rattle.sw_turn.proofs.Growing.{made_stays, made_more}
use Rattle.sw_turn.proofs.Totals.{times_here}

module _ {B E O : Type 0} where
  pub made_once : (seats x : ℕ) (ns : List ℕ) (k l : Known B E O) (old new : Book E O) (value : B) (item : E) (t : Bool) → Grows seats ns k l → ns ≡ x ∷ []
      → Tells old l → MatchBool t (new.entries ≡ old.entries ++ item ∷ []) (new.entries ≡ old.entries)
      → times x (taken_in l x value new).makers ≡ times x k.makers + cond t 1 0
  made_once seats x ns k l old new value item t g is tells e = go t e
    where
      stays : times x l.makers ≡ times x k.makers
      stays = made_stays seats ns k l x g (subst (λ z. 0 < times x z) (sym is) (omega (arith, times_here x)))

      same : length l.entries ≡ length old.entries
      same = ap length tells.entries

      go : (t : Bool) → MatchBool t (new.entries ≡ old.entries ++ item ∷ []) (new.entries ≡ old.entries)
          → times x (taken_in l x value new).makers ≡ times x k.makers + cond t 1 0
      go true e =
          let longer : length new.entries ≡ length old.entries + 1 = ap length e ∙ length-append old.entries (item ∷ []) in
          omega (arith, made_more l x value new (omega (arith, longer, same)), stays, longer, same)
      go false e =
          let as_long : length new.entries ≡ length old.entries = ap length e in
          omega (arith, made_more l x value new (omega (arith, as_long, same)), stays, as_long, same)

-- where each of two passes has one number, the entries are those that either made
pub two_makers : (ms : List ℕ) → ((x : ℕ) → 0 < times x ms → x < 2) → length ms ≡ times 0 ms + times 1 ms
two_makers [] small = refl
two_makers (y ∷ ms) small =
    let r = two_makers ms (λ x pos. small x (omega arith)) in
    let lt : y < 2 = small y (omega (arith, times_here y)) in
    let P : ℕ → Type 0 = λ z. length (z ∷ ms) ≡ times 0 (z ∷ ms) + times 1 (z ∷ ms) in
    dite (ℕ_discrete y 0) (λ e. subst P (sym e) (omega (arith, r))) (λ ne. let e : y ≡ 1 = omega arith in subst P (sym e) (omega (arith, r)))

module _ {B E O : Type 0} where
  pub by_both : (seats left right : ℕ) (ns ms : List ℕ) (k l m : Known B E O) (b : Book E O) → seats ≡ 2 → ns ≡ 0 ∷ [] → ms ≡ 1 ∷ []
      → Grows seats ns k m → Grows seats ms l m → Tells b m → times 0 k.makers ≡ left → times 1 l.makers ≡ right → length b.entries ≡ left + right
  by_both seats left right ns ms k l m b two is is' g h tells mine theirs =
      let ours : times 0 m.makers ≡ times 0 k.makers = made_stays seats ns k m 0 g (subst (λ z. 0 < times 0 z) (sym is) (omega arith)) in
      let others : times 1 m.makers ≡ times 1 l.makers = made_stays seats ms l m 1 h (subst (λ z. 0 < times 1 z) (sym is') (omega arith)) in
      omega (arith, ap length tells.entries, g.even, two_makers m.makers (λ x pos. subst (λ z. x < z) two (g.small x pos)), mine, theirs, ours, others)
