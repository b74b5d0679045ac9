-- A pass that is split in two, and two that are joined, keep the rule.
use Rattle.std.proofs.Common.{◌≡◌, ◌≢◌, ◌⊎◌, ℕ, suc, ◌+◌, ◌≤◌, eqb, false, true≢false, List, [], ◌∷◌, ◌++◌, length, set, sym, refl}
use Rattle.std.proofs.Common.{Option, None, ap, ◌∙◌, subst, arith, inl, inr, ⊎_elim}
use mathlib.Core.Option.{some}
use mathlib.Core.Logic.{dite}
use native.Mathlib.Decide.{ℕ_discrete}
use lib.ListN.{get_elem?}
use Rattle.atomic_table.specs.Table.{State, Splits, Joins}
use Rattle.atomic_table.proofs.Lists.{at_snoc, at_longer, set_else}
use Rattle.sw_turn.specs.declared.booked.Book.{Book}
use Rattle.sw_turn.specs.declared.booked.View.{View}
use Rattle.sw_turn.specs.Known.{total, hit, times, first_of, rest_of, later}
use Rattle.sw_turn.specs.Rule.{giver, taker, united, spent, tickets, Fits, Heard, Kept}
use Rattle.sw_turn.proofs.Totals.{total_set, total_append}
use Rattle.sw_turn.proofs.Views.{not_none, set_at, same_place, set_all, set_apart, snoc_apart, slot_on}
use Rattle.sw_turn.proofs.Growing.{fewer_numbers, Joined, joined}

pub joined_live : (ns ms : List ℕ) → ns ≢ [] → ns ++ ms ≢ []
joined_live [] ms ne e = ne refl
joined_live (n ∷ ns) ms ne e = let z : suc (length (ns ++ ms)) ≡ 0 = ap length e in absurd (omega arith)

parts_of : (f : ℕ → ℕ) (ns : List ℕ) → ns ≢ [] → f (first_of ns) + total f (rest_of ns) ≡ total f ns
parts_of f [] ne = absurd (ne refl)
parts_of f (x ∷ xs) ne = refl

some_rest : (ns : List ℕ) → 2 ≤ length ns → rest_of ns ≢ []
some_rest [] le e = absurd (omega arith)
some_rest (n ∷ ns) le e = let z : length ns ≡ 0 = ap length e in absurd (omega arith)

module _ {B E O : Type 0} (book : B → Book E O) (seats : ℕ) where
  -- 7: it gives one of its numbers to a new pass
  pub splits : (i : ℕ) (v : View B E O) → v.ticket ≡ None → v.turn ≡ false → 2 ≤ length v.numbers → Splits (Kept book seats) i v (giver v) (taker v)
  splits i v none no_turn two s k at =
      let f = k.fits i v at in
      let live : v.numbers ≢ [] = λ e. let z : length v.numbers ≡ 0 = ap length e in absurd (omega arith) in
      let l = f.live live in
      let sum : (x : ℕ) → times x (first_of v.numbers ∷ []) + times x (rest_of v.numbers) ≡ times x v.numbers
      = λ x. omega (arith, parts_of (λ y. hit (eqb y x)) v.numbers live) in
      let given : Fits k.past k.log seats k.ticket k.serving (giver v) = record {
        live = λ e. record {
          seats_are = l.seats_are;
          known = fewer_numbers seats v.numbers (rest_of v.numbers) v.known k.log l.known (λ x. omega (arith, sum x));
          stage = l.stage;
        };
        gone = λ e. (none, no_turn);
        drawn = f.drawn;
        parts = f.parts;
        turn = f.turn;
      } in
      let taken : Fits k.past k.log seats k.ticket k.serving (taker v) = record {
        live = λ e. record {
          seats_are = l.seats_are;
          known = fewer_numbers seats v.numbers (first_of v.numbers ∷ []) v.known k.log l.known (λ x. omega (arith, sum x));
          stage = l.stage;
        };
        gone = λ e. (none, no_turn);
        drawn = f.drawn;
        parts = f.parts;
        turn = f.turn;
      } in
      let views : List (View B E O) = set s.views i (giver v) in
      let longer : (j : ℕ) (u : View B E O) → get_elem? views j ≡ some u → get_elem? (views ++ taker v ∷ []) j ≡ some u
      = at_longer views (taker v ∷ []) in record {
        past = k.past;
        log = k.log;
        ticket = k.ticket;
        serving = k.serving;
        words = k.words;
        newest = k.newest;
        order = k.order;
        few = k.few;
        fits = λ j u e.
            ⊎_elim (set_all (Fits k.past k.log seats k.ticket k.serving) s.views i (giver v) given (λ j u ne d. k.fits j u d) j u)
            (λ h. subst (Fits k.past k.log seats k.ticket k.serving) h taken) (at_snoc views (taker v) u j e);
        heard = let h = k.heard in
            dite (ℕ_discrete h.0 i)
            (λ e.
            let is : h.1 ≡ v = same_place s.views i h.0 v h.1 at h.2 e in
            (i, giver v, longer i (giver v) (set_at s.views i v (giver v) at), some_rest v.numbers two, ap (λ (u : View B E O). u.known) (sym is) ∙ h.4))
            (λ ne. (h.0, h.1, longer h.0 h.1 (set_else s.views i h.0 (giver v) ne ∙ h.2), h.3, h.4));
        apart = snoc_apart views (taker v) (set_apart s.views i (giver v) k.apart (λ j u t ne e a b. not_none t v.ticket b none)) none;
        queue = let z : tickets v.ticket ≡ 0 = ap tickets none in
            omega (
              arith,
              k.queue,
              total_set (λ (u : View B E O). tickets u.ticket) s.views i v (giver v) at,
              total_append (λ (u : View B E O). tickets u.ticket) views (taker v ∷ []),
            );
        whole = λ g.
            omega (
              arith,
              k.whole g,
              parts_of g v.numbers live,
              total_set (λ (u : View B E O). total g u.numbers) s.views i v (giver v) at,
              total_append (λ (u : View B E O). total g u.numbers) views (taker v ∷ []),
            );
        slot = ⊎_elim (λ h. inl (h.0, h.1, longer h.0 h.1 h.2, h.3))
            (λ h. inr ((λ j u e. ⊎_elim (λ d. h.0 j u d) (λ d. ap (λ (z : View B E O). z.turn) (sym d) ∙ no_turn) (at_snoc views (taker v) u j e)), h.1))
            (slot_on book k.log s.homes s.views i v (giver v) at no_turn no_turn k.slot);
      }

  -- 8: it takes in another pass
  pub joins : (i j : ℕ) (v w : View B E O) → v.ticket ≡ None → v.turn ≡ false → w.ticket ≡ None → w.turn ≡ false → v.numbers ≢ [] → w.numbers ≢ []
      → Joins (Kept book seats) i v j w (united v w) spent
  joins i j v w none no_turn none' no_turn' live live' s k at other at_set_j =
      let at' : get_elem? s.views j ≡ some w = sym (set_else s.views i j (united v w) other) ∙ at_set_j in
      let f = k.fits i v at in
      let g = k.fits j w at' in
      let one : Joined k.past k.log seats v.seats v.numbers w.numbers v.known w.known (later v.known w.known)
      = joined seats k.past k.log k.newest k.order v.seats w.seats v.numbers w.numbers v.known w.known (f.live live) (g.live live') in
      let views : List (View B E O) = set s.views i (united v w) in
      let both : Fits k.past k.log seats k.ticket k.serving (united v w) = record {
        live = λ e. one.both;
        gone = λ e. (none, no_turn);
        drawn = λ t e. not_none t v.ticket e none;
        parts = (one.first, (one.second, tt));
        turn = λ e. absurd (true≢false (sym e ∙ no_turn));
      } in
      let nothing_left : Fits k.past k.log seats k.ticket k.serving spent = record {
        live = λ e. absurd (e refl);
        gone = λ e. (refl, refl);
        drawn = λ t e. not_none t None e refl;
        parts = tt;
        turn = λ e. absurd (true≢false (sym e));
      } in record {
        past = k.past;
        log = k.log;
        ticket = k.ticket;
        serving = k.serving;
        words = k.words;
        newest = k.newest;
        order = k.order;
        few = k.few;
        fits = set_all (Fits k.past k.log seats k.ticket k.serving) views j spent nothing_left
            (λ a u ne e. set_all (Fits k.past k.log seats k.ticket k.serving) s.views i (united v w) both (λ b x ne' d. k.fits b x d) a u e);
        heard = heard_by k at at' one other;
        apart = set_apart views j spent (set_apart s.views i (united v w) k.apart (λ a u t ne e p q. not_none t v.ticket q none))
            (λ a u t ne e p q. not_none t None q refl);
        queue = let z : tickets v.ticket ≡ 0 = ap tickets none in
            let z' : tickets w.ticket ≡ 0 = ap tickets none' in
            omega (
              arith,
              k.queue,
              total_set (λ (u : View B E O). tickets u.ticket) s.views i v (united v w) at,
              total_set (λ (u : View B E O). tickets u.ticket) views j w spent at_set_j,
            );
        whole = λ h.
            omega (
              arith,
              k.whole h,
              total_append h v.numbers w.numbers,
              total_set (λ (u : View B E O). total h u.numbers) s.views i v (united v w) at,
              total_set (λ (u : View B E O). total h u.numbers) views j w spent at_set_j,
            );
        slot = slot_on book k.log s.homes views j w spent at_set_j no_turn' refl
            (slot_on book k.log s.homes s.views i v (united v w) at no_turn no_turn k.slot);
      }
    where
      heard_by : {s : State (Option B) (View B E O)} (k : Kept book seats s) → get_elem? s.views i ≡ some v → get_elem? s.views j ≡ some w
          → Joined k.past k.log seats v.seats v.numbers w.numbers v.known w.known (later v.known w.known) → j ≢ i
          → Heard k.log (set (set s.views i (united v w)) j spent)
      heard_by {s} k at at' one other =
          let h = k.heard in
          let views : List (View B E O) = set s.views i (united v w) in
          let here : (v.known ≡ k.log) ⊎ (w.known ≡ k.log) → Heard k.log (set views j spent) = λ e. (
            i,
            united v w,
            set_else views j i spent (λ q. other (sym q)) ∙ set_at s.views i v (united v w) at,
            joined_live v.numbers w.numbers live,
            one.heard e,
          ) in
          dite (ℕ_discrete h.0 i) (λ e. here (inl (ap (λ (u : View B E O). u.known) (sym (same_place s.views i h.0 v h.1 at h.2 e)) ∙ h.4)))
          (λ ne. dite (ℕ_discrete h.0 j) (λ e. here (inr (ap (λ (u : View B E O). u.known) (sym (same_place s.views j h.0 w h.1 at' h.2 e)) ∙ h.4)))
          (λ ne'. (h.0, h.1, set_else views j h.0 spent ne' ∙ set_else s.views i h.0 (united v w) ne ∙ h.2, h.3, h.4)))
