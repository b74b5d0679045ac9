-- Each step on a word, by a pass that keeps its numbers, keeps the rule.
use Rattle.std.proofs.Common.{◌≡◌, ◌≢◌, ◌⊎◌, ℕ, ◌+◌, ◌%◌, ◌^◌, ◌<◌, ◌≤◌, eqb, Bool, true, false, true≢false, List, [], ◌∷◌, length, set}
use Rattle.std.proofs.Common.{slice_index, Option, Some, None, sym, refl, ap, ◌∙◌, subst, arith, inl, inr, ⊎_elim}
use mathlib.Core.Option.{some}
use mathlib.Core.Option as maybe
use mathlib.Core.Logic.{dite}
use native.Mathlib.Decide.{ℕ_discrete}
use lib.ListN.{get_elem?}
use Rattle.atomic_table.specs.Table.{State, Me, step, keeps, takes, gives, Allows}
use Rattle.atomic_table.proofs.Lists.{one_turn}
use Rattle.sw_turn.specs.declared.booked.Book.{Book}
use Rattle.sw_turn.specs.declared.booked.Known.{Known}
use Rattle.sw_turn.specs.declared.booked.View.{View}
use Rattle.sw_turn.specs.Known.{total, hit, times, below, first_of, Grows, Tells, GoesOn, taken_in, AreApart, AreParts}
use Rattle.sw_turn.specs.Rule.{tickets, Lives, Fits, SomeInTurn, Heard, AtHome, Kept}
use Rattle.sw_turn.specs.Steps.{Drawn, Looked, Counted, Passed, Recalled}
use Rattle.sw_turn.proofs.Totals.{total_set, total_at, total_two, total_le, ones_are, times_first, times_below, below_in, length-below, next_turn}
use Rattle.sw_turn.proofs.Views.{some_is, not_none, set_at, same_place, one_home, set_all, set_apart, slot_on, heard_on}
use Rattle.sw_turn.proofs.Growing.{no_parts, grows_self, taken_grows, with_new, as_before, as_new, order_on}

module _ {B E O : Type 0} (book : B → Book E O) (seats : ℕ) where
  -- one pass goes from v to w, and keeps its numbers
  pub kept_by : (s : State (Option B) (View B E O)) (k : Kept book seats s) (i : ℕ) (v w : View B E O) → get_elem? s.views i ≡ some v
      → (past : ℕ → Known B E O) (log : Known B E O) (ticket serving : ℕ) (words : List ℕ) (homes : List (maybe.Option (Option B)))
      → words ≡ length log.entries ∷ ticket % 2 ^ 64 ∷ serving % 2 ^ 64 ∷ []
      → past log.stamp ≡ log
      → ((a b : ℕ) → a ≤ b → b ≤ log.stamp → Grows seats [] (past a) (past b))
      → w.numbers ≡ v.numbers
      → Fits past log seats ticket serving w
      → ((j : ℕ) (u : View B E O) → j ≢ i → get_elem? s.views j ≡ some u → Fits k.past k.log seats k.ticket k.serving u → Fits past log seats ticket serving u)
      → ((j : ℕ) (u : View B E O) (t : ℕ) → j ≢ i → get_elem? s.views j ≡ some u → u.ticket ≡ Some t → w.ticket ≡ Some t → ⊥)
      → serving + tickets w.ticket + k.ticket ≡ ticket + tickets v.ticket + k.serving
      → Heard log (set s.views i w)
      → SomeInTurn (set s.views i w) ⊎ AtHome book log homes (set s.views i w)
      → Kept book seats record { words = words; homes = homes; views = set s.views i w }
  kept_by s k i v w at past log ticket serving words homes words_are newest order same mine others apart queue heard slot = record {
    past = past;
    log = log;
    ticket = ticket;
    serving = serving;
    words = words_are;
    newest = newest;
    order = order;
    few = k.few;
    fits = set_all (Fits past log seats ticket serving) s.views i w mine (λ j u other e. others j u other e (k.fits j u e));
    heard = heard;
    apart = set_apart s.views i w k.apart apart;
    queue = omega (arith, total_set (λ (u : View B E O). tickets u.ticket) s.views i v w at, k.queue, queue);
    whole = λ f. omega (arith, total_set (λ (u : View B E O). total f u.numbers) s.views i v w at, k.whole f, ap (total f) same);
    slot = slot;
  }

  -- what was known at the last return
  pub log_grows : (s : State (Option B) (View B E O)) (k : Kept book seats s) → Grows seats [] k.log k.log
  log_grows s k = subst (λ z. Grows seats [] z z) k.newest (k.order k.log.stamp k.log.stamp (omega arith) (omega arith))

  -- a pass that knows the log
  pub lives_now : (s : State (Option B) (View B E O)) (k : Kept book seats s) (own : ℕ) (ns : List ℕ) → own ≡ seats → Lives k.past k.log seats own ns k.log
  lives_now s k own ns is = record { seats_are = is; known = grows_self seats [] ns k.log k.log (log_grows s k); stage = sym k.newest }

  -- each pass has numbers of its own, which are below seats
  pub are_apart : (s : State (Option B) (View B E O)) (k : Kept book seats s) (i : ℕ) (v : View B E O) → get_elem? s.views i ≡ some v → AreApart seats v.numbers
  are_apart s k i v at x =
      let most : times x v.numbers ≤ times x (below seats)
      = omega (arith, total_at (λ (u : View B E O). times x u.numbers) s.views i v at, k.whole (λ y. hit (eqb y x))) in
      (omega (arith, most, times_below seats x), (λ pos. below_in seats x (omega (arith, most, pos))))

  -- and what one pass owns no other does
  pub none_else : (s : State (Option B) (View B E O)) (k : Kept book seats s) (i j : ℕ) (v u : View B E O) (x : ℕ)
      → get_elem? s.views i ≡ some v → get_elem? s.views j ≡ some u → j ≢ i → 0 < times x v.numbers → times x u.numbers ≡ 0
  none_else s k i j v u x at e other owned =
      omega (
        arith,
        owned,
        times_below seats x,
        k.whole (λ y. hit (eqb y x)),
        total_two (λ (z : View B E O). times x z.numbers) s.views i j v u at e (λ z. other (sym z)),
      )

  -- 1: it draws a ticket
  pub draws : (slots i : ℕ) (v : View B E O) (hand : List (ℕ × Option B)) → v.ticket ≡ None → v.turn ≡ false → v.numbers ≢ []
      → Allows (Kept book seats) slots i (v, hand) 1 (λ n. (n + 1) % 2 ^ 64) (Drawn (step slots 1 1 0 maybe.none) (v, hand))
  draws slots i v hand none no_turn live s k deep at small =
      let t = k.ticket in
      let w : View B E O = record v { ticket = Some t } in
      let found : slice_index s.words 1 ≡ t % 2 ^ 64 = ap (λ ws. slice_index ws 1) k.words in
      let f = k.fits i v at in (
        w,
        keeps,
        tt,
        kept_by s k i v w at k.past k.log (t + 1) k.serving _ _
            (ap (λ ws. set ws 1 ((slice_index ws 1 + 1) % 2 ^ 64)) k.words
            ∙ ap (λ z. length k.log.entries ∷ z ∷ k.serving % 2 ^ 64 ∷ []) (next_turn t (2 ^ 64) (omega arith)))
            k.newest k.order refl
            (record {
              live = f.live;
              gone = λ e. absurd (live e);
              drawn = λ u e. let q : t ≡ u = some_is t u w.ticket refl e in (omega (arith, k.queue), omega arith);
              parts = f.parts;
              turn = λ e. absurd (true≢false (sym e ∙ no_turn));
            })
            (λ j u other e g. record {
              live = g.live;
              gone = g.gone;
              drawn = λ x h. let d = g.drawn x h in (d.0, omega (arith, d.1));
              parts = g.parts;
              turn = g.turn;
            })
            (λ j u x other e h q. let d = (k.fits j u e).drawn x h in let y : t ≡ x = some_is t x w.ticket refl q in absurd (omega (arith, d.1)))
            (let z : tickets v.ticket ≡ 0 = ap tickets none in omega arith)
            (heard_on k.log s.views i v w at refl refl k.heard)
            (slot_on book k.log s.homes s.views i v w at no_turn no_turn k.slot),
        (t, sym found, refl),
      )

  -- no more tickets are out than there are numbers
  pub queue_short : (s : State (Option B) (View B E O)) (k : Kept book seats s) → k.ticket ≤ k.serving + seats
  queue_short s k =
      let each : total (λ (v : View B E O). tickets v.ticket) s.views ≤ total (λ (v : View B E O). total (λ x. 1) v.numbers) s.views
      = total_le _ _ s.views (λ i v at. one_each v (k.fits i v at)) in
      omega (arith, k.queue, each, k.whole (λ x. 1), ones_are (below seats), length-below seats)
    where
      has_some : (v : View B E O) (ns : List ℕ) → v.numbers ≡ ns → Fits k.past k.log seats k.ticket k.serving v → tickets v.ticket ≤ total (λ x. 1) ns
      has_some v [] e f = let z : tickets v.ticket ≡ 0 = ap tickets (f.gone e).0 in omega (arith, z)
      has_some v (n ∷ ns) e f = small v.ticket
        where
          small : (o : Option ℕ) → tickets o ≤ 1 + total (λ x. 1) ns
          small None = omega arith
          small (Some t) = omega arith

      one_each : (v : View B E O) → Fits k.past k.log seats k.ticket k.serving v → tickets v.ticket ≤ total (λ x. 1) v.numbers
      one_each v f = has_some v v.numbers refl f

  -- who has a ticket owns a number
  pub owns_some : (past : ℕ → Known B E O) (log : Known B E O) (ticket serving t : ℕ) (v : View B E O) → Fits past log seats ticket serving v
      → v.ticket ≡ Some t → v.numbers ≢ []
  owns_some past log ticket serving t v f is e = not_none t v.ticket is (f.gone e).0

  -- no other pass is in turn
  pub alone_in_turn : (s : State (Option B) (View B E O)) (k : Kept book seats s) (i j : ℕ) (v u : View B E O) → get_elem? s.views i ≡ some v
      → v.ticket ≡ Some k.serving → j ≢ i → get_elem? s.views j ≡ some u → u.turn ≡ true → ⊥
  alone_in_turn s k i j v u at mine other e turn = other (k.apart j i u v k.serving e at ((k.fits j u e).turn turn).0 mine)

  -- where one pass owns all numbers, no other owns any
  pub others_own_none : (s : State (Option B) (View B E O)) (k : Kept book seats s) (i : ℕ) (v : View B E O) → get_elem? s.views i ≡ some v
      → length v.numbers ≡ seats → (j : ℕ) (u : View B E O) → j ≢ i → get_elem? s.views j ≡ some u → u.numbers ≡ []
  others_own_none s k i v at all j u other e =
      empty u.numbers (omega (
        arith,
        all,
        ones_are v.numbers,
        ones_are u.numbers,
        ones_are (below seats),
        length-below seats,
        k.whole (λ x. 1),
        total_two (λ (z : View B E O). total (λ x. 1) z.numbers) s.views i j v u at e (λ q. other (sym q)),
      ))
    where
      empty : (ns : List ℕ) → length ns ≡ 0 → ns ≡ []
      empty [] z = refl
      empty (n ∷ ns) z = absurd (omega arith)

  -- then what it knows is the whole history
  pub owns_all : (s : State (Option B) (View B E O)) (k : Kept book seats s) (i : ℕ) (v : View B E O) → get_elem? s.views i ≡ some v → length v.numbers ≡ seats
      → k.log ≡ v.known
  owns_all s k i v at all =
      let h = k.heard in
      dite (ℕ_discrete h.0 i) (λ e. sym h.4 ∙ ap (λ (u : View B E O). u.known) (same_place s.views i h.0 v h.1 at h.2 e))
      (λ ne. absurd (h.3 (others_own_none s k i v at all h.0 h.1 ne h.2)))

  -- 2: it looks whose turn it is, and takes the value where it is its own
  pub looks : (slots i : ℕ) (v : View B E O) (hand : List (ℕ × Option B)) (t : ℕ) → v.ticket ≡ Some t → v.turn ≡ false → v.parts ≡ []
      → Allows (Kept book seats) slots i (v, hand) 2 (λ n. n) (Looked book (step slots 2 0 0 maybe.none) (v, hand))
  looks slots i v hand t mine no_turn whole s k deep at small =
      let f = k.fits i v at in
      let live = owns_some k.past k.log k.ticket k.serving t v f mine in
      let l = f.live live in
      let found : slice_index s.words 2 ≡ k.serving % 2 ^ 64 = ap (λ ws. slice_index ws 2) k.words in
      let same_words : set s.words 2 (slice_index s.words 2) ≡ length k.log.entries ∷ k.ticket % 2 ^ 64 ∷ k.serving % 2 ^ 64 ∷ []
      = ap (λ ws. set ws 2 (slice_index ws 2)) k.words in
      dite (ℕ_discrete (slice_index s.words 2) (t % 2 ^ 64))
      (λ e.
      let d = f.drawn t mine in
      let now : k.serving ≡ t = one_turn k.serving t (2 ^ 64) d.0 (omega (arith, d.1, queue_short s k, k.few)) (sym found ∙ e) in
      let mine_now : v.ticket ≡ Some k.serving = mine ∙ ap (λ (x : ℕ). Some x) (sym now) in
      let w : View B E O = record v { known = k.log; turn = true } in
      let in_turn : SomeInTurn s.views → ⊥ = λ h.
      dite (ℕ_discrete h.0 i) (λ q. true≢false (sym h.3 ∙ ap (λ (u : View B E O). u.turn) (same_place s.views i h.0 v h.1 at h.2 q) ∙ no_turn))
      (λ q. alone_in_turn s k i h.0 v h.1 at mine_now q h.2 h.3) in
      let free : AtHome book k.log s.homes s.views = ⊎_elim (λ h. absurd (in_turn h)) (λ h. h) k.slot in
      let b = free.1.0 in (
        w,
        takes 0 (Some b),
        ap (λ hs. get_elem? hs 0) free.1.1,
        kept_by s k i v w at k.past k.log k.ticket k.serving _ _ same_words k.newest k.order refl
            (record {
              live = λ z. lives_now s k v.seats v.numbers l.seats_are;
              gone = λ z. absurd (live z);
              drawn = f.drawn;
              parts = no_parts seats k.log v.parts whole;
              turn = λ z. (mine_now, refl);
            })
            (λ j u other q g. g)
            (λ j u x other q h y. other (k.apart j i u v x q at h y))
            (omega arith)
            (i, w, set_at s.views i v w at, live, refl)
            (inl (i, w, set_at s.views i v w at, refl)),
        (λ x is. (
          (λ same. (
            k.log,
            b,
            record {
              tells = free.1.2;
              last = free.1.3;
              grows = subst (λ z. Grows z v.numbers v.known k.log) (sym l.seats_are) l.known;
              alone = λ all. owns_all s k i v at (all ∙ l.seats_are);
            },
            refl,
          )),
          (λ ne. absurd (ne (e ∙ ap (λ z. z % 2 ^ 64) (some_is t x v.ticket mine is)))),
        )),
      ))
      (λ ne. (
        v,
        keeps,
        tt,
        kept_by s k i v v at k.past k.log k.ticket k.serving _ _ same_words k.newest k.order refl f
            (λ j u other q g. g)
            (λ j u x other q h y. other (k.apart j i u v x q at h y))
            (omega arith)
            (heard_on k.log s.views i v v at refl refl k.heard)
            (slot_on book k.log s.homes s.views i v v at no_turn no_turn k.slot),
        (λ x is. ((λ same. absurd (ne (same ∙ ap (λ z. z % 2 ^ 64) (some_is x t v.ticket is mine)))), (λ q. refl))),
      ))

  -- 4: it counts, with the value in hand
  pub counts : (slots i new : ℕ) (v : View B E O) (b : B) → v.turn ≡ true → v.parts ≡ [] → GoesOn v.known (book b) → new ≡ length (book b).entries
      → Allows (Kept book seats) slots i (v, (0, Some b) ∷ []) 0 (λ n. new) (λ n. Counted book (step slots 0 new 0 maybe.none) (v, (0, Some b) ∷ []) new)
  counts slots i new v b turn whole on is s k deep at small =
      let f = k.fits i v at in
      let mine = (f.turn turn).0 in
      let all = (f.turn turn).1 in
      let live = owns_some k.past k.log k.ticket k.serving k.serving v f mine in
      let x = first_of v.numbers in
      let log : Known B E O = taken_in v.known x b (book b) in
      let w : View B E O = record v { known = log } in
      let owned = times_first v.numbers live in
      let small_x : x < seats = (are_apart s k i v at x).1 owned in
      let m : ℕ = k.log.stamp in
      let same_stamp : m ≡ v.known.stamp = ap (λ (z : Known B E O). z.stamp) (sym all) in
      -- who owns no x, and whose knowledge grew into the old log, sees it grow into the new one
      let grown : (ns : List ℕ) (u : Known B E O) → times x ns ≡ 0 → Grows seats ns u k.log → Grows seats ns u log
      = λ ns u none g. taken_grows seats ns u v.known x b (book b) (subst (λ z. Grows seats ns u z) (sym all) g) on small_x none in
      let newest : with_new k.past m log log.stamp ≡ log = as_new k.past m log log.stamp (omega (arith, same_stamp)) in
      let from_past : (a : ℕ) → a ≤ m → Grows seats [] (k.past a) log = λ a le.
      grown [] (k.past a) refl (subst (λ z. Grows seats [] (k.past a) z) k.newest (k.order a m le (omega arith))) in (
        w,
        keeps,
        tt,
        kept_by s k i v w at (with_new k.past m log) log k.ticket k.serving _ _
            (ap (λ ws. set ws 0 new) k.words ∙ ap (λ z. z ∷ k.ticket % 2 ^ 64 ∷ k.serving % 2 ^ 64 ∷ []) is)
            newest
            (λ a c le top. order_on seats k.past m log k.order from_past a c le)
            refl
            (record {
              live = λ z. record {
                seats_are = (f.live live).seats_are;
                known = grows_self seats [] v.numbers k.log log (grown [] k.log refl (log_grows s k));
                stage = sym newest;
              };
              gone = λ z. absurd (live z);
              drawn = f.drawn;
              parts = no_parts seats log v.parts whole;
              turn = λ z. (mine, refl);
            })
            (λ j u other q g. record {
              live = λ z. let l = g.live z in record {
                seats_are = l.seats_are;
                known = grown u.numbers u.known (none_else s k i j v u x at q other owned) l.known;
                stage = l.stage ∙ sym (as_before k.past m log u.known.stamp l.known.stamp);
              };
              gone = g.gone;
              drawn = g.drawn;
              parts = g.parts;
              turn = λ z. absurd (alone_in_turn s k i j v u at mine other q z);
            })
            (λ j u y other q h z. other (k.apart j i u v y q at h z))
            (omega arith)
            (i, w, set_at s.views i v w at, live, refl)
            (inl (i, w, set_at s.views i v w at, turn)),
        refl,
      )

  -- 6: it gives the value back, and passes on
  pub passes : (i : ℕ) (v : View B E O) (b : B) → v.turn ≡ true → Tells (book b) v.known → v.known.last ≡ Some b
      → Allows (Kept book seats) 1 i (v, (0, Some b) ∷ []) 2 (λ n. (n + 1) % 2 ^ 64) (Passed (step 1 2 1 0 maybe.none) (v, (0, Some b) ∷ []))
  passes i v b turn tells last s k deep at small =
      let f = k.fits i v at in
      let mine = (f.turn turn).0 in
      let all = (f.turn turn).1 in
      let live = owns_some k.past k.log k.ticket k.serving k.serving v f mine in
      let w : View B E O = record v { ticket = None; turn = false } in (
        w,
        gives,
        tt,
        kept_by s k i v w at k.past k.log k.ticket (k.serving + 1) _ _
            (ap (λ ws. set ws 2 ((slice_index ws 2 + 1) % 2 ^ 64)) k.words
            ∙ ap (λ z. length k.log.entries ∷ k.ticket % 2 ^ 64 ∷ z ∷ []) (next_turn k.serving (2 ^ 64) (omega arith)))
            k.newest k.order refl
            (record {
              live = f.live;
              gone = λ z. absurd (live z);
              drawn = λ t z. not_none t w.ticket z refl;
              parts = f.parts;
              turn = λ z. absurd (true≢false (sym z));
            })
            (λ j u other q g. record {
              live = g.live;
              gone = g.gone;
              drawn = λ t z. let d = g.drawn t z in (
                dite (ℕ_discrete t k.serving) (λ e. absurd (other (k.apart j i u v k.serving q at (z ∙ ap (λ (y : ℕ). Some y) e) mine)))
                    (λ ne. omega (arith, d.0)),
                d.1,
              );
              parts = g.parts;
              turn = λ z. absurd (alone_in_turn s k i j v u at mine other q z);
            })
            (λ j u t other q h z. not_none t w.ticket z refl)
            (let z : tickets v.ticket ≡ 1 = ap tickets mine in omega arith)
            (heard_on k.log s.views i v w at refl refl k.heard)
            (inr (
              set_all (λ u. u.turn ≡ false) s.views i w refl (λ j u other q. not_turn u (λ z. alone_in_turn s k i j v u at mine other q z)),
              (
                b,
                one_home s.homes (some (Some b)) deep,
                subst (λ (z : Known B E O). Tells (book b) z) all tells,
                subst (λ (z : Known B E O). z.last ≡ Some b) all last,
              ),
            )),
        refl,
      )
    where
      not_turn : (u : View B E O) → (u.turn ≡ true → ⊥) → u.turn ≡ false
      not_turn u never = go u.turn never
        where
          go : (t : Bool) → (t ≡ true → ⊥) → t ≡ false
          go true never' = absurd (never' refl)
          go false never' = refl

  -- it looks back at what it was joined of
  pub recalls : (slots i : ℕ) (v : View B E O) (hand : List (ℕ × Option B)) → v.ticket ≡ None → v.turn ≡ false → v.numbers ≢ []
      → Allows (Kept book seats) slots i (v, hand) 0 (λ n. n) (Recalled (step slots 0 0 0 maybe.none) (v, hand))
  recalls slots i v hand none no_turn live s k deep at small =
      let f = k.fits i v at in
      let w : View B E O = record v { parts = [] } in
      let own : seats ≡ v.seats = sym (f.live live).seats_are in (
        w,
        keeps,
        tt,
        kept_by s k i v w at k.past k.log k.ticket k.serving _ _ (ap (λ ws. set ws 0 (slice_index ws 0)) k.words) k.newest k.order refl
            (record { live = f.live; gone = f.gone; drawn = f.drawn; parts = tt; turn = f.turn })
            (λ j u other q g. g)
            (λ j u x other q h y. not_none x v.ticket y none)
            (omega arith)
            (heard_on k.log s.views i v w at refl refl k.heard)
            (slot_on book k.log s.homes s.views i v w at no_turn no_turn k.slot),
        (subst (λ z. AreParts z v.known v.parts) own f.parts, subst (λ z. AreApart z v.numbers) own (are_apart s k i v at), refl),
      )

  -- the same where it is only known that the hand has the value
  pub counts_as : (slots i new : ℕ) (me : Me (Option B) (View B E O)) (v : View B E O) (b : B) → me ≡ (v, (0, Some b) ∷ []) → v.turn ≡ true → v.parts ≡ []
      → GoesOn v.known (book b) → new ≡ length (book b).entries
      → Allows (Kept book seats) slots i me 0 (λ n. new) (λ n. Counted book (step slots 0 new 0 maybe.none) me new)
  counts_as slots i new me v b is turn whole on front =
      subst (λ m. Allows (Kept book seats) slots i m 0 (λ n. new) (λ n. Counted book (step slots 0 new 0 maybe.none) m new)) (sym is)
      (counts slots i new v b turn whole on front)

  pub passes_as : (slots i : ℕ) (me : Me (Option B) (View B E O)) (v : View B E O) (b : B) → slots ≡ 1 → me ≡ (v, (0, Some b) ∷ []) → v.turn ≡ true
      → Tells (book b) v.known → v.known.last ≡ Some b
      → Allows (Kept book seats) slots i me 2 (λ n. (n + 1) % 2 ^ 64) (Passed (step slots 2 1 0 maybe.none) me)
  passes_as slots i me v b one is turn tells last =
      subst (λ m. Allows (Kept book seats) slots i m 2 (λ n. (n + 1) % 2 ^ 64) (Passed (step slots 2 1 0 maybe.none) m)) (sym is)
      (subst (λ z. Allows (Kept book seats) z i (v, (0, Some b) ∷ []) 2 (λ n. (n + 1) % 2 ^ 64) (Passed (step z 2 1 0 maybe.none) (v, (0, Some b) ∷ [])))
      (sym one) (passes i v b turn tells last))
