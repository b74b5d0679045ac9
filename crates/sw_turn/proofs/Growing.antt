-- What is known of a history, as it grows.
use Rattle.std.proofs.Common.{◌≡◌, ◌⊎◌, ℕ, zero, suc, ◌+◌, ◌-◌, ◌<◌, ◌≤◌, eqb, leb, cond, Bool, true, false, List, [], ◌∷◌, ◌++◌, length, replicate}
use Rattle.std.proofs.Common.{sym, refl, ap, ◌∙◌, subst, arith, ⊎_elim, length-append, append_assoc, append-nil}
use Rattle.std.proofs.lemmas.List.{length-replicate}
use mathlib.Core.Logic.{dite}
use native.Mathlib.Decide.{ℕ_discrete, dec_le}
use borrow.Author.Tests.{leb-true, leb-false}
use Rattle.sw_turn.specs.declared.booked.Book.{Book}
use Rattle.sw_turn.specs.declared.booked.Known.{Known}
use Rattle.sw_turn.specs.declared.booked.Part.{Part}
use Rattle.sw_turn.specs.Known.{hit, times, Grows, GoesOn, taken_in, later, AreParts}
use Rattle.sw_turn.specs.Rule.{Lives}
use Rattle.sw_turn.proofs.Totals.{total_append, times_here, times_replicate}

-- who stands in two lists put together stands in one of them
pub split_times : {P : Type 0} (y : ℕ) (xs ys : List ℕ) → 0 < times y (xs ++ ys) → (0 < times y xs → P) → (0 < times y ys → P) → P
split_times {P} y xs ys pos left right =
    dite (ℕ_discrete (times y xs) 0) (λ e. right (omega (arith, total_append (λ z. hit (eqb z y)) xs ys))) (λ ne. left (omega arith))

module _ {B E O : Type 0} where
  pub no_parts : (seats : ℕ) (k : Known B E O) (ps : List (Part B E O)) → ps ≡ [] → AreParts seats k ps
  no_parts seats k [] e = tt
  no_parts seats k (p ∷ ps) e = let z : suc (length ps) ≡ 0 = ap length e in absurd (omega arith)

  -- what was known once is known still
  pub grows_self : (seats : ℕ) (ms ns : List ℕ) (k l : Known B E O) → Grows seats ms k l → Grows seats ns l l
  grows_self seats ms ns k l g = record {
    entries = ([], sym (append-nil l.entries));
    makers = ([], sym (append-nil l.makers), λ x pos. absurd (omega arith));
    even = g.even;
    small = g.small;
    opening = refl;
    faults = omega arith;
    stamp = omega arith;
  }

  pub fewer_numbers : (seats : ℕ) (ns ms : List ℕ) (k l : Known B E O) → Grows seats ns k l → ((x : ℕ) → times x ms ≤ times x ns) → Grows seats ms k l
  fewer_numbers seats ns ms k l g le = record {
    entries = g.entries;
    makers = (g.makers.0, g.makers.1, λ x pos. omega (arith, g.makers.2 x pos, le x));
    even = g.even;
    small = g.small;
    opening = g.opening;
    faults = g.faults;
    stamp = g.stamp;
  }

  -- x made what is new, and owns none of these numbers
  pub taken_grows : (seats : ℕ) (ns : List ℕ) (u k : Known B E O) (x : ℕ) (value : B) (b : Book E O) → Grows seats ns u k → GoesOn k b → x < seats
      → times x ns ≡ 0 → Grows seats ns u (taken_in k x value b)
  taken_grows seats ns u k x value b g on lt none =
      let n : ℕ = length b.entries - length k.entries in record {
        entries = (g.entries.0 ++ on.entries.0, on.entries.1 ∙ ap (λ z. z ++ on.entries.0) g.entries.1 ∙ append_assoc u.entries g.entries.0 on.entries.0);
        makers = (
          g.makers.0 ++ replicate n x,
          ap (λ z. z ++ replicate n x) g.makers.1 ∙ append_assoc u.makers g.makers.0 (replicate n x),
          (λ y p.
              split_times y g.makers.0 (replicate n x) p (λ h. g.makers.2 y h) (λ h. subst (λ z. times z ns ≡ 0) (sym (times_replicate n x y h)) none)),
        );
        even = omega (
          arith,
          length-append k.makers (replicate n x),
          length-replicate n x,
          g.even,
          ap length on.entries.1,
          length-append k.entries on.entries.0,
        );
        small = λ y p. split_times y k.makers (replicate n x) p (λ q. g.small y q) (λ q. subst (λ z. z < seats) (sym (times_replicate n x y q)) lt);
        opening = sym on.opening ∙ g.opening;
        faults = omega (arith, g.faults, on.faults);
        stamp = omega (arith, g.stamp);
      }

  -- how often x is a maker, before and after
  pub tally : (seats : ℕ) (ns : List ℕ) (k l : Known B E O) (g : Grows seats ns k l) (x : ℕ) → times x l.makers ≡ times x k.makers + times x g.makers.0
  tally seats ns k l g x = ap (times x) g.makers.1 ∙ total_append (λ y. hit (eqb y x)) k.makers g.makers.0

  -- who owned these numbers at k made nothing up to l either, if nothing up to the log
  grows_between : (seats : ℕ) (ns ms : List ℕ) (k l log : Known B E O) → Grows seats [] k l → Grows seats ns k log → Grows seats ms l log → Grows seats ns k l
  grows_between seats ns ms k l log mid f g = record {
    entries = mid.entries;
    makers = (
      mid.makers.0,
      mid.makers.1,
      λ x pos. f.makers.2 x (omega (arith, pos, tally seats [] k l mid x, tally seats ns k log f x, tally seats ms l log g x)),
    );
    even = mid.even;
    small = mid.small;
    opening = mid.opening;
    faults = mid.faults;
    stamp = mid.stamp;
  }

  -- and who owns the numbers of both made nothing from l on
  grows_both : (seats : ℕ) (ns ms all : List ℕ) (k l log : Known B E O) → ((x : ℕ) → times x all ≡ times x ns + times x ms)
      → Grows seats [] k l → Grows seats ns k log → Grows seats ms l log → Grows seats all l log
  grows_both seats ns ms all k l log sums mid f g = record {
    entries = g.entries;
    makers = (
      g.makers.0,
      g.makers.1,
      λ x pos.
          let none : times x ns ≡ 0 = f.makers.2 x (omega (arith, pos, tally seats [] k l mid x, tally seats ns k log f x, tally seats ms l log g x)) in
          omega (arith, g.makers.2 x pos, sums x, none),
    );
    even = g.even;
    small = g.small;
    opening = g.opening;
    faults = g.faults;
    stamp = g.stamp;
  }

  -- what the later of two passes knew is to both, and to the log
  pub record Joined (past : ℕ → Known B E O) (log : Known B E O) (seats own : ℕ) (ns ms : List ℕ) (k l m : Known B E O) : Type 0 where
    pub first : Grows seats ns k m
    pub second : Grows seats ms l m
    pub both : Lives past log seats own (ns ++ ms) m
    pub heard : (k ≡ log) ⊎ (l ≡ log) → m ≡ log

  pub joined : (seats : ℕ) (past : ℕ → Known B E O) (log : Known B E O) → past log.stamp ≡ log
      → ((a b : ℕ) → a ≤ b → b ≤ log.stamp → Grows seats [] (past a) (past b))
      → (own other : ℕ) (ns ms : List ℕ) (k l : Known B E O) → Lives past log seats own ns k → Lives past log seats other ms l
      → Joined past log seats own ns ms k l (later k l)
  joined seats past log newest order own other ns ms k l f g = go (leb k.stamp l.stamp) refl
    where
      sums : (x : ℕ) → times x (ns ++ ms) ≡ times x ns + times x ms
      sums x = total_append (λ y. hit (eqb y x)) ns ms

      middle : (a b : Known B E O) → a ≡ past a.stamp → b ≡ past b.stamp → a.stamp ≤ b.stamp → b.stamp ≤ log.stamp → Grows seats [] a b
      middle a b is is' le le' =
          subst (λ z. Grows seats [] z b) (sym is) (subst (λ z. Grows seats [] (past a.stamp) z) (sym is') (order a.stamp b.stamp le le'))

      -- who knows as much as was known at the last return knows all
      knows_all : (a b : Known B E O) → b ≡ past b.stamp → a ≡ log → a.stamp ≤ b.stamp → b.stamp ≤ log.stamp → b ≡ log
      knows_all a b is e le le' =
          let z : a.stamp ≡ log.stamp = ap (λ (y : Known B E O). y.stamp) e in
          let same : b.stamp ≡ log.stamp = omega arith in
          is ∙ ap past same ∙ newest

      go : (t : Bool) → leb k.stamp l.stamp ≡ t → Joined past log seats own ns ms k l (cond t l k)
      go true e =
          let le = leb-true k.stamp l.stamp e in
          let mid = middle k l f.stage g.stage le g.known.stamp in record {
            first = grows_between seats ns ms k l log mid f.known g.known;
            second = grows_self seats [] ms k l mid;
            both = record { seats_are = f.seats_are; known = grows_both seats ns ms (ns ++ ms) k l log sums mid f.known g.known; stage = g.stage };
            heard = ⊎_elim (λ h. knows_all k l g.stage h le g.known.stamp) (λ h. h);
          }
      go false e =
          let lt = leb-false k.stamp l.stamp e in
          let le : l.stamp ≤ k.stamp = omega (arith, lt) in
          let mid = middle l k g.stage f.stage le f.known.stamp in record {
            first = grows_self seats [] ns l k mid;
            second = grows_between seats ms ns l k log mid g.known f.known;
            both = record {
              seats_are = f.seats_are;
              known = grows_both seats ms ns (ns ++ ms) l k log (λ x. omega (arith, sums x)) mid g.known f.known;
              stage = f.stage;
            };
            heard = ⊎_elim (λ h. h) (λ h. knows_all l k f.stage h le f.known.stamp);
          }

  -- the past up to m, and then this
  abbrev pub with_new : (ℕ → Known B E O) → ℕ → Known B E O → ℕ → Known B E O
  with_new past m new a = cond (leb a m) (past a) new

  pub as_before : (past : ℕ → Known B E O) (m : ℕ) (new : Known B E O) (a : ℕ) → a ≤ m → with_new past m new a ≡ past a
  as_before past m new a le = go (leb a m) refl
    where
      go : (t : Bool) → leb a m ≡ t → cond t (past a) new ≡ past a
      go true e = refl
      go false e = absurd (omega (arith, leb-false a m e))

  pub as_new : (past : ℕ → Known B E O) (m : ℕ) (new : Known B E O) (a : ℕ) → m < a → with_new past m new a ≡ new
  as_new past m new a lt = go (leb a m) refl
    where
      go : (t : Bool) → leb a m ≡ t → cond t (past a) new ≡ new
      go true e = absurd (omega (arith, leb-true a m e))
      go false e = refl

  -- the past stays in order where the new grows out of its last
  pub order_on : (seats : ℕ) (past : ℕ → Known B E O) (m : ℕ) (new : Known B E O)
      → ((a b : ℕ) → a ≤ b → b ≤ m → Grows seats [] (past a) (past b)) → ((a : ℕ) → a ≤ m → Grows seats [] (past a) new)
      → (a b : ℕ) → a ≤ b → Grows seats [] (with_new past m new a) (with_new past m new b)
  order_on seats past m new order step a b le =
      dite (dec_le b m)
      (λ h. subst (λ z. Grows seats [] z (with_new past m new b)) (sym (as_before past m new a (omega arith)))
      (subst (λ z. Grows seats [] (past a) z) (sym (as_before past m new b h)) (order a b le h)))
      (λ h.
      let now : with_new past m new b ≡ new = as_new past m new b (omega arith) in
      subst (λ z. Grows seats [] (with_new past m new a) z) (sym now)
      (dite (dec_le a m) (λ q. subst (λ z. Grows seats [] z new) (sym (as_before past m new a q)) (step a q))
      (λ q. subst (λ z. Grows seats [] z new) (sym (as_new past m new a (omega arith)))
      (grows_self seats [] [] (past m) new (step m (omega arith))))))

  -- of who owns a number, the entries with this maker stay the same while others make theirs
  pub made_stays : (seats : ℕ) (ns : List ℕ) (k l : Known B E O) (x : ℕ) → Grows seats ns k l → 0 < times x ns → times x l.makers ≡ times x k.makers
  made_stays seats ns k l x g owned =
      omega (arith, tally seats ns k l g x, dite (ℕ_discrete (times x g.makers.0) 0) (λ e. e) (λ ne. absurd (omega (arith, owned, g.makers.2 x (omega arith)))))

  -- and grow by what it makes
  pub made_more : (k : Known B E O) (x : ℕ) (value : B) (b : Book E O) → length k.entries ≤ length b.entries
      → times x (taken_in k x value b).makers ≡ times x k.makers + (length b.entries - length k.entries)
  made_more k x value b le =
      total_append (λ y. hit (eqb y x)) k.makers (replicate (length b.entries - length k.entries) x)
      ∙ ap (λ z. times x k.makers + z) (all_mine (length b.entries - length k.entries))
    where
      all_mine : (n : ℕ) → times x (replicate n x) ≡ n
      all_mine zero = refl
      all_mine (suc n) = omega (arith, times_here x, all_mine n)
