-- Histories that grow, and the steps of a half, one after the other.
use Rattle.std.proofs.Common.{◌≡◌, ℕ, ◌≤◌, Bool, true, List, [], ◌++◌, refl, sym, ◌∙◌, ap, arith, append_assoc}
use Rattle.std.proofs.lemmas.List.{append-nil}
use Rattle.sw_history.specs.Halves.{GrowsOf, Half, HalfMoves, HistoryOf}
use Rattle.sw_history.specs.Laws.{GrowthGoesOn}

module _ {K V E D : Type 0} where
  pub grows-refl : (h : HistoryOf K V E D) → GrowsOf h h
  grows-refl h = record {
    told = refl;
    opening = λ n. refl;
    entries = ([], sym (append-nil h.journal.entries));
    max_entries = refl;
    max_bytes = refl;
    faults = omega arith;
  }

  pub grows-trans : (h i g : HistoryOf K V E D) → GrowsOf h i → GrowsOf i g → GrowsOf h g
  grows-trans h i g p q = record {
    told = q.told ∙ p.told;
    opening = λ n. q.opening n ∙ p.opening n;
    entries = (
      p.entries.0 ++ q.entries.0,
      q.entries.1 ∙ (ap (λ (e : List E). e ++ q.entries.0) p.entries.1 ∙ append_assoc h.journal.entries p.entries.0
          q.entries.0),
    );
    max_entries = q.max_entries ∙ p.max_entries;
    max_bytes = q.max_bytes ∙ p.max_bytes;
    faults = omega (arith, p.faults, q.faults);
  }

  pub half-refl : (lock : ℕ → K → ℕ) (alone : Bool) (at : ℕ → K → Type 0) (s : Half K V E D) → HalfMoves lock alone at s s
  half-refl lock alone at s = record { grows = λ l. grows-refl (s.seen l); elsewhere = λ l away. refl; others = λ x d key away. refl }

  -- the locks of both are the same, and where the later is alone the earlier was
  pub half-trans : (lock lock' : ℕ → K → ℕ) (alone alone' : Bool) (at : ℕ → K → Type 0) (a b c : Half K V E D)
      → ((d : ℕ) (key : K) → lock' d key ≡ lock d key) →
      (alone' ≡ true → alone ≡ true)
      → HalfMoves lock alone at a b → HalfMoves lock' alone' at b c → HalfMoves lock alone' at a c
  half-trans lock lock' alone alone' at a b c locks earlier p q = record {
    grows = λ l. grows-trans (a.seen l) (b.seen l) (c.seen l) (p.grows l) (q.grows l);
    elsewhere = λ l away. q.elsewhere l (λ d key is same. away d key is (same ∙ locks d key)) ∙ p.elsewhere l away;
    others = λ x d key away. q.others x d key away ∙ p.others (earlier x) d key away;
  }

  pub half-wider : (lock : ℕ → K → ℕ) (alone : Bool) (at more : ℕ → K → Type 0) (a b : Half K V E D) → ((d : ℕ) (key : K) → at d key → more d key)
      → HalfMoves lock alone at a b → HalfMoves lock alone more a b
  half-wider lock alone at more a b wider p = record {
    grows = p.grows;
    elsewhere = λ l away. p.elsewhere l (λ d key is. away d key (wider d key is));
    others = λ x d key away. p.others x d key (λ is. away (wider d key is));
  }

pub growth-goes-on : (K V E D : Type 0) → GrowthGoesOn K V E D
growth-goes-on K V E D h i g = grows-trans h i g
