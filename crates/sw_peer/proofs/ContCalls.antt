-- Calls at the containers, one after another: what every one of their steps has. A step at the containers leaves the objects as they are, and the other
-- way round.
use Rattle.std.proofs.Common.{◌≡◌, ℕ, ◌≤◌, true, false, [], refl, sym, ◌∙◌, ap, subst, arith, inr, Option, None, Result, Err, true≢false}
use Rattle.sw_container_steps.specs.Rules.{ContHistory, cont_rules}
use Rattle.sw_container_steps.specs.declared.cont_answer.ContAnswer.{ContAnswer}
use Rattle.sw_container_steps.specs.declared.cont_answer.ContAnswer.TheVariants as answers
use Rattle.sw_container_steps.specs.declared.cont_change.ContChange.{ContChange}
use Rattle.sw_hashpath.specs.declared.place.Place.{Place}
use Rattle.sw_history.proofs.Growing.{grows-refl, half-refl, half-trans}
use Rattle.sw_keeper.specs.declared.tables.Tables.{Tables}
use Rattle.sw_peer.proofs.Calls.{IsFrame, IsStep, counted, same-refl, trails-counted}
use Rattle.sw_peer.specs.Carriage.{Carriage}
use Rattle.sw_peer.specs.ContSights.{ContMoves, IsContMade, IsIn, IsLooked, is_wanting_cont, is_wanting_look}
use Rattle.sw_peer.specs.Sights.{Sight, cont_lock}
use Rattle.sw_peer.specs.declared.cont_event.ContEvent.{ContEvent}
use Rattle.sw_peer.specs.declared.cont_event.ContEvent.TheVariants.{Changed}
use Rattle.sw_peer.specs.declared.line.Event.TheVariants.{AtContainer}
use Rattle.sw_peer.specs.declared.link.Link.{Link}
use Rattle.sw_step.specs.Rules.{CanStand}
use Rattle.sw_step.specs.Steps.{added_by}

-- ---- frames

pub cont-moves-refl : (at : ℕ → Place → Type 0) (s : Sight) → ContMoves at s s
cont-moves-refl at s = record {
  nodes = refl;
  objects = refl;
  containers = half-refl (cont_lock s.nodes) s.alone at s.containers;
  alone = λ x. x;
  faults = omega arith;
}

pub cont-moves-trans : (at : ℕ → Place → Type 0) (a b c : Sight) → ContMoves at a b → ContMoves at b c → ContMoves at a c
cont-moves-trans at a b c p q = record {
  nodes = q.nodes ∙ p.nodes;
  objects = q.objects ∙ p.objects;
  containers = half-trans (cont_lock a.nodes) (cont_lock b.nodes) b.alone c.alone at a.containers b.containers c.containers
      (λ d place. ap (λ n. cont_lock n d place) p.nodes) q.alone p.containers q.containers;
  alone = λ x. p.alone (q.alone x);
  faults = omega (arith, p.faults, q.faults);
}

pub cont-moves-counted : (at : ℕ → Place → Type 0) (s t : Sight) (f f' k k' : ℕ) (c c' : Carriage) → f ≤ f' → ContMoves at s t
    → ContMoves at (counted s f k c) (counted t f' k' c')
cont-moves-counted at s t f f' k k' c c' later p = record { nodes = p.nodes; objects = p.objects; containers = p.containers; alone = p.alone; faults = later }

pub cont-frame-of : (at : ℕ → Place → Type 0) → IsFrame (ContMoves at)
cont-frame-of at = record {
  same = λ s t p.
      subst (λ (x : Sight). ContMoves at s x) (sym p.same)
      (cont-moves-counted at s s s.faults t.faults s.asks t.asks s.carriage t.carriage p.faults (cont-moves-refl at s));
  join = cont-moves-trans at;
  recounts = cont-moves-counted at;
  faults = λ s t p. p.faults;
}

-- ---- steps

pub cont-made-step : (link : Link) (device : ℕ) (place : Place) (change : ContChange) →
    IsStep (ContMoves (IsIn device place)) (IsContMade link device place change)
cont-made-step link device place change = record {
  frames = cont-frame-of (IsIn device place);
  moves = λ s t x step. step.moves;
  recounts = λ s t x f f' k k' c c' later step. record {
    moves = cont-moves-counted (IsIn device place) s t f f' k k' c c' later step.moves;
    step = step.step;
    trail = trails-counted s t
        (record { device = device; link = link; event = AtContainer (Changed place change x) (added_by cont_rules step.step.step); added = [] })
        (is_wanting_cont x) f f' k k' c c' later step.trail;
  };
}

pub look-step : {A : Type 0} (link : Link) (device : ℕ) (place : Place) (reading : Option Tables → ℕ → Result A ContAnswer)
    (event : Result A ContAnswer → ContEvent)
    → IsStep (ContMoves (IsIn device place)) (IsLooked link device place reading event)
look-step {A} link device place reading event = record {
  frames = cont-frame-of (IsIn device place);
  moves = λ s t x step. step.moves;
  recounts = λ s t x f f' k k' c c' later step. record {
    moves = cont-moves-counted (IsIn device place) s t f f' k k' c c' later step.moves;
    holds_all = step.holds_all;
    step = step.step;
    trail = trails-counted s t (record { device = device; link = link; event = AtContainer (event x) step.step.step.follows.entries.0; added = [] })
        (is_wanting_look x) f f' k k' c c' later step.trail;
  };
}

-- ---- a step that wanted memory at once is one that came and changed nothing, where what the lock holds is what it may stand for

-- where the door is alone, what is held under the lock of this place is what it may stand for
pub record MayHold (device : ℕ) (place : Place) (s : Sight) : Type 0 where
  pub held : Place → Option Tables
  pub is_held : s.alone ≡ true → (p : Place) → cont_lock s.nodes device p ≡ cont_lock s.nodes device place → held p ≡ s.containers.holds device p
  pub can : s.alone ≡ true → (s.containers.seen (cont_lock s.nodes device place)).told ≡ true → (p : Place)
      → CanStand cont_rules (s.containers.seen (cont_lock s.nodes device place)) p (held p)

-- of a door that shares its nodes nothing is to be known
pub none-alone : (device : ℕ) (place : Place) (s : Sight) → s.alone ≡ false → MayHold device place s
none-alone device place s shared = record { held = λ p. None; is_held = λ alone. absurd (clash alone); can = λ alone. absurd (clash alone) }
  where
    clash : s.alone ≡ true → ⊥
    clash alone = true≢false (sym alone ∙ shared)

pub cont-wanting : (link : Link) (device : ℕ) (place : Place) (change : ContChange) (s : Sight) → MayHold device place s
    → IsContMade link device place change s answers.NoMemory s
cont-wanting link device place change s may = record {
  moves = cont-moves-refl (IsIn device place) s;
  step = record {
    held = may.held;
    is_held = may.is_held;
    step = record {
      own = refl;
      before = h;
      looked = false;
      read = may.held place;
      made = [];
      follows = grows-refl h;
      settles = λ alone. (0, refl);
      settled = λ is. absurd (never is);
      answered = record { not_made = refl; same = refl };
      orderly = λ is. cc;
      after = grows-refl h;
      failed = λ is. cc;
      known = λ told is. absurd (never is);
      kept = λ alone told other is. may.can alone told other;
      held = λ alone told is. absurd (never is);
      leaves = λ alone told. sym (may.is_held alone place refl);
    };
  };
  trail = inr (refl, same-refl s);
}
  where
    h : ContHistory
    h = s.containers.seen (cont_lock s.nodes device place)

    never : false ≡ true → ⊥
    never is = cc

-- so is a read
pub look-wanting : {A : Type 0} (link : Link) (device : ℕ) (place : Place) (reading : Option Tables → ℕ → Result A ContAnswer)
    (event : Result A ContAnswer → ContEvent) (s : Sight) → MayHold device place s
    → IsLooked link device place reading event s (Err answers.NoMemory) s
look-wanting {A} link device place reading event s may = record {
  moves = cont-moves-refl (IsIn device place) s;
  holds_all = λ alone d p. refl;
  step = record {
    held = may.held;
    is_held = may.is_held;
    step = record {
      read = may.held;
      follows = grows-refl h;
      settles = λ alone. (0, refl);
      settled = λ is. cc;
      shown = λ is. cc;
      orderly = λ is. cc;
      failed = λ is. cc;
      known = λ told is. cc;
      kept = λ alone told other is. may.can alone told other;
      held = λ alone told is. cc;
    };
  };
  trail = inr (refl, same-refl s);
}
  where
    h : ContHistory
    h = s.containers.seen (cont_lock s.nodes device place)
