-- How moments pass, one call after the other.
use Rattle.std.proofs.Common.{inl, inr, ◌≡◌, ℕ, List, [], ◌∷◌, ◌++◌, refl, sym, ◌∙◌, ap, subst, append_assoc, arith, Result, Ok, Err, OnOk, Option}
use Rattle.std.proofs.lemmas.List.Elements.{All-append, All-nil}
use Rattle.std.specs.List.{All, slice_index_or}
use Rattle.sw_disk.proofs.States.{rests-on, rests-same, rests-may_be}
use Rattle.sw_disk.proofs.Turning.{rests-turns, turns-may_be, turns-rested, turns-rests}
use Rattle.sw_disk.specs.Calls.{MayBe}
use Rattle.sw_disk.specs.Disk.{DiskState}
use Rattle.sw_disk.specs.Keeping.{IsInOrder, Rests, Turns}
use Rattle.sw_disk.specs.Moments.{Elapses, Passes}

all-one : (P : DiskState → Type 0) (s : DiskState) → P s → All P (s ∷ [])
all-one P s p = λ k d h. subst (λ (n : ℕ). P (slice_index_or (s ∷ []) n d)) (let e : 0 ≡ k = omega arith in e) p

module _ (P : DiskState → DiskState → Type 0) where
  pub passes-none : (old : DiskState) (before : List DiskState) → P old old → Passes P old before old before
  passes-none old before p = record { since = []; moments = refl; each = All-nil (P old); last = p }

  -- one call
  pub passes-one : (old new : DiskState) (before after : List DiskState) → Elapses old before new after → P old new → Passes P old before new after
  passes-one old new before after (inl e) p = record {
    since = new ∷ [];
    moments = ap (λ (l : List DiskState). new ∷ l) e;
    each = all-one (P old) new p;
    last = p;
  }
  passes-one old new before after (inr still) p = record {
    since = [];
    moments = ap (λ (s : DiskState). s ∷ after) still.0 ∙ ap (λ (l : List DiskState). old ∷ l) still.1;
    each = All-nil (P old);
    last = p;
  }

-- more calls behind some
pub passes-on : (P Q R : DiskState → DiskState → Type 0) (a b c : DiskState) (xs ys zs : List DiskState) → ((x : DiskState) → P a x → R a x)
    → ((x : DiskState) → P a b → Q b x → R a x) → Passes P a xs b ys → Passes Q b ys c zs → Passes R a xs c zs
passes-on P Q R a b c xs ys zs first then p q = record {
  since = q.since ++ p.since;
  moments = q.moments ∙ ap (λ (l : List DiskState). q.since ++ l) p.moments ∙ sym (append_assoc q.since p.since (a ∷ xs));
  each = All-append (R a) q.since p.since
      (λ k d h. then (slice_index_or q.since k d) p.last (q.each k d h)) (λ k d h. first (slice_index_or p.since k d) (p.each k d h));
  last = then c p.last q.last;
}

module _ (Order : DiskState → Type 0) where
  -- a call that only looks
  pub rests-look : (a b : DiskState) (xs ys : List DiskState) → b ≡ a → Elapses a xs b ys → Passes (Rests Order) a xs b ys
  rests-look a b xs ys same e = passes-one (Rests Order) a b xs ys e (rests-same Order a b same)

  pub rests-then : (a b c : DiskState) (xs ys zs : List DiskState) → Passes (Rests Order) a xs b ys → Passes (Rests Order) b ys c zs
      → Passes (Rests Order) a xs c zs
  rests-then a b c xs ys zs p q = passes-on (Rests Order) (Rests Order) (Rests Order) a b c xs ys zs (λ x r. r) (λ x p q. rests-on Order a b x p q) p q

  -- a call that changes nothing of what is kept, or fails to
  pub rests-call : (a done b : DiskState) (xs ys : List DiskState) → Rests Order a done → MayBe a done b → Elapses a xs b ys → Passes (Rests Order) a xs b ys
  rests-call a done b xs ys rests either e = passes-one (Rests Order) a b xs ys e (rests-may_be Order a done b rests either)

pub on_ok : {T E : Type 0} (r : Result T E) (A B : Type 0) → (A → B) → OnOk r A → OnOk r B
on_ok (Ok v) A B f a = f a
on_ok (Err e) A B f a = tt

module _ (dir file : List ℕ) (w : Option (List ℕ)) where
  -- what only rests turns nothing
  pub as_turns : (a b : DiskState) (xs ys : List DiskState) → Passes (Rests IsInOrder) a xs b ys → Passes (Turns dir file w) a xs b ys
  as_turns a b xs ys p = record {
    since = p.since;
    moments = p.moments;
    each = λ k d h. turns-rested dir file w a (slice_index_or p.since k d) (p.each k d h);
    last = turns-rested dir file w a b p.last;
  }

  pub then_turns : (a b c : DiskState) (xs ys zs : List DiskState) → Passes (Rests IsInOrder) a xs b ys → Passes (Turns dir file w) b ys c zs → Passes
      (Turns dir file w) a xs c zs
  then_turns a b c xs ys zs p q = passes-on (Rests IsInOrder) (Turns dir file w) (Turns dir file w) a b c xs ys zs
      (λ x r. turns-rested dir file w a x r) (λ x p q. rests-turns dir file w a b x p q) p q

  pub then_rests : (a b c : DiskState) (xs ys zs : List DiskState) → Passes (Turns dir file w) a xs b ys → Passes (Rests IsInOrder) b ys c zs → Passes
      (Turns dir file w) a xs c zs
  then_rests a b c xs ys zs p q = passes-on (Turns dir file w) (Rests IsInOrder) (Turns dir file w) a b c xs ys zs
      (λ x r. r) (λ x p q. turns-rests dir file w a b x p q) p q

  -- a call that turns the path, or fails to
  pub turns-call : (a done b : DiskState) (xs ys : List DiskState) → Turns dir file w a done → MayBe a done b → Elapses a xs b ys → Passes
      (Turns dir file w) a xs b ys
  turns-call a done b xs ys turns either e = passes-one (Turns dir file w) a b xs ys e (turns-may_be dir file w a done b turns either)

-- at a disk that is the same
pub passes-at : {D : Type 0} (now : D → DiskState) (past : D → List DiskState) (P : DiskState → DiskState → Type 0) (old : DiskState)
    (before : List DiskState) (a b : D)
    → b ≡ a → Passes P old before (now a) (past a) → Passes P old before (now b) (past b)
passes-at {D} now past P old before a b e p = subst (λ (d : D). Passes P old before (now d) (past d)) (sym e) p
