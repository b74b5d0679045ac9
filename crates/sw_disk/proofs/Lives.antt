-- What outlives starts, calls and crashes, step by step.
use Rattle.std.proofs.Common.{◌≡◌, ◌⊎◌, inl, inr, ⊎_elim, ℕ, true, List, [], ◌∷◌, ◌++◌, Option, refl, sym, ◌∙◌, ap, subst}
use Rattle.std.proofs.lemmas.Bool.{cases_Bool}
use Rattle.std.proofs.lemmas.List.{append_cancel_right}
use Rattle.std.proofs.lemmas.List.Elements.{All-contains}
use Rattle.std.proofs.lemmas.Slice.Eq.{bytes_eq-Decides}
use Rattle.std.specs.List.{Contains}
use Rattle.std.specs.Str.{bytes_eq}
use Rattle.sw_disk.proofs.Crashes.{leaves-durable, leaves-in_order, leaves-ordered, leaves-path}
use Rattle.sw_disk.proofs.Kept.{kept-bytes_at}
use Rattle.sw_disk.proofs.States.{rests-none}
use Rattle.sw_disk.proofs.Turning.{turns-rested}
use Rattle.sw_disk.specs.Crash.{MayLeave}
use Rattle.sw_disk.specs.Disk.{DiskState}
use Rattle.sw_disk.specs.Keeping.{kept, IsDurable, IsInOrder, IsOrdered, Rests, Turns, writing}
use Rattle.sw_disk.specs.Laws.{AnswersAreSteps, IsKept, IsMoment, MomentsAreSteps, Outlasts, Outlives}
use Rattle.sw_disk.specs.Leaving.{Leaves}
use Rattle.sw_disk.specs.Lives.{Step, Opening, Opened, Done, Tried, Looked, Crashed, Goes, IsInTurn, MayStand, Spares, Takes, is_open}
use Rattle.sw_disk.specs.Moments.{Passes}
use Rattle.sw_volume.specs.Volume.{MaySet, Sets}

one_path_or_not : (dir file d f : List ℕ) → ((dir ≡ d) × (file ≡ f)) ⊎ (¬ ((dir ≡ d) × (file ≡ f)))
one_path_or_not dir file d f = ⊎_elim
    (λ on. ⊎_elim (λ on'. inl ((bytes_eq-Decides dir d).0 on, (bytes_eq-Decides file f).0 on'))
    (λ off. inr (λ both. cc (off, (bytes_eq-Decides file f).1 both.1))) (cases_Bool (bytes_eq file f)))
    (λ off. inr (λ both. cc (off, (bytes_eq-Decides dir d).1 both.0)))
    (cases_Bool (bytes_eq dir d))

-- what a crash leaves at a path that is kept
pub kept-left : (s t : DiskState) → Leaves s t → (dir file : List ℕ) → ¬ (dir ≡ writing) → MayLeave s dir file (kept t dir file)
kept-left s t leaves dir file place = subst (λ (x : Option (List ℕ)). MayLeave s dir file x) (sym (kept-bytes_at t dir file place))
    (leaves-path s t leaves dir file)

-- ---- one call

module _ (P : DiskState → DiskState → Type 0) (s t m : DiskState) (before after : List DiskState) where
  -- each moment of it has P to the old one
  pub at-moment : P s s → Passes P s before t after → IsMoment s before t after m → P s m
  at-moment own passes moment = ⊎_elim
      (λ old. subst (λ (x : DiskState). P s x) (sym old) own)
      (λ among. All-contains (P s) passes.since m passes.each
      (subst (λ (l : List DiskState). Contains l m)
      (append_cancel_right moment.since passes.since (s ∷ before) (sym moment.moments ∙ passes.moments)) among))
      moment.among

turns-own : (dir file : List ℕ) (w : Option (List ℕ)) (s : DiskState) → Turns dir file w s s
turns-own dir file w s = turns-rested dir file w s s (rests-none IsInOrder s)

pub moments-are-steps : (s t m : DiskState) (before after : List DiskState) → IsMoment s before t after m → MomentsAreSteps s t m before after
moments-are-steps s t m before after moment = record {
  start = λ passes ordered. at-moment (Rests IsOrdered) s t m before after (rests-none IsOrdered s) (passes ordered) moment;
  change = λ dir file w passes o. at-moment (Turns dir file w) s t m before after (turns-own dir file w s) (passes o) moment;
  look = λ passes. at-moment (Rests IsInOrder) s t m before after (rests-none IsInOrder s) passes moment;
}

pub answers-are-steps : (s t : DiskState) (before after : List DiskState) → AnswersAreSteps s t before after
answers-are-steps s t before after = record {
  start = λ passes ready ordered. ((passes ordered).last, ready);
  change = λ dir file w passes sets durable o. ((passes o).last, sets o, durable o);
}

pub outlasts : (dir file : List ℕ) (w : Option (List ℕ)) (s t m u : DiskState) (before after : List DiskState)
    → IsInOrder s → Passes (Turns dir file w) s before t after → IsMoment s before t after m → Leaves m u → Outlasts dir file w s u
outlasts dir file w s t m u before after o passes moment leaves =
    let turns = at-moment (Turns dir file w) s t m before after (turns-own dir file w s) passes moment in
    record {
      order = leaves-in_order m u leaves (turns.order o);
      files = λ d f x place durable. ⊎_elim (λ was. inl (durable (kept u d f) was)) (λ new. inr new)
          (turns.left d f (kept u d f) place (kept-left m u leaves d f place));
    }

-- ---- any number of steps

module _ (s m t : DiskState) (before : List Step) (old : Outlives s before m) where
  rested : (Order : DiskState → Type 0) → Rests Order m t → (dir file : List ℕ) → ¬ (dir ≡ writing) → MayStand s before dir file (kept t dir file)
  rested Order rests dir file place = subst (λ (x : Option (List ℕ)). MayStand s before dir file x) (sym (rests.now dir file)) (old.now dir file place)

  rested-left : (Order : DiskState → Type 0) → Rests Order m t → (dir file : List ℕ) (x : Option (List ℕ)) → ¬ (dir ≡ writing) → MayLeave t dir file x
      → MayStand s before dir file x
  rested-left Order rests dir file x place left = old.left dir file x place (rests.left dir file x place left)

  outlives-opening : Rests IsOrdered m t → Outlives s (Opening ∷ before) t
  outlives-opening rests = record {
    order = rests.order old.order;
    ready = λ running. cc;
    now = rested IsOrdered rests;
    left = rested-left IsOrdered rests;
  }

  outlives-opened : Rests IsOrdered m t → IsInOrder t → Outlives s (Opened ∷ before) t
  outlives-opened rests o = record {
    order = o.ordered;
    ready = λ running. o;
    now = rested IsOrdered rests;
    left = rested-left IsOrdered rests;
  }

  outlives-looked : is_open before ≡ true → Rests IsInOrder m t → Outlives s (Looked ∷ before) t
  outlives-looked running rests =
      let o = rests.order (old.ready running) in
      record {
        order = o.ordered;
        ready = λ running. o;
        now = rested IsInOrder rests;
        left = rested-left IsInOrder rests;
      }

  outlives-crashed : Leaves m t → Outlives s (Crashed ∷ before) t
  outlives-crashed leaves = record {
    order = leaves-ordered m t leaves;
    ready = λ running. cc;
    now = λ dir file place. old.left dir file (kept t dir file) place (kept-left m t leaves dir file place);
    left = λ dir file x place left.
        old.left dir file x place (subst (λ (y : Option (List ℕ)). MayLeave m dir file y) (sym (leaves-durable m t leaves dir file x left))
        (leaves-path m t leaves dir file));
  }

  module _ (d f : List ℕ) (w : Option (List ℕ)) where
    now-tried : MaySet (kept m) (kept t) d f w → (dir file : List ℕ) → ¬ (dir ≡ writing) → MayStand s (Tried d f w ∷ before) dir file (kept t dir file)
    now-tried (inl same) dir file place = inr
        (subst (λ (x : Option (List ℕ)). MayStand s before dir file x) (sym (same dir file)) (old.now dir file place))
    now-tried (inr sets) dir file place = ⊎_elim
        (λ here. inl (here.0, here.1, at-path dir file here))
        (λ apart. inr (subst (λ (x : Option (List ℕ)). MayStand s before dir file x) (sym (sets.elsewhere dir file apart)) (old.now dir file place)))
        (one_path_or_not dir file d f)
      where
        at-path : (dir file : List ℕ) → (dir ≡ d) × (file ≡ f) → kept t dir file ≡ w
        at-path dir file here = ap (λ (x : List ℕ). kept t x file) here.0 ∙ ap (λ (x : List ℕ). kept t d x) here.1 ∙ sets.there

    outlives-tried : is_open before ≡ true → Turns d f w m t → Outlives s (Tried d f w ∷ before) t
    outlives-tried running turns =
        let o = turns.order (old.ready running) in
        record {
          order = o.ordered;
          ready = λ running. o;
          now = now-tried turns.now;
          left = λ dir file x place left. ⊎_elim (λ was. inr (old.left dir file x place was)) (λ new. inl new) (turns.left dir file x place left);
        }

    now-done : Sets (kept m) (kept t) d f w → (dir file : List ℕ) → ¬ (dir ≡ writing) → MayStand s (Done d f w ∷ before) dir file (kept t dir file)
    now-done sets dir file place = ⊎_elim
        (λ here. inl
        (here.0, here.1, ap (λ (x : List ℕ). kept t x file) here.0 ∙ ap (λ (x : List ℕ). kept t d x) here.1 ∙ sets.there))
        (λ apart. inr
        (apart, subst (λ (x : Option (List ℕ)). MayStand s before dir file x) (sym (sets.elsewhere dir file apart)) (old.now dir file place)))
        (one_path_or_not dir file d f)

    left-done : Turns d f w m t → IsDurable t d f w → (dir file : List ℕ) (x : Option (List ℕ)) → ¬ (dir ≡ writing) → MayLeave t dir file x
        → MayStand s (Done d f w ∷ before) dir file x
    left-done turns durable dir file x place left = ⊎_elim
        (λ here. inl (here.0, here.1, durable x (subst (λ (y : List ℕ). MayLeave t d y x) here.1 (subst (λ (y : List ℕ). MayLeave t y file x) here.0 left))))
        (λ apart. inr (apart, ⊎_elim (λ was. old.left dir file x place was) (λ new. absurd (apart (new.0, new.1))) (turns.left dir file x place left)))
        (one_path_or_not dir file d f)

    outlives-done : is_open before ≡ true → Turns d f w m t → Sets (kept m) (kept t) d f w → IsDurable t d f w → Outlives s (Done d f w ∷ before) t
    outlives-done running turns sets durable =
        let o = turns.order (old.ready running) in
        record { order = o.ordered; ready = λ running. o; now = now-done sets; left = left-done turns durable }

outlives-step : (s m t : DiskState) (before : List Step) (step : Step) → Outlives s before m → IsInTurn step before → Takes step m t
    → Outlives s (step ∷ before) t
outlives-step s m t before Opening old turn takes = outlives-opening s m t before old (takes old.order)
outlives-step s m t before Opened old turn takes = let opened = takes old.order in outlives-opened s m t before old opened.0 opened.1
outlives-step s m t before (Done d f w) old turn takes =
    let done = takes (old.ready turn) in outlives-done s m t before old d f w turn done.0 done.1 done.2
outlives-step s m t before (Tried d f w) old turn takes = outlives-tried s m t before old d f w turn (takes (old.ready turn))
outlives-step s m t before Looked old turn takes = outlives-looked s m t before old turn takes
outlives-step s m t before Crashed old turn takes = outlives-crashed s m t before old takes

pub outlives : (s : DiskState) → IsOrdered s → (steps : List Step) (t : DiskState) → Goes steps s t → Outlives s steps t
outlives s ordered [] t is = subst (λ (x : DiskState). Outlives s [] x) (sym is) (record {
  order = ordered;
  ready = λ running. cc;
  now = λ dir file place. inl refl;
  left = λ dir file x place left. inr left;
})
outlives s ordered (step ∷ before) t goes = outlives-step s goes.0 t before step (outlives s ordered before goes.0 goes.1) goes.2 goes.3

-- what was acknowledged at a path, where later steps spare it
stands-alone : (s : DiskState) (before after : List Step) (dir file : List ℕ) (w x : Option (List ℕ)) → Spares after dir file
    → MayStand s (after ++ Done dir file w ∷ before) dir file x → x ≡ w
stands-alone s before [] dir file w x spares (inl here) = here.2
stands-alone s before [] dir file w x spares (inr apart) = absurd (apart.0 (refl, refl))
stands-alone s before (Done d f v ∷ after) dir file w x spares (inl here) = absurd (spares.0 (here.0, here.1))
stands-alone s before (Done d f v ∷ after) dir file w x spares (inr apart) = stands-alone s before after dir file w x spares.1 apart.1
stands-alone s before (Tried d f v ∷ after) dir file w x spares (inl here) = absurd (spares.0 (here.0, here.1))
stands-alone s before (Tried d f v ∷ after) dir file w x spares (inr was) = stands-alone s before after dir file w x spares.1 was
stands-alone s before (Opening ∷ after) dir file w x spares stands = stands-alone s before after dir file w x spares stands
stands-alone s before (Opened ∷ after) dir file w x spares stands = stands-alone s before after dir file w x spares stands
stands-alone s before (Looked ∷ after) dir file w x spares stands = stands-alone s before after dir file w x spares stands
stands-alone s before (Crashed ∷ after) dir file w x spares stands = stands-alone s before after dir file w x spares stands

pub acknowledged-is-kept : (s t : DiskState) (before after : List Step) (dir file : List ℕ) (w : Option (List ℕ)) → IsOrdered s → ¬ (dir ≡ writing)
    → Goes (after ++ Done dir file w ∷ before) s t → Spares after dir file → IsKept t dir file w
acknowledged-is-kept s t before after dir file w ordered place goes spares =
    let out = outlives s ordered (after ++ Done dir file w ∷ before) t goes in
    record {
      now = stands-alone s before after dir file w (kept t dir file) spares (out.now dir file place);
      durable = λ x left. stands-alone s before after dir file w x spares (out.left dir file x place left);
    }
