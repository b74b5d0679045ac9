-- A push and a later one back, in a list of steps that was made.
use Rattle.std.proofs.Common.{◌≡◌, ◌≢◌, ℕ, Bool, true, false, nat_eq, List, [], ◌∷◌, ◌++◌, refl, sym, ◌∙◌, ap, subst, append_assoc, ◌⊎◌, inl, inr, Result, Ok}
use Rattle.std.proofs.lemmas.Bool.{eq-eqb, eqb-true}
use Rattle.sw_hashpath.specs.HashParts.{suffix_of}
use Rattle.sw_lossy.specs.Losses.{begun}
use Rattle.sw_lossy.specs.declared.acts.Acts.{Acts}
use Rattle.sw_outside.specs.declared.errors.NoMemory.{NoMemory}
use Rattle.sw_pass.specs.declared.outcome.Outcome.{Outcome}
use Rattle.sw_peer.proofs.Calls.{calls-moves, made-step, read-step}
use Rattle.sw_object_steps.specs.Rules.{ObjHistory}
use Rattle.sw_object_steps.specs.Journals.{Hash}
use Rattle.sw_object_steps.specs.Parts.{IsOfPart}
use Rattle.sw_peer.specs.Sights.{IsAt, IsMade, IsRead, Moves, Nodes, Restarts, Sight}
use Rattle.sw_peer.specs.declared.link.Link.TheVariants.{Local}
use Rattle.sw_replicator.proofs.Exchanging.{exchange_meets}
use Rattle.sw_replicator.specs.Laws.{CollidesOnce, HoldSame}
use Rattle.sw_replicator.specs.Meeting.{Collides, IsOfPair, state_at}
use Rattle.sw_state.specs.States.{together}
use Rattle.sw_steps.proofs.Running.{over-moves, sight_after}
use Rattle.sw_steps.specs.Exchanging.{Exchanges, HasExchange, HoldBoth}
use Rattle.sw_steps.specs.Laws.{StepsMeet}
use Rattle.sw_steps.specs.Passing.{IsPushedOver}
use Rattle.sw_steps.specs.Stepping.{AreMade, IsStepMade}
use Rattle.sw_steps.specs.declared.step.Step.{Step}
use Rattle.sw_steps.specs.declared.step.Step.TheVariants as steps

-- what a list told is what its front told, and behind it what its back told
split-made : (xs ys : List Step) (told : List Outcome) (s t : Sight) → AreMade (xs ++ ys) told s t
    → (front : List Outcome) × (back : List Outcome) × (told ≡ front ++ back) × (mid : Sight) × AreMade xs front s mid × AreMade ys back mid t
split-made [] ys told s t made = ([], told, refl, s, (refl, refl), made)
split-made (x ∷ xs) ys told s t made =
    let rest = split-made xs ys made.1 made.3 t made.5 in (
      made.0 ++ rest.0,
      rest.1,
      made.2 ∙ (ap (λ (l : List Outcome). made.0 ++ l) rest.2 ∙ sym (append_assoc made.0 rest.0 rest.1)),
      rest.3,
      (made.0, rest.0, refl, made.3, made.4, rest.4),
      rest.5,
    )

-- a hash of the partition is under its lock
part-at : (nodes : Nodes) (device part : ℕ) (hash : Hash) → IsOfPart nodes.power part hash → nodes.lock device hash ≡ nodes.part_lock device part
part-at nodes device part hash is = nodes.one_lock device hash ∙ ap (nodes.part_lock device) is.part_is

-- ---- what stays along steps: that locks tell what they have

module _ (hash : Hash) where
  abbrev Tells : Sight → ℕ → Type 0
  Tells s d = (s.objects.seen (s.nodes.lock d hash)).told ≡ true

  pub record Stays (s t : Sight) : Type 0 where
    pub nodes : t.nodes ≡ s.nodes
    pub alone : t.alone ≡ true → s.alone ≡ true
    pub tells : (d : ℕ) → Tells s d → Tells t d

  told-still : (s t : Sight) (d : ℕ) → t.nodes ≡ s.nodes → (t.objects.seen (s.nodes.lock d hash)).told ≡ true → Tells t d
  told-still s t d nodes told = subst (λ (n : Nodes). (t.objects.seen (n.lock d hash)).told ≡ true) (sym nodes) told

  stays-moved : (at : ℕ → Hash → Type 0) (s t : Sight) → Moves at s t → Stays s t
  stays-moved at s t p = record {
    nodes = p.nodes;
    alone = p.alone;
    tells = λ d told. told-still s t d p.nodes ((p.objects.grows (s.nodes.lock d hash)).told ∙ told);
  }

  stays-restarted : (device : ℕ) (s t : Sight) → Restarts device s t → Stays s t
  stays-restarted device s t r = record {
    nodes = r.nodes;
    alone = λ alone. sym r.alone ∙ alone;
    tells = λ d told. told-still s t d r.nodes (by d (nat_eq d device) refl told);
  }
    where
      by : (d : ℕ) (b : Bool) → nat_eq d device ≡ b → Tells s d → (t.objects.seen (s.nodes.lock d hash)).told ≡ true
      by d true is told =
          let at : d ≡ device = eqb-true d device is in
          subst (λ (e : ℕ). (t.objects.seen (s.nodes.lock e hash)).told ≡ true) (sym at)
          (r.objects.told hash (subst (λ (e : ℕ). (s.objects.seen (s.nodes.lock e hash)).told ≡ true) at told))
      by d false is told = ap (λ (h : ObjHistory). h.told) (r.objects.others d hash apart) ∙ told
        where
          apart : d ≢ device
          apart equal = let yes_match : nat_eq d device ≡ true = eq-eqb d device equal in cc

  over-stays : (from to part : ℕ) (acts : Acts) (s : Sight) (outcome : Outcome) (t : Sight) → IsPushedOver from to part acts s (Ok outcome) t → Stays s t
  over-stays from to part acts s outcome t over =
      let p =
      stays-moved (IsOfPair s.nodes.power from to part) (begun acts s) (sight_after over)
      (over-moves from to part acts s (Ok outcome) t over) in
      record { nodes = p.nodes; alone = p.alone; tells = p.tells }

  step-stays : (step : Step) (told : List Outcome) (s t : Sight) → IsStepMade step told s t → Stays s t
  step-stays (steps.Change device name change) told s t made =
      stays-moved (IsAt device name.hash) s t
      (calls-moves (Moves (IsAt device name.hash)) (IsMade Local device name change) (made-step Local device name change) s Local (Ok made.1) t made.3)
  step-stays (steps.Read device name) told s t made =
      stays-moved (IsAt device name.hash) s t
      (calls-moves (Moves (IsAt device name.hash)) (IsRead Local device name) (read-step Local device name) s Local (Ok made.1) t made.3)
  step-stays (steps.List device) told s t made = record {
    nodes = made.2.nodes;
    alone = λ alone. sym made.2.alone ∙ alone;
    tells = λ d told. told-still s t d made.2.nodes (ap (λ (h : ObjHistory). h.told) (made.2.same (s.nodes.lock d hash)) ∙ told);
  }
  step-stays (steps.Restart device) told s t made = stays-restarted device s t made.1
  step-stays (steps.Push from to part acts) told s t made = over-stays from to part acts s made.0 t made.2

  stays-trans : (a b c : Sight) → Stays a b → Stays b c → Stays a c
  stays-trans a b c p q = record {
    nodes = q.nodes ∙ p.nodes;
    alone = λ alone. p.alone (q.alone alone);
    tells = λ d told. q.tells d (p.tells d told);
  }

  made-stays : (all : List Step) (told : List Outcome) (s t : Sight) → AreMade all told s t → Stays s t
  made-stays [] told s t made = subst (λ (x : Sight). Stays s x) (sym made.1) (record { nodes = refl; alone = λ alone. alone; tells = λ d told. told })
  made-stays (step ∷ all) told s t made =
      stays-trans s made.3 t (step-stays step made.0 s made.3 made.4) (made-stays all made.1 made.3 t made.5)

-- ---- the exchange

-- a collision doesn't depend on what a door around counts
pub collides-out : (from to part suffix : ℕ) (acts : Acts) (s : Sight) (result : Result Outcome NoMemory) (t : Sight)
    (over : IsPushedOver from to part acts s result t)
    → Collides from to part suffix (begun acts s) (sight_after over) → Collides from to part suffix s t
collides-out from to part suffix acts s result t over c = record {
  ours = c.ours;
  theirs = c.theirs;
  our_history = c.our_history;
  their_history = c.their_history;
  ours_were = record { after = c.ours_were.after; before = c.ours_were.before };
  theirs_were = record { after = c.theirs_were.after; before = c.theirs_were.before };
  ours_are = c.ours_are;
  theirs_are = c.theirs_are;
  differ = c.differ;
  collide = c.collide;
}

-- what a list told that begins with a push
told-first : (one rest told : List Outcome) (outcome : Outcome) → told ≡ one ++ rest → one ≡ outcome ∷ [] → told ≡ outcome ∷ rest
told-first one rest told outcome are is = are ∙ ap (λ (l : List Outcome). l ++ rest) is

module _ (a b part : ℕ) (all : List Step) (has : HasExchange a b part all) (told : List Outcome) (s t : Sight) (made : AreMade all told s t) where
  abbrev Behind : List Step
  Behind = steps.Push b a part has.back ∷ has.behind

  abbrev From_first : List Step
  From_first = steps.Push a b part has.there ∷ (has.between ++ Behind)

  -- up to the first of the two pushes, and the rest
  one : (front : List Outcome) × (back : List Outcome) × (told ≡ front ++ back) × (mid : Sight) × AreMade has.before front s mid × AreMade From_first back mid t
  one = split-made has.before From_first told s t (subst (λ (l : List Step). AreMade l told s t) has.all_are made)

  -- up to the second one
  two : (front : List Outcome) × (back : List Outcome) × (one.5.1 ≡ front ++ back) × (mid : Sight) × AreMade has.between front one.5.3 mid
      × AreMade Behind back mid t
  two = split-made has.between Behind one.5.1 one.5.3 t one.5.5

  exchanges : Exchanges a b part all has told s t
  exchanges = record {
    told_before = one.0;
    first = one.3;
    made_before = one.4;
    there = one.5.4.0;
    second = one.5.3;
    pushed = one.5.4.2;
    told_between = two.0;
    third = two.3;
    made_between = two.4;
    back = two.5.4.0;
    fourth = two.5.3;
    pushed_back = two.5.4.2;
    told_behind = two.5.1;
    made_behind = two.5.5;
    told_are = one.2
        ∙ ap (λ (l : List Outcome). one.0 ++ l) (told-first one.5.0 one.5.1 one.1 one.5.4.0 one.5.2 one.5.4.1
        ∙ ap (λ (l : List Outcome). one.5.4.0 ∷ l)
        (two.2 ∙ ap (λ (l : List Outcome). two.0 ++ l) (told-first two.5.0 two.5.1 two.1 two.5.4.0 two.5.2 two.5.4.1)));
  }

pub steps_meet : StepsMeet
steps_meet all outcomes s t made alone a b part has apart told hash is = (e, meets)
  where
    e : Exchanges a b part all has outcomes s t
    e = exchanges a b part all has outcomes s t made

    to_first : Stays hash s e.first
    to_first = made-stays hash has.before e.told_before s e.first e.made_before

    to_second : Stays hash e.first e.second
    to_second = over-stays hash a b part has.there e.first e.there e.second e.pushed

    to_third : Stays hash e.second e.third
    to_third = made-stays hash has.between e.told_between e.second e.third e.made_between

    to_fourth : Stays hash e.third e.fourth
    to_fourth = over-stays hash b a part has.back e.third e.back e.fourth e.pushed_back

    to_last : Stays hash e.fourth t
    to_last = made-stays hash has.behind e.told_behind e.fourth t e.made_behind

    part-kept : (x y : Sight) → y.nodes ≡ x.nodes → IsOfPart x.nodes.power part hash → IsOfPart y.nodes.power part hash
    part-kept x y nodes there = subst (λ (n : Nodes). IsOfPart n.power part hash) (sym nodes) there

    at_first : IsOfPart e.first.nodes.power part hash
    at_first = part-kept s e.first to_first.nodes is

    to_third_nodes : e.third.nodes ≡ e.first.nodes
    to_third_nodes = to_third.nodes ∙ to_second.nodes

    at_third : IsOfPart e.third.nodes.power part hash
    at_third = part-kept e.first e.third to_third_nodes at_first

    tells-first : (d : ℕ) → (s.objects.seen (s.nodes.part_lock d part)).told ≡ true → Tells hash e.first d
    tells-first d known = to_first.tells d (subst (λ (l : ℕ). (s.objects.seen l).told ≡ true) (sym (part-at s.nodes d part hash is)) known)

    tells-third : (d : ℕ) → (s.objects.seen (s.nodes.part_lock d part)).told ≡ true → Tells hash e.third d
    tells-third d known = to_third.tells d (to_second.tells d (tells-first d known))

    known-in : (x : Sight) (d : ℕ) → IsOfPart x.nodes.power part hash → Tells hash x d → (x.objects.seen (x.nodes.part_lock d part)).told ≡ true
    known-in x d there tells = subst (λ (l : ℕ). (x.objects.seen l).told ≡ true) (part-at x.nodes d part hash there) tells

    alone-fourth : e.fourth.alone ≡ true
    alone-fourth = to_last.alone alone

    meets : e.there.done ≡ true → e.back.done ≡ true → HoldSame a b hash e.second e.third → HoldBoth a b part hash e.first e.second e.third e.fourth
    meets there_done back_done same =
        by (exchange_meets a b part (begun has.there e.first) (sight_after e.pushed) (begun has.back e.third)
        (sight_after e.pushed_back) (record {
          apart = apart;
          there = e.there;
          pushes = e.pushed.pushes;
          there_done = there_done;
          alone = to_third.alone (to_fourth.alone alone-fourth);
          told = (known-in e.first a at_first (tells-first a told.0), known-in e.first b at_first (tells-first b told.1));
          nodes = to_third_nodes;
          back = e.back;
          pushes_back = e.pushed_back.pushes;
          back_done = back_done;
          alone_after = alone-fourth;
          told_then = (known-in e.third a at_third (tells-third a told.0), known-in e.third b at_third (tells-third b told.1));
        }) hash at_first same)
      where
        by : ((state_at e.fourth b hash ≡ together (state_at e.first b hash) (state_at e.first a hash))
            × (state_at e.fourth a hash ≡ together (state_at e.first a hash) (state_at e.fourth b hash)))
            ⊎ CollidesOnce a b part hash (begun has.there e.first) (sight_after e.pushed) (begun has.back e.third)
            (sight_after e.pushed_back) → HoldBoth a b part hash e.first e.second e.third e.fourth
        by (inl joined) = inl joined
        by (inr (inl collides)) = inr (inl (collides-out a b part (suffix_of hash) has.there e.first (Ok e.there) e.second e.pushed collides))
        by (inr (inr collides)) = inr (inr (collides-out b a part (suffix_of hash) has.back e.third (Ok e.back) e.fourth e.pushed_back collides))
