-- A push that is done leaves the receiver with at least what was known of the sender, whoever else uses the nodes.
use Rattle.std.proofs.Common.{◌≡◌, ℕ, ◌==◌, true, refl, sym, ◌∙◌, ap, subst, inl, inr, Ok}
use Rattle.std.proofs.lemmas.Bool.Decides.{Decides-eqb}
use Rattle.sw_pass.specs.declared.outcome.Outcome.{Outcome}
use Rattle.sw_object_steps.specs.Journals.{Hash}
use Rattle.sw_peer.specs.Sights.{Sight}
use Rattle.sw_peer.proofs.Calls.{moves-refl}
use Rattle.sw_replicator.proofs.Covering.{Watches, run-covers}
use Rattle.sw_replicator.proofs.Going.{RunGoes, run-goes}
use Rattle.sw_replicator.proofs.Reading.{IsOne, known-least, later, pair-trans, told-before}
use Rattle.sw_replicator.proofs.Passing.{pass-moves, pass-stands}
use Rattle.sw_replicator.proofs.Taking.{Covers}
use Rattle.sw_replicator.specs.Meeting.{IsOfPair, PairMoves, Reaches, known, state_by}
use Rattle.sw_replicator.specs.Pushing.{IsPush}
use Rattle.sw_state.specs.declared.state.State.{State}

-- a push that is done went through
pub done-goes : (from to part : ℕ) (s t : Sight) (outcome : Outcome) → IsPush from to part s (Ok outcome) t → outcome.done ≡ true → RunGoes from to part s t
done-goes from to part s t outcome push done =
    let p : Outcome = push.0 in
    let none : (p.left == 0) ≡ true = sym (ap (λ (o : Outcome). o.done) push.2) ∙ done in
    run-goes from to part s t p push.1 ((Decides-eqb p.left 0).0 none)

module _ (from to part : ℕ) (hash : Hash) where
  -- both tell their contents
  abbrev pub Told : Sight → Type 0
  Told s = ((known s from part).told ≡ true) × ((known s to part).told ≡ true)

  abbrev Stands : ℕ → Sight → State
  Stands d s = state_by (known s d part) hash

  pub told-of : (a : Sight) (d : ℕ) → IsOne from to d → Told a → (known a d part).told ≡ true
  told-of a d (inl is) told = subst (λ (k : ℕ). (known a k part).told ≡ true) (sym is) told.0
  told-of a d (inr is) told = subst (λ (k : ℕ). (known a k part).told ≡ true) (sym is) told.1

  stands-watched : Watches from to part hash Told Stands (PairMoves from to part)
  stands-watched = record {
    moves = λ a b r. r;
    stays = λ a. moves-refl (IsOfPair a.nodes.power from to part) a;
    join = pair-trans from to part;
    sure = λ a b r told. (told-before from to part from a b r told.0, told-before from to part to a b r told.1);
    told = told-of;
    up = λ a b d one r told. known-least from to part d a b hash r;
    reads = λ a b r holds. r;
    tells = λ a d one told held. refl;
    passes = λ n a c h file r is counts p. (
      pass-moves from to part h file a c p is,
      λ same told. subst (λ (x : Hash). Covers (state_by (known c to part) x) file) same (pass-stands from to part h file a c p is told.1),
    );
  }

pub push-reaches : (from to part : ℕ) (s t : Sight) (outcome : Outcome) → IsPush from to part s (Ok outcome) t → outcome.done ≡ true → Reaches from to part s t
push-reaches from to part s t outcome push done told told' hash is =
    let r =
    run-covers from to part hash (Told from to part hash) (Stands from to part hash) (PairMoves from to part) (stands-watched from to part hash) s t
    (done-goes from to part s t outcome push done) in
    r.1 ((later from to part from s t r.0).told ∙ told, (later from to part to s t r.0).told ∙ told') is
