-- What goes on by calls of any kind, while a part of what a device has of a container stays, as far as the container's lock tells it.
use Rattle.std.proofs.Common.{◌≡◌, ℕ, true, false, [], sym, ◌∙◌, ap, subst, Option, Ok}
use Rattle.sw_container_steps.specs.Entries.{rows_of}
use Rattle.sw_container_steps.specs.declared.cont_answer.ContAnswer.{ContAnswer}
use Rattle.sw_container_steps.specs.declared.cont_change.ContChange.{ContChange}
use Rattle.sw_hashpath.specs.declared.place.Place.{Place}
use Rattle.sw_keeper.specs.declared.tables.Tables.{Tables}
use Rattle.sw_machine.specs.Machine.{empties, rows_in}
use Rattle.sw_peer.specs.ContSights.{ContMoves, IsContMade, IsIn}
use Rattle.sw_peer.specs.Sights.{Calls, Sight, cont_lock}
use Rattle.sw_peer.specs.declared.link.Link.TheVariants.{Local}
use Rattle.sw_steps.proofs.GoingBy.{GoesBy, came-local, goes-then}
use Rattle.sw_steps.proofs.Holding.{Tells, change-moves, one-keeps-rows, told-before}

-- the device's lock tells what it has of the container
abbrev IsTold : ℕ → Place → Sight → Type 0
IsTold device place s = (s.containers.seen (cont_lock s.nodes device place)).told ≡ true

module _ (device : ℕ) (place : Place) {X : Type 0} (part : Option Tables → X) where
  -- it goes on so, and this part stays
  pub record StaysBy (on : Sight → Sight → Type 0) (a b : Sight) : Type 0 where
    pub goes : GoesBy on a b
    pub told : IsTold device place b → IsTold device place a
    pub kept : b.alone ≡ true → IsTold device place b → part (b.containers.holds device place) ≡ part (a.containers.holds device place)

  pub stays-same : (on : Sight → Sight → Type 0) → (a b : Sight) → b ≡ a → GoesBy on a b → StaysBy on a b
  stays-same on a b same goes = record {
    goes = goes;
    told = subst (λ (x : Sight). IsTold device place x → IsTold device place a) (sym same) (λ is. is);
    kept = λ alone told. ap (λ (x : Sight). part (x.containers.holds device place)) same;
  }

  pub stays-then : (first next both : Sight → Sight → Type 0) → ((a b c : Sight) → first a b → next b c → both a c) → (a b c : Sight)
      → StaysBy first a b → StaysBy next b c → StaysBy both a c
  stays-then first next both join a b c p q = record {
    goes = goes-then first next both join a b c p.goes q.goes;
    told = λ is. p.told (q.told is);
    kept = λ alone told. q.kept alone told ∙ p.kept (q.goes.alone alone) (q.told told);
  }

  -- what is so of this part is so behind it
  pub stays-tells : (on : Sight → Sight → Type 0) (so : X → Type 0) (a b : Sight) → StaysBy on a b → Tells device place (λ t. so (part t)) a
      → Tells device place (λ t. so (part t)) b
  stays-tells on so a b k own alone told = subst so (sym (k.kept alone told)) (own (k.goes.alone alone) (k.told told))

  -- a step at another place, or another device
  pub elsewhere-stays : (on : Sight → Sight → Type 0) (to : ℕ) (at : Place) → (IsIn to at device place → ⊥) → (a b : Sight) → ContMoves (IsIn to at) a b
      → GoesBy on a b → StaysBy on a b
  elsewhere-stays on to at elsewhere a b moves goes = record {
    goes = goes;
    told = told-before device place (IsIn to at) a b moves;
    kept = λ alone told. ap part (moves.containers.others alone device place elsewhere);
  }

  -- a step at the device itself that leaves the part
  pub here-stays : (on : Sight → Sight → Type 0) (a b : Sight) → ContMoves (IsIn device place) a b
      → (b.alone ≡ true → IsTold device place b → part (b.containers.holds device place) ≡ part (a.containers.holds device place)) → GoesBy on a b
      → StaysBy on a b
  here-stays on a b moves kept goes = record { goes = goes; told = told-before device place (IsIn device place) a b moves; kept = kept }

-- ---- rows stay by a step at the device itself that brings none, and takes none away

module _ (device : ℕ) (place : Place) (change : ContChange) (none : rows_in change ≡ []) (stay : empties change ≡ false) where
  pub made-rows-stay : (on : Sight → Sight → Type 0) (a : Sight) (answer : ContAnswer) (b : Sight)
      → Calls (IsContMade Local device place change) a Local (Ok answer) b → GoesBy on a b → StaysBy device place rows_of on a b
  made-rows-stay on a answer b call goes =
      let one = came-local (IsContMade Local device place change) a answer b call in
      here-stays device place rows_of on a b (change-moves Local device place change a (Ok answer) b call)
      (subst (λ (x : Sight). x.alone ≡ true → IsTold device place x → rows_of (x.containers.holds device place) ≡ rows_of (a.containers.holds device place))
      (sym one.2.same)
      (λ alone tells. one-keeps-rows device place change none stay a answer one.0 one.1 alone
      (told-before device place (IsIn device place) a one.0 one.1.moves tells))) goes
