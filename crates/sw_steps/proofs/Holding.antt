-- What a device has of a container, as far as the container's lock tells that, and what calls at containers leave of it.
use Rattle.std.proofs.Common.{◌≡◌, ℕ, ◌<◌, Bool, true, false, map, filter, get_or, List, [], refl, sym, ◌∙◌, ap, subst, Option, Result, Ok}
use Rattle.std.proofs.lemmas.List.Elements.{All-filter, All-map}
use Rattle.std.proofs.lemmas.List.{get_or-map, length-map}
use Rattle.std.specs.List.{All, fold}
use Rattle.std.specs.Prelude.{Contains, if◌then◌else◌}
use Rattle.sw_container_steps.specs.Entries.{rows_of}
use Rattle.sw_container_steps.specs.Halves.{ContHalf}
use Rattle.sw_container_steps.specs.Rules.{ContHistory, cont_rules}
use Rattle.sw_container_steps.specs.declared.cont_answer.ContAnswer.{ContAnswer}
use Rattle.sw_container_steps.specs.declared.cont_change.ContChange.{ContChange}
use Rattle.sw_hashpath.specs.declared.place.Place.{Place}
use Rattle.sw_keeper.specs.declared.tables.Tables.{Tables}
use Rattle.sw_machine.proofs.Rows.{made-merges}
use Rattle.sw_machine.specs.Doors.{StandsFor}
use Rattle.sw_machine.specs.Machine.{KnownRow, Machine, empties, rows_in, was_made}
use Rattle.sw_machine.specs.Sides.{TellsAt}
use Rattle.sw_peer.proofs.Calls.{calls-moves}
use Rattle.sw_peer.proofs.ContCalls.{cont-made-step}
use Rattle.sw_peer.specs.ContSights.{ContMoves, IsContMade, IsIn, IsLooked}
use Rattle.sw_peer.specs.Sights.{Calls, Nodes, Sight, cont_lock}
use Rattle.sw_peer.specs.declared.cont_event.ContEvent.{ContEvent}
use Rattle.sw_peer.specs.declared.link.Link.{Link}
use Rattle.sw_peer.specs.declared.link.Link.TheVariants.{Local}
use Rattle.sw_peer.specs.declared.link.Lost.{Lost}
use Rattle.sw_rows.specs.Rows.{Listed, merged}
use Rattle.sw_rows.specs.declared.numbered.Numbered.{Numbered}
use Rattle.sw_rows.specs.declared.row.Row.{Row}
use Rattle.sw_step.specs.Steps.{StepChanges}
use Rattle.sw_steps.proofs.GoingBy.{GoesOnBy, came-local, goes-join, goes-same}

-- ---- rows that are read are among all rows

-- these are rows of a list
abbrev pub AreAmong : List Row → Listed → Type 0
AreAmong rows l = All (λ row. Contains (map (λ n. n.row) l.list) row) rows

pub kept-among : (test : Numbered → Bool) (list : List Numbered) → All (λ row. Contains (map (λ n. n.row) list) row) (map (λ n. n.row) (filter test list))
kept-among test list =
    All-map (λ row. Contains (map (λ n. n.row) list) row) (λ n. n.row) (filter test list)
    (All-filter test (λ n. Contains (map (λ n. n.row) list) n.row) list
    (λ k d lt. (k, subst (λ (n : ℕ). k < n) (sym (length-map list (λ (n : Numbered). n.row))) lt, get_or-map (λ n. n.row) list k d (get_or list k d).row lt)))

-- ---- calls at containers go on

pub change-moves : (link : Link) (device : ℕ) (place : Place) (change : ContChange) (a : Sight) (r : Result ContAnswer Lost) (b : Sight)
    → Calls (IsContMade link device place change) a link r b → ContMoves (IsIn device place) a b
change-moves link device place change a r b call =
    calls-moves (ContMoves (IsIn device place)) (IsContMade link device place change) (cont-made-step link device place change) a link r b call

module _ {A : Type 0} (device : ℕ) (place : Place) (reading : Option Tables → ℕ → Result A ContAnswer) (event : Result A ContAnswer → ContEvent) where
  -- a read at the device itself
  abbrev pub Looks : Sight → Result A ContAnswer → Sight → Type 0
  Looks = IsLooked Local device place reading event

-- ---- what the device has of the container

module _ (device : ℕ) (place : Place) where
  abbrev IsTold : Sight → Type 0
  IsTold s = (s.containers.seen (cont_lock s.nodes device place)).told ≡ true

  -- where the container's lock tells what the device has of it, that is so
  abbrev pub Tells : (Option Tables → Type 0) → Sight → Type 0
  Tells so s = s.alone ≡ true → IsTold s → so (s.containers.holds device place)

  -- then it is so of each machine for which the door stands
  pub tells-machine : (so : Option Tables → Type 0) (s : Sight) (m : Machine) → StandsFor s m → s.alone ≡ true → Tells so s
      → TellsAt (cont_lock s.nodes) m.containers device place → so (m.containers.half.holds device place)
  tells-machine so s m stands alone own tells =
      subst (λ (half : ContHalf). so (half.holds device place)) stands.containers
      (own alone (subst (λ (half : ContHalf). (half.seen (cont_lock s.nodes device place)).told ≡ true) (sym stands.containers) tells))

  -- a lock that tells it told it before
  pub told-before : (at : ℕ → Place → Type 0) (a b : Sight) → ContMoves at a b → IsTold b → IsTold a
  told-before at a b moves tells =
      sym (moves.containers.grows (cont_lock a.nodes device place)).told
      ∙ subst (λ (n : Nodes). (b.containers.seen (cont_lock n device place)).told ≡ true) moves.nodes tells

  -- what a read at the device itself tells is so behind it
  module _ {A : Type 0} (reading : Option Tables → ℕ → Result A ContAnswer) (event : Result A ContAnswer → ContEvent) (so : Option Tables → Type 0) (x : A)
      (told_so : (t : Option Tables) (front : ℕ) → Ok x ≡ reading t front → so t) where
    look-tells : (a b : Sight) → Looks device place reading event a (Ok x) b → Tells so b
    look-tells a b look alone told =
        let reads = look.step.step in
        let there : (b.containers.seen (cont_lock a.nodes device place)).told ≡ true =
        subst (λ (n : Nodes). (b.containers.seen (cont_lock n device place)).told ≡ true) look.moves.nodes told in
        subst so (reads.held alone there refl place refl ∙ look.step.is_held alone place refl) (told_so (reads.read place) _ (reads.shown refl))

    pub looked-tells : (a b : Sight) → Calls (Looks device place reading event) a Local (Ok (Ok x)) b → Tells so b
    looked-tells a b call =
        let one = came-local (Looks device place reading event) a (Ok x) b call in
        subst (Tells so) (sym one.2.same) (look-tells a one.0 one.1)

  module _ {X : Type 0} (part : Option Tables → X) where
    -- a call goes on, and this part of what the device has of the container stays, as far as the lock tells it
    pub record Keeps (a b : Sight) : Type 0 where
      pub goes : GoesOnBy a b
      pub told : IsTold b → IsTold a
      pub kept : b.alone ≡ true → IsTold b → part (b.containers.holds device place) ≡ part (a.containers.holds device place)

    pub keeps-same : (a b : Sight) → b ≡ a → Keeps a b
    keeps-same a b same =
        subst (λ (x : Sight). Keeps a x) (sym same) (record { goes = goes-same a a refl; told = λ is. is; kept = λ alone told. refl })

    pub keeps-join : (a b c : Sight) → Keeps a b → Keeps b c → Keeps a c
    keeps-join a b c p q = record {
      goes = goes-join a b c p.goes q.goes;
      told = λ is. p.told (q.told is);
      kept = λ alone told. q.kept alone told ∙ p.kept (q.goes.alone alone) (q.told told);
    }

    pub tells-later : (so : X → Type 0) (a b : Sight) → Keeps a b → Tells (λ t. so (part t)) a → Tells (λ t. so (part t)) b
    tells-later so a b k own alone told = subst so (sym (k.kept alone told)) (own (k.goes.alone alone) (k.told told))

    -- a step at another place, or another device
    pub elsewhere-keeps : (to : ℕ) (at : Place) → (IsIn to at device place → ⊥) → (a b : Sight) → ContMoves (IsIn to at) a b → GoesOnBy a b → Keeps a b
    elsewhere-keeps to at elsewhere a b moves goes = record {
      goes = goes;
      told = told-before (IsIn to at) a b moves;
      kept = λ alone told. ap part (moves.containers.others alone device place elsewhere);
    }

  -- ---- a step at the device itself

  -- one of a door that is alone
  step-alone : (change : ContChange) (a : Sight) (answer : ContAnswer) (b : Sight) (made : IsContMade Local device place change a answer b)
      → b.alone ≡ true
      → StepChanges cont_rules true (a.containers.seen (cont_lock a.nodes device place)) made.step.held place change answer
      (b.containers.seen (cont_lock a.nodes device place)) (b.containers.holds device place)
  step-alone change a answer b made alone =
      subst (λ (x : Bool). StepChanges cont_rules x (a.containers.seen (cont_lock a.nodes device place)) made.step.held place change answer
      (b.containers.seen (cont_lock a.nodes device place)) (b.containers.holds device place)) alone made.step.step

  -- one at the container that brings no rows, and takes none away
  module _ (change : ContChange) (none : rows_in change ≡ []) (stay : empties change ≡ false) where
    no-rows : (b : Bool) → map (λ (n : KnownRow). n.row) (map (λ row. record { place = place; row = row }) (if b then rows_in change else [])) ≡ []
    no-rows true = ap (λ (rows : List Row). map (λ (n : KnownRow). n.row) (map (λ row. record { place = place; row = row }) rows)) none
    no-rows false = refl

    step-keeps-rows : (h : ContHistory) (s : Place → Option Tables) (answer : ContAnswer) (g : ContHistory) (t : Option Tables)
        → StepChanges cont_rules true h s place change answer g t → h.told ≡ true → rows_of t ≡ rows_of (s place)
    step-keeps-rows h s answer g t step told =
        made-merges h s place change stay answer g t step told
        ∙ ap (λ (rows : List Row). fold merged (rows_of (s place)) rows) (no-rows (was_made answer step.made))

    pub one-keeps-rows : (a : Sight) (answer : ContAnswer) (b : Sight) → IsContMade Local device place change a answer b → b.alone ≡ true → IsTold a
        → rows_of (b.containers.holds device place) ≡ rows_of (a.containers.holds device place)
    one-keeps-rows a answer b made alone told =
        let step = made.step in
        step-keeps-rows (a.containers.seen (cont_lock a.nodes device place)) step.held answer (b.containers.seen (cont_lock a.nodes device place))
        (b.containers.holds device place) (step-alone change a answer b made alone) told
        ∙ ap rows_of (step.is_held alone place refl)
