-- What the calls of a push make of the replicas, at nodes that nobody else changes.
use Rattle.std.proofs.Common.{◌≡◌, ◌≢◌, ℕ, true, List, [], ◌∷◌, ◌++◌, length, Option, refl, sym, ◌∙◌, ap, subst, Result, Ok, Err}
use Rattle.sw_container_steps.specs.Reads.{parcel_of}
use Rattle.sw_container_steps.specs.Rules.{ReadsUnder}
use Rattle.sw_container_steps.specs.declared.cont_answer.ContAnswer.{ContAnswer}
use Rattle.sw_container_steps.specs.declared.cont_answer.ContAnswer.TheVariants as answers
use Rattle.sw_container_steps.specs.declared.cont_change.ContChange.{ContChange}
use Rattle.sw_container_steps.specs.declared.cont_change.ContChange.TheVariants.{MergeRow, SetSync}
use Rattle.sw_container_steps.specs.declared.syncing.Parcel.{Parcel}
use Rattle.sw_cont_replicator.proofs.Entering.{BringsOnly, Merges, Sets, merges-same, merges-trans, step-has, step-merges, step-sets}
use Rattle.sw_cont_replicator.proofs.Opening.{step-opens, step-stays}
use Rattle.sw_cont_replicator.proofs.Sending.{Anywhere, moves-anywhere}
use Rattle.sw_cont_replicator.specs.Meeting.{HasRow, IsTold, LeavesNoName, replica}
use Rattle.sw_hashpath.specs.declared.place.Place.{Place}
use Rattle.sw_keeper.specs.declared.tables.Tables.{Tables}
use Rattle.sw_pass.specs.Outcomes.{is_acknowledged}
use Rattle.sw_peer.proofs.Calls.{comes-moves}
use Rattle.sw_peer.proofs.ContCalls.{cont-made-step, cont-moves-refl, cont-moves-trans, look-step}
use Rattle.sw_peer.specs.ContSights.{ContMoves, IsContMade, IsIn, IsLooked}
use Rattle.sw_peer.specs.Sights.{Calls, Comes, IsSame, Nodes, Sight, cont_lock}
use Rattle.sw_peer.specs.declared.cont_event.ContEvent.TheVariants.{Parceled}
use Rattle.sw_peer.specs.declared.link.Link.{Link}
use Rattle.sw_peer.specs.declared.link.Link.TheVariants.{Local}
use Rattle.sw_peer.specs.declared.link.Lost.{Lost}
use Rattle.sw_rows.specs.declared.row.Row.{Row}

-- ---- what a call doesn't change

same-replica : (a b : Sight) (d : ℕ) (place : Place) → IsSame a b → replica b d place ≡ replica a d place
same-replica a b d place same = ap (λ (x : Sight). replica x d place) same.same

-- a device that tells at the later sight told at the earlier one
pub told-before : (at : ℕ → Place → Type 0) (d : ℕ) (place : Place) (a b : Sight) → ContMoves at a b → IsTold d place b → IsTold d place a
told-before at d place a b moves told =
    sym ((moves.containers.grows (cont_lock a.nodes d place)).told)
    ∙ (ap (λ (n : Nodes). (b.containers.seen (cont_lock n d place)).told) (sym moves.nodes) ∙ told)

pub told-after : (at : ℕ → Place → Type 0) (d : ℕ) (place : Place) (a b : Sight) → ContMoves at a b → IsTold d place a → IsTold d place b
told-after at d place a b moves told =
    ap (λ (n : Nodes). (b.containers.seen (cont_lock n d place)).told) moves.nodes ∙ ((moves.containers.grows (cont_lock a.nodes d place)).told ∙ told)

-- nobody else changes the nodes, and the device tells what it has
abbrev pub Sure : ℕ → Place → Sight → Type 0
Sure d place s = (s.alone ≡ true) × IsTold d place s

pub sure-before : (at : ℕ → Place → Type 0) (d : ℕ) (place : Place) (a b : Sight) → ContMoves at a b → Sure d place b → Sure d place a
sure-before at d place a b moves sure = (moves.alone sure.0, told-before at d place a b moves sure.1)

-- what a step at one container leaves elsewhere
module _ (link : Link) (device : ℕ) (place : Place) (change : ContChange) (a : Sight) (answer : ContAnswer) (b : Sight)
    (made : IsContMade link device place change a answer b) where
  pub elsewhere : b.alone ≡ true → (d : ℕ) (other : Place) → ((d ≡ device) × (other ≡ place) → ⊥) → replica b d other ≡ replica a d other
  elsewhere alone d other away = made.moves.containers.others alone d other away

  module _ (sure : Sure device place b) where
    told : IsTold device place a
    told = told-before (IsIn device place) device place a b made.moves sure.1

    stood : made.step.held place ≡ replica a device place
    stood = made.step.is_held sure.0 place refl

    pub here-merges : (S : Row → Type 0) → BringsOnly S change → Merges S (replica a device place) (replica b device place)
    here-merges S only =
        subst (λ (x : Option Tables). Merges S x (replica b device place)) stood
        (step-merges b.alone (a.containers.seen (cont_lock a.nodes device place)) made.step.held place change answer
        (b.containers.seen (cont_lock a.nodes device place)) (replica b device place) made.step.step sure.0 told S only)

    pub here-sets : (other rowid : ℕ) → change ≡ SetSync other rowid → Sets other rowid (replica a device place) (replica b device place)
    here-sets other rowid is =
        subst (λ (x : Option Tables). Sets other rowid x (replica b device place)) stood
        (step-sets b.alone (a.containers.seen (cont_lock a.nodes device place)) made.step.held place change answer
        (b.containers.seen (cont_lock a.nodes device place)) (replica b device place) made.step.step sure.0 told other rowid is)

    pub here-has : (row : Row) → change ≡ MergeRow row → is_acknowledged answer ≡ true → HasRow (replica b device place) row
    here-has =
        step-has b.alone (a.containers.seen (cont_lock a.nodes device place)) made.step.held place change answer
        (b.containers.seen (cont_lock a.nodes device place)) (replica b device place) made.step.step sure.0 told

    -- where no name is left to a shard
    module _ (row : Row) (is : change ≡ MergeRow row) (keeps : LeavesNoName (replica a device place)) where
      pub here-opens : LeavesNoName (replica b device place)
      here-opens =
          step-opens b.alone (a.containers.seen (cont_lock a.nodes device place)) made.step.held place change answer
          (b.containers.seen (cont_lock a.nodes device place)) (replica b device place) made.step.step sure.0 told row is
          (subst LeavesNoName (sym stood) keeps)

      pub here-stays : (shard : Place) → answer ≡ answers.Redirect shard → ⊥
      here-stays =
          step-stays b.alone (a.containers.seen (cont_lock a.nodes device place)) made.step.held place change answer
          (b.containers.seen (cont_lock a.nodes device place)) (replica b device place) made.step.step sure.0 told row is
          (subst LeavesNoName (sym stood) keeps)

-- ---- rows that come to one device

module _ (to : ℕ) (place : Place) (S : Row → Type 0) where
  -- rows of this kind were merged there, where no name is left to a shard then, and no other replica of the container changed
  pub record IsBrought (a b : Sight) : Type 0 where
    pub others : (d : ℕ) → d ≢ to → replica b d place ≡ replica a d place
    pub merges : Merges S (replica a to place) (replica b to place)
    pub opens : LeavesNoName (replica b to place)

  -- that is so where no name was left to one before
  pub record Brings (a b : Sight) : Type 0 where
    pub moves : ContMoves Anywhere a b
    pub brought : Sure to place b → LeavesNoName (replica a to place) → IsBrought a b

  nothing-brought : (a b : Sight) → ((d : ℕ) → replica b d place ≡ replica a d place) → LeavesNoName (replica a to place) → IsBrought a b
  nothing-brought a b same keeps = record {
    others = λ d away. same d;
    merges = merges-same S (replica a to place) (replica b to place) (same to);
    opens = subst LeavesNoName (sym (same to)) keeps;
  }

  pub brings-same : (a b : Sight) → b ≡ a → Brings a b
  brings-same a b same = subst (Brings a) (sym same) (record {
    moves = cont-moves-refl Anywhere a;
    brought = λ sure keeps. nothing-brought a a (λ d. refl) keeps;
  })

  pub brings-trans : (a b c : Sight) → Brings a b → Brings b c → Brings a c
  brings-trans a b c p q = record {
    moves = cont-moves-trans Anywhere a b c p.moves q.moves;
    brought = λ sure keeps.
        let first = p.brought (sure-before Anywhere to place b c q.moves sure) keeps in
        let second = q.brought sure first.opens in
        record {
          others = λ d away. second.others d away ∙ first.others d away;
          merges = merges-trans S (replica a to place) (replica b to place) (replica c to place) first.merges second.merges;
          opens = second.opens;
        };
  }

  module _ (link : Link) (row : Row) (only : S row) where
    one-brings : (a : Sight) (answer : ContAnswer) (b : Sight) → IsContMade link to place (MergeRow row) a answer b → Brings a b
    one-brings a answer b made = record {
      moves = moves-anywhere (IsIn to place) a b made.moves;
      brought = λ sure keeps. record {
        others = λ d away. elsewhere link to place (MergeRow row) a answer b made sure.0 d place (λ at. away at.0);
        merges = here-merges link to place (MergeRow row) a answer b made sure S only;
        opens = here-opens link to place (MergeRow row) a answer b made sure row refl keeps;
      };
    }

    come-bring : (a : Sight) (answers : List ContAnswer) (b : Sight) → Comes (IsContMade link to place (MergeRow row)) a answers b → Brings a b
    come-bring a [] b same = record {
      moves = moves-anywhere (IsIn to place) a b
          (comes-moves (ContMoves (IsIn to place)) (IsContMade link to place (MergeRow row)) (cont-made-step link to place (MergeRow row)) a [] b same);
      brought = λ sure keeps. nothing-brought a b (λ d. same-replica a b d place same) keeps;
    }
    come-bring a (answer ∷ answers) b came =
        brings-trans a came.0 b (one-brings a answer came.0 came.1) (come-bring came.0 answers b came.2)

    pub call-brings : (a : Sight) (r : Result ContAnswer Lost) (b : Sight) → Calls (IsContMade link to place (MergeRow row)) a link r b → Brings a b
    call-brings a (Ok answer) b call = come-bring a (call.0 ++ answer ∷ []) b call.2
    call-brings a (Err lost) b call = come-bring a call.2.0 b call.2.1

-- a row is answered there where no name is left to a shard
module _ (to : ℕ) (place : Place) (link : Link) (row : Row) (answer : ContAnswer) where
  come-stay : (a : Sight) (earlier : List ContAnswer) (b : Sight) → Comes (IsContMade link to place (MergeRow row)) a (earlier ++ answer ∷ []) b
      → Sure to place b → LeavesNoName (replica a to place) → (shard : Place) → answer ≡ answers.Redirect shard → ⊥
  come-stay a [] b came sure keeps =
      let moves = comes-moves (ContMoves (IsIn to place)) (IsContMade link to place (MergeRow row)) (cont-made-step link to place (MergeRow row)) came.0 [] b
      came.2 in
      here-stays link to place (MergeRow row) a answer came.0 came.1 (sure-before (IsIn to place) to place came.0 b moves sure) row refl keeps
  come-stay a (x ∷ earlier) b came sure keeps =
      let moves = comes-moves (ContMoves (IsIn to place)) (IsContMade link to place (MergeRow row)) (cont-made-step link to place (MergeRow row)) came.0
      (earlier ++ answer ∷ []) b came.2 in
      come-stay came.0 earlier b came.2 sure
      (here-opens link to place (MergeRow row) a x came.0 came.1 (sure-before (IsIn to place) to place came.0 b moves sure) row refl keeps)

  pub call-stays : (a b : Sight) → Calls (IsContMade link to place (MergeRow row)) a link (Ok answer) b → Sure to place b
      → LeavesNoName (replica a to place) → (shard : Place) → answer ≡ answers.Redirect shard → ⊥
  call-stays a b call sure keeps = come-stay a call.0 b call.2 sure keeps

-- a row that was acknowledged is there
module _ (to : ℕ) (place : Place) (link : Link) (row : Row) (answer : ContAnswer) (acknowledged : is_acknowledged answer ≡ true) where
  come-have : (a : Sight) (earlier : List ContAnswer) (b : Sight) → Comes (IsContMade link to place (MergeRow row)) a (earlier ++ answer ∷ []) b
      → Sure to place b → HasRow (replica b to place) row
  come-have a [] b came sure =
      let moves = comes-moves (ContMoves (IsIn to place)) (IsContMade link to place (MergeRow row)) (cont-made-step link to place (MergeRow row)) came.0 [] b
      came.2 in
      subst (λ (t : Option Tables). HasRow t row) (sym (same-replica came.0 b to place came.2))
      (here-has link to place (MergeRow row) a answer came.0 came.1 (sure-before (IsIn to place) to place came.0 b moves sure) row refl acknowledged)
  come-have a (x ∷ earlier) b came sure = come-have came.0 earlier b came.2 sure

  pub call-has : (a b : Sight) → Calls (IsContMade link to place (MergeRow row)) a link (Ok answer) b → Sure to place b → HasRow (replica b to place) row
  call-has a b call sure = come-have a call.0 b call.2 sure

-- ---- the point, at the sender itself

module _ (from to : ℕ) (place : Place) (top : ℕ) where
  -- the rows stayed everywhere, and so did the points, but the sender's for the receiver, which stayed or is this number
  pub record IsSet (a b : Sight) : Type 0 where
    pub others : (d : ℕ) → d ≢ from → replica b d place ≡ replica a d place
    pub sets : Sets to top (replica a from place) (replica b from place)

  pub call-sets : (a : Sight) (answer : ContAnswer) (b : Sight) → Calls (IsContMade Local from place (SetSync to top)) a Local (Ok answer) b
      → Sure from place b → IsSet a b
  call-sets a answer b call sure =
      once (subst (λ (earlier : List ContAnswer). Comes (IsContMade Local from place (SetSync to top)) a (earlier ++ answer ∷ []) b) (call.1 refl) call.2)
    where
      once : Comes (IsContMade Local from place (SetSync to top)) a (answer ∷ []) b → IsSet a b
      once came =
          let moves =
          comes-moves (ContMoves (IsIn from place)) (IsContMade Local from place (SetSync to top)) (cont-made-step Local from place (SetSync to top)) came.0
          [] b came.2 in
          let was = sure-before (IsIn from place) from place came.0 b moves sure in
          record {
            others = λ d away.
                same-replica came.0 b d place came.2
                ∙ elsewhere Local from place (SetSync to top) a answer came.0 came.1 was.0 d place (λ at. away at.0);
            sets =
                subst (Sets to top (replica a from place)) (sym (same-replica came.0 b from place came.2))
                (here-sets Local from place (SetSync to top) a answer came.0 came.1 was to top refl);
          }

-- ---- the read, at the sender itself

module _ (from to : ℕ) (place : Place) where
  abbrev Looks : Sight → Result Parcel ContAnswer → Sight → Type 0
  Looks = IsLooked Local from place (parcel_of to) (λ read. Parceled place to read)

  -- no replica changed, and what was read is what the sender has
  pub record IsParcelRead (a : Sight) (got : Result Parcel ContAnswer) (b : Sight) : Type 0 where
    pub moves : ContMoves (IsIn from place) a b
    pub holds : b.alone ≡ true → (d : ℕ) → replica b d place ≡ replica a d place
    pub parcel : (parcel : Parcel) → got ≡ Ok parcel → Sure from place b → (front : ℕ) × (Ok parcel ≡ parcel_of to (replica a from place) front)

  pub call-reads : (a : Sight) (got : Result Parcel ContAnswer) (b : Sight) → Calls Looks a Local (Ok got) b → IsParcelRead a got b
  call-reads a got b call = once (subst (λ (earlier : List (Result Parcel ContAnswer)). Comes Looks a (earlier ++ got ∷ []) b) (call.1 refl) call.2)
    where
      once : Comes Looks a (got ∷ []) b → IsParcelRead a got b
      once came = record {
        moves = cont-moves-trans (IsIn from place) a came.0 b came.1.moves moves;
        holds = same;
        parcel = λ parcel is sure. told parcel is sure;
      }
        where
          moves : ContMoves (IsIn from place) came.0 b
          moves =
              comes-moves (ContMoves (IsIn from place)) Looks (look-step Local from place (parcel_of to) (λ read. Parceled place to read)) came.0 [] b
              came.2

          same : b.alone ≡ true → (d : ℕ) → replica b d place ≡ replica a d place
          same alone d = same-replica came.0 b d place came.2 ∙ came.1.holds_all (moves.alone alone) d place

          told : (parcel : Parcel) → got ≡ Ok parcel → Sure from place b → (front : ℕ) × (Ok parcel ≡ parcel_of to (replica a from place) front)
          told parcel is sure = by (subst (Under a came.0) is came.1.step)
            where
              Under : Sight → Sight → Result Parcel ContAnswer → Type 0
              Under x y r =
                  ReadsUnder (cont_lock x.nodes from) y.alone (x.containers.seen (cont_lock x.nodes from place)) place (parcel_of to) r
                  (y.containers.seen (cont_lock x.nodes from place)) (y.containers.holds from)

              by : Under a came.0 (Ok parcel) → (front : ℕ) × (Ok parcel ≡ parcel_of to (replica a from place) front)
              by under =
                  let was : Sure from place came.0 = sure-before (IsIn from place) from place came.0 b moves sure in
                  let telling : (came.0.containers.seen (cont_lock a.nodes from place)).told ≡ true =
                  ap (λ (n : Nodes). (came.0.containers.seen (cont_lock n from place)).told) (sym came.1.moves.nodes) ∙ was.1 in
                  let front : ℕ = length (came.0.containers.seen (cont_lock a.nodes from place)).journal.entries in (
                    front,
                    under.step.shown refl
                        ∙ ap (λ (t : Option Tables). parcel_of to t front)
                        (under.step.held was.0 telling refl place refl
                        ∙ (under.is_held was.0 place refl ∙ came.1.holds_all was.0 from place)),
                  )
