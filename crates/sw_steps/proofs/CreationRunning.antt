-- Creating shards is an honest run of the machine: the list of ranges is set behind the creation of each replica of each shard, and the one that is sent is the
-- one that the sender has.
use Rattle.std.proofs.Common.{◌≡◌, ◌≢◌, ℕ, Bool, true, false, cond, not, ◌==◌, suc, List, [], ◌∷◌, ◌++◌, refl, sym, ◌∙◌, ap, subst, true≢false}
use Rattle.std.proofs.Common.{inl, inr, Option, None, Some, Result, Ok, Err}
use Rattle.std.proofs.lemmas.Bool.{eq-eqb}
use Rattle.std.proofs.lemmas.List.Elements.{All-cons, All-contains, All-head, All-nil, All-tail, All-weaker, filter_passes}
use Rattle.std.specs.List.{All}
use Rattle.sw_cleave.proofs.Leaving.{made-leaves}
use Rattle.sw_cleave.specs.Creating.{AreCreated, IsCreate, IsCreated, IsCreatedAt, IsCreationHeard, IsCutNext, IsFound, IsFoundNext, IsListGiven, IsListNext}
use Rattle.sw_cleave.specs.Creating.{IsListSent, IsListSet, IsRun, IsSetNext, IsShardingNext, IsSplit, UpToFirst, others}
use Rattle.sw_cleave.specs.Cutting.{AreCutFrom, IsCutInto, IsRangeBetween}
use Rattle.sw_container_steps.specs.Entries.{ranged}
use Rattle.sw_container_steps.specs.Laws.{left}
use Rattle.sw_container_steps.specs.Presence.{deletion_after, is_no_time}
use Rattle.sw_container_steps.specs.Reads.{parcel_of, sharding_of}
use Rattle.sw_container_steps.specs.Steps.{cont_refusal, ranging_refusal}
use Rattle.sw_container_steps.specs.declared.cont_answer.ContAnswer.{ContAnswer}
use Rattle.sw_container_steps.specs.declared.cont_answer.ContAnswer.TheVariants as answers
use Rattle.sw_container_steps.specs.declared.cont_change.ContChange.TheVariants.{Create, SetRanges}
use Rattle.sw_container_steps.specs.declared.sharding.Sharding.{Sharding}
use Rattle.sw_container_steps.specs.declared.syncing.Parcel.{Parcel}
use Rattle.sw_hashpath.specs.declared.place.Place.{Place}
use Rattle.sw_hashpath.specs.declared.secrets.Secrets.{Secrets}
use Rattle.sw_keeper.specs.declared.tables.Tables.{Tables}
use Rattle.sw_lossy.specs.Losses.{around, begun}
use Rattle.sw_lossy.specs.declared.acts.Acts.{Acts}
use Rattle.sw_machine.proofs.Doors.{parcels, shardings}
use Rattle.sw_machine.specs.Honest.{WasTaken}
use Rattle.sw_machine.specs.Machine.{HasList, RunLine}
use Rattle.sw_machine.specs.Messages.{Creation_of, Ranges_of}
use Rattle.sw_outside.specs.declared.errors.NoMemory.{NoMemory}
use Rattle.sw_pass.specs.Outcomes.{is_acknowledged, nothing_yet, sending}
use Rattle.sw_pass.specs.Rings.{replicas_in}
use Rattle.sw_pass.specs.Turns.{InTurn}
use Rattle.sw_pass.specs.declared.outcome.Outcome.{Outcome}
use Rattle.sw_peer.specs.ContSights.{IsContMade, IsIn, IsLooked}
use Rattle.sw_peer.specs.Sights.{Calls, Sight, cont_lock}
use Rattle.sw_peer.specs.declared.cont_event.ContEvent.TheVariants.{Parceled, Sharded}
use Rattle.sw_peer.specs.declared.link.Link.TheVariants.{Local, Sent}
use Rattle.sw_peer.specs.declared.link.Lost.{Lost}
use Rattle.sw_ring.specs.declared.ring.Ring.{Ring}
use Rattle.sw_shard_range.specs.Laws.{AreTiled}
use Rattle.sw_shard_range.specs.Names.{is_hidden}
use Rattle.sw_shard_range.specs.States.{all_in_state}
use Rattle.sw_shard_range.specs.declared.range.Range.{Range}
use Rattle.sw_steps.proofs.Behind.{Any, Both, Fact, GoesFrom, RunsFrom, TookAs, from-any, from-beside, from-honestly, from-join, from-same, from-weaker}
use Rattle.sw_steps.proofs.Behind.{looked-from, made-from, sent-from}
use Rattle.sw_steps.proofs.Evidence.{AreThere, Lasts, are-there-lasts, taken-lasts, taken-remains}
use Rattle.sw_steps.proofs.GoingBy.{came-local}
use Rattle.sw_steps.proofs.Holding.{Looks, Tells, change-moves, looked-tells, tells-machine, told-before}
use Rattle.sw_steps.proofs.Staying.{StaysBy, elsewhere-stays, stays-tells}
use Rattle.sw_steps.proofs.Within.{honest-within}
use Rattle.sw_steps.specs.Laws.{CreationsRun}
use Rattle.sw_steps.specs.Passing.{AreShardsCreatedOver}

-- ---- things that are created in their order

module _ (secrets : Secrets) (replicas : Place → List ℕ) {A : Type 0} (one : A → Sight → Outcome → Sight → Outcome → Bool → Bool → Type 0)
    (did : A → Fact) (did_lasts : (x : A) → Lasts (did x))
    (each : (x : A) (a : Sight) (o : Outcome) (b : Sight) (p : Outcome) (made on : Bool) → one x a o b p made on
    → GoesFrom secrets replicas Any (λ done. made ≡ true → did x done) a b) where
  -- behind them all were made, where that was answered
  abbrev AllDid : List A → Bool → Fact
  AllDid xs made done = made ≡ true → All (λ x. did x done) xs

  all-did : (x : A) (xs : List A) (made : Bool) (done : List RunLine) → Both (did x) (AllDid xs made) done → AllDid (x ∷ xs) made done
  all-did x xs made done both is = All-cons (λ (y : A). did y done) x xs both.0 (both.1 is)

  up-to-first-goes : (xs : List A) (a : Sight) (o : Outcome) (b : Sight) (p : Outcome) (made on : Bool) → UpToFirst one xs a o b p made on
      → GoesFrom secrets replicas Any (AllDid xs made) a b
  up-to-first-goes [] a o b p made on is = from-same secrets replicas Any (AllDid [] made) (λ done any made_is. All-nil (λ x. did x done)) a b is.0
  up-to-first-goes (x ∷ xs) a o b p made on (inl went) =
      from-join secrets replicas Any (did x) (AllDid (x ∷ xs) made) a went.0 b
      (from-weaker secrets replicas Any Any (λ done. true ≡ true → did x done) (did x) (λ done any. tt) (λ done is. is refl) a went.0
      (each x a o went.0 went.1 true true went.2))
      (from-weaker secrets replicas (did x) (Both (did x) Any) (Both (did x) (AllDid xs made)) (AllDid (x ∷ xs) made) (λ done is. (is, tt))
      (all-did x xs made) went.0 b
      (from-beside secrets replicas (did x) (did_lasts x) Any (AllDid xs made) went.0 b (up-to-first-goes xs went.0 went.1 b p made on went.3)))
  up-to-first-goes (x ∷ xs) a o b p made on (inr stopped) =
      from-weaker secrets replicas Any Any (λ done. false ≡ true → did x done) (AllDid (x ∷ xs) made) (λ done any. tt)
      (λ done is made_is. absurd (true≢false (sym made_is ∙ stopped.1))) a b (each x a o b p false on stopped.0)

-- ---- ranges that were cut are all CREATED

module _ (secrets : Secrets) (place : Place) (time : ℕ) where
  range-created : (index : ℕ) (lower upper : List ℕ) (range : Range) → IsRangeBetween secrets place time index lower upper range
      → record range { state = 20 } ≡ range
  range-created index lower upper range is = ap (λ (state : ℕ). record range { state = state }) (sym is.state_is)

  pub cut-created : (index : ℕ) (lower : List ℕ) (bounds : List (List ℕ)) (ranges : List Range) → AreCutFrom secrets place time index lower bounds ranges
      → all_in_state 20 ranges ≡ ranges
  cut-created index lower bounds [] is = absurd is
  cut-created index lower [] (range ∷ []) is = ap (λ (r : Range). r ∷ []) (range-created index lower [] range is)
  cut-created index lower [] (range ∷ more ∷ ranges) is = absurd is
  cut-created index lower (bound ∷ bounds) (range ∷ ranges) is =
      ap (λ (r : Range). r ∷ all_in_state 20 ranges) (range-created index lower bound range is.0)
      ∙ ap (λ (rs : List Range). range ∷ rs) (cut-created (suc index) bound bounds ranges is.1)

-- ---- a container that tells of a list has it

read-has : (sharding : Sharding) (t : Option Tables) (front : ℕ) → Ok sharding ≡ sharding_of t front
    → (list : List Range) → sharding.ranges ≡ Some list → HasList t list
read-has sharding None front is list same = cc
read-has sharding (Some t) front is list same = by (is_no_time (deletion_after t.put_time t.delete_time)) is
  where
    by : (b : Bool) → Ok sharding ≡ cond b (Ok (record { ranges = t.ranges; cursor = t.cursor; points = t.points; emptied = t.emptied })) (Err answers.Absent)
        → t.ranges ≡ Some list
    by true tells = let here : t.ranges ≡ sharding.ranges = cc in here ∙ same
    by false tells = cc

-- so has one that set it
set-has : (ranges : List Range) (t : Option Tables) (place : Place) → cont_refusal t place (SetRanges ranges) ≡ None
    → HasList (left t place (SetRanges ranges)) (all_in_state 20 ranges)
set-has ranges None place allowed = cc
set-has ranges (Some t) place allowed = there (is_no_time (deletion_after t.put_time t.delete_time)) allowed
  where
    with : (o : Option (List Range)) → ranging_refusal o ≡ None → (ranged t o ranges).ranges ≡ Some (all_in_state 20 ranges)
    with None fine = refl
    with (Some old) fine = cc

    there : (b : Bool) → cond b (ranging_refusal t.ranges) (Some answers.Absent) ≡ None → (ranged t t.ranges ranges).ranges ≡ Some (all_in_state 20 ranges)
    there true fine = with t.ranges fine
    there false fine = cc

module _ (device : ℕ) (place : Place) where
  -- the sender has this list, as far as its lock tells it
  abbrev Has : List Range → Sight → Type 0
  Has ranges = Tells device place (λ t. HasList t ranges)

  one-sets : (ranges : List Range) (answer : ContAnswer) → is_acknowledged answer ≡ true → (a b : Sight)
      → IsContMade Local device place (SetRanges ranges) a answer b → Has (all_in_state 20 ranges) b
  one-sets ranges answer acknowledged a b made alone told =
      let step = made.step in
      let stands =
      made-leaves b.alone (a.containers.seen (cont_lock a.nodes device place)) step.held place (SetRanges ranges) answer
      (b.containers.seen (cont_lock a.nodes device place)) (b.containers.holds device place) step.step alone
      (told-before device place (IsIn device place) a b made.moves told) acknowledged in
      subst (λ (t : Option Tables). HasList t (all_in_state 20 ranges)) (sym stands.1) (set-has ranges (step.held place) place stands.0)

  sets : (ranges : List Range) (answer : ContAnswer) → is_acknowledged answer ≡ true → (a b : Sight)
      → Calls (IsContMade Local device place (SetRanges ranges)) a Local (Ok answer) b → Has (all_in_state 20 ranges) b
  sets ranges answer acknowledged a b call =
      let one = came-local (IsContMade Local device place (SetRanges ranges)) a answer b call in
      subst (Has (all_in_state 20 ranges)) (sym one.2.same) (one-sets ranges answer acknowledged a one.0 one.1)

module _ (ring : Ring) (device : ℕ) (place : Place) (seen : is_hidden place ≡ false) where
  abbrev Runs : Fact → Fact → Sight → Sight → Type 0
  Runs = RunsFrom ring.secrets (replicas_in ring)

  abbrev Goes : Fact → Fact → Sight → Sight → Type 0
  Goes = GoesFrom ring.secrets (replicas_in ring)

  as-it-was : (a b : Sight) → b ≡ a → Goes Any Any a b
  as-it-was = from-same ring.secrets (replicas_in ring) Any Any (λ done any. tt)

  then-any : (a b c : Sight) → Goes Any Any a b → Goes Any Any b c → Goes Any Any a c
  then-any = from-join ring.secrets (replicas_in ring) Any Any Any

  -- ---- the list goes to other devices

  abbrev Has_list : List Range → Sight → Type 0
  Has_list = Has device place

  abbrev Stays : Sight → Sight → Type 0
  Stays = StaysBy device place (λ t. t) (Runs Any Any)

  list-stays : (ranges : List Range) (to : ℕ) → device ≢ to → (a : Sight) (o : Outcome) (b : Sight) (p : Outcome) (on : Bool) → Has_list ranges a
      → IsListSent place (SetRanges ranges) to a o b p on → Stays a b
  list-stays ranges to apart a o b p on own is =
      let moves = change-moves Sent to place (SetRanges ranges) a is.0 b is.1 in
      elsewhere-stays device place (λ t. t) (Runs Any Any) to place (λ at. apart at.0) a b moves
      (sent-from ring.secrets (replicas_in ring) device to place (SetRanges ranges) (Ranges_of to place ranges) (λ answer entries. (refl, refl, refl)) Any Any
      (λ done any. tt) is.0 (λ done lines any took. tt) a b is.1
      (λ alone m stands. tells-machine device place (λ t. HasList t ranges) a m stands (moves.alone alone) own))

  lists-go : (ranges : List Range) (devices : List ℕ) → All (λ to. device ≢ to) devices → (a : Sight) (o : Outcome) (b : Sight) (p : Outcome) (on : Bool)
      → Has_list ranges a → InTurn (IsListSent place (SetRanges ranges)) devices a o b p on → Goes Any Any a b
  lists-go ranges [] apart a o b p on own is = as-it-was a b is.0
  lists-go ranges (to ∷ devices) apart a o b p on own (inl went) =
      let one : Stays a went.0 =
      list-stays ranges to (All-head (λ to. device ≢ to) to devices apart) a o went.0 went.1 true own went.2 in
      then-any a went.0 b one.goes
      (lists-go ranges devices (All-tail (λ to. device ≢ to) to devices apart) went.0 went.1 b p on
      (stays-tells device place (λ t. t) (Runs Any Any) (λ t. HasList t ranges) a went.0 one own) went.3)
  lists-go ranges (to ∷ devices) apart a o b p on own (inr stopped) =
      (list-stays ranges to (All-head (λ to. device ≢ to) to devices apart) a o b p false own stopped.0).goes

  others-apart : All (λ to. device ≢ to) (others ring device place)
  others-apart =
      All-weaker (λ to. not (to == device) ≡ true) (λ to. device ≢ to) (λ to is same. differs to is same) (others ring device place)
      (filter_passes (λ to. not (to == device)) (replicas_in ring place))
    where
      differs : (to : ℕ) → not (to == device) ≡ true → device ≡ to → ⊥
      differs to is same = let one : (to == device) ≡ true = eq-eqb to device (sym same) in true≢false (sym is ∙ ap not one)

  given-goes : (ranges : List Range) (a : Sight) (o : Outcome) (b : Sight) (p : Outcome) (came : _) (on : Bool) → Has_list ranges a
      → IsListGiven ring device place (SetRanges ranges) a o b p came on → Goes Any Any a b
  given-goes ranges a o b p came on own is = lists-go ranges (others ring device place) others-apart a o b p on own is.0

  -- ---- it is set at the device itself first, behind the creation of all shards

  module _ (ranges : List Range) (created : all_in_state 20 ranges ≡ ranges) (tiled : AreTiled ranges) where
    abbrev AllThere : Fact
    AllThere done = All (AreThere ring.secrets (replicas_in ring) done) ranges

    set-next-goes : (s : Sight) (answer : ContAnswer) (a : Sight) (o : Outcome) (b : Sight) (p : Outcome) (came : _) (on : Bool)
        → Calls (IsContMade Local device place (SetRanges ranges)) s Local (Ok answer) a
        → IsSetNext ring device place (SetRanges ranges) answer a o b p came on → Goes Any Any a b
    set-next-goes s answer a o b p came on call (inl given) =
        given-goes ranges a o b p came on
        (subst (λ (rs : List Range). Has_list rs a) created (sets device place ranges answer given.0 s a call)) given.1
    set-next-goes s answer a o b p came on call (inr hindered) = as-it-was a b hindered.1

    list-set-goes : (a : Sight) (o : Outcome) (b : Sight) (p : Outcome) (came : _) (on : Bool)
        → IsListSet ring device place (SetRanges ranges) a o b p came on → Goes AllThere Any a b
    list-set-goes a o b p came on is =
        from-join ring.secrets (replicas_in ring) AllThere Any Any a is.1 b
        (made-from ring.secrets (replicas_in ring) device place (SetRanges ranges) AllThere Any
        (λ done there. record { plain = seen; tiled = tiled; made = there }) (λ done lines there. tt) a is.0 is.1 is.2)
        (set-next-goes a is.0 is.1 o b p came on is.2 is.3)

  module _ (time : ℕ) where
    -- ---- shards are created

    -- this device created the shard
    abbrev IsThere : Place → ℕ → Fact
    IsThere shard to done = WasTaken done to shard (Create time)

    created-took : (shard : Place) (to : ℕ) (r : Result ContAnswer Lost) (o p : Outcome) (made on : Bool) → IsCreationHeard r o p made on
        → (done lines : List RunLine) → TookAs to shard (Create time) r lines → made ≡ true → IsThere shard to (done ++ lines)
    created-took shard to (Ok answer) o p made on (inl is) done lines took made_is =
        taken-remains to shard (Create time) done lines (took is.0)
    created-took shard to (Ok answer) o p made on (inr hindered) done lines took made_is = absurd (true≢false (sym made_is ∙ hindered.2))
    created-took shard to (Err lost) o p made on is done lines took made_is = absurd (true≢false (sym made_is ∙ is.1))

    created-goes : (shard : Place) (to : ℕ) (a : Sight) (o : Outcome) (b : Sight) (p : Outcome) (made on : Bool) → IsCreated time shard to a o b p made on
        → Goes Any (λ done. made ≡ true → IsThere shard to done) a b
    created-goes shard to a o b p made on is =
        sent-from ring.secrets (replicas_in ring) device to shard (Create time) (Creation_of to shard time) (λ answer entries. (refl, refl, refl)) Any
        (λ done. made ≡ true → IsThere shard to done) (λ done any. tt) is.0
        (λ done lines any took. created-took shard to is.0 (sending o) p made on is.2 done lines took) a b is.1 (λ alone m stands. tt)

    created-at-goes : (shard : Place) (devices : List ℕ) (a : Sight) (o : Outcome) (b : Sight) (p : Outcome) (made on : Bool)
        → IsCreatedAt time shard devices a o b p made on → Goes Any (λ done. made ≡ true → All (λ to. IsThere shard to done) devices) a b
    created-at-goes shard devices a o b p made on is =
        up-to-first-goes ring.secrets (replicas_in ring) (IsCreated time shard) (IsThere shard) (λ to. taken-lasts to shard (Create time))
        (created-goes shard) devices a o b p made on is

    range-created-goes : (range : Range) (a : Sight) (o : Outcome) (b : Sight) (p : Outcome) (made on : Bool)
        → IsCreatedAt time range.shard (replicas_in ring range.shard) a o b p made on
        → Goes Any (λ done. made ≡ true → AreThere ring.secrets (replicas_in ring) done range) a b
    range-created-goes range a o b p made on is =
        from-weaker ring.secrets (replicas_in ring) Any Any
        (λ done. made ≡ true → All (λ to. IsThere range.shard to done) (replicas_in ring range.shard))
        (λ done. made ≡ true → AreThere ring.secrets (replicas_in ring) done range) (λ done any. tt)
        (λ done all made_is r among.
        (time, All-contains (λ to. IsThere range.shard to done) (replicas_in ring range.shard) r (all made_is) among)) a b
        (created-at-goes range.shard (replicas_in ring range.shard) a o b p made on is)

    all-created-go : (ranges : List Range) (a : Sight) (o : Outcome) (b : Sight) (p : Outcome) (made on : Bool) → AreCreated time ring ranges a o b p made on
        → Goes Any (λ done. made ≡ true → All (AreThere ring.secrets (replicas_in ring) done) ranges) a b
    all-created-go ranges a o b p made on is =
        up-to-first-goes ring.secrets (replicas_in ring) (λ (range : Range). IsCreatedAt time range.shard (replicas_in ring range.shard))
        (λ range done. AreThere ring.secrets (replicas_in ring) done range) (are-there-lasts ring.secrets (replicas_in ring)) range-created-goes ranges
        a o b p made on is

    -- ---- the container is split

    split-goes : (ranges : List Range) → all_in_state 20 ranges ≡ ranges → AreTiled ranges → (a : Sight) (o : Outcome) (b : Sight) (p : Outcome) (came : _)
        (on : Bool) → IsSplit ring device place time ranges a o b p came on → Goes Any Any a b
    split-goes ranges created tiled a o b p came on (inl went) =
        from-join ring.secrets (replicas_in ring) Any (AllThere ranges created tiled) Any a went.0 b
        (from-weaker ring.secrets (replicas_in ring) Any Any (λ done. true ≡ true → All (AreThere ring.secrets (replicas_in ring) done) ranges)
        (AllThere ranges created tiled) (λ done any. tt) (λ done all. all refl) a went.0 (all-created-go ranges a o went.0 went.1 true true went.2))
        (list-set-goes ranges created tiled went.0 went.1 b p came on went.3)
    split-goes ranges created tiled a o b p came on (inr stopped) =
        from-any ring.secrets (replicas_in ring) Any (λ done. false ≡ true → All (AreThere ring.secrets (replicas_in ring) done) ranges) a b
        (all-created-go ranges a o b p false on stopped.0)

    cut-goes : (bounds : List (List ℕ)) (cut : Option (List Range)) (a : Sight) (o : Outcome) (b : Sight) (p : Outcome) (came : _) (on : Bool)
        → IsCutInto ring.secrets place time bounds cut → IsCutNext ring device place time cut a o b p came on → Goes Any Any a b
    cut-goes bounds (Some ranges) a o b p came on are is =
        split-goes ranges (cut-created ring.secrets place time 0 [] bounds ranges are.0) are.1 a o b p came on is
    cut-goes bounds None a o b p came on are is = as-it-was a b is.0

  -- ---- the whole

  -- reads of which nothing has to be known
  sharding-read-goes : (a : Sight) (got : Result Sharding ContAnswer) (b : Sight)
      → Calls (Looks device place sharding_of (λ read. Sharded place read)) a Local (Ok got) b → Goes Any Any a b
  sharding-read-goes a got b call =
      looked-from ring.secrets (replicas_in ring) device place sharding_of (λ read. Sharded place read) (shardings device place) Any Any got
      (λ done entries any. (tt, tt)) (λ done wants any. tt) a b call

  rows-read-goes : (a : Sight) (got : Result Parcel ContAnswer) (b : Sight)
      → Calls (Looks device place (parcel_of device) (λ read. Parceled place device read)) a Local (Ok got) b → Goes Any Any a b
  rows-read-goes a got b call =
      looked-from ring.secrets (replicas_in ring) device place (parcel_of device) (λ read. Parceled place device read) (parcels device place device) Any Any
      got (λ done entries any. (tt, tt)) (λ done wants any. tt) a b call

  module _ (per_shard time : ℕ) where
    found-next-goes : (got : Result Parcel ContAnswer) (a : Sight) (o : Outcome) (b : Sight) (p : Outcome) (came : _) (on : Bool)
        → IsFoundNext ring device place per_shard time got a o b p came on → Goes Any Any a b
    found-next-goes (Ok parcel) a o b p came on (inl is) = cut-goes time _ is.0 a o b p came on is.1 is.2
    found-next-goes (Ok parcel) a o b p came on (inr wants) = as-it-was a b wants.0
    found-next-goes (Err answer) a o b p came on is = as-it-was a b is.0

    found-goes : (a : Sight) (o : Outcome) (b : Sight) (p : Outcome) (came : _) (on : Bool) → IsFound ring device place per_shard time a o b p came on
        → Goes Any Any a b
    found-goes a o b p came on is =
        then-any a is.1 b (rows-read-goes a is.0 is.1 is.2) (found-next-goes is.0 is.1 o b p came on is.3)

    list-next-goes : (ranges : Option (List Range)) (a : Sight) (o : Outcome) (b : Sight) (p : Outcome) (came : _) (on : Bool)
        → Tells device place (λ t. (list : List Range) → ranges ≡ Some list → HasList t list) a
        → IsListNext ring device place per_shard time ranges a o b p came on → Goes Any Any a b
    list-next-goes None a o b p came on own is = found-goes a o b p came on is
    list-next-goes (Some list) a o b p came on own is = given-goes list a o b p came on (λ alone told. own alone told list refl) is

    sharding-next-goes : (s : Sight) (got : Result Sharding ContAnswer) (a : Sight) (o : Outcome) (b : Sight) (p : Outcome) (came : _) (on : Bool)
        → Calls (IsLooked Local device place sharding_of (λ read. Sharded place read)) s Local (Ok got) a
        → IsShardingNext ring device place per_shard time got a o b p came on → Goes Any Any a b
    sharding-next-goes s (Ok sharding) a o b p came on call is =
        list-next-goes sharding.ranges a o b p came on
        (looked-tells device place sharding_of (λ read. Sharded place read) (λ t. (list : List Range) → sharding.ranges ≡ Some list → HasList t list)
        sharding (λ t front same. read-has sharding t front same) s a call) is
    sharding-next-goes s (Err answer) a o b p came on call is = as-it-was a b is.0

    run-goes : (a b : Sight) (p : Outcome) (came : _) (on : Bool) → IsRun ring device place per_shard time a b p came on → Goes Any Any a b
    run-goes a b p came on is =
        then-any a is.1 b (sharding-read-goes a is.0 is.1 is.2) (sharding-next-goes a is.0 is.1 nothing_yet b p came on is.2 is.3)

    pub creation-goes-on : (s : Sight) (result : Result Outcome NoMemory) (t : Sight) → IsCreate ring device place per_shard time s result t → Goes Any Any s t
    creation-goes-on s (Ok outcome) t is = run-goes s t is.0 is.1 true is.2
    creation-goes-on s (Err wanting) t is = run-goes s t is.0 is.1 false is.2

-- the nodes and the door around them after such a pass
abbrev pub creation_sight_after : {ring : Ring} {device : ℕ} {place : Place} {per_shard time : ℕ} {acts : Acts} {s : Sight} {result : Result Outcome NoMemory}
    {t : Sight} → AreShardsCreatedOver ring device place per_shard time acts s result t → Sight
creation_sight_after {t = t} over = around t over.acts_behind over.messages over.faults over.asks

pub creations_run : CreationsRun
creations_run ring device place per_shard time acts s result t over seen alone =
    honest-within s t acts over.acts_behind 0 0 0 over.messages over.faults over.asks ring.secrets (replicas_in ring)
    (from-honestly ring.secrets (replicas_in ring) Any (begun acts s) (creation_sight_after over) (λ done. tt)
    ((creation-goes-on ring device place seen per_shard time (begun acts s) result (creation_sight_after over) over.creates).runs alone))

pub creation-over-nodes : (ring : Ring) (device : ℕ) (place : Place) (per_shard time : ℕ) (acts : Acts) (s : Sight) (result : Result Outcome NoMemory)
    (t : Sight) → is_hidden place ≡ false → AreShardsCreatedOver ring device place per_shard time acts s result t → t.nodes ≡ s.nodes
creation-over-nodes ring device place per_shard time acts s result t seen over =
    (creation-goes-on ring device place seen per_shard time (begun acts s) result (creation_sight_after over) over.creates).nodes
