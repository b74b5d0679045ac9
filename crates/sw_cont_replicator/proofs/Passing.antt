-- The calls of a push in their order: what they bring, and where nothing is left.
use Rattle.std.proofs.Common.{◌≡◌, ℕ, Bool, true, false, ◌==◌, ◌&&◌, List, [], ◌∷◌, All, inl, inr, refl, sym, ◌∙◌, ap, subst, arith, Option, Some, None}
use Rattle.std.proofs.Common.{Result, Ok, Err, ◌⊎◌}
use Rattle.std.specs.Bool.{⊤}
use Rattle.std.proofs.lemmas.List.Elements.{All-cons, All-head, All-nil, All-tail}
use Rattle.sw_container_steps.specs.declared.cont_answer.ContAnswer.{ContAnswer}
use Rattle.sw_container_steps.specs.declared.cont_answer.ContAnswer.TheVariants as conts
use Rattle.sw_container_steps.specs.declared.cont_change.ContChange.TheVariants.{MergeRow, SetSync}
use Rattle.sw_container_steps.specs.declared.syncing.Parcel.{Parcel}
use Rattle.sw_cont_replicator.proofs.Entering.{still-has}
use Rattle.sw_cont_replicator.proofs.Keeping.{heard-moves, row-keeps}
use Rattle.sw_cont_replicator.proofs.Making.{Brings, IsBrought, IsParcelRead, Sure, brings-same, brings-trans, call-brings, call-has, call-reads, call-stays}
use Rattle.sw_cont_replicator.proofs.Making.{sure-before}
use Rattle.sw_cont_replicator.proofs.Sending.{Anywhere, moves-anywhere}
use Rattle.sw_cont_replicator.specs.Meeting.{HasRow, IsDone, LeavesNoName, replica}
use Rattle.sw_cont_replicator.specs.Pushing.{IsParcelSent, IsPointKept, IsReached, IsReadNext, IsRowHeard, IsRowHeardAs, IsRowSent, IsRun}
use Rattle.sw_hashpath.specs.declared.place.Place.{Place}
use Rattle.sw_outside.specs.Counts.{raised}
use Rattle.sw_pass.specs.Outcomes.{Hinders, cont_hindrance, hindered, is_acknowledged, losing, nothing_yet, sending}
use Rattle.sw_pass.specs.Turns.{InTurn}
use Rattle.sw_pass.specs.declared.hindrance.Hindrance.{Hindrance}
use Rattle.sw_pass.specs.declared.outcome.Outcome.{Outcome}
use Rattle.sw_peer.specs.ContSights.{IsContMade}
use Rattle.sw_peer.specs.Sights.{Calls, Sight}
use Rattle.sw_peer.specs.declared.link.Link.TheVariants.{Local, Sent}
use Rattle.sw_peer.specs.declared.link.Lost.{Lost}
use Rattle.sw_redirect.specs.Hearing.{heard_of}
use Rattle.sw_ring.specs.declared.ring.Ring.{Ring}
use Rattle.sw_rows.specs.declared.row.Row.{Row}

-- ---- where nothing is left nothing was before

raised-some : (n : ℕ) → raised n ≡ 0 → ⊥
raised-some n is = omega (arith, is)

never : true ≡ false → ⊥
never is = cc

left_is : (p o : Outcome) → p ≡ o → p.left ≡ 0 → o.left ≡ 0
left_is p o is none = ap (λ (x : Outcome). x.left) (sym is) ∙ none

hinders-none : (h : Option Hindrance) (o p : Outcome) → Hinders h o p true → p.left ≡ 0 → ⊥
hinders-none (Some h) o p is none = raised-some o.left (left_is p (hindered o h) is.0 none)
hinders-none None o p is none = never is.1

-- ---- rows that are sent

-- a row of any kind
abbrev pub Any : Row → Type 0
Any row = ⊤

pub all-any : (rows : List Row) → All Any rows
all-any rows = λ k d lt. tt

-- what a push goes on with where the receiver's answer to a row leaves it to no shard
abbrev IsAnsweredThere : Result ContAnswer Lost → Sight → Outcome → Sight → Outcome → Bool → Type 0
IsAnsweredThere (Ok answer) s o t p on =
    (t ≡ s) × (((is_acknowledged answer ≡ true) × (p ≡ o) × (on ≡ true)) ⊎ Hinders (cont_hindrance answer) o p on)
IsAnsweredThere (Err lost) s o t p on = (t ≡ s) × (p ≡ losing o) × (on ≡ true)

module _ (ring : Ring) (to : ℕ) (place : Place) where
  module _ (row : Row) (s : Sight) (o : Outcome) (t : Sight) (p : Outcome) (on : Bool) where
    answered-there : (answer : ContAnswer) → ((shard : Place) → answer ≡ conts.Redirect shard → ⊥)
        → IsRowHeardAs ring row (heard_of place answer) s o t p on → IsAnsweredThere (Ok answer) s o t p on
    answered-there (conts.New front) stays is = (is.0, inl (refl, is.1, is.2))
    answered-there (conts.There front) stays is = (is.0, inl (refl, is.1, is.2))
    answered-there (conts.Done front) stays is = (is.0, inl (refl, is.1, is.2))
    answered-there conts.Absent stays is = (is.0, inr is.1)
    answered-there (conts.Stale time) stays is = (is.0, inr is.1)
    answered-there (conts.NotEmpty count) stays is = (is.0, inr is.1)
    answered-there conts.HasRanges stays is = (is.0, inr is.1)
    answered-there conts.NoRanges stays is = (is.0, inr is.1)
    answered-there (conts.Redirect shard) stays is = absurd (stays shard refl)
    answered-there (conts.StillOpen cursor) stays is = (is.0, inr is.1)
    answered-there (conts.Later number) stays is = (is.0, inr is.1)
    answered-there (conts.NotAcked lagging) stays is = (is.0, inr is.1)
    answered-there conts.JournalFull stays is = (is.0, inr is.1)
    answered-there conts.Failed stays is = (is.0, inr is.1)
    answered-there conts.NoMemory stays is = (is.0, inr is.1)

    heard-there : (r : Result ContAnswer Lost) → ((answer : ContAnswer) → r ≡ Ok answer → (shard : Place) → answer ≡ conts.Redirect shard → ⊥)
        → IsRowHeard ring place row r s o t p on → IsAnsweredThere r s o t p on
    heard-there (Ok answer) stays is = answered-there answer (stays answer refl) is
    heard-there (Err lost) stays is = is

  module _ (row : Row) (s : Sight) (o : Outcome) (t : Sight) (p : Outcome) (on : Bool) (is : IsRowSent ring to place row s o t p on) where
    -- the row's call is all that it makes, where no name is left to a shard
    module _ (sure : Sure to place t) (keeps : LeavesNoName (replica s to place)) where
      sure-mid : Sure to place is.1
      sure-mid =
          sure-before (IsReached ring to to place) to place is.1 t (heard-moves ring to to place row is.0 is.1 (sending o) t p on is.3) sure

      there : IsAnsweredThere is.0 is.1 (sending o) t p on
      there =
          heard-there row is.1 (sending o) t p on is.0
          (λ answer same.
          call-stays to place Sent row answer s is.1
          (subst (λ (r : Result ContAnswer Lost). Calls (IsContMade Sent to place (MergeRow row)) s Sent r is.1) same is.2) sure-mid keeps) is.3

      ends : t ≡ is.1
      ends = by is.0 there
        where
          by : (r : Result ContAnswer Lost) → IsAnsweredThere r is.1 (sending o) t p on → t ≡ is.1
          by (Ok answer) heard = heard.0
          by (Err lost) heard = heard.0

    row-brings : (S : Row → Type 0) → S row → Brings to place S s t
    row-brings S only = record {
      moves = moves-anywhere (IsReached ring to to place) s t (row-keeps ring to to place row s o t p on is).moves;
      brought = λ sure keeps.
          subst (λ (x : Sight). IsBrought to place S s x) (sym (ends sure keeps))
          ((call-brings to place S Sent row only s is.0 is.1 is.2).brought (sure-mid sure keeps) keeps);
    }

  -- what comes to the receiver are rows of the list
  pub rows-bring : (S : Row → Type 0) (rows : List Row) → All S rows → (s : Sight) (o : Outcome) (t : Sight) (p : Outcome) (on : Bool)
      → InTurn (IsRowSent ring to place) rows s o t p on → Brings to place S s t
  rows-bring S [] all s o t p on is = brings-same to place S s t is.0
  rows-bring S (row ∷ rows) all s o t p on (inl went) =
      brings-trans to place S s went.0 t (row-brings row s o went.0 went.1 true went.2 S (All-head S row rows all))
      (rows-bring S rows (All-tail S row rows all) went.0 went.1 t p on went.3)
  rows-bring S (row ∷ rows) all s o t p on (inr stopped) = row-brings row s o t p false stopped.0 S (All-head S row rows all)

  row-reaches : (row : Row) (s : Sight) (o : Outcome) (t : Sight) (p : Outcome) → IsRowSent ring to place row s o t p true → Sure to place t
      → LeavesNoName (replica s to place) → p.left ≡ 0 → (o.left ≡ 0) × HasRow (replica t to place) row
  row-reaches row s o t p is sure keeps none = by is.0 is.2 (there row s o t p true is sure keeps)
    where
      by : (r : Result ContAnswer Lost) → Calls (IsContMade Sent to place (MergeRow row)) s Sent r is.1
          → IsAnsweredThere r is.1 (sending o) t p true → (o.left ≡ 0) × HasRow (replica t to place) row
      by (Ok answer) call heard = at heard.1
        where
          at : ((is_acknowledged answer ≡ true) × (p ≡ sending o) × (true ≡ true)) ⊎ Hinders (cont_hindrance answer) (sending o) p true
              → (o.left ≡ 0) × HasRow (replica t to place) row
          at (inl held) = (
            left_is p (sending o) held.1 none,
            subst (λ (x : Sight). HasRow (replica x to place) row) (sym heard.0)
                (call-has to place Sent row answer held.0 s is.1 call (sure-mid row s o t p true is sure keeps)),
          )
          at (inr hinders) = absurd (hinders-none (cont_hindrance answer) (sending o) p hinders none)
      by (Err lost) call heard = absurd (raised-some (sending o).left (left_is p (losing (sending o)) heard.1 none))

  -- where none is left the receiver has each
  pub rows-reach : (rows : List Row) (s : Sight) (o : Outcome) (t : Sight) (p : Outcome) → InTurn (IsRowSent ring to place) rows s o t p true
      → Sure to place t → LeavesNoName (replica s to place) → p.left ≡ 0 → (o.left ≡ 0) × All (HasRow (replica t to place)) rows
  rows-reach [] s o t p is sure keeps none = (left_is p o is.1 none, All-nil (HasRow (replica t to place)))
  rows-reach (row ∷ rows) s o t p (inl went) sure keeps none =
      let later : Brings to place Any went.0 t = rows-bring Any rows (all-any rows) went.0 went.1 t p true went.3 in
      let sure_mid = sure-before Anywhere to place went.0 t later.moves sure in
      let brought = (row-brings row s o went.0 went.1 true went.2 Any tt).brought sure_mid keeps in
      let rest = rows-reach rows went.0 went.1 t p went.3 sure brought.opens none in
      let first = row-reaches row s o went.0 went.1 went.2 sure_mid keeps rest.0 in (
        first.0,
        All-cons (HasRow (replica t to place)) row rows
            (still-has Any (replica went.0 to place) (replica t to place) row (later.brought sure brought.opens).merges first.1) rest.1,
      )
  rows-reach (row ∷ rows) s o t p (inr stopped) sure keeps none = absurd (never stopped.1)

-- ---- a push that is done

-- its calls: the read, a message for each row, and the point
pub record Goes (ring : Ring) (from to : ℕ) (place : Place) (s t : Sight) : Type 0 where
  pub parcel : Parcel
  pub read : Sight
  pub reads : IsParcelRead from to place s (Ok parcel) read
  pub mid : Sight
  pub between : Outcome
  pub sends : InTurn (IsRowSent ring to place) parcel.rows read nothing_yet mid between true
  pub none : between.left ≡ 0
  pub answer : ContAnswer
  pub sets : Calls (IsContMade Local from place (SetSync to parcel.top)) mid Local (Ok answer) t

module _ (ring : Ring) (from to : ℕ) (place : Place) where
  sent-goes : (s read t : Sight) (parcel : Parcel) (p : Outcome) → IsParcelRead from to place s (Ok parcel) read
      → IsParcelSent from to place ring parcel read nothing_yet t p true true → Goes ring from to place s t
  sent-goes s read t parcel p reads (inl sent) = by sent.3
    where
      by : IsPointKept from to place parcel.top sent.0 sent.1 t p true true → Goes ring from to place s t
      by (inl left) = absurd (never left.3)
      by (inr set) = record {
        parcel = parcel;
        read = read;
        reads = reads;
        mid = sent.0;
        between = sent.1;
        sends = sent.2;
        none = set.0;
        answer = set.1.0;
        sets = set.1.1;
      }
  sent-goes s read t parcel p reads (inr stopped) = absurd (never stopped.1)

  read-goes : (s read t : Sight) (got : Result Parcel ContAnswer) (p : Outcome) → IsParcelRead from to place s got read
      → IsReadNext from to place ring got read t p true true → Goes ring from to place s t
  read-goes s read t (Ok parcel) p reads next = sent-goes s read t parcel p reads next
  read-goes s read t (Err answer) p reads next = absurd (never next.1)

  run-goes : (s t : Sight) (p : Outcome) → IsRun from to place ring s t p true true → Goes ring from to place s t
  run-goes s t p run = read-goes s run.1 t run.0 p (call-reads from to place s run.0 run.1 run.2) run.3

pub done-goes : (from to : ℕ) (place : Place) (s t : Sight) (is : IsDone from to place s t) → Goes is.ring from to place s t
done-goes from to place s t is = by is.pushes.1 refl
  where
    kept : is.pushes.1 ≡ true
    kept = second (is.pushes.0.left == 0) is.pushes.1 (ap (λ (x : Outcome). x.done) (sym is.pushes.3) ∙ is.done)
      where
        second : (a b : Bool) → (a && b) ≡ true → b ≡ true
        second true b same = same
        second false b same = absurd (never (sym same))

    by : (b : Bool) → is.pushes.1 ≡ b → Goes is.ring from to place s t
    by true so = run-goes is.ring from to place s t is.pushes.0 (subst (λ (b : Bool). IsRun from to place is.ring s t is.pushes.0 b true) so is.pushes.2)
    by false so = absurd (never (sym kept ∙ so))
