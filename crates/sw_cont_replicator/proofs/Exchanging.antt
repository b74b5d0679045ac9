-- A push that is done, and two, there and back, at nodes that nobody else changes.
use Rattle.std.proofs.Common.{◌≡◌, ℕ, ◌<◌, Bool, true, false, cond, List, All, Option, Some, None, refl, sym, ◌∙◌, ap, subst, Ok}
use Rattle.sw_container_steps.specs.Entries.{rows_of}
use Rattle.sw_container_steps.specs.declared.cont_change.ContChange.TheVariants.{SetSync}
use Rattle.sw_cont_replicator.proofs.Entering.{Merges, merges-same}
use Rattle.sw_cont_replicator.proofs.Keeping.{run-keeps}
use Rattle.sw_cont_replicator.proofs.Making.{Brings, IsSet, Sure, call-sets, sure-before, told-after}
use Rattle.sw_cont_replicator.proofs.Meeting.{above-each, all-there, merged-greatest, parcel-is, parcel-once, tells-later}
use Rattle.sw_cont_replicator.proofs.Passing.{Any, Goes, all-any, done-goes, rows-bring, rows-reach}
use Rattle.sw_cont_replicator.proofs.Pointing.{pushes-keep-points}
use Rattle.sw_cont_replicator.proofs.Sending.{Anywhere, PushMoves, made-moves}
use Rattle.sw_cont_replicator.specs.Laws.{ExchangesAgree, ExchangesMeet, PushesMeet, PushesReach}
use Rattle.sw_cont_replicator.specs.Meeting.{Agree, HasRow, IsDone, LeavesNoName, PointsTell, TellsTruly, greatest, owed_above, replica, row_in}
use Rattle.sw_cont_replicator.specs.Pushing.{IsReached}
use Rattle.sw_hashpath.specs.declared.place.Place.{Place}
use Rattle.sw_keeper.specs.declared.tables.Tables.{Tables}
use Rattle.sw_pass.specs.Outcomes.{nothing_yet}
use Rattle.sw_peer.specs.ContSights.{ContMoves, IsIn}
use Rattle.sw_peer.specs.Sights.{Sight}
use Rattle.sw_peer.specs.declared.link.Link.TheVariants.{Local}
use Rattle.sw_rows.specs.Rows.{Listed, find_named, is_at_least, rows_above}
use Rattle.sw_rows.specs.declared.numbered.Numbered.{Numbered}
use Rattle.sw_rows.specs.declared.row.Row.{Row}

-- ---- a push that is done

module _ (from to : ℕ) (place : Place) (s t : Sight) (is : IsDone from to place s t) where
  goes : Goes is.ring from to place s t
  goes = done-goes from to place s t is

  abbrev ours : Option Tables
  ours = replica s from place

  -- the row is the sender's of its name
  abbrev Own : Row → Type 0
  Own row = row_in ours row.name ≡ Some row

  moves : PushMoves is.ring from to place s t
  moves = (run-keeps is.ring from to place s t is.pushes.0 is.pushes.1 true is.pushes.2).moves

  from-sure : Sure from place t
  from-sure = (is.goes.alone, told-after (IsReached is.ring from to place) from place s t moves is.goes.from_tells)

  to-sure : Sure to place t
  to-sure = (is.goes.alone, told-after (IsReached is.ring from to place) to place s t moves is.goes.to_tells)

  set-moves : ContMoves (IsIn from place) goes.mid t
  set-moves = made-moves Local from place (SetSync to goes.parcel.top) goes.mid (Ok goes.answer) t goes.sets

  to-mid : Sure to place goes.mid
  to-mid = sure-before (IsIn from place) to place goes.mid t set-moves to-sure

  set : IsSet from to place goes.parcel.top goes.mid t
  set = call-sets from to place goes.parcel.top goes.mid goes.answer t goes.sets from-sure

  brings : (S : Row → Type 0) → All S goes.parcel.rows → Brings to place S goes.read goes.mid
  brings S all = rows-bring is.ring to place S goes.parcel.rows all goes.read nothing_yet goes.mid goes.between true goes.sends

  from-read : Sure from place goes.read
  from-read =
      sure-before Anywhere from place goes.read goes.mid (brings Any (all-any goes.parcel.rows)).moves
      (sure-before (IsIn from place) from place goes.mid t set-moves from-sure)

  read-same : (d : ℕ) → replica goes.read d place ≡ replica s d place
  read-same = goes.reads.holds from-read.0

  parcel : (goes.parcel.rows ≡ rows_above (owed_above ours to) (rows_of ours).list) × (goes.parcel.top ≡ (rows_of ours).top)
  parcel = let told = goes.reads.parcel goes.parcel refl from-read in parcel-is ours to told.0 goes.parcel told.1

  keeps : LeavesNoName (replica goes.read to place)
  keeps = subst LeavesNoName (sym (read-same to)) is.goes.keeps_all

  reached : All (HasRow (replica goes.mid to place)) goes.parcel.rows
  reached = (rows-reach is.ring to place goes.parcel.rows goes.read nothing_yet goes.mid goes.between goes.sends to-mid keeps goes.none).1

  to-same : replica t to place ≡ replica goes.mid to place
  to-same = set.others to (λ same. is.goes.apart (sym same))

  reaches : All (λ (n : Numbered). owed_above ours to < n.rowid → HasRow (replica t to place) n.row) (rows_of ours).list
  reaches =
      above-each (HasRow (replica t to place)) (owed_above ours to) (rows_of ours).list
      (subst (λ (rows : List Row). All (HasRow (replica t to place)) rows) parcel.0
      (subst (λ (x : Option Tables). All (HasRow x) goes.parcel.rows) (sym to-same) reached))

  came : (S : Row → Type 0) → All S goes.parcel.rows → Merges S (replica s to place) (replica goes.mid to place)
  came S all =
      subst (λ (x : Option Tables). Merges S x (replica goes.mid to place)) (read-same to) ((brings S all).brought to-mid keeps).merges

  from-same : replica goes.mid from place ≡ ours
  from-same = ((brings Any (all-any goes.parcel.rows)).brought to-mid keeps).others from is.goes.apart ∙ read-same from

  module _ (truly : TellsTruly to ours (replica s to place)) where
    all : All (λ (n : Numbered). HasRow (replica goes.mid to place) n.row) (rows_of ours).list
    all =
        all-there to ours (replica goes.mid to place)
        (tells-later Any to ours ours (replica s to place) (replica goes.mid to place) (merges-same Any ours ours refl)
        (came Any (all-any goes.parcel.rows)) truly)
        (subst (λ (rows : List Row). All (HasRow (replica goes.mid to place)) rows) parcel.0 reached)

    own : All Own goes.parcel.rows
    own = subst (λ (rows : List Row). All Own rows) (sym parcel.0) (parcel-once ours (owed_above ours to) truly.listed)

    meets : (name : List ℕ) → (row_in (replica t to place) name ≡ greatest (row_in (replica s to place) name) (row_in ours name))
        × (row_in (replica t from place) name ≡ row_in ours name)
    meets name = (
      ap (λ (x : Option Tables). row_in x name) to-same
          ∙ merged-greatest ours (replica s to place) (replica goes.mid to place) truly.listed (came Own own) all name,
      ap (λ (l : Listed). find_named l.list name) set.sets.rows ∙ ap (λ (x : Option Tables). row_in x name) from-same,
    )

pub pushes-reach : PushesReach
pushes-reach from to place s t is = reaches from to place s t is

pub pushes-meet : PushesMeet
pushes-meet from to place s t is truly = meets from to place s t is truly

-- ---- there and back

pub exchanges-meet : ExchangesMeet
exchanges-meet a b place s m n t x points name = (
  back.1 ∙ (then_b ∙ there.0),
  back.0
      ∙ (ap (λ (o : Option Row). greatest o (row_in (replica n b place) name)) (then_a ∙ there.1)
      ∙ ap (greatest (row_in (replica s a place) name)) (sym back.1)),
)
  where
    Truly : Option Tables → Option Tables → Type 0
    Truly = TellsTruly a

    there : (row_in (replica m b place) name ≡ greatest (row_in (replica s b place) name) (row_in (replica s a place) name))
        × (row_in (replica m a place) name ≡ row_in (replica s a place) name)
    there = pushes-meet a b place s m x.there (points a b) name

    told : PointsTell place m
    told = pushes-keep-points a b place x.there.ring s (Ok x.there.outcome) m x.there.goes x.there.pushes points

    truly : Truly (replica n b place) (replica n a place)
    truly =
        subst (λ (y : Option Tables). Truly y (replica n a place)) (sym x.b_same)
        (subst (λ (y : Option Tables). Truly (replica m b place) y) (sym x.a_same) (told b a))

    back : (row_in (replica t a place) name ≡ greatest (row_in (replica n a place) name) (row_in (replica n b place) name))
        × (row_in (replica t b place) name ≡ row_in (replica n b place) name)
    back = pushes-meet b a place n t x.back truly name

    then_a : row_in (replica n a place) name ≡ row_in (replica m a place) name
    then_a = ap (λ (y : Option Tables). row_in y name) x.a_same

    then_b : row_in (replica n b place) name ≡ row_in (replica m b place) name
    then_b = ap (λ (y : Option Tables). row_in y name) x.b_same

-- the greatest of one and the greatest of both is that of both
greatest-again : (o p : Option Row) → Agree o p → greatest o (greatest p o) ≡ greatest p o
greatest-again None None agree = refl
greatest-again None (Some y) agree = refl
greatest-again (Some x) p agree = over p agree
  where
    itself : (b : Bool) → Some (cond b x x) ≡ Some x
    itself true = refl
    itself false = refl

    over : (q : Option Row) → Agree (Some x) q → greatest (Some x) (greatest q (Some x)) ≡ greatest q (Some x)
    over None same = itself (is_at_least x x)
    over (Some y) same = by (is_at_least y x) refl
      where
        at : is_at_least y x ≡ true → (c : Bool) → is_at_least x y ≡ c → Some (cond c x y) ≡ Some y
        at less true more = ap (λ (r : Row). Some r) (same x y refl refl more less)
        at less false more = refl

        by : (b : Bool) → is_at_least y x ≡ b
            → Some (cond (is_at_least x (cond b y x)) x (cond b y x)) ≡ Some (cond b y x)
        by true less = at less (is_at_least x y) refl
        by false more = itself (is_at_least x x)

pub exchanges-agree : ExchangesAgree
exchanges-agree a b place s m n t x points name agree =
    let met = exchanges-meet a b place s m n t x points name in (
      met.1
          ∙ (ap (greatest (row_in (replica s a place) name)) met.0
          ∙ greatest-again (row_in (replica s a place) name) (row_in (replica s b place) name) agree),
      met.0,
    )
