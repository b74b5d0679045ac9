-- An update is an honest run of the machine: each row that is sent is the one to tell for its record, and goes to the container of the record's name, or to a
-- shard that this left it to; a device is marked once such a row counts as acknowledged by it; and a record is dropped by all devices of its container.
use Rattle.std.proofs.Common.{◌≡◌, ℕ, Bool, true, false, List, [], ◌∷◌, refl, sym, ap, subst, inl, inr, Option, None, Some, Result, Ok, Err}
use Rattle.std.specs.List.{range_with_len}
use Rattle.std.specs.Prelude.{◌^◌}
use Rattle.std.specs.declared.alloc.Global.{Global}
use Rattle.std.specs.declared.vec.Vec.{Vec}
use Rattle.sw_hashpath.specs.Places.{IsPlaceOf}
use Rattle.sw_hashpath.specs.declared.place.Place.{Place}
use Rattle.sw_lossy.specs.Losses.{around, begun}
use Rattle.sw_lossy.specs.declared.acts.Acts.{Acts}
use Rattle.sw_machine.proofs.Doors.{records-reads}
use Rattle.sw_object_steps.specs.declared.dir_fault.DirFault.{DirFault}
use Rattle.sw_outside.specs.declared.errors.NoMemory.{NoMemory}
use Rattle.sw_pass.specs.Outcomes.{nothing_yet}
use Rattle.sw_pass.specs.Turns.{InTurn}
use Rattle.sw_pass.specs.declared.outcome.Outcome.{Outcome}
use Rattle.sw_peer.proofs.Calls.{StripeFrame, calls-moves, records-step}
use Rattle.sw_peer.specs.Sights.{Calls, IsRecordsRead, Sight}
use Rattle.sw_peer.specs.declared.link.Link.TheVariants.{Local}
use Rattle.sw_pending.specs.declared.filed.Filed.{Filed}
use Rattle.sw_ring.specs.declared.ring.Ring.{Ring}
use Rattle.sw_rows.specs.declared.row.Row.{Row}
use Rattle.sw_pass.specs.Rings.{replicas_in}
use Rattle.sw_updater.specs.Reading.{AreRead}
use Rattle.sw_redirect.specs.Sending.{Course, course}
use Rattle.sw_updater.specs.Updating.{IsAfterBase, IsAfterDrop, IsGoneOver, IsReadAgain, IsRowTold, IsSettled, IsUpdate, IsUpdated, to_tell}
use Rattle.sw_steps.proofs.GoingBy.{GoesOnBy, goes-join, goes-same}
use Rattle.sw_steps.proofs.Honestly.{AreAllOf, GoesHonestly, Knows, honestly-join, honestly-leaving, honestly-same, knows-later, named-replicas}
use Rattle.sw_steps.proofs.Leaving.{reads-leave}
use Rattle.sw_steps.proofs.Telling.{Read, Stands, all-told-go, dropped-goes, read-goes, read-stands}
use Rattle.sw_steps.proofs.Within.{honest-within}
use Rattle.sw_steps.specs.Laws.{UpdatesRun}
use Rattle.sw_steps.specs.Passing.{IsUpdateOver}

-- ---- the records are read

stripe-goes : (device stripe : ℕ) (a : Sight) (got : Result (Vec Filed Global) DirFault) (b : Sight)
    → Calls (IsRecordsRead Local device stripe) a Local (Ok got) b → GoesOnBy a b
stripe-goes device stripe a got b call =
    let moves : StripeFrame device stripe a b =
    calls-moves (StripeFrame device stripe) (IsRecordsRead Local device stripe) (records-step Local device stripe) a Local (Ok got) b call in
    record {
      nodes = moves.nodes;
      alone = moves.alone;
      runs = reads-leave (records-reads device stripe) (λ way list added. refl) Local a (Ok got) b call;
    }

pub reads-go : (device : ℕ) (stripes : List ℕ) (a : Sight) (got : Result (List Filed) DirFault) (b : Sight) → AreRead device stripes a got b → GoesOnBy a b
reads-go device [] a got b is = goes-same a b is.0
reads-go device (stripe ∷ stripes) a got b (inl went) =
    goes-join a went.1 b (stripe-goes device stripe a (Ok went.0) went.1 went.3) (reads-go device stripes went.1 went.2 b went.4)
reads-go device (stripe ∷ stripes) a got b (inr stopped) = stripe-goes device stripe a (Err stopped.0) b stopped.1

-- ---- one record

module _ (ring : Ring) (device : ℕ) (filed : Filed) (place : Place) (placed : IsPlaceOf ring.secrets filed.name place) (all : List ℕ)
    (are : AreAllOf ring.secrets (replicas_in ring) filed.name all) where
  abbrev Goes : Sight → Sight → Type 0
  Goes = GoesHonestly ring.secrets (replicas_in ring)

  later : (a b : Sight) → Goes a b → Knows ring.secrets a → Knows ring.secrets b
  later a b goes knows = knows-later ring.secrets a b goes.nodes knows

  as-it-was : (c d : Course) (missed : Bool) → d ≡ course c.sight missed → Goes c.sight d.sight
  as-it-was c d missed is = honestly-same ring.secrets (replicas_in ring) c.sight d.sight (ap (λ (x : Course). x.sight) is)

  read-honestly : (a : Sight) (got : Result (Option Row) DirFault) (b : Sight) → Calls (Read device filed) a Local (Ok got) b → Goes a b
  read-honestly a got b call = honestly-leaving ring.secrets (replicas_in ring) a b (read-goes device filed a got b call)

  row-told-goes : (row : Row) (c : Course) (o : Outcome) (d : Course) (p : Outcome) (on : Bool) → Knows ring.secrets c.sight → Stands device filed c.sight row
      → IsRowTold device filed ring place all row c o d p on → Goes c.sight d.sight
  row-told-goes row c o d p on knows own (inl went) =
      honestly-join ring.secrets (replicas_in ring) c.sight (went.0).sight d.sight
      (all-told-go device filed ring place placed row (to_tell filed.done all) c o went.0 went.1 true knows own went.2)
      (dropped-goes device filed ring.secrets (replicas_in ring) all are went.0 went.1 d p went.3.0 on went.3.1)
  row-told-goes row c o d p on knows own (inr stopped) =
      all-told-go device filed ring place placed row (to_tell filed.done all) c o d p false knows own stopped.0

  read-again-goes : (s : Sight) (base : Result (Option Row) DirFault) (c : Course) (o : Outcome) (d : Course) (p : Outcome) (on : Bool)
      → Knows ring.secrets c.sight → Calls (Read device filed) s Local (Ok base) c.sight → IsReadAgain device filed ring place all base c o d p on
      → Goes c.sight d.sight
  read-again-goes s (Ok (Some row)) c o d p on knows call is = row-told-goes row c o d p on knows (read-stands device filed s row c.sight call) is
  read-again-goes s (Ok None) c o d p on knows call is = as-it-was c d c.missed is.0
  read-again-goes s (Err fault) c o d p on knows call is = as-it-was c d true is.0

  after-drop-goes : (dropped missed : Bool) (c : Course) (o : Outcome) (d : Course) (p : Outcome) (on : Bool) → Knows ring.secrets c.sight
      → IsAfterDrop device filed ring place all dropped missed c o d p on → Goes c.sight d.sight
  after-drop-goes true missed c o d p on knows is = as-it-was c d c.missed is.0
  after-drop-goes false true c o d p on knows is = as-it-was c d c.missed is.0
  after-drop-goes false false c o d p on knows is =
      let read : Goes c.sight is.1 = read-honestly c.sight is.0 is.1 is.2 in
      honestly-join ring.secrets (replicas_in ring) c.sight is.1 d.sight read
      (read-again-goes c.sight is.0 (course is.1 c.missed) o d p on (later c.sight is.1 read knows) is.2 is.3)

  after-base-goes : (s : Sight) (base : Result (Option Row) DirFault) (c : Course) (o : Outcome) (d : Course) (p : Outcome) (on : Bool)
      → Knows ring.secrets c.sight → Calls (Read device filed) s Local (Ok base) c.sight → IsAfterBase device filed ring place all base c o d p on
      → Goes c.sight d.sight
  after-base-goes s (Ok (Some row)) c o d p on knows call is = row-told-goes row c o d p on knows (read-stands device filed s row c.sight call) is
  after-base-goes s (Ok None) c o d p on knows call (inl went) =
      let drop : Goes c.sight (went.0).sight = dropped-goes device filed ring.secrets (replicas_in ring) all are c o went.0 went.1 went.2 true went.3 in
      honestly-join ring.secrets (replicas_in ring) c.sight (went.0).sight d.sight drop
      (after-drop-goes went.2 (went.0).missed went.0 went.1 d p on (later c.sight (went.0).sight drop knows) went.4)
  after-base-goes s (Ok None) c o d p on knows call (inr stopped) =
      dropped-goes device filed ring.secrets (replicas_in ring) all are c o d p false false stopped.0
  after-base-goes s (Err fault) c o d p on knows call is = as-it-was c d true is.0

  settled-goes : (s : Sight) (o : Outcome) (d : Course) (p : Outcome) (on : Bool) → Knows ring.secrets s → IsSettled device filed ring place all s o d p on
      → Goes s d.sight
  settled-goes s o d p on knows is =
      let read : Goes s is.1 = read-honestly s is.0 is.1 is.2 in
      honestly-join ring.secrets (replicas_in ring) s is.1 d.sight read
      (after-base-goes s is.0 (course is.1 false) o d p on (later s is.1 read knows) is.2 is.3)

-- ---- the whole

module _ (ring : Ring) (device : ℕ) where
  abbrev Updates : Sight → Sight → Type 0
  Updates = GoesHonestly ring.secrets (replicas_in ring)

  same-update : (a b : Sight) → b ≡ a → Updates a b
  same-update = honestly-same ring.secrets (replicas_in ring)

  join-update : (a b c : Sight) → Updates a b → Updates b c → Updates a c
  join-update = honestly-join ring.secrets (replicas_in ring)

  updated-goes : (filed : Filed) (a : Sight) (o : Outcome) (b : Sight) (p : Outcome) (on : Bool) → Knows ring.secrets a
      → IsUpdated ring device filed a o b p on → Updates a b
  updated-goes filed a o b p on knows (inl is) =
      subst (λ (x : Sight). Updates a x) (sym is.7)
      (settled-goes ring device filed is.0 is.4 is.1 (named-replicas ring filed.name is.0 is.1 is.4 is.5) a o is.2 is.3 on knows
      is.6)
  updated-goes filed a o b p on knows (inr wants) = same-update a b wants.0

  records-go : (records : List Filed) (a : Sight) (o : Outcome) (b : Sight) (p : Outcome) (on : Bool) → Knows ring.secrets a
      → InTurn (IsUpdated ring device) records a o b p on → Updates a b
  records-go [] a o b p on knows is = same-update a b is.0
  records-go (filed ∷ records) a o b p on knows (inl went) =
      let one : Updates a went.0 = updated-goes filed a o went.0 went.1 true knows went.2 in
      join-update a went.0 b one (records-go records went.0 went.1 b p on (knows-later ring.secrets a went.0 one.nodes knows) went.3)
  records-go (filed ∷ records) a o b p on knows (inr stopped) = updated-goes filed a o b p false knows stopped.0

  gone-over-goes : (got : Result (List Filed) DirFault) (a b : Sight) (p : Outcome) (on : Bool) → Knows ring.secrets a
      → IsGoneOver ring device got a b p on → Updates a b
  gone-over-goes (Ok records) a b p on knows (inl is) = records-go is.0 a nothing_yet b p on knows is.2
  gone-over-goes (Ok records) a b p on knows (inr wants) = same-update a b wants.0
  gone-over-goes (Err fault) a b p on knows is = same-update a b is.0

  run-goes : (stripes : List ℕ) (s : Sight) (got : Result (List Filed) DirFault) (mid t : Sight) (p : Outcome) (on : Bool) → Knows ring.secrets s
      → AreRead device stripes s got mid → IsGoneOver ring device got mid t p on → Updates s t
  run-goes stripes s got mid t p on knows are_read over =
      let read : Updates s mid = honestly-leaving ring.secrets (replicas_in ring) s mid (reads-go device stripes s got mid are_read) in
      join-update s mid t read (gone-over-goes got mid t p on (knows-later ring.secrets s mid read.nodes knows) over)

  update-goes-on : (s : Sight) (result : Result Outcome NoMemory) (t : Sight) → s.nodes.secrets ≡ ring.secrets → IsUpdate ring device s result t
      → Updates s t
  update-goes-on s (Ok outcome) t knows is = run-goes (range_with_len 0 (2 ^ ring.lock_bits)) s is.0 is.1 t is.2 true knows is.3 is.4
  update-goes-on s (Err wanting) t knows is = run-goes (range_with_len 0 (2 ^ ring.lock_bits)) s is.0 is.1 t is.2 false knows is.3 is.4

-- the nodes and the door around them after an update
abbrev pub update_sight_after : {ring : Ring} {device : ℕ} {acts : Acts} {s : Sight} {result : Result Outcome NoMemory} {t : Sight} →
    IsUpdateOver ring device acts s result t → Sight
update_sight_after {t = t} over = around t over.acts_behind over.messages over.faults over.asks

pub updates_run : UpdatesRun
updates_run ring device acts s result t over knows alone =
    honest-within s t acts over.acts_behind 0 0 0 over.messages over.faults over.asks ring.secrets (replicas_in ring)
    ((update-goes-on ring device (begun acts s) result (update_sight_after over) knows over.updates).runs alone)

pub update-over-nodes : (ring : Ring) (device : ℕ) (acts : Acts) (s : Sight) (result : Result Outcome NoMemory) (t : Sight)
    → s.nodes.secrets ≡ ring.secrets → IsUpdateOver ring device acts s result t → t.nodes ≡ s.nodes
update-over-nodes ring device acts s result t knows over =
    (update-goes-on ring device (begun acts s) result (update_sight_after over) knows over.updates).nodes
