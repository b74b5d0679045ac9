-- Runs of the machine.
use Rattle.std.proofs.Common.{◌≡◌, ℕ, Bool, true, false, if◌then◌else◌, List, [], ◌∷◌, ◌++◌, map, refl, sym, ◌∙◌, ap, subst, append_assoc, Option, Result}
use Rattle.std.proofs.lemmas.List.{append-nil, append_cancel_left}
use Rattle.std.specs.List.{fold}
use Rattle.sw_container_steps.proofs.Ruling.{are-rules as cont-rules}
use Rattle.sw_container_steps.specs.Entries.{rows_of}
use Rattle.sw_container_steps.specs.Rules.{cont_look, cont_rules}
use Rattle.sw_container_steps.specs.Reads.{info_of, listing_of, parcel_of, range_parcel_of, sharding_of, times_of}
use Rattle.sw_container_steps.specs.declared.cont_answer.ContAnswer.{ContAnswer}
use Rattle.sw_container_steps.specs.declared.cont_change.ContChange.{ContChange}
use Rattle.sw_container_steps.specs.declared.cont_entry.ContEntry.{ContEntry}
use Rattle.sw_hashpath.specs.HashParts.{partition_of}
use Rattle.sw_hashpath.specs.declared.name.Name.{Name}
use Rattle.sw_hashpath.specs.declared.place.Place.{Place}
use Rattle.sw_keeper.specs.declared.tables.Tables.{Tables}
use Rattle.sw_object_steps.proofs.Ruling.{are-rules as obj-rules}
use Rattle.sw_object_steps.specs.Journals.{Hash}
use Rattle.sw_object_steps.specs.Rules.{ObjChange, ObjHistory, Writes, obj_applied, obj_rules}
use Rattle.sw_object_steps.specs.Values.{ObjValue}
use Rattle.sw_object_steps.specs.declared.answer.Answer.{Answer}
use Rattle.sw_object_steps.specs.declared.change.Change.{Change}
use Rattle.sw_object_steps.specs.declared.entry.ObjEntry.{ObjEntry}
use Rattle.sw_object_steps.specs.declared.entry.ObjEntry.TheVariants as entries
use Rattle.sw_peer.specs.Sights.{Nodes, cont_lock}
use Rattle.sw_peer.specs.declared.cont_event.ContEvent.{ContEvent}
use Rattle.sw_peer.specs.declared.cont_event.ContEvent.TheVariants as cont_events
use Rattle.sw_peer.specs.declared.line.Event.{Event}
use Rattle.sw_peer.specs.declared.line.Event.TheVariants.{AtContainer, Changed, Listed, Read, ReadPart, Restarted}
use Rattle.sw_peer.specs.declared.part_read.PartRead.{PartRead}
use Rattle.sw_peer.specs.declared.part_read.PartRead.TheVariants.{Base, Files, Hashes, Records, Write as ReadWrite}
use Rattle.sw_rows.specs.Rows.{Listed as RowList, find_named, merged}
use Rattle.sw_rows.specs.declared.row.Row.{Row}
use Rattle.sw_state.specs.States.{joined}
use Rattle.sw_state.specs.declared.state.State.{State}
use Rattle.sw_state.specs.declared.write.Write.{Write}
use Rattle.sw_step.proofs.Settled.{tell}
use Rattle.sw_step.specs.Rules.{CanStand}
use Rattle.sw_step.specs.Steps.{Look}
use Rattle.sw_machine.proofs.Greatest.{fold-keeps}
use Rattle.sw_machine.proofs.Objects.{joins-from, made-states}
use Rattle.sw_machine.proofs.Rows.{emptied-still, unemptied-merges}
use Rattle.sw_machine.proofs.Sides.{Account, AllOf, Goes, as-it-was, made-goes, on, read-goes, restart-goes, still}
use Rattle.sw_machine.specs.Laws.{HashesAreTold, HashesMayStand, HashesStand, IsGreatest, LocksAreApart, MessagesWereSent, PlacesAreTold, PlacesMayStand}
use Rattle.sw_machine.specs.Laws.{RowsAreMerged, RunKeepsTheGreatest, RunSends, RunsJoin, row_named}
use Rattle.sw_machine.specs.Machine.{Came, Comes, ContComes, ContMakes, ContReads, ContSide, KnownRow, KnownWrite, Machine, ObjLists, ObjMakes}
use Rattle.sw_machine.specs.Machine.{ObjReadsPart, ObjSide}
use Rattle.sw_machine.specs.Machine.{RunLine, Runs, Steps, Went, is_emptied, made_rows, made_writes, rows_among, rows_in, was_made, went_in, writes_among}
use Rattle.sw_machine.specs.Messages.{Message, WasSent}
use Rattle.sw_machine.specs.Sides.{SideReads}

module _ (nodes : Nodes) where
  own-hash : LocksAreApart nodes → (d e : ℕ) (key other : Hash) → nodes.lock d key ≡ nodes.lock e other → d ≡ e
  own-hash apart d e key other same =
      apart d e (partition_of key nodes.power) (partition_of other nodes.power) (sym (nodes.one_lock d key) ∙ (same ∙ nodes.one_lock e other))

  own-part : LocksAreApart nodes → (device part : ℕ) (d : ℕ) (key : Hash) → nodes.lock d key ≡ nodes.part_lock device part → d ≡ device
  own-part apart device part d key same = apart d device (partition_of key nodes.power) part (sym (nodes.one_lock d key) ∙ same)

  -- the lock of a stripe is one of its device too, where a hash is under it
  own-stripe : LocksAreApart nodes → (device stripe : ℕ) → ((hash : Hash) × (nodes.stripe hash ≡ stripe)) → (d : ℕ) (key : Hash)
      → nodes.lock d key ≡ nodes.stripe_lock device stripe → d ≡ device
  own-stripe apart device stripe some d key same =
      own-hash apart d device key some.0 (same ∙ (ap (nodes.stripe_lock device) (sym some.1) ∙ sym (nodes.one_stripe device some.0)))

  own-place : LocksAreApart nodes → (d e : ℕ) (key other : Place) → cont_lock nodes d key ≡ cont_lock nodes e other → d ≡ e
  own-place apart d e key other same = own-hash apart d e key.hash other.hash same

  abbrev objects : Account Hash ObjValue ObjEntry ObjChange Answer KnownWrite Write State
  objects = record {
    rules = obj_rules;
    are = obj-rules;
    lock = nodes.lock;
    Apart = LocksAreApart nodes;
    own = own-hash;
    key_in = λ n. n.name.hash;
    part = λ n. n.write;
    view = λ v. v.state;
    absorbed = joined;
    gone = λ v. false;
  }

  abbrev containers : Account Place (Option Tables) ContEntry ContChange ContAnswer KnownRow Row RowList
  containers = record {
    rules = cont_rules;
    are = cont-rules;
    lock = cont_lock nodes;
    Apart = LocksAreApart nodes;
    own = own-place;
    key_in = λ n. n.place;
    part = λ n. n.row;
    view = rows_of;
    absorbed = merged;
    gone = is_emptied;
  }

  abbrev ObjGoes : ObjSide → ObjSide → Type 0
  ObjGoes m after = Goes objects m after

  abbrev ContGoes : ContSide → ContSide → Type 0
  ContGoes m after = Goes containers m after

  -- ---- steps at objects

  writes-all : (name : Name) (made : List ObjEntry) → AllOf objects name.hash (made_writes name made)
  writes-all name [] = tt
  writes-all name (entries.Wrote n w records ∷ made) = (refl, writes-all name made)
  writes-all name (entries.Files by filed ∷ made) = writes-all name made
  writes-all name (entries.Marked by filed marked ∷ made) = writes-all name made
  writes-all name (entries.Dropped by filed ∷ made) = writes-all name made

  obj-made : (m : ObjSide) (device : ℕ) (name : Name) (change : Change) (answer : Answer) (added : List ObjEntry) (after : ObjSide)
      → ObjMakes nodes m device name change answer added after → ObjGoes m after
  obj-made m device name change answer added after makes =
      made-goes objects m device name.hash (Writes name change) answer added (made_writes name) after makes
      (writes-all name makes.step.made)
      (λ tells kept.
      ap (λ (v : ObjValue). v.state)
      (makes.step.leaves refl (makes.step.follows.told ∙ tells)
      ∙ ap (λ (v : ObjValue). fold obj_applied v makes.step.made) (makes.is_held name.hash refl))
      ∙ made-states name (m.half.holds device name.hash) makes.step.made)
      (λ tells gone. gone)

  obj-read : {B : Type 0} (m : ObjSide) (device l : ℕ) (at : Hash → Bool) (touched : List ObjEntry → Bool) (look : B → Look)
      (reading : (Hash → ObjValue) → ℕ → B → Type 0) (got : B) (added : List ObjEntry) (after : ObjSide)
      → SideReads obj_rules nodes.lock m device l at touched look reading got added after
      → (LocksAreApart nodes → (d : ℕ) (key : Hash) → nodes.lock d key ≡ l → d ≡ device) → ObjGoes m after
  obj-read m device l at touched look reading got added after reads owns =
      read-goes objects m device l at touched look reading got added after reads owns

  obj-read-part : (m : ObjSide) (device : ℕ) (read : PartRead) (added : List ObjEntry) (after : ObjSide) → ObjReadsPart nodes m device read added after
      → ObjGoes m after
  obj-read-part m device (Hashes part got) added after step =
      obj-read m device (nodes.part_lock device part) _ _ _ _ got added after step.reads (λ apart. own-part apart device part)
  obj-read-part m device (Files part suffix got) added after step =
      obj-read m device (nodes.part_lock device part) _ _ _ _ got added after step.reads (λ apart. own-part apart device part)
  obj-read-part m device (ReadWrite part hash file got) added after step =
      obj-read m device (nodes.part_lock device part) _ _ _ _ got added after step.reads (λ apart. own-part apart device part)
  obj-read-part m device (Records stripe got) added after step =
      obj-read m device (nodes.stripe_lock device stripe) _ _ _ _ got added after step.reads (λ apart. own-stripe apart device stripe step.some)
  obj-read-part m device (Base filed row) added after step =
      let part = partition_of filed.name.hash nodes.power in
      obj-read m device (nodes.part_lock device part) _ _ _ _ row added after step.reads (λ apart. own-part apart device part)

  obj-listed : (m : ObjSide) (device : ℕ) (failed : Bool) (after : ObjSide) → ObjLists nodes m device failed after → ObjGoes m after
  obj-listed m device failed after lists =
      as-it-was objects m after lists.known
      (λ d key told. ap (λ (h : ObjHistory). h.told) (lists.same (nodes.lock d key)) ∙ told)
      (λ d key told. lists.holds d key)
      (λ apart d key told can.
      subst (λ (v : ObjValue). CanStand obj_rules (after.half.seen (nodes.lock d key)) key v) (sym (lists.holds d key))
      (subst (λ (h : ObjHistory). CanStand obj_rules h key (m.half.holds d key)) (sym (lists.same (nodes.lock d key))) can))

  obj-still : (m after : ObjSide) → after ≡ m → ObjGoes m after
  obj-still m after same =
      still objects m after same

  -- ---- steps at containers

  rows-all : (place : Place) (rows : List Row) → AllOf containers place (map (λ row. record { place = place; row = row }) rows)
  rows-all place [] = tt
  rows-all place (row ∷ rows) = (refl, rows-all place rows)

  cont-made : (m : ContSide) (device : ℕ) (place : Place) (change : ContChange) (answer : ContAnswer) (added : List ContEntry) (after : ContSide)
      → ContMakes nodes m device place change answer added after → ContGoes m after
  cont-made m device place change answer added after makes =
      made-goes containers m device place change answer added (made_rows place change answer) after makes
      (rows-all place (if was_made answer makes.step.made then rows_in change else []))
      (λ tells kept.
      unemptied-merges (m.half.seen l) makes.held place change answer (after.half.seen l) (after.half.holds device place) makes.step tells kept
      ∙ ap (λ (t : Option Tables). fold merged (rows_of t) (map (λ (n : KnownRow). n.row) (made_rows place change answer makes.step.made))) held)
      (λ tells gone.
      emptied-still (m.half.seen l) makes.held place change answer (after.half.seen l) (after.half.holds device place) makes.step tells
      (ap is_emptied held ∙ gone))
    where
      l : ℕ
      l = cont_lock nodes device place

      held : makes.held place ≡ m.half.holds device place
      held = makes.is_held place refl

  cont-read : {A : Type 0} (m : ContSide) (device : ℕ) (place : Place) (reading : Option Tables → ℕ → Result A ContAnswer) (got : Result A ContAnswer)
      (added : List ContEntry) (after : ContSide) → ContReads nodes m device place reading got added after → ContGoes m after
  cont-read m device place reading got added after reads =
      read-goes containers m device (cont_lock nodes device place) (λ key. true) (λ doubt. true) cont_look
      (λ read front x. x ≡ reading (read place) front) got added after reads
      (λ apart d key. own-place apart d device key place)

  cont-comes : (m : ContSide) (device : ℕ) (event : ContEvent) (added : List ContEntry) (after : ContSide) → ContComes nodes m device event added after
      → ContGoes m after
  cont-comes m device (cont_events.Changed place change answer) added after step = cont-made m device place change answer added after step
  cont-comes m device (cont_events.Timed place got) added after step = cont-read m device place times_of got added after step
  cont-comes m device (cont_events.Informed place got) added after step = cont-read m device place info_of got added after step
  cont-comes m device (cont_events.Listed place query got) added after step = cont-read m device place (listing_of query) got added after step
  cont-comes m device (cont_events.Parceled place to got) added after step = cont-read m device place (parcel_of to) got added after step
  cont-comes m device (cont_events.Sharded place got) added after step = cont-read m device place sharding_of got added after step
  cont-comes m device (cont_events.Cleft place range above got) added after step =
      cont-read m device place (range_parcel_of range above) got added after step

  cont-still : (m after : ContSide) → after ≡ m → ContGoes m after
  cont-still m after same =
      still containers m after same

  -- ---- runs

  abbrev BothGo : Machine → Machine → Type 0
  BothGo m after = ObjGoes m.objects after.objects × ContGoes m.containers after.containers

  -- what came to objects
  at-objects : (m after : Machine) → ObjGoes m.objects after.objects → after.containers ≡ m.containers → BothGo m after
  at-objects m after goes same = (goes, cont-still m.containers after.containers same)

  one-comes : (m : Machine) (device : ℕ) (event : Event) (added : List ObjEntry) (after : Machine) → Comes nodes m device event added after → BothGo m after
  one-comes m device (Changed name change answer) added after step =
      at-objects m after (obj-made m.objects device name change answer added after.objects step.0) step.1
  one-comes m device (Read name got) added after step =
      at-objects m after
      (obj-read m.objects device (nodes.lock device name.hash) _ _ _ _ got added after.objects step.0
      (λ apart d key. own-hash apart d device key name.hash)) step.1
  one-comes m device (ReadPart read) added after step = at-objects m after (obj-read-part m.objects device read added after.objects step.0) step.1
  one-comes m device (Listed failed) added after step = at-objects m after (obj-listed m.objects device failed after.objects step.1.0) step.1.1
  one-comes m device (AtContainer event entries) added after step = (
    obj-still m.objects after.objects step.2,
    cont-comes m.containers device event entries after.containers step.1,
  )
  one-comes m device Restarted added after step = (
    restart-goes objects m.objects device after.objects step.1,
    restart-goes containers m.containers device after.containers step.2,
  )

  both-still : (m after : Machine) → after.objects ≡ m.objects → after.containers ≡ m.containers → BothGo m after
  both-still m after of_objects of_containers = at-objects m after (obj-still m.objects after.objects of_objects) of_containers

  one-goes : (m : Machine) (line : RunLine) (after : Machine) → Steps nodes m line after → BothGo m after
  one-goes m (Came line) after step = one-comes m line.device line.event line.added after step.1
  one-goes m (Went from message) after step = both-still m after (ap (λ (x : Machine). x.objects) step.1) (ap (λ (x : Machine). x.containers) step.1)

  goes : (m : Machine) (lines : List RunLine) (after : Machine) → Runs nodes m lines after → BothGo m after
  goes m [] after same = both-still m after (ap (λ (x : Machine). x.objects) same) (ap (λ (x : Machine). x.containers) same)
  goes m (line ∷ lines) after run =
      let one = one-goes m line run.0 run.1 in
      let rest = goes run.0 lines after run.2 in (
        on objects m.objects (run.0).objects after.objects one.0 rest.0,
        on containers m.containers (run.0).containers after.containers one.1 rest.1,
      )

-- ---- the laws

pub hashes-stand : HashesStand
hashes-stand nodes m lines after run =
    let all = (goes nodes m lines after run).0 in
    record {
      more = all.more;
      known = all.known;
      hash = λ device hash told. record {
        told = all.told device hash told;
        joins = all.absorbs device hash told refl;
        stands = all.absorbs device hash told refl ∙ joins-from (m.objects.half.holds device hash).state (writes_among all.more device hash);
      };
    }

pub rows-are-merged : RowsAreMerged
rows-are-merged nodes m lines after run =
    let all = (goes nodes m lines after run).1 in
    record {
      more = all.more;
      known = all.known;
      place = λ device place told. record {
        told = all.told device place told;
        merges = all.absorbs device place told;
        emptied = all.stays device place told;
      };
    }

pub keeps-the-greatest : RunKeepsTheGreatest
keeps-the-greatest nodes m lines after run more known device place told kept name =
    let all = (goes nodes m lines after run).1 in
    let same : all.more ≡ more = append_cancel_left m.containers.known all.more more (sym all.known ∙ known) in
    let folded : rows_of (after.containers.half.holds device place)
    ≡ fold merged (rows_of (m.containers.half.holds device place)) (rows_among more device place) =
    all.absorbs device place told kept
    ∙ ap (λ (x : List (ℕ × KnownRow)). fold merged (rows_of (m.containers.half.holds device place)) (rows_among x device place)) same in
    subst
    (λ (l : RowList). IsGreatest name (row_named name (m.containers.half.holds device place)) (rows_among more device place) (find_named l.list name))
    (sym folded) (fold-keeps name (rows_of (m.containers.half.holds device place)) (rows_among more device place))

pub hashes-may-stand : HashesMayStand
hashes-may-stand nodes m lines after apart run = (goes nodes m lines after run).0.can apart

pub places-may-stand : PlacesMayStand
places-may-stand nodes m lines after apart run = (goes nodes m lines after run).1.can apart

pub hashes-are-told : HashesAreTold
hashes-are-told nodes m device hash can none =
    tell obj_rules (m.objects.half.seen (nodes.lock device hash)) hash (m.objects.half.holds device hash) can none

pub places-are-told : PlacesAreTold
places-are-told nodes m device place can none =
    tell cont_rules (m.containers.half.seen (cont_lock nodes device place)) place (m.containers.half.holds device place) can none

pub sends : RunSends
sends nodes m [] after same = ap (λ (x : Machine). x.sent) same ∙ sym (append-nil m.sent)
sends nodes m (Came line ∷ lines) after run = sends nodes run.0 lines after run.2 ∙ ap (λ (xs : List Message). xs ++ went_in lines) run.1.2
sends nodes m (Went from message ∷ lines) after run =
    sends nodes run.0 lines after run.2
    ∙ (ap (λ (x : Machine). x.sent ++ went_in lines) run.1.1 ∙ append_assoc m.sent (message ∷ []) (went_in lines))

pub were-sent : MessagesWereSent
were-sent nodes m [] line more after run =
    subst (λ (xs : List Message). WasSent xs line) (sym (append-nil m.sent)) run.1.0
were-sent nodes m (Came other ∷ lines) line more after run =
    subst (λ (xs : List Message). WasSent (xs ++ went_in lines) line) run.1.2 (were-sent nodes run.0 lines line more after run.2)
were-sent nodes m (Went from message ∷ lines) line more after run =
    subst (λ (xs : List Message). WasSent xs line)
    (ap (λ (x : Machine). x.sent ++ went_in lines) run.1.1 ∙ append_assoc m.sent (message ∷ []) (went_in lines))
    (were-sent nodes run.0 lines line more after run.2)

pub joins : RunsJoin
joins nodes m [] mid more after first second = subst (λ (x : Machine). Runs nodes x more after) first second
joins nodes m (line ∷ lines) mid more after first second = (first.0, first.1, joins nodes first.0 lines mid more after first.2 second)
