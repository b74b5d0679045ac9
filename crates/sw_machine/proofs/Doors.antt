-- Why a door that is alone goes on with a run by each of its steps.
use Rattle.std.proofs.Common.{◌≡◌, ℕ, Bool, true, List, [], ◌∷◌, ◌++◌, map, refl, sym, ◌∙◌, ap, subst, inl, inr, Option, Result}
use Rattle.std.specs.Option.{option_map}
use Rattle.std.specs.declared.alloc.Global.{Global}
use Rattle.std.specs.declared.vec.Vec.{Vec}
use Rattle.sw_container_steps.specs.Reads.{info_of, listing_of, parcel_of, range_parcel_of, sharding_of, times_of}
use Rattle.sw_container_steps.specs.Rules.{cont_rules}
use Rattle.sw_container_steps.specs.declared.cont_answer.ContAnswer.{ContAnswer}
use Rattle.sw_container_steps.specs.declared.cont_entry.ContEntry.{ContEntry}
use Rattle.sw_hashpath.specs.HashParts.{partition_of}
use Rattle.sw_hashpath.specs.declared.place.Place.{Place}
use Rattle.sw_keeper.specs.declared.tables.Tables.{Tables}
use Rattle.sw_object_steps.specs.Journals.{Hash}
use Rattle.sw_object_steps.specs.Rules.{obj_rules}
use Rattle.sw_object_steps.specs.declared.answer.Answer.{Answer}
use Rattle.sw_object_steps.specs.declared.dir_fault.DirFault.{DirFault}
use Rattle.sw_object_steps.specs.declared.entry.ObjEntry.{ObjEntry}
use Rattle.sw_object_steps.specs.declared.got.Got.{Got}
use Rattle.sw_peer.specs.ContSights.{IsContMade, IsLooked, is_wanting_cont, is_wanting_look}
use Rattle.sw_peer.specs.Sights.{IsBaseRead, IsMade, IsPartRead, IsRead, IsRecordsRead, Nodes, Restarts, Sight, Trails, cont_lock}
use Rattle.sw_peer.specs.Sights.{is_wanting, is_wanting_part, is_wanting_read}
use Rattle.sw_peer.specs.declared.cont_event.ContEvent.{ContEvent}
use Rattle.sw_peer.specs.declared.cont_event.ContEvent.TheVariants as cont_events
use Rattle.sw_peer.specs.declared.line.Event.TheVariants.{AtContainer, Changed, Listed, Read, ReadPart, Restarted}
use Rattle.sw_peer.specs.declared.line.Line.{Line}
use Rattle.sw_peer.specs.declared.link.Link.{Link}
use Rattle.sw_peer.specs.declared.link.Link.TheVariants.{Local}
use Rattle.sw_peer.specs.declared.part_read.PartRead.{PartRead}
use Rattle.sw_peer.specs.declared.part_read.PartRead.TheVariants.{Base, Records}
use Rattle.sw_pending.specs.declared.filed.Filed.{Filed}
use Rattle.sw_rows.specs.declared.row.Row.{Row}
use Rattle.sw_state.specs.declared.state.State.{State}
use Rattle.sw_step.specs.Steps.{added_by}
use Rattle.sw_machine.proofs.Going.{changes-go-on, reads-go-on, same-goes}
use Rattle.sw_machine.specs.Doors.{BaseReadsGoOn, ContainerChangesGoOn, DeviceListingsGoOn, FilesReadsGoOn, GoesOn, GoesOnBy, HashesReadsGoOn, InfosGoOn}
use Rattle.sw_machine.specs.Doors.{ListingsGoOn, LooksGoOn, ObjectChangesGoOn, ObjectReadsGoOn, ParcelsGoOn, RangeRowsGoOn, ReadsGoOn, RecordsReadsGoOn}
use Rattle.sw_machine.specs.Doors.{RestartsGoOn, ShardingsGoOn, StandsFor, TimesGoOn, WriteReadsGoOn, cont_line, obj_line}
use Rattle.sw_machine.specs.Machine.{Came, ContComes, ContReads, ContSide, KnownRow, KnownWrite, Machine, ObjReadsPart, ObjSide, PartReads, Runs}
use Rattle.sw_machine.specs.Machine.{Steps, made_rows, made_writes}
use Rattle.sw_machine.specs.Messages.{MayChange, Message, WasSent}

-- the machine with the door's own halves
abbrev over : Sight → Machine → Machine
over s m = record {
  objects = record { half = s.objects; known = m.objects.known };
  containers = record { half = s.containers; known = m.containers.known };
  sent = m.sent;
}

over-is : (s : Sight) (m : Machine) → StandsFor s m → over s m ≡ m
over-is s m stands i = record {
  objects = record { half = stands.objects i; known = m.objects.known };
  containers = record { half = stands.containers i; known = m.containers.known };
  sent = m.sent;
}

module _ (s t : Sight) (m : Machine) (stands : StandsFor s m) (nodes : t.nodes ≡ s.nodes) (after : Machine) (now : StandsFor t after) where
  -- its line is kept
  by-line : (line : Line) → Steps s.nodes (over s m) (Came line) after → t.trail ≡ option_map (λ lines. lines ++ line ∷ []) s.trail
      → GoesOn s m (Came line ∷ []) t
  by-line line step kept = record {
    nodes = nodes;
    after = after;
    run = subst (λ (x : Machine). Runs s.nodes x (Came line ∷ []) after) (over-is s m stands) (after, step, refl);
    stands = now;
    kept = kept;
  }

  -- or it wanted memory, and left none
  by-trail : {E : Type 0} (line : List E → Line) (added : List E) → Steps s.nodes (over s m) (Came (line added)) after → (wanting : Bool)
      → Trails s (line added) wanting t → GoesOnBy s m line wanting t
  by-trail line added step wanting (inl kept) = (Came (line added) ∷ [], inl (added, refl), by-line (line added) step kept)
  by-trail line added step wanting (inr none) = ([], inr (none.0, refl), (same-goes s m t stands none.1).0)

-- the door, said to be alone or not
abbrev said : Sight → Bool → Sight
said t alone = record t { alone = alone }

still : (sent : List Message) (line : Line) → (MayChange line.event → ⊥) → WasSent sent line
still sent line never is may = absurd (never may)

-- ---- steps at objects

-- the machine after a step at objects, where this became known
abbrev at_objects : Sight → Sight → Machine → List (ℕ × KnownWrite) → Machine
at_objects s t m known = record {
  objects = record { half = t.objects; known = known };
  containers = record { half = s.containers; known = m.containers.known };
  sent = m.sent;
}

pub object-changes : ObjectChangesGoOn
object-changes device name change =
    changes-go-on (λ link. IsMade link device name change) line is_wanting (λ link s x t made. made.moves.alone) (λ x added. refl)
    (λ link s answer t m stands alone sent made.
    subst (λ (a : Bool). IsMade link device name change s answer (said t a) → GoesOnBy s m (line link answer) (is_wanting answer) (said t a))
    (sym alone) (at link s answer t m stands sent) made)
  where
    line : Link → Answer → List ObjEntry → Line
    line link answer = obj_line device link (Changed name change answer)

    at : (link : Link) (s : Sight) (answer : Answer) (t : Sight) (m : Machine) → StandsFor s m
        → ((added : List ObjEntry) → WasSent m.sent (line link answer added)) → IsMade link device name change s answer (said t true)
        → GoesOnBy s m (line link answer) (is_wanting answer) (said t true)
    at link s answer t m stands sent made =
        by-trail s (said t true) m stands made.moves.nodes
        (at_objects s t m (m.objects.known ++ map (λ n. (device, n)) (made_writes name made.step.made)))
        (record { objects = refl; containers = made.moves.containers })
        (line link answer) (added_by obj_rules made.step) (
          sent (added_by obj_rules made.step),
          (
            record {
              moves = made.moves.objects;
              held = s.objects.holds device;
              is_held = λ k same. refl;
              step = made.step;
              added_is = refl;
              known = refl;
            },
            refl,
          ),
          refl,
        )
        (is_wanting answer) made.trail

pub object-reads : ObjectReadsGoOn
object-reads device name =
    reads-go-on (λ link. IsRead link device name) line is_wanting_read (λ link s x t read. read.moves.alone)
    (λ link s got t m stands alone read.
    subst (λ (a : Bool). IsRead link device name s got (said t a) → GoesOnBy s m (line link got) (is_wanting_read got) (said t a))
    (sym alone) (at link s got t m stands) read)
  where
    line : Link → Got → List ObjEntry → Line
    line link got = obj_line device link (Read name got)

    at : (link : Link) (s : Sight) (got : Got) (t : Sight) (m : Machine) → StandsFor s m → IsRead link device name s got (said t true)
        → GoesOnBy s m (line link got) (is_wanting_read got) (said t true)
    at link s got t m stands read =
        by-trail s (said t true) m stands read.moves.nodes (at_objects s t m m.objects.known)
        (record { objects = refl; containers = read.moves.containers })
        (line link got) read.step.follows.entries.0 (
          still m.sent (line link got read.step.follows.entries.0) (λ may. may),
          (
            record {
              held = t.objects.holds device;
              is_held = λ k same. refl;
              step = read.step;
              added_is = refl;
              elsewhere = λ other away.
                  read.moves.objects.elsewhere other
                  (λ d key is equal. away (equal ∙ (ap (λ (e : ℕ). s.nodes.lock e key) is.0 ∙ ap (s.nodes.lock device) is.1)));
              holds = read.holds_all refl;
              known = refl;
            },
            refl,
          ),
          refl,
        )
        (is_wanting_read got) read.trail

-- a read of hashes of a partition, as its line tells of it
module _ {A : Type 0} (device part : ℕ) (at : Nodes → Hash → Bool) (damages : Bool) (reading : Nodes → Bool → (Hash → State) → A → Type 0)
    (read_as : Result A DirFault → PartRead) where
  abbrev line_as : Link → Result A DirFault → List ObjEntry → Line
  line_as link got = obj_line device link (ReadPart (read_as got))

  -- that the line tells of such a read is asked of these nodes alone, since the partition may be one that they tell
  one-part : (link : Link) (s : Sight) (got : Result A DirFault) (t : Sight) (m : Machine)
      → ((from : ObjSide) (added : List ObjEntry) (after : ObjSide) → PartReads s.nodes from device part at damages reading got added after
      → ObjReadsPart s.nodes from device (read_as got) added after)
      → StandsFor s m → IsPartRead link device part at damages reading read_as s got (said t true)
      → GoesOnBy s m (line_as link got) (is_wanting_part got) (said t true)
  one-part link s got t m comes stands read =
      by-trail s (said t true) m stands read.moves.nodes (at_objects s t m m.objects.known)
      (record { objects = refl; containers = read.moves.containers })
      (line_as link got) read.step.follows.entries.0 (
        still m.sent (line_as link got read.step.follows.entries.0) (λ may. may),
        (
          comes (over s m).objects read.step.follows.entries.0 (at_objects s t m m.objects.known).objects
              (record {
                reads = record {
                  held = t.objects.holds device;
                  is_held = λ k same. refl;
                  step = read.step;
                  added_is = refl;
                  elsewhere = λ other away.
                      read.moves.objects.elsewhere other
                      (λ d key is equal. away (equal
                      ∙ (ap (λ (e : ℕ). s.nodes.lock e key) is.0 ∙ (s.nodes.one_lock device key ∙ ap (s.nodes.part_lock device) is.1.part_is))));
                  holds = read.holds_all refl;
                  known = refl;
                };
                sound = read.sound;
              }),
          refl,
        ),
        refl,
      )
      (is_wanting_part got) read.trail

  part-reads : ((nodes : Nodes) (m : ObjSide) (got : Result A DirFault) (added : List ObjEntry) (after : ObjSide)
      → PartReads nodes m device part at damages reading got added after → ObjReadsPart nodes m device (read_as got) added after)
      → ReadsGoOn (λ link. IsPartRead link device part at damages reading read_as) line_as is_wanting_part
  part-reads comes =
      reads-go-on (λ link. IsPartRead link device part at damages reading read_as) line_as is_wanting_part (λ link s x t read. read.moves.alone)
      (λ link s got t m stands alone read.
      subst (λ (a : Bool). IsPartRead link device part at damages reading read_as s got (said t a)
      → GoesOnBy s m (line_as link got) (is_wanting_part got) (said t a)) (sym alone)
      (one-part link s got t m (λ from added after reads. comes s.nodes from got added after reads) stands) read)

pub hashes-reads : HashesReadsGoOn
hashes-reads device part = part-reads device part _ _ _ _ (λ nodes m got added after reads. reads)

pub files-reads : FilesReadsGoOn
files-reads device part suffix = part-reads device part _ _ _ _ (λ nodes m got added after reads. reads)

pub write-reads : WriteReadsGoOn
write-reads device part hash file = part-reads device part _ _ _ _ (λ nodes m got added after reads. reads)

-- ---- reads that records ask for

pub records-reads : RecordsReadsGoOn
records-reads device stripe =
    reads-go-on (λ link. IsRecordsRead link device stripe) line is_wanting_part (λ link s x t read. read.moves.alone)
    (λ link s got t m stands alone read.
    subst (λ (a : Bool). IsRecordsRead link device stripe s got (said t a) → GoesOnBy s m (line link got) (is_wanting_part got) (said t a))
    (sym alone) (at link s got t m stands) read)
  where
    line : Link → Result (Vec Filed Global) DirFault → List ObjEntry → Line
    line link got = obj_line device link (ReadPart (Records stripe got))

    at : (link : Link) (s : Sight) (got : Result (Vec Filed Global) DirFault) (t : Sight) (m : Machine) → StandsFor s m
        → IsRecordsRead link device stripe s got (said t true) → GoesOnBy s m (line link got) (is_wanting_part got) (said t true)
    at link s got t m stands read =
        by-trail s (said t true) m stands read.moves.nodes (at_objects s t m m.objects.known)
        (record { objects = refl; containers = read.moves.containers })
        (line link got) read.step.follows.entries.0 (
          still m.sent (line link got read.step.follows.entries.0) (λ may. may),
          (
            record {
              some = read.some;
              reads = record {
                held = read.held;
                is_held = read.is_held refl;
                step = read.step;
                added_is = refl;
                elsewhere = λ other away.
                    read.moves.objects.elsewhere other
                    (λ d key is equal. away (equal
                    ∙ (ap (λ (e : ℕ). s.nodes.lock e key) is.0 ∙ (s.nodes.one_stripe device key ∙ ap (s.nodes.stripe_lock device) is.1))));
                holds = read.holds_all refl;
                known = refl;
              };
            },
            refl,
          ),
          refl,
        )
        (is_wanting_part got) read.trail

-- the row is read in the partition that the nodes of each door tell
pub base-reads : BaseReadsGoOn
base-reads device filed =
    reads-go-on (λ link. IsBaseRead link device filed) line is_wanting_part (λ link s x t read. read.moves.alone)
    (λ link s row t m stands alone read.
    subst (λ (a : Bool). IsBaseRead link device filed s row (said t a) → GoesOnBy s m (line link row) (is_wanting_part row) (said t a))
    (sym alone)
    (one-part device (partition_of filed.name.hash s.nodes.power) _ _ _ (λ row. Base filed row) link s row t m (λ from added after reads. reads) stands) read)
  where
    line : Link → Result (Option Row) DirFault → List ObjEntry → Line
    line link row = obj_line device link (ReadPart (Base filed row))

-- ---- steps at containers

-- the machine after a step at a container, where this became known
abbrev at_containers : Sight → Sight → Machine → List (ℕ × KnownRow) → Machine
at_containers s t m known = record {
  objects = record { half = s.objects; known = m.objects.known };
  containers = record { half = t.containers; known = known };
  sent = m.sent;
}

pub container-changes : ContainerChangesGoOn
container-changes device place change =
    changes-go-on (λ link. IsContMade link device place change) line is_wanting_cont (λ link s x t made. made.moves.alone) (λ x added. refl)
    (λ link s answer t m stands alone sent made.
    subst (λ (a : Bool). IsContMade link device place change s answer (said t a) → GoesOnBy s m (line link answer) (is_wanting_cont answer) (said t a))
    (sym alone) (at link s answer t m stands sent) made)
  where
    line : Link → ContAnswer → List ContEntry → Line
    line link answer = cont_line device link (cont_events.Changed place change answer)

    at : (link : Link) (s : Sight) (answer : ContAnswer) (t : Sight) (m : Machine) → StandsFor s m
        → ((added : List ContEntry) → WasSent m.sent (line link answer added)) → IsContMade link device place change s answer (said t true)
        → GoesOnBy s m (line link answer) (is_wanting_cont answer) (said t true)
    at link s answer t m stands sent made =
        by-trail s (said t true) m stands made.moves.nodes
        (at_containers s t m (m.containers.known ++ map (λ n. (device, n)) (made_rows place change answer made.step.step.made)))
        (record { objects = made.moves.objects; containers = refl })
        (line link answer) (added_by cont_rules made.step.step) (
          sent (added_by cont_rules made.step.step),
          (
            refl,
            record {
              moves = made.moves.containers;
              held = made.step.held;
              is_held = made.step.is_held refl;
              step = made.step.step;
              added_is = refl;
              known = refl;
            },
            refl,
          ),
          refl,
        )
        (is_wanting_cont answer) made.trail

-- a read of one container, as its line tells of it
module _ {A : Type 0} (device : ℕ) (place : Place) (reading : Option Tables → ℕ → Result A ContAnswer) (event : Result A ContAnswer → ContEvent)
    (never : (got : Result A ContAnswer) (entries : List ContEntry) → MayChange (AtContainer (event got) entries) → ⊥)
    (comes : (nodes : Nodes) (m : ContSide) (got : Result A ContAnswer) (added : List ContEntry) (after : ContSide)
    → ContReads nodes m device place reading got added after → ContComes nodes m device (event got) added after) where
  abbrev line_by : Link → Result A ContAnswer → List ContEntry → Line
  line_by link got = cont_line device link (event got)

  one-look : (link : Link) (s : Sight) (got : Result A ContAnswer) (t : Sight) (m : Machine) → StandsFor s m
      → IsLooked link device place reading event s got (said t true) → GoesOnBy s m (line_by link got) (is_wanting_look got) (said t true)
  one-look link s got t m stands read =
      by-trail s (said t true) m stands read.moves.nodes (at_containers s t m m.containers.known)
      (record { objects = read.moves.objects; containers = refl })
      (line_by link got) entries (
        still m.sent (line_by link got entries) (never got entries),
        (
          refl,
          comes s.nodes (over s m).containers got entries (at_containers s t m m.containers.known).containers
              (record {
                held = read.step.held;
                is_held = read.step.is_held refl;
                step = read.step.step;
                added_is = refl;
                elsewhere = λ other away.
                    read.moves.containers.elsewhere other
                    (λ d key is equal. away (equal ∙ (ap (λ (e : ℕ). cont_lock s.nodes e key) is.0 ∙ ap (cont_lock s.nodes device) is.1)));
                holds = read.holds_all refl;
                known = refl;
              }),
          refl,
        ),
        refl,
      )
      (is_wanting_look got) read.trail
    where
      entries : List ContEntry
      entries = read.step.step.follows.entries.0

  looks : LooksGoOn device place reading event
  looks =
      reads-go-on (λ link. IsLooked link device place reading event) line_by is_wanting_look (λ link s x t read. read.moves.alone)
      (λ link s got t m stands alone read.
      subst (λ (a : Bool). IsLooked link device place reading event s got (said t a)
      → GoesOnBy s m (line_by link got) (is_wanting_look got) (said t a)) (sym alone) (one-look link s got t m stands) read)

pub times : TimesGoOn
times device place = looks device place times_of (λ got. cont_events.Timed place got) (λ got entries may. may) (λ nodes m got added after reads. reads)

pub infos : InfosGoOn
infos device place = looks device place info_of (λ got. cont_events.Informed place got) (λ got entries may. may) (λ nodes m got added after reads. reads)

pub listings : ListingsGoOn
listings device place query =
    looks device place (listing_of query) (λ got. cont_events.Listed place query got) (λ got entries may. may) (λ nodes m got added after reads. reads)

pub parcels : ParcelsGoOn
parcels device place to =
    looks device place (parcel_of to) (λ got. cont_events.Parceled place to got) (λ got entries may. may) (λ nodes m got added after reads. reads)

pub shardings : ShardingsGoOn
shardings device place =
    looks device place sharding_of (λ got. cont_events.Sharded place got) (λ got entries may. may) (λ nodes m got added after reads. reads)

pub range-rows : RangeRowsGoOn
range-rows device place range above =
    looks device place (range_parcel_of range above) (λ got. cont_events.Cleft place range above got) (λ got entries may. may)
    (λ nodes m got added after reads. reads)

-- ---- whole devices

pub device-listings : DeviceListingsGoOn
device-listings device failed s t m stands lists =
    by-line s t m stands lists.nodes (at_objects s t m m.objects.known) (record { objects = refl; containers = lists.containers })
    (obj_line device Local (Listed failed) []) (
      still m.sent (obj_line device Local (Listed failed) []) (λ may. may),
      (
        refl,
        (
          record {
            same = lists.same;
            later = lists.later;
            others = lists.others;
            risen = lists.risen;
            holds = lists.holds;
            known = refl;
          },
          refl,
        ),
      ),
      refl,
    )
    lists.trail

pub restarts : RestartsGoOn
restarts device s t m stands alone anew =
    subst (λ (a : Bool). Restarts device s (said t a) → GoesOn s m (Came (obj_line device Local Restarted []) ∷ []) (said t a)) (sym alone) at anew
  where
    at : Restarts device s (said t true) → GoesOn s m (Came (obj_line device Local Restarted []) ∷ []) (said t true)
    at anew =
        by-line s (said t true) m stands anew.nodes
        (record {
          objects = record { half = t.objects; known = m.objects.known };
          containers = record { half = t.containers; known = m.containers.known };
          sent = m.sent;
        })
        (record { objects = refl; containers = refl })
        (obj_line device Local Restarted []) (
          still m.sent (obj_line device Local Restarted []) (λ may. may),
          (refl, record { half = anew.objects; known = refl }, record { half = anew.containers; known = refl }),
          refl,
        )
        anew.trail
