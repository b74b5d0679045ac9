-- What the user of a door knows of the nodes, and what a call makes of it. (This project's own.)
--
-- What was seen of a lock only grows, and is known over every door: by one that is alone, one that loses and repeats messages, and one
-- that shares the nodes with others. What the devices hold is known only where the door is alone.
use Rattle.std.specs.Prelude.{◌≡◌, ◌≢◌, ℕ, ◌^◌, ◌<◌, ◌≤◌, ◌==◌, Bool, true, false, ◌&&◌, List, [], ◌∷◌, ◌++◌, length, suc, Option, ◌⊎◌, Result, Ok, Err}
use Rattle.std.specs.Option.{option_map}
use Rattle.std.specs.Str.{bytes_eq}
use Rattle.std.specs.declared.alloc.Global.{Global}
use Rattle.std.specs.declared.vec.Vec.{Vec}
use Rattle.sw_container_steps.specs.Halves.{ContHalf}
use Rattle.sw_diskfile.specs.declared.file_name.FileName.{FileName}
use Rattle.sw_hashpath.specs.HashParts.{partition_of, suffix_of}
use Rattle.sw_hashpath.specs.declared.decode_error.BadFile.{BadFile}
use Rattle.sw_hashpath.specs.declared.name.Name.{Name}
use Rattle.sw_hashpath.specs.declared.place.Place.{Place}
use Rattle.sw_hashpath.specs.declared.secrets.Secrets.{Secrets}
use Rattle.sw_history.specs.Halves.{HalfMoves, HalfRestarts}
use Rattle.sw_object_steps.specs.Halves.{ObjHalf}
use Rattle.sw_object_steps.specs.BaseRows.{IsBaseFor}
use Rattle.sw_object_steps.specs.Filings.{AreFiled}
use Rattle.sw_object_steps.specs.Histories.{ChangesObject, ReadsObject, ReadsPart, ReadsRecords, got_look, is_wanting_by, part_look}
use Rattle.sw_object_steps.specs.Journals.{Hash}
use Rattle.sw_object_steps.specs.Parts.{AreHashes, AreLines, IsFile, IsOfPart}
use Rattle.sw_object_steps.specs.Rules.{obj_ending, obj_rules}
use Rattle.sw_object_steps.specs.Values.{ObjValue}
use Rattle.sw_object_steps.specs.declared.answer.Answer.{Answer}
use Rattle.sw_object_steps.specs.declared.change.Change.{Change}
use Rattle.sw_object_steps.specs.declared.dir_fault.DirFault.{DirFault}
use Rattle.sw_object_steps.specs.declared.dir_fault.DirFault.TheVariants.{Damaged}
use Rattle.sw_object_steps.specs.declared.got.Got.{Got}
use Rattle.sw_object_steps.specs.declared.stored.Stored.{Stored}
use Rattle.sw_outside.specs.Counts.{raised}
use Rattle.sw_outside.specs.Faults.{HasRisen}
use Rattle.sw_pending.specs.declared.filed.Filed.{Filed}
use Rattle.sw_rows.specs.declared.row.Row.{Row}
use Rattle.sw_state.specs.declared.state.State.{State}
use Rattle.sw_step.specs.Rules.{CanStand, has_wanted}
use Rattle.sw_step.specs.Steps.{added_by}
use Rattle.sw_suffix.specs.declared.dir_line.DirLine.{DirLine}
use Rattle.sw_suffix.specs.declared.told.SuffixHash.{SuffixHash}
use Rattle.sw_peer.specs.Carriage.{Carriage, Carries}
use Rattle.sw_peer.specs.declared.line.Event.TheVariants.{Changed, Listed, Read, ReadPart, Restarted}
use Rattle.sw_peer.specs.declared.line.Line.{Line}
use Rattle.sw_peer.specs.declared.link.Link.{Link}
use Rattle.sw_peer.specs.declared.link.Link.TheVariants.{Local, Sent}
use Rattle.sw_peer.specs.declared.link.Lost.{Lost}
use Rattle.sw_peer.specs.declared.part_read.PartRead.{PartRead}
use Rattle.sw_peer.specs.declared.part_read.PartRead.TheVariants.{Base, Files, Hashes, Records, Write}

-- how a door comes to a lock that others come to as well
pub record Way : Type 0 where
  pub lock : List ℕ  -- which lock that is
  pub seats : ℕ  -- how many numbers the lock has, which tell who came
  pub numbers : List ℕ  -- those that this door comes by

-- what never changes
pub record Nodes : Type 0 where
  pub devices : ℕ  -- how many nodes there are
  pub lock_bits : ℕ  -- each has 2 to the lock_bits object locks
  pub power : ℕ  -- there are 2 to this power partitions
  pub secrets : Secrets
  pub fits : Name → Bool  -- whether the name's hash is that of its path under the nodes' secrets
  pub fits_place : Place → Bool  -- the same of a container's place
  pub lock : ℕ → Hash → ℕ  -- which lock of a device the hash is under: a number for objects, and one for containers
  pub part_lock : ℕ → ℕ → ℕ  -- which lock of a device the partition is under: each is under one
  pub one_lock : (device : ℕ) (hash : Hash) → lock device hash ≡ part_lock device (partition_of hash power)
  pub stripe : Hash → ℕ  -- which of the locks of its device the hash is under, from 0 on
  pub stripe_lock : ℕ → ℕ → ℕ  -- that lock among those of all devices
  pub one_stripe : (device : ℕ) (hash : Hash) → lock device hash ≡ stripe_lock device (stripe hash)
  pub within : (hash : Hash) → stripe hash < 2 ^ lock_bits
  pub ways : List Way  -- to the locks that the door shares with others; none where it shares none

pub record Sight : Type 0 where
  pub nodes : Nodes
  pub objects : ObjHalf
  pub containers : ContHalf
  pub alone : Bool  -- whether nobody else changes the nodes
  pub faults : ℕ  -- how many messages or answers were lost
  pub asks : ℕ  -- how many messages asked for hashes or files
  pub carriage : Carriage  -- what becomes of the messages to come, where that is known
  pub trail : Option (List Line)  -- the steps that were made, where the door keeps them

-- the lock of a container at a device: that of its hash, as an object's is
abbrev pub cont_lock : Nodes → ℕ → Place → ℕ
cont_lock nodes device place = nodes.lock device place.hash

-- ---- what every call keeps

-- steps at these hashes of these devices: no container is touched
pub record Moves (at : ℕ → Hash → Type 0) (old new : Sight) : Type 0 where
  pub nodes : new.nodes ≡ old.nodes
  pub objects : HalfMoves old.nodes.lock new.alone at old.objects new.objects
  pub containers : new.containers ≡ old.containers
  pub alone : new.alone ≡ true → old.alone ≡ true
  pub faults : old.faults ≤ new.faults

-- one hash of one device
abbrev pub IsAt : ℕ → Hash → ℕ → Hash → Type 0
IsAt device name d hash = (d ≡ device) × (hash ≡ name)

-- only counts of the door changed, and which messages are to come
pub record IsSame (old new : Sight) : Type 0 where
  pub same : new ≡ record old { faults = new.faults; asks = new.asks; carriage = new.carriage }
  pub faults : old.faults ≤ new.faults

-- the trail has one line more; that of a step that wanted memory may be missing, and then the step changed nothing
abbrev pub Trails : Sight → Line → Bool → Sight → Type 0
Trails old line wanting new = (new.trail ≡ option_map (λ lines. lines ++ line ∷ []) old.trail) ⊎ ((wanting ≡ true) × IsSame old new)

abbrev pub is_wanting : Answer → Bool
is_wanting answer = has_wanted (obj_ending answer)

abbrev pub is_wanting_read : Got → Bool
is_wanting_read got = is_wanting_by (got_look got)

abbrev pub is_wanting_part : {A : Type 0} → Result A DirFault → Bool
is_wanting_part got = is_wanting_by (part_look got)

-- Where the door is alone, and a lock tells its contents, its device holds under a hash what the lock's entries tell, with those of its doubts that were
-- made
abbrev pub MayStand : ℕ → Hash → Sight → Type 0
MayStand device hash s = s.alone ≡ true → (s.objects.seen (s.nodes.lock device hash)).told ≡ true
    → CanStand obj_rules (s.objects.seen (s.nodes.lock device hash)) hash (s.objects.holds device hash)

-- ---- one step, as it comes to a device and is answered there

-- a step that may change something
pub record IsMade (link : Link) (device : ℕ) (name : Name) (change : Change) (old : Sight) (answer : Answer) (new : Sight) : Type 0 where
  pub moves : Moves (IsAt device name.hash) old new
  pub step : ChangesObject new.alone (old.objects.seen (old.nodes.lock device name.hash)) (old.objects.holds device) name change answer
      (new.objects.seen (old.nodes.lock device name.hash)) (new.objects.holds device name.hash)
  pub trail : Trails old (record { device = device; link = link; event = Changed name change answer; added = added_by obj_rules step }) (is_wanting answer) new

-- every device holds what it held
abbrev pub HoldsAll : Sight → Sight → Type 0
HoldsAll old new = new.alone ≡ true → (d : ℕ) (hash : Hash) → new.objects.holds d hash ≡ old.objects.holds d hash

-- a step that reads one name
pub record IsRead (link : Link) (device : ℕ) (name : Name) (old : Sight) (got : Got) (new : Sight) : Type 0 where
  pub moves : Moves (IsAt device name.hash) old new
  pub holds_all : HoldsAll old new
  pub step : ReadsObject new.alone (old.objects.seen (old.nodes.lock device name.hash)) name.hash got
      (new.objects.seen (old.nodes.lock device name.hash)) (new.objects.holds device)
  pub trail : Trails old (record { device = device; link = link; event = Read name got; added = step.follows.entries.0 }) (is_wanting_read got) new

-- ---- one read of a partition, or of some hashes of it

-- these hashes of a partition of one device
abbrev pub IsInPart : ℕ → ℕ → ℕ → (Hash → Bool) → ℕ → Hash → Type 0
IsInPart power device part at d hash = (d ≡ device) × IsOfPart power part hash × (at hash ≡ true)

-- what it keeps. Where its places are is told by the nodes, which never change
abbrev pub PartMoves : ℕ → ℕ → (Hash → Bool) → Sight → Sight → Type 0
PartMoves device part at old new = Moves (IsInPart old.nodes.power device part at) old new

module _ {A : Type 0} where
  -- the hashes `at` are read, and `reading` tells what is answered of them. Only a read that `damages` may find a file damaged
  pub record IsPartRead (link : Link) (device part : ℕ) (at : Nodes → Hash → Bool) (damages : Bool) (reading : Nodes → Bool → (Hash → State) → A → Type 0)
      (read : Result A DirFault → PartRead) (old : Sight) (got : Result A DirFault) (new : Sight) : Type 0 where
    pub moves : PartMoves device part (at old.nodes) old new
    pub holds_all : HoldsAll old new
    pub step : ReadsPart new.alone (old.objects.seen (old.nodes.part_lock device part)) (at old.nodes)
        (reading old.nodes (new.objects.seen (old.nodes.part_lock device part)).told) got
        (new.objects.seen (old.nodes.part_lock device part)) (new.objects.holds device)
    pub sound : (bad : BadFile) → got ≡ Err (Damaged bad) → damages ≡ true
    pub trail : Trails old (record { device = device; link = link; event = ReadPart (read got); added = step.follows.entries.0 }) (is_wanting_part got) new

-- the hashes of a partition, those of one of its suffixes, and one hash
abbrev pub in_part : ℕ → Nodes → Hash → Bool
in_part part nodes hash = partition_of hash nodes.power == part

abbrev pub in_suffix : ℕ → ℕ → Nodes → Hash → Bool
in_suffix part suffix nodes hash = (partition_of hash nodes.power == part) && (suffix_of hash == suffix)

abbrev pub is_one : Hash → Nodes → Hash → Bool
is_one hash nodes other = bytes_eq hash other

-- of the hashes of all its suffixes
abbrev pub IsHashesRead : Link → ℕ → ℕ → Sight → Result (Vec SuffixHash Global) DirFault → Sight → Type 0
IsHashesRead link device part = IsPartRead link device part (in_part part) false (λ nodes told s got. AreHashes nodes.power part told s got.items)
    (λ got. Hashes part got)

-- of the files of one suffix
abbrev pub IsFilesRead : Link → ℕ → ℕ → ℕ → Sight → Result (Vec DirLine Global) DirFault → Sight → Type 0
IsFilesRead link device part suffix = IsPartRead link device part (in_suffix part suffix) false
    (λ nodes told s got. AreLines nodes.power part suffix told s got.items) (λ got. Files part suffix got)

-- of one file
abbrev pub IsWriteRead : Link → ℕ → ℕ → Hash → FileName → Sight → Result (Option Stored) DirFault → Sight → Type 0
IsWriteRead link device part hash file = IsPartRead link device part (is_one hash) true (λ nodes told s got. IsFile nodes.fits hash file told s got)
    (λ got. Write part hash file got)

-- of the row that tells what stands under the name of a record
abbrev pub IsBaseRead : Link → ℕ → Filed → Sight → Result (Option Row) DirFault → Sight → Type 0
IsBaseRead link device filed old got new =
    IsPartRead link device (partition_of filed.name.hash old.nodes.power) (is_one filed.name.hash) true
    (λ nodes told s row. told ≡ true → IsBaseFor filed (s filed.name.hash) row) (λ row. Base filed row) old got new

-- ---- one read of all records under a lock

-- the hashes of a stripe of one device
abbrev pub IsInStripe : Nodes → ℕ → ℕ → ℕ → Hash → Type 0
IsInStripe nodes device stripe d hash = (d ≡ device) × (nodes.stripe hash ≡ stripe)

abbrev pub in_stripe : ℕ → Nodes → Hash → Bool
in_stripe stripe nodes hash = nodes.stripe hash == stripe

-- The records that are filed under the hashes of a stripe. Every doubt of a change of a record under that lock is settled first, whichever hash it is of.
-- `held` is what the lock holds under each hash
pub record IsRecordsRead (link : Link) (device stripe : ℕ) (old : Sight) (got : Result (Vec Filed Global) DirFault) (new : Sight) : Type 0 where
  pub moves : Moves (IsInStripe old.nodes device stripe) old new
  pub some : (hash : Hash) × (old.nodes.stripe hash ≡ stripe)  -- the stripe has a hash
  pub holds_all : HoldsAll old new
  pub held : Hash → ObjValue
  pub is_held : new.alone ≡ true → (hash : Hash) → old.nodes.lock device hash ≡ old.nodes.stripe_lock device stripe
      → held hash ≡ new.objects.holds device hash
  pub step : ReadsRecords new.alone (old.objects.seen (old.nodes.stripe_lock device stripe)) (λ hash. true)
      (λ records list. AreFiled old.nodes.secrets (in_stripe stripe old.nodes) (new.objects.seen (old.nodes.stripe_lock device stripe)).told records list.items)
      got (new.objects.seen (old.nodes.stripe_lock device stripe)) held
  pub trail : Trails old (record { device = device; link = link; event = ReadPart (Records stripe got); added = step.follows.entries.0 })
      (is_wanting_part got) new

-- how many messages asked for hashes or files, after a call that does
abbrev pub asked : ℕ → Link → ℕ
asked asks Local = asks
asked asks Sent = raised asks

-- ---- a call of a door: its step comes once, several times or never

-- the step came as often as there are answers, and was answered so
abbrev pub Comes : {A : Type 0} → (Sight → A → Sight → Type 0) → Sight → List A → Sight → Type 0
Comes step old [] new = IsSame old new
Comes step old (answer ∷ answers) new = (mid : Sight) × step old answer mid × Comes step mid answers new

-- What a call makes: at the device itself its step comes once; in a message the last answer is heard, or no answer is. Where it was known how the
-- message would be delivered, it comes as often as that says, and is heard or not by it
abbrev pub Calls : {A : Type 0} → (Sight → A → Sight → Type 0) → Sight → Link → Result A Lost → Sight → Type 0
Calls {A} step old link (Ok answer) new =
    (earlier : List A) × (link ≡ Local → earlier ≡ []) × Comes step old (earlier ++ answer ∷ []) new
    × Carries old.carriage link (suc (length earlier)) true new.carriage
Calls {A} step old link (Err lost) new =
    (link ≡ Sent) × HasRisen old.faults new.faults
    × ((unheard : List A) × Comes step old unheard new × Carries old.carriage link (length unheard) false new.carriage)

-- ---- what the keeper of all nodes does with a device, which is no call of a door

-- all its files were listed: nothing changed but counts of faults, one of which has risen where that failed
pub record IsListed (device : ℕ) (failed : Bool) (old new : Sight) : Type 0 where
  pub nodes : new.nodes ≡ old.nodes
  pub same : (l : ℕ) → new.objects.seen l ≡ record (old.objects.seen l) { faults = (new.objects.seen l).faults }
  pub later : (l : ℕ) → (old.objects.seen l).faults ≤ (new.objects.seen l).faults
  pub others : (d : ℕ) (hash : Hash) → d ≢ device → new.objects.seen (old.nodes.lock d hash) ≡ old.objects.seen (old.nodes.lock d hash)
  pub risen : failed ≡ true → (l : ℕ) × HasRisen (old.objects.seen l).faults (new.objects.seen l).faults
  pub holds : (d : ℕ) (hash : Hash) → new.objects.holds d hash ≡ old.objects.holds d hash
  pub alone : new.alone ≡ old.alone
  pub containers : new.containers ≡ old.containers
  pub counts : (new.faults ≡ old.faults) × (new.asks ≡ old.asks)
  pub trail : new.trail ≡ option_map (λ lines. lines ++ record { device = device; link = Local; event = Listed failed; added = [] } ∷ []) old.trail

-- It was restarted: each of its locks of objects and of containers begins anew with what stands there.
pub record Restarts (device : ℕ) (old new : Sight) : Type 0 where
  pub nodes : new.nodes ≡ old.nodes
  pub objects : HalfRestarts old.nodes.lock new.alone device old.objects new.objects
  pub containers : HalfRestarts (cont_lock old.nodes) new.alone device old.containers new.containers
  pub alone : new.alone ≡ old.alone
  pub counts : (new.faults ≡ old.faults) × (new.asks ≡ old.asks)
  pub trail : new.trail ≡ option_map (λ lines. lines ++ record { device = device; link = Local; event = Restarted; added = [] } ∷ []) old.trail
