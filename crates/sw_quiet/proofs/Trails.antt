-- What a call is over a door that keeps a trail, it is over one that keeps none.
use Rattle.std.proofs.Common.{◌≡◌, ℕ, Bool, true, false, List, [], ◌∷◌, ◌++◌, refl, sym, ap, subst, inl, None, Option, Result, Ok, Err}
use Rattle.sw_core.proofs.Anew.{restarts}
use Rattle.sw_core.specs.Worlds.{KeeperSeen, AllNodes, SetsDown, restart_line, sight_of}
use Rattle.sw_container_steps.specs.declared.cont_answer.ContAnswer.{ContAnswer}
use Rattle.sw_container_steps.specs.declared.cont_change.ContChange.{ContChange}
use Rattle.sw_diskfile.specs.declared.file_name.FileName.{FileName}
use Rattle.sw_hashpath.specs.HashParts.{partition_of}
use Rattle.sw_hashpath.specs.declared.name.Name.{Name}
use Rattle.sw_hashpath.specs.declared.place.Place.{Place}
use Rattle.sw_keeper.specs.declared.tables.Tables.{Tables}
use Rattle.sw_object_steps.specs.BaseRows.{IsBaseFor}
use Rattle.sw_object_steps.specs.Journals.{Hash}
use Rattle.sw_object_steps.specs.Parts.{AreHashes, AreLines, IsFile}
use Rattle.sw_peer.specs.ContSights.{ContMoves, IsContMade, IsIn, IsLooked}
use Rattle.sw_peer.specs.declared.cont_event.ContEvent.{ContEvent}
use Rattle.sw_peer.specs.Sights.{Calls, Comes, IsAt, IsBaseRead, IsFilesRead, IsHashesRead, IsInPart, IsInStripe, IsMade, IsPartRead, IsRead, IsRecordsRead}
use Rattle.sw_peer.specs.Sights.{IsSame, IsWriteRead, Moves, Nodes, Restarts, Sight, in_part, in_suffix, is_one}
use Rattle.sw_object_steps.specs.declared.change.Change.{Change}
use Rattle.sw_object_steps.specs.declared.dir_fault.DirFault.{DirFault}
use Rattle.sw_peer.specs.declared.link.Link.{Link}
use Rattle.sw_peer.specs.declared.link.Lost.{Lost}
use Rattle.sw_peer.specs.declared.part_read.PartRead.{PartRead}
use Rattle.sw_peer.specs.declared.part_read.PartRead.TheVariants.{Base, Files, Hashes, Write}
use Rattle.sw_pending.specs.declared.filed.Filed.{Filed}
use Rattle.sw_state.specs.declared.state.State.{State}
use Rattle.sw_volume.specs.Tree.{Folders}
use Rattle.sw_quiet.specs.Laws.{LiftingRestartsQuietly}
use Rattle.sw_quiet.specs.Quiet.{SetsDownQuietly, quiet_sight_of, without_trail}

-- a step knows its trail alone by the line that it adds, and none where none is kept
abbrev pub IsBlind : {A : Type 0} → (Sight → A → Sight → Type 0) → Type 0
IsBlind {A} step = (s t : Sight) (x : A) → step s x t → step (without_trail s) x (without_trail t)

moves-quiet : (at : ℕ → Hash → Type 0) (s t : Sight) → Moves at s t → Moves at (without_trail s) (without_trail t)
moves-quiet at s t p = record { nodes = p.nodes; objects = p.objects; containers = p.containers; alone = p.alone; faults = p.faults }

same-quiet : (s t : Sight) → IsSame s t → IsSame (without_trail s) (without_trail t)
same-quiet s t p = record { same = ap without_trail p.same; faults = p.faults }

pub made-blind : (link : Link) (device : ℕ) (name : Name) (change : Change) → IsBlind (IsMade link device name change)
made-blind link device name change s t x step = record { moves = moves-quiet (IsAt device name.hash) s t step.moves; step = step.step; trail = inl refl }

pub read-blind : (link : Link) (device : ℕ) (name : Name) → IsBlind (IsRead link device name)
read-blind link device name s t x step = record {
  moves = moves-quiet (IsAt device name.hash) s t step.moves;
  holds_all = step.holds_all;
  step = step.step;
  trail = inl refl;
}

pub part-blind : {A : Type 0} (link : Link) (device part : ℕ) (at : Nodes → Hash → Bool) (damages : Bool)
    (reading : Nodes → Bool → (Hash → State) → A → Type 0) (read : Result A DirFault → PartRead)
    → IsBlind (IsPartRead link device part at damages reading read)
part-blind link device part at damages reading read s t x step = record {
  moves = moves-quiet (IsInPart s.nodes.power device part (at s.nodes)) s t step.moves;
  holds_all = step.holds_all;
  step = step.step;
  sound = step.sound;
  trail = inl refl;
}

pub hashes-blind : (link : Link) (device part : ℕ) → IsBlind (IsHashesRead link device part)
hashes-blind link device part =
    part-blind link device part (in_part part) false (λ nodes told s got. AreHashes nodes.power part told s got.items) (λ got. Hashes part got)

pub files-blind : (link : Link) (device part suffix : ℕ) → IsBlind (IsFilesRead link device part suffix)
files-blind link device part suffix =
    part-blind link device part (in_suffix part suffix) false
    (λ nodes told s got. AreLines nodes.power part suffix told s got.items) (λ got. Files part suffix got)

pub write-blind : (link : Link) (device part : ℕ) (hash : Hash) (file : FileName) → IsBlind (IsWriteRead link device part hash file)
write-blind link device part hash file =
    part-blind link device part (is_one hash) true (λ nodes told s got. IsFile nodes.fits hash file told s got) (λ got. Write part hash file got)

pub base-blind : (link : Link) (device : ℕ) (filed : Filed) → IsBlind (IsBaseRead link device filed)
base-blind link device filed s t x step =
    part-blind link device (partition_of filed.name.hash s.nodes.power) (is_one filed.name.hash) true
    (λ nodes told held row. told ≡ true → IsBaseFor filed (held filed.name.hash) row) (λ row. Base filed row) s t x step

pub records-blind : (link : Link) (device stripe : ℕ) → IsBlind (IsRecordsRead link device stripe)
records-blind link device stripe s t x step = record {
  moves = moves-quiet (IsInStripe s.nodes device stripe) s t step.moves;
  some = step.some;
  holds_all = step.holds_all;
  held = step.held;
  is_held = step.is_held;
  step = step.step;
  trail = inl refl;
}

module _ {A : Type 0} (step : Sight → A → Sight → Type 0) (blind : IsBlind step) where
  comes-quiet : (s : Sight) (xs : List A) (t : Sight) → Comes step s xs t → Comes step (without_trail s) xs (without_trail t)
  comes-quiet s [] t p = same-quiet s t p
  comes-quiet s (x ∷ xs) t p = (without_trail p.0, blind s p.0 x p.1, comes-quiet p.0 xs t p.2)

  -- a call, however often its step came
  pub calls-quiet : (s : Sight) (link : Link) (r : Result A Lost) (t : Sight) → Calls step s link r t → Calls step (without_trail s) link r (without_trail t)
  calls-quiet s link (Ok x) t p = (p.0, p.1, comes-quiet s (p.0 ++ x ∷ []) t p.2, p.3)
  calls-quiet s link (Err lost) t p = (p.0, p.1, (p.2.0, comes-quiet s p.2.0 t p.2.1, p.2.2))

-- ---- steps at containers

cont-moves-quiet : (at : ℕ → Place → Type 0) (s t : Sight) → ContMoves at s t → ContMoves at (without_trail s) (without_trail t)
cont-moves-quiet at s t p = record { nodes = p.nodes; objects = p.objects; containers = p.containers; alone = p.alone; faults = p.faults }

pub cont-made-blind : (link : Link) (device : ℕ) (place : Place) (change : ContChange) → IsBlind (IsContMade link device place change)
cont-made-blind link device place change s t x step = record {
  moves = cont-moves-quiet (IsIn device place) s t step.moves;
  step = step.step;
  trail = inl refl;
}

pub looked-blind : {A : Type 0} (link : Link) (device : ℕ) (place : Place) (reading : Option Tables → ℕ → Result A ContAnswer)
    (event : Result A ContAnswer → ContEvent) → IsBlind (IsLooked link device place reading event)
looked-blind link device place reading event s t x step = record {
  moves = cont-moves-quiet (IsIn device place) s t step.moves;
  holds_all = step.holds_all;
  step = step.step;
  trail = inl refl;
}

-- ---- lifting and setting down

restarts-blind : (device : ℕ) (s t : Sight) → Restarts device s t → Restarts device (without_trail s) (without_trail t)
restarts-blind device s t r = record {
  nodes = r.nodes;
  objects = r.objects;
  containers = r.containers;
  alone = r.alone;
  counts = r.counts;
  trail = refl;
}

-- what was set down, and its line let go
pub sets-quietly : {V K : Type 0} (old : AllNodes V K) (device : ℕ) (parts : List (V × K)) (mid new : AllNodes V K) → SetsDown old device parts mid
    → new ≡ record mid { lines = [] } → SetsDownQuietly old device parts new
sets-quietly {V} {K} old device parts mid new sets gone =
    subst (λ (w : AllNodes V K). SetsDownQuietly old device parts w) (sym gone)
    (record { down = sets.down; containers = sets.containers; rest = ap (λ (w : AllNodes V K). record w { lines = [] }) sets.rest })

module _ {V K : Type 0} (tells : V → Bool) (files : V → Folders) (faults : V → ℕ) (keeps : KeeperSeen K) where
  pub lifting-restarts : LiftingRestartsQuietly tells files faults keeps
  lifting-restarts old mid new device given up sets =
      let kept : AllNodes V K = record mid { slots = new.slots; lines = mid.lines ++ restart_line device ∷ []; lifted = None; containers = new.containers } in
      let down : SetsDown mid device given kept = record { down = sets.down; containers = sets.containers; rest = refl } in
      let plain = restarts tells files faults keeps old mid kept device given up.whole up.is_device up down in
      subst (λ (w : AllNodes V K). Restarts device (quiet_sight_of tells files faults keeps old) (quiet_sight_of tells files faults keeps w)) (sym sets.rest)
      (restarts-blind device (sight_of tells files faults keeps old) (sight_of tells files faults keeps kept) plain)
