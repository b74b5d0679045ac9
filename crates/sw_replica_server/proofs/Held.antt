-- A request for replicas leaves the devices what they held.
use Rattle.std.proofs.Common.{◌≡◌, ℕ, Bool, true, false, List, [], ◌∷◌, ◌++◌, refl, sym, ◌∙◌, ap, subst, inl, inr, Result, Ok, Err}
use Rattle.std.specs.declared.alloc.Global.{Global}
use Rattle.std.specs.declared.vec.Vec.{Vec}
use Rattle.sw_object_server.specs.Serving.{IsStepped}
use Rattle.sw_peer.proofs.Calls.{PartFrame, calls-moves, part-step}
use Rattle.sw_object_steps.specs.Journals.{Hash}
use Rattle.sw_object_steps.specs.Parts.{AreHashes, AreLines}
use Rattle.sw_peer.specs.Sights.{Comes, HoldsAll, IsFilesRead, IsHashesRead, IsPartRead, Nodes, Sight, in_part, in_suffix}
use Rattle.sw_object_steps.specs.declared.dir_fault.DirFault.{DirFault}
use Rattle.sw_peer.specs.declared.link.Link.TheVariants.{Local}
use Rattle.sw_peer.specs.declared.part_read.PartRead.{PartRead}
use Rattle.sw_peer.specs.declared.part_read.PartRead.TheVariants as reads
use Rattle.sw_state.specs.declared.state.State.{State}
use Rattle.sw_suffix.specs.declared.dir_line.DirLine.{DirLine}
use Rattle.sw_suffix.specs.declared.told.SuffixHash.{SuffixHash}
use Rattle.sw_replica_server.specs.Laws.{LeavesHeld}
use Rattle.sw_replica_server.specs.Serving.{AreFilesRead, IsStopped}
use Rattle.sw_replica_server.specs.declared.asked.ReplicaAsked.TheVariants as asks

-- where the later is alone the earlier was, and they hold the same
record Keeps (s t : Sight) : Type 0 where
  alone : t.alone ≡ true → s.alone ≡ true
  held : HoldsAll s t

keeps-same : (s t : Sight) → t ≡ s → Keeps s t
keeps-same s t same = subst (λ (x : Sight). Keeps s x) (sym same) (record { alone = λ a. a; held = λ a d hash. refl })

keeps-trans : (a b c : Sight) → Keeps a b → Keeps b c → Keeps a c
keeps-trans a b c p q = record { alone = λ x. p.alone (q.alone x); held = λ x d hash. q.held x d hash ∙ p.held (q.alone x) d hash }

-- ---- a read at the device itself

module _ {A : Type 0} (device part : ℕ) (at : Nodes → Hash → Bool) (reading : Nodes → Bool → (Hash → State) → A → Type 0)
    (read : Result A DirFault → PartRead) where
  abbrev Step : Sight → Result A DirFault → Sight → Type 0
  Step = IsPartRead Local device part at false reading read

  step-keeps : (s : Sight) (got : Result A DirFault) (t : Sight) → IsStepped Step s got t → Keeps s t
  step-keeps s got t p =
      let comes : Comes Step s (got ∷ []) t =
      subst (λ (earlier : List (Result A DirFault)). Comes Step s (earlier ++ got ∷ []) t) (p.called.1 refl) p.called.2 in
      record {
        alone = (calls-moves (PartFrame device part at) Step (part-step Local device part at false reading read) s Local (Ok got) t p.called).alone;
        held = λ alone d hash. ap (λ (x : Sight). x.objects.holds d hash) (comes.2).same
            ∙ (comes.1).holds_all (sym (ap (λ (x : Sight). x.alone) (comes.2).same) ∙ alone) d hash;
      }

-- of hashes
hashes-keep : (device part : ℕ) (s : Sight) (got : Result (Vec SuffixHash Global) DirFault) (t : Sight)
    → IsStepped (IsHashesRead Local device part) s got t → Keeps s t
hashes-keep device part =
    step-keeps device part (in_part part) (λ nodes told s got. AreHashes nodes.power part told s got.items) (λ got. reads.Hashes part got)

-- and of files
files-keep : (device part suffix : ℕ) (s : Sight) (got : Result (Vec DirLine Global) DirFault) (t : Sight)
    → IsStepped (IsFilesRead Local device part suffix) s got t → Keeps s t
files-keep device part suffix =
    step-keeps device part (in_suffix part suffix) (λ nodes told s got. AreLines nodes.power part suffix told s got.items)
    (λ got. reads.Files part suffix got)

several-keep : (device part : ℕ) (suffixes : List ℕ) (s : Sight) (found : List DirLine) (t : Sight) → AreFilesRead device part suffixes s found t → Keeps s t
several-keep device part [] s found t p = keeps-same s t p.0
several-keep device part (suffix ∷ suffixes) s found t p =
    keeps-trans s p.2 t (files-keep device part suffix s (Ok p.0) p.2 p.3) (several-keep device part suffixes p.2 p.1 t p.4)

stopped-keep : (device part : ℕ) (suffixes : List ℕ) (s : Sight) (fault : DirFault) (t : Sight) → IsStopped device part suffixes s fault t → Keeps s t
stopped-keep device part suffixes s fault t p =
    keeps-trans s p.mid t (several-keep device part p.front s p.found p.mid p.before) (files-keep device part p.suffix p.mid (Err fault) t p.stops)

pub leaves_held : LeavesHeld
leaves_held old new (asks.Refused status) response (inl p) = (keeps-same old new p.0).held
leaves_held old new (asks.Refused status) response (inr p) = absurd p
leaves_held old new (asks.Hashes device part) response (inl p) = (hashes-keep device part old p.0 new p.1).held
leaves_held old new (asks.Hashes device part) response (inr p) = (hashes-keep device part old p.0 new p.1).held
leaves_held old new (asks.Files device part suffixes) response (inl (Ok lines, read, reply)) =
    (several-keep device part suffixes old lines.items new read).held
leaves_held old new (asks.Files device part suffixes) response (inl (Err fault, read, reply)) = (stopped-keep device part suffixes old fault new read).held
leaves_held old new (asks.Files device part suffixes) response (inr (inl p)) = (several-keep device part p.front old p.found new p.read).held
leaves_held old new (asks.Files device part suffixes) response (inr (inr p)) = (stopped-keep device part suffixes old p.0 new p.1).held
