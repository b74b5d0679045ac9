-- What steps at the nodes keep that were called for at a device itself: whatever machine the nodes stood for goes on to them as they are then, whether
-- lines are kept or not, and no line tells of a restart.
use Rattle.std.proofs.Common.{◌≡◌, ℕ, true, List, [], ◌∷◌, ◌++◌, sym, ◌∙◌, ap, subst, inl, inr, Bool, Result, Ok, refl}
use Rattle.std.specs.declared.alloc.Global.{Global}
use Rattle.std.specs.declared.vec.Vec.{Vec}
use Rattle.sw_container_steps.specs.Reads.{info_of, listing_of, sharding_of}
use Rattle.sw_container_steps.specs.declared.cont_answer.ContAnswer.{ContAnswer}
use Rattle.sw_container_steps.specs.declared.cont_change.ContChange.{ContChange}
use Rattle.sw_container_steps.specs.declared.info.Info.{Info}
use Rattle.sw_container_steps.specs.declared.sharding.Sharding.{Sharding}
use Rattle.sw_hashpath.specs.declared.name.Name.{Name}
use Rattle.sw_hashpath.specs.declared.place.Place.{Place}
use Rattle.sw_listing.specs.declared.entry.Entry.{Entry}
use Rattle.sw_listing.specs.declared.query.Query.{Query}
use Rattle.sw_machine.proofs.Doors.{container-changes, device-listings, files-reads, hashes-reads, infos, listings, object-changes, object-reads, restarts}
use Rattle.sw_machine.proofs.Doors.{shardings}
use Rattle.sw_machine.proofs.Going.{leaving-join, leaving-same}
use Rattle.sw_machine.specs.Doors.{GoesOn, GoesOnBy, LeaveRecords, RunsOnLeaving, leaves_points, leaves_records}
use Rattle.sw_machine.specs.Machine.{Machine, RunLine}
use Rattle.sw_object_steps.specs.Recorded.{is_write}
use Rattle.sw_object_steps.specs.declared.answer.Answer.{Answer}
use Rattle.sw_object_steps.specs.declared.change.Change.{Change}
use Rattle.sw_object_steps.specs.declared.dir_fault.DirFault.{DirFault}
use Rattle.sw_object_steps.specs.declared.got.Got.{Got}
use Rattle.sw_peer.proofs.Calls.{same-refl}
use Rattle.sw_peer.specs.ContSights.{IsContMade, IsLooked}
use Rattle.sw_peer.specs.Sights.{Calls, Comes, IsFilesRead, IsHashesRead, IsListed, IsMade, IsRead, IsSame, Restarts, Sight}
use Rattle.sw_peer.specs.declared.cont_event.ContEvent.TheVariants as cont_events
use Rattle.sw_peer.specs.declared.line.Line.{Line}
use Rattle.sw_peer.specs.declared.link.Link.TheVariants.{Local}
use Rattle.sw_suffix.specs.declared.dir_line.DirLine.{DirLine}
use Rattle.sw_suffix.specs.declared.told.SuffixHash.{SuffixHash}
use Rattle.sw_nodes.proofs.Calming.{IsCalm, calm-join, calm-same, calm-still, calm-trails}

-- ---- running on

pub runs-same : (s t : Sight) → IsSame s t → RunsOnLeaving s t
runs-same s t same = leaving-same s t same

pub runs-itself : (s : Sight) → RunsOnLeaving s s
runs-itself s = runs-same s s (same-refl s)

pub listed-runs : (device : ℕ) (failed : Bool) (s t : Sight) → IsListed device failed s t → RunsOnLeaving s t
listed-runs device failed s t listed m stands = (_, (refl, tt), device-listings device failed s t m stands listed)

pub restart-runs : (device : ℕ) (s t : Sight) → t.alone ≡ true → Restarts device s t → RunsOnLeaving s t
restart-runs device s t alone restarted m stands = (_, (refl, tt), restarts device s t m stands alone restarted)

-- a step that leaves records as they are goes on by its line, or by none
by-leaving : {E : Type 0} (s t : Sight) (m : Machine) (line : List E → Line) (wanting : Bool) → ((added : List E) → leaves_records (line added).event ≡ true)
    → GoesOnBy s m line wanting t → (lines : List RunLine) × LeaveRecords lines × GoesOn s m lines t
by-leaving {E} s t m line wanting each (lines, inl is, goes) = (lines, subst LeaveRecords (sym is.1) (each is.0, tt), goes)
by-leaving {E} s t m line wanting each (lines, inr none, goes) = (lines, subst LeaveRecords (sym none.1) tt, goes)

-- ---- what is kept

pub record Keeps (s t : Sight) : Type 0 where
  pub nodes : t.nodes ≡ s.nodes
  pub alone : t.alone ≡ true → s.alone ≡ true
  pub calm : IsCalm s t
  pub runs : t.alone ≡ true → RunsOnLeaving s t

keeps-still : (s t : Sight) → IsSame s t → Keeps s t
keeps-still s t p = record {
  nodes = ap (λ (x : Sight). x.nodes) p.same;
  alone = λ alone. sym (ap (λ (x : Sight). x.alone) p.same) ∙ alone;
  calm = calm-still s t p;
  runs = λ alone. runs-same s t p;
}

pub keeps-same : (s t : Sight) → t ≡ s → Keeps s t
keeps-same s t same = record {
  nodes = ap (λ (x : Sight). x.nodes) same;
  alone = λ alone. sym (ap (λ (x : Sight). x.alone) same) ∙ alone;
  calm = calm-same s t same;
  runs = λ alone. subst (RunsOnLeaving s) (sym same) (runs-itself s);
}

pub keeps-join : (a b c : Sight) → Keeps a b → Keeps b c → Keeps a c
keeps-join a b c p q = record {
  nodes = q.nodes ∙ p.nodes;
  alone = λ alone. p.alone (q.alone alone);
  calm = calm-join a b c p.calm q.calm;
  runs = λ alone. leaving-join a b c (p.runs (q.alone alone)) (q.runs alone);
}

-- ---- a call at the device itself, by what each of its steps keeps

module _ {A : Type 0} (step : Sight → A → Sight → Type 0) (each : (s : Sight) (x : A) (t : Sight) → step s x t → Keeps s t) where
  comes-keeps : (s : Sight) (xs : List A) (t : Sight) → Comes step s xs t → Keeps s t
  comes-keeps s [] t p = keeps-still s t p
  comes-keeps s (x ∷ xs) t p = keeps-join s p.0 t (each s x p.0 p.1) (comes-keeps p.0 xs t p.2)

  call-keeps : (s : Sight) (x : A) (t : Sight) → Calls step s Local (Ok x) t → Keeps s t
  call-keeps s x t p = comes-keeps s (p.0 ++ x ∷ []) t p.2

pub change-keeps : (device : ℕ) (name : Name) (change : Change) → is_write change ≡ true → (s : Sight) (answer : Answer) (t : Sight)
    → Calls (IsMade Local device name change) s Local (Ok answer) t → Keeps s t
change-keeps device name change writes = call-keeps (IsMade Local device name change) (λ s x t made. record {
  nodes = made.moves.nodes;
  alone = made.moves.alone;
  calm = calm-trails s t _ _ refl made.trail;
  runs = λ alone m stands. by-leaving s t m _ _ (λ added. writes) ((object-changes device name change).one Local s x t m stands alone (λ added is. cc) made);
})

pub read-keeps : (device : ℕ) (name : Name) (s : Sight) (got : Got) (t : Sight) → Calls (IsRead Local device name) s Local (Ok got) t → Keeps s t
read-keeps device name = call-keeps (IsRead Local device name) (λ s x t made. record {
  nodes = made.moves.nodes;
  alone = made.moves.alone;
  calm = calm-trails s t _ _ refl made.trail;
  runs = λ alone m stands. by-leaving s t m _ _ (λ added. refl) ((object-reads device name).one Local s x t m stands alone made);
})

pub hashes-keeps : (device part : ℕ) (s : Sight) (got : Result (Vec SuffixHash Global) DirFault) (t : Sight)
    → Calls (IsHashesRead Local device part) s Local (Ok got) t → Keeps s t
hashes-keeps device part = call-keeps (IsHashesRead Local device part) (λ s x t made. record {
  nodes = made.moves.nodes;
  alone = made.moves.alone;
  calm = calm-trails s t _ _ refl made.trail;
  runs = λ alone m stands. by-leaving s t m _ _ (λ added. refl) ((hashes-reads device part).one Local s x t m stands alone made);
})

pub files-keeps : (device part suffix : ℕ) (s : Sight) (got : Result (Vec DirLine Global) DirFault) (t : Sight)
    → Calls (IsFilesRead Local device part suffix) s Local (Ok got) t → Keeps s t
files-keeps device part suffix = call-keeps (IsFilesRead Local device part suffix) (λ s x t made. record {
  nodes = made.moves.nodes;
  alone = made.moves.alone;
  calm = calm-trails s t _ _ refl made.trail;
  runs = λ alone m stands. by-leaving s t m _ _ (λ added. refl) ((files-reads device part suffix).one Local s x t m stands alone made);
})

pub cont_change-keeps : (device : ℕ) (place : Place) (change : ContChange) → leaves_points change ≡ true → (s : Sight) (answer : ContAnswer) (t : Sight)
    → Calls (IsContMade Local device place change) s Local (Ok answer) t → Keeps s t
cont_change-keeps device place change leaves = call-keeps (IsContMade Local device place change) (λ s x t made. record {
  nodes = made.moves.nodes;
  alone = made.moves.alone;
  calm = calm-trails s t _ _ refl made.trail;
  runs = λ alone m stands.
      by-leaving s t m _ _ (λ added. leaves) ((container-changes device place change).one Local s x t m stands alone (λ added is. cc) made);
})

pub inform-keeps : (device : ℕ) (place : Place) (s : Sight) (told : Result Info ContAnswer) (t : Sight)
    → Calls (IsLooked Local device place info_of (λ told. cont_events.Informed place told)) s Local (Ok told) t → Keeps s t
inform-keeps device place = call-keeps (IsLooked Local device place info_of (λ told. cont_events.Informed place told)) (λ s x t made. record {
  nodes = made.moves.nodes;
  alone = made.moves.alone;
  calm = calm-trails s t _ _ refl made.trail;
  runs = λ alone m stands. by-leaving s t m _ _ (λ added. refl) ((infos device place).one Local s x t m stands alone made);
})

pub list-keeps : (device : ℕ) (place : Place) (query : Query) (s : Sight) (listed : Result (List Entry) ContAnswer) (t : Sight)
    → Calls (IsLooked Local device place (listing_of query) (λ listed. cont_events.Listed place query listed)) s Local (Ok listed) t → Keeps s t
list-keeps device place query =
    call-keeps (IsLooked Local device place (listing_of query) (λ listed. cont_events.Listed place query listed)) (λ s x t made. record {
      nodes = made.moves.nodes;
      alone = made.moves.alone;
      calm = calm-trails s t _ _ refl made.trail;
      runs = λ alone m stands. by-leaving s t m _ _ (λ added. refl) ((listings device place query).one Local s x t m stands alone made);
    })

pub sharding-keeps : (device : ℕ) (place : Place) (s : Sight) (got : Result Sharding ContAnswer) (t : Sight)
    → Calls (IsLooked Local device place sharding_of (λ got. cont_events.Sharded place got)) s Local (Ok got) t → Keeps s t
sharding-keeps device place = call-keeps (IsLooked Local device place sharding_of (λ got. cont_events.Sharded place got)) (λ s x t made. record {
  nodes = made.moves.nodes;
  alone = made.moves.alone;
  calm = calm-trails s t _ _ refl made.trail;
  runs = λ alone m stands. by-leaving s t m _ _ (λ added. refl) ((shardings device place).one Local s x t m stands alone made);
})
