-- A step that comes to a container, from the device itself or in a message, may be made.
use Rattle.std.proofs.Common.{◌≡◌, ℕ, List, Option, refl, sym, subst}
use Rattle.std.specs.List.{Contains}
use Rattle.sw_container_steps.specs.declared.cont_answer.ContAnswer.{ContAnswer}
use Rattle.sw_container_steps.specs.declared.cont_change.ContChange.{ContChange}
use Rattle.sw_container_steps.specs.declared.cont_change.ContChange.TheVariants.{Create, Remove, MergeRow, MergeRows, SetRanges}
use Rattle.sw_container_steps.specs.declared.cont_change.ContChange.TheVariants.{Ack, CloseRange, EmptyOut, SetSync}
use Rattle.sw_container_steps.specs.declared.cont_entry.ContEntry.{ContEntry}
use Rattle.sw_hashpath.specs.declared.place.Place.{Place}
use Rattle.sw_hashpath.specs.declared.secrets.Secrets.{Secrets}
use Rattle.sw_keeper.specs.declared.tables.Tables.{Tables}
use Rattle.sw_machine.specs.Honest.{IsHonestChange}
use Rattle.sw_machine.specs.Machine.{Machine, RunLine}
use Rattle.sw_machine.specs.Messages.{Arrives, Creation_of, Message, Ranges_of, Row_of, Rows_of, Update_of, Write_of}
use Rattle.sw_peer.specs.Sights.{Nodes}
use Rattle.sw_peer.specs.declared.cont_event.ContEvent.TheVariants as cont_events
use Rattle.sw_peer.specs.declared.line.Event.TheVariants.{AtContainer}
use Rattle.sw_peer.specs.declared.link.Link.{Link}
use Rattle.sw_peer.specs.declared.link.Link.TheVariants.{Local, Sent}
use Rattle.sw_shard_laws.specs.Changes.{CanSplit}
use Rattle.sw_shard_laws.specs.Ledger.{Ground, Ledger}
use Rattle.sw_split_steps.specs.Tables.{ways_of}
use Rattle.sw_point_laws.proofs.Acking.{can-ack}
use Rattle.sw_point_laws.proofs.Closing.{are-all}
use Rattle.sw_point_laws.proofs.Making.{MayMake}
use Rattle.sw_point_laws.proofs.Saying.{CanCome}
use Rattle.sw_point_laws.proofs.Setting.{can-split}
use Rattle.sw_point_laws.proofs.Standing.{IsSound}
use Rattle.sw_point_laws.proofs.Syncing.{can-sync}
use Rattle.sw_point_laws.specs.Laws.{ground_of, ledger_of}

-- at the device itself, or in a message
either-link : {R : Type 0} (link : Link) → (link ≡ Local → R) → (link ≡ Sent → R) → R
either-link Local here there = here refl
either-link Sent here there = there refl

-- a message brings no step of which more is asked, but for ranges
arrives : (g : Ground) (l : Ledger) (device : ℕ) (place : Place) (t : Option Tables) (change : ContChange) (answer : ContAnswer) (entries : List ContEntry)
    (message : Message) → Arrives message device (AtContainer (cont_events.Changed place change answer) entries) → CanCome g l message
    → MayMake g l place t change
arrives g l device place t change answer entries (Write_of to name write) comes can = absurd comes
arrives g l device place t change answer entries (Row_of to p at row) comes can = subst (λ (c : ContChange). MayMake g l place t c) (sym comes.2) tt
arrives g l device place t change answer entries (Rows_of to p at rows) comes can = subst (λ (c : ContChange). MayMake g l place t c) (sym comes.2) tt
arrives g l device place t change answer entries (Update_of to filed p at row) comes can =
    subst (λ (c : ContChange). MayMake g l place t c) (sym comes.2) tt
arrives g l device place t change answer entries (Creation_of to p time) comes can = subst (λ (c : ContChange). MayMake g l place t c) (sym comes.2) tt
arrives g l device place t change answer entries (Ranges_of to p ranges) comes can =
    subst (λ (c : ContChange). MayMake g l place t c) (sym comes.2) (subst (λ (q : Place). CanSplit g l q (ways_of ranges)) (sym comes.1) can)

module _ (secrets : Secrets) (nodes : Nodes) (replicas : Place → List ℕ) (done : List RunLine) (m : Machine) (sound : IsSound nodes replicas done m)
    (device : ℕ) (place : Place) where
  abbrev g : Ground
  g = ground_of replicas

  abbrev l : Ledger
  l = ledger_of m

  abbrev here : Option Tables
  here = m.containers.half.holds device place

  -- what is honest may be made
  honest-may : (change : ContChange) → IsHonestChange secrets replicas done device place change → MayMake g l place here change
  honest-may (Create time) honest = tt
  honest-may (Remove time) honest = tt
  honest-may (MergeRow row) honest = tt
  honest-may (MergeRows rows) honest = tt
  honest-may (SetRanges ranges) honest = can-split secrets replicas l done sound.say place ranges honest
  honest-may (Ack range to rowid) honest = can-ack secrets replicas g l done sound.say sound.points device place range to rowid honest
  honest-may (CloseRange range devices) honest = are-all secrets replicas l done sound.say device place range devices honest
  honest-may EmptyOut honest = tt
  honest-may (SetSync to rowid) honest = can-sync secrets replicas l done sound.say sound.points device place to rowid honest

  pub may-make : (link : Link) (change : ContChange) (answer : ContAnswer) (entries : List ContEntry)
      → (link ≡ Sent → (message : Message) × Contains m.sent message × Arrives message device (AtContainer (cont_events.Changed place change answer) entries))
      → (link ≡ Local → IsHonestChange secrets replicas done device place change) → MayMake g l place here change
  may-make link change answer entries sent honest =
      either-link link (λ is. honest-may change (honest is))
      (λ is. let got = sent is in arrives g l device place here change answer entries got.0 got.2 (sound.comes got.0 got.1))
