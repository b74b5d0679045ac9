-- The ledger goes on with each line of a run, and so with the run.
use Rattle.std.proofs.Common.{◌≡◌, ℕ, List, [], ◌∷◌, ◌++◌, ◌⊎◌, inl, inr, refl, sym, ap, subst}
use Rattle.std.specs.List.{Contains}
use Rattle.std.proofs.lemmas.List.Elements.{Contains-push_cases}
use Rattle.sw_container_steps.specs.declared.cont_entry.ContEntry.{ContEntry}
use Rattle.sw_hashpath.specs.declared.name.Name.{Name}
use Rattle.sw_hashpath.specs.declared.place.Place.{Place}
use Rattle.sw_machine.proofs.Runs.{hashes-stand, rows-are-merged}
use Rattle.sw_machine.specs.Honest.{IsHonest, IsHonestEvent, IsHonestStep}
use Rattle.sw_machine.specs.Machine.{Came, ContSide, Machine, ObjReadsPart, RunLine, Steps, Went}
use Rattle.sw_machine.specs.Messages.{WasSent}
use Rattle.sw_machine.specs.Sides.{TellsAt}
use Rattle.sw_object_steps.specs.Journals.{Hash}
use Rattle.sw_object_steps.specs.declared.answer.Answer.{Answer}
use Rattle.sw_object_steps.specs.declared.change.Change.{Change}
use Rattle.sw_object_steps.specs.declared.change.Change.TheVariants.{Put, Post, Delete, Receive, MarkRecord, DropRecord}
use Rattle.sw_object_steps.specs.declared.entry.ObjEntry.{ObjEntry}
use Rattle.sw_peer.specs.Sights.{cont_lock}
use Rattle.sw_peer.specs.declared.cont_event.ContEvent.{ContEvent}
use Rattle.sw_peer.specs.declared.cont_event.ContEvent.TheVariants as cont_events
use Rattle.sw_peer.specs.declared.line.Event.{Event}
use Rattle.sw_peer.specs.declared.line.Event.TheVariants.{AtContainer, Changed, Listed, Read, ReadPart, Restarted}
use Rattle.sw_peer.specs.declared.line.Line.{Line}
use Rattle.sw_peer.specs.declared.link.Link.{Link}
use Rattle.sw_peer.specs.declared.link.Link.TheVariants.{Local}
use Rattle.sw_peer.specs.declared.part_read.PartRead.{PartRead}
use Rattle.sw_peer.specs.declared.part_read.PartRead.TheVariants.{Base, Files, Hashes, Records, Write as ReadWrite}
use Rattle.sw_pending.specs.Records.{key_of}
use Rattle.sw_pending_laws.specs.Ledger.{Ledger}
use Rattle.sw_pending_laws.specs.Sound.{ComesFromClients, IsSteady}
use Rattle.sw_listing_laws.proofs.Accounts.{Accounts, IsSound, Says}
use Rattle.sw_listing_laws.proofs.Coming.{Stays, at-container, at-object, quiet, restart-stays, stays-same}
use Rattle.sw_listing_laws.proofs.Going.{LineNext, tells-still}
use Rattle.sw_listing_laws.proofs.Grounds.{ground}
use Rattle.sw_listing_laws.proofs.Making.{turns}
use Rattle.sw_listing_laws.proofs.Merging.{comes}
use Rattle.sw_listing_laws.proofs.Messages.{hears, rows-fair, write-fair}
use Rattle.sw_listing_laws.proofs.Sending.{sends}
use Rattle.sw_listing_laws.proofs.Stepping.{IsFair, stepped}
use Rattle.sw_listing_laws.specs.Plain.{Cluster, IsNamedEvent, IsNamedLine, IsNamedStep, IsPlain, IsPlainEvent, RunsSoundly}

module _ (c : Cluster) (done : List RunLine) (m : Machine) (l : Ledger) (sound : IsSound c done m l) (after : Machine) where
  -- each lock tells its contents still
  tell-objects : (line : RunLine) → Steps c.nodes m line after → (d : ℕ) (h : Hash) → TellsAt c.nodes.lock after.objects d h
  tell-objects line step d h =
      ((hashes-stand c.nodes m (line ∷ []) after (after, step, refl)).hash d h (sound.accounts.objects.tell d h)).told

  tell-containers : (line : RunLine) → Steps c.nodes m line after → (d : ℕ) (p : Place) → TellsAt (cont_lock c.nodes) after.containers d p
  tell-containers line step d p =
      ((rows-are-merged c.nodes m (line ∷ []) after (after, step, refl)).place d p (sound.accounts.containers.tell d p)).told

  -- ---- what comes to a device

  module _ (device : ℕ) (link : Link) (added : List ObjEntry) where
    abbrev line : Event → Line
    line event = record { device = device; link = link; event = event; added = added }

    fair : (name : Name) (change : Change) (answer : Answer) → WasSent m.sent (line (Changed name change answer))
        → IsHonestStep c.nodes.secrets c.replicas done device change
        → (link ≡ Local → IsPlainEvent c m (Changed name change answer)) → IsNamedStep c change → IsFair c l device name change
    fair name (Put time content none_match) answer sent honest plain named = tt
    fair name (Post time heads) answer sent honest plain named = tt
    fair name (Delete time if_delete_at) answer sent honest plain named = tt
    fair name (Receive write) answer sent honest plain named =
        write-fair c m l sound.accounts device link name write answer (λ is. sent is tt) plain
    fair name (MarkRecord filed to) answer sent honest plain named = hears c l done sound.tells device (key_of filed) to honest
    fair name (DropRecord filed all) answer sent honest plain named = (named, honest)

    read-part : (read : PartRead) → ObjReadsPart c.nodes m.objects device read added after.objects → Stays m.objects after.objects
    read-part (Hashes part got) step = record { holds = step.reads.holds; known = step.reads.known }
    read-part (Files part suffix got) step = record { holds = step.reads.holds; known = step.reads.known }
    read-part (ReadWrite part hash file got) step = record { holds = step.reads.holds; known = step.reads.known }
    read-part (Records stripe got) step = record { holds = step.reads.holds; known = step.reads.known }
    read-part (Base filed row) step = record { holds = step.reads.holds; known = step.reads.known }

    -- nothing happened that the ledger has
    still : (event : Event) → Steps c.nodes m (Came (line event)) after → Says c l (Came (line event)) → Stays m.objects after.objects
        → ((d : ℕ) (p : Place) → after.containers.half.holds d p ≡ m.containers.half.holds d p) → LineNext c after l (Came (line event))
    still event step says stays holds =
        quiet c m l sound.accounts after step.2 (tell-objects (Came (line event)) step) (tell-containers (Came (line event)) step) (Came (line event))
        says stays holds

    same-containers : after.containers ≡ m.containers → (d : ℕ) (p : Place) → after.containers.half.holds d p ≡ m.containers.half.holds d p
    same-containers same d p = ap (λ (x : ContSide). x.half.holds d p) same

    at-places : (event : ContEvent) (entries : List ContEntry) → Steps c.nodes m (Came (line (AtContainer event entries))) after
        → (link ≡ Local → IsPlainEvent c m (AtContainer event entries)) → LineNext c after l (Came (line (AtContainer event entries)))
    at-places (cont_events.Changed place change answer) entries step plain =
        at-container c m l sound.accounts after step.2 (tell-objects (Came (line (AtContainer (cont_events.Changed place change answer) entries))) step)
        (tell-containers (Came (line (AtContainer (cont_events.Changed place change answer) entries))) step) device link place change answer entries added
        step.1.2
        (comes device place c m.containers l sound.accounts.containers sound.accounts.right change answer entries after.containers step.1.1
        (tell-containers (Came (line (AtContainer (cont_events.Changed place change answer) entries))) step)
        (rows-fair c m l sound.accounts sound.clients device link place change answer entries (λ is. step.0 is tt) plain))
    at-places (cont_events.Timed place got) entries step plain = still (AtContainer (cont_events.Timed place got) entries) step (λ p row ans es event heard. cc)
        (stays-same m.objects after.objects step.1.2) step.1.1.holds
    at-places (cont_events.Informed place got) entries step plain =
        still (AtContainer (cont_events.Informed place got) entries) step (λ p row ans es event heard. cc) (stays-same m.objects after.objects step.1.2)
        step.1.1.holds
    at-places (cont_events.Listed place query got) entries step plain =
        still (AtContainer (cont_events.Listed place query got) entries) step (λ p row ans es event heard. cc) (stays-same m.objects after.objects step.1.2)
        step.1.1.holds
    at-places (cont_events.Parceled place to got) entries step plain =
        still (AtContainer (cont_events.Parceled place to got) entries) step (λ p row ans es event heard. cc) (stays-same m.objects after.objects step.1.2)
        step.1.1.holds
    at-places (cont_events.Sharded place got) entries step plain =
        still (AtContainer (cont_events.Sharded place got) entries) step (λ p row ans es event heard. cc) (stays-same m.objects after.objects step.1.2)
        step.1.1.holds
    at-places (cont_events.Cleft place range above got) entries step plain =
        still (AtContainer (cont_events.Cleft place range above got) entries) step (λ p row ans es event heard. cc)
        (stays-same m.objects after.objects step.1.2) step.1.1.holds

    came : (event : Event) → Steps c.nodes m (Came (line event)) after → IsHonestEvent c.nodes.secrets c.replicas done link device event
        → (link ≡ Local → IsPlainEvent c m event) → IsNamedEvent c event → LineNext c after l (Came (line event))
    came (Changed name change answer) step honest plain named =
        at-object c m l sound.accounts after step.2 (tell-objects (Came (line (Changed name change answer))) step)
        (tell-containers (Came (line (Changed name change answer))) step) (Came (line (Changed name change answer))) step.1.1
        (stepped c m.objects l sound.accounts.objects device name named.0 after.objects (tell-objects (Came (line (Changed name change answer))) step) change
        (turns c.nodes m.objects device name change answer added after.objects step.1.0 (sound.accounts.objects.tell device name.hash))
        (fair name change answer step.0 honest plain named.1))
        (λ p row ans es event heard. cc)
    came (Read name got) step honest plain named =
        still (Read name got) step (λ p row ans es event heard. cc) (record { holds = step.1.0.holds; known = step.1.0.known }) (same-containers step.1.1)
    came (ReadPart read) step honest plain named =
        still (ReadPart read) step (λ p row ans es event heard. cc) (read-part read step.1.0) (same-containers step.1.1)
    came (Listed failed) step honest plain named =
        still (Listed failed) step (λ p row ans es event heard. cc) (record { holds = step.1.1.0.holds; known = step.1.1.0.known })
        (same-containers step.1.1.1)
    came (AtContainer event entries) step honest plain named = at-places event entries step plain
    came Restarted step honest plain named =
        still Restarted step (λ p row ans es event heard. cc)
        (restart-stays c.nodes.lock m.objects device after.objects sound.accounts.objects.tell step.1.1)
        (restart-stays (cont_lock c.nodes) m.containers device after.containers sound.accounts.containers.tell step.1.2).holds

  -- ---- one line

  one : (line : RunLine) → Steps c.nodes m line after → IsHonest c.nodes.secrets c.replicas done line → IsPlain c m line → IsNamedLine c line
      → LineNext c after l line
  one (Came line) step honest plain named = came line.device line.link line.added line.event step honest plain named
  one (Went from message) step honest plain named =
      subst (λ (x : Machine). LineNext c x l (Went from message)) (sym step.1)
      (sends c m l sound.accounts from message step.0 plain named)

  pub goes-on-with : (line : RunLine) → Steps c.nodes m line after → IsHonest c.nodes.secrets c.replicas done line → IsPlain c m line → IsNamedLine c line
      → (next : Ledger) × IsSound c (done ++ line ∷ []) after next
  goes-on-with line step honest plain named = (
    n.next,
    record {
      accounts = n.accounts;
      tells = λ x there. by x (Contains-push_cases done line x there);
      steady = n.goes.steady sound.steady;
      clients = n.goes.clients sound.clients;
    },
  )
    where
      n : LineNext c after l line
      n = one line step honest plain named

      by : (x : RunLine) → Contains done x ⊎ (line ≡ x) → Says c n.next x
      by x (inl old) = tells-still c l n.next n.goes done sound.tells x old
      by x (inr new) = subst (λ (y : RunLine). Says c n.next y) new n.says

-- ---- a run

-- the machine at its end has a ledger too
pub record IsAtEnd (c : Cluster) (m : Machine) : Type 0 where
  pub ledger : Ledger
  pub accounts : Accounts c m ledger
  pub steady : IsSteady (ground c) ledger
  pub clients : ComesFromClients (ground c) ledger

pub ends : (c : Cluster) (lines done : List RunLine) (m : Machine) (l : Ledger) (after : Machine) → IsSound c done m l → RunsSoundly c done m lines after
    → IsAtEnd c after
ends c [] done m l after sound same =
    subst (λ (x : Machine). IsAtEnd c x) (sym same)
    (record { ledger = l; accounts = sound.accounts; steady = sound.steady; clients = sound.clients })
ends c (line ∷ lines) done m l after sound run =
    let next = goes-on-with c done m l sound run.0 line run.1 run.2 run.3 run.4 in
    ends c lines (done ++ line ∷ []) run.0 next.0 after next.1 run.5
