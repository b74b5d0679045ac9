-- The ledger goes on with what comes to a device: a step at an object, or what leaves all objects as they are.
use Rattle.std.proofs.Common.{◌≡◌, ℕ, List, [], Some, refl, sym, ◌∙◌, subst}
use Rattle.std.proofs.lemmas.List.{append-nil}
use Rattle.std.specs.Bool.{⊤}
use Rattle.sw_hashpath.specs.declared.name.Name.{Name}
use Rattle.sw_hashpath.specs.declared.place.Place.{Place}
use Rattle.sw_listing_laws.proofs.Accounts.{Fits, HasReached, IsKnown, ObjAccounts}
use Rattle.sw_listing_laws.proofs.Coming.{Stays, restart-stays, stays-same}
use Rattle.sw_listing_laws.proofs.Going.{Goes, goes-nowhere, goes-on}
use Rattle.sw_listing_laws.proofs.Grounds.{ground}
use Rattle.sw_listing_laws.proofs.Making.{turns}
use Rattle.sw_listing_laws.proofs.Objects.{ObjNext, asked-same}
use Rattle.sw_listing_laws.proofs.Stepping.{IsFair, stepped}
use Rattle.sw_listing_laws.specs.Asking.{is_asked, is_asked_event}
use Rattle.sw_listing_laws.specs.Plain.{Cluster, IsNamed, IsNamedEvent, IsNamedStep}
use Rattle.sw_machine.specs.Honest.{IsHonestEvent, IsHonestStep}
use Rattle.sw_machine.specs.Machine.{Came, Comes, KnownWrite, Machine, ObjMakes, ObjReadsPart, RunLine}
use Rattle.sw_machine.specs.Sides.{TellsAt}
use Rattle.sw_object_steps.specs.Journals.{Hash}
use Rattle.sw_object_steps.specs.Values.{ObjValue}
use Rattle.sw_object_steps.specs.declared.answer.Answer.{Answer}
use Rattle.sw_object_steps.specs.declared.change.Change.{Change}
use Rattle.sw_object_steps.specs.declared.change.Change.TheVariants.{Put, Post, Delete, Receive, MarkRecord, DropRecord}
use Rattle.sw_object_steps.specs.declared.entry.ObjEntry.{ObjEntry}
use Rattle.sw_peer.specs.declared.line.Event.{Event}
use Rattle.sw_peer.specs.declared.line.Event.TheVariants.{AtContainer, Changed, Listed, Read, ReadPart, Restarted}
use Rattle.sw_peer.specs.declared.link.Link.{Link}
use Rattle.sw_peer.specs.declared.part_read.PartRead.{PartRead}
use Rattle.sw_peer.specs.declared.part_read.PartRead.TheVariants.{Base, Files, Hashes, Records, Write as ReadWrite}
use Rattle.sw_pending.specs.Records.{key_of}
use Rattle.sw_pending_laws.specs.Ledger.{Ledger, Reach}
use Rattle.sw_rows.specs.Rows.{Listed as RowList}
use Rattle.sw_rows.specs.declared.row.Row.{Row}
use Rattle.sw_state.specs.Bases.{base_at}
use Rattle.sw_state.specs.declared.base.Base.{Base as BaseOf}
use Rattle.sw_held_laws.proofs.Accounts.{AreTaken, IsAccount, LineNext}
use Rattle.sw_held_laws.proofs.Hearing.{can-hear, heard, heard-goes, heard-rows}

-- a write that is received has reached some device, by the ledger
abbrev pub IsReceived : Ledger → Event → Type 0
IsReceived l (Changed name (Receive write) answer) = (b : BaseOf) → base_at write.time write.kind ≡ Some b → HasReached l name.hash b
IsReceived l event = ⊤

module _ (c : Cluster) (kept : ℕ → Place → Row → Type 0) (done : List RunLine) (m : Machine) (l : Ledger) (account : IsAccount c kept done m l)
    (after : Machine) (tell : (d : ℕ) (h : Hash) → TellsAt c.nodes.lock after.objects d h) (device : ℕ) (link : Link)
    (added : List ObjEntry) where
  abbrev line : Event → RunLine
  line event = Came (record { device = device; link = link; event = event; added = added })

  -- ---- all objects stay

  quiet : (event : Event) → Stays m.objects after.objects → LineNext c kept done m after l (line event)
  quiet event stays = record {
    next = l;
    goes = goes-nowhere (ground c) l;
    objects = record {
      tell = tell;
      fits = λ d h. subst (λ (v : ObjValue). Fits c l.records l.reached d h v) (sym (stays.holds d h)) (account.objects.fits d h);
      known = subst (λ (xs : List (ℕ × KnownWrite)). IsKnown c xs l.reached) (sym stays.known) account.objects.known;
    };
    rows = account.rows;
    says = tt;
    tells = record {
      news = [];
      known = stays.known ∙ sym (append-nil m.objects.known);
      asked = λ before so. asked-same c (is_asked_event event) before l.asked so;
    };
  }

  read-part : (read : PartRead) → ObjReadsPart c.nodes m.objects device read added after.objects → Stays m.objects after.objects
  read-part (Hashes part got) step = record { holds = step.reads.holds; known = step.reads.known }
  read-part (Files part suffix got) step = record { holds = step.reads.holds; known = step.reads.known }
  read-part (ReadWrite part hash file got) step = record { holds = step.reads.holds; known = step.reads.known }
  read-part (Records stripe got) step = record { holds = step.reads.holds; known = step.reads.known }
  read-part (Base filed row) step = record { holds = step.reads.holds; known = step.reads.known }

  -- ---- a step at an object

  module _ (name : Name) (named : IsNamed c name) (answer : Answer) where
    -- over a ledger that has the same of objects
    over : (change : Change) (mid : Ledger) → Goes (ground c) l mid → ObjAccounts c m.objects mid.records mid.reached → AreTaken c kept done mid.tables
        → mid.asked ≡ l.asked → ObjMakes c.nodes m.objects device name change answer added after.objects → IsFair c mid device name change
        → LineNext c kept done m after l (line (Changed name change answer))
    over change mid goes objects rows same makes fair = record {
      next = n.next;
      goes = goes-on (ground c) l mid n.next goes n.goes;
      objects = n.accounts;
      rows = subst (λ (t : ℕ → Place → RowList). AreTaken c kept done t) (sym n.tables) rows;
      says = tt;
      tells = record {
        news = n.news;
        known = n.known;
        asked = λ before so. n.asked before (subst (λ (xs : List Reach). IsKnown c before xs) (sym same) so);
      };
    }
      where
        n : ObjNext c m.objects mid (is_asked change) after.objects
        n =
            stepped c m.objects mid objects device name named after.objects tell change
            (turns c.nodes m.objects device name change answer added after.objects makes (objects.tell device name.hash)) fair

    pub changes : (change : Change) → ObjMakes c.nodes m.objects device name change answer added after.objects → IsNamedStep c change
        → IsHonestStep c.nodes.secrets c.replicas done device change → IsReceived l (Changed name change answer)
        → LineNext c kept done m after l (line (Changed name change answer))
    changes (Put time content none_match) makes names honest received =
        over (Put time content none_match) l (goes-nowhere (ground c) l) account.objects account.rows refl makes tt
    changes (Post time heads) makes names honest received = over (Post time heads) l (goes-nowhere (ground c) l) account.objects account.rows refl makes tt
    changes (Delete time if_delete_at) makes names honest received =
        over (Delete time if_delete_at) l (goes-nowhere (ground c) l) account.objects account.rows refl makes tt
    changes (Receive write) makes names honest received =
        over (Receive write) l (goes-nowhere (ground c) l) account.objects account.rows refl makes received
    changes (MarkRecord filed to) makes names honest received =
        over (MarkRecord filed to) (heard c kept done m l account device (key_of filed) to honest)
        (heard-goes c kept done m l account device (key_of filed) to honest) account.objects
        (heard-rows c kept done m l account device (key_of filed) to honest) refl makes
        (can-hear c kept done m l account device (key_of filed) to honest)
    changes (DropRecord filed all) makes names honest received =
        over (DropRecord filed all) l (goes-nowhere (ground c) l) account.objects account.rows refl makes (names, honest)

  -- ---- each event

  pub came : (event : Event) → Comes c.nodes m device event added after → IsHonestEvent c.nodes.secrets c.replicas done link device event
      → IsNamedEvent c event → IsReceived l event → LineNext c kept done m after l (line event)
  came (Changed name change answer) step honest named received =
      changes name named.0 answer change step.0 named.1 honest received
  came (Read name got) step honest named received = quiet (Read name got) (record { holds = step.0.holds; known = step.0.known })
  came (ReadPart read) step honest named received = quiet (ReadPart read) (read-part read step.0)
  came (Listed failed) step honest named received = quiet (Listed failed) (record { holds = step.1.0.holds; known = step.1.0.known })
  came (AtContainer event entries) step honest named received =
      quiet (AtContainer event entries) (stays-same m.objects after.objects step.2)
  came Restarted step honest named received =
      quiet Restarted (restart-stays c.nodes.lock m.objects device after.objects account.objects.tell step.1)
