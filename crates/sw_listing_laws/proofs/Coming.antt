-- The ledger goes on with what comes to a device.
use Rattle.std.proofs.Common.{◌≡◌, ℕ, Bool, List, Option, ◌⊎◌, inl, inr, refl, sym, ap, subst}
use Rattle.std.specs.List.{Contains}
use Rattle.std.proofs.lemmas.Bool.{cases_eq}
use Rattle.sw_container_steps.specs.Entries.{rows_of}
use Rattle.sw_container_steps.specs.declared.cont_answer.ContAnswer.{ContAnswer}
use Rattle.sw_container_steps.specs.declared.cont_change.ContChange.{ContChange}
use Rattle.sw_container_steps.specs.declared.cont_change.ContChange.TheVariants.{MergeRow}
use Rattle.sw_container_steps.specs.declared.cont_entry.ContEntry.{ContEntry}
use Rattle.sw_hashpath.specs.declared.place.Place.{Place}
use Rattle.sw_keeper.specs.declared.tables.Tables.{Tables}
use Rattle.sw_machine.specs.Machine.{Came, ContSide, KnownWrite, Machine, RunLine}
use Rattle.sw_machine.specs.Sides.{Side, SideRestarts, TellsAt}
use Rattle.sw_object_steps.specs.Journals.{Hash}
use Rattle.sw_object_steps.specs.Values.{ObjValue}
use Rattle.sw_object_steps.specs.declared.entry.ObjEntry.{ObjEntry}
use Rattle.sw_peer.specs.Sights.{cont_lock}
use Rattle.sw_peer.specs.declared.cont_event.ContEvent.TheVariants as cont_events
use Rattle.sw_peer.specs.declared.line.Event.TheVariants.{AtContainer}
use Rattle.sw_peer.specs.declared.link.Link.{Link}
use Rattle.sw_pending_laws.specs.Ledger.{IsHeld, Ledger}
use Rattle.sw_rows.specs.Rows.{Listed as RowList}
use Rattle.sw_rows.specs.declared.row.Row.{Row}
use Rattle.sw_listing_laws.proofs.Accounts.{Accounts, AreAccounted, AreRight, ContAccounts, Fits, IsKnown, IsRight, ObjAccounts, Says}
use Rattle.sw_listing_laws.proofs.Bringing.{HasOnly}
use Rattle.sw_listing_laws.proofs.Going.{LineNext, all-right-still, all-still, goes-nowhere}
use Rattle.sw_listing_laws.proofs.Grounds.{ground}
use Rattle.sw_listing_laws.proofs.Merging.{ContNext}
use Rattle.sw_listing_laws.proofs.Objects.{ObjNext}
use Rattle.sw_listing_laws.proofs.Redirecting.{IsHeard}
use Rattle.sw_listing_laws.proofs.Splitting.{IsKept, IsSplitWhereEmptied}
use Rattle.sw_listing_laws.specs.Plain.{Cluster}

-- ---- what leaves all that is held

-- of one kind of lock each device holds what it held
pub record Stays {K V E N : Type 0} (m after : Side K V E N) : Type 0 where
  pub holds : (d : ℕ) (key : K) → after.half.holds d key ≡ m.half.holds d key
  pub known : after.known ≡ m.known

pub stays-same : {K V E N : Type 0} (m after : Side K V E N) → after ≡ m → Stays m after
stays-same {K} {V} {E} {N} m after same = record {
  holds = λ d key. ap (λ (x : Side K V E N). x.half.holds d key) same;
  known = ap (λ (x : Side K V E N). x.known) same;
}

-- where the lock of each key told its contents, a restart does
pub restart-stays : {K V E N : Type 0} (lock : ℕ → K → ℕ) (m : Side K V E N) (device : ℕ) (after : Side K V E N) → ((d : ℕ) (key : K) → TellsAt lock m d key)
    → SideRestarts lock m device after → Stays m after
restart-stays {K} lock m device after tell anew = record { holds = λ d key. by d key (cases_eq d device); known = anew.known }
  where
    by : (d : ℕ) (key : K) → (d ≡ device) ⊎ (d ≡ device → ⊥) → after.half.holds d key ≡ m.half.holds d key
    by d key (inl is) =
        subst (λ (x : ℕ). after.half.holds x key ≡ m.half.holds x key) (sym is) (anew.half.holds refl key (tell device key))
    by d key (inr away) = anew.half.elsewhere refl d key away

module _ (c : Cluster) (m : Machine) (l : Ledger) (accounts : Accounts c m l) (after : Machine) (sent : after.sent ≡ m.sent) where
  abbrev ObjTell : Type 0
  ObjTell = (d : ℕ) (h : Hash) → TellsAt c.nodes.lock after.objects d h

  abbrev ContTell : Type 0
  ContTell = (d : ℕ) (p : Place) → TellsAt (cont_lock c.nodes) after.containers d p

  objects-stay : ObjTell → Stays m.objects after.objects → ObjAccounts c after.objects l.records l.reached
  objects-stay tell stays = record {
    tell = tell;
    fits = λ d h. subst (λ (v : ObjValue). Fits c l.records l.reached d h v) (sym (stays.holds d h)) (accounts.objects.fits d h);
    known = subst (λ (xs : List (ℕ × KnownWrite)). IsKnown c xs l.reached) (sym stays.known) accounts.objects.known;
  }

  containers-stay : ContTell → ((d : ℕ) (p : Place) → after.containers.half.holds d p ≡ m.containers.half.holds d p)
      → ContAccounts c after.containers l.tables
  containers-stay tell holds = record {
    tell = tell;
    rows = λ d p.
        subst (λ (t : Option Tables). IsKept t → l.tables d p ≡ rows_of t) (sym (holds d p)) (accounts.containers.rows d p);
    listed = accounts.containers.listed;
    split = λ d p. subst IsSplitWhereEmptied (sym (holds d p)) (accounts.containers.split d p);
  }

  right-stays : ((d : ℕ) (p : Place) → after.containers.half.holds d p ≡ m.containers.half.holds d p) → AreRight c l after.containers
  right-stays holds d p = subst (λ (t : Option Tables). HasOnly (IsRight c l p) (rows_of t)) (sym (holds d p)) (accounts.right d p)

  messages-stay : (next : Ledger) → AreAccounted c next m.sent → AreAccounted c next after.sent
  messages-stay next are message there = are message (subst (λ xs. Contains xs message) sent there)

  module _ (obj_tell : ObjTell) (cont_tell : ContTell) where
    -- nothing happened that the ledger has
    pub quiet : (line : RunLine) → Says c l line → Stays m.objects after.objects
        → ((d : ℕ) (p : Place) → after.containers.half.holds d p ≡ m.containers.half.holds d p) → LineNext c after l line
    quiet line says stays holds = record {
      next = l;
      goes = goes-nowhere (ground c) l;
      accounts = record {
        objects = objects-stay obj_tell stays;
        containers = containers-stay cont_tell holds;
        right = right-stays holds;
        sent = messages-stay l accounts.sent;
      };
      says = says;
    }

    -- a step at an object
    pub at-object : {asks : Bool} (line : RunLine) → after.containers ≡ m.containers → (n : ObjNext c m.objects l asks after.objects)
        → Says c n.next line → LineNext c after l line
    at-object line same n says = record {
      next = n.next;
      goes = n.goes;
      accounts = record {
        objects = n.accounts;
        containers =
            subst (λ (t : ℕ → Place → RowList). ContAccounts c after.containers t) (sym n.tables)
            (containers-stay cont_tell (λ d p. ap (λ (x : ContSide). x.half.holds d p) same));
        right = all-right-still c l n.next n.goes after.containers (right-stays (λ d p. ap (λ (x : ContSide). x.half.holds d p) same));
        sent = messages-stay n.next (all-still c l n.next n.goes m.sent accounts.sent);
      };
      says = says;
    }

    -- one at a container
    pub at-container : (device : ℕ) (link : Link) (place : Place) (change : ContChange) (answer : ContAnswer) (entries : List ContEntry) (added : List ObjEntry)
        → after.objects ≡ m.objects → ContNext device place c l change answer after.containers
        → LineNext c after l
        (Came (record { device = device; link = link; event = AtContainer (cont_events.Changed place change answer) entries; added = added }))
    at-container device link place change answer entries added same n = record {
      next = record l { tables = n.tables };
      goes = n.goes;
      accounts = record {
        objects = objects-stay obj_tell (stays-same m.objects after.objects same);
        containers = n.accounts;
        right = n.right;
        sent = messages-stay (record l { tables = n.tables }) (all-still c l (record l { tables = n.tables }) n.goes m.sent accounts.sent);
      };
      says = λ p row ans es event heard. says p row ans es event heard;
    }
      where
        says : (p : Place) (row : Row) (ans : ContAnswer) (es : List ContEntry)
            → AtContainer (cont_events.Changed place change answer) entries ≡ AtContainer (cont_events.Changed p (MergeRow row) ans) es
            → IsHeard ans → IsHeld (n.tables device p) row.name row.created_at row.deleted
        says p row ans es event heard =
            let place_is : place ≡ p = cc in
            let change_is : change ≡ MergeRow row = cc in
            let answer_is : answer ≡ ans = cc in
            subst (λ (q : Place). IsHeld (n.tables device q) row.name row.created_at row.deleted) place_is
            (n.heard row change_is (subst IsHeard (sym answer_is) heard))
