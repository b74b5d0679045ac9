-- What is shown at the end of a run, by the ledger of the machine.
use Rattle.std.proofs.Common.{◌≡◌, ℕ, ◌≤◌, false, true≢false, List, [], Option, None, Some, refl, sym, ◌∙◌, ap, subst}
use Rattle.std.specs.List.{Contains}
use Rattle.std.proofs.lemmas.List.Elements.{All-nil}
use Rattle.sw_container_steps.specs.Entries.{rows_of}
use Rattle.sw_hashpath.specs.Places.{IsPlaceOf}
use Rattle.sw_hashpath.specs.declared.name.Name.{Name}
use Rattle.sw_hashpath.specs.declared.place.Place.{Place}
use Rattle.sw_machine.specs.Machine.{KnownWrite, Machine, RunLine}
use Rattle.sw_machine.specs.Messages.{Message}
use Rattle.sw_object_steps.specs.Journals.{Hash}
use Rattle.sw_pending_laws.proofs.Among.{none-among}
use Rattle.sw_pending_laws.proofs.Begun.{begun-sound}
use Rattle.sw_pending_laws.proofs.Showing.{shows-exactly}
use Rattle.sw_pending_laws.specs.Laws as ledgers
use Rattle.sw_pending_laws.specs.Ledger.{Ledger, Reach}
use Rattle.sw_rows.specs.Rows.{IsListed, Listed, find_named, no_rows}
use Rattle.sw_rows.specs.declared.numbered.Numbered.{Numbered}
use Rattle.sw_state.specs.Bases.{base_at}
use Rattle.sw_state.specs.declared.base.Base.{Base}
use Rattle.sw_listing_laws.proofs.Accounts.{Accounts, AreAccounted, Fits, IsKnown, IsRight, IsSound}
use Rattle.sw_listing_laws.proofs.Bringing.{HasOnly}
use Rattle.sw_listing_laws.proofs.Grounds.{ground, ground-place, home-is, named-object, one-hash, one-name, place-of}
use Rattle.sw_listing_laws.proofs.Running.{IsAtEnd, ends}
use Rattle.sw_listing_laws.proofs.Splitting.{IsKept, whole-kept}
use Rattle.sw_listing_laws.proofs.Standing.{Stands, reach}
use Rattle.sw_listing_laws.specs.Laws.{DoAgree, IsLive, IsNew, IsSettled, SettledContainersShowExactly, ShowsExactly}
use Rattle.sw_listing_laws.specs.Plain.{Cluster, IsNamed, RunsSoundly}

-- ---- the beginning

module _ (c : Cluster) (m : Machine) (new : IsNew c m) where
  none-filed : (device : ℕ) (hash : Hash) → Fits c (ledgers.begun).records (ledgers.begun).reached device hash (m.objects.half.holds device hash)
  none-filed device hash = record {
    filed = λ key at. sym (new.no_records device hash key);
    named = λ key f at is. let never : None ≡ Some f = sym (new.no_records device hash key) ∙ is in cc;
    stands = subst (λ (o : Option Base). Stands [] device hash o) (sym (new.no_objects device hash)) (λ b there. none-among (reach device hash b) there);
  }

  none-known : IsKnown c [] []
  none-known = record {
    named = λ d n there. absurd (none-among (d, n) there);
    reaches = λ d n b there is. absurd (none-among (d, n) there);
    comes = λ a there. absurd (none-among a there);
  }

  none-listed : IsListed no_rows
  none-listed = record { rising = tt; within = All-nil (λ (n : Numbered). n.rowid ≤ 0); once = tt }

  pub begins : IsSound c [] m ledgers.begun
  begins = record {
    accounts = record {
      objects = record {
        tell = new.objects_tell;
        fits = none-filed;
        known = subst (λ (xs : List (ℕ × KnownWrite)). IsKnown c xs []) (sym new.no_writes) none-known;
      };
      containers = record {
        tell = new.containers_tell;
        rows = λ d p kept. sym (new.no_rows d p);
        listed = λ d p. none-listed;
        split = λ d p gone whole. true≢false (sym gone ∙ new.kept d p);
      };
      right = λ d p.
          subst (λ (t : Listed). HasOnly (IsRight c ledgers.begun p) t) (sym (new.no_rows d p))
          (All-nil (λ (n : Numbered). IsRight c ledgers.begun p n.row));
      sent = subst (λ (xs : List Message). AreAccounted c ledgers.begun xs) (sym new.no_messages) (λ message there. absurd (none-among message there));
    };
    tells = λ line there. absurd (none-among line there);
    steady = (begun-sound (ground c)).0;
    clients = (begun-sound (ground c)).1;
  }

-- ---- the end

module _ (c : Cluster) (m : Machine) (l : Ledger) (accounts : Accounts c m l) where
  -- a put or deletion that reached, by the name it became known with
  record IsKnownAs (a : Reach) : Type 0 where
    n : KnownWrite
    known : Contains m.objects.known (a.device, n)
    named : IsNamed c n.name
    hash_is : n.name.hash ≡ a.hash
    base_is : base_at n.write.time n.write.kind ≡ Some a.base

  known-as : (a : Reach) → Contains l.reached a → IsKnownAs a
  known-as a there =
      let k = accounts.objects.known.comes a there in
      record { n = k.0; known = k.1; named = accounts.objects.known.named a.device k.0 k.1; hash_is = k.2; base_is = k.3 }

  agree : DoAgree m → ledgers.DoAgree (ground c) l
  agree as_known = record {
    contents = λ a b first second hash time gone.
        let x = known-as a first in
        let y = known-as b second in
        as_known a.device b.device x.n y.n a.base b.base x.known y.known
        (one-name c (x.n).name (y.n).name x.named y.named (x.hash_is ∙ (hash ∙ sym y.hash_is))) x.base_is y.base_is time gone;
    names = λ a b first second place object.
        let x = known-as a first in
        let y = known-as b second in
        sym x.hash_is
        ∙ (one-hash c (x.n).name (y.n).name x.named y.named
        (ap (ground c).place x.hash_is ∙ (place ∙ ap (ground c).place (sym y.hash_is)))
        (ap (ground c).object x.hash_is ∙ (object ∙ ap (ground c).object (sym y.hash_is)))
        ∙ y.hash_is);
  }

  settled : (place : Place) → IsSettled c m place → ledgers.IsSettled (ground c) l place
  settled place all device key f is at r ring =
      all device key.hash key f filed refl
      (subst (λ (n : Name). IsPlaceOf c.nodes.secrets n place) (sym name_is)
      (subst (λ (p : Place). IsPlaceOf c.nodes.secrets (c.names key.hash) p) at (home-is c (c.names key.hash)))) r ring
    where
      filed : (m.objects.half.holds device key.hash).records key ≡ Some f
      filed = sym ((accounts.objects.fits device key.hash).filed key refl) ∙ is

      name_is : f.name ≡ c.names key.hash
      name_is = (accounts.objects.fits device key.hash).named key f refl filed

  -- ---- what is live

  live-there : (place : Place) (object : List ℕ) (base : Base) (live : IsLive c m place object base)
      → ledgers.IsLive (ground c) l place object (reach live.device (live.by).name.hash base)
  live-there place object base live = record {
    reached = accounts.objects.known.reaches live.device live.by base live.known live.base_is;
    place_is = sym (ground-place c (live.by).name place named live.place_is);
    object_is = named-object c (live.by).name named ∙ live.object_is;
    is_put = live.is_put;
    greatest = λ b there same.
        let k = known-as b there in
        live.greatest b.device k.n b.base k.known (one-name c (k.n).name (live.by).name k.named named (k.hash_is ∙ same)) k.base_is;
  }
    where
      named : IsNamed c (live.by).name
      named = accounts.objects.known.named live.device live.by live.known

  live-here : (place : Place) (object : List ℕ) (a : Reach) → ledgers.IsLive (ground c) l place object a → IsLive c m place object a.base
  live-here place object a live = record {
    device = a.device;
    by = k.n;
    known = k.known;
    place_is = place-of c (k.n).name place k.named (ap (ground c).place k.hash_is ∙ live.place_is);
    object_is = sym (named-object c (k.n).name k.named) ∙ (ap (ground c).object k.hash_is ∙ live.object_is);
    base_is = k.base_is;
    is_put = live.is_put;
    greatest = λ d n b known same is.
        live.greatest (reach d n.name.hash b) (accounts.objects.known.reaches d n b known is) (ap (λ (x : Name). x.hash) same ∙ k.hash_is);
  }
    where
      k : IsKnownAs a
      k = known-as a live.reached

  shows : (device : ℕ) (place : Place) → IsKept (m.containers.half.holds device place) → (object : List ℕ)
      → ledgers.ShowsExactly (ground c) l device place object → ShowsExactly c m device place object
  shows device place kept object s = record {
    shown = λ row found live.
        let a = s.shown row (ap (λ (t : Listed). find_named t.list object) rows ∙ found) live in
        ((a.0).base, live-here place object a.0 a.1, a.2);
    live = λ base live.
        let r = s.live (reach live.device (live.by).name.hash base) (live-there place object base live) in
        (r.0, ap (λ (t : Listed). find_named t.list object) (sym rows) ∙ r.1, r.2, r.3);
  }
    where
      rows : l.tables device place ≡ rows_of (m.containers.half.holds device place)
      rows = accounts.containers.rows device place kept

-- ---- the law

-- also of a replica that keeps all as it has no ranges
pub kept-shows : (c : Cluster) (m : Machine) (lines : List RunLine) (after : Machine) → IsNew c m → RunsSoundly c [] m lines after → DoAgree after
    → (place : Place) → c.is_hidden place ≡ false → IsSettled c after place → (device : ℕ) → Contains (c.replicas place) device
    → IsKept (after.containers.half.holds device place) → (object : List ℕ) → ShowsExactly c after device place object
kept-shows c m lines after new run same place shown all device ring kept object =
    let e : IsAtEnd c after = ends c lines [] m ledgers.begun after (begins c m new) run in
    shows c after e.ledger e.accounts device place kept object
    (shows-exactly (ground c) e.ledger e.steady e.clients (agree c after e.ledger e.accounts same) place shown
    (settled c after e.ledger e.accounts place all) device ring object)

pub settled-shows : SettledContainersShowExactly
settled-shows c m lines after new run same place shown all device ring whole object =
    kept-shows c m lines after new run same place shown all device ring (whole-kept (after.containers.half.holds device place) whole) object
