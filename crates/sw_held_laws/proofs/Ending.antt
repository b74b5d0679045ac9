-- The laws, from what the ledger has at the end of a run.
use Rattle.std.proofs.Common.{◌≡◌, ℕ, Bool, true, List, [], ◌∷◌, ◌++◌, Option, None, Some, ◌⊎◌, inl, inr, refl, sym, ◌∙◌, subst}
use Rattle.std.specs.List.{Contains}
use Rattle.std.proofs.lemmas.Bool.{both_ways}
use Rattle.sw_hashpath.specs.Places.{IsPlaceOf}
use Rattle.sw_hashpath.specs.declared.name.Name.{Name}
use Rattle.sw_hashpath.specs.declared.place.Place.{Place}
use Rattle.sw_listing_laws.proofs.Accounts.{IsSound}
use Rattle.sw_listing_laws.proofs.Grounds.{ground, ground-place, named-object}
use Rattle.sw_listing_laws.proofs.Showing.{begins}
use Rattle.sw_listing_laws.proofs.Standing.{reach}
use Rattle.sw_listing_laws.specs.Laws.{IsSettled}
use Rattle.sw_listing_laws.specs.Plain.{Cluster, IsNamed, RunsSoundly}
use Rattle.sw_machine.specs.Honest.{AreHonest}
use Rattle.sw_machine.specs.Machine.{Machine, RunLine, Runs}
use Rattle.sw_object_steps.specs.Journals.{Hash}
use Rattle.sw_pending.specs.Rules.{is_done}
use Rattle.sw_pending.specs.declared.key.RecordKey.{RecordKey}
use Rattle.sw_pending_laws.proofs.Among.{none-among}
use Rattle.sw_pending_laws.proofs.Rows.{row-flag, row-name, row-time}
use Rattle.sw_pending_laws.specs.Laws.{begun}
use Rattle.sw_object_steps.specs.BaseRows.{IsRowOf}
use Rattle.sw_pending_laws.specs.Ledger.{Ledger, counts}
use Rattle.sw_pending_laws.specs.Sound.{Holds as IsHeldBy, IsOpen}
use Rattle.sw_point_laws.proofs.Ending.{acknowledged-is-held, runs-begin}
use Rattle.sw_point_laws.specs.Laws.{IsBegun, ground_of, ledger_of}
use Rattle.sw_rows.specs.Rows.{is_at_least}
use Rattle.sw_rows.specs.declared.row.Row.{Row}
use Rattle.sw_shard_laws.proofs.Rows.{has-over}
use Rattle.sw_shard_laws.specs.Ledger.{Holds, HoldsBy, Ledger as Tables, served, table_at}
use Rattle.sw_state.specs.Bases.{base_time}
use Rattle.sw_state.specs.declared.base.Base.{Base}
use Rattle.sw_held_laws.proofs.Accounts.{IsAccount, IsTaken}
use Rattle.sw_held_laws.proofs.Running.{account-ends}
use Rattle.sw_held_laws.specs.Laws.{SettledContainersHoldAll, Waits, WaitsAt, WritesAreRecordedOrHeld}

-- ---- a run

runs : (c : Cluster) (lines done : List RunLine) (m after : Machine) → RunsSoundly c done m lines after → Runs c.nodes m lines after
runs c [] done m after same = same
runs c (line ∷ lines) done m after run = (run.0, run.1, runs c lines (done ++ line ∷ []) run.0 after run.5)

are-honest : (c : Cluster) (lines done : List RunLine) (m after : Machine) → RunsSoundly c done m lines after
    → AreHonest c.nodes.secrets c.replicas done lines
are-honest c [] done m after same = tt
are-honest c (line ∷ lines) done m after run = (run.2, are-honest c lines (done ++ line ∷ []) run.0 after run.5)

-- ---- what is held of rows that count less

holds-over : (replicas : Place → List ℕ) (t : Tables) (device : ℕ) (place : Place) (u v : Row) → u.name ≡ v.name → is_at_least u v ≡ true
    → Holds (ground_of replicas) t device place u → Holds (ground_of replicas) t device place v
holds-over replicas t device place u v same over holds =
    by (served (table_at t device place) v.name)
    (subst (λ (name : List ℕ). HoldsBy (ground_of replicas) t (table_at t device place) u (served (table_at t device place) name)) same holds)
  where
    by : (o : Option Place) → HoldsBy (ground_of replicas) t (table_at t device place) u o → HoldsBy (ground_of replicas) t (table_at t device place) v o
    by None has = has-over (table_at t device place).rows u v same over has
    by (Some shard) all = λ f inside. has-over (table_at t f shard).rows u v same over (all f inside)

-- ---- what each device of a container was told

module _ (c : Cluster) (kept : ℕ → Place → Row → Type 0) (done : List RunLine) (m : Machine) (l : Ledger) (account : IsAccount c kept done m l)
    (holds : (device : ℕ) (place : Place) (row : Row) → IsTaken c kept done device place row → Holds (ground_of c.replicas) (ledger_of m) device place row)
    (name : Name) (named : IsNamed c name) (base : Base) where
  abbrev key : RecordKey
  key = record { hash = name.hash; time = base_time base }

  -- a record of the ledger is one of the machine
  waits-there : (at device : ℕ) → IsOpen (l.records at key) device → WaitsAt m at name base device
  waits-there at device (f, stands, unmarked) = record {
    filed = f;
    stands = there;
    name_is = (account.objects.fits at name.hash).named key f refl there ∙ named.one;
    unmarked = unmarked;
  }
    where
      there : (m.objects.half.holds at name.hash).records key ≡ Some f
      there = sym ((account.objects.fits at name.hash).filed key refl) ∙ stands

  -- and what it heard of is held
  held-there : (device : ℕ) (place : Place) → IsPlaceOf c.nodes.secrets name place → (row : Row) → IsRowOf name.object base row
      → IsHeldBy (ground c) l device name.hash base → Holds (ground_of c.replicas) (ledger_of m) device place row
  held-there device place at row row_is held =
      holds-over c.replicas (ledger_of m) device place here row
      (taken.0 ∙ (named-object c name named ∙ sym (row-name name.object base row row_is)))
      (subst (λ (time : ℕ). counts here.created_at here.deleted time row.deleted ≡ true) (sym (row-time name.object base row row_is))
      (subst (λ (gone : Bool). counts here.created_at here.deleted (base_time base) gone ≡ true) (sym (row-flag name.object base row row_is)) held.2))
      (subst (λ (p : Place). Holds (ground_of c.replicas) (ledger_of m) device p here) (sym (ground-place c name place named at))
      (holds device ((ground c).place name.hash) here taken.1))
    where
      here : Row
      here = held.0

      taken : (here.name ≡ (ground c).object name.hash) × IsTaken c kept done device ((ground c).place name.hash) here
      taken = account.rows device ((ground c).place name.hash) ((ground c).object name.hash) here held.1

  -- what a client asked a device for waits there, or is held
  pub asked-waits : (at : ℕ) → Contains l.asked (reach at name.hash base) → (place : Place) → IsPlaceOf c.nodes.secrets name place
      → (device : ℕ) → Contains (c.replicas place) device → (row : Row) → IsRowOf name.object base row
      → WaitsAt m at name base device ⊎ Holds (ground_of c.replicas) (ledger_of m) device place row
  asked-waits at there place home device ring row row_is =
      by (account.steady.recorded at key base there refl device
      (subst (λ (p : Place). Contains (c.replicas p) device) (ground-place c name place named home) ring))
    where
      by : IsOpen (l.records at key) device ⊎ IsHeldBy (ground c) l device name.hash base
          → WaitsAt m at name base device ⊎ Holds (ground_of c.replicas) (ledger_of m) device place row
      by (inl waits) = inl (waits-there at device waits)
      by (inr held) = inr (held-there device place home row row_is held)

-- ---- the laws

-- the ledger of nothing accounts for what a run begins with
account-begins : (c : Cluster) (kept : ℕ → Place → Row → Type 0) (m : Machine) (sound : IsSound c [] m begun) → IsAccount c kept [] m begun
account-begins c kept m sound = record {
  objects = sound.accounts.objects;
  rows = λ d p name row found. cc;
  says = λ line there. absurd (none-among line there);
  steady = sound.steady;
  clients = sound.clients;
}

pub recorded-or-held : WritesAreRecordedOrHeld
recorded-or-held c m lines after bare run d n base known base_is place at device ring row row_is =
    let o = end.1.clients.origin (reach d n.name.hash base) (end.1.objects.known.reaches d n base known base_is) in
    by o.0.device (asked-waits c (λ device place row. ⊥) lines after end.0 end.1 holds n.name (end.1.objects.known.named d n known) base o.0.device
    (subst (λ (b : Base). Contains end.0.asked (reach o.0.device n.name.hash b)) o.3
    (subst (λ (h : Hash). Contains end.0.asked (reach o.0.device h o.0.base)) o.2 o.1)) place at device ring row row_is)
  where
    sound : IsSound c [] m begun
    sound = begins c m bare.new

    end : (next : Ledger) × IsAccount c (λ device place row. ⊥) lines after next
    end = account-ends c (λ device place row. ⊥) lines [] m begun sound begun (account-begins c (λ device place row. ⊥) m sound) after run

    begun-so : IsBegun c.nodes c.replicas m
    begun-so = runs-begin c.nodes c.replicas m (record { tell = bare.new.containers_tell; nothing = bare.none; no_messages = bare.new.no_messages })

    holds : (device : ℕ) (place : Place) (row : Row) → IsTaken c (λ device place row. ⊥) lines device place row
        → Holds (ground_of c.replicas) (ledger_of after) device place row
    holds device place row (inl is) =
        acknowledged-is-held c.nodes c.nodes.secrets c.replicas m lines after begun-so (runs c lines [] m after run) (are-honest c lines [] m after run) device
        place row is
    holds device place row (inr never) = absurd never

    by : (at : ℕ) → WaitsAt after at n.name base device ⊎ Holds (ground_of c.replicas) (ledger_of after) device place row
        → Waits after n.name base device ⊎ Holds (ground_of c.replicas) (ledger_of after) device place row
    by at (inl waits) = inl (record { at = at; waits = waits })
    by at (inr held) = inr held

-- where a record waits the container isn't settled
pub none-waits : (c : Cluster) (m : Machine) (place : Place) → IsSettled c m place → (at : ℕ) (name : Name) (base : Base) (device : ℕ)
    → IsPlaceOf c.nodes.secrets name place → Contains (c.replicas place) device → WaitsAt m at name base device → ⊥
none-waits c m place settled at name base device home ring waits =
    both_ways (is_done device waits.filed.done) waits.unmarked
    (settled at name.hash (record { hash = name.hash; time = base_time base }) waits.filed waits.stands refl
    (subst (λ (n : Name). IsPlaceOf c.nodes.secrets n place) (sym waits.name_is) home) device ring)

pub settled-hold : SettledContainersHoldAll
settled-hold c m lines after bare run place settled device ring d n base known at base_is row row_is =
    by (recorded-or-held c m lines after bare run d n base known base_is place at device ring row row_is)
  where
    by : Waits after n.name base device ⊎ Holds (ground_of c.replicas) (ledger_of after) device place row
        → Holds (ground_of c.replicas) (ledger_of after) device place row
    by (inl waits) = absurd (none-waits c after place settled waits.at n.name base device at ring waits.waits)
    by (inr held) = held
