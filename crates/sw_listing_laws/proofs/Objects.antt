-- The ledger goes on with a step at an object.
use Rattle.std.proofs.Common.{◌≡◌, ℕ, Bool, true, false, List, [], ◌∷◌, ◌++◌, map, Option, None, Some, refl, sym, ◌∙◌, ap, subst}
use Rattle.std.proofs.Common.{if◌then◌else◌}
use Rattle.sw_hashpath.specs.declared.name.Name.{Name}
use Rattle.sw_machine.specs.Machine.{KnownWrite, ObjSide}
use Rattle.sw_machine.specs.Sides.{TellsAt}
use Rattle.sw_object_steps.specs.Journals.{Hash}
use Rattle.sw_object_steps.specs.Outlines.{is_before, outline_of, standing_time}
use Rattle.sw_object_steps.specs.Values.{ObjValue, Records}
use Rattle.sw_pending.specs.Records.{key_of, new_record}
use Rattle.sw_pending.specs.declared.filed.Filed.{Filed}
use Rattle.sw_pending.specs.declared.key.RecordKey.{RecordKey}
use Rattle.sw_pending_laws.proofs.Among.{behind}
use Rattle.sw_pending_laws.specs.Ledger.{CanAsk, Ledger, Reach}
use Rattle.sw_pending_laws.specs.Ledger.Change.{Asks, Files, Takes}
use Rattle.sw_state.proofs.StateLaws.{joined-base}
use Rattle.sw_state.specs.Bases.{base_at, base_time, higher}
use Rattle.sw_state.specs.States.{joined}
use Rattle.sw_state.specs.declared.base.Base.{Base}
use Rattle.sw_state.specs.declared.write.Write.{Write}
use Rattle.sw_listing_laws.proofs.Accounts.{Fits, HasReached, IsKnown, ObjAccounts}
use Rattle.sw_listing_laws.proofs.Going.{Goes, goes-by, goes-nowhere, goes-on}
use Rattle.sw_listing_laws.proofs.Grounds.{ground}
use Rattle.sw_listing_laws.proofs.Setting.{fits-apart, fits-set, set-here, set-is, set_at, set_value}
use Rattle.sw_listing_laws.proofs.Standing.{Stands, all-earlier, reach, stands-more}
use Rattle.sw_listing_laws.proofs.Turning.{fits-reach, known-beside, known-more, known-same, turned}
use Rattle.sw_listing_laws.proofs.Writing.{with_filed, with_write}
use Rattle.sw_listing_laws.specs.Plain.{Cluster, IsNamed}

-- a ledger that accounts for these objects behind a step, and has the rows that this one has
pub record ObjNext (c : Cluster) (m : ObjSide) (l : Ledger) (asks : Bool) (after : ObjSide) : Type 0 where
  pub next : Ledger
  pub goes : Goes (ground c) l next
  pub accounts : ObjAccounts c after next.records next.reached
  pub tables : next.tables ≡ l.tables
  -- what the step made known, and that a client asked for that where one asked for the step
  pub news : List (ℕ × KnownWrite)
  pub known : after.known ≡ m.known ++ news
  pub asked : (known : List (ℕ × KnownWrite)) → IsKnown c known l.asked → IsKnown c (known ++ (if asks then news else [])) next.asked

-- nothing more is asked for
pub asked-same : (c : Cluster) (asks : Bool) (known : List (ℕ × KnownWrite)) (asked : List Reach) → IsKnown c known asked
    → IsKnown c (known ++ (if asks then [] else [])) asked
asked-same c true known asked is = known-same c known (known ++ []) asked refl is
asked-same c false known asked is = known-same c known (known ++ []) asked refl is

-- ---- one step

module _ (c : Cluster) (m : ObjSide) (l : Ledger) (accounts : ObjAccounts c m l.records l.reached) (device : ℕ) (name : Name) (named : IsNamed c name)
    (after : ObjSide) (tell : (d : ℕ) (h : Hash) → TellsAt c.nodes.lock after d h) where
  fits : Fits c l.records l.reached device name.hash (m.half.holds device name.hash)
  fits = accounts.fits device name.hash

  module _ (others : (d : ℕ) (h : Hash) → ((d ≡ device) × (h ≡ name.hash) → ⊥) → after.half.holds d h ≡ m.half.holds d h) where
    abbrev Known : List KnownWrite → Type 0
    Known news = after.known ≡ m.known ++ map (λ n. (device, n)) news

    abbrev Turned : (ℕ → Records) → List Reach → Type 0
    Turned records reached = ObjAccounts c after records reached

    here : (records : ℕ → Records) (reached : List Reach) (t : ObjValue) → after.half.holds device name.hash ≡ t → Fits c records reached device name.hash t
        → Fits c records reached device name.hash (after.half.holds device name.hash)
    here records reached t is fit = subst (λ (x : ObjValue). Fits c records reached device name.hash x) (sym is) fit

    -- ---- nothing turned

    pub still : (asks : Bool) → after.half.holds device name.hash ≡ m.half.holds device name.hash → Known [] → ObjNext c m l asks after
    still asks is known = record {
      next = l;
      goes = goes-nowhere (ground c) l;
      accounts = turned c m l.records l.reached accounts device name.hash after tell others l.records l.reached
          (known-same c m.known after.known l.reached known accounts.known)
          (here l.records l.reached (m.half.holds device name.hash) is fits)
          (λ d h away x fit. fit);
      tables = refl;
      news = [];
      known = known;
      asked = λ before so. asked-same c asks before l.asked so;
    }

    -- ---- a record was set

    pub sets : (key : RecordKey) (o : Option Filed) → key.hash ≡ name.hash → ((f : Filed) → o ≡ Some f → f.name ≡ c.names name.hash)
        → after.half.holds device name.hash ≡ set_value (m.half.holds device name.hash) key o → Known []
        → Turned (set_at l.records device key o) l.reached
    sets key o at names is known =
        turned c m l.records l.reached accounts device name.hash after tell others (set_at l.records device key o) l.reached
        (known-same c m.known after.known l.reached known accounts.known)
        (here (set_at l.records device key o) l.reached (set_value (m.half.holds device name.hash) key o) is
        (fits-set l.records device key o c l.reached name.hash at (m.half.holds device name.hash) names fits))
        (fits-apart l.records device key o c l.reached name.hash at)

    -- ---- a write was made

    abbrev a : Base → Reach
    a b = reach device name.hash b

    -- a put or deletion reached the device
    reaches : (records : ℕ → Records) (x : ObjValue) (w : Write) (b : Base) → base_at w.time w.kind ≡ Some b
        → Fits c records l.reached device name.hash x → Fits c records (a b ∷ l.reached) device name.hash (record x { state = joined x.state w })
    reaches records x w b base_is fit = record {
      filed = fit.filed;
      named = fit.named;
      stands = subst (λ (o : Option Base). Stands (a b ∷ l.reached) device name.hash o)
          (sym (joined-base x.state w ∙ ap (higher x.state.base) base_is)) (stands-more l.reached device name.hash x.state.base b fit.stands);
    }

    -- one that is no client's
    pub takes : (w : Write) (b : Base) → base_at w.time w.kind ≡ Some b → HasReached l name.hash b
        → after.half.holds device name.hash ≡ with_write (m.half.holds device name.hash) [] w → Known (record { name = name; write = w } ∷ [])
        → ObjNext c m l false after
    takes w b base_is plain is known = record {
      next = next;
      goes = goes-by (ground c) l (Takes (a b)) next refl plain (behind (a b) l.reached) (λ t there. there);
      accounts = turned c m l.records l.reached accounts device name.hash after tell others l.records (a b ∷ l.reached)
          (subst (λ (xs : List (ℕ × KnownWrite)). IsKnown c xs (a b ∷ l.reached)) (sym known)
          (known-more c m.known l.reached accounts.known device name w named b base_is))
          (here l.records (a b ∷ l.reached) (with_write (m.half.holds device name.hash) [] w) is
          (reaches l.records (m.half.holds device name.hash) w b base_is fits))
          (λ d h away x fit. fits-reach c l.records l.reached (a b) d h away x fit);
      tables = refl;
      news = (device, record { name = name; write = w }) ∷ [];
      known = known;
      asked = λ before so. asked-same c false before l.asked so;
    }
      where
        next : Ledger
        next = record l { reached = a b ∷ l.reached }

    -- one that puts nothing and deletes nothing
    pub touches : (asks : Bool) (w : Write) → base_at w.time w.kind ≡ None
        → after.half.holds device name.hash ≡ with_write (m.half.holds device name.hash) [] w → Known (record { name = name; write = w } ∷ [])
        → ObjNext c m l asks after
    touches asks w none is known = record {
      next = l;
      goes = goes-nowhere (ground c) l;
      accounts = turned c m l.records l.reached accounts device name.hash after tell others l.records l.reached
          (subst (λ (xs : List (ℕ × KnownWrite)). IsKnown c xs l.reached) (sym known)
          (known-beside c m.known l.reached accounts.known device name w named none))
          (here l.records l.reached (with_write (m.half.holds device name.hash) [] w) is (record {
            filed = fits.filed;
            named = fits.named;
            stands = subst (λ (o : Option Base). Stands l.reached device name.hash o)
                (sym (joined-base (m.half.holds device name.hash).state w ∙ ap (higher (m.half.holds device name.hash).state.base) none)) fits.stands;
          }))
          (λ d h away x fit. fit);
      tables = refl;
      news = (device, record { name = name; write = w }) ∷ [];
      known = known;
      asked = λ before so. by asks before so;
    }
      where
        by : (b : Bool) (before : List (ℕ × KnownWrite)) → IsKnown c before l.asked
            → IsKnown c (before ++ (if b then (device, record { name = name; write = w }) ∷ [] else [])) l.asked
        by true before so = known-beside c before l.asked so device name w named none
        by false before so = asked-same c false before l.asked so

    -- ---- what a client asks for

    module _ (b : Base) (w : Write) (base_is : base_at w.time w.kind ≡ Some b) where
      abbrev new : ℕ → Records
      new = set_at l.records device (key_of (new_record name (base_time b))) (Some (new_record name (base_time b)))

      abbrev mid : Ledger
      mid = record l { records = new }

      own-name : (f : Filed) → Some (new_record name (base_time b)) ≡ Some f → f.name ≡ c.names name.hash
      own-name f is = let same : f.name ≡ name = cc in same ∙ sym named.one

      files : Goes (ground c) l mid
      files = goes-by (ground c) l (Files device (new_record name (base_time b)) new) mid
          (refl, set-is l.records device (key_of (new_record name (base_time b))) (Some (new_record name (base_time b))), refl) tt (λ x there. there)
          (λ t there. there)

      pub filing : after.half.holds device name.hash ≡ with_filed (m.half.holds device name.hash) (new_record name (base_time b) ∷ []) → Known []
          → ObjNext c m l true after
      filing is known = record {
        next = mid;
        goes = files;
        accounts = sets (key_of (new_record name (base_time b))) (Some (new_record name (base_time b))) refl own-name is known;
        tables = refl;
        news = [];
        known = known;
        asked = λ before so. asked-same c true before l.asked so;
      }

      pub asks : is_before (standing_time (outline_of (m.half.holds device name.hash).state)) (base_time b) ≡ true
          → after.half.holds device name.hash ≡ with_write (m.half.holds device name.hash) (new_record name (base_time b) ∷ []) w
          → Known (record { name = name; write = w } ∷ []) → ObjNext c m l true after
      asks before is known = record {
        next = next;
        goes = goes-on (ground c) l mid next files
            (goes-by (ground c) mid (Asks (a b)) next (can, refl) tt (behind (a b) l.reached) (λ t there. there));
        accounts = turned c m l.records l.reached accounts device name.hash after tell others new (a b ∷ l.reached)
            (subst (λ (xs : List (ℕ × KnownWrite)). IsKnown c xs (a b ∷ l.reached)) (sym known)
            (known-more c m.known l.reached accounts.known device name w named b base_is))
            (here new (a b ∷ l.reached) (with_write (m.half.holds device name.hash) (new_record name (base_time b) ∷ []) w) is
            (reaches new (set_value (m.half.holds device name.hash) (key_of (new_record name (base_time b))) (Some (new_record name (base_time b)))) w b
            base_is
            (fits-set l.records device (key_of (new_record name (base_time b))) (Some (new_record name (base_time b))) c l.reached name.hash refl
            (m.half.holds device name.hash) own-name fits)))
            (λ d h away x fit. fits-reach c new l.reached (a b) d h away x
            (fits-apart l.records device (key_of (new_record name (base_time b))) (Some (new_record name (base_time b))) c l.reached name.hash refl d h away x
            fit));
        tables = refl;
        news = (device, record { name = name; write = w }) ∷ [];
        known = known;
        asked = λ old so. known-more c old l.asked so device name w named b base_is;
      }
        where
          next : Ledger
          next = record mid { reached = a b ∷ l.reached; asked = a b ∷ l.asked }

          can : CanAsk mid (a b)
          can = record {
            latest = all-earlier l.reached device name.hash (m.half.holds device name.hash).state.base (base_time b) before fits.stands;
            filed = (
              new_record name (base_time b),
              set-here l.records device (key_of (new_record name (base_time b))) (Some (new_record name (base_time b))),
              refl,
            );
          }
