-- A turn at the lock of an object directory.
use Rattle.std.proofs.Common.{◌≡◌, ◌++◌, ℕ, leb, cond, Bool, true, false, List, Some, ap, sym, refl, ◌∙◌, subst, arith}
use Rattle.sw_history.specs.Halves.{GrowsOf}
use Rattle.sw_objdir.specs.Directories.{Kept, steps_of}
use Rattle.sw_objdir.specs.Stepping.{IsSameDir}
use Rattle.sw_object_steps.specs.declared.entry.ObjEntry.{ObjEntry}
use Rattle.sw_shared.specs.Laws.{SeenJoins, SeenStays}
use Rattle.sw_shared.specs.Books.{began_of, book_of}
use Rattle.sw_shared.specs.Turning.{BeganSo, HasSeen, InTurn, MayStandIn, ObjKnown, ObjView, booked, history_in}
use Rattle.sw_shared.specs.declared.booked.Began.{Began}
use Rattle.sw_turn.specs.Known.{GoesOn, Grows, Tells, below, first_of, nothing, taken_in}
use Rattle.sw_turn.specs.Rule.{Finds, idle}
use Rattle.sw_volume.specs.Tree.{Folders}

pub some-same : {X : Type 0} (x y : X) → Some x ≡ Some y → x ≡ y
some-same x y is = cc

module _ {V : Type 0} (tells : V → Bool) (files : V → Folders) (faults : V → ℕ) where
  -- a step of a directory begins and ends with one opening
  pub began-same : (k n : Kept V) → IsSameDir tells files faults k n → GrowsOf (steps_of tells files faults k) (steps_of tells files faults n)
      → began_of k ≡ began_of n
  began-same k n same up = rw (same.began, same.secrets, same.power, up.max_entries, up.max_bytes) refl

  -- its history goes on
  pub goes-on : (found : ObjKnown V) (k n : Kept V) → Tells (book_of faults k) found → IsSameDir tells files faults k n
      → GrowsOf (steps_of tells files faults k) (steps_of tells files faults n) → GoesOn found (book_of faults n)
  goes-on found k n told same up = record {
    entries = (up.entries.0, up.entries.1 ∙ ap (λ (l : List ObjEntry). l ++ up.entries.0) (sym told.entries));
    opening = told.opening ∙ ap Some (began-same k n same up);
    faults = omega (arith, told.faults, up.faults);
  }

  -- what is found began as was known
  pub began-found : (P : Began V → Type 0) (seats : ℕ) (numbers : List ℕ) (v found : ObjKnown V) (k : Kept V) → BeganSo P v
      → Grows seats numbers v found → Tells (book_of faults k) found → P (began_of k)
  began-found P seats numbers v found k so up told = subst P (some-same so.0 (began_of k) (sym so.1 ∙ (sym up.opening ∙ told.opening))) so.2

  -- a step between coming in and giving back is one in a turn: p is how the pass stood while the directory was out
  pub in-turn : (step : Kept V → Kept V → Type 0) (v p w : ObjView V) (k n : Kept V) → Finds (history_in tells files faults) v p.known (booked k)
      → p.numbers ≡ v.numbers → p.seats ≡ v.seats
      → w ≡ idle (taken_in p.known (first_of p.numbers) (booked n) (book_of faults n)) p.seats p.numbers → MayStandIn tells files faults n → step k n
      → InTurn tells files faults step v w
  in-turn step v p w k n finds numbers seats left stands made = (
    k,
    n,
    record {
      found = p.known;
      finds = finds;
      left = left ∙ (ap (λ (ns : List ℕ). idle (taken_in p.known (first_of ns) (booked n) (book_of faults n)) p.seats ns) numbers
          ∙ ap (λ (s : ℕ). idle (taken_in p.known (first_of v.numbers) (booked n) (book_of faults n)) s v.numbers) seats);
      stands = stands;
    },
    made,
  )

  -- the first pass of a lock has seen the directory
  pub opened-seen : (seats : ℕ) (v : ObjView V) (k : Kept V) → v ≡ idle (taken_in nothing 0 (booked k) (book_of faults k)) seats (below seats)
      → MayStandIn tells files faults k → HasSeen tells files faults k.secrets k.power v
  opened-seen seats v k is stands = record {
    last = k;
    last_is = ap (λ (x : ObjView V). x.known.last) is;
    tells_all = record {
      entries = ap (λ (x : ObjView V). x.known.entries) is;
      opening = ap (λ (x : ObjView V). x.known.opening) is;
      faults = ap (λ (x : ObjView V). x.known.faults) is;
    };
    stands = stands;
    secrets_are = refl;
    power_is = refl;
  }

  pub seen-stays : SeenStays tells files faults
  seen-stays secrets power v w seen same = record {
    last = seen.last;
    last_is = ap (λ (k : ObjKnown V). k.last) same ∙ seen.last_is;
    tells_all = subst (λ (k : ObjKnown V). Tells (book_of faults seen.last) k) (sym same) seen.tells_all;
    stands = seen.stands;
    secrets_are = seen.secrets_are;
    power_is = seen.power_is;
  }

  pub seen-joins : SeenJoins tells files faults
  seen-joins secrets power u v w first second same = by (leb u.known.stamp v.known.stamp) same
    where
      by : (b : Bool) → w.known ≡ cond b v.known u.known → HasSeen tells files faults secrets power w
      by true is = seen-stays secrets power v w second is
      by false is = seen-stays secrets power u w first is
