-- The rows of a replica that aren't deleted are those of the live objects.
use Rattle.std.proofs.Common.{◌≡◌, ℕ, Bool, true, false, cond, not, filter, List, [], ◌∷◌, None, Some, refl, sym, ◌∙◌, ap, subst, inl, inr}
use Rattle.std.specs.List.{find}
use Rattle.sw_container_steps.specs.Entries.{rows_of}
use Rattle.sw_hashpath.specs.declared.place.Place.{Place}
use Rattle.sw_listing.proofs.Members.{In}
use Rattle.sw_machine.specs.Machine.{Machine}
use Rattle.sw_object_steps.specs.BaseRows.{IsRowOf}
use Rattle.sw_pending_laws.specs.Laws.{begun}
use Rattle.sw_pending_laws.specs.Ledger.{Ledger}
use Rattle.sw_rows.specs.Rows.{IsNamedOnce, Listed, is_named}
use Rattle.sw_rows.specs.declared.numbered.Numbered.{Numbered}
use Rattle.sw_rows.specs.declared.row.Row.{Row}
use Rattle.sw_state.specs.declared.base.Base.{Base}
use Rattle.sw_state.specs.declared.base.Base.TheVariants as bases
use Rattle.sw_listing_laws.proofs.Accounts.{Accounts}
use Rattle.sw_listing_laws.proofs.Listing.{contained-in, in-contained, row-found, row-itself}
use Rattle.sw_listing_laws.proofs.Running.{IsAtEnd, ends}
use Rattle.sw_listing_laws.proofs.Showing.{begins, settled-shows}
use Rattle.sw_listing_laws.proofs.Splitting.{IsKept, whole-kept}
use Rattle.sw_listing_laws.specs.Laws.{AreLiveRows, LiveRowsAreThere, ShowsExactly}
use Rattle.sw_listing_laws.specs.Plain.{Cluster}

abbrev live : Numbered → Bool
live n = not n.row.deleted

kept-in : (ns : List Numbered) (n : Numbered) → In n ns → n.row.deleted ≡ false → In n (filter live ns)
kept-in [] n is stands = absurd is
kept-in (m ∷ ms) n (inl here) stands =
    let first : live m ≡ true = ap live here ∙ ap not stands in
    rw first (inl here)
kept-in (m ∷ ms) n (inr there) stands = at (live m) (kept-in ms n there stands)
  where
    at : (b : Bool) → In n (filter live ms) → In n (cond b (m ∷ filter live ms) (filter live ms))
    at true is = inr is
    at false is = is

among-kept : (ns : List Numbered) (n : Numbered) → In n (filter live ns) → In n ns × (n.row.deleted ≡ false)
among-kept [] n is = absurd is
among-kept (m ∷ ms) n is = at (m.row.deleted) refl is (λ h. among-kept ms n h)
  where
    at : (b : Bool) → (m.row).deleted ≡ b → In n (cond (not b) (m ∷ filter live ms) (filter live ms))
        → (In n (filter live ms) → In n ms × (n.row.deleted ≡ false)) → In n (m ∷ ms) × (n.row.deleted ≡ false)
    at true gone is rest = (inr (rest is).0, (rest is).1)
    at false stands (inl here) rest = (inl here, sym (ap (λ (x : Numbered). x.row.deleted) here) ∙ stands)
    at false stands (inr there) rest = (inr (rest there).0, (rest there).1)

none-kept : (name : List ℕ) (ns : List Numbered) → find (is_named name) ns ≡ None → find (is_named name) (filter live ns) ≡ None
none-kept name [] none = refl
none-kept name (m ∷ ms) none = at (is_named name m) refl none (λ h. none-kept name ms h)
  where
    at : (b : Bool) → is_named name m ≡ b → cond b (Some m) (find (is_named name) ms) ≡ None
        → (find (is_named name) ms ≡ None → find (is_named name) (filter live ms) ≡ None)
        → find (is_named name) (cond (live m) (m ∷ filter live ms) (filter live ms)) ≡ None
    at true is gone rest = cc
    at false is gone rest = by (live m) (rest gone)
      where
        by : (b : Bool) → find (is_named name) (filter live ms) ≡ None → find (is_named name) (cond b (m ∷ filter live ms) (filter live ms)) ≡ None
        by true later = rw is later
        by false later = later

once-kept : (ns : List Numbered) → IsNamedOnce ns → IsNamedOnce (filter live ns)
once-kept [] once = tt
once-kept (m ∷ ms) once = at (live m) (once-kept ms once.1)
  where
    at : (b : Bool) → IsNamedOnce (filter live ms) → IsNamedOnce (cond b (m ∷ filter live ms) (filter live ms))
    at true later = (none-kept m.row.name ms once.0, later)
    at false later = later

module _ (c : Cluster) (m : Machine) (l : Ledger) (accounts : Accounts c m l) (place : Place) (device : ℕ)
    (kept : IsKept (m.containers.half.holds device place)) (shown : (object : List ℕ) → ShowsExactly c m device place object) where
  abbrev held : List Numbered
  held = (rows_of (m.containers.half.holds device place)).list

  once : IsNamedOnce held
  once = subst (λ (t : Listed). IsNamedOnce t.list) (accounts.containers.rows device place kept) (accounts.containers.listed device place).once

  pub live-rows : AreLiveRows c m place (filter live held)
  live-rows = record {
    once = once-kept held once;
    sound = λ n there.
        let is = among-kept held n (in-contained (filter live held) n there) in
        (shown n.row.name).shown n.row (row-itself held n once is.0) is.1;
    whole = λ object base is.
        let s = (shown object).live base is in
        let f = row-found held object s.0 s.1 in
        let row : (f.0).row ≡ s.0 = f.2 in (
          f.0,
          contained-in (filter live held) f.0 (kept-in held f.0 f.1 (ap (λ (r : Row). r.deleted) row ∙ s.2)),
          ap (λ (r : Row). r.name) row ∙ named object base s.0 s.3,
        );
  }
    where
      named : (object : List ℕ) (base : Base) (row : Row) → IsRowOf object base row → row.name ≡ object
      named object (bases.Put time content) row is = is.name_is
      named object (bases.Del time) row is = is.name_is

pub live-rows-there : LiveRowsAreThere
live-rows-there c m lines after new run same place shown all device ring whole =
    let e : IsAtEnd c after = ends c lines [] m begun after (begins c m new) run in
    live-rows c after e.ledger e.accounts place device (whole-kept (after.containers.half.holds device place) whole)
    (λ object. settled-shows c m lines after new run same place shown all device ring whole object)
