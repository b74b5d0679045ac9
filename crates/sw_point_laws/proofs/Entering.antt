-- The entries of a step, one after the other, as a run of a ledger.
use Rattle.std.proofs.Common.{◌≡◌, ℕ, List, [], ◌∷◌, map, unwrap_or, Option, Some}
use Rattle.std.proofs.Common.{refl, sym, ◌∙◌, ap, subst}
use Rattle.std.specs.Bool.{⊤}
use Rattle.sw_container_steps.specs.Entries.{all_entered, entered}
use Rattle.sw_container_steps.specs.declared.cont_change.ContChange.{ContChange}
use Rattle.sw_container_steps.specs.declared.cont_entry.ContEntry.{ContEntry}
use Rattle.sw_container_steps.specs.declared.cont_entry.ContEntry.TheVariants.{Created, Removed, Merged, Ranged, Acked, Closed, Emptied, Synced}
use Rattle.sw_hashpath.specs.declared.place.Place.{Place}
use Rattle.sw_keeper.specs.declared.tables.Tables.{Tables}
use Rattle.sw_shard_laws.specs.Changes.{Allows, Line, Makes, Runs, Tests, left}
use Rattle.sw_shard_laws.specs.Ledger.{Ground, Ledger, Table, fresh, table_at}
use Rattle.sw_split_steps.specs.Tables.{IsPassed, change_in, standing, tables_of}
use Rattle.sw_point_laws.proofs.Others.{Others, others-on, same-ledger, with-here, with-others, with_table}

-- an entry of a creation, of a deletion or of a row
abbrev pub IsPlain : ContEntry → Type 0
IsPlain (Created place time) = ⊤
IsPlain (Removed place time) = ⊤
IsPlain (Merged place row) = ⊤
IsPlain (Ranged place ranges) = ⊥
IsPlain (Acked place range device rowid) = ⊥
IsPlain (Closed place range) = ⊥
IsPlain (Emptied place) = ⊥
IsPlain (Synced place device rowid) = ⊥

abbrev pub ArePlain : List ContEntry → Type 0
ArePlain [] = ⊤
ArePlain (entry ∷ entries) = IsPlain entry × ArePlain entries

module _ (g : Ground) (d : ℕ) (p : Place) (change : ContChange) where
  -- a plain entry asks nothing of what others have
  plain-allowed : (l : Ledger) (t : Table) (entry : ContEntry) → IsPlain entry → Allows g l p t (change_in change entry)
  plain-allowed l t (Created place time) is = tt
  plain-allowed l t (Removed place time) is = tt
  plain-allowed l t (Merged place row) is = tt
  plain-allowed l t (Ranged place ranges) is = absurd is
  plain-allowed l t (Acked place range device rowid) is = absurd is
  plain-allowed l t (Closed place range) is = absurd is
  plain-allowed l t (Emptied place) is = absurd is
  plain-allowed l t (Synced place device rowid) is = absurd is

  abbrev pub line : ContEntry → Line
  line entry = record { device = d; place = p; change = change_in change entry }

  -- ---- one entry

  makes-one : (l : Ledger) (t : Option Tables) (entry : ContEntry) (after : Ledger) → l d p ≡ tables_of t → Tests (standing t) (change_in change entry)
      → Allows g l p (standing t) (change_in change entry) → after d p ≡ Some (left (standing t) (change_in change entry)) → Others d p l after
      → Makes g l (line entry) after
  makes-one l t entry after here tested allowed set others = record {
    tested = subst (λ (x : Table). Tests x (change_in change entry)) same tested;
    allowed = subst (λ (x : Table). Allows g l p x (change_in change entry)) same allowed;
    leaves = record { here = subst (λ (x : Table). after d p ≡ Some (left x (change_in change entry))) same set; each = others };
  }
    where
      same : standing t ≡ table_at l d p
      same = ap (λ (o : Option Table). unwrap_or o fresh) (sym here)

  -- ---- several plain entries

  pub plain-runs : (entries : List ContEntry) (l : Ledger) (t : Option Tables) (after : Ledger) → ArePlain entries → l d p ≡ tables_of t
      → IsPassed change t entries → after d p ≡ tables_of (all_entered t entries) → Others d p l after → Runs g l (map line entries) after
  plain-runs [] l t after plain here passed set others = same-ledger d p l after others (set ∙ sym here)
  plain-runs (entry ∷ entries) l t after plain here passed set others =
      let new : Table = left (standing t) (change_in change entry) in (
        with_table d p l new,
        makes-one l t entry (with_table d p l new) here passed.0 (plain-allowed l (standing t) entry plain.0) (with-here d p l new) (with-others d p l new),
        plain-runs entries (with_table d p l new) (entered t entry) after plain.1 (with-here d p l new ∙ sym passed.1) passed.2 set
            (others-on d p l new after others),
      )

  -- ---- an entry by itself

  -- what one entry asks of what all devices have, where there is one
  abbrev pub IsAllowed : Ledger → Option Tables → List ContEntry → Type 0
  IsAllowed l t [] = ⊤
  IsAllowed l t (entry ∷ []) = Allows g l p (standing t) (change_in change entry)
  IsAllowed l t (entry ∷ other ∷ entries) = ⊥

  pub single-runs : (entries : List ContEntry) (l : Ledger) (t : Option Tables) (after : Ledger) → IsAllowed l t entries → l d p ≡ tables_of t
      → IsPassed change t entries → after d p ≡ tables_of (all_entered t entries) → Others d p l after → Runs g l (map line entries) after
  single-runs [] l t after allowed here passed set others = same-ledger d p l after others (set ∙ sym here)
  single-runs (entry ∷ []) l t after allowed here passed set others = (after, makes-one l t entry after here passed.0 allowed (set ∙ passed.1) others, refl)
  single-runs (entry ∷ other ∷ entries) l t after allowed here passed set others = absurd allowed
