-- What goes on whatever changes are made, and what callers know of a table that has gone on.
use Rattle.std.proofs.Common.{◌≡◌, ℕ, ◌+◌, ◌<◌, ◌≤◌, nat_lt, Bool, true, false, List, [], ◌∷◌, Option, None, Some, ◌⊎◌}
use Rattle.std.proofs.Common.{inl, inr, refl, sym, ◌∙◌, subst, arith}
use Rattle.std.specs.Option.{IsSome}
use Rattle.std.proofs.lemmas.Bool.{ltb-false, ltb-true}
use Rattle.sw_hashpath.specs.declared.place.Place.{Place}
use Rattle.sw_rows.specs.declared.numbered.Numbered.{Numbered}
use Rattle.sw_sync.specs.Points.{point_at}
use Rattle.sw_shard_laws.proofs.Nothing.{none-not, nothing}
use Rattle.sw_shard_laws.proofs.Points.{under-raised}
use Rattle.sw_shard_laws.proofs.Rows.{above-none, merged-rises, merged-stands}
use Rattle.sw_shard_laws.proofs.Serving.{serving-on}
use Rattle.sw_shard_laws.proofs.Turning.{set-all, set-stays}
use Rattle.sw_shard_laws.specs.Changes.{Change, Line, Makes, Tests, left}
use Rattle.sw_shard_laws.specs.Changes.Change.{Creates, Merges, Splits, Acks, Syncs, Closes, Empties}
use Rattle.sw_shard_laws.specs.Laws.{IsLater, ParcelRaisesAPoint, ParcelRaisesASyncPoint, TablesGoOn}
use Rattle.sw_shard_laws.specs.Ledger.{Ground, Has, Holds, IsUnder, Ledger, Stands, StandsIn, Table, Way, served_in, table_at}

pub later-refl : (t : Table) → IsLater t t
later-refl t = record {
  top = omega arith;
  rows = λ n stands low. stands;
  serving = λ name s is. is;
  split = λ ws is. (is, omega arith);
  points = λ range f k under. under;
  syncs = λ f k under. under;
  emptied = λ gone. gone;
}

pub later-trans : (a b c : Table) → IsLater a b → IsLater b c → IsLater a c
later-trans a b c p q = record {
  top = let one = p.top in let two = q.top in omega (arith, one, two);
  rows = λ n stands low. let up = p.top in p.rows n (q.rows n stands (omega (arith, up, low))) low;
  serving = λ name s is. q.serving name s (p.serving name s is);
  split = λ ws is.
      let one = p.split ws is in
      let two = q.split ws one.0 in let first = one.1 in let then = two.1 in (two.0, omega (arith, first, then));
  points = λ range f k under. q.points range f k (p.points range f k under);
  syncs = λ f k under. q.syncs f k (p.syncs f k under);
  emptied = λ gone. q.emptied (p.emptied gone);
}

-- without ranges no name is left to a shard
no-ways : (o : Option (List Way)) (c : ℕ) (name : List ℕ) (s : Place) → o ≡ None → served_in o c name ≡ Some s → ⊥
no-ways None c name s none is = cc
no-ways (Some ws) c name s none is = cc

-- each change leaves a later table
pub left-later : (t : Table) (change : Change) → Tests t change → IsLater t (left t change)
left-later t Creates tested = later-refl t
left-later t (Merges row) tested = record {
  top = merged-rises t.rows row;
  rows = λ n stands low. by n low (merged-stands t.rows row n stands);
  serving = λ name s is. is;
  split = λ ws is. (is, omega arith);
  points = λ range f k under. under;
  syncs = λ f k under. under;
  emptied = λ gone. gone;
}
  where
    by : (n : Numbered) → n.rowid ≤ t.rows.top → Stands t n ⊎ ((n.rowid ≡ t.rows.top + 1) × (n.row ≡ row)) → Stands t n
    by n low (inl stood) = stood
    by n low (inr new) = let is = new.0 in absurd (omega (arith, low, is))
left-later t (Splits ways) tested = record {
  top = omega arith;
  rows = λ n stands low. stands;
  serving = λ name s is. absurd (no-ways t.ways t.cursor name s tested is);
  split = λ ws is. absurd (none-not t.ways ws tested is);
  points = λ range f k under. under;
  syncs = λ f k under. under;
  emptied = λ gone. gone;
}
left-later t (Acks i f q) tested = record {
  top = omega arith;
  rows = λ n stands low. stands;
  serving = λ name s is. is;
  split = λ ws is. (is, omega arith);
  points = λ range e k under. under-raised t.points i f q range e k under;
  syncs = λ e k under. under;
  emptied = λ gone. gone;
}
left-later t (Syncs f q) tested = record {
  top = omega arith;
  rows = λ n stands low. stands;
  serving = λ name s is. is;
  split = λ ws is. (is, omega arith);
  points = λ range e k under. under;
  syncs = λ e k under. under-raised t.syncs 0 f q 0 e k under;
  emptied = λ gone. gone;
}
left-later t (Closes devices) tested = record {
  top = omega arith;
  rows = λ n stands low. stands;
  serving = λ name s is. serving-on t.ways t.cursor name s is;
  split = λ ws is. (is, omega arith);
  points = λ range f k under. under;
  syncs = λ f k under. under;
  emptied = λ gone. gone;
}
left-later t Empties tested = record {
  top = omega arith;
  rows = λ n stands low. absurd (nothing n stands);
  serving = λ name s is. is;
  split = λ ws is. (is, omega arith);
  points = λ range f k under. under;
  syncs = λ f k under. under;
  emptied = λ gone. refl;
}

step-later : (g : Ground) (m : Ledger) (line : Line) (after : Ledger) → Makes g m line after → (d : ℕ) (p : Place)
    → IsLater (table_at m d p) (table_at after d p)
step-later g m line after makes =
    set-all (λ d p x. IsLater (table_at m d p) x) m after line.device line.place (left (table_at m line.device line.place) line.change) makes.leaves
    (left-later (table_at m line.device line.place) line.change makes.tested) (λ d p. later-refl (table_at m d p))

pub tables-go-on : TablesGoOn
tables-go-on g m [] after run d p =
    subst (λ (x : Ledger). IsLater (table_at m d p) (table_at x d p) × (IsSome (m d p) → IsSome (x d p))) (sym run) (later-refl (table_at m d p), λ some. some)
tables-go-on g m (line ∷ lines) after run d p =
    let one = step-later g m line run.0 run.1 d p in
    let rest = tables-go-on g run.0 lines after run.2 d p in (
      later-trans (table_at m d p) (table_at run.0 d p) (table_at after d p) one rest.0,
      λ some. rest.1 (set-stays m run.0 line.device line.place (left (table_at m line.device line.place) line.change) (run.1).leaves d p some),
    )

-- ---- parcels

-- a row that stood is above the number, or is under what is kept
above-or-under : (kept : Option ℕ) (above rowid : ℕ) → 0 < rowid → (above ≡ 0) ⊎ IsUnder kept above → (above < rowid) ⊎ IsUnder kept rowid
above-or-under kept above rowid positive from = by (nat_lt above rowid) refl from
  where
    by : (b : Bool) → nat_lt above rowid ≡ b → (above ≡ 0) ⊎ IsUnder kept above → (above < rowid) ⊎ IsUnder kept rowid
    by true more from = inl (ltb-true above rowid more)
    by false less (inl none) = let high = ltb-false above rowid less in absurd (omega (arith, high, none, positive))
    by false less (inr under) = let high = ltb-false above rowid less in let low = under.2 in inr (under.0, under.1, omega (arith, high, low))

pub parcel-raises : ParcelRaisesAPoint
parcel-raises m t later range device above listed some is from has = record {
  given_out = is.top;
  acked = λ s n stands low.
      let stood = is.rows n stands.stands low in
      by s n stands stood (above-or-under (point_at later.points range device) above n.rowid (above-none t.rows n listed stood) from);
}
  where
    same : (o : Option (List Way)) → t.ways ≡ o → IsSome o → (ws : List Way) → later.ways ≡ Some ws → t.ways ≡ Some ws
    same None split so ws later_split = cc
    same (Some xs) split so ws later_split =
        let both : Some xs ≡ Some ws = sym (is.split xs split).0 ∙ later_split in
        split ∙ both

    by : (s : Place) (n : Numbered) → StandsIn later range s n → Stands t n → (above < n.rowid) ⊎ IsUnder (point_at later.points range device) n.rowid
        → IsUnder (point_at later.points range device) n.rowid ⊎ Has (table_at m device s).rows n.row
    by s n stands stood (inr under) = inl under
    by s n stands stood (inl more) =
        inr (has s n (record {
          stands = stood;
          ways = stands.ways;
          split = same t.ways refl some stands.ways stands.split;
          index = stands.index;
          shard_is = stands.shard_is;
        }) more)

pub parcel-syncs : ParcelRaisesASyncPoint
parcel-syncs g m place t later device above listed is from holds = record {
  given_out = is.top;
  acked = λ n stands low.
      let stood = is.rows n stands low in by n stood (above-or-under (point_at later.syncs 0 device) above n.rowid (above-none t.rows n listed stood) from);
}
  where
    by : (n : Numbered) → Stands t n → (above < n.rowid) ⊎ IsUnder (point_at later.syncs 0 device) n.rowid
        → IsUnder (point_at later.syncs 0 device) n.rowid ⊎ Holds g m device place n.row
    by n stood (inr under) = inl under
    by n stood (inl more) = inr (holds n stood more)
