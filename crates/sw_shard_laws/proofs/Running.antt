-- What every change, and every list of changes, keeps.
use Rattle.std.proofs.Common.{◌≡◌, ℕ, ◌+◌, true, List, [], ◌∷◌, ◌++◌, unwrap_or, Option, None, Some, ◌⊎◌}
use Rattle.std.proofs.Common.{inl, inr, refl, sym, ap, subst, arith}
use Rattle.std.specs.List.{Contains}
use Rattle.std.proofs.lemmas.List.Elements.{Contains-append_left, Contains-append_right, Contains-push}
use Rattle.sw_hashpath.specs.declared.place.Place.{Place}
use Rattle.sw_rows.specs.Rows.{is_at_least, merged}
use Rattle.sw_rows.specs.declared.numbered.Numbered.{Numbered}
use Rattle.sw_rows.specs.declared.row.Row.{Row}
use Rattle.sw_shard_range.specs.Names.{is_hidden}
use Rattle.sw_shard_laws.proofs.Changing.{keeps, left-all}
use Rattle.sw_shard_laws.proofs.Nothing.{nothing}
use Rattle.sw_shard_laws.proofs.Rows.{has-over, has-stands, merged-has, merged-stands}
use Rattle.sw_shard_laws.proofs.Turning.{holds-on, points-on, rises, set-cases, standing-on}
use Rattle.sw_shard_laws.specs.Changes.{Change, Line, Makes, Runs, left}
use Rattle.sw_shard_laws.specs.Changes.Change.{Creates, Merges, Splits, Acks, Syncs, Closes, Empties}
use Rattle.sw_shard_laws.specs.Laws.{BegunIsSound, ChangesKeepPoints, HeldStays, ClosedIsAtShards, EmptiedIsServed, HiddenRowsStay, MergedIsHeld, PointsTell}
use Rattle.sw_shard_laws.specs.Laws.{RowsWereMerged, RunsKeepPoints, ShardsAreMade, HadIsHeld, RedirectedIsHeld, SyncPointsTell, begun}
use Rattle.sw_shard_laws.specs.Ledger.{Ground, Has, Holds, HoldsBy, Ledger, Stands, Table, fresh, served, table_at}
use Rattle.sw_shard_laws.specs.Sound.{IsFine, PointsHold}

begun-fine : (g : Ground) (p : Place) → IsFine g begun p fresh
begun-fine g p = record {
  low = record {
    points = λ range f q at. absurd (nothing q at);
    syncs = λ f q at. absurd (nothing q at);
    none = λ is range f. refl;
  };
  points = λ range f s n stands under. absurd (nothing under.0 under.1);
  syncs = λ f n stands under. absurd (nothing under.0 under.1);
  lists = λ ws is. absurd (nothing ws is);
  cursor = omega arith;
  emptied = λ gone. cc;
}

pub begun-sound : BegunIsSound
begun-sound g d p = begun-fine g p

-- what a change keeps
pub record Kept (g : Ground) (m after : Ledger) : Type 0 where
  pub points : PointsHold g after
  pub holds : (d : ℕ) (p : Place) (u : Row) → Holds g m d p u → Holds g after d p u
  pub rises : (d : ℕ) (p : Place) (u : Row) → is_hidden p ≡ true → Has (table_at m d p).rows u → Has (table_at after d p).rows u
  pub standing : ((d : ℕ) (p : Place) (n : Numbered) → Stands (table_at m d p) n → Holds g m d p n.row) → (d : ℕ) (p : Place) (n : Numbered)
      → Stands (table_at after d p) n → Holds g after d p n.row

pub step-keeps : (g : Ground) (m : Ledger) (line : Line) (after : Ledger) → Makes g m line after → PointsHold g m → Kept g m after
step-keeps g m line after makes all =
    let t = left (table_at m line.device line.place) line.change in
    let both = keeps g m line.device line.place all line.change makes.tested makes.allowed in
    record {
      points = points-on g m after line.device line.place t makes.leaves all both.0 both.1;
      holds = holds-on g m after line.device line.place t makes.leaves all both.0 both.1;
      rises = λ d p u away h. rises g m after line.device line.place t makes.leaves all both.0 both.1 p d u away h;
      standing = standing-on g m after line.device line.place t makes.leaves all both.0 both.1;
    }

pub run-keeps : (g : Ground) (m : Ledger) (lines : List Line) (after : Ledger) → Runs g m lines after → PointsHold g m → Kept g m after
run-keeps g m [] after run all =
    subst (λ (x : Ledger). Kept g m x) (sym run) (record {
      points = all;
      holds = λ d p u h. h;
      rises = λ d p u away h. h;
      standing = λ held. held;
    })
run-keeps g m (line ∷ lines) after run all =
    let one = step-keeps g m line run.0 run.1 all in
    let rest = run-keeps g run.0 lines after run.2 one.points in
    record {
      points = rest.points;
      holds = λ d p u h. rest.holds d p u (one.holds d p u h);
      rises = λ d p u away h. rest.rises d p u away (one.rises d p u away h);
      standing = λ held. rest.standing (one.standing held);
    }

-- one list of changes after another
pub runs-on : (g : Ground) (m : Ledger) (lines : List Line) (mid : Ledger) (more : List Line) (after : Ledger) → Runs g m lines mid → Runs g mid more after
    → Runs g m (lines ++ more) after
runs-on g m [] mid more after run rest = subst (λ (x : Ledger). Runs g x more after) run rest
runs-on g m (line ∷ lines) mid more after run rest = (run.0, run.1, runs-on g run.0 lines mid more after run.2 rest)

pub changes-keep : ChangesKeepPoints
changes-keep g m line after makes all = (step-keeps g m line after makes all).points

pub runs-keep : RunsKeepPoints
runs-keep g m lines after run all = (run-keeps g m lines after run all).points

pub held-stays : HeldStays
held-stays g m lines after run all = (run-keeps g m lines after run all).holds

pub hidden-stay : HiddenRowsStay
hidden-stay g m lines after run all = (run-keeps g m lines after run all).rises

-- what counts less is held as well
holds-over : (g : Ground) (m : Ledger) (t : Table) (u v : Row) (o : Option Place) → u.name ≡ v.name → is_at_least u v ≡ true → HoldsBy g m t u o
    → HoldsBy g m t v o
holds-over g m t u v None same over holds = has-over t.rows u v same over holds
holds-over g m t u v (Some s) same over holds = λ f inside. has-over (table_at m f s).rows u v same over (holds f inside)

pub had-held : HadIsHeld
had-held g lines m run d p row has =
    let n = has-stands (table_at m d p).rows row has in
    let stands = (run-keeps g begun lines m run (begun-sound g)).standing (λ e q k stood. absurd (nothing k stood)) d p n.0 n.1 in
    subst (λ (x : List ℕ). HoldsBy g m (table_at m d p) row (served (table_at m d p) x)) n.2
    (holds-over g m (table_at m d p) n.0.row row (served (table_at m d p) n.0.row.name) n.2 n.3 stands)

pub redirected-held : RedirectedIsHeld
redirected-held g m d p row s is all = subst (λ (o : Option Place). HoldsBy g m (table_at m d p) row o) (sym is) all

-- each row of what a change leaves stood before, or is the one that it merges
left-news : (t : Table) (change : Change) (n : Numbered) → Stands (left t change) n → Stands t n ⊎ (change ≡ Merges n.row)
left-news t Creates n stands = inl stands
left-news t (Merges row) n stands = by (merged-stands t.rows row n stands)
  where
    by : Stands t n ⊎ ((n.rowid ≡ t.rows.top + 1) × (n.row ≡ row)) → Stands t n ⊎ (Merges row ≡ Merges n.row)
    by (inl stood) = inl stood
    by (inr new) = inr (ap (λ (x : Row). Merges x) (sym new.1))
left-news t (Splits ways) n stands = inl stands
left-news t (Acks range device rowid) n stands = inl stands
left-news t (Syncs device rowid) n stands = inl stands
left-news t (Closes devices) n stands = inl stands
left-news t Empties n stands = absurd (nothing n stands)

run-news : (g : Ground) (m : Ledger) (lines : List Line) (after : Ledger) → Runs g m lines after → (d : ℕ) (p : Place) (n : Numbered)
    → Stands (table_at after d p) n → Stands (table_at m d p) n ⊎ Contains lines (record { device = d; place = p; change = Merges n.row })
run-news g m [] after run d p n stands = inl (subst (λ (x : Ledger). Stands (table_at x d p) n) run stands)
run-news g m (line ∷ lines) after run d p n stands = by (run-news g run.0 lines after run.2 d p n stands)
  where
    mid : Ledger
    mid = run.0

    here : Line
    here = record { device = d; place = p; change = Merges n.row }

    old : Table
    old = table_at m line.device line.place

    at : (d ≡ line.device) → (p ≡ line.place) → Stands old n ⊎ (line.change ≡ Merges n.row) → Stands (table_at m d p) n ⊎ Contains (line ∷ lines) here
    at device place (inl stood) =
        inl (subst (λ (e : ℕ). Stands (table_at m e p) n) (sym device) (subst (λ (q : Place). Stands (table_at m line.device q) n) (sym place) stood))
    at device place (inr new) =
        let same : line ≡ here = λ i. record { device = sym device i; place = sym place i; change = new i } in
        inr (subst (λ (x : Line). Contains (line ∷ lines) x) same (Contains-append_left (line ∷ []) lines line (Contains-push [] line)))

    by : Stands (table_at mid d p) n ⊎ Contains lines here → Stands (table_at m d p) n ⊎ Contains (line ∷ lines) here
    by (inr later) = inr (Contains-append_right (line ∷ []) lines here later)
    by (inl stood) = of (set-cases m mid line.device line.place (left old line.change) (run.1).leaves d p)
      where
        of : (table_at mid d p ≡ table_at m d p) ⊎ ((d ≡ line.device) × (p ≡ line.place) × (table_at mid d p ≡ left old line.change))
            → Stands (table_at m d p) n ⊎ Contains (line ∷ lines) here
        of (inl same) = inl (subst (λ (x : Table). Stands x n) same stood)
        of (inr set) = at set.0 set.1 (left-news old line.change n (subst (λ (x : Table). Stands x n) set.2 stood))

pub rows-merged : RowsWereMerged
rows-merged g lines m run d p n stands = by (run-news g begun lines m run d p n stands)
  where
    by : Stands (table_at begun d p) n ⊎ Contains lines (record { device = d; place = p; change = Merges n.row })
        → Contains lines (record { device = d; place = p; change = Merges n.row })
    by (inl stood) = absurd (nothing n stood)
    by (inr is) = is

pub points-tell : PointsTell
points-tell g lines m run d p range f s n stands under = (runs-keep g begun lines m run (begun-sound g) d p).points range f s n stands under

pub syncs-tell : SyncPointsTell
syncs-tell g lines m run d p f n stands under = (runs-keep g begun lines m run (begun-sound g) d p).syncs f n stands under

pub shards-made : ShardsAreMade
shards-made g lines m run d p ways split =
    let can = (runs-keep g begun lines m run (begun-sound g) d p).lists ways split in
    (can.fit.within, λ range s is. (can.fit.hidden range s is, λ f inside. can.made range s f is inside))

pub emptied-served : EmptiedIsServed
emptied-served g lines m run d p gone =
    let fine = runs-keep g begun lines m run (begun-sound g) d p in
    let are = fine.emptied gone in
    (are.0, left-all g m p (table_at m d p) fine are.1)

-- ---- what single changes come to

pub merged-held : MergedIsHeld
merged-held g m d p row mid lines after all makes run =
    held-stays g mid lines after run (changes-keep g m line mid makes all) d p row
    (subst (λ (x : Table). HoldsBy g mid x row (served x row.name)) (sym here) (unserved (served t row.name) makes.tested))
  where
    line : Line
    line = record { device = d; place = p; change = Merges row }

    t : Table
    t = table_at m d p

    new : Table
    new = record t { rows = merged t.rows row }

    here : table_at mid d p ≡ new
    here = ap (λ (o : Option Table). unwrap_or o fresh) makes.leaves.here

    unserved : (o : Option Place) → o ≡ None → HoldsBy g mid new row o
    unserved None none = merged-has t.rows row
    unserved (Some s) none = cc

pub closed-at-shards : ClosedIsAtShards
closed-at-shards g m d p devices mid lines after all makes run s n stands f inside =
    let fine = all d p in
    let can = makes.tested in
    let under = can.acked f (makes.allowed stands.ways s stands.split stands.shard_is f inside) s n stands in
    let has = fine.points (table_at m d p).cursor f s n stands under in
    let hidden = (fine.lists stands.ways stands.split).fit.hidden (table_at m d p).cursor s stands.shard_is in
    hidden-stay g m (record { device = d; place = p; change = Closes devices } ∷ lines) after (mid, makes, run) all f s n.row hidden has
