-- What each change leaves of its table keeps what is held, and points.
use Rattle.std.proofs.Common.{◌≡◌, ℕ, ◌+◌, ◌≤◌, Bool, true, false, List, [], length, unwrap_or, Option, None, Some}
use Rattle.std.proofs.Common.{◌⊎◌, inl, inr, refl, sym, ◌∙◌, ap, subst}
use Rattle.std.proofs.Common.{arith}
use Rattle.std.specs.List.{find}
use Rattle.std.specs.Option.{IsSome}
use Rattle.sw_hashpath.specs.declared.place.Place.{Place}
use Rattle.sw_rows.specs.Rows.{Listed, is_named, merged, no_rows_at}
use Rattle.sw_rows.specs.declared.numbered.Numbered.{Numbered}
use Rattle.sw_rows.specs.declared.row.Row.{Row}
use Rattle.sw_sync.specs.Points.{point_at, raised}
use Rattle.sw_shard_laws.proofs.Nothing.{none-not, nothing}
use Rattle.sw_shard_laws.proofs.Points.{raised-from, raised-under}
use Rattle.sw_shard_laws.proofs.Rows.{has-merged, has-over, has-stands, merged-rises, merged-stands}
use Rattle.sw_shard_laws.proofs.Serving.{all-served, newly-served, none-served, serving-on}
use Rattle.sw_shard_laws.proofs.Turning.{Turns, calm-turns}
use Rattle.sw_shard_laws.specs.Changes.{Allows, AreAll, AreClosed, CanAck, CanClose, CanSplit, CanSync, Change, Tests, left}
use Rattle.sw_shard_laws.specs.Changes.Change.{Creates, Merges, Splits, Acks, Syncs, Closes, Empties}
use Rattle.sw_shard_laws.specs.Ledger.{AllHave, Ground, Has, Holds, IsUnder, Ledger, Stands, StandsIn, Table, Way}
use Rattle.sw_shard_laws.specs.Ledger.{index_in, served, served_in, table_at}
use Rattle.sw_shard_laws.specs.Sound.{IsFine, PointsHold}

-- where all ranges are closed each name is left to a shard
pub left-all : (g : Ground) (m : Ledger) (p : Place) (t : Table) → IsFine g m p t → AreClosed t → (name : List ℕ) → (s : Place) × (served t name ≡ Some s)
left-all g m p t fine are name =
    let at = all-served are.ways t.cursor name ((fine.lists are.ways are.split).fit.within name) are.closed in
    (at.0, ap (λ (o : Option (List Way)). served_in o t.cursor name) are.split ∙ at.1)

module _ (g : Ground) (m : Ledger) (d : ℕ) (p : Place) (all : PointsHold g m) where
  abbrev t : Table
  t = table_at m d p

  was : IsFine g m p t
  was = all d p

  abbrev Keeps : Table → Type 0
  Keeps x = Turns g m d p x × IsFine g m p x

  -- the same rows, of which the same are left to shards
  same-turns : (x : Table) → x.rows ≡ t.rows → ((name : List ℕ) → served x name ≡ served t name) → Turns g m d p x
  same-turns x rows serves =
      calm-turns g m d p x serves (λ u h. subst (λ (l : Listed). Has l u) (sym rows) h)
      (λ n stands. inl (subst (λ (l : Listed). find (is_named n.row.name) l.list ≡ Some n) rows stands))

  -- other rows or another cursor, with the same points and ranges
  rowed-fine : (l : Listed) (c : ℕ) (e : Bool) → t.rows.top ≤ l.top
      → ((n : Numbered) → find (is_named n.row.name) l.list ≡ Some n → n.rowid ≤ t.rows.top → Stands t n)
      → c ≤ length (unwrap_or t.ways [])
      → (e ≡ true → (l.list ≡ []) × AreClosed (record t { rows = l; cursor = c; emptied = e }))
      → IsFine g m p (record t { rows = l; cursor = c; emptied = e })
  rowed-fine l c e top rows cursor emptied = record {
    low = record {
      points = λ range f q at. let low = was.low.points range f q at in omega (arith, low, top);
      syncs = λ f q at. let low = was.low.syncs f q at in omega (arith, low, top);
      none = was.low.none;
    };
    points = λ range f s n stands under.
        let low = was.low.points range f under.0 under.1 in
        let under_it = under.2 in
        was.points range f s n (record {
          stands = rows n stands.stands (omega (arith, low, under_it));
          ways = stands.ways;
          split = stands.split;
          index = stands.index;
          shard_is = stands.shard_is;
        }) under;
    syncs = λ f n stands under.
        let low = was.low.syncs f under.0 under.1 in let under_it = under.2 in was.syncs f n (rows n stands (omega (arith, low, under_it))) under;
    lists = was.lists;
    cursor = cursor;
    emptied = emptied;
  }

  -- ---- one change after the other

  creates : Keeps t
  creates = (same-turns t refl (λ name. refl), was)

  merges : (row : Row) → served t row.name ≡ None → Keeps (record t { rows = merged t.rows row })
  merges row free = (
    calm-turns g m d p (record t { rows = merged t.rows row }) (λ name. refl) (λ u h. has-merged t.rows row u h)
        (λ n stands. news n (merged-stands t.rows row n stands)),
    rowed-fine (merged t.rows row) t.cursor t.emptied (merged-rises t.rows row) (λ n stands low. old n low (merged-stands t.rows row n stands)) was.cursor
        (λ gone. let at = left-all g m p t was (was.emptied gone).1 row.name in absurd (none-not (served t row.name) at.0 free at.1)),
  )
    where
      news : (n : Numbered) → Stands t n ⊎ ((n.rowid ≡ t.rows.top + 1) × (n.row ≡ row)) → Stands t n ⊎ (served t n.row.name ≡ None)
      news n (inl stood) = inl stood
      news n (inr new) = inr (ap (λ (x : Row). served t x.name) new.1 ∙ free)

      old : (n : Numbered) → n.rowid ≤ t.rows.top → Stands t n ⊎ ((n.rowid ≡ t.rows.top + 1) × (n.row ≡ row)) → Stands t n
      old n low (inl stood) = stood
      old n low (inr new) = let is = new.0 in absurd (omega (arith, low, is))

  splits : (ws : List Way) → t.ways ≡ None → CanSplit g m p ws → Keeps (record t { ways = Some ws; cursor = 0 })
  splits ws none can = (
    same-turns (record t { ways = Some ws; cursor = 0 }) refl
        (λ name. none-served ws name ∙ sym (ap (λ (o : Option (List Way)). served_in o t.cursor name) none)),
    record {
      low = record { points = was.low.points; syncs = was.low.syncs; none = λ is. cc };
      points = λ range f s n stands under. absurd (none-not (point_at t.points range f) under.0 (was.low.none none range f) under.1);
      syncs = was.syncs;
      lists = λ xs is. let same : ws ≡ xs = cc in subst (λ (x : List Way). CanSplit g m p x) same can;
      cursor = omega arith;
      emptied = λ gone. let are = (was.emptied gone).1 in absurd (none-not t.ways are.ways none are.split);
    },
  )

  acks : (i f q : ℕ) → IsSome t.ways → CanAck m t i f q → Keeps (record t { points = raised t.points i f q })
  acks i f q some can = (
    same-turns (record t { points = raised t.points i f q }) refl (λ name. refl),
    record {
      low = record { points = λ r e x at. low r e x (raised-from t.points i f q r e x at); syncs = was.low.syncs; none = λ none. absurd (split none) };
      points = λ r e s n stands under. points r e s n stands (raised-under t.points i f q r e n.rowid under);
      syncs = was.syncs;
      lists = was.lists;
      cursor = was.cursor;
      emptied = λ gone. let at = was.emptied gone in
          (at.0, record { ways = at.1.ways; split = at.1.split; closed = at.1.closed });
    },
  )
    where
      split : t.ways ≡ None → ⊥
      split none = let e : IsSome {T = List Way} None = subst (λ (o : Option (List Way)). IsSome o) none some in cc

      low : (r e x : ℕ) → ((i ≡ r) × (f ≡ e) × (x ≡ q)) ⊎ (point_at t.points r e ≡ Some x) → x ≤ t.rows.top
      low r e x (inl new) = subst (λ (z : ℕ). z ≤ t.rows.top) (sym new.2) can.given_out
      low r e x (inr old) = was.low.points r e x old

      before : (r : ℕ) (s : Place) (n : Numbered) → StandsIn (record t { points = raised t.points i f q }) r s n → StandsIn t r s n
      before r s n stands = record {
        stands = stands.stands;
        ways = stands.ways;
        split = stands.split;
        index = stands.index;
        shard_is = stands.shard_is;
      }

      own : (s : Place) (n : Numbered) → StandsIn t i s n → IsUnder (point_at t.points i f) n.rowid ⊎ Has (table_at m f s).rows n.row
          → Has (table_at m f s).rows n.row
      own s n stands (inl under) = was.points i f s n stands under
      own s n stands (inr has) = has

      points : (r e : ℕ) (s : Place) (n : Numbered) → StandsIn (record t { points = raised t.points i f q }) r s n
          → ((i ≡ r) × (f ≡ e) × (n.rowid ≤ q)) ⊎ IsUnder (point_at t.points r e) n.rowid → Has (table_at m e s).rows n.row
      points r e s n stands (inr old) = was.points r e s n (before r s n stands) old
      points r e s n stands (inl new) =
          let mine : StandsIn t i s n = subst (λ (z : ℕ). StandsIn t z s n) (sym new.0) (before r s n stands) in
          subst (λ (z : ℕ). Has (table_at m z s).rows n.row) new.1 (own s n mine (can.acked s n mine new.2))

  syncs : (f q : ℕ) → CanSync g m p t f q → Keeps (record t { syncs = raised t.syncs 0 f q })
  syncs f q can = (
    same-turns (record t { syncs = raised t.syncs 0 f q }) refl (λ name. refl),
    record {
      low = record { points = was.low.points; syncs = λ e x at. low e x (raised-from t.syncs 0 f q 0 e x at); none = was.low.none };
      points = λ r e s n stands under. was.points r e s n (record {
        stands = stands.stands;
        ways = stands.ways;
        split = stands.split;
        index = stands.index;
        shard_is = stands.shard_is;
      }) under;
      syncs = λ e n stands under. held e n stands (raised-under t.syncs 0 f q 0 e n.rowid under);
      lists = was.lists;
      cursor = was.cursor;
      emptied = λ gone. let at = was.emptied gone in
          (at.0, record { ways = at.1.ways; split = at.1.split; closed = at.1.closed });
    },
  )
    where
      low : (e x : ℕ) → (◌≡◌ {A = ℕ} 0 0 × (f ≡ e) × (x ≡ q)) ⊎ (point_at t.syncs 0 e ≡ Some x) → x ≤ t.rows.top
      low e x (inl new) = subst (λ (z : ℕ). z ≤ t.rows.top) (sym new.2) can.given_out
      low e x (inr old) = was.low.syncs e x old

      own : (n : Numbered) → Stands t n → IsUnder (point_at t.syncs 0 f) n.rowid ⊎ Holds g m f p n.row → Holds g m f p n.row
      own n stands (inl under) = was.syncs f n stands under
      own n stands (inr holds) = holds

      held : (e : ℕ) (n : Numbered) → Stands t n → (◌≡◌ {A = ℕ} 0 0 × (f ≡ e) × (n.rowid ≤ q)) ⊎ IsUnder (point_at t.syncs 0 e) n.rowid → Holds g m e p n.row
      held e n stands (inr old) = was.syncs e n stands old
      held e n stands (inl new) = subst (λ (z : ℕ). Holds g m z p n.row) new.1 (own n stands (can.acked n stands new.2))

  closes : (devices : List ℕ) → CanClose t devices → AreAll g t devices → Keeps (record t { cursor = t.cursor + 1 })
  closes devices can are = (
    record {
      serving = λ name s is. serving-on t.ways t.cursor name s is;
      stays = λ u is h. h;
      rise = λ away u h. h;
      closes = λ u s before after h. by u s before after h;
      news = λ n stands. inl stands;
    },
    rowed-fine t.rows (t.cursor + 1) t.emptied (omega arith) (λ n stands low. stands)
        (let low = can.is_open in let same = ap (λ (o : Option (List Way)). length (unwrap_or o [])) can.split in omega (arith, low, same))
        (λ gone. let at = was.emptied gone in absurd (never at.1)),
  )
    where
      -- where the rows are taken away no range is open
      never : AreClosed t → ⊥
      never closed =
          let same : Some closed.ways ≡ Some can.ways = sym closed.split ∙ can.split in
          let ways : closed.ways ≡ can.ways = cc in
          let many = ap (λ (x : List Way). length x) ways in
          let high = closed.closed in
          let low = can.is_open in omega (arith, many, high, low)

      by : (u : Row) (s : Place) → served t u.name ≡ None → served_in t.ways (t.cursor + 1) u.name ≡ Some s → Has t.rows u → AllHave g m s u
      by u s before after h f inside =
          let ws = can.ways in
          let newly = newly-served ws t.cursor u.name s (subst (λ (o : Option (List Way)). served_in o t.cursor u.name ≡ None) can.split before)
          (subst (λ (o : Option (List Way)). served_in o (t.cursor + 1) u.name ≡ Some s) can.split after) in
          let n = has-stands t.rows u h in
          let stands : StandsIn t t.cursor s n.0 = record {
            stands = n.1;
            ways = ws;
            split = can.split;
            index = ap (λ (x : List ℕ). index_in ws x) n.2 ∙ newly.0;
            shard_is = newly.1;
          } in
          let under = can.acked f (are ws s can.split newly.1 f inside) s n.0 stands in
          has-over (table_at m f s).rows n.0.row u n.2 n.3 (was.points t.cursor f s n.0 stands under)

  empties : AreClosed t → Keeps (record t { rows = no_rows_at t.rows.top; emptied = true })
  empties are = (
    record {
      serving = λ name s is. is;
      stays = λ u is h. let at = left-all g m p t was are u.name in absurd (none-not (served t u.name) at.0 is at.1);
      rise = λ away u h. let plain = (was.lists are.ways are.split).plain in let e : false ≡ true = sym plain ∙ away in cc;
      closes = λ u s before after h. let at = left-all g m p t was are u.name in absurd (none-not (served t u.name) at.0 before at.1);
      news = λ n stands. absurd (nothing n stands);
    },
    rowed-fine (no_rows_at t.rows.top) t.cursor true (omega arith) (λ n stands low. absurd (nothing n stands)) was.cursor
        (λ gone. (refl, record { ways = are.ways; split = are.split; closed = are.closed })),
  )

  -- ---- any change

  pub keeps : (change : Change) → Tests t change → Allows g m p t change → Keeps (left t change)
  keeps Creates tested allowed = creates
  keeps (Merges row) tested allowed = merges row tested
  keeps (Splits ws) tested allowed = splits ws tested allowed
  keeps (Acks i f q) tested allowed = acks i f q tested allowed
  keeps (Syncs f q) tested allowed = syncs f q allowed
  keeps (Closes devices) tested allowed = closes devices tested allowed
  keeps Empties tested allowed = empties tested
