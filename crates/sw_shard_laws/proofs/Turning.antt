-- One table is set: what that leaves of what replicas hold, and of what their points say.
use Rattle.std.proofs.Common.{◌≡◌, ℕ, true, List, unwrap_or, Option, None, Some, ◌⊎◌, inl, inr, refl, sym, ◌∙◌, ap, subst}
use Rattle.std.specs.List.{Contains}
use Rattle.std.specs.Option.{IsSome}
use Rattle.sw_hashpath.specs.declared.place.Place.{Place}
use Rattle.sw_rows.specs.declared.numbered.Numbered.{Numbered}
use Rattle.sw_rows.specs.declared.row.Row.{Row}
use Rattle.sw_shard_range.specs.Names.{is_hidden}
use Rattle.sw_shard_laws.proofs.Nothing.{none-not}
use Rattle.sw_shard_laws.proofs.Rows.{stands-has}
use Rattle.sw_shard_laws.proofs.Serving.{served-at}
use Rattle.sw_shard_laws.specs.Changes.{CanSplit, IsSet}
use Rattle.sw_shard_laws.specs.Ledger.{AllHave, Ground, Has, Holds, HoldsBy, Ledger, Stands, Table, Way, fresh, index_in, served, served_in, table_at}
use Rattle.sw_shard_laws.specs.Sound.{IsFine, PointsHold}

-- what is true of all tables, and of the one that is set, is true of all afterwards
pub set-all : (P : ℕ → Place → Table → Type 0) (m after : Ledger) (d : ℕ) (p : Place) (t : Table) → IsSet d p t m after → P d p t
    → ((e : ℕ) (q : Place) → P e q (table_at m e q)) → (e : ℕ) (q : Place) → P e q (table_at after e q)
set-all P m after d p t set new old e q = by (set.each e q)
  where
    here : P d p (table_at after d p)
    here = subst (λ (o : Option Table). P d p (unwrap_or o fresh)) (sym set.here) new

    by : (after e q ≡ m e q) ⊎ ((e ≡ d) × (q ≡ p)) → P e q (table_at after e q)
    by (inl same) = subst (λ (o : Option Table). P e q (unwrap_or o fresh)) (sym same) (old e q)
    by (inr same) =
        subst (λ (f : ℕ). P f q (table_at after f q)) (sym same.0) (subst (λ (r : Place). P d r (table_at after d r)) (sym same.1) here)

-- each table is as it was, or is the one that was set
pub set-cases : (m after : Ledger) (d : ℕ) (p : Place) (t : Table) → IsSet d p t m after → (e : ℕ) (q : Place)
    → (table_at after e q ≡ table_at m e q) ⊎ ((e ≡ d) × (q ≡ p) × (table_at after e q ≡ t))
set-cases m after d p t set e q = by (set.each e q)
  where
    here : table_at after d p ≡ t
    here = ap (λ (o : Option Table). unwrap_or o fresh) set.here

    by : (after e q ≡ m e q) ⊎ ((e ≡ d) × (q ≡ p)) → (table_at after e q ≡ table_at m e q) ⊎ ((e ≡ d) × (q ≡ p) × (table_at after e q ≡ t))
    by (inl same) = inl (ap (λ (o : Option Table). unwrap_or o fresh) same)
    by (inr same) =
        inr (
          same.0,
          same.1,
          subst (λ (f : ℕ). table_at after f q ≡ t) (sym same.0) (subst (λ (r : Place). table_at after d r ≡ t) (sym same.1) here),
        )

-- and what was created stays
pub set-stays : (m after : Ledger) (d : ℕ) (p : Place) (t : Table) → IsSet d p t m after → (e : ℕ) (q : Place) → IsSome (m e q) → IsSome (after e q)
set-stays m after d p t set e q some = by (set.each e q)
  where
    by : (after e q ≡ m e q) ⊎ ((e ≡ d) × (q ≡ p)) → IsSome (after e q)
    by (inl same) = subst (λ (o : Option Table). IsSome o) (sym same) some
    by (inr same) =
        let here : IsSome (after d p) = subst (λ (o : Option Table). IsSome o) (sym set.here) refl in
        subst (λ (f : ℕ). IsSome (after f q)) (sym same.0) (subst (λ (r : Place). IsSome (after d r)) (sym same.1) here)

module _ (g : Ground) (m : Ledger) (d : ℕ) (p : Place) where
  -- what a table that takes the place of one keeps, told of all tables before: whom a name is left to stays; what isn't left to a shard is had still, and a
  -- hidden container has all that it had; what is newly left to a shard, that shard has; and each row stood before, or isn't left to a shard
  pub record Turns (t : Table) : Type 0 where
    pub serving : (name : List ℕ) (s : Place) → served (table_at m d p) name ≡ Some s → served t name ≡ Some s
    pub stays : (u : Row) → served t u.name ≡ None → Has (table_at m d p).rows u → Has t.rows u
    pub rise : is_hidden p ≡ true → (u : Row) → Has (table_at m d p).rows u → Has t.rows u
    pub closes : (u : Row) (s : Place) → served (table_at m d p) u.name ≡ None → served t u.name ≡ Some s → Has (table_at m d p).rows u → AllHave g m s u
    pub news : (n : Numbered) → Stands t n → Stands (table_at m d p) n ⊎ (served t n.row.name ≡ None)

  -- where the same names are served and what was had is had
  pub calm-turns : (t : Table) → ((name : List ℕ) → served t name ≡ served (table_at m d p) name)
      → ((u : Row) → Has (table_at m d p).rows u → Has t.rows u)
      → ((n : Numbered) → Stands t n → Stands (table_at m d p) n ⊎ (served t n.row.name ≡ None)) → Turns t
  calm-turns t same has news = record {
    serving = λ name s is. same name ∙ is;
    stays = λ u is h. has u h;
    rise = λ away u h. has u h;
    closes = λ u s is is' h. absurd (none-not (served (table_at m d p) u.name) s is (sym (same u.name) ∙ is'));
    news = news;
  }

module _ (g : Ground) where
  -- a name is left to a hidden container
  served-hidden : (m : Ledger) (p : Place) (t : Table) (name : List ℕ) (s : Place) → IsFine g m p t → served t name ≡ Some s → is_hidden s ≡ true
  served-hidden m p t name s fine is = by t.ways refl is
    where
      by : (o : Option (List Way)) → t.ways ≡ o → served_in o t.cursor name ≡ Some s → is_hidden s ≡ true
      by None split is = cc
      by (Some ws) split is = (fine.lists ws split).fit.hidden (index_in ws name) s (served-at ws t.cursor name s is).0

  -- what was held is held by what takes the place of the tables
  holds-main : (m after : Ledger) (t t' : Table) (u : Row) (o o' : Option Place)
      → ((s : Place) → o ≡ Some s → is_hidden s ≡ true) → ((s : Place) → o' ≡ Some s → is_hidden s ≡ true)
      → ((s : Place) (f : ℕ) → is_hidden s ≡ true → Has (table_at m f s).rows u → Has (table_at after f s).rows u)
      → ((s : Place) → o ≡ Some s → o' ≡ Some s)
      → (o' ≡ None → Has t.rows u → Has t'.rows u)
      → ((s : Place) → o ≡ None → o' ≡ Some s → Has t.rows u → AllHave g m s u)
      → HoldsBy g m t u o → HoldsBy g after t' u o'
  holds-main m after t t' u None None far far' rise up stays closes h = stays refl h
  holds-main m after t t' u None (Some s) far far' rise up stays closes h = λ f inside. rise s f (far' s refl) (closes s refl refl h f inside)
  holds-main m after t t' u (Some s) None far far' rise up stays closes h = let e : None ≡ Some s = up s refl in cc
  holds-main m after t t' u (Some s) (Some r) far far' rise up stays closes h =
      let e : Some r ≡ Some s = up s refl in
      let at : r ≡ s = cc in
      λ f inside. subst (λ (z : Place). Has (table_at after f z).rows u) (sym at)
      (rise s f (far s refl) (h f (subst (λ (z : Place). Contains (g.ring z) f) at inside)))

  module _ (m after : Ledger) (d : ℕ) (p : Place) (t : Table) (set : IsSet d p t m after) (all : PointsHold g m) (turns : Turns g m d p t)
      (fine : IsFine g m p t) where
    -- what a hidden container has it has still
    pub rises : (s : Place) (f : ℕ) (u : Row) → is_hidden s ≡ true → Has (table_at m f s).rows u → Has (table_at after f s).rows u
    rises s f u =
        set-all (λ e q x. is_hidden q ≡ true → Has (table_at m e q).rows u → Has x.rows u) m after d p t set (λ away h. turns.rise away u h)
        (λ e q away h. h) f s

    -- held stays held
    pub holds-on : (e : ℕ) (q : Place) (u : Row) → Holds g m e q u → Holds g after e q u
    holds-on e q u =
        set-all (λ a b x. HoldsBy g m (table_at m a b) u (served (table_at m a b) u.name) → HoldsBy g after x u (served x u.name)) m after d p t set
        (holds-main m after (table_at m d p) t u (served (table_at m d p) u.name) (served t u.name)
        (λ s is. served-hidden m p (table_at m d p) u.name s (all d p) is) (λ s is. served-hidden m p t u.name s fine is)
        (λ s f away h. rises s f u away h) (λ s is. turns.serving u.name s is) (λ is h. turns.stays u is h) (λ s is is' h. turns.closes u s is is' h))
        (λ a b. holds-main m after (table_at m a b) (table_at m a b) u (served (table_at m a b) u.name) (served (table_at m a b) u.name)
        (λ s is. served-hidden m b (table_at m a b) u.name s (all a b) is) (λ s is. served-hidden m b (table_at m a b) u.name s (all a b) is)
        (λ s f away h. rises s f u away h) (λ s is. is) (λ is h. h) (λ s is is' h. absurd (none-not (served (table_at m a b) u.name) s is is')))
        e q

    split-on : (q : Place) (ws : List Way) → CanSplit g m q ws → CanSplit g after q ws
    split-on q ws can = record {
      plain = can.plain;
      fit = can.fit;
      made = λ range s f is inside. set-stays m after d p t set f s (can.made range s f is inside);
    }

    fine-on : (q : Place) (x : Table) → IsFine g m q x → IsFine g after q x
    fine-on q x h = record {
      low = h.low;
      points = λ range f s n stands under.
          rises s f n.row ((h.lists stands.ways stands.split).fit.hidden range s stands.shard_is) (h.points range f s n stands under);
      syncs = λ f n stands under. holds-on f q n.row (h.syncs f n stands under);
      lists = λ ws is. split-on q ws (h.lists ws is);
      cursor = h.cursor;
      emptied = h.emptied;
    }

    -- points go on holding
    pub points-on : PointsHold g after
    points-on = set-all (λ e q x. IsFine g after q x) m after d p t set (fine-on p t fine) (λ e q. fine-on q (table_at m e q) (all e q))

    -- where each row that stood was held, each row that stands is
    pub standing-on : ((e : ℕ) (q : Place) (n : Numbered) → Stands (table_at m e q) n → Holds g m e q n.row)
        → (e : ℕ) (q : Place) (n : Numbered) → Stands (table_at after e q) n → Holds g after e q n.row
    standing-on held e q n stands = by (set-cases m after d p t set e q)
      where
        unserved : (x : Table) (o : Option Place) → o ≡ None → Has x.rows n.row → HoldsBy g after x n.row o
        unserved x None is has = has
        unserved x (Some s) is has = cc

        at : Stands (table_at m d p) n ⊎ (served t n.row.name ≡ None) → Stands t n → table_at after d p ≡ t → Holds g after d p n.row
        at (inl old) now is = holds-on d p n.row (held d p n old)
        at (inr none) now is =
            subst (λ (x : Table). HoldsBy g after x n.row (served x n.row.name)) (sym is)
            (unserved t (served t n.row.name) none (stands-has t.rows n now))

        by : (table_at after e q ≡ table_at m e q) ⊎ ((e ≡ d) × (q ≡ p) × (table_at after e q ≡ t)) → Holds g after e q n.row
        by (inl same) = holds-on e q n.row (held e q n (subst (λ (x : Table). Stands x n) same stands))
        by (inr here) =
            let now : Stands t n = subst (λ (x : Table). Stands x n) here.2 stands in
            let is : table_at after d p ≡ t =
            subst (λ (r : Place). table_at after d r ≡ t) here.1 (subst (λ (f : ℕ). table_at after f q ≡ t) here.0 here.2) in
            subst (λ (f : ℕ). Holds g after f q n.row) (sym here.0)
            (subst (λ (r : Place). Holds g after d r n.row) (sym here.1) (at (turns.news n now) now is))
