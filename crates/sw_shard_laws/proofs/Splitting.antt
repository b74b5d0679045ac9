-- A container of one row is split to the end.
use Rattle.std.proofs.Common.{◌≡◌, ℕ, nat_eq, Bool, true, false, cond, ◌&&◌, List, [], ◌∷◌, ◌++◌, unwrap_or}
use Rattle.std.proofs.Common.{zero, suc, Option, None, Some, ◌⊎◌, inl, inr}
use Rattle.std.proofs.Common.{refl, sym, ◌∙◌, ap, subst, arith}
use Rattle.std.specs.List.{Contains, find}
use Rattle.std.specs.Option.{IsSome}
use Rattle.std.specs.Str.{bytes_eq}
use Rattle.std.proofs.lemmas.Bool.{and_parts, eq-eqb, eqb-true}
use Rattle.sw_hashpath.specs.declared.place.Place.{Place}
use Rattle.sw_rows.proofs.Named.{name_itself, same_name}
use Rattle.sw_rows.specs.Rows.{is_named, merged, no_rows}
use Rattle.sw_rows.specs.declared.numbered.Numbered.{Numbered}
use Rattle.sw_rows.specs.declared.row.Row.{Row}
use Rattle.sw_shard_range.specs.Names.{is_hidden}
use Rattle.sw_sync.proofs.Setting.{point-set}
use Rattle.sw_sync.specs.Points.{point_at}
use Rattle.sw_shard_laws.proofs.Running.{runs-on}
use Rattle.sw_shard_laws.proofs.Rows.{merged-has}
use Rattle.sw_shard_laws.proofs.Turning.{set-cases, set-stays}
use Rattle.sw_shard_laws.specs.Changes.{Allows, AreAll, AreClosed, CanAck, CanClose, CanSplit, Change, IsSet}
use Rattle.sw_shard_laws.specs.Changes.{Line, Makes, Runs, Tests, left}
use Rattle.sw_shard_laws.specs.Changes.Change.{Creates, Merges, Splits, Acks, Closes, Empties}
use Rattle.sw_shard_laws.specs.Laws.{CanBeSplit, begun}
use Rattle.sw_shard_laws.specs.Ledger.{Ground, Has, IsUnder, Ledger, Table, Way, fresh, served, shard_in, table_at}

-- ---- one table of a ledger can be set

is_same : Place → Place → Bool
is_same a b = bytes_eq a.account b.account && (bytes_eq a.container b.container && bytes_eq a.hash b.hash)

place-same : (a b : Place) → is_same a b ≡ true → a ≡ b
unfolding is_same
place-same a b is =
    let one = and_parts (bytes_eq a.account b.account) (bytes_eq a.container b.container && bytes_eq a.hash b.hash) is in
    let two = and_parts (bytes_eq a.container b.container) (bytes_eq a.hash b.hash) one.1 in
    let account = same_name a.account b.account one.0 in
    let container = same_name a.container b.container two.0 in
    let hash = same_name a.hash b.hash two.1 in
    λ i. record { account = account i; container = container i; hash = hash i }

place-self : (a : Place) → is_same a a ≡ true
unfolding is_same
place-self a = rw (name_itself a.account, name_itself a.container, name_itself a.hash) refl

set_at : ℕ → Place → Table → Ledger → Ledger
set_at d p t m e q = cond (nat_eq e d && is_same q p) (Some t) (m e q)

set-is : (d : ℕ) (p : Place) (t : Table) (m : Ledger) → IsSet d p t m (set_at d p t m)
unfolding set_at
set-is d p t m = record {
  here = let one : nat_eq d d ≡ true = eq-eqb d d refl in let two = place-self p in rw (one, two) refl;
  each = λ e q. by e q (nat_eq e d && is_same q p) refl;
}
  where
    by : (e : ℕ) (q : Place) (b : Bool) → (nat_eq e d && is_same q p) ≡ b → (cond b (Some t) (m e q) ≡ m e q) ⊎ ((e ≡ d) × (q ≡ p))
    by e q true is = let both = and_parts (nat_eq e d) (is_same q p) is in inr (eqb-true e d both.0, place-same q p both.1)
    by e q false is = inl refl

-- ---- a container and its shard, both at one device

module _ (g : Ground) (d : ℕ) (p s : Place) (plain : is_hidden p ≡ false) (hidden : is_hidden s ≡ true) where
  apart : s ≡ p → ⊥
  apart same = let e : true ≡ false = sym hidden ∙ (ap (λ (x : Place). is_hidden x) same ∙ plain) in cc

  -- what the two have
  record Stage (m : Ledger) (a b : Table) : Type 0 where
    pub own : table_at m d p ≡ a
    pub shards : table_at m d s ≡ b

  abbrev line : Place → Change → Line
  line q change = record { device = d; place = q; change = change }

  stays : (m after : Ledger) (q r : Place) (t : Table) → IsSet d q t m after → (r ≡ q → ⊥) → table_at after d r ≡ table_at m d r
  stays m after q r t set other = by (set-cases m after d q t set d r)
    where
      by : (table_at after d r ≡ table_at m d r) ⊎ ((d ≡ d) × (r ≡ q) × (table_at after d r ≡ t)) → table_at after d r ≡ table_at m d r
      by (inl same) = same
      by (inr here) = absurd (other here.1)

  -- what changes of both lead to
  record Reached (from : Ledger) (a b : Table) : Type 0 where
    pub lines : List Line
    pub m : Ledger
    pub run : Runs g from lines m
    pub stage : Stage m a b
    pub made : IsSome (m d s)

  pushed : (m : Ledger) (lines : List Line) (mid : Ledger) (l : Line) (after : Ledger) → Runs g m lines mid → Makes g mid l after
      → Runs g m (lines ++ l ∷ []) after
  pushed m lines mid l after run makes = runs-on g m lines mid (l ∷ []) after run (after, makes, refl)

  at-own : (from : Ledger) (a b : Table) (r : Reached from a b) (change : Change) → Tests a change → Allows g r.m p a change → Reached from (left a change) b
  at-own from a b r change tested allowed = record {
    lines = r.lines ++ line p change ∷ [];
    m = after;
    run = pushed from r.lines r.m (line p change) after r.run (record {
      tested = subst (λ (x : Table). Tests x change) (sym r.stage.own) tested;
      allowed = subst (λ (x : Table). Allows g r.m p x change) (sym r.stage.own) allowed;
      leaves = subst (λ (x : Table). IsSet d p (left x change) r.m after) (sym r.stage.own) set;
    });
    stage = record {
      own = ap (λ (o : Option Table). unwrap_or o fresh) set.here;
      shards = stays r.m after p s (left a change) set apart ∙ r.stage.shards;
    };
    made = set-stays r.m after d p (left a change) set d s r.made;
  }
    where
      after : Ledger
      after = set_at d p (left a change) r.m

      set : IsSet d p (left a change) r.m after
      set = set-is d p (left a change) r.m

  at-shard : (from : Ledger) (a b : Table) (r : Reached from a b) (change : Change) → Tests b change → Allows g r.m s b change → Reached from a (left b change)
  at-shard from a b r change tested allowed = record {
    lines = r.lines ++ line s change ∷ [];
    m = after;
    run = pushed from r.lines r.m (line s change) after r.run (record {
      tested = subst (λ (x : Table). Tests x change) (sym r.stage.shards) tested;
      allowed = subst (λ (x : Table). Allows g r.m s x change) (sym r.stage.shards) allowed;
      leaves = subst (λ (x : Table). IsSet d s (left x change) r.m after) (sym r.stage.shards) set;
    });
    stage = record {
      own = stays r.m after s p (left b change) set (λ same. apart (sym same)) ∙ r.stage.own;
      shards = ap (λ (o : Option Table). unwrap_or o fresh) set.here;
    };
    made = set-stays r.m after d s (left b change) set d s r.made;
  }
    where
      after : Ledger
      after = set_at d s (left b change) r.m

      set : IsSet d s (left b change) r.m after
      set = set-is d s (left b change) r.m

  -- the shard is created
  first : Reached begun fresh fresh
  first = record {
    lines = line s Creates ∷ [];
    m = after;
    run = (after, record { tested = tt; allowed = tt; leaves = set }, refl);
    stage = record {
      own = stays begun after s p fresh set (λ same. apart (sym same));
      shards = ap (λ (o : Option Table). unwrap_or o fresh) set.here;
    };
    made = subst (λ (o : Option Table). IsSome o) (sym set.here) refl;
  }
    where
      after : Ledger
      after = set_at d s fresh begun

      set : IsSet d s fresh begun after
      set = set-is d s fresh begun

  module _ (row : Row) (ring : g.ring s ≡ d ∷ []) where
    abbrev ways : List Way
    ways = record { upper = []; shard = s } ∷ []

    only : (f : ℕ) → Contains (d ∷ []) f → f ≡ d
    only f (zero, low, is) = sym is
    only f (suc k, low, is) = absurd (omega (arith, low))

    -- what has the row; what is split; and what has its point
    abbrev merges : Table
    merges = left fresh (Merges row)

    abbrev split : Table
    split = left merges (Splits ways)

    abbrev acked : Table
    acked = left split (Acks 0 d 1)

    abbrev closed : Table
    closed = left acked (Closes (d ∷ []))

    -- the row alone stands
    one-row : (n : Numbered) → find (is_named n.row.name) (merged no_rows row).list ≡ Some n → (n.rowid ≡ 1) × (n.row ≡ row)
    one-row n is = by (bytes_eq row.name n.row.name) is
      where
        first : Numbered
        first = record { rowid = 1; row = row }

        by : (b : Bool) → cond b (Some first) None ≡ Some n → (n.rowid ≡ 1) × (n.row ≡ row)
        by true is = let same : first ≡ n = cc in (ap (λ (x : Numbered). x.rowid) (sym same), ap (λ (x : Numbered). x.row) (sym same))
        by false is = cc

    one-shard : (xs : List Way) → Some ways ≡ Some xs → (i : ℕ) (x : Place) → shard_in xs i ≡ Some x → x ≡ s
    one-shard xs same i x is =
        let here : ways ≡ xs = cc in by i (subst (λ (ws : List Way). shard_in ws i ≡ Some x) (sym here) is)
      where
        by : (i : ℕ) → shard_in ways i ≡ Some x → x ≡ s
        by zero is = cc
        by (suc i) is = cc

    can-split : (m : Ledger) → IsSome (m d s) → CanSplit g m p ways
    can-split m some = record {
      plain = plain;
      fit = record {
        within = λ name. omega arith;
        hidden = λ i x is. subst (λ (q : Place). is_hidden q ≡ true) (sym (one-shard ways refl i x is)) hidden;
      };
      made = λ i x f is inside.
          let at = one-shard ways refl i x is in
          let kept : Contains (d ∷ []) f = subst (λ (fs : List ℕ). Contains fs f) ring (subst (λ (q : Place). Contains (g.ring q) f) at inside) in
          subst (λ (q : Place). IsSome (m f q)) (sym at) (subst (λ (e : ℕ). IsSome (m e s)) (sym (only f kept)) some);
    }

    can-ack : (m : Ledger) → table_at m d s ≡ merges → CanAck m split 0 d 1
    can-ack m there = record {
      given_out = omega arith;
      acked = λ x n stands low.
          let at = one-shard stands.ways stands.split 0 x stands.shard_is in
          let is = one-row n stands.stands in
          let has : Has (table_at m d s).rows row = subst (λ (t : Table). Has t.rows row) (sym there) (merged-has no_rows row) in
          inr (subst (λ (q : Place). Has (table_at m d q).rows n.row) (sym at) (subst (λ (r : Row). Has (table_at m d s).rows r) (sym is.1) has));
    }

    can-close : CanClose acked (d ∷ [])
    can-close = record {
      ways = ways;
      split = refl;
      is_open = omega arith;
      acked = λ f inside x n stands.
          let is = one-row n stands.stands in
          let number = is.0 in
          subst (λ (e : ℕ). IsUnder (point_at acked.points 0 e) n.rowid) (sym (only f inside)) (1, here, omega (arith, number));
    }
      where
        here : point_at acked.points 0 d ≡ Some 1
        here = let one = point-set [] 0 d 1 in one

    are-all : AreAll g acked (d ∷ [])
    are-all xs x same is f inside =
        let at = one-shard xs same 0 x is in
        subst (λ (fs : List ℕ). Contains fs f) ring (subst (λ (q : Place). Contains (g.ring q) f) at inside)

    are-closed : AreClosed closed
    are-closed = record { ways = ways; split = refl; closed = omega arith }

    -- the container has the row
    whole : Reached begun merges fresh
    whole =
        let one = at-own begun fresh fresh first Creates tt tt in
        at-own begun fresh fresh one (Merges row) refl tt

    begins : Reached whole.m merges fresh
    begins = record { lines = []; m = whole.m; run = refl; stage = whole.stage; made = whole.made }

    listed : Reached whole.m split fresh
    listed = at-own whole.m merges fresh begins (Splits ways) refl (can-split begins.m begins.made)

    sent : Reached whole.m split merges
    sent = at-shard whole.m split fresh listed (Merges row) refl tt

    raises : Reached whole.m acked merges
    raises = at-own whole.m split merges sent (Acks 0 d 1) refl (can-ack sent.m sent.stage.shards)

    ends : Reached whole.m (left closed Empties) merges
    ends =
        let one = at-own whole.m acked merges raises (Closes (d ∷ [])) can-close are-all in
        at-own whole.m closed merges one Empties are-closed tt

    has : (f : ℕ) → Contains (g.ring s) f → Has (table_at ends.m f s).rows row
    has f inside =
        let kept : Contains (d ∷ []) f = subst (λ (fs : List ℕ). Contains fs f) ring inside in
        subst (λ (e : ℕ). Has (table_at ends.m e s).rows row) (sym (only f kept))
        (subst (λ (t : Table). Has t.rows row) (sym ends.stage.shards) (merged-has no_rows row))

    had : Has (table_at whole.m d p).rows row
    had = subst (λ (t : Table). Has t.rows row) (sym whole.stage.own) (merged-has no_rows row)

    gone : (table_at ends.m d p).emptied ≡ true
    gone = subst (λ (t : Table). t.emptied ≡ true) (sym ends.stage.own) refl

    serves : served (table_at ends.m d p) row.name ≡ Some s
    serves = subst (λ (t : Table). served t row.name ≡ Some s) (sym ends.stage.own) refl

pub can-be-split : CanBeSplit
can-be-split g d p s row ring plain hidden =
    let whole_m = whole g d p s plain hidden row ring in
    let ends_m = ends g d p s plain hidden row ring in (
      whole_m.lines,
      whole_m.m,
      whole_m.run,
      had g d p s plain hidden row ring,
      ends_m.lines,
      ends_m.m,
      ends_m.run,
      gone g d p s plain hidden row ring,
      serves g d p s plain hidden row ring,
      has g d p s plain hidden row ring,
    )
