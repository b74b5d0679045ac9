-- What replicas hold by their tables.
use Rattle.std.proofs.Common.{◌≡◌, ℕ, true, List, Option, None, Some, refl, sym, ◌∙◌, subst, true≢false}
use Rattle.sw_hashpath.specs.declared.place.Place.{Place}
use Rattle.sw_rows.specs.declared.row.Row.{Row}
use Rattle.sw_shard_laws.proofs.Serving.{served-at}
use Rattle.sw_shard_laws.specs.Ledger.{Ground, Has, Holds, HoldsBy, Ledger, Table, Way, index_in, served, served_in, table_at}
use Rattle.sw_shard_laws.specs.Sound.{IsFine, PointsHold}
use Rattle.sw_shard_range.specs.Names.{is_hidden}

-- a row that is had is held, where its name isn't left to a shard
pub has-holds : (g : Ground) (l : Ledger) (device : ℕ) (place : Place) (row : Row) → served (table_at l device place) row.name ≡ None
    → Has (table_at l device place).rows row → Holds g l device place row
has-holds g l device place row none has = subst (λ (o : Option Place). HoldsBy g l (table_at l device place) row o) (sym none) has

module _ (g : Ground) (l : Ledger) (hold : PointsHold g l) (device : ℕ) (place : Place) where
  abbrev t : Table
  t = table_at l device place

  fine : IsFine g l place t
  fine = hold device place

  -- a name is left to a hidden container
  pub served-hidden : (name : List ℕ) (shard : Place) → served t name ≡ Some shard → is_hidden shard ≡ true
  served-hidden name shard is = by t.ways refl is
    where
      by : (o : Option (List Way)) → t.ways ≡ o → served_in o t.cursor name ≡ Some shard → is_hidden shard ≡ true
      by None split is = cc
      by (Some ways) split is = (fine.lists ways split).fit.hidden (index_in ways name) shard (served-at ways t.cursor name shard is).0

  -- a hidden container has what it holds
  pub hidden-has : (row : Row) → is_hidden place ≡ true → Holds g l device place row → Has t.rows row
  hidden-has row hidden holds = by t.ways refl holds
    where
      by : (w : Option (List Way)) → t.ways ≡ w → HoldsBy g l t row (served_in w t.cursor row.name) → Has t.rows row
      by None split holds = holds
      by (Some ways) split holds = absurd (true≢false (sym hidden ∙ (fine.lists ways split).plain))
