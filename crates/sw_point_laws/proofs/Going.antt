-- What goes on as a ledger does.
use Rattle.std.proofs.Common.{ℕ, List}
use Rattle.std.specs.Option.{IsSome}
use Rattle.sw_hashpath.specs.declared.place.Place.{Place}
use Rattle.sw_rows.specs.declared.row.Row.{Row}
use Rattle.sw_shard_laws.proofs.Going.{later-refl, later-trans, tables-go-on}
use Rattle.sw_shard_laws.proofs.Running.{held-stays}
use Rattle.sw_shard_laws.specs.Changes.{Line, Runs}
use Rattle.sw_shard_laws.specs.Laws.{IsLater}
use Rattle.sw_shard_laws.specs.Ledger.{Ground, Holds, Ledger, table_at}
use Rattle.sw_shard_laws.specs.Sound.{PointsHold}

-- each table is later than it was, what was created stays, and so does what replicas hold
pub record Goes (g : Ground) (m after : Ledger) : Type 0 where
  pub later : (device : ℕ) (place : Place) → IsLater (table_at m device place) (table_at after device place)
  pub made : (device : ℕ) (place : Place) → IsSome (m device place) → IsSome (after device place)
  pub holds : (device : ℕ) (place : Place) (row : Row) → Holds g m device place row → Holds g after device place row

module _ (g : Ground) where
  pub goes-nowhere : (m : Ledger) → Goes g m m
  goes-nowhere m = record {
    later = λ device place. later-refl (table_at m device place);
    made = λ device place some. some;
    holds = λ device place row holds. holds;
  }

  pub goes-on : (a b c : Ledger) → Goes g a b → Goes g b c → Goes g a c
  goes-on a b c first next = record {
    later = λ device place.
        later-trans (table_at a device place) (table_at b device place) (table_at c device place) (first.later device place) (next.later device place);
    made = λ device place some. next.made device place (first.made device place some);
    holds = λ device place row holds. next.holds device place row (first.holds device place row holds);
  }

  pub goes-by : (m : Ledger) (lines : List Line) (after : Ledger) → Runs g m lines after → PointsHold g m → Goes g m after
  goes-by m lines after run hold = record {
    later = λ device place. (tables-go-on g m lines after run device place).0;
    made = λ device place. (tables-go-on g m lines after run device place).1;
    holds = held-stays g m lines after run hold;
  }
