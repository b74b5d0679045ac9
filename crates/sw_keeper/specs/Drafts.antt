-- What a batch makes of tables, taken together. (This project's own.)
use Rattle.std.specs.Prelude.{◌≤◌, All, Bool, if◌then◌else◌, [], unwrap_or}
use Rattle.std.specs.Option.{option_or}
use Rattle.sw_keeper.specs.declared.draft.Draft.{Draft}
use Rattle.sw_keeper.specs.declared.tables.Tables.{Tables}
use Rattle.sw_rows.specs.Exchanging.{exchanged}
use Rattle.sw_rows.specs.Rows.{IsListed, IsRising, Listed}

-- the rows that are left where all go, or none: before single ones go and come
abbrev pub spared_of : Bool → Listed → Listed
spared_of clears l = record { list = if clears then [] else l.list; top = l.top }

abbrev pub spared : Tables → Draft → Listed
spared t d = spared_of d.clears t.rows

-- the tables that a draft makes of tables
abbrev pub drafted : Tables → Draft → Tables
drafted t d = record {
  put_time = d.put_time;
  delete_time = d.delete_time;
  rows = exchanged (spared t d) d.numbers.items d.rows.items d.top;
  ranges = option_or d.ranges t.ranges;
  cursor = d.cursor;
  points = unwrap_or d.points t.points;
  syncs = unwrap_or d.syncs t.syncs;
  emptied = d.emptied;
}

-- a draft that may be made of tables: the numbers of the rows that go were given out before, those of the rows that come are
-- above them and rise, and what it makes are rows of a container
pub record IsDraft (t : Tables) (d : Draft) : Type 0 where
  pub given : All (λ rowid. rowid ≤ t.rows.top) d.numbers.items
  pub rising : IsRising t.rows.top d.rows.items
  pub above : t.rows.top ≤ d.top
  pub before : IsListed (spared t d)
  pub listed : IsListed (exchanged (spared t d) d.numbers.items d.rows.items d.top)
