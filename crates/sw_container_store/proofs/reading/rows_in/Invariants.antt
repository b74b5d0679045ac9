-- The rows are those of full pages, each of which was asked behind the last number of the page before it, since the greatest number was asked; that is the
-- same.
use Rattle.std.proofs.Common.{◌≡◌, pos, map, List}
use Rattle.std.specs.List.{flat_map}
use Rattle.sqlite_value.specs.Order.{Row as SqlRow}
use Rattle.sw_container_store.specs.Telling.{ShowsPages}
use Rattle.sw_container_store.specs.Values.{numbered_values}
use Rattle.sw_container_store.proofs.reading.rows_in.Given as goal

abbrev pub invariant-loop : goal.invariant-loop
invariant-loop g l = record {
  key : g.D.Database.key l.database ≡ g.D.Database.key l.initial.database;
  pages : List (List SqlRow);
  shown : ShowsPages g.D.Database.shows pages (pos 0) l.after l.initial.database l.database;
  all : map numbered_values l.rows.list ≡ flat_map (λ page. page) pages;
  top : l.rows.top ≡ l.initial.rows.top;
}
