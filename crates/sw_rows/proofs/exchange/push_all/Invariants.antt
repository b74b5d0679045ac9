-- Behind the rows that stood are those that came, and the log leads back.
use Rattle.std.proofs.Common.{◌≡◌, ◌++◌, ◌+◌, ◌≤◌, length, vec_len, vec_capacity}
use Rattle.std.specs.Vec.Iter.{into_iter_items}
use Rattle.sw_rows.specs.Exchanging.{IsLog}
use Rattle.sw_rows.proofs.exchange.push_all.Given as goal

abbrev pub invariant-loop-numbered : goal.invariant-loop-numbered
invariant-loop-numbered g l = record {
  whole : l.numbers ++ into_iter_items l.numbered-iterator ≡ g.behind.list ++ g.behind.rows;
  log : IsLog g.behind.list l.log.items l.numbers;
  room : vec_len l.log + length (into_iter_items l.numbered-iterator) ≤ vec_capacity l.log;
}

abbrev pub ghost-undo : goal.ghost-undo
ghost-undo g a = g.behind.list
