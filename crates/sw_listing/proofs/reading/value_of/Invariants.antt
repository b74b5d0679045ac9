use Rattle.std.proofs.Common.{◌≡◌, []}
use Rattle.form_urlencoded.specs.Form.{raw_pairs}
use Rattle.form_urlencoded.specs.Parse.{raw_pairs_left}
use Rattle.sw_listing.specs.Queries.{value_from, value_of}
use Rattle.sw_listing.proofs.reading.value_of.Given as goal

-- the value so far, and the pairs that are left
abbrev pub invariant-loop-pair_name : goal.invariant-loop-pair_name
invariant-loop-pair_name l = record {
  value : value_from l.name l.value (raw_pairs_left l.pair_name-iterator) ≡ value_of l.name l.query;
  none : raw_pairs l.query ≡ [] → raw_pairs_left l.pair_name-iterator ≡ [];
}
