use Rattle.std.proofs.Common.{rules, ap, is_lt}
use Rattle.std.proofs.lemmas.List.Sorted.{answers_always, ranks_by}
use Rattle.sw_pending.specs.Records.{key_of}
use Rattle.sw_updater.proofs.Keys.{keys-total}
use Rattle.sw_updater.specs.Reading.{comes_before}
use Rattle.sw_updater.proofs.ordering.in_order.Goals as goal

pub returns : goal.returns
returns c = record {
  same = c.sort_unstable_by.ensures.permutation;
  sorted = c.sort_unstable_by.ensures.sorted comes_before (ranks_by keys-total key_of)
      (answers_always _ _ _ (λ f a r f' called. ap is_lt (search rules)));
}
