use Rattle.std.proofs.Common.{rules, tests, ◌∙◌}
use Rattle.std.proofs.lemmas.Iterator.{YieldsList-from_slice}
use Rattle.std.proofs.lemmas.Iterator.Consumers.{count_from_yields_List, YieldsList-from_filter}
use Rattle.std.proofs.lemmas.List.Sums.{length-filter}
use Rattle.sw_container_steps.specs.Entries.{is_merge}
use Rattle.sw_container_steps.proofs.counting.rows_in.Goals as goal

pub returns : goal.returns
returns c =
    count_from_yields_List c.filter.result c.count.result c.count.ensures.ran
    (YieldsList-from_filter _ is_merge (YieldsList-from_slice c.args.entries.now cc) c.filter.ensures.closure (λ x b q k. search (rules, tests)))
    ∙ length-filter is_merge c.args.entries.now
