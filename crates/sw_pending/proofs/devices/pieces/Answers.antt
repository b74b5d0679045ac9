use Rattle.std.proofs.Common.{rules, tests}
use Rattle.std.proofs.lemmas.Iterator.Consumers.{map_from_collect}
use Rattle.std.proofs.lemmas.Iterator.Splits.{YieldsList-from_slice_split}
use Rattle.sw_pending.specs.Reading.{is_comma}
use Rattle.sw_pending.proofs.devices.pieces.Goals as goal

pub returns : goal.returns
returns c =
    let split = c.split.ensures in
    let all = map_from_collect _ c.collect.ensures.ran
    (YieldsList-from_slice_split _ is_comma c.args.text.now split.rest split.done split.closure (λ x r q k. search (rules, tests))) in
    rw c.in_ok-collect.was at all
