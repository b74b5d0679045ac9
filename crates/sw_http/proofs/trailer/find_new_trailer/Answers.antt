use Rattle.std.proofs.Common.{sym, ◌∙◌}
use Rattle.std.proofs.lemmas.List.{take_rest}
use Rattle.sw_http.proofs.TrailerLemmas.{not_yet}
use Rattle.sw_http.proofs.trailer.find_new_trailer.Goals as goal

pub returns-else-contains-clause-look : goal.returns-else-contains-clause-look
returns-else-contains-clause-look c =
    let no_feed = rw take_rest at c.contains.ensures.value in
    not_yet c.args.bytes.now c.args.seen c.requires.none_seen (sym no_feed ∙ c.if-contains.false)
