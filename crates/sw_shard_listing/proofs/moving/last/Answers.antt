use Rattle.std.proofs.Common.{◌∙◌}
use Rattle.sw_shard_listing.proofs.Lasts.{last-get}
use Rattle.sw_shard_listing.proofs.moving.last.Goals as goal

pub returns : goal.returns
returns c = c.last.ensures.value ∙ last-get c.args.entries.now
