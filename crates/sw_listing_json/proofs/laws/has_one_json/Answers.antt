use Rattle.sw_listing_json.proofs.Unique.{has-one-json}
use Rattle.sw_listing_json.proofs.laws.has_one_json.Goals as goal

pub returns : goal.returns
returns c = has-one-json
