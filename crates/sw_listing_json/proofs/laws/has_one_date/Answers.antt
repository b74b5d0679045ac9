use Rattle.sw_listing_json.proofs.Unique.{has-one-date}
use Rattle.sw_listing_json.proofs.laws.has_one_date.Goals as goal

pub returns : goal.returns
returns c = has-one-date
