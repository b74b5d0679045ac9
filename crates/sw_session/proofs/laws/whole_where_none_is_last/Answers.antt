use Rattle.sw_session.proofs.Ends.{whole}
use Rattle.sw_session.proofs.laws.whole_where_none_is_last.Goals as goal

pub returns : goal.returns
returns g c = whole g.V.Server.serves g.V.Server.halts
