use Rattle.sw_hashdir.proofs.Walking.{insert_adds}
use Rattle.sw_hashdir.proofs.paths.Paths.add.Goals as goal

pub returns : goal.returns
returns c = rw (← c.self.view_is, c.in_ok-insert.ensures.keys) (insert_adds c.args.path c.self.inside.set.keys)
