use Rattle.sw_volume.specs.Tree.{contents}
use Rattle.sw_hashdir.proofs.Walking.{listed_below}
use Rattle.sw_hashdir.proofs.walk.paths_below.Goals as goal

pub returns-clause-paths : goal.returns-clause-paths
returns-clause-paths g c = λ told.
    listed_below (contents (g.V.Volume.holds c.args.volume.now)) c.new-found.result c.add_paths_below.new.found c.in_ok-into_list.field-0 c.new-found.ensures
    c.in_ok-into_list.ensures.all c.in_ok-into_list.ensures.ordered (c.in_ok-add_paths_below.ensures.adds told)
