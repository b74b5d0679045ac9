use Rattle.std.proofs.Common.{refl, sym}
use Rattle.sw_objdir.proofs.Looking.{dir-moved, looks-moved, values-same}
use Rattle.sw_objdir.specs.Directories.{Kept}
use Rattle.sw_objdir.proofs.obj_dir.ObjDir.add_files.Goals as goal

pub invariant_of-self : goal.invariant_of-self
invariant_of-self g c =
    let v = g.V.Volume in let i = c.self.inside in
    let k : Kept _ =
    record { volume = i.volume; began = i.opening.value; secrets = i.secrets; power = i.power; journal = i.journal } in
    let below = c.add_paths_below in
    dir-moved v.tells v.holds v.faults k below.new.volume c.self.invariant below.ensures.told below.ensures.same

pub returns-clause-looks : goal.returns-clause-looks
returns-clause-looks g c =
    let v = g.V.Volume in let i = c.self.inside in
    let k : Kept _ =
    record { volume = i.volume; began = i.opening.value; secrets = i.secrets; power = i.power; journal = i.journal } in
    let below = c.add_paths_below in
    rw (sym c.self.view_is)
    (looks-moved v.tells v.holds v.faults k below.new.volume below.ensures.told below.ensures.same below.ensures.cause.later)

pub returns-clause-values : goal.returns-clause-values
returns-clause-values g c hash =
    let v = g.V.Volume in let i = c.self.inside in
    let k : Kept _ =
    record { volume = i.volume; began = i.opening.value; secrets = i.secrets; power = i.power; journal = i.journal } in
    let below = c.add_paths_below in
    rw (sym c.self.view_is)
    (values-same v.tells v.holds v.faults k (record k { volume = below.new.volume }) c.self.invariant
    (record { began = refl; secrets = refl; power = refl; told = below.ensures.told }) below.ensures.same hash)

pub returns-clause-paths : goal.returns-clause-paths
returns-clause-paths g c = rw (sym c.self.view_is) c.add_paths_below.ensures.adds
