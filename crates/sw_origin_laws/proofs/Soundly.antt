-- An honest run of plain, named and rooted lines is one of which the law speaks.
use Rattle.std.proofs.Common.{[], ◌∷◌, ◌++◌}
use Rattle.sw_origin_laws.specs.Laws.{HonestRunsAreRooted}

pub honest-rooted : HonestRunsAreRooted
honest-rooted c root done m [] after run honest plain rooted = (run, tt)
honest-rooted c root done m (line ∷ lines) after run honest plain rooted =
    let rest = honest-rooted c root (done ++ line ∷ []) run.0 lines after run.2 honest.1 plain.2 rooted.1 in
    ((run.0, run.1, honest.0, plain.0, plain.1, rest.0), (rooted.0, rest.1))
