-- An honest run of plain and named lines is one of which the laws speak.
use Rattle.std.proofs.Common.{[], ◌∷◌, ◌++◌}
use Rattle.sw_listing_laws.specs.Laws.{HonestRunsAreSound}

pub honest-sound : HonestRunsAreSound
honest-sound c done m [] after run honest plain = run
honest-sound c done m (line ∷ lines) after run honest plain =
    (run.0, run.1, honest.0, plain.0, plain.1, honest-sound c (done ++ line ∷ []) run.0 lines after run.2 honest.1 plain.2)
