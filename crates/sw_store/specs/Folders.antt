-- Where the host keeps the files of a lock, of objects and of containers: a stripe of a device. (This project's own.)
use Rattle.std.specs.Prelude.{ℕ, ◌/◌, ◌%◌, ◌++◌, List, None, codes}
use Rattle.std.specs.Fmt.{decimal}
use Rattle.sw_stores.specs.Telling.{Telling}

-- the folder of the lock below a base: the device's number, and below that the stripe's, which is below 100, in two digits
abbrev pub lock_folder : List ℕ → ℕ → ℕ → List ℕ
lock_folder base device stripe = base ++ codes "/" ++ decimal device ++ codes "/" ++ decimal (stripe / 10) ++ decimal (stripe % 10)

-- what the host tells of a ring beforehand: nothing
abbrev pub untold : Telling
untold = None
