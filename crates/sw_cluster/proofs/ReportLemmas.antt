-- What a put of a status's line leaves on the error sink.
use Rattle.std.proofs.Common.{◌≡◌, ℕ, List, Result, Ok, Err, OnOk, OnErr, inl, inr}
use Rattle.std.specs.Io.KnownBytes.{Appends}
use Rattle.sw_outside.specs.Counts.{raised}
use Rattle.sw_outside.specs.Faults.{HasCause}
use Rattle.sw_outside.specs.Taken.{AppendsPart}
use Rattle.sw_cluster.specs.Report.{PutsLine}
use Rattle.sw_cluster.specs.Told.{Output}

-- the line was put, whatever the sink answered
pub line_put : {T E : Type 0} (result : Result T E) (errors : Output) (line : List ℕ)
    → OnOk result (Appends errors.before errors.now line) → OnErr result (AppendsPart errors.before errors.now line)
    → HasCause errors.faults errors.faults_now result → errors.calls_now ≡ raised errors.calls → PutsLine errors line
line_put (Ok _) errors line all part cause once = record { put = inl (all, cause.kept); once = once }
line_put (Err _) errors line all part cause once = record { put = inr (part, cause.once); once = once }
