-- Which calls of a volume or keeper in memory are to fail. (This project's own.)
use Rattle.std.specs.Prelude.{ℕ, List, Bool, Option, nat_eq, find}
use Rattle.std.specs.Option.{option_map}
use Rattle.sw_outside.specs.declared.failing_call.FailingCall.{FailingCall}

-- whether a call's failure leaves its change made, where the call of this number is to fail
abbrev pub failure_at : List FailingCall → ℕ → Option Bool
failure_at failing call = option_map (λ f. f.made) (find (λ f. nat_eq f.call call) failing)
