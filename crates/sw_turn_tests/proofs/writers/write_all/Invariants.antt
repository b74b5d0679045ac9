use Rattle.std.proofs.Common.{◌≡◌, ◌≤◌, ◌+◌, [], ◌∷◌}
use Rattle.sw_turn.specs.Known.{first_of}
use Rattle.sw_turn.specs.Rule.{idle}
use Rattle.sw_turn_tests.specs.Made.{made}
use Rattle.sw_turn_tests.proofs.writers.write_all.Given as goal

abbrev pub invariant-loop-turn : goal.invariant-loop-turn
invariant-loop-turn g l =
    (l.pass.table_id ≡ l.lock.board.shared.table_id)
    × (l.pass.me ≡ (idle l.pass.me.0.known l.initial.pass.me.0.seats (first_of l.initial.pass.me.0.numbers ∷ []), []))
    × (made l.pass.me.0 ≡ made l.initial.pass.me.0 + l.wrote)
    × (l.wrote ≤ l.turn)
