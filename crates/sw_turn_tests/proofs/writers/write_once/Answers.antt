use Rattle.std.proofs.Common.{ap, ◌∙◌, ℕ}
use Rattle.sw_turn.specs.Known.{first_of, times, taken_in}
use Rattle.sw_turn.specs.declared.booked.Book.{Book}
use Rattle.sw_turn_tests.specs.Made.{made}
use Rattle.sw_turn_tests.proofs.Making.{made_once}
use Rattle.sw_turn_tests.proofs.writers.write_once.Goals as goal

pub returns-clause-made : goal.returns-clause-made
returns-clause-made g c =
    let old = c.args.pass.now.me.0 in
    let mid = c.enter-guard.new.pass.me.0 in
    let written = c.write-wrote.new.self in
    let same = ap (λ m. m.0.numbers) c.enter-guard.ensures.turn.1 in
    let b : Book ℕ (Unit {0}) = record { entries = written.items.items; opening = tt; faults = 0 } in
    ap (λ m. made m.0) c.leave.ensures.seen
    ∙ (ap (λ z. times z (taken_in mid.known z written b).makers) (ap first_of same)
    ∙ made_once old.seats (first_of old.numbers) old.numbers old.known mid.known _ b written c.args.item c.write-wrote.result
    c.enter-guard.ensures.grows (ap (λ m. m.0.numbers) c.requires.idle) c.enter-guard.ensures.value c.write-wrote.ensures)
