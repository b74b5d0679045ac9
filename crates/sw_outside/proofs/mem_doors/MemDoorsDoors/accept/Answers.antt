-- The connection that was accepted is the next one of those that come.
use Rattle.std.proofs.Common.{◌≡◌, ◌+◌, ◌++◌, ◌∷◌, [], ◌≤◌, ◌∙◌, ℕ, length, Some, sym, ap, subst}
use Rattle.sw_outside.proofs.Accepting.{accepts-count, accepts-more}
use Rattle.sw_outside.specs.Doors.{accepts_of, giving, MemDoorsState, next_of, store_of, supply_of, taking}
use Rattle.sw_outside.specs.Store.{Store}
use Rattle.sw_outside.specs.Supply.{Supply}
use Rattle.sw_outside.proofs.mem_doors.MemDoorsDoors.accept.Goals as goal

pub returns-in_ok-promise-in-Some-clause-accepted :
    goal.returns-in_ok-promise-in-Some-clause-accepted
returns-in_ok-promise-in-Some-clause-accepted c =
    let connection = c.in-Some.connection.now in
    let ends = c.in_ok-ends-in-Some.ends in
    let Comes : MemDoorsState → Type 0 = λ d. next_of d ≡ Some connection in
    let Grows : MemDoorsState → Type 0 = λ d. accepts_of (record d { accepted = d.accepted + 1 }) ≡ accepts_of c.args.self.now
    ++ record { number = length (accepts_of c.args.self.now) + 1; source = giving ends.0; sink = taking ends.1 } ∷ [] in
    let Within : MemDoorsState → Type 0 = λ d. d.accepted ≤ length d.connections in
    let FromHere : ℕ → Type 0 = λ n. ends.0 ≡ supply_of (n + 1) connection in
    let ToHere : ℕ → Type 0 = λ n. ends.1 ≡ store_of (n + 1) connection in
    let accepted = λ (d : MemDoorsState). d.accepted in
    let same : c.promised.result ≡ c.args.self.now.accepted = c.promised.ensures ∙ ap accepted c.self.view_is ∙ ap accepted c.begin.ensures.after in
    let next : Comes c.args.self.now = subst Comes c.begin.ensures.after (sym c.in-Some.ensures) in
    let grows = accepts-more c.args.self.now connection ends (subst Within c.begin.ensures.after (subst Within c.self.view_is c.self.invariant)) next
    (subst FromHere same c.in_ok-ends-in-Some.ensures.0) (subst ToHere same c.in_ok-ends-in-Some.ensures.1) in
    rw c.in_ok-promise-in-Some.ensures.ok (subst Grows (sym c.self.view_is) (subst Grows (sym c.begin.ensures.after) grows))

pub returns-in_ok-promise-in-Some-clause-numbers : goal.returns-in_ok-promise-in-Some-clause-numbers
returns-in_ok-promise-in-Some-clause-numbers c =
    let Within : MemDoorsState → Type 0 = λ d. d.accepted ≤ length d.connections in
    let accepted = λ (d : MemDoorsState). d.accepted in
    let within : Within c.args.self.now = subst Within c.begin.ensures.after (subst Within c.self.view_is c.self.invariant) in
    let same : c.promised.result ≡ length (accepts_of c.args.self.now) =
    c.promised.ensures ∙ ap accepted c.self.view_is ∙ ap accepted c.begin.ensures.after ∙ sym (accepts-count c.args.self.now within) in
    let next : c.promised.result + 1 ≡ length (accepts_of c.args.self.now) + 1 = ap (λ (n : ℕ). n + 1) same in
    (ap (λ (s : Supply). s.number) c.in_ok-ends-in-Some.ensures.0 ∙ next, ap (λ (s : Store). s.number) c.in_ok-ends-in-Some.ensures.1 ∙ next)
