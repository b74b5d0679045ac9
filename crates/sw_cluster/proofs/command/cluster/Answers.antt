use Rattle.std.proofs.Common.{◌≡◌, ◌∙◌, inr, map, refl, sym}
use Rattle.std.specs.String.{string_bytes}
use Rattle.sw_words.proofs.Serving.{one_reading}
use Rattle.sw_words.specs.Serve.{IsServe}
use Rattle.sw_cluster.proofs.ServeWords.{serve-not-run, serve-not-where}
use Rattle.sw_cluster.proofs.command.cluster.Goals as goal

-- the ring that was opened is the one that the words name
pub returns-then-is_run-clause-run : goal.returns-then-is_run-clause-run
returns-then-is_run-clause-run g c = λ _. rw (← c.ring_of.ensures) c.run.ensures.ends

pub returns-then-is_run-clause-served : goal.returns-then-is_run-clause-served
returns-then-is_run-clause-served g c options served = absurd (serve-not-run _ options served (sym c.is_run.ensures ∙ c.if-is_run.true))

pub returns-then-is_where-clause-served : goal.returns-then-is_where-clause-served
returns-then-is_where-clause-served g c options served = absurd (serve-not-where _ options served (sym c.is_where.ensures ∙ c.if-is_where.true))

-- words of `serve` ask for one thing
pub returns-in-Ok-Some-clause-served : goal.returns-in-Ok-Some-clause-served
returns-in-Ok-Some-clause-served g c options served =
    let mine : IsServe (map string_bytes c.args.words.now) c.in-Ok-Some.options = rw c.in-Ok-Some.field-0-is at c.in-Ok-Some.ensures.asked in
    let same : options ≡ c.in-Ok-Some.options = one_reading _ options c.in-Ok-Some.options served.are_words mine.are_words in
    rw same (refl, refl, inr (rw (← c.ring_of-in-Ok-Some.ensures) c.serve.ensures.ends))

pub returns-in-Ok-None-clause-served : goal.returns-in-Ok-None-clause-served
returns-in-Ok-None-clause-served g c options served =
    let none = rw c.in-Ok-None.field-0-is at c.in-Ok-None.ensures.refused in
    absurd (none options served)
