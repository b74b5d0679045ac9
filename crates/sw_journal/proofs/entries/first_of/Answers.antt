use Rattle.std.proofs.Common.{◌∙◌, sym, ap}
use Rattle.std.proofs.lemmas.List.{take_all}
use Rattle.std.specs.List.{filter}
use Rattle.sw_journal.specs.Entries.{is_write_of}
use Rattle.sw_journal.proofs.Finding.{is-first, none-next, none-written}
use Rattle.sw_journal.proofs.entries.first_of.Goals as goal

pub loop-i-preserved : goal.loop-i-preserved
loop-i-preserved c =
    none-next (is_write_of c.args.hash.now) c.args.entries.now c.loop-i.i c.index-entries-i.result c.loop-i-test.true c.loop-i.invariant
    (ap (is_write_of c.args.hash.now) (sym c.index-entries-i.is) ∙ (sym c.is_of.ensures ∙ c.if-is_of.false))

pub returns-then-is_of-clause-some : goal.returns-then-is_of-clause-some
returns-then-is_of-clause-some c =
    is-first (is_write_of c.args.hash.now) c.args.entries.now c.loop-i.i c.index-entries-i.result c.loop-i-test.true c.index-entries-i.is
    (sym c.is_of.ensures ∙ c.if-is_of.true) c.loop-i.invariant

pub returns-clause-none : goal.returns-clause-none
returns-clause-none c is =
    none-written c.args.hash.now c.args.entries.now
    (ap (filter (is_write_of c.args.hash.now)) (sym (take_all c.loop-i.i c.args.entries.now c.loop-i-test.false)) ∙ c.loop-i.invariant)
