use Rattle.std.proofs.Common.{◌∙◌, sym, ap}
use Rattle.sw_journal.specs.Entries.{is_record_of}
use Rattle.sw_journal.proofs.Finding.{is-first, none-next}
use Rattle.sw_journal.proofs.entries.first_about.Goals as goal

pub loop-i-preserved : goal.loop-i-preserved
loop-i-preserved c =
    none-next (is_record_of c.args.key.now) c.args.entries.now c.loop-i.i c.index-entries-i.result c.loop-i-test.true c.loop-i.invariant
    (ap (is_record_of c.args.key.now) (sym c.index-entries-i.is) ∙ (sym c.is_about.ensures ∙ c.if-is_about.false))

pub returns-then-is_about-clause-some : goal.returns-then-is_about-clause-some
returns-then-is_about-clause-some c =
    is-first (is_record_of c.args.key.now) c.args.entries.now c.loop-i.i c.index-entries-i.result c.loop-i-test.true c.index-entries-i.is
    (sym c.is_about.ensures ∙ c.if-is_about.true) c.loop-i.invariant
