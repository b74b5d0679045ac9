use Rattle.std.proofs.Common.{refl}
use Rattle.sw_timestamp.proofs.TextLaws.{reads_as_time}
use Rattle.sw_diskfile.proofs.Suffixes.{no_time, other_spelling}
use Rattle.sw_diskfile.proofs.file_name.written_time.Goals as goal

pub returns-in_default-clause-none : goal.returns-in_default-clause-none
returns-in_default-clause-none c = λ _. no_time c.args.text.now (c.in_default.ensures.refuses refl)

pub returns-then-is_written-clause-some : goal.returns-then-is_written-clause-some
returns-then-is_written-clause-some c = c.if-is_written.ensures.0 refl

pub returns-then-is_written-clause-bound : goal.returns-then-is_written-clause-bound
returns-then-is_written-clause-bound c = reads_as_time c.args.text.now c.in-Ok.time c.in-Ok.ensures.reads

pub returns-else-is_written-clause-none : goal.returns-else-is_written-clause-none
returns-else-is_written-clause-none c =
    λ _. other_spelling c.args.text.now c.in-Ok.time c.in-Ok.ensures.reads (λ e. let lie = c.if-is_written.ensures.1 e in cc)
