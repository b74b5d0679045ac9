use Rattle.sw_timestamp.specs.TimeText.{text_of}
use Rattle.sw_diskfile.proofs.Suffixes.{before_ending, ends_so, no_stem, other_ending}
use Rattle.sw_diskfile.proofs.file_name.time_before.Goals as goal

pub returns-in_err-stem-clause-none : goal.returns-in_err-stem-clause-none
returns-in_err-stem-clause-none c = λ _ time _. other_ending c.args.text.now (text_of time) c.args.ending.now c.in_err-stem.ensures.cases

pub returns-clause-some : goal.returns-clause-some
returns-clause-some c =
    before_ending c.written_time.result c.args.text.now c.in_ok-stem.stem.now c.args.ending.now
    (ends_so c.args.text.now c.in_ok-stem.stem.now c.args.ending.now c.in_ok-stem.ensures.cases.0 c.in_ok-stem.ensures.cases.1) c.written_time.ensures.some

pub returns-clause-none : goal.returns-clause-none
returns-clause-none c = λ none. no_stem c.args.text.now c.in_ok-stem.stem.now c.args.ending.now c.in_ok-stem.ensures.cases.1 (c.written_time.ensures.none none)
