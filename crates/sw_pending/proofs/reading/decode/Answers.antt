use Rattle.sw_pending.specs.Reading.{record_at}
use Rattle.sw_pending.proofs.Exact.{one_gives, outcome_read, read_decoded, read_outcome}
use Rattle.sw_pending.proofs.reading.decode.Goals as goal

pub returns-clause-is : goal.returns-clause-is
returns-clause-is c = read_outcome c.args.secrets.now c.args.bytes.now c.read_record.result c.read_record.ensures

pub returns-clause-only : goal.returns-clause-only
returns-clause-only c = λ outcome memory is no_memory.
    one_gives (record_at c.args.secrets.now c.args.bytes.now) c.read_record.result outcome no_memory memory c.read_record.ensures
    (outcome_read c.args.secrets.now c.args.bytes.now outcome memory is)

pub returns-clause-read : goal.returns-clause-read
returns-clause-read c = read_decoded c.args.secrets.now c.args.bytes.now c.read_record.result c.read_record.ensures
