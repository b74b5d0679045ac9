use Rattle.sw_timestamp.proofs.NormalText.{normal_written}
use Rattle.sw_timestamp.proofs.timestamp.Timestamp.write_normal.Goals as goal

pub returns-clause-text : goal.returns-clause-text
returns-clause-text c =
    rw (← c.units-units.ensures.same) (normal_written c.units-units.result c.args.out.now c.write_last_digits.new.out c.write_last_digits-2.new.out c.told-out
    c.write_last_digits.ensures c.write_last_digits-2.ensures)
