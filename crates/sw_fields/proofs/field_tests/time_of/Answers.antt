use Rattle.std.proofs.Common.{refl, sym}
use Rattle.sw_fields.proofs.Times.{no_time}
use Rattle.sw_fields.proofs.field_tests.time_of.Goals as goal

pub returns-in-Err : goal.returns-in-Err
returns-in-Err c =
    no_time c.args.fields.now c.in_ok-value_of.field-0.now (sym c.in_ok-value_of.ensures) (c.in-Err.ensures.refuses refl)
