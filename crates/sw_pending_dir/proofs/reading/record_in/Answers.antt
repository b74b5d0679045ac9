use Rattle.std.proofs.Common.{inr, refl, sym, ◌∙◌}
use Rattle.sw_pending_dir.proofs.reading.record_in.Goals as goal

-- a record of another key
pub returns-else-is_of_key-clause-damaged : goal.returns-else-is_of_key-clause-damaged
returns-else-is_of_key-clause-damaged c = inr (
  refl,
  record {
    filed = c.in_ok-filed.filed;
    decodes = c.in_ok-filed.ensures.read;
    elsewhere = λ same. let clash = sym c.if-is_of_key.false ∙ c.is_of_key.ensures.1 same in cc;
  },
)
