use Rattle.std.proofs.Common.{◌∙◌, ap}
use Rattle.std.specs.Int.{div_ceil}
use Rattle.sw_object_server.proofs.showing.date_text.Goals as goal

-- the date that was made is that of the seconds
pub returns : goal.returns
returns c = (
  c.unwrap.result,
  (rw c.unwrap.ensures at c.from_unix_secs.ensures.value) ∙ (c.div_ceil.ensures ∙ ap (λ t. div_ceil t 100000) c.units.ensures.same),
  c.to_bytes.ensures,
)
