use Rattle.std.proofs.Common.{Err, ap, ◌∙◌}
use Rattle.sw_message.proofs.Tokens.{token_same}
use Rattle.sw_message.proofs.parts.method_of.Goals as goal

pub unreachable-requires : goal.unreachable-requires
unreachable-requires c = c.from_bytes.ensures.invalid.0 (c.in-Err-Invalid.is ∙ ap Err c.in-Err-Invalid.field-0-is) (token_same _ c.requires)
