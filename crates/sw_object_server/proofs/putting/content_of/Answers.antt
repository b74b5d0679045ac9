use Rattle.std.proofs.lemmas.Str.{IsUtf8-from_is_utf8}
use Rattle.sw_object_server.proofs.putting.content_of.Goals as goal

-- the copy of the type is UTF-8, as the type is
pub invariant_of-result : goal.invariant_of-result
invariant_of-result c =
    record { is_text = ∣ IsUtf8-from_is_utf8 c.in_ok-content_type.content_type (rw c.in_ok-content_type.ensures c.requires) ∣₁ }
