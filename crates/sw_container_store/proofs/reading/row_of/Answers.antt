use Rattle.std.proofs.lemmas.Str.{IsUtf8-from_is_utf8}
use Rattle.sw_container_store.proofs.reading.row_of.Goals as goal

pub invariant_of-result : goal.invariant_of-result
invariant_of-result c = record {
  is_text = ∣ IsUtf8-from_is_utf8 c.args.name c.requires.name ∣₁;
  is_type_text = ∣ IsUtf8-from_is_utf8 c.args.content_type c.requires.content_type ∣₁;
}
