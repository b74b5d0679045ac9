use Rattle.std.proofs.Common.{◌≡◌, ℕ, true, List, sym, ◌∙◌, subst}
use Rattle.std.specs.Str.{is_utf8}
use Rattle.std.proofs.lemmas.Str.{IsUtf8-from_is_utf8}
use Rattle.sw_objdir.proofs.base_row.tombstone_row.Goals as goal

-- its name and its type are UTF-8
pub invariant_of-result : goal.invariant_of-result
invariant_of-result c = record {
  is_text = ∣ IsUtf8-from_is_utf8 c.in_ok-name.name
      (subst (λ (x : List ℕ). is_utf8 x ≡ true) (sym (c.in_ok-name.ensures ∙ c.as_slice.ensures)) c.requires) ∣₁;
  is_type_text = ∣ rw c.in_ok-content_type.ensures c.as_bytes.ensures.utf8 ∣₁;
}
