use Rattle.std.proofs.Common.{refl, ◌∙◌, inl, inr}
use Rattle.std.proofs.lemmas.Str.{IsUtf8-from_is_utf8}
use Rattle.sw_container_server.proofs.rows.read_deleted_row.Goals as goal

-- there is no time
pub returns-in_default : goal.returns-in_default
returns-in_default c = inr (λ has. c.in_default.ensures has.0 has.1, refl)

-- its name and its type are UTF-8
pub invariant_of-row : goal.invariant_of-row
invariant_of-row c = record {
  is_text = ∣ IsUtf8-from_is_utf8 c.args.name c.requires ∣₁;
  is_type_text = ∣ rw c.in_ok-content_type.ensures c.as_bytes.ensures.utf8 ∣₁;
}

pub returns : goal.returns
returns c =
    inl (
      (c.in-Some.created_at, c.in-Some.ensures),
      (
        _,
        record {
          name_is = refl;
          time = c.in-Some.ensures;
          size = refl;
          type = c.in_ok-content_type.ensures ∙ c.as_bytes.ensures.value;
          etag = c.digest.ensures;
          deleted = refl;
        },
        refl,
      ),
    )
