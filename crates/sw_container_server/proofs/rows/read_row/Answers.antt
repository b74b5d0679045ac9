use Rattle.std.proofs.Common.{Some, is_some, refl, sym, ap, ◌∙◌, inl, inr}
use Rattle.std.specs.Prelude.{codes}
use Rattle.std.proofs.lemmas.Str.{IsUtf8-from_is_utf8}
use Rattle.sw_message.specs.Fields.{field_value_of}
use Rattle.sw_container_server.proofs.RowTypes.{type-text}
use Rattle.sw_container_server.proofs.rows.read_row.Goals as goal

-- there is no time
pub returns-in_default : goal.returns-in_default
returns-in_default c = inr (λ has. c.in_default.ensures has.0 has.1, refl)

-- its name and its type are UTF-8
pub invariant_of-row : goal.invariant_of-row
invariant_of-row c = record {
  is_text = ∣ IsUtf8-from_is_utf8 c.args.name c.requires ∣₁;
  is_type_text = ∣ IsUtf8-from_is_utf8 c.in_ok-content_type.content_type
      (rw c.in_ok-content_type.ensures (type-text (field_value_of (codes "x-content-type") c.args.request.now.fields) c.in-Some-type_of.content_type.now
      (sym c.in-Some-type_of.ensures))) ∣₁;
}

pub returns : goal.returns
returns c =
    inl (
      (c.in-Some.created_at, c.in-Some.ensures),
      inl (
        ap is_some (sym c.in-Some-size_of.ensures),
        inl (
          ap is_some (sym c.in-Some-type_of.ensures),
          inl (
            ap is_some (sym c.in-Some-etag_of.ensures),
            (
              _,
              record {
                name_is = refl;
                time = c.in-Some.ensures;
                size = sym c.in-Some-size_of.ensures;
                type = sym c.in-Some-type_of.ensures ∙ ap Some (sym c.in_ok-content_type.ensures);
                etag = sym c.in-Some-etag_of.ensures;
                live = refl;
              },
              refl,
            ),
          ),
        ),
      ),
    )
