use Rattle.std.proofs.Common.{◌∙◌, refl}
use Rattle.sw_listing_json.specs.Json.{row_data}
use Rattle.sw_listing_json.proofs.values.write_row.Goals as goal

pub text_of-content_type-requires : goal.text_of-content_type-requires
text_of-content_type-requires c = rw c.as_slice.ensures c.args.row.now.is_type_text

pub text_of-name-requires : goal.text_of-name-requires
text_of-name-requires c = rw c.as_slice-2.ensures c.args.row.now.is_text

pub returns : goal.returns
returns c =
    let content_type = c.text_of-content_type.ensures ∙ c.as_slice.ensures in
    let name = c.text_of-name.ensures ∙ c.as_slice-2.ensures in
    let hash = c.as_str.ensures.value ∙ c.in_ok-hash.ensures in
    let date = c.listed_time-time.result.bytes in
    record {
      object = row_data c.args.row.now date;
      is = record { date = date; is_date = c.listed_time-time.ensures; is_data = refl };
      adds = rw (content_type, name, hash, c.as_str-2.ensures.value) at c.in_ok-write_object.ensures;
    }
