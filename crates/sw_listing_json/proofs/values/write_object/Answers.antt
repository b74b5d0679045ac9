use Rattle.std.proofs.Common.{◌∙◌}
use Rattle.sw_listing_json.proofs.Texts.{row-added}
use Rattle.sw_listing_json.proofs.values.write_object.Goals as goal

pub returns : goal.returns
returns c =
    let size = c.in_ok-write_number.ensures in
    let content_type = c.in_ok-write_text.ensures in
    let hash = c.in_ok-write_text-2.ensures in
    let date = c.in_ok-write_text-3.ensures in
    let name = c.in_ok-write_text-4.ensures in
    record {
      before = c.in_ok-end_object.ensures.room.0 ∙ name.before ∙ date.before ∙ hash.before ∙ content_type.before ∙ size.before
          ∙ c.in_ok-begin_object.ensures.room.0;
      added = row-added _ _ _ _ _ _ _ _ _ _ _ _ _ _ _ _ _ _ _ _ c.in_ok-begin_object.ensures.ok size.added content_type.added hash.added date.added
          name.added c.in_ok-end_object.ensures.ok;
    }
