use Rattle.std.proofs.Common.{◌≡◌, ◌∷◌, ◌++◌, [], List, ◌∙◌, ap}
use Rattle.json.specs.Token.{Token}
use Rattle.serde_json.specs.Data.{array}
use Rattle.serde_json.specs.View.{items_of}
use Rattle.serde_json.proofs.Texts.{print-outline}
use Rattle.sw_listing_json.proofs.Texts.{list-tokens}
use Rattle.sw_listing_json.proofs.writing.to_json.Goals as goal

pub returns : goal.returns
returns c =
    let all = rw c.as_slice.ensures at c.in_ok-write_entries.ensures in
    let before : c.end_array.new.self.before ≡ [] =
    c.in_ok-end_array.ensures.room.0 ∙ all.adds.before ∙ c.in_ok-begin_array.ensures.room.0 ∙ c.new-out.ensures.before ∙ c.new.ensures.items in
    let tokens = list-tokens c.begin_array.new.self.tokens c.write_entries.new.out.tokens c.end_array.new.self.tokens all.objects
    (c.in_ok-begin_array.ensures.ok ∙ ap (λ (t : List Token). t ++ Token.begin_array ∷ []) c.new-out.ensures.tokens) all.adds.added
    c.in_ok-end_array.ensures.ok in
    record {
      objects = all.objects;
      each = all.each;
      is_text = c.into.ensures ∙ c.into_inner.ensures.items ∙ rw (before, tokens) (print-outline (array (items_of all.objects)));
    }
