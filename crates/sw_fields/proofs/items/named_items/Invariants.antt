-- What is kept are the items of the fields before the index, and each of them has a good name.
use Rattle.std.proofs.Common.{◌≡◌, [], true, fold, take}
use Rattle.std.specs.List.{list_all}
use Rattle.sw_fields.specs.Items.{has_good_name, with_field}
use Rattle.sw_fields.proofs.items.named_items.Given as goal

abbrev pub invariant-loop-field : goal.invariant-loop-field
invariant-loop-field l = record {
  kept : l.items ≡ fold with_field [] (take l.field-index l.fields);
  named : list_all has_good_name (take l.field-index l.fields) ≡ true;
}
