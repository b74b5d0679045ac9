use Rattle.std.proofs.lemmas.Str.{IsUtf8-had}
use Rattle.sw_listing_json.proofs.Texts.{text-IsOk}
use Rattle.sw_listing_json.proofs.values.text_of.Goals as goal

pub unwrap-requires : goal.unwrap-requires
unwrap-requires c = text-IsOk c.from_utf8.result _ _ _ c.from_utf8.ensures.cases (IsUtf8-had c.args.bytes.now c.requires)
