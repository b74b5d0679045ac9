use Rattle.std.proofs.Common.{◌∷◌, ◌++◌, [], ◌∙◌}
use Rattle.sw_listing_json.specs.Json.{IsEntryData}
use Rattle.sw_listing_json.proofs.Texts.{more-tokens, zip-more}
use Rattle.sw_listing_json.proofs.writing.write_entries.Goals as goal

pub loop-entry-preserved : goal.loop-entry-preserved
loop-entry-preserved c =
    let done = c.loop-entry.invariant in
    let one = c.in_ok-write_entry.ensures in
    record {
      objects = done.objects ++ one.object ∷ [];
      each = zip-more IsEntryData c.args.entries.now done.objects c.loop-entry.entry-index c.entry-item.result one.object c.loop-entry-test.true
          c.entry-item.is done.each one.is;
      adds = record {
        before = one.adds.before ∙ done.adds.before;
        added = more-tokens c.args.out.now.tokens c.loop-entry.out.tokens c.write_entry.new.out.tokens done.objects one.object done.adds.added
            one.adds.added;
      };
    }
