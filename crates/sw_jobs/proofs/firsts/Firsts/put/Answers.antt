use Rattle.std.proofs.Common.{◌≡◌, List, ◌∙◌, ap}
use Rattle.std.specs.BTreeMap.{insert_entry}
use Rattle.sw_jobs.specs.Firsts.{Kept, Key, key_seen, with_kept}
use Rattle.sw_jobs.proofs.Keeping.{Entry, borrowed_cmp, entries_seen, seen-insert}
use Rattle.sw_jobs.proofs.firsts.Firsts.put.Goals as goal

pub returns : goal.returns
returns c =
    let put : c.insert.new.self.entries ≡ insert_entry borrowed_cmp c.self.inside.map.entries c.key_of.result c.args.job = c.in_ok-insert.ensures.entries in
    let view : entries_seen c.self.inside.map.entries ≡ c.args.self.now = c.self.view_is in
    ap (λ (es : List Entry). entries_seen es) put
    ∙ seen-insert c.self.inside.map.entries c.key_of.result c.args.job
    ∙ ap (λ (kept : Kept). with_kept kept (key_seen c.key_of.result) c.args.job.now) view
    ∙ ap (λ (k : Key). with_kept c.args.self.now k c.args.job.now) c.key_of.ensures
