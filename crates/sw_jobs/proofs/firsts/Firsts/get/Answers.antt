use Rattle.std.proofs.Common.{◌≡◌, sym, ◌∙◌, ap, Bor, Option}
use Rattle.std.specs.BTreeMap.{get_by}
use Rattle.std.specs.Option.{option_copied}
use Rattle.sw_jobs.specs.Firsts.{Kept, kept_at, key_seen}
use Rattle.sw_jobs.specs.declared.job.Job.{Job}
use Rattle.sw_jobs.proofs.Keeping.{borrowed_cmp, entries_seen, seen-lookup}
use Rattle.sw_jobs.proofs.firsts.Firsts.get.Goals as goal

pub returns : goal.returns
returns c =
    let found : option_copied c.get.result ≡ get_by (borrowed_cmp c.key_of.result) c.self.inside.map = c.get.ensures.value in
    let view : entries_seen c.self.inside.map.entries ≡ c.args.self.now = c.self.view_is in
    ap (λ (o : Option (Bor Job)). option_copied o) (c.copied.ensures ∙ found)
    ∙ sym (seen-lookup c.self.inside.map.entries c.key_of.result)
    ∙ ap (λ (kept : Kept). kept_at kept (key_seen c.key_of.result)) view
    ∙ ap (kept_at c.args.self.now) c.key_of.ensures
