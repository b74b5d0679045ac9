use Rattle.std.proofs.Common.{◌≡◌, ◌∙◌, List, true, false, sym, ap, refl}
use Rattle.std.proofs.lemmas.List.{take_all}
use Rattle.std.proofs.lemmas.List.Folds.{list_any_at}
use Rattle.std.specs.List.{list_any}
use Rattle.sw_disk.proofs.Makes.{there-makes}
use Rattle.sw_disk.specs.Folders.{makes}
use Rattle.sw_disk.specs.declared.change.Change.{Change}
use Rattle.sw_disk.proofs.disk_log.DiskLog.is_there.Goals as goal

pub returns-then-makes : goal.returns-then-makes
returns-then-makes c =
    let found : list_any (makes c.args.dir.now) c.deref-change-items.result.now ≡ true =
    list_any_at (makes c.args.dir.now) c.deref-change-items.result.now c.loop-change.change-index c.change-item.result c.loop-change-test.true
    (ap (makes c.args.dir.now) (sym c.change-item.is) ∙ sym c.makes.ensures ∙ c.if-makes.true) in
    let is = sym (ap (λ (l : List Change). list_any (makes c.args.dir.now) l) c.deref-change-items.ensures.value) ∙ found in
    (λ t. (there-makes c.args.self.now.changes.items c.args.dir.now).0 is, λ h. refl)

pub returns : goal.returns
returns c =
    let all = take_all c.loop-change.change-index c.deref-change-items.result.now c.loop-change-test.false in
    let none : list_any (makes c.args.dir.now) c.args.self.now.changes.items ≡ false =
    sym (ap (λ (l : List Change). list_any (makes c.args.dir.now) l) (all ∙ c.deref-change-items.ensures.value)) ∙ c.loop-change.invariant in
    (λ t. cc, λ h. sym none ∙ (there-makes c.args.self.now.changes.items c.args.dir.now).1 h)
