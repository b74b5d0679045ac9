use Rattle.std.proofs.Common.{◌≡◌, refl, ◌∙◌}
use Rattle.sw_core.proofs.Recording.{none-own}
use Rattle.sw_core.proofs.Settling.{all-briefed}
use Rattle.sw_object_steps.specs.Rules.{obj_rules}
use Rattle.sw_step.proofs.Settled.{added-is}
use Rattle.sw_step.specs.Steps.{added_by}
use Rattle.sw_core.proofs.making.record_in.Goals as goal

pub new-kept-requires : goal.new-kept-requires
new-kept-requires g c =
    let k = c.args.dir.now in
    let changes = c.record-answer.ensures.made.changes in
    let own = added_by obj_rules changes in
    let added : c.added_since-added.result ≡ own = c.added_since-added.ensures k.journal.entries own c.front-from.ensures.length (added-is obj_rules changes) in
    record {
      settled = rw (added, none-own _ _ _ _ _ _ _ _ changes c.requires.records)
          (all-briefed k.journal (c.record-answer.new.self).journal own (added-is obj_rules changes) c.new-settled.result.items
          c.record-answer.new.settled.items c.new-settled.ensures.items c.record-answer.ensures.briefs);
      entered = refl;
    }

pub returns : goal.returns
returns g c =
    let k = c.args.dir.now in
    let changes = c.record-answer.ensures.made.changes in
    let own = added_by obj_rules changes in
    let added : c.added_since-added.result ≡ own = c.added_since-added.ensures k.journal.entries own c.front-from.ensures.length (added-is obj_rules changes) in
    record { step = c.record-answer.ensures.made; line_is = c.new-kept.ensures ∙ rw (c.requires.named, c.of-asked.ensures, added) refl }
