use Rattle.std.proofs.Common.{◌≡◌, ◌-◌, List, ◌++◌, length, map, take, refl, ◌∙◌, ap}
use Rattle.sw_object_steps.specs.Briefs.{brief_of}
use Rattle.sw_object_steps.specs.Rules.{obj_rules}
use Rattle.sw_object_steps.specs.Steps.{own_by}
use Rattle.sw_object_steps.specs.declared.entry.Brief.{Brief}
use Rattle.sw_step.proofs.Settled.{added-is}
use Rattle.sw_step.specs.Steps.{added_by}
use Rattle.sw_core.proofs.making.made_in.Goals as goal

pub new-kept-requires : goal.new-kept-requires
new-kept-requires g c =
    let k = c.args.dir.now in
    let changes = c.change-answer.ensures.made.changes in
    let own = added_by obj_rules changes in
    let added : c.added_since-added.result ≡ own =
    c.added_since-added.ensures k.journal.entries own c.front-from.ensures.length (added-is obj_rules changes) in
    record {
      settled = rw added (c.change-answer.ensures.briefs own (added-is obj_rules changes)
          ∙ ap (λ (bs : List Brief). bs ++ map brief_of (take (length own - own_by c.change-answer.result) own)) c.new-settled.ensures.items);
      entered = refl;
    }

pub returns : goal.returns
returns g c =
    let changes = c.change-answer.ensures.made.changes in
    let own = added_by obj_rules changes in
    let added : c.added_since-added.result ≡ own =
    c.added_since-added.ensures c.args.dir.now.journal.entries own c.front-from.ensures.length (added-is obj_rules changes) in
    record { step = c.change-answer.ensures.made; line_is = c.new-kept.ensures ∙ rw (c.requires.named, c.of-seen.ensures, added) refl }
