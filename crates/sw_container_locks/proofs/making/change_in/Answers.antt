use Rattle.std.proofs.Common.{◌≡◌, refl, ◌∙◌, ap, List, ◌++◌, append_assoc}
use Rattle.sw_container_steps.specs.Rules.{cont_rules}
use Rattle.sw_container_steps.specs.declared.cont_entry.ContEntry.{ContEntry}
use Rattle.sw_step.specs.Steps.{added_by}
use Rattle.sw_container_locks.proofs.Keeping.{entered-alone}
use Rattle.sw_container_locks.proofs.making.change_in.Goals as goal

pub returns : goal.returns
returns g c =
    let left = c.change-answer.new.self in
    let step = c.change-answer.ensures.made in
    let added = added_by cont_rules step.made in
    let adds : left.journal.entries ≡ c.args.dir.now.journal.entries ++ added =
    step.made.after.entries.1
    ∙ (ap (λ (es : List ContEntry). es ++ step.made.after.entries.0) step.made.follows.entries.1
    ∙ append_assoc c.args.dir.now.journal.entries step.made.follows.entries.0 step.made.after.entries.0) in
    let entered : left.fresh ≡ added =
    entered-alone c.args.dir.now.fresh added left.fresh c.requires.fresh (step.same.fresh added adds) in
    record {
      left = left;
      step = step;
      called = c.change-answer.ensures.called;
      wanted = c.change-answer.ensures.wanted;
      after = c.line_of-line.ensures.after;
      line_is = c.line_of-line.ensures.line ∙ rw (c.changed-event.ensures, entered) refl;
    }
