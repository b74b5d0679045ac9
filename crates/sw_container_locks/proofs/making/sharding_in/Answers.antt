use Rattle.std.proofs.Common.{◌≡◌, refl, ◌∙◌}
use Rattle.sw_container_locks.proofs.Keeping.{entered-alone}
use Rattle.sw_container_locks.proofs.making.sharding_in.Goals as goal

pub returns : goal.returns
returns g c =
    let left = c.sharding-got.new.self in
    let step = c.sharding-got.ensures.read in
    let added = step.read.follows.entries.0 in
    let entered : left.fresh ≡ added =
    entered-alone c.args.dir.now.fresh added left.fresh c.requires.fresh (step.same.fresh added step.read.follows.entries.1) in
    record {
      left = left;
      step = step;
      called = c.sharding-got.ensures.called;
      wanted = c.sharding-got.ensures.wanted;
      after = c.line_of-line.ensures.after;
      line_is = c.line_of-line.ensures.line ∙ rw (c.of.ensures, c.of-2.ensures, entered) refl;
    }
