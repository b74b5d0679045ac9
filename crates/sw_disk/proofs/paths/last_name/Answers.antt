use Rattle.std.proofs.Common.{◌∙◌, inl, inr, arith, length-drop}
use Rattle.std.proofs.lemmas.List.{take_all}
use Rattle.sw_disk.proofs.Above.{last_name-drop}
use Rattle.sw_disk.proofs.paths.last_name.Goals as goal
use Rattle.sw_disk.proofs.paths.last_name.Goals.{else-loop-start-test, then-loop-start-test+then-dir-start-eq47}

pub returns : goal.returns
returns c =
    take_all _ _ (omega (arith, length-drop c.loop-start.start c.args.dir.now))
    ∙ last_name-drop c.args.dir.now c.loop-start.start c.loop-start.invariant.0 c.loop-start.invariant.1 (elim c.loop-start-test.branch [
      | else-loop-start-test w ↦ inl (omega (arith, w.loop-start-test.false))
      | then-loop-start-test+then-dir-start-eq47 w ↦ inr w.if-dir-start-eq47.true
    ])
