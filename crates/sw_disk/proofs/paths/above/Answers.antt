use Rattle.std.proofs.Common.{◌≡◌, ◌<◌, ◌-◌, ◌+◌, length, take, sym, ◌∙◌, ap, arith}
use Rattle.sw_disk.proofs.Above.{above-take_slash, above-take_other}
use Rattle.sw_disk.specs.Paths.{above}
use Rattle.sw_disk.proofs.paths.above.Goals as goal

pub returns-then-dir-end-eq47 : goal.returns-then-dir-end-eq47
returns-then-dir-end-eq47 c =
    let here : c.loop-end.end - 1 + 1 ≡ c.loop-end.end = omega arith in
    let within : c.loop-end.end - 1 < length c.args.dir.now = omega arith in
    sym (above-take_slash c.args.dir.now (c.loop-end.end - 1) within c.if-dir-end-eq47.true)
    ∙ ap (λ n. above (take n c.args.dir.now)) here ∙ c.loop-end.invariant.1

pub loop-end-preserved : goal.loop-end-preserved
loop-end-preserved c =
    let here : c.loop-end.end - 1 + 1 ≡ c.loop-end.end = omega arith in
    let within : c.loop-end.end - 1 < length c.args.dir.now = omega arith in (
      omega arith,
      sym (above-take_other c.args.dir.now (c.loop-end.end - 1) within c.if-dir-end-eq47.false)
          ∙ ap (λ n. above (take n c.args.dir.now)) here ∙ c.loop-end.invariant.1,
    )
