use Rattle.std.proofs.Common.{◌∙◌, ℕ, List, IsSome, None, sym, subst, arith}
use Rattle.std.specs.List.{Contains}
use Rattle.sw_disk.proofs.Moments.{rests-call, rests-look, rests-then}
use Rattle.sw_disk.proofs.Readying.{contains-next, contains-none, no_file_is_none, opens-removed, others-unlinked, some_bytes}
use Rattle.sw_disk.proofs.States.{rests-may_be}
use Rattle.sw_disk.proofs.Turning.{rests-with_file}
use Rattle.sw_disk.specs.Disk.{DiskState}
use Rattle.sw_disk.specs.Keeping.{IsInOrder, IsOrdered, writing}
use Rattle.sw_disk.proofs.opening.prepare.Goals as goal

pub returns-in_err-left-clause-time : goal.returns-in_err-left-clause-time
returns-in_err-left-clause-time g c = λ tells.
    let t1 = c.make_writing.ensures.told ∙ tells in
    rests-then IsOrdered _ _ _ _ _ _ (c.make_writing.ensures.time tells) (rests-look IsOrdered _ _ _ _ (c.list.ensures.same t1) (c.list.ensures.time t1))

pub loop-name-init : goal.loop-name-init
loop-name-init g c = (
  c.list.ensures.told ∙ c.make_writing.ensures.told,
  c.in_ok-left.ensures.cause.kept ∙ c.in_ok-make_writing.ensures.cause.kept,
  λ tells. subst IsInOrder (sym (c.list.ensures.same (c.make_writing.ensures.told ∙ tells))) (c.in_ok-make_writing.ensures.ready tells),
  λ tells.
      let t1 = c.make_writing.ensures.told ∙ tells in
      rests-then IsOrdered _ _ _ _ _ _ (c.make_writing.ensures.time tells) (rests-look IsOrdered _ _ _ _ (c.list.ensures.same t1) (c.list.ensures.time t1)),
  λ tells file stands.
      let t1 = c.make_writing.ensures.told ∙ tells in
      let there = subst (λ (x : DiskState). IsSome (x.files writing file)) (c.list.ensures.same t1) stands in
      let listed = ((c.in_ok-left.ensures.files t1).exact file).1 (some_bytes (g.D.Disk.now c.make_writing.new.disk) file there) in
      subst (λ (l : List (List ℕ)). Contains l file) (sym c.as_slice-name-items.ensures) listed,
  c.list.ensures.placed ∙ c.make_writing.ensures.placed,
)

pub returns-in_err-unlink-clause-time : goal.returns-in_err-unlink-clause-time
returns-in_err-unlink-clause-time g c = λ tells.
    let t1 = c.loop-name.invariant.0 ∙ tells in
    rests-then IsOrdered _ _ _ _ _ _ (c.loop-name.invariant.3 tells)
    (rests-call IsOrdered _ _ _ _ _ (opens-removed (g.D.Disk.now c.loop-name.disk) c.as_slice.result.now) (c.unlink.ensures.either t1)
    (c.unlink.ensures.time t1))

pub loop-name-preserved : goal.loop-name-preserved
loop-name-preserved g c = (
  c.unlink.ensures.told ∙ c.loop-name.invariant.0,
  c.in_ok-unlink.ensures.cause.kept ∙ c.loop-name.invariant.1,
  λ tells.
      let t1 = c.loop-name.invariant.0 ∙ tells in
      (rests-may_be IsInOrder _ _ _ (rests-with_file (g.D.Disk.now c.loop-name.disk) c.as_slice.result.now None) (c.unlink.ensures.either t1)).order
      (c.loop-name.invariant.2 tells),
  λ tells.
      let t1 = c.loop-name.invariant.0 ∙ tells in
      rests-then IsOrdered _ _ _ _ _ _ (c.loop-name.invariant.3 tells)
      (rests-call IsOrdered _ _ _ _ _ (opens-removed (g.D.Disk.now c.loop-name.disk) c.as_slice.result.now) (c.unlink.ensures.either t1)
      (c.unlink.ensures.time t1)),
  λ tells file stands.
      let t1 = c.loop-name.invariant.0 ∙ tells in
      let other = others-unlinked (g.D.Disk.now c.loop-name.disk) (g.D.Disk.now c.unlink.new.self) c.as_slice.result.now c.in_ok-unlink.field-0
      (c.in_ok-unlink.ensures.ok t1)
      (c.in_ok-unlink.ensures.found t1).1 file stands in
      contains-next c.as_slice-name-items.result.now c.loop-name.name-index file c.name-item.result c.loop-name-test.true
      (λ same. other.1 (same ∙ sym c.name-item.is ∙ sym c.as_slice.ensures)) (c.loop-name.invariant.4 tells file other.0),
  c.unlink.ensures.placed ∙ c.loop-name.invariant.5,
)

pub returns-clause-empty : goal.returns-clause-empty
returns-clause-empty g c = λ tells file. no_file_is_none ((g.D.Disk.now c.loop-name.disk).files writing file)
    (λ stands. contains-none c.as_slice-name-items.result.now c.loop-name.name-index file (λ lt. absurd (omega (arith, lt, c.loop-name-test.false)))
    (c.loop-name.invariant.4 tells file stands))
