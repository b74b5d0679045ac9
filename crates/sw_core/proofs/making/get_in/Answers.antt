use Rattle.std.proofs.Common.{◌≡◌, refl, ◌∙◌}
use Rattle.sw_core.proofs.Settling.{briefed, read-adds}
use Rattle.sw_core.proofs.making.get_in.Goals as goal

pub new-requires : goal.new-requires
new-requires g c =
    let v = g.V.Volume in let k = c.args.dir.now in let n = c.get-got.new.self in
    let came = c.get-got.ensures.read.reads.follows.entries in
    let adds = read-adds v.tells v.holds v.faults v.calls v.lists k n c.args.name.now c.get-got.result c.get-got.ensures.called in
    let added : c.added_since-added.result ≡ came.0 = c.added_since-added.ensures k.journal.entries came.0 c.front-from.ensures.length came.1
    in
    record {
      settled = rw (c.settled_of-settled.ensures, c.front.ensures.length, c.front-from.ensures.length, c.requires.doubted, added)
          (briefed c.args.name.now.hash k.journal n.journal adds came.0 came.1);
      entered = refl;
    }

pub returns : goal.returns
returns g c =
    let k = c.args.dir.now in
    let came = c.get-got.ensures.read.reads.follows.entries in
    let added : c.added_since-added.result ≡ came.0 = c.added_since-added.ensures k.journal.entries came.0 c.front-from.ensures.length came.1
    in
    record { step = c.get-got.ensures.read; line_is = c.new.ensures ∙ rw (c.of.ensures, c.of-2.ensures, added) refl }
