use Rattle.std.proofs.Common.{◌≡◌, refl, ◌∙◌}
use Rattle.sw_core.proofs.Settling.{all-briefed}
use Rattle.sw_core.proofs.making.base_in.Goals as goal

pub new-requires : goal.new-requires
new-requires g c =
    let k = c.args.dir.now in
    let came = c.base_for-got.ensures.read.reads.follows.entries in
    let added : c.added_since.result ≡ came.0 = c.added_since.ensures k.journal.entries came.0 c.front-from.ensures.length came.1 in
    record {
      settled = rw added (all-briefed k.journal (c.base_for-got.new.self).journal came.0 came.1 c.new-settled.result.items
          c.base_for-got.new.settled.items c.new-settled.ensures.items c.base_for-got.ensures.briefs);
      entered = refl;
    }

pub returns : goal.returns
returns g c =
    let k = c.args.dir.now in
    let came = c.base_for-got.ensures.read.reads.follows.entries in
    let added : c.added_since.result ≡ came.0 = c.added_since.ensures k.journal.entries came.0 c.front-from.ensures.length came.1 in
    record { step = c.base_for-got.ensures.read; line_is = c.new.ensures ∙ rw (c.of.ensures, c.of-2.ensures, added) refl }
