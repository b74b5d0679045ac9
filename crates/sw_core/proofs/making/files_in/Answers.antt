use Rattle.std.proofs.Common.{◌≡◌, refl, ◌∙◌}
use Rattle.sw_core.proofs.Settling.{all-briefed}
use Rattle.sw_core.proofs.making.files_in.Goals as goal

pub new-requires : goal.new-requires
new-requires g c =
    let k = c.args.dir.now in
    let came = c.files_of-got.ensures.read.reads.follows.entries in
    let added : c.added_since.result ≡ came.0 = c.added_since.ensures k.journal.entries came.0 c.front-from.ensures.length came.1 in
    record {
      settled = rw added (all-briefed k.journal (c.files_of-got.new.self).journal came.0 came.1 c.new-settled.result.items
          c.files_of-got.new.settled.items c.new-settled.ensures.items c.files_of-got.ensures.briefs);
      entered = refl;
    }

pub returns : goal.returns
returns g c =
    let k = c.args.dir.now in
    let came = c.files_of-got.ensures.read.reads.follows.entries in
    let added : c.added_since.result ≡ came.0 = c.added_since.ensures k.journal.entries came.0 c.front-from.ensures.length came.1 in
    record { step = c.files_of-got.ensures.read; line_is = c.new.ensures ∙ rw (c.of.ensures, added) refl }
