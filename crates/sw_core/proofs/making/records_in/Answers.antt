use Rattle.std.proofs.Common.{◌≡◌, ◌==◌, Bool, refl, ◌∙◌, rules}
use Rattle.std.proofs.lemmas.Fn.{filter_same}
use Rattle.sw_core.proofs.Settling.{all-briefed}
use Rattle.sw_core.proofs.Striped.{KeepsAt, keeps-fault, keeps-some, reads-at}
use Rattle.sw_core.specs.Worlds.{stripe_in}
use Rattle.sw_object_steps.specs.Journals.{Hash}
use Rattle.sw_pending.specs.declared.filed.Filed.{Filed}
use Rattle.sw_core.proofs.making.records_in.Goals as goal
use Rattle.sw_core.proofs.making.records_in.Goals.{in-Ok, in_default}

pub new-requires : goal.new-requires
new-requires g c =
    let k = c.args.dir.now in
    let came = c.records-got.ensures.read.reads.follows.entries in
    let added : c.added_since.result ≡ came.0 = c.added_since.ensures k.journal.entries came.0 c.front-from.ensures.length came.1 in
    record {
      settled = rw added (all-briefed k.journal (c.records-got.new.self).journal came.0 came.1 c.new-settled.result.items
          c.records-got.new.settled.items c.new-settled.ensures.items c.records-got.ensures.briefs);
      entered = refl;
    }

pub returns : goal.returns
returns g c =
    let v = g.V.Volume in let k = c.args.dir.now in
    let came = c.records-got.ensures.read.reads.follows.entries in
    let added : c.added_since.result ≡ came.0 = c.added_since.ensures k.journal.entries came.0 c.front-from.ensures.length came.1 in
    let at : Hash → Bool = λ hash. stripe_in c.args.lock_bits c.args.power hash == c.args.stripe in
    let test : Filed → Bool = λ filed. at filed.name.hash in
    let keeps : KeepsAt at c.records-got.result c.match-got.got = elim c.match-got.branch [
      | in-Ok w ↦ keeps-some at c.records-got.result c.match-got.got w.in-Ok.records w.retain.new.self w.in-Ok.is w.got-is
          (filter_same _ test _ (λ x b f' k. search rules) _ _ w.retain.ensures.filtered)
      | in_default w ↦ keeps-fault at c.records-got.result c.match-got.got w.in_default.not-Ok w.got-is
    ] in
    let read = reads-at v.tells v.holds v.faults k c.records-got.new.self at c.records-got.result c.match-got.got keeps c.records-got.ensures.read in
    let told : c.added_since.result ≡ read.0.reads.follows.entries.0 = added ∙ read.1 in
    record { step = read.0; line_is = c.new.ensures ∙ rw (c.of.ensures, told) refl }
