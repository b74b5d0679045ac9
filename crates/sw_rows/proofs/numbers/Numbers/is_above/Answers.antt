use Rattle.std.proofs.Common.{List, ◌∙◌, ap}
use Rattle.std.specs.List.{list_all}
use Rattle.std.specs.Prelude.{nat_lt}
use Rattle.sw_rows.specs.declared.numbered.Numbered.{Numbered}
use Rattle.sw_rows.proofs.Entries.{above-last}
use Rattle.sw_rows.proofs.numbers.Numbers.is_above.Goals as goal

pub returns-in-Some : goal.returns-in-Some
returns-in-Some c =
    let es = c.self.inside.rows.entries in
    above-last es c.in-Some.last.now c.args.rowid c.in-Some.field-0-1.now c.in-Some.ensures.value c.in-Some.ensures.all_up_to
    ∙ ap (λ (l : List Numbered). list_all (λ n. nat_lt n.rowid c.args.rowid) l) c.self.view_is
