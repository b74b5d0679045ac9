use Rattle.std.proofs.Common.{rules, Bool, not}
use Rattle.std.proofs.lemmas.Fn.{filter_same}
use Rattle.sw_rows.specs.Rows.{is_numbered}
use Rattle.sw_rows.specs.declared.numbered.Numbered.{Numbered}
use Rattle.sw_keeper.proofs.draft.cut.Goals as goal

pub returns : goal.returns
returns c =
    let test : Numbered → Bool = λ n. not (is_numbered c.args.rowid n) in
    filter_same _ test _ (λ x b f' k. search rules) _ _ c.retain.ensures.filtered
