use Rattle.std.proofs.Common.{◌≡◌, ◌∷◌, [], ◌++◌, take, sym, ◌∙◌, ◌+◌, ap, subst, List}
use Rattle.std.proofs.lemmas.List.{take_more}
use Rattle.sw_diskfile.specs.Picking.{IsGreatestOf, is_later_meta}
use Rattle.sw_diskfile.specs.declared.file_name.FileName.{FileName}
use Rattle.sw_diskfile.proofs.Greatest.{IsGreatestOf-push}
use Rattle.sw_diskfile.proofs.picking.greatest_meta.Goals as goal

pub loop-name-preserved : goal.loop-name-preserved
loop-name-preserved c =
    let front = c.args.names.now in
    let more : take (c.loop-name.name-index + 1) front ≡ take c.loop-name.name-index front ++ c.name-item.result ∷ [] =
    take_more front c.loop-name.name-index c.name-item.result c.loop-name-test.true ∙ ap (λ x. take c.loop-name.name-index front ++ x ∷ []) (sym c.name-item.is)
    in
    subst (λ (l : List FileName). IsGreatestOf l (is_later_meta c.args.base.now) c.greater-greatest.result) (sym more)
    (IsGreatestOf-push (take c.loop-name.name-index front) (is_later_meta c.args.base.now) c.name-item.result c.loop-name.greatest c.greater-greatest.result
    c.is_later_meta.result c.is_later_meta.ensures c.greater-greatest.ensures c.loop-name.invariant)
