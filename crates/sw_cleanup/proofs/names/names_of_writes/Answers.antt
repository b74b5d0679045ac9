use Rattle.std.proofs.Common.{◌≡◌, ℕ, ◌∷◌, [], ◌++◌, take, sym, ◌∙◌, ◌+◌, ap, List}
use Rattle.std.proofs.lemmas.List.{take_all, take_more}
use Rattle.sw_cleanup.specs.Cleaning.{names_of}
use Rattle.sw_cleanup.proofs.Listed.{more_names}
use Rattle.sw_cleanup.proofs.names.names_of_writes.Goals as goal

pub loop-text-preserved : goal.loop-text-preserved
loop-text-preserved c =
    let front = take c.loop-text.text-index c.args.texts.now in
    let more : take (c.loop-text.text-index + 1) c.args.texts.now ≡ front ++ c.text-item.result ∷ [] =
    take_more c.args.texts.now c.loop-text.text-index c.text-item.result c.loop-text-test.true ∙ ap (λ x. front ++ x ∷ []) (sym c.text-item.is) in
    c.in_ok-add_name.ensures ∙ ap (λ (text : List ℕ). c.loop-text.names.items ++ names_of (text ∷ [])) c.as_slice.ensures
    ∙ more_names front c.text-item.result c.loop-text.names.items c.loop-text.invariant ∙ ap names_of (sym more)

pub returns : goal.returns
returns c = c.loop-text.invariant ∙ ap names_of (take_all c.loop-text.text-index c.args.texts.now c.loop-text-test.false)
