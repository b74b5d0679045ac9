use Rattle.std.proofs.Common.{◌≡◌, sym, ◌∙◌, ap, subst, ℕ, List}
use Rattle.std.proofs.lemmas.Result.{IfOk-weaker}
use Rattle.sw_listing.proofs.Bounds.{marker-passed}
use Rattle.sw_listing.proofs.span.marker_below.Goals as goal
use Rattle.sw_listing.specs.Walking.{above_all, IsLower}

pub returns-then-is_rolled_up_to : goal.returns-then-is_rolled_up_to
returns-then-is_rolled_up_to c =
    let q = c.args.query.now in
    let low : IsLower q (above_all q.marker) = marker-passed q c.if-query.false (c.is_rolled_up_to.ensures c.if-is_rolled_up_to.true) in
    let P : List ℕ → Type 0 = λ l. IsLower q l in
    IfOk-weaker c.above_all.result (λ above. above.items ≡ above_all c.as_slice-then-is_rolled_up_to.result.now) (λ lower. IsLower q lower.items)
    (λ above is. subst P (sym (is ∙ ap above_all c.as_slice-then-is_rolled_up_to.ensures)) low) c.above_all.ensures
