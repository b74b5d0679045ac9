use Rattle.std.proofs.Common.{ℕ, List, sym, ◌∙◌, ap, subst}
use Rattle.sw_listing.specs.Walking.{above_all, IsUpper}
use Rattle.sw_listing.proofs.Bounds.{prefix-upper}
use Rattle.sw_listing.proofs.span.upper_of.Goals as goal

pub returns-then-is_lt : goal.returns-then-is_lt
returns-then-is_lt c =
    let P : List ℕ → Type 0 = λ l. IsUpper c.args.query.now l in
    subst P (sym (c.in_ok-above.ensures ∙ ap above_all c.as_slice.ensures)) (prefix-upper c.args.query.now)
