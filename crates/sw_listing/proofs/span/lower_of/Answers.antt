use Rattle.std.proofs.Common.{ℕ, List, sym, ◌∙◌, subst}
use Rattle.sw_listing.specs.Walking.{IsLower}
use Rattle.sw_listing.proofs.Bounds.{prefix-lower}
use Rattle.sw_listing.proofs.span.lower_of.Goals as goal

pub returns-in_ok-from_slice : goal.returns-in_ok-from_slice
returns-in_ok-from_slice c =
    let P : List ℕ → Type 0 = λ l. IsLower c.args.query.now l in
    subst P (sym (c.in_ok-from_slice.ensures.items ∙ c.as_slice-prefix.ensures)) (prefix-lower c.args.query.now)
