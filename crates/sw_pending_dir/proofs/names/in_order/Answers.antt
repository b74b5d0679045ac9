use Rattle.std.proofs.Common.{◌≡◌, ◌↔◌, ℕ, List, subst, sym}
use Rattle.std.specs.List.{Contains}
use Rattle.sw_pending_dir.proofs.Results.{if-ok}
use Rattle.sw_pending_dir.proofs.Sorting.{items_of}
use Rattle.sw_pending_dir.proofs.names.in_order.Goals as goal

pub returns-clause-all : goal.returns-clause-all
returns-clause-all c =
    let P : List (List ℕ) → Type 0 = λ list. list ≡ items_of c.in_ok-set.set.keys in
    let Q : List (List ℕ) → Type 0 = λ list. (name : List ℕ) → Contains list name ↔ Contains c.args.names.now name in
    if-ok P Q (λ list same name. subst (λ (l : List (List ℕ)). Contains l name ↔ Contains c.args.names.now name) (sym same) (c.in_ok-set.ensures name))
    c.list_of.result c.list_of.ensures.all
