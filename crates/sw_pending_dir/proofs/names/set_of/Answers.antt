use Rattle.std.proofs.Common.{◌≡◌, ℕ, List, [], ◌∷◌, ◌+◌, ◌++◌, ◌↔◌, take, sym, ◌∙◌, ap, subst}
use Rattle.std.proofs.lemmas.List.{take_all, take_more}
use Rattle.std.specs.List.{Contains}
use Rattle.sw_pending_dir.proofs.Sorting.{AddsName, insert-adds, items_of, set-more}
use Rattle.sw_pending_dir.proofs.names.set_of.Goals as goal

-- one name more
pub loop-name-preserved : goal.loop-name-preserved
loop-name-preserved c =
    let names : List (List ℕ) = c.args.names.now in
    let front : List (List ℕ) = take c.loop-name.name-index names in
    let name : List ℕ = c.name-item.result in
    let more : take (c.loop-name.name-index + 1) names ≡ front ++ name ∷ [] =
    take_more names c.loop-name.name-index name c.loop-name-test.true ∙ ap (λ x. front ++ x ∷ []) (sym c.name-item.is) in
    let copied : c.in_ok-from_slice.field-0.items ≡ name = c.in_ok-from_slice.ensures.items ∙ c.as_slice.ensures in
    let adds : AddsName (items_of c.loop-name.set.keys) (items_of c.insert.new.self.keys) name =
    subst (λ (n : List ℕ). AddsName (items_of c.loop-name.set.keys) (items_of c.insert.new.self.keys) n) copied
    (rw c.in_ok-insert.ensures.keys (insert-adds c.in_ok-from_slice.field-0 c.loop-name.set.keys)) in
    λ q. subst (λ (l : List (List ℕ)). Contains (items_of c.insert.new.self.keys) q ↔ Contains l q) (sym more)
    (set-more front name (items_of c.loop-name.set.keys) (items_of c.insert.new.self.keys) adds c.loop-name.invariant q)

pub returns : goal.returns
returns c = λ q.
    subst (λ (l : List (List ℕ)). Contains (items_of c.loop-name.set.keys) q ↔ Contains l q)
    (take_all c.loop-name.name-index c.args.names.now c.loop-name-test.false) (c.loop-name.invariant q)
