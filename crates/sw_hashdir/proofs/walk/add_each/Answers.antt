use Rattle.std.proofs.Common.{◌≡◌, ℕ, List, [], ◌∷◌, ◌+◌, ◌++◌, take, sym, ◌∙◌, ap, subst}
use Rattle.std.proofs.lemmas.List.{take_all, take_more}
use Rattle.sw_hashdir.specs.Walks.{Adds, IsNamedIn}
use Rattle.sw_hashdir.proofs.Walking.{adds_then, named_more}
use Rattle.sw_hashdir.proofs.walk.add_each.Goals as goal

-- one file more
pub loop-file-preserved : goal.loop-file-preserved
loop-file-preserved c =
    let dir : List ℕ = c.args.dir.now in
    let files : List (List ℕ) = c.args.files.now in
    let front : List (List ℕ) = take c.loop-file.file-index files in
    let file : List ℕ = c.file-item.result in
    let more : take (c.loop-file.file-index + 1) files ≡ front ++ file ∷ [] =
    take_more files c.loop-file.file-index file c.loop-file-test.true ∙ ap (λ x. front ++ x ∷ []) (sym c.file-item.is) in
    let path : c.in_ok-joined.field-0.items ≡ dir ++ 47 ∷ file = c.in_ok-joined.ensures ∙ ap (λ n. dir ++ 47 ∷ n) c.as_slice.ensures in
    let added : Adds c.loop-file.found c.add.new.self (λ p. p ≡ dir ++ 47 ∷ file) = subst
    (λ (bs : List ℕ). Adds c.loop-file.found c.add.new.self (λ p. p ≡ bs)) path c.in_ok-add.ensures in
    subst (λ (names : List (List ℕ)). Adds c.args.found.now c.add.new.self (IsNamedIn dir names)) (sym more)
    (adds_then c.args.found.now c.loop-file.found c.add.new.self (IsNamedIn dir front) (λ p. p ≡ dir ++ 47 ∷ file)
    (IsNamedIn dir (front ++ file ∷ [])) c.loop-file.invariant added (named_more dir front file))

pub returns : goal.returns
returns c =
    subst (λ (names : List (List ℕ)). Adds c.args.found.now c.loop-file.found (IsNamedIn c.args.dir.now names))
    (take_all c.loop-file.file-index c.args.files.now c.loop-file-test.false) c.loop-file.invariant
