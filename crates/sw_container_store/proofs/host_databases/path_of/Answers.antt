use Rattle.std.proofs.Common.{◌≡◌, ◌∙◌, ◌++◌, List, ℕ, drop, ap, codes}
use Rattle.std.specs.Fmt.{decimal}
use Rattle.sw_container_store.specs.Paths.{segment}
use Rattle.sw_container_store.proofs.host_databases.path_of.Goals as goal

pub returns : goal.returns
returns c =
    let root = c.args.root.now in
    let digits = c.args.digits.now in
    let begun : c.extend_from_slice.new.self.items ≡ root =
    c.in_ok-extend_from_slice.ensures.items ∙ (ap (λ (v : List ℕ). v ++ c.as_bytes.result.now) c.new-path.ensures.items ∙ c.as_bytes.ensures.value) in
    let below : c.extend_from_slice-2.new.self.items ≡ root ++ segment (codes "containers") =
    c.in_ok-extend_from_slice-2.ensures.items ∙ ap (λ (v : List ℕ). v ++ segment (codes "containers")) begun in
    let number : c.as_bytes-2.result.now ≡ decimal c.args.partition = c.as_bytes-2.ensures.value ∙ c.format.ensures.text in
    let head : c.add_segment.new.path.items ≡ root ++ segment (codes "containers") ++ segment (decimal c.args.partition) =
    c.in_ok-add_segment.ensures
    ∙ (ap (λ (v : List ℕ). v ++ segment c.as_bytes-2.result.now) below
    ∙ ap (λ (w : List ℕ). root ++ segment (codes "containers") ++ segment w) number) in
    c.in_ok-add_database.ensures ∙ ap (λ (v : List ℕ). v ++ segment (drop 29 digits) ++ segment digits ++ segment digits ++ codes ".db") head
