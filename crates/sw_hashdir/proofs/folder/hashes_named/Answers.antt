use Rattle.std.proofs.Common.{◌≡◌, ◌+◌, ◌++◌, ◌∷◌, [], ◌↔◌, ℕ, List, ap, sym, ◌∙◌, subst, take, refl}
use Rattle.std.proofs.lemmas.List.{take_all, take_more}
use Rattle.std.specs.List.{Contains}
use Rattle.std.specs.Cmp.Lexicographic.{slice_cmp}
use Rattle.std.specs.Ordering.{nat_cmp}
use Rattle.sw_hashdir.specs.Partitions.{HasFolder, IsHashName}
use Rattle.sw_hashdir.proofs.Digits.{one-hash}
use Rattle.sw_hashdir.proofs.Folders.{keys-more, keys-same, list_same}
use Rattle.sw_hashdir.proofs.folder.hashes_named.Goals as goal
use Rattle.sw_hashdir.proofs.folder.hashes_named.Goals.{in-Some+in_ok-insert, in_default}

-- one folder more
pub loop-folder-preserved : goal.loop-folder-preserved
loop-folder-preserved c =
    let folders : List (List ℕ) = c.args.folders.now in
    let front : List (List ℕ) = take c.loop-folder.folder-index folders in
    let folder : List ℕ = c.folder-item.result in
    let more : take (c.loop-folder.folder-index + 1) folders ≡ front ++ folder ∷ [] =
    take_more folders c.loop-folder.folder-index folder c.loop-folder-test.true ∙ ap (λ x. front ++ x ∷ []) (sym c.folder-item.is) in
    λ key. subst (λ (names : List (List ℕ)). Contains c.match-hash_named.set.keys key ↔ HasFolder (IsHashName c.args.power c.args.part c.args.suffix) names key)
    (sym more)
    (elim c.match-hash_named.branch [
      | in-Some+in_ok-insert w ↦
          let named : IsHashName c.args.power c.args.part c.args.suffix folder w.in-Some.hash =
          subst (λ (n : List ℕ). IsHashName c.args.power c.args.part c.args.suffix n w.in-Some.hash) c.as_slice.ensures w.in-Some.ensures.some in
          subst (λ (ks : List (List ℕ)). Contains ks key ↔ HasFolder (IsHashName c.args.power c.args.part c.args.suffix) (front ++ folder ∷ []) key)
          (sym (ap (λ s. s.keys) w.set-is ∙ w.in_ok-insert.ensures.keys))
          (keys-more (IsHashName c.args.power c.args.part c.args.suffix) front folder (slice_cmp nat_cmp) list_same c.loop-folder.set.keys w.in-Some.hash
          c.loop-folder.invariant named
          (λ other is. one-hash c.args.power c.args.part c.args.suffix folder w.in-Some.hash other named is) key)
      | in_default w ↦
          subst (λ (ks : List (List ℕ)). Contains ks key ↔ HasFolder (IsHashName c.args.power c.args.part c.args.suffix) (front ++ folder ∷ []) key)
          (sym (ap (λ s. s.keys) w.set-is))
          (keys-same (IsHashName c.args.power c.args.part c.args.suffix) front folder c.loop-folder.set.keys c.loop-folder.invariant
          (λ other is. w.in_default.ensures.none refl other (subst (λ (n : List ℕ). IsHashName c.args.power c.args.part c.args.suffix n other)
          (sym c.as_slice.ensures) is)) key)
    ])

pub returns : goal.returns
returns c =
    subst (λ (names : List (List ℕ)). (key : (List ℕ)) → Contains c.loop-folder.set.keys key ↔ HasFolder (IsHashName c.args.power c.args.part c.args.suffix)
    names key)
    (take_all c.loop-folder.folder-index c.args.folders.now c.loop-folder-test.false) c.loop-folder.invariant
