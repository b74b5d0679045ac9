use Rattle.std.proofs.Common.{◌≡◌, ◌+◌, ◌++◌, ◌∷◌, [], ◌↔◌, ℕ, List, ap, sym, ◌∙◌, subst, take, refl}
use Rattle.std.proofs.lemmas.List.{take_all, take_more}
use Rattle.std.specs.List.{Contains}
use Rattle.std.specs.Ordering.{nat_cmp}
use Rattle.sw_hashdir.specs.Partitions.{HasFolder, IsSuffixName}
use Rattle.sw_hashdir.proofs.Digits.{one-suffix}
use Rattle.sw_hashdir.proofs.Folders.{keys-more, keys-same, nat_same}
use Rattle.sw_hashdir.proofs.folder.suffixes_named.Goals as goal
use Rattle.sw_hashdir.proofs.folder.suffixes_named.Goals.{in-Some+in_ok-insert, in_default}

-- one folder more
pub loop-folder-preserved : goal.loop-folder-preserved
loop-folder-preserved c =
    let folders : List (List ℕ) = c.args.folders.now in
    let front : List (List ℕ) = take c.loop-folder.folder-index folders in
    let folder : List ℕ = c.folder-item.result in
    let more : take (c.loop-folder.folder-index + 1) folders ≡ front ++ folder ∷ [] =
    take_more folders c.loop-folder.folder-index folder c.loop-folder-test.true ∙ ap (λ x. front ++ x ∷ []) (sym c.folder-item.is) in
    λ key. subst (λ (names : List (List ℕ)). Contains c.match-suffix_named.set.keys key ↔ HasFolder IsSuffixName names key) (sym more)
    (elim c.match-suffix_named.branch [
      | in-Some+in_ok-insert w ↦
          let named : IsSuffixName folder w.in-Some.suffix = subst (λ (n : List ℕ). IsSuffixName n w.in-Some.suffix) c.as_slice.ensures w.in-Some.ensures.some
          in
          subst (λ (ks : List ℕ). Contains ks key ↔ HasFolder IsSuffixName (front ++ folder ∷ []) key)
          (sym (ap (λ s. s.keys) w.set-is ∙ w.in_ok-insert.ensures.keys))
          (keys-more IsSuffixName front folder nat_cmp nat_same c.loop-folder.set.keys w.in-Some.suffix c.loop-folder.invariant named
          (λ other is. one-suffix folder w.in-Some.suffix other named is) key)
      | in_default w ↦
          subst (λ (ks : List ℕ). Contains ks key ↔ HasFolder IsSuffixName (front ++ folder ∷ []) key) (sym (ap (λ s. s.keys) w.set-is))
          (keys-same IsSuffixName front folder c.loop-folder.set.keys c.loop-folder.invariant
          (λ other is. w.in_default.ensures.none refl other (subst (λ (n : List ℕ). IsSuffixName n other) (sym c.as_slice.ensures) is)) key)
    ])

pub returns : goal.returns
returns c =
    subst (λ (names : List (List ℕ)). (key : ℕ) → Contains c.loop-folder.set.keys key ↔ HasFolder IsSuffixName names key)
    (take_all c.loop-folder.folder-index c.args.folders.now c.loop-folder-test.false) c.loop-folder.invariant
