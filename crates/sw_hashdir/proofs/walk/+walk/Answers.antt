use Rattle.std.proofs.Common.{◌≡◌, ℕ, List, [], ◌∷◌, ◌+◌, ◌-◌, ◌++◌, suc, take, sym, ◌∙◌, ap, subst, arith}
use Rattle.std.proofs.lemmas.List.{take_all, take_more}
use Rattle.sw_volume.specs.Tree.{contents}
use Rattle.sw_volume.specs.Volume.{Contents}
use Rattle.sw_hashdir.specs.Walks.{Adds, IsNamedIn, IsPathWithin}
use Rattle.sw_hashdir.proofs.Walking.{IsAlong, adds_moved, adds_then, along_more, lists_then, walked_last, walked_on}
use Rattle.sw_hashdir.proofs.walk.+walk.Goals as goal

pub returns-then-levels-eq0-clause-adds : goal.returns-then-levels-eq0-clause-adds
returns-then-levels-eq0-clause-adds g t c = λ told.
    let v = g.V.Volume in
    walked_last (contents (v.holds c.args.volume.now)) c.args.dir.now c.in_ok-listing.listing.files
    (c.in_ok-listing.ensures.files told) c.args.found.now c.add_each.new.found c.args.levels c.if-levels-eq0.true
    (subst (λ (names : List (List ℕ)). Adds c.args.found.now c.add_each.new.found (IsNamedIn c.args.dir.now names)) c.as_slice.ensures c.in_ok-add_each.ensures)

pub returns-in_err-walk-clause-only_lists : goal.returns-in_err-walk-clause-only_lists
returns-in_err-walk-clause-only_lists g t c =
    let v = g.V.Volume in
    lists_then (v.calls c.args.volume.now) (v.lists c.args.volume.now) (v.calls c.loop-folder.volume) (v.lists c.loop-folder.volume)
    (v.calls c.walk.new.volume) (v.lists c.walk.new.volume)
    c.loop-folder.invariant.only_lists c.walk.ensures.only_lists

-- one folder more
pub loop-folder-preserved : goal.loop-folder-preserved
loop-folder-preserved g t c =
    let v = g.V.Volume in
    let holds : Contents = contents (v.holds c.args.volume.now) in
    let dir : List ℕ = c.args.dir.now in
    let below : ℕ = c.args.levels - 1 in
    let folders : List (List ℕ) = c.as_slice-folder-items.result.now in
    let front : List (List ℕ) = take c.loop-folder.folder-index folders in
    let folder : List ℕ = c.folder-item.result in
    let more : take (c.loop-folder.folder-index + 1) folders ≡ front ++ folder ∷ [] =
    take_more folders c.loop-folder.folder-index folder c.loop-folder-test.true ∙ ap (λ x. front ++ x ∷ []) (sym c.folder-item.is) in
    let path : c.deref.result.now ≡ dir ++ 47 ∷ folder = c.deref.ensures.value ∙ c.in_ok-below.ensures
    ∙ ap (λ n. dir ++ 47 ∷ n) c.as_slice-in-loop-folder.ensures in
    record {
      adds = λ told.
          let added : Adds c.loop-folder.found c.walk.new.found (IsPathWithin holds below (dir ++ 47 ∷ folder)) =
          adds_moved c.loop-folder.found c.walk.new.found holds (contents (v.holds c.loop-folder.volume)) below (dir ++ 47 ∷ folder)
          (c.loop-folder.invariant.same told)
          (subst (λ (d : List ℕ). Adds c.loop-folder.found c.walk.new.found (IsPathWithin (contents (v.holds c.loop-folder.volume)) below d)) path
          (c.in_ok-walk.ensures.adds (c.loop-folder.invariant.told ∙ told))) in
          subst (λ (names : List (List ℕ)). Adds c.add_each.new.found c.walk.new.found (IsAlong holds below dir names)) (sym more)
          (adds_then c.add_each.new.found c.loop-folder.found c.walk.new.found (IsAlong holds below dir front) (IsPathWithin holds below (dir ++ 47 ∷ folder))
          (IsAlong holds below dir (front ++ folder ∷ []))
          (c.loop-folder.invariant.adds told) added (along_more holds below dir front folder));
      same = λ told d f. c.walk.ensures.same (c.loop-folder.invariant.told ∙ told) d f ∙ c.loop-folder.invariant.same told d f;
      told = c.walk.ensures.told ∙ c.loop-folder.invariant.told;
      faults = c.in_ok-walk.ensures.cause.kept ∙ c.loop-folder.invariant.faults;
      only_lists =
          lists_then (v.calls c.args.volume.now) (v.lists c.args.volume.now) (v.calls c.loop-folder.volume) (v.lists c.loop-folder.volume)
          (v.calls c.walk.new.volume) (v.lists c.walk.new.volume)
          c.loop-folder.invariant.only_lists c.walk.ensures.only_lists;
    }

pub returns-clause-adds : goal.returns-clause-adds
returns-clause-adds g t c = λ told.
    let v = g.V.Volume in
    let holds : Contents = contents (v.holds c.args.volume.now) in
    let dir : List ℕ = c.args.dir.now in
    let levels : c.args.levels ≡ suc (c.args.levels - 1) = let some = c.if-levels-eq0.false in omega (arith, some) in
    let all : take c.loop-folder.folder-index c.as_slice-folder-items.result.now ≡ c.in_ok-listing.listing.folders =
    take_all c.loop-folder.folder-index c.as_slice-folder-items.result.now c.loop-folder-test.false ∙ c.as_slice-folder-items.ensures in
    walked_on holds dir c.in_ok-listing.listing.files (c.in_ok-listing.ensures.files told) c.args.found.now c.add_each.new.found c.loop-folder.found
    c.in_ok-listing.listing.folders c.args.levels (c.args.levels - 1)
    (c.in_ok-listing.ensures.folders told) levels
    (subst (λ (names : List (List ℕ)). Adds c.args.found.now c.add_each.new.found (IsNamedIn dir names)) c.as_slice.ensures c.in_ok-add_each.ensures)
    (subst (λ (names : List (List ℕ)). Adds c.add_each.new.found c.loop-folder.found (IsAlong holds (c.args.levels - 1) dir names)) all
    (c.loop-folder.invariant.adds told))
