use Rattle.std.proofs.Common.{◌≡◌, ◌∷◌, ◌↔◌, ℕ, List, true, ◌&&◌, sym, ◌∙◌, subst}
use Rattle.std.proofs.lemmas.Bool.{and_parts}
use Rattle.std.specs.List.{Contains}
use Rattle.std.specs.List.Sorted.{IsStrictlySortedBy}
use Rattle.std.specs.Cmp.Lexicographic.{slice_cmp}
use Rattle.std.specs.Ordering.{nat_cmp}
use Rattle.sw_suffix.specs.declared.dir_line.DirLine.{DirLine}
use Rattle.sw_volume.specs.Tree.{contents}
use Rattle.sw_volume.specs.Volume.{Contents, IsFolderIn, ListsAll}
use Rattle.sw_hashdir.specs.Partitions.{AddsLine, HasFolder, IsHashName, IsPickedOf}
use Rattle.sw_hashdir.specs.Places.{dir_text, in_order}
use Rattle.sw_hashdir.proofs.Lines.{LinesSoFar, line-moved, lines-are, lines-listed, lines-next, lines-ordered, lines-start, picked-moved}
use Rattle.sw_hashdir.proofs.Walking.{at_front, lists_then}
use Rattle.sw_hashdir.proofs.comparing.lines_of.Goals as goal

pub loop-hash-init : goal.loop-hash-init
loop-hash-init g c =
    let v = g.V.Volume in
    let keys : List (List ℕ) = c.into_iter-hash-iterator.result in
    let gives = c.into_iter-hash-iterator.ensures.into_iter_gives in
    let sorted : IsStrictlySortedBy (slice_cmp nat_cmp) keys = subst (λ (ks : List (List ℕ)). IsStrictlySortedBy (slice_cmp nat_cmp) ks) (sym gives.0) gives.4
    in
    record {
      lines = subst (λ (l : List DirLine). LinesSoFar c.args.power (v.tells c.args.volume.now ≡ true) (contents (v.holds c.args.volume.now)) keys keys l)
          (sym c.new-lines.ensures.items)
          (lines-start c.args.power (v.tells c.args.volume.now ≡ true) (contents (v.holds c.args.volume.now)) keys sorted);
      same = c.list.ensures.same;
      told = c.list.ensures.told;
      faults = c.in_ok-listing.ensures.cause.kept;
      only_lists = (1, c.list.ensures.calls, c.list.ensures.lists);
    }

pub returns-in_err-add_line-clause-only_lists : goal.returns-in_err-add_line-clause-only_lists
returns-in_err-add_line-clause-only_lists g c =
    let v = g.V.Volume in
    lists_then (v.calls c.args.volume.now) (v.lists c.args.volume.now) (v.calls c.loop-hash.volume) (v.lists c.loop-hash.volume)
    (v.calls c.add_line.new.volume) (v.lists c.add_line.new.volume)
    c.loop-hash.invariant.only_lists c.add_line.ensures.only_lists

-- the keys are those of the folders that are listed
abbrev AreKeys : (power part suffix : ℕ) (folders keys : List (List ℕ)) → Type 0
AreKeys power part suffix folders keys = (hash : List ℕ) → Contains keys hash ↔ HasFolder (IsHashName power part suffix) folders hash

are-keys : (power part suffix : ℕ) (slice folders set keys : List (List ℕ)) → AreKeys power part suffix slice set → slice ≡ folders → keys ≡ set
    → AreKeys power part suffix folders keys
are-keys power part suffix slice folders set keys are names same =
    subst (λ (ks : List (List ℕ)). AreKeys power part suffix folders ks) (sym same)
    (subst (λ (ns : List (List ℕ)). AreKeys power part suffix ns set) names are)

-- one hash more
pub loop-hash-preserved : goal.loop-hash-preserved
loop-hash-preserved g c =
    let v = g.V.Volume in
    let T : Type 0 = v.tells c.args.volume.now ≡ true in
    let old : Contents = contents (v.holds c.args.volume.now) in
    let now : Contents = contents (v.holds c.loop-hash.volume) in
    let power : ℕ = c.args.power in
    let keys : List (List ℕ) = c.into_iter-hash-iterator.result in
    let hash : List ℕ = c.in-Some.hash in
    let rest : List (List ℕ) = c.next.new.self in
    let lines : List DirLine = c.loop-hash.lines.items in
    let far : LinesSoFar power T old keys (hash ∷ rest) lines =
    subst (λ (left : List (List ℕ)). LinesSoFar power T old keys left lines) c.in-Some.ensures.steps c.loop-hash.invariant.lines in
    let are = are-keys power c.args.part c.args.suffix c.as_slice.result.now c.in_ok-listing.listing.folders c.in_ok-hashes.hashes.keys keys
    c.in_ok-hashes.ensures c.as_slice.ensures c.into_iter-hash-iterator.ensures.into_iter_gives.0 in
    let named = ((are hash).0 (far.left hash (at_front hash rest))).2 in
    let added : AddsLine hash lines c.add_line.new.lines.items (λ picked. T → IsPickedOf old (dir_text power hash) picked) =
    line-moved hash lines c.add_line.new.lines.items (λ picked. v.tells c.loop-hash.volume ≡ true → IsPickedOf now (dir_text power hash) picked)
    (λ picked. T → IsPickedOf old (dir_text power hash) picked)
    (λ picked seen told. picked-moved old now (dir_text power hash) picked (c.loop-hash.invariant.same told) (seen (c.loop-hash.invariant.told ∙ told)))
    c.in_ok-add_line.ensures.adds in
    record {
      lines = lines-next power T old keys hash rest lines c.add_line.new.lines.items far named.of_part.digest added;
      same = λ told d f. c.add_line.ensures.same (c.loop-hash.invariant.told ∙ told) d f ∙ c.loop-hash.invariant.same told d f;
      told = c.add_line.ensures.told ∙ c.loop-hash.invariant.told;
      faults = c.in_ok-add_line.ensures.cause.kept ∙ c.loop-hash.invariant.faults;
      only_lists =
          lists_then (v.calls c.args.volume.now) (v.lists c.args.volume.now) (v.calls c.loop-hash.volume) (v.lists c.loop-hash.volume)
          (v.calls c.add_line.new.volume) (v.lists c.add_line.new.volume)
          c.loop-hash.invariant.only_lists c.add_line.ensures.only_lists;
    }

pub returns-clause-ordered : goal.returns-clause-ordered
returns-clause-ordered g c =
    let v = g.V.Volume in
    let T : Type 0 = v.tells c.args.volume.now ≡ true in
    let old : Contents = contents (v.holds c.args.volume.now) in
    let keys : List (List ℕ) = c.into_iter-hash-iterator.result in
    let folders : List (List ℕ) = c.in_ok-listing.listing.folders in
    lines-ordered c.args.power c.args.part c.args.suffix T old keys folders c.loop-hash.lines.items
    (are-keys c.args.power c.args.part c.args.suffix c.as_slice.result.now folders c.in_ok-hashes.hashes.keys keys c.in_ok-hashes.ensures c.as_slice.ensures
    c.into_iter-hash-iterator.ensures.into_iter_gives.0)
    (subst (λ (left : List (List ℕ)). LinesSoFar c.args.power T old keys left c.loop-hash.lines.items) c.in-None.ensures.steps.0 c.loop-hash.invariant.lines)

pub returns-clause-listed : goal.returns-clause-listed
returns-clause-listed g c = λ told.
    let v = g.V.Volume in
    let T : Type 0 = v.tells c.args.volume.now ≡ true in
    let old : Contents = contents (v.holds c.args.volume.now) in
    let keys : List (List ℕ) = c.into_iter-hash-iterator.result in
    let folders : List (List ℕ) = c.in_ok-listing.listing.folders in
    lines-listed c.args.power c.args.part c.args.suffix T old keys folders c.loop-hash.lines.items
    (are-keys c.args.power c.args.part c.args.suffix c.as_slice.result.now folders c.in_ok-hashes.hashes.keys keys c.in_ok-hashes.ensures c.as_slice.ensures
    c.into_iter-hash-iterator.ensures.into_iter_gives.0)
    (subst (λ (left : List (List ℕ)). LinesSoFar c.args.power T old keys left c.loop-hash.lines.items) c.in-None.ensures.steps.0 c.loop-hash.invariant.lines)
    told
    (subst (λ (dir : List ℕ). ListsAll folders (IsFolderIn old dir)) (c.deref.ensures.value ∙ c.in_ok-dir.ensures) (c.in_ok-listing.ensures.folders told))

pub returns-clause-lines : goal.returns-clause-lines
returns-clause-lines g c = λ secrets.
    let v = g.V.Volume in
    lines-are secrets c.args.power c.args.part c.args.suffix (v.holds c.args.volume.now)
    (v.tells c.args.volume.now && in_order secrets c.args.power (v.holds c.args.volume.now)) c.loop-hash.lines.items (returns-clause-ordered g c)
    (λ told. let both = and_parts (v.tells c.args.volume.now) (in_order secrets c.args.power (v.holds c.args.volume.now)) told in
    (both.1, returns-clause-listed g c both.0))
