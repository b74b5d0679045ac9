use Rattle.std.proofs.Common.{◌≡◌, ◌∷◌, ◌↔◌, ℕ, List, true, ◌&&◌, refl, sym, ◌∙◌, subst}
use Rattle.std.proofs.lemmas.Bool.{and_parts}
use Rattle.std.specs.List.{Contains}
use Rattle.std.specs.List.Sorted.{IsStrictlySortedBy}
use Rattle.std.specs.Ordering.{nat_cmp}
use Rattle.sw_suffix.specs.declared.told.SuffixHash.{SuffixHash}
use Rattle.sw_volume.specs.Tree.{contents}
use Rattle.sw_volume.specs.Volume.{Contents, IsFolderIn, ListsAll}
use Rattle.sw_hashdir.specs.Partitions.{AddsHash, AreListedLines, HasFolder, IsSuffixName}
use Rattle.sw_hashdir.specs.Places.{in_order}
use Rattle.sw_hashdir.proofs.Hashes.{HashesSoFar, hash-moved, hashes-are, hashes-next, hashes-start}
use Rattle.sw_hashdir.proofs.Lines.{lines-moved}
use Rattle.sw_hashdir.proofs.Walking.{at_front, lists_then}
use Rattle.sw_hashdir.proofs.comparing.hashes_of.Goals as goal

pub loop-suffix-init : goal.loop-suffix-init
loop-suffix-init g c =
    let v = g.V.Volume in
    let keys : List ℕ = c.into_iter-suffix-iterator.result in
    let gives = c.into_iter-suffix-iterator.ensures.into_iter_gives in
    let sorted : IsStrictlySortedBy nat_cmp keys = subst (λ (ks : List ℕ). IsStrictlySortedBy nat_cmp ks) (sym gives.0) gives.4 in
    record {
      hashes = subst (λ (l : List SuffixHash). HashesSoFar c.args.power c.args.part (v.tells c.args.volume.now ≡ true) (contents (v.holds c.args.volume.now))
          keys keys l) (sym c.new-hashes.ensures.items)
          (hashes-start c.args.power c.args.part (v.tells c.args.volume.now ≡ true) (contents (v.holds c.args.volume.now)) keys sorted);
      same = c.list.ensures.same;
      told = c.list.ensures.told;
      faults = c.in_ok-listing.ensures.cause.kept;
      only_lists = (1, c.list.ensures.calls, c.list.ensures.lists);
    }

pub returns-in_err-add_hash-clause-only_lists : goal.returns-in_err-add_hash-clause-only_lists
returns-in_err-add_hash-clause-only_lists g c =
    let v = g.V.Volume in
    lists_then (v.calls c.args.volume.now) (v.lists c.args.volume.now) (v.calls c.loop-suffix.volume) (v.lists c.loop-suffix.volume)
    (v.calls c.add_hash.new.volume) (v.lists c.add_hash.new.volume)
    c.loop-suffix.invariant.only_lists c.add_hash.ensures.only_lists

-- the keys are those of the folders that are listed
abbrev AreKeys : (folders : List (List ℕ)) (keys : List ℕ) → Type 0
AreKeys folders keys = (suffix : ℕ) → Contains keys suffix ↔ HasFolder IsSuffixName folders suffix

are-keys : (slice folders : List (List ℕ)) (set keys : List ℕ) → AreKeys slice set → slice ≡ folders → keys ≡ set → AreKeys folders keys
are-keys slice folders set keys are names same =
    subst (λ (ks : List ℕ). AreKeys folders ks) (sym same) (subst (λ (ns : List (List ℕ)). AreKeys ns set) names are)

pub add_hash-requires-clause-suffix : goal.add_hash-requires-clause-suffix
add_hash-requires-clause-suffix g c =
    let v = g.V.Volume in
    let keys : List ℕ = c.into_iter-suffix-iterator.result in
    let far : HashesSoFar c.args.power c.args.part (v.tells c.args.volume.now ≡ true) (contents (v.holds c.args.volume.now)) keys
    (c.in-Some.suffix ∷ c.next.new.self) c.loop-suffix.hashes.items =
    subst (λ (left : List ℕ). HashesSoFar c.args.power c.args.part (v.tells c.args.volume.now ≡ true) (contents (v.holds c.args.volume.now)) keys left
    c.loop-suffix.hashes.items) c.in-Some.ensures.steps c.loop-suffix.invariant.hashes in
    let are = are-keys c.as_slice.result.now c.in_ok-listing.listing.folders c.in_ok-suffixes.suffixes.keys keys
    c.in_ok-suffixes.ensures c.as_slice.ensures c.into_iter-suffix-iterator.ensures.into_iter_gives.0 in
    (((are c.in-Some.suffix).0 (far.left c.in-Some.suffix (at_front c.in-Some.suffix c.next.new.self))).2).below

-- one suffix more
pub loop-suffix-preserved : goal.loop-suffix-preserved
loop-suffix-preserved g c =
    let v = g.V.Volume in
    let T : Type 0 = v.tells c.args.volume.now ≡ true in
    let old : Contents = contents (v.holds c.args.volume.now) in
    let now : Contents = contents (v.holds c.loop-suffix.volume) in
    let power : ℕ = c.args.power in
    let part : ℕ = c.args.part in
    let keys : List ℕ = c.into_iter-suffix-iterator.result in
    let suffix : ℕ = c.in-Some.suffix in
    let rest : List ℕ = c.next.new.self in
    let hashes : List SuffixHash = c.loop-suffix.hashes.items in
    let far : HashesSoFar power part T old keys (suffix ∷ rest) hashes =
    subst (λ (left : List ℕ). HashesSoFar power part T old keys left hashes) c.in-Some.ensures.steps c.loop-suffix.invariant.hashes in
    let added : AddsHash power part suffix hashes c.add_hash.new.hashes.items (λ lines. T → AreListedLines power part suffix old lines) =
    hash-moved power part suffix hashes c.add_hash.new.hashes.items
    (λ lines. v.tells c.loop-suffix.volume ≡ true → AreListedLines power part suffix now lines)
    (λ lines. T → AreListedLines power part suffix old lines)
    (λ lines seen told. lines-moved power part suffix old now lines (c.loop-suffix.invariant.same told) (seen (c.loop-suffix.invariant.told ∙ told)))
    c.in_ok-add_hash.ensures.adds in
    record {
      hashes = hashes-next power part T old keys suffix rest hashes c.add_hash.new.hashes.items far added;
      same = λ told d f. c.add_hash.ensures.same (c.loop-suffix.invariant.told ∙ told) d f ∙ c.loop-suffix.invariant.same told d f;
      told = c.add_hash.ensures.told ∙ c.loop-suffix.invariant.told;
      faults = c.in_ok-add_hash.ensures.cause.kept ∙ c.loop-suffix.invariant.faults;
      only_lists =
          lists_then (v.calls c.args.volume.now) (v.lists c.args.volume.now) (v.calls c.loop-suffix.volume) (v.lists c.loop-suffix.volume)
          (v.calls c.add_hash.new.volume) (v.lists c.add_hash.new.volume)
          c.loop-suffix.invariant.only_lists c.add_hash.ensures.only_lists;
    }

pub returns-clause-hashes : goal.returns-clause-hashes
returns-clause-hashes g c = λ secrets.
    let v = g.V.Volume in
    let T : Type 0 = v.tells c.args.volume.now ≡ true in
    let old : Contents = contents (v.holds c.args.volume.now) in
    let keys : List ℕ = c.into_iter-suffix-iterator.result in
    let folders : List (List ℕ) = c.in_ok-listing.listing.folders in
    hashes-are c.args.power c.args.part T old keys folders c.loop-suffix.hashes.items
    (are-keys c.as_slice.result.now folders c.in_ok-suffixes.suffixes.keys keys c.in_ok-suffixes.ensures c.as_slice.ensures
    c.into_iter-suffix-iterator.ensures.into_iter_gives.0)
    (subst (λ (left : List ℕ). HashesSoFar c.args.power c.args.part T old keys left c.loop-suffix.hashes.items) c.in-None.ensures.steps.0
    c.loop-suffix.invariant.hashes)
    (λ told. subst (λ (dir : List ℕ). ListsAll folders (IsFolderIn old dir)) (c.deref.ensures.value ∙ c.in_ok-dir.ensures)
    (c.in_ok-listing.ensures.folders told))
    secrets (v.holds c.args.volume.now) (v.tells c.args.volume.now && in_order secrets c.args.power (v.holds c.args.volume.now)) refl
    (λ told. let both = and_parts (v.tells c.args.volume.now) (in_order secrets c.args.power (v.holds c.args.volume.now)) told in (both.1, both.0))
