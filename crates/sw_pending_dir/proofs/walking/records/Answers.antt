use Rattle.std.proofs.Common.{◌≡◌, ℕ, suc, ◌+◌, inl, inr, refl, true, List, [], ◌∷◌, ◌++◌, drop, take, codes, Some, sym, ◌∙◌, ap, subst}
use Rattle.std.proofs.lemmas.List.{take_more}
use Rattle.std.proofs.lemmas.Result.{err_from_is_err_and}
use Rattle.std.specs.Cmp.Lexicographic.{slice_cmp}
use Rattle.std.specs.List.Sorted.{IsStrictlySortedBy}
use Rattle.std.specs.Ordering.{nat_cmp}
use Rattle.std.specs.declared.alloc.Global.{Global}
use Rattle.std.specs.declared.vec.Vec.{Vec}
use Rattle.sw_hashpath.specs.declared.decode_error.BadFile.{BadFile}
use Rattle.sw_pending.specs.declared.filed.Filed.{Filed}
use Rattle.sw_volume.specs.Tree.{Folders, contents}
use Rattle.sw_volume.specs.Volume.{Contents, IsFolderIn, ListsAll}
use Rattle.sw_pending_dir.specs.Places.{AllRecordsInOrder}
use Rattle.sw_pending_dir.specs.Walks.{AddsRecords, IsFirstDamage, IsFolderDamage, suffix_folder}
use Rattle.sw_pending_dir.proofs.Results.{if-damaged-again}
use Rattle.sw_pending_dir.proofs.AllFolders.{Walked, folder-is, lists-each, lists-one-more, reads-none, reads-some, walk-all, walked-more, walked-passed}
use Rattle.sw_pending_dir.proofs.AllFolders.{walked-start}
use Rattle.sw_pending_dir.proofs.AllFolders.{calls-more, first-disorder, lists-more, walk-damage}
use Rattle.sw_pending_dir.proofs.FolderReading.{adds-moved, all-moved, folder-damage-moved, listed-sorted}
use Rattle.sw_pending_dir.proofs.Lists.{drop-more, drop-none, listed-again}
use Rattle.sw_pending_dir.proofs.walking.records.Goals as goal
use Rattle.sw_pending_dir.proofs.walking.records.Goals.{in-Some+in_ok-add_records, in_default}

pub returns-in_err-listing-clause-calls : goal.returns-in_err-listing-clause-calls
returns-in_err-listing-clause-calls g c =
    let exit = err_from_is_err_and c.from_residual.result c.from_residual.ensures.1 in
    rw (exit.1) (
      0,
      0,
      c.list.ensures.calls,
      c.list.ensures.lists,
      λ told. (
        inl refl,
        reads-none c.args.secrets.now (contents
            (g.V.Volume.holds c.args.volume.now)),
      ),
    )

pub returns-in_err-suffixes-clause-calls : goal.returns-in_err-suffixes-clause-calls
returns-in_err-suffixes-clause-calls g c =
    let exit = err_from_is_err_and c.from_residual-in_err-suffixes.result c.from_residual-in_err-suffixes.ensures.1 in
    rw (exit.1) (
      0,
      0,
      c.list.ensures.calls,
      c.list.ensures.lists,
      λ told. (
        inl refl,
        reads-none c.args.secrets.now (contents
            (g.V.Volume.holds c.args.volume.now)),
      ),
    )

pub loop-name-init : goal.loop-name-init
loop-name-init g c =
    let v = g.V.Volume in
    let T : Type 0 = v.tells c.args.volume.now ≡ true in
    let old : Contents = contents (v.holds c.args.volume.now) in
    let names : List (List ℕ) = c.as_slice-name-items.result.now in
    record {
      walked = subst (λ (l : List Filed). Walked T c.args.secrets.now old [] names l (v.calls c.args.volume.now) (v.lists c.args.volume.now)
          (v.calls c.list.new.self) (v.lists c.list.new.self)) (sym c.new-found.ensures.items)
          (walked-start T c.args.secrets.now old (v.calls c.args.volume.now) (v.lists c.args.volume.now) names (v.calls c.list.new.self)
          (v.lists c.list.new.self)
          c.list.ensures.calls c.list.ensures.lists);
      same = c.list.ensures.same;
      told = c.list.ensures.told;
      faults = c.in_ok-listing.ensures.cause.kept;
    }

-- one folder more
pub loop-name-preserved : goal.loop-name-preserved
loop-name-preserved g c =
    let v = g.V.Volume in
    let T : Type 0 = v.tells c.args.volume.now ≡ true in
    let old : Contents = contents (v.holds c.args.volume.now) in
    let now : Contents = contents (v.holds c.loop-name.volume) in
    let secrets = c.args.secrets.now in
    let calls : ℕ = v.calls c.args.volume.now in
    let lists : ℕ = v.lists c.args.volume.now in
    let names : List (List ℕ) = c.as_slice-name-items.result.now in
    let i : ℕ = c.loop-name.name-index in
    let front : List (List ℕ) = take i names in
    let rest : List (List ℕ) = drop (i + 1) names in
    let name : List ℕ = c.name-item.result in
    let more : take (i + 1) names ≡ front ++ name ∷ [] =
    take_more names i name c.loop-name-test.true ∙ ap (λ x. front ++ x ∷ []) (sym c.name-item.is) in
    let split : drop i names ≡ name ∷ rest = drop-more names i name c.loop-name-test.true c.name-item.is in
    let found : List Filed = c.loop-name.found.items in
    let walked : Walked T secrets old front (name ∷ rest) found calls lists (v.calls c.loop-name.volume) (v.lists c.loop-name.volume) =
    subst (λ (l : List (List ℕ)). Walked T secrets old front l found calls lists (v.calls c.loop-name.volume) (v.lists c.loop-name.volume)) split
    c.loop-name.invariant.walked in
    let whole : names ≡ front ++ name ∷ rest = listed-again names i ∙ ap (λ (l : List (List ℕ)). front ++ l) split in
    let sorted : IsStrictlySortedBy (slice_cmp nat_cmp) (front ++ name ∷ rest) =
    subst (λ (l : List (List ℕ)). IsStrictlySortedBy (slice_cmp nat_cmp) l) (sym c.as_slice-name-items.ensures ∙ whole) c.in_ok-suffixes.ensures.ascending in
    let named : c.suffix_folder.result ≡ suffix_folder name = c.suffix_folder.ensures ∙ ap suffix_folder c.as_slice-in-loop-name.ensures in
    elim c.match-suffix_folder.branch [
      | in-Some+in_ok-add_records w ↦
          let dir : List ℕ = w.in-Some.dir in
          let e : suffix_folder name ≡ Some dir = sym named ∙ w.in-Some.is in
          let new : List Filed = w.add_records.new.found.items in
          let adds : AddsRecords T secrets old dir found new =
          adds-moved secrets old now dir (v.tells c.loop-name.volume ≡ true) T (λ told. c.loop-name.invariant.told ∙ told)
          c.loop-name.invariant.same found new w.add_records.ensures.adds in
          rw (w.volume-is, w.found-is) (record {
            walked = subst (λ (l : List (List ℕ)). Walked T secrets old l rest new calls lists (v.calls w.add_records.new.volume)
                (v.lists w.add_records.new.volume))
                (sym more)
                (walked-more T secrets old calls lists front rest name found (v.calls c.loop-name.volume) (v.lists c.loop-name.volume) walked dir e new adds
                w.in_ok-add_records.ensures.calls.0 (v.calls w.add_records.new.volume) (v.lists w.add_records.new.volume) sorted
                (λ told. all-moved secrets old now dir (c.loop-name.invariant.same told) new
                (w.in_ok-add_records.ensures.all (c.loop-name.invariant.told ∙ told)))
                (λ told. w.in_ok-add_records.ensures.calls.2 (c.loop-name.invariant.told ∙ told))
                w.in_ok-add_records.ensures.calls.1 w.add_records.ensures.lists);
            same = λ told d f. w.add_records.ensures.same (c.loop-name.invariant.told ∙ told) d f ∙ c.loop-name.invariant.same told d f;
            told = w.add_records.ensures.told ∙ c.loop-name.invariant.told;
            faults = w.in_ok-add_records.ensures.kept ∙ c.loop-name.invariant.faults;
          })
      | in_default w ↦
          rw (w.volume-is, w.found-is) (record {
            walked = subst (λ (l : List (List ℕ)). Walked T secrets old l rest found calls lists (v.calls c.loop-name.volume)
                (v.lists c.loop-name.volume)) (sym more)
                (walked-passed T secrets old calls lists front rest name found (v.calls c.loop-name.volume) (v.lists c.loop-name.volume) walked
                (sym named ∙ w.in_default.is));
            same = c.loop-name.invariant.same;
            told = c.loop-name.invariant.told;
            faults = c.loop-name.invariant.faults;
          })
    ]

pub returns-in_err-add_records-clause-calls : goal.returns-in_err-add_records-clause-calls
returns-in_err-add_records-clause-calls g c =
    let v = g.V.Volume in
    let T : Type 0 = v.tells c.args.volume.now ≡ true in
    let folders : Folders = v.holds c.args.volume.now in
    let old : Contents = contents folders in
    let now : Contents = contents (v.holds c.loop-name.volume) in
    let secrets = c.args.secrets.now in
    let calls : ℕ = v.calls c.args.volume.now in
    let lists : ℕ = v.lists c.args.volume.now in
    let names : List (List ℕ) = c.as_slice-name-items.result.now in
    let i : ℕ = c.loop-name.name-index in
    let front : List (List ℕ) = take i names in
    let rest : List (List ℕ) = drop (i + 1) names in
    let name : List ℕ = c.name-item.result in
    let split : drop i names ≡ name ∷ rest = drop-more names i name c.loop-name-test.true c.name-item.is in
    let found : List Filed = c.loop-name.found.items in
    let walked : Walked T secrets old front (name ∷ rest) found calls lists (v.calls c.loop-name.volume) (v.lists c.loop-name.volume) =
    subst (λ (l : List (List ℕ)). Walked T secrets old front l found calls lists (v.calls c.loop-name.volume) (v.lists c.loop-name.volume)) split
    c.loop-name.invariant.walked in
    let whole : names ≡ front ++ name ∷ rest = listed-again names i ∙ ap (λ (l : List (List ℕ)). front ++ l) split in
    let dir : List ℕ = c.in-Some.dir in
    let e : suffix_folder name ≡ Some dir = sym (c.suffix_folder.ensures ∙ ap suffix_folder c.as_slice-in-loop-name.ensures) ∙ c.in-Some.is in
    let listed : T → ListsAll names (IsFolderIn old (codes "async_pending")) = λ told.
    listed-sorted (IsFolderIn old (codes "async_pending")) c.in_ok-listing.listing.folders c.as_slice.result.now c.in_ok-suffixes.suffixes names
    c.as_slice.ensures c.as_slice-name-items.ensures (c.in_ok-listing.ensures.folders told) c.in_ok-suffixes.ensures.ascending
    c.in_ok-suffixes.ensures.all in
    let exit = err_from_is_err_and c.from_residual-in_err-add_records.result c.from_residual-in_err-add_records.ensures.1 in
    let new : List Filed = c.add_records.new.found.items in
    let adds : AddsRecords T secrets old dir found new =
    adds-moved secrets old now dir (v.tells c.loop-name.volume ≡ true) T (λ told. c.loop-name.invariant.told ∙ told)
    c.loop-name.invariant.same found new c.add_records.ensures.adds in
    let reads : ℕ = c.in_err-add_records.ensures.calls.0 in
    rw (exit.1) (
      suc walked.folders,
      walked.reads + reads,
      calls-more T secrets old calls lists front rest name found (v.calls c.loop-name.volume) (v.lists c.loop-name.volume) walked reads
          (v.calls c.add_records.new.volume) c.in_err-add_records.ensures.calls.1,
      lists-more T secrets old calls lists front rest name found (v.calls c.loop-name.volume) (v.lists c.loop-name.volume) walked
          (v.lists c.add_records.new.volume) c.add_records.ensures.lists,
      λ told. (
        inr (lists-one-more T secrets old names (listed told).ascending (listed told).exact front rest name walked.folders whole (folder-is name dir e).0
            walked.far.listed),
        reads-some T secrets old calls lists front rest name found (v.calls c.loop-name.volume) (v.lists c.loop-name.volume) walked dir e new adds reads told
            (c.in_err-add_records.ensures.calls.2 (c.loop-name.invariant.told ∙ told)),
      ),
    )

pub returns-in_err-add_records-clause-damaged : goal.returns-in_err-add_records-clause-damaged
returns-in_err-add_records-clause-damaged g c =
    let v = g.V.Volume in
    let T : Type 0 = v.tells c.args.volume.now ≡ true in
    let folders : Folders = v.holds c.args.volume.now in
    let old : Contents = contents folders in
    let now : Contents = contents (v.holds c.loop-name.volume) in
    let secrets = c.args.secrets.now in
    let calls : ℕ = v.calls c.args.volume.now in
    let lists : ℕ = v.lists c.args.volume.now in
    let names : List (List ℕ) = c.as_slice-name-items.result.now in
    let i : ℕ = c.loop-name.name-index in
    let front : List (List ℕ) = take i names in
    let rest : List (List ℕ) = drop (i + 1) names in
    let name : List ℕ = c.name-item.result in
    let split : drop i names ≡ name ∷ rest = drop-more names i name c.loop-name-test.true c.name-item.is in
    let found : List Filed = c.loop-name.found.items in
    let walked : Walked T secrets old front (name ∷ rest) found calls lists (v.calls c.loop-name.volume) (v.lists c.loop-name.volume) =
    subst (λ (l : List (List ℕ)). Walked T secrets old front l found calls lists (v.calls c.loop-name.volume) (v.lists c.loop-name.volume)) split
    c.loop-name.invariant.walked in
    let whole : names ≡ front ++ name ∷ rest = listed-again names i ∙ ap (λ (l : List (List ℕ)). front ++ l) split in
    let dir : List ℕ = c.in-Some.dir in
    let e : suffix_folder name ≡ Some dir = sym (c.suffix_folder.ensures ∙ ap suffix_folder c.as_slice-in-loop-name.ensures) ∙ c.in-Some.is in
    let listed : T → ListsAll names (IsFolderIn old (codes "async_pending")) = λ told.
    listed-sorted (IsFolderIn old (codes "async_pending")) c.in_ok-listing.listing.folders c.as_slice.result.now c.in_ok-suffixes.suffixes names
    c.as_slice.ensures c.as_slice-name-items.ensures (c.in_ok-listing.ensures.folders told) c.in_ok-suffixes.ensures.ascending
    c.in_ok-suffixes.ensures.all in
    let exit = err_from_is_err_and c.from_residual-in_err-add_records.result c.from_residual-in_err-add_records.ensures.1 in
    let first : (bad : BadFile) → (v.tells c.loop-name.volume ≡ true → IsFolderDamage secrets now dir bad) → T → IsFirstDamage secrets old bad =
    λ bad damage told. walk-damage T secrets old names (listed told).ascending (listed told).exact front rest name found walked.folders walked.reads walked.far
    whole bad told
    (subst (λ (d : List ℕ). IsFolderDamage secrets old d bad) (sym (folder-is name dir e).1)
    (folder-damage-moved secrets old now dir (c.loop-name.invariant.same told) bad (damage (c.loop-name.invariant.told ∙ told)))) in
    let P : BadFile → Type 0 = λ bad. v.tells c.loop-name.volume ≡ true → IsFolderDamage secrets now dir bad in
    rw (exit.1, exit.2) (if-damaged-again (Unit {0}) (Vec Filed Global) P (λ bad. T → IsFirstDamage secrets old bad) first
    c.in_err-add_records.field-0.0 c.in_err-add_records.ensures.damaged)

pub returns-in_err-add_records-clause-disorder : goal.returns-in_err-add_records-clause-disorder
returns-in_err-add_records-clause-disorder g c =
    let v = g.V.Volume in
    let T : Type 0 = v.tells c.args.volume.now ≡ true in
    let folders : Folders = v.holds c.args.volume.now in
    let old : Contents = contents folders in
    let now : Contents = contents (v.holds c.loop-name.volume) in
    let secrets = c.args.secrets.now in
    let calls : ℕ = v.calls c.args.volume.now in
    let lists : ℕ = v.lists c.args.volume.now in
    let names : List (List ℕ) = c.as_slice-name-items.result.now in
    let i : ℕ = c.loop-name.name-index in
    let front : List (List ℕ) = take i names in
    let rest : List (List ℕ) = drop (i + 1) names in
    let name : List ℕ = c.name-item.result in
    let split : drop i names ≡ name ∷ rest = drop-more names i name c.loop-name-test.true c.name-item.is in
    let found : List Filed = c.loop-name.found.items in
    let walked : Walked T secrets old front (name ∷ rest) found calls lists (v.calls c.loop-name.volume) (v.lists c.loop-name.volume) =
    subst (λ (l : List (List ℕ)). Walked T secrets old front l found calls lists (v.calls c.loop-name.volume) (v.lists c.loop-name.volume)) split
    c.loop-name.invariant.walked in
    let whole : names ≡ front ++ name ∷ rest = listed-again names i ∙ ap (λ (l : List (List ℕ)). front ++ l) split in
    let dir : List ℕ = c.in-Some.dir in
    let e : suffix_folder name ≡ Some dir = sym (c.suffix_folder.ensures ∙ ap suffix_folder c.as_slice-in-loop-name.ensures) ∙ c.in-Some.is in
    let listed : T → ListsAll names (IsFolderIn old (codes "async_pending")) = λ told.
    listed-sorted (IsFolderIn old (codes "async_pending")) c.in_ok-listing.listing.folders c.as_slice.result.now c.in_ok-suffixes.suffixes names
    c.as_slice.ensures c.as_slice-name-items.ensures (c.in_ok-listing.ensures.folders told) c.in_ok-suffixes.ensures.ascending
    c.in_ok-suffixes.ensures.all in
    let exit = err_from_is_err_and c.from_residual-in_err-add_records.result c.from_residual-in_err-add_records.ensures.1 in
    let first : (bad : BadFile) → (v.tells c.loop-name.volume ≡ true → IsFolderDamage secrets now dir bad) → T → IsFirstDamage secrets old bad =
    λ bad damage told. walk-damage T secrets old names (listed told).ascending (listed told).exact front rest name found walked.folders walked.reads walked.far
    whole bad told
    (subst (λ (d : List ℕ). IsFolderDamage secrets old d bad) (sym (folder-is name dir e).1)
    (folder-damage-moved secrets old now dir (c.loop-name.invariant.same told) bad (damage (c.loop-name.invariant.told ∙ told)))) in
    let P : BadFile → Type 0 = λ bad. v.tells c.loop-name.volume ≡ true → IsFolderDamage secrets now dir bad in
    rw (exit.1, exit.2) (if-damaged-again (Unit {0}) (Vec Filed Global) P (λ bad. T → ¬ (AllRecordsInOrder secrets folders))
    (λ bad damage told. first-disorder secrets folders bad (first bad damage told))
    c.in_err-add_records.field-0.0 c.in_err-add_records.ensures.damaged)

pub returns-clause-ordered : goal.returns-clause-ordered
returns-clause-ordered g c = c.loop-name.invariant.walked.far.ascending

pub returns-clause-sound : goal.returns-clause-sound
returns-clause-sound g c = c.loop-name.invariant.walked.far.sound

pub returns-clause-records : goal.returns-clause-records
returns-clause-records g c = λ told.
    let v = g.V.Volume in
    let T : Type 0 = v.tells c.args.volume.now ≡ true in
    let old : Contents = contents (v.holds c.args.volume.now) in
    let names : List (List ℕ) = c.as_slice-name-items.result.now in
    let i : ℕ = c.loop-name.name-index in
    let listed : ListsAll names (IsFolderIn old (codes "async_pending")) =
    listed-sorted (IsFolderIn old (codes "async_pending")) c.in_ok-listing.listing.folders c.as_slice.result.now c.in_ok-suffixes.suffixes names
    c.as_slice.ensures c.as_slice-name-items.ensures (c.in_ok-listing.ensures.folders told) c.in_ok-suffixes.ensures.ascending c.in_ok-suffixes.ensures.all in
    walk-all T c.args.secrets.now old names listed.ascending listed.exact c.loop-name.found.items c.loop-name.invariant.walked.folders
    c.loop-name.invariant.walked.reads (take i names) (drop i names) c.loop-name.invariant.walked.far (listed-again names i)
    (drop-none names i c.loop-name-test.false) told (v.holds c.args.volume.now) refl

pub returns-clause-calls : goal.returns-clause-calls
returns-clause-calls g c =
    let v = g.V.Volume in
    let T : Type 0 = v.tells c.args.volume.now ≡ true in
    let old : Contents = contents (v.holds c.args.volume.now) in
    let names : List (List ℕ) = c.as_slice-name-items.result.now in
    let i : ℕ = c.loop-name.name-index in
    let walked = c.loop-name.invariant.walked in (
      walked.folders,
      walked.reads,
      walked.calls_are,
      walked.lists_are,
      λ told.
          let listed : ListsAll names (IsFolderIn old (codes "async_pending")) =
          listed-sorted (IsFolderIn old (codes "async_pending")) c.in_ok-listing.listing.folders c.as_slice.result.now c.in_ok-suffixes.suffixes names
          c.as_slice.ensures c.as_slice-name-items.ensures (c.in_ok-listing.ensures.folders told) c.in_ok-suffixes.ensures.ascending
          c.in_ok-suffixes.ensures.all in (
            lists-each T c.args.secrets.now old names listed.ascending listed.exact (take i names) (drop i names) walked.folders (listed-again names i)
                (drop-none names i c.loop-name-test.false) walked.far.listed,
            walked.far.count told,
          ),
    )
