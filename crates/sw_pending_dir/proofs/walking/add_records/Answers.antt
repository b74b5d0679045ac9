use Rattle.std.proofs.Common.{◌≡◌, ℕ, suc, ◌+◌, inl, inr, true, List, [], ◌∷◌, ◌++◌, length, drop, take, None, Some, sym, ◌∙◌, ap, subst, arith}
use Rattle.std.proofs.lemmas.List.{take_more}
use Rattle.std.proofs.lemmas.Result.{err_from_is_err_and}
use Rattle.std.specs.Cmp.Lexicographic.{slice_cmp}
use Rattle.std.specs.List.Sorted.{IsStrictlySortedBy}
use Rattle.std.specs.Ordering.{nat_cmp}
use Rattle.sw_hashpath.specs.declared.decode_error.BadFile.{BadFile}
use Rattle.sw_outside.specs.Counts.{raised}
use Rattle.sw_pending.specs.declared.filed.Filed.{Filed}
use Rattle.sw_pending.specs.declared.key.RecordKey.{RecordKey}
use Rattle.sw_volume.specs.Tree.{contents}
use Rattle.sw_volume.specs.Volume.{Contents, IsFileIn, ListsAll, raised_by}
use Rattle.sw_pending_dir.specs.Places.{bytes_at, key_at}
use Rattle.sw_pending_dir.specs.Readings.{IsDamaged}
use Rattle.sw_pending_dir.specs.Walks.{AddsRead, AddsRecords, IsFolderDamage, keys_among}
use Rattle.sw_pending_dir.proofs.FolderReading.{ReadSoFar, adds-none, adds-read-moved, calls-none, calls-some, count-more, damaged-moved, listed-sorted}
use Rattle.sw_pending_dir.proofs.FolderReading.{read-adds, read-all, read-count, read-damage, read-next, read-passed, read-start}
use Rattle.sw_pending_dir.proofs.Lists.{drop-more, drop-none, listed-again}
use Rattle.sw_pending_dir.proofs.Results.{if-damaged-again}
use Rattle.sw_pending_dir.proofs.walking.add_records.Goals as goal
use Rattle.sw_pending_dir.proofs.walking.add_records.Goals.{in-Some+in_ok-add_record, in_default}

pub returns-in_err-listing-clause-adds : goal.returns-in_err-listing-clause-adds
returns-in_err-listing-clause-adds g c =
    adds-none (g.V.Volume.tells c.args.volume.now ≡ true) c.args.secrets.now (contents
    (g.V.Volume.holds c.args.volume.now)) c.args.dir.now c.args.found.now.items

none-more : (found : List Filed) → length found + 0 ≡ length found
none-more found = omega arith

pub returns-in_err-listing-clause-calls : goal.returns-in_err-listing-clause-calls
returns-in_err-listing-clause-calls g c =
    let exit = err_from_is_err_and c.from_residual.result c.from_residual.ensures.1 in
    rw (exit.1) (0, c.list.ensures.calls, λ told. inl (none-more c.args.found.now.items))

pub returns-in_err-names-clause-adds : goal.returns-in_err-names-clause-adds
returns-in_err-names-clause-adds g c =
    adds-none (g.V.Volume.tells c.args.volume.now ≡ true) c.args.secrets.now (contents
    (g.V.Volume.holds c.args.volume.now)) c.args.dir.now c.args.found.now.items

pub returns-in_err-names-clause-calls : goal.returns-in_err-names-clause-calls
returns-in_err-names-clause-calls g c =
    let exit = err_from_is_err_and c.from_residual-in_err-names.result c.from_residual-in_err-names.ensures.1 in
    rw (exit.1) (0, c.list.ensures.calls, λ told. inl (none-more c.args.found.now.items))

pub loop-name-init : goal.loop-name-init
loop-name-init g c =
    let v = g.V.Volume in
    let names : List (List ℕ) = c.as_slice-name-items.result.now in
    record {
      far = read-start (v.tells c.args.volume.now ≡ true) c.args.secrets.now (contents (v.holds c.args.volume.now)) c.args.dir.now names c.args.found.now.items
          (subst (λ (l : List (List ℕ)). IsStrictlySortedBy (slice_cmp nat_cmp) l) (sym c.as_slice-name-items.ensures) c.in_ok-names.ensures.ascending);
      same = c.list.ensures.same;
      told = c.list.ensures.told;
      faults = c.in_ok-listing.ensures.cause.kept;
      calls = c.list.ensures.calls;
      lists = c.list.ensures.lists;
    }

-- one name more
pub loop-name-preserved : goal.loop-name-preserved
loop-name-preserved g c =
    let v = g.V.Volume in
    let T : Type 0 = v.tells c.args.volume.now ≡ true in
    let old : Contents = contents (v.holds c.args.volume.now) in
    let now : Contents = contents (v.holds c.loop-name.volume) in
    let secrets = c.args.secrets.now in
    let dir : List ℕ = c.args.dir.now in
    let names : List (List ℕ) = c.as_slice-name-items.result.now in
    let i : ℕ = c.loop-name.name-index in
    let front : List (List ℕ) = take i names in
    let rest : List (List ℕ) = drop (i + 1) names in
    let name : List ℕ = c.name-item.result in
    let more : take (i + 1) names ≡ front ++ name ∷ [] =
    take_more names i name c.loop-name-test.true ∙ ap (λ x. front ++ x ∷ []) (sym c.name-item.is) in
    let split : drop i names ≡ name ∷ rest = drop-more names i name c.loop-name-test.true c.name-item.is in
    let old_found : List Filed = c.args.found.now.items in
    let found : List Filed = c.loop-name.found.items in
    let far : ReadSoFar T secrets old dir front (name ∷ rest) old_found found =
    subst (λ (l : List (List ℕ)). ReadSoFar T secrets old dir front l old_found found) split c.loop-name.invariant.far in
    let whole : names ≡ front ++ name ∷ rest = listed-again names i ∙ ap (λ (l : List (List ℕ)). front ++ l) split in
    let named : c.key_at.result ≡ key_at dir name = c.key_at.ensures ∙ ap (key_at dir) c.as_slice-in-loop-name.ensures in
    let listed : T → ListsAll (front ++ name ∷ rest) (IsFileIn old dir) = λ told.
    subst (λ (l : List (List ℕ)). ListsAll l (IsFileIn old dir)) whole
    (listed-sorted (IsFileIn old dir) c.in_ok-listing.listing.files c.as_slice.result.now c.in_ok-names.names names c.as_slice.ensures
    c.as_slice-name-items.ensures
    (c.in_ok-listing.ensures.files told) c.in_ok-names.ensures.ascending c.in_ok-names.ensures.all) in
    elim c.match-key_at.branch [
      | in-Some+in_ok-add_record w ↦
          let e : key_at dir name ≡ Some w.in-Some.key = sym named ∙ w.in-Some.is in
          let new : List Filed = w.add_record.new.found.items in
          let adds : AddsRead T secrets old w.in-Some.key found new =
          adds-read-moved secrets old now w.in-Some.key (v.tells c.loop-name.volume ≡ true) T (λ told. c.loop-name.invariant.told ∙ told)
          c.loop-name.invariant.same found new w.in_ok-add_record.ensures.adds in
          rw (w.volume-is, w.found-is) (record {
            far = subst (λ (l : List (List ℕ)). ReadSoFar T secrets old dir l rest old_found new) (sym more)
                (read-next T secrets old dir front rest name old_found found far listed w.in-Some.key new e adds);
            same = λ told d f. w.add_record.ensures.same (c.loop-name.invariant.told ∙ told) d f ∙ c.loop-name.invariant.same told d f;
            told = w.add_record.ensures.told ∙ c.loop-name.invariant.told;
            faults = w.in_ok-add_record.ensures.kept ∙ c.loop-name.invariant.faults;
            calls = subst (λ (l : List (List ℕ)). v.calls w.add_record.new.volume ≡ raised_by (length (keys_among dir l)) (raised (v.calls c.args.volume.now)))
                (sym more)
                (calls-some dir front name (raised (v.calls c.args.volume.now)) (v.calls c.loop-name.volume) w.in-Some.key (v.calls w.add_record.new.volume) e
                c.loop-name.invariant.calls w.add_record.ensures.calls);
            lists = w.add_record.ensures.lists ∙ c.loop-name.invariant.lists;
          })
      | in_default w ↦
          let e : key_at dir name ≡ None = sym named ∙ w.in_default.is in
          rw (w.volume-is, w.found-is) (record {
            far = subst (λ (l : List (List ℕ)). ReadSoFar T secrets old dir l rest old_found found) (sym more)
                (read-passed T secrets old dir front rest name old_found found far e);
            same = c.loop-name.invariant.same;
            told = c.loop-name.invariant.told;
            faults = c.loop-name.invariant.faults;
            calls = subst (λ (l : List (List ℕ)). v.calls c.loop-name.volume ≡ raised_by (length (keys_among dir l)) (raised (v.calls c.args.volume.now)))
                (sym more) (calls-none dir front name (raised (v.calls c.args.volume.now)) (v.calls c.loop-name.volume) e c.loop-name.invariant.calls);
            lists = c.loop-name.invariant.lists;
          })
    ]

pub returns-in_err-add_record-clause-adds : goal.returns-in_err-add_record-clause-adds
returns-in_err-add_record-clause-adds g c =
    let v = g.V.Volume in
    let T : Type 0 = v.tells c.args.volume.now ≡ true in
    let old : Contents = contents (v.holds c.args.volume.now) in
    let names : List (List ℕ) = c.as_slice-name-items.result.now in
    let i : ℕ = c.loop-name.name-index in
    subst (λ (l : List Filed). AddsRecords T c.args.secrets.now old c.args.dir.now c.args.found.now.items l) (sym c.in_err-add_record.ensures.err)
    (read-adds T c.args.secrets.now old c.args.dir.now (take i names) (drop i names) c.args.found.now.items c.loop-name.found.items c.loop-name.invariant.far)

pub returns-in_err-add_record-clause-calls : goal.returns-in_err-add_record-clause-calls
returns-in_err-add_record-clause-calls g c =
    let v = g.V.Volume in
    let T : Type 0 = v.tells c.args.volume.now ≡ true in
    let old : Contents = contents (v.holds c.args.volume.now) in
    let dir : List ℕ = c.args.dir.now in
    let names : List (List ℕ) = c.as_slice-name-items.result.now in
    let i : ℕ = c.loop-name.name-index in
    let front : List (List ℕ) = take i names in
    let name : List ℕ = c.name-item.result in
    let e : key_at dir name ≡ Some c.in-Some.key = sym (c.key_at.ensures ∙ ap (key_at dir) c.as_slice-in-loop-name.ensures) ∙ c.in-Some.is in
    let found : List Filed = c.loop-name.found.items in
    let exit = err_from_is_err_and c.from_residual-in_err-add_record.result c.from_residual-in_err-add_record.ensures.1 in
    rw (exit.1) (
      length (keys_among dir (front ++ name ∷ [])),
      calls-some dir front name (raised (v.calls c.args.volume.now)) (v.calls c.loop-name.volume) c.in-Some.key (v.calls c.add_record.new.volume) e
          c.loop-name.invariant.calls c.add_record.ensures.calls,
      λ told. inr (subst (λ (l : List Filed). length c.args.found.now.items + length (keys_among dir (front ++ name ∷ [])) ≡ suc (length l))
          (sym c.in_err-add_record.ensures.err)
          (count-more dir front name c.in-Some.key c.args.found.now.items found e
          (read-count T c.args.secrets.now old dir front (drop i names) c.args.found.now.items found c.loop-name.invariant.far told))),
    )

pub returns-in_err-add_record-clause-damaged : goal.returns-in_err-add_record-clause-damaged
returns-in_err-add_record-clause-damaged g c =
    let v = g.V.Volume in
    let T : Type 0 = v.tells c.args.volume.now ≡ true in
    let old : Contents = contents (v.holds c.args.volume.now) in
    let now : Contents = contents (v.holds c.loop-name.volume) in
    let secrets = c.args.secrets.now in
    let dir : List ℕ = c.args.dir.now in
    let names : List (List ℕ) = c.as_slice-name-items.result.now in
    let i : ℕ = c.loop-name.name-index in
    let front : List (List ℕ) = take i names in
    let rest : List (List ℕ) = drop (i + 1) names in
    let name : List ℕ = c.name-item.result in
    let split : drop i names ≡ name ∷ rest = drop-more names i name c.loop-name-test.true c.name-item.is in
    let old_found : List Filed = c.args.found.now.items in
    let found : List Filed = c.loop-name.found.items in
    let far : ReadSoFar T secrets old dir front (name ∷ rest) old_found found =
    subst (λ (l : List (List ℕ)). ReadSoFar T secrets old dir front l old_found found) split c.loop-name.invariant.far in
    let whole : names ≡ front ++ name ∷ rest = listed-again names i ∙ ap (λ (l : List (List ℕ)). front ++ l) split in
    let key : RecordKey = c.in-Some.key in
    let e : key_at dir name ≡ Some key = sym (c.key_at.ensures ∙ ap (key_at dir) c.as_slice-in-loop-name.ensures) ∙ c.in-Some.is in
    let listed : T → ListsAll (front ++ name ∷ rest) (IsFileIn old dir) = λ told.
    subst (λ (l : List (List ℕ)). ListsAll l (IsFileIn old dir)) whole
    (listed-sorted (IsFileIn old dir) c.in_ok-listing.listing.files c.as_slice.result.now c.in_ok-names.names names c.as_slice.ensures
    c.as_slice-name-items.ensures
    (c.in_ok-listing.ensures.files told) c.in_ok-names.ensures.ascending c.in_ok-names.ensures.all) in
    let P : BadFile → Type 0 = λ bad. v.tells c.loop-name.volume ≡ true → IsDamaged secrets key (bytes_at now key) bad in
    let Q : BadFile → Type 0 = λ bad. T → IsFolderDamage secrets old dir bad in
    let exit = err_from_is_err_and c.from_residual-in_err-add_record.result c.from_residual-in_err-add_record.ensures.1 in
    rw (exit.1, exit.2) (if-damaged-again (Unit {0}) (Unit {0}) P Q (λ bad damaged told.
    read-damage T secrets old dir front rest name old_found found far key bad e (listed told).ascending (listed told) told
    (damaged-moved secrets old now dir (c.loop-name.invariant.same told) key bad (damaged (c.loop-name.invariant.told ∙ told))))
    c.in_err-add_record.field-0.0 c.in_err-add_record.ensures.damaged)

pub returns-clause-adds : goal.returns-clause-adds
returns-clause-adds g c =
    let v = g.V.Volume in
    let names : List (List ℕ) = c.as_slice-name-items.result.now in
    let i : ℕ = c.loop-name.name-index in
    read-adds (v.tells c.args.volume.now ≡ true) c.args.secrets.now (contents (v.holds c.args.volume.now)) c.args.dir.now (take i names) (drop i names)
    c.args.found.now.items c.loop-name.found.items c.loop-name.invariant.far

pub returns-clause-all : goal.returns-clause-all
returns-clause-all g c =
    let v = g.V.Volume in
    let T : Type 0 = v.tells c.args.volume.now ≡ true in
    let old : Contents = contents (v.holds c.args.volume.now) in
    let dir : List ℕ = c.args.dir.now in
    let names : List (List ℕ) = c.as_slice-name-items.result.now in
    let i : ℕ = c.loop-name.name-index in
    let listed : T → ListsAll (take i names ++ drop i names) (IsFileIn old dir) = λ told.
    subst (λ (l : List (List ℕ)). ListsAll l (IsFileIn old dir)) (listed-again names i)
    (listed-sorted (IsFileIn old dir) c.in_ok-listing.listing.files c.as_slice.result.now c.in_ok-names.names names c.as_slice.ensures
    c.as_slice-name-items.ensures
    (c.in_ok-listing.ensures.files told) c.in_ok-names.ensures.ascending c.in_ok-names.ensures.all) in
    read-all T c.args.secrets.now old dir (take i names) (drop i names) c.args.found.now.items c.loop-name.found.items c.loop-name.invariant.far
    (drop-none names i c.loop-name-test.false) listed

pub returns-clause-calls : goal.returns-clause-calls
returns-clause-calls g c =
    let v = g.V.Volume in
    let names : List (List ℕ) = c.as_slice-name-items.result.now in
    let i : ℕ = c.loop-name.name-index in (
      length (keys_among c.args.dir.now (take i names)),
      c.loop-name.invariant.calls,
      read-count (v.tells c.args.volume.now ≡ true) c.args.secrets.now (contents (v.holds c.args.volume.now)) c.args.dir.now (take i names) (drop i names)
          c.args.found.now.items c.loop-name.found.items c.loop-name.invariant.far,
    )
