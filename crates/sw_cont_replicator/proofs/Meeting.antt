-- What a push leaves: rows at the receiver, and points that tell truly.
use Rattle.std.proofs.Common.{◌≡◌, ℕ, ◌<◌, ◌≤◌, Bool, true, false, cond, nat_lt, List, [], ◌∷◌, map, All, Option, None, Some, ◌⊎◌, inl, inr}
use Rattle.std.proofs.Common.{refl, sym, ◌∙◌, ap, subst, arith, get_or, Ok, Err}
use Rattle.std.specs.List.{filter, fold}
use Rattle.std.specs.Option.{option_map_or}
use Rattle.std.proofs.lemmas.Bool.Decides.{nat_tests}
use Rattle.std.proofs.lemmas.List.Elements.{All-contains, All-cons, All-filter, All-head, All-map, All-nil, All-tail, All-weaker}
use Rattle.sw_container_steps.specs.Entries.{rows_of}
use Rattle.sw_container_steps.specs.Presence.{deletion_after, is_no_time}
use Rattle.sw_container_steps.specs.Reads.{parcel_of}
use Rattle.sw_container_steps.specs.declared.cont_answer.ContAnswer.TheVariants as answers
use Rattle.sw_container_steps.specs.declared.syncing.Parcel.{Parcel}
use Rattle.sw_cont_replicator.proofs.Entering.{Merges, still-has}
use Rattle.sw_cont_replicator.specs.Meeting.{HasRow, TellsTruly, greatest, owed_above, point_in, row_in}
use Rattle.sw_keeper.specs.declared.tables.Tables.{Tables}
use Rattle.sw_rows.proofs.Greater.{IsEither, StandsFor, either-fold, found-of, listed-fold, once-found, rising-above, top-fold}
use Rattle.sw_rows.proofs.Merging.{numbers-rise}
use Rattle.sw_rows.specs.Laws.{IsOldOrNew, greater}
use Rattle.sw_rows.specs.Rows.{IsListed, Listed, find_named, merged, rows_above}
use Rattle.sw_rows.specs.declared.numbered.Numbered.{Numbered}
use Rattle.sw_rows.specs.declared.row.Row.{Row}

-- ---- points that tell truly go on doing so

-- rows came to both, by merges
pub tells-later : (S : Row → Type 0) (e : ℕ) (ours later theirs their_later : Option Tables) → Merges S ours later → Merges S theirs their_later
    → TellsTruly e ours theirs → TellsTruly e later their_later
tells-later S e ours later theirs their_later came went is = record {
  listed = subst IsListed (sym came.merged_is) (listed-fold (rows_of ours) came.rows is.listed);
  given = λ point at.
      let low : point ≤ (rows_of ours).top = is.given point (sym (came.points e) ∙ at) in
      let up : (rows_of ours).top ≤ (fold merged (rows_of ours) came.rows).top = top-fold (rows_of ours) came.rows in
      let top : (rows_of later).top ≡ (fold merged (rows_of ours) came.rows).top = ap (λ (l : Listed). l.top) came.merged_is in
      omega (arith, low, up, top);
  has = λ point at.
      subst (λ (l : Listed). All (Has point) l.list) (sym came.merged_is)
      (All-weaker (IsOldOrNew (rows_of ours) (fold merged (rows_of ours) came.rows)) (Has point) (each point (sym (came.points e) ∙ at))
      (fold merged (rows_of ours) came.rows).list (numbers-rise (rows_of ours) came.rows is.listed));
}
  where
    Has : ℕ → Numbered → Type 0
    Has point n = n.rowid ≤ point → HasRow their_later n.row

    each : (point : ℕ) → point_in ours e ≡ Some point → (n : Numbered) → IsOldOrNew (rows_of ours) (fold merged (rows_of ours) came.rows) n → Has point n
    each point at n (inl old) = λ low.
        still-has S theirs their_later n.row went
        (All-contains (λ (m : Numbered). m.rowid ≤ point → HasRow theirs m.row) (rows_of ours).list n (is.has point at) old.0 low)
    each point at n (inr new) = λ low.
        let up : point ≤ (rows_of ours).top = is.given point at in
        let above : (rows_of ours).top < n.rowid = new.0 in
        absurd (omega (arith, low, up, above))

-- the rows are the same, and so is the point, or it is the greatest number given out where all of them are there
pub tells-set : (e : ℕ) (ours later theirs their_later : Option Tables) → rows_of later ≡ rows_of ours → rows_of their_later ≡ rows_of theirs
    → (point_in later e ≡ point_in ours e)
    ⊎ ((point_in later e ≡ Some (rows_of ours).top) × All (λ (n : Numbered). HasRow theirs n.row) (rows_of ours).list)
    → TellsTruly e ours theirs → TellsTruly e later their_later
tells-set e ours later theirs their_later rows their_rows point is = record {
  listed = subst IsListed (sym rows) is.listed;
  given = λ at kept. subst (λ (l : Listed). at ≤ l.top) (sym rows) (given at kept point);
  has = λ at kept.
      subst (λ (l : Listed). All (λ n. n.rowid ≤ at → HasRow their_later n.row) l.list) (sym rows)
      (All-weaker (λ (n : Numbered). n.rowid ≤ at → HasRow theirs n.row) (λ (n : Numbered). n.rowid ≤ at → HasRow their_later n.row)
      (λ n has low. same n.row (has low)) (rows_of ours).list (has at kept point));
}
  where
    Before : Type 0
    Before = (point_in later e ≡ point_in ours e)
        ⊎ ((point_in later e ≡ Some (rows_of ours).top) × All (λ (n : Numbered). HasRow theirs n.row) (rows_of ours).list)

    same : (row : Row) → HasRow theirs row → HasRow their_later row
    same row has = subst (λ (l : Listed). StandsFor (find_named l.list row.name) row) (sym their_rows) has

    given : (at : ℕ) → point_in later e ≡ Some at → Before → at ≤ (rows_of ours).top
    given at kept (inl stays) = is.given at (sym stays ∙ kept)
    given at kept (inr set) = let one : at ≡ (rows_of ours).top = cc in omega (arith, one)

    has : (at : ℕ) → point_in later e ≡ Some at → Before → All (λ (n : Numbered). n.rowid ≤ at → HasRow theirs n.row) (rows_of ours).list
    has at kept (inl stays) = is.has at (sym stays ∙ kept)
    has at kept (inr set) =
        All-weaker (λ (n : Numbered). HasRow theirs n.row) (λ (n : Numbered). n.rowid ≤ at → HasRow theirs n.row) (λ n there low. there)
        (rows_of ours).list set.1

-- ---- a parcel

-- it has the rows above the point, and the greatest number given out
pub parcel-is : (t : Option Tables) (to front : ℕ) (parcel : Parcel) → Ok parcel ≡ parcel_of to t front
    → (parcel.rows ≡ rows_above (owed_above t to) (rows_of t).list) × (parcel.top ≡ (rows_of t).top)
parcel-is None to front parcel is = cc
parcel-is (Some t) to front parcel is = by (is_no_time (deletion_after t.put_time t.delete_time)) is
  where
    whole : Parcel
    whole = record { rows = rows_above (owed_above (Some t) to) t.rows.list; top = t.rows.top }

    by : (b : Bool) → Ok parcel ≡ cond b (Ok whole) (Err answers.Absent)
        → (parcel.rows ≡ rows_above (owed_above (Some t) to) t.rows.list) × (parcel.top ≡ t.rows.top)
    by true same = let one : parcel ≡ whole = cc in (ap (λ (p : Parcel). p.rows) one, ap (λ (p : Parcel). p.top) one)
    by false same = cc

-- what holds of each row above a number
pub above-each : (P : Row → Type 0) (rowid : ℕ) (list : List Numbered) → All P (rows_above rowid list) → All (λ (n : Numbered). rowid < n.rowid → P n.row) list
above-each P rowid [] all = All-nil (λ (n : Numbered). rowid < n.rowid → P n.row)
above-each P rowid (n ∷ ns) all = by (nat_lt rowid n.rowid) refl all (λ rest. above-each P rowid ns rest)
  where
    Q : Numbered → Type 0
    Q m = rowid < m.rowid → P m.row

    never : nat_lt rowid n.rowid ≡ false → rowid < n.rowid → ⊥
    never below up = grind (arith, nat_tests)

    by : (b : Bool) → nat_lt rowid n.rowid ≡ b
        → All P (map (λ (m : Numbered). m.row) (cond b (n ∷ filter (λ m. nat_lt rowid m.rowid) ns) (filter (λ m. nat_lt rowid m.rowid) ns)))
        → (All P (rows_above rowid ns) → All Q ns) → All Q (n ∷ ns)
    by true above each rest =
        All-cons Q n ns (λ up. All-head P n.row (rows_above rowid ns) each) (rest (All-tail P n.row (rows_above rowid ns) each))
    by false below each rest = All-cons Q n ns (λ up. absurd (never below up)) (rest each)

-- where those are there, and the point tells truly, all are
pub all-there : (to : ℕ) (ours theirs : Option Tables) → TellsTruly to ours theirs → All (HasRow theirs) (rows_above (owed_above ours to) (rows_of ours).list)
    → All (λ (n : Numbered). HasRow theirs n.row) (rows_of ours).list
all-there to ours theirs is sent = λ k d lt. joined (get_or (rows_of ours).list k d) (above k d lt) (below (point_in ours to) refl k d lt)
  where
    at : ℕ
    at = owed_above ours to

    above : All (λ (n : Numbered). at < n.rowid → HasRow theirs n.row) (rows_of ours).list
    above = above-each (HasRow theirs) at (rows_of ours).list sent

    below : (o : Option ℕ) → point_in ours to ≡ o → All (λ (n : Numbered). n.rowid ≤ at → HasRow theirs n.row) (rows_of ours).list
    below None none =
        let zero_is : at ≡ 0 = ap (λ (o : Option ℕ). option_map_or (λ rowid. rowid) o 0) none in
        All-weaker (λ (n : Numbered). 0 < n.rowid) (λ (n : Numbered). n.rowid ≤ at → HasRow theirs n.row) (λ n up low. absurd (omega (arith, up, low, zero_is)))
        (rows_of ours).list (rising-above 0 (rows_of ours).list is.listed.rising)
    below (Some point) some =
        let point_is : at ≡ point = ap (λ (o : Option ℕ). option_map_or (λ rowid. rowid) o 0) some in
        subst (λ (p : ℕ). All (λ (n : Numbered). n.rowid ≤ p → HasRow theirs n.row) (rows_of ours).list) (sym point_is) (is.has point some)

    joined : (n : Numbered) → (at < n.rowid → HasRow theirs n.row) → (n.rowid ≤ at → HasRow theirs n.row) → HasRow theirs n.row
    joined n up low = by (nat_lt at n.rowid) refl
      where
        by : (b : Bool) → nat_lt at n.rowid ≡ b → HasRow theirs n.row
        by true is_above = up (grind (arith, nat_tests))
        by false isnt = low (grind (arith, nat_tests))

-- ---- the greatest of two rows

-- where what stood or the greater of both stands, and it counts at least as much as what came, that is the greatest
pub either-greatest : (stood comes after : Option Row) → IsEither stood comes after → ((row : Row) → comes ≡ Some row → StandsFor after row)
    → after ≡ greatest stood comes
either-greatest stood None after (inl same) least = same
either-greatest stood None after (inr came) least = let never : None ≡ Some came.0 = came.1 in cc
either-greatest stood (Some row) after (inr came) least = let one : came.0 ≡ row = cc in came.2 ∙ ap (λ (x : Row). Some (greater stood x)) one
either-greatest stood (Some row) after (inl same) least =
    let there = least row refl in
    let was : stood ≡ Some there.0 = sym same ∙ there.1 in
    same ∙ (was ∙ sym (ap (λ (o : Option Row). Some (greater o row)) was ∙ ap (λ (b : Bool). Some (cond b there.0 row)) there.2))

-- rows that came from a replica that has each name once left the greatest of both, where all of its rows are there then
pub merged-greatest : (ours theirs later : Option Tables) → IsListed (rows_of ours)
    → Merges (λ (row : Row). row_in ours row.name ≡ Some row) theirs later
    → All (λ (n : Numbered). HasRow later n.row) (rows_of ours).list
    → (name : List ℕ) → row_in later name ≡ greatest (row_in theirs name) (row_in ours name)
merged-greatest ours theirs later listed came all name =
    either-greatest (row_in theirs name) (row_in ours name) (row_in later name)
    (subst (λ (l : Listed). IsEither (row_in theirs name) (row_in ours name) (find_named l.list name)) (sym came.merged_is)
    (either-fold name (row_in ours name) (rows_of theirs) came.rows
    (All-weaker (λ (row : Row). row_in ours row.name ≡ Some row) (λ (row : Row). row.name ≡ name → row_in ours name ≡ Some row)
    (λ row is named. subst (λ (x : List ℕ). row_in ours x ≡ Some row) named is) came.rows came.are)))
    (λ row is. there row is)
  where
    there : (row : Row) → row_in ours name ≡ Some row → StandsFor (row_in later name) row
    there row is =
        let found = found-of (HasRow later) (rows_of ours).list name row is all in
        subst (λ (x : List ℕ). StandsFor (row_in later x) row) found.0 found.1

-- each row of a parcel is the one of its name, where the replica has each name once
pub parcel-once : (ours : Option Tables) (rowid : ℕ) → IsListed (rows_of ours)
    → All (λ (row : Row). row_in ours row.name ≡ Some row) (rows_above rowid (rows_of ours).list)
parcel-once ours rowid listed =
    All-map (λ (row : Row). row_in ours row.name ≡ Some row) (λ (n : Numbered). n.row) (filter (λ (n : Numbered). nat_lt rowid n.rowid) (rows_of ours).list)
    (All-filter (λ (n : Numbered). nat_lt rowid n.rowid) (λ (n : Numbered). row_in ours n.row.name ≡ Some n.row) (rows_of ours).list
    (once-found (rows_of ours).list listed.once))
