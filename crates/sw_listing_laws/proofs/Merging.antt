-- The ledger goes on with a step at a container.
use Rattle.std.proofs.Common.{◌≡◌, ℕ, Bool, true, false, cond, ◌&&◌, nat_eq, List, [], ◌∷◌, ◌++◌, map, Option, ◌⊎◌, inl, inr, refl, sym, ◌∙◌, ap, subst}
use Rattle.std.proofs.Common.{if◌then◌else◌}
use Rattle.std.specs.List.{All, fold}
use Rattle.std.proofs.lemmas.Bool.{and_parts, eq-eqb, eqb-true}
use Rattle.std.proofs.lemmas.List.{append-nil}
use Rattle.std.proofs.lemmas.List.Elements.{All-append, All-head, All-nil, All-tail}
use Rattle.sw_container_steps.proofs.Placing.{place-same, place-self}
use Rattle.sw_container_steps.proofs.Ruling.{made-whole}
use Rattle.sw_container_steps.specs.Entries.{entered, is_same_place, rows_of}
use Rattle.sw_container_steps.specs.Rules.{cont_ending}
use Rattle.sw_container_steps.specs.Steps.{entries_for}
use Rattle.sw_container_steps.specs.declared.cont_answer.ContAnswer.{ContAnswer}
use Rattle.sw_container_steps.specs.declared.cont_change.ContChange.{ContChange}
use Rattle.sw_container_steps.specs.declared.cont_change.ContChange.TheVariants.{MergeRow}
use Rattle.sw_container_steps.specs.declared.cont_entry.ContEntry.{ContEntry}
use Rattle.sw_hashpath.specs.declared.place.Place.{Place}
use Rattle.sw_keeper.specs.declared.tables.Tables.{Tables}
use Rattle.sw_machine.proofs.Rows.{unemptied-merges}
use Rattle.sw_machine.specs.Machine.{ContMakes, ContSide, KnownRow, made_rows, rows_in, was_made}
use Rattle.sw_machine.specs.Sides.{TellsAt}
use Rattle.sw_peer.specs.Sights.{cont_lock}
use Rattle.sw_pending_laws.specs.Ledger.{AreMerged, IsHeld, IsPlain, Ledger}
use Rattle.sw_pending_laws.specs.Ledger.Change.{Merges}
use Rattle.sw_rows.proofs.Greater.{listed-merged, stands-merged}
use Rattle.sw_rows.specs.Rows.{IsListed, Listed, merged}
use Rattle.sw_rows.specs.declared.row.Row.{Row}
use Rattle.sw_step.specs.Rules.{has_made}
use Rattle.sw_listing_laws.proofs.Accounts.{AreRight, ContAccounts, IsRight}
use Rattle.sw_listing_laws.proofs.Bringing.{HasOnly, step-only}
use Rattle.sw_listing_laws.proofs.Going.{Goes, goes-by, goes-nowhere, goes-on}
use Rattle.sw_listing_laws.proofs.Grounds.{ground}
use Rattle.sw_listing_laws.proofs.Redirecting.{IsHeard, is_redirect, left-only, left-so, left-unmade, left_rows, made-here, none-left}
use Rattle.sw_listing_laws.proofs.Splitting.{IsKept, IsSplitWhereEmptied, kept-rows, kept-still, split-still}
use Rattle.sw_listing_laws.specs.Plain.{Cluster}

module _ (device : ℕ) (place : Place) where
  -- ---- tables in which rows were merged into those of this device and container

  abbrev is_here : ℕ → Place → Bool
  is_here d p = nat_eq d device && is_same_place p place

  abbrev pub merge_at : (ℕ → Place → Listed) → Row → ℕ → Place → Listed
  merge_at tables row d p = if nat_eq d device && is_same_place p place then merged (tables d p) row else tables d p

  here : is_here device place ≡ true
  here =
      let one : nat_eq device device ≡ true = eq-eqb device device refl in
      let two : is_same_place place place ≡ true = place-self place in rw (one, two) refl

  is-merged : (tables : ℕ → Place → Listed) (row : Row) → AreMerged row tables (merge_at tables row)
  is-merged tables row d p = by (is_here d p) (tables d p)
    where
      by : (b : Bool) (l : Listed) → (cond b (merged l row) l ≡ l) ⊎ (cond b (merged l row) l ≡ merged l row)
      by true l = inr refl
      by false l = inl refl

  all-here : (tables : ℕ → Place → Listed) (rows : List Row) → fold merge_at tables rows device place ≡ fold merged (tables device place) rows
  all-here tables [] = refl
  all-here tables (row ∷ rows) =
      all-here (merge_at tables row) rows
      ∙ ap (λ (b : Bool). fold merged (cond b (merged (tables device place) row) (tables device place)) rows) here

  all-apart : (tables : ℕ → Place → Listed) (rows : List Row) (d : ℕ) (p : Place) → is_here d p ≡ false → fold merge_at tables rows d p ≡ tables d p
  all-apart tables [] d p away = refl
  all-apart tables (row ∷ rows) d p away =
      all-apart (merge_at tables row) rows d p away ∙ ap (λ (b : Bool). cond b (merged (tables d p) row) (tables d p)) away

  all-listed : (tables : ℕ → Place → Listed) (rows : List Row) → ((d : ℕ) (p : Place) → IsListed (tables d p)) → (d : ℕ) (p : Place)
      → IsListed (fold merge_at tables rows d p)
  all-listed tables [] are d p = are d p
  all-listed tables (row ∷ rows) are d p = all-listed (merge_at tables row) rows (λ e q. by (is_here e q) (tables e q) (are e q)) d p
    where
      by : (b : Bool) (l : Listed) → IsListed l → IsListed (cond b (merged l row) l)
      by true l is = listed-merged l row is
      by false l is = is

  module _ (c : Cluster) where
    -- rows that may come there
    merges : (l : Ledger) (rows : List Row) → All (IsRight c l place) rows → Goes (ground c) l (record l { tables = fold merge_at l.tables rows })
    merges l [] right = goes-nowhere (ground c) l
    merges l (row ∷ rows) right =
        goes-on (ground c) l mid (record l { tables = fold merge_at (merge_at l.tables row) rows })
        (goes-by (ground c) l (Merges row (merge_at l.tables row)) mid (is-merged l.tables row, refl) plain (λ a there. there) (λ t there. there))
        (merges mid rows (All-tail (IsRight c l place) row rows right))
      where
        mid : Ledger
        mid = record l { tables = merge_at l.tables row }

        plain : IsPlain (ground c) l (Merges row (merge_at l.tables row))
        plain d p = by (is_here d p) refl (l.tables d p)
          where
            by : (b : Bool) → is_here d p ≡ b → (t : Listed) → (cond b (merged t row) t ≡ t) ⊎ IsRight c l p row
            by true is t =
                let parts = and_parts (nat_eq d device) (is_same_place p place) is in
                inr (subst (λ (q : Place). IsRight c l q row) (sym (place-same p place parts.1)) (All-head (IsRight c l place) row rows right))
            by false is t = inl refl

    -- ---- a step

    -- a ledger that accounts for these containers, and differs from this one in the rows alone: a row that was taken, or left to a shard, is there
    pub record ContNext (l : Ledger) (change : ContChange) (answer : ContAnswer) (after : ContSide) : Type 0 where
      pub tables : ℕ → Place → Listed
      pub goes : Goes (ground c) l (record l { tables = tables })
      pub accounts : ContAccounts c after tables
      pub right : AreRight c l after
      pub heard : (row : Row) → change ≡ MergeRow row → IsHeard answer → IsHeld (tables device place) row.name row.created_at row.deleted

    module _ (m : ContSide) (l : Ledger) (accounts : ContAccounts c m l.tables) (stood : AreRight c l m) (change : ContChange) (answer : ContAnswer)
        (added : List ContEntry) (after : ContSide) (makes : ContMakes c.nodes m device place change answer added after)
        (tell : (d : ℕ) (p : Place) → TellsAt (cont_lock c.nodes) after d p) where
      abbrev rows : List Row
      rows = map (λ (n : KnownRow). n.row) (made_rows place change answer makes.step.made)

      rows-back : (xs : List Row) → map (λ (n : KnownRow). n.row) (map (λ row. record { place = place; row = row }) xs) ≡ xs
      rows-back [] = refl
      rows-back (x ∷ xs) = ap (λ (ys : List Row). x ∷ ys) (rows-back xs)

      rows-are : rows ≡ (if was_made answer makes.step.made then rows_in change else [])
      rows-are = rows-back (if was_made answer makes.step.made then rows_in change else [])

      -- with those that are left to a shard
      abbrev all_rows : List Row
      all_rows = rows ++ left_rows change answer

      all-right : All (IsRight c l place) (rows_in change) → All (IsRight c l place) all_rows
      all-right right =
          All-append (IsRight c l place) rows (left_rows change answer)
          (subst (λ (xs : List Row). All (IsRight c l place) xs) (sym rows-are) (by (was_made answer makes.step.made)))
          (left-only (IsRight c l place) change answer right)
        where
          by : (b : Bool) → All (IsRight c l place) (if b then rows_in change else [])
          by true = right
          by false = All-nil (IsRight c l place)

      -- what is so of this container, and was of each other one, is so of each
      each : (P : ℕ → Place → Option Tables → Type 0) → P device place (after.half.holds device place)
          → ((d : ℕ) (p : Place) → is_here d p ≡ false → P d p (m.half.holds d p)) → (d : ℕ) (p : Place) → P d p (after.half.holds d p)
      each P this others d p = by (is_here d p) refl
        where
          apart : is_here d p ≡ false → (d ≡ device) × (p ≡ place) → ⊥
          apart isnt same =
              let one : nat_eq d device ≡ true = eq-eqb d device same.0 in
              let two : is_same_place p place ≡ true = subst (λ (q : Place). is_same_place p q ≡ true) same.1 (place-self p) in
              let never : is_here d p ≡ true = rw (one, two) refl in cc

          by : (b : Bool) → is_here d p ≡ b → P d p (after.half.holds d p)
          by true is =
              let parts = and_parts (nat_eq d device) (is_same_place p place) is in
              subst (λ (e : ℕ). P e p (after.half.holds e p)) (sym (eqb-true d device parts.0))
              (subst (λ (q : Place). P device q (after.half.holds device q)) (sym (place-same p place parts.1)) this)
          by false is = subst (λ (t : Option Tables). P d p t) (sym (makes.moves.others refl d p (λ same. apart is same))) (others d p is)

      -- ---- the rows that came, where all are kept

      -- they were before
      kept-before : IsKept (after.half.holds device place) → IsKept (m.half.holds device place)
      kept-before kept =
          let leaves = makes.step.leaves refl (makes.step.follows.told ∙ accounts.tell device place) in
          subst IsKept (makes.is_held place refl) (kept-still (makes.held place) makes.step.made (subst IsKept leaves kept))

      here-rows : IsKept (after.half.holds device place) → fold merge_at l.tables all_rows device place ≡ rows_of (after.half.holds device place)
      here-rows kept =
          all-here l.tables all_rows
          ∙ (ap (λ (xs : List Row). fold merged (l.tables device place) xs) (ap (λ (xs : List Row). rows ++ xs) none ∙ append-nil rows)
          ∙ sym
          (unemptied-merges (m.half.seen (cont_lock c.nodes device place)) makes.held place change answer (after.half.seen (cont_lock c.nodes device place))
          (after.half.holds device place) makes.step (accounts.tell device place) (kept-rows (after.half.holds device place) kept)
          ∙ (ap (λ (t : Option Tables). fold merged (rows_of t) rows) (makes.is_held place refl)
          ∙ ap (λ (t : Listed). fold merged t rows) (sym (accounts.rows device place (kept-before kept))))))
        where
          none : left_rows change answer ≡ []
          none =
              none-left (m.half.seen (cont_lock c.nodes device place)) makes.held place change answer (after.half.seen (cont_lock c.nodes device place))
              (after.half.holds device place) makes.step (accounts.tell device place) kept

      each-row : (d : ℕ) (p : Place) → IsKept (after.half.holds d p) → fold merge_at l.tables all_rows d p ≡ rows_of (after.half.holds d p)
      each-row =
          each (λ d p t. IsKept t → fold merge_at l.tables all_rows d p ≡ rows_of t) here-rows
          (λ d p is kept. all-apart l.tables all_rows d p is ∙ accounts.rows d p kept)

      -- ---- what entries leave

      -- what is so of what was held, and stays so whatever the step enters, is so
      entering : (P : Option Tables → Type 0) → ((t read : Option Tables) → P t → P (fold entered t (entries_for read place change)))
          → P (m.half.holds device place) → P (after.half.holds device place)
      entering P stays was =
          let step = makes.step in
          let told = step.follows.told ∙ accounts.tell device place in
          subst P (sym (step.leaves refl told))
          (by (made-whole step.looked step.read step.before.journal place change answer step.made
          (after.half.seen (cont_lock c.nodes device place)).journal step.answered))
        where
          held : P (makes.held place)
          held = subst P (sym (makes.is_held place refl)) was

          by : (makes.step.made ≡ []) ⊎ ((makes.step.looked ≡ true) × (makes.step.made ≡ entries_for makes.step.read place change))
              → P (fold entered (makes.held place) makes.step.made)
          by (inl none) = rw none held
          by (inr all) = rw all.1 (stays (makes.held place) makes.step.read held)

      each-split : (d : ℕ) (p : Place) → IsSplitWhereEmptied (after.half.holds d p)
      each-split =
          each (λ d p t. IsSplitWhereEmptied t)
          (entering IsSplitWhereEmptied (λ t read is. split-still t (entries_for read place change) is) (accounts.split device place))
          (λ d p is. accounts.split d p)

      each-right : All (IsRight c l place) (rows_in change) → AreRight c l after
      each-right right =
          each (λ d p t. HasOnly (IsRight c l p) (rows_of t))
          (entering (λ t. HasOnly (IsRight c l place) (rows_of t)) (λ t read only. step-only (IsRight c l place) t read place change right only)
          (stood device place))
          (λ d p is. stood d p)

      heard : (row : Row) → change ≡ MergeRow row → IsHeard answer → IsHeld (fold merge_at l.tables all_rows device place) row.name row.created_at row.deleted
      heard row is whether =
          subst (λ (t : Listed). IsHeld t row.name row.created_at row.deleted)
          (sym (all-here l.tables all_rows ∙ ap (λ (xs : List Row). fold merged (l.tables device place) xs) (only whether)))
          (stands-merged (l.tables device place) row)
        where
          was : has_made (cont_ending answer) ≡ true → (es : List ContEntry) → was_made answer es ≡ true
          was made [] = made
          was made (e ∷ es) = refl

          -- it came, or is left to a shard
          came : (b gone : Bool) → was_made answer makes.step.made ≡ b → is_redirect answer ≡ gone → all_rows ≡ cond b (row ∷ []) [] ++ cond gone (row ∷ []) []
          came b gone made left =
              ap (λ (xs : List Row). xs ++ left_rows change answer) (rows-are ∙ (ap (λ (x : Bool). if x then rows_in change else []) made
              ∙ ap (λ (x : ContChange). cond b (rows_in x) []) is))
              ∙ ap (λ (xs : List Row). cond b (row ∷ []) [] ++ xs)
              (ap (λ (x : ContChange). left_rows x answer) is ∙ ap (λ (x : Bool). cond x (row ∷ []) []) left)

          only : IsHeard answer → all_rows ≡ row ∷ []
          only (inl made) = came true false (was made makes.step.made) (made-here answer made)
          only (inr left) =
              let so =
              left-so makes.step.looked makes.step.read makes.step.before.journal place change answer makes.step.made
              (after.half.seen (cont_lock c.nodes device place)).journal makes.step.answered left in
              came false true (ap (was_made answer) so.not_made ∙ left-unmade answer left) left

      pub comes : All (IsRight c l place) (rows_in change) → ContNext l change answer after
      comes right = record {
        tables = fold merge_at l.tables all_rows;
        goes = merges l all_rows (all-right right);
        accounts = record { tell = tell; rows = each-row; listed = all-listed l.tables all_rows accounts.listed; split = each-split };
        right = each-right right;
        heard = heard;
      }
