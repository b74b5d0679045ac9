-- Rows of given things, one of a thing at most, as the rows of a container: each of these is held, where there is no row it has another reason.
use Rattle.std.proofs.Common.{◌≡◌, List, [], ◌∷◌, ℕ, Some, ◌⊎◌, inl, inr, sym, ◌∙◌, subst}
use Rattle.std.specs.List.{Contains}
use Rattle.sw_pending_laws.proofs.Among.{behind, front-or-behind, in-front, none-among}
use Rattle.sw_pending_laws.proofs.Rows.{merged-holds, merged-one}
use Rattle.sw_pending_laws.specs.Ledger.{IsHeld}
use Rattle.sw_point_laws.proofs.Leaving.{nothing-listed}
use Rattle.sw_rows.proofs.Greater.{listed-merged, stands-merged}
use Rattle.sw_rows.specs.Rows.{IsListed, Listed, find_named, merged, no_rows}
use Rattle.sw_rows.specs.declared.row.Row.{Row}

module _ {A : Type 0} (P : Row → Type 0) (Q : A → Type 0) (N : A → Row → Type 0) where
  -- such rows alone, and each thing has a reason, or its row is held
  pub record Collected (things : List A) : Type 0 where
    pub listed : Listed
    pub is_listed : IsListed listed
    pub only : (name : List ℕ) (row : Row) → find_named listed.list name ≡ Some row → (row.name ≡ name) × P row
    pub each : (a : A) → Contains things a → Q a ⊎ ((row : Row) × N a row × IsHeld listed row.name row.created_at row.deleted)

  pub collect : (things : List A) → ((a : A) → Contains things a → Q a ⊎ ((row : Row) × P row × N a row)) → Collected things
  collect [] ways = record {
    listed = no_rows;
    is_listed = nothing-listed;
    only = λ name row found. cc;
    each = λ a there. absurd (none-among a there);
  }
  collect (a ∷ things) ways = by (collect things (λ x there. ways x (behind a things x there))) (ways a (in-front a things))
    where
      idle : (rest : Collected things) → Q a
          → (x : A) → (x ≡ a) ⊎ Contains things x → Q x ⊎ ((row : Row) × N x row × IsHeld rest.listed row.name row.created_at row.deleted)
      idle rest q x (inl same) = inl (subst Q (sym same) q)
      idle rest q x (inr old) = rest.each x old

      found : (rest : Collected things) (row : Row) → P row → (name : List ℕ) (x : Row)
          → (find_named (merged rest.listed row).list name ≡ find_named rest.listed.list name)
          ⊎ ((row.name ≡ name) × (find_named (merged rest.listed row).list name ≡ Some row))
          → find_named (merged rest.listed row).list name ≡ Some x → (x.name ≡ name) × P x
      found rest row p name x (inl same) is = rest.only name x (sym same ∙ is)
      found rest row p name x (inr new) is =
          let whole : Some row ≡ Some x = sym new.1 ∙ is in
          let one : row ≡ x = cc in
          subst (λ (y : Row). (y.name ≡ name) × P y) one (new.0, p)

      still : (rest : Collected things) (row : Row) (x : A) → Q x ⊎ ((r : Row) × N x r × IsHeld rest.listed r.name r.created_at r.deleted)
          → Q x ⊎ ((r : Row) × N x r × IsHeld (merged rest.listed row) r.name r.created_at r.deleted)
      still rest row x (inl q) = inl q
      still rest row x (inr held) = inr (held.0, held.1, merged-holds rest.listed row held.0.name held.0.created_at held.0.deleted held.2)

      now : (rest : Collected things) (row : Row) → N a row → (x : A) → (x ≡ a) ⊎ Contains things x
          → Q x ⊎ ((r : Row) × N x r × IsHeld (merged rest.listed row) r.name r.created_at r.deleted)
      now rest row n x (inl same) = inr (row, subst (λ (y : A). N y row) (sym same) n, stands-merged rest.listed row)
      now rest row n x (inr old) = still rest row x (rest.each x old)

      by : (rest : Collected things) → Q a ⊎ ((row : Row) × P row × N a row) → Collected (a ∷ things)
      by rest (inl q) = record {
        listed = rest.listed;
        is_listed = rest.is_listed;
        only = rest.only;
        each = λ x there. idle rest q x (front-or-behind a things x there);
      }
      by rest (inr r) = record {
        listed = merged rest.listed r.0;
        is_listed = listed-merged rest.listed r.0 rest.is_listed;
        only = λ name x is. found rest r.0 r.1 name x (merged-one rest.listed r.0 name) is;
        each = λ x there. now rest r.0 r.2 x (front-or-behind a things x there);
      }
