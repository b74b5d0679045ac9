-- Rows that are taken away by their numbers.
use Rattle.std.proofs.Common.{◌≡◌, ℕ, ◌<◌, ◌≤◌, Bool, true, false, cond, not, List, [], ◌∷◌, None, Some, All, refl, ap, arith}
use Rattle.std.specs.List.{find}
use Rattle.std.proofs.lemmas.Bool.{ne_eqb}
use Rattle.std.proofs.lemmas.List.Elements.{All-head, All-tail}
use Rattle.sw_rows.specs.Index.{but}
use Rattle.sw_rows.specs.Rows.{is_numbered, IsRising}
use Rattle.sw_rows.specs.declared.numbered.Numbered.{Numbered}

-- above a number no row has it
pub but-above : (rowid low : ℕ) (ns : List Numbered) → rowid ≤ low → IsRising low ns → but ns rowid ≡ ns
but-above rowid low [] le rising = refl
but-above rowid low (n ∷ ns) le rising =
    let apart : is_numbered rowid n ≡ false = ne_eqb n.rowid rowid (λ same. absurd (omega (arith, rising.0))) in
    rw apart (ap (λ (t : List Numbered). n ∷ t) (but-above rowid n.rowid ns (omega (arith, rising.0)) rising.1))

-- nor below one that is above all
pub but-below : (rowid : ℕ) (ns : List Numbered) → All (λ n. n.rowid < rowid) ns → but ns rowid ≡ ns
but-below rowid [] below = refl
but-below rowid (n ∷ ns) below =
    let P : Numbered → Type 0 = λ m. m.rowid < rowid in
    let head : n.rowid < rowid = All-head P n ns below in
    let apart : is_numbered rowid n ≡ false = ne_eqb n.rowid rowid (λ same. absurd (omega arith)) in
    rw apart (ap (λ (t : List Numbered). n ∷ t) (but-below rowid ns (All-tail P n ns below)))

pub but-none : (rowid : ℕ) (ns : List Numbered) → find (is_numbered rowid) ns ≡ None → but ns rowid ≡ ns
but-none rowid [] none = refl
but-none rowid (n ∷ ns) none = at (is_numbered rowid n) none (λ h. but-none rowid ns h)
  where
    at : (b : Bool) → cond b (Some n) (find (is_numbered rowid) ns) ≡ None → (find (is_numbered rowid) ns ≡ None → but ns rowid ≡ ns) →
        cond (not b) (n ∷ but ns rowid) (but ns rowid) ≡ n ∷ ns
    at true none rest = cc
    at false none rest = ap (λ (t : List Numbered). n ∷ t) (rest none)
