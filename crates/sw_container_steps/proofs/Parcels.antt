-- The rows of a range, as they are copied one after the other.
use Rattle.std.proofs.Common.{◌≡◌, ◌≢◌, Bool, true, false, List, [], ◌∷◌, ◌++◌, map, Result, sym, ◌∙◌, ap, append_assoc}
use Rattle.std.proofs.lemmas.List.{append-nil}
use Rattle.std.specs.List.{filter}
use Rattle.std.specs.Prelude.{OnErr}
use Rattle.sw_container_steps.proofs.Shards.{filter-here, filter-later}
use Rattle.sw_rows.specs.declared.numbered.Numbered.{Numbered}
use Rattle.sw_rows.specs.declared.row.Row.{Row}
use Rattle.sw_rows.proofs.Above.{starved}

-- the rows that pass
abbrev pub passing : (Numbered → Bool) → List Numbered → List Row
passing p ns = map (λ n. n.row) (filter p ns)

module _ (p : Numbered → Bool) (n : Numbered) (ns left : List Numbered) (steps : left ≡ n ∷ ns) (done all : List Row)
    (so_far : done ++ passing p left ≡ all) where
  here : p n ≡ true → done ++ n.row ∷ passing p ns ≡ all
  here passes = sym (ap (λ (x : List Numbered). done ++ map (λ m. m.row) x) (filter-here p n ns left steps passes)) ∙ so_far

  pub passes-here : (more : List Row) → p n ≡ true → more ≡ done ++ n.row ∷ [] → more ++ passing p ns ≡ all
  passes-here more passes is =
      ap (λ (x : List Row). x ++ passing p ns) is ∙ append_assoc done (n.row ∷ []) (passing p ns) ∙ here passes

  pub passes-later : p n ≡ false → done ++ passing p ns ≡ all
  passes-later fails = sym (ap (λ (x : List Numbered). done ++ map (λ m. m.row) x) (filter-later p n ns left steps fails)) ∙ so_far

  -- memory is wanted only where there is such a row
  pub passes-some : {T E : Type 0} (result : Result T E) → p n ≡ true → OnErr result (all ≢ [])
  passes-some result passes = starved result done (passing p ns) all n.row (here passes)

pub passes-all : (p : Numbered → Bool) (left : List Numbered) (done all : List Row) → left ≡ [] → done ++ passing p left ≡ all → done ≡ all
passes-all p left done all none so_far = sym (append-nil done) ∙ sym (ap (λ (x : List Numbered). done ++ passing p x) none) ∙ so_far
