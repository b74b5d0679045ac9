-- Pages of rows asked one after the other.
use Rattle.std.proofs.Common.{◌≤◌, ℤ, List, [], ◌∷◌, ◌++◌, length, refl, subst}
use Rattle.sqlite_value.specs.Order.{Row as SqlRow}
use Rattle.sqlite_value.specs.declared.value.Value.TheVariants.{Int}
use Rattle.sw_container_store.specs.declared.statements.Query.{Query}
use Rattle.sw_container_store.specs.declared.statements.Query.TheVariants.{Rows}
use Rattle.sw_container_store.specs.Telling.{EndsAt, ShowsPages}

module _ {D : Type 0} where
  -- one more full page behind the others
  pub pages-more : (Shows : Query → SqlRow → D → D → List SqlRow → Type 0) (pages : List (List SqlRow)) (page : List SqlRow) (start end next : ℤ)
      (old mid new : D) → ShowsPages Shows pages start end old mid → Shows Rows (Int end ∷ []) mid new page → 1000 ≤ length page → EndsAt page next →
      ShowsPages Shows (pages ++ page ∷ []) start next old new
  unfolding ShowsPages
  pages-more Shows [] page start end next old mid new same shown full ends = (
    next,
    new,
    subst (λ (d : D). Shows Rows (Int start ∷ []) d new page) same.1 (subst (λ (at : ℤ). Shows Rows (Int at ∷ []) mid new page) same.0 shown),
    full,
    ends,
    (refl, refl),
  )
  pages-more Shows (first ∷ pages) page start end next old mid new told shown full ends =
      (told.0, told.1, told.2, told.3, told.4, pages-more Shows pages page told.0 end next told.1 mid new told.5 shown full ends)
