-- Statements asked one after the other.
use Rattle.std.proofs.Common.{◌≡◌, ◌∙◌, ℕ, ◌+◌, List, [], ◌∷◌, ◌++◌, take, refl, sym, ap, subst}
use Rattle.std.proofs.lemmas.List.{flat_map_more}
use Rattle.std.specs.List.{flat_map}
use Rattle.sqlite_value.specs.Order.{Row as SqlRow}
use Rattle.sw_container_store.specs.declared.statements.Command.{Command}
use Rattle.sw_container_store.specs.Values.{Asked}
use Rattle.sw_container_store.specs.Runs.{RunsAll}

module _ {D : Type 0} where
  -- one more behind the others
  pub runs-more : (Runs : Command → SqlRow → D → D → Type 0) (front : List Asked) (last : Asked) (old mid new : D) →
      RunsAll Runs front old mid → Runs last.command last.values mid new → RunsAll Runs (front ++ last ∷ []) old new
  unfolding RunsAll
  runs-more Runs [] last old mid new same run = (new, subst (λ (d : D). Runs last.command last.values d new) same run, refl)
  runs-more Runs (asked ∷ front) last old mid new ran run = (ran.0, ran.1, runs-more Runs front last ran.0 mid new ran.2 run)

  -- some behind the others
  pub runs-append : (Runs : Command → SqlRow → D → D → Type 0) (front back : List Asked) (old mid new : D) →
      RunsAll Runs front old mid → RunsAll Runs back mid new → RunsAll Runs (front ++ back) old new
  unfolding RunsAll
  runs-append Runs [] back old mid new same ran = subst (λ (d : D). RunsAll Runs back d new) same ran
  runs-append Runs (asked ∷ front) back old mid new begun ran = (begun.0, begun.1, runs-append Runs front back begun.0 mid new begun.2 ran)

  -- what one more item of a list asks for
  pub runs-next : {X : Type 0} (Runs : Command → SqlRow → D → D → Type 0) (asked_of : X → List Asked) (items : List X) (i : ℕ) (item : X) (old mid new : D) →
      take (i + 1) items ≡ take i items ++ item ∷ [] → RunsAll Runs (flat_map asked_of (take i items)) old mid →
      RunsAll Runs (asked_of item) mid new → RunsAll Runs (flat_map asked_of (take (i + 1) items)) old new
  runs-next {X} Runs asked_of items i item old mid new next begun ran =
      subst (λ (list : List Asked). RunsAll Runs list old new)
      (sym (ap (λ (list : List X). flat_map asked_of list) next ∙ sym (flat_map_more asked_of [] (take i items) item)))
      (runs-append Runs (flat_map asked_of (take i items)) (asked_of item) old mid new begun ran)

  -- one alone
  pub runs-one : (Runs : Command → SqlRow → D → D → Type 0) (asked : Asked) (old new : D) → Runs asked.command asked.values old new
      → RunsAll Runs (asked ∷ []) old new
  unfolding RunsAll
  runs-one Runs asked old new run = (new, run, refl)

  -- the one before others
  pub runs-first : (Runs : Command → SqlRow → D → D → Type 0) (asked : Asked) (more : List Asked) (old mid new : D)
      → Runs asked.command asked.values old mid → RunsAll Runs more mid new → RunsAll Runs (asked ∷ more) old new
  unfolding RunsAll
  runs-first Runs asked more old mid new run ran = (mid, run, ran)

  -- all of them, between a first and a last one
  pub runs-all : (Runs : Command → SqlRow → D → D → Type 0) (first : Asked) (between : List Asked) (last : Asked) (old begun mid new : D) →
      Runs first.command first.values old begun → RunsAll Runs between begun mid → Runs last.command last.values mid new →
      RunsAll Runs (first ∷ between ++ last ∷ []) old new
  unfolding RunsAll
  runs-all Runs first between last old begun mid new begins ran ends = (begun, begins, runs-more Runs between last begun mid new ran ends)
