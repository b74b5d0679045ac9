-- Nothing is none of what there is.
use Rattle.std.proofs.Common.{◌≡◌, Option, None, Some, sym, ◌∙◌}

pub nothing : {A : Type 0} (x : A) → None ≡ Some x → ⊥
nothing {A} x is = cc

pub none-not : {A : Type 0} (o : Option A) (x : A) → o ≡ None → o ≡ Some x → ⊥
none-not {A} o x none is = nothing x (sym none ∙ is)
