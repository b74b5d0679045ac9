-- What the text of an outcome tells.
use Rattle.std.proofs.Common.{◌≡◌, ℕ, Bool, true, false, List, ◌++◌, codes, get_or, refl, ap, arith}
use Rattle.sw_control.specs.Laws.{TellsDone}
use Rattle.sw_control.specs.OutcomeText.{done_text}

one_done : (a b : Bool) (x y : List ℕ) → codes "done=" ++ (done_text a ++ x) ≡ codes "done=" ++ (done_text b ++ y) → a ≡ b
one_done true true x y same = refl
one_done true false x y same = let digit : ◌≡◌ {A = ℕ} 49 48 = ap (λ (text : List ℕ). get_or text 5 0) same in absurd (omega arith)
one_done false true x y same = let digit : ◌≡◌ {A = ℕ} 48 49 = ap (λ (text : List ℕ). get_or text 5 0) same in absurd (omega arith)
one_done false false x y same = refl

pub tells_done : TellsDone
tells_done a b same = one_done a.done b.done _ _ same
