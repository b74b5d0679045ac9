-- The connections that were accepted, and those that were finished: how many, and one more.
use Rattle.std.proofs.Common.{◌≡◌, ◌∙◌, ℕ, zero, suc, ◌+◌, List, [], ◌∷◌, ◌++◌, length, map, refl, sym, ap, add-one, arith, length-append}
use Rattle.std.proofs.lemmas.List.{map-append}
use Rattle.sw_store.specs.Connections.{accepts_of, finished_of, fresh, told}
use Rattle.sw_store.specs.declared.tcp_doors.TcpFinished.{TcpFinished}

pub accepted-count : (count : ℕ) → length (accepts_of count) ≡ count
accepted-count zero = refl
accepted-count (suc count) =
    let before = accepted-count count in
    length-append (accepts_of count) (fresh (suc count) ∷ []) ∙ omega (arith, before)

pub accepts-more : (count : ℕ) → accepts_of (count + 1) ≡ accepts_of count ++ fresh (count + 1) ∷ []
accepts-more count = rw add-one refl

pub finishes-more : (count : ℕ) (before all : List TcpFinished) (f : TcpFinished) → all ≡ before ++ f ∷ [] → f.among ≡ count
    → finished_of all ≡ finished_of before ++ record (told f) { among = length (accepts_of count) } ∷ []
finishes-more count before all f more among =
    ap (λ (fs : List TcpFinished). map told fs) more ∙ map-append told before (f ∷ [])
    ∙ ap (λ (n : ℕ). finished_of before ++ record (told f) { among = n } ∷ []) (among ∙ sym (accepted-count count))
