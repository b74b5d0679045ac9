-- What was heard of a call.
use Rattle.std.proofs.Common.{◌≡◌, List, [], ◌∷◌, ◌++◌, subst, Result, Ok, Err, IsOk, rules}
use Rattle.sw_peer.proofs.Calls.{same-refl}
use Rattle.sw_peer.specs.Sights.{Calls, Comes, IsSame, Sight}
use Rattle.sw_peer.specs.declared.link.Link.{Link}
use Rattle.sw_peer.specs.declared.link.Link.TheVariants.{Local, Sent}
use Rattle.sw_peer.specs.declared.link.Lost.{Lost}

-- nothing is lost at the device itself
pub local-heard : {A : Type 0} (step : Sight → A → Sight → Type 0) (s : Sight) (r : Result A Lost) (t : Sight) → Calls step s Local r t → IsOk r
local-heard step s (Ok x) t p = search rules
local-heard step s (Err lost) t p = absurd (apart p.0)
  where
    apart : Local ≡ Sent → ⊥
    apart same = cc

-- a call that was answered so
pub heard : {A : Type 0} (step : Sight → A → Sight → Type 0) (s : Sight) (link : Link) (r q : Result A Lost) (t : Sight)
    → r ≡ q → Calls step s link r t → Calls step s link q t
heard {A} step s link r q t is p = subst (λ (y : Result A Lost). Calls step s link y t) is p

-- the copy whose answer was heard
module _ {A : Type 0} (step : Sight → A → Sight → Type 0) where
  pub last : (s : Sight) (xs : List A) (x : A) (t : Sight) → Comes step s (xs ++ x ∷ []) t
      → (m : Sight) × (n : Sight) × Comes step s xs m × step m x n × IsSame n t
  last s [] x t p = (s, p.0, same-refl s, p.1, p.2)
  last s (y ∷ ys) x t p = let r = last p.0 ys x t p.2 in (r.0, r.1, (p.0, p.1, r.2), r.3, r.4)
