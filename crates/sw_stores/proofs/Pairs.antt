-- Two lists of one length as a list of pairs.
use Rattle.std.proofs.Common.{◌≡◌, suc, List, [], ◌∷◌, ◌++◌, length, map, refl, ap, arith}
use Rattle.std.specs.Prelude.{zip}

module _ {V K : Type 0} where
  pub zip-more : (vs : List V) (ks : List K) (v : V) (k : K) → length vs ≡ length ks → zip (vs ++ v ∷ []) (ks ++ k ∷ []) ≡ zip vs ks ++ (v, k) ∷ []
  zip-more [] [] v k same = refl
  zip-more [] (x ∷ ks) v k same = absurd (omega arith)
  zip-more (x ∷ vs) [] v k same = absurd (omega arith)
  zip-more (x ∷ vs) (y ∷ ks) v k same = ap (λ (l : List (V × K)). (x, y) ∷ l) (zip-more vs ks v k (omega arith))

  pub zip-length : (vs : List V) (ks : List K) → length vs ≡ length ks → length (zip vs ks) ≡ length vs
  zip-length [] [] same = refl
  zip-length [] (x ∷ ks) same = absurd (omega arith)
  zip-length (x ∷ vs) [] same = absurd (omega arith)
  zip-length (x ∷ vs) (y ∷ ks) same = ap suc (zip-length vs ks (omega arith))

  pub zip-firsts : (vs : List V) (ks : List K) → length vs ≡ length ks → map (λ (p : V × K). p.0) (zip vs ks) ≡ vs
  zip-firsts [] [] same = refl
  zip-firsts [] (x ∷ ks) same = absurd (omega arith)
  zip-firsts (x ∷ vs) [] same = absurd (omega arith)
  zip-firsts (x ∷ vs) (y ∷ ks) same = ap (λ (l : List V). x ∷ l) (zip-firsts vs ks (omega arith))

  pub zip-seconds : (vs : List V) (ks : List K) → length vs ≡ length ks → map (λ (p : V × K). p.1) (zip vs ks) ≡ ks
  zip-seconds [] [] same = refl
  zip-seconds [] (x ∷ ks) same = absurd (omega arith)
  zip-seconds (x ∷ vs) [] same = absurd (omega arith)
  zip-seconds (x ∷ vs) (y ∷ ks) same = ap (λ (l : List K). y ∷ l) (zip-seconds vs ks (omega arith))

  -- a list of pairs is that of its parts
  pub unzipped : (ps : List (V × K)) → zip (map (λ (p : V × K). p.0) ps) (map (λ (p : V × K). p.1) ps) ≡ ps
  unzipped [] = refl
  unzipped (p ∷ ps) = ap (λ (l : List (V × K)). p ∷ l) (unzipped ps)
