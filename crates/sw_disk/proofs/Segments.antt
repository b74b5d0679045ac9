-- The segments of a path, the first of them first.
use Rattle.std.proofs.Common.{◌≡◌, ℕ, suc, ◌+◌, ◌<◌, ◌≤◌, Bool, true, false, cond, ◌==◌, ◌&&◌, if◌then◌else◌, List, [], ◌∷◌, length, drop, inl, inr, refl}
use Rattle.std.proofs.Common.{sym, ◌∙◌, ap, arith}
use Rattle.std.proofs.lemmas.Bool.{cases_Bool}
use Rattle.std.specs.List.{list_all, onto_first, slice_split}
use Rattle.sw_disk.specs.Places.{is_name, is_slash}
use Rattle.sw_volume.specs.Volume.{first_segment}

pub length-first_segment : (dir : List ℕ) → length (first_segment dir) ≤ length dir
length-first_segment [] = omega arith
length-first_segment (b ∷ bs) = let h = length-first_segment bs in elim (cases_Bool (b == 47)) [
  | inl slash ↦ rw slash (omega arith)
  | inr none ↦ rw none (omega arith)
]

-- a path without a slash is its first segment, and has no other
pub split-whole : (dir : List ℕ) → length (first_segment dir) ≡ length dir → slice_split is_slash dir ≡ first_segment dir ∷ []
split-whole [] e = refl
split-whole (b ∷ bs) e = go (b == 47) e (split-whole bs)
  where
    go : (t : Bool) → length (if t then [] else b ∷ first_segment bs) ≡ length (b ∷ bs)
        → (length (first_segment bs) ≡ length bs → slice_split is_slash bs ≡ first_segment bs ∷ [])
        → cond t ([] ∷ slice_split is_slash bs) (onto_first b (slice_split is_slash bs)) ≡ (if t then [] else b ∷ first_segment bs) ∷ []
    go true e rest = absurd (omega (arith, e))
    go false e rest = ap (onto_first b) (rest (omega (arith, e)))

pub split-first : (dir : List ℕ) → length (first_segment dir) < length dir
    → slice_split is_slash dir ≡ first_segment dir ∷ slice_split is_slash (drop (length (first_segment dir) + 1) dir)
split-first [] lt = absurd (omega (arith, lt))
split-first (b ∷ bs) lt = go (b == 47) lt (split-first bs)
  where
    go : (t : Bool) → length (if t then [] else b ∷ first_segment bs) < length (b ∷ bs)
        → (length (first_segment bs) < length bs → slice_split is_slash bs ≡ first_segment bs ∷ slice_split is_slash (drop (length (first_segment bs) + 1) bs))
        → cond t ([] ∷ slice_split is_slash bs) (onto_first b (slice_split is_slash bs))
        ≡ (if t then [] else b ∷ first_segment bs) ∷ slice_split is_slash (drop (length (if t then [] else b ∷ first_segment bs) + 1) (b ∷ bs))
    go true lt rest = refl
    go false lt rest = ap (onto_first b) (rest (omega (arith, lt)))
        ∙ ap (λ (n : ℕ). (b ∷ first_segment bs) ∷ slice_split is_slash (drop n (b ∷ bs)))
        (let e : suc (length (first_segment bs) + 1) ≡ suc (length (first_segment bs)) + 1 = omega arith in e)

-- the segments of a path are names: the first is, and the others are
pub names-whole : (dir first : List ℕ) → first ≡ first_segment dir → length first ≡ length dir → is_name first ≡ list_all is_name (slice_split is_slash dir)
names-whole dir first is e = sym (ap (list_all is_name) (split-whole dir (ap length (sym is) ∙ e)) ∙ ap (λ (f : List ℕ). list_all is_name (f ∷ [])) (sym is)
    ∙ and_true (is_name first))
  where
    and_true : (b : Bool) → list_all (λ (x : Bool). x) (b ∷ []) ≡ b
    and_true true = refl
    and_true false = refl

pub names-first : (dir first rest : List ℕ) → first ≡ first_segment dir → length first ≤ length dir → ¬ (length first ≡ length dir)
    → rest ≡ drop (length first + 1) dir → list_all is_name (slice_split is_slash dir) ≡ (is_name first && list_all is_name (slice_split is_slash rest))
names-first dir first rest is within apart behind =
    let shorter : length (first_segment dir) < length dir = omega (arith, ap length is, within, apart) in
    ap (list_all is_name) (split-first dir shorter)
    ∙ ap (λ (f : List ℕ). list_all is_name (f ∷ slice_split is_slash (drop (length f + 1) dir))) (sym is)
    ∙ ap (λ (r : List ℕ). list_all is_name (first ∷ slice_split is_slash r)) (sym behind)
