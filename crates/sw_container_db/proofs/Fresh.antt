-- What was entered is kept to be taken.
use Rattle.std.proofs.Common.{◌≡◌, List, [], ◌++◌, sym, ◌∙◌, ap, append_assoc}
use Rattle.std.proofs.lemmas.List.{append_cancel_left, append-nil}
use Rattle.sw_container_steps.specs.declared.cont_entry.ContEntry.{ContEntry}

-- what was added to the entries was added to those that are to be taken
abbrev pub IsKept : List ContEntry → List ContEntry → List ContEntry → List ContEntry → Type 0
IsKept entries fresh entries' fresh' = (added : List ContEntry) → entries' ≡ entries ++ added → fresh' ≡ fresh ++ added

-- these were added to both
pub fresh-more : (entries fresh entries' fresh' more : List ContEntry) → entries' ≡ entries ++ more → fresh' ≡ fresh ++ more →
    IsKept entries fresh entries' fresh'
fresh-more entries fresh entries' fresh' more one two added is = two ∙ ap (λ (m : List ContEntry). fresh ++ m)
    (append_cancel_left entries more added (sym one ∙ is))

-- none was added to either
pub fresh-same : (entries fresh entries' fresh' : List ContEntry) → entries' ≡ entries → fresh' ≡ fresh → IsKept entries fresh entries' fresh'
fresh-same entries fresh entries' fresh' one two = fresh-more entries fresh entries' fresh' [] (one ∙ sym (append-nil entries)) (two ∙ sym (append-nil fresh))

-- there was room for these, and they were entered
pub fresh-entered : (entries fresh entries' fresh' entries'' fresh'' batch : List ContEntry) → entries' ≡ entries → fresh' ≡ fresh →
    entries'' ≡ entries' ++ batch → fresh'' ≡ fresh' ++ batch
    → IsKept entries fresh entries'' fresh''
fresh-entered entries fresh entries' fresh' entries'' fresh'' batch one two entered kept =
    fresh-more entries fresh entries'' fresh'' batch (entered ∙ ap (λ (e : List ContEntry). e ++ batch) one)
    (kept ∙ ap (λ (e : List ContEntry). e ++ batch) two)

-- some were added, and then others
pub fresh-both : (entries fresh entries' fresh' entries'' fresh'' more others : List ContEntry) → entries' ≡ entries ++ more → entries'' ≡ entries' ++ others
    → IsKept entries fresh entries' fresh' → IsKept entries' fresh' entries'' fresh'' → IsKept entries fresh entries'' fresh''
fresh-both entries fresh entries' fresh' entries'' fresh'' more others one two first then =
    fresh-more entries fresh entries'' fresh'' (more ++ others)
    (two ∙ (ap (λ (e : List ContEntry). e ++ others) one ∙ append_assoc entries more others))
    (then others two ∙ (ap (λ (e : List ContEntry). e ++ others) (first more one) ∙ append_assoc fresh more others))
