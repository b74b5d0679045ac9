use Rattle.std.proofs.Common.{◌≡◌, ◌∙◌, ◌+◌, ◌-◌, ◌≤◌, ◌&&◌, Bool, true, false, ℕ, List, take, drop, length, refl, sym, ap, arith, length-drop}
use Rattle.std.proofs.lemmas.List.{take_all}
use Rattle.sw_disk.proofs.Segments.{names-first, names-whole}
use Rattle.sw_disk.specs.Places.{is_name}
use Rattle.sw_disk.proofs.places.+are_names.Goals as goal

pub returns-then-first-dir : goal.returns-then-first-dir
returns-then-first-dir t c = c.is_name.ensures
    ∙ names-whole c.args.dir.now c.first_segment-first.result.now c.first_segment-first.ensures.value c.if-first-dir.true

pub slice_bounds-are_names-count : goal.slice_bounds-are_names-count
slice_bounds-are_names-count t c = let within = c.first_segment-first.ensures.within in let apart = c.if-first-dir.false in omega (arith, within, apart)

behind : (dir : List ℕ) (n : ℕ) → n ≤ length dir → take (length dir - n) (drop n dir) ≡ drop n dir
behind dir n h = take_all _ _ (omega (arith, length-drop n dir))

and_is : (a b : Bool) → a ≡ true → (a && b) ≡ b
and_is a b e = ap (λ (x : Bool). x && b) e

and_not : (a b : Bool) → a ≡ false → (a && b) ≡ a
and_not a b e = ap (λ (x : Bool). x && b) e ∙ sym e

pub returns-then-is_name : goal.returns-then-is_name
returns-then-is_name t c =
    let first = c.first_segment-first.result.now in
    let within = c.first_segment-first.ensures.within in
    let apart = c.if-first-dir.false in
    let rest = behind c.args.dir.now (length first + 1) (omega (arith, within, apart)) in
    c.are_names.ensures ∙ sym (names-first c.args.dir.now first _ c.first_segment-first.ensures.value within apart rest ∙ and_is (is_name first) _
    (sym (c.if-is_name.ensures)))

pub returns-else-is_name : goal.returns-else-is_name
returns-else-is_name t c =
    let first = c.first_segment-first.result.now in
    c.is_name-2.ensures ∙ sym (names-first c.args.dir.now first
    (drop (length first + 1) c.args.dir.now) c.first_segment-first.ensures.value c.first_segment-first.ensures.within c.if-first-dir.false refl
    ∙ and_not (is_name first) _ (sym c.if-is_name.ensures))
