use Rattle.std.proofs.Common.{◌≡◌, ℕ, ◌+◌, ◌-◌, ◌≤◌, zero, suc, List, [], ◌∷◌, ◌++◌, length, take, drop, sym, ◌∙◌, ap, refl, arith, rules}
use Rattle.std.proofs.lemmas.Fmt.{length-decimal-le}
use Rattle.std.proofs.lemmas.List.{append-nil, take-replicate, take-append-drop}
use Rattle.std.specs.Prelude.{replicate, decimal}
use Rattle.sw_jobs.specs.Requests.{object_name}
use Rattle.sw_jobs.proofs.names.object_text.Goals as goal

-- what stands in front of the digits stays as it was, an `o` and zeros
behind_zeros : (start : ℕ) (buf digits : List ℕ) → length digits ≤ 8 → start + length digits ≡ 9 → drop start buf ≡ digits ++ []
    → take start buf ≡ take start (111 ∷ replicate 8 48) → buf ≡ 111 ∷ replicate (8 - length digits) 48 ++ digits
behind_zeros zero buf digits short nine behind front = absurd (omega arith)
behind_zeros (suc j) buf digits short nine behind front =
    let zeros : 8 - length digits ≡ j = omega arith in
    let in_front : take (suc j) buf ≡ 111 ∷ replicate j 48 = front ∙ ap (λ (t : List ℕ). 111 ∷ t) (take-replicate j 8 48 (omega arith)) in
    sym (take-append-drop (suc j) buf) ∙ rw (in_front, behind, zeros, append-nil) refl

pub write_digits-requires : goal.write_digits-requires
write_digits-requires c = search (rules, length-decimal-le 8)

pub returns : goal.returns
unfolding object_name
returns c =
    behind_zeros c.write_digits.result c.write_digits.new.buf (decimal c.args.object) (search (rules, length-decimal-le 8)) c.write_digits.ensures.start
    c.write_digits.ensures.written c.write_digits.ensures.before
