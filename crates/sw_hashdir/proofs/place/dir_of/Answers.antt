use Rattle.std.proofs.Common.{◌≡◌, ℕ, ◌++◌, ◌∷◌, [], List, length, refl, ap, sym, ◌∙◌, arith}
use Rattle.hex.proofs.HexLemmas.{length-encode_with}
use Rattle.hex.specs.Hex.{encode_lower, lower_digits}
use Rattle.sw_hashpath.specs.HashParts.{IsDigest, partition_of, suffix_of}
use Rattle.sw_object_steps.specs.Parts.{IsOfPart}
use Rattle.sw_hashdir.specs.Partitions.{suffix_dir_text}
use Rattle.sw_hashdir.proofs.Digits.{dir-below}
use Rattle.sw_hashdir.proofs.Order.{digest-place}
use Rattle.sw_hashdir.proofs.place.dir_of.Goals as goal

digits : (hash : List ℕ) → IsDigest hash → length (encode_lower hash) ≡ 32
digits hash is = let e = length-encode_with lower_digits hash in let l = is.0 in omega (arith, e, l)

pub returns-clause-text : goal.returns-clause-text
returns-clause-text c =
    let hash : List ℕ = c.args.hash.now in
    let part : ℕ = partition_of hash c.args.power in
    let is : IsOfPart c.args.power part hash = record { digest = c.hex_text.ensures.rule; part_is = refl } in
    let front : c.in_ok-dir.dir.items ≡ suffix_dir_text part (suffix_of hash) =
    c.in_ok-dir.ensures ∙ rw (c.partition.ensures.value, c.suffix.ensures.value) refl in
    c.in_ok-extend_from_slice.ensures.items
    ∙ (ap (λ (l : List ℕ). l ++ c.hex_text.result) (c.in_ok-push.ensures.items ∙ ap (λ (l : List ℕ). l ++ 47 ∷ []) front)
    ∙ (ap (λ (l : List ℕ). (suffix_dir_text part (suffix_of hash) ++ 47 ∷ []) ++ l) c.hex_text.ensures.text
    ∙ sym (dir-below c.args.power part (suffix_of hash) hash is refl)))

pub returns-clause-place : goal.returns-clause-place
returns-clause-place c = digest-place c.args.power c.args.hash.now c.hex_text.ensures.rule (digits c.args.hash.now c.hex_text.ensures.rule)
