use Rattle.std.proofs.Common.{◌≡◌, ◌∷◌, [], ℕ, List, get_or, ap, ◌∙◌}
use Rattle.hex.specs.Hex.{encode_lower}
use Rattle.sw_hashdir.proofs.Digits.{suffix-text}
use Rattle.sw_hashdir.specs.Partitions.{suffix_digits}
use Rattle.sw_hashdir.proofs.folder.suffix_digits.Goals as goal

pub returns : goal.returns
returns c =
    let text : c.encode_to_slice.new.output ≡ encode_lower c.to_be_bytes.result = rw c.unwrap.ensures at c.encode_to_slice.ensures.written in
    let whole : c.encode_to_slice.new.output ≡ 48 ∷ suffix_digits c.args.suffix =
    text ∙ (ap encode_lower c.to_be_bytes.ensures ∙ suffix-text c.args.suffix c.requires) in
    ap (λ (t : List ℕ). get_or t 1 0 ∷ get_or t 2 0 ∷ get_or t 3 0 ∷ []) whole
