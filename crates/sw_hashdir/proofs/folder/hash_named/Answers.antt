use Rattle.std.proofs.Common.{◌≡◌, ap, sym, ◌∙◌}
use Rattle.std.proofs.lemmas.Slice.Eq.{bytes_eq-Decides}
use Rattle.hex.specs.Hex.{encode_lower}
use Rattle.sw_hashpath.specs.HashParts.{partition_of, suffix_of}
use Rattle.sw_hashdir.proofs.Digits.{hash-is, hash-reads}
use Rattle.sw_hashdir.proofs.folder.hash_named.Goals as goal
use Rattle.sw_hashdir.proofs.folder.hash_named.Goals.{else-is_written-via-then-is_written+then-partition-part+else-suffix}
use Rattle.sw_hashdir.proofs.folder.hash_named.Goals.{else-is_written-via-then-is_written+else-partition-part, else-is_written-via-else-is_written}

pub returns-in_default-clause-none : goal.returns-in_default-clause-none
returns-in_default-clause-none c = λ e hash is.
    c.in_default.not-Ok hash (c.from_hex.ensures ∙ hash-reads c.args.folder.now hash is.of_part.digest is.digits)

pub returns-else-is_written-clause-none : goal.returns-else-is_written-clause-none
returns-else-is_written-clause-none c = λ e hash is.
    let same : c.in-Ok.hash ≡ hash = hash-is c.args.folder.now c.in-Ok.hash hash (sym c.from_hex.ensures ∙ c.in-Ok.is) is.of_part.digest is.digits in
    elim c.else-is_written.branch [
      | else-is_written-via-then-is_written+then-partition-part+else-suffix w ↦
          w.if-suffix.false (w.suffix.ensures.value ∙ (ap suffix_of same ∙ is.suffix_is))
      | else-is_written-via-then-is_written+else-partition-part w ↦
          w.if-partition-part.false (w.partition.ensures.value ∙ (ap (λ h. partition_of h c.args.power) same ∙ is.of_part.part_is))
      | else-is_written-via-else-is_written w ↦
          let text : c.as_slice.result.now ≡ c.args.folder.now = c.as_slice.ensures ∙ (c.hex_text.ensures.text ∙ (ap encode_lower same ∙ sym is.digits)) in
          let clash = sym w.if-is_written.false ∙ (c.eq-is_written.ensures ∙ (bytes_eq-Decides c.as_slice.result.now c.args.folder.now).1 text) in cc
    ]
