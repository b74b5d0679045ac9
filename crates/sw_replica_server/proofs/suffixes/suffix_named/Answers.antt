use Rattle.std.proofs.Common.{◌≡◌, ap, sym, ◌∙◌, arith, length}
use Rattle.std.proofs.lemmas.Slice.Eq.{bytes_eq-Decides}
use Rattle.std.specs.Int.{w16, to_be_bytes}
use Rattle.sw_replica_server.specs.Suffixes.{suffix_digits}
use Rattle.sw_replica_server.proofs.Digits.{text-is, text-reads, three}
use Rattle.sw_replica_server.proofs.suffixes.suffix_named.Goals as goal
use Rattle.sw_replica_server.proofs.suffixes.suffix_named.Goals.{else-suffix-lt4096-via-then-suffix-lt4096+else-eq, else-suffix-lt4096-via-else-suffix-lt4096}

pub returns-then-text-ne3-clause-none : goal.returns-then-text-ne3-clause-none
returns-then-text-ne3-clause-none c = λ e suffix is. c.if-text-ne3.true (ap length is.digits ∙ three suffix)

pub returns-in_default-clause-none : goal.returns-in_default-clause-none
returns-in_default-clause-none c = λ e suffix is.
    c.in_default.not-Ok (to_be_bytes w16 suffix) (c.from_hex.ensures ∙ text-reads c.args.text.now suffix is)

pub returns-else-suffix-lt4096-clause-none : goal.returns-else-suffix-lt4096-clause-none
returns-else-suffix-lt4096-clause-none c = λ e suffix is.
    let same : c.from_be_bytes-suffix.result ≡ suffix =
    c.from_be_bytes-suffix.ensures ∙ text-is c.args.text.now c.in-Ok.bytes suffix (sym c.from_hex.ensures ∙ c.in-Ok.is) is in
    elim c.else-suffix-lt4096.branch [
      | else-suffix-lt4096-via-then-suffix-lt4096+else-eq w ↦
          let text : w.as_slice.result.now ≡ c.args.text.now = w.as_slice.ensures ∙ (w.suffix_digits.ensures ∙ (ap suffix_digits same ∙ sym is.digits)) in
          let clash = sym w.if-eq.false ∙ (w.eq.ensures ∙ (bytes_eq-Decides w.as_slice.result.now c.args.text.now).1 text) in cc
      | else-suffix-lt4096-via-else-suffix-lt4096 w ↦ let past = w.if-suffix-lt4096.false in let below = is.below in absurd (omega (arith, past, below, same))
    ]
