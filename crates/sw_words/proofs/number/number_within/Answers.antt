use Rattle.std.proofs.Common.{◌≡◌, true, sym, arith}
use Rattle.sw_words.specs.Reading.{is_numeral}
use Rattle.sw_words.proofs.Numerals.{kept_below, not_within}
use Rattle.sw_words.proofs.number.number_within.Goals.{else-least-number-via-then-least-number+else-number-greatest, else-least-number-via-else-least-number}
use Rattle.sw_words.proofs.number.number_within.Goals as goal

pub returns-then-number-greatest-clause-value : goal.returns-then-number-greatest-clause-value
returns-then-number-greatest-clause-value c =
    let numeral : is_numeral c.args.text.now ≡ true = cc (c.is_numeral.ensures, c.if-not-is_numeral.false) in
    sym (kept_below c.args.least c.args.greatest c.args.text.now c.number_of-number.result c.requires c.number_of-number.ensures
    numeral c.if-least-number.true c.if-number-greatest.true)

pub returns-else-least-number-clause-value : goal.returns-else-least-number-clause-value
returns-else-least-number-clause-value c =
    sym (not_within c.args.least c.args.greatest c.args.text.now c.number_of-number.result c.requires c.number_of-number.ensures (λ low high.
    elim c.else-least-number.branch [
      | else-least-number-via-then-least-number+else-number-greatest w ↦ omega arith
      | else-least-number-via-else-least-number w ↦ omega arith
    ]))
