use Rattle.std.proofs.Common.{◌≡◌, ℕ, ◌-◌, List, length, take, drop, Some, None, ap, sym, ◌∙◌, arith}
use Rattle.std.proofs.lemmas.Bool.{cond-true}
use Rattle.std.proofs.lemmas.List.{length-drop, take_all}
use Rattle.sw_pending.specs.Reading.{after_first_line}
use Rattle.sw_pending.proofs.reading.after_first_line.Goals as goal

pub returns-then-starts_with : goal.returns-then-starts_with
unfolding after_first_line
returns-then-starts_with c =
    let bytes : List ℕ = c.args.bytes.now in
    let whole : take (length bytes - 13) (drop 13 bytes) ≡ drop 13 bytes =
    take_all (length bytes - 13) (drop 13 bytes) (let l = length-drop 13 bytes in omega (arith, l)) in
    ap Some whole ∙ sym (cond-true _ (Some (drop 13 bytes)) None (sym c.starts_with.ensures.value ∙ c.if-starts_with.true))
