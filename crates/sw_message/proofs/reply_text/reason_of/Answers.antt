use Rattle.std.proofs.Common.{ℕ, ◌<◌, ◌⊎◌, inl, inr, List, [], Option, sym, ap, arith}
use Rattle.std.specs.Prelude.{unwrap_or}
use Rattle.std.proofs.lemmas.Bool.{cases_lt}
use Rattle.sw_message.proofs.ReplyLemmas.{no_reason}
use Rattle.sw_message.proofs.reply_text.reason_of.Goals as goal

pub returns-in-Err : goal.returns-in-Err
returns-in-Err c =
    let out : (c.args.status < 100) ⊎ (999 < c.args.status) = elim (cases_lt c.args.status 100) [
      | inl below ↦ inl below
      | inr low ↦ elim (cases_lt 999 c.args.status) [ inl above ↦ inr above | inr high ↦ absurd (c.in-Err.ensures (low, omega arith)) ]
    ] in
    sym (ap (λ (o : Option (List ℕ)). unwrap_or o []) (no_reason c.args.status out))
