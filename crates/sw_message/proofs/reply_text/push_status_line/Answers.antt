use Rattle.std.proofs.Common.{ℕ, List, ◌++◌, ap, ◌∙◌}
use Rattle.std.specs.Prelude.{decimal}
use Rattle.sw_message.proofs.ReplyLemmas.{five_pushed}
use Rattle.sw_message.proofs.reply_text.push_status_line.Goals as goal

pub returns : goal.returns
returns c =
    let number = c.in_ok-push_number.ensures ∙ ap (λ (n : ℕ). c.extend_from_slice.new.self.items ++ decimal n) c.from.ensures in
    let reason = c.in_ok-extend_from_slice-3.ensures.items ∙ ap (λ (l : List ℕ). c.extend_from_slice-2.new.self.items ++ l)
    (c.as_bytes.ensures.value ∙ c.reason_of.ensures) in
    five_pushed _ _ _ _ _ _ _ _ _ _ _ c.in_ok-extend_from_slice.ensures.items number c.in_ok-extend_from_slice-2.ensures.items reason
    c.in_ok-extend_from_slice-4.ensures.items
