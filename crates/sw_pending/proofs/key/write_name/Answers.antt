use Rattle.std.proofs.Common.{◌≡◌, ℕ, take, sym, ap, ◌∙◌}
use Rattle.std.proofs.lemmas.List.{take_at}
use Rattle.hex.specs.Hex.{encode_lower}
use Rattle.sw_timestamp.specs.TimeText.{text_of}
use Rattle.sw_pending.proofs.Pieces.{hex_length, name_pieces}
use Rattle.sw_pending.proofs.key.write_name.Goals as goal

pub returns-clause-text : goal.returns-clause-text
returns-clause-text c =
    let key = c.args.key.now in
    let count : ℕ = c.write_text-count.result in
    let digits : c.copy_from_slice.new.self ≡ encode_lower key.hash = c.copy_from_slice.ensures.after ∙ c.hex_text.ensures.text in
    let time : c.copy_from_slice-3.new.self ≡ text_of key.time =
    c.copy_from_slice-3.ensures.after
    ∙ (ap (take count) c.write_text-count.ensures.text ∙ take_at (text_of key.time) _ count (sym c.write_text-count.ensures.count)) in
    rw (c.copy_from_slice-2.ensures.after, digits, time)
    (name_pieces (encode_lower key.hash) (text_of key.time) c.args.out.now count (hex_length key.hash c.hex_text.ensures.rule.0)
    (sym c.write_text-count.ensures.count))

pub returns-clause-key : goal.returns-clause-key
returns-clause-key c = record { hash = c.hex_text.ensures.rule; time = c.write_text-count.ensures.bound }
