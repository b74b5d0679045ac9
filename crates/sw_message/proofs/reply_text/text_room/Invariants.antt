use Rattle.std.proofs.Common.{◌≡◌, ◌+◌, ◌-◌, ◌^◌, length, min, take}
use Rattle.std.specs.List.{flat_map}
use Rattle.sw_message.specs.Reply.{carried, field_line}
use Rattle.sw_message.proofs.reply_text.text_room.Given as goal

-- room for the fields so far
abbrev pub invariant-loop-field : goal.invariant-loop-field
invariant-loop-field l =
    l.room ≡ min ((length (carried l.response.body) + 128) + length (flat_map field_line (take l.field-index l.response.fields))) (2 ^ 64 - 1)
