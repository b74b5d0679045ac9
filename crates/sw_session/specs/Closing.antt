-- Which requests ask that their connection be closed. (RFC 9112 section 9.6, in the profile of this product.)
use Rattle.std.specs.Prelude.{Bool, codes}
use Rattle.sw_message.specs.Framing.{says}
use Rattle.sw_message.specs.declared.request.Request.{Request}

-- whether its last Connection field is the one word close, in any case
abbrev pub asks_to_close_of : Request → Bool
asks_to_close_of request = says (codes "connection") (codes "close") request.fields
