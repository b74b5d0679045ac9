-- The replies of the object server to GET and HEAD. (OpenStack Swift's object server, in the profile of this product.)
use Rattle.std.specs.Prelude.{◌≡◌, ℕ, ◌*◌, Bool, true, false, not, List, [], ◌∷◌, ◌++◌, length, map, take, codes, Option, None, Some, is_some, MatchBool}
use Rattle.std.specs.Int.{div_ceil}
use Rattle.hex.specs.Hex.{encode_lower}
use Rattle.httpdate.specs.Date.{unix_secs, date_text}
use Rattle.httpdate.specs.declared.date.HttpDate.{HttpDate}
use Rattle.sw_message.specs.declared.fields.Field.{Field}
use Rattle.sw_message.specs.declared.response.ReplyBody.{ReplyBody}
use Rattle.sw_message.specs.declared.response.ReplyBody.TheVariants.{LeftOut, Whole}
use Rattle.sw_message.specs.declared.response.Response.{Response}
use Rattle.sw_object_steps.specs.declared.got.Got.{Got}
use Rattle.sw_object_steps.specs.declared.got.Got.TheVariants as gots
use Rattle.sw_state.specs.declared.content.Content.{Content}
use Rattle.sw_state.specs.declared.head.Head.{Head}
use Rattle.sw_state.specs.declared.heads.Heads.{Heads}
use Rattle.sw_timestamp.specs.TimeText.{normal_text, units_of_second}
use Rattle.sw_fields.specs.Expiry.{is_expired}
use Rattle.sw_object_server.specs.Replies.{bare, damaged, field, not_found}

-- ---- texts

-- a time in whole seconds since the epoch, rounded up
abbrev pub seconds_up : ℕ → ℕ
seconds_up time = div_ceil time units_of_second

-- the text is the date of that time, rounded up to whole seconds
abbrev pub IsDate : ℕ → List ℕ → Type 0
IsDate time text = (day : HttpDate) × (unix_secs day ≡ seconds_up time) × (text ≡ date_text day)

-- a second in ten digits: those that the normal form of its time begins with
abbrev pub second_text : ℕ → List ℕ
second_text second = take 10 (normal_text (second * units_of_second))

-- ---- the reply where an object is

-- the second of expiry, where there is one
abbrev pub expiry_fields : Option ℕ → List Field
expiry_fields None = []
expiry_fields (Some second) = field (codes "X-Delete-At") (second_text second) ∷ []

-- an item as a field
abbrev pub field_of : Head → Field
field_of h = field h.name h.value

-- the fields that every object of this time and date has
abbrev pub fixed_fields : ℕ → List ℕ → Content → List Field
fixed_fields time date content =
    field (codes "Content-Type") content.content_type
    ∷ field (codes "ETag") (encode_lower content.etag)
    ∷ field (codes "Last-Modified") date
    ∷ field (codes "X-Timestamp") (normal_text time)
    ∷ field (codes "X-Backend-Timestamp") (normal_text time)
    ∷ []

-- the fields that show an object: behind those its second of expiry and its items, in the order of their names
abbrev pub found_fields : ℕ → List ℕ → Content → Heads → List Field
found_fields time date content heads = fixed_fields time date content ++ (expiry_fields heads.delete_at ++ map field_of heads.items)

-- what the reply carries: the one to a HEAD has the length of the body and not its bytes
abbrev pub body_found : Bool → List ℕ → ReplyBody
body_found true body = LeftOut (length body)
body_found false body = Whole body

-- the reply that shows it
abbrev pub found : ℕ → List ℕ → Content → Heads → Bool → Response
found time date content heads head_only = record {
  status = 200;
  fields = found_fields time date content heads;
  body = body_found head_only content.body;
}

-- the reply shows the object and the date of its time
abbrev pub IsFound : ℕ → Content → Heads → Bool → Response → Type 0
IsFound time content heads head_only response =
    (date : List ℕ) × IsDate time date × (response ≡ found time date content heads head_only)

-- the reply to a GET, or to a HEAD, at this second: an object that has expired isn't shown
abbrev pub IsShown : Got → ℕ → Bool → Response → Type 0
IsShown (gots.Found time content heads front) moment head_only response =
    MatchBool (is_expired heads moment) (response ≡ bare 404) (IsFound time content heads head_only response)
IsShown (gots.NotFound time) moment head_only response = response ≡ not_found time
IsShown (gots.Damaged bad) moment head_only response = response ≡ damaged bad
IsShown gots.Failed moment head_only response = response ≡ bare 507
IsShown gots.NoMemory moment head_only response = response ≡ bare 500

-- whether the reply has fields of its own: no other one can find no memory
abbrev pub shows_fields : Got → ℕ → Bool
shows_fields (gots.Found time content heads front) moment = not (is_expired heads moment)
shows_fields (gots.NotFound time) moment = is_some time
shows_fields (gots.Damaged bad) moment = true
shows_fields gots.Failed moment = false
shows_fields gots.NoMemory moment = false
