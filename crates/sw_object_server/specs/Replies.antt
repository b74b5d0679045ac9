-- The replies of the object server to what a step is answered. (OpenStack Swift's object server, in the profile of this product.)
use Rattle.std.specs.Prelude.{ℕ, Bool, true, false, List, [], ◌∷◌, codes, decimal, Option, None, Some, is_some}
use Rattle.hex.specs.Hex.{encode_lower}
use Rattle.sw_hashpath.specs.BadFiles.{bad_file_number}
use Rattle.sw_hashpath.specs.declared.decode_error.BadFile.{BadFile}
use Rattle.sw_message.specs.declared.fields.Field.{Field}
use Rattle.sw_message.specs.declared.response.ReplyBody.TheVariants.{Whole}
use Rattle.sw_message.specs.declared.response.Response.{Response}
use Rattle.sw_object_steps.specs.declared.answer.Answer.{Answer}
use Rattle.sw_object_steps.specs.declared.answer.Answer.TheVariants as answers
use Rattle.sw_state.specs.declared.write.Kind.{Kind}
use Rattle.sw_state.specs.declared.write.Kind.TheVariants as kinds
use Rattle.sw_timestamp.specs.TimeText.{normal_text}

-- a reply that is a number alone
abbrev pub bare : ℕ → Response
bare number = record { status = number; fields = []; body = Whole [] }

-- a field, its name written as codes
abbrev pub field : List ℕ → List ℕ → Field
field name value = record { name = name; value = value }

-- a reply that is a number and one field
abbrev pub with_field : ℕ → Field → Response
with_field number f = record (bare number) { fields = f ∷ [] }

-- the reply to a PUT that was taken: it shows the digest
abbrev pub created : List ℕ → Response
created etag = with_field 201 (field (codes "ETag") (encode_lower etag))

-- the reply with this number that shows the time of what stands
abbrev pub at_time : ℕ → ℕ → Response
at_time number time = with_field number (field (codes "X-Backend-Timestamp") (normal_text time))

-- the reply over a damaged file, which shows what is wrong with it
abbrev pub damaged : BadFile → Response
damaged bad = with_field 507 (field (codes "X-Swc-Damaged") (decimal (bad_file_number bad)))

-- the reply where no object is, with the time of the tombstone, where one stands
abbrev pub not_found : Option ℕ → Response
not_found None = bare 404
not_found (Some time) = at_time 404 time

-- the reply to a write of this kind that was made
abbrev pub made_reply : Kind → Response
made_reply (kinds.Put content) = created content.etag
made_reply (kinds.Meta heads) = bare 202
made_reply kinds.Del = bare 204

-- whether that reply shows the ETag of what was put
abbrev pub shows_etag : Kind → Bool
shows_etag (kinds.Put content) = true
shows_etag (kinds.Meta heads) = false
shows_etag kinds.Del = false

-- the reply to a write whose step had this answer; the first argument is the reply where it was made. A step at a record is no request's
abbrev pub reply_to : Response → Answer → Response
reply_to made (answers.Done front) = made
reply_to made (answers.Buried front) = bare 404
reply_to made (answers.Took is) = made
reply_to made (answers.Conflict time) = at_time 409 time
reply_to made (answers.NotFound time) = not_found time
reply_to made (answers.Mismatch second) = bare 412
reply_to made answers.Exists = bare 412
reply_to made answers.JournalFull = bare 503
reply_to made (answers.Damaged bad) = damaged bad
reply_to made answers.Failed = bare 507
reply_to made answers.NoMemory = bare 500

-- Whether this reply shows what stands or what is damaged. The step has changed nothing then, and nothing was made ready for the reply: no
-- other one can find no memory
abbrev pub shows_field : Answer → Bool
shows_field (answers.Conflict time) = true
shows_field (answers.NotFound time) = is_some time
shows_field (answers.Damaged bad) = true
shows_field (answers.Done front) = false
shows_field (answers.Buried front) = false
shows_field (answers.Took is) = false
shows_field (answers.Mismatch second) = false
shows_field answers.Exists = false
shows_field answers.JournalFull = false
shows_field answers.Failed = false
shows_field answers.NoMemory = false
