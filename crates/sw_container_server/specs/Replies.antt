-- The replies of the container server. (OpenStack Swift's container server, in the profile of this product.)
use Rattle.std.specs.Prelude.{◌≡◌, ℕ, Bool, true, false, List, [], ◌∷◌, ◌++◌, codes, decimal, Result, Ok, Err, if◌then◌else◌}
use Rattle.std.specs.Int.{w128, to_be_bytes}
use Rattle.hex.specs.Hex.{encode_lower}
use Rattle.sw_container_steps.specs.declared.cont_answer.ContAnswer.{ContAnswer}
use Rattle.sw_container_steps.specs.declared.cont_answer.ContAnswer.TheVariants as answers
use Rattle.sw_container_steps.specs.declared.cont_change.ContChange.{ContChange}
use Rattle.sw_container_steps.specs.declared.cont_change.ContChange.TheVariants as changes
use Rattle.sw_container_steps.specs.declared.info.Info.{Info}
use Rattle.sw_container_steps.specs.declared.info.SplitState.{SplitState}
use Rattle.sw_container_steps.specs.declared.info.SplitState.TheVariants as states
use Rattle.sw_listing.specs.Entries.{lines}
use Rattle.sw_listing.specs.declared.entry.Entry.{Entry}
use Rattle.sw_listing_json.specs.Json.{IsJson}
use Rattle.sw_message.specs.declared.fields.Field.{Field}
use Rattle.sw_message.specs.declared.response.ReplyBody.TheVariants.{Whole}
use Rattle.sw_message.specs.declared.response.Response.{Response}
use Rattle.sw_hashpath.specs.declared.place.Place.{Place}
use Rattle.sw_metafile.specs.Escapes.{escape}
use Rattle.sw_object_server.specs.Replies.{at_time, bare, field}
use Rattle.sw_timestamp.specs.TimeText.{normal_text}

-- ---- steps

-- the status that tells that a change was made, or had nothing to change: a row that was put is created, a deletion has nothing to tell. (A
-- creation is told by its answer, and no request asks for several rows, for ranges or for a point)
abbrev pub made_status : ContChange → ℕ
made_status (changes.Create time) = 201
made_status (changes.Remove time) = 204
made_status (changes.MergeRow row) = if row.deleted then 204 else 201
made_status (changes.MergeRows rows) = 201
made_status (changes.SetRanges ranges) = 201
made_status (changes.Ack range device rowid) = 201
made_status (changes.CloseRange range devices) = 201
made_status changes.EmptyOut = 201
made_status (changes.SetSync device rowid) = 201

-- the reply to what a step was answered; the first argument is the status where it was made. (No request asks for a step on ranges)
abbrev pub reply_to : ℕ → ContAnswer → Response
reply_to made (answers.New front) = bare 201
reply_to made (answers.There front) = bare 202
reply_to made (answers.Done front) = bare made
reply_to made answers.Absent = bare 404
reply_to made (answers.Stale time) = at_time 409 time
reply_to made (answers.NotEmpty count) = bare 409
reply_to made answers.HasRanges = bare 409
reply_to made answers.NoRanges = bare 404
reply_to made (answers.Redirect shard) = bare 301
reply_to made (answers.StillOpen cursor) = bare 503
reply_to made (answers.Later number) = bare 503
reply_to made (answers.NotAcked lagging) = bare 503
reply_to made answers.JournalFull = bare 503
reply_to made answers.Failed = bare 507
reply_to made answers.NoMemory = bare 500

-- whether this reply shows the time of what stands, or a shard: no other one can find no memory
abbrev pub shows_time : ContAnswer → Bool
shows_time (answers.New front) = false
shows_time (answers.There front) = false
shows_time (answers.Done front) = false
shows_time answers.Absent = false
shows_time (answers.Stale time) = true
shows_time (answers.NotEmpty count) = false
shows_time answers.HasRanges = false
shows_time answers.NoRanges = false
shows_time (answers.Redirect shard) = true
shows_time (answers.StillOpen cursor) = false
shows_time (answers.Later number) = false
shows_time (answers.NotAcked lagging) = false
shows_time answers.JournalFull = false
shows_time answers.Failed = false
shows_time answers.NoMemory = false

-- whether memory was wanted
abbrev pub is_starved : ContAnswer → Bool
is_starved (answers.New front) = false
is_starved (answers.There front) = false
is_starved (answers.Done front) = false
is_starved answers.Absent = false
is_starved (answers.Stale time) = false
is_starved (answers.NotEmpty count) = false
is_starved answers.HasRanges = false
is_starved answers.NoRanges = false
is_starved (answers.Redirect shard) = false
is_starved (answers.StillOpen cursor) = false
is_starved (answers.Later number) = false
is_starved (answers.NotAcked lagging) = false
is_starved answers.JournalFull = false
is_starved answers.Failed = false
is_starved answers.NoMemory = true

-- ---- rows that another container has

-- the path of a row in the container of a place
abbrev pub moved_path : Place → List ℕ → List ℕ
moved_path shard name = codes "/" ++ (shard.account ++ (codes "/" ++ (shard.container ++ (codes "/" ++ name))))

-- the reply that sends a client on with a row of this name: the path in escaped form, and nothing else
abbrev pub moved_reply : Place → List ℕ → Response
moved_reply shard name = record { status = 301; fields = field (codes "Location") (escape (moved_path shard name)) ∷ []; body = Whole [] }

-- a row whose name is left to a shard is sent on there. No request asks for several rows, and nothing else is sent on
abbrev pub redirect_reply : ContChange → Place → Response
redirect_reply (changes.MergeRow row) shard = moved_reply shard row.name
redirect_reply change shard = bare 301

-- the reply to a change that was answered so
abbrev pub change_reply : ContChange → ContAnswer → Response
change_reply change (answers.Redirect shard) = redirect_reply change shard
change_reply change answer = reply_to (made_status change) answer

-- ---- what is told of a container

-- how far a container is split
abbrev pub split_text : SplitState → List ℕ
split_text states.Unsharded = codes "unsharded"
split_text states.Sharding = codes "sharding"
split_text states.Sharded = codes "sharded"

-- the fields that tell of a container
abbrev pub told_fields : Info → List Field
told_fields info =
    field (codes "X-Container-Object-Count") (decimal info.count)
    ∷ field (codes "X-Container-Bytes-Used") (decimal info.bytes)
    ∷ field (codes "X-Timestamp") (normal_text info.put_time)
    ∷ field (codes "X-Backend-Sharding-State") (split_text info.split)
    ∷ []

-- the 32 digits of a hash of rows, the high byte first
abbrev pub hash_text : ℕ → List ℕ
hash_text hash = encode_lower (to_be_bytes w128 hash)

-- the reply that tells of a container: it has no body, and shows the hash of the rows behind the other fields
abbrev pub head_reply : Info → Response
head_reply info = record {
  status = 204;
  fields = told_fields info ++ field (codes "X-Swc-Hash") (hash_text info.hash) ∷ [];
  body = Whole [];
}

-- the reply to a HEAD. Where nothing was told it is that of a step, none of which is made by a read
abbrev pub info_reply : Result Info ContAnswer → Response
info_reply (Ok info) = head_reply info
info_reply (Err answer) = reply_to 204 answer

-- ---- listings

-- the media type of a listing, by whether it is JSON
abbrev pub type_text : Bool → List ℕ
type_text true = codes "application/json; charset=utf-8"
type_text false = codes "text/plain; charset=utf-8"

-- the text of a listing as JSON, or each entry's text and a newline
abbrev pub IsListingText : Bool → List Entry → List ℕ → Type 0
IsListingText true entries text = IsJson entries text
IsListingText false entries text = text ≡ lines entries

-- the reply with this text of a listing
abbrev pub with_text : Bool → Info → List ℕ → Response
with_text json info text = record {
  status = 200;
  fields = field (codes "Content-Type") (type_text json) ∷ told_fields info;
  body = Whole text;
}

-- the same, but where a plain text is empty: then there is nothing to show
abbrev pub shown_listing : Bool → Info → List ℕ → Response
shown_listing true info text = with_text true info text
shown_listing false info [] = record { status = 204; fields = told_fields info; body = Whole [] }
shown_listing false info (b ∷ text) = with_text false info (b ∷ text)

-- the reply to a GET that was told of its container. Where it wasn't told the entries, it is that of a step
abbrev pub IsListingReply : Bool → Info → Result (List Entry) ContAnswer → Response → Type 0
IsListingReply json info (Ok entries) response = (text : List ℕ) × IsListingText json entries text × (response ≡ shown_listing json info text)
IsListingReply json info (Err answer) response = response ≡ reply_to 204 answer

-- whether a reply tells something or shows a time: no other one can find no memory
abbrev pub takes_memory : {A : Type 0} → Result A ContAnswer → Bool
takes_memory (Ok told) = true
takes_memory (Err answer) = shows_time answer
