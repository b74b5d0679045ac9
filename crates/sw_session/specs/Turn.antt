-- What one turn of a session makes: one request is read, answered, and its reply written. (This project's own.)
use Rattle.std.specs.Prelude.{◌≡◌, ℕ, Bool, true, false, List, [], ◌∷◌, ◌++◌, Option, Some, None, IfSome, Result, Ok, Err, ◌⊎◌}
use Rattle.std.specs.Io.KnownBytes.{Appends, Consumes}
use Rattle.httparse.specs.Grammar.{RequestHead}
use Rattle.sw_outside.specs.Counts.{raised}
use Rattle.sw_outside.specs.Taken.{AppendsPart}
use Rattle.sw_http.specs.Continue.{BeginsNone, HasHead, IsToldOnce, MayContinue, Takes, continue_of, continue_text, puts_after}
use Rattle.sw_message.specs.Reply.{reply_text}
use Rattle.sw_http.specs.Request.{Parts, AreParts, request_of, text_of, IsSkipped, IsNoRequest}
use Rattle.sw_message.specs.declared.request.Request.{Request}
use Rattle.sw_message.specs.declared.response.ReplyBody.TheVariants.{Whole}
use Rattle.sw_message.specs.declared.response.Response.{Response}
use Rattle.sw_session.specs.Replies.{Halts, Serves, written_for}
use Rattle.sw_session.specs.declared.server.ServerFault.{ServerFault}
use Rattle.sw_session.specs.declared.server.ServerFault.TheVariants as servers
use Rattle.sw_session.specs.declared.session.SessionFault.{SessionFault}
use Rattle.sw_session.specs.declared.session.SessionFault.TheVariants as faults
use Rattle.sw_session.specs.declared.session.Turned.{Turned}
use Rattle.sw_session.specs.declared.session.Turned.TheVariants as turns

-- ---- a request was answered

-- a request was taken off the input, and answered at this moment
pub record Turns {S : Type 0} (may : Serves S) (before after : S) (input rest : Option (List ℕ)) (moment : ℕ) (response : Response) : Type 0 where
  pub parts : Parts
  pub are_parts : AreParts parts
  pub consumed : Consumes input rest (text_of parts)
  pub answer : may before (request_of parts) moment response after

-- and all that is written for it was written
pub record Replied {S : Type 0} (may : Serves S) (before after : S) (input rest taken now : Option (List ℕ)) (moment : ℕ) : Type 0 where
  pub response : Response
  pub turn : Turns may before after input rest moment response
  pub written : Appends taken now (written_for (request_of turn.parts) response)

-- or a front of it
pub record RepliedPart {S : Type 0} (may : Serves S) (before after : S) (input rest taken now : Option (List ℕ)) (moment : ℕ) : Type 0 where
  pub response : Response
  pub turn : Turns may before after input rest moment response
  pub written : AppendsPart taken now (written_for (request_of turn.parts) response)

-- ---- the server halted

-- a request was taken off the input, at it and this moment the server halted, and what its client asks to be told was written, and no reply
pub record Halted {S : Type 0} (halts : Halts S) (before after : S) (input rest taken now : Option (List ℕ)) (moment : ℕ) (fault : ServerFault) : Type 0 where
  pub parts : Parts
  pub are_parts : AreParts parts
  pub consumed : Consumes input rest (text_of parts)
  pub halted : halts before (request_of parts) moment fault after
  pub written : Appends taken now (continue_text (request_of parts).fields)

-- ---- the rest of the input is no request

-- the reply where the rest of the input is no request: a 400
unfoldable pub refusal : List ℕ
refusal = reply_text (record { status = 400; fields = []; body = Whole [] })

-- what the head in front of the rest of the input asks to be told: nothing where there is none
abbrev pub IsTold : Option (List ℕ) → List ℕ → Type 0
IsTold rest told =
    ((h : RequestHead) × HasHead rest h × (told ≡ continue_of h)) ⊎ (IfSome rest BeginsNone × (told ≡ []))

-- it was refused
pub record RefusesRest (rest taken now : Option (List ℕ)) : Type 0 where
  pub no_request : IfSome rest IsNoRequest
  pub told : List ℕ
  pub is_told : IsTold rest told
  pub written : Appends taken now (told ++ refusal)

-- or a front of the refusal was written
pub record RefusesRestPart (rest taken now : Option (List ℕ)) : Type 0 where
  pub no_request : IfSome rest IsNoRequest
  pub told : List ℕ
  pub is_told : IsTold rest told
  pub written : AppendsPart taken now (told ++ refusal)

-- ---- the reading of one request

-- a read failed, and what the next head asks to be told was written or nothing
abbrev pub TellsWhole : Option (List ℕ) → Option (List ℕ) → Option (List ℕ) → Type 0
TellsWhole input taken now = Appends taken now [] ⊎ ((h : RequestHead) × HasHead input h × Appends taken now (continue_of h))

-- a front was written of what the next head asks to be told, or of the refusal of the rest; or nothing
abbrev pub StopsBetween : Option (List ℕ) → Option (List ℕ) → Option (List ℕ) → Type 0
StopsBetween input taken now = MayContinue input taken now ⊎ RefusesRestPart input taken now

-- how the reading of one request ended the session
abbrev pub IsReadingFault : Option (List ℕ) → Option (List ℕ) → Option (List ℕ) → SessionFault → Type 0
IsReadingFault input taken now faults.BadInput = RefusesRest input taken now
IsReadingFault input taken now faults.ReadFault = TellsWhole input taken now
IsReadingFault input taken now faults.WriteFault = StopsBetween input taken now
IsReadingFault input taken now faults.NoMemory = StopsBetween input taken now
IsReadingFault input taken now faults.TooLong = ⊥
IsReadingFault input taken now faults.ServerFault = ⊥

-- what a refused rest's reply leaves on the sink, by how the session ends
abbrev pub IsRefusal : Option (List ℕ) → Option (List ℕ) → Result (Option Request) SessionFault → Type 0
IsRefusal taken now (Err faults.BadInput) = Appends taken now refusal
IsRefusal taken now (Err faults.WriteFault) = AppendsPart taken now refusal
IsRefusal taken now (Err faults.NoMemory) = AppendsPart taken now refusal
IsRefusal taken now (Err faults.ReadFault) = ⊥
IsRefusal taken now (Err faults.TooLong) = ⊥
IsRefusal taken now (Err faults.ServerFault) = ⊥
IsRefusal taken now (Ok request) = ⊥

-- what the reading of one request left, by what it answered
abbrev pub IsReceived : Option (List ℕ) → Option (List ℕ) → Option (List ℕ) → Option (List ℕ) → Result (Option Request) SessionFault → Type 0
IsReceived input rest taken now (Ok (Some request)) = Takes input rest taken now request
IsReceived input rest taken now (Ok None) = IfSome input IsSkipped × Appends taken now []
IsReceived input rest taken now (Err fault) = IsReadingFault input taken now fault

-- ---- the whole turn

-- no request was answered
pub record Idles {S : Type 0} (before after : S) (moments moments_now : List ℕ) : Type 0 where
  pub same : after ≡ before
  pub no_moment : moments_now ≡ moments

-- one request more was answered, its reply written whole, and whether it's a last one is this
abbrev pub AnswersOne : {S : Type 0} → (Request → Bool) → Serves S → S → S → List ℕ → List ℕ → Option (List ℕ) → Option (List ℕ) → Option (List ℕ)
    → Option (List ℕ) → Bool → Type 0
AnswersOne last may before after moments moments_now input rest taken now is_last =
    (moment : ℕ) × (moments_now ≡ moments ++ moment ∷ [])
    × ((reply : Replied may before after input rest taken now moment) × (last (request_of reply.turn.parts) ≡ is_last))

-- one request more was answered, and its reply not written whole
abbrev pub CutsReply : {S : Type 0} → Serves S → S → S → List ℕ → List ℕ → Option (List ℕ) → Option (List ℕ) → Option (List ℕ) → Option (List ℕ) → Type 0
CutsReply may before after moments moments_now input rest taken now =
    (moment : ℕ) × (moments_now ≡ moments ++ moment ∷ []) × RepliedPart may before after input rest taken now moment

-- the server halted at one request more
abbrev pub HaltsTurn : {S : Type 0} → Halts S → S → S → List ℕ → List ℕ → Option (List ℕ) → Option (List ℕ) → Option (List ℕ) → Option (List ℕ)
    → ServerFault → Type 0
HaltsTurn halts before after moments moments_now input rest taken now fault =
    (moment : ℕ) × (moments_now ≡ moments ++ moment ∷ []) × Halted halts before after input rest taken now moment fault

-- what one turn did, by what it answered
abbrev pub IsTurn : {S : Type 0} → (Request → Bool) → Serves S → Halts S → S → S → List ℕ → List ℕ → Option (List ℕ) → Option (List ℕ) → Option (List ℕ)
    → Option (List ℕ) → Result Turned SessionFault → Type 0
IsTurn last may halts before after moments moments_now input rest taken now (Ok turns.Answered) =
    AnswersOne last may before after moments moments_now input rest taken now false
IsTurn last may halts before after moments moments_now input rest taken now (Ok turns.Closed) =
    AnswersOne last may before after moments moments_now input rest taken now true
IsTurn last may halts before after moments moments_now input rest taken now (Ok turns.Ended) =
    Idles before after moments moments_now × IfSome input IsSkipped × Appends taken now []
IsTurn last may halts before after moments moments_now input rest taken now (Err faults.BadInput) =
    Idles before after moments moments_now × RefusesRest input taken now
IsTurn last may halts before after moments moments_now input rest taken now (Err faults.ReadFault) =
    Idles before after moments moments_now × TellsWhole input taken now
IsTurn last may halts before after moments moments_now input rest taken now (Err faults.WriteFault) =
    (Idles before after moments moments_now × StopsBetween input taken now) ⊎ CutsReply may before after moments moments_now input rest taken now
IsTurn last may halts before after moments moments_now input rest taken now (Err faults.NoMemory) =
    (Idles before after moments moments_now × StopsBetween input taken now) ⊎ CutsReply may before after moments moments_now input rest taken now
    ⊎ HaltsTurn halts before after moments moments_now input rest taken now servers.NoMemory
IsTurn last may halts before after moments moments_now input rest taken now (Err faults.TooLong) = ⊥
IsTurn last may halts before after moments moments_now input rest taken now (Err faults.ServerFault) =
    HaltsTurn halts before after moments moments_now input rest taken now servers.Failed

-- ---- counts of faults

-- how many calls of the source and of the sink had failed and have failed now, by what was answered: one more where that ends the session
abbrev pub IsCounted : {A : Type 0} → ℕ → ℕ → ℕ → ℕ → Result A SessionFault → Type 0
IsCounted reads reads_now writes writes_now (Ok _) = (reads_now ≡ reads) × (writes_now ≡ writes)
IsCounted reads reads_now writes writes_now (Err faults.ReadFault) = (reads_now ≡ raised reads) × (writes_now ≡ writes)
IsCounted reads reads_now writes writes_now (Err faults.WriteFault) = (reads_now ≡ reads) × (writes_now ≡ raised writes)
IsCounted reads reads_now writes writes_now (Err faults.TooLong) = (reads_now ≡ reads) × (writes_now ≡ writes)
IsCounted reads reads_now writes writes_now (Err faults.BadInput) = (reads_now ≡ reads) × (writes_now ≡ writes)
IsCounted reads reads_now writes writes_now (Err faults.ServerFault) = (reads_now ≡ reads) × (writes_now ≡ writes)
IsCounted reads reads_now writes writes_now (Err faults.NoMemory) = (reads_now ≡ reads) × (writes_now ≡ writes)

-- ---- counts of the sink's calls

-- the head in front of the input asks to be told, and the sink was called once; or it wasn't called
abbrev pub MayTell : Option (List ℕ) → ℕ → ℕ → Type 0
MayTell input calls calls_now = (calls_now ≡ calls) ⊎ IsToldOnce input calls calls_now

-- the same, and then it was called once more
abbrev pub MayTellAndPuts : Option (List ℕ) → ℕ → ℕ → Type 0
MayTellAndPuts input calls calls_now = (told : ℕ) × MayTell input calls told × (calls_now ≡ raised told)

-- a request was taken off the input, and the sink was called once where its client waits to be told, and else not
pub record TakesAndTells (input rest : Option (List ℕ)) (calls calls_now : ℕ) : Type 0 where
  pub parts : Parts
  pub are_parts : AreParts parts
  pub consumed : Consumes input rest (text_of parts)
  pub told : calls_now ≡ puts_after (request_of parts).fields calls

-- one request more was answered, its reply written whole by one call of the sink, and there was one before it where its client waits to be told
abbrev pub AnswersByPuts : {S : Type 0} → (Request → Bool) → Serves S → S → S → List ℕ → List ℕ → Option (List ℕ) → Option (List ℕ) → Option (List ℕ)
    → Option (List ℕ) → Bool → ℕ → ℕ → Type 0
AnswersByPuts last may before after moments moments_now input rest taken now is_last calls calls_now =
    (moment : ℕ) × (moments_now ≡ moments ++ moment ∷ [])
    × ((reply : Replied may before after input rest taken now moment) × (last (request_of reply.turn.parts) ≡ is_last)
    × (calls_now ≡ raised (puts_after (request_of reply.turn.parts).fields calls)))

-- the server halted at one request more, and the sink was called once where its client waits to be told, and else not
abbrev pub HaltsByPuts : {S : Type 0} → Halts S → S → S → List ℕ → List ℕ → Option (List ℕ) → Option (List ℕ) → Option (List ℕ) → Option (List ℕ)
    → ServerFault → ℕ → ℕ → Type 0
HaltsByPuts halts before after moments moments_now input rest taken now fault calls calls_now =
    (moment : ℕ) × (moments_now ≡ moments ++ moment ∷ [])
    × ((halt : Halted halts before after input rest taken now moment fault) × (calls_now ≡ puts_after (request_of halt.parts).fields calls))

-- how many calls of the sink there were and are now, once a rest was refused: one more, and none where memory ran out before it
abbrev pub PutsForRefusal : ℕ → ℕ → Result (Option Request) SessionFault → Type 0
PutsForRefusal calls calls_now (Err faults.BadInput) = calls_now ≡ raised calls
PutsForRefusal calls calls_now (Err faults.WriteFault) = calls_now ≡ raised calls
PutsForRefusal calls calls_now (Err faults.NoMemory) = calls_now ≡ calls
PutsForRefusal calls calls_now (Err faults.ReadFault) = ⊥
PutsForRefusal calls calls_now (Err faults.TooLong) = ⊥
PutsForRefusal calls calls_now (Err faults.ServerFault) = ⊥
PutsForRefusal calls calls_now (Ok request) = ⊥

-- the same, once one request was read: behind what its client may be told, a refusal is one call more; and a write that failed is the last call
abbrev pub PutsForReading : Option (List ℕ) → ℕ → ℕ → Result (Option Request) SessionFault → Type 0
PutsForReading input calls calls_now (Ok (Some request)) = calls_now ≡ puts_after request.fields calls
PutsForReading input calls calls_now (Ok None) = calls_now ≡ calls
PutsForReading input calls calls_now (Err faults.BadInput) = MayTellAndPuts input calls calls_now
PutsForReading input calls calls_now (Err faults.ReadFault) = MayTell input calls calls_now
PutsForReading input calls calls_now (Err faults.WriteFault) = MayTellAndPuts input calls calls_now
PutsForReading input calls calls_now (Err faults.NoMemory) = MayTell input calls calls_now
PutsForReading input calls calls_now (Err faults.TooLong) = ⊥
PutsForReading input calls calls_now (Err faults.ServerFault) = ⊥

-- the same for a whole turn: a reply is one call more, and none is made for it where the server halts or memory runs out
abbrev pub PutsForTurn : {S : Type 0} → (Request → Bool) → Serves S → Halts S → S → S → List ℕ → List ℕ → Option (List ℕ) → Option (List ℕ)
    → Option (List ℕ) → Option (List ℕ) → ℕ → ℕ → Result Turned SessionFault → Type 0
PutsForTurn last may halts before after moments moments_now input rest taken now calls calls_now (Ok turns.Answered) =
    AnswersByPuts last may before after moments moments_now input rest taken now false calls calls_now
PutsForTurn last may halts before after moments moments_now input rest taken now calls calls_now (Ok turns.Closed) =
    AnswersByPuts last may before after moments moments_now input rest taken now true calls calls_now
PutsForTurn last may halts before after moments moments_now input rest taken now calls calls_now (Ok turns.Ended) = calls_now ≡ calls
PutsForTurn last may halts before after moments moments_now input rest taken now calls calls_now (Err faults.BadInput) =
    MayTellAndPuts input calls calls_now
PutsForTurn last may halts before after moments moments_now input rest taken now calls calls_now (Err faults.ReadFault) = MayTell input calls calls_now
PutsForTurn last may halts before after moments moments_now input rest taken now calls calls_now (Err faults.WriteFault) =
    MayTellAndPuts input calls calls_now
PutsForTurn last may halts before after moments moments_now input rest taken now calls calls_now (Err faults.NoMemory) = MayTell input calls calls_now
PutsForTurn last may halts before after moments moments_now input rest taken now calls calls_now (Err faults.TooLong) = ⊥
PutsForTurn last may halts before after moments moments_now input rest taken now calls calls_now (Err faults.ServerFault) =
    HaltsByPuts halts before after moments moments_now input rest taken now servers.Failed calls calls_now
