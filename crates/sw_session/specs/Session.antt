-- What a session is: the replies to the requests that make up its input, one after the other. (This project's own.)
--
-- How bytes become requests is the grammar's, in `BeginsWith`; who answers them is a relation, and how that one may halt is another.
-- Which requests are the last ones of their sessions is a test. `SoFar` is the one statement that every way to end a session begins with.
use Rattle.std.specs.Prelude.{◌≡◌, ℕ, ◌<◌, Bool, true, false, List, [], ◌∷◌, ◌++◌, length, map, All, ⊤, Option, IfSome, Result, Ok, Err, ◌⊎◌}
use Rattle.std.specs.Io.KnownBytes.{Appends, IsAtEnd}
use Rattle.sw_outside.specs.Counts.{raised}
use Rattle.sw_http.specs.Continue.{IsCutShort, NeedsMore, puts_after}
use Rattle.sw_http.specs.Input.{IfSeen}
use Rattle.sw_http.specs.Reading.{BeginsWith, ReadsAll}
use Rattle.sw_http.specs.Request.{IsSkipped, Parts, request_of}
use Rattle.sw_message.specs.declared.request.Request.{Request}
use Rattle.sw_session.specs.Passages.{Passage}
use Rattle.sw_session.specs.Replies.{Halts, Replies, Serves}
use Rattle.sw_session.specs.Turn.{Halted, MayTell, MayTellAndPuts, RefusesRest, Replied, RepliedPart, StopsBetween, TellsWhole}
use Rattle.sw_session.specs.declared.server.ServerFault.{ServerFault}
use Rattle.sw_session.specs.declared.server.ServerFault.TheVariants as servers
use Rattle.sw_session.specs.declared.session.SessionFault.{SessionFault}
use Rattle.sw_session.specs.declared.session.SessionFault.TheVariants as faults

-- the greatest number of requests of one session
abbrev pub most_requests : ℕ
most_requests = 1048576

-- the first requests of the input were answered, each at its moment, and all that is written for them was written; none of them is a last
-- one, and rest is what the input has behind them
pub record SoFar {S : Type 0} (last : Request → Bool) (may : Serves S) (start : S) (input rest taken now : Option (List ℕ)) (moments : List ℕ)
    (after : S) : Type 0 where
  pub requests : List Request
  pub begins : BeginsWith input requests rest
  pub none_last : All (λ (r : Request). last r ≡ false) requests
  pub text : List ℕ
  pub replied : Replies may start requests moments text after
  pub written : Appends taken now text

-- every request of the input was answered, and nothing but line ends to be skipped was left
pub record Complete {S : Type 0} (last : Request → Bool) (may : Serves S) (start : S) (input taken now : Option (List ℕ)) (moments : List ℕ)
    (after : S) : Type 0 where
  pub rest : Option (List ℕ)
  pub done : SoFar last may start input rest taken now moments after
  pub few : length done.requests < most_requests
  pub nothing_else : IfSome rest IsSkipped

-- as many requests were answered as a session has at most
pub record Full {S : Type 0} (last : Request → Bool) (may : Serves S) (start : S) (input taken now : Option (List ℕ)) (moments : List ℕ)
    (after : S) : Type 0 where
  pub rest : Option (List ℕ)
  pub done : SoFar last may start input rest taken now moments after
  pub most : length done.requests ≡ most_requests

-- The session ended between two requests: some first ones were answered, and `ends` tells of the rest of the input and of what was written
-- behind their replies.
pub record Between {S : Type 0} (last : Request → Bool) (may : Serves S) (start : S) (input taken now : Option (List ℕ)) (moments : List ℕ)
    (after : S) (ends : Option (List ℕ) → Option (List ℕ) → Option (List ℕ) → Type 0) : Type 0 where
  pub rest : Option (List ℕ)
  pub mid : Option (List ℕ)
  pub done : SoFar last may start input rest taken mid moments after
  pub few : length done.requests < most_requests
  pub end : ends rest mid now

-- The session ended at one request more: some first ones were answered, that one has a moment of its own, and `ends` tells what the server was
-- before and after it, what the input has in front of it and behind it, and what was written behind the replies of those before.
pub record AtOneMore {S : Type 0} (last : Request → Bool) (may : Serves S) (start : S) (input taken now : Option (List ℕ)) (moments : List ℕ)
    (after : S) (ends : S → S → Option (List ℕ) → Option (List ℕ) → Option (List ℕ) → Option (List ℕ) → ℕ → Type 0) : Type 0 where
  pub rest : Option (List ℕ)
  pub mid : Option (List ℕ)
  pub earlier : List ℕ
  pub then : S
  pub done : SoFar last may start input rest taken mid earlier then
  pub few : length done.requests < most_requests
  pub moment : ℕ
  pub moments_are : moments ≡ earlier ++ moment ∷ []
  pub behind : Option (List ℕ)
  pub end : ends then after rest behind mid now moment

-- the rest, which is no request, was refused
abbrev pub Refused : {S : Type 0} → (Request → Bool) → Serves S → S → Option (List ℕ) → Option (List ℕ) → Option (List ℕ) → List ℕ → S → Type 0
Refused last may start input taken now moments after = Between last may start input taken now moments after RefusesRest

-- the next request may have been told to go on
abbrev pub Stopped : {S : Type 0} → (Request → Bool) → Serves S → S → Option (List ℕ) → Option (List ℕ) → Option (List ℕ) → List ℕ → S → Type 0
Stopped last may start input taken now moments after = Between last may start input taken now moments after TellsWhole

-- it is a last one, its reply was written whole, and what the input has behind it was not looked at
abbrev pub Closed : {S : Type 0} → (Request → Bool) → Serves S → S → Option (List ℕ) → Option (List ℕ) → Option (List ℕ) → List ℕ → S → Type 0
Closed last may start input taken now moments after = AtOneMore last may start input taken now moments after
    (λ then after rest behind mid now moment. (reply : Replied may then after rest behind mid now moment) × (last (request_of reply.turn.parts) ≡ true))

-- the server halted at it, and none of its reply was written
abbrev pub HaltedAt : {S : Type 0} → (Request → Bool) → Serves S → Halts S → S → Option (List ℕ) → Option (List ℕ) → Option (List ℕ) → List ℕ → S
    → ServerFault → Type 0
HaltedAt last may halts start input taken now moments after fault = AtOneMore last may start input taken now moments after
    (λ then after rest behind mid now moment. Halted halts then after rest behind mid now moment fault)

-- All replies but the last are whole: a front was written of what the next request asks to be told, or of the refusal of the rest, or nothing;
-- or a front of the reply to one request more.
abbrev pub Broken : {S : Type 0} → (Request → Bool) → Serves S → S → Option (List ℕ) → Option (List ℕ) → Option (List ℕ) → List ℕ → S → Type 0
Broken last may start input taken now moments after =
    Between last may start input taken now moments after StopsBetween ⊎ AtOneMore last may start input taken now moments after (RepliedPart may)

-- no call failed on this end
abbrev pub IsSound : Passage → Type 0
IsSound end = end.faults_now ≡ end.faults

-- one call failed on it
abbrev pub HasFailed : Passage → Type 0
HasFailed end = end.faults_now ≡ raised end.faults

-- How a session ended, by what its loop answered: well where its input ended, or a last request was answered. A call that fails ends it, and
-- after that none is made: so one call failed where the session ended by it, and else none. A server's fault ends it too, and fails no call
-- of either end.
abbrev pub IsSession : {S : Type 0} → (Request → Bool) → Serves S → Halts S → S → Passage → Passage → List ℕ → S → Result ⊤ SessionFault → Type 0
IsSession last may halts start source sink moments after (Ok _) =
    ((Complete last may start source.before sink.before sink.now moments after × IsAtEnd source.now)
    ⊎ Closed last may start source.before sink.before sink.now moments after) × IsSound source × IsSound sink
IsSession last may halts start source sink moments after (Err faults.ReadFault) =
    Stopped last may start source.before sink.before sink.now moments after × HasFailed source × IsSound sink
IsSession last may halts start source sink moments after (Err faults.WriteFault) =
    Broken last may start source.before sink.before sink.now moments after × IsSound source × HasFailed sink
IsSession last may halts start source sink moments after (Err faults.TooLong) =
    Full last may start source.before sink.before sink.now moments after × IsSound source × IsSound sink
IsSession last may halts start source sink moments after (Err faults.BadInput) =
    Refused last may start source.before sink.before sink.now moments after × IsSound source × IsSound sink
IsSession last may halts start source sink moments after (Err faults.ServerFault) =
    HaltedAt last may halts start source.before sink.before sink.now moments after servers.Failed × IsSound source × IsSound sink
IsSession last may halts start source sink moments after (Err faults.NoMemory) =
    (Broken last may start source.before sink.before sink.now moments after
    ⊎ HaltedAt last may halts start source.before sink.before sink.now moments after servers.NoMemory) × IsSound source × IsSound sink

-- what the server is at the end: P where it never halted, and Q where it halted by this fault
abbrev pub EndsAs : {S : Type 0} → (S → Type 0) → (ServerFault → S → Type 0) → S → Result ⊤ SessionFault → Type 0
EndsAs P Q after (Ok _) = P after
EndsAs P Q after (Err faults.ReadFault) = P after
EndsAs P Q after (Err faults.WriteFault) = P after
EndsAs P Q after (Err faults.TooLong) = P after
EndsAs P Q after (Err faults.BadInput) = P after
EndsAs P Q after (Err faults.ServerFault) = Q servers.Failed after
EndsAs P Q after (Err faults.NoMemory) = P after ⊎ Q servers.NoMemory after

-- where no request is a last one, a session that ended well answered all of its input, and read its source to the end
abbrev pub IsWhole : {S : Type 0} → Serves S → Halts S → Type 0
IsWhole {S} may halts = (start : S) (source sink : Passage) (moments : List ℕ) (after : S)
    → IsSession (λ request. false) may halts start source sink moments after (Ok tt)
    → Complete (λ request. false) may start source.before sink.before sink.now moments after × IsAtEnd source.now × IsSound source × IsSound sink

-- ---- counts of the sink's calls

-- how many calls of the sink there were, once these requests were answered: for each its reply's, and before it one where its client waits to be told
abbrev pub puts_for : List Request → ℕ → ℕ
puts_for [] calls = calls
puts_for (request ∷ requests) calls = puts_for requests (raised (puts_after request.fields calls))

-- The first requests of the input were answered, as the session tells of them, and `ends` tells of the rest of the input, of what was written by
-- then, and of the calls that there were: those for these very requests.
pub record OwnPutsBehind {S : Type 0} (last : Request → Bool) (may : Serves S) (start after : S) (input taken : Option (List ℕ)) (moments : List ℕ)
    (calls : ℕ) (ends : Option (List ℕ) → Option (List ℕ) → ℕ → Type 0) : Type 0 where
  pub rest : Option (List ℕ)
  pub mid : Option (List ℕ)
  pub done : SoFar last may start input rest taken mid moments after
  pub end : ends rest mid (puts_for done.requests calls)

-- the same of those before one request more, which has a moment of its own; `ends` tells what the server was before it too, and that moment
abbrev pub OwnPutsAtOneMore : {S : Type 0} → (Request → Bool) → Serves S → S → Option (List ℕ) → Option (List ℕ) → List ℕ → ℕ
    → (S → ℕ → Option (List ℕ) → Option (List ℕ) → ℕ → Type 0) → Type 0
OwnPutsAtOneMore {S} last may start input taken moments calls ends =
    (then : S) × (earlier : List ℕ) × (moment : ℕ) × (moments ≡ earlier ++ moment ∷ [])
    × OwnPutsBehind last may start then input taken earlier calls (ends then moment)

-- A read failed when these first bytes of the input had been seen: the texts of the requests that were answered, and a rest in which no whole
-- request stands. So what came whole was answered before more was asked for, and a client that waits for a reply has it; and its next request had
-- been told what its head asks for, in one call, where that head had come.
abbrev pub WaitsForMore : {S : Type 0} → (Request → Bool) → Serves S → S → S → Option (List ℕ) → Option (List ℕ) → Option (List ℕ) → Option (List ℕ)
    → List ℕ → ℕ → ℕ → Type 0
WaitsForMore last may start after input left taken taken_now moments calls calls_now = OwnPutsBehind last may start after input taken moments calls
    (λ rest mid told_by. IfSeen rest left (IsCutShort mid taken_now told_by calls_now))

-- Bytes are the texts of requests that were answered, each at its moment and none of them a last one, and a rest in which no whole request stands and
-- may still come. Where these are what was seen when more was asked for, all that came whole was answered by the session.
pub record IsBetween {S : Type 0} (last : Request → Bool) (may : Serves S) (start : S) (moments : List ℕ) (bytes : List ℕ) : Type 0 where
  pub parts : List Parts
  pub rest : List ℕ
  pub reads : ReadsAll bytes parts rest
  pub none_last : All (λ (r : Request). last r ≡ false) (map request_of parts)
  pub earlier : List ℕ
  pub later : List ℕ
  pub moments_are : moments ≡ earlier ++ later
  pub text : List ℕ
  pub then : S
  pub replied : Replies may start (map request_of parts) earlier text then
  pub needs : NeedsMore rest

-- How many calls of the sink a session made for its own requests, by what its loop answered: for those that were answered, each at its moment, and
-- for what ended it.
abbrev pub OwnPuts : {S : Type 0} → (Request → Bool) → Serves S → Halts S → S → S → Option (List ℕ) → Option (List ℕ) → Option (List ℕ) → List ℕ
    → ℕ → ℕ → Result ⊤ SessionFault → Type 0
OwnPuts last may halts start after input taken taken_now moments calls calls_now (Ok _) =
    OwnPutsBehind last may start after input taken moments calls (λ rest mid told. calls_now ≡ told)
    ⊎ OwnPutsAtOneMore last may start input taken moments calls (λ then moment rest mid told. (behind : Option (List ℕ))
    × ((reply : Replied may then after rest behind mid taken_now moment) × (last (request_of reply.turn.parts) ≡ true)
    × (calls_now ≡ raised (puts_after (request_of reply.turn.parts).fields told))))
OwnPuts last may halts start after input taken taken_now moments calls calls_now (Err faults.ReadFault) =
    OwnPutsBehind last may start after input taken moments calls (λ rest mid told. MayTell rest told calls_now)
OwnPuts last may halts start after input taken taken_now moments calls calls_now (Err faults.WriteFault) =
    OwnPutsBehind last may start after input taken moments calls (λ rest mid told. MayTellAndPuts rest told calls_now)
    ⊎ OwnPutsAtOneMore last may start input taken moments calls (λ then moment rest mid told. MayTellAndPuts rest told calls_now)
OwnPuts last may halts start after input taken taken_now moments calls calls_now (Err faults.TooLong) =
    OwnPutsBehind last may start after input taken moments calls (λ rest mid told. calls_now ≡ told)
OwnPuts last may halts start after input taken taken_now moments calls calls_now (Err faults.BadInput) =
    OwnPutsBehind last may start after input taken moments calls (λ rest mid told. MayTellAndPuts rest told calls_now)
OwnPuts last may halts start after input taken taken_now moments calls calls_now (Err faults.ServerFault) =
    OwnPutsAtOneMore last may start input taken moments calls (λ then moment rest mid told. (behind : Option (List ℕ))
    × ((halt : Halted halts then after rest behind mid taken_now moment servers.Failed) × (calls_now ≡ puts_after (request_of halt.parts).fields told)))
OwnPuts last may halts start after input taken taken_now moments calls calls_now (Err faults.NoMemory) =
    OwnPutsBehind last may start after input taken moments calls (λ rest mid told. MayTell rest told calls_now)
    ⊎ OwnPutsAtOneMore last may start input taken moments calls (λ then moment rest mid told. MayTell rest told calls_now)
