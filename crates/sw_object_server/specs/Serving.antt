-- What becomes of a request over a door: the one step that it asks for comes once to the device, and its answer is replied. (This project's
-- own.)
--
-- The states of the door are of any type D: they are looked at through its sight alone.
use Rattle.std.specs.Prelude.{◌≡◌, ⊤, ℕ, ◌<◌, Bool, true, ◌⊎◌, Ok}
use Rattle.sw_hashpath.specs.declared.name.Name.{Name}
use Rattle.sw_message.specs.declared.request.Request.{Request}
use Rattle.sw_message.specs.declared.response.Response.{Response}
use Rattle.sw_peer.specs.Sights.{Calls, IsMade, IsRead, Nodes, Sight}
use Rattle.sw_object_steps.specs.Steps.{write_of}
use Rattle.sw_object_steps.specs.declared.answer.Answer.{Answer}
use Rattle.sw_object_steps.specs.declared.change.Change.{Change}
use Rattle.sw_object_steps.specs.declared.got.Got.{Got}
use Rattle.sw_peer.specs.declared.link.Link.TheVariants.{Local}
use Rattle.sw_ring.specs.declared.ring.Ring.{Ring}
use Rattle.sw_object_server.specs.Asking.{IsAsked}
use Rattle.sw_object_server.specs.Replies.{bare, made_reply, reply_to, shows_etag, shows_field}
use Rattle.sw_object_server.specs.Showing.{IsShown, shows_fields}
use Rattle.sw_object_server.specs.declared.asked.Asked.{Asked}
use Rattle.sw_object_server.specs.declared.asked.Asked.TheVariants as asks

-- the step came once, said at the device itself, and was answered so; it asks for no hashes and no files
pub record IsStepped {A : Type 0} (step : Sight → A → Sight → Type 0) (old : Sight) (answer : A) (new : Sight) : Type 0 where
  pub called : Calls step old Local (Ok answer) new
  pub asks : new.asks ≡ old.asks

-- ---- a reply

-- the change came, and its answer is replied
abbrev pub IsChangeServed : Sight → Sight → ℕ → Name → Change → Response → Type 0
IsChangeServed old new device name change response =
    (answer : Answer) × IsStepped (IsMade Local device name change) old answer new × (response ≡ reply_to (made_reply (write_of change).kind) answer)

-- the object was read, and what was got is replied
abbrev pub IsReadServed : Sight → Sight → ℕ → Name → Bool → ℕ → Response → Type 0
IsReadServed old new device name head_only moment response =
    (got : Got) × IsStepped (IsRead Local device name) old got new × IsShown got moment head_only response

-- what was asked for was done. A refused request leaves the door as it was
abbrev pub IsServed : {D : Type 0} → (D → Sight) → D → D → ℕ → Asked → Response → Type 0
IsServed sight old new moment (asks.Refused status) response = (new ≡ old) × (response ≡ bare status)
IsServed sight old new moment (asks.Change device name change) response = IsChangeServed (sight old) (sight new) device name change response
IsServed sight old new moment (asks.Read device name head_only) response = IsReadServed (sight old) (sight new) device name head_only moment response

-- the request was answered, by what it asks for
abbrev pub IsAnswered : {D : Type 0} → (D → Sight) → D → D → Ring → Request → ℕ → Response → Type 0
IsAnswered sight old new ring r moment response = (asked : Asked) × IsAsked ring r asked × IsServed sight old new moment asked response

-- ---- want of memory

-- the change came and was refused, or met a damaged file: it changed nothing
abbrev pub IsChangeLeft : Sight → Sight → ℕ → Name → Change → Type 0
IsChangeLeft old new device name change =
    (answer : Answer) × IsStepped (IsMade Local device name change) old answer new × (shows_field answer ≡ true)

-- the object was read
abbrev pub IsReadLeft : Sight → Sight → ℕ → Name → ℕ → Type 0
IsReadLeft old new device name moment = (got : Got) × IsStepped (IsRead Local device name) old got new × (shows_fields got moment ≡ true)

-- the step that was asked for came, and changed nothing. A refused request has none
abbrev pub IsLeft : Sight → Sight → ℕ → Asked → Type 0
IsLeft old new moment (asks.Refused status) = ⊥
IsLeft old new moment (asks.Change device name change) = IsChangeLeft old new device name change
IsLeft old new moment (asks.Read device name head_only) = IsReadLeft old new device name moment

-- No reply was made. No step came, and the door is as it was; or the one step came that the request asks for, and changed nothing: then it
-- was its reply that found no memory
abbrev pub IsGivenUp : {D : Type 0} → (D → Sight) → D → D → Ring → Request → ℕ → Type 0
IsGivenUp sight old new ring r moment = (new ≡ old) ⊎ ((asked : Asked) × IsAsked ring r asked × IsLeft (sight old) (sight new) moment asked)

-- memory is taken before the step that is asked for comes: for the reply to what is put, and for no other
abbrev pub TakesFirst : Asked → Type 0
TakesFirst (asks.Refused status) = ⊥
TakesFirst (asks.Change device name change) = shows_etag (write_of change).kind ≡ true
TakesFirst (asks.Read device name head_only) = ⊥

-- the same of what is asked for: no step came, and the reply to what is put found no memory; or the step came, and changed nothing
abbrev pub IsHalted : {D : Type 0} → (D → Sight) → D → D → ℕ → Asked → Type 0
IsHalted sight old new moment asked = ((new ≡ old) × TakesFirst asked) ⊎ IsLeft (sight old) (sight new) moment asked

-- the door reaches what is asked for: its device, and its name
abbrev pub IsReached : Nodes → Asked → Type 0
IsReached nodes (asks.Refused status) = ⊤
IsReached nodes (asks.Change device name change) = (device < nodes.devices) × (nodes.fits name ≡ true)
IsReached nodes (asks.Read device name head_only) = (device < nodes.devices) × (nodes.fits name ≡ true)
