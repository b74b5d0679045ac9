-- What becomes of the messages through a door that loses and repeats them. (This project's own.)
use Rattle.std.specs.Prelude.{◌≡◌, ℕ, zero, suc, ◌+◌, ◌==◌, Bool, true, false, Option, None, Some, if◌then◌else◌, Result, Ok, IsErr}
use Rattle.sw_outside.specs.Counts.{raised}
use Rattle.sw_peer.specs.Carriage.{Carriage, Delivery}
use Rattle.sw_peer.specs.Sights.{Calls, Sight, asked}
use Rattle.sw_object_steps.specs.declared.answer.Answer.{Answer}
use Rattle.sw_object_steps.specs.declared.answer.Answer.TheVariants as answers
use Rattle.sw_peer.specs.declared.link.Link.{Link}
use Rattle.sw_peer.specs.declared.link.Link.TheVariants.{Local, Sent}
use Rattle.sw_peer.specs.declared.link.Lost.{Lost}
use Rattle.sw_lossy.specs.declared.acts.Acts.{Acts}
use Rattle.sw_lossy.specs.declared.acts.Fate.{Fate}
use Rattle.sw_lossy.specs.declared.acts.Fate.TheVariants.{Goes, IsLost, LosesReply, ComesTwice}

-- ---- which message

abbrev pub is_number : Option ℕ → ℕ → Bool
is_number None number = false
is_number (Some named) number = named == number

-- what becomes of the message of this number
abbrev pub fate_of_message : Acts → ℕ → Fate
fate_of_message acts number =
    if is_number acts.lose number then IsLost
    else if is_number acts.lose_reply number then LosesReply
    else if is_number acts.repeat number then ComesTwice
    else Goes

-- what becomes of a step that is said so, after so many messages
abbrev pub fate_of : Acts → Link → ℕ → Fate
fate_of acts Local messages = Goes
fate_of acts Sent messages = fate_of_message acts (raised messages)

-- ---- counts

-- each message counts, and a step that is said at the device itself is none
abbrev pub messages_after : Link → ℕ → ℕ
messages_after Local messages = messages
messages_after Sent messages = raised messages

abbrev pub is_loss : Fate → Bool
is_loss Goes = false
is_loss IsLost = true
is_loss LosesReply = true
is_loss ComesTwice = false

abbrev pub faults_after : Fate → ℕ → ℕ
faults_after fate faults = if is_loss fate then raised faults else faults

-- what the door inside counts of a step that asks
abbrev pub asked_inside : Link → Fate → ℕ → ℕ
asked_inside link Goes asks = asked asks link
asked_inside link IsLost asks = asks
asked_inside link LosesReply asks = asked asks link
asked_inside link ComesTwice asks = asked (asked asks link) link

-- ---- the messages to come

-- how a message is delivered, where the door inside delivers each once
abbrev pub delivered : Fate → Delivery
delivered Goes = record { copies = 1; is_heard = true }
delivered IsLost = record { copies = 0; is_heard = false }
delivered LosesReply = record { copies = 1; is_heard = false }
delivered ComesTwice = record { copies = 2; is_heard = true }

-- how each message is delivered that comes after so many
abbrev pub delivery_at : Acts → ℕ → ℕ → Delivery
delivery_at acts messages zero = delivered (fate_of_message acts (raised messages))
delivery_at acts messages (suc n) = delivery_at acts (raised messages) n

abbrev pub carried_by : Acts → ℕ → Carriage
carried_by acts messages = Some (delivery_at acts messages)

-- ---- what its user knows

-- A door around another shows the other, with its own losses beside those of the other, and its own messages to come. It counts the
-- messages that ask by itself, since one that is lost never comes to the other, and one that comes twice counts there twice
abbrev pub around : Sight → Acts → ℕ → ℕ → ℕ → Sight
around s acts messages faults asks = record s { faults = s.faults + faults; asks = asks; carriage = carried_by acts messages }

-- a door through which no message was sent yet
abbrev pub begun : Acts → Sight → Sight
begun acts s = around s acts 0 0 0

-- ---- what comes to the door inside, and what is heard

module _ {D A : Type 0} (sight : D → Sight) (step : Sight → A → Sight → Type 0) where
  abbrev pub Happens : Link → Fate → D → Result A Lost → D → Type 0
  Happens link Goes old result new = Calls step (sight old) link result (sight new)
  Happens link IsLost old result new = (new ≡ old) × IsErr result
  Happens link LosesReply old result new = ((unheard : Result A Lost) × Calls step (sight old) link unheard (sight new)) × IsErr result
  Happens link ComesTwice old result new =
      (mid : D) × ((first : Result A Lost) × Calls step (sight old) link first (sight mid)) × Calls step (sight mid) link result (sight new)

-- a change that is to come twice found no memory for its copy: it never came
pub record IsUncopied {D : Type 0} (fate : Fate) (old : D) (result : Result Answer Lost) (new : D) : Type 0 where
  pub twice : fate ≡ ComesTwice
  pub same : new ≡ old
  pub answer : result ≡ Ok answers.NoMemory
