-- What becomes of the messages through a door, where that is known beforehand. (This project's own.)
--
-- Over a network nobody knows it. A door in one process delivers each message once, and one that fails on purpose knows which it loses.
use Rattle.std.specs.Prelude.{◌≡◌, ⊤, ℕ, suc, Bool, true, Option, None, Some}
use Rattle.std.specs.Option.{option_map}
use Rattle.sw_peer.specs.declared.link.Link.{Link}
use Rattle.sw_peer.specs.declared.link.Link.TheVariants.{Local, Sent}

-- what becomes of a message: how many copies of it come, and whether its sender hears the answer to the last one
pub record Delivery : Type 0 where
  pub copies : ℕ
  pub is_heard : Bool

-- what becomes of the messages to come, from the next one on; none where nobody knows it
abbrev pub Carriage : Type 0
Carriage = Option (ℕ → Delivery)

-- each message comes once, and is answered
abbrev pub faithful : Carriage
faithful = Some (λ n. record { copies = 1; is_heard = true })

-- those behind the next one
abbrev pub behind : Carriage → Carriage
behind carriage = option_map (λ deliveries n. deliveries (suc n)) carriage

-- the next message is delivered so, where that is known
abbrev pub IsNext : Carriage → Delivery → Type 0
IsNext None fate = ⊤
IsNext (Some deliveries) fate = deliveries 0 ≡ fate

-- A step that is said so came in so many copies, and the last one's answer was heard or not: a message is delivered as was known of it.
-- What is said at the device itself is no message
abbrev pub Carries : Carriage → Link → ℕ → Bool → Carriage → Type 0
Carries old Local copies heard new = new ≡ old
Carries old Sent copies heard new = (new ≡ behind old) × IsNext old (record { copies = copies; is_heard = heard })
