-- The passes that control requests ask for. (This project's own.)
use Rattle.std.specs.Prelude.{◌≡◌, ◌≢◌, ℕ, ◌≤◌, List, length, codes, Option, None, Some, IsSome, IsTrue}
use Rattle.std.specs.Char.{is_ascii_digit}
use Rattle.std.specs.List.{list_all}
use Rattle.std.specs.Str.Parse.{digits_value}
use Rattle.sw_container_server.specs.Places.{IsHashed}
use Rattle.sw_hashpath.specs.BadNames.{bad_name}
use Rattle.sw_hashpath.specs.declared.place.Place.{Place}
use Rattle.sw_lossy.specs.declared.acts.Acts.{Acts}
use Rattle.sw_message.specs.Fields.{field_value_of}
use Rattle.sw_message.specs.declared.fields.Field.{Field}
use Rattle.sw_object_server.specs.Places.{IsDevice, IsPartition}
use Rattle.sw_ring.specs.declared.ring.Ring.{Ring}
use Rattle.sw_control.specs.declared.replication.Replication.{Replication}
use Rattle.sw_control.specs.declared.row_push.RowPush.{RowPush}
use Rattle.sw_control.specs.declared.update.Update.{Update}

-- ---- which messages fail

-- a text is a number, of a message, which are counted from 1, or of names: 1 to 9 digits that aren't all 0
pub record IsNumber (text : List ℕ) (number : ℕ) : Type 0 where
  pub least : 1 ≤ length text
  pub most : length text ≤ 9
  pub digits : IsTrue (list_all is_ascii_digit text)
  pub value : number ≡ digits_value 10 text
  pub counted : number ≢ 0

-- the message that the last field of this name names; none where there is no such field
abbrev pub IsMessage : List Field → List ℕ → Option ℕ → Type 0
IsMessage fields name None = field_value_of name fields ≡ None
IsMessage fields name (Some number) = (text : List ℕ) × (field_value_of name fields ≡ Some text) × IsNumber text number

-- the messages that fields name
pub record AreActs (fields : List Field) (acts : Acts) : Type 0 where
  pub lose : IsMessage fields (codes "x-swc-lose") acts.lose
  pub lose_reply : IsMessage fields (codes "x-swc-lose-reply") acts.lose_reply
  pub repeat : IsMessage fields (codes "x-swc-repeat") acts.repeat

-- ---- devices and containers

-- two devices have these names
pub record AreApart (ring : Ring) (from to : List ℕ) (i j : ℕ) : Type 0 where
  pub sender : IsDevice ring from (Some i)
  pub receiver : IsDevice ring to (Some j)
  pub apart : i ≢ j

-- the place of the container of these names: it has them, and its hash under the ring's secrets. None where something is wrong with the names
abbrev pub IsContainer : Ring → List ℕ → List ℕ → Option Place → Type 0
IsContainer ring account container None = IsSome (bad_name account (Some container) None)
IsContainer ring account container (Some place) = (place.account ≡ account) × (place.container ≡ container) × IsHashed ring place

-- ---- what is pushed

-- a push from one device to another, of a partition, is asked for by their names, by its number and by fields
pub record IsReplication (ring : Ring) (from to part : List ℕ) (fields : List Field) (asked : Replication) : Type 0 where
  pub devices : AreApart ring from to asked.from asked.to
  pub partition : IsPartition ring part (Some asked.part)
  pub acts : AreActs fields asked.acts

-- a push from one device to another, of the rows of a container, is asked for by their names, by those of the container and by fields
pub record IsRowPush (ring : Ring) (from to account container : List ℕ) (fields : List Field) (asked : RowPush) : Type 0 where
  pub devices : AreApart ring from to asked.from asked.to
  pub place : IsContainer ring account container (Some asked.place)
  pub acts : AreActs fields asked.acts

-- ---- what is updated

-- an update of the containers, by the records of a device, is asked for by its name and by fields
pub record IsUpdate (ring : Ring) (name : List ℕ) (fields : List Field) (asked : Update) : Type 0 where
  pub device : IsDevice ring name (Some asked.device)
  pub acts : AreActs fields asked.acts
