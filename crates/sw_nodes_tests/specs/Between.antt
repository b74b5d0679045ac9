-- A write that is sent to an object between two messages of one step at a container. (This project's own.)
use Rattle.std.specs.Prelude.{◌≡◌, ℕ, Bool, true, false, Result, Ok, Err}
use Rattle.sw_container_steps.specs.declared.cont_answer.ContAnswer.{ContAnswer}
use Rattle.sw_container_steps.specs.declared.cont_answer.ContAnswer.TheVariants as answers
use Rattle.sw_container_steps.specs.declared.cont_change.ContChange.{ContChange}
use Rattle.sw_hashpath.specs.declared.name.Name.{Name}
use Rattle.sw_hashpath.specs.declared.place.Place.{Place}
use Rattle.sw_peer.specs.ContSights.{IsContMade}
use Rattle.sw_peer.specs.Sights.{Calls, Sight}
use Rattle.sw_peer.specs.declared.link.Link.TheVariants.{Sent}
use Rattle.sw_peer.specs.declared.link.Lost.{Lost}
use Rattle.sw_state.specs.declared.write.Write.{Write}
use Rattle.sw_nodes_tests.specs.Sent.{IsSent}
use Rattle.sw_nodes_tests.specs.declared.between.Heard.{Heard}

abbrev pub is_made : ContAnswer → Bool
is_made (answers.New front) = true
is_made (answers.There front) = true
is_made (answers.Done front) = true
is_made answer = false

-- whether an answer came that says that the step was made, or had nothing to change
abbrev pub acknowledges_change : Result ContAnswer Lost → Bool
acknowledges_change (Ok answer) = is_made answer
acknowledges_change (Err lost) = false

-- the step was sent in one message, and this says whether what was heard acknowledges it
abbrev pub IsChangeSent : Sight → ℕ → Place → ContChange → Bool → Sight → Type 0
IsChangeSent old device place change acknowledged new =
    (heard : Result ContAnswer Lost) × Calls (IsContMade Sent device place change) old Sent heard new × (acknowledged ≡ acknowledges_change heard)

-- the three messages, with what is known of the nodes after each. A message to an object leaves what is known of all containers as it was, and a message to
-- a container what is known of all objects
pub record AreSent (old : Sight) (device : ℕ) (place : Place) (change : ContChange) (name : Name) (w : Write) (heard : Heard) (new : Sight) : Type 0 where
  pub changed : Sight
  pub written : Sight
  pub before : IsChangeSent old device place change heard.before changed
  pub write : IsSent changed device name w heard.write written
  pub after : IsChangeSent written device place change heard.after new
  pub objects_before : changed.objects ≡ old.objects
  pub containers : written.containers ≡ changed.containers
  pub objects_after : new.objects ≡ written.objects
