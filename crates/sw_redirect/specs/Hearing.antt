-- What the answer to a row comes to. (OpenStack Swift's updater follows the redirects of containers that are split.)
use Rattle.std.specs.Prelude.{if◌then◌else◌, Some}
use Rattle.sw_container_steps.specs.declared.cont_answer.ContAnswer.{ContAnswer}
use Rattle.sw_container_steps.specs.declared.cont_answer.ContAnswer.TheVariants as conts
use Rattle.sw_hashpath.specs.declared.place.Place.{Place}
use Rattle.sw_pass.specs.Outcomes.{cont_hindrance}
use Rattle.sw_pass.specs.declared.hindrance.Hindrance.TheVariants.{Conflict}
use Rattle.sw_redirect.specs.declared.heard.Heard.{Heard}
use Rattle.sw_redirect.specs.declared.heard.Heard.TheVariants.{Acknowledged, Redirected, Refused}
use Rattle.sw_shard_range.specs.Names.{is_hidden}

-- A step at the container of this place that was made, or had nothing to change, is acknowledged. Of the others only one that leaves the name to a shard says
-- where to go on. A hidden container, as each shard is, leaves no name to another one: where it says so, that is a conflict
abbrev pub heard_of : Place → ContAnswer → Heard
heard_of place (conts.New front) = Acknowledged
heard_of place (conts.There front) = Acknowledged
heard_of place (conts.Done front) = Acknowledged
heard_of place (conts.Redirect shard) = if is_hidden place then Refused (Some Conflict) else Redirected shard
heard_of place answer = Refused (cont_hindrance answer)
