-- What is told of a container that is split: what it tells of itself, with the counts of its shards. (OpenStack Swift's container server tells what shards
-- last told their root; here they are asked.)
use Rattle.std.specs.Prelude.{Bool, true, false, Result, Ok, Err}
use Rattle.sw_container_steps.specs.declared.cont_answer.ContAnswer.{ContAnswer}
use Rattle.sw_container_steps.specs.declared.info.Info.{Info}
use Rattle.sw_container_steps.specs.declared.info.SplitState.{SplitState}
use Rattle.sw_container_steps.specs.declared.info.SplitState.TheVariants as states
use Rattle.sw_sharded_listing.specs.Counts.{Count, Sums}

-- whether it has ranges
abbrev pub is_split_state : SplitState → Bool
is_split_state states.Unsharded = false
is_split_state states.Sharding = true
is_split_state states.Sharded = true

abbrev pub is_split : Info → Bool
is_split info = is_split_state info.split

-- the same, with these counts; its hash stays that of its own rows
abbrev pub with_sums : Info → Sums → Info
with_sums info sums = record info { count = sums.0; bytes = sums.1 }

-- the same, with what was counted; or why nothing was
abbrev pub with_count : Info → Count → Result Info ContAnswer
with_count info (Ok sums) = Ok (with_sums info sums)
with_count info (Err answer) = Err answer
