use Rattle.std.proofs.Common.{◌≡◌, ℕ, List, Option, None, Some, false, rules}
use Rattle.std.specs.Option.{is_some}
use Rattle.sw_fields.specs.Fields.{IsTime, IsTimeOf}
use Rattle.sw_message.specs.declared.fields.Field.{Field}
use Rattle.sw_control.proofs.Refusals.{where_err}
use Rattle.sw_control.proofs.shard_creation.shard_creation_of.Goals as goal

no_time : (fields : List Field) (got : Option ℕ) → is_some got ≡ false → IsTime fields got → (time : ℕ) → ¬ IsTimeOf fields time
no_time fields None none refused time is = refused time is
no_time fields (Some given) none refused time is = cc

-- where the fields give no time they ask for no creation
pub returns-in_default-time_of-clause-refused : goal.returns-in_default-time_of-clause-refused
returns-in_default-time_of-clause-refused c = λ asked is. no_time c.args.fields.now c.time_of.result (search rules) c.time_of.ensures asked.time is.time

-- where the fields name no messages they ask for no creation
pub returns-in_default-acts_of-clause-refused : goal.returns-in_default-acts_of-clause-refused
returns-in_default-acts_of-clause-refused c = λ asked is. where_err c.acts_of.result (search rules) c.acts_of.ensures.refused asked.acts is.acts
