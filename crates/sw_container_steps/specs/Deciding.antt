-- What a step comes to over the tables that stand. (This project's own.)
use Rattle.std.specs.Prelude.{◌≡◌, ◌≢◌, [], Option, None, Some}
use Rattle.std.proofs.Common.{◌⊎◌}
use Rattle.sw_hashpath.specs.declared.place.Place.{Place}
use Rattle.sw_keeper.specs.declared.tables.Tables.{Tables}
use Rattle.sw_container_steps.specs.Steps.{cont_refusal, entries_for}
use Rattle.sw_container_steps.specs.declared.cont_answer.ContAnswer.TheVariants as answers
use Rattle.sw_container_steps.specs.declared.cont_change.ContChange.{ContChange}
use Rattle.sw_container_steps.specs.declared.deciding.Decision.{Decision}
use Rattle.sw_container_steps.specs.declared.deciding.Decision.TheVariants.{Refused, Makes}

-- the refusal; or there is none, and these are its entries
abbrev pub IsDecided : Option Tables → Place → ContChange → Decision → Type 0
IsDecided t place change (Refused answer) = cont_refusal t place change ≡ Some answer
IsDecided t place change (Makes entries) = (cont_refusal t place change ≡ None) × (entries ≡ entries_for t place change)

-- a name of the step is left to a shard, and the answer tells which
abbrev pub Redirects : Option Tables → Place → ContChange → Type 0
Redirects t place change = (shard : Place) × (cont_refusal t place change ≡ Some (answers.Redirect shard))

-- a step that takes memory: one that enters something, or tells a shard
abbrev pub TakesMemory : Option Tables → Place → ContChange → Type 0
TakesMemory t place change = ((cont_refusal t place change ≡ None) × (entries_for t place change ≢ [])) ⊎ Redirects t place change
