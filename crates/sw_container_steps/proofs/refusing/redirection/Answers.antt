use Rattle.std.proofs.Common.{◌≡◌, Some, Option, sym, ◌∙◌, ap}
use Rattle.std.specs.Option.{option_map}
use Rattle.sw_container_steps.proofs.refusing.redirection.Goals as goal
use Rattle.sw_container_steps.specs.Steps.{redirection}
use Rattle.sw_container_steps.specs.declared.cont_answer.ContAnswer.TheVariants as answers
use Rattle.sw_hashpath.specs.declared.place.Place.{Place}
use Rattle.sw_keeper.proofs.Keeping.{told_anyway}
use Rattle.sw_keeper.specs.declared.tables.Tables.{Tables}

pub returns-in_err-copy-in-Some-first_served-clause-starved : goal.returns-in_err-copy-in-Some-first_served-clause-starved
returns-in_err-copy-in-Some-first_served-clause-starved c =
    let told : redirection c.args.tables.now c.args.rows.now ≡ Some (answers.Redirect c.in-Some-first_served.shard.now) =
    ap (λ (t : Option Tables). redirection t c.args.rows.now) c.in-Some.is
    ∙ ap (λ (o : Option Place). option_map (λ shard. answers.Redirect shard) o) (sym c.in-Some-first_served.ensures) in
    let some : (shard : Place) × (redirection c.args.tables.now c.args.rows.now ≡ Some (answers.Redirect shard)) = (c.in-Some-first_served.shard.now, told) in
    told_anyway _ some
