use Rattle.std.proofs.Common.{◌≡◌, ℕ, ◌<◌, ◌≤◌, None, Some, List, length, refl, sym, ◌∙◌, ap, arith}
use Rattle.sw_container_steps.proofs.Shards.{first-here, first-later, first-none, none-found}
use Rattle.sw_container_steps.proofs.serving.first_served.Goals as goal
use Rattle.sw_container_steps.specs.Serving.{served}

pub loop-row-init : goal.loop-row-init
loop-row-init c = refl

pub returns-in-Some : goal.returns-in-Some
returns-in-Some c =
    let within : c.loop-row.row-index < length c.args.rows.now = omega arith in
    let here : served c.args.tables.now c.row-item.result.name ≡ Some c.in-Some.shard.now =
    ap (λ (name : List ℕ). served c.args.tables.now name) (sym c.as_slice.ensures) ∙ sym c.in-Some.ensures in
    sym (first-here c.args.tables.now c.args.rows.now c.loop-row.row-index c.row-item.result c.in-Some.shard.now within c.row-item.is c.loop-row.invariant here)

pub loop-row-preserved : goal.loop-row-preserved
loop-row-preserved c =
    let within : c.loop-row.row-index < length c.args.rows.now = omega arith in
    let here : served c.args.tables.now c.row-item.result.name ≡ None =
    ap (λ (name : List ℕ). served c.args.tables.now name) (sym c.as_slice.ensures) ∙ none-found c.served.result _ c.in_default.not-Some c.served.ensures in
    first-later c.args.tables.now c.args.rows.now c.loop-row.row-index c.row-item.result within c.row-item.is c.loop-row.invariant here

pub returns : goal.returns
returns c =
    let past : length c.args.rows.now ≤ c.loop-row.row-index = omega arith in
    sym (first-none c.args.tables.now c.args.rows.now c.loop-row.row-index past c.loop-row.invariant)
