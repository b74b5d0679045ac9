use Rattle.std.proofs.Common.{◌≡◌, ◌<◌, ◌≤◌, List, length, Option, sym, ◌∙◌, ap, subst, arith}
use Rattle.std.specs.Option.{IsSome}
use Rattle.sw_keeper.specs.Changes.{IsBatch, all_changed}
use Rattle.sw_keeper.specs.declared.batch.Change.{Change}
use Rattle.sw_keeper.specs.declared.tables.Tables.{Tables}
use Rattle.sw_container_steps.specs.Batches.{batch_for}
use Rattle.sw_container_steps.proofs.Batches.{batch-fits, batch-is, left-next, left-none, left-room}
use Rattle.sw_container_steps.proofs.batching.batch_of.Goals as goal

pub enter-requires : goal.enter-requires
enter-requires c =
    let within : c.loop-entry.entry-index < length c.args.entries.now = omega arith in
    left-room c.args.tables c.args.entries.now c.loop-entry.now c.loop-entry.entry-index c.loop-entry.changes.items c.entry-item.result c.loop-entry.invariant
    within c.entry-item.is

pub loop-entry-preserved : goal.loop-entry-preserved
loop-entry-preserved c =
    let within : c.loop-entry.entry-index < length c.args.entries.now = omega arith in
    left-next c.args.tables c.args.entries.now c.loop-entry.now c.loop-entry.entry-index c.loop-entry.changes.items c.entry-item.result c.in_ok-now.now
    c.enter.new.changes.items c.loop-entry.invariant
    within c.entry-item.is c.in_ok-now.ensures.tables c.in_ok-now.ensures.changes

pub returns : goal.returns
returns c =
    let past : length c.args.entries.now ≤ c.loop-entry.entry-index = omega arith in
    let none = left-none c.args.tables c.args.entries.now c.loop-entry.now c.loop-entry.entry-index c.loop-entry.changes.items c.loop-entry.invariant past in
    let batch : c.into.result ≡ batch_for c.args.tables c.args.entries.now = c.into.ensures ∙ none.1 in
    record {
      batch = batch;
      tables = none.0;
      makes = ap (λ (changes : List Change). all_changed c.args.tables changes) batch ∙ batch-is c.args.tables c.args.entries.now c.see_rows.ensures ∙ sym
          none.0;
      fits = λ some. subst (λ (changes : List Change). IsBatch c.args.tables changes) (sym batch)
          (batch-fits c.args.tables c.args.entries.now c.see_rows.ensures (subst (λ (x : Option Tables). IsSome x) none.0 some));
      starved = tt;
    }
