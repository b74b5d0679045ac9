use Rattle.std.proofs.Common.{◌≡◌, ◌∙◌, ◌∷◌, ◌+◌, ◌++◌, ◌≤◌, [], List, length, take, refl, sym, ap, subst}
use Rattle.std.proofs.lemmas.List.{take_all, take_more}
use Rattle.std.specs.List.{flat_map}
use Rattle.sw_keeper.specs.declared.batch.Change.{Change}
use Rattle.sw_container_store.specs.Runs.{RunsAll}
use Rattle.sw_container_store.specs.Values.{asked_of, begin, commit}
use Rattle.sw_container_store.proofs.Running.{runs-all, runs-next}
use Rattle.sw_container_store.proofs.writing.make.Goals as goal

pub loop-change-init : goal.loop-change-init
unfolding RunsAll
loop-change-init g c = record { asked = refl; key = refl }

-- one change more
pub loop-change-preserved : goal.loop-change-preserved
loop-change-preserved g c =
    let i = c.loop-change.change-index in
    let items = c.as_slice-change-items.result.now in
    let more : take (i + 1) items ≡ take i items ++ c.change-item.result ∷ [] =
    take_more items i c.change-item.result c.loop-change-test.true ∙ ap (λ (x : Change). take i items ++ x ∷ []) (sym c.change-item.is) in
    record {
      asked = runs-next g.D.Database.runs (asked_of c.args.place.now) c.args.batch.now i c.change-item.result c.run.new.self c.loop-change.database
          c.make_change.new.database
          (subst (λ (xs : List Change). take (i + 1) xs ≡ take i xs ++ c.change-item.result ∷ []) c.as_slice-change-items.ensures more)
          c.loop-change.invariant.asked c.in_ok-make_change.ensures.runs;
      key = c.make_change.ensures.key ∙ c.loop-change.invariant.key;
    }

pub returns-clause-runs : goal.returns-clause-runs
returns-clause-runs g c =
    runs-all g.D.Database.runs begin (flat_map (asked_of c.args.place.now) c.args.batch.now) commit c.args.database.now c.run.new.self
    c.loop-change.database c.run-2.new.self
    c.in_ok-run.ensures.runs
    (subst (λ (xs : List Change). RunsAll g.D.Database.runs (flat_map (asked_of c.args.place.now) xs) c.run.new.self c.loop-change.database)
    (take_all c.loop-change.change-index c.args.batch.now
    (subst (λ (xs : List Change). length xs ≤ c.loop-change.change-index) c.as_slice-change-items.ensures c.loop-change-test.false))
    c.loop-change.invariant.asked)
    c.in_ok-run-2.ensures.runs
