use Rattle.std.proofs.Common.{◌≡◌, ◌+◌, ◌<◌, [], Err, Some, ℕ, length, refl, sym, ◌∙◌, ap, subst, arith, rules}
use Rattle.std.proofs.lemmas.Option.{slice_get_read}
use Rattle.sw_core.proofs.Listed.{calm-where, listed-all, none-found, none-looked, none-open, none-there, one-calm, one-found, one-looked, one-risen}
use Rattle.sw_core.proofs.Listed.{risen-where, same-calm, stood-there, wider-looked}
use Rattle.sw_core.proofs.Slots.{same-some}
use Rattle.sw_core.specs.Listing.{AllTell, IsPathAmong}
use Rattle.sw_core.specs.declared.slot.Slot.TheVariants as slots
use Rattle.sw_hashdir.specs.Walks.{Adds}
use Rattle.sw_outside.specs.Faults.{HasRisen}
use Rattle.sw_core.proofs.world.listing.files_in.Goals as goal
use Rattle.sw_core.proofs.world.listing.files_in.Goals.{in-Open+in_ok-add_files, in_default}

pub loop-at-init : goal.loop-at-init
loop-at-init g c = record {
  looked = none-looked g.V.Volume.tells g.V.Volume.holds g.V.Volume.faults c.args.first c.args.places.now.items;
  paths = λ all. rw c.new-found.ensures (none-found g.V.Volume.tells g.V.Volume.holds g.V.Volume.faults c.args.first c.args.places.now.items);
  calm = λ l. refl;
}

pub returns-in_err-add_files-clause-looked : goal.returns-in_err-add_files-clause-looked
returns-in_err-add_files-clause-looked g c =
    let at = c.loop-at.at in
    let now = c.loop-at.places.items in
    let within = c.requires.within in
    let count = c.loop-at.invariant.looked.count in
    let before = c.loop-at-test.true in
    let below : at < length now = omega arith in
    let there = slice_get_read now (length now) at c.index_mut.result.now refl below c.index_mut.ensures.value in
    one-looked g.V.Volume.tells g.V.Volume.holds g.V.Volume.faults c.args.first at c.args.past c.args.places.now.items now c.in-Open.dir c.add_files.new.self
    c.loop-at.auto.at before below
    c.loop-at.invariant.looked (there ∙ ap Some c.in-Open.is)
    (record { looks = c.add_files.ensures.looks; journal = c.add_files.ensures.journal; held = c.add_files.ensures.values })

pub returns-in_err-add_files-clause-risen : goal.returns-in_err-add_files-clause-risen
returns-in_err-add_files-clause-risen g c =
    let at = c.loop-at.at in
    let now = c.loop-at.places.items in
    let within = c.requires.within in
    let count = c.loop-at.invariant.looked.count in
    let before = c.loop-at-test.true in
    let below : at < length now = omega arith in
    let there = slice_get_read now (length now) at c.index_mut.result.now refl below c.index_mut.ensures.value in
    let said : c.from_residual.result ≡ Err c.in_err-add_files.field-0.0 = search rules in
    λ failed. one-risen g.V.Volume.tells g.V.Volume.holds g.V.Volume.faults c.args.first at c.args.places.now.items now c.in-Open.dir c.add_files.new.self below
    c.loop-at.invariant.looked (there ∙ ap Some c.in-Open.is)
    (risen-where c.add_files.result c.from_residual.result c.in_err-add_files.field-0.0
    (HasRisen (g.V.Volume.faults c.in-Open.dir.volume) (g.V.Volume.faults c.add_files.new.self.volume)) c.in_err-add_files.was said failed
    c.add_files.ensures.cause.risen)

pub loop-at-preserved : goal.loop-at-preserved
loop-at-preserved g c =
    let at = c.loop-at.at in
    let old = c.args.places.now.items in
    let now = c.loop-at.places.items in
    let within = c.requires.within in
    let looked = c.loop-at.invariant.looked in
    let count = looked.count in
    let before = c.loop-at-test.true in
    let from = c.loop-at.auto.at in
    let below : at < length now = omega arith in
    let there = slice_get_read now (length now) at c.index_mut.result.now refl below c.index_mut.ensures.value in
    let was = stood-there g.V.Volume.tells g.V.Volume.holds g.V.Volume.faults c.args.first at old now c.index_mut.result.now looked there in
    let on : at < at + 1 = omega arith in
    elim c.match-index_mut.branch [
      | in-Open+in_ok-add_files w ↦ record {
        looked = rw w.places-is (
            one-looked g.V.Volume.tells g.V.Volume.holds g.V.Volume.faults c.args.first at (at + 1) old now w.in-Open.dir w.add_files.new.self from on below
            looked (there ∙ ap Some w.in-Open.is)
            (record { looks = w.add_files.ensures.looks; journal = w.add_files.ensures.journal; held = w.add_files.ensures.values })
            );
        paths = rw w.found-is (
            one-found g.V.Volume.tells g.V.Volume.holds g.V.Volume.faults c.args.first at old w.in-Open.dir c.loop-at.found w.add_files.new.found from
            (was ∙ ap Some w.in-Open.is) c.loop-at.invariant.paths w.in_ok-add_files.ensures.paths
            );
        calm = rw w.places-is (
            one-calm g.V.Volume.tells g.V.Volume.holds g.V.Volume.faults c.args.first at old now w.in-Open.dir w.add_files.new.self below
            (there ∙ ap Some w.in-Open.is) w.in_ok-add_files.ensures.cause.kept c.loop-at.invariant.calm
            );
      }
      | in_default w ↦ record {
        looked = rw w.places-is (
            none-open g.V.Volume.tells g.V.Volume.holds g.V.Volume.faults c.args.first at old now c.index_mut.result.now looked c.index_mut.ensures.value
            );
        paths = rw w.found-is (
            none-there g.V.Volume.tells g.V.Volume.holds g.V.Volume.faults c.args.first at old c.loop-at.found from
            (λ k is. w.in_default.not-Open k (same-some c.index_mut.result.now (slots.Open k) (sym was ∙ is))) c.loop-at.invariant.paths
            );
        calm = rw w.places-is (
            same-calm g.V.Volume.tells g.V.Volume.holds g.V.Volume.faults c.args.first at old now c.index_mut.result.now c.loop-at.invariant.calm
            c.index_mut.ensures.value
            );
      }
    ]

pub returns-in_err-into_list-clause-looked : goal.returns-in_err-into_list-clause-looked
returns-in_err-into_list-clause-looked g c =
    let order = c.requires.order in
    wider-looked g.V.Volume.tells g.V.Volume.holds g.V.Volume.faults c.args.first c.loop-at.at c.args.past c.args.places.now.items c.loop-at.places.items
    (c.loop-at.auto.at-end order) c.loop-at.invariant.looked

pub returns-clause-looked : goal.returns-clause-looked
returns-clause-looked g c =
    let order = c.requires.order in
    wider-looked g.V.Volume.tells g.V.Volume.holds g.V.Volume.faults c.args.first c.loop-at.at c.args.past c.args.places.now.items c.loop-at.places.items
    (c.loop-at.auto.at-end order) c.loop-at.invariant.looked

pub returns-clause-paths : goal.returns-clause-paths
returns-clause-paths g c =
    let order = c.requires.order in
    let up = c.loop-at.auto.at-end order in
    let end : c.loop-at.at ≡ c.args.past = omega arith in
    λ all. listed-all (IsPathAmong g.V.Volume.holds c.args.first c.args.past c.args.places.now.items) c.loop-at.found c.in_ok-into_list.field-0
    c.in_ok-into_list.ensures.all c.in_ok-into_list.ensures.ordered
    (subst (λ (p : ℕ). AllTell g.V.Volume.tells c.args.first p c.args.places.now.items
    → Adds [] c.loop-at.found (IsPathAmong g.V.Volume.holds c.args.first p c.args.places.now.items)) end c.loop-at.invariant.paths all)

pub returns-in_err-add_files-clause-calm : goal.returns-in_err-add_files-clause-calm
returns-in_err-add_files-clause-calm g c =
    let at = c.loop-at.at in
    let now = c.loop-at.places.items in
    let within = c.requires.within in
    let count = c.loop-at.invariant.looked.count in
    let before = c.loop-at-test.true in
    let below : at < length now = omega arith in
    let there = slice_get_read now (length now) at c.index_mut.result.now refl below c.index_mut.ensures.value in
    let said : c.from_residual.result ≡ Err c.in_err-add_files.field-0.0 = search rules in
    λ calm. one-calm g.V.Volume.tells g.V.Volume.holds g.V.Volume.faults c.args.first at c.args.places.now.items now c.in-Open.dir c.add_files.new.self below
    (there ∙ ap Some c.in-Open.is)
    (calm-where c.add_files.result c.from_residual.result c.in_err-add_files.field-0.0
    (g.V.Volume.faults c.add_files.new.self.volume ≡ g.V.Volume.faults c.in-Open.dir.volume) c.in_err-add_files.was said calm c.add_files.ensures.cause.memory)
    c.loop-at.invariant.calm

pub returns-in_err-into_list-clause-calm : goal.returns-in_err-into_list-clause-calm
returns-in_err-into_list-clause-calm g c = λ calm. c.loop-at.invariant.calm

pub returns-clause-calm : goal.returns-clause-calm
returns-clause-calm g c = λ calm. c.loop-at.invariant.calm
