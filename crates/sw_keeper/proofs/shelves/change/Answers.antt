use Rattle.std.proofs.Common.{◌≡◌, true, false, sym, ◌∙◌}
use Rattle.sw_keeper.specs.Places.{is_place_at}
use Rattle.sw_keeper.proofs.Keeping.{found_batch, found_fits, new_batch, new_fits}
use Rattle.sw_keeper.proofs.shelves.change.Goals as goal

pub change-requires : goal.change-requires
change-requires c =
    let index = rw c.deref.ensures.value at c.place_of-index.ensures.place in
    let there : is_place_at c.args.shelves.now.items c.place_of-index.result c.args.place.now ≡ true =
    rw c.deref-2.ensures.value at (sym c.is_place_at.ensures.there ∙ c.if-is_place_at.true) in
    found_fits c.args.shelves.now.items c.args.place.now c.args.batch.now c.index_mut.result.now c.place_of-index.result index there c.index_mut.ensures.value
    c.requires.fits

pub change-requires-2 : goal.change-requires-2
change-requires-2 c =
    let index = rw c.deref.ensures.value at c.place_of-index.ensures.place in
    let there : is_place_at c.args.shelves.now.items c.place_of-index.result c.args.place.now ≡ false =
    rw c.deref-2.ensures.value at (sym c.is_place_at.ensures.there ∙ c.if-is_place_at.false) in
    rw c.new-shelf.ensures (new_fits c.args.shelves.now.items c.args.place.now c.args.batch.now c.place_of-index.result c.requires.sorted index there
    c.requires.fits)

pub returns-then-is_place_at : goal.returns-then-is_place_at
returns-then-is_place_at c =
    let index = rw c.deref.ensures.value at c.place_of-index.ensures.place in
    let there : is_place_at c.args.shelves.now.items c.place_of-index.result c.args.place.now ≡ true =
    rw c.deref-2.ensures.value at (sym c.is_place_at.ensures.there ∙ c.if-is_place_at.true) in
    let both = found_batch c.change.result c.args.shelves.now.items c.args.place.now c.args.batch.now c.index_mut.result.now c.change.new.self
    c.place_of-index.result index there c.index_mut.ensures.value
    c.change.ensures.place c.change.ensures.tables c.change.ensures.err in
    record { ok = both.0; err = both.1 }

pub returns : goal.returns
returns c =
    let index = rw c.deref.ensures.value at c.place_of-index.ensures.place in
    let there : is_place_at c.args.shelves.now.items c.place_of-index.result c.args.place.now ≡ false =
    rw c.deref-2.ensures.value at (sym c.is_place_at.ensures.there ∙ c.if-is_place_at.false) in
    let start = rw c.in_ok-copy.ensures at c.new-shelf.ensures in
    record {
      ok = c.in_ok-insert.ensures.items ∙ new_batch c.args.shelves.now.items c.args.place.now c.args.batch.now c.new-shelf.result c.change-2.new.self
          c.place_of-index.result c.requires.sorted index there c.requires.fits
          start c.in_ok-change.ensures.place c.in_ok-change.ensures.tables;
      err = tt;
    }
