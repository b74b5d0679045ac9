use Rattle.std.proofs.Common.{rules, ◌∙◌, ◌∷◌, ◌++◌, [], List, ℕ, get_or, is_lt, take, refl, sym, ap, subst}
use Rattle.std.proofs.lemmas.List.{take_all, take_more}
use Rattle.std.proofs.lemmas.List.Sorted.{answers_always, ranks_by}
use Rattle.sw_hashpath.specs.declared.place.Place.{Place}
use Rattle.sw_keeper.specs.Places.{place_cmp}
use Rattle.sw_keeper.proofs.Placing.{place_total}
use Rattle.sw_container_store.specs.Naming.{NamesEach, listed}
use Rattle.sw_container_store.proofs.Naming.{names-more}
use Rattle.sw_container_store.proofs.container_store.ContainerStore.places.Goals as goal

pub loop-hash-init : goal.loop-hash-init
unfolding NamesEach
loop-hash-init g c = record { named = (refl, refl, c.new-places.ensures.items); calls = refl; faults = refl }

-- one hash more
pub loop-hash-preserved : goal.loop-hash-preserved
loop-hash-preserved g c =
    let i = c.loop-hash.hash-index in
    let hashes = c.deref-hash-items.result.now in
    let hash = get_or hashes i [] in
    let added = c.in_ok-add_place.ensures.added in
    let more : NamesEach g.H.Databases.finds g.H.Databases.opens g.H.Open.Database.shows (take i hashes ++ hash ∷ []) c.args.self.now.databases
    c.add_place.new.self.databases c.args.self.now.opened c.add_place.new.self.opened (c.loop-hash.places.items ++ listed added.0) =
    names-more g.H.Databases.finds g.H.Databases.opens g.H.Open.Database.shows (take i hashes) hash c.args.self.now.databases c.loop-hash.self.databases
    c.add_place.new.self.databases c.args.self.now.opened c.loop-hash.self.opened c.add_place.new.self.opened c.loop-hash.places.items added.0
    c.loop-hash.invariant.named added.1 in
    record {
      named = subst (λ (xs : List (List ℕ)). NamesEach g.H.Databases.finds g.H.Databases.opens g.H.Open.Database.shows xs c.args.self.now.databases
          c.add_place.new.self.databases c.args.self.now.opened c.add_place.new.self.opened c.add_place.new.places.items)
          (sym (take_more hashes i [] c.loop-hash-test.true))
          (subst (λ (places : List Place). NamesEach g.H.Databases.finds g.H.Databases.opens g.H.Open.Database.shows (take i hashes ++ hash ∷ [])
          c.args.self.now.databases c.add_place.new.self.databases c.args.self.now.opened c.add_place.new.self.opened places) (sym added.2) more);
      calls = c.add_place.ensures.counts.0 ∙ c.loop-hash.invariant.calls;
      faults = c.add_place.ensures.counts.1 ∙ c.loop-hash.invariant.faults;
    }

-- all of them, in their order
pub returns-clause-named : goal.returns-clause-named
returns-clause-named g c = record {
  hashes = c.in_ok-hashes.hashes.items;
  lists = c.in_ok-hashes.ensures;
  found = c.loop-hash.places.items;
  each = subst (λ (xs : List (List ℕ)). NamesEach g.H.Databases.finds g.H.Databases.opens g.H.Open.Database.shows xs c.args.self.now.databases
      c.loop-hash.self.databases c.args.self.now.opened c.loop-hash.self.opened c.loop-hash.places.items)
      (take_all c.loop-hash.hash-index c.deref-hash-items.result.now c.loop-hash-test.false ∙ c.deref-hash-items.ensures.value) c.loop-hash.invariant.named;
  same = c.sort_unstable_by.ensures.permutation;
  sorted = c.sort_unstable_by.ensures.sorted (λ x y. is_lt (place_cmp x y)) (ranks_by place_total (λ (p : Place). p))
      (answers_always _ _ _ (λ f a r f' called. ap is_lt (search rules)));
}
