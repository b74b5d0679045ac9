use Rattle.std.proofs.Common.{◌≡◌, ◌≢◌, List, [], ◌∷◌, ◌++◌, refl, sym, ◌∙◌, ap}
use Rattle.std.proofs.lemmas.List.Elements.{All-push}
use Rattle.sw_container_db.specs.LoadedList.{Lacks, rows_held, tables_at, touched, trimmed}
use Rattle.sw_container_db.specs.declared.loaded_list.Loaded.{Loaded}
use Rattle.sw_container_db.proofs.Kept.{kept-same, still-held}
use Rattle.sw_container_db.proofs.LoadedLists.{lacks-unless, touched-all, trimmed-all}
use Rattle.sw_container_db.proofs.Loadings.{hit-loads, miss-loads}
use Rattle.sw_container_db.proofs.cont_dir.ContDir.load.Goals as goal

pub invariant_of-self : goal.invariant_of-self
invariant_of-self g c =
    let v = g.K.Keeper in let i = c.self.inside in
    kept-same v.tells v.holds v.faults _ i.doubt c.self.invariant i.keeper _ i.entries.items c.touch.new.self refl (λ told p. refl) refl
    (λ told. rw c.touch.ensures.moved
    (touched-all (λ (l : Loaded). l.tables ≡ v.holds i.keeper l.place) c.args.place.now i.loaded (c.self.invariant.held told)))

pub invariant_of-self-in_err-tables : goal.invariant_of-self-in_err-tables
invariant_of-self-in_err-tables g c =
    let v = g.K.Keeper in let i = c.self.inside in
    let place = c.args.place.now in
    kept-same v.tells v.holds v.faults _ i.doubt c.self.invariant c.load.new.self _ i.entries.items c.leave_room.new.self c.load.ensures.told
    c.load.ensures.same refl
    (λ told. still-held c.leave_room.new.self (v.holds i.keeper) (v.holds c.load.new.self) (c.load.ensures.same (c.self.invariant.same ∙ told))
    (rw (c.leave_room.ensures, c.touch.ensures.moved) (trimmed-all (λ (l : Loaded). l.tables ≡ v.holds i.keeper l.place) 0 (touched place i.loaded)
    (touched-all (λ (l : Loaded). l.tables ≡ v.holds i.keeper l.place) place i.loaded (c.self.invariant.held told)))))

pub invariant_of-self-in_err-push : goal.invariant_of-self-in_err-push
invariant_of-self-in_err-push g c =
    let v = g.K.Keeper in let i = c.self.inside in
    let place = c.args.place.now in
    kept-same v.tells v.holds v.faults _ i.doubt c.self.invariant c.load.new.self _ i.entries.items c.push.new.self c.load.ensures.told
    c.load.ensures.same refl
    (λ told. still-held c.push.new.self (v.holds i.keeper) (v.holds c.load.new.self) (c.load.ensures.same (c.self.invariant.same ∙ told))
    (rw (c.in_err-push.ensures.err, c.leave_room.ensures, c.touch.ensures.moved) (trimmed-all (λ (l : Loaded). l.tables ≡ v.holds i.keeper l.place) 0
    (touched place i.loaded)
    (touched-all (λ (l : Loaded). l.tables ≡ v.holds i.keeper l.place) place i.loaded (c.self.invariant.held told)))))

pub invariant_of-self-2 : goal.invariant_of-self-2
invariant_of-self-2 g c =
    let v = g.K.Keeper in let i = c.self.inside in
    let place = c.args.place.now in
    let t = c.in_ok-tables.tables in
    kept-same v.tells v.holds v.faults _ i.doubt c.self.invariant c.load.new.self _ i.entries.items c.push.new.self c.load.ensures.told
    c.load.ensures.same refl
    (λ told. still-held c.push.new.self (v.holds i.keeper) (v.holds c.load.new.self) (c.load.ensures.same (c.self.invariant.same ∙ told))
    (rw (c.in_ok-push.ensures.pushed, c.leave_room.ensures, c.touch.ensures.moved)
    (All-push (λ (l : Loaded). l.tables ≡ v.holds i.keeper l.place) (trimmed (rows_held t) (trimmed 0 (touched place i.loaded))) (tables_at place t)
    (trimmed-all (λ (l : Loaded). l.tables ≡ v.holds i.keeper l.place) (rows_held t) (trimmed 0 (touched place i.loaded))
    (trimmed-all (λ (l : Loaded). l.tables ≡ v.holds i.keeper l.place) 0 (touched place i.loaded)
    (touched-all (λ (l : Loaded). l.tables ≡ v.holds i.keeper l.place) place i.loaded (c.self.invariant.held told))))
    (c.in_ok-tables.ensures.tables (c.self.invariant.same ∙ told)))))

pub push-requires : goal.push-requires
push-requires g c =
    let i = c.self.inside in let place = c.args.place.now in
    let lacks : Lacks place i.loaded = lacks-unless place i.loaded (sym c.touch.ensures.found ∙ c.if-touch.false) in
    rw (c.leave_room.ensures, c.touch.ensures.moved) (trimmed-all (λ (l : Loaded). l.place ≢ place) 0 (touched place i.loaded)
    (touched-all (λ (l : Loaded). l.place ≢ place) place i.loaded lacks))

pub returns-then-touch-clause-loaded : goal.returns-then-touch-clause-loaded
returns-then-touch-clause-loaded g c =
    let v = g.K.Keeper in let i = c.self.inside in
    rw (sym c.self.view_is) (hit-loads v.tells v.holds v.faults _ i.doubt c.self.invariant c.args.place.now _ (sym c.touch.ensures.found ∙ c.if-touch.true)
    c.touch.ensures.moved)

pub returns-clause-loaded : goal.returns-clause-loaded
returns-clause-loaded g c =
    let v = g.K.Keeper in let i = c.self.inside in let place = c.args.place.now in let t = c.in_ok-tables.tables in
    let after : c.push.new.self ≡ trimmed (rows_held t) (trimmed 0 (touched place i.loaded)) ++ tables_at place t ∷ [] =
    c.in_ok-push.ensures.pushed ∙ ap (λ (xs : List Loaded). trimmed (rows_held t) xs ++ tables_at place t ∷ [])
    (c.leave_room.ensures ∙ ap (trimmed 0) c.touch.ensures.moved) in
    rw (sym c.self.view_is) (miss-loads v.tells v.holds v.faults _ i.doubt c.self.invariant place _ t (sym c.touch.ensures.found ∙ c.if-touch.false)
    c.in_ok-tables.ensures.tables after)
