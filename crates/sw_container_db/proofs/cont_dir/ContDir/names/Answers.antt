use Rattle.std.proofs.Common.{◌≡◌, true, [], refl, sym, ◌∙◌, ap}
use Rattle.sw_container_db.specs.ContDirs.{ContKept, doubts_in}
use Rattle.sw_container_db.proofs.Kept.{fits-none, kept-same, lists, still-held}
use Rattle.sw_container_db.proofs.cont_dir.ContDir.names.Goals as goal
use Rattle.sw_container_db.proofs.cont_dir.ContDir.names.Goals.{in-Err-Failed-names, in-Err-NoMemory-names, in-Ok-names}

pub invariant_of-self : goal.invariant_of-self
invariant_of-self g c =
    let v = g.K.Keeper in let i = c.self.inside in
    kept-same v.tells v.holds v.faults _ i.doubt c.self.invariant c.names.new.self _ i.entries.items i.loaded c.names.ensures.told c.names.ensures.same
    refl (λ told. still-held i.loaded (v.holds i.keeper) (v.holds c.names.new.self) (c.names.ensures.same (c.self.invariant.same ∙ told))
    (c.self.invariant.held told))

pub returns-clause-places : goal.returns-clause-places
returns-clause-places g c =
    let v = g.K.Keeper in let i = c.self.inside in
    let none : doubts_in i.doubt ≡ [] = ap (λ (x : ContKept _). x.journal.doubts) c.self.view_is ∙ c.in-Ok.ensures.none in
    let tell : v.tells c.args.self.now.began ≡ true → v.tells i.opening.value ≡ true = λ told.
    ap (λ (x : ContKept _). v.tells x.began) c.self.view_is ∙ (ap v.tells c.settle.ensures.began ∙ told) in
    elim c.match-names.branch [
      | in-Ok-names w ↦ rw w.result-is (λ told. lists w.in-Ok-names.places.items (v.holds i.keeper) _
          (λ p. sym (fits-none v.tells v.holds v.faults _ i.doubt c.self.invariant none (tell told) p))
          (w.in-Ok-names.ensures.places (c.self.invariant.same ∙ tell told)))
      | in-Err-Failed-names w ↦ rw w.result-is tt
      | in-Err-NoMemory-names w ↦ rw w.result-is tt
    ]
