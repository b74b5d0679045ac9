use Rattle.std.proofs.Common.{◌≡◌, ◌∙◌, ◌∷◌, ◌++◌, [], length, length-append, sym, ap, arith}
use Rattle.sw_stores.proofs.Pairs.{zip-more}
use Rattle.sw_stores.proofs.parts.Parts.pop.Goals as goal

pub returns-clause-some : goal.returns-clause-some
returns-clause-some g c =
    let i = c.self.inside in
    let vs : i.volumes.items ≡ c.pop.new.self.items ++ c.in_ok-volume.volume ∷ [] = c.in_ok-volume.ensures.items in
    let ks : i.keepers.items ≡ c.pop-2.new.self.items ++ c.in-Some.keeper ∷ [] = c.in-Some.ensures.items in
    let v-long = length-append c.pop.new.self.items (c.in_ok-volume.volume ∷ []) in
    let k-long = length-append c.pop-2.new.self.items (c.in-Some.keeper ∷ []) in
    let all : length (c.pop.new.self.items ++ c.in_ok-volume.volume ∷ []) ≡ length (c.pop-2.new.self.items ++ c.in-Some.keeper ∷ []) =
    sym (ap length vs) ∙ (c.self.invariant ∙ ap length ks) in
    let same : length c.pop.new.self.items ≡ length c.pop-2.new.self.items = omega (arith, v-long, k-long, all) in
    rw (sym c.self.view_is, vs, ks) (zip-more c.pop.new.self.items c.pop-2.new.self.items c.in_ok-volume.volume c.in-Some.keeper same)
