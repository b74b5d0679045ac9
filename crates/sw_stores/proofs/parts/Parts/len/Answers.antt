use Rattle.std.proofs.Common.{◌≡◌, ◌∙◌, length, sym, arith}
use Rattle.sw_stores.proofs.Pairs.{zip-length}
use Rattle.sw_stores.proofs.parts.Parts.len.Goals as goal

pub returns : goal.returns
returns g c =
    let i = c.self.inside in
    let count : c.len.result ≡ length i.volumes.items = omega (arith, c.len.ensures) in
    rw (sym c.self.view_is) (count ∙ sym (zip-length i.volumes.items i.keepers.items c.self.invariant))
