use Rattle.std.proofs.Common.{◌+◌, ◌≤◌}
use Rattle.sw_http.specs.ChunkSteps.{IsDataCut, IsSizedCut}
use Rattle.sw_http.proofs.InputLemmas.{seen_map}
use Rattle.sw_http.proofs.ReadsLemmas.{reads_map, reads_none}
use Rattle.sw_http.proofs.chunk.take_sized.Goals as goal

pub returns-else-fits-clause-reads : goal.returns-else-fits-clause-reads
returns-else-fits-clause-reads g c = reads_none _ _ _

pub returns-then-fits-clause-reads : goal.returns-then-fits-clause-reads
returns-then-fits-clause-reads g c =
    let line = c.args.line in
    let fits : line.len + line.size + 2 ≤ c.args.room = c.fits.ensures.0 c.if-fits.true in
    reads_map _ _ _ _ c.take_data.ensures.reads
    (λ now. seen_map _ now (IsDataCut line.size) (IsSizedCut c.args.room line) (λ bytes cut. record { fits = fits; cut = cut }))

pub returns-then-fits-clause-cut : goal.returns-then-fits-clause-cut
returns-then-fits-clause-cut g c e =
    let line = c.args.line in
    let fits : line.len + line.size + 2 ≤ c.args.room = c.fits.ensures.0 c.if-fits.true in
    seen_map _ _ (IsDataCut line.size) (IsSizedCut c.args.room line) (λ bytes cut. record { fits = fits; cut = cut }) (c.take_data.ensures.cut e)
