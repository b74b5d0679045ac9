use Rattle.sw_volume.specs.Tree.{contents}
use Rattle.std.proofs.Common.{◌≡◌, ◌∷◌, [], ◌++◌, take, sym, ◌∙◌, ◌+◌, ap, subst, List, arith}
use Rattle.std.proofs.lemmas.List.{take_more}
use Rattle.sw_cleanup.specs.Cleaning.{Unlinks}
use Rattle.sw_cleanup.proofs.Unlinking.{unlinks_append}
use Rattle.sw_volume.proofs.Counting.{one_more_call}
use Rattle.sw_diskfile.specs.declared.file_name.FileName.{FileName}
use Rattle.sw_cleanup.proofs.unlinks.unlink_each.Goals as goal

-- one file more
pub loop-file-preserved : goal.loop-file-preserved
loop-file-preserved g c =
    let front = take c.loop-file.file-index c.args.files.now in
    let more : take (c.loop-file.file-index + 1) c.args.files.now ≡ front ++ c.file-item.result ∷ [] =
    take_more c.args.files.now c.loop-file.file-index c.file-item.result c.loop-file-test.true ∙ ap (λ x. front ++ x ∷ []) (sym c.file-item.is) in
    record {
      unlinks = λ told. subst (λ (fs : List FileName). Unlinks (contents (g.V.Volume.holds c.args.volume.now)) (contents (g.V.Volume.holds c.unlink.new.volume))
          c.args.dir.now fs (g.V.Volume.faults c.args.volume.now) (g.V.Volume.faults c.unlink.new.volume))
          (sym more)
          (unlinks_append _ (contents (g.V.Volume.holds c.loop-file.volume)) _ c.args.dir.now front (c.file-item.result ∷ []) _
          (g.V.Volume.faults c.loop-file.volume) _
          (c.loop-file.invariant.unlinks told) (c.unlink.ensures.unlinks (c.loop-file.invariant.told ∙ told)));
      told = c.unlink.ensures.told ∙ c.loop-file.invariant.told;
      later = (let before = c.loop-file.invariant.later in let after = c.unlink.ensures.cause.later in omega (arith, before, after));
      calls = c.unlink.ensures.calls ∙ one_more_call c.loop-file.file-index _ _ c.loop-file.invariant.calls;
      lists = c.unlink.ensures.lists ∙ c.loop-file.invariant.lists;
    }
