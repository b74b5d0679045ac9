-- The digest is of what the hasher was given, which is the path's text.
use Rattle.std.proofs.Common.{ap, ◌∙◌}
use Rattle.md5.specs.Md5.{md5}
use Rattle.sw_hashpath.proofs.PathText.{path_text-segments}
use Rattle.sw_hashpath.proofs.path.digest_of.Goals as goal

pub returns : goal.returns
returns c =
    let held = c.update-2.ensures _ (c.add_name-3.ensures _ (c.add_name-2.ensures _ (c.add_name.ensures _ (c.update.ensures _ c.new-hasher.ensures)))) in
    c.finalize.ensures _ held ∙ rw (c.as_slice.ensures, c.as_slice-2.ensures) (ap md5 (path_text-segments _ _ _ _))
