use Rattle.sw_metafile.proofs.FileText.{path_takes}
use Rattle.sw_pending.proofs.reading.read_lines.Goals as goal

pub name_of-name-requires : goal.name_of-name-requires
name_of-name-requires c = (path_takes c.args.bytes.now (c.in_ok-names.names, c.in_ok-names.rest.now) c.in_ok-names.ensures).1.good
