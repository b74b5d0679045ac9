use Rattle.sw_objdir.proofs.RowNames.{name-text}
use Rattle.sw_objdir.proofs.obj_dir.ObjDir.row_at.Goals as goal

pub tombstone_row-requires : goal.tombstone_row-requires
tombstone_row-requires g c = name-text c.args.self.now.secrets c.args.filed.now.name c.requires.hashed
