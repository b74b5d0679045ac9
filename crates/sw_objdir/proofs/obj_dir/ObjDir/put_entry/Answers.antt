use Rattle.sw_objdir.proofs.RecordEnding.{last-doubt}
use Rattle.sw_objdir.proofs.RecordPutting.{puts-doubts, puts-enters, puts-none, puts-wanting}
use Rattle.sw_objdir.specs.Directories.{Kept}
use Rattle.sw_objdir.proofs.obj_dir.ObjDir.put_entry.Goals as goal

pub returns-in_err-doubt : goal.returns-in_err-doubt
returns-in_err-doubt g c filed is =
    let v = g.V.Volume in let i = c.self.inside in
    let k : Kept _ = record { volume = i.volume; began = i.opening.value; secrets = i.secrets; power = i.power; journal = i.journal } in
    puts-none v.tells v.holds v.faults v.calls v.lists k c.args.self.now c.self.view_is c.self.invariant c.args.entry c.doubt.new.self
    c.in_err-doubt.ensures.err c.from_residual.result c.from_residual.ensures.1 filed

pub last_left-filed-requires : goal.last_left-filed-requires
last_left-filed-requires g c =
    let j = c.self.inside.journal in let e = c.args.entry in
    (j.doubts, e, c.requires.puts.0, last-doubt j c.doubt.new.self e c.in_ok-doubt.ensures.ok, c.requires.puts.1.leaves)

pub invariant_of-self-in-Ok : goal.invariant_of-self-in-Ok
invariant_of-self-in-Ok g c =
    let v = g.V.Volume in let i = c.self.inside in let e = c.args.entry in let d = c.doubt.new.self in
    let k : Kept _ = record { volume = i.volume; began = i.opening.value; secrets = i.secrets; power = i.power; journal = i.journal } in
    let doubted = c.in_ok-doubt.ensures.ok in let left = c.last_left-filed.result.now in
    let leaves = c.last_left-filed.ensures k.journal.doubts e (last-doubt k.journal d e doubted) in let put = c.in-Ok.ensures in
    (puts-enters v.tells v.holds v.faults v.calls v.lists k c.args.self.now c.self.view_is c.self.invariant e d doubted c.requires.puts left leaves
    c.put_record.new.volume put.told put.lists c.requires.settled put.calls put.ok put.files put.cause.kept c.confirm.new.self c.confirm.ensures left
    leaves).dir

pub invariant_of-self-in-Err-Failed : goal.invariant_of-self-in-Err-Failed
invariant_of-self-in-Err-Failed g c =
    let v = g.V.Volume in let i = c.self.inside in let e = c.args.entry in let d = c.doubt.new.self in
    let k : Kept _ = record { volume = i.volume; began = i.opening.value; secrets = i.secrets; power = i.power; journal = i.journal } in
    let doubted = c.in_ok-doubt.ensures.ok in let left = c.last_left-filed.result.now in
    let leaves = c.last_left-filed.ensures k.journal.doubts e (last-doubt k.journal d e doubted) in
    let put = rw c.in-Err-Failed.field-0-is at c.in-Err-Failed.ensures in
    (puts-doubts v.tells v.holds v.faults v.calls v.lists k c.args.self.now c.self.view_is c.self.invariant e d doubted c.requires.puts left leaves
    c.put_record.new.volume put.told put.lists c.requires.settled put.failed_first put.failed put.may_file put.cause.once put.cause.later left leaves).dir

pub invariant_of-self-in-Err-NoMemory : goal.invariant_of-self-in-Err-NoMemory
invariant_of-self-in-Err-NoMemory g c =
    let v = g.V.Volume in let i = c.self.inside in let e = c.args.entry in let d = c.doubt.new.self in
    let k : Kept _ = record { volume = i.volume; began = i.opening.value; secrets = i.secrets; power = i.power; journal = i.journal } in
    let doubted = c.in_ok-doubt.ensures.ok in let left = c.last_left-filed.result.now in
    let leaves = c.last_left-filed.ensures k.journal.doubts e (last-doubt k.journal d e doubted) in
    let put = rw c.in-Err-NoMemory.field-0-is at c.in-Err-NoMemory.ensures in
    (puts-wanting v.tells v.holds v.faults v.calls v.lists k c.args.self.now c.self.view_is c.self.invariant e d doubted c.requires.puts left leaves
    c.put_record.new.volume put.told put.lists put.no_memory put.cause.later put.wanted_first put.cause.memory c.withdraw.new.self c.withdraw.ensures left
    leaves).dir

pub returns-in-Ok : goal.returns-in-Ok
returns-in-Ok g c filed is =
    let v = g.V.Volume in let i = c.self.inside in let e = c.args.entry in let d = c.doubt.new.self in
    let k : Kept _ = record { volume = i.volume; began = i.opening.value; secrets = i.secrets; power = i.power; journal = i.journal } in
    let doubted = c.in_ok-doubt.ensures.ok in let left = c.last_left-filed.result.now in
    let leaves = c.last_left-filed.ensures k.journal.doubts e (last-doubt k.journal d e doubted) in let put = c.in-Ok.ensures in
    puts-enters v.tells v.holds v.faults v.calls v.lists k c.args.self.now c.self.view_is c.self.invariant e d doubted c.requires.puts left leaves
    c.put_record.new.volume put.told put.lists c.requires.settled put.calls put.ok put.files put.cause.kept c.confirm.new.self c.confirm.ensures filed is

pub returns-in-Err-Failed : goal.returns-in-Err-Failed
returns-in-Err-Failed g c filed is =
    let v = g.V.Volume in let i = c.self.inside in let e = c.args.entry in let d = c.doubt.new.self in
    let k : Kept _ = record { volume = i.volume; began = i.opening.value; secrets = i.secrets; power = i.power; journal = i.journal } in
    let doubted = c.in_ok-doubt.ensures.ok in let left = c.last_left-filed.result.now in
    let leaves = c.last_left-filed.ensures k.journal.doubts e (last-doubt k.journal d e doubted) in
    let put = rw c.in-Err-Failed.field-0-is at c.in-Err-Failed.ensures in
    puts-doubts v.tells v.holds v.faults v.calls v.lists k c.args.self.now c.self.view_is c.self.invariant e d doubted c.requires.puts left leaves
    c.put_record.new.volume put.told put.lists c.requires.settled put.failed_first put.failed put.may_file put.cause.once put.cause.later filed is

pub returns-in-Err-NoMemory : goal.returns-in-Err-NoMemory
returns-in-Err-NoMemory g c filed is =
    let v = g.V.Volume in let i = c.self.inside in let e = c.args.entry in let d = c.doubt.new.self in
    let k : Kept _ = record { volume = i.volume; began = i.opening.value; secrets = i.secrets; power = i.power; journal = i.journal } in
    let doubted = c.in_ok-doubt.ensures.ok in let left = c.last_left-filed.result.now in
    let leaves = c.last_left-filed.ensures k.journal.doubts e (last-doubt k.journal d e doubted) in
    let put = rw c.in-Err-NoMemory.field-0-is at c.in-Err-NoMemory.ensures in
    puts-wanting v.tells v.holds v.faults v.calls v.lists k c.args.self.now c.self.view_is c.self.invariant e d doubted c.requires.puts left leaves
    c.put_record.new.volume put.told put.lists put.no_memory put.cause.later put.wanted_first put.cause.memory c.withdraw.new.self c.withdraw.ensures filed is
