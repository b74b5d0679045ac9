use Rattle.std.proofs.Common.{refl}
use Rattle.sw_diskfile.proofs.Naming.{read_named, refused_unnamed}
use Rattle.sw_timestamp.specs.declared.tag.Tag.TheVariants.{Put, Del, Meta}
use Rattle.sw_diskfile.proofs.file_name.read_name.Goals as goal

pub returns-in-Some-clause-is : goal.returns-in-Some-clause-is
returns-in-Some-clause-is c = read_named c.args.text.now (record { time = c.in-Some.time; tag = Put }) c.in-Some.ensures.bound c.in-Some.ensures.some

pub returns-in-Some-time_before-clause-is : goal.returns-in-Some-time_before-clause-is
returns-in-Some-time_before-clause-is c =
    read_named c.args.text.now (record { time = c.in-Some-time_before.time; tag = Del }) c.in-Some-time_before.ensures.bound c.in-Some-time_before.ensures.some

pub returns-in-Some-time_before-2-clause-is : goal.returns-in-Some-time_before-2-clause-is
returns-in-Some-time_before-2-clause-is c =
    read_named c.args.text.now (record { time = c.in-Some-time_before-2.time; tag = Meta }) c.in-Some-time_before-2.ensures.bound
    c.in-Some-time_before-2.ensures.some

pub returns-clause-is : goal.returns-clause-is
returns-clause-is c = refused_unnamed c.args.text.now (c.in_default.ensures.none refl) (c.in_default-time_before.ensures.none refl)
    (c.in_default-time_before-2.ensures.none refl)
