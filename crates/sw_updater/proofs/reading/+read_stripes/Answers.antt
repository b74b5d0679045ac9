use Rattle.std.proofs.Common.{refl, Err}
use Rattle.sw_updater.proofs.Stripes.{failed-read, fault-joined, more-read, records-joined, records-told, wanted-later}
use Rattle.sw_updater.specs.Reading.{joined_with}
use Rattle.sw_updater.proofs.reading.+read_stripes.Goals as goal

pub returns-in-Err-clause-reads : goal.returns-in-Err-clause-reads
returns-in-Err-clause-reads g t c =
    let s = g.D.Door.sight in (
      Err c.in-Err.fault,
      failed-read c.args.device c.args.stripe c.args.count (s c.args.door.now) c.records-read.result c.in-Err.fault (s c.records-read.new.self)
          c.if-count-eq0.false (cc) c.records-read.ensures.read,
      refl,
    )

pub returns-in_err-more-clause-reads : goal.returns-in_err-more-clause-reads
returns-in_err-more-clause-reads g t c =
    let s = g.D.Door.sight in
    let records = c.in-Ok.records in
    let reads = c.in_err-more.ensures.reads in (
      joined_with records.items reads.0,
      more-read c.args.device c.args.stripe c.args.count (s c.args.door.now) c.records-read.result records (s c.records-read.new.self) reads.0
          (s c.read_stripes.new.door) c.if-count-eq0.false (cc) c.records-read.ensures.read reads.1,
      wanted-later c.from_residual.result records.items reads.0 reads.2.0 c.from_residual.ensures.0 reads.2.1,
    )

pub returns-in-Err-2-clause-reads : goal.returns-in-Err-2-clause-reads
returns-in-Err-2-clause-reads g t c =
    let s = g.D.Door.sight in
    let records = c.in-Ok.records in
    let reads = c.in_ok-more.ensures.reads in (
      joined_with records.items reads.0,
      more-read c.args.device c.args.stripe c.args.count (s c.args.door.now) c.records-read.result records (s c.records-read.new.self) reads.0
          (s c.read_stripes.new.door) c.if-count-eq0.false (cc) c.records-read.ensures.read reads.1,
      fault-joined records.items c.in_ok-more.field-0 reads.0 c.in-Err-2.fault c.in-Err-2.is reads.2,
    )

pub returns-in_err-append-clause-reads : goal.returns-in_err-append-clause-reads
returns-in_err-append-clause-reads g t c =
    let s = g.D.Door.sight in
    let records = c.in-Ok.records in
    let reads = c.in_ok-more.ensures.reads in (
      joined_with records.items reads.0,
      more-read c.args.device c.args.stripe c.args.count (s c.args.door.now) c.records-read.result records (s c.records-read.new.self) reads.0
          (s c.read_stripes.new.door) c.if-count-eq0.false (cc) c.records-read.ensures.read reads.1,
      wanted-later c.from_residual-in_err-append.result records.items reads.0 c.in-Ok-2.more.items c.from_residual-in_err-append.ensures.0
          (records-told c.in_ok-more.field-0 reads.0 c.in-Ok-2.more c.in-Ok-2.is reads.2),
    )

pub returns-clause-reads : goal.returns-clause-reads
returns-clause-reads g t c =
    let s = g.D.Door.sight in
    let records = c.in-Ok.records in
    let reads = c.in_ok-more.ensures.reads in (
      joined_with records.items reads.0,
      more-read c.args.device c.args.stripe c.args.count (s c.args.door.now) c.records-read.result records (s c.records-read.new.self) reads.0
          (s c.read_stripes.new.door) c.if-count-eq0.false (cc) c.records-read.ensures.read reads.1,
      records-joined records.items c.in_ok-more.field-0 reads.0 c.in-Ok-2.more c.append.new.self.items c.in-Ok-2.is reads.2 c.in_ok-append.ensures.items,
    )
