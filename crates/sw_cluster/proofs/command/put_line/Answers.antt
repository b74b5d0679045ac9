use Rattle.sw_cluster.proofs.ReportLemmas.{line_put}
use Rattle.sw_cluster.specs.Told.{output}
use Rattle.sw_cluster.proofs.command.put_line.Goals as goal

pub returns : goal.returns
returns g c =
    line_put c.put.result (output g.E.Sink.taken g.E.Sink.faults g.E.Sink.calls c.args.errors.now c.put.new.self) c.args.line.now c.put.ensures.all
    c.put.ensures.part c.put.ensures.cause c.put.ensures.calls
