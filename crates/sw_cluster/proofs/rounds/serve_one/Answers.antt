use Rattle.std.proofs.Common.{List, [], ◌∷◌, ◌++◌, ◌+◌, ◌∙◌, length, length-append, ap, refl}
use Rattle.sw_outside.specs.Doors.{Finished}
use Rattle.sw_cluster.specs.Rounds.{Round}
use Rattle.sw_cluster.proofs.rounds.serve_one.Goals as goal

pub returns-clause-one : goal.returns-clause-one
returns-clause-one g c =
    let from = g.N.In.Source in let to = g.N.Out.Sink in let served = c.serve_connection-status in
    let round : Round = record {
      accepted = record {
        number = length (g.N.Doors.accepts c.args.doors.now) + 1;
        source = record { left = from.left c.in-Ok.ends.0; calls = from.calls c.in-Ok.ends.0; faults = from.faults c.in-Ok.ends.0 };
        sink = record { taken = to.taken c.in-Ok.ends.1; calls = to.calls c.in-Ok.ends.1; faults = to.faults c.in-Ok.ends.1 };
      };
      finished = record {
        read_at = from.number served.new.source;
        written_at = to.number served.new.out;
        among = length (g.N.Doors.accepts c.accept.new.self);
        source = record { left = from.left served.new.source; calls = from.calls served.new.source; faults = from.faults served.new.source };
        sink = record { taken = to.taken served.new.out; calls = to.calls served.new.out; faults = to.faults served.new.out };
        status = served.result;
      };
      moment = c.now-now.result;
    } in (
      round,
      record {
        answered = served.ensures.connection;
        in_place = record {
          read_at = served.ensures.source_number ∙ c.in-Ok.ensures.numbers.0;
          written_at = served.ensures.sink_number ∙ c.in-Ok.ensures.numbers.1;
          among = ap length c.in-Ok.ensures.accepted ∙ length-append _ _;
        };
      },
      record {
        accepted = c.finish.ensures.accepts ∙ c.in-Ok.ensures.accepted;
        finished = c.finish.ensures.finished ∙ ap (λ (l : List Finished). l ++ round.finished ∷ []) c.in-Ok.ensures.finished;
        ticks = (g.C.Clock.readings c.now-now.new.self, c.now-now.ensures, refl);
      },
    )
