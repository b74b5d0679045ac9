use Rattle.std.proofs.Common.{ℕ, Err, inr, refl, subst}
use Rattle.std.specs.Io.KnownBytes.{Appends}
use Rattle.std.proofs.lemmas.Result.{err_from_is_err_and}
use Rattle.sw_cluster.specs.Rounds.{listening_line}
use Rattle.sw_cluster.proofs.rounds.attend.Goals as goal

pub returns-in_err-serve_all : goal.returns-in_err-serve_all
returns-in_err-serve_all g c =
    let exit = err_from_is_err_and c.from_residual-in_err-serve_all.result c.from_residual-in_err-serve_all.ensures.1 in
    let stops = c.in_err-serve_all.ensures.stops in
    rw (exit.1, exit.2) (
      stops.0,
      inr (record {
        said = g.W.Sink.taken c.say.new.out;
        says = subst (λ (port : ℕ). Appends (g.W.Sink.taken c.args.out.now) (g.W.Sink.taken c.say.new.out) (listening_line port)) c.from.ensures
            c.in_ok-say.ensures.0;
        came = Err c.in_err-serve_all.field-0.0;
        served = stops.1;
        concludes = (refl, (refl, c.in_ok-say.ensures.1, c.in_ok-say.ensures.2));
      }),
      stops.2,
    )
