use Rattle.std.proofs.Common.{ℕ, List, OnErr, sym, ◌∙◌, subst}
use Rattle.sw_outside.specs.Taken.{AppendsPart}
use Rattle.sw_http.proofs.RequestLemmas.{continue_asked}
use Rattle.sw_http.proofs.continue_.send_continue.Goals as goal

pub returns-then-asks_continue-clause-part : goal.returns-then-asks_continue-clause-part
returns-then-asks_continue-clause-part g c =
    let text = continue_asked c.args.fields.now (sym c.asks_continue.ensures ∙ c.if-asks_continue.true) in
    subst (λ (l : List ℕ). OnErr c.put.result (AppendsPart (g.W.Sink.taken c.args.out.now) (g.W.Sink.taken c.put.new.self) l)) (sym text) c.put.ensures.part
