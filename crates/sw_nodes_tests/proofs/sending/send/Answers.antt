use Rattle.std.proofs.Common.{sym, ◌∙◌}
use Rattle.sw_nodes_tests.proofs.Acknowledging.{sent-has, sent-holds, sent-moves}
use Rattle.sw_nodes_tests.proofs.sending.send.Goals as goal

pub returns-clause-moves : goal.returns-clause-moves
returns-clause-moves g c = let s = g.D.Door.sight in
    sent-moves c.args.to c.args.name.now c.args.write (s c.args.door.now) (s c.change-heard.new.self) c.change-heard.result c.change-heard.ensures.made

pub returns-clause-acknowledged : goal.returns-clause-acknowledged
returns-clause-acknowledged g c = λ is. let s = g.D.Door.sight in
    sent-has c.args.to c.args.name.now c.args.write (s c.args.door.now) (s c.change-heard.new.self) c.change-heard.result c.change-heard.ensures.made
    (sym c.acknowledges.ensures ∙ is)

pub returns-clause-held : goal.returns-clause-held
returns-clause-held g c = λ is. let s = g.D.Door.sight in
    sent-holds c.args.to c.args.name.now c.args.write (s c.args.door.now) (s c.change-heard.new.self) c.change-heard.result c.change-heard.ensures.made
    (sym c.acknowledges.ensures ∙ is)
