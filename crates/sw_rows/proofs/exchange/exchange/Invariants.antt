use Rattle.sw_rows.proofs.exchange.exchange.Given as goal

abbrev pub ghost-push_all : goal.ghost-push_all
ghost-push_all g a = g.behind

abbrev pub ghost-cut_all : goal.ghost-cut_all
ghost-cut_all g a = g.behind
