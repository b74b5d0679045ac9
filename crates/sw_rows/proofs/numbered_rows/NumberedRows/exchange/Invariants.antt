use Rattle.sw_rows.proofs.numbered_rows.NumberedRows.exchange.Given as goal

abbrev pub ghost-exchange : goal.ghost-exchange
ghost-exchange a = record { list = a.numbers.now; rows = a.rows.items }
