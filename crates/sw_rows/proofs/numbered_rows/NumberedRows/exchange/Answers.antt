use Rattle.std.proofs.Common.{◌≡◌, ℕ, ◌≤◌, All, refl, sym, ap, subst, arith}
use Rattle.sw_rows.specs.Rows.{IsRising, Listed}
use Rattle.sw_rows.proofs.Exchanging.{apart-all, rising-join}
use Rattle.sw_rows.proofs.numbered_rows.NumberedRows.exchange.Goals as goal

pub exchange-requires : goal.exchange-requires
exchange-requires c =
    let top : c.self.inside.top ≡ c.args.self.now.top = ap (λ (l : Listed). l.top) c.self.view_is in
    let rising : IsRising c.self.inside.top c.args.rows.items = rw top c.requires.rising in
    let G : ℕ → Type 0 = λ t. All (λ rowid. rowid ≤ t) c.args.numbers.now in
    let l = c.self.invariant in
    let joined = rising-join 0 c.self.inside.top c.self.inside.numbers c.args.rows.items (omega arith) l.rising l.within rising in
    let apart = apart-all c.self.inside.top c.args.numbers.now c.args.rows.items (subst G (sym top) c.requires.given) rising in
    (refl, (refl, (joined, apart)))
