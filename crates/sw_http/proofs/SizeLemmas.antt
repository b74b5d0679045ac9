-- The digits of a chunk line, and CR LF behind them, as they are laid out for the parser.
use Rattle.std.proofs.Common.{◌≡◌, ℕ, ◌+◌, ◌<◌, ◌≤◌, true, List, [], ◌∷◌, ◌++◌, length, take, drop, get_or, suc, eqb-true, refl, ap, ◌∙◌, arith}
use Rattle.std.specs.Prelude.{◌==◌}
use Rattle.std.proofs.Math.ListN.{set}
use Rattle.std.proofs.Math.Seq.{drop-cons, set-append_seam}
use Rattle.std.proofs.lemmas.Bool.{agree_below, agree_below_at}
use Rattle.httparse.specs.Ascii.{crlf_bytes}
use Rattle.sw_message.proofs.ListLemmas.{take_past}

-- the room, full of line feeds
abbrev pub feeds : List ℕ
feeds = 10 ∷ 10 ∷ 10 ∷ 10 ∷ 10 ∷ 10 ∷ 10 ∷ 10 ∷ 10 ∷ 10 ∷ 10 ∷ 10 ∷ 10 ∷ 10 ∷ 10 ∷ 10 ∷ 10 ∷ 10 ∷ []

all_feeds : agree_below (λ n. get_or feeds n 0 == 10) (λ n. true) 18 ≡ true
all_feeds = refl

feed_at : (n : ℕ) → n < 18 → get_or feeds n 0 ≡ 10
feed_at n inside = eqb-true (get_or feeds n 0) 10 (agree_below_at (λ k. get_or feeds k 0 == 10) (λ k. true) 18 n all_feeds inside)

two_feeds : (n : ℕ) → n ≤ 16 → drop n feeds ≡ 10 ∷ 10 ∷ drop (suc (suc n)) feeds
two_feeds n few =
    let first : n < length feeds = omega arith in
    let second : suc n < length feeds = omega arith in
    drop-cons feeds n 0 first ∙ ap (λ (x : ℕ). x ∷ drop (suc n) feeds) (feed_at n (omega arith))
    ∙ ap (λ (l : List ℕ). 10 ∷ l) (drop-cons feeds (suc n) 0 second ∙ ap (λ (x : ℕ). x ∷ drop (suc (suc n)) feeds) (feed_at (suc n) (omega arith)))

-- digits over the first of them, and a CR behind
pub laid_out : (digits over : List ℕ) → over ≡ digits → length digits ≤ 16
    → take (length digits + 2) (set (over ++ drop (length digits) feeds) (length digits) 13) ≡ digits ++ crlf_bytes
laid_out digits over same few =
    let n = length digits in
    ap (λ (l : List ℕ). take (n + 2) (set l n 13)) ((λ i. same i ++ two_feeds n few i))
    ∙ ap (take (n + 2)) (set-append_seam digits 10 (10 ∷ drop (suc (suc n)) feeds) 13)
    ∙ take_past digits (13 ∷ 10 ∷ drop (suc (suc n)) feeds) n 2 refl
