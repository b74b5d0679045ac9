use Rattle.std.proofs.Common.{◌≡◌, ℕ, List, length, arith, ap, sym, ◌∙◌}
use Rattle.std.proofs.lemmas.Bool.Decides.{nat_tests}
use Rattle.sw_http.proofs.InputLemmas.{seen_map}
use Rattle.sw_http.proofs.ReadsLemmas.{reads_map, reads_none}
use Rattle.sw_http.proofs.content.hold_some.Goals as goal

pub returns-then-not-is_empty-clause-reads : goal.returns-then-not-is_empty-clause-reads
returns-then-not-is_empty-clause-reads g c = reads_none _ _ _

pub returns-in_err-read_more-clause-reads : goal.returns-in_err-read_more-clause-reads
returns-in_err-read_more-clause-reads g c =
    let nothing : length c.rest.result.now ≡ 0 = grind (arith, nat_tests) in
    let none : length c.args.held.now ≡ 0 = ap length (sym c.rest.ensures) ∙ nothing in
    reads_map _ _ _ _ c.read_more.ensures.reads
    (λ now. seen_map _ now (λ (s : List ℕ). s ≡ c.args.held.now) (λ (s : List ℕ). length s ≡ 0) (λ bytes same. ap length same ∙ none))

pub returns-clause-reads : goal.returns-clause-reads
returns-clause-reads g c =
    let nothing : length c.rest.result.now ≡ 0 = grind (arith, nat_tests) in
    let none : length c.args.held.now ≡ 0 = ap length (sym c.rest.ensures) ∙ nothing in
    reads_map _ _ _ _ c.read_more.ensures.reads
    (λ now. seen_map _ now (λ (s : List ℕ). s ≡ c.args.held.now) (λ (s : List ℕ). length s ≡ 0) (λ bytes same. ap length same ∙ none))
