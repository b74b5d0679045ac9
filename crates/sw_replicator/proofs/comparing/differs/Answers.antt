use Rattle.std.proofs.Common.{rules, sym, ◌∙◌, ap, not, Option, List, [], ℕ, bytes_eq, get_or}
use Rattle.std.proofs.lemmas.List.Sorted.{answers_always}
use Rattle.sw_replicator.proofs.Searching.{md5-found, md5-missed}
use Rattle.sw_replicator.specs.Pushing.{is_same_md5}
use Rattle.sw_replicator.proofs.comparing.differs.Goals as goal

pub returns-in-Ok : goal.returns-in-Ok
returns-in-Ok c =
    let facts = c.in-Ok.ensures in
    let by_key = facts.position (λ other. other.suffix) (answers_always _ _ _ (λ f a r g called. search rules)) in
    let found = md5-found c.args.theirs.now c.args.one.now.suffix c.in-Ok.place (record { suffix = 0; md5 = [] }) c.requires.ascending facts.bound by_key in
    let same = ap (λ (x : Option (List ℕ)). not (is_same_md5 x c.args.one.now.md5)) (sym found) in
    c.ne.ensures ∙ (ap (λ (x : List ℕ). not (bytes_eq x c.as_slice-in-Ok.result.now)) c.as_slice.ensures
    ∙ (ap (λ (x : List ℕ). not (bytes_eq (get_or c.args.theirs.now c.in-Ok.place (record { suffix = 0; md5 = [] })).md5 x)) c.as_slice-in-Ok.ensures ∙ same))

pub returns-in-Err : goal.returns-in-Err
returns-in-Err c =
    let facts = c.in-Err.ensures in
    let by_key = facts.position (λ other. other.suffix) (answers_always _ _ _ (λ f a r g called. search rules)) in
    let missed = md5-missed c.args.theirs.now c.args.one.now.suffix c.in-Err.field-0 c.requires.ascending by_key in
    ap (λ (x : Option (List ℕ)). not (is_same_md5 x c.args.one.now.md5)) (sym missed)
