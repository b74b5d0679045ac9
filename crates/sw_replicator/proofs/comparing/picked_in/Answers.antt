use Rattle.std.proofs.Common.{rules, sym}
use Rattle.std.proofs.lemmas.List.Sorted.{answers_always}
use Rattle.sw_replicator.proofs.Searching.{picked-found, picked-missed}
use Rattle.sw_replicator.proofs.comparing.picked_in.Goals as goal

pub returns-in-Ok : goal.returns-in-Ok
returns-in-Ok c =
    let facts = c.in-Ok.ensures in
    let by_key = facts.position (λ line. line.hash) (answers_always _ _ _ (λ f a r g called. search rules)) in
    sym (picked-found c.args.lines.now c.args.hash.now c.in-Ok.place c.index-lines-place.result c.requires.ascending facts.bound by_key)

pub returns-in-Err : goal.returns-in-Err
returns-in-Err c =
    let facts = c.in-Err.ensures in
    let by_key = facts.position (λ line. line.hash) (answers_always _ _ _ (λ f a r g called. search rules)) in
    sym (picked-missed c.args.lines.now c.args.hash.now c.in-Err.field-0 c.requires.ascending by_key)
