use Rattle.std.proofs.Common.{rules, ◌≡◌, ◌∙◌, ℕ, List, pos, length, sym, ap}
use Rattle.sqlite_value.specs.declared.value.Value.TheVariants.{Int, Text, Blob}
use Rattle.sw_container_store.proofs.Columns.{seven}
use Rattle.sw_container_store.proofs.reading_ranges.indexed_of.Goals as goal

pub returns : goal.returns
returns c =
    let row = c.args.row.now in
    let read = c.in-Some-Some-Some-Some-Some-Some-Some in
    let r = c.in-Some.range in
    let count : length row ≡ 7 = search (rules, c.column_count.ensures, c.if-column_count-ne7.false) in
    seven row (Int (pos read.index)) (Text r.shard.account) (Text r.shard.container) (Blob r.shard.hash) (Text r.lower) (Text r.upper) (Int (pos r.state)) count
    read.ensures
    (read.ensures' ∙ sym (ap (λ (t : List ℕ). Text t) (c.in-Some.ensures.account ∙ c.in_ok-account.ensures)))
    (read.ensures'' ∙ sym (ap (λ (t : List ℕ). Text t) (c.in-Some.ensures.container ∙ c.in_ok-container.ensures)))
    (read.ensures''' ∙ sym (ap (λ (t : List ℕ). Blob t) c.in-Some.ensures.hash))
    (read.ensures'''' ∙ sym (ap (λ (t : List ℕ). Text t) (c.in-Some.ensures.lower ∙ c.in_ok-lower.ensures)))
    (read.ensures''''' ∙ sym (ap (λ (t : List ℕ). Text t) (c.in-Some.ensures.upper ∙ c.in_ok-upper.ensures)))
    (read.ensures'''''' ∙ sym (ap (λ (n : ℕ). Int (pos n)) c.in-Some.ensures.state))
