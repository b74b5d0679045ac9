use Rattle.std.proofs.Common.{◌≡◌, ◌∙◌, List, ℕ, ap, arith, inl, inr, subst, length, ◌<◌}
use Rattle.sw_shard_range.specs.ShardNames.{shard_account, shard_container}
use Rattle.sw_shard_range.proofs.Slashes.{long-told}
use Rattle.sw_shard_range.proofs.naming.shard_name.Goals as goal

pub returns-in_default-clause-bad : goal.returns-in_default-clause-bad
returns-in_default-clause-bad c =
    let long : 256 < length (shard_account c.args.place.now.account) =
    subst (λ (x : List ℕ). 256 < length (shard_account x)) c.as_slice.ensures c.in_default.ensures in
    long-told c.args.place.now.account c.args.place.now.container c.args.time c.args.index c.long_fault.result (omega arith) (inl long) c.long_fault.ensures

pub returns-in_default-container_text-clause-bad : goal.returns-in_default-container_text-clause-bad
returns-in_default-container_text-clause-bad c =
    let long : 256 < length (shard_container c.args.place.now.container c.args.time c.args.index) =
    subst (λ (x : List ℕ). 256 < length (shard_container x c.args.time c.args.index)) c.as_slice-2.ensures c.in_default-container_text.ensures in
    long-told c.args.place.now.account c.args.place.now.container c.args.time c.args.index c.long_fault-in_default-container_text.result (omega arith)
    (inr long) c.long_fault-in_default-container_text.ensures

pub returns-clause-bad : goal.returns-clause-bad
returns-clause-bad c =
    let account : c.as_slice-3.result.now ≡ shard_account c.args.place.now.account =
    c.as_slice-3.ensures.value ∙ c.in-Some.ensures ∙ ap shard_account c.as_slice.ensures in
    let container : c.as_slice-4.result.now ≡ shard_container c.args.place.now.container c.args.time c.args.index =
    c.as_slice-4.ensures.value ∙ c.in-Some-container_text.ensures
    ∙ ap (λ (x : List ℕ). shard_container x c.args.time c.args.index) c.as_slice-2.ensures in
    rw (account, container) at c.new.ensures.bad
