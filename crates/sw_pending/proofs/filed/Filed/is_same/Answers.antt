use Rattle.std.proofs.Common.{◌≡◌, true, ap, rules}
use Rattle.sw_pending.proofs.SameRecords.{same_parts}
use Rattle.sw_pending.specs.declared.filed.Filed.{Filed}
use Rattle.sw_pending.proofs.filed.Filed.is_same.Goals as goal
use Rattle.sw_pending.proofs.filed.Filed.is_same.Goals.{then-is_same_name, else-is_same_name, then-eq, else-eq}

pub returns-then-self-other : goal.returns-then-self-other
returns-then-self-other c =
    let queues : c.args.self.now.queue ≡ c.args.other.now.queue = elim c.if-eq.branch [ then-eq w ↦ search rules | else-eq w ↦ absurd cc ] in
    let times : c.args.self.now.time ≡ c.args.other.now.time =
    elim c.if-eq.branch [
      | then-eq w ↦ elim c.if-is_same_name.branch [ then-is_same_name v ↦ search rules | else-is_same_name v ↦ absurd cc ]
      | else-eq w ↦ absurd cc
    ] in
    let names : c.args.self.now.name ≡ c.args.other.now.name =
    elim c.if-eq.branch [
      | then-eq w ↦ elim c.if-is_same_name.branch [ then-is_same_name v ↦ c.is_same_name.ensures.0 v.if-is_same_name.true | else-is_same_name v ↦ absurd cc ]
      | else-eq w ↦ absurd cc
    ] in
    let lists : c.eq-then-self-other.result ≡ true → c.args.self.now.done ≡ c.args.other.now.done = search rules in
    let again : c.args.self.now.done ≡ c.args.other.now.done → c.eq-then-self-other.result ≡ true = search rules in
    (λ is. same_parts c.args.self.now c.args.other.now names times queues (lists is), λ same. again (ap (λ (f : Filed). f.done) same))
