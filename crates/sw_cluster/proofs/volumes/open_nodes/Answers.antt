use Rattle.std.proofs.Common.{rules, ◌≡◌, ℕ, ◌*◌, ◌^◌, length, ap, sym, ◌∙◌, List, subst}
use Rattle.sw_stores.specs.Places.{is_among}
use Rattle.sw_stores.specs.Starting.{AreStarted}
use Rattle.sw_cluster.proofs.Undoing.{given-back, went-out}
use Rattle.sw_cluster.proofs.volumes.open_nodes.Goals as goal

pub returns-in-Ok-open-clause-begun : goal.returns-in-Ok-open-clause-begun
returns-in-Ok-open-clause-begun g c = (
  c.in-Ok.parts,
  subst (λ (n : ℕ). AreStarted g.S.Stores.first (g.S.Stores.rests c.args.stores.now) n 0 c.in-Ok.parts) c.stripes-stripes.ensures.value
      c.in-Ok.ensures.started,
  c.in-Ok.ensures.count ∙ cc (c.as_slice.ensures, c.from.ensures, c.stripes-stripes.ensures.value),
  c.in-Ok-open.ensures.opens,
)

pub returns-in-Ok-open-clause-out : goal.returns-in-Ok-open-clause-out
returns-in-Ok-open-clause-out g c d s =
    let all : length c.as_slice.result.now * c.from.result ≡ length c.args.ring.now.devices * 2 ^ c.args.ring.now.lock_bits =
    cc (c.as_slice.ensures, c.from.ensures, c.stripes-stripes.ensures.value) in
    subst (λ (n : ℕ). g.S.Stores.out c.start_range.new.stores d s ≡ is_among n 0 (length c.args.ring.now.devices * 2 ^ c.args.ring.now.lock_bits) d s)
    c.stripes-stripes.ensures.value
    (subst (λ (n : ℕ). g.S.Stores.out c.start_range.new.stores d s ≡ is_among c.stripes-stripes.result 0 n d s) all
    (went-out (is_among c.stripes-stripes.result 0 (length c.as_slice.result.now * c.from.result)) (g.S.Stores.out c.args.stores.now)
    (g.S.Stores.out c.start_range.new.stores) c.in-Ok.ensures.out c.requires.home d s))

pub returns-in-Err-open-clause-unstarted : goal.returns-in-Err-open-clause-unstarted
returns-in-Err-open-clause-unstarted g c =
    let back : c.in-Ok.parts ≡ c.in-Err-open.parts = search rules in
    record {
      why = search rules;
      tried = length c.args.ring.now.devices * 2 ^ c.args.ring.now.lock_bits;
      most = search rules;
      store_calls_are = search rules;
      resting = given-back g.S.Stores.first _ _ (g.S.Stores.rests c.args.stores.now) (g.S.Stores.rests c.start_range.new.stores)
          (g.S.Stores.rests c.give_range.new.stores) c.in-Err-open.parts
          (sym (ap length back) ∙ c.in-Ok.ensures.count)
          (subst (λ (vs : List _). AreStarted g.S.Stores.first (g.S.Stores.rests c.args.stores.now) c.stripes-stripes.result 0 vs) back c.in-Ok.ensures.started)
          c.start_range.ensures.others
          c.give_range.ensures.rests
          c.give_range.ensures.others;
    }
