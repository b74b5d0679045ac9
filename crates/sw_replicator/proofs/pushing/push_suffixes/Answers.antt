use Rattle.std.proofs.Common.{◌≡◌, ℕ, ◌+◌, ◌-◌, ◌^◌, ◌<◌, min, Bool, true, cond, not, refl, sym, ◌∙◌, ap, subst, List, [], length, get_or, take, filter, arith}
use Rattle.std.proofs.lemmas.List.Filters.{length-filter_more}
use Rattle.std.proofs.lemmas.List.{get_or_default}
use Rattle.sw_outside.specs.Counts.{raised}
use Rattle.sw_object_steps.specs.Parts.{md5_in}
use Rattle.sw_peer.specs.Sights.{Nodes}
use Rattle.sw_replicator.proofs.Keeping.{suffixes-keep}
use Rattle.sw_pass.proofs.Turns.{turn-broken, turn-passed}
use Rattle.sw_replicator.specs.Pushing.{IsSuffixPushed, differing, is_same_md5}
use Rattle.sw_replicator.specs.Routes.{Leads}
use Rattle.sw_suffix.specs.declared.told.SuffixHash.{SuffixHash}
use Rattle.sw_replicator.proofs.pushing.push_suffixes.Goals as goal

abbrev is_differing : List SuffixHash → SuffixHash → Bool
is_differing theirs one = not (is_same_md5 (md5_in theirs one.suffix) one.md5)

-- what an index past the end would read
abbrev no_suffix : SuffixHash
no_suffix = record { suffix = 0; md5 = [] }

longer : {A : Type 0} (f : A → Bool) (xs : List A) (i : ℕ) (x : A) → i < length xs → x ≡ get_or xs i x → f x ≡ true
    → length (filter f (take (i + 1) xs)) ≡ length (filter f (take i xs)) + 1
longer f xs i x within is own = length-filter_more f xs i x within ∙ ap (λ (c : Bool). length (filter f (take i xs)) + cond c 1 0) (sym (ap f is) ∙ own)

one_more : (a b n m start : ℕ) → b ≡ raised a → a ≡ min (start + n) (2 ^ 64 - 1) → m ≡ n + 1 → b ≡ min (start + m) (2 ^ 64 - 1)
one_more a b n m start asked was is = omega arith

pub loop-one-init : goal.loop-one-init
loop-one-init g c = record { pushes = (refl, refl, refl); asks = omega (arith, c.requires.asks); asked = omega (arith, c.requires.asked) }

pub push_suffix-requires-clause-leads : goal.push_suffix-requires-clause-leads
push_suffix-requires-clause-leads g c =
    let s = g.D.Door.sight in
    let keeps = suffixes-keep c.args.route.from c.args.route.to c.args.route.part (differing (take c.loop-one.one-index c.args.ours.now) c.args.theirs.now)
    (s c.args.door.now) c.args.outcome.now (s c.loop-one.door) c.loop-one.outcome true
    c.loop-one.invariant.pushes in
    subst (λ (n : Nodes). Leads n c.args.route) (sym keeps.moves.nodes) c.requires.leads

pub loop-one-preserved : goal.loop-one-preserved
loop-one-preserved g c =
    let s = g.D.Door.sight in
    let one = get_or c.args.ours.now c.loop-one.one-index no_suffix in
    let is : one ≡ get_or c.args.ours.now c.loop-one.one-index one = get_or_default c.args.ours.now c.loop-one.one-index no_suffix one c.loop-one-test.true in
    let own : is_differing c.args.theirs.now one ≡ true = sym c.differs.ensures ∙ c.if-not-differs.false in
    record {
      pushes =
          turn-passed (IsSuffixPushed c.args.route.from c.args.route.to c.args.route.part)
          (is_differing c.args.theirs.now) c.args.ours.now c.loop-one.one-index one (s c.args.door.now) c.args.outcome.now
          (s c.loop-one.door) c.loop-one.outcome (s c.push_suffix.new.door) c.push_suffix.new.outcome c.loop-one-test.true is own c.loop-one.invariant.pushes
          c.in_ok-push_suffix.ensures.pushes;
      asks =
          one_more (s c.loop-one.door).asks (s c.push_suffix.new.door).asks (length (differing (take c.loop-one.one-index c.args.ours.now) c.args.theirs.now))
          (length (differing (take (c.loop-one.one-index + 1) c.args.ours.now) c.args.theirs.now))
          (s c.args.door.now).asks c.push_suffix.ensures.asks c.loop-one.invariant.asks
          (longer (is_differing c.args.theirs.now) c.args.ours.now c.loop-one.one-index one c.loop-one-test.true is own);
      asked =
          one_more c.loop-one.outcome.asked c.push_suffix.new.outcome.asked (length (differing (take c.loop-one.one-index c.args.ours.now) c.args.theirs.now))
          (length (differing (take (c.loop-one.one-index + 1) c.args.ours.now) c.args.theirs.now))
          c.args.outcome.now.asked c.push_suffix.ensures.asked c.loop-one.invariant.asked
          (longer (is_differing c.args.theirs.now) c.args.ours.now c.loop-one.one-index one c.loop-one-test.true is own);
    }

pub returns-in_err-push_suffix-clause-pushes : goal.returns-in_err-push_suffix-clause-pushes
returns-in_err-push_suffix-clause-pushes g c =
    let s = g.D.Door.sight in
    let one = get_or c.args.ours.now c.loop-one.one-index no_suffix in
    let is : one ≡ get_or c.args.ours.now c.loop-one.one-index one = get_or_default c.args.ours.now c.loop-one.one-index no_suffix one c.loop-one-test.true in
    let own : is_differing c.args.theirs.now one ≡ true = sym c.differs.ensures ∙ c.if-not-differs.false in
    turn-broken (IsSuffixPushed c.args.route.from c.args.route.to c.args.route.part)
    (is_differing c.args.theirs.now) c.from_residual.result c.args.ours.now c.loop-one.one-index one (s c.args.door.now) c.args.outcome.now
    (s c.loop-one.door) c.loop-one.outcome (s c.push_suffix.new.door) c.push_suffix.new.outcome c.from_residual.ensures.0 c.loop-one-test.true is own
    c.loop-one.invariant.pushes c.in_err-push_suffix.ensures.pushes
