use Rattle.std.proofs.Common.{◌≡◌, ℕ, ◌+◌, ◌*◌, ◌^◌, true, List, ◌++◌, length, length-append, refl, sym, ap, subst, ◌∙◌, Some, arith}
use Rattle.std.proofs.Math.Nat.{mul-le-mul_right}
use Rattle.sw_core.specs.Stopping.{gap_first, gap_past}
use Rattle.sw_stores.specs.Places.{ComeHome, IsSameBut, at_place, is_around}
use Rattle.sw_stores.specs.Starting.{AreResting}
use Rattle.sw_cluster.proofs.Resting.{all-home, around-out, gap-same, rests-each}
use Rattle.sw_cluster.proofs.volumes.give_back.Goals as goal

abbrev of_four : (P : ℕ → ℕ → ℕ → ℕ → Type 0) (a b c d e f g h : ℕ) → a ≡ e → b ≡ f → c ≡ g → d ≡ h → P a b c d → P e f g h
of_four P a b c d e f g h p q r s x =
    subst (λ (y : ℕ). P y f g h) p (subst (λ (y : ℕ). P a y g h) q (subst (λ (y : ℕ). P a b y h) r (subst (λ (y : ℕ). P a b c y) s x)))

pub give_around-requires-clause-within : goal.give_around-requires-clause-within
give_around-requires-clause-within g c =
    rw (c.as_slice.ensures, c.from.ensures, sym c.requires.devices)
    (mul-le-mul_right {m = c.args.world.devices} {n = 256} c.stripes-stripes.result c.stop.ensures.world.devices)

pub give_around-requires-clause-each : goal.give_around-requires-clause-each
give_around-requires-clause-each g c =
    let bits = c.args.world.lock_bits in
    let stripes_are : c.stripes-stripes.result ≡ 2 ^ bits = c.stripes-stripes.ensures.value ∙ ap (λ (b : ℕ). 2 ^ b) (sym c.requires.lock_bits) in
    let gap = c.gap_of-first.ensures bits stripes_are in
    let first : c.gap_of-first.result.0 ≡ gap_first bits c.args.world.lifted = gap.0 ∙ ap (gap_first bits) c.lifted.ensures in
    let past : c.gap_of-first.result.1 ≡ gap_past bits c.args.world.lifted = gap.1 ∙ ap (gap_past bits) c.lifted.ensures in
    let gives = c.stop.ensures.gives in
    let whole : length c.stop.result ≡ length gives.before + length gives.behind =
    ap length gives.all ∙ length-append gives.before gives.behind in
    let count : length c.as_slice.result.now * c.from.result ≡ c.args.world.devices * 2 ^ bits =
    rw (c.as_slice.ensures, c.from.ensures, stripes_are, sym c.requires.devices) refl in
    omega (arith, first, past, gives.low, gives.high, whole, count)

pub give_around-requires-clause-out : goal.give_around-requires-clause-out
give_around-requires-clause-out g c d s is =
    let bits = c.args.ring.now.lock_bits in
    let gap = c.gap_of-first.ensures bits c.stripes-stripes.ensures.value in
    c.requires.out d s
    ∙ around-out c.args.ring.now c.args.world.lifted c.requires.lifted d s
    (of_four (λ (n f p m : ℕ). is_around n f p m d s ≡ true) _ _ _ _ _ _ _ _
    c.stripes-stripes.ensures.value
    (gap.0 ∙ ap (gap_first bits) c.lifted.ensures)
    (gap.1 ∙ ap (gap_past bits) c.lifted.ensures)
    (cc (c.as_slice.ensures, c.from.ensures, c.stripes-stripes.ensures.value))
    is)

pub returns-clause-home : goal.returns-clause-home
returns-clause-home g c =
    all-home c.args.ring.now c.args.world.lifted (g.S.Stores.out c.args.stores.now) (g.S.Stores.out c.give_around.new.stores)
    (of_four (λ (s f p n : ℕ). ComeHome (is_around s f p n) (g.S.Stores.out c.args.stores.now) (g.S.Stores.out c.give_around.new.stores)) _ _ _ _ _ _ _ _
    c.stripes-stripes.ensures.value
    ((c.gap_of-first.ensures c.args.ring.now.lock_bits c.stripes-stripes.ensures.value).0 ∙ ap (gap_first c.args.ring.now.lock_bits) c.lifted.ensures)
    ((c.gap_of-first.ensures c.args.ring.now.lock_bits c.stripes-stripes.ensures.value).1 ∙ ap (gap_past c.args.ring.now.lock_bits) c.lifted.ensures)
    (cc (c.as_slice.ensures, c.from.ensures, c.stripes-stripes.ensures.value))
    c.give_around.ensures.home)
    c.requires.out

pub returns-clause-rests : goal.returns-clause-rests
returns-clause-rests g c l k d at beside =
    let stripes_are : c.stripes-stripes.result ≡ 2 ^ c.args.world.lock_bits = c.stripes-stripes.ensures.value
    ∙ ap (λ (b : ℕ). 2 ^ b) (sym c.requires.lock_bits) in
    subst (λ (b : ℕ). at_place (g.S.Stores.rests c.give_around.new.stores) (2 ^ b) l ≡ Some (k.volume, d.keeper)) c.requires.lock_bits
    (rests-each c.args.world c.stop.ensures.world (g.S.Stores.rests c.give_around.new.stores) c.stop.result c.stop.ensures.gives
    (of_four (λ (s f p n : ℕ). (before behind : List _) → c.stop.result ≡ before ++ behind → length before ≡ f
    → AreResting (g.S.Stores.rests c.give_around.new.stores) s 0 before × AreResting (g.S.Stores.rests c.give_around.new.stores) s p behind) _ _ _ 0 _ _ _ 0
    stripes_are
    ((c.gap_of-first.ensures c.args.world.lock_bits stripes_are).0 ∙ ap (gap_first c.args.world.lock_bits) c.lifted.ensures)
    ((c.gap_of-first.ensures c.args.world.lock_bits stripes_are).1 ∙ ap (gap_past c.args.world.lock_bits) c.lifted.ensures)
    refl
    c.give_around.ensures.rests)
    l k d at beside)

pub returns-clause-others : goal.returns-clause-others
returns-clause-others g c device out =
    gap-same c.args.ring.now device (g.S.Stores.rests c.args.stores.now) (g.S.Stores.rests c.give_around.new.stores)
    (of_four (λ (s f p n : ℕ). IsSameBut (is_around s f p n) (g.S.Stores.rests c.args.stores.now) (g.S.Stores.rests c.give_around.new.stores)) _ _ _ _ _ _ _ _
    c.stripes-stripes.ensures.value
    ((c.gap_of-first.ensures c.args.ring.now.lock_bits c.stripes-stripes.ensures.value).0 ∙ ap (gap_first c.args.ring.now.lock_bits) (c.lifted.ensures ∙ out))
    ((c.gap_of-first.ensures c.args.ring.now.lock_bits c.stripes-stripes.ensures.value).1 ∙ ap (gap_past c.args.ring.now.lock_bits) (c.lifted.ensures ∙ out))
    (cc (c.as_slice.ensures, c.from.ensures, c.stripes-stripes.ensures.value))
    c.give_around.ensures.others)
