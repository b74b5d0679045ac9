-- A request for replicas asks for one thing: each test has one outcome, and a text names one list of suffixes.
use Rattle.std.proofs.Common.{◌≡◌, ℕ, ◌<◌, ◌≤◌, ◌^◌, List, [], ◌∷◌, Option, Some, None, sym, ap, ◌∙◌, inl, inr, arith}
use Rattle.std.proofs.lemmas.Cmp.{nat_cmp_total}
use Rattle.std.proofs.lemmas.Fmt.{decimal_injective}
use Rattle.std.proofs.lemmas.Map.Lookups.{btree_set_from_contains, exact_unsigned}
use Rattle.std.proofs.lemmas.Map.Views.{btree_set_contains_iff}
use Rattle.std.proofs.Math.Pow.{pow_mono}
use Rattle.std.specs.Cmp.{both_ways}
use Rattle.std.specs.BTreeSet.{BTreeSet, contains}
use Rattle.std.specs.Ordering.{nat_cmp}
use Rattle.sw_object_server.specs.Places.{IsPartition}
use Rattle.sw_object_server.specs.Tests.{IsDecided}
use Rattle.sw_ring.proofs.Repeats.{one_place}
use Rattle.sw_ring.specs.declared.ring.Ring.{Ring}
use Rattle.sw_replica_server.specs.Asking.{AsksFor, AsksOf, IsAskedBy, tests}
use Rattle.sw_replica_server.specs.Laws.{AsksForOne}
use Rattle.sw_replica_server.specs.Suffixes.{AreNamed}
use Rattle.sw_replica_server.specs.Targets.{target_of}
use Rattle.sw_replica_server.specs.declared.asked.ReplicaAsked.{ReplicaAsked}
use Rattle.sw_replica_server.specs.declared.asked.ReplicaAsked.TheVariants.{Files, Hashes, Refused}
use Rattle.sw_replica_server.specs.declared.target.Target.{Target}

-- at most one value has this
abbrev IsOne : {X : Type 0} → (X → Type 0) → Type 0
IsOne {X} P = (x y : X) → P x → P y → x ≡ y

decided : {X : Type 0} (list : List (ℕ × Type 0)) (refusal : ℕ → X) (Else : X → Type 0) → IsOne Else → IsOne (IsDecided list refusal Else)
decided [] refusal Else one x y p q = one x y p q
decided (test ∷ list) refusal Else one x y (inl p) (inl q) = decided list refusal Else one x y p.1 q.1
decided (test ∷ list) refusal Else one x y (inl p) (inr q) = absurd (q.0 p.0)
decided (test ∷ list) refusal Else one x y (inr p) (inl q) = absurd (p.0 q.0)
decided (test ∷ list) refusal Else one x y (inr p) (inr q) = p.1 ∙ sym q.1

-- a text is the number of one partition
few : (power n : ℕ) → power ≤ 16 → n < 2 ^ power → n < 2 ^ 64
few power n most below = let up : 2 ^ power ≤ 2 ^ 16 = pow_mono most in omega (arith, up)

one-part : (ring : Ring) (text : List ℕ) (a b : ℕ) → IsPartition ring text (Some a) → IsPartition ring text (Some b) → a ≡ b
one-part ring text a b p q =
    decimal_injective a b (few ring.power a ring.greatest_power p.0) (few ring.power b ring.greatest_power q.0) (sym p.1 ∙ q.1)

-- a text names one list of suffixes
one-list : (text : List ℕ) → IsOne (AreNamed text)
one-list text xs ys p q = btree_set_from_contains nat_cmp_total a b p.ascending q.ascending same exact_unsigned
  where
    a : BTreeSet ℕ
    a = record { keys = xs }

    b : BTreeSet ℕ
    b = record { keys = ys }

    same : (n : ℕ) → contains nat_cmp a n ≡ contains nat_cmp b n
    same n =
        let of_a = btree_set_contains_iff nat_cmp_total exact_unsigned a n in
        let of_b = btree_set_contains_iff nat_cmp_total exact_unsigned b n in
        both_ways (contains nat_cmp a n) (contains nat_cmp b n)
        (λ is. of_b.1 ((q.all n).1 ((p.all n).0 (of_a.0 is))))
        (λ is. of_a.1 ((p.all n).1 ((q.all n).0 (of_b.0 is))))

one-of : (d e m n : ℕ) (third : Option (List ℕ)) (x y : ReplicaAsked) → d ≡ e → m ≡ n → AsksOf d m third x → AsksOf e n third y → x ≡ y
one-of d e m n None x y devices parts p q = p ∙ (ap (λ (k : ℕ). Hashes k m) devices ∙ (ap (λ (k : ℕ). Hashes e k) parts ∙ sym q))
one-of d e m n (Some text) x y devices parts p q =
    p.2 ∙ (ap (λ (k : ℕ). Files k m p.0) devices ∙ (ap (λ (k : ℕ). Files e k p.0) parts
    ∙ (ap (λ (l : List ℕ). Files e n l) (one-list text p.0 q.0 p.1 q.1) ∙ sym q.2)))

one-asks : (ring : Ring) (target : Target) → IsOne (AsksFor ring target)
one-asks ring target x y p q =
    one-of p.0 q.0 p.1 q.1 target.suffixes x y (one_place target.device ring.devices p.0 q.0 ring.distinct_names p.2 q.2)
    (one-part ring target.partition p.1 q.1 p.3 q.3) p.4 q.4

pub asks_for_one : AsksForOne
unfolding IsAskedBy
asks_for_one ring r = decided (tests ring (target_of r.path)) Refused (AsksFor ring (target_of r.path)) (one-asks ring (target_of r.path))
