-- How often a push asks.
use Rattle.std.proofs.Common.{true, false, sym, Option, Some, None, ◌≡◌, ℕ, ◌+◌, ◌-◌, ◌^◌, min, List, length, refl, ◌∙◌, ap, subst, ◌⊎◌, inl, inr, Result, Ok}
use Rattle.std.proofs.Common.{Err, arith}
use Rattle.std.specs.Result.{OnOk, is_ok}
use Rattle.std.specs.declared.alloc.Global.{Global}
use Rattle.std.specs.declared.vec.Vec.{Vec}
use Rattle.sw_outside.specs.Counts.{raised}
use Rattle.sw_pass.specs.Outcomes.{Hinders, asking, finished, nothing_yet}
use Rattle.sw_pass.specs.declared.hindrance.Hindrance.{Hindrance}
use Rattle.sw_pass.specs.declared.outcome.Outcome.{Outcome}
use Rattle.sw_object_steps.specs.Parts.{AreHashes}
use Rattle.sw_peer.specs.Sights.{Calls, IsHashesRead, Nodes, Sight}
use Rattle.sw_peer.specs.declared.link.Link.TheVariants.{Local, Sent}
use Rattle.sw_replicator.proofs.Reading.{hashes-pair, hashes-told, later, pair-trans}
use Rattle.sw_replicator.specs.Causes.{AsksEach, AsksOnce}
use Rattle.sw_replicator.specs.Meeting.{PairMoves, known, state_by}
use Rattle.sw_replicator.specs.Pushing.{differing}
use Rattle.sw_suffix.specs.declared.told.SuffixHash.{SuffixHash}

-- what a push came to asks alike when it is finished
pub asks-finished : (from to part : ℕ) (s t : Sight) (p : Outcome) → AsksEach from to part s t p ⊎ AsksOnce s t p
    → AsksEach from to part s t (finished p) ⊎ AsksOnce s t (finished p)
asks-finished from to part s t p (inl each) = inl (record {
  ours = each.ours;
  theirs = each.theirs;
  our_history = each.our_history;
  their_history = each.their_history;
  ours_were = each.ours_were;
  theirs_were = each.theirs_were;
  ours_are = each.ours_are;
  theirs_are = each.theirs_are;
  asked_is = each.asked_is;
  asks = each.asks;
})
asks-finished from to part s t p (inr once) = inr (record { left = once.left; asks = once.asks })

-- after both hashes, one message for each suffix that differs
pub asks-each : {A E : Type 0} (r : Result A E) (from to part : ℕ) (s a b t : Sight) (ours theirs : Vec SuffixHash Global) (xs ys : List SuffixHash)
    (o p : Outcome)
    → Calls (IsHashesRead Local from part) s Local (Ok (Ok ours)) a → Calls (IsHashesRead Sent to part) a Sent (Ok (Ok theirs)) b → PairMoves from to part b t
    → xs ≡ ours.items → ys ≡ theirs.items → o ≡ asking nothing_yet → a.asks ≡ s.asks → b.asks ≡ raised a.asks
    → OnOk r (t.asks ≡ min (b.asks + length (differing xs ys)) (2 ^ 64 - 1)) → OnOk r (p.asked ≡ min (o.asked + length (differing xs ys)) (2 ^ 64 - 1))
    → OnOk r (AsksEach from to part s t p ⊎ AsksOnce s t p)
asks-each (Ok done) from to part s a b t ours theirs xs ys o p read asked moves same alike start kept rose asks count =
    let first : PairMoves from to part s a = hashes-pair Local from part from to (inl refl) s (Ok (Ok ours)) a read in
    let second : PairMoves from to part a b = hashes-pair Sent to part from to (inr refl) a (Ok (Ok theirs)) b asked in
    let lengths : length (differing xs ys) ≡ length (differing ours.items theirs.items) =
    ap (λ (zs : List SuffixHash). length (differing zs ys)) same ∙ ap (λ (zs : List SuffixHash). length (differing ours.items zs)) alike in
    let one : o.asked ≡ 1 = ap (λ (x : Outcome). x.asked) start in
    inl (record {
      ours = ours.items;
      theirs = theirs.items;
      our_history = known a from part;
      their_history = known b to part;
      ours_were = record { after = later from to part from s a first; before = later from to part from a t (pair-trans from to part a b t second moves) };
      theirs_were = record { after = later from to part to s b (pair-trans from to part s a b first second); before = later from to part to b t moves };
      ours_are = hashes-told Local from part s ours a read;
      theirs_are = subst (λ (n : Nodes). AreHashes n.power part (known b to part).told (state_by (known b to part)) theirs.items) first.nodes
          (hashes-told Sent to part a theirs b asked);
      asked_is = omega (arith, lengths, one, count);
      asks = omega (arith, lengths, kept, rose, asks);
    })
asks-each (Err failed) from to part s a b t ours theirs xs ys o p read asked moves same alike start kept rose asks count = record {}

-- the hashes of one of the two weren't answered
pub asks-once : {A E : Type 0} (r : Result A E) (from to part : ℕ) (s t : Sight) (h : Option Hindrance) (o p : Outcome) → Hinders h o p (is_ok r) → o.left ≡ 0
    → ((o.asked ≡ 0) × (t.asks ≡ s.asks)) ⊎ ((o.asked ≡ 1) × (t.asks ≡ min (s.asks + 1) (2 ^ 64 - 1))) → OnOk r (AsksEach from to part s t p ⊎ AsksOnce s t p)
asks-once (Ok done) from to part s t (Some hindrance) o p is none asks = inr (record {
  left = ap (λ (x : Outcome). x.left) is.0 ∙ ap raised none;
  asks = subst (λ (n : ℕ). ((n ≡ 0) × (t.asks ≡ s.asks)) ⊎ ((n ≡ 1) × (t.asks ≡ min (s.asks + 1) (2 ^ 64 - 1))))
      (sym (ap (λ (x : Outcome). x.asked) is.0)) asks;
})
asks-once (Ok done) from to part s t None o p is none asks = absurd (apart is.1)
  where
    apart : true ≡ false → ⊥
    apart same = cc
asks-once (Err failed) from to part s t h o p is none asks = record {}
