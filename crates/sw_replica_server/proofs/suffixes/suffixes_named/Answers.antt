use Rattle.std.proofs.Common.{◌≡◌, ℕ, ◌↔◌, ◌∙◌, List, [], ap, sym, subst, refl, map, take, Bor}
use Rattle.std.proofs.lemmas.List.{take_all}
use Rattle.std.specs.List.{Contains}
use Rattle.sw_replica_server.specs.Suffixes.{AreSuffixes, HasSuffix, pieces}
use Rattle.sw_replica_server.proofs.Named.{all-below, all-none, each-none, next-all, next-each, next-not}
use Rattle.sw_replica_server.proofs.suffixes.suffixes_named.Goals as goal

-- the bytes of a piece
abbrev now : Bor (List ℕ) → List ℕ
now piece = piece.now

pub loop-piece-init : goal.loop-piece-init
loop-piece-init c = record { each = each-none; all = all-none c.new-set.result c.new-set.ensures.empty }

-- one piece more
pub loop-piece-preserved : goal.loop-piece-preserved
loop-piece-preserved c =
    let items = c.deref-piece-items.result.now in
    let i = c.loop-piece.piece-index in
    let d : Bor (List ℕ) = record { ref_ptr = (0, 0); now = [] } in
    record {
      each = next-each now items i d c.loop-piece-test.true c.in-Some.suffix c.loop-piece.invariant.each c.in-Some.ensures.some;
      all = next-all now items i d c.loop-piece-test.true c.loop-piece.set c.in-Some.suffix c.insert.new.self c.loop-piece.invariant.all
          c.in-Some.ensures.some c.in_ok-insert.ensures.updates.0;
    }

-- a piece that is no suffix
pub returns-in_default : goal.returns-in_default
returns-in_default c =
    let items = c.deref-piece-items.result.now in
    let d : Bor (List ℕ) = record { ref_ptr = (0, 0); now = [] } in
    let same : map now items ≡ pieces c.args.text.now = ap (map now) c.deref-piece-items.ensures.value ∙ c.in_ok-pieces.ensures in
    subst (λ (ps : List (List ℕ)). ¬ AreSuffixes ps) same
    (next-not now items c.loop-piece.piece-index d c.loop-piece-test.true (c.in_default.ensures.none refl))

-- what is named is below 4,096
pub of_set-requires : goal.of_set-requires
of_set-requires c = all-below c.loop-piece.set.keys (map now (take c.loop-piece.piece-index c.deref-piece-items.result.now)) c.loop-piece.invariant.all

-- all pieces
pub returns : goal.returns
returns c =
    let items = c.deref-piece-items.result.now in
    let all : take c.loop-piece.piece-index items ≡ items = take_all c.loop-piece.piece-index items c.loop-piece-test.false in
    let same : map now (take c.loop-piece.piece-index items) ≡ pieces c.args.text.now =
    ap (map now) (all ∙ c.deref-piece-items.ensures.value) ∙ c.in_ok-pieces.ensures in
    record {
      each = subst AreSuffixes same c.loop-piece.invariant.each;
      all = subst (λ (ks : List ℕ). (q : ℕ) → Contains ks q ↔ HasSuffix (pieces c.args.text.now) q) (sym c.in_ok-of_set.ensures.same)
          (subst (λ (ps : List (List ℕ)). (q : ℕ) → Contains c.loop-piece.set.keys q ↔ HasSuffix ps q) same c.loop-piece.invariant.all);
      ascending = c.in_ok-of_set.ensures.ascending;
    }
