-- What goes on by the calls of a pass, whoever sends: the nodes stay, and at nodes that nobody else changes the run of the machine goes on.
use Rattle.std.proofs.Common.{◌≡◌, true, List, [], ◌∷◌, ◌++◌, refl, sym, ◌∙◌, subst, Ok}
use Rattle.sw_machine.proofs.Going.{leaving-join, leaving-same}
use Rattle.sw_machine.specs.Doors.{RunsOnLeaving}
use Rattle.sw_peer.proofs.Calls.{same-refl}
use Rattle.sw_peer.specs.Sights.{Calls, Comes, IsSame, Sight}
use Rattle.sw_peer.specs.declared.link.Link.TheVariants.{Local}

-- a call at the device itself is one step
pub came-local : {A : Type 0} (step : Sight → A → Sight → Type 0) (s : Sight) (x : A) (t : Sight) → Calls step s Local (Ok x) t
    → (mid : Sight) × step s x mid × IsSame mid t
came-local {A} step s x t p = subst (λ (earlier : List A). Comes step s (earlier ++ x ∷ []) t) (p.1 refl) p.2

-- what goes on whoever sends, by runs of this kind
pub record GoesBy (on : Sight → Sight → Type 0) (a b : Sight) : Type 0 where
  pub nodes : b.nodes ≡ a.nodes
  pub alone : b.alone ≡ true → a.alone ≡ true
  pub runs : b.alone ≡ true → on a b

pub still-goes : (on : Sight → Sight → Type 0) → ((a : Sight) → on a a) → (a b : Sight) → b ≡ a → GoesBy on a b
still-goes on still a b same = subst (λ (x : Sight). GoesBy on a x) (sym same) (record { nodes = refl; alone = λ is. is; runs = λ is. still a })

pub goes-then : (first next both : Sight → Sight → Type 0) → ((a b c : Sight) → first a b → next b c → both a c) → (a b c : Sight)
    → GoesBy first a b → GoesBy next b c → GoesBy both a c
goes-then first next both join a b c p q = record {
  nodes = q.nodes ∙ p.nodes;
  alone = λ is. p.alone (q.alone is);
  runs = λ is. join a b c (p.runs (q.alone is)) (q.runs is);
}

pub goes-as : (on more : Sight → Sight → Type 0) → ((a b : Sight) → on a b → more a b) → (a b : Sight) → GoesBy on a b → GoesBy more a b
goes-as on more so a b p = record { nodes = p.nodes; alone = p.alone; runs = λ is. so a b (p.runs is) }

-- ---- where records are left as they are

abbrev pub GoesOnBy : Sight → Sight → Type 0
GoesOnBy = GoesBy RunsOnLeaving

pub goes-same : (a b : Sight) → b ≡ a → GoesOnBy a b
goes-same = still-goes RunsOnLeaving (λ a. leaving-same a a (same-refl a))

pub goes-join : (a b c : Sight) → GoesOnBy a b → GoesOnBy b c → GoesOnBy a c
goes-join = goes-then RunsOnLeaving RunsOnLeaving RunsOnLeaving leaving-join
