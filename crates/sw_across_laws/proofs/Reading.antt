-- What is read over a door that is alone is what the machine has.
use Rattle.std.proofs.Common.{◌≡◌, ℕ, true, List, [], ◌∷◌, map, unwrap_or, Option, None, Some, refl, sym, ◌∙◌, ap, subst}
use Rattle.sw_hashpath.specs.declared.place.Place.{Place}
use Rattle.sw_keeper.specs.Changes.{begun}
use Rattle.sw_keeper.specs.declared.tables.Tables.{Tables}
use Rattle.sw_listing_laws.specs.Plain.{Cluster}
use Rattle.sw_machine.specs.Machine.{Machine}
use Rattle.sw_peer.specs.Sights.{Nodes, Sight, cont_lock}
use Rattle.sw_ring.specs.declared.ring.Ring.{Ring}
use Rattle.sw_sharded_listing.specs.Laws.{AreRead, IsReadAt}
use Rattle.sw_sharded_listing.specs.Parts.{Part}
use Rattle.sw_across_laws.proofs.Doors.{door-kept}
use Rattle.sw_across_laws.proofs.Keeping.{keeps-read, keeps-same}
use Rattle.sw_across_laws.specs.Laws.{IsDoorTo}
use Rattle.sw_across_laws.specs.Picked.{tables_at}

-- reads one after the other: a door that is alone afterwards was alone before
pub all-alone : (ps : List Part) (ts : List Tables) (old new : Sight) → AreRead ps ts old new → new.alone ≡ true → old.alone ≡ true
all-alone [] [] old new are alone = sym (ap (λ (s : Sight). s.alone) are) ∙ alone
all-alone [] (t ∷ ts) old new are alone = absurd are
all-alone (p ∷ ps) [] old new are alone = absurd are
all-alone (p ∷ ps) (t ∷ ts) old new are alone =
    (keeps-read p.device p.place t old are.0 are.1).alone (all-alone ps ts are.0 new are.2 alone)

module _ (c : Cluster) (m : Machine) (ring : Ring) where
  -- what was read is what the machine has
  pub read-there : (device : ℕ) (place : Place) (t : Tables) (old new : Sight) → IsReadAt device place t old new → IsDoorTo c m ring old → new.alone ≡ true
      → m.containers.half.holds device place ≡ Some t
  read-there device place t old new read door alone =
      sym (door.holds (read.moves.alone there) device place)
      ∙ (sym (read.holds_all there device place)
      ∙ sym (read.held there (subst (λ (n : Nodes). ((read.at).containers.seen (cont_lock n device place)).told ≡ true) (sym door.nodes) told)))
    where
      there : (read.at).alone ≡ true
      there = (keeps-same read.at new read.same).alone alone

      told : ((read.at).containers.seen (cont_lock c.nodes device place)).told ≡ true
      told = (read.moves.containers.grows (cont_lock c.nodes device place)).told ∙ door.tell device place

  pub all-there : (ps : List Part) (ts : List Tables) (old new : Sight) → IsDoorTo c m ring old → AreRead ps ts old new → new.alone ≡ true
      → ts ≡ map (tables_at m) ps
  all-there [] [] old new door are alone = refl
  all-there [] (t ∷ ts) old new door are alone = absurd are
  all-there (p ∷ ps) [] old new door are alone = absurd are
  all-there (p ∷ ps) (t ∷ ts) old new door are alone =
      let later : (are.0).alone ≡ true = all-alone ps ts are.0 new are.2 alone in
      let there : m.containers.half.holds p.device p.place ≡ Some t = read-there p.device p.place t old are.0 are.1 door later in
      let first : t ≡ tables_at m p = sym (ap (λ (o : Option Tables). unwrap_or o (begun 0 None)) there) in
      let rest : ts ≡ map (tables_at m) ps =
      all-there ps ts are.0 new (door-kept c m ring old are.0 door (keeps-read p.device p.place t old are.0 are.1)) are.2 alone in
      λ i. first i ∷ rest i
