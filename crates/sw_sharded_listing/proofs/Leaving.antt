-- Listings and counts across shards change nothing.
use Rattle.std.proofs.Common.{ℕ, refl, sym, ◌∙◌, ap, arith, Option, Result, Ok}
use Rattle.sw_container_steps.specs.Reads.{info_of, listing_of, sharding_of}
use Rattle.sw_container_steps.specs.declared.cont_answer.ContAnswer.{ContAnswer}
use Rattle.sw_hashpath.specs.declared.place.Place.{Place}
use Rattle.sw_keeper.specs.declared.tables.Tables.{Tables}
use Rattle.sw_peer.proofs.Calls.{calls-moves}
use Rattle.sw_peer.proofs.ContCalls.{look-step}
use Rattle.sw_peer.specs.ContSights.{ContMoves, IsIn, IsLooked}
use Rattle.sw_peer.specs.Sights.{Calls, Sight}
use Rattle.sw_peer.specs.declared.cont_event.ContEvent.{ContEvent}
use Rattle.sw_peer.specs.declared.cont_event.ContEvent.TheVariants.{Informed, Listed, Sharded}
use Rattle.sw_peer.specs.declared.link.Link.TheVariants.{Local}
use Rattle.sw_sharded_listing.proofs.Looks.{came}
use Rattle.sw_sharded_listing.proofs.Steps.{AreSteps, IsAsked, across-steps, counts-steps}
use Rattle.sw_sharded_listing.specs.Reads.{LeavesAll, ReadsLeaveAll}

pub leaves-itself : (s : Sight) → LeavesAll s s
leaves-itself s = record { nodes = refl; objects = refl; holds_all = λ alone d place. refl; alone = λ alone. alone; faults = omega arith }

pub leaves-join : (a b c : Sight) → LeavesAll a b → LeavesAll b c → LeavesAll a c
leaves-join a b c p q = record {
  nodes = q.nodes ∙ p.nodes;
  objects = q.objects ∙ p.objects;
  holds_all = λ alone d place. q.holds_all alone d place ∙ p.holds_all (q.alone alone) d place;
  alone = λ alone. p.alone (q.alone alone);
  faults = omega (arith, p.faults, q.faults);
}

module _ {A : Type 0} (device : ℕ) (place : Place) (reading : Option Tables → ℕ → Result A ContAnswer) (event : Result A ContAnswer → ContEvent) where
  pub look-leaves : (s : Sight) (got : Result A ContAnswer) (t : Sight) → Calls (IsLooked Local device place reading event) s Local (Ok got) t
      → LeavesAll s t
  look-leaves s got t p =
      let step = IsLooked Local device place reading event in
      let moves = calls-moves (ContMoves (IsIn device place)) step (look-step Local device place reading event) s Local (Ok got) t p in
      let comes = came step s got t p in
      record {
        nodes = moves.nodes;
        objects = moves.objects;
        holds_all = λ alone d other. ap (λ (x : Sight). x.containers.holds d other) (comes.2).same
            ∙ (comes.1).holds_all (sym (ap (λ (x : Sight). x.alone) (comes.2).same) ∙ alone) d other;
        alone = moves.alone;
        faults = moves.faults;
      }

-- whatever is asked
pub leaving : (at : ℕ → Place → Type 0) → AreSteps at LeavesAll
leaving at = record {
  itself = leaves-itself;
  join = leaves-join;
  sharded = λ device place s got t is p. look-leaves device place sharding_of (λ read. Sharded place read) s got t p;
  informed = λ device place s got t is p. look-leaves device place info_of (λ read. Informed place read) s got t p;
  listed = λ device place query s got t is p. look-leaves device place (listing_of query) (λ read. Listed place query read) s got t p;
}

pub reads-leave-all : ReadsLeaveAll
reads-leave-all = record {
  listing = λ ring device place query replica old got new across.
      across-steps ring device place replica LeavesAll (leaving (IsAsked ring device place replica)) query old got new across;
  count = λ ring device place replica old got new across.
      counts-steps ring device place replica LeavesAll (leaving (IsAsked ring device place replica)) old got new across;
}
