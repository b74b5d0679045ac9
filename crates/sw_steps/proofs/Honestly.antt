-- What goes on honestly by the calls of a pass, and what its lines tell, behind which a later step is honest; and the devices of a container.
use Rattle.std.proofs.Common.{◌≡◌, ℕ, Bool, true, List, [], ◌∷◌, ◌++◌, sym, ◌∙◌, ap, subst, inl, inr, ◌⊎◌, Ok}
use Rattle.std.proofs.lemmas.Option.{get_or_from_slice_get}
use Rattle.std.specs.Prelude.{⊤, Contains, slice_index_or}
use Rattle.sw_container_steps.specs.declared.cont_answer.ContAnswer.{ContAnswer}
use Rattle.sw_container_steps.specs.declared.cont_change.ContChange.{ContChange}
use Rattle.sw_hashpath.specs.HashParts.{partition_of}
use Rattle.sw_hashpath.specs.Places.{IsPlaceOf}
use Rattle.sw_hashpath.specs.declared.name.Name.{Name}
use Rattle.sw_hashpath.specs.declared.place.Place.{Place}
use Rattle.sw_hashpath.specs.declared.secrets.Secrets.{Secrets}
use Rattle.sw_machine.proofs.Doors.{container-changes, object-changes}
use Rattle.sw_machine.proofs.Going.{going-joins}
use Rattle.sw_machine.proofs.Honesty.{honest-append, honest-join, honest-leaving, honest-same}
use Rattle.sw_machine.specs.Doors.{GoesOn, RunsOnLeaving, StandsFor, cont_line, obj_line}
use Rattle.sw_machine.specs.Honest.{AreHonest, IsHonest, IsHonestChange, IsHonestStep, RunsHonestly}
use Rattle.sw_machine.specs.Machine.{Came, Machine, RunLine}
use Rattle.sw_object_steps.specs.declared.answer.Answer.{Answer}
use Rattle.sw_object_steps.specs.declared.change.Change.{Change}
use Rattle.sw_pass.specs.Rings.{AreReplicas, replicas_in}
use Rattle.sw_peer.proofs.Calls.{calls-moves, made-step, same-refl}
use Rattle.sw_peer.specs.ContSights.{ContMoves, IsContMade, IsIn, is_wanting_cont}
use Rattle.sw_peer.specs.Sights.{Calls, IsAt, IsMade, Moves, Nodes, Sight, is_wanting}
use Rattle.sw_peer.specs.declared.cont_event.ContEvent.TheVariants as cont_events
use Rattle.sw_peer.specs.declared.line.Event.TheVariants.{Changed}
use Rattle.sw_peer.specs.declared.link.Link.TheVariants.{Local}
use Rattle.sw_ring.specs.declared.ring.Ring.{Ring}
use Rattle.sw_steps.proofs.GoingBy.{GoesBy, GoesOnBy, goes-as, goes-then, still-goes}
use Rattle.sw_steps.proofs.Holding.{change-moves}

-- ---- all devices of a container

-- these are all that keep the container of a name
abbrev pub AreAllOf : Secrets → (Place → List ℕ) → Name → List ℕ → Type 0
AreAllOf secrets replicas name all = (place : Place) → IsPlaceOf secrets name place → (r : ℕ) → Contains (replicas place) r → Contains all r

-- places of one name are of one hash, and the ring has one row for it
pub named-replicas : (ring : Ring) (name : Name) (place : Place) (all : List ℕ) → IsPlaceOf ring.secrets name place → AreReplicas ring place all
    → AreAllOf ring.secrets (replicas_in ring) name all
named-replicas ring name place all placed are other there r among =
    subst (λ (rs : List ℕ). Contains rs r)
    (ap (λ (hash : List ℕ). slice_index_or ring.container (partition_of hash ring.power) []) (there.hashed ∙ sym placed.hashed)
    ∙ get_or_from_slice_get ring.container (partition_of place.hash ring.power) all [] are) among

-- ---- honest runs

-- the nodes know names by these secrets
abbrev pub Knows : Secrets → Sight → Type 0
Knows secrets s = s.nodes.secrets ≡ secrets

pub knows-later : (secrets : Secrets) (a b : Sight) → b.nodes ≡ a.nodes → Knows secrets a → Knows secrets b
knows-later secrets a b nodes knows = ap (λ (n : Nodes). n.secrets) nodes ∙ knows

module _ (secrets : Secrets) (replicas : Place → List ℕ) where
  abbrev pub GoesHonestly : Sight → Sight → Type 0
  GoesHonestly = GoesBy (RunsHonestly secrets replicas)

  pub honestly-same : (a b : Sight) → b ≡ a → GoesHonestly a b
  honestly-same = still-goes (RunsHonestly secrets replicas) (λ a. honest-same secrets replicas a a (same-refl a))

  pub honestly-join : (a b c : Sight) → GoesHonestly a b → GoesHonestly b c → GoesHonestly a c
  honestly-join =
      goes-then (RunsHonestly secrets replicas) (RunsHonestly secrets replicas) (RunsHonestly secrets replicas) (honest-join secrets replicas)

  pub honestly-leaving : (a b : Sight) → GoesOnBy a b → GoesHonestly a b
  honestly-leaving = goes-as RunsOnLeaving (RunsHonestly secrets replicas) (honest-leaving secrets replicas)

  -- ---- honest runs behind lines of which one thing is so, whose own lines tell another

  abbrev pub RunsTelling : (List RunLine → Type 0) → (List RunLine → Type 0) → Sight → Sight → Type 0
  RunsTelling so tells s t =
      (m : Machine) → StandsFor s m
      → (lines : List RunLine) × ((done : List RunLine) → so done → AreHonest secrets replicas done lines) × tells lines × GoesOn s m lines t

  -- what goes on by them, whoever sends
  pub record GoesTelling (so tells : List RunLine → Type 0) (a b : Sight) : Type 0 where
    pub goes : GoesBy (RunsTelling so tells) a b

  -- lines of which nothing has to be so
  abbrev pub Any : List RunLine → Type 0
  Any lines = ⊤

  pub telling-then : {so tells next told both : List RunLine → Type 0} (a b c : Sight) → GoesTelling so tells a b → GoesTelling next told b c
      → ((done lines : List RunLine) → so done → tells lines → next (done ++ lines))
      → ((xs ys : List RunLine) → tells xs → told ys → both (xs ++ ys)) → GoesTelling so both a c
  telling-then {so} {tells} {next} {told} {both} a b c p q lets join =
      record { goes = goes-then (RunsTelling so tells) (RunsTelling next told) (RunsTelling so both) runs a b c p.goes q.goes }
    where
      runs : (s t u : Sight) → RunsTelling so tells s t → RunsTelling next told t u → RunsTelling so both s u
      runs s t u first second m stands =
          let one = first m stands in
          let two = second one.3.after one.3.stands in (
            one.0 ++ two.0,
            λ done is. honest-append secrets replicas done one.0 two.0 (one.1 done is) (two.1 (done ++ one.0) (lets done one.0 is one.2)),
            join one.0 two.0 one.2 two.2,
            (going-joins s m one.0 t two.0 u one.3 two.3).0,
          )

  -- with more that is so before, and less that is told
  pub telling-as : {so tells more less : List RunLine → Type 0} (a b : Sight) → GoesTelling so tells a b → ((done : List RunLine) → more done → so done)
      → ((lines : List RunLine) → tells lines → less lines) → GoesTelling more less a b
  telling-as {so} {tells} {more} {less} a b p lets weaker =
      record { goes = goes-as (RunsTelling so tells) (RunsTelling more less) by a b p.goes }
    where
      by : (s t : Sight) → RunsTelling so tells s t → RunsTelling more less s t
      by s t runs m stands = let one = runs m stands in (one.0, λ done is. one.1 done (lets done is), weaker one.0 one.2, one.3)

  pub telling-honest : {so tells : List RunLine → Type 0} (a b : Sight) → GoesTelling so tells a b → ((done : List RunLine) → so done) → GoesHonestly a b
  telling-honest {so} {tells} a b p is = goes-as (RunsTelling so tells) (RunsHonestly secrets replicas) by a b p.goes
    where
      by : (s t : Sight) → RunsTelling so tells s t → RunsHonestly secrets replicas s t
      by s t runs m stands = let one = runs m stands in (one.0, λ done. one.1 done (is done), one.3)

  pub honest-telling : {so : List RunLine → Type 0} (a b : Sight) → GoesHonestly a b → GoesTelling so Any a b
  honest-telling {so} a b p = record { goes = goes-as (RunsHonestly secrets replicas) (RunsTelling so Any) by a b p }
    where
      by : (s t : Sight) → RunsHonestly secrets replicas s t → RunsTelling so Any s t
      by s t runs m stands = let one = runs m stands in (one.0, λ done is. one.1 done, tt, one.2)

  pub telling-same : {so : List RunLine → Type 0} (a b : Sight) → b ≡ a → GoesTelling so Any a b
  telling-same a b same = honest-telling a b (honestly-same a b same)

  -- ---- steps at the device itself are honest behind lines that let them be so

  -- by its line, or by none
  one-honest : {E : Type 0} (line : E → RunLine) (wanting : Bool) (lines : List RunLine)
      → ((added : E) × (lines ≡ line added ∷ [])) ⊎ ((wanting ≡ true) × (lines ≡ []))
      → (done : List RunLine) → ((added : E) → IsHonest secrets replicas done (line added)) → AreHonest secrets replicas done lines
  one-honest line wanting lines (inl is) done honest = subst (AreHonest secrets replicas done) (sym is.1) (honest is.0, tt)
  one-honest line wanting lines (inr none) done honest = subst (AreHonest secrets replicas done) (sym none.1) tt

  -- at an object
  pub change-goes : (device : ℕ) (name : Name) (change : Change) (a : Sight) (answer : Answer) (b : Sight)
      → Calls (IsMade Local device name change) a Local (Ok answer) b
      → GoesTelling (λ done. IsHonestStep secrets replicas done device change) Any a b
  change-goes device name change a answer b call =
      let moves : Moves (IsAt device name.hash) a b =
      calls-moves (Moves (IsAt device name.hash)) (IsMade Local device name change) (made-step Local device name change) a Local (Ok answer) b call in
      record {
        goes = record {
          nodes = moves.nodes;
          alone = moves.alone;
          runs = λ alone m stands.
              let came = (object-changes device name change).call a answer b alone call m stands in (
                came.0,
                λ done honest.
                    one-honest (λ added. Came (obj_line device Local (Changed name change answer) added)) (is_wanting answer) came.0 came.1 done
                    (λ added. honest),
                tt,
                came.2,
              );
        };
      }

  -- at a container
  pub cont-change-goes : (device : ℕ) (place : Place) (change : ContChange) (a : Sight) (answer : ContAnswer) (b : Sight)
      → Calls (IsContMade Local device place change) a Local (Ok answer) b
      → GoesTelling (λ done. IsHonestChange secrets replicas done device place change) Any a b
  cont-change-goes device place change a answer b call =
      let moves : ContMoves (IsIn device place) a b = change-moves Local device place change a (Ok answer) b call in
      record {
        goes = record {
          nodes = moves.nodes;
          alone = moves.alone;
          runs = λ alone m stands.
              let came = (container-changes device place change).call a answer b alone call m stands in (
                came.0,
                λ done honest.
                    one-honest (λ added. Came (cont_line device Local (cont_events.Changed place change answer) added)) (is_wanting_cont answer) came.0 came.1
                    done (λ added own. honest),
                tt,
                came.2,
              );
        };
      }
