-- A door that keeps its trail tells by it what the steps of a request were answered: so the request has one answer. And one that is refused leaves the
-- door as it was.
use Rattle.std.proofs.Common.{◌≡◌, List, [], Some, refl, sym, ap, ◌∙◌, subst, inl, inr}
use Rattle.sw_message.specs.declared.response.Response.{Response}
use Rattle.sw_peer.specs.Sights.{Sight}
use Rattle.sw_peer.specs.declared.line.Line.{Line}
use Rattle.sw_ring.specs.declared.ring.Ring.{Ring}
use Rattle.sw_container_server.proofs.OneAsking.{asks_for_one}
use Rattle.sw_container_server.proofs.OneListing.{one-get}
use Rattle.sw_container_server.proofs.OneStep.{one-change}
use Rattle.sw_container_server.proofs.Told.{one-told, told-adds}
use Rattle.sw_container_server.specs.Laws.{HasOneAnswer, RefusedChangesNothing}
use Rattle.sw_container_server.specs.Replies.{change_reply, info_reply}
use Rattle.sw_container_server.specs.Serving.{IsGivenUp, IsLeft, IsServed}
use Rattle.sw_container_server.specs.declared.asked.ContAsked.{ContAsked}
use Rattle.sw_container_server.specs.declared.asked.ContAsked.TheVariants as asks

module _ {D : Type 0} (sight : D → Sight) (ring : Ring) where
  one-served : (old new : D) (asked : ContAsked) (lines : List Line) (a b : Response) → (sight old).trail ≡ Some lines → IsServed sight ring old new asked a
      → IsServed sight ring old new asked b → a ≡ b
  one-served old new (asks.Refused status) lines a b is p q = p.1 ∙ sym q.1
  one-served old new (asks.Change device place change) lines a b is p q =
      let same : p.0 ≡ q.0 = one-change device place change lines (sight old) p.0 q.0 (sight new) is p.1 q.1 in
      p.2 ∙ (ap (change_reply change) same ∙ sym q.2)
  one-served old new (asks.Info device place replica) lines a b is p q =
      let more = told-adds ring device place replica lines (sight old) p.0 (sight new) is p.1 in
      let one = one-told ring device place replica lines (sight old) p.0 q.0 (sight new) (sight new) more.0 more.0 [] [] is p.1 q.1 more.1 more.1
      (λ answer told. refl) (λ answer told. refl) refl in
      p.2 ∙ (ap info_reply one.0 ∙ sym q.2)
  one-served old new (asks.List device place query replica) lines a b is p q =
      one-get ring device place query replica lines (sight old) (sight new) a b is p q

pub has_one_answer : {D : Type 0} (sight : D → Sight) → HasOneAnswer sight
has_one_answer {D} sight old new ring r lines a b is p q =
    one-served sight ring old new p.0 lines a b is p.2
    (subst (λ (asked : ContAsked). IsServed sight ring old new asked b) (asks_for_one ring r q.0 p.0 q.1 p.1) q.2)

-- ---- what is refused

pub refused_changes_nothing : {D : Type 0} (sight : D → Sight) → RefusedChangesNothing sight
refused_changes_nothing {D} sight old new ring r status refused = (
  λ response p. subst (λ (asked : ContAsked). IsServed sight ring old new asked response) (asks_for_one ring r p.0 (asks.Refused status) p.1 refused) p.2,
  λ p. left p,
)
  where
    left : IsGivenUp sight old new ring r → new ≡ old
    left (inl p) = p
    left (inr p) =
        absurd (subst (λ (asked : ContAsked). IsLeft ring (sight old) (sight new) asked) (asks_for_one ring r p.0 (asks.Refused status) p.1 refused) p.2)
