-- One part that was listed, and then those behind it.
use Rattle.std.proofs.Common.{◌≡◌, List, ◌∷◌, ◌++◌, refl, sym, ◌∙◌, ap, subst, inl, inr, Ok, Err}
use Rattle.std.proofs.lemmas.List.{append_assoc}
use Rattle.sw_container_steps.specs.declared.cont_answer.ContAnswer.{ContAnswer}
use Rattle.sw_listing.specs.declared.entry.Entry.{Entry}
use Rattle.sw_listing.specs.declared.query.Query.{Query}
use Rattle.sw_peer.specs.Sights.{Sight}
use Rattle.sw_sharded_listing.specs.Across.{AreListed, IsPartAdded, Listing, preceded}
use Rattle.sw_sharded_listing.specs.Parts.{Part}

pub added-err : (part : Part) (parts : List Part) (query : Query) (found : List Entry) (old : Sight) (answer : ContAnswer) (next : Query) (all : List Entry)
    (new : Sight) → IsPartAdded part query found old (Err answer) next all new → AreListed query (part ∷ parts) old (Err answer) new
added-err part parts query found old answer next all new (inl listed) = inl (answer, listed, refl)
added-err part parts query found old answer next all new (inr listed) =
    inr (listed.0, new, listed.1, inl (listed.2, refl, ap (λ (a : ContAnswer). Err a) listed.3))

preceded-twice : (found entries : List Entry) (later : Listing) → preceded found (preceded entries later) ≡ preceded (found ++ entries) later
preceded-twice found entries (Ok es) = ap (λ (t : List Entry). Ok t) (sym (append_assoc found entries es))
preceded-twice found entries (Err answer) = refl

-- what is known of all that is still to come is known after a part too
pub added-ok : (P : Listing → Sight → Type 0) (part : Part) (parts : List Part) (query : Query) (found : List Entry) (old : Sight) (done : Unit {0})
    (next : Query) (all : List Entry) (mid : Sight)
    → ((later : Listing) (new : Sight) → AreListed query (part ∷ parts) old later new → P (preceded found later) new)
    → IsPartAdded part query found old (Ok done) next all mid
    → (later : Listing) (new : Sight) → AreListed next parts mid later new → P (preceded all later) new
added-ok P part parts query found old done next all mid whole added later new rest =
    subst (λ (r : Listing). P r new)
    (preceded-twice found added.0 later ∙ ap (λ (t : List Entry). preceded t later) (sym added.3))
    (whole (preceded added.0 later) new
    (inr (added.0, mid, added.1, inr (later, subst (λ (x : Query). AreListed x parts mid later new) added.2 rest, refl))))
