-- What a request leaves: a step whose reply found no memory changed nothing, and no request touches an object.
use Rattle.std.proofs.Common.{◌≡◌, ◌≢◌, ◌==◌, ℕ, Bool, true, false, List, [], refl, sym, ap, ◌∙◌, subst, inl, inr, Option, Ok}
use Rattle.std.proofs.Common.{true≢false}
use Rattle.std.specs.List.{fold}
use Rattle.std.proofs.lemmas.Bool.{eqb-false, eqb-true}
use Rattle.sw_container_steps.proofs.Placing.{place-same, place-self}
use Rattle.sw_container_steps.specs.Entries.{entered, is_same_place}
use Rattle.sw_container_steps.specs.Rules.{ContJournal, cont_ending, cont_rules}
use Rattle.sw_container_steps.specs.declared.cont_answer.ContAnswer.{ContAnswer}
use Rattle.sw_container_steps.specs.declared.cont_answer.ContAnswer.TheVariants as answers
use Rattle.sw_container_steps.specs.declared.cont_change.ContChange.{ContChange}
use Rattle.sw_container_steps.specs.declared.cont_entry.ContEntry.{ContEntry}
use Rattle.sw_hashpath.specs.declared.place.Place.{Place}
use Rattle.sw_message.specs.declared.response.Response.{Response}
use Rattle.sw_peer.proofs.Calls.{calls-moves}
use Rattle.sw_peer.proofs.ContCalls.{cont-made-step}
use Rattle.sw_peer.specs.ContSights.{ContMoves, IsContMade, IsIn}
use Rattle.sw_peer.specs.Sights.{Sight, cont_lock}
use Rattle.sw_peer.specs.declared.link.Link.TheVariants.{Local}
use Rattle.sw_ring.specs.declared.ring.Ring.{Ring}
use Rattle.sw_sharded_listing.proofs.Looks.{came}
use Rattle.sw_keeper.specs.declared.tables.Tables.{Tables}
use Rattle.sw_step.specs.Rules.{Ending, Refuses}
use Rattle.sw_step.specs.Steps.{Answers, EndsSeen, EndsUnseen}
use Rattle.sw_container_server.proofs.ReadsLeave.{followed-leaves, listing-leaves, told-leaves}
use Rattle.sw_container_server.specs.Laws.{LeavesHeld, LeavesObjects}
use Rattle.sw_container_server.specs.Replies.{shows_time}
use Rattle.sw_container_server.specs.Serving.{IsChanged, IsLeft, IsServed}
use Rattle.sw_container_server.specs.declared.asked.ContAsked.{ContAsked}
use Rattle.sw_container_server.specs.declared.asked.ContAsked.TheVariants as asks

-- ---- places

place-other : (a b : Place) → is_same_place a b ≡ false → a ≢ b
place-other a b is same = true≢false (sym (subst (λ (x : Place). is_same_place a x ≡ true) same (place-self a)) ∙ is)

-- ---- a step that may change something

-- what shows a time was refused by it
refuses : (a : ContAnswer) → shows_time a ≡ true → cont_ending a ≡ Refuses
refuses (answers.New front) shows = cc
refuses (answers.There front) shows = cc
refuses (answers.Done front) shows = cc
refuses answers.Absent shows = cc
refuses (answers.Stale time) shows = refl
refuses (answers.NotEmpty count) shows = cc
refuses answers.HasRanges shows = cc
refuses answers.NoRanges shows = cc
refuses (answers.Redirect shard) shows = refl
refuses (answers.StillOpen cursor) shows = cc
refuses (answers.Later number) shows = cc
refuses (answers.NotAcked lagging) shows = cc
refuses answers.JournalFull shows = cc
refuses answers.Failed shows = cc
refuses answers.NoMemory shows = cc

unmade : (read : Option Tables) (j : ContJournal) (place : Place) (change : ContChange) (a : ContAnswer) (looked : Bool) (made : List ContEntry)
    (after : ContJournal) → cont_ending a ≡ Refuses → Answers cont_rules looked read j place change a made after → made ≡ []
unmade read j place change a true made after is p =
    (subst (λ (e : Ending). EndsSeen cont_rules e read j place change a made after) is p).leaves.not_made
unmade read j place change a false made after is p = absurd (subst (λ (e : Ending). EndsUnseen cont_rules e j made after) is p)

-- the devices hold what they held
abbrev Keeps : Sight → Sight → Type 0
Keeps old new = new.alone ≡ true → (d : ℕ) (place : Place) → (new.containers.seen (cont_lock new.nodes d place)).told ≡ true
    → new.containers.holds d place ≡ old.containers.holds d place

change-keeps : (device : ℕ) (place : Place) (change : ContChange) (old : Sight) (a : ContAnswer) (mid : Sight) → IsContMade Local device place change old a mid
    → shows_time a ≡ true → Keeps old mid
change-keeps device place change old a mid p shows alone d other told = by (d == device) (is_same_place other place) refl refl
  where
    l : ℕ
    l = cont_lock old.nodes device place

    not_made : p.step.step.made ≡ []
    not_made =
        let step = p.step.step in
        unmade step.read step.before.journal place change a step.looked step.made (mid.containers.seen l).journal (refuses a shows) step.answered

    here : (mid.containers.seen (cont_lock mid.nodes device place)).told ≡ true → mid.containers.holds device place ≡ old.containers.holds device place
    here is =
        let told_after : (mid.containers.seen l).told ≡ true = subst (λ n. (mid.containers.seen (cont_lock n device place)).told ≡ true) p.moves.nodes is in
        let told_before : p.step.step.before.told ≡ true = sym p.step.step.after.told ∙ told_after in
        p.step.step.leaves alone told_before
        ∙ (ap (λ (es : List ContEntry). fold entered (p.step.held place) es) not_made ∙ p.step.is_held alone place refl)

    by : (same_device same_place : Bool) → (d == device) ≡ same_device → is_same_place other place ≡ same_place
        → mid.containers.holds d other ≡ old.containers.holds d other
    by true true is_device is_place =
        let at : d ≡ device = eqb-true d device is_device in
        let of : other ≡ place = place-same other place is_place in
        let told_here = subst (λ (k : Place). (mid.containers.seen (cont_lock mid.nodes device k)).told ≡ true) of
        (subst (λ (e : ℕ). (mid.containers.seen (cont_lock mid.nodes e other)).told ≡ true) at told) in
        subst (λ (e : ℕ). mid.containers.holds e other ≡ old.containers.holds e other) (sym at)
        (subst (λ (k : Place). mid.containers.holds device k ≡ old.containers.holds device k) (sym of) (here told_here))
    by true false is_device is_place = p.moves.containers.others alone d other (λ at. place-other other place is_place at.1)
    by false same_place is_device is_place = p.moves.containers.others alone d other (λ at. eqb-false d device is_device at.0)

-- ---- what a request leaves

pub leaves_held : LeavesHeld
leaves_held ring old new (asks.Refused status) p = absurd p
leaves_held ring old new (asks.Change device place change) p =
    let comes = came (IsContMade Local device place change) old p.0 new p.1.called in
    subst (λ (x : Sight). Keeps old x) (sym (comes.2).same) (change-keeps device place change old p.0 comes.0 comes.1 p.2)
leaves_held ring old new (asks.Info device place replica) p =
    λ alone d other told. (told-leaves ring device place replica old (Ok p.0) new p.1).holds_all alone d other
leaves_held ring old new (asks.List device place query replica) p =
    λ alone d other told. (listing-leaves ring device place replica query old new p).holds_all alone d other

-- ---- objects

change-objects : (device : ℕ) (place : Place) (change : ContChange) (s : Sight) (answer : ContAnswer) (t : Sight) → IsChanged device place change s answer t
    → t.objects ≡ s.objects
change-objects device place change s answer t p =
    (calls-moves (ContMoves (IsIn device place)) (IsContMade Local device place change) (cont-made-step Local device place change) s Local (Ok answer) t
    p.called).objects

module _ {D : Type 0} (sight : D → Sight) (ring : Ring) where
  served-objects : (old new : D) (asked : ContAsked) (response : Response) → IsServed sight ring old new asked response
      → (sight new).objects ≡ (sight old).objects
  served-objects old new (asks.Refused status) response p = ap (λ (x : D). (sight x).objects) p.0
  served-objects old new (asks.Change device place change) response p = change-objects device place change (sight old) p.0 (sight new) p.1
  served-objects old new (asks.Info device place replica) response p = (told-leaves ring device place replica (sight old) p.0 (sight new) p.1).objects
  served-objects old new (asks.List device place query replica) response p =
      (followed-leaves ring device place replica query p.1 (sight new) p.0 response p.3).objects
      ∙ (told-leaves ring device place replica (sight old) p.0 p.1 p.2).objects

left-objects : (ring : Ring) (old new : Sight) (asked : ContAsked) → IsLeft ring old new asked → new.objects ≡ old.objects
left-objects ring old new (asks.Refused status) p = absurd p
left-objects ring old new (asks.Change device place change) p = change-objects device place change old p.0 new p.1
left-objects ring old new (asks.Info device place replica) p = (told-leaves ring device place replica old (Ok p.0) new p.1).objects
left-objects ring old new (asks.List device place query replica) p = (listing-leaves ring device place replica query old new p).objects

pub leaves_objects : {D : Type 0} (sight : D → Sight) → LeavesObjects sight
leaves_objects {D} sight old new ring r response (inl p) = served-objects sight ring old new p.0 response p.2
leaves_objects {D} sight old new ring r response (inr (inl p)) = ap (λ (x : D). (sight x).objects) p
leaves_objects {D} sight old new ring r response (inr (inr p)) = left-objects ring (sight old) (sight new) p.0 p.2
