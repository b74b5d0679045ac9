-- A step whose reply found no memory left the devices what they held.
use Rattle.std.proofs.Common.{◌≡◌, ◌==◌, ℕ, Bool, true, false, List, [], ◌∷◌, ◌++◌, bytes_eq, refl, sym, ap, ◌∙◌, subst, true≢false}
use Rattle.std.proofs.lemmas.Bool.{eqb-false, eqb-true}
use Rattle.std.proofs.lemmas.Slice.Eq.{bytes_eq-Decides}
use Rattle.std.specs.List.{fold}
use Rattle.sw_hashpath.specs.declared.name.Name.{Name}
use Rattle.sw_object_steps.specs.Journals.{Hash}
use Rattle.sw_object_steps.specs.Rules.{ObjChange, ObjJournal, Writes, obj_applied, obj_rules}
use Rattle.sw_object_steps.specs.Values.{ObjValue}
use Rattle.sw_object_steps.specs.declared.answer.Answer.{Answer}
use Rattle.sw_object_steps.specs.declared.answer.Answer.TheVariants as answers
use Rattle.sw_object_steps.specs.declared.change.Change.{Change}
use Rattle.sw_object_steps.specs.declared.entry.ObjEntry.{ObjEntry}
use Rattle.sw_object_steps.specs.declared.got.Got.{Got}
use Rattle.sw_peer.specs.Sights.{Comes, IsMade, IsRead, IsSame, Sight}
use Rattle.sw_peer.specs.declared.link.Link.TheVariants.{Local}
use Rattle.sw_step.specs.Steps.{Answers}
use Rattle.sw_object_server.specs.Laws.{LeavesHeld}
use Rattle.sw_object_server.specs.Replies.{shows_field}
use Rattle.sw_object_server.specs.declared.asked.Asked.TheVariants as asks

-- a step whose reply tells of what stood made nothing
unmade : (read : ObjValue) (j : ObjJournal) (hash : Hash) (change : ObjChange) (looked : Bool) (a : Answer) (made : List ObjEntry) (after : ObjJournal)
    → shows_field a ≡ true → Answers obj_rules looked read j hash change a made after → made ≡ []
unmade read j hash change true (answers.Conflict time) made after shows p = p.leaves.not_made
unmade read j hash change true (answers.NotFound time) made after shows p = p.leaves.not_made
unmade read j hash change false (answers.Damaged bad) made after shows p = p.not_made
unmade read j hash change true (answers.Damaged bad) made after shows p = absurd p
unmade read j hash change false (answers.Conflict time) made after shows p = absurd p
unmade read j hash change false (answers.NotFound time) made after shows p = absurd p
unmade read j hash change looked a made after shows p = cc

-- the devices hold what they held
abbrev Keeps : Sight → Sight → Type 0
Keeps old new = new.alone ≡ true → (d : ℕ) (hash : Hash) → (new.objects.seen (new.nodes.lock d hash)).told ≡ true
    → new.objects.holds d hash ≡ old.objects.holds d hash

change-keeps : (device : ℕ) (name : Name) (change : Change) (old : Sight) (a : Answer) (mid : Sight) → IsMade Local device name change old a mid
    → shows_field a ≡ true → Keeps old mid
change-keeps device name change old a mid p shows alone d hash told = by (d == device) (bytes_eq hash name.hash) refl refl
  where
    l : ℕ
    l = old.nodes.lock device name.hash

    not_made : p.step.made ≡ []
    not_made = unmade p.step.read p.step.before.journal name.hash (Writes name change) p.step.looked a p.step.made (mid.objects.seen l).journal shows
        p.step.answered

    here : (mid.objects.seen (mid.nodes.lock device name.hash)).told ≡ true → mid.objects.holds device name.hash ≡ old.objects.holds device name.hash
    here is =
        let told_after : (mid.objects.seen l).told ≡ true = subst (λ n. (mid.objects.seen (n.lock device name.hash)).told ≡ true) p.moves.nodes is in
        let told_before : p.step.before.told ≡ true = sym p.step.after.told ∙ told_after in
        p.step.leaves alone told_before ∙ ap (λ (es : List ObjEntry). fold obj_applied (old.objects.holds device name.hash) es) not_made

    by : (same_device same_hash : Bool) → (d == device) ≡ same_device → bytes_eq hash name.hash ≡ same_hash
        → mid.objects.holds d hash ≡ old.objects.holds d hash
    by true true is_device is_hash =
        let at : d ≡ device = eqb-true d device is_device in
        let of : hash ≡ name.hash = (bytes_eq-Decides hash name.hash).0 is_hash in
        let told_here = subst (λ (k : Hash). (mid.objects.seen (mid.nodes.lock device k)).told ≡ true) of
        (subst (λ (e : ℕ). (mid.objects.seen (mid.nodes.lock e hash)).told ≡ true) at told) in
        subst (λ (e : ℕ). mid.objects.holds e hash ≡ old.objects.holds e hash) (sym at)
        (subst (λ (k : Hash). mid.objects.holds device k ≡ old.objects.holds device k) (sym of) (here told_here))
    by true false is_device is_hash =
        p.moves.objects.others alone d hash (λ at. true≢false (sym ((bytes_eq-Decides hash name.hash).1 at.1) ∙ is_hash))
    by false same_hash is_device is_hash = p.moves.objects.others alone d hash (λ at. eqb-false d device is_device at.0)

-- after a step only counts of the door changed
same-keeps : (old mid new : Sight) → IsSame mid new → Keeps old mid → Keeps old new
same-keeps old mid new same p = subst (λ (x : Sight). Keeps old x) (sym same.same) p

pub leaves_held : LeavesHeld
leaves_held old new moment (asks.Refused status) p = absurd p
leaves_held old new moment (asks.Change device name change) p =
    let answer : Answer = p.0 in
    let step : Sight → Answer → Sight → Type 0 = IsMade Local device name change in
    let comes : Comes step old (answer ∷ []) new =
    subst (λ (earlier : List Answer). Comes step old (earlier ++ answer ∷ []) new) (p.1.called.1 refl) p.1.called.2 in
    same-keeps old comes.0 new comes.2 (change-keeps device name change old answer comes.0 comes.1 p.2)
leaves_held old new moment (asks.Read device name head_only) p =
    let got : Got = p.0 in
    let step : Sight → Got → Sight → Type 0 = IsRead Local device name in
    let comes : Comes step old (got ∷ []) new =
    subst (λ (earlier : List Got). Comes step old (earlier ++ got ∷ []) new) (p.1.called.1 refl) p.1.called.2 in
    same-keeps old comes.0 new comes.2 (λ alone d hash told. comes.1.holds_all alone d hash)
