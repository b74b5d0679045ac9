-- What a commit of the batch of a step makes, told by the tables that were read before it.
use Rattle.std.proofs.Common.{◌≡◌, ◌≢◌, ℕ, List, [], Option, None, IsSome, refl, sym, ◌∙◌, ap, subst, ◌⊎◌, inl, inr}
use Rattle.sw_hashpath.specs.declared.place.Place.{Place}
use Rattle.sw_keeper.specs.declared.tables.Tables.{Tables}
use Rattle.sw_keeper.specs.Changes.{IsBatch, all_changed}
use Rattle.sw_keeper.specs.Keeping.{Changes, Holdings, IsSame, MayChange}
use Rattle.sw_keeper.specs.declared.batch.Change.{Change}
use Rattle.std.specs.List.{fold}
use Rattle.sw_step.specs.Rules.{AreOf, IsOf}
use Rattle.sw_container_steps.specs.Entries.{entered}
use Rattle.sw_container_steps.specs.Rules.{cont_rules, one_batch}
use Rattle.sw_container_steps.specs.Laws.{sign_of}
use Rattle.sw_container_steps.specs.declared.sign.Sign.{Sign}
use Rattle.sw_container_steps.specs.Steps.{cont_refusal, entries_for}
use Rattle.sw_container_steps.specs.declared.cont_change.ContChange.{ContChange}
use Rattle.sw_container_steps.specs.declared.cont_entry.ContEntry.{ContEntry}
use Rattle.sw_container_steps.proofs.Ruling.{are-rules}
use Rattle.sw_container_steps.proofs.Seeing.{entries-are-seen, steps-hold}
use Rattle.sw_container_db.proofs.Kept.{of-batch}

-- the keeper takes the batch
pub takes : (taken read held after : Option Tables) (place : Place) (change : ContChange) (entries : List ContEntry) (batch : List Change)
    → taken ≡ read → cont_refusal read place change ≡ None → entries ≡ entries_for read place change → after ≡ fold entered taken entries →
    (IsSome after → IsBatch taken batch) → read ≡ held → IsBatch held batch
takes taken read held after place change entries batch same allowed are left fits is =
    let here : after ≡ fold entered read (entries_for read place change) =
    left ∙ (ap (fold entered taken) are ∙ ap (λ (t : Option Tables). fold entered t (entries_for read place change)) same) in
    subst (λ (t : Option Tables). IsBatch t batch) (same ∙ is) (fits (subst IsSome (sym here) (steps-hold read place change allowed)))

pub makes-entries : (taken read after : Option Tables) (entries given : List ContEntry) (batch : List Change) → taken ≡ read → all_changed taken batch ≡ after →
    after ≡ fold entered taken given → given ≡ entries
    → all_changed read batch ≡ fold entered read entries
makes-entries taken read after entries given batch turn makes left same =
    subst (λ (t : Option Tables). all_changed t batch ≡ fold entered t entries) turn (makes ∙ (left ∙ ap (fold entered taken) same))

-- the batch was made
pub made-there : (before old new : Holdings) (place : Place) (batch : List Change) (read : Option Tables) (entries : List ContEntry)
    → IsSame before old → read ≡ before place → all_changed read batch ≡ fold entered read entries → Changes old new place batch →
    new place ≡ fold entered (before place) entries
made-there before old new place batch read entries same is makes changes =
    changes.there ∙ (ap (λ (t : Option Tables). all_changed t batch) (same place ∙ sym is) ∙ (makes ∙ ap (λ (t : Option Tables). fold entered t entries) is))

pub made-elsewhere : (before old new : Holdings) (place : Place) (batch : List Change) → IsSame before old → Changes old new place batch → (p : Place) →
    p ≢ place → new p ≡ before p
made-elsewhere before old new place batch same changes p away = changes.elsewhere p away ∙ same p

-- the batch was made, or wasn't
pub may-there : (before old new : Holdings) (place : Place) (batch : List Change) (read : Option Tables) (entries : List ContEntry)
    → IsSame before old → read ≡ before place → all_changed read batch ≡ fold entered read entries → MayChange old new place batch →
    (new place ≡ before place) ⊎ (new place ≡ fold entered (before place) entries)
may-there before old new place batch read entries same is makes (inl kept) = inl (kept place ∙ same place)
may-there before old new place batch read entries same is makes (inr changes) = inr (made-there before old new place batch read entries same is makes changes)

pub may-elsewhere : (before old new : Holdings) (place : Place) (batch : List Change) → IsSame before old → MayChange old new place batch → (p : Place) →
    p ≢ place → new p ≡ before p
may-elsewhere before old new place batch same (inl kept) p away = kept p ∙ same p
may-elsewhere before old new place batch same (inr changes) p away = made-elsewhere before old new place batch same changes p away

pub both-same : (before old new : Holdings) → IsSame before old → IsSame old new → IsSame before new
both-same before old new same again p = again p ∙ same p

-- all entries are of the place
pub of-place : (read : Option Tables) (place : Place) (change : ContChange) (entries : List ContEntry) → entries ≡ entries_for read place change
    → entries ≢ [] → IsOf cont_rules place entries
of-place read place change entries are full = of-batch place entries full
    (subst (λ (es : List ContEntry). AreOf cont_rules place (one_batch es)) (sym are) (are-rules.own_changes read place change refl))

-- the sign tells that they were made
pub seen : (read held : Option Tables) (place : Place) (change : ContChange) (entries : List ContEntry) (sign : Option Sign)
    → cont_refusal read place change ≡ None → entries ≡ entries_for read place change → entries ≢ [] → sign ≡ sign_of entries read → read ≡ held →
    sign_of entries (fold entered held entries) ≢ sign
seen read held place change entries sign allowed are full tells is same =
    entries-are-seen read place change allowed (λ none. full (are ∙ none))
    (ap (λ (e : List ContEntry). sign_of e (fold entered read e)) (sym are)
    ∙ (ap (λ (t : Option Tables). sign_of entries (fold entered t entries)) is ∙ (same ∙ (tells ∙ ap (λ (e : List ContEntry). sign_of e read) are))))

-- the tables after the batch are those that are held then
pub kept-there : (old new : Holdings) (place : Place) (taken read after : Option Tables) (batch : List Change) → taken ≡ read → read ≡ old place →
    all_changed taken batch ≡ after → Changes old new place batch → after ≡ new place
kept-there old new place taken read after batch turn is makes changes =
    sym makes ∙ (ap (λ (t : Option Tables). all_changed t batch) (turn ∙ is) ∙ sym changes.there)
