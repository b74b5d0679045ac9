-- What each function that reads a request tells of it: the test of its own, and what decides where that is passed. A value which a test finds
-- is told to those that come after. (This project's own.)
--
-- `Asking.antt` says the same of the whole request, without the order in which its values are found.
use Rattle.std.specs.Prelude.{◌≡◌, ℕ, Bool, true, false, ◌||◌, List, Option, MatchBool, MatchOption, if◌then◌else◌}
use Rattle.md5.specs.Md5.{md5}
use Rattle.sw_hashpath.specs.declared.name.Name.{Name}
use Rattle.sw_message.specs.declared.fields.Field.{Field}
use Rattle.sw_message.specs.declared.request.Body.{Body}
use Rattle.sw_message.specs.declared.request.Body.TheVariants.{Whole, TooLarge}
use Rattle.sw_message.specs.declared.request.Request.{Request}
use Rattle.sw_ring.specs.declared.ring.Ring.{Ring}
use Rattle.sw_state.specs.declared.content.Content.{Content}
use Rattle.sw_state.specs.declared.heads.Heads.{Heads}
use Rattle.sw_fields.specs.Fields.{IsTime, agrees_with, is_replicated, type_of}
use Rattle.sw_fields.specs.Metadata.{IsHeads}
use Rattle.sw_object_server.specs.Places.{IsDevice, is_partition_of, name_fault, name_in}
use Rattle.sw_object_server.specs.Requirements.{expiry_text, is_second_in}
use Rattle.sw_object_server.specs.Steps.{delete_change, post_change, put_change}
use Rattle.sw_object_server.specs.declared.asked.Asked.{Asked}
use Rattle.sw_object_server.specs.declared.asked.Asked.TheVariants as asks
use Rattle.sw_object_server.specs.declared.target.Parts.{Parts}
use Rattle.sw_object_server.specs.declared.verb.Verb.{Verb}
use Rattle.sw_object_server.specs.declared.verb.Verb.TheVariants as verbs
use Rattle.sw_object_server.specs.declared.verdict.Verdict.{Verdict}
use Rattle.sw_object_server.specs.declared.verdict.Verdict.TheVariants as verdicts

-- ---- one test

module _ {X : Type 0} where
  -- this holds
  abbrev pub Needs : Bool → X → (X → Type 0) → X → Type 0
  Needs test refusal Next outcome = MatchBool test (Next outcome) (outcome ≡ refusal)

  -- this is no fault
  abbrev pub Lacks : {A : Type 0} → Option A → X → (X → Type 0) → X → Type 0
  Lacks fault refusal Next outcome = MatchOption fault (Next outcome) (λ _. outcome ≡ refusal)

  -- there is this value, and the next ones are told it
  abbrev pub Gives : {A : Type 0} → Option A → X → (A → X → Type 0) → X → Type 0
  Gives value refusal Next outcome = MatchOption value (outcome ≡ refusal) (λ a. Next a outcome)

  -- the same of the value that the relation has; none where there is none
  abbrev pub Finds : {A : Type 0} → (Option A → Type 0) → X → (A → X → Type 0) → X → Type 0
  Finds {A} Is refusal Next outcome = (value : Option A) × Is value × Gives value refusal Next outcome

-- ---- a PUT

-- the content of these bytes, with this type and metadata
pub record IsContent (content : Content) (body type : List ℕ) (heads : Heads) : Type 0 where
  pub body_is : content.body ≡ body
  pub type_is : content.content_type ≡ type
  pub etag_is : content.etag ≡ md5 body
  pub heads_are : content.heads ≡ heads

abbrev pub put_content : ℕ → List Field → Content → Verdict
put_content time fields content =
    if agrees_with content.etag fields then verdicts.Change (put_change time content fields) else verdicts.Refused 422

abbrev pub PutsHeads : ℕ → List ℕ → List ℕ → List Field → Heads → Verdict → Type 0
PutsHeads time body type fields heads verdict =
    (content : Content) × IsContent content body type heads × (verdict ≡ put_content time fields content)

abbrev pub PutsType : ℕ → Name → List ℕ → List Field → List ℕ → Verdict → Type 0
PutsType time name body fields type = Finds (IsHeads time name fields) (verdicts.Refused 400) (PutsHeads time body type fields)

abbrev pub PutsBody : ℕ → Name → List Field → Body → Verdict → Type 0
PutsBody time name fields TooLarge verdict = verdict ≡ verdicts.Refused 413
PutsBody time name fields (Whole body) verdict = Gives (type_of fields) (verdicts.Refused 400) (PutsType time name body fields) verdict

abbrev pub Puts : Name → Request → ℕ → Verdict → Type 0
Puts name r time = Needs r.framed (verdicts.Refused 411) (PutsBody time name r.fields r.body)

-- ---- a POST

abbrev pub Posts : Name → Request → ℕ → Verdict → Type 0
Posts name r time =
    Finds (IsHeads time name r.fields) (verdicts.Refused 400) (λ heads verdict. verdict ≡ verdicts.Change (post_change time r.fields heads))

-- ---- a DELETE

abbrev pub Deletes : Request → ℕ → Verdict → Type 0
Deletes r time =
    Needs (is_replicated r.fields || is_second_in (expiry_text r.fields)) (verdicts.Refused 400)
    (λ verdict. verdict ≡ verdicts.Change (delete_change time r.fields))

-- ---- what a verb asks for at a name

abbrev pub IsTimed : List Field → (ℕ → Verdict → Type 0) → Verdict → Type 0
IsTimed fields = Finds (IsTime fields) (verdicts.Refused 400)

abbrev pub IsVerdict : Verb → Name → Request → Verdict → Type 0
IsVerdict verbs.Get name r verdict = verdict ≡ verdicts.Read false
IsVerdict verbs.Head name r verdict = verdict ≡ verdicts.Read true
IsVerdict verbs.Put name r verdict = IsTimed r.fields (Puts name r) verdict
IsVerdict verbs.Post name r verdict = IsTimed r.fields (Posts name r) verdict
IsVerdict verbs.Delete name r verdict = IsTimed r.fields (Deletes r) verdict

-- ---- what a request with a verb asks for

-- a verdict on a name at a device
abbrev pub asked_at : ℕ → Name → Verdict → Asked
asked_at device name (verdicts.Refused status) = asks.Refused status
asked_at device name (verdicts.Change change) = asks.Change device name change
asked_at device name (verdicts.Read head_only) = asks.Read device name head_only

abbrev pub AsksVerb : Verb → ℕ → Name → Request → Asked → Type 0
AsksVerb verb device name r asked = (verdict : Verdict) × IsVerdict verb name r verdict × (asked ≡ asked_at device name verdict)

abbrev pub AsksPartition : Ring → Parts → Verb → Name → Request → ℕ → Asked → Type 0
AsksPartition ring parts verb name r device = Needs (is_partition_of ring name parts.partition) (asks.Refused 400) (AsksVerb verb device name r)

abbrev pub AsksDevice : Ring → Parts → Verb → Name → Request → Asked → Type 0
AsksDevice ring parts verb name r = Finds (IsDevice ring parts.device) (asks.Refused 404) (AsksPartition ring parts verb name r)

abbrev pub AsksName : Ring → Parts → Request → Verb → Asked → Type 0
AsksName ring parts r verb = Lacks (name_fault parts) (asks.Refused 400) (AsksDevice ring parts verb (name_in ring parts) r)
