-- A request for containers asks for one thing: each test has one outcome, and its fields and its query are read in one way.
use Rattle.std.proofs.Common.{◌≡◌, ℕ, ◌<◌, List, [], ◌∷◌, Option, Some, None, sym, ap, ◌∙◌, subst, inl, inr}
use Rattle.std.proofs.Props.{props}
use Rattle.std.proofs.lemmas.Option.{same_Some}
use Rattle.std.specs.Option.{ForSome}
use Rattle.std.specs.Str.{IsUtf8}
use mathlib.Core.HLevel.{is_prop→PathP}
use mathlib.Core.Logic.{∥∥₁_prop}
use Rattle.sw_container_steps.specs.declared.cont_change.ContChange.TheVariants as changes
use Rattle.sw_fields.specs.Fields.{IsTimeOf}
use Rattle.sw_listing.specs.Queries.{ReadsAs}
use Rattle.sw_listing.specs.declared.query.Query.{Query}
use Rattle.sw_message.specs.declared.fields.Field.{Field}
use Rattle.sw_message.specs.declared.request.Request.{Request}
use Rattle.sw_object_server.specs.Tests.{IsDecided}
use Rattle.sw_ring.proofs.Repeats.{one_place}
use Rattle.sw_ring.specs.declared.ring.Ring.{Ring}
use Rattle.sw_rows.specs.declared.row.Row.{Row}
use Rattle.sw_timestamp.proofs.TimeTextLemmas.{reads_as_one}
use Rattle.sw_timestamp.specs.TimeText.{IsTimeText}
use Rattle.sw_container_server.proofs.Replicas.{one-replica}
use Rattle.sw_container_server.specs.Asking.{AsksFor, IsAskedBy, IsAskedWith, asked_at, tests}
use Rattle.sw_container_server.specs.Laws.{AsksForOne}
use Rattle.sw_container_server.specs.Places.{place_in}
use Rattle.sw_container_server.specs.Targets.{is_row, target_of, verb_of}
use Rattle.sw_container_server.specs.Verdicts.{IsDeletedRowOf, IsRowOf, Yields}
use Rattle.sw_container_server.specs.declared.asked.ContAsked.TheVariants as asks
use Rattle.sw_container_server.specs.declared.target.Target.{Target}
use Rattle.sw_container_server.specs.declared.verb.Verb.{Verb}
use Rattle.sw_container_server.specs.declared.verb.Verb.TheVariants as verbs
use Rattle.sw_container_server.specs.declared.verdict.Verdict.{Verdict}
use Rattle.sw_container_server.specs.declared.verdict.Verdict.TheVariants as verdicts

-- at most one value has this
abbrev IsOne : {X : Type 0} → (X → Type 0) → Type 0
IsOne {X} P = (x y : X) → P x → P y → x ≡ y

decided : {X : Type 0} (list : List (ℕ × Type 0)) (refusal : ℕ → X) (Else : X → Type 0) → IsOne Else → IsOne (IsDecided list refusal Else)
decided [] refusal Else one x y p q = one x y p q
decided (test ∷ list) refusal Else one x y (inl p) (inl q) = decided list refusal Else one x y p.1 q.1
decided (test ∷ list) refusal Else one x y (inl p) (inr q) = absurd (q.0 p.0)
decided (test ∷ list) refusal Else one x y (inr p) (inl q) = absurd (p.0 q.0)
decided (test ∷ list) refusal Else one x y (inr p) (inr q) = p.1 ∙ sym q.1

-- ---- times, rows and queries

one-time : (fields : List Field) (a b : ℕ) → IsTimeOf fields a → IsTimeOf fields b → a ≡ b
one-time fields a b p q =
    let texts : p.0 ≡ q.0 = same_Some p.0 q.0 (sym p.1 ∙ q.1) in
    reads_as_one q.0 a b (subst (λ (text : List ℕ). IsTimeText text a) texts p.2) q.2

same-row : (a b : Row) → a.name ≡ b.name → a.created_at ≡ b.created_at → a.size ≡ b.size → a.content_type ≡ b.content_type → a.etag ≡ b.etag
    → a.deleted ≡ b.deleted → a ≡ b
same-row a b names times sizes types etags states =
    λ i. record {
      name = names i;
      created_at = times i;
      size = sizes i;
      content_type = types i;
      etag = etags i;
      deleted = states i;
      is_text = is_prop→PathP (λ j. ∥ IsUtf8 (names j) ∥₁) (λ j. ∥∥₁_prop) a.is_text b.is_text i;
      is_type_text = is_prop→PathP (λ j. ∥ IsUtf8 (types j) ∥₁) (λ j. ∥∥₁_prop) a.is_type_text b.is_type_text i;
    }

one-row : (name : List ℕ) (fields : List Field) → IsOne (IsRowOf name fields)
one-row name fields a b p q =
    same-row a b (p.name_is ∙ sym q.name_is) (one-time fields a.created_at b.created_at p.time q.time)
    (same_Some a.size b.size (sym p.size ∙ q.size)) (same_Some a.content_type b.content_type (sym p.type ∙ q.type))
    (same_Some a.etag b.etag (sym p.etag ∙ q.etag)) (p.live ∙ sym q.live)

one-deleted-row : (name : List ℕ) (fields : List Field) → IsOne (IsDeletedRowOf name fields)
one-deleted-row name fields a b p q =
    same-row a b (p.name_is ∙ sym q.name_is) (one-time fields a.created_at b.created_at p.time q.time)
    (p.size ∙ sym q.size) (p.type ∙ sym q.type) (p.etag ∙ sym q.etag) (p.deleted ∙ sym q.deleted)

one-query : (query : List ℕ) → IsOne (ReadsAs query)
one-query query a b p q =
    let limits : a.limit ≡ b.limit = p.limit ∙ sym q.limit in
    let markers : a.marker ≡ b.marker = p.marker ∙ sym q.marker in
    let end_markers : a.end_marker ≡ b.end_marker = p.end_marker ∙ sym q.end_marker in
    let prefixes : a.prefix ≡ b.prefix = p.prefix ∙ sym q.prefix in
    let delimiters : a.delimiter ≡ b.delimiter = p.delimiter ∙ sym q.delimiter in
    let directions : a.reverse ≡ b.reverse = p.reverse ∙ sym q.reverse in
    let forms : a.json ≡ b.json = p.json ∙ sym q.json in
    λ i. record {
      limit = limits i;
      marker = markers i;
      end_marker = end_markers i;
      prefix = prefixes i;
      delimiter = delimiters i;
      reverse = directions i;
      json = forms i;
      is_ascii = is_prop→PathP (λ j. ForSome (delimiters j) (λ d. d < 128)) (λ j. hlevel props) a.is_ascii b.is_ascii i;
    }

-- ---- what is asked for

one-yield : (ring : Ring) (name : List ℕ) (r : Request) (verb : Verb) → IsOne (Yields ring name r verb)
one-yield ring name r verbs.Put x y p q =
    p.2 ∙ (ap (λ (time : ℕ). verdicts.Change (changes.Create time)) (one-time r.fields p.0 q.0 p.1 q.1) ∙ sym q.2)
one-yield ring name r verbs.Delete x y p q =
    p.2 ∙ (ap (λ (time : ℕ). verdicts.Change (changes.Remove time)) (one-time r.fields p.0 q.0 p.1 q.1) ∙ sym q.2)
one-yield ring name r verbs.Get x y p q =
    p.4
    ∙ (ap (λ (query : Query). verdicts.List query p.1) (one-query r.query p.0 q.0 p.2 q.2)
    ∙ (ap (λ (replica : ℕ). verdicts.List q.0 replica) (one-replica ring r.fields p.1 q.1 p.3 q.3) ∙ sym q.4))
one-yield ring name r verbs.Head x y p q =
    p.2 ∙ (ap (λ (replica : ℕ). verdicts.Info replica) (one-replica ring r.fields p.0 q.0 p.1 q.1) ∙ sym q.2)
one-yield ring name r verbs.PutRow x y p q =
    p.2 ∙ (ap (λ (row : Row). verdicts.Change (changes.MergeRow row)) (one-row name r.fields p.0 q.0 p.1 q.1) ∙ sym q.2)
one-yield ring name r verbs.DeleteRow x y p q =
    p.2 ∙ (ap (λ (row : Row). verdicts.Change (changes.MergeRow row)) (one-deleted-row name r.fields p.0 q.0 p.1 q.1) ∙ sym q.2)

one-asks : (ring : Ring) (t : Target) (r : Request) (verb : Verb) → IsOne (AsksFor ring t r verb)
one-asks ring t r verb x y p q =
    let devices : p.0 ≡ q.0 = one_place t.device ring.devices p.0 q.0 ring.distinct_names p.2 q.2 in
    let yields : p.1 ≡ q.1 = one-yield ring t.object r verb p.1 q.1 p.3 q.3 in
    p.4 ∙ (ap (λ (device : ℕ). asked_at device (place_in ring t) p.1) devices
    ∙ (ap (λ (verdict : Verdict). asked_at q.0 (place_in ring t) verdict) yields ∙ sym q.4))

one-asked : (ring : Ring) (r : Request) (verb : Option Verb) → IsOne (IsAskedWith ring r verb)
unfolding IsAskedBy
one-asked ring r None x y p q = p ∙ sym q
one-asked ring r (Some verb) x y p q =
    decided (tests ring (target_of r.path) r verb) asks.Refused (AsksFor ring (target_of r.path) r verb) (one-asks ring (target_of r.path) r verb) x y p q

pub asks_for_one : AsksForOne
asks_for_one ring r = one-asked ring r (verb_of (is_row r.path) r.method)
