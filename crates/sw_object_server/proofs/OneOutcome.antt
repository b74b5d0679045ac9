-- A request asks for one thing, and what was got has one reply: each test has one outcome.
use Rattle.std.proofs.Common.{◌≡◌, ℕ, Bool, true, false, MatchBool, List, [], ◌∷◌, Option, Some, None, slice_get, Contains, refl, sym, ap, ◌∙◌, subst, inl, inr}
use Rattle.std.proofs.Props.{props}
use Rattle.std.proofs.lemmas.Option.{get_or_from_slice_get, same_Some, slice_get_within}
use Rattle.std.specs.Option.{option_map}
use Rattle.std.specs.Str.{IsUtf8}
use mathlib.Core.HLevel.{is_prop→PathP}
use mathlib.Core.Logic.{∥∥₁_prop}
use Rattle.md5.specs.Md5.{md5}
use Rattle.httpdate.proofs.Theorems.{unix_secs_injective}
use Rattle.httpdate.specs.Text.{imf_fixdate}
use Rattle.sw_fields.specs.Expiry.{is_expired}
use Rattle.sw_fields.specs.Fields.{IsTime, IsTimeOf}
use Rattle.sw_fields.specs.Metadata.{IsHeads, data_of}
use Rattle.sw_hashpath.specs.declared.name.Name.{Name}
use Rattle.sw_message.specs.declared.fields.Field.{Field}
use Rattle.sw_message.specs.declared.request.Body.TheVariants.{Whole}
use Rattle.sw_message.specs.declared.request.Request.{Request}
use Rattle.sw_object_steps.specs.declared.got.Got.TheVariants as gots
use Rattle.sw_ring.proofs.Repeats.{one_place}
use Rattle.sw_ring.specs.declared.ring.Ring.{Ring}
use Rattle.sw_state.specs.DeleteTimes.{is_delete_time}
use Rattle.sw_state.specs.declared.content.Content.{Content}
use Rattle.sw_state.specs.declared.heads.Heads.{Heads}
use Rattle.sw_timestamp.proofs.TimeTextLemmas.{reads_as_one}
use Rattle.sw_timestamp.specs.TimeText.{IsTimeText}
use Rattle.sw_object_server.specs.Asking.{IsAsked, tests}
use Rattle.sw_object_server.specs.Laws.{AsksForOne, HasOneDate, HasOneReply}
use Rattle.sw_object_server.specs.Places.{IsDevice}
use Rattle.sw_object_server.specs.Replies.{bare}
use Rattle.sw_object_server.specs.Requirements.{name_of}
use Rattle.sw_object_server.specs.Showing.{IsFound, found}
use Rattle.sw_object_server.specs.Steps.{AsksBy, AsksFor, PutsContent, delete_change, post_change, put_change}
use Rattle.sw_object_server.specs.Targets.{parts_of}
use Rattle.sw_object_server.specs.Tests.{IsDecided}
use Rattle.sw_object_server.specs.declared.asked.Asked.TheVariants as asks
use Rattle.sw_object_server.specs.declared.verb.Verb.{Verb}
use Rattle.sw_object_server.specs.declared.verb.Verb.TheVariants as verbs

-- at most one value has this
abbrev IsOne : {X : Type 0} → (X → Type 0) → Type 0
IsOne {X} P = (x y : X) → P x → P y → x ≡ y

-- ---- tests in a row

decided : {X : Type 0} (list : List (ℕ × Type 0)) (refusal : ℕ → X) (Else : X → Type 0) → IsOne Else → IsOne (IsDecided list refusal Else)
decided [] refusal Else one x y p q = one x y p q
decided (test ∷ list) refusal Else one x y (inl p) (inl q) = decided list refusal Else one x y p.1 q.1
decided (test ∷ list) refusal Else one x y (inl p) (inr q) = absurd (q.0 p.0)
decided (test ∷ list) refusal Else one x y (inr p) (inl q) = absurd (p.0 q.0)
decided (test ∷ list) refusal Else one x y (inr p) (inr q) = p.1 ∙ sym q.1

-- ---- a device, a time and metadata

pub listed : (xs : List (List ℕ)) (n : List ℕ) (i : ℕ) → slice_get xs i ≡ Some n → Contains xs n
listed xs n i at = (i, slice_get_within xs i n at, get_or_from_slice_get xs i n n at)

one-device : (ring : Ring) (name : List ℕ) → IsOne (IsDevice ring name)
one-device ring name None None p q = refl
one-device ring name None (Some j) p q = absurd (p (listed ring.devices name j q))
one-device ring name (Some i) None p q = absurd (q (listed ring.devices name i p))
one-device ring name (Some i) (Some j) p q = ap Some (one_place name ring.devices i j ring.distinct_names p q)

pub one-time : (fields : List Field) → IsOne (IsTime fields)
one-time fields None None p q = refl
one-time fields None (Some t) p q = absurd (p t q)
one-time fields (Some t) None p q = absurd (q t p)
one-time fields (Some t) (Some u) p q =
    let texts : p.0 ≡ q.0 = same_Some p.0 q.0 (sym p.1 ∙ q.1) in
    ap Some (reads_as_one q.0 t u (subst (λ (text : List ℕ). IsTimeText text t) texts p.2) q.2)

same-heads : (a b : Heads) → data_of a ≡ data_of b → a ≡ b
same-heads a b e =
    let seconds : a.delete_at ≡ b.delete_at = ap (λ d. d.0) e in
    let items : a.items ≡ b.items = ap (λ d. d.1) e in
    λ i. record {
      delete_at = seconds i;
      items = items i;
      in_range = is_prop→PathP (λ j. is_delete_time (seconds j) ≡ true) (λ j. hlevel props) a.in_range b.in_range i;
    }

same-option : (a b : Option Heads) → option_map data_of a ≡ option_map data_of b → a ≡ b
same-option None None e = refl
same-option None (Some b) e = cc
same-option (Some a) None e = cc
same-option (Some a) (Some b) e = ap Some (same-heads a b (same_Some (data_of a) (data_of b) e))

pub one-heads : (time : ℕ) (name : Name) (fields : List Field) → IsOne (IsHeads time name fields)
one-heads time name fields a b p q = same-option a b (p ∙ sym q)

-- a body that is whole is one
pub same_Whole : (a b : List ℕ) → Whole a ≡ Whole b → a ≡ b
same_Whole a b same = cc

-- ---- what a request asks for

one-content : (time : ℕ) (name : Name) (r : Request) → IsOne (PutsContent time name r)
one-content time name r a b p q =
    let bodies : a.body ≡ b.body = same_Whole a.body b.body (sym p.body ∙ q.body) in
    let types : a.content_type ≡ b.content_type = same_Some a.content_type b.content_type (sym p.type ∙ q.type) in
    let digests : a.etag ≡ b.etag = p.etag ∙ (ap md5 bodies ∙ sym q.etag) in
    let all : a.heads ≡ b.heads = same_Some a.heads b.heads (one-heads time name r.fields (Some a.heads) (Some b.heads) p.heads q.heads) in
    λ i. record {
      body = bodies i;
      content_type = types i;
      etag = digests i;
      heads = all i;
      is_text = is_prop→PathP (λ j. ∥ IsUtf8 (types j) ∥₁) (λ j. ∥∥₁_prop) a.is_text b.is_text i;
    }

same-time : (fields : List Field) (a b : ℕ) → IsTimeOf fields a → IsTimeOf fields b → a ≡ b
same-time fields a b p q = same_Some a b (one-time fields (Some a) (Some b) p q)

one-step : (verb : Verb) (device : ℕ) (name : Name) (r : Request) → IsOne (AsksBy verb device name r)
one-step verbs.Get device name r x y p q = p ∙ sym q
one-step verbs.Head device name r x y p q = p ∙ sym q
one-step verbs.Put device name r x y p q =
    let times : q.0 ≡ p.0 = same-time r.fields q.0 p.0 q.2 p.2 in
    let contents : p.1 ≡ q.1 = one-content p.0 name r p.1 q.1 p.3 (subst (λ (t : ℕ). PutsContent t name r q.1) times q.3) in
    p.4 ∙ (ap (λ (c : Content). asks.Change device name (put_change p.0 c r.fields)) contents
    ∙ (ap (λ (t : ℕ). asks.Change device name (put_change t q.1 r.fields)) (sym times) ∙ sym q.4))
one-step verbs.Post device name r x y p q =
    let times : q.0 ≡ p.0 = same-time r.fields q.0 p.0 q.2 p.2 in
    let heads : p.1 ≡ q.1 = same_Some p.1 q.1 (one-heads p.0 name r.fields (Some p.1) (Some q.1) p.3
    (subst (λ (t : ℕ). IsHeads t name r.fields (Some q.1)) times q.3)) in
    p.4 ∙ (ap (λ (h : Heads). asks.Change device name (post_change p.0 r.fields h)) heads
    ∙ (ap (λ (t : ℕ). asks.Change device name (post_change t r.fields q.1)) (sym times) ∙ sym q.4))
one-step verbs.Delete device name r x y p q =
    p.2 ∙ (ap (λ (t : ℕ). asks.Change device name (delete_change t r.fields)) (same-time r.fields p.0 q.0 p.1 q.1) ∙ sym q.2)

one-asks : (ring : Ring) (r : Request) → IsOne (AsksFor ring r)
one-asks ring r x y p q =
    let by : ℕ → Verb → Type 0 = λ device verb. AsksBy verb device (name_of ring r) r y in
    let verb : q.0 ≡ p.0 = same_Some q.0 p.0 (sym q.2 ∙ p.2) in
    let device : q.1 ≡ p.1 = same_Some q.1 p.1 (one-device ring (parts_of r.path).device (Some q.1) (Some p.1) q.3 p.3) in
    one-step p.0 p.1 (name_of ring r) r x y p.4 (subst (by p.1) verb (subst (λ (d : ℕ). by d q.0) device q.4))

pub asks_for_one : AsksForOne
unfolding IsAsked
asks_for_one ring r = decided (tests ring r) asks.Refused (AsksFor ring r) (one-asks ring r)

-- ---- replies

pub has_one_date : HasOneDate
has_one_date time text other p q =
    let days = unix_secs_injective p.0 q.0 (p.1 ∙ sym q.1) in
    p.2 ∙ (ap imf_fixdate days ∙ sym q.2)

one-found : (time : ℕ) (content : Content) (heads : Heads) (head_only : Bool) → IsOne (IsFound time content heads head_only)
one-found time content heads head_only x y p q =
    p.2 ∙ (ap (λ (date : List ℕ). found time date content heads head_only) (has_one_date time p.0 q.0 p.1 q.1) ∙ sym q.2)

pub has_one_reply : HasOneReply
has_one_reply (gots.Found time content heads front) moment head_only x y p q = by (is_expired heads moment) p q
  where
    by : (expired : Bool) → MatchBool expired (x ≡ bare 404) (IsFound time content heads head_only x)
        → MatchBool expired (y ≡ bare 404) (IsFound time content heads head_only y) → x ≡ y
    by true p q = p ∙ sym q
    by false p q = one-found time content heads head_only x y p q
has_one_reply (gots.NotFound time) moment head_only x y p q = p ∙ sym q
has_one_reply (gots.Damaged bad) moment head_only x y p q = p ∙ sym q
has_one_reply gots.Failed moment head_only x y p q = p ∙ sym q
has_one_reply gots.NoMemory moment head_only x y p q = p ∙ sym q
