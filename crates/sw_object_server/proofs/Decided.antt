-- What the functions that read a request tell of it, one test after the other, is what it asks for.
use Rattle.std.proofs.Common.{◌≡◌, ℕ, zero, suc, Bool, true, false, ◌||◌, ◌==◌, MatchBool, List, [], ◌∷◌, Option, Some, None, is_some, refl, sym}
use Rattle.std.proofs.Common.{ap, ◌∙◌, subst, inl, inr, true≢false, if◌then◌else◌}
use Rattle.std.proofs.lemmas.Option.{same_Some}
use Rattle.md5.specs.Md5.{md5}
use Rattle.sw_fields.specs.Fields.{IsTime, IsTimeOf, agrees_with, is_replicated, type_of}
use Rattle.sw_fields.specs.Metadata.{IsHeads}
use Rattle.sw_hashpath.specs.declared.bad_name.BadName.{BadName}
use Rattle.sw_message.specs.declared.request.Body.{Body}
use Rattle.sw_message.specs.declared.request.Body.TheVariants.{Whole, TooLarge}
use Rattle.sw_message.specs.declared.request.Request.{Request}
use Rattle.sw_ring.specs.declared.ring.Ring.{Ring}
use Rattle.sw_state.specs.declared.content.Content.{Content}
use Rattle.sw_state.specs.declared.heads.Heads.{Heads}
use Rattle.sw_object_server.proofs.OneOutcome.{listed, one-heads, one-time, same_Whole}
use Rattle.sw_object_server.specs.Asking.{IsAsked, tests}
use Rattle.sw_object_server.specs.Places.{IsDevice, is_partition_of, name_fault}
use Rattle.sw_object_server.specs.Reading.{AsksDevice, AsksName, AsksPartition, AsksVerb, Deletes, Gives, IsContent, IsTimed, IsVerdict, Lacks, Posts, Puts}
use Rattle.sw_object_server.specs.Reading.{PutsBody, PutsHeads, PutsType, asked_at}
use Rattle.sw_object_server.specs.Requirements.{HasMetadata, IsChange, IsForObjects, IsVerb, TakesMetadata, expiry_text, is_second_in, name_of}
use Rattle.sw_object_server.specs.Steps.{AsksBy, AsksFor, delete_change, post_change, put_change}
use Rattle.sw_object_server.specs.Targets.{parts_of, verb_of}
use Rattle.sw_object_server.specs.Tests.{IsDecided}
use Rattle.sw_object_server.specs.declared.asked.Asked.{Asked}
use Rattle.sw_object_server.specs.declared.asked.Asked.TheVariants as asks
use Rattle.sw_object_server.specs.declared.verb.Verb.{Verb}
use Rattle.sw_object_server.specs.declared.verb.Verb.TheVariants as verbs
use Rattle.sw_object_server.specs.declared.verdict.Verdict.{Verdict}
use Rattle.sw_object_server.specs.declared.verdict.Verdict.TheVariants as verdicts

-- ---- verbs

-- a number for each verb
abbrev rank : Verb → ℕ
rank verbs.Put = 0
rank verbs.Get = 1
rank verbs.Head = 2
rank verbs.Post = 3
rank verbs.Delete = 4

same-rank : (verb : Verb) → (rank verb == rank verb) ≡ true
same-rank verbs.Put = refl
same-rank verbs.Get = refl
same-rank verbs.Head = refl
same-rank verbs.Post = refl
same-rank verbs.Delete = refl

-- a method isn't two verbs
other : (r : Request) (a b : Verb) → (rank a == rank b) ≡ false → IsVerb a r → IsVerb b r → ⊥
other r a b differ p q =
    let same : a ≡ b = same_Some a b (sym p ∙ q) in
    true≢false (sym (same-rank a) ∙ (ap (λ (verb : Verb). rank a == rank verb) same ∙ differ))

-- ---- bodies

large_whole : (a : List ℕ) → TooLarge ≡ Whole a → ⊥
large_whole a same = cc

-- ---- the tests from one on

abbrev behind : ℕ → List (ℕ × Type 0) → List (ℕ × Type 0)
behind zero list = list
behind (suc n) [] = []
behind (suc n) (test ∷ list) = behind n list

-- those behind the first n decide
abbrev Behind : Ring → Request → ℕ → Asked → Type 0
Behind ring r n = IsDecided (behind n (tests ring r)) asks.Refused (AsksFor ring r)

module _ (ring : Ring) (r : Request) (device : ℕ) (found : IsDevice ring (parts_of r.path).device (Some device)) (asked : Asked) where
  -- neither a PUT nor a POST nor a DELETE: only the step is left
  reads : (verb : Verb) → (rank verb == 0) ≡ false → (rank verb == 3) ≡ false → (rank verb == 4) ≡ false
      → IsVerb verb r → AsksBy verb device (name_of ring r) r asked → Behind ring r 5 asked
  reads verb not_put not_post not_delete is by =
      inl (
        λ change. absurd (no_change change),
        inl (
          λ put. absurd (other r verb verbs.Put not_put is put),
          inl (
            λ put. absurd (other r verb verbs.Put not_put is put),
            inl (
              λ put. absurd (other r verb verbs.Put not_put is put),
              inl (
                λ takes. absurd (no_takes takes),
                inl (
                  λ put. absurd (other r verb verbs.Put not_put is put),
                  inl (
                    λ delete. absurd (other r verb verbs.Delete not_delete is delete),
                    (verb, device, is, found, by),
                  ),
                ),
              ),
            ),
          ),
        ),
      )
    where
      no_takes : TakesMetadata r → ⊥
      no_takes (inl put) = other r verb verbs.Put not_put is put
      no_takes (inr post) = other r verb verbs.Post not_post is post

      no_change : IsChange r → ⊥
      no_change (inl takes) = no_takes takes
      no_change (inr delete) = other r verb verbs.Delete not_delete is delete

  deletes : IsVerb verbs.Delete r → (verdict : Verdict) → IsTimed r.fields (Deletes r) verdict → asked ≡ asked_at device (name_of ring r) verdict
      → Behind ring r 5 asked
  deletes is verdict timed asked_is = by timed.0 timed.1 timed.2
    where
      no_put : IsVerb verbs.Put r → ⊥
      no_put = other r verbs.Delete verbs.Put refl is

      no_takes : TakesMetadata r → ⊥
      no_takes (inl put) = no_put put
      no_takes (inr post) = other r verbs.Delete verbs.Post refl is post

      refused : (status : ℕ) → verdict ≡ verdicts.Refused status → asked ≡ asks.Refused status
      refused status e = asked_is ∙ ap (asked_at device (name_of ring r)) e

      last : (time : ℕ) → IsTimeOf r.fields time → (plain : Bool) → (is_replicated r.fields || is_second_in (expiry_text r.fields)) ≡ plain
          → MatchBool plain (verdict ≡ verdicts.Change (delete_change time r.fields)) (verdict ≡ verdicts.Refused 400) → Behind ring r 11 asked
      last time at true plain e =
          inl (λ delete. plain, (verbs.Delete, device, is, found, (time, at, asked_is ∙ ap (asked_at device (name_of ring r)) e)))
      last time at false plain e = inr (λ asks. true≢false (sym (asks is) ∙ plain), refused 400 e)

      by : (time : Option ℕ) → IsTime r.fields time → Gives time (verdicts.Refused 400) (Deletes r) verdict → Behind ring r 5 asked
      by None none e = inr (λ has. let t = has (inr is) in none t.0 t.1, refused 400 e)
      by (Some time) at e =
          inl (
            λ change. (time, at),
            inl (
              λ put. absurd (no_put put),
              inl (
                λ put. absurd (no_put put),
                inl (
                  λ put. absurd (no_put put),
                  inl (
                    λ takes. absurd (no_takes takes),
                    inl (
                      λ put. absurd (no_put put),
                      last time at (is_replicated r.fields || is_second_in (expiry_text r.fields)) refl e,
                    ),
                  ),
                ),
              ),
            ),
          )

  -- a time and metadata are those that the fields give
  no_heads : (time : ℕ) → IsTimeOf r.fields time → IsHeads time (name_of ring r) r.fields None → HasMetadata ring r → ⊥
  no_heads time at none has =
      let times : has.0 ≡ time = same_Some has.0 time (one-time r.fields (Some has.0) (Some time) has.2 at) in
      let heads : IsHeads time (name_of ring r) r.fields (Some has.1) = subst (λ (t : ℕ). IsHeads t (name_of ring r) r.fields (Some has.1)) times has.3 in
      true≢false (ap is_some (one-heads time (name_of ring r) r.fields (Some has.1) None heads none))

  posts : IsVerb verbs.Post r → (verdict : Verdict) → IsTimed r.fields (Posts (name_of ring r) r) verdict → asked ≡ asked_at device (name_of ring r) verdict
      → Behind ring r 5 asked
  posts is verdict timed asked_is = by timed.0 timed.1 timed.2
    where
      no_put : IsVerb verbs.Put r → ⊥
      no_put = other r verbs.Post verbs.Put refl is

      refused : (status : ℕ) → verdict ≡ verdicts.Refused status → asked ≡ asks.Refused status
      refused status e = asked_is ∙ ap (asked_at device (name_of ring r)) e

      by_heads : (time : ℕ) → IsTimeOf r.fields time → (heads : Option Heads) → IsHeads time (name_of ring r) r.fields heads
          → Gives heads (verdicts.Refused 400) (λ heads verdict. verdict ≡ verdicts.Change (post_change time r.fields heads)) verdict → Behind ring r 9 asked
      by_heads time at None none e = inr (λ has. no_heads time at none (has (inr is)), refused 400 e)
      by_heads time at (Some heads) are e =
          inl (
            λ takes. (time, heads, at, are),
            inl (
              λ put. absurd (no_put put),
              inl (
                λ delete. absurd (other r verbs.Post verbs.Delete refl is delete),
                (verbs.Post, device, is, found, (time, heads, at, are, asked_is ∙ ap (asked_at device (name_of ring r)) e)),
              ),
            ),
          )

      by : (time : Option ℕ) → IsTime r.fields time → Gives time (verdicts.Refused 400) (Posts (name_of ring r) r) verdict → Behind ring r 5 asked
      by None none e = inr (λ has. let t = has (inl (inr is)) in none t.0 t.1, refused 400 e)
      by (Some time) at e =
          inl (
            λ change. (time, at),
            inl (
              λ put. absurd (no_put put),
              inl (
                λ put. absurd (no_put put),
                inl (
                  λ put. absurd (no_put put),
                  by_heads time at e.0 e.1 e.2,
                ),
              ),
            ),
          )

  puts : IsVerb verbs.Put r → (verdict : Verdict) → IsTimed r.fields (Puts (name_of ring r) r) verdict → asked ≡ asked_at device (name_of ring r) verdict
      → Behind ring r 5 asked
  puts is verdict timed asked_is = by timed.0 timed.1 timed.2
    where
      refused : (status : ℕ) → verdict ≡ verdicts.Refused status → asked ≡ asks.Refused status
      refused status e = asked_is ∙ ap (asked_at device (name_of ring r)) e

      by_digest : (time : ℕ) → IsTimeOf r.fields time → (body type : List ℕ) → r.body ≡ Whole body → type_of r.fields ≡ Some type
          → (heads : Heads) → IsHeads time (name_of ring r) r.fields (Some heads) → (content : Content) → IsContent content body type heads
          → (agrees : Bool) → agrees_with content.etag r.fields ≡ agrees
          → verdict ≡ (if agrees then verdicts.Change (put_change time content r.fields) else verdicts.Refused 422) → Behind ring r 10 asked
      by_digest time at body type body_is type_is heads are content c true agrees e =
          inl (
            λ put. λ other_body other_is.
                let bodies : other_body ≡ body = same_Whole other_body body (sym other_is ∙ body_is) in
                let etag : content.etag ≡ md5 other_body = c.etag_is ∙ ap md5 (sym bodies) in
                subst (λ (digest : List ℕ). agrees_with digest r.fields ≡ true) etag agrees,
            inl (
              λ delete. absurd (other r verbs.Put verbs.Delete refl is delete),
              (
                verbs.Put,
                device,
                is,
                found,
                (
                  time,
                  content,
                  at,
                  record {
                    body = body_is ∙ ap Whole (sym c.body_is);
                    type = type_is ∙ ap Some (sym c.type_is);
                    etag = c.etag_is ∙ ap md5 (sym c.body_is);
                    heads = subst (λ (h : Heads). IsHeads time (name_of ring r) r.fields (Some h)) (sym c.heads_are) are;
                  },
                  asked_is ∙ ap (asked_at device (name_of ring r)) e,
                ),
              ),
            ),
          )
      by_digest time at body type body_is type_is heads are content c false agrees e =
          inr (
            λ has.
                let right : agrees_with content.etag r.fields ≡ true =
                subst (λ (digest : List ℕ). agrees_with digest r.fields ≡ true) (sym c.etag_is) (has is body body_is) in
                true≢false (sym right ∙ agrees),
            refused 422 e,
          )

      by_heads : (time : ℕ) → IsTimeOf r.fields time → (body type : List ℕ) → r.body ≡ Whole body → type_of r.fields ≡ Some type
          → (heads : Option Heads) → IsHeads time (name_of ring r) r.fields heads
          → Gives heads (verdicts.Refused 400) (PutsHeads time body type r.fields) verdict → Behind ring r 9 asked
      by_heads time at body type body_is type_is None none e = inr (λ has. no_heads time at none (has (inl is)), refused 400 e)
      by_heads time at body type body_is type_is (Some heads) are e =
          inl (
            λ takes. (time, heads, at, are),
            by_digest time at body type body_is type_is heads are e.0 e.1 (agrees_with e.0.etag r.fields) refl e.2,
          )

      by_type : (time : ℕ) → IsTimeOf r.fields time → (body : List ℕ) → r.body ≡ Whole body → (type : Option (List ℕ)) → type_of r.fields ≡ type
          → Gives type (verdicts.Refused 400) (PutsType time (name_of ring r) body r.fields) verdict → Behind ring r 8 asked
      by_type time at body body_is None none e = inr (λ has. true≢false (sym (has is) ∙ ap is_some none), refused 400 e)
      by_type time at body body_is (Some type) type_is e =
          inl (
            λ put. ap is_some type_is,
            by_heads time at body type body_is type_is e.0 e.1 e.2,
          )

      by_body : (time : ℕ) → IsTimeOf r.fields time → (body : Body) → r.body ≡ body → PutsBody time (name_of ring r) r.fields body verdict
          → Behind ring r 7 asked
      by_body time at TooLarge large e = inr (λ small. let b = small is in large_whole b.0 (sym large ∙ b.1), refused 413 e)
      by_body time at (Whole body) body_is e =
          inl (
            λ put. (body, body_is),
            by_type time at body body_is (type_of r.fields) refl e,
          )

      by_length : (time : ℕ) → IsTimeOf r.fields time → (framed : Bool) → r.framed ≡ framed
          → MatchBool framed (PutsBody time (name_of ring r) r.fields r.body verdict) (verdict ≡ verdicts.Refused 411) → Behind ring r 6 asked
      by_length time at false framed e = inr (λ has. true≢false (sym (has is) ∙ framed), refused 411 e)
      by_length time at true framed e =
          inl (
            λ put. framed,
            by_body time at r.body refl e,
          )

      by : (time : Option ℕ) → IsTime r.fields time → Gives time (verdicts.Refused 400) (Puts (name_of ring r) r) verdict → Behind ring r 5 asked
      by None none e = inr (λ has. let t = has (inl (inl is)) in none t.0 t.1, refused 400 e)
      by (Some time) at e =
          inl (
            λ change. (time, at),
            by_length time at r.framed refl e,
          )

  by_verb : (verb : Verb) → IsVerb verb r → (verdict : Verdict) → IsVerdict verb (name_of ring r) r verdict → asked ≡ asked_at device (name_of ring r) verdict
      → Behind ring r 5 asked
  by_verb verbs.Get is verdict e asked_is = reads verbs.Get refl refl refl is (asked_is ∙ ap (asked_at device (name_of ring r)) e)
  by_verb verbs.Head is verdict e asked_is = reads verbs.Head refl refl refl is (asked_is ∙ ap (asked_at device (name_of ring r)) e)
  by_verb verbs.Put is verdict e asked_is = puts is verdict e asked_is
  by_verb verbs.Post is verdict e asked_is = posts is verdict e asked_is
  by_verb verbs.Delete is verdict e asked_is = deletes is verdict e asked_is

-- ---- the target

-- a request for objects with this verb asks for what its target is told to ask for
pub by_target : (ring : Ring) (r : Request) (verb : Verb) (asked : Asked) → IsForObjects r → IsVerb verb r
    → AsksName ring (parts_of r.path) r verb asked → IsAsked ring r asked
unfolding IsAsked
by_target ring r verb asked objects is name =
    inl (
      objects,
      inl (
        ap is_some is,
        by_name (name_fault (parts_of r.path)) refl name,
      ),
    )
  where
    by_partition : (device : ℕ) → IsDevice ring (parts_of r.path).device (Some device)
        → (here : Bool) → is_partition_of ring (name_of ring r) (parts_of r.path).partition ≡ here
        → MatchBool here (AsksVerb verb device (name_of ring r) r asked) (asked ≡ asks.Refused 400) → Behind ring r 4 asked
    by_partition device found false here e = inr (λ is_here. true≢false (sym is_here ∙ here), e)
    by_partition device found true here e = inl (here, by_verb ring r device found asked verb is e.0 e.1 e.2)

    by_device : (device : Option ℕ) → IsDevice ring (parts_of r.path).device device
        → Gives device (asks.Refused 404) (AsksPartition ring (parts_of r.path) verb (name_of ring r) r) asked → Behind ring r 3 asked
    by_device None none e = inr (none, e)
    by_device (Some device) found e =
        inl (
          listed ring.devices (parts_of r.path).device device found,
          by_partition device found (is_partition_of ring (name_of ring r) (parts_of r.path).partition) refl e,
        )

    by_name : (fault : Option BadName) → name_fault (parts_of r.path) ≡ fault
        → Lacks fault (asks.Refused 400) (AsksDevice ring (parts_of r.path) verb (name_of ring r) r) asked → Behind ring r 2 asked
    by_name (Some bad) is_bad e = inr (λ good. true≢false (ap is_some (sym is_bad ∙ good)), e)
    by_name None good e = inl (good, by_device e.0 e.1 e.2)

-- a request that isn't for objects is refused
pub for_others : (ring : Ring) (r : Request) → (IsForObjects r → ⊥) → IsAsked ring r (asks.Refused 400)
unfolding IsAsked
for_others ring r others = inr (others, refl)

-- and so is one of another method
pub of_no_verb : (ring : Ring) (r : Request) → IsForObjects r → verb_of r.method ≡ None → IsAsked ring r (asks.Refused 405)
unfolding IsAsked
of_no_verb ring r objects none = inl (objects, inr (λ has. true≢false (sym has ∙ ap is_some none), refl))
