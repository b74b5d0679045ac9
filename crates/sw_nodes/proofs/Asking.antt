-- A request for an object asks for a write or a read: it marks no record, and drops none.
use Rattle.std.proofs.Common.{◌≡◌, ℕ, Bool, true, false, List, [], ◌∷◌, sym, refl, subst, inl, inr}
use Rattle.std.specs.Prelude.{⊤, if◌then◌else◌}
use Rattle.sw_fields.specs.Fields.{is_replicated}
use Rattle.sw_hashpath.specs.declared.name.Name.{Name}
use Rattle.sw_message.specs.declared.request.Request.{Request}
use Rattle.sw_object_server.specs.Asking.{IsAsked, tests}
use Rattle.sw_object_server.specs.Requirements.{name_of}
use Rattle.sw_object_server.specs.Steps.{AsksBy, AsksFor, delete_change, post_change, put_change}
use Rattle.sw_object_server.specs.Tests.{IsDecided}
use Rattle.sw_object_server.specs.declared.asked.Asked.{Asked}
use Rattle.sw_object_server.specs.declared.asked.Asked.TheVariants as asks
use Rattle.sw_object_server.specs.declared.verb.Verb.{Verb}
use Rattle.sw_object_server.specs.declared.verb.Verb.TheVariants as verbs
use Rattle.sw_object_steps.specs.Recorded.{is_write}
use Rattle.sw_object_steps.specs.declared.change.Change.{Change}
use Rattle.sw_ring.specs.declared.ring.Ring.{Ring}

-- where a change is asked for, it is a write
abbrev pub IsForWrite : Asked → Type 0
IsForWrite (asks.Refused status) = ⊤
IsForWrite (asks.Change device name change) = is_write change ≡ true
IsForWrite (asks.Read device name head_only) = ⊤

decided-so : {X : Type 0} (P : X → Type 0) (list : List (ℕ × Type 0)) (refusal : ℕ → X) (Else : X → Type 0) → ((n : ℕ) → P (refusal n))
    → ((x : X) → Else x → P x) → (x : X) → IsDecided list refusal Else x → P x
decided-so P [] refusal Else refused other x is = other x is
decided-so P (test ∷ list) refusal Else refused other x (inl is) = decided-so P list refusal Else refused other x is.1
decided-so P (test ∷ list) refusal Else refused other x (inr is) = subst P (sym is.1) (refused test.0)

either-write : (b : Bool) (x y : Change) → is_write x ≡ true → is_write y ≡ true → is_write (if b then x else y) ≡ true
either-write true x y p q = p
either-write false x y p q = q

-- what is asked for is this change
changes-so : (asked : Asked) (device : ℕ) (name : Name) (change : Change) → asked ≡ asks.Change device name change → is_write change ≡ true
    → IsForWrite asked
changes-so asked device name change is writes = subst IsForWrite (sym is) writes

by-verb : (verb : Verb) (device : ℕ) (name : Name) (r : Request) (asked : Asked) → AsksBy verb device name r asked → IsForWrite asked
by-verb verbs.Get device name r asked is = subst IsForWrite (sym is) tt
by-verb verbs.Head device name r asked is = subst IsForWrite (sym is) tt
by-verb verbs.Put device name r asked (time, content, timed, puts, is) =
    changes-so asked device name (put_change time content r.fields) is (either-write (is_replicated r.fields) _ _ refl refl)
by-verb verbs.Post device name r asked (time, heads, timed, has, is) =
    changes-so asked device name (post_change time r.fields heads) is (either-write (is_replicated r.fields) _ _ refl refl)
by-verb verbs.Delete device name r asked (time, timed, is) =
    changes-so asked device name (delete_change time r.fields) is (either-write (is_replicated r.fields) _ _ refl refl)

pub asks-for-write : (ring : Ring) (r : Request) (asked : Asked) → IsAsked ring r asked → IsForWrite asked
unfolding IsAsked
asks-for-write ring r asked is =
    decided-so IsForWrite (tests ring r) asks.Refused (AsksFor ring r) (λ status. tt)
    (λ x asks. by-verb asks.0 asks.1 (name_of ring r) r x asks.4) asked is
