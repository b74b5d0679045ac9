-- A state to which only writes of another one came, and that is at least it, is their join.
use Rattle.std.proofs.Common.{◌≡◌, List, [], ◌++◌, refl, sym, ◌∙◌, ap, inl, inr, Option, Some, None}
use Rattle.std.proofs.lemmas.List.Elements.{All-contains, All-from_recursion, Contains-append_cases, Contains-append_right}
use Rattle.std.specs.List.{All, AllByRecursion}
use Rattle.std.specs.Prelude.{Contains}
use Rattle.sw_state.proofs.OneState.{state_of_set}
use Rattle.sw_state.proofs.StateLaws.{associates, joins_lists, state_of-writes_of}
use Rattle.sw_state.specs.Metas.{Meta}
use Rattle.sw_state.specs.States.{Agree, IsAtLeast, base_writes, meta_writes, state_of, together, writes_of}
use Rattle.sw_state.specs.Writes.{tag_of}
use Rattle.sw_state.specs.declared.base.Base.{Base}
use Rattle.sw_state.specs.declared.base.Base.TheVariants as bases
use Rattle.sw_state.specs.declared.state.State.{State}
use Rattle.sw_state.specs.declared.write.Write.{Write}

-- these are writes of the state
abbrev pub AreOf : State → List Write → Type 0
AreOf s ws = All (Contains (writes_of s)) ws

-- ---- the writes of a state agree

abbrev DoAgree : Write → Write → Type 0
DoAgree v w = v.time ≡ w.time → tag_of v.kind ≡ tag_of w.kind → v ≡ w

agree-all : (ws : List Write) → AllByRecursion (λ v. AllByRecursion (DoAgree v) ws) ws → Agree ws
agree-all ws all v w has has' =
    All-contains (DoAgree v) ws w (All-from_recursion (DoAgree v) ws
    (All-contains (λ v. AllByRecursion (DoAgree v) ws) ws v (All-from_recursion (λ v. AllByRecursion (DoAgree v) ws) ws all) has)) has'

agree-own : (b : Option Base) (m : Option Meta) → Agree (base_writes b ++ meta_writes m)
agree-own None None = agree-all [] tt
agree-own None (Some m) = agree-all (meta_writes (Some m)) ((λ t g. refl, tt), tt)
agree-own (Some (bases.Put time content)) None = agree-all (base_writes (Some (bases.Put time content))) ((λ t g. refl, tt), tt)
agree-own (Some (bases.Del time)) None = agree-all (base_writes (Some (bases.Del time))) ((λ t g. refl, tt), tt)
agree-own (Some (bases.Put time content)) (Some m) =
    agree-all (base_writes (Some (bases.Put time content)) ++ meta_writes (Some m))
    ((λ t g. refl, (λ t g. cc, tt)), ((λ t g. cc, (λ t g. refl, tt)), tt))
agree-own (Some (bases.Del time)) (Some m) =
    agree-all (base_writes (Some (bases.Del time)) ++ meta_writes (Some m))
    ((λ t g. refl, (λ t g. cc, tt)), ((λ t g. cc, (λ t g. refl, tt)), tt))

-- ---- joining

-- writes of a state that come before it add nothing
own-adds-nothing : (s : State) (ws : List Write) → AreOf s ws → together (state_of ws) s ≡ s
own-adds-nothing s ws are =
    ap (together (state_of ws)) (sym (state_of-writes_of s))
    ∙ (joins_lists ws (writes_of s)
    ∙ (sym (state_of_set (writes_of s) (ws ++ writes_of s) (agree-own s.base s.meta) (λ w. (Contains-append_right ws (writes_of s) w, back w)))
    ∙ state_of-writes_of s))
  where
    back : (w : Write) → Contains (ws ++ writes_of s) w → Contains (writes_of s) w
    back w has =
        elim (Contains-append_cases ws (writes_of s) w has) [
          | inl sent ↦ All-contains (Contains (writes_of s)) ws w are sent
          | inr own ↦ own
        ]

pub joined-exactly : (old new s : State) (ws : List Write) → AreOf s ws → new ≡ together old (state_of ws) → IsAtLeast new s → new ≡ together old s
joined-exactly old new s ws are is least =
    sym least
    ∙ (ap (λ (x : State). together x s) is
    ∙ (associates old (state_of ws) s ∙ ap (together old) (own-adds-nothing s ws are)))
