-- One read of a container at the device itself.
use Rattle.std.proofs.Common.{◌≡◌, Bool, true, false, if◌then◌else◌, List, [], ◌∷◌, ◌++◌, Option, Some, None, refl, subst, Result, Ok, Err}
use Rattle.sw_container_steps.specs.Presence.{deletion_after, is_no_time}
use Rattle.sw_container_steps.specs.Reads.{where_present}
use Rattle.sw_container_steps.specs.declared.cont_answer.ContAnswer.{ContAnswer}
use Rattle.sw_container_steps.specs.declared.cont_answer.ContAnswer.TheVariants as answers
use Rattle.sw_keeper.specs.declared.tables.Tables.{Tables}
use Rattle.sw_peer.specs.Sights.{Calls, Comes, Sight}
use Rattle.sw_peer.specs.declared.link.Link.TheVariants.{Local}

-- ---- refusals

abbrev pub IsErr : {A : Type 0} → ContAnswer → Result A ContAnswer → Type 0
IsErr answer got = Err answer ≡ got

pub err-is : (A : Type 0) (a b : ContAnswer) → IsErr {A = A} a (Err b) → a ≡ b
err-is A a b is = cc

pub err-ok : {A : Type 0} (a : ContAnswer) (x : A) → IsErr a (Ok x) → ⊥
err-ok {A} a x is = cc

-- ---- one read

-- a step at the device itself came once
pub came : {A : Type 0} (step : Sight → A → Sight → Type 0) (s : Sight) (answer : A) (t : Sight) → Calls step s Local (Ok answer) t
    → Comes step s (answer ∷ []) t
came {A} step s answer t p = subst (λ (earlier : List A). Comes step s (earlier ++ answer ∷ []) t) (p.1 refl) p.2

-- what isn't told of a container is absent
pub only-absent : {A : Type 0} (t : Option Tables) (told : Tables → A) (answer : ContAnswer) → Err answer ≡ where_present t told → answer ≡ answers.Absent
only-absent {A} None told answer is = cc
only-absent {A} (Some t) told answer is = by (is_no_time (deletion_after t.put_time t.delete_time)) is
  where
    by : (present : Bool) → Err answer ≡ (if present then Ok (told t) else Err answers.Absent) → answer ≡ answers.Absent
    by true is = cc
    by false is = cc
