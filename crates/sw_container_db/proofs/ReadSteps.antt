-- A read of one container, over what was seen of it once its tables were loaded.
use Rattle.std.proofs.Common.{◌≡◌, ◌≢◌, ℕ, Bool, true, List, [], ◌∷◌, ◌++◌, length, Option, sym, ◌∙◌, ap, Result, Err}
use Rattle.sw_hashpath.specs.declared.place.Place.{Place}
use Rattle.sw_keeper.specs.declared.tables.Tables.{Tables}
use Rattle.sw_history.specs.Halves.{GrowsOf}
use Rattle.sw_outside.specs.Faults.{HasRisen}
use Rattle.sw_step.specs.Rules.{CanStand, Fails}
use Rattle.sw_step.specs.Steps.{OnlySettles, Tells}
use Rattle.sw_container_steps.specs.Rules.{cont_ending, cont_look, cont_rules, look_by}
use Rattle.sw_container_steps.specs.declared.cont_answer.ContAnswer.{ContAnswer}
use Rattle.sw_container_db.specs.Calling.{Seen}
use Rattle.sw_container_db.specs.ContDirs.{ContKept, cont_history_of}
use Rattle.sw_container_db.specs.LoadedList.{tables_at}
use Rattle.sw_container_db.specs.Stepping.{IsReadStep}
use Rattle.sw_container_db.specs.declared.loaded_list.Loaded.{Loaded}
use Rattle.sw_container_db.proofs.Ends.{reads, reads-none}
use Rattle.sw_container_db.proofs.Fresh.{IsKept}

module _ {K : Type 0} (tells : K → Bool) (holds : K → Place → Option Tables) (faults : K → ℕ) (k n : ContKept K) (place : Place)
    (began : n.began ≡ k.began) (told : tells n.keeper ≡ tells k.keeper) (fresh : IsKept k.journal.entries k.fresh n.journal.entries n.fresh)
    (same : tells k.keeper ≡ true → (p : Place) → holds n.keeper p ≡ holds k.keeper p)
    (grows : GrowsOf (cont_history_of tells holds faults k) (cont_history_of tells holds faults n))
    (settles : OnlySettles cont_rules (λ (p : Place). true) (cont_history_of tells holds faults k) (cont_history_of tells holds faults n))
    (fits : tells n.began ≡ true → (p : Place) → CanStand cont_rules (cont_history_of tells holds faults n) p (holds n.keeper p)) where
  -- the tables that were used last, once those of the place were read
  pub seen-known : (calls : K → ℕ) → Seen tells holds faults calls k place n → (t : Option Tables)
      → ((others : List Loaded) (l : Loaded) → n.loaded ≡ others ++ l ∷ [] → t ≡ l.tables) → tells n.keeper ≡ true → t ≡ holds n.keeper place
  seen-known calls seen t shown tell = shown _ (tables_at place seen.read) seen.looked.loaded
      ∙ (seen.is_read.known (sym told ∙ tell) ∙ sym (same (sym told ∙ tell) place))

  -- the tables were there, and this is what is read of them
  pub read-step : {B : Type 0} (t : Option Tables) (reading : Option Tables → ℕ → Result B ContAnswer) (got : Result B ContAnswer) →
      tells k.keeper ≡ tells k.began → n.journal.doubts ≡ [] → (tells n.keeper ≡ true → t ≡ holds n.keeper place)
      → got ≡ reading t (length n.journal.entries) → cont_look got ≡ Tells → IsReadStep tells holds faults k place reading got n
  read-step t reading got tied none known shown is = record {
    same = record { began = began; told = told; fresh = fresh };
    all = same;
    read = reads (cont_history_of tells holds faults k) (cont_history_of tells holds faults n) place (holds n.keeper) reading grows settles fits t got none
        (λ tell. known (told ∙ (tied ∙ (sym (ap tells began) ∙ tell)))) shown is;
  }

  -- they weren't
  pub read-none : {B : Type 0} (reading : Option Tables → ℕ → Result B ContAnswer) (answer : ContAnswer) → look_by (cont_ending answer) ≢ Tells
      → (cont_ending answer ≡ Fails → HasRisen (faults k.keeper) (faults n.keeper)) → IsReadStep tells holds faults k place reading (Err answer) n
  read-none reading answer fault cause = record {
    same = record { began = began; told = told; fresh = fresh };
    all = same;
    read = reads-none (cont_history_of tells holds faults k) (cont_history_of tells holds faults n) place (holds n.keeper) reading grows settles fits answer
        fault cause;
  }
