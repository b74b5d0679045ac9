-- What stands as late as a time stays so, whatever is written.
use Rattle.std.proofs.Common.{◌≡◌, ℕ, Bool, true, false, List, [], ◌∷◌, Option, None, Some, refl, sym, ◌∙◌, ap, arith, inl, inr}
use Rattle.std.proofs.lemmas.Bool.{cases_Bool}
use Rattle.std.proofs.lemmas.Bool.Decides.{nat_tests}
use Rattle.std.specs.List.{fold}
use Rattle.std.specs.Option.{option_map}
use Rattle.std.specs.Prelude.{nat_lt, ◌&&◌, ◌||◌, ◌==◌, not}
use Rattle.sw_history.specs.Halves.{GrowsOf}
use Rattle.sw_object_steps.proofs.Recording.{state-left, state_by}
use Rattle.sw_object_steps.proofs.Ruling.{are-rules}
use Rattle.sw_object_steps.specs.Journals.{Hash}
use Rattle.sw_object_steps.specs.Outlines.{is_before, mark_of, mark_time}
use Rattle.sw_object_steps.specs.Recorded.{is_gone}
use Rattle.sw_object_steps.specs.Rules.{ObjHistory, obj_rules}
use Rattle.sw_object_steps.specs.Values.{ObjValue}
use Rattle.sw_object_steps.specs.declared.entry.ObjEntry.{ObjEntry}
use Rattle.sw_object_steps.specs.declared.entry.ObjEntry.TheVariants.{Dropped, Files, Marked, Wrote}
use Rattle.sw_state.proofs.StateLaws.{joined-base}
use Rattle.sw_state.specs.Bases.{base_at, base_time, higher, is_above, is_deletion}
use Rattle.sw_state.specs.States.{joined}
use Rattle.sw_state.specs.declared.base.Base.{Base}
use Rattle.sw_state.specs.declared.base.Base.TheVariants as bases
use Rattle.sw_state.specs.declared.state.State.{State}
use Rattle.sw_state.specs.declared.write.Write.{Write}
use Rattle.sw_step.proofs.Keeping.{stand-more}
use Rattle.sw_step.specs.Rules.{about, stands}

abbrev gone_by : ℕ → Option Base → Bool
gone_by time base = is_before (option_map mark_time (option_map mark_of base)) time

time-is : (b : Base) → mark_time (mark_of b) ≡ base_time b
time-is (bases.Put time content) = refl
time-is (bases.Del time) = refl

above-late : (low high time : ℕ) (more : Bool) → (nat_lt low high || ((low == high) && more)) ≡ true → nat_lt low time ≡ false → nat_lt high time ≡ false
above-late low high time more above late = grind (arith, nat_tests)

higher-late : (time : ℕ) (a b : Option Base) → gone_by time a ≡ false → gone_by time (higher a b) ≡ false
higher-late time None b late = absurd cc
higher-late time (Some x) None late = late
higher-late time (Some x) (Some y) late = elim (cases_Bool (is_above y x)) [
  | inl above ↦ rw above (ap (λ (n : ℕ). nat_lt n time) (time-is y)
      ∙ above-late (base_time x) (base_time y) time (is_deletion y && not (is_deletion x)) above (ap (λ (n : ℕ). nat_lt n time) (sym (time-is x)) ∙ late))
  | inr not_above ↦ rw not_above late
]

joined-late : (time : ℕ) (s : State) (w : Write) → is_gone s time ≡ false → is_gone (joined s w) time ≡ false
joined-late time s w late = ap (gone_by time) (joined-base s w) ∙ higher-late time s.base (base_at w.time w.kind) late

all-late : (time : ℕ) (s : State) (es : List ObjEntry) → is_gone s time ≡ false → is_gone (fold state_by s es) time ≡ false
all-late time s [] late = late
all-late time s (Wrote name w records ∷ es) late = all-late time (joined s w) es (joined-late time s w late)
all-late time s (Files by filed ∷ es) late = all-late time s es late
all-late time s (Marked by filed device ∷ es) late = all-late time s es late
all-late time s (Dropped by filed ∷ es) late = all-late time s es late

-- in a later history
pub grows-late : (h g : ObjHistory) (hash : Hash) (time : ℕ) → GrowsOf h g → is_gone (stands obj_rules h hash).state time ≡ false
    → is_gone (stands obj_rules g hash).state time ≡ false
grows-late h g hash time p late =
    ap (λ (v : ObjValue). is_gone v.state time) (stand-more obj_rules are-rules h g hash p.entries.0 p.opening p.entries.1)
    ∙ (ap (λ (s : State). is_gone s time) (state-left (stands obj_rules h hash) (about obj_rules hash p.entries.0))
    ∙ all-late time (stands obj_rules h hash).state (about obj_rules hash p.entries.0) late)
