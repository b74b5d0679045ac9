-- What was made of a step at an object is joined to what stood.
use Rattle.std.proofs.Common.{◌≡◌, List, [], ◌∷◌, ◌++◌, map, refl, sym, ◌∙◌, ap, append_assoc}
use Rattle.std.proofs.lemmas.List.{append-nil}
use Rattle.std.specs.List.{fold}
use Rattle.sw_hashpath.specs.declared.name.Name.{Name}
use Rattle.sw_object_steps.specs.Rules.{obj_applied}
use Rattle.sw_object_steps.specs.Values.{ObjValue}
use Rattle.sw_object_steps.specs.declared.entry.ObjEntry.{ObjEntry}
use Rattle.sw_object_steps.specs.declared.entry.ObjEntry.TheVariants.{Dropped, Files, Marked, Wrote}
use Rattle.sw_state.proofs.StateLaws.{joins_one_more, state_of-writes_of}
use Rattle.sw_state.specs.States.{joined, state_of, writes_of}
use Rattle.sw_state.specs.declared.state.State.{State}
use Rattle.sw_state.specs.declared.write.Write.{Write}
use Rattle.sw_machine.specs.Machine.{made_writes}

pub made-states : (name : Name) (v : ObjValue) (made : List ObjEntry)
    → (fold obj_applied v made).state ≡ fold joined v.state (map (λ n. n.write) (made_writes name made))
made-states name v [] = refl
made-states name v (Wrote n w records ∷ made) = made-states name (obj_applied v (Wrote n w records)) made
made-states name v (Files by filed ∷ made) = made-states name (obj_applied v (Files by filed)) made
made-states name v (Marked by filed device ∷ made) = made-states name (obj_applied v (Marked by filed device)) made
made-states name v (Dropped by filed ∷ made) = made-states name (obj_applied v (Dropped by filed)) made

joins-all : (xs ws : List Write) → fold joined (state_of xs) ws ≡ state_of (xs ++ ws)
joins-all xs [] = ap state_of (sym (append-nil xs))
joins-all xs (w ∷ ws) =
    ap (λ (s : State). fold joined s ws) (joins_one_more xs w) ∙ (joins-all (xs ++ w ∷ []) ws ∙ ap state_of (append_assoc xs (w ∷ []) ws))

-- writes joined one by one leave the state of all
pub joins-from : (s : State) (ws : List Write) → fold joined s ws ≡ state_of (writes_of s ++ ws)
joins-from s ws = ap (λ (x : State). fold joined x ws) (sym (state_of-writes_of s)) ∙ joins-all (writes_of s) ws
