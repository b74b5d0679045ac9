-- The first slot of a pair in a list of slots that changes.
use Rattle.std.proofs.Common.{◌≡◌, ◌∙◌, ℕ, zero, suc, ◌<◌, Bool, true, false, cond, List, [], ◌∷◌, ◌++◌, length, get_or, set, Option, None, Some, refl, sym, ap}
use Rattle.std.proofs.Common.{subst, arith, ⊎_elim, Result, Ok, Err, OnErr}
use Rattle.std.specs.List.{position, position_or_len, slice_get}
use Rattle.std.specs.Option.{is_none, option_and_then, option_map, unwrap_or}
use Rattle.std.specs.Prelude.{nat_eq}
use Rattle.std.proofs.lemmas.Bool.{and_parts, and_from, cases_Bool, cases_lt, cond-true, cond-false, eqb-true, eq-eqb, lt-ltb, le-ltb, false_from_ne_true}
use Rattle.std.proofs.lemmas.List.Folds.{find_at}
use Rattle.std.proofs.lemmas.List.Quantifiers.{position-Some}
use Rattle.std.proofs.lemmas.Option.{slice_get-get_or, slice_get_past}
use Rattle.sw_stores.specs.Places.{is_pair}
use Rattle.sw_stores.specs.Shelf.{Fills, slot_at}
use Rattle.sw_stores.specs.declared.part_shelf.Slot.{Slot}

-- a pair of two numbers that is that of two others has the same numbers
pub pair-is : (device stripe d s : ℕ) → is_pair device stripe d s ≡ true → (d ≡ device) × (s ≡ stripe)
pair-is device stripe d s is = let both = and_parts (nat_eq d device) (nat_eq s stripe) is in (eqb-true d device both.0, eqb-true s stripe both.1)

pub pair-itself : (device stripe d s : ℕ) → d ≡ device → s ≡ stripe → is_pair device stripe d s ≡ true
pair-itself device stripe d s e f = and_from (nat_eq d device) (nat_eq s stripe) (eq-eqb d device e) (eq-eqb s stripe f)

pair-other : (device stripe d s : ℕ) → ((d ≡ device) × (s ≡ stripe) → ⊥) → is_pair device stripe d s ≡ false
pair-other device stripe d s apart = false_from_ne_true (is_pair device stripe d s) (λ is. apart (pair-is device stripe d s is))

pub on_error : {T E : Type 0} {P : Type 0} (result : Result T E) → P → OnErr result P
on_error (Ok _) holds = tt
on_error (Err _) holds = holds

module _ {V : Type 0} where
  -- the slot of the pair is this one, and that of every other pair is what it was
  abbrev pub Holds : List (Slot V) → List (Slot V) → ℕ → ℕ → Slot V → Type 0
  Holds old new device stripe slot = (d s : ℕ) → slot_at new d s ≡ cond (is_pair device stripe d s) (Some slot) (slot_at old d s)

  holds-set : (slots : List (Slot V)) (i device stripe : ℕ) (w : Option V) (x : Slot V) → i < length slots
      → is_pair device stripe (get_or slots i x).device (get_or slots i x).stripe ≡ true
      → ((k : ℕ) → k < i → is_pair device stripe (get_or slots k x).device (get_or slots k x).stripe ≡ false)
      → Holds slots (set slots i (record (get_or slots i x) { part = w })) device stripe (record (get_or slots i x) { part = w })
  holds-set [] i device stripe w x inside here before = absurd (omega arith)
  holds-set (slot ∷ slots) zero device stripe w x inside here before = λ d s.
      let at = pair-is device stripe slot.device slot.stripe here in
      ⊎_elim
      (λ is. let same = pair-is device stripe d s is in
      cond-true (is_pair d s slot.device slot.stripe) _ _ (pair-itself d s slot.device slot.stripe (at.0 ∙ sym same.0) (at.1 ∙ sym same.1)) ∙ sym
      (cond-true (is_pair device stripe d s) _ _ is))
      (λ no.
      let off : is_pair d s slot.device slot.stripe ≡ false = pair-other d s slot.device slot.stripe
      (λ e. let lie = pair-itself device stripe d s (sym e.0 ∙ at.0) (sym e.1 ∙ at.1) in cc) in
      cond-false (is_pair d s slot.device slot.stripe) _ _ off ∙ sym (cond-false (is_pair device stripe d s) _ _ no ∙ cond-false
      (is_pair d s slot.device slot.stripe) _ _ off))
      (cases_Bool (is_pair device stripe d s))
  holds-set (slot ∷ slots) (suc i) device stripe w x inside here before = λ d s.
      let rest = holds-set slots i device stripe w x (omega arith) here (λ k less. before (suc k) (omega arith)) d s in
      let front : is_pair device stripe slot.device slot.stripe ≡ false = before 0 (omega arith) in
      ⊎_elim
      (λ is. let same = pair-is d s slot.device slot.stripe is in
      let no : is_pair device stripe d s ≡ false = pair-other device stripe d s
      (λ e. let lie = pair-itself device stripe slot.device slot.stripe (same.0 ∙ e.0) (same.1 ∙ e.1) in cc) in
      cond-true (is_pair d s slot.device slot.stripe) _ _ is ∙ sym (cond-false (is_pair device stripe d s) _ _ no ∙ cond-true
      (is_pair d s slot.device slot.stripe) _ _ is))
      (λ off. cond-false (is_pair d s slot.device slot.stripe) _ _ off ∙ rest
      ∙ ap (λ o. cond (is_pair device stripe d s) (Some (record (get_or slots i x) { part = w })) o)
      (sym (cond-false (is_pair d s slot.device slot.stripe) (Some slot) (slot_at slots d s) off)))
      (cases_Bool (is_pair d s slot.device slot.stripe))

  holds-push : (slots : List (Slot V)) (slot : Slot V) → slot_at slots slot.device slot.stripe ≡ None →
      Holds slots (slots ++ slot ∷ []) slot.device slot.stripe slot
  holds-push [] slot none = λ d s.
      ap (λ b. cond b (Some slot) None) (turned d s)
    where
      turned : (d s : ℕ) → is_pair d s slot.device slot.stripe ≡ is_pair slot.device slot.stripe d s
      turned d s =
          ⊎_elim
          (λ is. let same = pair-is d s slot.device slot.stripe is in is ∙ sym (pair-itself slot.device slot.stripe d s (sym same.0) (sym same.1)))
          (λ off. off ∙ sym (pair-other slot.device slot.stripe d s (λ e. let lie = pair-itself d s slot.device slot.stripe (sym e.0) (sym e.1) in cc)))
          (cases_Bool (is_pair d s slot.device slot.stripe))
  holds-push (front ∷ slots) slot none = λ d s.
      let off : is_pair slot.device slot.stripe front.device front.stripe ≡ false =
      false_from_ne_true (is_pair slot.device slot.stripe front.device front.stripe)
      (λ is. let lie = sym (cond-true (is_pair slot.device slot.stripe front.device front.stripe) (Some front) (slot_at slots slot.device slot.stripe) is) ∙
      none in cc) in
      let rest = holds-push slots slot (sym (cond-false (is_pair slot.device slot.stripe front.device front.stripe) (Some front)
      (slot_at slots slot.device slot.stripe) off) ∙ none) d s in
      ⊎_elim
      (λ is. let same = pair-is d s front.device front.stripe is in
      let no : is_pair slot.device slot.stripe d s ≡ false = pair-other slot.device slot.stripe d s
      (λ e. let lie = pair-itself slot.device slot.stripe front.device front.stripe (same.0 ∙ e.0) (same.1 ∙ e.1) in cc) in
      cond-true (is_pair d s front.device front.stripe) _ _ is ∙ sym (cond-false (is_pair slot.device slot.stripe d s) _ _ no ∙ cond-true
      (is_pair d s front.device front.stripe) _ _ is))
      (λ out. cond-false (is_pair d s front.device front.stripe) _ _ out ∙ rest
      ∙ ap (λ o. cond (is_pair slot.device slot.stripe d s) (Some slot) o)
      (sym (cond-false (is_pair d s front.device front.stripe) (Some front) (slot_at slots d s) out)))
      (cases_Bool (is_pair d s front.device front.stripe))

  pub fills : (old new : List (Slot V)) (device stripe : ℕ) (slot : Slot V) → Holds old new device stripe slot → Fills old new device stripe slot.part
  fills old new device stripe slot holds = record {
    rests = λ d s. ap (λ o. option_and_then (λ (slot : Slot V). slot.part) o) (holds d s) ∙ volume (is_pair device stripe d s) (slot_at old d s);
    out = λ d s. ap (λ o. unwrap_or (option_map (λ (slot : Slot V). is_none slot.part) o) false) (holds d s) ∙ empty (is_pair device stripe d s)
        (slot_at old d s);
  }
    where
      volume : (b : Bool) (o : Option (Slot V)) → option_and_then (λ (slot : Slot V). slot.part) (cond b (Some slot) o) ≡ cond b slot.part
          (option_and_then (λ (slot : Slot V). slot.part) o)
      volume true o = refl
      volume false o = refl

      empty : (b : Bool) (o : Option (Slot V)) → unwrap_or (option_map (λ (slot : Slot V). is_none slot.part) (cond b (Some slot) o)) false ≡ cond b
          (is_none slot.part) (unwrap_or (option_map (λ (slot : Slot V). is_none slot.part) o) false)
      empty true o = refl
      empty false o = refl

  -- where the slot of the pair stands
  pub found : (slots : List (Slot V)) (device stripe i : ℕ) (x : Slot V) → position (λ slot. is_pair device stripe slot.device slot.stripe) slots ≡ Some i
      → slot_at slots device stripe ≡ Some (get_or slots i x)
  found slots device stripe i x is =
      let p = λ (slot : Slot V). is_pair device stripe slot.device slot.stripe in
      let first = position-Some p slots i x is in
      let same : position_or_len p slots ≡ i =
      ⊎_elim
      (λ inside. let at : position p slots ≡ Some (position_or_len p slots) = rw (lt-ltb (position_or_len p slots) (length slots) inside) refl in cc)
      (λ past. let at : position p slots ≡ None = rw (le-ltb (position_or_len p slots) (length slots) past) refl in cc)
      (cases_lt (position_or_len p slots) (length slots)) in
      find_at p slots ∙ ap (λ k. slice_get slots k) same ∙ slice_get-get_or slots i x first.0

  pub not_found : (slots : List (Slot V)) (device stripe : ℕ) → position (λ slot. is_pair device stripe slot.device slot.stripe) slots ≡ None →
      slot_at slots device stripe ≡ None
  not_found slots device stripe is =
      let p = λ (slot : Slot V). is_pair device stripe slot.device slot.stripe in
      ⊎_elim
      (λ inside. let at : position p slots ≡ Some (position_or_len p slots) = rw (lt-ltb (position_or_len p slots) (length slots) inside) refl in cc)
      (λ past. find_at p slots ∙ slice_get_past slots (position_or_len p slots) past)
      (cases_lt (position_or_len p slots) (length slots))

  pub fills-set : (slots : List (Slot V)) (device stripe i : ℕ) (w : Option V) (x : Slot V) →
      position (λ slot. is_pair device stripe slot.device slot.stripe) slots ≡ Some i
      → Fills slots (set slots i (record (get_or slots i x) { part = w })) device stripe w
  fills-set slots device stripe i w x is =
      let first = position-Some (λ (slot : Slot V). is_pair device stripe slot.device slot.stripe) slots i x is in
      fills slots _ device stripe (record (get_or slots i x) { part = w }) (holds-set slots i device stripe w x first.0 first.1 first.2)

  pub fills-push : (slots : List (Slot V)) (device stripe : ℕ) (w : Option V) → position (λ slot. is_pair device stripe slot.device slot.stripe) slots ≡ None
      → Fills slots (slots ++ record { device = device; stripe = stripe; part = w } ∷ []) device stripe w
  fills-push slots device stripe w is =
      fills slots _ device stripe (record { device = device; stripe = stripe; part = w })
      (holds-push slots (record { device = device; stripe = stripe; part = w }) (not_found slots device stripe is))

  -- what was found in the same list
  pub looked_up : (slots at : List (Slot V)) (device stripe : ℕ) (o : Option ℕ) → at ≡ slots →
      o ≡ position (λ slot. is_pair device stripe slot.device slot.stripe) at
      → position (λ slot. is_pair device stripe slot.device slot.stripe) slots ≡ o
  looked_up slots at device stripe o same is = sym (subst (λ (xs : List (Slot V)). o ≡ position (λ slot. is_pair device stripe slot.device slot.stripe) xs) same
      is)
