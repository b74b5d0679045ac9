-- The volumes of a range of places, started from the front and given back from the end.
use Rattle.std.proofs.Common.{◌≡◌, ◌∙◌, ℕ, suc, ◌+◌, ◌/◌, ◌%◌, ◌<◌, ◌≤◌, inl, inr, Bool, true, false, not, List, [], ◌∷◌, ◌++◌, length, Option, None, Some}
use Rattle.std.proofs.Common.{refl, sym, ap, subst, arith, ⊎_elim, append_assoc, length-append, Result, Ok, Err, IfOk, OnErr}
use Rattle.std.proofs.lemmas.List.{append-nil}
use Rattle.std.specs.Prelude.{◌&&◌, ◌||◌}
use Rattle.std.proofs.lemmas.Bool.{cases_Bool, false_from_ne_true, or_cases, or_parts, or_right}
use Rattle.sw_stores.specs.Places.{at_place, AreHome, AreOut, ComeHome, GoOut, is_among, is_pair, IsAsItWas, IsSameBut}
use Rattle.sw_stores.specs.Starting.{AllRestAgain, AreResting, AreStarted, RestsAgain, StartsFrom}
use Rattle.sw_stores.proofs.Places.{among-back, among-front, among-more, among-none, among-place, not-among, pairs-apart}
use Rattle.sw_stores.proofs.Slots.{pair-is}

module _ {V : Type 0} where
  -- some volumes were started, from the front of the range on
  pub record IsBegun (first_is : V → Type 0) (rests rests_now : ℕ → ℕ → Option V) (out out_now : ℕ → ℕ → Bool) (stripes first count : ℕ) (volumes : List V) :
      Type 0 where
    pub each : AreStarted first_is rests stripes first volumes
    pub length_is : length volumes ≡ count
    pub others : IsSameBut (is_among stripes first count) rests rests_now
    pub gone : GoOut (is_among stripes first count) out out_now

  -- some were given back, from a place in the range on
  pub record IsReturned (rests rests_now : ℕ → ℕ → Option V) (out out_now : ℕ → ℕ → Bool) (stripes place : ℕ) (volumes : List V) : Type 0 where
    pub each : AreResting rests_now stripes place volumes
    pub others : IsSameBut (is_among stripes place (length volumes)) rests rests_now
    pub home : ComeHome (is_among stripes place (length volumes)) out out_now

  -- of the volumes to be given back so many are left, behind those that stay, and those after them were given back
  pub record IsGiving (rests rests_now : ℕ → ℕ → Option V) (out out_now : ℕ → ℕ → Bool) (stripes first count index : ℕ) (all left : List V) : Type 0 where
    pub given : List V
    pub all_are : all ≡ left ++ given
    pub long : length given + index ≡ count
    pub returned : IsReturned rests rests_now out out_now stripes (first + index) given

  pub begun-none : (first_is : V → Type 0) (rests : ℕ → ℕ → Option V) (out : ℕ → ℕ → Bool) (stripes first : ℕ) →
      IsBegun first_is rests rests out out stripes first 0 []
  begun-none first_is rests out stripes first = record {
    each = tt;
    length_is = refl;
    others = λ d s apart. refl;
    gone = λ d s. sym (ap (λ b. b || out d s) (among-none stripes first d s));
  }

  started-more : (first_is : V → Type 0) (rests : ℕ → ℕ → Option V) (stripes first : ℕ) (volumes : List V) (v : V)
      → AreStarted first_is rests stripes first volumes → StartsFrom first_is (at_place rests stripes (first + length volumes)) v →
      AreStarted first_is rests stripes first (volumes ++ v ∷ [])
  started-more first_is rests stripes first [] v each last =
      let at : first + 0 ≡ first = omega arith in (subst (λ p. StartsFrom first_is (at_place rests stripes p) v) at last, tt)
  started-more first_is rests stripes first (u ∷ volumes) v each last =
      let at : first + suc (length volumes) ≡ first + 1 + length volumes = omega arith in
      (each.0, started-more first_is rests stripes (first + 1) volumes v each.1 (subst (λ p. StartsFrom first_is (at_place rests stripes p) v) at last))

  -- one volume more was started
  pub begun-more : (first_is : V → Type 0) (rests mid new : ℕ → ℕ → Option V) (out out_mid out_new : ℕ → ℕ → Bool) (stripes first count : ℕ) (volumes : List V)
      (v : V) → 0 < stripes
      → IsBegun first_is rests mid out out_mid stripes first count volumes
      → StartsFrom first_is (at_place mid stripes (first + count)) v
      → IsSameBut (is_pair ((first + count) / stripes) ((first + count) % stripes)) mid new
      → GoOut (is_pair ((first + count) / stripes) ((first + count) % stripes)) out_mid out_new
      → at_place mid stripes (first + count) ≡ at_place rests stripes (first + count)
      → IsBegun first_is rests new out out_new stripes first (count + 1) (volumes ++ v ∷ [])
  begun-more first_is rests mid new out out_mid out_new stripes first count volumes v some begun starts others gone untouched = record {
    each = started-more first_is rests stripes first volumes v begun.each
        (subst (λ n. StartsFrom first_is (at_place rests stripes (first + n)) v) (sym begun.length_is) (subst (λ o. StartsFrom first_is o v) untouched starts));
    length_is = length-append volumes (v ∷ []) ∙ ap (λ n. n + 1) begun.length_is;
    others = λ d s apart.
        let parts = or_parts _ _ (sym (among-back stripes first count d s some) ∙ apart) in
        others d s parts.0 ∙ begun.others d s parts.1;
    gone = λ d s.
        gone d s ∙ ap (λ b. is_pair ((first + count) / stripes) ((first + count) % stripes) d s || b) (begun.gone d s)
        ∙ joined (is_pair ((first + count) / stripes) ((first + count) % stripes) d s) (is_among stripes first count d s) (out d s)
        ∙ sym (ap (λ b. b || out d s) (among-back stripes first count d s some));
  }
    where
      joined : (a b c : Bool) → (a || (b || c)) ≡ ((a || b) || c)
      joined true b c = refl
      joined false b c = refl

  pub returned-none : (rests : ℕ → ℕ → Option V) (out : ℕ → ℕ → Bool) (stripes place : ℕ) → IsReturned rests rests out out stripes place []
  returned-none rests out stripes place = record {
    each = tt;
    others = λ d s apart. refl;
    home = λ d s. sym (ap (λ b. not b && out d s) (among-none stripes place d s));
  }

  -- what rests at later places still does
  still-resting : (mid new : ℕ → ℕ → Option V) (stripes place from : ℕ) (volumes : List V) → place < from →
      IsSameBut (is_pair (place / stripes) (place % stripes)) mid new
      → AreResting mid stripes from volumes → AreResting new stripes from volumes
  still-resting mid new stripes place from [] later others each = tt
  still-resting mid new stripes place from (v ∷ volumes) later others each = (
    others (from / stripes) (from % stripes) (pairs-apart stripes place from (λ same. absurd (omega arith))) ∙ each.0,
    still-resting mid new stripes place (from + 1) volumes (omega arith) others each.1,
  )

  -- one volume more was given back, before the others
  pub returned-more : (rests mid new : ℕ → ℕ → Option V) (out out_mid out_new : ℕ → ℕ → Bool) (stripes place : ℕ) (volumes : List V) (v : V) → 0 < stripes
      → IsReturned rests mid out out_mid stripes (place + 1) volumes
      → at_place new stripes place ≡ Some v
      → IsSameBut (is_pair (place / stripes) (place % stripes)) mid new
      → ComeHome (is_pair (place / stripes) (place % stripes)) out_mid out_new
      → IsReturned rests new out out_new stripes place (v ∷ volumes)
  returned-more rests mid new out out_mid out_new stripes place volumes v some returned there others home = record {
    each = (there, still-resting mid new stripes place (place + 1) volumes (omega arith) others returned.each);
    others = λ d s apart.
        let parts = or_parts _ _ (sym (among-front stripes place (length volumes) d s some) ∙ subst (λ n. is_among stripes place n d s ≡ false) one apart) in
        others d s parts.0 ∙ returned.others d s parts.1;
    home = λ d s.
        home d s ∙ ap (λ b. not (is_pair (place / stripes) (place % stripes) d s) && b) (returned.home d s)
        ∙ neither (is_pair (place / stripes) (place % stripes) d s) (is_among stripes (place + 1) (length volumes) d s) (out d s)
        ∙ sym (ap (λ b. not b && out d s) (subst (λ n. is_among stripes place n d s ≡
        (is_pair (place / stripes) (place % stripes) d s || is_among stripes (place + 1) (length volumes) d s)) (sym one)
        (among-front stripes place (length volumes) d s some)));
  }
    where
      one : suc (length volumes) ≡ 1 + length volumes
      one = omega arith

      neither : (a b c : Bool) → (not a && (not b && c)) ≡ (not (a || b) && c)
      neither true b c = refl
      neither false b c = refl

  pub giving-none : (rests : ℕ → ℕ → Option V) (out : ℕ → ℕ → Bool) (stripes first count : ℕ) (all : List V) →
      IsGiving rests rests out out stripes first count count all all
  giving-none rests out stripes first count all =
      record { given = []; all_are = sym (append-nil all); long = omega arith; returned = returned-none rests out stripes (first + count) }

  -- the next volume is out, and so it can be given back
  pub giving-out : (rests mid : ℕ → ℕ → Option V) (out out_mid : ℕ → ℕ → Bool) (stripes first count from index place : ℕ) (all left : List V) → 0 < stripes
      → AreOut (is_among stripes first count) out → IsGiving rests mid out out_mid stripes first count from all left → from ≡ index + 1 → place ≡ first + index
      → at_place out_mid stripes place ≡ true
  giving-out rests mid out out_mid stripes first count from index place all left some are giving next at =
      let before : is_among stripes (first + from) (length giving.given) (place / stripes) (place % stripes) ≡ false =
      not-among stripes (first + from) (length giving.given) place (λ reached below. absurd (omega arith)) in
      let long = giving.long in
      let was : at_place out stripes place ≡ true = are (place / stripes) (place % stripes)
      (among-place stripes first count place some (omega arith) (omega arith)) in
      giving.returned.home (place / stripes) (place % stripes) ∙ ap (λ b. not b && at_place out stripes place) before ∙ was

  pub giving-more : (rests mid new : ℕ → ℕ → Option V) (out out_mid out_new : ℕ → ℕ → Bool) (stripes first count from index place device stripe : ℕ)
      (all left rest : List V) (v : V)
      → 0 < stripes → IsGiving rests mid out out_mid stripes first count from all left → from ≡ index + 1 → left ≡ rest ++ v ∷ [] → place ≡ first + index
      → device ≡ place / stripes → stripe ≡ place % stripes
      → new device stripe ≡ Some v → IsSameBut (is_pair device stripe) mid new → ComeHome (is_pair device stripe) out_mid out_new
      → IsGiving rests new out out_new stripes first count index all rest
  giving-more rests mid new out out_mid out_new stripes first count from index place device stripe all left rest v some giving next is at is_device is_stripe
      there others home =
      let after : first + from ≡ place + 1 = omega arith in
      let long = giving.long in
      record {
        given = v ∷ giving.given;
        all_are = giving.all_are ∙ ap (λ l. l ++ giving.given) is ∙ append_assoc rest (v ∷ []) giving.given;
        long = omega arith;
        returned = subst (λ p. IsReturned rests new out out_new stripes p (v ∷ giving.given)) at
            (returned-more rests mid new out out_mid out_new stripes place giving.given v some
            (subst (λ p. IsReturned rests mid out out_mid stripes p giving.given) after giving.returned)
            (subst (λ x. new (place / stripes) x ≡ Some v) is_stripe (subst (λ x. new x stripe ≡ Some v) is_device there))
            (subst (λ x. IsSameBut (is_pair (place / stripes) x) mid new) is_stripe (subst (λ x. IsSameBut (is_pair x stripe) mid new) is_device others))
            (subst (λ x. ComeHome (is_pair (place / stripes) x) out_mid out_new) is_stripe
            (subst (λ x. ComeHome (is_pair x stripe) out_mid out_new) is_device home)));
      }

  -- all were given back
  module _ (rests new : ℕ → ℕ → Option V) (out out_new : ℕ → ℕ → Bool) (stripes first count : ℕ) (all left : List V)
      (giving : IsGiving rests new out out_new stripes first count 0 all left) where
    whole : length giving.given ≡ count
    whole = let long = giving.long in omega arith

    returned-all : IsReturned rests new out out_new stripes first giving.given
    returned-all = let at : first + 0 ≡ first = omega arith in subst (λ p. IsReturned rests new out out_new stripes p giving.given) at giving.returned

    pub given-rests : (given : List V) × (all ≡ left ++ given) × (length given ≡ count) × AreResting new stripes first given
    given-rests = (giving.given, giving.all_are, whole, returned-all.each)

    pub given-others : IsSameBut (is_among stripes first count) rests new
    given-others = subst (λ n. IsSameBut (is_among stripes first n) rests new) whole returned-all.others

    pub given-home : ComeHome (is_among stripes first count) out out_new
    given-home = subst (λ n. ComeHome (is_among stripes first n) out out_new) whole returned-all.home

  -- as many as there were are all
  pub each-rests : (new : ℕ → ℕ → Option V) (stripes first : ℕ) (all left : List V) →
      (given : List V) × (all ≡ left ++ given) × (length given ≡ length all) × AreResting new stripes first given
      → AreResting new stripes first all
  each-rests new stripes first all [] given = subst (λ l. AreResting new stripes first l) (sym given.1) given.3
  each-rests new stripes first all (v ∷ left) given =
      let long = ap length given.1 in let split = length-append left given.0 in let same = given.2 in absurd (omega arith)

  -- what rests behind a range still does
  behind-resting : (mid new : ℕ → ℕ → Option V) (stripes first count from : ℕ) (volumes : List V) → first + count ≤ from →
      IsSameBut (is_among stripes first count) mid new
      → AreResting mid stripes from volumes → AreResting new stripes from volumes
  behind-resting mid new stripes first count from [] behind others each = tt
  behind-resting mid new stripes first count from (v ∷ volumes) behind others each = (
    others (from / stripes) (from % stripes) (not-among stripes first count from (λ reached below. absurd (omega arith))) ∙ each.0,
    behind-resting mid new stripes first count (from + 1) volumes (omega arith) others each.1,
  )

  -- two lists of the same parts
  same-parts : (before after front back : List V) → front ++ back ≡ before ++ after → length front ≡ length before → (front ≡ before) × (back ≡ after)
  same-parts [] after [] back are long = (refl, are)
  same-parts [] after (w ∷ front) back are long = absurd (omega arith)
  same-parts (v ∷ before) after [] back are long = absurd (omega arith)
  same-parts (v ∷ before) after (w ∷ front) back are long =
      let rest : front ++ back ≡ before ++ after = cc in
      let parts = same-parts before after front back rest (omega arith) in
      let here : w ≡ v = cc in
      let front_is : front ≡ before = parts.0 in (let same : w ∷ front ≡ v ∷ before = cc in same, parts.1)

  -- those behind a gap were given back, and then those before it
  pub around-rests : (mid new : ℕ → ℕ → Option V) (stripes first past long : ℕ) (all left : List V) → first ≤ past → length all ≡ first + long
      → (given : List V) × (all ≡ left ++ given) × (length given ≡ long) × AreResting mid stripes past given
      → AreResting new stripes 0 left → IsSameBut (is_among stripes 0 (length left)) mid new
      → (before after : List V) → all ≡ before ++ after → length before ≡ first → AreResting new stripes 0 before × AreResting new stripes past after
  around-rests mid new stripes first past long all left apart whole given rests others = λ before after are at.
      let split = ap length given.1 ∙ length-append left given.0 in
      let same = given.2 in
      let parts = same-parts before after left given.0 (sym given.1 ∙ are) (omega arith) in (
        subst (λ l. AreResting new stripes 0 l) parts.0 rests,
        subst (λ l. AreResting new stripes past l) parts.1 (behind-resting mid new stripes 0 (length left) past given.0 (omega arith) others given.3),
      )

  -- volumes that were started and given back
  pub rest-again : (first_is : V → Type 0) (rests new : ℕ → ℕ → Option V) (stripes place : ℕ) (volumes : List V) → 0 < stripes
      → AreStarted first_is rests stripes place volumes → AreResting new stripes place volumes →
      AllRestAgain first_is (is_among stripes place (length volumes)) rests new
  rest-again first_is rests new stripes place [] some started resting = λ d s is. absurd (let none = among-none stripes place d s in cc)
  rest-again first_is rests new stripes place (v ∷ volumes) some started resting = λ d s is.
      let one : suc (length volumes) ≡ 1 + length volumes = omega arith in
      ⊎_elim
      (λ here. let same = pair-is (place / stripes) (place % stripes) d s here in
      subst (λ x. RestsAgain first_is (rests x s) (new x s)) (sym same.0)
      (subst (λ x. RestsAgain first_is (rests (place / stripes) x) (new (place / stripes) x)) (sym same.1) (inr (v, started.0, resting.0))))
      (λ later. rest-again first_is rests new stripes (place + 1) volumes some started.1 resting.1 d s later)
      (or_cases _ _ (sym (among-front stripes place (length volumes) d s some) ∙ subst (λ n. is_among stripes place n d s ≡ true) one is))

  -- a start in the middle failed, and those before it were given back
  pub undone-out : (first_is : V → Type 0) (rests mid new : ℕ → ℕ → Option V) (out out_mid out_new : ℕ → ℕ → Bool) (stripes first count all : ℕ)
      (volumes : List V) → count ≤ all
      → AreHome (is_among stripes first all) out → IsBegun first_is rests mid out out_mid stripes first count volumes →
      ComeHome (is_among stripes first (length volumes)) out_mid out_new
      → IsAsItWas out out_new
  undone-out first_is rests mid new out out_mid out_new stripes first count all volumes within are begun home = λ d s.
      let back = subst (λ n. ComeHome (is_among stripes first n) out_mid out_new) begun.length_is home d s in
      back ∙ ap (λ b. not (is_among stripes first count d s) && b) (begun.gone d s)
      ∙ neither (is_among stripes first count d s) (out d s) (λ is. are d s (among-more stripes first count all d s within is))
    where
      neither : (b o : Bool) → (b ≡ true → o ≡ false) → (not b && (b || o)) ≡ o
      neither true o home = sym (home refl)
      neither false o home = refl

  pub undone-others : (first_is : V → Type 0) (rests mid new : ℕ → ℕ → Option V) (out out_mid : ℕ → ℕ → Bool) (stripes first count all : ℕ) (volumes : List V) →
      count ≤ all
      → IsBegun first_is rests mid out out_mid stripes first count volumes → IsSameBut (is_among stripes first (length volumes)) mid new
      → IsSameBut (is_among stripes first all) rests new
  undone-others first_is rests mid new out out_mid stripes first count all volumes within begun others = λ d s apart.
      let shorter : is_among stripes first count d s ≡ false = false_from_ne_true (is_among stripes first count d s)
      (λ is. let longer = among-more stripes first count all d s within is in cc) in
      others d s (subst (λ n. is_among stripes first n d s ≡ false) (sym begun.length_is) shorter) ∙ begun.others d s shorter

  pub undone-rests : (first_is : V → Type 0) (rests mid new : ℕ → ℕ → Option V) (out out_mid : ℕ → ℕ → Bool) (stripes first count all : ℕ) (volumes : List V) →
      0 < stripes
      → IsBegun first_is rests mid out out_mid stripes first count volumes → IsSameBut (is_among stripes first (length volumes)) mid new →
      AreResting new stripes first volumes
      → AllRestAgain first_is (is_among stripes first all) rests new
  undone-rests first_is rests mid new out out_mid stripes first count all volumes some begun others resting = λ d s is.
      ⊎_elim
      (λ here. rest-again first_is rests new stripes first volumes some begun.each resting d s here)
      (λ off. inl (others d s off ∙ begun.others d s (subst (λ n. is_among stripes first n d s ≡ false) begun.length_is off)))
      (cases_Bool (is_among stripes first (length volumes) d s))

  -- the next volume rests as it did before any was started
  next-rests : (first_is : V → Type 0) (rests mid : ℕ → ℕ → Option V) (out out_mid : ℕ → ℕ → Bool) (stripes first count : ℕ) (volumes : List V)
      → IsBegun first_is rests mid out out_mid stripes first count volumes → at_place mid stripes (first + count) ≡ at_place rests stripes (first + count)
  next-rests first_is rests mid out out_mid stripes first count volumes begun =
      let place = first + count in
      begun.others (place / stripes) (place % stripes) (not-among stripes first count place (λ from below. absurd (omega arith)))

  -- one volume more was started
  pub begun-next : (first_is : V → Type 0) (rests mid new : ℕ → ℕ → Option V) (out out_mid out_new : ℕ → ℕ → Bool) (stripes first count device stripe : ℕ)
      (volumes more : List V) (v : V)
      → 0 < stripes → IsBegun first_is rests mid out out_mid stripes first count volumes
      → device ≡ (first + count) / stripes → stripe ≡ (first + count) % stripes
      → StartsFrom first_is (mid device stripe) v → IsSameBut (is_pair device stripe) mid new → GoOut (is_pair device stripe) out_mid out_new
      → more ≡ volumes ++ v ∷ []
      → IsBegun first_is rests new out out_new stripes first (count + 1) more
  begun-next first_is rests mid new out out_mid out_new stripes first count device stripe volumes more v some begun is_device is_stripe starts others gone are =
      let place = first + count in
      subst (λ l. IsBegun first_is rests new out out_new stripes first (count + 1) l) (sym are)
      (begun-more first_is rests mid new out out_mid out_new stripes first count volumes v some begun
      (subst (λ x. StartsFrom first_is (mid (place / stripes) x) v) is_stripe (subst (λ x. StartsFrom first_is (mid x stripe) v) is_device starts))
      (subst (λ x. IsSameBut (is_pair (place / stripes) x) mid new) is_stripe (subst (λ x. IsSameBut (is_pair x stripe) mid new) is_device others))
      (subst (λ x. GoOut (is_pair (place / stripes) x) out_mid out_new) is_stripe (subst (λ x. GoOut (is_pair x stripe) out_mid out_new) is_device gone))
      (next-rests first_is rests mid out out_mid stripes first count volumes begun))

  -- and isn't out
  pub next-home : (first_is : V → Type 0) (rests mid : ℕ → ℕ → Option V) (out out_mid : ℕ → ℕ → Bool) (stripes first count all : ℕ) (volumes : List V) →
      0 < stripes → count < all
      → AreHome (is_among stripes first all) out → IsBegun first_is rests mid out out_mid stripes first count volumes
      → at_place out_mid stripes (first + count) ≡ false
  next-home first_is rests mid out out_mid stripes first count all volumes some within are begun =
      let place = first + count in
      let off : is_among stripes first count (place / stripes) (place % stripes) ≡ false =
      not-among stripes first count place (λ from below. absurd (omega arith)) in
      begun.gone (place / stripes) (place % stripes) ∙ ap (λ b. b || at_place out stripes place) off
      ∙ are (place / stripes) (place % stripes) (among-place stripes first all place some (omega arith) (omega arith))

  -- what rested, and was maybe started and given back, rests again
  pub resting-again : (first_is : V → Type 0) (mid new : ℕ → ℕ → Option V) (stripes place : ℕ) (volumes : List V) → 0 < stripes
      → AreResting mid stripes place volumes → AllRestAgain first_is (is_among stripes place (length volumes)) mid new → AreResting new stripes place volumes
  resting-again first_is mid new stripes place [] some each again = tt
  resting-again first_is mid new stripes place (v ∷ volumes) some each again =
      let one : suc (length volumes) ≡ 1 + length volumes = omega arith in (
        same (at_place mid stripes place) (at_place new stripes place) each.0
            (again (place / stripes) (place % stripes) (among-place stripes place (suc (length volumes)) place some (omega arith) (omega arith))),
        resting-again first_is mid new stripes (place + 1) volumes some each.1
            (λ d s later. again d s (subst (λ n. is_among stripes place n d s ≡ true) (sym one)
            (among-front stripes place (length volumes) d s some ∙ or_right (is_pair (place / stripes) (place % stripes) d s) _ later))),
      )
    where
      same : (old new : Option V) → old ≡ Some v → RestsAgain first_is old new → new ≡ Some v
      same None new is again = cc
      same (Some u) new is (inl as_was) = as_was ∙ is
      same (Some u) new is (inr again) = again.2 ∙ ap Some again.1 ∙ is

  -- what is started where volumes rest is these volumes
  pub started-same : (first_is : V → Type 0) (mid : ℕ → ℕ → Option V) (stripes place : ℕ) (volumes anew : List V) → length anew ≡ length volumes
      → AreResting mid stripes place volumes → AreStarted first_is mid stripes place anew → anew ≡ volumes
  started-same first_is mid stripes place [] [] same resting started = refl
  started-same first_is mid stripes place [] (w ∷ anew) same resting started = absurd (omega arith)
  started-same first_is mid stripes place (v ∷ volumes) [] same resting started = absurd (omega arith)
  started-same first_is mid stripes place (v ∷ volumes) (w ∷ anew) same resting started =
      let front : w ≡ v = from (at_place mid stripes place) resting.0 started.0 in
      let rest = started-same first_is mid stripes (place + 1) volumes anew (omega arith) resting.1 started.1 in cc
    where
      from : (o : Option V) → o ≡ Some v → StartsFrom first_is o w → w ≡ v
      from None is starts = cc
      from (Some u) is starts = let it : u ≡ v = cc in starts ∙ it

  -- so it is of all volumes that are restarted
  pub restarted-same : {E : Type 0} (first_is : V → Type 0) (mid : ℕ → ℕ → Option V) (stripes place count : ℕ) (volumes : List V)
      (result : Result (List V) E) → count ≡ length volumes
      → AreResting mid stripes place volumes → IfOk result (λ anew. length anew ≡ count) →
      IfOk result (λ anew. AreStarted first_is mid stripes place anew)
      → IfOk result (λ anew. anew ≡ volumes)
  restarted-same first_is mid stripes place count volumes (Ok anew) same resting long started =
      started-same first_is mid stripes place volumes anew (long ∙ same) resting started
  restarted-same first_is mid stripes place count volumes (Err _) same resting long started = tt

  pub restarted-rests : {T E : Type 0} (first_is : V → Type 0) (mid new : ℕ → ℕ → Option V) (stripes place count : ℕ) (volumes : List V) (result : Result T E) →
      0 < stripes → count ≡ length volumes
      → AreResting mid stripes place volumes → OnErr result (AllRestAgain first_is (is_among stripes place count) mid new)
      → OnErr result (AreResting new stripes place volumes)
  restarted-rests first_is mid new stripes place count volumes (Ok _) some same resting again = tt
  restarted-rests first_is mid new stripes place count volumes (Err _) some same resting again =
      resting-again first_is mid new stripes place volumes some resting (subst (λ n. AllRestAgain first_is (is_among stripes place n) mid new) same again)
