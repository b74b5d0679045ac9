-- Names, and what they are rolled up to: rolling up keeps the order of names.
use Rattle.std.proofs.Common.{◌≡◌, ℕ, ◌+◌, zero, suc, Bool, true, false, cond, not, ◌==◌, List, [], ◌∷◌, ◌++◌, length, take, drop, Option}
use Rattle.std.proofs.Common.{None, Some, refl, sym, ◌∙◌, ap, arith}
use Rattle.std.specs.Cmp.Lexicographic.{slice_cmp}
use Rattle.std.specs.List.{position, position_or_len}
use Rattle.std.specs.Option.{option_map}
use Rattle.std.specs.Ordering.{is_le, nat_cmp}
use Rattle.std.specs.Prelude.{nat_lt}
use Rattle.std.specs.declared.cmp.Ordering.TheVariants.{Less, Equal}
use Rattle.std.proofs.lemmas.Bool.{lt-ltb}
use Rattle.std.proofs.lemmas.Cmp.{nat_list_cmp_total, tied_itself}
use Rattle.sw_listing.specs.Asking.{rolled_text}
use Rattle.sw_listing.proofs.Orders.{Begins, between-begins, le-begins, le-lt, less-le, less_or, lt-le}

-- the same, byte by byte
abbrev roll : ℕ → ℕ → List ℕ → Option (List ℕ)
roll d behind [] = None
roll d zero (x ∷ xs) = cond (x == d) (Some (x ∷ [])) (option_map (λ t. x ∷ t) (roll d zero xs))
roll d (suc behind) (x ∷ xs) = option_map (λ t. x ∷ t) (roll d behind xs)

position-cons : (p : ℕ → Bool) (x : ℕ) (xs : List ℕ) → position p (x ∷ xs) ≡ cond (p x) (Some 0) (option_map (λ k. 1 + k) (position p xs))
position-cons p x xs = at (p x)
  where
    lift : (b : Bool) → cond b (Some (1 + position_or_len p xs)) None ≡ option_map (λ k. 1 + k) (cond b (Some (position_or_len p xs)) None)
    lift true = refl
    lift false = refl

    next : nat_lt (1 + position_or_len p xs) (length (x ∷ xs)) ≡ nat_lt (position_or_len p xs) (length xs)
    next = grind arith

    at : (b : Bool) → cond (nat_lt (cond (not b) (1 + position_or_len p xs) 0) (length (x ∷ xs))) (Some (cond (not b) (1 + position_or_len p xs) 0)) None
        ≡ cond b (Some 0) (option_map (λ k. 1 + k) (position p xs))
    at true = let first : nat_lt 0 (length (x ∷ xs)) ≡ true = lt-ltb 0 (length (x ∷ xs)) (omega arith) in rw first refl
    at false = rw next (lift (nat_lt (position_or_len p xs) (length xs)))

abbrev sized : ℕ → List ℕ → Option ℕ → Option (List ℕ)
sized behind name o = option_map (λ size. take size name) (option_map (λ place. behind + place + 1) o)

-- a byte in front of a name
sized-next : (behind : ℕ) (x : ℕ) (name : List ℕ) (o : Option ℕ) → sized (suc behind) (x ∷ name) o ≡ option_map (λ t. x ∷ t) (sized behind name o)
sized-next behind x name None = refl
sized-next behind x name (Some place) =
    let next : suc behind + place + 1 ≡ suc (behind + place + 1) = omega arith in
    rw next refl

sized-further : (x : ℕ) (name : List ℕ) (o : Option ℕ) → sized 0 (x ∷ name) (option_map (λ k. 1 + k) o) ≡ option_map (λ t. x ∷ t) (sized 0 name o)
sized-further x name None = refl
sized-further x name (Some place) =
    let next : 0 + (1 + place) + 1 ≡ suc (0 + place + 1) = omega arith in
    rw next refl

roll-is : (d behind : ℕ) (name : List ℕ) → rolled_text (Some d) behind name ≡ roll d behind name
roll-is d zero [] = refl
roll-is d zero (x ∷ xs) =
    rw (position-cons (λ b. b == d) x xs) (at (x == d) (roll-is d zero xs))
  where
    at : (v : Bool) → sized 0 xs (position (λ b. b == d) xs) ≡ roll d zero xs
        → sized 0 (x ∷ xs) (cond v (Some 0) (option_map (λ k. 1 + k) (position (λ b. b == d) xs)))
        ≡ cond v (Some (x ∷ [])) (option_map (λ t. x ∷ t) (roll d zero xs))
    at true rest = refl
    at false rest = sized-further x xs (position (λ b. b == d) xs) ∙ ap (λ (o : Option (List ℕ)). option_map (λ t. x ∷ t) o) rest
roll-is d (suc behind) [] = refl
roll-is d (suc behind) (x ∷ xs) =
    sized-next behind x xs (position (λ b. b == d) (drop behind xs)) ∙ ap (λ (o : Option (List ℕ)). option_map (λ t. x ∷ t) o) (roll-is d behind xs)

tail_of : (x : ℕ) (o : Option (List ℕ)) (text : List ℕ) → option_map (λ t. x ∷ t) o ≡ Some text → (t : List ℕ) × (o ≡ Some t) × (text ≡ x ∷ t)
tail_of x None text is = cc
tail_of x (Some t) text is = (t, refl, cc)

longer : (x : ℕ) (xs t text : List ℕ) → Begins xs t → text ≡ x ∷ t → Begins (x ∷ xs) text
longer x xs t text begins is = (begins.0, ap (λ (l : List ℕ). x ∷ l) begins.1 ∙ ap (λ (l : List ℕ). l ++ begins.0) (sym is))

-- a name begins with what it is rolled up to
roll-begins : (d behind : ℕ) (name text : List ℕ) → roll d behind name ≡ Some text → Begins name text
roll-begins d behind [] text is = cc
roll-begins d zero (x ∷ xs) text is = at (x == d) is (λ t h. roll-begins d zero xs t h)
  where
    at : (v : Bool) → cond v (Some (x ∷ [])) (option_map (λ t. x ∷ t) (roll d zero xs)) ≡ Some text → ((t : List ℕ) → roll d zero xs ≡ Some t →
        Begins xs t) → Begins (x ∷ xs) text
    at true is rest = let same : x ∷ [] ≡ text = cc in (xs, ap (λ (l : List ℕ). l ++ xs) same)
    at false is rest = let t = tail_of x (roll d zero xs) text is in longer x xs t.0 text (rest t.0 t.1) t.2
roll-begins d (suc behind) (x ∷ xs) text is =
    let t = tail_of x (roll d behind xs) text is in
    longer x xs t.0 text (roll-begins d behind xs t.0 t.1) t.2

-- what begins with what a name is rolled up to is rolled up to the same
roll-same : (d behind : ℕ) (name text rest : List ℕ) → roll d behind name ≡ Some text → roll d behind (text ++ rest) ≡ Some text
roll-same d behind [] text rest is = cc
roll-same d zero (x ∷ xs) text rest is = at (x == d) refl is (λ t h. roll-same d zero xs t rest h)
  where
    at : (v : Bool) → (x == d) ≡ v → cond v (Some (x ∷ [])) (option_map (λ t. x ∷ t) (roll d zero xs)) ≡ Some text →
        ((t : List ℕ) → roll d zero xs ≡ Some t → roll d zero (t ++ rest) ≡ Some t) → roll d zero (text ++ rest) ≡ Some text
    at true same is further = let e : x ∷ [] ≡ text = cc in rw (← e) (rw same refl)
    at false same is further =
        let t = tail_of x (roll d zero xs) text is in
        rw (t.2) (rw (same, further t.0 t.1) refl)
roll-same d (suc behind) (x ∷ xs) text rest is =
    let t = tail_of x (roll d behind xs) text is in
    rw (t.2) (rw (roll-same d behind xs t.0 rest t.1) refl)

pub text-begins : (delimiter : Option ℕ) (behind : ℕ) (name text : List ℕ) → rolled_text delimiter behind name ≡ Some text → Begins name text
text-begins None behind name text is = cc
text-begins (Some d) behind name text is = roll-begins d behind name text (sym (roll-is d behind name) ∙ is)

pub text-same : (delimiter : Option ℕ) (behind : ℕ) (name other text : List ℕ) → rolled_text delimiter behind name ≡ Some text → Begins other text →
    rolled_text delimiter behind other ≡ Some text
text-same None behind name other text is begins = cc
text-same (Some d) behind name other text is begins =
    roll-is d behind other ∙ ap (λ (x : List ℕ). roll d behind x) begins.1 ∙ roll-same d behind name text begins.0 (sym (roll-is d behind name) ∙ is)

-- the text of a name in a listing: what it is rolled up to, or itself
abbrev pub shown_text : List ℕ → Option (List ℕ) → List ℕ
shown_text name None = name
shown_text name (Some text) = text

-- rolling up keeps the order of names: of two names, the texts stand as the names do, or are one
pub rolled_in_order : (delimiter : Option ℕ) (behind : ℕ) (a b : List ℕ) (u v : Option (List ℕ)) → rolled_text delimiter behind a ≡ u →
    rolled_text delimiter behind b ≡ v →
    slice_cmp nat_cmp a b ≡ Less → is_le (slice_cmp nat_cmp (shown_text a u) (shown_text b v)) ≡ true
rolled_in_order delimiter behind a b u v is_a is_b below = less_or (shown_text b v) (shown_text a u) (wrong u v is_a is_b)
  where
    -- what a name is rolled up to isn't above it
    low : (u : Option (List ℕ)) → rolled_text delimiter behind a ≡ u → is_le (slice_cmp nat_cmp (shown_text a u) a) ≡ true
    low None is = ap is_le (tied_itself nat_list_cmp_total a)
    low (Some text) is =
        let begins = text-begins delimiter behind a text is in
        ap (λ (x : List ℕ). is_le (slice_cmp nat_cmp text x)) begins.1 ∙ le-begins text begins.0

    wrong : (u v : Option (List ℕ)) → rolled_text delimiter behind a ≡ u → rolled_text delimiter behind b ≡ v →
        slice_cmp nat_cmp (shown_text b v) (shown_text a u) ≡ Less → ⊥
    wrong u None is_a is_b less =
        let down : slice_cmp nat_cmp b b ≡ Less = le-lt b a b (less-le b a (lt-le b (shown_text a u) a less (low u is_a))) below in
        let tied : slice_cmp nat_cmp b b ≡ Equal = tied_itself nat_list_cmp_total b in
        cc
    wrong u (Some text) is_a is_b less =
        let begins_b = text-begins delimiter behind b text is_b in
        let under : slice_cmp nat_cmp text a ≡ Less = lt-le text (shown_text a u) a less (low u is_a) in
        let begins_a : Begins a text = between-begins text a begins_b.0 (ap is_le under) (ap (λ (x : List ℕ). slice_cmp nat_cmp a x) (sym begins_b.1)
        ∙ below) in
        let same : rolled_text delimiter behind a ≡ Some text = text-same delimiter behind b a text is_b begins_a in
        let one : u ≡ Some text = sym is_a ∙ same in
        let alike : slice_cmp nat_cmp text text ≡ Less = ap (λ (o : Option (List ℕ)). slice_cmp nat_cmp text (shown_text a o)) (sym one) ∙ less in
        let tied : slice_cmp nat_cmp text text ≡ Equal = tied_itself nat_list_cmp_total text in
        cc
