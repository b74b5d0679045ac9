-- Texts and objects of entries.
use Rattle.std.proofs.Common.{◌≡◌, ℕ, List, [], ◌∷◌, ◌++◌, ◌+◌, ◌<◌, length, take, get_or, Result, Ok, Err, refl, sym, ◌∙◌, ap, append_assoc}
use Rattle.std.proofs.lemmas.List.{append-nil, take_more}
use Rattle.std.specs.Result.{IsOk, MatchResult}
use Rattle.std.specs.List.{AllZip, flat_map}
use Rattle.json.specs.Token.{Token}
use Rattle.json.specs.Tree.{items_tokens}
use Rattle.serde_json.specs.Data.{Data, array}
use Rattle.serde_json.specs.View.{items_of}
use Rattle.serde_json.specs.Written.{items_outline}
use Rattle.sw_listing_json.specs.Writing.{tokens_of}

pub text-IsOk : {T E : Type 0} (r : Result T E) (P : T → Type 0) (Q : Type 0) (R : E → Type 0) → MatchResult r P (λ e. (¬ Q) × R e) → Q → IsOk r
text-IsOk (Ok x) P Q R h q = refl
text-IsOk (Err e) P Q R h q = absurd (h.0 q)

-- one more on both sides
zip-push : {A B : Type 0} (R : A → B → Type 0) (xs : List A) (ys : List B) (x : A) (y : B) → AllZip R xs ys → R x y → AllZip R (xs ++ x ∷ []) (ys ++ y ∷ [])
zip-push R [] [] x y all one = (one, tt)
zip-push R [] (b ∷ bs) x y all one = absurd all
zip-push R (a ∷ as') [] x y all one = absurd all
zip-push R (a ∷ as') (b ∷ bs) x y all one = (all.0, zip-push R as' bs x y all.1 one)

pub zip-more : {A B : Type 0} (R : A → B → Type 0) (xs : List A) (ys : List B) (i : ℕ) (x : A) (y : B) → i < length xs → x ≡ get_or xs i x
    → AllZip R (take i xs) ys → R x y → AllZip R (take (i + 1) xs) (ys ++ y ∷ [])
zip-more R xs ys i x y inside is all one = rw (take_more xs i x inside, ← is) (zip-push R (take i xs) ys x y all one)

-- ---- tokens that are written one behind the other

-- a row's object
row-tokens : (old : List Token) (a b c d e f g h i j k l : Token)
    → ((((((old ++ a ∷ []) ++ b ∷ c ∷ []) ++ d ∷ e ∷ []) ++ f ∷ g ∷ []) ++ h ∷ i ∷ []) ++ j ∷ k ∷ []) ++ l ∷ []
    ≡ old ++ a ∷ b ∷ c ∷ d ∷ e ∷ f ∷ g ∷ h ∷ i ∷ j ∷ k ∷ l ∷ []
row-tokens [] a b c d e f g h i j k l = refl
row-tokens (x ∷ xs) a b c d e f g h i j k l = ap (λ (t : List Token). x ∷ t) (row-tokens xs a b c d e f g h i j k l)

pub row-added : (o1 o2 o3 o4 o5 o6 o7 o8 : List Token) (a b c d e f g h i j k l : Token) → o2 ≡ o1 ++ a ∷ [] → o3 ≡ o2 ++ b ∷ c ∷ [] →
    o4 ≡ o3 ++ d ∷ e ∷ [] → o5 ≡ o4 ++ f ∷ g ∷ [] → o6 ≡ o5 ++ h ∷ i ∷ [] → o7 ≡ o6 ++ j ∷ k ∷ [] → o8 ≡ o7 ++ l ∷ [] →
    o8 ≡ o1 ++ a ∷ b ∷ c ∷ d ∷ e ∷ f ∷ g ∷ h ∷ i ∷ j ∷ k ∷ l ∷ []
row-added o1 o2 o3 o4 o5 o6 o7 o8 a b c d e f g h i j k l e2 e3 e4 e5 e6 e7 e8 =
    e8
    ∙ ap (λ (t : List Token). t ++ l ∷ []) (e7 ∙ ap (λ (t : List Token). t ++ j ∷ k ∷ []) (e6 ∙ ap (λ (t : List Token). t ++ h ∷ i ∷ []) (e5
    ∙ ap (λ (t : List Token). t ++ f ∷ g ∷ []) (e4 ∙ ap (λ (t : List Token). t ++ d ∷ e ∷ []) (e3 ∙ ap (λ (t : List Token). t ++ b ∷ c ∷ []) e2)))))
    ∙ row-tokens o1 a b c d e f g h i j k l

-- all objects, and one more
pub more-tokens : (old all now : List Token) (objects : List Data) (d : Data) → all ≡ old ++ flat_map tokens_of objects → now ≡ all ++ tokens_of d →
    now ≡ old ++ flat_map tokens_of (objects ++ d ∷ [])
more-tokens old all now objects d is added =
    added ∙ ap (λ (t : List Token). t ++ tokens_of d) is ∙ append_assoc old (flat_map tokens_of objects) (tokens_of d)
    ∙ ap (λ (t : List Token). old ++ t) (sym (last objects))
  where
    last : (ds : List Data) → flat_map tokens_of (ds ++ d ∷ []) ≡ flat_map tokens_of ds ++ tokens_of d
    last [] = append-nil (tokens_of d)
    last (e ∷ es) = ap (λ (t : List Token). tokens_of e ++ t) (last es) ∙ sym (append_assoc (tokens_of e) (flat_map tokens_of es) (tokens_of d))

-- between brackets they are the list of the objects
items_tokens-of : (ds : List Data) → flat_map tokens_of ds ++ Token.end_array ∷ [] ≡ items_tokens (items_outline (items_of ds))
items_tokens-of [] = refl
items_tokens-of (d ∷ ds) =
    append_assoc (tokens_of d) (flat_map tokens_of ds) (Token.end_array ∷ []) ∙ ap (λ (t : List Token). tokens_of d ++ t) (items_tokens-of ds)

pub list-tokens : (first more all : List Token) (objects : List Data) → first ≡ Token.begin_array ∷ [] → more ≡ first ++ flat_map tokens_of objects →
    all ≡ more ++ Token.end_array ∷ [] → all ≡ tokens_of (array (items_of objects))
list-tokens first more all objects begun added ended =
    ended
    ∙ ap (λ (t : List Token). t ++ Token.end_array ∷ []) (added ∙ ap (λ (t : List Token). t ++ flat_map tokens_of objects) begun)
    ∙ ap (λ (t : List Token). Token.begin_array ∷ t) (items_tokens-of objects)
