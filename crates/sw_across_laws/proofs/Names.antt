-- Names of objects: those that are text are plain, and those of one container and one object are one.
use Rattle.std.proofs.Common.{◌≡◌, ◌<◌, ℕ, zero, suc, Bool, true, false, not, ◌||◌, ◌==◌, arith, List, [], ◌∷◌, Some, sym, ◌∙◌}
use Rattle.std.proofs.lemmas.Bool.{and_parts}
use Rattle.std.proofs.lemmas.Bool.Decides.{nat_tests}
use Rattle.std.proofs.lemmas.Str.{IsUtf8-from_is_utf8}
use Rattle.std.specs.List.{list_any}
use Rattle.std.specs.Str.{IsUtf8, is_utf8}
use Rattle.sw_hashpath.specs.BadNames.{is_text}
use Rattle.sw_hashpath.specs.Paths.{hash_of}
use Rattle.sw_hashpath.specs.Places.{IsPlaceOf}
use Rattle.sw_hashpath.specs.declared.name.Name.{Name}
use Rattle.sw_hashpath.specs.declared.place.Place.{Place}
use Rattle.sw_listing.proofs.Orders.{IsLow, low-text}
use Rattle.sw_listing_laws.specs.Plain.{Cluster, IsNamed}
use Rattle.sw_shard_listing.specs.Laws.{IsPlain}

-- ---- text

no-zero : (b : ℕ) (more : Bool) → not ((b == 0) || more) ≡ true → (0 < b) × (not more ≡ true)
no-zero zero more none = cc
no-zero (suc b) more none = let some : (suc b == 0) ≡ false = grind (arith, nat_tests) in (omega arith, rw some at none)

low-plain : (name : List ℕ) → IsLow name → not (list_any (λ b. b == 0) name) ≡ true → IsPlain name
low-plain [] low none = tt
low-plain (b ∷ bs) low none = let z = no-zero b (list_any (λ b. b == 0) bs) none in (z.0, low.0, low-plain bs low.1 z.1)

pub text-utf8 : (name : List ℕ) → is_text name ≡ true → IsUtf8 name
text-utf8 name text = IsUtf8-from_is_utf8 name (and_parts (is_utf8 name) (not (list_any (λ b. b == 0) name)) text).0

pub text-plain : (name : List ℕ) → is_text name ≡ true → IsPlain name
text-plain name text =
    low-plain name (low-text name (text-utf8 name text)) (and_parts (is_utf8 name) (not (list_any (λ b. b == 0) name)) text).1

-- ---- names

pub one-name : (c : Cluster) (place : Place) (n o : Name) → IsNamed c n → IsNamed c o → IsPlaceOf c.nodes.secrets n place
    → IsPlaceOf c.nodes.secrets o place → n.object ≡ o.object → n ≡ o
one-name c place n o named also at there objects = λ i. record {
  account = accounts i;
  container = containers i;
  object = objects i;
  hash = hashes i;
}
  where
    accounts : n.account ≡ o.account
    accounts = sym at.account ∙ there.account

    containers : n.container ≡ o.container
    containers = sym at.container ∙ there.container

    hashes : n.hash ≡ o.hash
    hashes =
        named.hashed
        ∙ ((λ i. hash_of c.nodes.secrets (accounts i) (Some (containers i)) (Some (objects i)))
        ∙ sym also.hashed)
