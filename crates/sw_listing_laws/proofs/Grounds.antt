-- The ground of a cluster's ledger, and what names and places are on it.
use Rattle.std.proofs.Common.{◌≡◌, Some, None, refl, sym, ◌∙◌, ap}
use Rattle.sw_hashpath.specs.Paths.{hash_of}
use Rattle.sw_hashpath.specs.Places.{IsPlaceOf}
use Rattle.sw_hashpath.specs.declared.name.Name.{Name}
use Rattle.sw_hashpath.specs.declared.place.Place.{Place}
use Rattle.sw_pending_laws.specs.Ledger.{Ground}
use Rattle.sw_listing_laws.specs.Plain.{Cluster, IsNamed}

-- the container of an object of this name
abbrev pub home : Cluster → Name → Place
home c name = record {
  account = name.account;
  container = name.container;
  hash = hash_of c.nodes.secrets name.account (Some name.container) None;
}

abbrev pub ground : Cluster → Ground
ground c = record { place = λ h. home c (c.names h); object = λ h. (c.names h).object; ring = c.replicas; is_hidden = c.is_hidden }

module _ (c : Cluster) where
  pub home-is : (name : Name) → IsPlaceOf c.nodes.secrets name (home c name)
  home-is name = record { account = refl; container = refl; hashed = refl }

  -- each name has one container
  pub home-one : (name : Name) (place : Place) → IsPlaceOf c.nodes.secrets name place → place ≡ home c name
  home-one name place is = λ i. record { account = is.account i; container = is.container i; hash = is.hashed i }

  pub named-place : (name : Name) → IsNamed c name → (ground c).place name.hash ≡ home c name
  named-place name named = ap (home c) named.one

  pub named-object : (name : Name) → IsNamed c name → (ground c).object name.hash ≡ name.object
  named-object name named = ap (λ (n : Name). n.object) named.one

  -- the container of a name on the ground
  pub ground-place : (name : Name) (place : Place) → IsNamed c name → IsPlaceOf c.nodes.secrets name place → place ≡ (ground c).place name.hash
  ground-place name place named is = home-one name place is ∙ sym (named-place name named)

  pub place-of : (name : Name) (place : Place) → IsNamed c name → (ground c).place name.hash ≡ place → IsPlaceOf c.nodes.secrets name place
  place-of name place named is =
      let same : home c name ≡ place = sym (named-place name named) ∙ is in record {
        account = ap (λ (p : Place). p.account) (sym same);
        container = ap (λ (p : Place). p.container) (sym same);
        hashed = ap (λ (p : Place). p.hash) (sym same);
      }

  -- names of one hash are one
  pub one-name : (name other : Name) → IsNamed c name → IsNamed c other → name.hash ≡ other.hash → name ≡ other
  one-name name other named also same = sym named.one ∙ (ap c.names same ∙ also.one)

  -- so are those of one container and one object
  pub one-hash : (name other : Name) → IsNamed c name → IsNamed c other → (ground c).place name.hash ≡ (ground c).place other.hash
      → (ground c).object name.hash ≡ (ground c).object other.hash → name.hash ≡ other.hash
  one-hash name other named also places objects =
      let home_same : home c name ≡ home c other = sym (named-place name named) ∙ (places ∙ named-place other also) in
      let object_same : name.object ≡ other.object = sym (named-object name named) ∙ (objects ∙ named-object other also) in
      let account : name.account ≡ other.account = ap (λ (p : Place). p.account) home_same in
      let container : name.container ≡ other.container = ap (λ (p : Place). p.container) home_same in
      named.hashed
      ∙ ((λ i. hash_of c.nodes.secrets (account i) (Some (container i)) (Some (object_same i)))
      ∙ sym also.hashed)
