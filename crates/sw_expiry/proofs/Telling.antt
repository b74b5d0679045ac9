-- An entry tells of one deletion at most, which is that of its parts.
use Rattle.std.proofs.Common.{◌≡◌, ◌≢◌, ◌↔◌, ◌≤◌, ℕ, false, List, Option, None, Some, Result, Err, refl, sym, ◌∙◌, ap, subst}
use Rattle.sw_hashpath.specs.BadNames.{bad_name, has_slash}
use Rattle.sw_hashpath.specs.Paths.{hash_of}
use Rattle.sw_hashpath.specs.declared.bad_name.BadName.{BadName}
use Rattle.sw_hashpath.specs.declared.name.Name.{Name}
use Rattle.sw_hashpath.specs.declared.name_error.NameError.{NameError}
use Rattle.sw_hashpath.specs.declared.secrets.Secrets.{Secrets}
use Rattle.sw_expiry.specs.Dues.{TellsOf}
use Rattle.sw_expiry.specs.Laws.{TellsOfOne}
use Rattle.sw_expiry.specs.Queue.{queue_entry}
use Rattle.sw_expiry.specs.declared.due.Due.{Due}
use Rattle.sw_expiry.proofs.Entries.{same-entry}
use Rattle.sw_expiry.proofs.Good.{good-parts}

same-hash : (secrets : Secrets) (a b c d o p : List ℕ) → a ≡ b → c ≡ d → o ≡ p → hash_of secrets a (Some c) (Some o) ≡ hash_of secrets b (Some d) (Some p)
same-hash secrets a b c d o p account container object = rw (account, container, object) refl

same-name : (a b c d o p h k : List ℕ) → a ≡ b → c ≡ d → o ≡ p → h ≡ k →
    ◌≡◌ {A = Name} (record { account = a; container = c; object = o; hash = h }) (record { account = b; container = d; object = p; hash = k })
same-name a b c d o p h k account container object hash = rw (account, container, object, hash) refl

same-due : (t u : ℕ) (m n : Name) → t ≡ u → m ≡ n → ◌≡◌ {A = Due} (record { delete_at = t; name = m }) (record { delete_at = u; name = n })
same-due t u m n time name = rw (time, name) refl

same-fault : (a b c d o p : List ℕ) → a ≡ b → c ≡ d → o ≡ p → bad_name b (Some d) (Some p) ≡ bad_name a (Some c) (Some o)
same-fault a b c d o p account container object = rw (account, container, object) refl

pub tells-of-one : TellsOfOne
tells-of-one secrets entry due other one two =
    let m = due.name in
    let n = other.name in
    let good = good-parts m.account m.container m.object one.good in
    let also = good-parts n.account n.container n.object two.good in
    let parts = same-entry due.delete_at other.delete_at m.account n.account m.container n.container m.object n.object one.is_time two.is_time
    good.account_slash also.account_slash good.container_slash also.container_slash (sym one.is_entry ∙ two.is_entry) in
    let hash : m.hash ≡ n.hash = one.hashed ∙ same-hash secrets m.account n.account m.container n.container m.object n.object parts.1 parts.2 parts.3
    ∙ sym two.hashed in
    same-due due.delete_at other.delete_at m n parts.0
    (same-name m.account n.account m.container n.container m.object n.object m.hash n.hash parts.1 parts.2 parts.3 hash)

-- ---- what is read

pub some-found : (secrets : Secrets) (entry : List ℕ) (found : Due) → TellsOf secrets entry found →
    (due : Due) → (Some found ≡ Some due) ↔ TellsOf secrets entry due
some-found secrets entry found tells due =
    (λ same. let is : found ≡ due = cc in subst (TellsOf secrets entry) is tells, λ other. ap Some (tells-of-one secrets entry found due tells other))

pub none-found : (secrets : Secrets) (entry : List ℕ) → ((due : Due) → TellsOf secrets entry due → ⊥) →
    (due : Due) → (◌≡◌ {A = Option Due} None (Some due)) ↔ TellsOf secrets entry due
none-found secrets entry none due = (λ same. cc, λ tells. absurd (none due tells))

-- an entry of these parts
pub record HasParts (entry : List ℕ) (t : ℕ) (a c o : List ℕ) : Type 0 where
  pub is_time : t ≤ 9999999999
  pub account_slash : has_slash a ≡ false
  pub container_slash : has_slash c ≡ false
  pub is_entry : entry ≡ queue_entry t a c o

-- tells of no deletion but of that of the names in it, which are good ones then
pub parts-good : (secrets : Secrets) (entry : List ℕ) (t : ℕ) (a c o : List ℕ) → HasParts entry t a c o → (due : Due) → TellsOf secrets entry due →
    bad_name a (Some c) (Some o) ≡ None
parts-good secrets entry t a c o parts due tells =
    let n = due.name in
    let good = good-parts n.account n.container n.object tells.good in
    let same = same-entry due.delete_at t n.account a n.container c n.object o tells.is_time parts.is_time good.account_slash parts.account_slash
    good.container_slash parts.container_slash (sym tells.is_entry ∙ parts.is_entry) in
    same-fault n.account a n.container c n.object o same.1 same.2 same.3 ∙ tells.good

pub no-parts : (secrets : Secrets) (entry : List ℕ) →
    ((t : ℕ) (a c o : List ℕ) → t ≤ 9999999999 → has_slash a ≡ false → has_slash c ≡ false → entry ≢ queue_entry t a c o) →
    (due : Due) → TellsOf secrets entry due → ⊥
no-parts secrets entry none due tells =
    let n = due.name in
    let good = good-parts n.account n.container n.object tells.good in
    none due.delete_at n.account n.container n.object tells.is_time good.account_slash good.container_slash tells.is_entry

-- and where they are good ones, tells of that
pub parts-tell : (secrets : Secrets) (entry : List ℕ) (t : ℕ) (a c o : List ℕ) (name : Name) → HasParts entry t a c o →
    bad_name a (Some c) (Some o) ≡ None → name ≡ record { account = a; container = c; object = o; hash = hash_of secrets a (Some c) (Some o) } →
    TellsOf secrets entry (record { delete_at = t; name = name })
parts-tell secrets entry t a c o name parts good is =
    let made : Name = record { account = a; container = c; object = o; hash = hash_of secrets a (Some c) (Some o) } in
    let told : TellsOf secrets entry (record { delete_at = t; name = made }) =
    record { is_entry = parts.is_entry; is_time = parts.is_time; good = good; hashed = refl } in
    subst (λ (m : Name). TellsOf secrets entry (record { delete_at = t; name = m })) (sym is) told

pub not-bad : (fault : Option BadName) →
    ((bad : BadName) → ◌≡◌ {A = Result Name NameError} (Err NameError.NoMemory) (Err (NameError.Bad bad)) ↔ (fault ≡ Some bad)) → fault ≡ None
not-bad None told = refl
not-bad (Some bad) told = let wrong = (told bad).1 refl in cc
