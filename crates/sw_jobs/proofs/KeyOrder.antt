-- The order of times and names, and what stands at each after one is kept.
use Rattle.std.proofs.Common.{◌≡◌, Bool, true, false, cond, [], ◌∷◌, Option, Some, refl, sym, ◌∙◌, ap}
use Rattle.std.specs.BTreeMap.{is_at}
use Rattle.std.specs.Cmp.Lexicographic.{slice_cmp}
use Rattle.std.specs.Ordering.{is_eq, match_ordering, nat_cmp, ordering_then}
use Rattle.std.specs.declared.cmp.Ordering.{Ordering}
use Rattle.std.specs.declared.cmp.Ordering.TheVariants.{Less, Equal, Greater}
use Rattle.std.proofs.lemmas.Cmp.{nat_cmp_total, nat_list_cmp_total, tied_itself}
use Rattle.std.proofs.lemmas.Map.Lookups.{exact_bytes, exact_unsigned}
use Rattle.sw_jobs.specs.Firsts.{Kept, Key, kept_at, key_cmp, with_kept}
use Rattle.sw_jobs.specs.declared.job.Job.{Job}

-- ---- keys that are equal in order are one

then-both : (a b : Ordering) → ordering_then a b ≡ Equal → (a ≡ Equal) × (b ≡ Equal)
then-both Less b is = cc
then-both Equal b is = (refl, is)
then-both Greater b is = cc

pub key-exact : (x y : Key) → key_cmp x y ≡ Equal → x ≡ y
key-exact x y is =
    let time = nat_cmp x.0 y.0 in
    let hash = slice_cmp nat_cmp x.1.hash y.1.hash in
    let account = slice_cmp nat_cmp x.1.account y.1.account in
    let container = slice_cmp nat_cmp x.1.container y.1.container in
    let object = slice_cmp nat_cmp x.1.object y.1.object in
    let by_object = then-both (ordering_then (ordering_then (ordering_then time hash) account) container) object is in
    let by_container = then-both (ordering_then (ordering_then time hash) account) container by_object.0 in
    let by_account = then-both (ordering_then time hash) account by_container.0 in
    let by_hash = then-both time hash by_account.0 in
    let times : x.0 ≡ y.0 = exact_unsigned x.0 y.0 by_hash.0 in
    let hashes : x.1.hash ≡ y.1.hash = exact_bytes x.1.hash y.1.hash by_hash.1 in
    let accounts : x.1.account ≡ y.1.account = exact_bytes x.1.account y.1.account by_account.1 in
    let containers : x.1.container ≡ y.1.container = exact_bytes x.1.container y.1.container by_container.1 in
    let objects : x.1.object ≡ y.1.object = exact_bytes x.1.object y.1.object by_object.1 in
    λ i. (times i, record { account = accounts i; container = containers i; object = objects i; hash = hashes i })

pub key-itself : (x : Key) → key_cmp x x ≡ Equal
key-itself x =
    rw (
      tied_itself nat_cmp_total x.0,
      tied_itself nat_list_cmp_total x.1.hash,
      tied_itself nat_list_cmp_total x.1.account,
      tied_itself nat_list_cmp_total x.1.container,
      tied_itself nat_list_cmp_total x.1.object,
    ) refl

eq-Equal : (o : Ordering) → is_eq o ≡ true → o ≡ Equal
eq-Equal Less is = cc
eq-Equal Equal is = refl
eq-Equal Greater is = cc

pub is_at-key : (q key : Key) → is_at (key_cmp q) key ≡ true → q ≡ key
is_at-key q key is = key-exact q key (eq-Equal (key_cmp q key) is)

pub is_at-itself : (key : Key) → is_at (key_cmp key) key ≡ true
is_at-itself key = ap is_eq (key-itself key)

-- ---- what stands at a key

-- the place of one key
conds : (b : Bool) (job old : Job) (rest : Option Job) → cond b (Some job) rest ≡ cond b (Some job) (cond b (Some old) rest)
conds true job old rest = refl
conds false job old rest = refl

swapped : (b c : Bool) (job old : Job) (rest : Option Job) → (b ≡ true → c ≡ true → ⊥)
    → cond b (Some old) (cond c (Some job) rest) ≡ cond c (Some job) (cond b (Some old) rest)
swapped true true job old rest apart = absurd (apart refl refl)
swapped true false job old rest apart = refl
swapped false c job old rest apart = refl

pub kept_at-with_kept : (kept : Kept) (key : Key) (job : Job) (q : Key)
    → kept_at (with_kept kept key job) q ≡ cond (is_at (key_cmp q) key) (Some job) (kept_at kept q)
kept_at-with_kept [] key job q = refl
kept_at-with_kept (e ∷ es) key job q = by (key_cmp key e.0) refl (kept_at-with_kept es key job q)
  where
    by : (o : Ordering) → key_cmp key e.0 ≡ o → kept_at (with_kept es key job) q ≡ cond (is_at (key_cmp q) key) (Some job) (kept_at es q)
        → kept_at (match_ordering o ((key, job) ∷ e ∷ es) ((e.0, job) ∷ es) (e ∷ with_kept es key job)) q
        ≡ cond (is_at (key_cmp q) key) (Some job) (kept_at (e ∷ es) q)
    by Less is rest = refl
    by Equal is rest =
        let one : is_at (key_cmp q) key ≡ is_at (key_cmp q) e.0 = ap (is_at (key_cmp q)) (key-exact key e.0 is) in
        conds (is_at (key_cmp q) e.0) job e.1 (kept_at es q)
        ∙ ap (λ (b : Bool). cond b (Some job) (cond (is_at (key_cmp q) e.0) (Some e.1) (kept_at es q))) (sym one)
    by Greater is rest =
        ap (λ (o : Option Job). cond (is_at (key_cmp q) e.0) (Some e.1) o) rest
        ∙ swapped (is_at (key_cmp q) e.0) (is_at (key_cmp q) key) job e.1 (kept_at es q) (λ old new. apart (sym (is_at-key q key new) ∙ is_at-key q e.0 old))
      where
        apart : key ≡ e.0 → ⊥
        apart same = let equal : key_cmp key e.0 ≡ Equal = ap (key_cmp key) (sym same) ∙ key-itself key in cc
