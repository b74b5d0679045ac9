-- Rows by their names.
use Rattle.std.proofs.Common.{◌≡◌, ℕ, Bool, true, false, cond, not, List, [], ◌∷◌, ◌++◌, Option, None, Some, refl, sym, ◌∙◌, ap}
use Rattle.std.proofs.Common.{subst}
use Rattle.std.specs.List.{filter, find}
use Rattle.std.specs.Option.{option_map, option_or}
use Rattle.std.specs.Str.{bytes_eq}
use Rattle.std.proofs.lemmas.Bool.{false_from_ne_true}
use Rattle.std.proofs.lemmas.List.Folds.{find-append}
use Rattle.std.proofs.lemmas.Slice.Eq.{bytes_eq-Decides}
use Rattle.sw_rows.specs.Rows.{find_named, is_named, IsNamedOnce, without}
use Rattle.sw_rows.specs.declared.numbered.Numbered.{Numbered}

pub same_name : (a b : List ℕ) → bytes_eq a b ≡ true → a ≡ b
same_name a b same = (bytes_eq-Decides a b).0 same

pub name_itself : (a : List ℕ) → bytes_eq a a ≡ true
name_itself a = (bytes_eq-Decides a a).1 refl

pub name-sym : (a b : List ℕ) → bytes_eq a b ≡ false → bytes_eq b a ≡ false
name-sym a b apart = false_from_ne_true (bytes_eq b a) (λ same. let both : bytes_eq a b ≡ true = (bytes_eq-Decides a b).1 (sym (same_name b a same)) in cc)

module _ (p : Numbered → Bool) where
  -- the first that passes isn't the head, where the head doesn't pass
  find-head : (n : Numbered) (ns : List Numbered) → find p (n ∷ ns) ≡ None → (p n ≡ false) × (find p ns ≡ None)
  find-head n ns none = at (p n) refl none
    where
      at : (b : Bool) → p n ≡ b → cond b (Some n) (find p ns) ≡ None → (p n ≡ false) × (find p ns ≡ None)
      at true is none = cc
      at false is none = (is, none)

  find-cons : (n : Numbered) (ns : List Numbered) → p n ≡ false → find p ns ≡ None → find p (n ∷ ns) ≡ None
  find-cons n ns apart none = rw apart none

  -- what isn't in a list isn't in what a filter keeps of it
  pub find-filter : (q : Numbered → Bool) (ns : List Numbered) → find p ns ≡ None → find p (filter q ns) ≡ None
  find-filter q [] none = refl
  find-filter q (n ∷ ns) none =
      let parts = find-head n ns none in
      at (q n) parts.0 (find-filter q ns parts.1)
    where
      at : (b : Bool) → p n ≡ false → find p (filter q ns) ≡ None → find p (cond b (n ∷ filter q ns) (filter q ns)) ≡ None
      at true apart rest = find-cons n (filter q ns) apart rest
      at false apart rest = rest

-- where no row has the name, none goes
pub without-none : (name : List ℕ) (ns : List Numbered) → find (is_named name) ns ≡ None → without name ns ≡ ns
without-none name [] none = refl
without-none name (n ∷ ns) none =
    let parts = find-head (is_named name) n ns none in
    rw (parts.0) (ap (λ (t : List Numbered). n ∷ t) (without-none name ns parts.1))

-- of the rows of other names none has the name
pub find-without : (name : List ℕ) (ns : List Numbered) → find (is_named name) (without name ns) ≡ None
find-without name [] = refl
find-without name (n ∷ ns) = at (is_named name n) refl (find-without name ns)
  where
    at : (b : Bool) → is_named name n ≡ b → find (is_named name) (without name ns) ≡ None →
        find (is_named name) (cond (not b) (n ∷ without name ns) (without name ns)) ≡ None
    at true is rest = rest
    at false is rest = find-cons (is_named name) n (without name ns) is rest

-- a row of another name is found as before
pub find-without_other : (name other : List ℕ) (ns : List Numbered) → bytes_eq name other ≡ false →
    find (is_named other) (without name ns) ≡ find (is_named other) ns
find-without_other name other [] apart = refl
find-without_other name other (n ∷ ns) apart = at (is_named name n) refl (find-without_other name other ns apart)
  where
    at : (b : Bool) → is_named name n ≡ b → find (is_named other) (without name ns) ≡ find (is_named other) ns
        → find (is_named other) (cond (not b) (n ∷ without name ns) (without name ns)) ≡ find (is_named other) (n ∷ ns)
    at true is rest =
        let named : n.row.name ≡ name = same_name n.row.name name is in
        let not_other : is_named other n ≡ false = ap (λ (x : List ℕ). bytes_eq x other) named ∙ apart in
        rw not_other rest
    at false is rest = ap (λ (t : Option Numbered). cond (is_named other n) (Some n) t) rest

pub once-without : (name : List ℕ) (ns : List Numbered) → IsNamedOnce ns → IsNamedOnce (without name ns)
once-without name [] once = once
once-without name (n ∷ ns) once = at (is_named name n) (once-without name ns once.1)
  where
    at : (b : Bool) → IsNamedOnce (without name ns) → IsNamedOnce (cond (not b) (n ∷ without name ns) (without name ns))
    at true rest = rest
    at false rest = (find-filter (is_named n.row.name) (λ m. not (is_named name m)) ns once.0, rest)

pub once-push : (ns : List Numbered) (n : Numbered) → IsNamedOnce ns → find (is_named n.row.name) ns ≡ None → IsNamedOnce (ns ++ n ∷ [])
once-push [] n once none = (refl, tt)
once-push (m ∷ ms) n once none =
    let parts = find-head (is_named n.row.name) m ms none in
    let apart : is_named m.row.name n ≡ false = name-sym m.row.name n.row.name parts.0 in
    let last : find (is_named m.row.name) (n ∷ []) ≡ None = rw apart refl in
    (find-append (is_named m.row.name) ms (n ∷ []) ∙ rw once.0 last, once-push ms n once.1 parts.1)

option_or-none : (o : Option Numbered) → option_or o None ≡ o
option_or-none None = refl
option_or-none (Some n) = refl

-- what names find, where a row takes the place of the one of its name
pub find-put : (ns : List Numbered) (n : Numbered) (name : List ℕ)
    → find (is_named name) (without n.row.name ns ++ n ∷ []) ≡ cond (bytes_eq n.row.name name) (Some n) (find (is_named name) ns)
find-put ns n name = at (bytes_eq n.row.name name) refl
  where
    joined : find (is_named name) (without n.row.name ns ++ n ∷ []) ≡ option_or (find (is_named name) (without n.row.name ns)) (find (is_named name) (n ∷ []))
    joined = find-append (is_named name) (without n.row.name ns) (n ∷ [])

    at : (b : Bool) → bytes_eq n.row.name name ≡ b → find (is_named name) (without n.row.name ns ++ n ∷ []) ≡ cond b (Some n) (find (is_named name) ns)
    at true is =
        let named : n.row.name ≡ name = same_name n.row.name name is in
        let P : List ℕ → Type 0 = λ x. find (is_named x) (without n.row.name ns) ≡ None in
        let none : find (is_named name) (without n.row.name ns) ≡ None = subst P named (find-without n.row.name ns) in
        let last : find (is_named name) (n ∷ []) ≡ Some n = rw is refl in
        joined ∙ rw (none, last) refl
    at false is =
        let last : find (is_named name) (n ∷ []) ≡ None = rw is refl in
        joined ∙ rw last (option_or-none (find (is_named name) (without n.row.name ns))) ∙ find-without_other n.row.name name ns is

-- the rows of names, where a row takes the place of the one of its name
pub find_named-put : (ns : List Numbered) (n : Numbered) (name : List ℕ)
    → find_named (without n.row.name ns ++ n ∷ []) name ≡ cond (bytes_eq n.row.name name) (Some n.row) (find_named ns name)
find_named-put ns n name = rw (find-put ns n name) (at (bytes_eq n.row.name name))
  where
    at : (b : Bool) → option_map (λ m. m.row) (cond b (Some n) (find (is_named name) ns)) ≡ cond b (Some n.row) (find_named ns name)
    at true = refl
    at false = refl

-- rows round the one of a name, and the rows without it
pub record Parted (name : List ℕ) (ns : List Numbered) (n : Numbered) : Type 0 where
  pub before : List Numbered
  pub after : List Numbered
  pub whole : ns ≡ before ++ n ∷ after
  pub rest : without name ns ≡ before ++ after

pub parted : (name : List ℕ) (ns : List Numbered) (n : Numbered) → IsNamedOnce ns → find (is_named name) ns ≡ Some n → Parted name ns n
parted name [] n once found = cc
parted name (m ∷ ms) n once found = at (is_named name m) refl found (λ h. parted name ms n once.1 h)
  where
    at : (b : Bool) → is_named name m ≡ b → cond b (Some m) (find (is_named name) ms) ≡ Some n → (find (is_named name) ms ≡ Some n → Parted name ms n)
        → Parted name (m ∷ ms) n
    at true is found further =
        let same : m ≡ n = cc in
        let P : List ℕ → Type 0 = λ x. find (is_named x) ms ≡ None in
        let none : without name ms ≡ ms = without-none name ms (subst P (same_name m.row.name name is) once.0) in
        record { before = []; after = ms; whole = ap (λ (x : Numbered). x ∷ ms) same; rest = rw is none }
    at false is found further =
        let p = further found in
        record {
          before = m ∷ p.before;
          after = p.after;
          whole = ap (λ (t : List Numbered). m ∷ t) p.whole;
          rest = rw is (ap (λ (t : List Numbered). m ∷ t) p.rest);
        }
