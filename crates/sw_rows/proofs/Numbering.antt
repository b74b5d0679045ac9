-- Rows that are put in and taken out by their numbers.
use Rattle.std.proofs.Common.{◌≡◌, ℕ, ◌<◌, ◌≤◌, Bool, true, false, cond, not, ◌&&◌, List, [], ◌∷◌, ◌++◌, Option, Some, None, refl, ◌∙◌, ap, arith, max}
use Rattle.std.specs.List.{filter, find, list_all}
use Rattle.std.specs.Prelude.{is_none, nat_le, nat_lt}
use Rattle.std.proofs.lemmas.Bool.{leb-true}
use Rattle.std.specs.Option.{option_map}
use Rattle.std.proofs.lemmas.List.Elements.{All-filter, All-push, All-weaker}
use Rattle.sw_rows.specs.Rows.{can_restore, find_named, is_named, is_numbered, IsListed, IsNamedOnce, Listed, restored, with_numbered, without}
use Rattle.sw_rows.specs.Rows.{without_numbered}
use Rattle.sw_rows.specs.declared.numbered.Numbered.{Numbered}
use Rattle.sw_rows.specs.declared.row.Row.{Row}
use Rattle.sw_rows.proofs.Merging.{rising-filter, rising-push}
use Rattle.sw_rows.proofs.Named.{find-filter, once-push, without-none}

pub once-filter : (p : Numbered → Bool) (ns : List Numbered) → IsNamedOnce ns → IsNamedOnce (filter p ns)
once-filter p [] once = once
once-filter p (n ∷ ns) once = at (p n) (once-filter p ns once.1)
  where
    at : (b : Bool) → IsNamedOnce (filter p ns) → IsNamedOnce (cond b (n ∷ filter p ns) (filter p ns))
    at true rest = (find-filter (is_named n.row.name) p ns once.0, rest)
    at false rest = rest

-- no row of a name, where its row isn't found
not_found : (name : List ℕ) (ns : List Numbered) → find_named ns name ≡ None → find (is_named name) ns ≡ None
not_found name [] none = refl
not_found name (n ∷ ns) none = at (is_named name n) none (λ h. not_found name ns h)
  where
    at : (b : Bool) → option_map (λ m. m.row) (cond b (Some n) (find (is_named name) ns)) ≡ None → (find_named ns name ≡ None → find (is_named name) ns ≡ None)
        → cond b (Some n) (find (is_named name) ns) ≡ None
    at true none rest = cc
    at false none rest = rest none

pub listed-with_numbered : (l : Listed) (row : Row) (rowid : ℕ) → IsListed l → l.top < rowid → find_named l.list row.name ≡ None →
    IsListed (with_numbered l row rowid)
listed-with_numbered l row rowid is above none =
    let n : Numbered = record { rowid = rowid; row = row } in
    let P : Numbered → Type 0 = λ x. x.rowid ≤ l.top in
    let Q : Numbered → Type 0 = λ x. x.rowid ≤ rowid in
    record {
      rising = rising-push 0 l.top l.list n (omega arith) above is.rising is.within;
      within = All-push Q l.list n (All-weaker P Q (λ x le. omega arith) l.list is.within) (omega arith);
      once = once-push l.list n is.once (not_found row.name l.list none);
    }

pub listed-without_numbered : (l : Listed) (rowid : ℕ) → IsListed l → IsListed (without_numbered l rowid)
listed-without_numbered l rowid is =
    let kept : Numbered → Bool = λ n. not (is_numbered rowid n) in
    let P : Numbered → Type 0 = λ x. x.rowid ≤ l.top in
    record {
      rising = rising-filter kept 0 l.list is.rising;
      within = All-filter kept P l.list is.within;
      once = once-filter kept l.list is.once;
    }

-- ---- rows that are put in as they are read from where they are kept

both : (x y : Bool) → (x && y) ≡ true → (x ≡ true) × (y ≡ true)
both true y is = (refl, is)
both false y is = cc

none_there : (o : Option Row) → is_none o ≡ true → o ≡ None
none_there None is = refl
none_there (Some row) is = cc

pub same_listed : (a b : Listed) → a.list ≡ b.list → a.top ≡ b.top → a ≡ b
same_listed a b list top =
    ap (λ (x : List Numbered). let l : Listed = record { list = x; top = a.top } in l) list
    ∙ ap (λ (t : ℕ). let l : Listed = record { list = b.list; top = t } in l) top

-- a row that can stand behind the others was put there
pub restored-put : (l new : Listed) (rowid : ℕ) (row : Row) → can_restore l rowid row ≡ true →
    new.list ≡ without row.name l.list ++ record { rowid = rowid; row = row } ∷ [] → new.top ≡ max l.top rowid → new ≡ restored l rowid row
restored-put l new rowid row can list top =
    let all = both (nat_lt 0 rowid && nat_le rowid l.top && list_all (λ n. nat_lt n.rowid rowid) l.list) (is_none (find_named l.list row.name)) can in
    let most = both (nat_lt 0 rowid && nat_le rowid l.top) (list_all (λ n. nat_lt n.rowid rowid) l.list) all.0 in
    let given : rowid ≤ l.top = leb-true rowid l.top (both (nat_lt 0 rowid) (nat_le rowid l.top) most.0).1 in
    let none : without row.name l.list ≡ l.list = without-none row.name l.list (not_found row.name l.list (none_there (find_named l.list row.name) all.1)) in
    let n : Numbered = record { rowid = rowid; row = row } in
    let put : Listed = record l { list = l.list ++ n ∷ [] } in
    let same : new ≡ put = same_listed new put (list ∙ ap (λ (t : List Numbered). t ++ n ∷ []) none) (top ∙ omega arith) in
    rw can same
