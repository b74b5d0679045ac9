-- Doubts that a read of a partition settles, and what a trail shows of the entries that come of them.
use Rattle.std.proofs.Common.{◌≡◌, ◌≢◌, ℕ, suc, ◌+◌, ◌≤◌, Bool, true, false, List, [], ◌∷◌, ◌++◌, length, map, find, Some, None, refl, sym, ◌∙◌, ap, subst}
use Rattle.std.proofs.Common.{arith, Option, nat_lt}
use Rattle.std.specs.Option.{option_map}
use Rattle.std.proofs.lemmas.Bool.{lt-ltb}
use Rattle.std.proofs.Common.{append_assoc, length-append, if◌then◌else◌, ◌⊎◌, inl, inr, Result, Ok, Err, OnErr}
use Rattle.std.specs.Bool.{⊤}
use Rattle.std.specs.Result.{IsErrAnd}
use Rattle.std.proofs.lemmas.List.{append-nil, append_cancel_left, map-append}
use Rattle.std.specs.Str.{bytes_eq}
use Rattle.sw_hashpath.specs.declared.name.Name.{Name}
use Rattle.sw_journal.specs.Entries.{first_in}
use Rattle.sw_journal.specs.Settling.{SettlesFirst, SettlesOne, settled_by}
use Rattle.sw_objdir.specs.Comparing.{HasDoubt, Looks, SettlesDoubt, is_in, is_write_in}
use Rattle.sw_objdir.specs.Directories.{Kept}
use Rattle.sw_objdir.specs.Stepping.{AddsBriefs, told_of}
use Rattle.sw_objdir.specs.declared.comparing.Scope.{Scope}
use Rattle.sw_object_steps.proofs.Hashes.{hash-other, hash-self}
use Rattle.sw_object_steps.specs.Briefs.{brief_of}
use Rattle.sw_object_steps.specs.Journals.{Hash, Journal, written}
use Rattle.sw_object_steps.specs.Outlines.{is_new_to}
use Rattle.sw_object_steps.specs.Rules.{obj_key}
use Rattle.sw_object_steps.specs.declared.entry.Brief.{Brief}
use Rattle.sw_object_steps.specs.declared.entry.ObjEntry.{ObjEntry}
use Rattle.sw_object_steps.specs.declared.entry.ObjEntry.TheVariants.{Dropped, Files, Marked, Wrote}
use Rattle.sw_object_steps.specs.declared.outline.Outline.{Outline}
use Rattle.sw_pending.specs.declared.filed.Filed.{Filed}
use Rattle.sw_state.specs.Writes.{tag_of}
use Rattle.sw_state.specs.declared.write.Write.{Write}
use Rattle.sw_volume.proofs.Counting.{raised_by-plus}
use Rattle.sw_volume.specs.Volume.{OnFailed, raised_by}
use Rattle.sw_volume.specs.declared.errors.VolumeError.{VolumeError}
use Rattle.sw_volume.specs.declared.errors.VolumeError.TheVariants as volumes

-- ---- the first doubted write of a hash

first-of : (hash : Hash) (xs : List ObjEntry) (name : Name) (w : Write) (records : List Filed) (ys : List ObjEntry) → written hash xs ≡ []
    → name.hash ≡ hash → first_in hash (xs ++ Wrote name w records ∷ ys) ≡ Some (Wrote name w records)
first-of hash [] name w records ys none own = rw (own, hash-self hash) refl
first-of hash (Files by filed ∷ xs) name w records ys none own = first-of hash xs name w records ys none own
first-of hash (Marked by filed device ∷ xs) name w records ys none own = first-of hash xs name w records ys none own
first-of hash (Dropped by filed ∷ xs) name w records ys none own = first-of hash xs name w records ys none own
first-of hash (Wrote n v more ∷ xs) name w records ys none own = by (bytes_eq n.hash hash) none (λ is. first-of hash xs name w records ys is own)
  where
    by : (b : Bool) → (if b then v ∷ written hash xs else written hash xs) ≡ []
        → (written hash xs ≡ [] → first_in hash (xs ++ Wrote name w records ∷ ys) ≡ Some (Wrote name w records))
        → (if b then Some (Wrote n v more) else first_in hash (xs ++ Wrote name w records ∷ ys)) ≡ Some (Wrote name w records)
    by true is again = cc
    by false is again = again is

none-first : (hash : Hash) (ds : List ObjEntry) → written hash ds ≡ [] → first_in hash ds ≡ None
none-first hash [] none = refl
none-first hash (Files by filed ∷ ds) none = none-first hash ds none
none-first hash (Marked by filed device ∷ ds) none = none-first hash ds none
none-first hash (Dropped by filed ∷ ds) none = none-first hash ds none
none-first hash (Wrote n v records ∷ ds) none = by (bytes_eq n.hash hash) none (λ is. none-first hash ds is)
  where
    by : (b : Bool) → (if b then v ∷ written hash ds else written hash ds) ≡ [] → (written hash ds ≡ [] → first_in hash ds ≡ None)
        → (if b then Some (Wrote n v records) else first_in hash ds) ≡ None
    by true is again = cc
    by false is again = again is

pub first-doubted : (hash : Hash) (ds : List ObjEntry) (entry : ObjEntry) → first_in hash ds ≡ Some entry → written hash ds ≢ []
first-doubted hash ds entry is none = let no = none-first hash ds none in cc

-- ---- the first doubted write of a scope

-- the first doubt of its own hash, which is one of the scope
pub record IsFirst (power : ℕ) (scope : Scope) (ds : List ObjEntry) (entry : ObjEntry) : Type 0 where
  pub within : is_in power scope (obj_key entry) ≡ true
  pub first : first_in (obj_key entry) ds ≡ Some entry

module _ (power : ℕ) (scope : Scope) where
  pub found-first : (ds : List ObjEntry) (entry : ObjEntry) → find (is_write_in power scope) ds ≡ Some entry → IsFirst power scope ds entry
  found-first [] entry is = cc
  found-first (Files by filed ∷ ds) entry is =
      let rest = found-first ds entry is in record { within = rest.within; first = rest.first }
  found-first (Marked by filed device ∷ ds) entry is =
      let rest = found-first ds entry is in record { within = rest.within; first = rest.first }
  found-first (Dropped by filed ∷ ds) entry is =
      let rest = found-first ds entry is in record { within = rest.within; first = rest.first }
  found-first (Wrote n w records ∷ ds) entry is = by (is_in power scope n.hash) refl is (λ e. found-first ds entry e)
    where
      by : (b : Bool) → is_in power scope n.hash ≡ b → (if b then Some (Wrote n w records) else find (is_write_in power scope) ds) ≡ Some entry
          → (find (is_write_in power scope) ds ≡ Some entry → IsFirst power scope ds entry) → IsFirst power scope (Wrote n w records ∷ ds) entry
      by true passes e again =
          let same : Wrote n w records ≡ entry = cc in
          subst (λ (x : ObjEntry). IsFirst power scope (Wrote n w records ∷ ds) x) same
          (record { within = passes; first = rw (hash-self n.hash) refl })
      by false fails e again =
          let rest = again e in
          record {
            within = rest.within;
            first = rw (hash-other n.hash (obj_key entry) (λ same. let yes = ap (is_in power scope) same in let there = rest.within in cc)) rest.first;
          }

  pub found-none : (ds : List ObjEntry) → find (is_write_in power scope) ds ≡ None → (hash : Hash) → is_in power scope hash ≡ true → written hash ds ≡ []
  found-none [] is hash passes = refl
  found-none (Files by filed ∷ ds) is hash passes = found-none ds is hash passes
  found-none (Marked by filed device ∷ ds) is hash passes = found-none ds is hash passes
  found-none (Dropped by filed ∷ ds) is hash passes = found-none ds is hash passes
  found-none (Wrote n w records ∷ ds) is hash passes = by (is_in power scope n.hash) refl is (λ e. found-none ds e hash passes)
    where
      by : (b : Bool) → is_in power scope n.hash ≡ b → (if b then Some (Wrote n w records) else find (is_write_in power scope) ds) ≡ None
          → (find (is_write_in power scope) ds ≡ None → written hash ds ≡ []) → written hash (Wrote n w records ∷ ds) ≡ []
      by true is e again = cc
      by false fails e again = rw (hash-other n.hash hash (λ same. let yes = ap (is_in power scope) same in cc)) (again e)

-- ---- what settling it makes of the journal

-- one doubt fewer, and its entry came or none
pub record SettlesThis (j after : Journal) (entry : ObjEntry) : Type 0 where
  pub fewer : suc (length after.doubts) ≡ length j.doubts
  pub entered : (after.entries ≡ j.entries) ⊎ (after.entries ≡ j.entries ++ entry ∷ [])

settles-this : (o : Outline) (j : Journal) (xs ys : List ObjEntry) (name : Name) (w : Write) (records : List Filed) (b : Bool)
    → is_new_to o w.time (tag_of w.kind) ≡ b → j.doubts ≡ xs ++ Wrote name w records ∷ ys
    → SettlesThis j (settled_by o j xs name w records ys) (Wrote name w records)
settles-this o j xs ys name w records true new among = rw new (record {
  fewer = let a = length-append xs ys in let b = length-append xs (Wrote name w records ∷ ys) in let c = ap length among in omega (arith, a, b, c);
  entered = inl refl;
})
settles-this o j xs ys name w records false old among = rw old (record {
  fewer = let a = length-append xs ys in let b = length-append xs (Wrote name w records ∷ ys) in let c = ap length among in omega (arith, a, b, c);
  entered = inr refl;
})

pub first-settled : (hash : Hash) (o : Outline) (j after : Journal) (one : SettlesOne hash o j after)
    → first_in hash j.doubts ≡ Some (Wrote one.name one.write one.records)
first-settled hash o j after one =
    ap (first_in hash) one.among ∙ first-of hash one.before one.name one.write one.records one.behind one.first one.of_hash

pub settles-first : (hash : Hash) (o : Outline) (j after : Journal) (entry : ObjEntry) → first_in hash j.doubts ≡ Some entry → SettlesFirst hash o j after
    → SettlesThis j after entry
settles-first hash o j after entry is (inl none) = absurd (first-doubted hash j.doubts entry is none.0)
settles-first hash o j after entry is (inr one) =
    let first : first_in hash j.doubts ≡ Some (Wrote one.name one.write one.records) = first-settled hash o j after one in
    let same : Wrote one.name one.write one.records ≡ entry = cc in
    subst (λ (e : ObjEntry). SettlesThis j after e) same
    (subst (λ (x : Journal). SettlesThis j x (Wrote one.name one.write one.records)) (sym one.settled)
    (settles-this o j one.before one.behind one.name one.write one.records (is_new_to o one.write.time (tag_of one.write.kind)) refl one.among))

-- the entry of this doubt was made, or none
abbrev pub MayCome : Option ObjEntry → List ObjEntry → List ObjEntry → Type 0
MayCome doubt old new = (new ≡ old) ⊎ ((entry : ObjEntry) × (doubt ≡ Some entry) × (new ≡ old ++ entry ∷ []))

pub write-came : (hash : Hash) (o : Outline) (j after : Journal) → SettlesFirst hash o j after → MayCome (first_in hash j.doubts) j.entries after.entries
write-came hash o j after (inl none) = inl (ap (λ (x : Journal). x.entries) none.1)
write-came hash o j after (inr one) =
    let first = first-settled hash o j after one in
    elim (settles-first hash o j after (Wrote one.name one.write one.records) first (inr one)).entered [
      | inl same ↦ inl same
      | inr came ↦ inr (Wrote one.name one.write one.records, first, came)
    ]

-- ---- what a trail shows

pub briefs-none : (old new : List ObjEntry) (before after : List Brief) → new ≡ old → after ≡ before → AddsBriefs old new before after
briefs-none old new before after same kept added e =
    let none : added ≡ [] = append_cancel_left old added [] (sym e ∙ (same ∙ sym (append-nil old))) in
    kept ∙ (sym (append-nil before) ∙ ap (λ (l : List ObjEntry). before ++ map brief_of l) (sym none))

pub briefs-one : (old new : List ObjEntry) (before after : List Brief) (entry : ObjEntry) (brief : Brief) → new ≡ old ++ entry ∷ [] → brief ≡ brief_of entry
    → after ≡ before ++ brief ∷ [] → AddsBriefs old new before after
briefs-one old new before after entry brief more is pushed added e =
    let one : added ≡ entry ∷ [] = append_cancel_left old added (entry ∷ []) (sym e ∙ more) in
    pushed ∙ (ap (λ (b : Brief). before ++ b ∷ []) is ∙ ap (λ (l : List ObjEntry). before ++ map brief_of l) (sym one))

pub briefs-both : (a b c : List ObjEntry) (x y z : List Brief) (m n : List ObjEntry) → b ≡ a ++ m → c ≡ b ++ n → AddsBriefs a b x y → AddsBriefs b c y z
    → AddsBriefs a c x z
briefs-both a b c x y z m n first second one two added e =
    let both : added ≡ m ++ n = append_cancel_left a added (m ++ n)
    (sym e ∙ (second ∙ (ap (λ (l : List ObjEntry). l ++ n) first ∙ append_assoc a m n))) in
    two n second
    ∙ (ap (λ (l : List Brief). l ++ map brief_of n) (one m first)
    ∙ (append_assoc x (map brief_of m) (map brief_of n)
    ∙ ap (λ (l : List Brief). x ++ l) (sym (map-append brief_of m n) ∙ ap (map brief_of) (sym both))))

-- it is told where there are more entries than there were
pub briefs-told : (doubt : Option ObjEntry) (old new : List ObjEntry) (before after : List Brief) (brief : Option Brief) (came : Bool)
    → MayCome doubt old new → brief ≡ option_map brief_of doubt → came ≡ nat_lt (length old) (length new) → after ≡ before ++ told_of brief came
    → AddsBriefs old new before after
briefs-told doubt old new before after brief came (inl same) is more told =
    let none : came ≡ false = more ∙ (ap (λ (l : List ObjEntry). nat_lt (length old) (length l)) same ∙ no-more (length old)) in
    briefs-none old new before after same
    (told ∙ (ap (λ (b : Bool). before ++ told_of brief b) none ∙ (ap (λ (l : List Brief). before ++ l) (untold brief) ∙ append-nil before)))
  where
    no-more : (n : ℕ) → nat_lt n n ≡ false
    no-more n = grind (arith)

    untold : (b : Option Brief) → told_of b false ≡ []
    untold None = refl
    untold (Some b) = refl
briefs-told doubt old new before after brief came (inr one) is more told =
    let longer : length new ≡ length old + 1 = ap length one.2 ∙ length-append old (one.0 ∷ []) in
    let made : came ≡ true = more ∙ lt-ltb (length old) (length new) (omega (arith, longer)) in
    let brief_is : brief ≡ Some (brief_of one.0) = is ∙ ap (option_map brief_of) one.1 in
    briefs-one old new before after one.0 (brief_of one.0) one.2 refl
    (told ∙ (ap (λ (b : Bool). before ++ told_of brief b) made ∙ ap (λ (o : Option Brief). before ++ told_of o true) brief_is))

-- ---- answers

module _ {V : Type 0} (calls lists : V → ℕ) where
  pub once-at-most : {T E : Type 0} (r : Result T E) (k n : Kept V) → Looks calls lists 1 0 k n → OnErr r ((x : ℕ) × (x ≤ 1) × Looks calls lists x 0 k n)
  once-at-most (Ok x) k n one = tt
  once-at-most (Err e) k n one = (1, omega arith, one)

  module _ (k n : Kept V) (scope : Scope) where
    -- memory ran out before the listing
    pub wants-one : (r : Result Bool VolumeError) → IsErrAnd r (λ e. e ≡ volumes.NoMemory) → HasDoubt k.power scope k.journal.doubts
        → Looks calls lists 0 0 k n → SettlesDoubt calls lists k scope r n
    wants-one (Ok b) is doubt none = absurd is
    wants-one (Err volumes.Failed) is doubt none = cc
    wants-one (Err volumes.NoMemory) is doubt none = (doubt, (0, omega arith, none))

    -- or the listing failed, or wanted memory
    pub ends-one : (r : Result Bool VolumeError) (e : VolumeError) → IsErrAnd r (λ x. x ≡ e) → HasDoubt k.power scope k.journal.doubts
        → OnFailed {T = ⊤} (Err e) (Looks calls lists 1 0 k n) → (x : ℕ) × (x ≤ 1) × Looks calls lists x 0 k n → SettlesDoubt calls lists k scope r n
    ends-one (Ok b) e is doubt failed once = absurd is
    ends-one (Err volumes.Failed) e is doubt failed once =
        (doubt, subst (λ (x : VolumeError). OnFailed {T = ⊤} (Err x) (Looks calls lists 1 0 k n)) (sym is) failed)
    ends-one (Err volumes.NoMemory) e is doubt failed once = (doubt, once)

-- ---- calls one after another

module _ {V : Type 0} (calls lists : V → ℕ) where
  pub looks-none : (k : Kept V) → Looks calls lists 0 0 k k
  looks-none k = record { called = refl; listings = refl }

  pub looked-both : (k m n : Kept V) → (x : ℕ) × Looks calls lists x 0 k m → (y : ℕ) × Looks calls lists y 0 m n → (z : ℕ) × Looks calls lists z 0 k n
  looked-both k m n first more = (
    more.0 + first.0,
    record {
      called = more.1.called ∙ (ap (raised_by more.0) first.1.called ∙ raised_by-plus more.0 first.0 (calls k.volume));
      listings = more.1.listings ∙ (ap (raised_by more.0) first.1.listings ∙ raised_by-plus more.0 first.0 (lists k.volume));
    },
  )

  pub looked-one : (k : Kept V) (scope : Scope) (r : Result Bool VolumeError) (n : Kept V) → SettlesDoubt calls lists k scope r n
      → (x : ℕ) × Looks calls lists x 0 k n
  looked-one k scope (Ok true) n some = (1, some.listed)
  looked-one k scope (Ok false) n none = (0, none.listed)
  looked-one k scope (Err volumes.Failed) n failed = (1, failed.1)
  looked-one k scope (Err volumes.NoMemory) n wanted = (wanted.1.0, wanted.1.2)

-- ---- what the first doubt of a scope tells

pub doubt-of : (power : ℕ) (scope : Scope) (ds : List ObjEntry) (entry : ObjEntry) → find (is_write_in power scope) ds ≡ Some entry
    → HasDoubt power scope ds
doubt-of power scope ds entry is =
    let found = found-first power scope ds entry is in
    record { hash = obj_key entry; within = found.within; doubted = first-doubted (obj_key entry) ds entry found.first }
