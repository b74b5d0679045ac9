-- Lists that grow by what a walk finds, and what it finds in a directory and below it.
use Rattle.std.proofs.Common.{◌≡◌, ℕ, ◌+◌, ◌↔◌, ◌⊎◌, inl, inr, refl, sym, ◌∙◌, ap, subst, zero, suc, true, List, [], ◌∷◌, ◌++◌, map, append_assoc, IsSome}
use Rattle.std.proofs.Common.{Bool, if◌then◌else◌, ◌==◌, false, arith}
use Rattle.std.proofs.lemmas.List.{append-nil}
use Rattle.std.proofs.lemmas.List.Elements.{Contains-append_left, Contains-append_right, Contains-push, Contains-push_cases}
use Rattle.std.proofs.lemmas.Map.Text.{is_eq-slice_cmp}
use Rattle.std.proofs.lemmas.Slice.Eq.{bytes_eq-Decides}
use Rattle.std.specs.BTreeSet.{insert_key}
use Rattle.std.specs.Cmp.Lexicographic.{slice_cmp}
use Rattle.std.specs.List.{Contains, AllByRecursion}
use Rattle.std.specs.List.Sorted.{IsStrictlySortedBy}
use Rattle.std.specs.Ordering.{is_eq, match_ordering, nat_cmp}
use Rattle.std.specs.declared.alloc.Global.{Global}
use Rattle.std.specs.declared.cmp.Ordering.{Ordering}
use Rattle.std.specs.declared.cmp.Ordering.TheVariants.{Equal, Greater, Less}
use Rattle.std.specs.declared.vec.Vec.{Vec}
use Rattle.sw_volume.proofs.Counting.{raised_by-plus}
use Rattle.sw_volume.specs.Volume.{Contents, IsFileIn, IsFolderIn, IsSame, ListsAll, first_segment, raised_by}
use Rattle.sw_hashdir.specs.Walks.{Adds, IsNamedIn, IsPathBelow, IsPathWithin, IsSegment, IsWithin}

-- ---- lists

module _ {X : Type 0} where
  pub at_front : (x : X) (xs : List X) → Contains (x ∷ xs) x
  at_front x xs = (0, omega arith, refl)

  pub behind : (x : X) (xs : List X) (y : X) → Contains xs y → Contains (x ∷ xs) y
  behind x xs y is = Contains-append_right (x ∷ []) xs y is

  pub front_or_behind : (x : X) (xs : List X) (y : X) → Contains (x ∷ xs) y → (x ≡ y) ⊎ Contains xs y
  front_or_behind x xs y (zero, inside, here) = inl here
  front_or_behind x xs y (suc k, inside, here) = inr (k, omega arith, here)

  pub none_of : (x : X) → Contains [] x → ⊥
  none_of x is = let lt = is.1 in omega arith

-- ---- what is added

adds_front : (x : List ℕ) (xs : List (List ℕ)) → Adds xs (x ∷ xs) (λ p. p ≡ x)
adds_front x xs = λ path. (
  λ is. elim (front_or_behind x xs path is) [ inl e ↦ inr (sym e) | inr later ↦ inl later ],
  λ either. elim either [ inl later ↦ behind x xs path later | inr e ↦ subst (λ (p : List ℕ). Contains (x ∷ xs) p) (sym e) (at_front x xs) ],
)

adds_there : (x : List ℕ) (xs : List (List ℕ)) → Contains xs x → Adds xs xs (λ p. p ≡ x)
adds_there x xs there = λ path. (
  λ is. inl is,
  λ either. elim either [ inl is ↦ is | inr e ↦ subst (λ (p : List ℕ). Contains xs p) (sym e) there ],
)

adds_behind : (x : List ℕ) (xs ys : List (List ℕ)) (P : List ℕ → Type 0) → Adds xs ys P → Adds (x ∷ xs) (x ∷ ys) P
adds_behind x xs ys P adds = λ path. (
  λ is. elim (front_or_behind x ys path is) [
    | inl e ↦ inl (subst (λ (p : List ℕ). Contains (x ∷ xs) p) e (at_front x xs))
    | inr later ↦ elim ((adds path).0 later) [ inl old ↦ inl (behind x xs path old) | inr new ↦ inr new ]
  ],
  λ either. elim either [
    | inl is ↦ elim (front_or_behind x xs path is) [
      | inl e ↦ subst (λ (p : List ℕ). Contains (x ∷ ys) p) e (at_front x ys)
      | inr later ↦ behind x ys path ((adds path).1 (inl later))
    ]
    | inr new ↦ behind x ys path ((adds path).1 (inr new))
  ],
)

pub adds_nothing : (xs : List (List ℕ)) (P : List ℕ → Type 0) → ((p : List ℕ) → P p → ⊥) → Adds xs xs P
adds_nothing xs P none = λ path. (λ is. inl is, λ either. elim either [ inl is ↦ is | inr new ↦ absurd (none path new) ])

-- what is added twice is added at once
pub adds_then : (xs ys zs : List (List ℕ)) (P Q R : List ℕ → Type 0) → Adds xs ys P → Adds ys zs Q → ((p : List ℕ) → R p ↔ (P p ⊎ Q p)) → Adds xs zs R
adds_then xs ys zs P Q R first second both = λ path. (
  λ is. elim ((second path).0 is) [
    | inl mid ↦ elim ((first path).0 mid) [ inl old ↦ inl old | inr p ↦ inr ((both path).1 (inl p)) ]
    | inr q ↦ inr ((both path).1 (inr q))
  ],
  λ either. elim either [
    | inl old ↦ (second path).1 (inl ((first path).1 (inl old)))
    | inr r ↦ elim ((both path).0 r) [ inl p ↦ (second path).1 (inl ((first path).1 (inr p))) | inr q ↦ (second path).1 (inr q) ]
  ],
)

-- ---- a set of paths, by their bytes

abbrev by_items : Vec ℕ Global → Vec ℕ Global → Ordering
by_items x y = slice_cmp nat_cmp x.items y.items

abbrev items_of : List (Vec ℕ Global) → List (List ℕ)
items_of ks = map (λ k. k.items) ks

same_items : (xs ys : List ℕ) → slice_cmp nat_cmp xs ys ≡ Equal → ys ≡ xs
same_items xs ys e = sym ((bytes_eq-Decides xs ys).0 (sym (is_eq-slice_cmp xs ys) ∙ ap is_eq e))

pub insert_adds : (k : Vec ℕ Global) (ks : List (Vec ℕ Global)) → Adds (items_of ks) (items_of (insert_key by_items ks k)) (λ p. p ≡ k.items)
insert_adds k [] = adds_front k.items []
insert_adds k (x ∷ xs) = by (by_items k x) refl (insert_adds k xs)
  where
    by : (o : Ordering) → by_items k x ≡ o → Adds (items_of xs) (items_of (insert_key by_items xs k)) (λ p. p ≡ k.items)
        → Adds (items_of (x ∷ xs)) (items_of (match_ordering o (k ∷ x ∷ xs) (x ∷ xs) (x ∷ insert_key by_items xs k))) (λ p. p ≡ k.items)
    by Less e later = adds_front k.items (items_of (x ∷ xs))
    by Equal e later = adds_there k.items (items_of (x ∷ xs))
        (subst (λ (bs : List ℕ). Contains (items_of (x ∷ xs)) bs) (same_items k.items x.items e) (at_front x.items (items_of xs)))
    by Greater e later = adds_behind x.items (items_of xs) (items_of (insert_key by_items xs k)) (λ p. p ≡ k.items) later

all_items : (x : Vec ℕ Global) (ks : List (Vec ℕ Global)) → AllByRecursion (λ y. by_items x y ≡ Less) ks
    → AllByRecursion (λ y. slice_cmp nat_cmp x.items y ≡ Less) (items_of ks)
all_items x [] all = all
all_items x (k ∷ ks) all = (all.0, all_items x ks all.1)

pub ascending : (ks : List (Vec ℕ Global)) → IsStrictlySortedBy by_items ks → IsStrictlySortedBy (slice_cmp nat_cmp) (items_of ks)
unfolding IsStrictlySortedBy
ascending [] sorted = sorted
ascending (k ∷ ks) sorted = (all_items k ks sorted.0, ascending ks sorted.1)

-- ---- names in a directory

pub named_more : (dir : List ℕ) (names : List (List ℕ)) (name path : List ℕ) → IsNamedIn dir (names ++ name ∷ []) path
    ↔ (IsNamedIn dir names path ⊎ (path ≡ dir ++ 47 ∷ name))
named_more dir names name path = (
  λ is. elim (Contains-push_cases names name is.0 is.1) [
    | inl before ↦ inl (is.0, before, is.2)
    | inr e ↦ inr (is.2 ∙ ap (λ n. dir ++ 47 ∷ n) (sym e))
  ],
  λ either. elim either [
    | inl is ↦ (is.0, Contains-append_left names (name ∷ []) is.0 is.1, is.2)
    | inr e ↦ (name, Contains-push names name, e)
  ],
)

pub none_named : (dir path : List ℕ) → IsNamedIn dir [] path → ⊥
none_named dir path is = none_of is.0 is.1

-- ---- folders

pub segment_whole : (name rest : List ℕ) → IsSegment name → first_segment rest ≡ [] → first_segment (name ++ rest) ≡ name
segment_whole [] rest is end = end
segment_whole (b ∷ bs) rest is end = by (b == 47) is (segment_whole bs rest)
  where
    by : (slash : Bool) → (if slash then [] else b ∷ first_segment bs) ≡ b ∷ bs
        → (first_segment bs ≡ bs → first_segment rest ≡ [] → first_segment (bs ++ rest) ≡ bs)
        → (if slash then [] else b ∷ first_segment (bs ++ rest)) ≡ b ∷ bs
    by true is later = cc
    by false is later = ap (λ l. b ∷ l) (later (let same : first_segment bs ≡ bs = cc in same) end)

pub segment_once : (bs : List ℕ) → IsSegment (first_segment bs)
segment_once [] = refl
segment_once (b ∷ bs) = by (b == 47) refl (segment_once bs)
  where
    by : (slash : Bool) → (b == 47) ≡ slash → first_segment (first_segment bs) ≡ first_segment bs
        → first_segment (if slash then [] else b ∷ first_segment bs) ≡ (if slash then [] else b ∷ first_segment bs)
    by true e later = refl
    by false e later = rw e (ap (λ l. b ∷ l) later)

-- a folder below top is top and what follows a slash, or nothing
below_of : (levels : ℕ) (top dir : List ℕ) → IsWithin levels top dir → (rest : List ℕ) × (dir ≡ top ++ rest) × (first_segment rest ≡ [])
below_of zero top dir e = ([], e ∙ sym (append-nil top), refl)
below_of (suc levels) top dir (inl e) = ([], e ∙ sym (append-nil top), refl)
below_of (suc levels) top dir (inr (name, is, within)) =
    let more = below_of levels (top ++ 47 ∷ name) dir within in
    (47 ∷ name ++ more.0, more.1 ∙ append_assoc top (47 ∷ name) more.0, refl)

-- the path of a file at most so many levels below one of these folders
abbrev pub IsAlong : Contents → ℕ → List ℕ → List (List ℕ) → List ℕ → Type 0
IsAlong holds levels dir folders path = (name : List ℕ) × Contains folders name × IsPathWithin holds levels (dir ++ 47 ∷ name) path

pub along_more : (holds : Contents) (levels : ℕ) (dir : List ℕ) (folders : List (List ℕ)) (folder path : List ℕ)
    → IsAlong holds levels dir (folders ++ folder ∷ []) path ↔ (IsAlong holds levels dir folders path ⊎ IsPathWithin holds levels (dir ++ 47 ∷ folder) path)
along_more holds levels dir folders folder path = (
  λ is. elim (Contains-push_cases folders folder is.0 is.1) [
    | inl before ↦ inl (is.0, before, is.2)
    | inr e ↦ inr (subst (λ (n : List ℕ). IsPathWithin holds levels (dir ++ 47 ∷ n) path) (sym e) is.2)
  ],
  λ either. elim either [
    | inl is ↦ (is.0, Contains-append_left folders (folder ∷ []) is.0 is.1, is.2)
    | inr is ↦ (folder, Contains-push folders folder, is)
  ],
)

pub none_along : (holds : Contents) (levels : ℕ) (dir path : List ℕ) → IsAlong holds levels dir [] path → ⊥
none_along holds levels dir path is = none_of is.0 is.1

pub within_moved : (old new : Contents) (levels : ℕ) (top path : List ℕ) → IsSame old new → IsPathWithin new levels top path ↔ IsPathWithin old levels top path
within_moved old new levels top path same = (
  λ is. record { dir = is.dir; file = is.file; within = is.within; stands = subst (λ o. IsSome o) (same is.dir is.file) is.stands; is_path = is.is_path },
  λ is. record { dir = is.dir; file = is.file; within = is.within; stands = subst (λ o. IsSome o) (sym (same is.dir is.file)) is.stands; is_path = is.is_path },
)

module _ (holds : Contents) (dir : List ℕ) (files : List (List ℕ)) (are_files : ListsAll files (IsFileIn holds dir)) where
  named_here : (path file : List ℕ) → IsFileIn holds dir file → path ≡ dir ++ 47 ∷ file → IsNamedIn dir files path
  named_here path file stands e = (file, (are_files.exact file).1 stands, e)

  pub within_none : (path : List ℕ) → IsPathWithin holds 0 dir path ↔ IsNamedIn dir files path
  within_none path = (
    λ is. named_here path is.file (subst (λ (d : List ℕ). IsFileIn holds d is.file) is.within is.stands) (is.is_path ∙ ap (λ d. d ++ 47 ∷ is.file) is.within),
    λ is. record { dir = dir; file = is.0; within = refl; stands = (are_files.exact is.0).0 is.1; is_path = is.2 },
  )

  module _ (levels : ℕ) (folders : List (List ℕ)) (are_folders : ListsAll folders (IsFolderIn holds dir)) where
    along_here : (path d file name : List ℕ) → IsSegment name → IsWithin levels (dir ++ 47 ∷ name) d → IsFileIn holds d file → path ≡ d ++ 47 ∷ file
        → IsAlong holds levels dir folders path
    along_here path d file name is within stands e =
        let more = below_of levels (dir ++ 47 ∷ name) d within in
        let place : d ≡ dir ++ 47 ∷ [] ++ (name ++ more.0) = more.1 ∙ append_assoc dir (47 ∷ name) more.0
        ∙ sym (append_assoc dir (47 ∷ []) (name ++ more.0)) in (
          name,
          (are_folders.exact name).1 (record {
            below = name ++ more.0;
            file = file;
            segment = sym (segment_whole name more.0 is more.2);
            stands = subst (λ (x : List ℕ). IsSome (holds x file)) place stands;
          }),
          record { dir = d; file = file; within = within; stands = stands; is_path = e },
        )

    pub within_more : (path : List ℕ) → IsPathWithin holds (suc levels) dir path ↔ (IsNamedIn dir files path ⊎ IsAlong holds levels dir folders path)
    within_more path = (
      λ is. elim is.within [
        | inl e ↦ inl (named_here path is.file (subst (λ (d : List ℕ). IsFileIn holds d is.file) e is.stands) (is.is_path ∙ ap (λ d. d ++ 47 ∷ is.file) e))
        | inr w ↦ inr (along_here path is.dir is.file w.0 w.1 w.2 is.stands is.is_path)
      ],
      λ either. elim either [
        | inl is ↦ record { dir = dir; file = is.0; within = inl refl; stands = (are_files.exact is.0).0 is.1; is_path = is.2 }
        | inr is ↦ record {
          dir = is.2.dir;
          file = is.2.file;
          within = inr (is.0, named_segment is.0 ((are_folders.exact is.0).0 is.1), is.2.within);
          stands = is.2.stands;
          is_path = is.2.is_path;
        }
      ],
    )
      where
        named_segment : (name : List ℕ) → IsFolderIn holds dir name → IsSegment name
        named_segment name f = subst (λ (n : List ℕ). IsSegment n) (sym f.segment) (segment_once f.below)

-- ---- counts

-- so many calls, each a listing
abbrev pub OnlyLists : ℕ → ℕ → ℕ → ℕ → Type 0
OnlyLists calls lists calls_now lists_now = (n : ℕ) × (calls_now ≡ raised_by n calls) × (lists_now ≡ raised_by n lists)

pub lists_then : (c l c1 l1 c2 l2 : ℕ) → OnlyLists c l c1 l1 → OnlyLists c1 l1 c2 l2 → OnlyLists c l c2 l2
lists_then c l c1 l1 c2 l2 first more = (
  more.0 + first.0,
  more.1 ∙ ap (raised_by more.0) first.1 ∙ raised_by-plus more.0 first.0 c,
  more.2 ∙ ap (raised_by more.0) first.2 ∙ raised_by-plus more.0 first.0 l,
)

-- ---- a walk

adds_same : (xs ys : List (List ℕ)) (P R : List ℕ → Type 0) → Adds xs ys P → ((p : List ℕ) → R p ↔ P p) → Adds xs ys R
adds_same xs ys P R adds same = λ path. (
  λ is. elim ((adds path).0 is) [ inl old ↦ inl old | inr p ↦ inr ((same path).1 p) ],
  λ either. elim either [ inl old ↦ (adds path).1 (inl old) | inr r ↦ (adds path).1 (inr ((same path).0 r)) ],
)

pub adds_moved : (xs ys : List (List ℕ)) (old new : Contents) (levels : ℕ) (top : List ℕ) → IsSame old new → Adds xs ys (IsPathWithin new levels top)
    → Adds xs ys (IsPathWithin old levels top)
adds_moved xs ys old new levels top same adds = adds_same xs ys (IsPathWithin new levels top) (IsPathWithin old levels top) adds
    (λ p. let moved = within_moved old new levels top p same in (moved.1, moved.0))

module _ (holds : Contents) (dir : List ℕ) (files : List (List ℕ)) (are_files : ListsAll files (IsFileIn holds dir)) where
  -- at the last level
  pub walked_last : (xs ys : List (List ℕ)) (levels : ℕ) → levels ≡ 0 → Adds xs ys (IsNamedIn dir files) → Adds xs ys (IsPathWithin holds levels dir)
  walked_last xs ys levels e adds =
      subst (λ (n : ℕ). Adds xs ys (IsPathWithin holds n dir)) (sym e)
      (adds_same xs ys (IsNamedIn dir files) (IsPathWithin holds 0 dir) adds (within_none holds dir files are_files))

  -- at the levels before it
  pub walked_on : (xs ys zs folders : List (List ℕ)) (levels below : ℕ) → ListsAll folders (IsFolderIn holds dir) → levels ≡ suc below
      → Adds xs ys (IsNamedIn dir files) → Adds ys zs (IsAlong holds below dir folders) → Adds xs zs (IsPathWithin holds levels dir)
  walked_on xs ys zs folders levels below are_folders e here more =
      subst (λ (n : ℕ). Adds xs zs (IsPathWithin holds n dir)) (sym e)
      (adds_then xs ys zs (IsNamedIn dir files) (IsAlong holds below dir folders) (IsPathWithin holds (suc below) dir) here more
      (within_more holds dir files are_files below folders are_folders))

-- what was added to nothing, in order
pub listed_below : (holds : Contents) (start found paths : List (List ℕ)) → start ≡ [] → paths ≡ found → IsStrictlySortedBy (slice_cmp nat_cmp) paths
    → Adds start found (IsPathBelow holds) → ListsAll paths (IsPathBelow holds)
listed_below holds start found paths none all sorted adds = record {
  ascending = sorted;
  exact = λ path. (
    λ is. elim ((adds path).0 (subst (λ (ps : List (List ℕ)). Contains ps path) all is)) [
      | inl before ↦ absurd (none_of path (subst (λ (ps : List (List ℕ)). Contains ps path) none before))
      | inr below ↦ below
    ],
    λ below. subst (λ (ps : List (List ℕ)). Contains ps path) (sym all) ((adds path).1 (inr below)),
  );
}
