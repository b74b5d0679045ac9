-- The lines of a suffix: what a listing adds to them, and what they tell of each hash.
use Rattle.std.proofs.Common.{◌≡◌, ℕ, ◌≤◌, ◌↔◌, ◌⊎◌, inl, inr, refl, sym, ◌∙◌, ap, subst, Bool, true, false, List, [], ◌∷◌, ◌++◌, map, arith}
use Rattle.std.proofs.Common.{Option, None, Some, IsSome, IfSome, is_some}
use Rattle.std.proofs.lemmas.Bool.{and_parts, cases_Bool}
use Rattle.std.proofs.lemmas.Cmp.{nat_list_cmp_total, tied_itself}
use Rattle.std.proofs.lemmas.List.{append-nil}
use Rattle.std.proofs.lemmas.List.Elements.{All-append, All-cons, All-contains, All-head, All-nil, All-push, All-tail, All-weaker}
use Rattle.std.proofs.lemmas.Slice.Eq.{bytes_eq-Decides}
use Rattle.std.specs.Cmp.Lexicographic.{slice_cmp}
use Rattle.std.specs.List.{All, AllByRecursion, Contains, filter_map}
use Rattle.std.specs.List.Sorted.{IsStrictlySortedBy}
use Rattle.std.specs.Option.{option_to_list}
use Rattle.std.specs.Ordering.{nat_cmp}
use Rattle.std.specs.Str.{bytes_eq}
use Rattle.std.specs.declared.cmp.Ordering.{Ordering}
use Rattle.std.specs.declared.cmp.Ordering.TheVariants.{Less}
use Rattle.hex.proofs.HexLemmas.{length-encode_with}
use Rattle.hex.specs.Hex.{encode_lower, lower_digits}
use Rattle.sw_cleanup.proofs.Directory.{picks_state}
use Rattle.sw_diskfile.specs.FileNames.{name_text}
use Rattle.sw_diskfile.specs.StateFiles.{picked_of}
use Rattle.sw_hashpath.specs.HashParts.{IsDigest, partition_of, suffix_of}
use Rattle.sw_hashpath.specs.declared.secrets.Secrets.{Secrets}
use Rattle.sw_object_steps.specs.Parts.{AreLines, nothing_picked, picked_in}
use Rattle.sw_suffix.specs.SuffixLines.{IsLine}
use Rattle.sw_volume.specs.Tree.{Folders, contents}
use Rattle.sw_volume.specs.Volume.{Contents, IsFolderIn, IsSame, ListsAll}
use Rattle.sw_hashdir.specs.Places.{dir_text, holds, in_order, write_in}
use Rattle.sw_hashdir.proofs.Folders.{in-hash-folder}
use Rattle.sw_hashdir.proofs.Order.{digest-place, told-order}
use Rattle.sw_hashdir.proofs.Standing.{holds_stands}
use Rattle.sw_hashdir.proofs.Walking.{behind, front_or_behind, none_of}
use Rattle.sw_diskfile.proofs.Naming.{named_takes}
use Rattle.sw_diskfile.specs.FileNames.{named}
use Rattle.sw_diskfile.specs.Picking.{IsGreatestOf, IsPicked, is_base, is_later_meta, is_meta}
use Rattle.sw_diskfile.specs.declared.file_name.FileName.{FileName}
use Rattle.sw_diskfile.specs.declared.picking.Picked.{Picked}
use Rattle.sw_object_steps.specs.Journals.{Hash}
use Rattle.sw_suffix.specs.SuffixLines.{HasKinds}
use Rattle.sw_suffix.specs.SuffixTexts.{files}
use Rattle.sw_suffix.specs.declared.dir_line.DirLine.{DirLine}
use Rattle.sw_hashdir.specs.Partitions.{AddsLine, AreListedLines, AreOfSuffix, HasFolder, IsHashName, IsPickedOf, line_with, suffix_dir_text}

-- ---- the files of a listing

abbrev pub InTime : FileName → Type 0
InTime file = file.time ≤ 999999999999999

pub named-times : (texts : List (List ℕ)) → All InTime (filter_map named texts)
named-times [] = All-nil InTime
named-times (text ∷ texts) = by (named text) refl (named-times texts)
  where
    by : (o : Option FileName) → named text ≡ o → All InTime (filter_map named texts) → All InTime (filter_map named (text ∷ texts))
    by None e later = rw e later
    by (Some file) e later = rw e (All-cons InTime file (filter_map named texts) (named_takes text file e).0 later)

-- ---- the files that are picked of them

later-meta : (base : Option FileName) (file : FileName) → is_later_meta base file ≡ true → is_meta file.tag ≡ true
later-meta None file e = e
later-meta (Some b) file e = (and_parts (is_meta file.tag) _ e).0

greatest-passes : (names : List FileName) (test : FileName → Bool) (o : Option FileName) → IsGreatestOf names test o → IfSome o (λ file. test file ≡ true)
greatest-passes names test None is = tt
greatest-passes names test (Some file) is = is.passes

greatest-within : (names : List FileName) (test : FileName → Bool) (o : Option FileName) → IsGreatestOf names test o → All InTime names
    → All InTime (option_to_list o)
greatest-within names test None is all = All-nil InTime
greatest-within names test (Some file) is all = All-cons InTime file [] (All-contains InTime names file all is.among) (All-nil InTime)

pub picked-kinds : (names : List FileName) (picked : Picked) → IsPicked names picked → HasKinds picked
picked-kinds names picked is = record {
  base = greatest-passes names is_base picked.base is.base;
  meta = metas picked.meta (greatest-passes names (is_later_meta picked.base) picked.meta is.meta);
}
  where
    metas : (o : Option FileName) → IfSome o (λ file. is_later_meta picked.base file ≡ true) → IfSome o (λ file. is_meta file.tag ≡ true)
    metas None is = is
    metas (Some file) is = later-meta picked.base file is

pub picked-times : (names : List FileName) (picked : Picked) → IsPicked names picked → All InTime names → All InTime (files picked)
picked-times names picked is all =
    All-append InTime (option_to_list picked.base) (option_to_list picked.meta) (greatest-within names is_base picked.base is.base all)
    (greatest-within names (is_later_meta picked.base) picked.meta is.meta all)

-- ---- the line of a hash

abbrev one_line : Hash → Picked → List DirLine
one_line hash picked = record { hash = hash; picked = picked } ∷ []

pub line-there : (hash : Hash) (picked : Picked) → (is_some picked.base ≡ true) ⊎ (is_some picked.meta ≡ true)
    → line_with hash picked (files picked) ≡ one_line hash picked
line-there hash picked some = by picked.base picked.meta some
  where
    by : (b m : Option FileName) → (is_some b ≡ true) ⊎ (is_some m ≡ true) → line_with hash picked (option_to_list b ++ option_to_list m) ≡ one_line hash picked
    by (Some file) m is = refl
    by None (Some file) is = refl
    by None None (inl is) = cc
    by None None (inr is) = cc

pub line-none : (hash : Hash) (picked : Picked) → is_some picked.base ≡ false → is_some picked.meta ≡ false → line_with hash picked (files picked) ≡ []
line-none hash picked none also = by picked.base picked.meta none also
  where
    by : (b m : Option FileName) → is_some b ≡ false → is_some m ≡ false → line_with hash picked (option_to_list b ++ option_to_list m) ≡ []
    by None None e f = refl
    by (Some file) m e f = cc
    by None (Some file) e f = cc

-- ---- lists in order

module _ {K : Type 0} (cmp : K → K → Ordering) where
  all-without : (x y : K) (xs ys : List K) → AllByRecursion (λ z. cmp y z ≡ Less) (xs ++ x ∷ ys) → AllByRecursion (λ z. cmp y z ≡ Less) (xs ++ ys)
  all-without x y [] ys all = all.1
  all-without x y (z ∷ xs) ys all = (all.0, all-without x y xs ys all.1)

  -- one element less
  pub sorted-without : (x : K) (xs ys : List K) → IsStrictlySortedBy cmp (xs ++ x ∷ ys) → IsStrictlySortedBy cmp (xs ++ ys)
  unfolding IsStrictlySortedBy
  sorted-without x [] ys sorted = sorted.1
  sorted-without x (y ∷ xs) ys sorted = (all-without x y xs ys sorted.0, sorted-without x xs ys sorted.1)

  all-middle : (x y : K) (xs ys : List K) → AllByRecursion (λ z. cmp y z ≡ Less) (xs ++ x ∷ ys) → cmp y x ≡ Less
  all-middle x y [] ys all = all.0
  all-middle x y (z ∷ xs) ys all = all-middle x y xs ys all.1

  -- those before an element are less
  pub sorted-before : (x : K) (xs ys : List K) → IsStrictlySortedBy cmp (xs ++ x ∷ ys) → AllByRecursion (λ z. cmp z x ≡ Less) xs
  unfolding IsStrictlySortedBy
  sorted-before x [] ys sorted = tt
  sorted-before x (y ∷ xs) ys sorted = (all-middle x y xs ys sorted.0, sorted-before x xs ys sorted.1)

-- ---- what lines tell of a hash

abbrev Apart : List DirLine → Hash → Type 0
Apart lines hash = AllByRecursion (λ line. bytes_eq line.hash hash ≡ false) lines

picked-other : (lines : List DirLine) (line : DirLine) (hash : Hash) → bytes_eq line.hash hash ≡ false
    → picked_in (lines ++ line ∷ []) hash ≡ picked_in lines hash
picked-other [] line hash other = rw other refl
picked-other (l ∷ lines) line hash other = by (bytes_eq l.hash hash) refl (picked-other lines line hash other)
  where
    by : (b : Bool) → bytes_eq l.hash hash ≡ b → picked_in (lines ++ line ∷ []) hash ≡ picked_in lines hash
        → picked_in (l ∷ lines ++ line ∷ []) hash ≡ picked_in (l ∷ lines) hash
    by true e later = rw e refl
    by false e later = rw e later

picked-none : (lines : List DirLine) (hash : Hash) → Apart lines hash → picked_in lines hash ≡ nothing_picked
picked-none [] hash apart = refl
picked-none (l ∷ lines) hash apart = rw apart.0 (picked-none lines hash apart.1)

picked-last : (lines : List DirLine) (hash : Hash) (picked : Picked) → Apart lines hash → picked_in (lines ++ one_line hash picked) hash ≡ picked
picked-last [] hash picked apart = rw ((bytes_eq-Decides hash hash).1 refl) refl
picked-last (l ∷ lines) hash picked apart = rw apart.0 (picked-last lines hash picked apart.1)

-- of the hash whose line was added
picked-added : (lines : List DirLine) (hash : Hash) (picked : Picked) → Apart lines hash →
    picked_in (lines ++ line_with hash picked (files picked)) hash ≡ picked
picked-added lines hash picked apart = by picked.base picked.meta refl refl
  where
    by : (b m : Option FileName) → picked.base ≡ b → picked.meta ≡ m → picked_in (lines ++ line_with hash picked (files picked)) hash ≡ picked
    by None None e f =
        let none : line_with hash picked (files picked) ≡ [] = rw (e, f) refl in
        let empty : nothing_picked ≡ picked = ap (λ (b : Option FileName). let p : Picked = record { base = b; meta = None } in p) (sym e)
        ∙ ap (λ (m : Option FileName). let p : Picked = record { base = picked.base; meta = m } in p) (sym f) in
        ap (λ (l : List DirLine). picked_in (lines ++ l) hash) none
        ∙ (ap (λ (l : List DirLine). picked_in l hash) (append-nil lines) ∙ (picked-none lines hash apart ∙ empty))
    by (Some file) m e f = let there : line_with hash picked (files picked) ≡ one_line hash picked = rw e refl in
        ap (λ (l : List DirLine). picked_in (lines ++ l) hash) there ∙ picked-last lines hash picked apart
    by None (Some file) e f = let there : line_with hash picked (files picked) ≡ one_line hash picked = rw (e, f) refl in
        ap (λ (l : List DirLine). picked_in (lines ++ l) hash) there ∙ picked-last lines hash picked apart

-- of another hash
picked-kept : (lines : List DirLine) (hash other : Hash) (picked : Picked) (fs : List FileName) → bytes_eq hash other ≡ false
    → picked_in (lines ++ line_with hash picked fs) other ≡ picked_in lines other
picked-kept lines hash other picked [] apart = ap (λ (l : List DirLine). picked_in l other) (append-nil lines)
picked-kept lines hash other picked (file ∷ more) apart = picked-other lines (record { hash = hash; picked = picked }) other apart

-- ---- a line more

apart-before : (hash : Hash) (lines : List DirLine) → AllByRecursion (λ h. slice_cmp nat_cmp h hash ≡ Less) (map (λ line. line.hash) lines) → Apart lines hash
apart-before hash [] before = tt
apart-before hash (l ∷ lines) before = (by (bytes_eq l.hash hash) refl, apart-before hash lines before.1)
  where
    by : (b : Bool) → bytes_eq l.hash hash ≡ b → b ≡ false
    by false e = refl
    by true e =
        let same : slice_cmp nat_cmp hash hash ≡ Less = ap (λ (h : Hash). slice_cmp nat_cmp h hash) (sym ((bytes_eq-Decides l.hash hash).0 e)) ∙ before.0 in
        let clash = sym same ∙ tied_itself nat_list_cmp_total hash in cc

line-is : (hash : Hash) (picked : Picked) (fs : List FileName) (lines : List DirLine) → files picked ≡ fs → IsDigest hash → HasKinds picked
    → All (λ file. file.time ≤ 999999999999999) (files picked) → All IsLine lines → All IsLine (lines ++ line_with hash picked fs)
line-is hash picked [] lines e digest kinds times all = subst (λ (l : List DirLine). All IsLine l) (sym (append-nil lines)) all
line-is hash picked (file ∷ more) lines e digest kinds times all = All-push IsLine lines (record { hash = hash; picked = picked }) all
    (record { digest = digest; kinds = kinds; full = λ none. let clash = sym e ∙ none in cc; times = times })

line-holds : (P : Hash → Type 0) (hash : Hash) (picked : Picked) (fs : List FileName) (lines : List DirLine) → P hash → All (λ line. P line.hash) lines
    → All (λ line. P line.hash) (lines ++ line_with hash picked fs)
line-holds P hash picked [] lines is all = subst (λ (l : List DirLine). All (λ line. P line.hash) l) (sym (append-nil lines)) all
line-holds P hash picked (file ∷ more) lines is all = All-push (λ line. P line.hash) lines (record { hash = hash; picked = picked }) all is

map-pushed : (lines : List DirLine) (hash : Hash) (picked : Picked) (rest : List Hash)
    → map (λ line. line.hash) (lines ++ one_line hash picked) ++ rest ≡ map (λ line. line.hash) lines ++ hash ∷ rest
map-pushed [] hash picked rest = refl
map-pushed (l ∷ lines) hash picked rest = ap (λ (hs : List Hash). l.hash ∷ hs) (map-pushed lines hash picked rest)

line-sorted : (hash : Hash) (picked : Picked) (fs : List FileName) (lines : List DirLine) (rest : List Hash)
    → IsStrictlySortedBy (slice_cmp nat_cmp) (map (λ line. line.hash) lines ++ hash ∷ rest)
    → IsStrictlySortedBy (slice_cmp nat_cmp) (map (λ line. line.hash) (lines ++ line_with hash picked fs) ++ rest)
line-sorted hash picked [] lines rest sorted =
    subst (λ (l : List DirLine). IsStrictlySortedBy (slice_cmp nat_cmp) (map (λ line. line.hash) l ++ rest)) (sym (append-nil lines))
    (sorted-without (slice_cmp nat_cmp) hash (map (λ line. line.hash) lines) rest sorted)
line-sorted hash picked (file ∷ more) lines rest sorted =
    subst (λ (hs : List Hash). IsStrictlySortedBy (slice_cmp nat_cmp) hs) (sym (map-pushed lines hash picked rest)) sorted

-- the lines of the keys that aren't left. T: that the volume tells what it holds
pub record LinesSoFar (power : ℕ) (T : Type 0) (holds : Contents) (keys rest : List Hash) (lines : List DirLine) : Type 0 where
  pub each : All IsLine lines
  pub among : All (λ line. Contains keys line.hash) lines
  pub left : (hash : Hash) → Contains rest hash → Contains keys hash
  pub sorted : IsStrictlySortedBy (slice_cmp nat_cmp) (map (λ line. line.hash) lines ++ rest)
  pub shown : (hash : Hash) → Contains keys hash → Contains rest hash ⊎ (T → IsPickedOf holds (dir_text power hash) (picked_in lines hash))

module _ (power : ℕ) (T : Type 0) (holds : Contents) (keys : List Hash) where
  pub lines-start : IsStrictlySortedBy (slice_cmp nat_cmp) keys → LinesSoFar power T holds keys keys []
  lines-start sorted = record {
    each = All-nil IsLine;
    among = All-nil (λ (line : DirLine). Contains keys line.hash);
    left = λ hash is. is;
    sorted = sorted;
    shown = λ hash is. inl is;
  }

  module _ (hash : Hash) (rest : List Hash) (lines new : List DirLine) (far : LinesSoFar power T holds keys (hash ∷ rest) lines) (digest : IsDigest hash)
      (adds : AddsLine hash lines new (λ picked. T → IsPickedOf holds (dir_text power hash) picked)) where
    apart : Apart lines hash
    apart = apart-before hash lines (sorted-before (slice_cmp nat_cmp) hash (map (λ line. line.hash) lines) rest far.sorted)

    abbrev with_line : List DirLine
    with_line = lines ++ line_with hash adds.picked (files adds.picked)

    here : (other : Hash) → other ≡ hash → T → IsPickedOf holds (dir_text power other) (picked_in with_line other)
    here other e t = subst (λ (h : Hash). IsPickedOf holds (dir_text power h) (picked_in with_line h)) (sym e)
        (subst (λ (p : Picked). IsPickedOf holds (dir_text power hash) p) (sym (picked-added lines hash adds.picked apart)) (adds.is_shown t))

    told-with : (other : Hash) → Contains keys other → Contains rest other ⊎ (T → IsPickedOf holds (dir_text power other) (picked_in with_line other))
    told-with other is = elim (far.shown other is) [
      | inl before ↦ elim (front_or_behind hash rest other before) [ inl e ↦ inr (here other (sym e)) | inr later ↦ inl later ]
      | inr seen ↦ elim (cases_Bool (bytes_eq hash other)) [
        | inl e ↦ inr (here other (sym ((bytes_eq-Decides hash other).0 e)))
        | inr away ↦ inr (λ t. subst (λ (p : Picked). IsPickedOf holds (dir_text power other) p)
            (sym (picked-kept lines hash other adds.picked (files adds.picked) away)) (seen t))
      ]
    ]

    next-with : LinesSoFar power T holds keys rest with_line
    next-with = record {
      each = line-is hash adds.picked (files adds.picked) lines refl digest adds.kinds adds.times far.each;
      among = line-holds (λ h. Contains keys h) hash adds.picked (files adds.picked) lines (far.left hash (0, omega arith, refl)) far.among;
      left = λ other is. far.left other (behind hash rest other is);
      sorted = line-sorted hash adds.picked (files adds.picked) lines rest far.sorted;
      shown = told-with;
    }

    pub lines-next : LinesSoFar power T holds keys rest new
    lines-next = subst (λ (l : List DirLine). LinesSoFar power T holds keys rest l) (sym adds.adds) next-with

-- ---- all lines

contains-or : (keys : List Hash) (hash : Hash) → Contains keys hash ⊎ (Contains keys hash → ⊥)
contains-or [] hash = inr (λ is. none_of hash is)
contains-or (k ∷ keys) hash = elim (cases_Bool (bytes_eq k hash)) [
  | inl e ↦ inl (0, omega arith, (bytes_eq-Decides k hash).0 e)
  | inr away ↦ elim (contains-or keys hash) [
    | inl later ↦ inl (behind k keys hash later)
    | inr none ↦ inr (λ is. elim (front_or_behind k keys hash is) [
      | inl e ↦ let clash = sym away ∙ (bytes_eq-Decides k hash).1 e in cc
      | inr later ↦ none later
    ])
  ]
]

-- where no file stands nothing is picked
pub none-picked : (holds : Contents) (dir : List ℕ) → ((file : List ℕ) → IsSome (holds dir file) → ⊥) → IsPickedOf holds dir nothing_picked
none-picked holds dir none = record {
  names = [];
  are = λ file. (λ is. absurd (none_of file is), λ stands. absurd (none (name_text file) stands.stands));
  picks = record { base = λ file is. absurd (none_of file is); meta = λ file is. absurd (none_of file is) };
}

apart-from : (keys : List Hash) (hash : Hash) → (Contains keys hash → ⊥) → (lines : List DirLine) → All (λ line. Contains keys line.hash) lines
    → Apart lines hash
apart-from keys hash none [] among = tt
apart-from keys hash none (l ∷ lines) among =
    (by (bytes_eq l.hash hash) refl, apart-from keys hash none lines (All-tail (λ line. Contains keys line.hash) l lines among))
  where
    by : (b : Bool) → bytes_eq l.hash hash ≡ b → b ≡ false
    by false e = refl
    by true e = absurd (none (subst (λ (h : Hash). Contains keys h) ((bytes_eq-Decides l.hash hash).0 e)
        (All-head (λ line. Contains keys line.hash) l lines among)))

module _ (power part suffix : ℕ) (T : Type 0) (holds : Contents) (keys folders : List (List ℕ)) (lines : List DirLine)
    (are : (hash : Hash) → Contains keys hash ↔ HasFolder (IsHashName power part suffix) folders hash)
    (far : LinesSoFar power T holds keys [] lines) where
  pub lines-ordered : AreOfSuffix power part suffix lines
  lines-ordered = record {
    are = record {
      each = far.each;
      ascending = subst (λ (hs : List Hash). IsStrictlySortedBy (slice_cmp nat_cmp) hs) (append-nil (map (λ line. line.hash) lines)) far.sorted;
    };
    within = All-weaker (λ line. Contains keys line.hash) (λ line. (partition_of line.hash power ≡ part) × (suffix_of line.hash ≡ suffix))
        (λ line is. let named = ((are line.hash).0 is).2 in (named.of_part.part_is, named.suffix_is)) lines far.among;
  }

  pub lines-listed : T → ListsAll folders (IsFolderIn holds (suffix_dir_text part suffix)) → AreListedLines power part suffix holds lines
  lines-listed t listed hash is e = elim (contains-or keys hash) [
    | inl there ↦ elim (far.shown hash there) [ inl left ↦ absurd (none_of hash left) | inr seen ↦ seen t ]
    | inr none ↦ subst (λ (p : Picked). IsPickedOf holds (dir_text power hash) p) (sym (picked-none lines hash (apart-from keys hash none lines far.among)))
        (none-picked holds (dir_text power hash) (λ file stands. none ((are hash).1 (
          encode_lower hash,
          (listed.exact (encode_lower hash)).1 (in-hash-folder holds power part suffix hash is e file stands),
          record { of_part = is; suffix_is = e; digits = refl },
        ))))
  ]

-- ---- what the lines tell of what the hashes stand for

-- files that stand where they did are picked as they were
pub picked-moved : (old new : Contents) (dir : List ℕ) (picked : Picked) → IsSame old new → IsPickedOf new dir picked → IsPickedOf old dir picked
picked-moved old new dir picked same is = record {
  names = is.names;
  are = λ file. (
    λ there. let x = (is.are file).0 there in
        record { is_time = x.is_time; stands = subst (λ o. IsSome o) (same dir (name_text file)) x.stands },
    λ x. (is.are file).1 (record { is_time = x.is_time; stands = subst (λ o. IsSome o) (sym (same dir (name_text file))) x.stands }),
  );
  picks = is.picks;
}

pub lines-moved : (power part suffix : ℕ) (old new : Contents) (lines : List DirLine) → IsSame old new → AreListedLines power part suffix new lines
    → AreListedLines power part suffix old lines
lines-moved power part suffix old new lines same listed hash is e = picked-moved old new (dir_text power hash) (picked_in lines hash) same (listed hash is e)

pub line-moved : (hash : Hash) (old new : List DirLine) (P Q : Picked → Type 0) → ((p : Picked) → P p → Q p) → AddsLine hash old new P → AddsLine hash old new Q
line-moved hash old new P Q step adds =
    record { picked = adds.picked; kinds = adds.kinds; times = adds.times; is_shown = step adds.picked adds.is_shown; adds = adds.adds }

pub picked-state : (secrets : Secrets) (power : ℕ) (folders : Folders) (hash : Hash) (picked : Picked) → in_order secrets power folders ≡ true → IsDigest hash
    → IsPickedOf (contents folders) (dir_text power hash) picked → picked ≡ picked_of (holds secrets power folders hash)
picked-state secrets power folders hash picked order digest is =
    let count = digest.0 in
    let size = length-encode_with lower_digits hash in
    let place = digest-place power hash digest (omega (arith, size, count)) in
    let right = told-order secrets power folders order hash place in
    picks_state (contents folders) (dir_text power hash) is.names picked is.are is.picks (write_in secrets hash) right (holds secrets power folders hash)
    (holds_stands secrets power folders hash place right)

pub lines-are : (secrets : Secrets) (power part suffix : ℕ) (folders : Folders) (told : Bool) (lines : List DirLine) → AreOfSuffix power part suffix lines
    → (told ≡ true → (in_order secrets power folders ≡ true) × AreListedLines power part suffix (contents folders) lines)
    → AreLines power part suffix told (λ hash. holds secrets power folders hash) lines
lines-are secrets power part suffix folders told lines ordered listed = record {
  are = ordered.are;
  within = ordered.within;
  shown = λ t hash is e. picked-state secrets power folders hash (picked_in lines hash) (listed t).0 is.digest ((listed t).1 hash is e);
}
