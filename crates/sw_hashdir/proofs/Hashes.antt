-- What is compared of the suffixes of a partition: what a suffix's lines add to it, and what it tells of each suffix.
use Rattle.std.proofs.Common.{◌≡◌, ℕ, ◌<◌, ◌==◌, ◌↔◌, ◌⊎◌, inl, inr, refl, sym, ◌∙◌, ap, subst, Bool, true, false, List, [], ◌∷◌, ◌++◌, map, arith}
use Rattle.std.proofs.Common.{Option, None, Some, length}
use Rattle.std.proofs.lemmas.Bool.{cases_Bool}
use Rattle.std.proofs.lemmas.Bool.Decides.{eqb_tells}
use Rattle.std.proofs.lemmas.Cmp.{nat_cmp_total, tied_itself}
use Rattle.std.proofs.lemmas.List.{append-nil}
use Rattle.std.proofs.lemmas.List.Elements.{All-head, All-nil, All-push, All-tail, All-weaker}
use Rattle.std.specs.List.{All, AllByRecursion, Contains}
use Rattle.std.specs.List.Sorted.{IsStrictlySortedBy}
use Rattle.std.specs.Ordering.{nat_cmp}
use Rattle.std.specs.declared.cmp.Ordering.TheVariants.{Less}
use Rattle.md5.specs.Md5.{md5}
use Rattle.sw_suffix.specs.SuffixTexts.{suffix_text}
use Rattle.sw_hashpath.specs.declared.secrets.Secrets.{Secrets}
use Rattle.sw_object_steps.specs.Parts.{AreHashes, md5_in, suffix_md5}
use Rattle.sw_suffix.specs.SuffixLines.{IsLine}
use Rattle.sw_suffix.specs.declared.dir_line.DirLine.{DirLine}
use Rattle.sw_suffix.specs.declared.told.SuffixHash.{SuffixHash}
use Rattle.sw_volume.specs.Tree.{Folders, contents}
use Rattle.sw_volume.specs.Volume.{Contents, IsFolderIn, ListsAll}
use Rattle.sw_hashdir.specs.Partitions.{AddsHash, AreListedLines, AreOfSuffix, HasFolder, IsSuffixName, hash_with, part_dir_text, suffix_digits}
use Rattle.sw_hashdir.specs.Places.{dir_text, holds, in_order}
use Rattle.sw_hashdir.proofs.Folders.{in-suffix-folder}
use Rattle.sw_hashdir.proofs.Lines.{lines-are, none-picked, sorted-before, sorted-without}
use Rattle.sw_hashdir.proofs.Walking.{behind, front_or_behind, none_of}

-- ---- what is compared of a suffix

abbrev Apart : List SuffixHash → ℕ → Type 0
Apart hashes suffix = AllByRecursion (λ one. (one.suffix == suffix) ≡ false) hashes

abbrev told_once : ℕ → List ℕ → List SuffixHash
told_once suffix md5 = record { suffix = suffix; md5 = md5 } ∷ []

md5-other : (hashes : List SuffixHash) (suffix other : ℕ) (md5 : List ℕ) → (suffix == other) ≡ false
    → md5_in (hashes ++ told_once suffix md5) other ≡ md5_in hashes other
md5-other [] suffix other md5 away = rw away refl
md5-other (h ∷ hashes) suffix other md5 away = by (h.suffix == other) refl (md5-other hashes suffix other md5 away)
  where
    by : (b : Bool) → (h.suffix == other) ≡ b → md5_in (hashes ++ told_once suffix md5) other ≡ md5_in hashes other
        → md5_in (h ∷ hashes ++ told_once suffix md5) other ≡ md5_in (h ∷ hashes) other
    by true e later = rw e refl
    by false e later = rw e later

md5-none : (hashes : List SuffixHash) (suffix : ℕ) → Apart hashes suffix → md5_in hashes suffix ≡ None
md5-none [] suffix apart = refl
md5-none (h ∷ hashes) suffix apart = rw apart.0 (md5-none hashes suffix apart.1)

same-number : (n : ℕ) → (n == n) ≡ true
same-number n = elim (eqb_tells n n) [ inl is ↦ is.0 | inr other ↦ absurd (other.1 refl) ]

number-is : (m n : ℕ) → (m == n) ≡ true → m ≡ n
number-is m n e = elim (eqb_tells m n) [ inl is ↦ is.1 | inr other ↦ let clash = sym e ∙ other.0 in cc ]

md5-last : (hashes : List SuffixHash) (suffix : ℕ) (md5 : List ℕ) → Apart hashes suffix → md5_in (hashes ++ told_once suffix md5) suffix ≡ Some md5
md5-last [] suffix md5 apart = rw (same-number suffix) refl
md5-last (h ∷ hashes) suffix md5 apart = rw apart.0 (md5-last hashes suffix md5 apart.1)

md5-added : (hashes : List SuffixHash) (suffix : ℕ) (o : Option (List ℕ)) → Apart hashes suffix → md5_in (hashes ++ hash_with suffix o) suffix ≡ o
md5-added hashes suffix None apart = ap (λ (l : List SuffixHash). md5_in l suffix) (append-nil hashes) ∙ md5-none hashes suffix apart
md5-added hashes suffix (Some md5) apart = md5-last hashes suffix md5 apart

md5-kept : (hashes : List SuffixHash) (suffix other : ℕ) (o : Option (List ℕ)) → (suffix == other) ≡ false
    → md5_in (hashes ++ hash_with suffix o) other ≡ md5_in hashes other
md5-kept hashes suffix other None away = ap (λ (l : List SuffixHash). md5_in l other) (append-nil hashes)
md5-kept hashes suffix other (Some md5) away = md5-other hashes suffix other md5 away

-- ---- a suffix more

apart-before : (suffix : ℕ) (hashes : List SuffixHash) → AllByRecursion (λ s. nat_cmp s suffix ≡ Less) (map (λ one. one.suffix) hashes) → Apart hashes suffix
apart-before suffix [] before = tt
apart-before suffix (h ∷ hashes) before = (by (h.suffix == suffix) refl, apart-before suffix hashes before.1)
  where
    by : (b : Bool) → (h.suffix == suffix) ≡ b → b ≡ false
    by false e = refl
    by true e =
        let same : nat_cmp suffix suffix ≡ Less = ap (λ (s : ℕ). nat_cmp s suffix) (sym (number-is h.suffix suffix e)) ∙ before.0 in
        let clash = sym same ∙ tied_itself nat_cmp_total suffix in cc

holds-with : (P : ℕ → Type 0) (suffix : ℕ) (o : Option (List ℕ)) (hashes : List SuffixHash) → P suffix → All (λ one. P one.suffix) hashes
    → All (λ one. P one.suffix) (hashes ++ hash_with suffix o)
holds-with P suffix None hashes is all = subst (λ (l : List SuffixHash). All (λ one. P one.suffix) l) (sym (append-nil hashes)) all
holds-with P suffix (Some md5) hashes is all = All-push (λ one. P one.suffix) hashes (record { suffix = suffix; md5 = md5 }) all is

map-pushed : (hashes : List SuffixHash) (suffix : ℕ) (md5 : List ℕ) (rest : List ℕ)
    → map (λ one. one.suffix) (hashes ++ told_once suffix md5) ++ rest ≡ map (λ one. one.suffix) hashes ++ suffix ∷ rest
map-pushed [] suffix md5 rest = refl
map-pushed (h ∷ hashes) suffix md5 rest = ap (λ (ss : List ℕ). h.suffix ∷ ss) (map-pushed hashes suffix md5 rest)

sorted-with : (suffix : ℕ) (o : Option (List ℕ)) (hashes : List SuffixHash) (rest : List ℕ)
    → IsStrictlySortedBy nat_cmp (map (λ one. one.suffix) hashes ++ suffix ∷ rest)
    → IsStrictlySortedBy nat_cmp (map (λ one. one.suffix) (hashes ++ hash_with suffix o) ++ rest)
sorted-with suffix None hashes rest sorted =
    subst (λ (l : List SuffixHash). IsStrictlySortedBy nat_cmp (map (λ one. one.suffix) l ++ rest)) (sym (append-nil hashes))
    (sorted-without nat_cmp suffix (map (λ one. one.suffix) hashes) rest sorted)
sorted-with suffix (Some md5) hashes rest sorted =
    subst (λ (ss : List ℕ). IsStrictlySortedBy nat_cmp ss) (sym (map-pushed hashes suffix md5 rest)) sorted

-- what is told of a suffix is of its lines. T: that the volume tells what it holds
pub record IsToldOf (power part suffix : ℕ) (T : Type 0) (holds : Contents) (md5 : Option (List ℕ)) : Type 0 where
  pub lines : List DirLine
  pub are : AreOfSuffix power part suffix lines
  pub listed : T → AreListedLines power part suffix holds lines
  pub md5_is : md5 ≡ suffix_md5 lines

-- what is compared of the keys that aren't left
pub record HashesSoFar (power part : ℕ) (T : Type 0) (holds : Contents) (keys rest : List ℕ) (hashes : List SuffixHash) : Type 0 where
  pub among : All (λ one. Contains keys one.suffix) hashes
  pub left : (suffix : ℕ) → Contains rest suffix → Contains keys suffix
  pub sorted : IsStrictlySortedBy nat_cmp (map (λ one. one.suffix) hashes ++ rest)
  pub shown : (suffix : ℕ) → Contains keys suffix → Contains rest suffix ⊎ IsToldOf power part suffix T holds (md5_in hashes suffix)

module _ (power part : ℕ) (T : Type 0) (holds : Contents) (keys : List ℕ) where
  pub hashes-start : IsStrictlySortedBy nat_cmp keys → HashesSoFar power part T holds keys keys []
  hashes-start sorted = record {
    among = All-nil (λ (one : SuffixHash). Contains keys one.suffix);
    left = λ suffix is. is;
    sorted = sorted;
    shown = λ suffix is. inl is;
  }

  module _ (suffix : ℕ) (rest : List ℕ) (hashes new : List SuffixHash) (far : HashesSoFar power part T holds keys (suffix ∷ rest) hashes)
      (adds : AddsHash power part suffix hashes new (λ lines. T → AreListedLines power part suffix holds lines)) where
    apart : Apart hashes suffix
    apart = apart-before suffix hashes (sorted-before nat_cmp suffix (map (λ one. one.suffix) hashes) rest far.sorted)

    abbrev added : Option (List ℕ)
    added = suffix_md5 adds.lines

    abbrev with_hash : List SuffixHash
    with_hash = hashes ++ hash_with suffix added

    here : (other : ℕ) → other ≡ suffix → IsToldOf power part other T holds (md5_in with_hash other)
    here other e = subst (λ (s : ℕ). IsToldOf power part s T holds (md5_in with_hash s)) (sym e)
        (record { lines = adds.lines; are = adds.are; listed = adds.is_shown; md5_is = md5-added hashes suffix added apart })

    told-with : (other : ℕ) → Contains keys other → Contains rest other ⊎ IsToldOf power part other T holds (md5_in with_hash other)
    told-with other is = elim (far.shown other is) [
      | inl before ↦ elim (front_or_behind suffix rest other before) [ inl e ↦ inr (here other (sym e)) | inr later ↦ inl later ]
      | inr seen ↦ elim (cases_Bool (suffix == other)) [
        | inl e ↦ inr (here other (sym (number-is suffix other e)))
        | inr away ↦ inr (subst (λ (o : Option (List ℕ)). IsToldOf power part other T holds o) (sym (md5-kept hashes suffix other added away)) seen)
      ]
    ]

    next-with : HashesSoFar power part T holds keys rest with_hash
    next-with = record {
      among = holds-with (λ s. Contains keys s) suffix added hashes (far.left suffix (0, omega arith, refl)) far.among;
      left = λ other is. far.left other (behind suffix rest other is);
      sorted = sorted-with suffix added hashes rest far.sorted;
      shown = told-with;
    }

    pub hashes-next : HashesSoFar power part T holds keys rest new
    hashes-next = subst (λ (l : List SuffixHash). HashesSoFar power part T holds keys rest l) (sym adds.adds) next-with

pub hash-moved : (power part suffix : ℕ) (old new : List SuffixHash) (P Q : List DirLine → Type 0) → ((lines : List DirLine) → P lines → Q lines)
    → AddsHash power part suffix old new P → AddsHash power part suffix old new Q
hash-moved power part suffix old new P Q step adds = record { lines = adds.lines; are = adds.are; is_shown = step adds.lines adds.is_shown; adds = adds.adds }

-- ---- all suffixes

contains-or : (keys : List ℕ) (suffix : ℕ) → Contains keys suffix ⊎ (Contains keys suffix → ⊥)
contains-or [] suffix = inr (λ is. none_of suffix is)
contains-or (k ∷ keys) suffix = elim (cases_Bool (k == suffix)) [
  | inl e ↦ inl (0, omega arith, number-is k suffix e)
  | inr away ↦ elim (contains-or keys suffix) [
    | inl later ↦ inl (behind k keys suffix later)
    | inr none ↦ inr (λ is. elim (front_or_behind k keys suffix is) [
      | inl e ↦ let clash = sym away ∙ (ap (λ (n : ℕ). n == suffix) e ∙ same-number suffix) in cc
      | inr later ↦ none later
    ])
  ]
]

apart-from : (keys : List ℕ) (suffix : ℕ) → (Contains keys suffix → ⊥) → (hashes : List SuffixHash) → All (λ one. Contains keys one.suffix) hashes
    → Apart hashes suffix
apart-from keys suffix none [] among = tt
apart-from keys suffix none (h ∷ hashes) among =
    (by (h.suffix == suffix) refl, apart-from keys suffix none hashes (All-tail (λ one. Contains keys one.suffix) h hashes among))
  where
    by : (b : Bool) → (h.suffix == suffix) ≡ b → b ≡ false
    by false e = refl
    by true e = absurd (none (subst (λ (s : ℕ). Contains keys s) (number-is h.suffix suffix e)
        (All-head (λ one. Contains keys one.suffix) h hashes among)))

-- a suffix without lines
no-lines : (power part suffix : ℕ) → AreOfSuffix power part suffix []
unfolding IsStrictlySortedBy
no-lines power part suffix = record { are = record { each = All-nil IsLine; ascending = tt }; within = All-nil _ }

module _ (power part : ℕ) (T : Type 0) (stood : Contents) (keys : List ℕ) (folders : List (List ℕ)) (hashes : List SuffixHash)
    (are : (suffix : ℕ) → Contains keys suffix ↔ HasFolder IsSuffixName folders suffix) (far : HashesSoFar power part T stood keys [] hashes)
    (listed : T → ListsAll folders (IsFolderIn stood (part_dir_text part))) where
  -- nothing stands where the suffix has no folder
  none-listed : (suffix : ℕ) → suffix < 4096 → (Contains keys suffix → ⊥) → T → AreListedLines power part suffix stood []
  none-listed suffix below none t hash is e = none-picked stood (dir_text power hash)
      (λ file stands. none ((are suffix).1 (
        suffix_digits suffix,
        ((listed t).exact (suffix_digits suffix)).1 (in-suffix-folder stood power part suffix hash is e file stands),
        record { below = below; digits = refl },
      )))

  told-all : (suffix : ℕ) → suffix < 4096 → IsToldOf power part suffix T stood (md5_in hashes suffix)
  told-all suffix below = elim (contains-or keys suffix) [
    | inl there ↦ elim (far.shown suffix there) [ inl left ↦ absurd (none_of suffix left) | inr told ↦ told ]
    | inr none ↦ record {
      lines = [];
      are = no-lines power part suffix;
      listed = none-listed suffix below none;
      md5_is = md5-none hashes suffix (apart-from keys suffix none hashes far.among);
    }
  ]

  pub hashes-are : (secrets : Secrets) (folders : Folders) (told : Bool) → stood ≡ contents folders
      → (told ≡ true → (in_order secrets power folders ≡ true) × T) → AreHashes power part told (λ hash. holds secrets power folders hash) hashes
  hashes-are secrets folders told same when = record {
    ascending = subst (λ (ss : List ℕ). IsStrictlySortedBy nat_cmp ss) (append-nil (map (λ one. one.suffix) hashes)) far.sorted;
    below = All-weaker (λ one. Contains keys one.suffix) (λ one. one.suffix < 4096) (λ one is. (((are one.suffix).0 is).2).below) hashes far.among;
    shown = λ t suffix below.
        let is = told-all suffix below in (
          is.lines,
          lines-are secrets power part suffix folders true is.lines is.are
              (λ e. ((when t).0, subst (λ (c : Contents). AreListedLines power part suffix c is.lines) same (is.listed (when t).1))),
          is.md5_is,
        );
  }

-- ---- what is compared of the lines of one suffix

pub told-there : (suffix : ℕ) (lines : List DirLine) → (length lines == 0) ≡ false →
    hash_with suffix (suffix_md5 lines) ≡ told_once suffix (md5 (suffix_text lines))
told-there suffix [] some = cc
told-there suffix (line ∷ lines) some = refl

pub told-none : (suffix : ℕ) (lines : List DirLine) → (length lines == 0) ≡ true → hash_with suffix (suffix_md5 lines) ≡ []
told-none suffix [] none = refl
told-none suffix (line ∷ lines) none = absurd (let empty = number-is (length (line ∷ lines)) 0 none in omega (arith, empty))
