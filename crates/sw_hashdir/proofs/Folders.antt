-- The keys that folders are named by, and the folders that stand where files of a partition's hashes do.
use Rattle.std.proofs.Common.{◌≡◌, ℕ, ◌↔◌, ◌⊎◌, inl, inr, refl, sym, ◌∙◌, ap, subst, List, [], ◌∷◌, ◌++◌, append_assoc, IsSome}
use Rattle.std.proofs.lemmas.List.Elements.{Contains-append_left, Contains-push, Contains-push_cases}
use Rattle.std.specs.BTreeSet.{insert_key}
use Rattle.std.specs.List.{Contains}
use Rattle.std.specs.Cmp.Lexicographic.{slice_cmp}
use Rattle.std.specs.Ordering.{is_eq, match_ordering, nat_cmp}
use Rattle.std.proofs.lemmas.Map.Text.{is_eq-slice_cmp}
use Rattle.std.proofs.lemmas.Slice.Eq.{bytes_eq-Decides}
use Rattle.std.proofs.lemmas.Cmp.{ranked}
use Rattle.std.specs.declared.cmp.Ordering.{Ordering}
use Rattle.std.specs.declared.cmp.Ordering.TheVariants.{Equal, Greater, Less}
use Rattle.hex.specs.Hex.{encode_lower}
use Rattle.sw_hashpath.specs.HashParts.{suffix_of}
use Rattle.sw_volume.specs.Volume.{Contents, IsFolderIn}
use Rattle.sw_object_steps.specs.Journals.{Hash}
use Rattle.sw_object_steps.specs.Parts.{IsOfPart}
use Rattle.sw_hashdir.specs.Partitions.{HasFolder, part_dir_text, suffix_digits, suffix_dir_text}
use Rattle.sw_hashdir.specs.Places.{dir_text}
use Rattle.sw_hashdir.proofs.Digits.{dir-below, hex-segment, suffix-segment}
use Rattle.sw_hashdir.proofs.Walking.{at_front, behind, front_or_behind, none_of, segment_whole}

-- ---- a set with one key more

module _ {K : Type 0} (cmp : K → K → Ordering) (same : (x y : K) → cmp x y ≡ Equal → x ≡ y) where
  pub inserted : (k : K) (ks : List K) (q : K) → Contains (insert_key cmp ks k) q ↔ (Contains ks q ⊎ (q ≡ k))
  inserted k [] q = (
    λ is. elim (front_or_behind k [] q is) [ inl e ↦ inr (sym e) | inr later ↦ inl later ],
    λ either. elim either [ inl is ↦ absurd (none_of q is) | inr e ↦ subst (λ (x : K). Contains (k ∷ []) x) (sym e) (at_front k []) ],
  )
  inserted k (x ∷ xs) q = by (cmp k x) refl (inserted k xs q)
    where
      by : (o : Ordering) → cmp k x ≡ o → Contains (insert_key cmp xs k) q ↔ (Contains xs q ⊎ (q ≡ k))
          → Contains (match_ordering o (k ∷ x ∷ xs) (x ∷ xs) (x ∷ insert_key cmp xs k)) q ↔ (Contains (x ∷ xs) q ⊎ (q ≡ k))
      by Less e later = (
        λ is. elim (front_or_behind k (x ∷ xs) q is) [ inl at ↦ inr (sym at) | inr more ↦ inl more ],
        λ either. elim either [
          | inl is ↦ behind k (x ∷ xs) q is
          | inr at ↦ subst (λ (y : K). Contains (k ∷ x ∷ xs) y) (sym at) (at_front k (x ∷ xs))
        ],
      )
      by Equal e later = (
        λ is. inl is,
        λ either. elim either [ inl is ↦ is | inr at ↦ subst (λ (y : K). Contains (x ∷ xs) y) (sym (at ∙ same k x e)) (at_front x xs) ],
      )
      by Greater e later = (
        λ is. elim (front_or_behind x (insert_key cmp xs k) q is) [
          | inl at ↦ inl (subst (λ (y : K). Contains (x ∷ xs) y) at (at_front x xs))
          | inr more ↦ elim (later.0 more) [ inl old ↦ inl (behind x xs q old) | inr new ↦ inr new ]
        ],
        λ either. elim either [
          | inl is ↦ elim (front_or_behind x xs q is) [
            | inl at ↦ subst (λ (y : K). Contains (x ∷ insert_key cmp xs k) y) at (at_front x (insert_key cmp xs k))
            | inr more ↦ behind x (insert_key cmp xs k) q (later.1 (inl more))
          ]
          | inr new ↦ behind x (insert_key cmp xs k) q (later.1 (inr new))
        ],
      )

-- ---- the keys of some folders

module _ {K : Type 0} (IsName : List ℕ → K → Type 0) (front : List (List ℕ)) (name : List ℕ) where
  named-before : (q : K) → HasFolder IsName front q → HasFolder IsName (front ++ name ∷ []) q
  named-before q is = (is.0, Contains-append_left front (name ∷ []) is.0 is.1, is.2)

  named-cases : (q : K) → HasFolder IsName (front ++ name ∷ []) q → HasFolder IsName front q ⊎ IsName name q
  named-cases q is = elim (Contains-push_cases front name is.0 is.1) [
    | inl before ↦ inl (is.0, before, is.2)
    | inr e ↦ inr (subst (λ (n : List ℕ). IsName n q) (sym e) is.2)
  ]

  -- one folder more, which names no key
  pub keys-same : (ks : List K) → ((q : K) → Contains ks q ↔ HasFolder IsName front q) → ((q : K) → ¬ (IsName name q))
      → (q : K) → Contains ks q ↔ HasFolder IsName (front ++ name ∷ []) q
  keys-same ks are none q = (
    λ is. named-before q ((are q).0 is),
    λ is. elim (named-cases q is) [ inl before ↦ (are q).1 before | inr new ↦ absurd (none q new) ],
  )

  -- one folder more, which names this key alone
  pub keys-more : (cmp : K → K → Ordering) → ((x y : K) → cmp x y ≡ Equal → x ≡ y) → (ks : List K) (k : K)
      → ((q : K) → Contains ks q ↔ HasFolder IsName front q) → IsName name k → ((q : K) → IsName name q → q ≡ k)
      → (q : K) → Contains (insert_key cmp ks k) q ↔ HasFolder IsName (front ++ name ∷ []) q
  keys-more cmp same ks k are is one q = (
    λ there. elim ((inserted cmp same k ks q).0 there) [
      | inl old ↦ named-before q ((are q).0 old)
      | inr e ↦ (name, Contains-push front name, subst (λ (x : K). IsName name x) (sym e) is)
    ],
    λ has. (inserted cmp same k ks q).1 (elim (named-cases q has) [ inl before ↦ inl ((are q).1 before) | inr new ↦ inr (one q new) ]),
  )

-- ---- a file of a hash stands in the folders of its suffix and of itself

module _ (holds : Contents) (power part suffix : ℕ) (hash : Hash) (is : IsOfPart power part hash) (e : suffix_of hash ≡ suffix) where
  pub in-hash-folder : (file : List ℕ) → IsSome (holds (dir_text power hash) file) → IsFolderIn holds (suffix_dir_text part suffix) (encode_lower hash)
  in-hash-folder file stands = record {
    below = encode_lower hash;
    file = file;
    segment = sym (hex-segment hash);
    stands = subst (λ (dir : List ℕ). IsSome (holds dir file)) (dir-below power part suffix hash is e) stands;
  }

  pub in-suffix-folder : (file : List ℕ) → IsSome (holds (dir_text power hash) file) → IsFolderIn holds (part_dir_text part) (suffix_digits suffix)
  in-suffix-folder file stands = record {
    below = suffix_digits suffix ++ 47 ∷ encode_lower hash;
    file = file;
    segment = sym (segment_whole (suffix_digits suffix) (47 ∷ encode_lower hash) (suffix-segment suffix) refl);
    stands = subst (λ (dir : List ℕ). IsSome (holds dir file))
        (dir-below power part suffix hash is e
        ∙ (append_assoc (suffix_dir_text part suffix) (47 ∷ []) (encode_lower hash)
        ∙ (append_assoc (part_dir_text part) (47 ∷ suffix_digits suffix) (47 ∷ encode_lower hash)
        ∙ sym (append_assoc (part_dir_text part) (47 ∷ []) (suffix_digits suffix ++ 47 ∷ encode_lower hash))))) stands;
  }

-- ---- keys that are equal are the same

pub nat_same : (x y : ℕ) → nat_cmp x y ≡ Equal → x ≡ y
nat_same x y e = let r = ranked x y Equal (sym e) in r

pub list_same : (x y : List ℕ) → slice_cmp nat_cmp x y ≡ Equal → x ≡ y
list_same x y e = (bytes_eq-Decides x y).0 (sym (is_eq-slice_cmp x y) ∙ ap is_eq e)
