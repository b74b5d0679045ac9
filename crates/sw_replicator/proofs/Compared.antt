-- What equal MD5s tell of the lines of a suffix, and which suffixes differ.
use Rattle.std.proofs.Common.{◌≡◌, ◌≢◌, ℕ, Bool, true, false, not, ◌==◌, List, [], ◌∷◌, map, filter, refl, sym, ◌∙◌, ap, ◌⊎◌, inl, inr}
use Rattle.std.proofs.Common.{Option, Some, None, if◌then◌else◌}
use Rattle.md5.specs.Md5.{md5}
use Rattle.std.proofs.lemmas.Bool.Decides.{Decides-eqb}
use Rattle.std.proofs.lemmas.Cmp.{nat_list_cmp_total, tied_itself}
use Rattle.std.proofs.lemmas.Slice.Eq.{bytes_eq-Decides}
use Rattle.std.specs.Cmp.Lexicographic.{slice_cmp}
use Rattle.std.specs.List.{AllByRecursion}
use Rattle.std.specs.List.Sorted.{IsStrictlySortedBy}
use Rattle.std.specs.Option.{option_to_list}
use Rattle.std.specs.Ordering.{nat_cmp}
use Rattle.std.specs.Str.{bytes_eq}
use Rattle.std.specs.declared.cmp.Ordering.TheVariants.{Less, Equal}
use Rattle.sw_diskfile.specs.StateFiles.{picked_of}
use Rattle.sw_diskfile.specs.declared.file_name.FileName.{FileName}
use Rattle.sw_diskfile.specs.declared.picking.Picked.{Picked}
use Rattle.sw_object_steps.proofs.Hashes.{hash-other, hash-same}
use Rattle.sw_object_steps.specs.Journals.{Hash}
use Rattle.sw_object_steps.specs.Parts.{Counts, md5_in, nothing_picked, picked_in, suffix_md5}
use Rattle.sw_replicator.specs.Pushing.{differing, is_same_md5}
use Rattle.sw_suffix.proofs.Lines.{lines_from_text}
use Rattle.sw_suffix.specs.SuffixLines.{AreSuffixLines}
use Rattle.sw_state.specs.declared.state.State.{State}
use Rattle.sw_suffix.specs.SuffixTexts.{files, suffix_text}
use Rattle.sw_suffix.specs.declared.dir_line.DirLine.{DirLine}
use Rattle.sw_suffix.specs.declared.told.SuffixHash.{SuffixHash}

pub all-map : {A : Type 0} (P Q : A → Type 0) (xs : List A) → ((x : A) → P x → Q x) → AllByRecursion P xs → AllByRecursion Q xs
all-map P Q [] f all = tt
all-map P Q (x ∷ xs) f all = (f x all.0, all-map P Q xs f all.1)

pub all-both : {A : Type 0} (P Q R : A → Type 0) (xs : List A) → ((x : A) → P x → Q x → R x) → AllByRecursion P xs → AllByRecursion Q xs → AllByRecursion R xs
all-both P Q R [] f p q = tt
all-both P Q R (x ∷ xs) f p q = (f x p.0 q.0, all-both P Q R xs f p.1 q.1)

-- ---- lines of one hash

-- what holds of the lines of a hash, and where nothing is picked, holds of what is picked
pub picked-at : (P : Picked → Type 0) (hash : Hash) (lines : List DirLine) → P nothing_picked → AllByRecursion (λ line. line.hash ≡ hash → P line.picked) lines
    → P (picked_in lines hash)
picked-at P hash [] none all = none
picked-at P hash (line ∷ lines) none all = by (bytes_eq line.hash hash) refl (picked-at P hash lines none all.1)
  where
    by : (b : Bool) → bytes_eq line.hash hash ≡ b → P (picked_in lines hash) → P (picked_in (line ∷ lines) hash)
    by true is rest = rw is (all.0 (hash-same line.hash hash is))
    by false is rest = rw is rest

less-is-other : (a b : Hash) → slice_cmp nat_cmp a b ≡ Less → a ≢ b
less-is-other a b less same =
    let tied : slice_cmp nat_cmp a b ≡ Equal = ap (λ (l : List ℕ). slice_cmp nat_cmp a l) (sym same) ∙ tied_itself nat_list_cmp_total a in
    let lie : Less ≡ Equal = sym less ∙ tied in cc

-- where the line is of the hash, it has what is picked of it
abbrev pub IsPicked : Hash → List DirLine → DirLine → Type 0
IsPicked hash lines x = x.hash ≡ hash → x.picked ≡ picked_in lines hash

-- in lines in order, a line of a hash has what is picked of it
pub own-lines : (hash : Hash) (lines : List DirLine) → IsStrictlySortedBy (slice_cmp nat_cmp) (map (λ line. line.hash) lines)
    → AllByRecursion (IsPicked hash lines) lines
unfolding IsStrictlySortedBy
own-lines hash [] sorted = tt
own-lines hash (line ∷ lines) sorted = (λ same. own same, more lines sorted.0 (own-lines hash lines sorted.1))
  where
    own : line.hash ≡ hash → line.picked ≡ picked_in (line ∷ lines) hash
    own same = let is : bytes_eq line.hash hash ≡ true = (bytes_eq-Decides line.hash hash).1 same in rw is refl

    behind : (x : DirLine) → slice_cmp nat_cmp line.hash x.hash ≡ Less → IsPicked hash lines x → IsPicked hash (line ∷ lines) x
    behind x less is same =
        let away : bytes_eq line.hash hash ≡ false = hash-other line.hash hash (λ own. less-is-other line.hash x.hash less (own ∙ sym same)) in
        rw away (is same)

    more : (xs : List DirLine) → AllByRecursion (λ y. slice_cmp nat_cmp line.hash y ≡ Less) (map (λ x. x.hash) xs) → AllByRecursion (IsPicked hash lines) xs
        → AllByRecursion (IsPicked hash (line ∷ lines)) xs
    more [] less is = tt
    more (x ∷ xs) less is = (behind x less.0 is.0, more xs less.1 is.1)

-- the files of what is picked of a state count in it
pub files-count : (s : State) (p : Picked) → p ≡ picked_of s → AllByRecursion (Counts s) (files p)
files-count s p is =
    by p.base p.meta (λ f same. sym (ap (λ (x : Picked). x.base) is) ∙ same) (λ f same. sym (ap (λ (x : Picked). x.meta) is) ∙ same)
  where
    metas : (m : Option FileName) → ((f : FileName) → m ≡ Some f → (picked_of s).meta ≡ Some f) → AllByRecursion (Counts s) (option_to_list m)
    metas None of_meta = tt
    metas (Some f) of_meta = (inr (of_meta f refl), tt)

    by : (b m : Option FileName) → ((f : FileName) → b ≡ Some f → (picked_of s).base ≡ Some f)
        → ((f : FileName) → m ≡ Some f → (picked_of s).meta ≡ Some f) → AllByRecursion (Counts s) (files (record { base = b; meta = m }))
    by None m of_base of_meta = metas m of_meta
    by (Some f) m of_base of_meta = (inl (of_base f refl), metas m of_meta)

-- ---- suffixes that differ

-- a suffix is among those
abbrev pub Among : ℕ → List SuffixHash → Type 0
Among suffix [] = ⊥
Among suffix (one ∷ more) = (one.suffix ≡ suffix) ⊎ Among suffix more

some-is : {A : Type 0} (x y : A) → Some x ≡ Some y → x ≡ y
some-is x y same = cc

in-differing : (ours theirs : List SuffixHash) (suffix : ℕ) (m : List ℕ) → md5_in ours suffix ≡ Some m → is_same_md5 (md5_in theirs suffix) m ≡ false
    → Among suffix (differing ours theirs)
in-differing [] theirs suffix m is other = cc
in-differing (one ∷ more) theirs suffix m is other = by (one.suffix == suffix) refl (λ found. in-differing more theirs suffix m found other)
  where
    test : SuffixHash → Bool
    test x = not (is_same_md5 (md5_in theirs x.suffix) x.md5)

    kept : (b : Bool) → Among suffix (filter test more) → Among suffix (if b then one ∷ filter test more else filter test more)
    kept true rest = inr rest
    kept false rest = rest

    by : (b : Bool) → (one.suffix == suffix) ≡ b → (md5_in more suffix ≡ Some m → Among suffix (differing more theirs))
        → Among suffix (differing (one ∷ more) theirs)
    by true at rest =
        let here : one.suffix ≡ suffix = (Decides-eqb one.suffix suffix).0 at in
        let found : Some one.md5 ≡ Some m = sym (ap (λ (b : Bool). if b then Some one.md5 else md5_in more suffix) at) ∙ is in
        let differs : is_same_md5 (md5_in theirs one.suffix) one.md5 ≡ false =
        ap (λ (k : ℕ). is_same_md5 (md5_in theirs k) one.md5) here
        ∙ (ap (λ (x : List ℕ). is_same_md5 (md5_in theirs suffix) x) (some-is one.md5 m found) ∙ other) in
        rw differs (inl here)
    by false at rest = kept (test one) (rest (sym (ap (λ (b : Bool). if b then Some one.md5 else md5_in more suffix) at) ∙ is))

-- ---- what comparing tells

-- the sender's suffix is empty or the receiver's, or their texts collide, or it is pushed
abbrev pub Verdict : List SuffixHash → List SuffixHash → ℕ → List DirLine → List DirLine → Type 0
Verdict ours theirs suffix lines others =
    (lines ≡ [])
    ⊎ ((lines ≡ others)
    ⊎ (((suffix_text lines ≢ suffix_text others) × (md5 (suffix_text lines) ≡ md5 (suffix_text others))) ⊎ Among suffix (differing ours theirs)))

pub compared : (ours theirs : List SuffixHash) (suffix : ℕ) (lines others : List DirLine) → AreSuffixLines lines → AreSuffixLines others
    → md5_in ours suffix ≡ suffix_md5 lines → md5_in theirs suffix ≡ suffix_md5 others → Verdict ours theirs suffix lines others
compared ours theirs suffix [] others are are' is is' = inl refl
compared ours theirs suffix (line ∷ lines) others are are' is is' = by (is_same_md5 (md5_in theirs suffix) m) refl
  where
    text : List ℕ
    text = suffix_text (line ∷ lines)

    m : List ℕ
    m = md5 text

    texts : (b : Bool) → bytes_eq text (suffix_text others) ≡ b → m ≡ md5 (suffix_text others) → Verdict ours theirs suffix (line ∷ lines) others
    texts true same md5s = inr (inl (lines_from_text (line ∷ lines) others are are' ((bytes_eq-Decides text (suffix_text others)).0 same)))
    texts false other md5s = inr (inr (inl ((λ same. apart same), md5s)))
      where
        apart : text ≡ suffix_text others → ⊥
        apart same = let lie : true ≡ false = sym ((bytes_eq-Decides text (suffix_text others)).1 same) ∙ other in cc

    one-md5 : (xs : List DirLine) → is_same_md5 (suffix_md5 xs) m ≡ true → m ≡ md5 (suffix_text xs)
    one-md5 [] same = cc
    one-md5 (x ∷ xs) same = sym ((bytes_eq-Decides (md5 (suffix_text (x ∷ xs))) m).0 same)

    by : (b : Bool) → is_same_md5 (md5_in theirs suffix) m ≡ b → Verdict ours theirs suffix (line ∷ lines) others
    by true same = texts (bytes_eq text (suffix_text others)) refl (one-md5 others (sym (ap (λ (x : Option (List ℕ)). is_same_md5 x m) is') ∙ same))
    by false other = inr (inr (inr (in-differing ours theirs suffix m is other)))
