-- What a crash leaves of a disk, as a disk.
use Rattle.std.proofs.Common.{◌≡◌, ◌⊎◌, inl, inr, ⊎_elim, ℕ, zero, suc, ◌≤◌, Bool, true, false, cond, ◌&&◌, ◌||◌, List, [], ◌∷◌, Option, Some, None}
use Rattle.std.proofs.Common.{IsSome, length, refl, sym, ◌∙◌, ap, subst, arith}
use Rattle.std.proofs.lemmas.Bool.{cases_Bool, cond-true, cond-false}
use Rattle.std.proofs.lemmas.Slice.Eq.{bytes_eq-Decides}
use Rattle.std.specs.Option.{option_map}
use Rattle.std.specs.Str.{bytes_eq}
use Rattle.sw_disk.proofs.Above.{length-above}
use Rattle.sw_disk.proofs.States.{on_disk-below}
use Rattle.sw_disk.proofs.Turning.{and_on, is_path-self, none_or_some}
use Rattle.sw_disk.proofs.Ways.{on_disk-own}
use Rattle.sw_disk.specs.Changes.{blank}
use Rattle.sw_disk.specs.Crash.{IsLeft, IsLeftOf, IsLeftOfOne, IsOnDisk, MayLeave}
use Rattle.sw_disk.specs.Disk.{DiskFile, DiskState, HasSome, IsFilled}
use Rattle.sw_disk.specs.Keeping.{IsDurable, IsInOrder, IsOrdered, writing}
use Rattle.sw_disk.specs.Leaving.{IsFolderLeft, IsThere, Leaves}
use Rattle.sw_disk.specs.Paths.{above, is_path, steps_above}
use Rattle.sw_disk.specs.Standings.{bytes_at}

own_or_not : (dir : List ℕ) → (dir ≡ []) ⊎ (¬ (dir ≡ []))
own_or_not [] = inl refl
own_or_not (b ∷ bs) = inr (λ e. cc)

some_or_not : {A : Type 0} (o : Option A) → IsSome o ⊎ (¬ (IsSome o))
some_or_not None = inr (λ h. cc)
some_or_not (Some a) = inl refl

pub there_or_not : (t : DiskState) (dir : List ℕ) → IsThere t dir ⊎ (¬ (IsThere t dir))
there_or_not t dir = ⊎_elim (λ own. inl (inl own))
    (λ below. ⊎_elim (λ some. inl (inr some)) (λ none. inr (λ there. ⊎_elim below none there)) (some_or_not (t.folders dir))) (own_or_not dir)

-- what is left of a file that is on the disk is that file
left_whole : (o : Option DiskFile) (x : Option (List ℕ)) → ((f : DiskFile) → o ≡ Some f → f.synced ≡ true) → IsLeft o x → x ≡ option_map
    (λ (f : DiskFile). f.bytes) o
left_whole None x whole left = left
left_whole (Some f) x whole left = subst (λ (b : Bool). IsLeftOf f.bytes b x) (whole f refl) left

-- a folder that outlives each crash is left by this one
module _ (s t : DiskState) (leaves : Leaves s t) where
  on_disk-left' : (n : ℕ) (dir : List ℕ) → length dir ≤ n → IsOnDisk s dir → IsThere t dir
  on_disk-left' n [] within on = inl refl
  on_disk-left' zero (b ∷ bs) within on = absurd (omega (arith, within))
  on_disk-left' (suc n) (b ∷ bs) within on =
      let less = length-above b bs in
      inr (leaves.synced (b ∷ bs) (on 0 (λ e. cc)) (on_disk-left' n (above (b ∷ bs)) (omega (arith, less, within)) (λ k ne. on (suc k) ne)))

  pub on_disk-left : (dir : List ℕ) → IsOnDisk s dir → IsThere t dir
  on_disk-left dir on = on_disk-left' (length dir) dir (omega arith) on

  above-there : (dir : List ℕ) → IsThere t dir → IsThere t (above dir)
  above-there dir (inl own) = inl (ap above own)
  above-there dir (inr some) = (leaves.folders dir some).within

  -- and what it leaves outlives each further one
  there-steps : (n : ℕ) (dir : List ℕ) → IsThere t dir → ¬ (steps_above n dir ≡ []) → t.folders (steps_above n dir) ≡ Some true
  there-steps zero dir (inl own) ne = absurd (ne own)
  there-steps zero dir (inr some) ne = (leaves.folders dir some).synced
  there-steps (suc n) dir there ne = there-steps n (above dir) (above-there dir there) ne

  there-on_disk : (dir : List ℕ) → IsThere t dir → IsOnDisk t dir
  there-on_disk dir there = λ n ne. there-steps n dir there ne

  file-there : (dir file : List ℕ) → IsSome (t.files dir file) → IsThere t dir
  file-there dir file some = ⊎_elim (λ there. there)
      (λ gone. absurd (no_file (t.files dir file) (leaves.nothing dir file gone) some)) (there_or_not t dir)
    where
      no_file : (o : Option DiskFile) → o ≡ None → IsSome o → ⊥
      no_file None e h = cc
      no_file (Some f) e h = cc

  filled-there : (dir : List ℕ) → IsFilled t dir → IsThere t dir
  filled-there dir (inl file) = file-there dir file.0 file.1
  filled-there dir (inr below) = subst (λ (d : List ℕ). IsThere t d) below.2 (leaves.folders below.0 below.3).within

  pub leaves-ordered : IsOrdered t
  leaves-ordered = record {
    filled = λ dir filled. there-on_disk dir (filled-there dir filled);
    stood = λ dir has. absurd (subst HasSome (leaves.still dir has.0) has.1);
  }

  pub leaves-in_order : IsInOrder s → IsInOrder t
  leaves-in_order o = record { ordered = leaves-ordered; writing = there-on_disk writing (on_disk-left writing o.writing) }

  nothing-bytes : (dir file : List ℕ) → ¬ (IsThere t dir) → bytes_at t dir file ≡ None
  nothing-bytes dir file gone = ap (λ (o : Option DiskFile). option_map (λ (f : DiskFile). f.bytes) o) (leaves.nothing dir file gone)

  pub leaves-path : (dir file : List ℕ) → MayLeave s dir file (bytes_at t dir file)
  leaves-path dir file = ⊎_elim (λ there. inl (leaves.files dir file there))
      (λ gone. inr (nothing-bytes dir file gone, λ on. gone (on_disk-left dir on))) (there_or_not t dir)

  pub leaves-durable : (dir file : List ℕ) → IsDurable t dir file (bytes_at t dir file)
  leaves-durable dir file x (inl (inl now)) = left_whole (t.files dir file) x (leaves.whole dir file) now
  leaves-durable dir file x (inl (inr was)) = absurd (subst (λ (es : List (Option DiskFile)). IsLeftOfOne es x) (leaves.still dir file) was)
  leaves-durable dir file x (inr lost) = lost.0 ∙ sym (nothing-bytes dir file (λ there. lost.1 (there-on_disk dir there)))

-- ---- each thing that may be left of a path is left by some crash: one that leaves what outlives each, and of files what stands

abbrev is_synced : Option Bool → Bool
is_synced None = false
is_synced (Some kept) = kept

-- whether a folder of at most so many steps outlives each crash
abbrev stays : DiskState → ℕ → List ℕ → Bool
stays s zero dir = bytes_eq dir []
stays s (suc n) dir = bytes_eq dir [] || (is_synced (s.folders dir) && stays s n (above dir))

or_first : (a b : Bool) → a ≡ true → (a || b) ≡ true
or_first true b e = refl
or_first false b e = cc

or_second : (a b : Bool) → b ≡ true → (a || b) ≡ true
or_second true b e = refl
or_second false b e = e

or_which : (a b : Bool) → (a || b) ≡ true → (a ≡ true) ⊎ (b ≡ true)
or_which true b e = inl refl
or_which false b e = inr e

both : (a b : Bool) → a ≡ true → b ≡ true → (a && b) ≡ true
both true b e f = f
both false b e f = cc

synced-some : (o : Option Bool) → is_synced o ≡ true → o ≡ Some true
synced-some None e = cc
synced-some (Some kept) e = ap Some e

stays-on_disk : (s : DiskState) (n : ℕ) (dir : List ℕ) → stays s n dir ≡ true → IsOnDisk s dir
stays-on_disk s zero dir e = on_disk-own s dir ((bytes_eq-Decides dir []).0 e)
stays-on_disk s (suc n) dir e = ⊎_elim (λ own. on_disk-own s dir ((bytes_eq-Decides dir []).0 own))
    (λ rest. let two = and_on (is_synced (s.folders dir)) (stays s n (above dir)) rest in
    on_disk-below s dir (synced-some (s.folders dir) two.0) (stays-on_disk s n (above dir) two.1))
    (or_which (bytes_eq dir []) (is_synced (s.folders dir) && stays s n (above dir)) e)

on_disk-stays : (s : DiskState) (n : ℕ) (dir : List ℕ) → length dir ≤ n → IsOnDisk s dir → stays s n dir ≡ true
on_disk-stays s zero [] within on = (bytes_eq-Decides [] []).1 refl
on_disk-stays s zero (b ∷ bs) within on = absurd (omega (arith, within))
on_disk-stays s (suc n) [] within on = or_first (bytes_eq [] []) (is_synced (s.folders []) && stays s n (above [])) ((bytes_eq-Decides [] []).1 refl)
on_disk-stays s (suc n) (b ∷ bs) within on =
    let less = length-above b bs in
    or_second (bytes_eq (b ∷ bs) []) (is_synced (s.folders (b ∷ bs)) && stays s n (above (b ∷ bs)))
    (both (is_synced (s.folders (b ∷ bs))) (stays s n (above (b ∷ bs))) (ap is_synced (on 0 (λ e. cc)))
    (on_disk-stays s n (above (b ∷ bs)) (omega (arith, less, within)) (λ k ne. on (suc k) ne)))

-- a file that is on the disk
abbrev on_it : List ℕ → DiskFile
on_it bytes = record { bytes = bytes; synced = true }

bytes-on_it : (x : Option (List ℕ)) → option_map (λ (f : DiskFile). f.bytes) (option_map on_it x) ≡ x
bytes-on_it None = refl
bytes-on_it (Some bytes) = refl

whole-on_it : (x : Option (List ℕ)) (f : DiskFile) → option_map on_it x ≡ Some f → f.synced ≡ true
whole-on_it None f e = cc
whole-on_it (Some bytes) f e = sym (ap (λ (o : Option DiskFile). synced_of o) e)
  where
    synced_of : Option DiskFile → Bool
    synced_of None = false
    synced_of (Some f) = f.synced

-- what stands is what may be left of it
stands-left : (o : Option DiskFile) → IsLeft o (option_map (λ (f : DiskFile). f.bytes) o)
stands-left None = refl
stands-left (Some f) = stands f.synced
  where
    stands : (b : Bool) → IsLeftOf f.bytes b (Some f.bytes)
    stands true = refl
    stands false = refl

on-some : (b : Bool) → IsSome (cond b (Some true) None) → b ≡ true
on-some true h = refl
on-some false h = cc

some-on : (b : Bool) → b ≡ true → IsSome (cond b (Some true) None)
some-on true e = refl
some-on false e = cc

not_true : (b : Bool) → ¬ (b ≡ true) → b ≡ false
not_true true ne = absurd (ne refl)
not_true false ne = refl

never : (b : Bool) → b ≡ false → b ≡ true → ⊥
never true off on = cc
never false off on = cc

bytes-there : (b : Bool) (y : Option (List ℕ)) → b ≡ true → option_map (λ (f : DiskFile). f.bytes) (cond b (option_map on_it y) None) ≡ y
bytes-there true y on = bytes-on_it y
bytes-there false y on = cc

bytes-gone : (b : Bool) (y : Option (List ℕ)) → b ≡ false → option_map (λ (f : DiskFile). f.bytes) (cond b (option_map on_it y) None) ≡ None
bytes-gone true y off = cc
bytes-gone false y off = refl

whole-there : (b : Bool) (y : Option (List ℕ)) (f : DiskFile) → cond b (option_map on_it y) None ≡ Some f → f.synced ≡ true
whole-there true y f e = whole-on_it y f e
whole-there false y f e = cc

module _ (s : DiskState) (dir file : List ℕ) (x : Option (List ℕ)) (one : IsOnDisk s dir → IsLeftOfOne (s.files dir file ∷ s.earlier dir file) x) where
  abbrev outlives : List ℕ → Bool
  outlives d = stays s (length d) d

  abbrev left_there : List ℕ → List ℕ → Option (List ℕ)
  left_there d f = cond (is_path dir file d f) x (bytes_at s d f)

  abbrev left : DiskState
  left = record {
    files = λ d f. cond (outlives d) (option_map on_it (left_there d f)) None;
    earlier = λ d f. [];
    folders = λ d. cond (is_synced (s.folders d) && outlives d) (Some true) None;
  }

  there-outlives : (d : List ℕ) → IsThere left d → outlives d ≡ true
  there-outlives d (inl own) = subst (λ (y : List ℕ). stays s (length y) y ≡ true) (sym own) ((bytes_eq-Decides [] []).1 refl)
  there-outlives d (inr some) = (and_on (is_synced (s.folders d)) (outlives d) (on-some (is_synced (s.folders d) && outlives d) some)).1

  outlives-there : (d : List ℕ) → IsOnDisk s d → IsThere left d
  outlives-there d on = ⊎_elim (λ own. inl own)
      (λ below. inr (some-on (is_synced (s.folders d) && outlives d)
      (both (is_synced (s.folders d)) (outlives d) (ap is_synced (on 0 below)) (on_disk-stays s (length d) d (omega arith) on))))
      (own_or_not d)

  folder-left : (d : List ℕ) → IsSome (left.folders d) → IsFolderLeft s left d
  folder-left d some =
      let on = on-some (is_synced (s.folders d) && outlives d) some in
      let two = and_on (is_synced (s.folders d)) (outlives d) on in
      record {
        was = subst (λ (o : Option Bool). IsSome o) (sym (synced-some (s.folders d) two.0)) refl;
        within = outlives-there (above d) (λ n ne. stays-on_disk s (length d) d two.1 (suc n) ne);
        synced = cond-true (is_synced (s.folders d) && outlives d) (Some true) None on;
      }

  folder-kept : (d : List ℕ) → s.folders d ≡ Some true → IsThere left (above d) → IsSome (left.folders d)
  folder-kept d e within =
      let on = on_disk-below s d e (stays-on_disk s (length (above d)) (above d) (there-outlives (above d) within)) in
      some-on (is_synced (s.folders d) && outlives d)
      (both (is_synced (s.folders d)) (outlives d) (ap is_synced e) (on_disk-stays s (length d) d (omega arith) on))

  path-left : (b : Bool) (d f : List ℕ) → (b ≡ true → (dir ≡ d) × (file ≡ f)) → IsOnDisk s d → IsLeftOfOne (s.files d f ∷ s.earlier d f)
      (cond b x (bytes_at s d f))
  path-left true d f same on =
      let e = same refl in
      subst (λ (y : List ℕ). IsLeftOfOne (s.files d y ∷ s.earlier d y) x) e.1
      (subst (λ (y : List ℕ). IsLeftOfOne (s.files y file ∷ s.earlier y file) x) e.0 (one (subst (λ (y : List ℕ). IsOnDisk s y) (sym e.0) on)))
  path-left false d f same on = inl (stands-left (s.files d f))

  file-left : (d f : List ℕ) → IsThere left d → IsLeftOfOne (s.files d f ∷ s.earlier d f) (bytes_at left d f)
  file-left d f there =
      let on = there-outlives d there in
      subst (λ (y : Option (List ℕ)). IsLeftOfOne (s.files d f ∷ s.earlier d f) y) (sym (bytes-there (outlives d) (left_there d f) on))
      (path-left (is_path dir file d f) d f
      (λ same. let two = and_on (bytes_eq dir d) (bytes_eq file f) same in ((bytes_eq-Decides dir d).0 two.0, (bytes_eq-Decides file f).0 two.1))
      (stays-on_disk s (length d) d on))

  leaves : Leaves s left
  leaves = record {
    folders = folder-left;
    synced = folder-kept;
    files = file-left;
    nothing = λ d f gone. cond-false (outlives d) (option_map on_it (left_there d f)) None
        (not_true (outlives d) (λ on. gone (outlives-there d (stays-on_disk s (length d) d on))));
    whole = λ d f g e. whole-there (outlives d) (left_there d f) g e;
    still = λ d f. refl;
  }

  at-path : (outlives dir ≡ false → x ≡ None) → bytes_at left dir file ≡ x
  at-path gone = ⊎_elim
      (λ on. bytes-there (outlives dir) (left_there dir file) on
      ∙ cond-true (is_path dir file dir file) x (bytes_at s dir file) (is_path-self dir file))
      (λ off. bytes-gone (outlives dir) (left_there dir file) off ∙ sym (gone off))
      (cases_Bool (outlives dir))

has_some-on_disk : (s : DiskState) (dir file : List ℕ) → IsOrdered s → HasSome (s.files dir file ∷ s.earlier dir file) → IsOnDisk s dir
has_some-on_disk s dir file ordered (inl stands) = ordered.filled dir (inl (file, stands))
has_some-on_disk s dir file ordered (inr has) = ordered.stood dir (file, has)

pub each-is-left : (s : DiskState) (dir file : List ℕ) (x : Option (List ℕ)) → IsOrdered s → MayLeave s dir file x
    → (t : DiskState) × Leaves s t × (bytes_at t dir file ≡ x)
each-is-left s dir file x ordered (inl one) = (
  left s dir file x (λ on. one),
  leaves s dir file x (λ on. one),
  at-path s dir file x (λ on. one) (λ off. ⊎_elim
      (λ none. none)
      (λ has. absurd (never (stays s (length dir) dir) off (on_disk-stays s (length dir) dir (omega arith) (has_some-on_disk s dir file ordered has))))
      (none_or_some (s.files dir file ∷ s.earlier dir file) x one)),
)
each-is-left s dir file x ordered (inr lost) = (
  left s dir file x (λ on. absurd (lost.1 on)),
  leaves s dir file x (λ on. absurd (lost.1 on)),
  at-path s dir file x (λ on. absurd (lost.1 on))
      (λ off. lost.0),
)

-- a disk with nothing on it
no_file : {P : Type 0} → IsSome {T = DiskFile} None → P
no_file h = cc

no_folder : {P : Type 0} → IsSome {T = Bool} None → P
no_folder h = cc

nothing_filled : (dir : List ℕ) → IsFilled blank dir → IsOnDisk blank dir
nothing_filled dir (inl file) = no_file file.1
nothing_filled dir (inr below) = no_folder below.3

pub blank-ordered : IsOrdered blank
blank-ordered = record { filled = nothing_filled; stood = λ dir has. absurd has.1 }
