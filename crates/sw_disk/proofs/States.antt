-- What calls change of what a crash leaves.
use Rattle.std.proofs.Common.{◌≡◌, inl, inr, ⊎_elim, ℕ, zero, suc, Bool, true, false, cond, List, [], ◌∷◌, Option, Some, None, IsSome, refl, sym, ◌∙◌, ap}
use Rattle.std.proofs.Common.{subst}
use Rattle.std.proofs.lemmas.Bool.{cases_Bool}
use Rattle.std.proofs.lemmas.Slice.Eq.{bytes_eq-Decides}
use Rattle.std.specs.Str.{bytes_eq}
use Rattle.sw_disk.specs.Calls.{folder_synced, made, is_made, synced_name, MayBe}
use Rattle.sw_disk.specs.Crash.{IsLeft, IsLeftOfOne, IsOnDisk, MayLeave}
use Rattle.sw_disk.specs.Disk.{DiskFile, DiskState, HasSome, HasStood, IsFilled}
use Rattle.sw_disk.specs.Keeping.{kept, IsInOrder, IsOrdered, Rests, writing}
use Rattle.sw_disk.specs.Paths.{above, steps_above}

-- folders that were synced still are
abbrev pub StaySynced : DiskState → DiskState → Type 0
StaySynced s t = (d : List ℕ) → s.folders d ≡ Some true → t.folders d ≡ Some true

pub on_disk : (s t : DiskState) → StaySynced s t → (dir : List ℕ) → IsOnDisk s dir → IsOnDisk t dir
on_disk s t stay dir h = λ n ne. stay (steps_above n dir) (h n ne)

pub on_disk-below : (s : DiskState) (dir : List ℕ) → s.folders dir ≡ Some true → IsOnDisk s (above dir) → IsOnDisk s dir
on_disk-below s dir here h = elim [ zero ↦ λ ne. here | suc n ↦ λ ne. h n ne ]

-- a call after which what a crash leaves of files is no more than before
pub record Narrows (s t : DiskState) : Type 0 where
  pub stay : StaySynced s t
  pub files : t.files ≡ s.files
  pub earlier : (d f : List ℕ) (w : Option (List ℕ)) → IsLeftOfOne (t.earlier d f) w → IsLeftOfOne (s.earlier d f) w
  pub stood : (d f : List ℕ) → HasSome (t.earlier d f) → HasSome (s.earlier d f)

module _ (s t : DiskState) (narrows : Narrows s t) where
  left-narrows : (d f : List ℕ) (w : Option (List ℕ)) → IsLeftOfOne (t.files d f ∷ t.earlier d f) w → IsLeftOfOne (s.files d f ∷ s.earlier d f) w
  left-narrows d f w (inl now) = inl (subst (λ (fs : List ℕ → List ℕ → Option DiskFile). IsLeft (fs d f) w) narrows.files now)
  left-narrows d f w (inr was) = inr (narrows.earlier d f w was)

  pub may_leave-narrows : (d f : List ℕ) (w : Option (List ℕ)) → MayLeave t d f w → MayLeave s d f w
  may_leave-narrows d f w (inl left) = inl (left-narrows d f w left)
  may_leave-narrows d f w (inr lost) = inr (lost.0, λ kept. lost.1 (on_disk s t narrows.stay d kept))

  pub stood-narrows : IsOrdered s → (d : List ℕ) → HasStood t d → IsOnDisk t d
  stood-narrows ordered d has = on_disk s t narrows.stay d (ordered.stood d (has.0, narrows.stood d has.0 has.1))

  pub in_order-narrows : (IsOrdered s → IsOrdered t) → IsInOrder s → IsInOrder t
  in_order-narrows ordered o = record { ordered = ordered o.ordered; writing = on_disk s t narrows.stay writing o.writing }

  pub rests-narrows : (Order : DiskState → Type 0) → (Order s → Order t) → Rests Order s t
  rests-narrows Order order = record {
    order = order;
    now = λ d f. ap (λ (fs : List ℕ → List ℕ → Option DiskFile). kept (record s { files = fs }) d f) narrows.files;
    left = λ d f w ne. may_leave-narrows d f w;
  }

module _ (Order : DiskState → Type 0) where
  pub rests-none : (s : DiskState) → Rests Order s s
  rests-none s = record { order = λ o. o; now = λ d f. refl; left = λ d f w ne left. left }

  pub rests-on : (a b c : DiskState) → Rests Order a b → Rests Order b c → Rests Order a c
  rests-on a b c p q = record {
    order = λ o. q.order (p.order o);
    now = λ d f. q.now d f ∙ p.now d f;
    left = λ d f w ne left. p.left d f w ne (q.left d f w ne left);
  }

  pub rests-may_be : (s done t : DiskState) → Rests Order s done → MayBe s done t → Rests Order s t
  rests-may_be s done t rests (inl e) = subst (λ (x : DiskState). Rests Order s x) (sym e) (rests-none s)
  rests-may_be s done t rests (inr e) = subst (λ (x : DiskState). Rests Order s x) (sym e) rests

  pub rests-same : (s t : DiskState) → t ≡ s → Rests Order s t
  rests-same s t e = subst (λ (x : DiskState). Rests Order s x) (sym e) (rests-none s)

module _ (s : DiskState) (dir : List ℕ) where
  synced-synced_name : (b : Bool) (o : Option Bool) → o ≡ Some true → cond b (synced_name o) o ≡ Some true
  synced-synced_name true o e = ap synced_name e
  synced-synced_name false o e = e

  earlier-synced : (b : Bool) (es : List (Option DiskFile)) (w : Option (List ℕ)) → IsLeftOfOne (cond b [] es) w → IsLeftOfOne es w
  earlier-synced true es w left = absurd left
  earlier-synced false es w left = left

  stood-synced : (b : Bool) (es : List (Option DiskFile)) → HasSome (cond b [] es) → HasSome es
  stood-synced true es has = absurd has
  stood-synced false es has = has

  there-synced : (b : Bool) (o : Option Bool) → IsSome (cond b (synced_name o) o) → IsSome o
  there-synced true None h = h
  there-synced true (Some k) h = refl
  there-synced false o h = h

  narrows-synced : Narrows s (folder_synced s dir)
  narrows-synced = record {
    stay = λ d e. synced-synced_name (bytes_eq dir (above d)) (s.folders d) e;
    files = refl;
    earlier = λ d f w. earlier-synced (bytes_eq dir d) (s.earlier d f) w;
    stood = λ d f. stood-synced (bytes_eq dir d) (s.earlier d f);
  }

  filled-synced : (d : List ℕ) → IsFilled (folder_synced s dir) d → IsFilled s d
  filled-synced d (inl file) = inl file
  filled-synced d (inr below) = inr (below.0, below.1, below.2, there-synced (bytes_eq dir (above below.0)) (s.folders below.0) below.3)

  ordered-synced : IsOrdered s → IsOrdered (folder_synced s dir)
  ordered-synced ordered = record {
    filled = λ d filled. on_disk s (folder_synced s dir) narrows-synced.stay d (ordered.filled d (filled-synced d filled));
    stood = stood-narrows s (folder_synced s dir) narrows-synced ordered;
  }

  pub rests-folder_synced : Rests IsInOrder s (folder_synced s dir)
  rests-folder_synced = rests-narrows s (folder_synced s dir) narrows-synced IsInOrder (in_order-narrows s (folder_synced s dir) narrows-synced ordered-synced)

  pub opens-folder_synced : Rests IsOrdered s (folder_synced s dir)
  opens-folder_synced = rests-narrows s (folder_synced s dir) narrows-synced IsOrdered ordered-synced

  pub stay-folder_synced : StaySynced s (folder_synced s dir)
  stay-folder_synced = narrows-synced.stay

module _ (s : DiskState) (dir : List ℕ) where
  synced-made : (b : Bool) (o : Option Bool) → o ≡ Some true → cond b (is_made o) o ≡ Some true
  synced-made true o e = ap is_made e
  synced-made false o e = e

  narrows-made : Narrows s (made s dir)
  narrows-made = record {
    stay = λ d e. synced-made (bytes_eq dir d) (s.folders d) e;
    files = refl;
    earlier = λ d f w left. left;
    stood = λ d f has. has;
  }

  there-made : (b : Bool) (o : Option Bool) → b ≡ false → IsSome (cond b (is_made o) o) → IsSome o
  there-made true o e h = cc
  there-made false o e h = h

  filled-made : IsOnDisk s (above dir) → IsOrdered s → (d : List ℕ) → IsFilled (made s dir) d → IsOnDisk s d
  filled-made kept ordered d (inl file) = ordered.filled d (inl file)
  filled-made kept ordered d (inr below) = ⊎_elim
      (λ same. subst (λ (x : List ℕ). IsOnDisk s x) (ap above ((bytes_eq-Decides dir below.0).0 same) ∙ below.2) kept)
      (λ other. ordered.filled d (inr (below.0, below.1, below.2, there-made (bytes_eq dir below.0) (s.folders below.0) other below.3)))
      (cases_Bool (bytes_eq dir below.0))

  ordered-made : IsOnDisk s (above dir) → IsOrdered s → IsOrdered (made s dir)
  ordered-made kept ordered = record {
    filled = λ d filled. on_disk s (made s dir) narrows-made.stay d (filled-made kept ordered d filled);
    stood = stood-narrows s (made s dir) narrows-made ordered;
  }

  pub rests-made : IsOnDisk s (above dir) → Rests IsInOrder s (made s dir)
  rests-made kept = rests-narrows s (made s dir) narrows-made IsInOrder (in_order-narrows s (made s dir) narrows-made (ordered-made kept))

  pub opens-made : IsOnDisk s (above dir) → Rests IsOrdered s (made s dir)
  opens-made kept = rests-narrows s (made s dir) narrows-made IsOrdered (ordered-made kept)

  pub stay-made : StaySynced s (made s dir)
  stay-made = narrows-made.stay

-- a folder that is there, synced into the one above it, which outlives each crash
module _ (s : DiskState) (dir : List ℕ) (kept : IsOnDisk s (above dir)) where
  name-synced : (b : Bool) (o : Option Bool) → b ≡ true → IsSome o → cond b (synced_name o) o ≡ Some true
  name-synced true None e h = cc
  name-synced true (Some k) e h = refl
  name-synced false o e h = cc

  pub on_disk-synced : IsSome (s.folders dir) → IsOnDisk (folder_synced s (above dir)) dir
  on_disk-synced there = on_disk-below (folder_synced s (above dir)) dir
      (name-synced (bytes_eq (above dir) (above dir)) (s.folders dir) ((bytes_eq-Decides (above dir) (above dir)).1 refl) there)
      (on_disk s (folder_synced s (above dir)) (stay-folder_synced s (above dir)) (above dir) kept)

module _ (s : DiskState) (dir : List ℕ) where
  made-there : (b : Bool) (o : Option Bool) → b ≡ true → IsSome (cond b (is_made o) o)
  made-there true None e = refl
  made-there true (Some k) e = refl
  made-there false o e = cc

  pub there-after_made : IsSome ((made s dir).folders dir)
  there-after_made = made-there (bytes_eq dir dir) (s.folders dir) ((bytes_eq-Decides dir dir).1 refl)
