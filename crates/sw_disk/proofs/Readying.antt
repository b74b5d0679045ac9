-- A disk is made ready for a volume.
use Rattle.std.proofs.Common.{◌≡◌, inl, inr, ℕ, zero, suc, ◌+◌, ◌<◌, Bool, true, false, cond, if◌then◌else◌, List, [], ◌∷◌, Option, Some, None, IsSome}
use Rattle.std.proofs.Common.{length, drop, get_or, refl, sym, ap, subst, arith}
use Rattle.std.proofs.lemmas.List.{drop_more, drop_all}
use Rattle.std.specs.List.{Contains}
use Rattle.std.specs.Option.{option_map}
use Rattle.sw_disk.proofs.States.{opens-folder_synced, opens-made}
use Rattle.sw_disk.proofs.Turning.{is_path-self, rests-with_file, stood-set}
use Rattle.sw_disk.proofs.Ways.{on_disk-made, on_disk-own}
use Rattle.sw_disk.specs.Calls.{folder_synced, made, removed}
use Rattle.sw_disk.specs.Disk.{DiskFile, DiskState, IsFilled}
use Rattle.sw_disk.specs.Keeping.{IsInOrder, IsOrdered, Rests, writing}
use Rattle.sw_disk.specs.Paths.{is_path}
use Rattle.sw_disk.specs.Standings.{bytes_at}

pub opens-writing : (s : DiskState) → Rests IsOrdered s (made s writing)
opens-writing s = opens-made s writing (on_disk-own s [] refl)

pub ready-writing : (s t u : DiskState) → IsOrdered s → t ≡ made s writing → u ≡ folder_synced t [] → IsInOrder u
ready-writing s t u ordered is_made is_synced = record {
  ordered = subst IsOrdered (sym is_synced) ((opens-folder_synced t []).order (subst IsOrdered (sym is_made) ((opens-writing s).order ordered)));
  writing = on_disk-made s t u writing (on_disk-own s [] refl) is_made is_synced;
}

-- a file taken away from the folder for writing
module _ (s : DiskState) (name : List ℕ) where
  stood-before : (b : Bool) (o : Option DiskFile) → IsSome (cond b None o) → IsSome o
  stood-before true o h = no_file h
    where
      no_file : {P : Type 0} → IsSome {T = DiskFile} None → P
      no_file h = cc
  stood-before false o h = h

  filled-removed : (d : List ℕ) → IsFilled (removed s writing name) d → IsFilled s d
  filled-removed d (inl file) = inl (file.0, stood-before (is_path writing name d file.0) (s.files d file.0) file.1)
  filled-removed d (inr below) = inr below

  pub opens-removed : Rests IsOrdered s (removed s writing name)
  opens-removed = record {
    order = λ ordered. record {
      filled = λ d filled. ordered.filled d (filled-removed d filled);
      stood = λ d has. stood-set s (is_path writing name d has.0) d has.0 ordered has.1;
    };
    now = (rests-with_file s name None).now;
    left = (rests-with_file s name None).left;
  }

  gone-there : (b : Bool) (o : Option DiskFile) (f : List ℕ) → (b ≡ false → ¬ (f ≡ name)) → IsSome (cond b None o) → ¬ (f ≡ name)
  gone-there true o f ne h = no_file h
    where
      no_file : {P : Type 0} → IsSome {T = DiskFile} None → P
      no_file h = cc
  gone-there false o f ne h = ne refl

  -- what still stands there is another file, which stood there before
  pub others-left : (f : List ℕ) → IsSome ((removed s writing name).files writing f) → IsSome (s.files writing f) × ¬ (f ≡ name)
  others-left f h = (
    stood-before (is_path writing name writing f) (s.files writing f) h,
    gone-there (is_path writing name writing f) (s.files writing f) f
        (λ off same. cc (off, subst (λ (x : List ℕ). is_path writing name writing x ≡ true) (sym same) (is_path-self writing name))) h,
  )

-- behind the first of a list
pub contains-next : (xs : List (List ℕ)) (i : ℕ) (x d : List ℕ) → i < length xs → ¬ (x ≡ get_or xs i d) → Contains (drop i xs) x → Contains (drop (i + 1) xs) x
contains-next xs i x d lt ne has = next (drop (i + 1) xs) (subst (λ (l : List (List ℕ)). Contains l x) (drop_more xs i d lt) has)
  where
    next : (rest : List (List ℕ)) → Contains (get_or xs i d ∷ rest) x → Contains rest x
    next rest (zero, within, is) = absurd (ne (sym is))
    next rest (suc k, within, is) = (k, omega (arith, within), is)

pub contains-none : (xs : List (List ℕ)) (i : ℕ) (x : List ℕ) → ¬ (i < length xs) → ¬ (Contains (drop i xs) x)
contains-none xs i x past has =
    let none : drop i xs ≡ [] = drop_all i xs (omega (arith, past)) in
    let within : has.0 < length (drop i xs) = has.1 in
    absurd (omega (arith, within, ap length none))

pub no_file_is_none : {A : Type 0} (o : Option A) → ¬ (IsSome o) → o ≡ None
no_file_is_none None h = refl
no_file_is_none (Some a) h = absurd (h refl)

no_bytes : {P : Type 0} (o : Option DiskFile) → option_map (λ (f : DiskFile). f.bytes) o ≡ None → IsSome o → P
no_bytes None e h = cc
no_bytes (Some f) e h = cc

-- after an unlink there that didn't fail
pub others-unlinked : (s t : DiskState) (name : List ℕ) (stood : Bool) → t ≡ (if stood then removed s writing name else s) →
    (stood ≡ false → bytes_at s writing name ≡ None)
    → (f : List ℕ) → IsSome (t.files writing f) → IsSome (s.files writing f) × ¬ (f ≡ name)
others-unlinked s t name true is none f h = others-left s name f (subst (λ (x : DiskState). IsSome (x.files writing f)) is h)
others-unlinked s t name false is none f h =
    let there : IsSome (s.files writing f) = subst (λ (x : DiskState). IsSome (x.files writing f)) is h in
    (there, λ same. no_bytes (s.files writing name) (none refl) (subst (λ (x : List ℕ). IsSome (s.files writing x)) same there))

pub some_bytes : (s : DiskState) (file : List ℕ) → IsSome (s.files writing file) → IsSome (bytes_at s writing file)
some_bytes s file h = go (s.files writing file) h
  where
    go : (o : Option DiskFile) → IsSome o → IsSome (option_map (λ (f : DiskFile). f.bytes) o)
    go None h = cc
    go (Some f) h = refl
