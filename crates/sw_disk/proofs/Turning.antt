-- What the calls of a put and of an unlink change of what is kept.
use Rattle.std.proofs.Common.{◌≡◌, ◌⊎◌, inl, inr, ⊎_elim, ℕ, Bool, true, false, cond, ◌&&◌, List, [], ◌∷◌, Option, Some, None, IsSome, refl, sym, ◌∙◌, ap}
use Rattle.std.proofs.Common.{subst}
use Rattle.std.proofs.lemmas.Bool.{cases_Bool, cond-true, cond-false}
use Rattle.std.proofs.lemmas.Slice.Eq.{bytes_eq-Decides}
use Rattle.std.specs.Option.{option_map}
use Rattle.std.specs.Str.{bytes_eq}
use Rattle.sw_disk.proofs.States.{on_disk, rests-none, stay-folder_synced}
use Rattle.sw_disk.specs.Calls.{created, file_synced, synced_file, folder_synced, moved, removed, with_file, MayBe, MayCreate}
use Rattle.sw_disk.specs.Crash.{IsLeft, IsLeftOfOne, IsOnDisk, MayLeave}
use Rattle.sw_disk.specs.Disk.{DiskFile, DiskState, HasSome, HasStood, IsFilled}
use Rattle.sw_disk.specs.Keeping.{kept, IsDurable, IsInOrder, IsOrdered, Rests, Turns, writing}
use Rattle.sw_disk.specs.Paths.{is_path, steps_above}
use Rattle.sw_disk.specs.Standings.{bytes_at}
use Rattle.sw_volume.specs.Volume.{IsSame, Sets}

pub differs : (a b : List ℕ) → ¬ (b ≡ a) → bytes_eq a b ≡ false
differs a b ne = ⊎_elim (λ y. absurd (ne (sym ((bytes_eq-Decides a b).0 y)))) (λ n. n) (cases_Bool (bytes_eq a b))

equals : (a b : List ℕ) → a ≡ b → bytes_eq a b ≡ true
equals a b e = (bytes_eq-Decides a b).1 e

and_off : (x y : Bool) → x ≡ false → (x && y) ≡ false
and_off true y e = cc
and_off false y e = refl

pub and_on : (x y : Bool) → (x && y) ≡ true → (x ≡ true) × (y ≡ true)
and_on true y e = (refl, e)
and_on false y e = cc

pub and_both : (x y : Bool) → x ≡ true → y ≡ true → (x && y) ≡ true
and_both true y e f = f
and_both false y e f = cc

pub is_path-self : (dir file : List ℕ) → is_path dir file dir file ≡ true
is_path-self dir file = and_both (bytes_eq dir dir) (bytes_eq file file) (equals dir dir refl) (equals file file refl)

other_folder : (dir file d f : List ℕ) → ¬ (d ≡ dir) → is_path dir file d f ≡ false
other_folder dir file d f ne = and_off (bytes_eq dir d) (bytes_eq file f) (differs dir d ne)

-- a change of a path in the folder for writing
module _ (s t : DiskState) (folders : t.folders ≡ s.folders) (files : (d f : List ℕ) → ¬ (d ≡ writing) → t.files d f ≡ s.files d f)
    (earlier : (d f : List ℕ) → ¬ (d ≡ writing) → t.earlier d f ≡ s.earlier d f) where
  on_disk-same : (dir : List ℕ) → IsOnDisk s dir → IsOnDisk t dir
  on_disk-same dir h = λ n ne. ap (λ (fs : List ℕ → Option Bool). fs (steps_above n dir)) folders ∙ h n ne

  filled-written : IsInOrder s → (d : List ℕ) → IsFilled t d → IsOnDisk s d
  filled-written o d (inl file) = ⊎_elim
      (λ same. subst (λ (x : List ℕ). IsOnDisk s x) ((bytes_eq-Decides writing d).0 same) o.writing)
      (λ other. o.ordered.filled d (inl (file.0, subst (λ (x : Option DiskFile). IsSome x) (files d file.0 (λ e. cc (equals writing d (sym e)))) file.1)))
      (cases_Bool (bytes_eq writing d))
  filled-written o d (inr below) = o.ordered.filled d
      (inr (below.0, below.1, below.2, subst (λ (fs : List ℕ → Option Bool). IsSome (fs below.0)) folders below.3))

  stood-written : IsInOrder s → (d : List ℕ) → HasStood t d → IsOnDisk s d
  stood-written o d has = ⊎_elim
      (λ same. subst (λ (x : List ℕ). IsOnDisk s x) ((bytes_eq-Decides writing d).0 same) o.writing)
      (λ other. o.ordered.stood d (has.0, subst HasSome (earlier d has.0 (λ e. cc (equals writing d (sym e)))) has.1))
      (cases_Bool (bytes_eq writing d))

  kept-written : (b : Bool) (d f : List ℕ) → (b ≡ false → ¬ (d ≡ writing)) →
      cond b None (option_map (λ (x : DiskFile). x.bytes) (t.files d f)) ≡ cond b None (option_map (λ (x : DiskFile). x.bytes) (s.files d f))
  kept-written true d f h = refl
  kept-written false d f h = ap (λ (o : Option DiskFile). option_map (λ (x : DiskFile). x.bytes) o) (files d f (h refl))

  left-written : (d f : List ℕ) (w : Option (List ℕ)) → ¬ (d ≡ writing) → MayLeave t d f w → MayLeave s d f w
  left-written d f w ne (inl left) = inl (subst (λ (es : List (Option DiskFile)). IsLeftOfOne es w)
      (ap (λ (o : Option DiskFile). o ∷ t.earlier d f) (files d f ne) ∙ ap (λ (es : List (Option DiskFile)). s.files d f ∷ es) (earlier d f ne)) left)
  left-written d f w ne (inr lost) = inr (lost.0, λ h. lost.1 (on_disk-same d h))

  pub rests-written : Rests IsInOrder s t
  rests-written = record {
    order = λ o. record {
      ordered = record {
        filled = λ d filled. on_disk-same d (filled-written o d filled);
        stood = λ d has. on_disk-same d (stood-written o d has);
      };
      writing = on_disk-same writing o.writing;
    };
    now = λ d f. kept-written (bytes_eq writing d) d f (λ off e. cc (off, equals writing d (sym e)));
    left = left-written;
  }

pub rests-with_file : (s : DiskState) (name : List ℕ) (w : Option DiskFile) → Rests IsInOrder s (with_file s writing name w)
rests-with_file s name w = rests-written s (with_file s writing name w) refl
    (λ d f ne. cond-false (is_path writing name d f) w (s.files d f) (other_folder writing name d f ne))
    (λ d f ne. cond-false (is_path writing name d f) (s.files d f ∷ s.earlier d f) (s.earlier d f) (other_folder writing name d f ne))

pub rests-file_synced : (s : DiskState) (name : List ℕ) → Rests IsInOrder s (file_synced s writing name)
rests-file_synced s name = rests-written s (file_synced s writing name) refl
    (λ d f ne. cond-false (is_path writing name d f) (option_map synced_file (s.files d f)) (s.files d f) (other_folder writing name d f ne))
    (λ d f ne. refl)

pub rests-create : (s t : DiskState) (name : List ℕ) → MayCreate s writing name t → Rests IsInOrder s t
rests-create s t name (inl e) = subst (λ (x : DiskState). Rests IsInOrder s x) (sym e) (rests-none IsInOrder s)
rests-create s t name (inr h) = subst (λ (x : DiskState). Rests IsInOrder s x) (sym h.1)
    (rests-with_file s name (Some (record { bytes = h.0; synced = false })))

-- a file that was made and synced stands there whole
pub whole-written : (s t u : DiskState) (name bytes : List ℕ) → t ≡ created s writing name bytes → u ≡ file_synced t writing name
    → u.files writing name ≡ Some (record { bytes = bytes; synced = true })
whole-written s t u name bytes is_made is_synced =
    let there : t.files writing name ≡ Some (record { bytes = bytes; synced = false }) =
    ap (λ (x : DiskState). x.files writing name) is_made ∙ cond-true (is_path writing name writing name) (Some (record { bytes = bytes; synced = false }))
    (s.files writing name) (is_path-self writing name) in
    ap (λ (x : DiskState). x.files writing name) is_synced
    ∙ cond-true (is_path writing name writing name) (option_map synced_file (t.files writing name)) (t.files writing name) (is_path-self writing name)
    ∙ ap (λ (o : Option DiskFile). option_map synced_file o) there

-- what stood at a path before it was set
pub stood-set : (s : DiskState) (b : Bool) (d f : List ℕ) → IsOrdered s → HasSome (cond b (s.files d f ∷ s.earlier d f) (s.earlier d f)) → IsOnDisk s d
stood-set s true d f ordered (inl stands) = ordered.filled d (inl (f, stands))
stood-set s true d f ordered (inr has) = ordered.stood d (f, has)
stood-set s false d f ordered has = ordered.stood d (f, has)

-- one path was set to what a crash leaves as w alone
module _ (s : DiskState) (dir file : List ℕ) (e : Option DiskFile) (w : Option (List ℕ)) (place : ¬ (dir ≡ writing))
    (left : (x : Option (List ℕ)) → IsLeft e x → x ≡ w) (bytes : option_map (λ (f : DiskFile). f.bytes) e ≡ w) (filled : IsSome e → IsOnDisk s dir) where
  filled-set : (b : Bool) (d f : List ℕ) → (b ≡ true → d ≡ dir) → IsOrdered s → IsSome (cond b e (s.files d f)) → IsOnDisk s d
  filled-set true d f here ordered there = subst (λ (x : List ℕ). IsOnDisk s x) (sym (here refl)) (filled there)
  filled-set false d f here ordered there = ordered.filled d (inl (f, there))

  filled-after : IsOrdered s → (d : List ℕ) → IsFilled (with_file s dir file e) d → IsOnDisk s d
  filled-after ordered d (inl there) = filled-set (is_path dir file d there.0) d there.0
      (λ on. sym ((bytes_eq-Decides dir d).0 (and_on (bytes_eq dir d) (bytes_eq file there.0) on).0)) ordered there.1
  filled-after ordered d (inr below) = ordered.filled d (inr below)

  pub ordered-set : IsOrdered s → IsOrdered (with_file s dir file e)
  ordered-set ordered = record {
    filled = filled-after ordered;
    stood = λ d has. stood-set s (is_path dir file d has.0) d has.0 ordered has.1;
  }

  set-there : (b c : Bool) (old : Option DiskFile) → b ≡ false → c ≡ true → cond b None (option_map (λ (f : DiskFile). f.bytes) (cond c e old)) ≡ w
  set-there true c old off on = cc
  set-there false true old off on = bytes
  set-there false false old off on = cc

  set-elsewhere : (b c : Bool) (old : Option DiskFile) → c ≡ false →
      cond b None (option_map (λ (f : DiskFile). f.bytes) (cond c e old)) ≡ cond b None (option_map (λ (f : DiskFile). f.bytes) old)
  set-elsewhere b true old off = cc
  set-elsewhere b false old off = refl

  apart : (d f : List ℕ) → ¬ ((d ≡ dir) × (f ≡ file)) → is_path dir file d f ≡ false
  apart d f ne = ⊎_elim
      (λ on. let both = and_on (bytes_eq dir d) (bytes_eq file f) on in absurd
      (ne (sym ((bytes_eq-Decides dir d).0 both.0), sym ((bytes_eq-Decides file f).0 both.1))))
      (λ off. off)
      (cases_Bool (is_path dir file d f))

  pub sets-set : Sets (kept s) (kept (with_file s dir file e)) dir file w
  sets-set = record {
    there = set-there (bytes_eq writing dir) (is_path dir file dir file) (s.files dir file) (differs writing dir place) (is_path-self dir file);
    elsewhere = λ d f ne. set-elsewhere (bytes_eq writing d) (is_path dir file d f) (s.files d f) (apart d f ne);
  }

  left-set : (b : Bool) (d f : List ℕ) (x : Option (List ℕ)) → (b ≡ true → (d ≡ dir) × (f ≡ file)) →
      IsLeftOfOne (cond b e (s.files d f) ∷ cond b (s.files d f ∷ s.earlier d f) (s.earlier d f)) x → IsLeftOfOne (s.files d f ∷ s.earlier d f) x ⊎
      ((d ≡ dir) × (f ≡ file) × (x ≡ w))
  left-set true d f x here (inl now) = inr ((here refl).0, (here refl).1, left x now)
  left-set true d f x here (inr was) = inl was
  left-set false d f x here was = inl was

  may_leave-set : (d f : List ℕ) (x : Option (List ℕ)) → MayLeave (with_file s dir file e) d f x → MayLeave s d f x ⊎ ((d ≡ dir) × (f ≡ file) × (x ≡ w))
  may_leave-set d f x (inl one) = ⊎_elim (λ was. inl (inl was)) (λ new. inr new)
      (left-set (is_path dir file d f) d f x
      (λ on. let both = and_on (bytes_eq dir d) (bytes_eq file f) on in
      (sym ((bytes_eq-Decides dir d).0 both.0), sym ((bytes_eq-Decides file f).0 both.1))) one)
  may_leave-set d f x (inr lost) = inl (inr lost)

  pub turns-set : Turns dir file w s (with_file s dir file e)
  turns-set = record {
    order = λ o. record { ordered = ordered-set o.ordered; writing = o.writing };
    now = inr sets-set;
    left = λ d f x ne. may_leave-set d f x;
  }

-- once its folder is synced, a crash leaves w there
pub durable-synced : (s : DiskState) (dir file : List ℕ) (w : Option (List ℕ)) → ((x : Option (List ℕ)) → IsLeft (s.files dir file) x → x ≡ w)
    → (¬ (IsOnDisk s dir) → None ≡ w) → ((dir' : List ℕ) → IsOnDisk s dir' → IsOnDisk (folder_synced s dir) dir') → IsDurable (folder_synced s dir) dir file w
durable-synced s dir file w left lost more x (inl one) = one_left (bytes_eq dir dir) (equals dir dir refl) one
  where
    one_left : (b : Bool) → b ≡ true → IsLeftOfOne (s.files dir file ∷ cond b [] (s.earlier dir file)) x → x ≡ w
    one_left true on (inl now) = left x now
    one_left true on (inr was) = absurd was
    one_left false on h = cc
durable-synced s dir file w left lost more x (inr gone) = gone.0 ∙ lost (λ h. gone.1 (more dir h))

module _ (dir file : List ℕ) (w : Option (List ℕ)) where
  pub turns-rested : (a b : DiskState) → Rests IsInOrder a b → Turns dir file w a b
  turns-rested a b p = record { order = p.order; now = inl p.now; left = λ d f x ne left. inl (p.left d f x ne left) }

  pub sets-same : (a b c : DiskState) → IsSame (kept a) (kept b) → Sets (kept b) (kept c) dir file w → Sets (kept a) (kept c) dir file w
  sets-same a b c same sets = record { there = sets.there; elsewhere = λ d f ne. sets.elsewhere d f ne ∙ same d f }

  pub same-sets : (a b c : DiskState) → Sets (kept a) (kept b) dir file w → IsSame (kept b) (kept c) → Sets (kept a) (kept c) dir file w
  same-sets a b c sets same = record { there = same dir file ∙ sets.there; elsewhere = λ d f ne. same d f ∙ sets.elsewhere d f ne }

  pub rests-turns : (a b c : DiskState) → Rests IsInOrder a b → Turns dir file w b c → Turns dir file w a c
  rests-turns a b c p q = record {
    order = λ o. q.order (p.order o);
    now = ⊎_elim (λ same. inl (λ d f. same d f ∙ p.now d f)) (λ sets. inr (sets-same a b c p.now sets)) q.now;
    left = λ d f x ne left. ⊎_elim (λ was. inl (p.left d f x ne was)) (λ new. inr new) (q.left d f x ne left);
  }

  pub turns-rests : (a b c : DiskState) → Turns dir file w a b → Rests IsInOrder b c → Turns dir file w a c
  turns-rests a b c p q = record {
    order = λ o. q.order (p.order o);
    now = ⊎_elim (λ same. inl (λ d f. q.now d f ∙ same d f)) (λ sets. inr (same-sets a b c sets q.now)) p.now;
    left = λ d f x ne left. p.left d f x ne (q.left d f x ne left);
  }

  pub turns-may_be : (a done b : DiskState) → Turns dir file w a done → MayBe a done b → Turns dir file w a b
  turns-may_be a done b turns (inl e) = subst (λ (x : DiskState). Turns dir file w a x) (sym e) (turns-rested a a (rests-none IsInOrder a))
  turns-may_be a done b turns (inr e) = subst (λ (x : DiskState). Turns dir file w a x) (sym e) turns

left_none : (x : Option (List ℕ)) → IsLeft None x → x ≡ None
left_none x e = e

no_file : {P : Type 0} → IsSome {T = DiskFile} None → P
no_file h = cc

left_whole : (bytes : List ℕ) (x : Option (List ℕ)) → IsLeft (Some (record { bytes = bytes; synced = true })) x → x ≡ Some bytes
left_whole bytes x e = e

-- a file taken away
pub turns-removed : (s : DiskState) (dir file : List ℕ) → ¬ (dir ≡ writing) → Turns dir file None s (removed s dir file)
turns-removed s dir file place = turns-set s dir file None None place left_none refl no_file

pub sets-removed : (s : DiskState) (dir file : List ℕ) → ¬ (dir ≡ writing) → Sets (kept s) (kept (removed s dir file)) dir file None
sets-removed s dir file place = sets-set s dir file None None place left_none refl no_file

-- a whole file moved to its place, to which the way is made
module _ (s : DiskState) (name dir file bytes : List ℕ) (place : ¬ (dir ≡ writing))
    (whole : s.files writing name ≡ Some (record { bytes = bytes; synced = true })) where
  moved-is : moved s writing name dir file ≡ with_file (removed s writing name) dir file (Some (record { bytes = bytes; synced = true }))
  moved-is = ap (λ (o : Option DiskFile). with_file (removed s writing name) dir file o) whole

  pub sets-moved : IsOnDisk s dir → Sets (kept s) (kept (moved s writing name dir file)) dir file (Some bytes)
  sets-moved way = sets-same dir file (Some bytes) s (removed s writing name) (moved s writing name dir file) (rests-with_file s name None).now
      (subst (λ (x : DiskState). Sets (kept (removed s writing name)) (kept x) dir file (Some bytes)) (sym moved-is)
      (sets-set (removed s writing name) dir file (Some (record { bytes = bytes; synced = true })) (Some bytes) place (left_whole bytes) refl (λ h. way)))

  pub turns-moved : IsOnDisk s dir → Turns dir file (Some bytes) s (moved s writing name dir file)
  turns-moved way = rests-turns dir file (Some bytes) s (removed s writing name) (moved s writing name dir file) (rests-with_file s name None)
      (subst (λ (x : DiskState). Turns dir file (Some bytes) (removed s writing name) x) (sym moved-is)
      (turns-set (removed s writing name) dir file (Some (record { bytes = bytes; synced = true })) (Some bytes) place (left_whole bytes) refl (λ h. way)))

  pub there-moved : (moved s writing name dir file).files dir file ≡ Some (record { bytes = bytes; synced = true })
  there-moved = ap (λ (x : DiskState). x.files dir file) moved-is
      ∙ cond-true (is_path dir file dir file) (Some (record { bytes = bytes; synced = true })) ((removed s writing name).files dir file) (is_path-self dir file)

pub durable-moved : (s t u : DiskState) (name dir file bytes : List ℕ) → ¬ (dir ≡ writing) → s.files writing name ≡ Some
    (record { bytes = bytes; synced = true })
    → IsOnDisk s dir → t ≡ moved s writing name dir file → u ≡ folder_synced t dir → IsDurable u dir file (Some bytes)
durable-moved s t u name dir file bytes place whole way is_moved is_synced =
    let there : t.files dir file ≡ Some (record { bytes = bytes; synced = true }) = ap (λ (x : DiskState). x.files dir file) is_moved
    ∙ there-moved s name dir file bytes place whole in
    let way' : IsOnDisk t dir = subst (λ (x : DiskState). IsOnDisk x dir) (sym is_moved) way in
    subst (λ (x : DiskState). IsDurable x dir file (Some bytes)) (sym is_synced)
    (durable-synced t dir file (Some bytes) (λ x left. left_whole bytes x (subst (λ (o : Option DiskFile). IsLeft o x) there left)) (λ lost. absurd (lost way'))
    (on_disk t (folder_synced t dir) (stay-folder_synced t dir)))

pub durable-removed : (s t u : DiskState) (dir file : List ℕ) → t ≡ removed s dir file → u ≡ folder_synced t dir → IsDurable u dir file None
durable-removed s t u dir file is_removed is_synced =
    let there : t.files dir file ≡ None = ap (λ (x : DiskState). x.files dir file) is_removed ∙ cond-true (is_path dir file dir file) None
    (s.files dir file) (is_path-self dir file) in
    subst (λ (x : DiskState). IsDurable x dir file None) (sym is_synced)
    (durable-synced t dir file None (λ x left. subst (λ (o : Option DiskFile). IsLeft o x) there left) (λ lost. refl)
    (on_disk t (folder_synced t dir) (stay-folder_synced t dir)))

-- what is left of one of these is none, or there is a file among them
pub none_or_some : (es : List (Option DiskFile)) (x : Option (List ℕ)) → IsLeftOfOne es x → (x ≡ None) ⊎ HasSome es
none_or_some [] x one = absurd one
none_or_some (None ∷ es) x (inl now) = inl now
none_or_some (None ∷ es) x (inr was) = ⊎_elim (λ e. inl e) (λ has. inr (inr has)) (none_or_some es x was)
none_or_some (Some f ∷ es) x one = inr (inl refl)

-- no file stands where no bytes are, nor in a folder that isn't there
stands_nowhere : {P : Type 0} (o : Option DiskFile) → option_map (λ (f : DiskFile). f.bytes) o ≡ None → IsSome o → P
stands_nowhere None e h = cc
stands_nowhere (Some f) e h = cc

module _ (s : DiskState) (dir file : List ℕ) (ordered : IsOrdered s) (below : ¬ (dir ≡ [])) (missing : s.folders dir ≡ None)
    (none : bytes_at s dir file ≡ None) where
  nothing_stood : {P : Type 0} → HasSome (s.files dir file ∷ s.earlier dir file) → P
  nothing_stood (inl stands) = stands_nowhere (s.files dir file) none stands
  nothing_stood (inr has) = let there : s.folders dir ≡ Some true = ordered.stood dir (file, has) 0 below in cc

  pub durable-missing : IsDurable s dir file None
  durable-missing x (inl one) = ⊎_elim (λ e. e) (λ has. nothing_stood has) (none_or_some (s.files dir file ∷ s.earlier dir file) x one)
  durable-missing x (inr gone) = gone.0

-- where no file stands, and the folder is synced
pub durable-none : (s t : DiskState) (dir file : List ℕ) → bytes_at s dir file ≡ None → t ≡ folder_synced s dir → IsDurable t dir file None
durable-none s t dir file none is_synced = subst (λ (x : DiskState). IsDurable x dir file None) (sym is_synced)
    (durable-synced s dir file None (no_left (s.files dir file) none) (λ lost. refl) (on_disk s (folder_synced s dir) (stay-folder_synced s dir)))
  where
    no_left : (o : Option DiskFile) → option_map (λ (f : DiskFile). f.bytes) o ≡ None → (x : Option (List ℕ)) → IsLeft o x → x ≡ None
    no_left None e x left = left
    no_left (Some f) e x left = cc

-- no file is kept where none stands
module _ (s : DiskState) (dir file : List ℕ) (none : bytes_at s dir file ≡ None) where
  nothing : (b : Bool) (o : Option DiskFile) → option_map (λ (f : DiskFile). f.bytes) o ≡ None → cond b None (option_map (λ (f : DiskFile). f.bytes) o) ≡ None
  nothing true o e = refl
  nothing false o e = e

  kept-is_none : kept s dir file ≡ None
  kept-is_none = nothing (bytes_eq writing dir) (s.files dir file) none

  pub kept-none : ¬ (IsSome (kept s dir file))
  kept-none h = no_bytes (subst (λ (o : Option (List ℕ)). IsSome o) kept-is_none h)
    where
      no_bytes : ¬ (IsSome {T = List ℕ} None)
      no_bytes h = cc

  pub sets-nothing' : Sets (kept s) (kept s) dir file None
  sets-nothing' = record { there = kept-is_none; elsewhere = λ d f ne. refl }

pub sets-nothing : (s t : DiskState) (dir file : List ℕ) → bytes_at s dir file ≡ None → t ≡ s → Sets (kept s) (kept t) dir file None
sets-nothing s t dir file none same = subst (λ (x : DiskState). Sets (kept s) (kept x) dir file None) (sym same) (sets-nothing' s dir file none)
