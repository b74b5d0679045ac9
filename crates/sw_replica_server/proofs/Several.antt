-- The files of several suffixes, one after the other.
use Rattle.std.proofs.Common.{◌≡◌, ℕ, ◌+◌, ◌<◌, length, get_or, take, drop, List, [], ◌∷◌, ◌++◌, append-nil, append_assoc, refl, sym, ◌∙◌, ap, subst, Result}
use Rattle.std.proofs.Common.{Ok, Err, OnErr}
use Rattle.std.proofs.lemmas.List.{take-append-drop, take_more}
use Rattle.std.specs.declared.alloc.Global.{Global}
use Rattle.std.specs.declared.vec.Vec.{Vec}
use Rattle.sw_object_server.specs.Serving.{IsStepped}
use Rattle.sw_peer.proofs.Calls.{PartFrame, calls-moves, files-step}
use Rattle.sw_peer.specs.Sights.{IsFilesRead, Sight, in_suffix}
use Rattle.sw_object_steps.specs.declared.dir_fault.DirFault.{DirFault}
use Rattle.sw_peer.specs.declared.link.Link.TheVariants.{Local}
use Rattle.sw_suffix.specs.declared.dir_line.DirLine.{DirLine}
use Rattle.sw_replica_server.specs.Serving.{AreFilesRead, AreSomeRead, IsStopped}

module _ (device part : ℕ) where
  -- a read of the files of a suffix at the device itself
  abbrev pub Reads : ℕ → Sight → Result (Vec DirLine Global) DirFault → Sight → Type 0
  Reads suffix = IsStepped (IsFilesRead Local device part suffix)

  read-nodes : (suffix : ℕ) (s : Sight) (got : Result (Vec DirLine Global) DirFault) (t : Sight) → Reads suffix s got t → t.nodes ≡ s.nodes
  read-nodes suffix s got t p =
      (calls-moves (PartFrame device part (in_suffix part suffix)) (IsFilesRead Local device part suffix) (files-step Local device part suffix)
      s Local (Ok got) t p.called).nodes

  -- so what never changes is what it was before
  pub nodes-on : (suffix : ℕ) (old s : Sight) (got : Result (Vec DirLine Global) DirFault) (t : Sight) → s.nodes ≡ old.nodes → Reads suffix s got t
      → t.nodes ≡ old.nodes
  nodes-on suffix old s got t before p = read-nodes suffix s got t p ∙ before

  -- one suffix more
  pub read-more : (suffixes : List ℕ) (suffix : ℕ) (s : Sight) (found : List DirLine) (mid : Sight) (lines : Vec DirLine Global) (t : Sight)
      → AreFilesRead device part suffixes s found mid → Reads suffix mid (Ok lines) t →
      AreFilesRead device part (suffixes ++ suffix ∷ []) s (found ++ lines.items) t
  read-more [] suffix s found mid lines t p step = (
    lines,
    [],
    t,
    subst (λ (x : Sight). Reads suffix x (Ok lines) t) p.0 step,
    (refl, refl),
    ap (λ (l : List DirLine). l ++ lines.items) p.1 ∙ sym (append-nil lines.items),
  )
  read-more (x ∷ suffixes) suffix s found mid lines t p step = (
    p.0,
    p.1 ++ lines.items,
    p.2,
    p.3,
    read-more suffixes suffix p.2 p.1 mid lines t p.4 step,
    ap (λ (l : List DirLine). l ++ lines.items) p.5 ∙ append_assoc (p.0).items p.1 lines.items,
  )

-- ---- the suffixes before an index, the one at it, and those behind

front-more : (xs : List ℕ) (i : ℕ) → i < length xs → take (i + 1) xs ≡ take i xs ++ get_or xs i 0 ∷ []
front-more xs i within = take_more xs i 0 within

pub split-at : (xs : List ℕ) (i : ℕ) → i < length xs → xs ≡ take i xs ++ get_or xs i 0 ∷ drop (i + 1) xs
split-at xs i within =
    sym (take-append-drop (i + 1) xs) ∙ (ap (λ (l : List ℕ). l ++ drop (i + 1) xs) (front-more xs i within)
    ∙ append_assoc (take i xs) (get_or xs i 0 ∷ []) (drop (i + 1) xs))

module _ (device part : ℕ) (suffixes : List ℕ) (i : ℕ) (within : i < length suffixes) (s : Sight) (found : List DirLine) (mid : Sight)
    (before : AreFilesRead device part (take i suffixes) s found mid) (t : Sight) where
  -- the one at it was read too
  pub read-next : (lines : Vec DirLine Global) → Reads device part (get_or suffixes i 0) mid (Ok lines) t
      → AreFilesRead device part (take (i + 1) suffixes) s (found ++ lines.items) t
  read-next lines step =
      subst (λ (front : List ℕ). AreFilesRead device part front s (found ++ lines.items) t) (sym (front-more suffixes i within))
      (read-more device part (take i suffixes) (get_or suffixes i 0) s found mid lines t before step)

  -- it found no memory
  pub some-read : (lines : Vec DirLine Global) → Reads device part (get_or suffixes i 0) mid (Ok lines) t → AreSomeRead device part suffixes s t
  some-read lines step = record {
    front = take (i + 1) suffixes;
    behind = drop (i + 1) suffixes;
    all = sym (take-append-drop (i + 1) suffixes);
    found = found ++ lines.items;
    read = read-next lines step;
  }

  -- it couldn't be read
  pub stopped : (fault : DirFault) → Reads device part (get_or suffixes i 0) mid (Err fault) t → IsStopped device part suffixes s fault t
  stopped fault step = record {
    front = take i suffixes;
    suffix = get_or suffixes i 0;
    behind = drop (i + 1) suffixes;
    all = split-at suffixes i within;
    found = found;
    mid = mid;
    before = before;
    stops = step;
  }

-- all were read, so some were
pub all-read : (device part : ℕ) (suffixes : List ℕ) (s : Sight) (found : List DirLine) (t : Sight) → AreFilesRead device part suffixes s found t
    → AreSomeRead device part suffixes s t
all-read device part suffixes s found t p = record { front = suffixes; behind = []; all = sym (append-nil suffixes); found = found; read = p }

-- what holds anyway holds of an error
pub told : {T E P : Type 0} (r : Result T E) → P → OnErr r P
told (Ok x) p = tt
told (Err e) p = p
