-- Calls of a door, one after another, with messages that come several times or never.
use Rattle.std.proofs.Common.{◌≡◌, ℕ, suc, ◌+◌, ◌≤◌, Bool, true, false, List, [], ◌∷◌, ◌++◌, length, refl, sym, ◌∙◌, ap, subst, arith, append_assoc, bytes_eq}
use Rattle.std.proofs.Common.{length-append, inl, inr, Result, Ok, Err}
use Rattle.sw_object_steps.proofs.Hashes.{hash-same, hash-self}
use Rattle.sw_diskfile.specs.declared.file_name.FileName.{FileName}
use Rattle.sw_hashpath.specs.declared.name.Name.{Name}
use Rattle.sw_outside.specs.Faults.{HasRisen}
use Rattle.sw_peer.specs.Carriage.{Carriage, Carries, Delivery, faithful}
use Rattle.sw_history.proofs.Growing.{grows-refl, half-refl, half-trans, half-wider}
use Rattle.sw_object_steps.specs.Journals.{Hash}
use Rattle.sw_object_steps.specs.Parts.{AreHashes, AreLines, IsFile}
use Rattle.sw_object_steps.specs.Rules.{ObjHistory, obj_rules}
use Rattle.sw_peer.specs.Sights.{Calls, Comes, IsAt, IsBaseRead, IsFilesRead, IsHashesRead, IsInPart, IsInStripe, IsMade, IsPartRead, IsRead, IsRecordsRead}
use Rattle.sw_peer.specs.Sights.{IsSame, IsWriteRead, Moves, Nodes}
use Rattle.sw_peer.specs.Sights.{MayStand, PartMoves, Sight, Trails, in_part, in_suffix, is_one, is_wanting, is_wanting_part, is_wanting_read}
use Rattle.sw_step.specs.Rules.{CanStand, Damages, Fails, Wants}
use Rattle.sw_step.specs.Steps.{added_by}
use Rattle.sw_object_steps.specs.declared.answer.Answer.TheVariants as answers
use Rattle.sw_object_steps.specs.declared.change.Change.{Change}
use Rattle.sw_peer.specs.declared.line.Event.TheVariants.{Changed, Read, ReadPart}
use Rattle.sw_peer.specs.declared.line.Line.{Line}
use Rattle.sw_peer.specs.declared.link.Link.{Link}
use Rattle.sw_peer.specs.declared.link.Link.TheVariants.{Local, Sent}
use Rattle.sw_peer.specs.declared.link.Lost.{Lost}
use Rattle.sw_object_steps.specs.declared.dir_fault.DirFault.{DirFault}
use Rattle.sw_peer.specs.declared.part_read.PartRead.{PartRead}
use Rattle.sw_peer.specs.declared.part_read.PartRead.TheVariants.{Base, Files, Hashes, Records, Write}
use Rattle.sw_object_steps.specs.BaseRows.{IsBaseFor}
use Rattle.sw_hashpath.specs.HashParts.{partition_of}
use Rattle.sw_pending.specs.declared.filed.Filed.{Filed}
use Rattle.sw_state.specs.declared.state.State.{State}

pub moves-trans : (at : ℕ → Hash → Type 0) (a b c : Sight) → Moves at a b → Moves at b c → Moves at a c
moves-trans at a b c p q = record {
  nodes = q.nodes ∙ p.nodes;
  objects = half-trans a.nodes.lock b.nodes.lock b.alone c.alone at a.objects b.objects c.objects (λ d hash. ap (λ n. n.lock d hash) p.nodes) q.alone p.objects
      q.objects;
  containers = q.containers ∙ p.containers;
  alone = λ x. p.alone (q.alone x);
  faults = omega (arith, p.faults, q.faults);
}

pub moves-refl : (at : ℕ → Hash → Type 0) (s : Sight) → Moves at s s
moves-refl at s = record { nodes = refl; objects = half-refl s.nodes.lock s.alone at s.objects; containers = refl; alone = λ x. x; faults = omega arith }

pub same-refl : (s : Sight) → IsSame s s
same-refl s = record { same = refl; faults = omega arith }

-- a step that wanted memory at once is one that came and changed nothing, where what its device holds is what it may stand for
pub wanting : (link : Link) (device : ℕ) (name : Name) (change : Change) (s : Sight) → MayStand device name.hash s
    → IsMade link device name change s answers.NoMemory s
wanting link device name change s may = record {
  moves = moves-refl (IsAt device name.hash) s;
  step = record {
    own = itself name.hash;
    before = h;
    looked = false;
    read = s.objects.holds device name.hash;
    made = [];
    follows = grows-refl h;
    settles = λ alone. (0, refl);
    settled = λ is. absurd (never is);
    answered = record { not_made = refl; same = refl };
    orderly = λ is. absurd (damages is);
    after = grows-refl h;
    failed = λ is. absurd (fails is);
    known = λ told is. absurd (never is);
    kept = λ alone told other is. subst (λ (k : Hash). CanStand obj_rules h k (s.objects.holds device k)) (sym (same other is)) (may alone told);
    held = λ alone told is. absurd (never is);
    leaves = λ alone told. refl;
  };
  trail = inr (refl, same-refl s);
}
  where
    h : ObjHistory
    h = s.objects.seen (s.nodes.lock device name.hash)

    itself : (hash : Hash) → bytes_eq hash hash ≡ true
    itself hash = hash-self hash

    same : (other : Hash) → bytes_eq other name.hash ≡ true → other ≡ name.hash
    same other is = hash-same other name.hash is

    never : false ≡ true → ⊥
    never is = cc

    damages : Wants ≡ Damages → ⊥
    damages is = cc

    fails : Wants ≡ Fails → ⊥
    fails is = cc

-- the same, with other messages to come
pub wanting-on : (link : Link) (device : ℕ) (name : Name) (change : Change) (s : Sight) (carriage : Carriage) → MayStand device name.hash s
    → IsMade link device name change s answers.NoMemory (record s { carriage = carriage })
wanting-on link device name change s carriage may =
    let plain = wanting link device name change s may in
    record {
      moves = record {
        nodes = refl;
        objects = half-refl s.nodes.lock s.alone (IsAt device name.hash) s.objects;
        containers = refl;
        alone = λ x. x;
        faults = omega arith;
      };
      step = plain.step;
      trail = inr (refl, record { same = refl; faults = omega arith });
    }

-- steps at fewer places are steps at more
pub moves-wider : (at more : ℕ → Hash → Type 0) (a b : Sight) → ((d : ℕ) (hash : Hash) → at d hash → more d hash) → Moves at a b → Moves more a b
moves-wider at more a b wider p = record {
  nodes = p.nodes;
  objects = half-wider a.nodes.lock b.alone at more a.objects b.objects wider p.objects;
  containers = p.containers;
  alone = p.alone;
  faults = p.faults;
}

-- ---- counts of the door

abbrev pub counted : Sight → ℕ → ℕ → Carriage → Sight
counted s faults asks carriage = record s { faults = faults; asks = asks; carriage = carriage }

-- a door around another, with its own count of faults beside the other's, its own count of asking messages, and its own messages to come
abbrev pub around : Sight → ℕ → ℕ → Carriage → Sight
around s faults asks carriage = record s { faults = s.faults + faults; asks = asks; carriage = carriage }

-- what a frame of steps has: it joins, and knows no counts of the door but that faults don't fall
pub record IsFrame (frame : Sight → Sight → Type 0) : Type 0 where
  pub same : (s t : Sight) → IsSame s t → frame s t
  pub join : (a b c : Sight) → frame a b → frame b c → frame a c
  pub recounts : (s t : Sight) (f f' k k' : ℕ) (c c' : Carriage) → f ≤ f' → frame s t → frame (counted s f k c) (counted t f' k' c')
  pub faults : (s t : Sight) → frame s t → s.faults ≤ t.faults

-- what every step has: it keeps its frame, and knows no counts of the door but that faults don't fall
pub record IsStep {A : Type 0} (frame : Sight → Sight → Type 0) (step : Sight → A → Sight → Type 0) : Type 0 where
  pub frames : IsFrame frame
  pub moves : (s t : Sight) (x : A) → step s x t → frame s t
  pub recounts : (s t : Sight) (x : A) (f f' k k' : ℕ) (c c' : Carriage) → f ≤ f' → step s x t → step (counted s f k c) x (counted t f' k' c')

pub moves-counted : (at : ℕ → Hash → Type 0) (s t : Sight) (f f' k k' : ℕ) (c c' : Carriage) → f ≤ f' → Moves at s t
    → Moves at (counted s f k c) (counted t f' k' c')
moves-counted at s t f f' k k' c c' later p = record { nodes = p.nodes; objects = p.objects; containers = p.containers; alone = p.alone; faults = later }

pub frame-of : (at : ℕ → Hash → Type 0) → IsFrame (Moves at)
frame-of at = record {
  same = λ s t p. subst (λ (x : Sight). Moves at s x) (sym p.same) (moves-counted at s s s.faults t.faults s.asks t.asks s.carriage t.carriage p.faults
      (moves-refl at s));
  join = moves-trans at;
  recounts = moves-counted at;
  faults = λ s t p. p.faults;
}

pub trails-counted : (s t : Sight) (line : Line) (wanting : Bool) (f f' k k' : ℕ) (c c' : Carriage) → f ≤ f' → Trails s line wanting t
    → Trails (counted s f k c) line wanting (counted t f' k' c')
trails-counted s t line wanting f f' k k' c c' later (inl kept) = inl kept
trails-counted s t line wanting f f' k k' c c' later (inr none) =
    inr (none.0, record { same = ap (λ (x : Sight). counted x f' k' c') none.1.same; faults = later })

pub made-step : (link : Link) (device : ℕ) (name : Name) (change : Change) → IsStep (Moves (IsAt device name.hash)) (IsMade link device name change)
made-step link device name change = record {
  frames = frame-of (IsAt device name.hash);
  moves = λ s t x step. step.moves;
  recounts = λ s t x f f' k k' c c' later step. record {
    moves = moves-counted (IsAt device name.hash) s t f f' k k' c c' later step.moves;
    step = step.step;
    trail = trails-counted s t (record { device = device; link = link; event = Changed name change x; added = added_by obj_rules step.step }) (is_wanting x)
        f f' k k' c c' later step.trail;
  };
}

pub read-step : (link : Link) (device : ℕ) (name : Name) → IsStep (Moves (IsAt device name.hash)) (IsRead link device name)
read-step link device name = record {
  frames = frame-of (IsAt device name.hash);
  moves = λ s t x step. step.moves;
  recounts = λ s t x f f' k k' c c' later step. record {
    moves = moves-counted (IsAt device name.hash) s t f f' k k' c c' later step.moves;
    holds_all = step.holds_all;
    step = step.step;
    trail = trails-counted s t (record { device = device; link = link; event = Read name x; added = step.step.follows.entries.0 }) (is_wanting_read x)
        f f' k k' c c' later step.trail;
  };
}

-- what a read of a partition keeps
abbrev pub PartFrame : ℕ → ℕ → (Nodes → Hash → Bool) → Sight → Sight → Type 0
PartFrame device part at s t = PartMoves device part (at s.nodes) s t

pub part-frame : (device part : ℕ) (at : Nodes → Hash → Bool) → IsFrame (PartFrame device part at)
part-frame device part at = record {
  same = λ s t p. (frame-of (IsInPart s.nodes.power device part (at s.nodes))).same s t p;
  join = λ a b c p q. moves-trans (IsInPart a.nodes.power device part (at a.nodes)) a b c p
      (subst (λ (n : Nodes). Moves (IsInPart n.power device part (at n)) b c) p.nodes q);
  recounts = λ s t f f' k k' c c' later p. moves-counted (IsInPart s.nodes.power device part (at s.nodes)) s t f f' k k' c c' later p;
  faults = λ s t p. p.faults;
}

pub part-step : {A : Type 0} (link : Link) (device part : ℕ) (at : Nodes → Hash → Bool) (damages : Bool)
    (reading : Nodes → Bool → (Hash → State) → A → Type 0) (read : Result A DirFault → PartRead)
    → IsStep (PartFrame device part at) (IsPartRead link device part at damages reading read)
part-step {A} link device part at damages reading read = record {
  frames = part-frame device part at;
  moves = λ s t x step. step.moves;
  recounts = λ s t x f f' k k' c c' later step. record {
    moves = moves-counted (IsInPart s.nodes.power device part (at s.nodes)) s t f f' k k' c c' later step.moves;
    holds_all = step.holds_all;
    step = step.step;
    sound = step.sound;
    trail = trails-counted s t (record { device = device; link = link; event = ReadPart (read x); added = step.step.follows.entries.0 }) (is_wanting_part x)
        f f' k k' c c' later step.trail;
  };
}

pub hashes-step : (link : Link) (device part : ℕ) → IsStep (PartFrame device part (in_part part)) (IsHashesRead link device part)
hashes-step link device part = part-step link device part (in_part part) false (λ nodes told s got. AreHashes nodes.power part told s got.items)
    (λ got. Hashes part got)

pub files-step : (link : Link) (device part suffix : ℕ) → IsStep (PartFrame device part (in_suffix part suffix)) (IsFilesRead link device part suffix)
files-step link device part suffix = part-step link device part (in_suffix part suffix) false
    (λ nodes told s got. AreLines nodes.power part suffix told s got.items) (λ got. Files part suffix got)

pub write-step : (link : Link) (device part : ℕ) (hash : Hash) (file : FileName) →
    IsStep (PartFrame device part (is_one hash)) (IsWriteRead link device part hash file)
write-step link device part hash file = part-step link device part (is_one hash) true (λ nodes told s got. IsFile nodes.fits hash file told s got)
    (λ got. Write part hash file got)

-- the same of the row to tell for a record
abbrev pub BaseFrame : ℕ → Filed → Sight → Sight → Type 0
BaseFrame device filed s t = PartMoves device (partition_of filed.name.hash s.nodes.power) (is_one filed.name.hash s.nodes) s t

pub base-step : (link : Link) (device : ℕ) (filed : Filed) → IsStep (BaseFrame device filed) (IsBaseRead link device filed)
base-step link device filed = record {
  frames = record {
    same = λ s t p. (part-frame device (partition_of filed.name.hash s.nodes.power) (is_one filed.name.hash)).same s t p;
    join = λ a b c p q. moves-trans (IsInPart a.nodes.power device (partition_of filed.name.hash a.nodes.power) (is_one filed.name.hash a.nodes)) a b c p
        (subst (λ (n : Nodes). Moves (IsInPart n.power device (partition_of filed.name.hash n.power) (is_one filed.name.hash n)) b c) p.nodes q);
    recounts = λ s t f f' k k' c c' later p.
        (part-frame device (partition_of filed.name.hash s.nodes.power) (is_one filed.name.hash)).recounts s t f f' k k' c c' later p;
    faults = λ s t p. p.faults;
  };
  moves = λ s t x step. step.moves;
  recounts = λ s t x f f' k k' c c' later step.
      (part-step link device (partition_of filed.name.hash s.nodes.power) (is_one filed.name.hash) true
      (λ nodes told held row. told ≡ true → IsBaseFor filed (held filed.name.hash) row) (λ row. Base filed row)).recounts
      s t x f f' k k' c c' later step;
}

-- what a read of the records of a stripe keeps
abbrev pub StripeFrame : ℕ → ℕ → Sight → Sight → Type 0
StripeFrame device stripe s t = Moves (IsInStripe s.nodes device stripe) s t

pub stripe-frame : (device stripe : ℕ) → IsFrame (StripeFrame device stripe)
stripe-frame device stripe = record {
  same = λ s t p. (frame-of (IsInStripe s.nodes device stripe)).same s t p;
  join = λ a b c p q. moves-trans (IsInStripe a.nodes device stripe) a b c p (subst (λ (n : Nodes). Moves (IsInStripe n device stripe) b c) p.nodes q);
  recounts = λ s t f f' k k' c c' later p. moves-counted (IsInStripe s.nodes device stripe) s t f f' k k' c c' later p;
  faults = λ s t p. p.faults;
}

pub records-step : (link : Link) (device stripe : ℕ) → IsStep (StripeFrame device stripe) (IsRecordsRead link device stripe)
records-step link device stripe = record {
  frames = stripe-frame device stripe;
  moves = λ s t x step. step.moves;
  recounts = λ s t x f f' k k' c c' later step. record {
    moves = moves-counted (IsInStripe s.nodes device stripe) s t f f' k k' c c' later step.moves;
    some = step.some;
    holds_all = step.holds_all;
    held = step.held;
    is_held = step.is_held;
    step = step.step;
    trail = trails-counted s t (record { device = device; link = link; event = ReadPart (Records stripe x); added = step.step.follows.entries.0 })
        (is_wanting_part x) f f' k k' c c' later step.trail;
  };
}

-- a door that delivers each message once delivers this one so, and the next ones
pub faithful-once : (link : Link) → Carries faithful link 1 true faithful
faithful-once Local = refl
faithful-once Sent = (refl, refl)

length-more : {A : Type 0} (xs : List A) (x : A) → length (xs ++ x ∷ []) ≡ suc (length xs)
length-more {A} xs x = omega (arith, length-append xs (x ∷ []))

module _ {A : Type 0} (frame : Sight → Sight → Type 0) (step : Sight → A → Sight → Type 0) (is : IsStep frame step) where
  -- a step that comes once
  pub once : (s t : Sight) (x : A) → step s x t → Comes step s (x ∷ []) t
  once s t x made = (t, made, same-refl t)

  pub calls-once : (s t : Sight) (link : Link) (x : A) → Carries s.carriage link 1 true t.carriage → step s x t → Calls step s link (Ok x) t
  calls-once s t link x carries made = ([], (λ local. refl), once s t x made, carries)

  -- one that comes twice, and both times is answered alike
  pub calls-again : (s mid t : Sight) (x : A) → Carries s.carriage Sent 2 true t.carriage → step s x mid → step mid x t → Calls step s Sent (Ok x) t
  calls-again s mid t x carries first made = (x ∷ [], (λ local. absurd (no local)), (mid, first, once mid t x made), carries)
    where
      no : Sent ≡ Local → ⊥
      no same = cc

  pub comes-moves : (s : Sight) (xs : List A) (t : Sight) → Comes step s xs t → frame s t
  comes-moves s [] t p = is.frames.same s t p
  comes-moves s (x ∷ xs) t p = is.frames.join s p.0 t (is.moves s p.0 x p.1) (comes-moves p.0 xs t p.2)

  pub calls-moves : (s : Sight) (link : Link) (r : Result A Lost) (t : Sight) → Calls step s link r t → frame s t
  calls-moves s link (Ok x) t p = comes-moves s (p.0 ++ x ∷ []) t p.2
  calls-moves s link (Err lost) t p = comes-moves s p.2.0 t p.2.1

  -- what came after a change of the counts could as well have come before it
  from_same : (s : Sight) (f k : ℕ) (c : Carriage) (xs : List A) (t : Sight) → s.faults ≤ f → Comes step (counted s f k c) xs t → Comes step s xs t
  from_same s f k c [] t later p = record { same = p.same; faults = omega (arith, later, p.faults) }
  from_same s f k c (x ∷ xs) t later p =
      let mid : Sight = p.0 in
      let up : f ≤ mid.faults = is.frames.faults (counted s f k c) mid (is.moves (counted s f k c) mid x p.1) in
      (mid, is.recounts (counted s f k c) mid x s.faults mid.faults s.asks mid.asks s.carriage mid.carriage (omega (arith, later, up)) p.1, p.2)

  pub comes-append : (s : Sight) (xs : List A) (t : Sight) (ys : List A) (u : Sight) → Comes step s xs t → Comes step t ys u → Comes step s (xs ++ ys) u
  comes-append s [] t ys u p q = from_same s t.faults t.asks t.carriage ys u p.faults (subst (λ (x : Sight). Comes step x ys u) p.same q)
  comes-append s (x ∷ xs) t ys u p q = (p.0, p.1, comes-append p.0 xs t ys u p.2 q)

  -- the same through a door around
  pub comes-around : (s : Sight) (xs : List A) (t : Sight) (f f' k k' : ℕ) (c c' : Carriage) → f ≤ f' → Comes step s xs t
      → Comes step (around s f k c) xs (around t f' k' c')
  comes-around s [] t f f' k k' c c' later p =
      let up : s.faults ≤ t.faults = p.faults in
      record { same = ap (λ (x : Sight). around x f' k' c') p.same; faults = omega (arith, up, later) }
  comes-around s (x ∷ xs) t f f' k k' c c' later p =
      let up : s.faults ≤ (p.0).faults = is.frames.faults s p.0 (is.moves s p.0 x p.1) in (
        around p.0 f k' c',
        is.recounts s p.0 x (s.faults + f) ((p.0).faults + f) k k' c c' (omega (arith, up)) p.1,
        comes-around p.0 xs t f f' k' k' c' c' later p.2,
      )

  risen-around : (a b f f' : ℕ) → f ≤ f' → HasRisen a b → HasRisen (a + f) (b + f')
  risen-around a b f f' later (inl up) = inl (omega (arith, up, later))
  risen-around a b f f' later (inr end) = inr (omega (arith, end))

  -- what came of a call: what was heard, or came unheard
  abbrev pub came : (s : Sight) (link : Link) (r : Result A Lost) (t : Sight) → Calls step s link r t → List A
  came s link (Ok x) t p = p.0 ++ x ∷ []
  came s link (Err lost) t p = p.2.0

  pub comes : (s : Sight) (link : Link) (r : Result A Lost) (t : Sight) (p : Calls step s link r t) → Comes step s (came s link r t p) t
  comes s link (Ok x) t p = p.2
  comes s link (Err lost) t p = p.2.1

  -- how many copies came of it, and whether the last one was heard
  abbrev pub delivery_in : (s : Sight) (link : Link) (r : Result A Lost) (t : Sight) → Calls step s link r t → Delivery
  delivery_in s link (Ok x) t p = record { copies = suc (length p.0); is_heard = true }
  delivery_in s link (Err lost) t p = record { copies = length p.2.0; is_heard = false }

  pub copies-are : (s : Sight) (link : Link) (r : Result A Lost) (t : Sight) (p : Calls step s link r t) →
      length (came s link r t p) ≡ (delivery_in s link r t p).copies
  copies-are s link (Ok x) t p = length-more p.0 x
  copies-are s link (Err lost) t p = refl

  -- that is what the door knew of the message
  pub carried : (s : Sight) (link : Link) (r : Result A Lost) (t : Sight) (p : Calls step s link r t)
      → Carries s.carriage link (delivery_in s link r t p).copies (delivery_in s link r t p).is_heard t.carriage
  carried s link (Ok x) t p = p.3
  carried s link (Err lost) t p = p.2.2

  -- a message that goes through as it is
  pub calls-around : (s : Sight) (link : Link) (r : Result A Lost) (t : Sight) (f k k' : ℕ) (c c' : Carriage) (p : Calls step s link r t)
      → Carries c link (delivery_in s link r t p).copies (delivery_in s link r t p).is_heard c' → Calls step (around s f k c) link r (around t f k' c')
  calls-around s link (Ok x) t f k k' c c' p carries = (p.0, p.1, comes-around s (p.0 ++ x ∷ []) t f f k k' c c' (omega arith) p.2, carries)
  calls-around s link (Err lost) t f k k' c c' p carries =
      (p.0, risen-around s.faults t.faults f f (omega arith) p.1, (p.2.0, comes-around s p.2.0 t f f k k' c c' (omega arith) p.2.1, carries))

  -- a message that is lost on its way
  pub lost-before : (s : Sight) (f f' k k' : ℕ) (c c' : Carriage) (lost : Lost) → f ≤ f' → HasRisen (s.faults + f) (s.faults + f')
      → Carries c Sent 0 false c' → Calls step (around s f k c) Sent (Err lost) (around s f' k' c')
  lost-before s f f' k k' c c' lost later up carries = (refl, up, ([], record { same = refl; faults = omega (arith, later) }, carries))

  -- a message whose answer is lost
  pub lost-after : (s : Sight) (link : Link) (r : Result A Lost) (t : Sight) (f f' k k' : ℕ) (c c' : Carriage) (lost : Lost) → f ≤ f'
      → HasRisen (s.faults + f) (t.faults + f') → (p : Calls step s link r t) → Carries c Sent (delivery_in s link r t p).copies false c'
      → Calls step (around s f k c) Sent (Err lost) (around t f' k' c')
  lost-after s link r t f f' k k' c c' lost later up p carries = (
    refl,
    up,
    (
      came s link r t p,
      comes-around s (came s link r t p) t f f' k k' c c' later (comes s link r t p),
      subst (λ (n : ℕ). Carries c Sent n false c') (sym (copies-are s link r t p)) carries,
    ),
  )

  -- a message that comes twice
  pub calls-twice : (s : Sight) (r : Result A Lost) (t : Sight) (q : Result A Lost) (u : Sight) (f k k' : ℕ) (c c' : Carriage)
      (one : Calls step s Sent r t) (two : Calls step t Sent q u)
      → Carries c Sent ((delivery_in s Sent r t one).copies + (delivery_in t Sent q u two).copies) (delivery_in t Sent q u two).is_heard c'
      → Calls step (around s f k c) Sent q (around u f k' c')
  calls-twice s r t (Ok y) u f k k' c c' one two carries =
      let xs : List A = came s Sent r t one in (
        xs ++ two.0,
        (λ local. absurd (no local)),
        comes-around s ((xs ++ two.0) ++ y ∷ []) u f f k k' c c' (omega arith)
            (subst (λ (zs : List A). Comes step s zs u) (sym (append_assoc xs two.0 (y ∷ [])))
            (comes-append s xs t (two.0 ++ y ∷ []) u (comes s Sent r t one) two.2)),
        subst (λ (n : ℕ). Carries c Sent n true c') (count xs two.0 (copies-are s Sent r t one)) carries,
      )
    where
      no : Sent ≡ Local → ⊥
      no same = cc

      count : (xs ys : List A) → length xs ≡ (delivery_in s Sent r t one).copies →
          (delivery_in s Sent r t one).copies + suc (length ys) ≡ suc (length (xs ++ ys))
      count xs ys is = omega (arith, is, length-append xs ys)
  calls-twice s r t (Err lost) u f k k' c c' one two carries =
      let xs : List A = came s Sent r t one in
      let up : s.faults ≤ t.faults = is.frames.faults s t (comes-moves s xs t (comes s Sent r t one)) in (
        refl,
        risen-around s.faults u.faults f f (omega arith) (risen_from s.faults t.faults u.faults up two.1),
        (
          xs ++ two.2.0,
          comes-around s (xs ++ two.2.0) u f f k k' c c' (omega arith) (comes-append s xs t two.2.0 u (comes s Sent r t one) two.2.1),
          subst (λ (n : ℕ). Carries c Sent n false c') (count xs two.2.0 (copies-are s Sent r t one)) carries,
        ),
      )
    where
      risen_from : (a b c : ℕ) → a ≤ b → HasRisen b c → HasRisen a c
      risen_from a b c up (inl more) = inl (omega (arith, up, more))
      risen_from a b c up (inr end) = inr end

      count : (xs ys : List A) → length xs ≡ (delivery_in s Sent r t one).copies → (delivery_in s Sent r t one).copies + length ys ≡ length (xs ++ ys)
      count xs ys is = omega (arith, is, length-append xs ys)
