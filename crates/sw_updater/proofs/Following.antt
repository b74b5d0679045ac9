-- What is known of all object locks from one sight to a later one.
use Rattle.std.proofs.Common.{◌≡◌, ◌==◌, ℕ, Bool, true, false, List, [], ◌∷◌, ◌++◌, Option, ◌⊎◌, inl, inr, refl, sym, ◌∙◌, ap, ap₂, subst}
use Rattle.std.proofs.Common.{Result, Ok, true≢false}
use Rattle.std.proofs.lemmas.Bool.{cases_Bool, eq-eqb, eqb-true}
use Rattle.std.specs.declared.alloc.Global.{Global}
use Rattle.std.specs.declared.vec.Vec.{Vec}
use Rattle.sw_container_steps.specs.declared.cont_answer.ContAnswer.{ContAnswer}
use Rattle.sw_container_steps.specs.declared.cont_change.ContChange.{ContChange}
use Rattle.sw_hashpath.specs.HashParts.{partition_of}
use Rattle.sw_hashpath.specs.declared.place.Place.{Place}
use Rattle.sw_history.proofs.Growing.{grows-refl, grows-trans}
use Rattle.sw_history.specs.Halves.{GrowsOf}
use Rattle.sw_object_steps.specs.Halves.{ObjHalf}
use Rattle.sw_object_steps.specs.Histories.{ChangesObject}
use Rattle.sw_object_steps.specs.Journals.{Hash}
use Rattle.sw_object_steps.specs.Rules.{ObjHistory}
use Rattle.sw_object_steps.specs.declared.answer.Answer.TheVariants as answers
use Rattle.sw_object_steps.specs.declared.change.Change.TheVariants.{DropRecord, MarkRecord}
use Rattle.sw_object_steps.specs.declared.dir_fault.DirFault.{DirFault}
use Rattle.sw_peer.specs.ContSights.{IsContMade}
use Rattle.sw_peer.specs.Sights.{Calls, Comes, IsAt, IsBaseRead, IsInPart, IsInStripe, IsMade, IsRecordsRead, IsSame, Moves, Sight, is_one}
use Rattle.sw_peer.specs.declared.link.Link.{Link}
use Rattle.sw_peer.specs.declared.link.Link.TheVariants.{Local}
use Rattle.sw_peer.specs.declared.link.Lost.{Lost}
use Rattle.sw_pending.specs.declared.filed.Filed.{Filed}
use Rattle.sw_redirect.proofs.Calling.{made-moves as cont-moves}
use Rattle.sw_rows.specs.declared.row.Row.{Row}
use Rattle.sw_updater.proofs.Entering.{drop-quiet, mark-quiet}
use Rattle.sw_updater.proofs.Quiet.{IsClear, IsQuiet, quiet-same, quiet-trans, settled-quiet}

-- every lock grows, and where nobody else is at the nodes it stays quiet
pub record Follows (a b : Sight) : Type 0 where
  pub nodes : b.nodes ≡ a.nodes
  pub grows : (l : ℕ) → GrowsOf (a.objects.seen l) (b.objects.seen l)
  pub alone : b.alone ≡ true → a.alone ≡ true
  pub quiet : b.alone ≡ true → (l : ℕ) → (b.objects.seen l).told ≡ true → IsClear (a.objects.seen l).journal
      → IsQuiet (a.objects.seen l) (b.objects.seen l)

-- the objects are as they were
follows-objects : (a b : Sight) → b.nodes ≡ a.nodes → b.objects ≡ a.objects → (b.alone ≡ true → a.alone ≡ true) → Follows a b
follows-objects a b nodes objects alone = record {
  nodes = nodes;
  grows = λ l. subst (λ (half : ObjHalf). GrowsOf (a.objects.seen l) (half.seen l)) (sym objects) (grows-refl (a.objects.seen l));
  alone = alone;
  quiet = λ is l told clear.
      quiet-same (a.objects.seen l) (b.objects.seen l) (ap (λ (half : ObjHalf). (half.seen l).journal) objects) clear;
}

pub follows-refl : (a : Sight) → Follows a a
follows-refl a = follows-objects a a refl refl (λ is. is)

pub follows-same : (a b : Sight) → IsSame a b → Follows a b
follows-same a b same =
    follows-objects a b (ap (λ (x : Sight). x.nodes) same.same) (ap (λ (x : Sight). x.objects) same.same)
    (λ is. sym (ap (λ (x : Sight). x.alone) same.same) ∙ is)

pub follows-trans : (a b c : Sight) → Follows a b → Follows b c → Follows a c
follows-trans a b c p q = record {
  nodes = q.nodes ∙ p.nodes;
  grows = λ l. grows-trans (a.objects.seen l) (b.objects.seen l) (c.objects.seen l) (p.grows l) (q.grows l);
  alone = λ is. p.alone (q.alone is);
  quiet = λ is l told clear.
      let first = p.quiet (q.alone is) l (sym (q.grows l).told ∙ told) clear in
      quiet-trans (a.objects.seen l) (b.objects.seen l) (c.objects.seen l) (p.grows l).opening first (q.quiet is l told first.clear);
}

-- steps under one lock
follows-at : (at : ℕ → Hash → Type 0) (a b : Sight) (n : ℕ) → Moves at a b → ((d : ℕ) (hash : Hash) → at d hash → a.nodes.lock d hash ≡ n)
    → (b.alone ≡ true → (b.objects.seen n).told ≡ true → IsClear (a.objects.seen n).journal → IsQuiet (a.objects.seen n) (b.objects.seen n)) → Follows a b
follows-at at a b n moves within quiet = record {
  nodes = moves.nodes;
  grows = moves.objects.grows;
  alone = moves.alone;
  quiet = λ is l. by is l (cases_Bool (l == n));
}
  where
    Quiet : ℕ → Type 0
    Quiet l = (b.objects.seen l).told ≡ true → IsClear (a.objects.seen l).journal → IsQuiet (a.objects.seen l) (b.objects.seen l)

    by : b.alone ≡ true → (l : ℕ) → ((l == n) ≡ true) ⊎ ((l == n) ≡ false) → Quiet l
    by is l (inl same) = subst Quiet (sym (eqb-true l n same)) (quiet is)
    by is l (inr other) = λ told clear.
        quiet-same (a.objects.seen l) (b.objects.seen l)
        (ap (λ (h : ObjHistory). h.journal)
        (moves.objects.elsewhere l (λ d hash here same. true≢false (sym (eq-eqb l n (same ∙ within d hash here)) ∙ other))))
        clear

-- ---- calls at the device itself come once

pub local-once : {A : Type 0} (step : Sight → A → Sight → Type 0) (s : Sight) (x : A) (t : Sight) → Calls step s Local (Ok x) t
    → (mid : Sight) × step s x mid × IsSame mid t
local-once {A} step s x t call =
    let came : Comes step s (x ∷ []) t = subst (λ (earlier : List A). Comes step s (earlier ++ x ∷ []) t) (call.1 refl) call.2 in came

pub mark-follows : (device : ℕ) (filed : Filed) (to : ℕ) (a : Sight) (is : Bool) (b : Sight)
    → IsMade Local device filed.name (MarkRecord filed to) a (answers.Took is) b → Follows a b
mark-follows device filed to a is b made =
    follows-at (IsAt device filed.name.hash) a b l made.moves (λ d hash at. ap₂ a.nodes.lock at.0 at.1) (λ alone told. by b.alone alone made.step told)
  where
    l : ℕ
    l = a.nodes.lock device filed.name.hash

    by : (alone : Bool) → alone ≡ true
        → ChangesObject alone (a.objects.seen l) (a.objects.holds device) filed.name (MarkRecord filed to) (answers.Took is) (b.objects.seen l)
        (b.objects.holds device filed.name.hash)
        → (b.objects.seen l).told ≡ true → IsClear (a.objects.seen l).journal → IsQuiet (a.objects.seen l) (b.objects.seen l)
    by true alone step told =
        mark-quiet (a.objects.seen l) (a.objects.holds device) filed to is (b.objects.seen l) (b.objects.holds device filed.name.hash) step
        (sym step.after.told ∙ told)
    by false alone step told = absurd (true≢false (sym alone))

pub drop-follows : (device : ℕ) (filed : Filed) (all : List ℕ) (a : Sight) (is : Bool) (b : Sight)
    → IsMade Local device filed.name (DropRecord filed all) a (answers.Took is) b → Follows a b
drop-follows device filed all a is b made =
    follows-at (IsAt device filed.name.hash) a b l made.moves (λ d hash at. ap₂ a.nodes.lock at.0 at.1) (λ alone told. by b.alone alone made.step)
  where
    l : ℕ
    l = a.nodes.lock device filed.name.hash

    by : (alone : Bool) → alone ≡ true
        → ChangesObject alone (a.objects.seen l) (a.objects.holds device) filed.name (DropRecord filed all) (answers.Took is) (b.objects.seen l)
        (b.objects.holds device filed.name.hash)
        → IsClear (a.objects.seen l).journal → IsQuiet (a.objects.seen l) (b.objects.seen l)
    by true alone step =
        drop-quiet (a.objects.seen l) (a.objects.holds device) filed all is (b.objects.seen l) (b.objects.holds device filed.name.hash) step
    by false alone step = absurd (true≢false (sym alone))

base-follows : (device : ℕ) (filed : Filed) (a : Sight) (base : Result (Option Row) DirFault) (b : Sight) → IsBaseRead Local device filed a base b → Follows a b
base-follows device filed a base b read =
    follows-at (IsInPart a.nodes.power device part (is_one filed.name.hash a.nodes)) a b (a.nodes.part_lock device part) read.moves
    (λ d hash at. a.nodes.one_lock d hash ∙ ap₂ a.nodes.part_lock at.0 at.1.part_is)
    (λ alone told. settled-quiet (is_one filed.name.hash a.nodes) (a.objects.seen (a.nodes.part_lock device part))
    (b.objects.seen (a.nodes.part_lock device part)) (read.step.settles alone))
  where
    part : ℕ
    part = partition_of filed.name.hash a.nodes.power

records-follow : (device stripe : ℕ) (a : Sight) (got : Result (Vec Filed Global) DirFault) (b : Sight) → IsRecordsRead Local device stripe a got b
    → Follows a b
records-follow device stripe a got b read =
    follows-at (IsInStripe a.nodes device stripe) a b (a.nodes.stripe_lock device stripe) read.moves
    (λ d hash at. a.nodes.one_stripe d hash ∙ ap₂ a.nodes.stripe_lock at.0 at.1)
    (λ alone told. settled-quiet (λ hash. true) (a.objects.seen (a.nodes.stripe_lock device stripe)) (b.objects.seen (a.nodes.stripe_lock device stripe))
    (read.step.settles alone))

-- ---- calls

module _ {A : Type 0} (step : Sight → A → Sight → Type 0) (s : Sight) (x : A) (t : Sight) where
  once-follows : ((mid : Sight) → step s x mid → Follows s mid) → Calls step s Local (Ok x) t → Follows s t
  once-follows follows call =
      let once = local-once step s x t call in
      follows-trans s once.0 t (follows once.0 once.1) (follows-same once.0 t once.2)

pub base-call-follows : (device : ℕ) (filed : Filed) (s : Sight) (base : Result (Option Row) DirFault) (t : Sight)
    → Calls (IsBaseRead Local device filed) s Local (Ok base) t → Follows s t
base-call-follows device filed s base t =
    once-follows (IsBaseRead Local device filed) s base t (λ mid read. base-follows device filed s base mid read)

pub records-call-follows : (device stripe : ℕ) (s : Sight) (got : Result (Vec Filed Global) DirFault) (t : Sight)
    → Calls (IsRecordsRead Local device stripe) s Local (Ok got) t → Follows s t
records-call-follows device stripe s got t =
    once-follows (IsRecordsRead Local device stripe) s got t (λ mid read. records-follow device stripe s got mid read)

pub cont-call-follows : (link : Link) (to : ℕ) (place : Place) (change : ContChange) (s : Sight) (r : Result ContAnswer Lost) (t : Sight)
    → Calls (IsContMade link to place change) s link r t → Follows s t
cont-call-follows link to place change s r t call =
    let moves = cont-moves link to place change s r t call in
    follows-objects s t moves.nodes moves.objects moves.alone
