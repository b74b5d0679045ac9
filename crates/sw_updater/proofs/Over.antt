-- Where an update is done, each record that it read is over.
use Rattle.std.proofs.Common.{◌≡◌, ℕ, ◌^◌, Bool, true, false, List, [], ◌∷◌, ◌++◌, ◌⊎◌, inl, inr, refl, sym, ◌∙◌, ap, arith, subst}
use Rattle.std.proofs.Common.{Option, None, Some, Result, Ok, Err, true≢false}
use Rattle.std.proofs.lemmas.Bool.{cases_Bool, eqb-true}
use Rattle.std.proofs.lemmas.List.{append_cancel_left}
use Rattle.std.proofs.lemmas.List.Elements.{All-cons, All-contains, All-contains_itself, All-head, All-nil, All-tail, All-weaker}
use Rattle.std.proofs.lemmas.List.Sorted.{All-permutation, IsPermutation-sym}
use Rattle.std.specs.List.{All, Contains, list_any, range_with_len}
use Rattle.std.specs.declared.alloc.Global.{Global}
use Rattle.std.specs.declared.vec.Vec.{Vec}
use Rattle.sw_object_steps.proofs.Telling.{tells-records}
use Rattle.sw_object_steps.specs.Filings.{AreFiled}
use Rattle.sw_object_steps.specs.Halves.{ObjHalf}
use Rattle.sw_object_steps.specs.Journals.{Hash}
use Rattle.sw_object_steps.specs.Rules.{ObjHistory, obj_rules}
use Rattle.sw_object_steps.specs.Values.{Records}
use Rattle.sw_object_steps.specs.declared.dir_fault.DirFault.{DirFault}
use Rattle.sw_object_steps.specs.declared.entry.ObjEntry.{ObjEntry}
use Rattle.sw_outside.specs.Counts.{raised}
use Rattle.sw_pass.specs.Outcomes.{Hinders, fault_hindrance, leaving, nothing_yet}
use Rattle.sw_pass.specs.Turns.{InTurn}
use Rattle.sw_pass.specs.declared.hindrance.Hindrance.{Hindrance}
use Rattle.sw_pass.specs.declared.outcome.Outcome.{Outcome}
use Rattle.sw_peer.specs.Sights.{Calls, IsRecordsRead, Nodes, Sight, in_stripe}
use Rattle.sw_peer.specs.declared.link.Link.TheVariants.{Local}
use Rattle.sw_pending.specs.Records.{key_of}
use Rattle.sw_pending.specs.Rules.{is_done}
use Rattle.sw_pending.specs.declared.filed.Filed.{Filed}
use Rattle.sw_pending.specs.declared.key.RecordKey.{RecordKey}
use Rattle.sw_ring.specs.declared.ring.Ring.{Ring}
use Rattle.sw_step.specs.Rules.{about, stands}
use Rattle.sw_updater.proofs.Fates.{Since, StandsAt}
use Rattle.sw_updater.proofs.Following.{Follows, follows-refl, follows-same, follows-trans, local-once, records-call-follows}
use Rattle.sw_updater.proofs.Leading.{Leads, leads-on, leads-trans}
use Rattle.sw_updater.proofs.Passing.{apart}
use Rattle.sw_updater.proofs.Quiet.{IsClear, IsQuiet}
use Rattle.sw_updater.proofs.Unmissed.{settled-over}
use Rattle.sw_updater.specs.Laws.{DoneUpdatesEndRecords, HasEnded, HasEndedSince, HaveEnded, any_unmarks, ends}
use Rattle.sw_updater.specs.Reading.{AreAllRead, AreRead, joined_with}
use Rattle.sw_updater.specs.Updating.{IsGoneOver, IsUpdated}

-- ---- all records, one after the other

-- those that are done from the start
abbrev Done : Filed → ℕ → Type 0
Done filed d = is_done d filed.done ≡ true

abbrev Stood : Filed → ObjHistory → Type 0
Stood filed = StandsAt (key_of filed) (Done filed)

abbrev Over : ObjHistory → Type 0
Over g = ⊥

-- where the record stood by its journal, it is over since
abbrev Ends : ℕ → Sight → Sight → Filed → Type 0
Ends device s t filed = (l : ℕ) → Leads device filed l (Stood filed) Over s t

ends-later : (device : ℕ) (a b c : Sight) (filed : Filed) → Follows a b → Ends device b c filed → Ends device a c filed
ends-later device a b c filed follows is l =
    leads-trans device filed l (Stood filed) (Stood filed) Over a b c (leads-on device filed l (Done filed) a b follows) (is l)

ends-still : (device : ℕ) (a b c : Sight) (filed : Filed) → Ends device a b filed → Follows b c → Ends device a c filed
ends-still device a b c filed is follows l =
    leads-trans device filed l (Stood filed) Over Over a b c (is l) (record { follows = follows; fate = λ under told over. absurd over })

raised-some : (n : ℕ) → raised n ≡ 0 → ⊥
raised-some n none = omega (arith, none)

hinders-some : (h : Option Hindrance) (p : Outcome) → Hinders h nothing_yet p true → p.left ≡ 0 → ⊥
hinders-some (Some hindrance) p is none = raised-some 0 (sym (ap (λ (x : Outcome). x.left) is.0) ∙ none)
hinders-some None p is none = apart is.1

module _ (ring : Ring) (device : ℕ) where
  updated : (filed : Filed) (s : Sight) (o : Outcome) (t : Sight) (p : Outcome) → IsUpdated ring device filed s o t p true → p.left ≡ 0
      → (o.left ≡ 0) × Ends device s t filed
  updated filed s o t p (inl is) none = by (is.2).missed refl (sym (ap (λ (x : Outcome). x.left) is.8) ∙ none)
    where
      by : (missed : Bool) → (is.2).missed ≡ missed → (leaving missed is.3).left ≡ 0 → (o.left ≡ 0) × Ends device s t filed
      by true was left = absurd (raised-some (is.3).left left)
      by false was left =
          let one = λ (l : ℕ). settled-over device filed l ring is.0 is.1 s o is.2 is.3 is.6 was in
          (sym (one 0).left ∙ left, λ l. subst (λ (x : Sight). Leads device filed l (Stood filed) Over s x) (sym is.7) (one l).leads)
  updated filed s o t p (inr wants) none = absurd (apart wants.2)

  record AllEnd (records : List Filed) (s : Sight) (o : Outcome) (t : Sight) : Type 0 where
    left : o.left ≡ 0
    follows : Follows s t
    each : All (Ends device s t) records

  all-end : (records : List Filed) (s : Sight) (o : Outcome) (t : Sight) (p : Outcome) → InTurn (IsUpdated ring device) records s o t p true → p.left ≡ 0
      → AllEnd records s o t
  all-end [] s o t p is none = record {
    left = sym (ap (λ (x : Outcome). x.left) is.1) ∙ none;
    follows = subst (Follows s) (sym is.0) (follows-refl s);
    each = All-nil (Ends device s t);
  }
  all-end (filed ∷ records) s o t p (inl went) none =
      let rest = all-end records went.0 went.1 t p went.3 none in
      let one = updated filed s o went.0 went.1 went.2 rest.left in
      let first = (one.1 0).follows in
      record {
        left = one.0;
        follows = follows-trans s went.0 t first rest.follows;
        each =
            All-cons (Ends device s t) filed records (ends-still device s went.0 t filed one.1 rest.follows)
            (All-weaker (Ends device went.0 t) (Ends device s t) (λ other. ends-later device s went.0 t other first) records rest.each);
      }
  all-end (filed ∷ records) s o t p (inr stopped) none = absurd (apart stopped.1)

-- ---- the reads

reads-follow : (device : ℕ) (stripes : List ℕ) (s : Sight) (got : Result (List Filed) DirFault) (t : Sight) → AreRead device stripes s got t → Follows s t
reads-follow device [] s got t is = subst (Follows s) (sym is.0) (follows-refl s)
reads-follow device (stripe ∷ stripes) s got t (inl read) =
    follows-trans s read.1 t (records-call-follows device stripe s (Ok read.0) read.1 read.3) (reads-follow device stripes read.1 read.2 t read.4)
reads-follow device (stripe ∷ stripes) s got t (inr failed) = records-call-follows device stripe s (Err failed.0) t failed.1

-- a record that was read stands by its journal, where that tells, and no change of a record is in doubt there
record IsReadOf (half : ObjHalf) (filed : Filed) (l : ℕ) : Type 0 where
  stands_there : (half.seen l).told ≡ true → Stood filed (half.seen l)
  clear : IsClear (half.seen l).journal

step-reads : (device stripe : ℕ) (s : Sight) (list : Vec Filed Global) (t : Sight) (filed : Filed) → IsRecordsRead Local device stripe s (Ok list) t
    → Contains list.items filed → IsReadOf t.objects filed (s.nodes.lock device filed.name.hash)
step-reads device stripe s list t filed read has = subst (IsReadOf t.objects filed) (sym under) (record {
  stands_there = λ told. record {
    stood = filed;
    is =
        sym (ap (λ (records : Records). records (key_of filed))
        (tells-records (t.objects.seen n) hash (read.step.read hash) (read.step.known told refl hash refl) (read.step.settled refl hash refl)))
        ∙ (filed_all.exact told filed inside).0 has;
    own = refl;
    done = λ d is. is;
  };
  clear = λ other. read.step.settled refl other refl;
})
  where
    hash : Hash
    hash = filed.name.hash

    n : ℕ
    n = s.nodes.stripe_lock device stripe

    filed_all : AreFiled s.nodes.secrets (in_stripe stripe s.nodes) (t.objects.seen n).told (λ other. (read.step.read other).records) list.items
    filed_all = read.step.shown refl

    inside : in_stripe stripe s.nodes hash ≡ true
    inside = All-contains (λ f. in_stripe stripe s.nodes f.name.hash ≡ true) list.items filed filed_all.within has

    under : s.nodes.lock device hash ≡ n
    under = s.nodes.one_stripe device hash ∙ ap (s.nodes.stripe_lock device) (eqb-true (s.nodes.stripe hash) stripe inside)

call-reads : (device stripe : ℕ) (s : Sight) (list : Vec Filed Global) (t : Sight) (filed : Filed)
    → Calls (IsRecordsRead Local device stripe) s Local (Ok (Ok list)) t → Contains list.items filed
    → IsReadOf t.objects filed (t.nodes.lock device filed.name.hash)
call-reads device stripe s list t filed call has =
    let once = local-once (IsRecordsRead Local device stripe) s (Ok list) t call in
    let mid : Sight = once.0 in
    let nodes : t.nodes ≡ s.nodes = (follows-same mid t once.2).nodes ∙ once.1.moves.nodes in
    let there = step-reads device stripe s list mid filed once.1 has in
    subst (λ (half : ObjHalf). IsReadOf half filed (t.nodes.lock device filed.name.hash)) (sym (ap (λ (x : Sight). x.objects) once.2.same))
    (subst (λ (x : Nodes). IsReadOf mid.objects filed (x.lock device filed.name.hash)) (sym nodes) there)

-- it has ended, as the law says
ended-since : (device : ℕ) (s t : Sight) (filed : Filed) → IsReadOf s.objects filed (s.nodes.lock device filed.name.hash) → Ends device s t filed
    → HasEndedSince device s t filed
ended-since device s t filed read is told = by (leads.fate refl told (read.stands_there (sym (leads.follows.grows l).told ∙ told)))
  where
    l : ℕ
    l = s.nodes.lock device filed.name.hash

    key : RecordKey
    key = key_of filed

    leads : Leads device filed l (Stood filed) Over s t
    leads = is l

    more : List ObjEntry
    more = (leads.follows.grows l).entries.0

    Ended : Type 0
    Ended = (list_any (ends key) (about obj_rules key.hash more) ≡ true)
        ⊎ ((t.alone ≡ false) × (any_unmarks key (stands obj_rules (s.objects.seen l) key.hash) (about obj_rules key.hash more) ≡ true))

    has : Ended → HasEnded t.alone key (s.objects.seen l) (t.objects.seen l)
    has ended = record { more = more; grown = (leads.follows.grows l).entries.1; ended = ended }

    -- nobody else is there: no mark took a device back
    never : t.alone ≡ true → any_unmarks key (stands obj_rules (s.objects.seen l) key.hash) (about obj_rules key.hash more) ≡ true → ⊥
    never alone unmarked =
        let quiet : IsQuiet (s.objects.seen l) (t.objects.seen l) = leads.follows.quiet alone l told read.clear in
        let same : more ≡ quiet.more =
        append_cancel_left (s.objects.seen l).journal.entries more quiet.more (sym (leads.follows.grows l).entries.1 ∙ quiet.grown) in
        true≢false (sym unmarked
        ∙ (ap (λ (es : List ObjEntry). any_unmarks key (stands obj_rules (s.objects.seen l) key.hash) (about obj_rules key.hash es)) same
        ∙ quiet.keeps key.hash key))

    by : Since key (s.objects.seen l) more ⊥ → HasEnded t.alone key (s.objects.seen l) (t.objects.seen l)
    by (inl (inl ended)) = has (inl ended)
    by (inl (inr unmarked)) = elim (cases_Bool t.alone) [
      | inl alone ↦ absurd (never alone unmarked)
      | inr shared ↦ has (inr (shared, unmarked))
    ]
    by (inr none) = absurd none

-- ---- the law

all-front : (P : Filed → Type 0) (xs ys : List Filed) → All P (xs ++ ys) → All P xs
all-front P [] ys all = All-nil P
all-front P (x ∷ xs) ys all = All-cons P x xs (All-head P x (xs ++ ys) all) (all-front P xs ys (All-tail P x (xs ++ ys) all))

all-behind : (P : Filed → Type 0) (xs ys : List Filed) → All P (xs ++ ys) → All P ys
all-behind P [] ys all = all
all-behind P (x ∷ xs) ys all = all-behind P xs ys (All-tail P x (xs ++ ys) all)

split : (items : List Filed) (rest : Result (List Filed) DirFault) (records : List Filed) → joined_with items rest ≡ Ok records
    → (more : List Filed) × (rest ≡ Ok more) × (records ≡ items ++ more)
split items (Ok more) records is = (more, refl, cc)
split items (Err fault) records is = absurd cc

module _ (device : ℕ) (mid t : Sight) where
  have-ended : (stripes : List ℕ) (s : Sight) (got : Result (List Filed) DirFault) (are : AreRead device stripes s got mid) (records : List Filed)
      → got ≡ Ok records → All (Ends device mid t) records → HaveEnded device stripes s got mid t are
  have-ended [] s got are records is all = tt
  have-ended (stripe ∷ stripes) s got (inl read) records is all =
      let parts = split (read.0).items read.2 records (sym read.5 ∙ is) in
      let each : All (Ends device mid t) ((read.0).items ++ parts.0) = subst (All (Ends device mid t)) parts.2 all in
      let here = all-front (Ends device mid t) (read.0).items parts.0 each in (
        All-weaker (Contains (read.0).items) (HasEndedSince device read.1 t)
            (λ filed has. ended-since device read.1 t filed (call-reads device stripe s read.0 read.1 filed read.3 has)
            (ends-later device read.1 mid t filed (reads-follow device stripes read.1 read.2 mid read.4)
            (All-contains (Ends device mid t) (read.0).items filed here has))) (read.0).items (All-contains_itself (read.0).items),
        have-ended stripes read.1 read.2 read.4 parts.0 parts.1 (all-behind (Ends device mid t) (read.0).items parts.0 each),
      )
  have-ended (stripe ∷ stripes) s got (inr failed) records is all = clash (sym failed.2 ∙ is)
    where
      clash : Err failed.0 ≡ Ok records → ⊥
      clash same = cc

pub done-updates-end-records : DoneUpdatesEndRecords
done-updates-end-records ring device s outcome t is done = by is.0 is.3 is.4
  where
    mid : Sight
    mid = is.1

    p : Outcome
    p = is.2

    none : p.left ≡ 0
    none = eqb-true p.left 0 (sym (ap (λ (x : Outcome). x.done) is.5) ∙ done)

    by : (got : Result (List Filed) DirFault) (are : AreAllRead ring device s got mid) → IsGoneOver ring device got mid t p true
        → HaveEnded device (range_with_len 0 (2 ^ ring.lock_bits)) s got mid t are
    by (Ok records) are (inl over) =
        let all = all-end ring device over.0 mid nothing_yet t p over.2 none in
        have-ended device mid t (range_with_len 0 (2 ^ ring.lock_bits)) s (Ok records) are records refl
        (All-permutation (Ends device mid t) over.0 records (IsPermutation-sym records over.0 over.1.same) all.each)
    by (Ok records) are (inr wants) = absurd (apart wants.2)
    by (Err fault) are hinders = absurd (hinders-some (fault_hindrance fault) p hinders.1 none)
