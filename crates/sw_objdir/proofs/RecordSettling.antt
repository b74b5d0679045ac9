-- The doubt of a record among others: how a read of the record's file settles it, and how an entry of a record joins a journal.
use Rattle.std.proofs.Common.{◌≡◌, ◌≢◌, ℕ, ◌+◌, ◌≤◌, Bool, true, false, ◌||◌, List, [], ◌∷◌, ◌++◌, length, length-append, Option, refl, sym, ◌∙◌, ap}
use Rattle.std.proofs.Common.{subst, arith, inl, inr, ◌⊎◌, append_assoc}
use Rattle.std.specs.Bool.{⊤}
use Rattle.std.specs.List.{AllByRecursion, fold}
use Rattle.std.specs.Str.{bytes_eq}
use Rattle.std.proofs.Math.Bool.{or-false}
use Rattle.std.proofs.lemmas.Bool.{cases_Bool}
use Rattle.std.proofs.lemmas.List.{append-nil, map-append}
use Rattle.std.proofs.lemmas.List.Elements.{All-from_recursion, filter-append, recursion_from_All}
use Rattle.std.proofs.lemmas.List.Sums.{fold-append}
use Rattle.sw_journal.specs.Entries.{about_record, is_record_of, record_left}
use Rattle.sw_journal.specs.Settling.{IsSettledBy, SettlesFirstRecord}
use Rattle.sw_object_steps.proofs.Apart.{AreApart, apart-swap}
use Rattle.sw_object_steps.proofs.Hashes.{hash-apart, hash-same, hash-self, written-append}
use Rattle.sw_object_steps.proofs.Recording.{same-key, same-self, same-value}
use Rattle.sw_object_steps.proofs.Ruling.{are-rules}
use Rattle.sw_object_steps.proofs.SettledSingles.{enters-same, entered, gone, settles-either, stands-entered}
use Rattle.sw_object_steps.proofs.Singles.{singles, told-record}
use Rattle.sw_object_steps.specs.Journals.{Hash, Journal, with_doubt, with_entry, written}
use Rattle.sw_object_steps.specs.Recorded.{doubts_record, doubts_write}
use Rattle.sw_object_steps.specs.Rules.{obj_applied, obj_key, obj_rules}
use Rattle.sw_object_steps.specs.Singles.{History, recorded, single_history, single_journal, stands}
use Rattle.sw_object_steps.specs.Values.{ObjValue, is_same_key}
use Rattle.sw_object_steps.specs.declared.entry.ObjEntry.{ObjEntry}
use Rattle.sw_object_steps.specs.declared.entry.ObjEntry.TheVariants.{Dropped, Files, Marked, Wrote}
use Rattle.sw_objdir.proofs.Journaling.{after, doubts-are, kept-settled, settled_if, settles-if}
use Rattle.sw_objdir.proofs.Singled.{AreSingle, all-at, kept-single, single-without}
use Rattle.sw_objdir.specs.Directories.{IsKept, IsPlain}
use Rattle.sw_pending.specs.Records.{key_of}
use Rattle.sw_pending.specs.declared.filed.Filed.{Filed}
use Rattle.sw_pending.specs.declared.key.RecordKey.{RecordKey}
use Rattle.sw_state.specs.declared.write.Write.{Write}
use Rattle.sw_step.proofs.Keeping.{about-own, doubts-after, same-after, stand-more, still-can}
use Rattle.sw_step.specs.Rules.{AreChosen, CanStand, doubts_about, is_about}
use Rattle.sw_step.specs.Steps.{OnlySettles, SettlesOne}

-- ---- the entry of one record

-- the record of one key alone is changed
pub record IsOne (key : RecordKey) (e : ObjEntry) : Type 0 where
  pub of : is_record_of key e ≡ true
  pub plain : IsPlain e

same-back : (key at : RecordKey) → is_same_key key at ≡ true → is_same_key at key ≡ true
same-back key at is = subst (λ (k : RecordKey). is_same_key at k ≡ true) (sym (same-key key at is)) (same-self at)

-- what it leaves of the record of its key
pub left-here : (key : RecordKey) (v : ObjValue) (e : ObjEntry) → is_record_of key e ≡ true → (obj_applied v e).records key ≡ record_left e
left-here key v (Wrote name w records) of = cc
left-here key v (Files by filed) of = let same : is_same_key (key_of filed) key ≡ true = same-back key (key_of filed) of in rw same refl
left-here key v (Marked by filed device) of = let same : is_same_key (key_of filed) key ≡ true = same-back key (key_of filed) of in rw same refl
left-here key v (Dropped by filed) of = let same : is_same_key (key_of filed) key ≡ true = same-back key (key_of filed) of in rw same refl

-- where that stands already it changes nothing
pub left-same : (key : RecordKey) (v : ObjValue) (e : ObjEntry) → is_record_of key e ≡ true → v.records key ≡ record_left e → obj_applied v e ≡ v
left-same key v (Wrote name w records) of is = cc
left-same key v (Files hash filed) of is = same-value (obj_applied v (Files hash filed)) v refl (λ k. by k (is_same_key (key_of filed) k) refl)
  where
    by : (k : RecordKey) (b : Bool) → is_same_key (key_of filed) k ≡ b → (obj_applied v (Files hash filed)).records k ≡ v.records k
    by k true same = let at : key ≡ k = same-key key (key_of filed) of ∙ same-key (key_of filed) k same in
        rw same (sym is ∙ ap v.records at)
    by k false apart = rw apart refl
left-same key v (Marked hash filed device) of is =
    same-value (obj_applied v (Marked hash filed device)) v refl (λ k. by k (is_same_key (key_of filed) k) refl)
  where
    by : (k : RecordKey) (b : Bool) → is_same_key (key_of filed) k ≡ b → (obj_applied v (Marked hash filed device)).records k ≡ v.records k
    by k true same = let at : key ≡ k = same-key key (key_of filed) of ∙ same-key (key_of filed) k same in
        rw same (sym is ∙ ap v.records at)
    by k false apart = rw apart refl
left-same key v (Dropped hash filed) of is = same-value (obj_applied v (Dropped hash filed)) v refl (λ k. by k (is_same_key (key_of filed) k) refl)
  where
    by : (k : RecordKey) (b : Bool) → is_same_key (key_of filed) k ≡ b → (obj_applied v (Dropped hash filed)).records k ≡ v.records k
    by k true same = let at : key ≡ k = same-key key (key_of filed) of ∙ same-key (key_of filed) k same in
        rw same (sym is ∙ ap v.records at)
    by k false apart = rw apart refl

-- it is of the hash of its key
pub own-hash : (key : RecordKey) (e : ObjEntry) → IsOne key e → obj_key e ≡ key.hash
own-hash key (Wrote name w records) one = let of = one.of in cc
own-hash key (Files by filed) one = one.plain ∙ sym (ap (λ (k : RecordKey). k.hash) (same-key key (key_of filed) one.of))
own-hash key (Marked by filed device) one = one.plain ∙ sym (ap (λ (k : RecordKey). k.hash) (same-key key (key_of filed) one.of))
own-hash key (Dropped by filed) one = one.plain ∙ sym (ap (λ (k : RecordKey). k.hash) (same-key key (key_of filed) one.of))

-- it is of no other key
pub own-key : (a b : RecordKey) (e : ObjEntry) → is_record_of a e ≡ true → is_record_of b e ≡ true → a ≡ b
own-key a b (Wrote name w records) of also = cc
own-key a b (Files by filed) of also = same-key a (key_of filed) of ∙ sym (same-key b (key_of filed) also)
own-key a b (Marked by filed device) of also = same-key a (key_of filed) of ∙ sym (same-key b (key_of filed) also)
own-key a b (Dropped by filed) of also = same-key a (key_of filed) of ∙ sym (same-key b (key_of filed) also)

-- it is no write
pub no-write : (key : RecordKey) (e : ObjEntry) → is_record_of key e ≡ true → (hash : Hash) → written hash (e ∷ []) ≡ []
no-write key (Wrote name w records) of hash = cc
no-write key (Files by filed) of hash = refl
no-write key (Marked by filed device) of hash = refl
no-write key (Dropped by filed) of hash = refl

writes-none : (key : RecordKey) (e : ObjEntry) → is_record_of key e ≡ true → doubts_write (e ∷ []) ≡ false
writes-none key (Wrote name w records) of = cc
writes-none key (Files by filed) of = refl
writes-none key (Marked by filed device) of = refl
writes-none key (Dropped by filed) of = refl

-- an entry that files no record beside a write changes that of a key exactly where it is about it
pub one-record : (key : RecordKey) (e : ObjEntry) → IsPlain e → doubts_record key (e ∷ []) ≡ is_record_of key e
one-record key (Wrote name w records) plain = subst (λ (rs : List Filed). doubts_record key (Wrote name w rs ∷ []) ≡ false) (sym plain) refl
one-record key (Files by filed) plain = or-false (is_same_key key (key_of filed) || false) ∙ or-false (is_same_key key (key_of filed))
one-record key (Marked by filed device) plain = or-false (is_same_key key (key_of filed) || false) ∙ or-false (is_same_key key (key_of filed))
one-record key (Dropped by filed) plain = or-false (is_same_key key (key_of filed) || false) ∙ or-false (is_same_key key (key_of filed))

front-all : (xs ys : List ObjEntry) → AllByRecursion IsPlain (xs ++ ys) → AllByRecursion IsPlain xs
front-all [] ys all = tt
front-all (x ∷ xs) ys all = (all.0, front-all xs ys all.1)

-- where none is about the record, none changes it
pub not-recorded : (key : RecordKey) (ds : List ObjEntry) → AllByRecursion IsPlain ds → about_record key ds ≡ [] → (hash : Hash)
    → recorded hash key ds ≡ []
not-recorded key [] plain none hash = refl
not-recorded key (d ∷ ds) plain none hash = elim (cases_Bool (is_record_of key d)) [
  | inl is ↦ let never : d ∷ about_record key ds ≡ [] = rw is at none in cc
  | inr other ↦
      let rest : recorded hash key ds ≡ [] = not-recorded key ds plain.1 (rw other at none) hash in
      let isnt : doubts_record key (d ∷ []) ≡ false = one-record key d plain.0 ∙ other in
      elim (cases_Bool (bytes_eq (obj_key d) hash)) [
        | inl here ↦ rw (here, isnt) rest
        | inr away ↦ rw away rest
      ]
]

-- ---- an entry that may as well be made before each of some doubts

abbrev pub AreFree : ObjEntry → List (List ObjEntry) → Type 0
AreFree e [] = ⊤
AreFree e (d ∷ ds) = ((v : ObjValue) → fold obj_applied (obj_applied v e) d ≡ obj_applied (fold obj_applied v d) e) × AreFree e ds

one-free : (key : RecordKey) (e d : ObjEntry) → IsOne key e → IsPlain d → is_record_of key d ≡ false
    → (v : ObjValue) → fold obj_applied (obj_applied v e) (d ∷ []) ≡ obj_applied (fold obj_applied v (d ∷ [])) e
one-free key e d one plain other v = sym (apart-swap (e ∷ []) (d ∷ []) apart v)
  where
    apart : AreApart (e ∷ []) (d ∷ [])
    apart = record {
      writes = λ is. let none : doubts_write (e ∷ []) ≡ false = writes-none key e one.of in cc;
      records = λ k is.
          let of : is_record_of k e ≡ true = sym (one-record k e one.plain) ∙ is in
          one-record k d plain ∙ subst (λ (x : RecordKey). is_record_of x d ≡ false) (own-key key k e one.of of) other;
    }

pub free-doubts : (key : RecordKey) (e : ObjEntry) → IsOne key e → (ds : List ObjEntry) → AllByRecursion IsPlain ds → about_record key ds ≡ []
    → (hash : Hash) → AreFree e (doubts_about obj_rules hash (singles ds))
free-doubts key e one [] plain none hash = tt
free-doubts key e one (d ∷ ds) plain none hash = elim (cases_Bool (is_record_of key d)) [
  | inl is ↦ let never : d ∷ about_record key ds ≡ [] = rw is at none in cc
  | inr other ↦
      let rest : AreFree e (doubts_about obj_rules hash (singles ds)) = free-doubts key e one ds plain.1 (rw other at none) hash in
      elim (cases_Bool (bytes_eq (obj_key d) hash)) [
        | inl here ↦ rw here (one-free key e d one plain.0 other, rest)
        | inr away ↦ rw away rest
      ]
]

-- so it may be made before all that were chosen of them
pub free-chosen : (e : ObjEntry) (ds : List (List ObjEntry)) (made : List ObjEntry) → AreFree e ds → AreChosen obj_rules ds made
    → (v : ObjValue) → fold obj_applied (obj_applied v e) made ≡ obj_applied (fold obj_applied v made) e
free-chosen e [] made free are v = rw are refl
free-chosen e (d ∷ ds) made free are v = by (free-chosen e ds are.0 free.1 are.1) are.2
  where
    by : ((x : ObjValue) → fold obj_applied (obj_applied x e) are.0 ≡ obj_applied (fold obj_applied x are.0) e) → (made ≡ are.0) ⊎ (made ≡ d ++ are.0)
        → fold obj_applied (obj_applied v e) made ≡ obj_applied (fold obj_applied v made) e
    by rest (inl same) = subst (λ (es : List ObjEntry). fold obj_applied (obj_applied v e) es ≡ obj_applied (fold obj_applied v es) e) (sym same) (rest v)
    by rest (inr more) =
        subst (λ (es : List ObjEntry). fold obj_applied (obj_applied v e) es ≡ obj_applied (fold obj_applied v es) e) (sym more)
        (fold-append obj_applied (obj_applied v e) d are.0
        ∙ (ap (λ (x : ObjValue). fold obj_applied x are.0) (free.0 v)
        ∙ (rest (fold obj_applied v d) ∙ sym (ap (λ (x : ObjValue). obj_applied x e) (fold-append obj_applied v d are.0)))))

-- ---- a doubt of a record is settled

-- one that goes was the only one of its record
none-without : (key : RecordKey) (xs : List ObjEntry) (e : ObjEntry) (ys : List ObjEntry) → is_record_of key e ≡ true
    → length (about_record key (xs ++ e ∷ ys)) ≤ 1 → (about_record key xs ≡ []) × (about_record key (xs ++ ys) ≡ [])
none-without key xs e ys of single =
    let more : about_record key (xs ++ e ∷ ys) ≡ about_record key xs ++ e ∷ about_record key ys =
    filter-append (is_record_of key) xs (e ∷ ys) ∙ rw of refl in
    let counted = ap length more ∙ length-append (about_record key xs) (e ∷ about_record key ys) in
    let none : (about_record key xs ≡ []) × (about_record key ys ≡ []) =
    both (about_record key xs) (about_record key ys) (omega (arith, single, counted)) in (
      none.0,
      filter-append (is_record_of key) xs ys ∙ (ap (λ (es : List ObjEntry). es ++ about_record key ys) none.0 ∙ none.1),
    )
  where
    both : (es ds : List ObjEntry) → length es + length ds ≤ 0 → (es ≡ []) × (ds ≡ [])
    both [] [] none = (refl, refl)
    both [] (d ∷ ds) none = absurd (omega (arith, none))
    both (e ∷ es) ds none = absurd (omega (arith, none))

module _ (h : History) (now : Hash → ObjValue) (kept : IsKept h now) (key : RecordKey) (xs : List ObjEntry) (e : ObjEntry) (ys : List ObjEntry)
    (among : h.journal.doubts ≡ xs ++ e ∷ ys) (of : is_record_of key e ≡ true) where
  are : AreSingle (xs ++ e ∷ ys)
  are = subst AreSingle among (kept-single h now kept)

  one : IsOne key e
  one = record { of = of; plain = all-at IsPlain e ys xs are.plain }

  own : obj_key e ≡ key.hash
  own = own-hash key e one

  plain : AllByRecursion IsPlain (xs ++ ys)
  plain = recursion_from_All IsPlain (xs ++ ys) (single-without xs ys e are).plain

  none : (about_record key xs ≡ []) × (about_record key (xs ++ ys) ≡ [])
  none = none-without key xs e ys of (are.single_record key)

  none-recorded : recorded (obj_key e) key (xs ++ ys) ≡ []
  none-recorded = not-recorded key (xs ++ ys) plain none.1 (obj_key e)

  front-recorded : (k : RecordKey) → doubts_record k (e ∷ []) ≡ true → recorded (obj_key e) k xs ≡ []
  front-recorded k is =
      let same : key ≡ k = own-key key k e of (sym (one-record k e one.plain) ∙ is) in
      subst (λ (x : RecordKey). recorded (obj_key e) x xs ≡ []) same
      (not-recorded key xs (front-all xs ys plain) none.0 (obj_key e))

  abbrev left : ObjValue
  left = stands h (obj_key e)

  -- where what stands is what it leaves, it was made; else it wasn't
  module _ (v : ObjValue) (can : CanStand obj_rules (single_history h) (obj_key e) v) where
    either : CanStand obj_rules (single_history (gone h e xs ys)) (obj_key e) v ⊎ CanStand obj_rules (single_history (entered h e xs ys)) (obj_key e) v
    either = settles-either h e xs ys among (λ is. let no : doubts_write (e ∷ []) ≡ false = writes-none key e of in cc) front-recorded v can

    made-so : v.records key ≡ record_left e → CanStand obj_rules (single_history (entered h e xs ys)) (obj_key e) v
    made-so is = by either
      where
        by : CanStand obj_rules (single_history (gone h e xs ys)) (obj_key e) v ⊎ CanStand obj_rules (single_history (entered h e xs ys)) (obj_key e) v
            → CanStand obj_rules (single_history (entered h e xs ys)) (obj_key e) v
        by (inl isnt) =
            let told : v.records key ≡ left.records key = told-record (gone h e xs ys) (obj_key e) v isnt key none-recorded in
            enters-same h e xs ys v (left-same key left e of (sym told ∙ is)) isnt
        by (inr was) = was

    gone-so : v.records key ≢ record_left e → CanStand obj_rules (single_history (gone h e xs ys)) (obj_key e) v
    gone-so apart = by either
      where
        by : CanStand obj_rules (single_history (gone h e xs ys)) (obj_key e) v ⊎ CanStand obj_rules (single_history (entered h e xs ys)) (obj_key e) v
            → CanStand obj_rules (single_history (gone h e xs ys)) (obj_key e) v
        by (inl isnt) = isnt
        by (inr was) = absurd (apart (told-record (entered h e xs ys) (obj_key e) v was key none-recorded
            ∙ (ap (λ (x : ObjValue). x.records key) (stands-entered h e xs ys) ∙ left-here key left e of)))

  -- ---- the history

  abbrev Settled : Journal → Type 0
  Settled j = IsKept (record h { journal = j }) now × OnlySettles obj_rules (λ k. bytes_eq k key.hash) (single_history h)
      (single_history (record h { journal = j })) × (about_record key j.doubts ≡ [])

  settled-by : (b : Bool)
      → (h.told ≡ true → CanStand obj_rules (single_history (record h { journal = settled_if b h.journal xs e ys })) (obj_key e) (now (obj_key e)))
      → Settled (settled_if b h.journal xs e ys)
  settled-by b here = (
    kept-settled h now kept xs ys e among b here,
    (
      1,
      (
        single_journal (settled_if b h.journal xs e ys),
        subst (λ (k : Hash). SettlesOne obj_rules (λ x. bytes_eq x k) (single_journal h.journal) (single_journal (settled_if b h.journal xs e ys))) own
            (settles-if h.journal xs ys e among b),
        refl,
      ),
    ),
    ap (about_record key) (doubts-are b h.journal xs e ys) ∙ none.1,
  )

  pub settled-as : (stood : Option Filed) → (h.told ≡ true → stood ≡ (now key.hash).records key) → (j : Journal) → IsSettledBy stood h.journal xs e ys j
      → IsKept (record h { journal = j }) now × OnlySettles obj_rules (λ k. bytes_eq k key.hash) (single_history h)
      (single_history (record h { journal = j })) × (about_record key j.doubts ≡ [])
  settled-as stood seen j (inl made) = subst Settled (sym made.1)
      (settled-by false (λ told. made-so (now (obj_key e)) (kept.can told (obj_key e))
      (ap (λ (k : Hash). (now k).records key) own ∙ (sym (seen told) ∙ made.0))))
  settled-as stood seen j (inr away) = subst Settled (sym away.1)
      (settled-by true (λ told. gone-so (now (obj_key e)) (kept.can told (obj_key e))
      (λ is. away.0 (seen told ∙ (sym (ap (λ (k : Hash). (now k).records key) own) ∙ is)))))

-- the first doubt of a record is settled by what stands for its key
pub record-settles : (h : History) (now : Hash → ObjValue) (kept : IsKept h now) (key : RecordKey) (stood : Option Filed)
    → (h.told ≡ true → stood ≡ (now key.hash).records key) → (j : Journal) → SettlesFirstRecord key stood h.journal j
    → IsKept (record h { journal = j }) now × OnlySettles obj_rules (λ k. bytes_eq k key.hash) (single_history h)
    (single_history (record h { journal = j })) × (about_record key j.doubts ≡ [])
record-settles h now kept key stood seen j (inl none) = (
  subst (λ (x : Journal). IsKept (record h { journal = x }) now) (sym none.1) kept,
  (0, ap single_journal none.1),
  ap (λ (x : Journal). about_record key x.doubts) none.1 ∙ none.0,
)
record-settles h now kept key stood seen j (inr one) = settled-as h now kept key one.before one.entry one.behind one.among one.of_key stood seen j one.settled

-- ---- an entry of a record comes

chosen-without : (ds : List (List ObjEntry)) (d es : List ObjEntry) → AreChosen obj_rules ds es → AreChosen obj_rules (ds ++ d ∷ []) es
chosen-without [] d es are = ([], refl, inl are)
chosen-without (x ∷ ds) d es are = (are.0, chosen-without ds d are.0 are.1, are.2)

chosen-with : (ds : List (List ObjEntry)) (d es : List ObjEntry) → AreChosen obj_rules ds es → AreChosen obj_rules (ds ++ d ∷ []) (es ++ d)
chosen-with [] d es are = ([], refl, inr (rw are (sym (append-nil d))))
chosen-with (x ∷ ds) d es are = (are.0 ++ d, chosen-with ds d are.0 are.1, by are.2)
  where
    by : (es ≡ are.0) ⊎ (es ≡ x ++ are.0) → (es ++ d ≡ are.0 ++ d) ⊎ (es ++ d ≡ x ++ (are.0 ++ d))
    by (inl same) = inl (ap (λ (ys : List ObjEntry). ys ++ d) same)
    by (inr more) = inr (ap (λ (ys : List ObjEntry). ys ++ d) more ∙ append_assoc x are.0 d)

module _ (h : History) (now : Hash → ObjValue) (kept : IsKept h now) (key : RecordKey) (e : ObjEntry) (one : IsOne key e)
    (none : about_record key h.journal.doubts ≡ []) (next : Hash → ObjValue)
    (others : (hash : Hash) → hash ≢ key.hash → next hash ≡ now hash) (f : ℕ) where
  of-hash : obj_key e ≡ key.hash
  of-hash = own-hash key e one

  all-plain : AllByRecursion IsPlain h.journal.doubts
  all-plain = recursion_from_All IsPlain h.journal.doubts kept.plain

  -- it was made
  pub kept-entered : (h.told ≡ true → next key.hash ≡ obj_applied (now key.hash) e) → IsKept (after h (with_entry h.journal e) f) next
  kept-entered here = record {
    can = λ told hash. by told hash (bytes_eq hash key.hash) refl;
    single = kept.single;
    single_record = kept.single_record;
    plain = kept.plain;
  }
    where
      g : History
      g = after h (with_entry h.journal e) f

      left : ObjValue
      left = stands h key.hash

      at-key : h.told ≡ true → CanStand obj_rules (single_history g) key.hash (next key.hash)
      at-key told =
          let can = kept.can told key.hash in
          let free : AreFree e (doubts_about obj_rules key.hash (singles h.journal.doubts)) = free-doubts key e one h.journal.doubts all-plain none key.hash in
          let more : stands g key.hash ≡ obj_applied left e =
          stand-more obj_rules are-rules (single_history h) (single_history g) key.hash (e ∷ []) (λ k. refl) refl
          ∙ ap (λ (es : List ObjEntry). fold obj_applied left es) (about-own obj_rules are-rules key.hash (e ∷ []) (of-hash, tt)) in (
            can.0,
            can.1,
            here told
                ∙ (ap (λ (x : ObjValue). obj_applied x e) can.2
                ∙ (sym (free-chosen e (doubts_about obj_rules key.hash (singles h.journal.doubts)) can.0 free can.1 left)
                ∙ ap (λ (x : ObjValue). fold obj_applied x can.0) (sym more))),
          )

      by : h.told ≡ true → (hash : Hash) (b : Bool) → bytes_eq hash key.hash ≡ b → CanStand obj_rules (single_history g) hash (next hash)
      by told hash true is = subst (λ (k : Hash). CanStand obj_rules (single_history g) k (next k)) (sym (hash-same hash key.hash is)) (at-key told)
      by told hash false away =
          subst (CanStand obj_rules (single_history g) hash) (sym (others hash (hash-apart hash key.hash away)))
          (still-can obj_rules are-rules (λ k. bytes_eq k key.hash) hash away (single_history h) (single_history g) (now hash) (λ k. refl)
          (record {
            entries = same-after obj_rules are-rules (λ k. bytes_eq k key.hash) hash away key.hash (hash-self key.hash) h.journal.entries (e ∷ [])
                (of-hash, tt);
            doubts = refl;
          })
          (kept.can told hash))

  -- it may have been made, and is in doubt
  pub kept-doubted : (h.told ≡ true → (next key.hash ≡ now key.hash) ⊎ (next key.hash ≡ obj_applied (now key.hash) e))
      → IsKept (after h (with_doubt h.journal e) f) next
  kept-doubted here = record {
    can = λ told hash. by told hash (bytes_eq hash key.hash) refl;
    single = λ hash. subst (λ (ws : List Write). length ws ≤ 1)
        (sym (written-append hash h.journal.doubts (e ∷ [])
        ∙ (ap (λ (ws : List Write). written hash h.journal.doubts ++ ws) (no-write key e one.of hash) ∙ append-nil (written hash h.journal.doubts))))
        (kept.single hash);
    single_record = λ k. few k (is_record_of k e) refl;
    plain = All-from_recursion IsPlain (h.journal.doubts ++ e ∷ []) (all-last h.journal.doubts all-plain);
  }
    where
      g : History
      g = after h (with_doubt h.journal e) f

      all-last : (ds : List ObjEntry) → AllByRecursion IsPlain ds → AllByRecursion IsPlain (ds ++ e ∷ [])
      all-last [] all = (one.plain, tt)
      all-last (d ∷ ds) all = (all.0, all-last ds all.1)

      few : (k : RecordKey) (b : Bool) → is_record_of k e ≡ b → length (about_record k (h.journal.doubts ++ e ∷ [])) ≤ 1
      few k true is =
          let same : about_record k (h.journal.doubts ++ e ∷ []) ≡ e ∷ [] =
          filter-append (is_record_of k) h.journal.doubts (e ∷ [])
          ∙ (ap (λ (es : List ObjEntry). es ++ about_record k (e ∷ [])) (ap (λ (x : RecordKey). about_record x h.journal.doubts)
          (own-key k key e is one.of) ∙ none) ∙ rw is refl) in
          let counted = ap length same in omega (arith, counted)
      few k false isnt =
          let same : about_record k (h.journal.doubts ++ e ∷ []) ≡ about_record k h.journal.doubts =
          filter-append (is_record_of k) h.journal.doubts (e ∷ []) ∙ rw isnt (append-nil (about_record k h.journal.doubts)) in
          let counted = ap length same in let single = kept.single_record k in omega (arith, counted, single)

      own-is : bytes_eq (obj_key e) key.hash ≡ true
      own-is = subst (λ (k : Hash). bytes_eq k key.hash ≡ true) (sym of-hash) (hash-self key.hash)

      doubts-now : doubts_about obj_rules key.hash (singles g.journal.doubts) ≡ doubts_about obj_rules key.hash (singles h.journal.doubts) ++ (e ∷ []) ∷ []
      doubts-now =
          ap (doubts_about obj_rules key.hash) (map-append (λ entry. entry ∷ []) h.journal.doubts (e ∷ []))
          ∙ (filter-append (is_about obj_rules key.hash) (singles h.journal.doubts) ((e ∷ []) ∷ []) ∙ rw own-is refl)

      at-key : h.told ≡ true → CanStand obj_rules (single_history g) key.hash (next key.hash)
      at-key told = left-as (here told)
        where
          can : CanStand obj_rules (single_history h) key.hash (now key.hash)
          can = kept.can told key.hash

          left-as : (next key.hash ≡ now key.hash) ⊎ (next key.hash ≡ obj_applied (now key.hash) e)
              → CanStand obj_rules (single_history g) key.hash (next key.hash)
          left-as (inl same) = (
            can.0,
            subst (λ (xs : List (List ObjEntry)). AreChosen obj_rules xs can.0) (sym doubts-now)
                (chosen-without (doubts_about obj_rules key.hash (singles h.journal.doubts)) (e ∷ []) can.0 can.1),
            same ∙ can.2,
          )
          left-as (inr made) = (
            can.0 ++ e ∷ [],
            subst (λ (xs : List (List ObjEntry)). AreChosen obj_rules xs (can.0 ++ e ∷ [])) (sym doubts-now)
                (chosen-with (doubts_about obj_rules key.hash (singles h.journal.doubts)) (e ∷ []) can.0 can.1),
            made ∙ (ap (λ (x : ObjValue). obj_applied x e) can.2
                ∙ sym (fold-append obj_applied (stands h key.hash) can.0 (e ∷ []))),
          )

      by : h.told ≡ true → (hash : Hash) (b : Bool) → bytes_eq hash key.hash ≡ b → CanStand obj_rules (single_history g) hash (next hash)
      by told hash true is = subst (λ (k : Hash). CanStand obj_rules (single_history g) k (next k)) (sym (hash-same hash key.hash is)) (at-key told)
      by told hash false away =
          subst (CanStand obj_rules (single_history g) hash) (sym (others hash (hash-apart hash key.hash away)))
          (still-can obj_rules are-rules (λ k. bytes_eq k key.hash) hash away (single_history h) (single_history g) (now hash) (λ k. refl)
          (record {
            entries = refl;
            doubts = ap (doubts_about obj_rules hash) (map-append (λ entry. entry ∷ []) h.journal.doubts (e ∷ []))
                ∙ doubts-after obj_rules are-rules (λ k. bytes_eq k key.hash) hash away key.hash (hash-self key.hash) (singles h.journal.doubts)
                ((e ∷ []) ∷ []) (record { is = rw own-is refl; all = (of-hash, tt) }, tt);
          })
          (kept.can told hash))
