-- One doubt of a hash is settled: what stands stays what can stand, with the doubt gone or with its entry made.
use Rattle.std.proofs.Common.{◌≡◌, true, List, [], ◌∷◌, ◌++◌, bytes_eq, refl, sym, ◌∙◌, ap, subst, inl, inr, ◌⊎◌}
use Rattle.std.specs.List.{fold}
use Rattle.std.proofs.lemmas.List.{map-append}
use Rattle.std.proofs.lemmas.List.Elements.{filter-append}
use Rattle.std.proofs.lemmas.List.Sums.{fold-append}
use Rattle.sw_object_steps.proofs.Apart.{AreApart, apart-swap}
use Rattle.sw_object_steps.proofs.Hashes.{hash-self}
use Rattle.sw_object_steps.proofs.Singles.{none-recorded, none-written, singles}
use Rattle.sw_object_steps.specs.Journals.{written}
use Rattle.sw_object_steps.specs.Recorded.{doubts_record, doubts_write}
use Rattle.sw_object_steps.specs.Rules.{obj_applied, obj_key, obj_rules}
use Rattle.sw_object_steps.specs.Singles.{History, recorded, single_history, stands}
use Rattle.sw_object_steps.specs.Values.{ObjValue}
use Rattle.sw_object_steps.specs.declared.entry.ObjEntry.{ObjEntry}
use Rattle.sw_pending.specs.declared.key.RecordKey.{RecordKey}
use Rattle.sw_step.specs.Rules.{AreChosen, CanStand, NoneOf, about, doubts_about, is_about}

-- ---- one doubt among others

abbrev AllApart : List (List ObjEntry) → List ObjEntry → Type 0
AllApart [] d = Unit {0}
AllApart (x ∷ xs) d = AreApart d x × AllApart xs d

-- it was chosen or not: if it was, it may as well have been made before the others
abbrev ChosenBut : List (List ObjEntry) → List ObjEntry → List (List ObjEntry) → List ObjEntry → Type 0
ChosenBut front d behind made = (rest : List ObjEntry) × AreChosen obj_rules (front ++ behind) rest
    × ((made ≡ rest) ⊎ ((v : ObjValue) → fold obj_applied v made ≡ fold obj_applied (fold obj_applied v d) rest))

chosen-but : (front : List (List ObjEntry)) (d : List ObjEntry) (behind : List (List ObjEntry)) (made : List ObjEntry) → AllApart front d
    → AreChosen obj_rules (front ++ d ∷ behind) made → ChosenBut front d behind made
chosen-but [] d behind made apart are = (are.0, are.1, by are.2)
  where
    by : (made ≡ are.0) ⊎ (made ≡ d ++ are.0) → (made ≡ are.0) ⊎ ((v : ObjValue) → fold obj_applied v made ≡ fold obj_applied (fold obj_applied v d) are.0)
    by (inl same) = inl same
    by (inr more) = inr (λ v. ap (λ (es : List ObjEntry). fold obj_applied v es) more ∙ fold-append obj_applied v d are.0)
chosen-but (x ∷ front) d behind made apart are = by (chosen-but front d behind are.0 apart.1 are.1) are.2
  where
    by : ChosenBut front d behind are.0 → (made ≡ are.0) ⊎ (made ≡ x ++ are.0) → ChosenBut (x ∷ front) d behind made
    by rest (inl same) = subst (λ (es : List ObjEntry). ChosenBut (x ∷ front) d behind es) (sym same)
        (rest.0, (rest.0, rest.1, inl refl), rest.2)
    by rest (inr more) = subst (λ (es : List ObjEntry). ChosenBut (x ∷ front) d behind es) (sym more)
        (x ++ rest.0, (rest.0, rest.1, inr refl), also rest.2)
      where
        also : (are.0 ≡ rest.0) ⊎ ((v : ObjValue) → fold obj_applied v are.0 ≡ fold obj_applied (fold obj_applied v d) rest.0)
            → (x ++ are.0 ≡ x ++ rest.0) ⊎ ((v : ObjValue) → fold obj_applied v (x ++ are.0) ≡ fold obj_applied (fold obj_applied v d) (x ++ rest.0))
        also (inl same) = inl (ap (λ (es : List ObjEntry). x ++ es) same)
        also (inr moved) = inr (λ v.
            fold-append obj_applied v x are.0
            ∙ (moved (fold obj_applied v x)
            ∙ (ap (λ (w : ObjValue). fold obj_applied w rest.0) (apart-swap d x apart.0 v)
            ∙ sym (fold-append obj_applied (fold obj_applied v d) x rest.0))))

-- ---- one entry of a hash among others

module _ (e : ObjEntry) where
  all-apart : (ds : List (List ObjEntry)) → (doubts_write (e ∷ []) ≡ true → NoneOf doubts_write ds)
      → ((key : RecordKey) → doubts_record key (e ∷ []) ≡ true → NoneOf (doubts_record key) ds) → AllApart ds (e ∷ [])
  all-apart [] writes records = tt
  all-apart (d ∷ ds) writes records = (
    record { writes = λ is. (writes is).0; records = λ key is. (records key is).0 },
    all-apart ds (λ is. (writes is).1) (λ key is. (records key is).1),
  )

-- the history with other entries and doubts
abbrev pub with_lists : History → List ObjEntry → List ObjEntry → History
with_lists h entries doubts = record h { journal = record h.journal { entries = entries; doubts = doubts } }

module _ (h : History) (e : ObjEntry) (xs ys : List ObjEntry) where
  -- the doubt goes
  abbrev pub gone : History
  gone = with_lists h h.journal.entries (xs ++ ys)

  -- it goes, and enters what it doubted
  abbrev pub entered : History
  entered = with_lists h (h.journal.entries ++ e ∷ []) (xs ++ ys)

  pub stands-entered : stands entered (obj_key e) ≡ obj_applied (stands h (obj_key e)) e
  stands-entered =
      ap (λ (es : List ObjEntry). fold obj_applied (h.opening (obj_key e)) es)
      (filter-append (λ (x : ObjEntry). bytes_eq (obj_key x) (obj_key e)) h.journal.entries (e ∷ [])
      ∙ ap (λ (es : List ObjEntry). about obj_rules (obj_key e) h.journal.entries ++ es) (rw (hash-self (obj_key e)) refl))
      ∙ fold-append obj_applied (h.opening (obj_key e)) (about obj_rules (obj_key e) h.journal.entries) (e ∷ [])

  around : (zs : List ObjEntry)
      → doubts_about obj_rules (obj_key e) (singles (xs ++ zs))
      ≡ doubts_about obj_rules (obj_key e) (singles xs) ++ doubts_about obj_rules (obj_key e) (singles zs)
  around zs = ap (doubts_about obj_rules (obj_key e)) (map-append (λ entry. entry ∷ []) xs zs)
      ∙ filter-append (is_about obj_rules (obj_key e)) (singles xs) (singles zs)

  module _ (among : h.journal.doubts ≡ xs ++ e ∷ ys) (writes : doubts_write (e ∷ []) ≡ true → written (obj_key e) xs ≡ [])
      (records : (key : RecordKey) → doubts_record key (e ∷ []) ≡ true → recorded (obj_key e) key xs ≡ []) (v : ObjValue) where
    -- it wasn't made, or it was
    pub settles-either : CanStand obj_rules (single_history h) (obj_key e) v
        → CanStand obj_rules (single_history gone) (obj_key e) v ⊎ CanStand obj_rules (single_history entered) (obj_key e) v
    settles-either can = by chosen.2
      where
        front : List (List ObjEntry)
        front = doubts_about obj_rules (obj_key e) (singles xs)

        behind : List (List ObjEntry)
        behind = doubts_about obj_rules (obj_key e) (singles ys)

        doubts-are : doubts_about obj_rules (obj_key e) (singles h.journal.doubts) ≡ front ++ (e ∷ []) ∷ behind
        doubts-are = ap (λ (ds : List ObjEntry). doubts_about obj_rules (obj_key e) (singles ds)) among
            ∙ (around (e ∷ ys) ∙ ap (λ (ds : List (List ObjEntry)). front ++ ds) (rw (hash-self (obj_key e)) refl))

        chosen : ChosenBut front (e ∷ []) behind can.0
        chosen = chosen-but front (e ∷ []) behind can.0
            (all-apart e front (λ is. none-written (obj_key e) xs (writes is)) (λ key is. none-recorded (obj_key e) key xs (records key is)))
            (subst (λ (ds : List (List ObjEntry)). AreChosen obj_rules ds can.0) doubts-are can.1)

        others : AreChosen obj_rules (doubts_about obj_rules (obj_key e) (singles (xs ++ ys))) chosen.0
        others = subst (λ (ds : List (List ObjEntry)). AreChosen obj_rules ds chosen.0) (sym (around ys)) chosen.1

        by : (can.0 ≡ chosen.0) ⊎ ((w : ObjValue) → fold obj_applied w can.0 ≡ fold obj_applied (fold obj_applied w (e ∷ [])) chosen.0)
            → CanStand obj_rules (single_history gone) (obj_key e) v ⊎ CanStand obj_rules (single_history entered) (obj_key e) v
        by (inl same) = inl (chosen.0, others, can.2 ∙ ap (λ (es : List ObjEntry). fold obj_applied (stands h (obj_key e)) es) same)
        by (inr moved) = inr (
          chosen.0,
          others,
          can.2 ∙ (moved (stands h (obj_key e)) ∙ ap (λ (w : ObjValue). fold obj_applied w chosen.0) (sym stands-entered)),
        )

  -- where its entry changes nothing that the entries tell, it may as well have been made
  pub enters-same : (v : ObjValue) → obj_applied (stands h (obj_key e)) e ≡ stands h (obj_key e) → CanStand obj_rules (single_history gone) (obj_key e) v
      → CanStand obj_rules (single_history entered) (obj_key e) v
  enters-same v same can = (
    can.0,
    can.1,
    can.2 ∙ ap (λ (w : ObjValue). fold obj_applied w can.0) (sym (stands-entered ∙ same)),
  )
