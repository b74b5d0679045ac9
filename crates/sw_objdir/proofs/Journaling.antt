-- Steps by the rules, of a journal with several doubts; what they keep, and how a doubt is settled: over plain histories.
use Rattle.std.proofs.Common.{◌≡◌, ◌≢◌, ℕ, ◌≤◌, Bool, true, false, List, [], ◌∷◌, ◌++◌, length, refl, sym, ◌∙◌, ap, subst, inl, inr, ◌⊎◌, if◌then◌else◌, None}
use Rattle.std.specs.List.{All, fold}
use Rattle.std.specs.Str.{bytes_eq}
use Rattle.std.proofs.lemmas.List.{map-append}
use Rattle.sw_hashpath.specs.declared.name.Name.{Name}
use Rattle.sw_history.proofs.Growing.{grows-refl}
use Rattle.sw_journal.specs.Settling.{SettlesOne as DoubtSettles}
use Rattle.sw_object_steps.proofs.Ruling.{are-rules}
use Rattle.sw_object_steps.proofs.SettledSingles.{enters-same, entered, gone, settles-either, stands-entered}
use Rattle.sw_object_steps.proofs.Singles.{singles, told-state}
use Rattle.sw_object_steps.specs.Singles.{History, single_history, single_journal, stands}
use Rattle.sw_object_steps.specs.Histories.{ChangesObject}
use Rattle.sw_object_steps.specs.Recorded.{is_write}
use Rattle.sw_object_steps.specs.Rules.{ObjJournal, Writes, obj_applied, obj_ending, obj_key, obj_rules, obj_touches}
use Rattle.sw_object_steps.specs.Values.{ObjValue}
use Rattle.sw_objdir.proofs.Singled.{AreSingle, all-at, kept-single, own-gone, single-without}
use Rattle.sw_objdir.proofs.WriteSteps.{NoneFiled, write-touches}
use Rattle.sw_objdir.specs.Directories.{IsKept, IsPlain}
use Rattle.sw_outside.specs.Faults.{HasRisen}
use Rattle.sw_object_steps.proofs.Answering.{outline-new}
use Rattle.sw_object_steps.proofs.Hashes.{hash-apart, hash-same, hash-self}
use Rattle.sw_object_steps.specs.Journals.{Hash, Journal, written}
use Rattle.sw_object_steps.specs.Outlines.{is_new_to, outline_of}
use Rattle.sw_object_steps.specs.Steps.{refusal_of}
use Rattle.sw_object_steps.specs.declared.answer.Answer.{Answer}
use Rattle.sw_object_steps.specs.declared.change.Change.{Change}
use Rattle.sw_object_steps.specs.declared.entry.ObjEntry.{ObjEntry}
use Rattle.sw_object_steps.specs.declared.entry.ObjEntry.TheVariants.{Wrote}
use Rattle.sw_object_steps.specs.declared.outline.Outline.{Outline}
use Rattle.sw_pending.specs.declared.filed.Filed.{Filed}
use Rattle.sw_state.proofs.JoinLaws.{comes_again}
use Rattle.sw_state.proofs.StateTests.{new_changes}
use Rattle.sw_state.specs.States.{is_new, joined}
use Rattle.sw_state.specs.Writes.{tag_of}
use Rattle.sw_state.specs.declared.state.State.{State}
use Rattle.sw_state.specs.declared.write.Write.{Write}
use Rattle.sw_step.proofs.Keeping.{keeps-held, keeps-its-key, settled-same, still-can}
use Rattle.sw_step.specs.Rules.{CanStand, Ending, Fails, NoneOf, doubts_about}
use Rattle.sw_step.specs.Steps.{EndsSeen, OnlySettles, SettlesOne}

abbrev pub after : History → Journal → ℕ → History
after h j f = record { told = h.told; opening = h.opening; journal = j; faults = f }

-- a later journal of the same lock
pub record IsLater (j after : Journal) : Type 0 where
  pub entries : (more : List ObjEntry) × (after.entries ≡ j.entries ++ more)
  pub max_entries : after.max_entries ≡ j.max_entries
  pub max_bytes : after.max_bytes ≡ j.max_bytes

-- ---- a step

-- this state, and these records
abbrev pub read_with : State → ObjValue → ObjValue
read_with s v = record { state = s; records = v.records }

module _ (h : History) (now : Hash → ObjValue) (kept : IsKept h now) (name : Name) (change : Change) (answer : Answer) (j : Journal) (f : ℕ)
    (later : IsLater h.journal j) (up : h.faults ≤ f) (e : Ending) (ends : obj_ending answer ≡ e) (risen : e ≡ Fails → HasRisen h.faults f) where
  -- it was answered by what stood, with no doubt left of what it touches
  pub seen-step : (read : ObjValue) → (h.told ≡ true → read ≡ now name.hash)
      → NoneOf (obj_touches read name.hash (Writes name change)) (doubts_about obj_rules name.hash (single_journal h.journal).doubts) → (made : List ObjEntry)
      → EndsSeen obj_rules e read (single_journal h.journal) name.hash (Writes name change) answer made (single_journal j)
      → (t : ObjValue) → (h.told ≡ true → t ≡ fold obj_applied (now name.hash) made)
      → ChangesObject true (single_history h) now name change answer (single_history (after h j f)) t
  seen-step read is settled made so t left = record {
    own = hash-self name.hash;
    before = single_history h;
    looked = true;
    read = read;
    made = made;
    follows = grows-refl (single_history h);
    settles = λ alone. (0, refl);
    settled = λ x. settled;
    answered = subst (λ (x : Ending). EndsSeen obj_rules x read (single_journal h.journal) name.hash (Writes name change) answer made
        (single_journal j)) (sym ends) so;
    orderly = λ damaged. absurd (subst (λ (x : Ending). EndsSeen obj_rules x read (single_journal h.journal) name.hash (Writes name change)
        answer made (single_journal j)) (sym ends ∙ damaged) so);
    after = record {
      told = refl;
      opening = λ k. refl;
      entries = later.entries;
      max_entries = later.max_entries;
      max_bytes = later.max_bytes;
      faults = up;
    };
    failed = λ is_failed. risen (sym ends ∙ is_failed);
    known = λ told x. subst (λ (v : ObjValue). CanStand obj_rules (single_history h) name.hash v) (sym (is told)) (kept.can told name.hash);
    kept = λ alone told other reached. kept.can told other;
    held = λ alone told x. is told;
    leaves = λ alone told. left told;
  }

  -- of a write the records that stand don't matter
  pub write-step : is_write change ≡ true → written name.hash h.journal.doubts ≡ [] → (s : State) → (h.told ≡ true → s ≡ (now name.hash).state)
      → (refusal_of s change ≡ None → NoneFiled name.hash name change h.journal.doubts) → (made : List ObjEntry)
      → EndsSeen obj_rules e (read_with s (now name.hash)) (single_journal h.journal) name.hash (Writes name change) answer made (single_journal j)
      → (t : ObjValue) → (h.told ≡ true → t ≡ fold obj_applied (now name.hash) made)
      → ChangesObject true (single_history h) now name change answer (single_history (after h j f)) t
  write-step writes none s is records = seen-step (read_with s (now name.hash)) (λ told i. record { state = is told i; records = (now name.hash).records })
      (write-touches (read_with s (now name.hash)) name.hash name change writes h.journal.doubts none records)

-- what a step leaves is kept
pub kept-after : (h : History) (now : Hash → ObjValue) (kept : IsKept h now) (name : Name) (change : Change) (answer : Answer) (g : History)
    (next : Hash → ObjValue)
    → ChangesObject true (single_history h) now name change answer (single_history g) (next name.hash)
    → ((hash : Hash) → hash ≢ name.hash → next hash ≡ now hash) → (g.told ≡ true → h.told ≡ true) → AreSingle g.journal.doubts → IsKept g next
kept-after h now kept name change answer g next step others told_before are = record {
  can = λ told hash. by told hash (bytes_eq hash name.hash) refl;
  single = are.single;
  single_record = are.single_record;
  plain = are.plain;
}
  where
    by : g.told ≡ true → (hash : Hash) (b : Bool) → bytes_eq hash name.hash ≡ b → CanStand obj_rules (single_history g) hash (next hash)
    by told hash true is = subst (λ (k : Hash). CanStand obj_rules (single_history g) k (next k)) (sym (hash-same hash name.hash is))
        (keeps-its-key obj_rules (single_history h) now name.hash (Writes name change) answer (single_history g) (next name.hash) are-rules step told)
    by told hash false is =
        let away : hash ≢ name.hash = hash-apart hash name.hash is in
        subst (λ (v : ObjValue). CanStand obj_rules (single_history g) hash v) (sym (others hash away))
        (keeps-held obj_rules (single_history h) now name.hash (Writes name change) answer (single_history g) (next name.hash) hash are-rules
        step away told (kept.can (told_before told) hash))

-- ---- a doubt is settled

-- the journal that settling a doubt between others leaves: where it wasn't made it goes, and else it becomes the last entry
abbrev pub settled_if : Bool → Journal → List ObjEntry → ObjEntry → List ObjEntry → Journal
settled_if b j xs e ys = if b then record j { doubts = xs ++ ys } else record j { entries = j.entries ++ e ∷ []; doubts = xs ++ ys }

pub doubts-are : (b : Bool) (j : Journal) (xs : List ObjEntry) (e : ObjEntry) (ys : List ObjEntry) → (settled_if b j xs e ys).doubts ≡ xs ++ ys
doubts-are true j xs e ys = refl
doubts-are false j xs e ys = refl

-- it alone goes, or goes and is entered
pub settles-if : (j : Journal) (xs ys : List ObjEntry) (e : ObjEntry) → j.doubts ≡ xs ++ e ∷ ys → (b : Bool)
    → SettlesOne obj_rules (λ key. bytes_eq key (obj_key e)) (single_journal j) (single_journal (settled_if b j xs e ys))
settles-if j xs ys e among b = record {
  front = singles xs;
  doubt = e ∷ [];
  behind = singles ys;
  among = ap singles among ∙ map-append (λ entry. entry ∷ []) xs (e ∷ ys);
  is_at = (obj_key e, hash-self (obj_key e), record { is = rw (hash-self (obj_key e)) refl; all = (refl, tt) });
  settled = by b;
}
  where
    s : ObjJournal
    s = single_journal j

    by : (c : Bool) → (single_journal (settled_if c j xs e ys) ≡ record s { doubts = singles xs ++ singles ys })
        ⊎ (single_journal (settled_if c j xs e ys) ≡ record s { entries = s.entries ++ e ∷ []; doubts = singles xs ++ singles ys })
    by true = inl (ap (λ (ds : List (List ObjEntry)). record s { doubts = ds }) (map-append (λ entry. entry ∷ []) xs ys))
    by false = inr (ap (λ (ds : List (List ObjEntry)). record s { entries = s.entries ++ e ∷ []; doubts = ds }) (map-append (λ entry. entry ∷ []) xs ys))

-- where its own hash still may stand for what it holds, all is kept
pub kept-settled : (h : History) (now : Hash → ObjValue) → IsKept h now → (xs ys : List ObjEntry) (e : ObjEntry) → h.journal.doubts ≡ xs ++ e ∷ ys → (b : Bool)
    → (h.told ≡ true → CanStand obj_rules (single_history (record h { journal = settled_if b h.journal xs e ys })) (obj_key e) (now (obj_key e)))
    → IsKept (record h { journal = settled_if b h.journal xs e ys }) now
kept-settled h now kept xs ys e among b own = record {
  can = λ told hash. by told hash (bytes_eq hash (obj_key e)) refl;
  single = are.single;
  single_record = are.single_record;
  plain = are.plain;
}
  where
    next : History
    next = record h { journal = settled_if b h.journal xs e ys }

    are : AreSingle (settled_if b h.journal xs e ys).doubts
    are = subst AreSingle (sym (doubts-are b h.journal xs e ys)) (single-without xs ys e (subst AreSingle among (kept-single h now kept)))

    by : h.told ≡ true → (hash : Hash) (c : Bool) → bytes_eq hash (obj_key e) ≡ c → CanStand obj_rules (single_history next) hash (now hash)
    by told hash true is = subst (λ (k : Hash). CanStand obj_rules (single_history next) k (now k)) (sym (hash-same hash (obj_key e) is)) (own told)
    by told hash false away =
        still-can obj_rules are-rules (λ key. bytes_eq key (obj_key e)) hash away (single_history h) (single_history next) (now hash) (λ k. refl)
        (settled-same obj_rules are-rules (λ key. bytes_eq key (obj_key e)) hash away 1 (single_journal h.journal) (single_journal next.journal)
        (single_journal next.journal, settles-if h.journal xs ys e among b, refl))
        (kept.can told hash)

-- ---- that of a write

module _ (h : History) (v : ObjValue) (xs ys : List ObjEntry) (name : Name) (w : Write) (among : h.journal.doubts ≡ xs ++ Wrote name w [] ∷ ys)
    (first : written name.hash xs ≡ []) (none : written name.hash (xs ++ ys) ≡ []) (can : CanStand obj_rules (single_history h) name.hash v) where
  abbrev doubt : ObjEntry
  doubt = Wrote name w []

  abbrev left : ObjValue
  left = stands h name.hash

  either : CanStand obj_rules (single_history (gone h doubt xs ys)) name.hash v ⊎ CanStand obj_rules (single_history (entered h doubt xs ys)) name.hash v
  either = settles-either h doubt xs ys among (λ is. first) (λ key is. cc) v can

  -- where the write would change what now stands it wasn't made, and else it was
  can-settled : (b : Bool) → is_new v.state w.time (tag_of w.kind) ≡ b
      → CanStand obj_rules (single_history (record h { journal = settled_if b h.journal xs doubt ys })) name.hash v
  can-settled true new = by either
    where
      by : CanStand obj_rules (single_history (gone h doubt xs ys)) name.hash v ⊎ CanStand obj_rules (single_history (entered h doubt xs ys)) name.hash v
          → CanStand obj_rules (single_history (record h { journal = settled_if true h.journal xs doubt ys })) name.hash v
      by (inl isnt) = isnt
      by (inr is) =
          let joins : v.state ≡ joined left.state w =
          told-state (entered h doubt xs ys) name.hash v is none ∙ ap (λ (x : ObjValue). x.state) (stands-entered h doubt xs ys) in
          let old : is_new (joined left.state w) w.time (tag_of w.kind) ≡ false = (new_changes (joined left.state w) w).1 (comes_again left.state w) in
          let clash = sym new ∙ (ap (λ (s : State). is_new s w.time (tag_of w.kind)) joins ∙ old) in cc
  can-settled false old = by either
    where
      by : CanStand obj_rules (single_history (gone h doubt xs ys)) name.hash v ⊎ CanStand obj_rules (single_history (entered h doubt xs ys)) name.hash v
          → CanStand obj_rules (single_history (record h { journal = settled_if false h.journal xs doubt ys })) name.hash v
      by (inl isnt) =
          let stays : v.state ≡ left.state = told-state (gone h doubt xs ys) name.hash v isnt none in
          let adds : joined left.state w ≡ left.state =
          (new_changes left.state w).0 (sym (ap (λ (s : State). is_new s w.time (tag_of w.kind)) stays) ∙ old) in
          enters-same h doubt xs ys v (λ i. record { state = adds i; records = left.records }) isnt
      by (inr is) = is

-- ---- by what a listing told of its hash

module _ (h : History) (now : Hash → ObjValue) (kept : IsKept h now) (hash : Hash) (o : Outline) (j : Journal) (one : DoubtSettles hash o h.journal j) where
  abbrev wrote : ObjEntry
  wrote = Wrote one.name one.write []

  abbrev is_gone : Bool
  is_gone = is_new_to o one.write.time (tag_of one.write.kind)

  -- it files no record
  none-filed : one.records ≡ []
  none-filed = all-at IsPlain (Wrote one.name one.write one.records) one.behind one.before (subst (All IsPlain) one.among kept.plain)

  among : h.journal.doubts ≡ one.before ++ wrote ∷ one.behind
  among = one.among ∙ ap (λ (records : List Filed). one.before ++ Wrote one.name one.write records ∷ one.behind) none-filed

  settled-as : j ≡ settled_if is_gone h.journal one.before wrote one.behind
  settled-as = one.settled ∙ ap (λ (records : List Filed). settled_if is_gone h.journal one.before (Wrote one.name one.write records) one.behind) none-filed

  few : length (written one.name.hash (one.before ++ wrote ∷ one.behind)) ≤ 1
  few = subst (λ (ds : List ObjEntry). length (written one.name.hash ds) ≤ 1) among (kept.single one.name.hash)

  pub one-settles : OnlySettles obj_rules (λ key. bytes_eq key hash) (single_history h) (single_history (record h { journal = j }))
  one-settles = (
    1,
    (
      single_journal j,
      subst (λ (x : Journal). SettlesOne obj_rules (λ key. bytes_eq key hash) (single_journal h.journal) (single_journal x)) (sym settled-as)
          (subst (λ (k : Hash). SettlesOne obj_rules (λ key. bytes_eq key k) (single_journal h.journal)
          (single_journal (settled_if is_gone h.journal one.before wrote one.behind))) one.of_hash
          (settles-if h.journal one.before one.behind wrote among is_gone)),
      refl,
    ),
  )

  pub one-kept : (h.told ≡ true → o ≡ outline_of (now hash).state) → IsKept (record h { journal = j }) now
  one-kept seen = subst (λ (x : Journal). IsKept (record h { journal = x }) now) (sym settled-as)
      (kept-settled h now kept one.before one.behind wrote among is_gone
      (λ told. can-settled h (now one.name.hash) one.before one.behind one.name one.write among
      (subst (λ (k : Hash). written k one.before ≡ []) (sym one.of_hash) one.first) (own-gone one.before one.behind one.name one.write [] few)
      (kept.can told one.name.hash) is_gone
      (ap (λ (k : Hash). is_new (now k).state one.write.time (tag_of one.write.kind)) one.of_hash
      ∙ (sym (outline-new (now hash).state one.write.time (tag_of one.write.kind))
      ∙ ap (λ (x : Outline). is_new_to x one.write.time (tag_of one.write.kind)) (sym (seen told))))))

  pub one-gone : written hash j.doubts ≡ []
  one-gone =
      ap (λ (x : Journal). written hash x.doubts) settled-as
      ∙ (ap (written hash) (doubts-are is_gone h.journal one.before wrote one.behind)
      ∙ subst (λ (k : Hash). written k (one.before ++ one.behind) ≡ []) one.of_hash (own-gone one.before one.behind one.name one.write [] few))
