-- Which entries a read added: that of the doubt which its listing settled, where its write had been made.
use Rattle.std.proofs.Common.{◌≡◌, ℕ, ◌+◌, ◌-◌, ◌≤◌, Bool, true, false, List, [], ◌∷◌, ◌++◌, length, map, take, nat_lt, bytes_eq, refl, sym, ◌∙◌, ap, subst}
use Rattle.std.proofs.Common.{arith, append_assoc, Option, Some, ◌⊎◌, inl, inr, if◌then◌else◌}
use Rattle.std.proofs.Math.Seq.{take-length}
use Rattle.std.proofs.lemmas.Bool.Decides.{nat_tests}
use Rattle.std.proofs.lemmas.List.{append-nil, append_cancel_left, length-append}
use Rattle.sw_hashpath.specs.declared.name.Name.{Name}
use Rattle.sw_journal.specs.Entries.{first_in, is_write_of}
use Rattle.sw_journal.specs.Settling.{SettlesFirst}
use Rattle.sw_objdir.specs.Calling.{Listed, ReadCalled}
use Rattle.sw_objdir.specs.Stepping.{AddsBriefs}
use Rattle.sw_objdir.specs.Directories.{Kept}
use Rattle.sw_object_steps.proofs.Hashes.{hash-self}
use Rattle.sw_object_steps.specs.Briefs.{brief_of}
use Rattle.sw_object_steps.specs.Journals.{Hash, Journal, written}
use Rattle.sw_object_steps.specs.Outlines.{is_new_to}
use Rattle.sw_object_steps.specs.declared.entry.Brief.{Brief}
use Rattle.sw_object_steps.specs.declared.entry.ObjEntry.{ObjEntry}
use Rattle.sw_object_steps.specs.declared.entry.ObjEntry.TheVariants.{Dropped, Files, Marked, Wrote}
use Rattle.sw_object_steps.specs.declared.got.Got.{Got}
use Rattle.sw_object_steps.specs.declared.got.Got.TheVariants as gots
use Rattle.sw_object_steps.specs.declared.outline.Outline.{Outline}
use Rattle.sw_state.specs.Writes.{tag_of}
use Rattle.sw_volume.specs.Tree.{Folders}
use Rattle.sw_core.specs.Lines.{briefs_in, settled_briefs}

-- the first write of a hash behind other entries
find-past : (hash : Hash) (before : List ObjEntry) (entry : ObjEntry) (behind : List ObjEntry) → written hash before ≡ [] →
    is_write_of hash entry ≡ true
    → first_in hash (before ++ entry ∷ behind) ≡ Some entry
find-past hash [] entry behind none is = ap (λ (b : Bool). if b then Some entry else first_in hash behind) is
find-past hash (Files f filed ∷ before) entry behind none is = find-past hash before entry behind none is
find-past hash (Marked f filed device ∷ before) entry behind none is = find-past hash before entry behind none is
find-past hash (Dropped f filed ∷ before) entry behind none is = find-past hash before entry behind none is
find-past hash (Wrote n v records ∷ before) entry behind none is = by (λ rest. find-past hash before entry behind rest is) (bytes_eq n.hash hash) refl
  where
    by : (written hash before ≡ [] → first_in hash (before ++ entry ∷ behind) ≡ Some entry) → (b : Bool) → bytes_eq n.hash hash ≡ b →
        first_in hash (Wrote n v records ∷ before ++ entry ∷ behind) ≡ Some entry
    by later true match = let never : v ∷ written hash before ≡ [] = sym (ap (λ (b : Bool). if b then v ∷ written hash before else written hash before) match) ∙
        none in cc
    by later false other = ap (λ (b : Bool). if b then Some (Wrote n v records) else first_in hash (before ++ entry ∷ behind)) other
        ∙ later (sym (ap (λ (b : Bool). if b then v ∷ written hash before else written hash before) other) ∙ none)

-- the entries of the settled doubt: none, or one
abbrev IsSettled : Hash → Journal → List ObjEntry → Type 0
IsSettled hash j settled = (settled ≡ []) ⊎ ((entry : ObjEntry) × (settled ≡ entry ∷ []) × (first_in hash j.doubts ≡ Some entry))

settled-one : (hash : Hash) (o : Outline) (j after : Journal) → SettlesFirst hash o j after →
    (settled : List ObjEntry) × (after.entries ≡ j.entries ++ settled) × IsSettled hash j settled
settled-one hash o j after (inl none) = ([], ap (λ (x : Journal). x.entries) none.1 ∙ sym (append-nil j.entries), inl refl)
settled-one hash o j after (inr one) = by (is_new_to o one.write.time (tag_of one.write.kind)) refl
  where
    first : first_in hash j.doubts ≡ Some (Wrote one.name one.write one.records)
    first = ap (first_in hash) one.among ∙ find-past hash one.before (Wrote one.name one.write one.records) one.behind one.first
        (subst (λ (h : Hash). bytes_eq h hash ≡ true) (sym one.of_hash) (hash-self hash))

    by : (b : Bool) → is_new_to o one.write.time (tag_of one.write.kind) ≡ b →
        (settled : List ObjEntry) × (after.entries ≡ j.entries ++ settled) × IsSettled hash j settled
    by true new = (
      [],
      ap (λ (x : Journal). x.entries) one.settled
          ∙ (ap (λ (b : Bool). (if b then record j { doubts = one.before ++ one.behind } else record j
          { entries = j.entries ++ Wrote one.name one.write one.records ∷ []; doubts = one.before ++ one.behind }).entries) new ∙ sym (append-nil j.entries)),
      inl refl,
    )
    by false old = (
      Wrote one.name one.write one.records ∷ [],
      ap (λ (x : Journal). x.entries) one.settled
          ∙ ap (λ (b : Bool). (if b then record j { doubts = one.before ++ one.behind } else record j
          { entries = j.entries ++ Wrote one.name one.write one.records ∷ []; doubts = one.before ++ one.behind }).entries) old,
      inr (Wrote one.name one.write one.records, refl, first),
    )

-- what a read added: the entry of a settled doubt, or nothing
pub record AddsUp (hash : Hash) (j : Journal) (after : Journal) : Type 0 where
  pub settled : List ObjEntry
  pub entries : after.entries ≡ j.entries ++ settled
  pub is_settled : IsSettled hash j settled

kept-adds : (hash : Hash) (o : Outline) (j mid after : Journal) → SettlesFirst hash o j mid → after.entries ≡ mid.entries → AddsUp hash j after
kept-adds hash o j mid after settles same =
    let one = settled-one hash o j mid settles in record { settled = one.0; entries = same ∙ one.1; is_settled = one.2 }

nothing-adds : (hash : Hash) (j after : Journal) → after ≡ j → AddsUp hash j after
nothing-adds hash j after same = record {
  settled = [];
  entries = ap (λ (x : Journal). x.entries) same ∙ sym (append-nil j.entries);
  is_settled = inl refl;
}

abbrev entries_in : Journal → List ObjEntry
entries_in j = j.entries

module _ {V : Type 0} (tells : V → Bool) (files : V → Folders) (faults calls lists : V → ℕ) (k n : Kept V) (name : Name) where
  pub read-adds : (got : Got) → ReadCalled tells files faults calls lists k name got n → AddsUp name.hash k.journal n.journal
  read-adds (gots.Found time content heads front) c = kept-adds name.hash _ k.journal c.seen.journal n.journal c.seen.settles (ap entries_in c.kept)
  read-adds (gots.NotFound time) c = kept-adds name.hash _ k.journal c.seen.journal n.journal c.seen.settles (ap entries_in c.kept)
  read-adds (gots.Damaged bad) c = kept-adds name.hash _ k.journal c.reads.seen.journal n.journal c.reads.seen.settles (ap entries_in c.reads.kept)
  read-adds gots.Failed (inl c) = nothing-adds name.hash k.journal n.journal c.journal
  read-adds gots.Failed (inr c) = kept-adds name.hash _ k.journal c.seen.journal n.journal c.seen.settles (ap entries_in c.kept)
  read-adds gots.NoMemory c = by c.journal
    where
      by : (n.journal ≡ k.journal) ⊎ ((seen : Listed tells files faults calls lists k name) × (n.journal ≡ seen.journal)) →
          AddsUp name.hash k.journal n.journal
      by (inl same) = nothing-adds name.hash k.journal n.journal same
      by (inr listed) = kept-adds name.hash _ k.journal listed.0.journal n.journal listed.0.settles (ap entries_in listed.1)

-- so whether there are more entries tells whether the doubt was settled as made
module _ (hash : Hash) (j after : Journal) (adds : AddsUp hash j after) (added : List ObjEntry) (is : after.entries ≡ j.entries ++ added) where
  added-is : added ≡ adds.settled
  added-is = append_cancel_left j.entries added adds.settled (sym is ∙ adds.entries)

  counted : length after.entries ≡ length j.entries + length adds.settled
  counted = ap length adds.entries ∙ length-append j.entries adds.settled

  pub briefed : settled_briefs (briefs_in (first_in hash j.doubts)) (nat_lt (length j.entries) (length after.entries))
      ≡ map brief_of (take (length added - 0) added)
  briefed = by adds.settled adds.is_settled counted added-is
    where
      by : (settled : List ObjEntry) → IsSettled hash j settled → length after.entries ≡ length j.entries + length settled → added ≡ settled
          → settled_briefs (briefs_in (first_in hash j.doubts)) (nat_lt (length j.entries) (length after.entries))
          ≡ map brief_of (take (length added - 0) added)
      by settled (inl none) count all =
          let few : length settled ≡ 0 = ap length none in
          let still : nat_lt (length j.entries) (length after.entries) ≡ false = grind (arith, nat_tests, count, few) in
          ap (settled_briefs (briefs_in (first_in hash j.doubts))) still
          ∙ sym (ap (λ (es : List ObjEntry). map brief_of (take (length es - 0) es)) (all ∙ none))
      by settled (inr one) count all =
          let many : length settled ≡ 1 = ap length one.1 in
          let more : nat_lt (length j.entries) (length after.entries) ≡ true = grind (arith, nat_tests, count, many) in
          ap (settled_briefs (briefs_in (first_in hash j.doubts))) more
          ∙ (ap (λ (e : Option ObjEntry). briefs_in e) one.2
          ∙ sym (ap (λ (es : List ObjEntry). map brief_of (take (length es - 0) es)) (all ∙ one.1)))

-- a read of a partition adds the entries of settled doubts alone
pub all-briefed : (j after : Journal) (added : List ObjEntry) → after.entries ≡ j.entries ++ added → (none briefs : List Brief) → none ≡ []
    → AddsBriefs j.entries after.entries none briefs → briefs ≡ map brief_of (take (length added - 0) added)
all-briefed j after added is none briefs empty adds =
    let off : length added - 0 ≡ length added = omega arith in
    let whole : take (length added - 0) added ≡ added = ap (λ (n : ℕ). take n added) off ∙ take-length added in
    adds added is ∙ (ap (λ (bs : List Brief). bs ++ map brief_of added) empty ∙ ap (map brief_of) (sym whole))
