-- Finding the first entry that meets a test, and the lists on both sides of it.
use Rattle.std.proofs.Common.{◌≡◌, ℕ, ◌+◌, ◌<◌, zero, suc, Bool, true, false, List, [], ◌∷◌, ◌++◌, length, take, drop, slice_index_or, refl, ap, sym, ◌∙◌}
use Rattle.std.proofs.Common.{arith, if◌then◌else◌, Option}
use Rattle.std.proofs.lemmas.List.{get_or_default}
use Rattle.std.proofs.lemmas.List.Elements.{filter_more}
use Rattle.std.specs.List.{filter}
use Rattle.std.specs.Str.{bytes_eq}
use Rattle.sw_hashpath.specs.declared.name.Name.{Name}
use Rattle.sw_object_steps.proofs.Hashes.{hash-same}
use Rattle.sw_object_steps.specs.Journals.{Hash, Journal, written}
use Rattle.sw_object_steps.specs.Outlines.{is_new_to}
use Rattle.sw_object_steps.specs.declared.entry.ObjEntry.{ObjEntry}
use Rattle.sw_object_steps.specs.declared.entry.ObjEntry.TheVariants.{Dropped, Files, Marked, Wrote}
use Rattle.sw_object_steps.specs.declared.outline.Outline.{Outline}
use Rattle.sw_pending.specs.declared.filed.Filed.{Filed}
use Rattle.sw_pending.specs.declared.key.RecordKey.{RecordKey}
use Rattle.sw_state.specs.Writes.{tag_of}
use Rattle.sw_state.specs.declared.write.Write.{Write}
use Rattle.sw_journal.specs.Entries.{IsFirstOf, is_new_entry, is_record_of, is_write_of}
use Rattle.sw_journal.specs.Settling.{IsSettledBy, SettlesOne, SettlesRecord, settled_by}

-- ---- the first that meets a test

pub none-next : (test : ObjEntry → Bool) (es : List ObjEntry) (i : ℕ) (d : ObjEntry) → i < length es → filter test (take i es) ≡ []
    → test (slice_index_or es i d) ≡ false → filter test (take (i + 1) es) ≡ []
none-next test es i d lt none other = filter_more test es i d lt ∙ rw (none, other) refl

pub is-first : (test : ObjEntry → Bool) (es : List ObjEntry) (at : ℕ) (e : ObjEntry) → at < length es → e ≡ slice_index_or es at e → test e ≡ true
    → filter test (take at es) ≡ [] → IsFirstOf test es at
is-first test es at e lt is meets none = record {
  within = lt;
  meets = λ other. ap test (get_or_default es at other e lt ∙ sym is) ∙ meets;
  first = none;
}

-- the entry there
pub first-meets : (test : ObjEntry → Bool) (es : List ObjEntry) (at : ℕ) (e : ObjEntry) → IsFirstOf test es at → e ≡ slice_index_or es at e → test e ≡ true
first-meets test es at e first is = ap test is ∙ first.meets e

-- entries of which none is a write of the hash have no write of it
pub none-written : (hash : Hash) (es : List ObjEntry) → filter (is_write_of hash) es ≡ [] → written hash es ≡ []
none-written hash [] none = refl
none-written hash (Files filed_by filed ∷ es) none = none-written hash es none
none-written hash (Marked filed_by filed device ∷ es) none = none-written hash es none
none-written hash (Dropped filed_by filed ∷ es) none = none-written hash es none
none-written hash (Wrote n w records ∷ es) none = by (bytes_eq n.hash hash) none (λ rest. none-written hash es rest)
  where
    by : (b : Bool) → (if b then Wrote n w records ∷ filter (is_write_of hash) es else filter (is_write_of hash) es) ≡ []
        → (filter (is_write_of hash) es ≡ [] → written hash es ≡ []) → (if b then w ∷ written hash es else written hash es) ≡ []
    by true some again = absurd cc
    by false rest again = again rest

-- ---- the lists on both sides of it

split-at : (ds : List ObjEntry) (i : ℕ) (d : ObjEntry) → i < length ds → ds ≡ take i ds ++ slice_index_or ds i d ∷ drop (suc i) ds
split-at [] i d lt = absurd (omega (arith, lt))
split-at (x ∷ ds) zero d lt = refl
split-at (x ∷ ds) (suc i) d lt = ap (λ (l : List ObjEntry). x ∷ l) (split-at ds i d (omega (arith, lt)))

-- the same of the entry that was taken out
pub split-of : (ds : List ObjEntry) (i : ℕ) (e : ObjEntry) → i < length ds → e ≡ slice_index_or ds i e → ds ≡ take i ds ++ e ∷ drop (i + 1) ds
split-of ds i e lt is =
    let one : suc i ≡ i + 1 = omega arith in
    split-at ds i e lt ∙ (ap (λ (x : ObjEntry). take i ds ++ x ∷ drop (suc i) ds) (sym is) ∙ ap (λ (n : ℕ). take i ds ++ e ∷ drop n ds) one)

-- ---- what settling it leaves

-- the journal, by what the write would change
settled-is : (o : Outline) (j : Journal) (before behind entries rest : List ObjEntry) (name : Name) (w : Write) (records : List Filed) (b : Bool)
    → is_new_to o w.time (tag_of w.kind) ≡ b → rest ≡ before ++ behind
    → entries ≡ (if b then j.entries else j.entries ++ Wrote name w records ∷ [])
    → (let k : Journal = record j { entries = entries; doubts = rest } in k) ≡ settled_by o j before name w records behind
settled-is o j before behind entries rest name w records true new gone same = rw (new, gone, same) refl
settled-is o j before behind entries rest name w records false old gone more = rw (old, gone, more) refl

pub settles-one : (hash : Hash) (o : Outline) (j : Journal) (at : ℕ) (e : ObjEntry) (entries rest : List ObjEntry) (b : Bool)
    → IsFirstOf (is_write_of hash) j.doubts at → e ≡ slice_index_or j.doubts at e → rest ≡ take at j.doubts ++ drop (at + 1) j.doubts
    → is_new_entry o e ≡ b → entries ≡ (if b then j.entries else j.entries ++ e ∷ []) → SettlesOne hash o j (record j { entries = entries; doubts = rest })
settles-one hash o j at (Files filed_by filed) entries rest b first is gone new same =
    absurd (let meets = first-meets (is_write_of hash) j.doubts at (Files filed_by filed) first is in cc)
settles-one hash o j at (Marked filed_by filed device) entries rest b first is gone new same =
    absurd (let meets = first-meets (is_write_of hash) j.doubts at (Marked filed_by filed device) first is in cc)
settles-one hash o j at (Dropped filed_by filed) entries rest b first is gone new same =
    absurd (let meets = first-meets (is_write_of hash) j.doubts at (Dropped filed_by filed) first is in cc)
settles-one hash o j at (Wrote n w records) entries rest b first is gone new same = record {
  before = take at j.doubts;
  name = n;
  write = w;
  records = records;
  behind = drop (at + 1) j.doubts;
  among = split-of j.doubts at (Wrote n w records) first.within is;
  first = none-written hash (take at j.doubts) first.first;
  of_hash = hash-same n.hash hash (first-meets (is_write_of hash) j.doubts at (Wrote n w records) first is);
  settled = settled-is o j (take at j.doubts) (drop (at + 1) j.doubts) entries rest n w records b new gone same;
}

pub settles-record : (key : RecordKey) (stood : Option Filed) (j : Journal) (at : ℕ) (e : ObjEntry) (after : Journal)
    → IsFirstOf (is_record_of key) j.doubts at → e ≡ slice_index_or j.doubts at e
    → IsSettledBy stood j (take at j.doubts) e (drop (at + 1) j.doubts) after → SettlesRecord key stood j after
settles-record key stood j at e after first is settled = record {
  before = take at j.doubts;
  entry = e;
  behind = drop (at + 1) j.doubts;
  among = split-of j.doubts at e first.within is;
  first = first.first;
  of_key = first-meets (is_record_of key) j.doubts at e first is;
  settled = settled;
}
