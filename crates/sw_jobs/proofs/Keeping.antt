-- What a map of borrowed keys keeps, as names and times see it.
use Rattle.std.proofs.Common.{◌≡◌, Bool, true, false, cond, List, [], ◌∷◌, Some, refl, ap, Bor}
use Rattle.std.specs.Prelude.{map}
use Rattle.std.specs.BTreeMap.{insert_entry, is_at}
use Rattle.std.specs.Map.{lookup}
use Rattle.std.specs.Option.{option_copied}
use Rattle.std.specs.Ordering.{is_eq, match_ordering}
use Rattle.std.specs.declared.cmp.Ordering.{Ordering}
use Rattle.std.specs.declared.cmp.Ordering.TheVariants.{Less, Equal, Greater}
use Rattle.sw_jobs.specs.Firsts.{Borrowed, Kept, key_cmp, key_seen}
use Rattle.sw_jobs.specs.declared.job.Job.{Job}

abbrev pub Entry : Type 0
Entry = Borrowed × Bor Job

abbrev pub entries_seen : List Entry → Kept
entries_seen es = map (λ e. (key_seen e.0, e.1.now)) es

abbrev pub borrowed_cmp : Borrowed → Borrowed → Ordering
borrowed_cmp a b = key_cmp (key_seen a) (key_seen b)

pub seen-insert : (es : List Entry) (k : Borrowed) (j : Bor Job)
    → entries_seen (insert_entry borrowed_cmp es k j) ≡ insert_entry key_cmp (entries_seen es) (key_seen k) j.now
seen-insert [] k j = refl
seen-insert (e ∷ es) k j = by (borrowed_cmp k e.0) (seen-insert es k j)
  where
    by : (o : Ordering) → entries_seen (insert_entry borrowed_cmp es k j) ≡ insert_entry key_cmp (entries_seen es) (key_seen k) j.now
        → entries_seen (match_ordering o ((k, j) ∷ e ∷ es) ((e.0, j) ∷ es) (e ∷ insert_entry borrowed_cmp es k j))
        ≡ match_ordering o ((key_seen k, j.now) ∷ entries_seen (e ∷ es)) ((key_seen e.0, j.now) ∷ entries_seen es)
        ((key_seen e.0, e.1.now) ∷ insert_entry key_cmp (entries_seen es) (key_seen k) j.now)
    by Less rest = refl
    by Equal rest = refl
    by Greater rest = ap (λ (kept : Kept). (key_seen e.0, e.1.now) ∷ kept) rest

pub seen-lookup : (es : List Entry) (k : Borrowed)
    → lookup (is_at (key_cmp (key_seen k))) (entries_seen es) ≡ option_copied (lookup (is_at (borrowed_cmp k)) es)
seen-lookup [] k = refl
seen-lookup (e ∷ es) k = by (is_eq (borrowed_cmp k e.0)) (seen-lookup es k)
  where
    by : (b : Bool) → lookup (is_at (key_cmp (key_seen k))) (entries_seen es) ≡ option_copied (lookup (is_at (borrowed_cmp k)) es)
        → cond b (Some e.1.now) (lookup (is_at (key_cmp (key_seen k))) (entries_seen es))
        ≡ option_copied (cond b (Some e.1) (lookup (is_at (borrowed_cmp k)) es))
    by true rest = refl
    by false rest = rest
