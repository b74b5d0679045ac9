-- What is kept at the paths that a volume takes.
use Rattle.std.proofs.Common.{◌≡◌, ℕ, List, Option, None, IsSome, IfOk, Result, Ok, Err, sym, ap, subst}
use Rattle.std.proofs.lemmas.Bool.{cond-false}
use Rattle.std.specs.Str.{bytes_eq}
use Rattle.sw_disk.proofs.Turning.{differs}
use Rattle.sw_disk.specs.Disk.{DiskState}
use Rattle.sw_disk.specs.Keeping.{kept, writing}
use Rattle.sw_disk.specs.Places.{IsDirectory}
use Rattle.sw_disk.specs.Standings.{bytes_at}
use Rattle.sw_volume.specs.Volume.{ListsAll, first_segment}

pub not_writing : (dir : List ℕ) → IsDirectory dir → ¬ (dir ≡ writing)
not_writing dir is e = is.kept (ap first_segment e)

pub kept-bytes_at : (s : DiskState) (dir file : List ℕ) → ¬ (dir ≡ writing) → kept s dir file ≡ bytes_at s dir file
kept-bytes_at s dir file place = cond-false (bytes_eq writing dir) None (bytes_at s dir file) (differs writing dir place)

pub lists-kept : (s : DiskState) (dir : List ℕ) (names : List (List ℕ)) → ¬ (dir ≡ writing) → ListsAll names (λ name. IsSome (bytes_at s dir name))
    → ListsAll names (λ name. IsSome (kept s dir name))
lists-kept s dir names place lists = record {
  ascending = lists.ascending;
  exact = λ name. (
    λ has. subst (λ (o : Option (List ℕ)). IsSome o) (sym (kept-bytes_at s dir name place)) ((lists.exact name).0 has),
    λ stands. (lists.exact name).1 (subst (λ (o : Option (List ℕ)). IsSome o) (kept-bytes_at s dir name place) stands),
  );
}

pub if_ok : {T E : Type 0} (r : Result T E) (A B : T → Type 0) → ((v : T) → A v → B v) → IfOk r A → IfOk r B
if_ok (Ok v) A B f a = f v a
if_ok (Err e) A B f a = a
