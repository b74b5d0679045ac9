-- Entries of lines in order have one list of lines.
use Rattle.std.proofs.Common.{◌≡◌, ◌≢◌, ℕ, ◌≤◌, ◌++◌, ◌∷◌, [], List, refl, sym, ◌∙◌, ap, subst, map, true, not, Option, Some, None}
use Rattle.std.proofs.lemmas.Cmp.{nat_list_cmp_total, tied_itself}
use Rattle.std.proofs.lemmas.List.Elements.{All-head, All-tail}
use Rattle.std.specs.Cmp.Lexicographic.{slice_cmp}
use Rattle.std.specs.List.{All, AllByRecursion}
use Rattle.std.specs.List.Sorted.{IsStrictlySortedBy}
use Rattle.std.specs.Ordering.{nat_cmp}
use Rattle.std.specs.declared.cmp.Ordering.TheVariants.{Less, Equal}
use Rattle.std.specs.Prelude.{⊤}
use Rattle.sw_diskfile.specs.Picking.{is_base, is_meta}
use Rattle.sw_diskfile.specs.declared.file_name.FileName.{FileName}
use Rattle.sw_hashpath.specs.HashParts.{IsDigest}
use Rattle.sw_timestamp.specs.declared.tag.Tag.{Tag}
use Rattle.sw_timestamp.specs.declared.tag.Tag.TheVariants.{Put, Del, Meta}
use Rattle.sw_timestamp.specs.declared.timestamp.TheConstants.{GREATEST}
use Rattle.sw_suffix.specs.Laws.{LinesFromText}
use Rattle.sw_suffix.specs.SuffixLines.{AreSuffixLines, HasKinds, IsLine}
use Rattle.sw_suffix.specs.SuffixTexts.{files}
use Rattle.sw_suffix.specs.declared.dir_line.DirLine.{DirLine}
use Rattle.sw_suffix.proofs.Entries.{Entry, IsEntry, entries, line_entries, one_list, text_of_entries}

-- ---- a line's entries, and those behind it

-- the entries are none, or the first is of another hash
abbrev IsOther : List ℕ → List Entry → Type 0
IsOther hash [] = ⊤
IsOther hash (e ∷ es) = hash ≡ e.0 → ⊥

abbrev with_hash : List ℕ → List FileName → List Entry
with_hash hash names = map (λ file. (hash, file)) names

not_meta : (f : FileName) → is_base f ≡ true → is_meta f.tag ≡ true → ⊥
not_meta f base meta = by f.tag base meta
  where
    by : (t : Tag) → not (is_meta t) ≡ true → is_meta t ≡ true → ⊥
    by Put a b = cc
    by Del a b = cc
    by Meta a b = cc

first_is : (e d : Entry) (es ds : List Entry) → e ∷ es ≡ d ∷ ds → e ≡ d
first_is e d es ds same = cc

rest_is : (e d : Entry) (es ds : List Entry) → e ∷ es ≡ d ∷ ds → es ≡ ds
rest_is e d es ds same = cc

file_is : (h : List ℕ) (f g : FileName) (es ds : List Entry) → (h, f) ∷ es ≡ (h, g) ∷ ds → f ≡ g
file_is h f g es ds same = ap (λ (e : Entry). e.1) (first_is (h, f) (h, g) es ds same)

-- an entry of the hash stands in front of none that are other
not_other : (h : List ℕ) (f : FileName) (es ds : List Entry) → IsOther h es → es ≡ (h, f) ∷ ds → ⊥
not_other h f [] ds other same = cc
not_other h f (e ∷ es) ds other same = other (sym (ap (λ (x : Entry). x.0) (first_is e (h, f) es ds same)))

-- the same entries of one hash are of the same files, and so is what follows
one_pick : (h : List ℕ) (b m c n : Option FileName) (es ds : List Entry) → HasKinds (record { base = b; meta = m }) → HasKinds (record { base = c; meta = n })
    → files (record { base = b; meta = m }) ≢ [] → files (record { base = c; meta = n }) ≢ [] → IsOther h es → IsOther h ds
    → with_hash h (files (record { base = b; meta = m })) ++ es ≡ with_hash h (files (record { base = c; meta = n })) ++ ds → (b ≡ c) × ((m ≡ n) × (es ≡ ds))
one_pick h None None c n es ds k l full full' other other' same = absurd (full refl)
one_pick h (Some b) m None None es ds k l full full' other other' same = absurd (full' refl)
one_pick h None (Some m) None None es ds k l full full' other other' same = absurd (full' refl)
one_pick h (Some b) None (Some c) None es ds k l full full' other other' same =
    (ap Some (file_is h b c es ds same), (refl, rest_is (h, b) (h, c) es ds same))
one_pick h (Some b) None (Some c) (Some n) es ds k l full full' other other' same =
    absurd (not_other h n es ds other (rest_is (h, b) (h, c) es ((h, n) ∷ ds) same))
one_pick h (Some b) None None (Some n) es ds k l full full' other other' same =
    absurd (not_meta b k.base (ap (λ (f : FileName). is_meta f.tag) (file_is h b n es ds same) ∙ l.meta))
one_pick h (Some b) (Some m) (Some c) None es ds k l full full' other other' same =
    absurd (not_other h m ds es other' (sym (rest_is (h, b) (h, c) ((h, m) ∷ es) ds same)))
one_pick h (Some b) (Some m) (Some c) (Some n) es ds k l full full' other other' same =
    let rest = rest_is (h, b) (h, c) ((h, m) ∷ es) ((h, n) ∷ ds) same in
    (ap Some (file_is h b c ((h, m) ∷ es) ((h, n) ∷ ds) same), (ap Some (file_is h m n es ds rest), rest_is (h, m) (h, n) es ds rest))
one_pick h (Some b) (Some m) None (Some n) es ds k l full full' other other' same =
    absurd (not_meta b k.base (ap (λ (f : FileName). is_meta f.tag) (file_is h b n ((h, m) ∷ es) ds same) ∙ l.meta))
one_pick h None (Some m) (Some c) n es ds k l full full' other other' same =
    let first = file_is h m c es (with_hash h (files (record { base = None; meta = n })) ++ ds) same in
    absurd (not_meta c l.base (ap (λ (f : FileName). is_meta f.tag) (sym first) ∙ k.meta))
one_pick h None (Some m) None (Some n) es ds k l full full' other other' same =
    (refl, (ap Some (file_is h m n es ds same), rest_is (h, m) (h, n) es ds same))

-- ---- the first entry of a line that is full

record Begins (line : DirLine) (r : List Entry) : Type 0 where
  file : FileName
  rest : List Entry
  is : line_entries line ++ r ≡ (line.hash, file) ∷ rest

begins : (line : DirLine) (r : List Entry) → files line.picked ≢ [] → Begins line r
begins line r full = by (files line.picked) full refl
  where
    by : (names : List FileName) → names ≢ [] → files line.picked ≡ names → Begins line r
    by [] some is = absurd (some refl)
    by (f ∷ fs) some is = record { file = f; rest = with_hash line.hash fs ++ r; is = ap (λ (l : List FileName). with_hash line.hash l ++ r) is }

never_nil : (e : Entry) (es : List Entry) → [] ≡ e ∷ es → ⊥
never_nil e es same = cc

-- ---- lines in order

hash_list : List DirLine → List (List ℕ)
hash_list lines = map (λ line. line.hash) lines

less_is_other : (a b : List ℕ) → slice_cmp nat_cmp a b ≡ Less → a ≡ b → ⊥
less_is_other a b less same =
    let tied : slice_cmp nat_cmp a b ≡ Equal = ap (λ (l : List ℕ). slice_cmp nat_cmp a l) (sym same) ∙ tied_itself nat_list_cmp_total a in
    let lie : Less ≡ Equal = sym less ∙ tied in cc

other_of : (h : List ℕ) (es : List Entry) (e : Entry) (ds : List Entry) → es ≡ e ∷ ds → (h ≡ e.0 → ⊥) → IsOther h es
other_of h es e ds is other = subst (λ (l : List Entry). IsOther h l) (sym is) other

behind : (line : DirLine) (lines : List DirLine) → AreSuffixLines (line ∷ lines) → IsOther line.hash (entries lines)
unfolding IsStrictlySortedBy
behind line [] are = tt
behind line (next ∷ lines) are =
    let first = begins next (entries lines) (All-head IsLine next lines (All-tail IsLine line (next ∷ lines) are.each)).full in
    other_of line.hash (entries (next ∷ lines)) (next.hash, first.file) first.rest first.is (less_is_other line.hash next.hash are.ascending.0.0)

tail : (line : DirLine) (lines : List DirLine) → AreSuffixLines (line ∷ lines) → AreSuffixLines lines
unfolding IsStrictlySortedBy
tail line lines are = record { each = All-tail IsLine line lines are.each; ascending = are.ascending.1 }

one_hash : (line other : DirLine) (es ds : List Entry) → Begins line es → Begins other ds
    → line_entries line ++ es ≡ line_entries other ++ ds → line.hash ≡ other.hash
one_hash line other es ds a b same =
    ap (λ (e : Entry). e.0) (first_is (line.hash, a.file) (other.hash, b.file) a.rest b.rest (sym a.is ∙ same ∙ b.is))

abbrev line_of : List ℕ → Option FileName → Option FileName → DirLine
line_of hash base meta = record { hash = hash; picked = record { base = base; meta = meta } }

one_line : (h k : List ℕ) (b c m n : Option FileName) → h ≡ k → b ≡ c → m ≡ n → line_of h b m ≡ line_of k c n
one_line h k b c m n hashes bases metas = rw (hashes, bases, metas) refl

lines_of : (lines others : List DirLine) → AreSuffixLines lines → AreSuffixLines others → entries lines ≡ entries others → lines ≡ others
lines_of [] [] are are' same = refl
lines_of [] (other ∷ others) are are' same =
    let first = begins other (entries others) (All-head IsLine other others are'.each).full in
    absurd (never_nil (other.hash, first.file) first.rest (same ∙ first.is))
lines_of (line ∷ lines) [] are are' same =
    let first = begins line (entries lines) (All-head IsLine line lines are.each).full in
    absurd (never_nil (line.hash, first.file) first.rest (sym same ∙ first.is))
lines_of (line ∷ lines) (other ∷ others) are are' same =
    let is = All-head IsLine line lines are.each in
    let is' = All-head IsLine other others are'.each in
    let hash : line.hash ≡ other.hash =
    one_hash line other (entries lines) (entries others) (begins line (entries lines) is.full) (begins other (entries others) is'.full) same in
    let same' = same ∙ ap (λ (h : List ℕ). with_hash h (files other.picked) ++ entries others) (sym hash) in
    let behind' = subst (λ (h : List ℕ). IsOther h (entries others)) (sym hash) (behind other others are') in
    let pick =
    one_pick line.hash line.picked.base line.picked.meta other.picked.base other.picked.meta (entries lines) (entries others)
    is.kinds is'.kinds is.full is'.full (behind line lines are) behind' same' in
    let rest = lines_of lines others (tail line lines are) (tail other others are') pick.1.1 in
    ap (λ (l : DirLine). l ∷ lines) (one_line line.hash other.hash line.picked.base other.picked.base line.picked.meta other.picked.meta hash pick.0 pick.1.0)
    ∙ ap (λ (ls : List DirLine). other ∷ ls) rest

-- ---- entries in range

abbrev InRange : FileName → Type 0
InRange file = file.time ≤ GREATEST

each_file : (hash : List ℕ) (names : List FileName) (r : List Entry) → IsDigest hash → All InRange names → AllByRecursion IsEntry r
    → AllByRecursion IsEntry (with_hash hash names ++ r)
each_file hash [] r is times rest = rest
each_file hash (name ∷ names) r is times rest =
    ((is, All-head InRange name names times), each_file hash names r is (All-tail InRange name names times) rest)

each_line : (lines : List DirLine) → All IsLine lines → AllByRecursion IsEntry (entries lines)
each_line [] are = tt
each_line (line ∷ lines) are =
    let is = All-head IsLine line lines are in
    each_file line.hash (files line.picked) (entries lines) is.digest is.times (each_line lines (All-tail IsLine line lines are))

pub lines_from_text : LinesFromText
lines_from_text lines others are are' same =
    lines_of lines others are are'
    (one_list (entries lines) (entries others) (each_line lines are.each) (each_line others are'.each)
    (sym (text_of_entries lines) ∙ same ∙ text_of_entries others))
