-- A text of a suffix has one list of entries: pairs of a hash and a picked file.
use Rattle.std.proofs.Common.{◌≡◌, ℕ, ◌<◌, ◌≤◌, ◌++◌, ◌∷◌, [], List, refl, sym, ◌∙◌, ap, take, drop, length, map}
use Rattle.std.proofs.Common.{get_or, eqb, true≢false, append_assoc, arith, inl, inr}
use Rattle.std.proofs.lemmas.Bool.{cases_lt}
use Rattle.std.proofs.lemmas.Grind.{flat_map-append}
use Rattle.std.proofs.lemmas.List.{take_at, drop_at, get_or_past}
use Rattle.std.proofs.lemmas.List.Elements.{All-get_or}
use Rattle.std.specs.List.{All, AllByRecursion, flat_map}
use Rattle.hex.proofs.HexLemmas.{decode_of-encode_lower, decode_of-same, length-encode_with}
use Rattle.hex.specs.Hex.{decode_of, encode_lower, lower_digits}
use Rattle.sw_diskfile.specs.FileNames.{ending}
use Rattle.sw_diskfile.specs.declared.file_name.FileName.{FileName}
use Rattle.sw_hashpath.specs.HashParts.{IsDigest}
use Rattle.sw_timestamp.proofs.TextLaws.{normal_text_reads_back, texts_differ}
use Rattle.sw_timestamp.specs.TimeText.{text_of}
use Rattle.sw_timestamp.specs.declared.tag.Tag.{Tag}
use Rattle.sw_timestamp.specs.declared.tag.Tag.TheVariants.{Put, Del, Meta}
use Rattle.sw_timestamp.specs.declared.timestamp.TheConstants.{GREATEST}
use Rattle.sw_suffix.specs.SuffixTexts.{file_line, files, suffix_text}
use Rattle.sw_suffix.specs.declared.dir_line.DirLine.{DirLine}

-- ---- an entry

abbrev pub Entry : Type 0
Entry = List ℕ × FileName

abbrev pub entry_text : Entry → List ℕ
entry_text e = file_line (encode_lower e.0) e.1

abbrev pub IsEntry : Entry → Type 0
IsEntry e = IsDigest e.0 × (e.1.time ≤ GREATEST)

bytes_all : (xs : List ℕ) → All (λ b. b < 256) xs → (i : ℕ) → get_or xs i 0 < 256
bytes_all xs are i =
    elim (cases_lt i (length xs)) [
      | inl inside ↦ All-get_or (λ b. b < 256) xs i 0 inside are
      | inr past ↦ rw (get_or_past xs i 0 past) (omega arith)
    ]

digits_differ : (a b : List ℕ) → IsDigest a → IsDigest b → encode_lower a ≡ encode_lower b → a ≡ b
digits_differ a b is_a is_b e =
    decode_of-same (encode_lower a) a b (decode_of-encode_lower a (bytes_all a is_a.1)) (ap decode_of e ∙ decode_of-encode_lower b (bytes_all b is_b.1))

two_digits_each : (hash : List ℕ) → IsDigest hash → length (encode_lower hash) ≡ 32
two_digits_each hash is = let e = length-encode_with lower_digits hash in let l = is.0 in omega (arith, e, l)

sixteen : (t : ℕ) → t ≤ GREATEST → length (text_of t) ≡ 16
sixteen t le = (normal_text_reads_back t le).1

-- the byte after the point tells the endings apart, so that what stands behind them is one too
endings : (a b : Tag) (r s : List ℕ) → ending a ++ 10 ∷ r ≡ ending b ++ 10 ∷ s → (a ≡ b) × (r ≡ s)
endings Put Put r s e = (refl, ap (λ l. drop 6 l) e)
endings Put Del r s e = absurd (true≢false (ap (λ l. eqb (get_or l 1 0) 100) e))
endings Put Meta r s e = absurd (true≢false (ap (λ l. eqb (get_or l 1 0) 100) e))
endings Del Put r s e = absurd (true≢false (ap (λ l. eqb (get_or l 1 0) 116) e))
endings Del Del r s e = (refl, ap (λ l. drop 4 l) e)
endings Del Meta r s e = absurd (true≢false (ap (λ l. eqb (get_or l 1 0) 116) e))
endings Meta Put r s e = absurd (true≢false (ap (λ l. eqb (get_or l 1 0) 109) e))
endings Meta Del r s e = absurd (true≢false (ap (λ l. eqb (get_or l 1 0) 109) e))
endings Meta Meta r s e = (refl, ap (λ l. drop 6 l) e)

grouped : (d t e r : List ℕ) → ((d ++ 47 ∷ (t ++ e)) ++ 10 ∷ []) ++ r ≡ d ++ 47 ∷ (t ++ (e ++ 10 ∷ r))
grouped d t e r = simp append_assoc

-- two parts of one length are one, and so is what stands behind them
split : (n : ℕ) (a b r s : List ℕ) → length a ≡ n → length b ≡ n → a ++ r ≡ b ++ s → (a ≡ b) × (r ≡ s)
split n a b r s la lb e =
    (sym (take_at a r n la) ∙ ap (λ l. take n l) e ∙ take_at b s n lb, sym (drop_at a r n la) ∙ ap (λ l. drop n l) e ∙ drop_at b s n lb)

-- the parts of a line: the hash, the time, the kind, and what stands behind
parts : (h k : List ℕ) (t u : ℕ) (a b : Tag) (r s : List ℕ) → IsDigest h → IsDigest k → t ≤ GREATEST → u ≤ GREATEST
    → encode_lower h ++ 47 ∷ (text_of t ++ (ending a ++ 10 ∷ r)) ≡ encode_lower k ++ 47 ∷ (text_of u ++ (ending b ++ 10 ∷ s))
    → ((h ≡ k) × (t ≡ u)) × ((a ≡ b) × (r ≡ s))
parts h k t u a b r s is is' le le' same =
    let at_hash = split 32 (encode_lower h) (encode_lower k) (47 ∷ (text_of t ++ (ending a ++ 10 ∷ r))) (47 ∷ (text_of u ++ (ending b ++ 10 ∷ s)))
    (two_digits_each h is) (two_digits_each k is') same in
    let at_time = split 16 (text_of t) (text_of u) (ending a ++ 10 ∷ r) (ending b ++ 10 ∷ s) (sixteen t le) (sixteen u le') (ap (λ l. drop 1 l) at_hash.1) in
    ((digits_differ h k is is' at_hash.0, texts_differ t u le le' at_time.0), endings a b r s at_time.1)

abbrev entry : List ℕ → ℕ → Tag → Entry
entry hash time tag = (hash, record { time = time; tag = tag })

one_entry : (h k : List ℕ) (t u : ℕ) (a b : Tag) → h ≡ k → t ≡ u → a ≡ b → entry h t a ≡ entry k u b
one_entry h k t u a b hashes times tags = rw (hashes, times, tags) refl

-- one text has one first entry, and one rest
first_entry : (e f : Entry) (r s : List ℕ) → IsEntry e → IsEntry f → entry_text e ++ r ≡ entry_text f ++ s → (e ≡ f) × (r ≡ s)
first_entry (h, file) (k, other) r s is is' same =
    let found = parts h k file.time other.time file.tag other.tag r s is.0 is'.0 is.1 is'.1
    (sym (grouped (encode_lower h) (text_of file.time) (ending file.tag) r) ∙ same ∙ grouped (encode_lower k) (text_of other.time) (ending other.tag) s) in
    (one_entry h k file.time other.time file.tag other.tag found.0.0 found.0.1 found.1.0, found.1.1)

-- ---- all entries

no_nil : (d : List ℕ) (byte : ℕ) (l : List ℕ) → [] ≡ d ++ byte ∷ l → ⊥
no_nil [] byte l same = cc
no_nil (b ∷ d) byte l same = cc

begins : (e : Entry) (r : List ℕ) → [] ≡ entry_text e ++ r → ⊥
begins e r same =
    no_nil (encode_lower e.0) 47 (text_of e.1.time ++ (ending e.1.tag ++ 10 ∷ r)) (same ∙ grouped (encode_lower e.0) (text_of e.1.time) (ending e.1.tag) r)

pub one_list : (es ds : List Entry) → AllByRecursion IsEntry es → AllByRecursion IsEntry ds → flat_map entry_text es ≡ flat_map entry_text ds → es ≡ ds
one_list [] [] are are' same = refl
one_list [] (d ∷ ds) are are' same = absurd (begins d (flat_map entry_text ds) same)
one_list (e ∷ es) [] are are' same = absurd (begins e (flat_map entry_text es) (sym same))
one_list (e ∷ es) (d ∷ ds) are are' same =
    let first = first_entry e d (flat_map entry_text es) (flat_map entry_text ds) are.0 are'.0 same in
    let rest = one_list es ds are.1 are'.1 first.1 in
    ap (λ (x : Entry). x ∷ es) first.0 ∙ ap (λ (xs : List Entry). d ∷ xs) rest

-- ---- the entries of lines

abbrev pub line_entries : DirLine → List Entry
line_entries line = map (λ file. (line.hash, file)) (files line.picked)

abbrev pub entries : List DirLine → List Entry
entries lines = flat_map line_entries lines

of_files : (hash : List ℕ) (names : List FileName) → flat_map (file_line (encode_lower hash)) names ≡ flat_map entry_text (map (λ file. (hash, file)) names)
of_files hash [] = refl
of_files hash (name ∷ names) = ap (λ (l : List ℕ). file_line (encode_lower hash) name ++ l) (of_files hash names)

pub text_of_entries : (lines : List DirLine) → suffix_text lines ≡ flat_map entry_text (entries lines)
text_of_entries [] = refl
text_of_entries (line ∷ lines) =
    ap (λ (l : List ℕ). l ++ suffix_text lines) (of_files line.hash (files line.picked))
    ∙ ap (λ (l : List ℕ). flat_map entry_text (line_entries line) ++ l) (text_of_entries lines)
    ∙ sym (flat_map-append entry_text (line_entries line) (entries lines))
