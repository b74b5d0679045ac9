-- The line before a chunk, piece by piece.
use Rattle.std.proofs.Common.{◌≡◌, ℕ, ◌+◌, ◌-◌, ◌<◌, ◌≤◌, true, eq-eqb, true≢false, List, [], ◌∷◌, ◌++◌, length, take, drop}
use Rattle.std.proofs.Common.{Option, None, Some, IfSome, refl, sym, ap}
use Rattle.std.proofs.Common.{◌∙◌, subst, arith, append_assoc, length-append, length-take-le, length-drop, take-append-drop, append-nil}
use Rattle.std.specs.Char.{is_ascii_hexdigit}
use Rattle.std.specs.Io.KnownBytes.{Consumes, Keeps, prepend_known}
use Rattle.std.specs.List.{prefix_len}
use Rattle.std.specs.Str.Parse.{digits_value}
use Rattle.std.proofs.KnownBytes.{Consumes-trans, Consumes-nil}
use Rattle.std.proofs.lemmas.Bool.{ne_eqb}
use Rattle.std.proofs.lemmas.List.Elements.{All-nil, All-cons}
use Rattle.httparse.specs.Ascii.{crlf_bytes}
use Rattle.httparse.specs.Grammar.{AllPass, ChunkLine, IsChunkLine, chunk_size, ReadsChunkLine, HasNoChunkLine, NeverHasChunkLine, print_chunk_line}
use Rattle.httparse.specs.Grammar.{print_extension, IsExtension, is_ows, is_extension_byte, MayBecomeChunkLine}
use Rattle.httparse.specs.Pieces.{Stops}
use Rattle.httparse.specs.Spans.{IsChunkLineAt}
use Rattle.httparse.proofs.ChunkLemmas.{chunk_pieces, chunk_line_unique}
use Rattle.httparse.proofs.RunLemmas.{run_unique, run_unstopped, Stops-append}
use Rattle.sw_http.specs.ChunkSteps.{HasNoLine, HasDigits, is_semicolon, EndsExtension, TakesExtension, HasNoExtension, IsExtensionCut, print_tail, TakesTail}
use Rattle.sw_http.specs.ChunkSteps.{HasNoTail, TakesLine, HasNoLineWithin}
use Rattle.sw_http.specs.ChunkSteps.{IsDigitsCut, IsTailCut, IsLineCut}
use Rattle.sw_http.specs.Input.{IfSeen, IsShort, IsLineEndCut, IsAllRun, TakesRun, HasNoRun, HasNoLineEnd}
use Rattle.sw_http.specs.declared.chunk_line.SizeLine.{SizeLine}
use Rattle.sw_http.proofs.ListLemmas.{same_rest}
use Rattle.sw_message.proofs.ListLemmas.{take_every}
use Rattle.sw_http.proofs.InputLemmas.{if_behind, if_kept, if_some_map, longer_run, no_end_short, none_within, run_passes, run_stops, run_within, seen_begins}
use Rattle.sw_http.proofs.InputLemmas.{no_run_all, seen_behind, seen_kept, seen_map, stops_front, stops_some}

-- ---- the digits

-- the digits of a line, and what stands behind them
line_text : (l : ChunkLine) → print_chunk_line l ≡ l.digits ++ print_tail l.pad l.extension
unfolding print_chunk_line
line_text l = simp append_assoc

line_split : (l : ChunkLine) (rest : List ℕ) → print_chunk_line l ++ rest ≡ l.digits ++ (print_tail l.pad l.extension ++ rest)
line_split l rest = ap (λ (t : List ℕ). t ++ rest) (line_text l) ∙ append_assoc l.digits (print_tail l.pad l.extension) rest

digits_end : (l : ChunkLine) (rest : List ℕ) → IsChunkLine l → Stops is_ascii_hexdigit (print_tail l.pad l.extension ++ rest)
digits_end l rest is =
    let pieces = chunk_pieces (print_chunk_line l ++ rest) l rest (is, refl) in
    subst (Stops is_ascii_hexdigit) (same_rest l.digits pieces.0 _ (sym pieces.1.0.1 ∙ line_split l rest)) pieces.1.0.2

pub no_line_long : (bytes : List ℕ) (n : ℕ) → n ≡ prefix_len is_ascii_hexdigit bytes → 16 < n → (more : List ℕ) → HasNoLine (bytes ++ more)
no_line_long bytes n is many more = record {
  none = λ l rest valid e.
      let within = run_within is_ascii_hexdigit bytes n is in
      let passes = subst (λ (k : ℕ). AllPass is_ascii_hexdigit (take k bytes)) (sym is) (run_passes is_ascii_hexdigit bytes) in
      let whole : take n bytes ++ (drop n bytes ++ more) ≡ l.digits ++ (print_tail l.pad l.extension ++ rest) =
      sym (append_assoc (take n bytes) (drop n bytes) more) ∙ ap (λ (b : List ℕ). b ++ more) (take-append-drop n bytes) ∙ e ∙ line_split l rest in
      let few = valid.digits.1 in
      longer_run is_ascii_hexdigit (take n bytes) l.digits _ _ passes (digits_end l rest valid) whole (omega (arith, length-take-le n bytes within));
}

pub no_line_empty : (bytes : List ℕ) (n : ℕ) → n ≡ prefix_len is_ascii_hexdigit bytes → n ≡ 0 → n < length bytes → (more : List ℕ) → HasNoLine (bytes ++ more)
no_line_empty bytes n is none some more = record {
  none = λ l rest valid e.
      let stops = run_stops is_ascii_hexdigit bytes bytes (ap (λ (k : ℕ). drop k bytes) (sym none ∙ is)) (omega arith) in
      let same = run_unique is_ascii_hexdigit [] l.digits (bytes ++ more) _ (All-nil _) valid.digits.2
      (Stops-append is_ascii_hexdigit bytes more stops) (digits_end l rest valid) (e ∙ line_split l rest) in
      let some_digits = valid.digits.0 in
      omega (arith, ap length same.0);
}

pub no_line_ended : (bytes : List ℕ) (n : ℕ) → n ≡ prefix_len is_ascii_hexdigit bytes → length bytes ≤ n → HasNoLine bytes
no_line_ended bytes n is all = record {
  none = λ l rest valid e.
      let whole : n ≡ length bytes = omega (arith, run_within is_ascii_hexdigit bytes n is) in
      let passes = subst (λ (k : ℕ). AllPass is_ascii_hexdigit (take k bytes)) (sym is ∙ whole) (run_passes is_ascii_hexdigit bytes) in
      run_unstopped is_ascii_hexdigit l.digits _ (subst (AllPass is_ascii_hexdigit) (take_every bytes ∙ e ∙ line_split l rest) passes)
      (digits_end l rest valid);
}

pub digits_cut : (bytes : List ℕ) (n : ℕ) → n ≡ prefix_len is_ascii_hexdigit bytes → length bytes ≤ n → n ≤ 16 → IsDigitsCut bytes
digits_cut bytes n is all few = record {
  digits =
      let whole : n ≡ length bytes = omega (arith, run_within is_ascii_hexdigit bytes n is) in
      subst (AllPass is_ascii_hexdigit) (take_every bytes)
      (subst (λ (k : ℕ). AllPass is_ascii_hexdigit (take k bytes)) (sym is ∙ whole) (run_passes is_ascii_hexdigit bytes));
  few = omega (arith, all, few);
}

pub has_digits : (bytes : List ℕ) (n : ℕ) → n ≡ prefix_len is_ascii_hexdigit bytes → n ≤ 16 → 0 < n → n < length bytes → HasDigits bytes n
has_digits bytes n is few some inside = record {
  within = omega arith;
  some = some;
  few = few;
  digits = subst (λ (k : ℕ). AllPass is_ascii_hexdigit (take k bytes)) (sym is) (run_passes is_ascii_hexdigit bytes);
  stops = run_stops is_ascii_hexdigit bytes (drop n bytes) (ap (λ (k : ℕ). drop k bytes) is) (omega (arith, length-drop n bytes));
}

-- ---- the number that they write

-- a line of digits alone
plain : List ℕ → ChunkLine
plain digits = record { digits = digits; pad = []; extension = None }

plain_reads : (buf digits : List ℕ) → 0 < length digits → length digits ≤ 16 → AllPass is_ascii_hexdigit digits → buf ≡ digits ++ crlf_bytes
    → ReadsChunkLine buf (plain digits) []
unfolding plain
plain_reads buf digits some few are e = (
  record { digits = (some, few, are); pad = All-nil _; extension = tt },
  e ∙ sym (line_text (plain digits)) ∙ sym (append-nil _),
)

-- so the parser reads it
pub plain_size : (buf digits : List ℕ) (len size : ℕ) (l : ChunkLine) → 0 < length digits → length digits ≤ 16 → AllPass is_ascii_hexdigit digits
    → buf ≡ digits ++ crlf_bytes → IsChunkLineAt buf len size l → size ≡ digits_value 16 digits
unfolding plain
plain_size buf digits len size l some few are e at =
    let same = chunk_line_unique buf l (plain digits) _ [] at.reads (plain_reads buf digits some few are e) in
    at.size_is ∙ ap chunk_size same.0

pub plain_is_no_partial : (buf digits : List ℕ) → 0 < length digits → length digits ≤ 16 → AllPass is_ascii_hexdigit digits → buf ≡ digits ++ crlf_bytes
    → HasNoChunkLine buf → ⊥
plain_is_no_partial buf digits some few are e none = none (plain digits) [] (plain_reads buf digits some few are e)

pub plain_is_no_error : (buf digits : List ℕ) → 0 < length digits → length digits ≤ 16 → AllPass is_ascii_hexdigit digits → buf ≡ digits ++ crlf_bytes
    → NeverHasChunkLine buf → ⊥
plain_is_no_error buf digits some few are e none =
    plain_is_no_partial (buf ++ []) digits some few are (append-nil buf ∙ e) (none [])

-- ---- the extension

pub ends_append : (e : Option (List ℕ)) (held more : List ℕ) → EndsExtension e held → EndsExtension e (held ++ more)
ends_append None held more ends = Stops-append is_semicolon held more ends
ends_append (Some text) held more ends = Stops-append is_extension_byte held more ends

-- what begins with no semicolon begins with an extension that isn't there
pub no_semicolon : (held : List ℕ) → 0 < length held → ((rest : List ℕ) → ¬ (held ≡ 59 ∷ rest)) → Stops is_semicolon held
no_semicolon [] some other = absurd (omega arith)
no_semicolon (b ∷ held) some other = ne_eqb b 59 λ e. other held (ap (λ (x : ℕ). x ∷ held) e)

pub extension_absent : (a : Option (List ℕ)) (held : List ℕ) → Stops is_semicolon held → TakesExtension a a held 0
extension_absent a held stops = record { extension = None; is_extension = tt; len_is = refl; taken = Consumes-nil a; ends = stops }

pub extension_present : (a b c : Option (List ℕ)) (held : List ℕ) (count : ℕ) → Consumes a b (59 ∷ []) → TakesRun is_extension_byte b c count →
    Stops is_extension_byte held
    → TakesExtension a c held (count + 1)
extension_present a b c held count semicolon run stops = record {
  extension = Some run.run;
  is_extension = run.passes;
  len_is = omega (arith, run.size);
  taken = Consumes-trans a b c (59 ∷ []) run.run semicolon run.taken;
  ends = stops;
}

-- behind a semicolon no run that may be is followed by a byte
pub no_extension : (room : ℕ) (rest : List ℕ) → HasNoRun is_extension_byte room rest → HasNoExtension room (59 ∷ rest)
no_extension room rest none_there = record { none = go }
  where
    go : (e : Option (List ℕ)) (after : List ℕ) → IsExtension e × (length (print_extension e) ≤ room) →
        ¬ (59 ∷ rest ≡ (print_extension e ++ crlf_bytes) ++ after)
    go None after is e = let same : ◌≡◌ {A = ℕ} 59 13 = cc in omega (arith, same)
    go (Some text) after is e =
        let same : rest ≡ (text ++ crlf_bytes) ++ after = cc in
        none_there.none text (crlf_bytes ++ after) is.0 (omega (arith, is.1)) refl (same ∙ append_assoc text crlf_bytes after)

-- one extension at most stands in front
pub extension_same : (e f : Option (List ℕ)) (after rest : List ℕ) → IsExtension e → IsExtension f → EndsExtension e after
    → print_extension e ++ after ≡ print_extension f ++ (crlf_bytes ++ rest) → (e ≡ f) × (after ≡ crlf_bytes ++ rest)
extension_same None None after rest valid other ends e = (refl, e)
extension_same None (Some text) after rest valid other ends e = absurd (stops_other after (text ++ (crlf_bytes ++ rest)) ends e)
  where
    stops_other : (l r : List ℕ) → Stops is_semicolon l → l ≡ 59 ∷ r → ⊥
    stops_other [] r stops same = stops
    stops_other (x ∷ l) r stops same = let b : x ≡ 59 = cc in true≢false (sym (eq-eqb x 59 b) ∙ stops)
extension_same (Some text) None after rest valid other ends e = let same : ◌≡◌ {A = ℕ} 59 13 = cc in absurd (omega (arith, same))
extension_same (Some text) (Some word) after rest valid other ends e =
    let same = run_unique is_extension_byte text word after (crlf_bytes ++ rest) valid other ends refl (cc) in
    (ap Some same.0, same.1)

-- ---- blanks, extension and line end

blanks_end : (e : Option (List ℕ)) (rest : List ℕ) → Stops is_ows (print_extension e ++ (crlf_bytes ++ rest))
blanks_end None rest = refl
blanks_end (Some text) rest = refl

tail_split : (pad : List ℕ) (e : Option (List ℕ)) (rest : List ℕ) → print_tail pad e ++ rest ≡ pad ++ (print_extension e ++ (crlf_bytes ++ rest))
tail_split pad e rest = simp append_assoc

pad_within : (pad : List ℕ) (e : Option (List ℕ)) (room : ℕ) → length (print_tail pad e) ≤ room → length pad ≤ room
pad_within pad e room fits = omega (arith, fits, length-append pad (print_extension e ++ crlf_bytes))

extension_within : (pad : List ℕ) (e : Option (List ℕ)) (room left : ℕ) → length pad + left ≡ room → length (print_tail pad e) ≤ room →
    length (print_extension e) ≤ left
extension_within pad e room left left_is fits =
    omega (arith, fits, left_is, length-append pad (print_extension e ++ crlf_bytes), length-append (print_extension e) crlf_bytes)

-- no run of blanks is followed by a byte
pub no_tail_blanks : (room : ℕ) (bytes : List ℕ) → HasNoRun is_ows room bytes → HasNoTail room bytes
no_tail_blanks room bytes none_there = record {
  none = λ tail rest is fits same.
      none_there.none tail.0 _ is.0 (pad_within tail.0 tail.1 room fits) (blanks_end tail.1 rest) (same ∙ tail_split tail.0 tail.1 rest);
}

-- these are the blanks, and what follows is no extension
pub no_tail_extension : (room left : ℕ) (pad bytes : List ℕ) → length pad + left ≡ room → AllPass is_ows pad → Stops is_ows bytes → HasNoExtension left bytes
    → HasNoTail room (pad ++ bytes)
no_tail_extension room left pad bytes left_is blanks stops none_there = record {
  none = λ tail rest is fits same.
      let cut = run_unique is_ows pad tail.0 bytes _ blanks is.0 stops (blanks_end tail.1 rest) (same ∙ tail_split tail.0 tail.1 rest) in
      let left_there : length tail.0 + left ≡ room = omega (arith, left_is, ap length cut.0) in
      none_there.none tail.1 rest (is.1, extension_within tail.0 tail.1 room left left_there fits)
      (cut.1 ∙ sym (append_assoc (print_extension tail.1) crlf_bytes rest));
}

-- these are the blanks and the extension, and no line end follows
pub no_tail_end : (room : ℕ) (pad : List ℕ) (e : Option (List ℕ)) (bytes : List ℕ) → AllPass is_ows pad → Stops is_ows (print_extension e ++ bytes) →
    IsExtension e
    → EndsExtension e bytes → HasNoLineEnd bytes → HasNoTail room (pad ++ (print_extension e ++ bytes))
no_tail_end room pad e bytes blanks stops valid ends none_there = record {
  none = λ tail rest is fits same.
      let cut = run_unique is_ows pad tail.0 _ _ blanks is.0 stops (blanks_end tail.1 rest) (same ∙ tail_split tail.0 tail.1 rest) in
      let text = extension_same e tail.1 bytes rest valid is.1 ends cut.1 in
      none_there.none rest text.1;
}

-- ---- the whole line

line_length : (l : ChunkLine) → length (print_chunk_line l) ≡ length l.digits + length (print_tail l.pad l.extension)
line_length l = ap length (line_text l) ∙ length-append l.digits (print_tail l.pad l.extension)

pub no_line_tail : (room n : ℕ) (bytes rest : List ℕ) → HasDigits bytes n → HasNoTail room rest → Stops is_ascii_hexdigit rest →
    HasNoLineWithin room (take n bytes ++ rest)
no_line_tail room n bytes rest digits none_there stops = record {
  none = λ l after valid fits same.
      let cut = run_unique is_ascii_hexdigit (take n bytes) l.digits rest _ digits.digits valid.digits.2 stops (digits_end l after valid)
      (same ∙ line_split l after) in
      none_there.none (l.pad, l.extension) after (valid.pad, valid.extension) (omega (arith, fits, line_length l)) cut.1;
}

pub line_taken : (a b c : Option (List ℕ)) (bytes : List ℕ) (n len : ℕ) (size_line : SizeLine) → HasDigits bytes n → Consumes a b (take n bytes) →
    TakesTail b c len
    → size_line.size ≡ digits_value 16 (take n bytes) → size_line.len ≡ n + len → TakesLine a c size_line
line_taken a b c bytes n len size_line digits front tail size_is len_is =
    let size : length (take n bytes) ≡ n = length-take-le n bytes digits.within in
    let line : ChunkLine = record { digits = take n bytes; pad = tail.pad; extension = tail.extension } in
    record {
      line = line;
      is_line = record {
        digits = (omega (arith, size, digits.some), omega (arith, size, digits.few), digits.digits);
        pad = tail.are_blanks;
        extension = tail.is_extension;
      };
      size_is = sym size_is;
      len_is = omega (arith, line_length line, size, len_is, tail.len_is);
      taken = subst (Consumes a c) (sym (line_text line)) (Consumes-trans a b c (take n bytes) (print_tail tail.pad tail.extension) front tail.taken);
    }

-- ---- why no line was taken

pub line_none : (a : Option (List ℕ)) (room : ℕ) → IfSome a HasNoLine → IfSome a (HasNoLineWithin room)
line_none a room = if_some_map a HasNoLine (HasNoLineWithin room) (none_within _ _ room)

pub line_no_tail : (a : Option (List ℕ)) (held after : List ℕ) (left : Option (List ℕ)) (n room : ℕ) → Keeps a (prepend_known held left) → HasDigits held n →
    after ≡ drop n held
    → IfSome (prepend_known after left) (HasNoTail room) → IfSome a (HasNoLineWithin room)
line_no_tail a held after left n room kept digits after_is none_there = if_kept a _ (HasNoLineWithin room) kept (go left none_there)
  where
    stops : (more : List ℕ) → Stops is_ascii_hexdigit (after ++ more)
    stops more = Stops-append is_ascii_hexdigit after more (subst (Stops is_ascii_hexdigit) (sym after_is) digits.stops)

    go : (x : Option (List ℕ)) → IfSome (prepend_known after x) (HasNoTail room) → IfSome (prepend_known held x) (HasNoLineWithin room)
    go None holds = tt
    go (Some xs) holds =
        subst (HasNoLineWithin room) (sym (append_assoc (take n held) after xs) ∙ ap (λ (l : List ℕ). l ++ xs)
        (ap (λ (l : List ℕ). take n held ++ l) after_is ∙ take-append-drop n held))
        (no_line_tail room n held (after ++ xs) digits holds (stops xs))

pub extension_none : (a b : Option (List ℕ)) (room : ℕ) → Consumes a b (59 ∷ []) → IfSome b (HasNoRun is_extension_byte room) → IfSome a (HasNoExtension room)
extension_none a b room semicolon none_there =
    if_behind a b (59 ∷ []) (HasNoExtension room) (HasNoRun is_extension_byte room) semicolon (no_extension room) none_there

pub tail_no_blanks : (a : Option (List ℕ)) (room : ℕ) → IfSome a (HasNoRun is_ows room) → IfSome a (HasNoTail room)
tail_no_blanks a room = if_some_map a (HasNoRun is_ows room) (HasNoTail room) (no_tail_blanks room)

pub tail_no_extension : (a : Option (List ℕ)) (held : List ℕ) (left : Option (List ℕ)) (count room : ℕ) → TakesRun is_ows a (prepend_known held left) count →
    count ≤ room → Stops is_ows held
    → IfSome (prepend_known held left) (HasNoExtension (room - count)) → IfSome a (HasNoTail room)
tail_no_extension a held left count room run few stops none_there = go a left run.taken none_there
  where
    left_is : length run.run + (room - count) ≡ room
    left_is = omega (arith, run.size, few)

    go : (x y : Option (List ℕ)) → Consumes x (prepend_known held y) run.run → IfSome (prepend_known held y) (HasNoExtension (room - count))
        → IfSome x (HasNoTail room)
    go None y taken holds = tt
    go (Some xs) None taken holds = absurd taken
    go (Some xs) (Some ys) taken holds =
        subst (HasNoTail room) (sym taken)
        (no_tail_extension room (room - count) run.run (held ++ ys) left_is run.passes (Stops-append is_ows held ys stops) holds)

pub tail_no_end : (a : Option (List ℕ)) (held mid : List ℕ) (left now : Option (List ℕ)) (count len room : ℕ) →
    TakesRun is_ows a (prepend_known held left) count → Stops is_ows held
    → TakesExtension (prepend_known held left) (prepend_known mid now) mid len → IfSome (prepend_known mid now) HasNoLineEnd → IfSome a (HasNoTail room)
tail_no_end a held mid left now count len room run stops extension none_there = go a left now run.taken extension.taken none_there
  where
    go : (x y z : Option (List ℕ)) → Consumes x (prepend_known held y) run.run →
        Consumes (prepend_known held y) (prepend_known mid z) (print_extension extension.extension)
        → IfSome (prepend_known mid z) HasNoLineEnd → IfSome x (HasNoTail room)
    go None y z taken text holds = tt
    go (Some xs) None z taken text holds = absurd taken
    go (Some xs) (Some ys) None taken text holds = absurd text
    go (Some xs) (Some ys) (Some zs) taken text holds =
        subst (HasNoTail room) (sym (taken ∙ ap (λ (l : List ℕ). run.run ++ l) text))
        (no_tail_end room run.run extension.extension (mid ++ zs) run.passes (subst (Stops is_ows) text (Stops-append is_ows held ys stops))
        extension.is_extension
        (ends_append extension.extension mid zs extension.ends) holds)

pub tail_taken : (a b c d : Option (List ℕ)) (held : List ℕ) (count len : ℕ) → TakesRun is_ows a b count → TakesExtension b c held len → Consumes c d crlf_bytes
    → TakesTail a d (count + len + 2)
tail_taken a b c d held count len run extension end = record {
  pad = run.run;
  extension = extension.extension;
  are_blanks = run.passes;
  is_extension = extension.is_extension;
  len_is = omega (
    arith,
    run.size,
    extension.len_is,
    length-append run.run (print_extension extension.extension ++ crlf_bytes),
    length-append (print_extension extension.extension) crlf_bytes,
  );
  taken = Consumes-trans a b d run.run _ run.taken (Consumes-trans b c d _ crlf_bytes extension.taken end);
}

-- ---- a read failed in a line

pub extension_cut : (a b left : Option (List ℕ)) (room : ℕ) → Consumes a b (59 ∷ []) → IfSeen b left (IsAllRun is_extension_byte room) →
    IfSeen a left (IsExtensionCut room)
extension_cut a b left room semicolon all_there =
    seen_behind a b left (59 ∷ []) (IsExtensionCut room) (IsAllRun is_extension_byte room) semicolon
    (λ rest all. record { text = rest; begins = refl; all = all }) all_there

pub tail_cut_blanks : (a left : Option (List ℕ)) (room : ℕ) → IfSeen a left (IsAllRun is_ows room) → IfSeen a left (IsTailCut room)
tail_cut_blanks a left room = seen_map a left (IsAllRun is_ows room) (IsTailCut room) λ bytes all. record {
  none = no_tail_blanks room bytes (no_run_all is_ows room bytes all);
  pad = bytes;
  extension = None;
  are_blanks = all.passes;
  is_extension = tt;
  more = crlf_bytes;
  whole = refl;
  few = omega (arith, all.few);
}

pub tail_cut_extension : (a b left : Option (List ℕ)) (count room : ℕ) → TakesRun is_ows a b count → count ≤ room →
    IfSeen b left (IsExtensionCut (room - count)) → IfSeen a left (IsTailCut room)
tail_cut_extension a b left count room run few none_there =
    seen_behind a b left run.run (IsTailCut room) (IsExtensionCut (room - count)) run.taken
    (λ rest cut.
    let none = no_extension (room - count) cut.text (no_run_all is_extension_byte (room - count) cut.text cut.all) in
    record {
      none = no_tail_extension room (room - count) run.run rest (omega (arith, run.size, few)) run.passes
          (subst (Stops is_ows) (sym cut.begins) refl) (subst (HasNoExtension (room - count)) (sym cut.begins) none);
      pad = run.run;
      extension = Some cut.text;
      are_blanks = run.passes;
      is_extension = cut.all.passes;
      more = crlf_bytes;
      whole = append_assoc run.run rest crlf_bytes ∙ ap (λ (l : List ℕ). run.run ++ (l ++ crlf_bytes)) cut.begins;
      few = omega (arith, few, run.size, cut.all.few, length-append run.run rest, ap length cut.begins);
    }) none_there

pub tail_cut_end : (a : Option (List ℕ)) (held mid : List ℕ) (left behind now : Option (List ℕ)) (count len room : ℕ) →
    TakesRun is_ows a (prepend_known held left) count → count ≤ room
    → Stops is_ows held → TakesExtension (prepend_known held left) (prepend_known mid behind) mid len → len ≤ room - count + 1
    → IfSeen (prepend_known mid behind) now (IsShort mid) → IfSeen a now (IsTailCut room)
tail_cut_end a held mid left behind now count len room run few stops extension bound cut = go a left behind now run.taken extension.taken cut
  where
    some_held : (e : Option (List ℕ)) → EndsExtension e mid → 0 < length mid
    some_held None ends = stops_some is_semicolon mid ends
    some_held (Some word) ends = stops_some is_extension_byte mid ends

    no_tail : (xs ys zs s ws : List ℕ) → held ++ ys ≡ print_extension extension.extension ++ (mid ++ zs) → mid ++ zs ≡ s ++ ws → length s < 2 →
        length mid ≤ length s
        → HasNoTail room (run.run ++ (print_extension extension.extension ++ s))
    no_tail xs ys zs s ws taken_text e short as_many =
        let begins = seen_begins mid zs s ws e as_many in
        let whole : held ++ ys ≡ (print_extension extension.extension ++ s) ++ ws =
        taken_text ∙ ap (λ (l : List ℕ). print_extension extension.extension ++ l) e ∙ sym (append_assoc (print_extension extension.extension) s ws) in
        let some = some_held extension.extension extension.ends in
        let front = stops_front is_ows (print_extension extension.extension ++ s) ws
        (omega (arith, some, as_many, length-append (print_extension extension.extension) s))
        (subst (Stops is_ows) whole (Stops-append is_ows held ys stops)) in
        no_tail_end room run.run extension.extension s run.passes front extension.is_extension
        (subst (EndsExtension extension.extension) (sym begins.1) (ends_append extension.extension mid begins.0 extension.ends)) (no_end_short s short)

    tail_cut : (s : List ℕ) → IsLineEndCut s → HasNoTail room (run.run ++ (print_extension extension.extension ++ s))
        → IsTailCut room (run.run ++ (print_extension extension.extension ++ s))
    tail_cut s end none = record {
      none = none;
      pad = run.run;
      extension = extension.extension;
      are_blanks = run.passes;
      is_extension = extension.is_extension;
      more = end.more;
      whole = append_assoc run.run (print_extension extension.extension ++ s) end.more ∙ ap (λ (l : List ℕ). run.run ++ l)
          (append_assoc (print_extension extension.extension) s end.more ∙ ap (λ (l : List ℕ). print_extension extension.extension ++ l) end.whole);
      few = omega (
        arith,
        few,
        bound,
        run.size,
        extension.len_is,
        end.short,
        length-append run.run (print_extension extension.extension ++ s),
        length-append (print_extension extension.extension) s,
      );
    }

    go : (x y z w : Option (List ℕ)) → Consumes x (prepend_known held y) run.run →
        Consumes (prepend_known held y) (prepend_known mid z) (print_extension extension.extension)
        → IfSeen (prepend_known mid z) w (IsShort mid) → IfSeen x w (IsTailCut room)
    go None y z w taken taken_text holds = tt
    go (Some xs) None z w taken taken_text holds = absurd taken
    go (Some xs) (Some ys) None w taken taken_text holds = absurd taken_text
    go (Some xs) (Some ys) (Some zs) None taken taken_text holds = tt
    go (Some xs) (Some ys) (Some zs) (Some ws) taken taken_text holds = (
      run.run ++ (print_extension extension.extension ++ holds.0),
      taken ∙ ap (λ (l : List ℕ). run.run ++ l) (taken_text ∙ ap (λ (l : List ℕ). print_extension extension.extension ++ l) holds.1
          ∙ sym (append_assoc (print_extension extension.extension) holds.0 ws)) ∙ sym
          (append_assoc run.run (print_extension extension.extension ++ holds.0) ws),
      tail_cut holds.0 holds.2.0 (no_tail xs ys zs holds.0 ws taken_text holds.1 holds.2.0.short holds.2.1),
    )

-- digits alone are no line
no_line_digits : (room : ℕ) (bytes : List ℕ) → AllPass is_ascii_hexdigit bytes → HasNoLineWithin room bytes
no_line_digits room bytes all = record {
  none = λ l rest valid fits e. run_unstopped is_ascii_hexdigit l.digits _ (subst (AllPass is_ascii_hexdigit) (e ∙ line_split l rest) all)
      (digits_end l rest valid);
}

-- digits may become a line
digits_may : (bytes : List ℕ) → IsDigitsCut bytes → MayBecomeChunkLine bytes
digits_may [] cut = (
  48 ∷ crlf_bytes,
  plain (48 ∷ []),
  plain_reads (48 ∷ crlf_bytes) (48 ∷ []) (omega arith) (omega arith) (All-cons (λ b. is_ascii_hexdigit b ≡ true) 48 [] refl (All-nil _)) refl,
)
digits_may (b ∷ bytes) cut =
    (crlf_bytes, plain (b ∷ bytes), plain_reads ((b ∷ bytes) ++ crlf_bytes) (b ∷ bytes) (omega arith) cut.few cut.digits refl)

pub line_cut_digits : (a left : Option (List ℕ)) (room : ℕ) → IfSeen a left IsDigitsCut → IfSeen a left (IsLineCut room)
line_cut_digits a left room = seen_map a left IsDigitsCut (IsLineCut room)
    λ bytes cut. record { none = no_line_digits room bytes cut.digits; may = digits_may bytes cut; few = omega (arith, cut.few) }

pub line_cut_tail : (a : Option (List ℕ)) (held after : List ℕ) (left now : Option (List ℕ)) (n room : ℕ) → Keeps a (prepend_known held left) → HasDigits held n
    → after ≡ drop n held → IfSeen (prepend_known after left) now (IsTailCut room) → IfSeen a now (IsLineCut room)
line_cut_tail a held after left now n room kept digits after_is none_there = seen_kept a _ now (IsLineCut room) kept (go left now none_there)
  where
    whole : take n held ++ after ≡ held
    whole = ap (λ (l : List ℕ). take n held ++ l) after_is ∙ take-append-drop n held

    stops : (more : List ℕ) → Stops is_ascii_hexdigit (after ++ more)
    stops more = Stops-append is_ascii_hexdigit after more (subst (Stops is_ascii_hexdigit) (sym after_is) digits.stops)

    no_line : (xs s ys : List ℕ) → after ++ xs ≡ s ++ ys → HasNoTail room s → HasNoLineWithin room (take n held ++ s)
    no_line xs [] ys e none = no_line_digits room (take n held ++ []) (subst (AllPass is_ascii_hexdigit) (sym (append-nil (take n held))) digits.digits)
    no_line xs (b ∷ s) ys e none =
        no_line_tail room n held (b ∷ s) digits none (stops_front is_ascii_hexdigit (b ∷ s) ys (omega arith) (subst (Stops is_ascii_hexdigit) e (stops xs)))

    line_cut : (s : List ℕ) → IsTailCut room s → HasNoLineWithin room (take n held ++ s) → IsLineCut room (take n held ++ s)
    line_cut s cut none =
        let size : length (take n held) ≡ n = length-take-le n held digits.within in
        let line : ChunkLine = record { digits = take n held; pad = cut.pad; extension = cut.extension } in
        record {
          none = none;
          may = (
            cut.more,
            line,
            (
              record {
                digits = (omega (arith, size, digits.some), omega (arith, size, digits.few), digits.digits);
                pad = cut.are_blanks;
                extension = cut.is_extension;
              },
              append_assoc (take n held) s cut.more ∙ ap (λ (l : List ℕ). take n held ++ l) cut.whole ∙ sym (line_text line) ∙ sym (append-nil _),
            ),
          );
          few = omega (arith, size, digits.few, cut.few, length-append (take n held) s);
        }

    go : (x y : Option (List ℕ)) → IfSeen (prepend_known after x) y (IsTailCut room) → IfSeen (prepend_known held x) y (IsLineCut room)
    go None y holds = tt
    go (Some xs) None holds = tt
    go (Some xs) (Some ys) holds = (
      take n held ++ holds.0,
      ap (λ (l : List ℕ). l ++ xs) (sym whole) ∙ append_assoc (take n held) after xs ∙ ap (λ (l : List ℕ). take n held ++ l) holds.1 ∙ sym
          (append_assoc (take n held) holds.0 ys),
      line_cut holds.0 holds.2 (no_line xs holds.0 ys holds.1 holds.2.none),
    )
