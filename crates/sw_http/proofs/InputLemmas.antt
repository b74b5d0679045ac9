-- What reading and passing over do to the input.
use Rattle.std.proofs.Common.{◌≡◌, ℕ, ◌+◌, ◌<◌, ◌≤◌, Bool, true, List, [], ◌∷◌, ◌++◌, length, take, drop, Option, None, Some, IfSome, refl, sym, ap, ◌∙◌, subst}
use Rattle.std.proofs.Common.{arith, append_assoc, length-append, length-take, length-drop, get_or-take, take-append-drop, append-nil}
use Rattle.std.specs.Prelude.{IsTrue}
use Rattle.std.specs.Io.KnownBytes.{Consumes, Keeps, IsAtEnd, prepend_known}
use Rattle.std.proofs.KnownBytes.{Consumes-trans, Consumes-nil, Consumes-kept, Consumes-whole}
use Rattle.std.proofs.lemmas.List.Elements.{All-head, All-tail, All-append, All-nil, All-from_get_or}
use Rattle.std.proofs.lemmas.List.Sums.{prefix_len_passes, prefix_len_stops, prefix_len-le-length}
use Rattle.std.proofs.lemmas.List.{length-take-le}
use Rattle.std.specs.List.{prefix_len}
use Rattle.httparse.proofs.RunLemmas.{Stops-drop, run_unstopped}
use Rattle.httparse.specs.Grammar.{AllPass}
use Rattle.httparse.specs.Pieces.{Stops}
use Rattle.sw_http.specs.Fronts.{HasNone, HasNoneWithin, HasNoNewLine, IsUnfinished, is_line_feed}
use Rattle.std.specs.List.{list_any}
use Rattle.std.proofs.lemmas.List.Folds.{list_any-append}
use Rattle.std.proofs.Math.Seq.{take-append_seam}
use Rattle.std.proofs.Common.{◌⊎◌, inl, inr, false}
use Rattle.sw_http.specs.Input.{IfSeen, HasRead, TakesRun, TakesFew, IsAllRun, IsLongRun, HasNoRun, HasNoLineEnd, IsLineEndCut}
use Rattle.std.specs.Prelude.{Result, Err, OnErr, ⊤}
use Rattle.httparse.specs.Ascii.{crlf_bytes}

-- ---- what is held, and then what the source has left

pub kept_read : (before after : List ℕ) (left now : Option (List ℕ)) (n : ℕ) → HasRead before after left now n
    → Keeps (prepend_known before left) (prepend_known after now)
kept_read before after left now n read = go left now read.read
  where
    go : (a b : Option (List ℕ)) → Consumes a b read.piece → Keeps (prepend_known before a) (prepend_known after b)
    go None b taken = tt
    go (Some xs) None taken = taken
    go (Some xs) (Some ys) taken =
        ap (λ (l : List ℕ). l ++ ys) read.behind ∙ append_assoc before read.piece ys ∙ ap (λ (l : List ℕ). before ++ l) (sym taken)

pub kept_unread : (before after : List ℕ) (left now : Option (List ℕ)) → after ≡ before → Keeps left now
    → Keeps (prepend_known before left) (prepend_known after now)
kept_unread before after None now same kept = tt
kept_unread before after (Some xs) None same kept = kept
kept_unread before after (Some xs) (Some ys) same kept = λ i. same i ++ kept i

pub front_taken : (bytes : List ℕ) (left : Option (List ℕ)) (n : ℕ)
    → Consumes (prepend_known bytes left) (prepend_known (drop n bytes) left) (take n bytes)
front_taken bytes None n = tt
front_taken bytes (Some xs) n =
    ap (λ (l : List ℕ). l ++ xs) (sym (take-append-drop n bytes)) ∙ append_assoc (take n bytes) (drop n bytes) xs

-- a text that stands in front of what is held was taken off
pub text_taken : (held after text : List ℕ) (left : Option (List ℕ)) → held ≡ text ++ after → Consumes (prepend_known held left) (prepend_known after left) text
text_taken held after text None stands = tt
text_taken held after text (Some xs) stands = ap (λ (l : List ℕ). l ++ xs) stands ∙ append_assoc text after xs

pub kept_consumes : (a b c : Option (List ℕ)) (bytes : List ℕ) → Keeps a b → Consumes b c bytes → Consumes a c bytes
kept_consumes None b c bytes kept taken = tt
kept_consumes (Some xs) None c bytes kept taken = absurd kept
kept_consumes (Some xs) (Some ys) None bytes kept taken = taken
kept_consumes (Some xs) (Some ys) (Some zs) bytes kept taken = sym kept ∙ taken

-- a fact on the input holds of what it was before it was read
pub if_kept : (a b : Option (List ℕ)) (P : List ℕ → Type 0) → Keeps a b → IfSome b P → IfSome a P
if_kept None b P kept holds = tt
if_kept (Some xs) None P kept holds = absurd kept
if_kept (Some xs) (Some ys) P kept holds = subst P kept holds

-- from a fact on the input to a weaker one
pub if_some_map : (a : Option (List ℕ)) (P Q : List ℕ → Type 0) → ((bytes : List ℕ) → P bytes → Q bytes) → IfSome a P → IfSome a Q
if_some_map None P Q step holds = tt
if_some_map (Some xs) P Q step holds = step xs holds

-- from a fact on what follows a text that was taken off
pub if_behind : (a b : Option (List ℕ)) (front : List ℕ) (P Q : List ℕ → Type 0) → Consumes a b front → ((rest : List ℕ) → Q rest → P (front ++ rest))
    → IfSome b Q → IfSome a P
if_behind None b front P Q taken step holds = tt
if_behind (Some xs) None front P Q taken step holds = absurd taken
if_behind (Some xs) (Some ys) front P Q taken step holds = subst P (sym taken) (step ys holds)

-- from the text alone that was taken off
pub if_taken : (a b : Option (List ℕ)) (front : List ℕ) (P : List ℕ → Type 0) → Consumes a b front → ((rest : List ℕ) → P (front ++ rest)) → IfSome a P
if_taken None b front P taken step = tt
if_taken (Some xs) None front P taken step = absurd taken
if_taken (Some xs) (Some ys) front P taken step = subst P (sym taken) (step ys)

-- ---- what was seen of the input

-- what is held was seen, where a read failed
pub seen_held : (before after : List ℕ) (left now : Option (List ℕ)) (P : List ℕ → Type 0) → after ≡ before → Keeps left now → P before
    → IfSeen (prepend_known before left) now P
seen_held before after None now P same kept holds = tt
seen_held before after (Some xs) None P same kept holds = tt
seen_held before after (Some xs) (Some ys) P same kept holds = (before, ap (λ (l : List ℕ). before ++ l) (sym kept), holds)

pub seen_kept : (a b left : Option (List ℕ)) (P : List ℕ → Type 0) → Keeps a b → IfSeen b left P → IfSeen a left P
seen_kept None b left P kept holds = tt
seen_kept (Some xs) None left P kept holds = absurd kept
seen_kept (Some xs) (Some ys) None P kept holds = tt
seen_kept (Some xs) (Some ys) (Some zs) P kept holds = (holds.0, sym kept ∙ holds.1, holds.2)

-- from a fact on what was seen to a weaker one
pub seen_map : (a left : Option (List ℕ)) (P Q : List ℕ → Type 0) → ((bytes : List ℕ) → P bytes → Q bytes) → IfSeen a left P → IfSeen a left Q
seen_map None left P Q step holds = tt
seen_map (Some xs) None P Q step holds = tt
seen_map (Some xs) (Some ys) P Q step holds = (holds.0, holds.1, step holds.0 holds.2)

-- from a fact on what was seen behind a text that was taken off
pub seen_behind : (a b left : Option (List ℕ)) (front : List ℕ) (P Q : List ℕ → Type 0) → Consumes a b front → ((rest : List ℕ) → Q rest → P (front ++ rest))
    → IfSeen b left Q → IfSeen a left P
seen_behind None b left front P Q taken step holds = tt
seen_behind (Some xs) None left front P Q taken step holds = absurd taken
seen_behind (Some xs) (Some ys) None front P Q taken step holds = tt
seen_behind (Some xs) (Some ys) (Some zs) front P Q taken step holds =
    (front ++ holds.0, taken ∙ ap (λ (l : List ℕ). front ++ l) holds.1 ∙ sym (append_assoc front holds.0 zs), step holds.0 holds.2)

-- all of the input was seen where nothing is left
pub seen_of_all : (a : Option (List ℕ)) (P : List ℕ → Type 0) → IfSome a P → IfSeen a (Some []) P
seen_of_all None P holds = tt
seen_of_all (Some xs) P holds = (xs, sym (append-nil xs), holds)

pub all_of_seen : (a : Option (List ℕ)) (P : List ℕ → Type 0) → IfSeen a (Some []) P → IfSome a P
all_of_seen None P holds = tt
all_of_seen (Some xs) P holds = subst P (sym (holds.1 ∙ append-nil holds.0)) holds.2

-- what was seen begins with what was held, where it has as many bytes
pub seen_begins : (held xs seen ys : List ℕ) → held ++ xs ≡ seen ++ ys → length held ≤ length seen → (more : List ℕ) × (seen ≡ held ++ more)
seen_begins [] xs seen ys e few = (seen, refl)
seen_begins (b ∷ held) xs [] ys e few = absurd (omega arith)
seen_begins (b ∷ held) xs (c ∷ seen) ys e few =
    let tail = seen_begins held xs seen ys (cc) (omega arith) in
    let same : c ≡ b = cc in
    (tail.0, λ i. same i ∷ tail.1 i)

-- ---- what holds at the end of the input, and of what was held

-- no length, no bytes
pub no_bytes : (bytes : List ℕ) → length bytes ≡ 0 → bytes ≡ []
no_bytes [] e = refl
no_bytes (x ∷ bytes) e = absurd (omega arith)

-- a read that gave nothing left what was there
pub read_none : (before after : List ℕ) (left now : Option (List ℕ)) (n : ℕ) → HasRead before after left now n → n ≡ 0 → after ≡ before
read_none before after left now n read none =
    read.behind ∙ ap (λ (l : List ℕ). before ++ l) (no_bytes read.piece (omega (arith, read.size))) ∙ append-nil before

-- what holds of what is held, and of nothing more where the source is at its end
pub if_ended : (bytes : List ℕ) (left : Option (List ℕ)) (P : List ℕ → Type 0) → P bytes → IsAtEnd left → IfSome (prepend_known bytes left) P
if_ended bytes None P holds end = tt
if_ended bytes (Some xs) P holds end = subst P (sym (append-nil bytes) ∙ ap (λ (l : List ℕ). bytes ++ l) (sym end)) holds

-- what holds whatever follows
pub if_always : (bytes : List ℕ) (left : Option (List ℕ)) (P : List ℕ → Type 0) → ((more : List ℕ) → P (bytes ++ more)) → IfSome (prepend_known bytes left) P
if_always bytes None P holds = tt
if_always bytes (Some xs) P holds = holds xs

-- nothing is held, and the source is at its end
pub all_at_end : (bytes : List ℕ) (left : Option (List ℕ)) → bytes ≡ [] → IsAtEnd left → IsAtEnd (prepend_known bytes left)
all_at_end bytes None none end = tt
all_at_end bytes (Some xs) none end = λ i. none i ++ end i

-- ---- runs

pub run_none : (test : ℕ → Bool) (a : Option (List ℕ)) → TakesRun test a a 0
run_none test a = record { run = []; passes = All-nil _; size = refl; taken = Consumes-nil a }

run_more : (test : ℕ → Bool) (a b c : Option (List ℕ)) (count : ℕ) (run : List ℕ) → TakesRun test a b count → AllPass test run → Consumes b c run
    → TakesRun test a c (count + length run)
run_more test a b c count run before passes taken = record {
  run = before.run ++ run;
  passes = All-append (λ b. IsTrue (test b)) before.run run before.passes passes;
  size = omega (arith, length-append before.run run, before.size);
  taken = Consumes-trans a b c before.run run before.taken taken;
}

pub run_kept : (test : ℕ → Bool) (a b c : Option (List ℕ)) (count : ℕ) → TakesRun test a b count → Keeps b c → TakesRun test a c count
run_kept test a b c count before kept = record {
  run = before.run;
  passes = before.passes;
  size = before.size;
  taken = Consumes-kept a b c before.run before.taken kept;
}

pub run_few : (test : ℕ → Bool) (limit : ℕ) (a b : Option (List ℕ)) (count : ℕ) → TakesRun test a b count → count ≤ limit → TakesFew test limit a b
run_few test limit a b count all few = record { count = count; few = few; takes = all }

pub run_is_all : (test : ℕ → Bool) (limit : ℕ) (a b : Option (List ℕ)) (count : ℕ) → TakesRun test a b count → count ≤ limit → IsAtEnd b →
    IfSome a (IsAllRun test limit)
run_is_all test limit a b count all few end =
    Consumes-whole a b all.run (IsAllRun test limit) all.taken end (record { passes = all.passes; few = omega (arith, all.size) })

pub run_too_long : (test : ℕ → Bool) (limit : ℕ) (a b : Option (List ℕ)) (count : ℕ) → TakesRun test a b count → limit < count → IfSome a (IsLongRun test limit)
run_too_long test limit a b count all many =
    if_taken a b all.run (IsLongRun test limit) all.taken λ rest.
    record { run = all.run; rest = rest; passes = all.passes; many = omega (arith, all.size); whole = refl }

-- the run in front of what is held, by `prefix_len`
pub run_passes : (test : ℕ → Bool) (bytes : List ℕ) → AllPass test (take (prefix_len test bytes) bytes)
run_passes test bytes =
    All-from_get_or (λ b. IsTrue (test b)) _ 0 λ i below.
    let inside : i < prefix_len test bytes = omega (arith, length-take {A = ℕ}) in
    rw get_or-take (prefix_len_passes test bytes i 0 inside)

pub run_stops : (test : ℕ → Bool) (bytes rest : List ℕ) → rest ≡ drop (prefix_len test bytes) bytes → 0 < length rest → Stops test rest
run_stops test bytes rest e some =
    let inside : prefix_len test bytes < length bytes = omega (arith, ap length e, length-drop (prefix_len test bytes) bytes) in
    subst (Stops test) (sym e) (Stops-drop test bytes (prefix_len test bytes) inside (prefix_len_stops test bytes 0 inside))

-- so many are held
pub run_within : (test : ℕ → Bool) (held : List ℕ) (run : ℕ) → run ≡ prefix_len test held → run ≤ length held
run_within test held run is = omega (arith, prefix_len-le-length test held)

-- the run in front of what is held was taken off it
pub run_step : (test : ℕ → Bool) (a : Option (List ℕ)) (held after : List ℕ) (left : Option (List ℕ)) (count run : ℕ) →
    TakesRun test a (prepend_known held left) count
    → run ≡ prefix_len test held → after ≡ drop run held → TakesRun test a (prepend_known after left) (count + run)
run_step test a held after left count run before is dropped =
    let passes = subst (λ (n : ℕ). AllPass test (take n held)) (sym is) (run_passes test held) in
    let size = length-take-le run held (run_within test held run is) in
    let taken = subst (λ (l : List ℕ). Consumes (prepend_known held left) (prepend_known l left) (take run held)) (sym dropped) (front_taken held left run) in
    subst (λ (n : ℕ). TakesRun test a (prepend_known after left) (count + n)) size (run_more test a _ _ count (take run held) before passes taken)

-- what then stands in front ends it
pub run_step_stops : (test : ℕ → Bool) (held after : List ℕ) (run : ℕ) → run ≡ prefix_len test held → after ≡ drop run held → 0 < length after →
    Stops test after
run_step_stops test held after run is dropped some =
    run_stops test held after (dropped ∙ ap (λ (n : ℕ). drop n held) is) some

-- a run of bytes that pass is no longer than what stands before the first that doesn't
pub longer_run : (test : ℕ → Bool) (run front after rest : List ℕ) → AllPass test run → Stops test after → run ++ rest ≡ front ++ after →
    length front < length run → ⊥
longer_run test [] front after rest all stops e longer = omega arith
longer_run test (x ∷ run) [] [] rest all stops e longer = stops
longer_run test (x ∷ run) [] (y ∷ after) rest all stops e longer = let passes = All-head (λ v. test v ≡ true) x run all in cc
longer_run test (x ∷ run) (y ∷ front) after rest all stops e longer =
    longer_run test run front after rest (All-tail (λ v. test v ≡ true) x run all) stops (cc) (omega arith)

-- where none stands in front, none does that is short enough
pub none_within : {A : Type 0} (Is : A → Type 0) (print : A → List ℕ) (room : ℕ) (bytes : List ℕ) → HasNone Is print bytes → HasNoneWithin Is print room bytes
none_within Is print room bytes none_there = record { none = λ parts rest is fits e. none_there.none parts rest is e }

-- where the run is too long, or the input ends in it, no run that may be is followed by a byte
pub no_run_long : (test : ℕ → Bool) (limit : ℕ) (bytes : List ℕ) → IsLongRun test limit bytes → HasNoRun test limit bytes
no_run_long test limit bytes long = record {
  none = λ run rest passes few stops e. longer_run test long.run run rest long.rest long.passes stops (sym long.whole ∙ e) (omega (arith, long.many));
}

pub no_run_all : (test : ℕ → Bool) (limit : ℕ) (bytes : List ℕ) → IsAllRun test limit bytes → HasNoRun test limit bytes
no_run_all test limit bytes all = record {
  none = λ run rest passes few stops e. run_unstopped test run rest (subst (AllPass test) e all.passes) stops;
}

-- a read failed in a run: all that was seen passes
pub run_cut : (test : ℕ → Bool) (limit : ℕ) (a : Option (List ℕ)) (held after : List ℕ) (left now : Option (List ℕ)) (count : ℕ)
    → TakesRun test a (prepend_known held left) count → count ≤ limit → held ≡ [] → after ≡ held → Keeps left now → IfSeen a now (IsAllRun test limit)
run_cut test limit a held after left now count run few none same kept =
    seen_behind a _ now run.run (IsAllRun test limit) (λ (s : List ℕ). s ≡ []) run.taken
    (λ rest nothing. record {
      passes = subst (AllPass test) (sym (ap (λ (l : List ℕ). run.run ++ l) nothing ∙ append-nil run.run)) run.passes;
      few = omega (arith, few, run.size, ap length nothing, length-append run.run rest);
    })
    (seen_held held after left now (λ (s : List ℕ). s ≡ []) same kept none)

-- too few bytes for a line end
pub no_end_short : (bytes : List ℕ) → length bytes < 2 → HasNoLineEnd bytes
no_end_short bytes short = record { none = λ rest e. omega (arith, short, ap length e) }

-- bytes that begin with no line end, and are no front of one: none stands there, whatever follows
pub no_end_other : (held : List ℕ) → ((rest : List ℕ) → ¬ (held ≡ crlf_bytes ++ rest)) → ((rest : List ℕ) → ¬ (crlf_bytes ≡ held ++ rest)) →
    (more : List ℕ) → HasNoLineEnd (held ++ more)
no_end_other [] whole front more = absurd (front crlf_bytes refl)
no_end_other (a ∷ []) whole front more = record {
  none = λ rest e.
      let same : a ≡ 13 = cc in
      front (10 ∷ []) (ap (λ (x : ℕ). x ∷ 10 ∷ []) (sym same));
}
no_end_other (a ∷ b ∷ held) whole front more = record {
  none = λ rest e.
      let first : a ≡ 13 = cc in
      let second : b ≡ 10 = cc in
      whole held (λ i. first i ∷ second i ∷ held);
}

-- bytes that begin with no line end, and are a front of one
pub end_cut : (held rest : List ℕ) → ((after : List ℕ) → ¬ (held ≡ crlf_bytes ++ after)) → crlf_bytes ≡ held ++ rest → IsLineEndCut held
end_cut held rest whole front = record { more = rest; whole = sym front; short = short held rest whole front }
  where
    short : (xs ys : List ℕ) → ((after : List ℕ) → ¬ (xs ≡ crlf_bytes ++ after)) → crlf_bytes ≡ xs ++ ys → length xs < 2
    short [] ys other e = omega arith
    short (a ∷ []) ys other e = omega arith
    short (a ∷ b ∷ xs) ys other e =
        let first : a ≡ 13 = cc in
        let second : b ≡ 10 = cc in
        absurd (other xs (λ i. first i ∷ second i ∷ xs))

-- what ends a run is there, and stands in front whatever follows
pub stops_some : (test : ℕ → Bool) (bytes : List ℕ) → Stops test bytes → 0 < length bytes
stops_some test [] stops = absurd stops
stops_some test (b ∷ bytes) stops = omega arith

pub stops_front : (test : ℕ → Bool) (bytes more : List ℕ) → 0 < length bytes → Stops test (bytes ++ more) → Stops test bytes
stops_front test [] more some stops = absurd (omega arith)
stops_front test (b ∷ bytes) more some stops = stops

-- ---- what more bytes can still make a text of

pub unfinished_none : (MayBecome : List ℕ → Type 0) → IsUnfinished MayBecome []
unfinished_none MayBecome = record { front = []; tail = []; whole = refl; no_line = refl; may = inl refl }

-- bytes were looked at again, or no new line is there
pub unfinished_still : (MayBecome : List ℕ → Type 0) (bytes : List ℕ) (seen : ℕ) → IsUnfinished MayBecome (take seen bytes)
    → MayBecome bytes ⊎ HasNoNewLine seen bytes → IsUnfinished MayBecome bytes
unfinished_still MayBecome bytes seen before (inl may) =
    record { front = bytes; tail = []; whole = sym (append-nil bytes); no_line = refl; may = inr may }
unfinished_still MayBecome bytes seen before (inr none) = record {
  front = before.front;
  tail = before.tail ++ drop seen bytes;
  whole = sym (take-append-drop seen bytes) ∙ ap (λ (l : List ℕ). l ++ drop seen bytes) before.whole ∙ append_assoc before.front before.tail (drop seen bytes);
  no_line = no_line_behind before.tail (drop seen bytes) before.no_line none;
  may = before.may;
}
  where
    no_line_behind : (xs ys : List ℕ) → list_any is_line_feed xs ≡ false → list_any is_line_feed ys ≡ false → list_any is_line_feed (xs ++ ys) ≡ false
    no_line_behind xs ys none_there none_behind = grind (arith, list_any-append, none_there, none_behind)

-- what is held was seen, and what was read since
pub seen_read : (held : List ℕ) (left now : Option (List ℕ)) (bytes : List ℕ) → Consumes left now bytes → IfSeen (prepend_known held left) now (λ s. ⊤)
seen_read held None now bytes given = tt
seen_read held (Some xs) None bytes given = tt
seen_read held (Some xs) (Some ys) bytes given =
    (held ++ bytes, ap (λ (l : List ℕ). held ++ l) given ∙ sym (append_assoc held bytes ys), tt)

-- what holds of an error
pub on_err_at : {A E : Type 0} (r : Result A E) (e : E) (P : Type 0) → r ≡ Err e → OnErr r P → P
on_err_at {A = A} {E = E} r e P same holds = subst (λ (x : Result A E). OnErr x P) same holds

-- what is held was seen, and was only read since, where a read failed
pub seen_still : (a : Option (List ℕ)) (before after : List ℕ) (left now : Option (List ℕ)) (P : List ℕ → Type 0) → Keeps a (prepend_known before left)
    → after ≡ before → Keeps left now → P before → IfSeen a now P
seen_still a before after left now P read same kept holds = seen_kept a _ now P read (seen_held before after left now P same kept holds)

-- bytes that were looked at are the front of what was read since
pub front_read : (P : List ℕ → Type 0) (held now : List ℕ) (left left_now : Option (List ℕ)) (n : ℕ) → P held → HasRead held now left left_now n
    → P (take (length held) now)
front_read P held now left left_now n holds read =
    subst P (sym (ap (take (length held)) read.behind ∙ take-append_seam held read.piece)) holds

pub longer_read : (held now : List ℕ) (left left_now : Option (List ℕ)) (n : ℕ) → HasRead held now left left_now n → length held ≤ length now
longer_read held now left left_now n read = omega (arith, ap length read.behind, length-append held read.piece)
