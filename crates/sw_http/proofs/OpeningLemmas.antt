-- The front of a request: what was skipped and the head, and why there is none.
use Rattle.std.proofs.Common.{◌≡◌, ℕ, ◌-◌, ◌≤◌, List, [], ◌∷◌, ◌++◌, length, take, drop, map, Option, None, Some, IfSome, refl, sym, ap, ◌∙◌, subst, arith}
use Rattle.std.proofs.Common.{inl, inr, append-nil, length-append, lit<}
use Rattle.std.specs.List.{before_first, after_first}
use Rattle.std.specs.Io.KnownBytes.{Consumes, Keeps, prepend_known}
use Rattle.std.proofs.KnownBytes.{Consumes-trans, Consumes-kept, Keeps-refl}
use Rattle.httparse.specs.Grammar.{RequestHead, print_request, AllPass}
use Rattle.httparse.specs.Grammar as grammar
use Rattle.httparse.specs.Pieces.{Stops, is_newline}
use Rattle.httparse.specs.Spans.{AreFieldsAt, span_bytes, header_bytes, name_and_value}
use Rattle.httparse.specs.declared.spans.HeaderSpan.{HeaderSpan}
use Rattle.httparse.specs.declared.spans.RequestSpans.{RequestSpans}
use Rattle.httparse.proofs.RunLemmas.{run_unique, run_unstopped, Stops-append}
use Rattle.sw_http.specs.Continue.{AwaitsHead, MayHaveHead, Skips}
use Rattle.sw_message.specs.Head.{HasNoHead, IsHeadAt, field_at}
use Rattle.sw_http.specs.Opening.{IsHeadless, TakesHead, Opens, IsHeadCut, MayBeginHead}
use Rattle.sw_http.specs.Input.{IfSeen, TakesRun, TakesFew, IsAllRun, IsLongRun}
use Rattle.sw_http.specs.Request.{IsSkipped}
use Rattle.sw_message.specs.Head.{field_of, is_question_mark}
use Rattle.sw_message.specs.declared.fields.Field.{Field}
use Rattle.sw_message.specs.declared.parts.OpenRequest.{OpenRequest}
use Rattle.sw_message.proofs.HeadLemmas.{head_stops}
use Rattle.sw_http.proofs.InputLemmas.{kept_consumes, text_taken, if_some_map, longer_run, seen_behind, seen_map, seen_still, unfinished_none}

-- ---- the head that was found

abbrev field_from : List ℕ × List ℕ → Field
field_from pair = record { name = pair.0; value = pair.1 }

map_twice : {A : Type 0} (f : A → List ℕ × List ℕ) (xs : List A) → map field_from (map f xs) ≡ map (λ x. field_from (f x)) xs
map_twice f [] = refl
map_twice f (x ∷ xs) = ap (λ (l : List Field). field_from (f x) ∷ l) (map_twice f xs)

fields_read : (bytes : List ℕ) (headers : List HeaderSpan) (count : ℕ) (fields : List grammar.Field) → AreFieldsAt bytes headers count fields
    → map (field_at bytes) (take count headers) ≡ map field_of fields
fields_read bytes headers count fields at =
    sym (map_twice (header_bytes bytes) (take count headers)) ∙ ap (map field_from) at ∙ map_twice name_and_value fields

-- the parts of a head, as they were copied
pub record AreCopied (bytes : List ℕ) (headers : List HeaderSpan) (spans : RequestSpans) (open_ : OpenRequest) : Type 0 where
  pub method : open_.method ≡ span_bytes bytes spans.method
  pub path : open_.path ≡ before_first is_question_mark (span_bytes bytes spans.path)
  pub query : open_.query ≡ after_first is_question_mark (span_bytes bytes spans.path)
  pub fields : open_.fields ≡ map (field_at bytes) (take spans.headers headers)

pub head_taken : (a : Option (List ℕ)) (held after : List ℕ) (left : Option (List ℕ)) (headers : List HeaderSpan) (spans : RequestSpans) (open_ : OpenRequest)
    → Keeps a (prepend_known held left) → IsHeadAt held headers spans → after ≡ drop spans.len held → AreCopied held headers spans open_
    → TakesHead a (prepend_known after left) open_ spans.len
head_taken a held after left headers spans open_ kept found after_is copied = record {
  head = found.head;
  is_head = found.is_head;
  is_open = record {
    method = copied.method ∙ found.at.method;
    path = copied.path ∙ ap (before_first is_question_mark) found.at.path;
    query = copied.query ∙ ap (after_first is_question_mark) found.at.path;
    fields = copied.fields ∙ fields_read held headers spans.headers found.head.fields found.at.fields;
  };
  len_is = sym found.at.len;
  taken = kept_consumes a _ _ _ kept (text_taken held after _ left (found.at.reads.1 ∙ ap (λ (l : List ℕ). print_request found.head ++ l) (sym after_is)));
}

-- ---- with what was skipped

pub skips_run : (a b : Option (List ℕ)) → TakesFew is_newline 65536 a b → Skips a b
skips_run a b few = record {
  skipped = few.takes.run;
  are_skipped = record { newlines = few.takes.passes; few = omega (arith, few.takes.size, few.few) };
  taken = few.takes.taken;
}

pub skips_kept : (a b c : Option (List ℕ)) (count : ℕ) → TakesRun is_newline a b count → count ≤ 65536 → Keeps b c → Skips a c
skips_kept a b c count run few kept = record {
  skipped = run.run;
  are_skipped = record { newlines = run.passes; few = omega (arith, run.size) };
  taken = Consumes-kept a b c run.run run.taken kept;
}

pub skipped_all : (a : Option (List ℕ)) → IfSome a (IsAllRun is_newline 65536) → IfSome a IsSkipped
skipped_all a = if_some_map a (IsAllRun is_newline 65536) IsSkipped λ bytes all. record { newlines = all.passes; few = all.few }

pub opened : (a b c : Option (List ℕ)) (count len room : ℕ) (open_ : OpenRequest) → TakesRun is_newline a b count → count ≤ 65536 → TakesHead b c open_ len
    → room ≡ 1073741824 - count - len → Opens a c open_ room
opened a b c count len room open_ run few head room_is = record {
  skipped = run.run;
  are_skipped = record { newlines = run.passes; few = omega (arith, run.size) };
  head = head.head;
  is_head = head.is_head;
  is_open = head.is_open;
  room_is = omega (arith, room_is, run.size, head.len_is, head.is_head.size, length-append run.run (print_request head.head));
  taken = Consumes-trans a b c run.run _ run.taken head.taken;
}

-- more line ends than are skipped
pub headless_run : (bytes : List ℕ) → IsLongRun is_newline 65536 bytes → IsHeadless bytes
headless_run bytes long = record {
  none = record {
    none = λ skipped rest h are is e.
        let few = are.few in
        longer_run is_newline long.run skipped _ long.rest long.passes (head_stops h rest is) (sym long.whole ∙ e) (omega (arith, long.many));
  };
  not_skipped = λ are. omega (arith, are.few, long.many, ap length long.whole, length-append long.run long.rest);
}

-- no head behind the line ends
headless_behind : (skipped after : List ℕ) → AllPass is_newline skipped → Stops is_newline after → HasNoHead after → IsHeadless (skipped ++ after)
headless_behind skipped after newlines stops none_there = record {
  none = record {
    none = λ others rest h are is e.
        let same = run_unique is_newline skipped others after _ newlines are.newlines stops (head_stops h rest is) e in
        none_there.none h rest is same.1;
  };
  not_skipped = λ are. run_unstopped is_newline skipped after are.newlines stops;
}

pub headless : (a : Option (List ℕ)) (held : List ℕ) (left : Option (List ℕ)) (count : ℕ) → TakesRun is_newline a (prepend_known held left) count →
    Stops is_newline held
    → IfSome (prepend_known held left) HasNoHead → IfSome a IsHeadless
headless a held left count run stops none_there = go a left run.taken none_there
  where
    go : (x y : Option (List ℕ)) → Consumes x (prepend_known held y) run.run → IfSome (prepend_known held y) HasNoHead → IfSome x IsHeadless
    go None y taken holds = tt
    go (Some xs) None taken holds = absurd taken
    go (Some xs) (Some ys) taken holds =
        subst IsHeadless (sym taken) (headless_behind run.run (held ++ ys) run.passes (Stops-append is_newline held ys stops) holds)

-- ---- a read failed before the head was whole

pub opening_cut_run : (a left : Option (List ℕ)) → IfSeen a left (IsAllRun is_newline 65536) → IfSeen a left AwaitsHead
opening_cut_run a left = seen_map a left (IsAllRun is_newline 65536) AwaitsHead λ bytes all. record {
  none = record {
    none = λ skipped rest h are is e. run_unstopped is_newline skipped _ (subst (AllPass is_newline) e all.passes) (head_stops h rest is);
  };
  skipped = bytes;
  are_skipped = record { newlines = all.passes; few = all.few };
  begun = [];
  whole = sym (append-nil bytes);
  all_skipped = inl refl;
  short = lit< tt;
  unfinished = unfinished_none _;
}

pub opening_cut_head : (a b left : Option (List ℕ)) (count : ℕ) → TakesRun is_newline a b count → count ≤ 65536
    → IfSeen b left IsHeadCut → IfSeen a left AwaitsHead
opening_cut_head a b left count run few cut =
    seen_behind a b left run.run AwaitsHead IsHeadCut run.taken
    (λ rest head.
    let headless = headless_behind run.run rest run.passes head.begins head.none in
    record {
      none = headless.none;
      skipped = run.run;
      are_skipped = record { newlines = run.passes; few = omega (arith, run.size, few) };
      begun = rest;
      whole = refl;
      all_skipped = inr head.begins;
      short = head.short;
      unfinished = head.unfinished;
    }) cut

-- ---- memory was wanted

pub wanted_head : (a : Option (List ℕ)) (held : List ℕ) (left : Option (List ℕ)) (headers : List HeaderSpan) (spans : RequestSpans)
    → Keeps a (prepend_known held left) → IsHeadAt held headers spans → IfSeen a left MayBeginHead
wanted_head a held left headers spans kept found =
    seen_still a held held left left MayBeginHead kept refl (Keeps-refl left) (inr (found.head, drop spans.len held, found.is_head, found.at.reads.1))

pub wanted_opening : (a b left : Option (List ℕ)) (count : ℕ) → TakesRun is_newline a b count → count ≤ 65536
    → IfSeen b left MayBeginHead → IfSeen a left MayHaveHead
wanted_opening a b left count run few wanted =
    seen_behind a b left run.run MayHaveHead MayBeginHead run.taken go wanted
  where
    are_skipped : IsSkipped run.run
    are_skipped = record { newlines = run.passes; few = omega (arith, run.size, few) }

    go : (rest : List ℕ) → MayBeginHead rest → MayHaveHead (run.run ++ rest)
    go rest (inl head) = inl (record {
      none = (headless_behind run.run rest run.passes head.begins head.none).none;
      skipped = run.run;
      are_skipped = are_skipped;
      begun = rest;
      whole = refl;
      all_skipped = inr head.begins;
      short = head.short;
      unfinished = head.unfinished;
    })
    go rest (inr (h, after, is_head, stands)) = inr (
      h,
      record { skipped = run.run; are_skipped = are_skipped; is_head = is_head; rest = after; whole = ap (λ (l : List ℕ). run.run ++ l) stands },
    )
