-- From a head and a body that were taken off the input to a request, and why there is none.
use Rattle.std.proofs.Common.{◌≡◌, ◌⊎◌, ℕ, ◌+◌, ◌≤◌, Bool, true, false, refl, List, ◌++◌, length, Option, None, IfSome, inl, inr, sym, ap, ◌∙◌, subst, arith}
use Rattle.std.proofs.Common.{length-append, append_assoc}
use Rattle.std.specs.Io.KnownBytes.{Consumes, Appends, Keeps}
use Rattle.std.proofs.KnownBytes.{Consumes-trans, Consumes-kept, Appends-nil}
use Rattle.httparse.specs.Grammar.{RequestHead, print_request}
use Rattle.httparse.specs.Pieces.{is_newline}
use Rattle.httparse.proofs.RunLemmas.{run_unstopped}
use Rattle.sw_outside.specs.Taken.{AppendsPart}
use Rattle.sw_http.specs.Body.{IsFramedBody, print_body}
use Rattle.sw_http.specs.ChunkSteps.{TakesBody, HasNoBody, MayBecomeBody, IsBodyCut}
use Rattle.sw_http.specs.Continue.{Takes, AwaitsHead, AwaitsBody, MayHaveHead, HasHead, BeginsNone, FindsNoRequest}
use Rattle.sw_http.specs.Continue.{IsCutShort, IsStopped, IsToldOnce, IsToldPart, asks_continue, continue_text}
use Rattle.sw_http.specs.Continue.{NeedsMore, continue_of, puts_after}
use Rattle.std.specs.Prelude.{codes, ⊤}
use Rattle.std.proofs.lemmas.Bool.{cond-true, cond-false}
use Rattle.httparse.specs.Ascii.{crlf_bytes}
use Rattle.sw_message.specs.Framing.{framing_of, is_framed}
use Rattle.sw_http.specs.Input.{IfSeen, fault_of}
use Rattle.sw_http.specs.declared.input.ReadError.{ReadError}
use Rattle.sw_http.specs.declared.input.ReadError.TheVariants as errors
use Rattle.sw_http.specs.declared.reader.HttpFault.TheVariants as faults
use Rattle.sw_http.specs.Opening.{Opens, IsHeadless}
use Rattle.sw_http.specs.Request.{Parts, AreParts, IsNoRequest, IsSkipped, text_of}
use Rattle.sw_message.specs.Head.{fields_of}
use Rattle.sw_message.specs.declared.fields.Field.{Field}
use Rattle.sw_message.specs.declared.framing.Framing.{Framing}
use Rattle.sw_message.specs.declared.parts.OpenRequest.{OpenRequest}
use Rattle.sw_message.specs.declared.request.Body.{Body}
use Rattle.sw_message.specs.declared.request.Request.{Request}
use Rattle.sw_message.proofs.HeadLemmas.{head_stops}
use Rattle.sw_http.proofs.InputLemmas.{if_behind, if_some_map, seen_behind, seen_map}
use Rattle.sw_message.proofs.ListLemmas.{take_every}
use Rattle.sw_http.proofs.ReadingLemmas.{text_split, start_same}

-- ---- the head

pub has_head : (a b : Option (List ℕ)) (open_ : OpenRequest) (room : ℕ) (opens : Opens a b open_ room) → HasHead a opens.head
has_head a b open_ room opens = record { skipped = opens.skipped; are_skipped = opens.are_skipped; is_head = opens.is_head; rest = b; stands = opens.taken }

-- what is written for the fields that were copied is what the head asks for
pub told : (a b t now : Option (List ℕ)) (open_ : OpenRequest) (room : ℕ) (opens : Opens a b open_ room) → Appends t now (continue_text open_.fields)
    → Appends t now (continue_of opens.head)
told a b t now open_ room opens written = subst (λ (l : List Field). Appends t now (continue_text l)) opens.is_open.fields written

pub told_part : (a b t now : Option (List ℕ)) (open_ : OpenRequest) (room : ℕ) (opens : Opens a b open_ room) → AppendsPart t now (continue_text open_.fields)
    → IsToldPart a t now
told_part a b t now open_ room opens written =
    (opens.head, has_head a b open_ room opens, subst (λ (l : List Field). AppendsPart t now (continue_text l)) opens.is_open.fields written)

-- all of it is a front of it
pub part_of_all : (t now : Option (List ℕ)) (text : List ℕ) → Appends t now text → AppendsPart t now text
part_of_all t now text written = (length text, subst (Appends t now) (sym (take_every text)) written)

pub told_whole : (a b t now : Option (List ℕ)) (open_ : OpenRequest) (room : ℕ) (opens : Opens a b open_ room) → Appends t now (continue_text open_.fields) →
    IsToldPart a t now
told_whole a b t now open_ room opens written = told_part a b t now open_ room opens (part_of_all t now (continue_text open_.fields) written)

pub continue_asked : (fields : List Field) → asks_continue fields ≡ true → continue_text fields ≡ codes "HTTP/1.1 100 Continue" ++ (crlf_bytes ++ crlf_bytes)
unfolding continue_text
continue_asked fields asks = cond-true _ _ _ asks

-- ---- the request

size_of_text : (skipped head body : List ℕ) (room most : ℕ) → length (skipped ++ head) + room ≡ most → length body ≤ room →
    length (skipped ++ (head ++ body)) ≤ most
size_of_text skipped head body room most sum fits =
    omega (arith, sum, fits, length-append skipped head, length-append skipped (head ++ body), length-append head body)

pub request_taken : (a b c t now : Option (List ℕ)) (open_ : OpenRequest) (room : ℕ) (body : Body) (request : Request) → Opens a b open_ room
    → Appends t now (continue_text open_.fields) → TakesBody b c (framing_of open_.fields) room body
    → request ≡ record { method = open_.method; path = open_.path; query = open_.query; fields = open_.fields; framed = is_framed open_.fields; body = body }
    → Takes a c t now request
request_taken a b c t now open_ room body request opens written takes request_is = record {
  parts = record { skipped = opens.skipped; head = opens.head; body = takes.text };
  are_parts = record {
    skipped = opens.are_skipped;
    head = opens.is_head;
    body = subst (λ (l : List Field). IsFramedBody (framing_of l) takes.text) opens.is_open.fields takes.is_body;
    size = size_of_text opens.skipped (print_request opens.head) (print_body takes.text) room 1073741824 opens.room_is takes.fits;
  };
  request_is = request_is ∙ (λ i. record {
    method = opens.is_open.method i;
    path = opens.is_open.path i;
    query = opens.is_open.query i;
    fields = opens.is_open.fields i;
    framed = is_framed (opens.is_open.fields i);
    body = takes.body_is i;
  });
  consumed = subst (Consumes a c) (append_assoc opens.skipped (print_request opens.head) (print_body takes.text))
      (Consumes-trans a b c _ _ opens.taken takes.taken);
  continued = told a b t now open_ room opens written;
}

-- ---- no request

no_request_headless : (bytes : List ℕ) → IsHeadless bytes → IsNoRequest bytes
no_request_headless bytes headless = record {
  none = λ p rest reads. headless.none.none p.skipped _ p.head reads.parts.skipped reads.parts.head (reads.whole ∙ text_split p rest);
  not_skipped = headless.not_skipped;
}

pub refuses_headless : (a t : Option (List ℕ)) → IfSome a IsHeadless → FindsNoRequest a t t
refuses_headless a t headless = record {
  no_request = if_some_map a IsHeadless IsNoRequest no_request_headless headless;
  continued = inr (if_some_map a IsHeadless BeginsNone (λ bytes h. h.none) headless, Appends-nil t);
}

-- line ends, a head, and then what isn't its body
no_request_body : (skipped rest : List ℕ) (h : RequestHead) (room : ℕ) → IsSkipped skipped →
    (is : (after : List ℕ) → ¬ (IsSkipped (skipped ++ (print_request h ++ after))))
    → ((p : Parts) (after : List ℕ) → AreParts p → ¬ (skipped ++ (print_request h ++ rest) ≡ text_of p ++ after))
    → IsNoRequest ((skipped ++ print_request h) ++ rest)
no_request_body skipped rest h room are not none_there =
    subst IsNoRequest (sym (append_assoc skipped (print_request h) rest))
    (record { none = λ p after reads. none_there p after reads.parts reads.whole; not_skipped = not rest })

refused_behind : (a b : Option (List ℕ)) (open_ : OpenRequest) (room : ℕ) (opens : Opens a b open_ room) (Q : List ℕ → Type 0)
    → ((rest : List ℕ) → Q rest → (p : Parts) (after : List ℕ) → AreParts p → opens.head ≡ p.head → opens.skipped ≡ p.skipped →
    ¬ (rest ≡ print_body p.body ++ after))
    → IfSome b Q → IfSome a IsNoRequest
refused_behind a b open_ room opens Q step = if_behind a b _ IsNoRequest Q opens.taken λ rest holds.
    no_request_body opens.skipped rest opens.head room opens.are_skipped
    (λ after are. run_unstopped is_newline opens.skipped _ are.newlines (head_stops opens.head after opens.is_head))
    (λ p after parts e.
    let same = start_same opens.skipped p.skipped opens.head p.head rest _ opens.are_skipped parts.skipped opens.is_head parts.head (e ∙ text_split p after) in
    step rest holds p after parts same.1 same.0 same.2)

pub nothing_told : (fields : List Field) → None ≡ framing_of fields → (x : Option (List ℕ)) → Appends x x (continue_text fields)
unfolding continue_text
nothing_told fields bad x = rw (← bad) (Appends-nil x)

-- what follows the head is not the body of a request
no_request_behind : (a b : Option (List ℕ)) (open_ : OpenRequest) (room : ℕ) (opens : Opens a b open_ room) (rest : List ℕ) →
    HasNoBody (framing_of open_.fields) room rest
    → (p : Parts) (after : List ℕ) → AreParts p → opens.head ≡ p.head → opens.skipped ≡ p.skipped → ¬ (rest ≡ print_body p.body ++ after)
no_request_behind a b open_ room opens rest holds p after parts same skipped_same e =
    let framing = ap framing_of opens.is_open.fields ∙ ap (λ (h : RequestHead). framing_of (fields_of h)) same in
    let fits : length (print_body p.body) ≤ room =
    omega (
      arith,
      parts.size,
      opens.room_is,
      length-append opens.skipped (print_request opens.head),
      length-append p.skipped (print_request p.head ++ print_body p.body),
      length-append (print_request p.head) (print_body p.body),
      ap length skipped_same,
      ap (λ (h : RequestHead). length (print_request h)) same,
    ) in
    holds.none p.body after (subst (λ (f : Option Framing). IsFramedBody f p.body) (sym framing) parts.body) fits e

-- its body isn't there
pub refuses_body : (a b t now : Option (List ℕ)) (open_ : OpenRequest) (room : ℕ) → Opens a b open_ room → Appends t now (continue_text open_.fields)
    → IfSome b (HasNoBody (framing_of open_.fields) room) → FindsNoRequest a t now
refuses_body a b t now open_ room opens written none_there = record {
  no_request = refused_behind a b open_ room opens (HasNoBody (framing_of open_.fields) room) (no_request_behind a b open_ room opens) none_there;
  continued = inl (opens.head, has_head a b open_ room opens, told a b t now open_ room opens written);
}

-- ---- a read failed

pub fault_is_wanting : (e : ReadError) → fault_of e ≡ faults.NoMemory → e ≡ errors.NoMemory
fault_is_wanting errors.NoMemory same = refl
fault_is_wanting errors.Failed same = absurd (cc)

pub fault_is_failed : (e : ReadError) → fault_of e ≡ faults.ReadFault → e ≡ errors.Failed
fault_is_failed errors.Failed same = refl
fault_is_failed errors.NoMemory same = absurd (cc)

pub cut_opening : (a left t : Option (List ℕ)) (calls : ℕ) → IfSeen a left AwaitsHead → IfSeen a left (IsCutShort t t calls calls)
cut_opening a left t calls = seen_map a left AwaitsHead (IsCutShort t t calls calls) λ bytes awaits. record {
  needed = λ p rest reads. awaits.none.none p.skipped _ p.head reads.parts.skipped reads.parts.head (reads.whole ∙ text_split p rest);
  told = inl (awaits, Appends-nil t, refl);
}

awaits_body : (a b : Option (List ℕ)) (open_ : OpenRequest) (room : ℕ) (opens : Opens a b open_ room) (rest : List ℕ)
    → MayBecomeBody (framing_of open_.fields) room rest → AwaitsBody ((opens.skipped ++ print_request opens.head) ++ rest) opens.head
awaits_body a b open_ room opens rest may = record {
  skipped = opens.skipped;
  are_skipped = opens.are_skipped;
  is_head = opens.is_head;
  begun = rest;
  whole = append_assoc opens.skipped (print_request opens.head) rest;
  room = room;
  room_is = opens.room_is;
  may = subst (λ (l : List Field). MayBecomeBody (framing_of l) room rest) opens.is_open.fields may;
}

pub cut_body : (a b left t now : Option (List ℕ)) (calls calls_now : ℕ) (open_ : OpenRequest) (room : ℕ) → Opens a b open_ room →
    Appends t now (continue_text open_.fields)
    → calls_now ≡ puts_after open_.fields calls
    → IfSeen b left (IsBodyCut (framing_of open_.fields) room) → IfSeen a left (IsCutShort t now calls calls_now)
cut_body a b left t now calls calls_now open_ room opens written called cut =
    seen_behind a b left (opens.skipped ++ print_request opens.head) (IsCutShort t now calls calls_now) (IsBodyCut (framing_of open_.fields) room) opens.taken
    (λ rest holds. record {
      needed = λ p after reads.
          let same = start_same opens.skipped p.skipped opens.head p.head rest _ opens.are_skipped reads.parts.skipped opens.is_head reads.parts.head
          (sym (append_assoc opens.skipped (print_request opens.head) rest) ∙ reads.whole ∙ text_split p after) in
          no_request_behind a b open_ room opens rest holds.none p after reads.parts same.1 same.0 same.2;
      told = inr (
        opens.head,
        awaits_body a b open_ room opens rest holds.may,
        told a b t now open_ room opens written,
        called ∙ ap (λ (l : List Field). puts_after l calls) opens.is_open.fields,
      );
    }) cut

-- ---- more was needed

pub needs_opening : (a left : Option (List ℕ)) → IfSeen a left AwaitsHead → IfSeen a left NeedsMore
needs_opening a left = seen_map a left AwaitsHead NeedsMore λ bytes awaits. record {
  none = λ p rest reads. awaits.none.none p.skipped _ p.head reads.parts.skipped reads.parts.head (reads.whole ∙ text_split p rest);
  may = inl awaits;
}

pub needs_body : (a b left : Option (List ℕ)) (open_ : OpenRequest) (room : ℕ) → Opens a b open_ room
    → IfSeen b left (IsBodyCut (framing_of open_.fields) room) → IfSeen a left NeedsMore
needs_body a b left open_ room opens cut =
    seen_behind a b left (opens.skipped ++ print_request opens.head) NeedsMore (IsBodyCut (framing_of open_.fields) room) opens.taken
    (λ rest holds. record {
      none = λ p after reads.
          let same = start_same opens.skipped p.skipped opens.head p.head rest _ opens.are_skipped reads.parts.skipped opens.is_head reads.parts.head
          (sym (append_assoc opens.skipped (print_request opens.head) rest) ∙ reads.whole ∙ text_split p after) in
          no_request_behind a b open_ room opens rest holds.none p after reads.parts same.1 same.0 same.2;
      may = inr (opens.head, awaits_body a b open_ room opens rest holds.may);
    }) cut

-- ---- memory was wanted behind the head

pub wanted_body : (a b left : Option (List ℕ)) (open_ : OpenRequest) (room : ℕ) → Opens a b open_ room → IfSeen b left (λ s. ⊤) → IfSeen a left MayHaveHead
wanted_body a b left open_ room opens seen =
    seen_behind a b left (opens.skipped ++ print_request opens.head) MayHaveHead (λ (s : List ℕ). ⊤) opens.taken
    (λ rest _. inr (
      opens.head,
      record {
        skipped = opens.skipped;
        are_skipped = opens.are_skipped;
        is_head = opens.is_head;
        rest = rest;
        whole = append_assoc opens.skipped (print_request opens.head) rest;
      },
    )) seen

-- ---- the client is told

pub called_once : (a b : Option (List ℕ)) (open_ : OpenRequest) (room calls calls_now : ℕ) → Opens a b open_ room → calls_now ≡ puts_after open_.fields calls
    → (calls_now ≡ calls) ⊎ IsToldOnce a calls calls_now
called_once a b open_ room calls calls_now opens called = go (asks_continue open_.fields) refl
  where
    go : (asks : Bool) → asks_continue open_.fields ≡ asks → (calls_now ≡ calls) ⊎ IsToldOnce a calls calls_now
    go true asks = inr (
      opens.head,
      has_head a b open_ room opens,
      ap asks_continue (sym opens.is_open.fields) ∙ asks,
      called ∙ cond-true _ _ _ asks,
    )
    go false asks = inl (called ∙ cond-false _ _ _ asks)

pub stopped : (a b c t now : Option (List ℕ)) (calls calls_now : ℕ) (open_ : OpenRequest) (room : ℕ) → Opens a b open_ room → Keeps b c →
    asks_continue open_.fields ≡ true
    → AppendsPart t now (continue_text open_.fields) → calls_now ≡ puts_after open_.fields calls → IsStopped a c t now calls calls_now
stopped a b c t now calls calls_now open_ room opens kept asks written called = record {
  skipped = opens.skipped;
  are_skipped = opens.are_skipped;
  head = opens.head;
  is_head = opens.is_head;
  asks = ap asks_continue (sym opens.is_open.fields) ∙ asks;
  consumed = Consumes-kept a b c _ opens.taken kept;
  told = subst (λ (l : List Field). AppendsPart t now (continue_text l)) opens.is_open.fields written;
  called = called ∙ cond-true _ _ _ asks;
}

-- what has no good framing asks for nothing
pub nothing_asked : (fields : List Field) (calls : ℕ) → None ≡ framing_of fields → calls ≡ puts_after fields calls
nothing_asked fields calls bad = rw (← bad) refl
