-- Bytes have one reading: no request's text begins another's.
use Rattle.std.proofs.Common.{◌≡◌, ℕ, List, Option, None, Some, [], ◌∷◌, ◌++◌, length, inl, inr, refl, sym, ap, ◌∙◌, subst, append_assoc}
use Rattle.std.specs.List.{flat_map}
use Rattle.std.proofs.lemmas.List.Elements.{All-head, All-tail}
use Rattle.httparse.specs.Grammar.{AllPass, RequestHead, print_request}
use Rattle.httparse.specs.Pieces.{is_newline}
use Rattle.httparse.proofs.GrammarLemmas.{request_unique}
use Rattle.httparse.proofs.RunLemmas.{run_unique, run_unstopped}
use Rattle.sw_http.specs.Body.{Plain, Chunks, BodyText, IsBody, IsFramedBody, print_body}
use Rattle.sw_message.specs.Framing.{framing_of}
use Rattle.sw_message.specs.declared.framing.Framing.{Framing}
use Rattle.sw_message.specs.declared.framing.Framing.TheVariants.{Unframed, Length, Chunked}
use Rattle.sw_http.specs.Reading.{IsEnd, OneReading, OneRequest}
use Rattle.sw_http.specs.Request.{Parts, AreParts, IsSkipped, text_of}
use Rattle.sw_message.specs.Head.{IsHead, fields_of}
use Rattle.sw_http.proofs.ChunkedLemmas.{chunked_same}
use Rattle.sw_message.proofs.HeadLemmas.{head_stops}
use Rattle.sw_http.proofs.ListLemmas.{fronts_same}

pub text_split : (p : Parts) (rest : List ℕ) → text_of p ++ rest ≡ p.skipped ++ (print_request p.head ++ (print_body p.body ++ rest))
text_split p rest = append_assoc p.skipped _ rest ∙ ap (λ (l : List ℕ). p.skipped ++ l) (append_assoc (print_request p.head) (print_body p.body) rest)

-- bodies with one framing
body_same : (framing : Framing) (a b : BodyText) (r q : List ℕ) → IsBody framing a → IsBody framing b → print_body a ++ r ≡ print_body b ++ q →
    (a ≡ b) × (r ≡ q)
body_same Unframed (Plain a) (Plain b) r q is are e =
    let same = fronts_same a b r q (ap length is ∙ sym (ap length are)) e in (ap Plain same.0, same.1)
body_same (Length len) (Plain a) (Plain b) r q is are e =
    let same = fronts_same a b r q (is ∙ sym are) e in (ap Plain same.0, same.1)
body_same Chunked (Chunks a) (Chunks b) r q is are e =
    let same = chunked_same a b r q is are e in (ap Chunks same.0, same.1)
body_same Unframed (Chunks a) b r q is are e = absurd is
body_same (Length len) (Chunks a) b r q is are e = absurd is
body_same Chunked (Plain a) b r q is are e = absurd is
body_same Unframed (Plain a) (Chunks b) r q is are e = absurd are
body_same (Length len) (Plain a) (Chunks b) r q is are e = absurd are
body_same Chunked (Chunks a) (Plain b) r q is are e = absurd are

pub framed_body_same : (framing other : Option Framing) (a b : BodyText) (r q : List ℕ) → framing ≡ other → IsFramedBody framing a → IsFramedBody other b
    → print_body a ++ r ≡ print_body b ++ q → (a ≡ b) × (r ≡ q)
framed_body_same None other a b r q same is are e = absurd is
framed_body_same (Some framing) other a b r q same is are e =
    body_same framing a b r q is (subst (λ (f : Option Framing). IsFramedBody f b) (sym same) are) e

-- what stands in front of bytes behind line ends is one head
pub start_same : (skipped others : List ℕ) (h k : RequestHead) (r q : List ℕ) → IsSkipped skipped → IsSkipped others → IsHead h → IsHead k
    → skipped ++ (print_request h ++ r) ≡ others ++ (print_request k ++ q) → (skipped ≡ others) × (h ≡ k) × (r ≡ q)
start_same skipped others h k r q are others_are is other_is e =
    let runs = run_unique is_newline skipped others _ _ are.newlines others_are.newlines (head_stops h r is) (head_stops k q other_is) e in
    let heads = request_unique _ h k r q (is.valid, refl) (other_is.valid, runs.1) in
    (runs.0, heads.0, heads.1)

pub same_request : (p q : Parts) (r s : List ℕ) → AreParts p → AreParts q → text_of p ++ r ≡ text_of q ++ s → (p ≡ q) × (r ≡ s)
same_request p q r s pp qq e =
    let starts = start_same p.skipped q.skipped p.head q.head _ _ pp.skipped qq.skipped pp.head qq.head (sym (text_split p r) ∙ e ∙ text_split q s) in
    let bodies = framed_body_same _ _ p.body q.body r s (ap (λ (h : RequestHead). framing_of (fields_of h)) starts.1) pp.body qq.body starts.2 in
    (λ i. record { skipped = starts.0 i; head = starts.1 i; body = bodies.0 i }, bodies.1)

pub one_request : OneRequest
one_request bytes more first second rest last a b =
    same_request first second (rest ++ more) last a.parts b.parts
    (sym (append_assoc (text_of first) rest more) ∙ ap (λ (l : List ℕ). l ++ more) (sym a.whole) ∙ b.whole)

-- where nothing more can be read no request stands in front
no_more : (p : Parts) (rest last : List ℕ) → AreParts p → last ≡ text_of p ++ rest → IsEnd last → ⊥
no_more p rest last parts e (inl skipped) =
    run_unstopped is_newline p.skipped _ (subst (AllPass is_newline) (e ∙ text_split p rest) skipped.newlines)
    (head_stops p.head (print_body p.body ++ rest) parts.head)
no_more p rest last parts e (inr none) = none.none p rest (record { parts = parts; whole = e })

step : (p : Parts) (ps : List Parts) (rest : List ℕ) → flat_map text_of (p ∷ ps) ++ rest ≡ text_of p ++ (flat_map text_of ps ++ rest)
step p ps rest = append_assoc (text_of p) (flat_map text_of ps) rest

pub one_reading : OneReading
one_reading bytes [] all rest last a b end = (all, refl, record { are_parts = b.are_parts; whole = sym a.whole ∙ b.whole })
one_reading bytes (p ∷ ps) [] rest last a b end =
    absurd (no_more p (flat_map text_of ps ++ rest) last (All-head AreParts p ps a.are_parts) (sym b.whole ∙ a.whole ∙ step p ps rest) end)
one_reading bytes (p ∷ ps) (q ∷ qs) rest last a b end =
    let same = same_request p q _ _ (All-head AreParts p ps a.are_parts) (All-head AreParts q qs b.are_parts)
    (sym (step p ps rest) ∙ sym a.whole ∙ b.whole ∙ step q qs last) in
    let tail = one_reading (flat_map text_of ps ++ rest) ps qs rest last
    (record { are_parts = All-tail AreParts p ps a.are_parts; whole = refl })
    (record { are_parts = All-tail AreParts q qs b.are_parts; whole = same.1 }) end in
    (tail.0, cc, tail.2)
