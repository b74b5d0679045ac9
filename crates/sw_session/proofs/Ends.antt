-- How the turns of a session's loop make up a session.
use Rattle.std.proofs.Common.{◌≡◌, ℕ, ◌+◌, ◌<◌, Bool, List, [], ◌∷◌, ◌++◌, length, Option, Some, None, refl, sym, ap, ◌∙◌, subst}
use Rattle.std.proofs.Common.{All, Result, append_assoc, append-nil, length-append, inl, inr, Ok, Err, true, false, ◌⊎◌}
use Rattle.std.specs.List.{flat_map}
use Rattle.std.specs.Io.KnownBytes.{Appends, Consumes, IsAtEnd, prepend_known}
use Rattle.std.proofs.KnownBytes.{Appends-trans, Appends-nil, Consumes-nil, Consumes-trans}
use Rattle.std.proofs.lemmas.Grind.{flat_map-append}
use Rattle.std.proofs.lemmas.List.{map-append}
use Rattle.std.proofs.lemmas.List.Elements.{All-nil, All-push}
use Rattle.sw_outside.specs.Counts.{raised}
use Rattle.sw_http.specs.Continue.{IsCutShort, NeedsMore, puts_after}
use Rattle.sw_http.specs.Reads.{ReadsWhile}
use Rattle.sw_http.proofs.InputLemmas.{seen_behind, seen_map}
use Rattle.sw_http.proofs.ReadsLemmas.{reads_map, reads_then}
use Rattle.sw_http.specs.Input.{IfSeen}
use Rattle.sw_http.specs.Request.{Parts, AreParts, request_of, text_of}
use Rattle.sw_http.specs.Reading.{BeginsWith}
use Rattle.sw_message.specs.declared.request.Request.{Request}
use Rattle.sw_message.specs.declared.response.Response.{Response}
use Rattle.sw_session.specs.Passages.{Passage}
use Rattle.sw_session.specs.Replies.{Halts, Serves, Replies, written_for}
use Rattle.sw_session.specs.Session.{SoFar, Closed, Complete, Full, Broken, HaltedAt, IsSession, IsSound, IsWhole, most_requests}
use Rattle.sw_session.specs.Session.{IsBetween, OwnPuts, OwnPutsAtOneMore, OwnPutsBehind, WaitsForMore, puts_for}
use Rattle.sw_session.specs.Turn.{AnswersByPuts, Halted, MayTell, MayTellAndPuts, PutsForTurn}
use Rattle.sw_session.specs.Turn.{CutsReply, HaltsTurn, Idles, IsCounted, IsTurn, Replied, StopsBetween}
use Rattle.sw_session.specs.declared.server.ServerFault.{ServerFault}
use Rattle.sw_session.specs.declared.server.ServerFault.TheVariants as servers
use Rattle.sw_session.specs.declared.session.SessionFault.{SessionFault}
use Rattle.sw_session.specs.declared.session.SessionFault.TheVariants as faults
use Rattle.sw_session.specs.declared.session.Turned.{Turned}
use Rattle.sw_session.specs.declared.session.Turned.TheVariants as turns

-- the loop has come so far: this many requests were answered
pub record Progress {S : Type 0} (last : Request → Bool) (may : Serves S) (start : S) (input rest taken now : Option (List ℕ)) (moments : List ℕ) (after : S)
    (count : ℕ) : Type 0 where
  pub done : SoFar last may start input rest taken now moments after
  pub count_is : length done.requests ≡ count

-- ---- replies

Replies-append : {S : Type 0} (may : Serves S) (start mid after : S) (some more : List Request) (moments later text others : List ℕ)
    → Replies may start some moments text mid → Replies may mid more later others after
    → Replies may start (some ++ more) (moments ++ later) (text ++ others) after
Replies-append {S} may start mid after [] more moments later text others first second =
    subst (λ (s : S). Replies may s more (moments ++ later) (text ++ others) after) first.1.1
    (subst (λ (t : List ℕ). Replies may mid more (moments ++ later) (t ++ others) after) (sym first.1.0)
    (subst (λ (m : List ℕ). Replies may mid more (m ++ later) others after) (sym first.0) second))
Replies-append may start mid after (r ∷ rs) more moments later text others first second = (
  first.0,
  first.1,
  first.2,
  first.3 ++ later,
  first.4 ++ others,
  first.5,
  ap (λ t. t ++ later) first.6,
  ap (λ t. t ++ others) first.7 ∙ append_assoc (written_for r first.0) first.4 others,
  Replies-append may first.1 mid after rs more first.3 later first.4 others first.8 second,
)

one_reply : {S : Type 0} (may : Serves S) (start after : S) (request : Request) (moment : ℕ) (response : Response)
    → may start request moment response after → Replies may start (request ∷ []) (moment ∷ []) (written_for request response) after
one_reply may start after request moment response answer =
    (response, after, moment, [], [], answer, refl, sym (append-nil (written_for request response)), (refl, (refl, refl)))

-- ---- requests

abbrev begins_with_none : (input : Option (List ℕ)) → BeginsWith input [] input
begins_with_none input = record { parts = []; are_parts = All-nil AreParts; requests_are = refl; texts = Consumes-nil input }

begins_with_more : (input mid rest : Option (List ℕ)) (requests : List Request) (p : Parts)
    → BeginsWith input requests mid → AreParts p → Consumes mid rest (text_of p) → BeginsWith input (requests ++ request_of p ∷ []) rest
begins_with_more input mid rest requests p begins are taken = record {
  parts = begins.parts ++ p ∷ [];
  are_parts = All-push AreParts begins.parts p begins.are_parts are;
  requests_are = ap (λ rs. rs ++ request_of p ∷ []) begins.requests_are ∙ sym (map-append request_of begins.parts (p ∷ []));
  texts =
      let whole : flat_map text_of (begins.parts ++ p ∷ []) ≡ flat_map text_of begins.parts ++ text_of p =
      flat_map-append text_of begins.parts (p ∷ []) ∙ ap (λ t. flat_map text_of begins.parts ++ t) (append-nil (text_of p)) in
      subst (Consumes input rest) (sym whole) (Consumes-trans input mid rest _ _ begins.texts taken);
}

-- ---- turns of the loop

abbrev pub begun : {S : Type 0} (last : Request → Bool) (may : Serves S) (start : S) (input out : Option (List ℕ))
    → Progress last may start input input out out [] start 0
begun last may start input out = record {
  done = record {
    requests = [];
    begins = begins_with_none input;
    none_last = All-nil (λ (r : Request). last r ≡ false);
    text = [];
    replied =
        (refl, (refl, refl));
    written = Appends-nil out;
  };
  count_is = refl;
}

-- nothing is held as it begins
pub begun_with : {S : Type 0} (last : Request → Bool) (may : Serves S) (start : S) (left out : Option (List ℕ)) → Progress last may start left
    (prepend_known [] left) out out [] start 0
begun_with last may start None out = begun last may start None out
begun_with last may start (Some bytes) out = begun last may start (Some bytes) out

-- the requests so far, and one more whose reply was written whole
abbrev one_more : {S : Type 0} (last : Request → Bool) (may : Serves S) (start mid after : S) (input left rest taken then now : Option (List ℕ))
    (moments : List ℕ) (moment : ℕ)
    → SoFar last may start input left taken then moments mid → (one : Replied may mid after left rest then now moment)
    → last (request_of one.turn.parts) ≡ false → SoFar last may start input rest taken now (moments ++ moment ∷ []) after
one_more last may start mid after input left rest taken then now moments moment so_far one goes_on = record {
  requests = so_far.requests ++ request_of one.turn.parts ∷ [];
  begins = begins_with_more input left rest so_far.requests one.turn.parts so_far.begins one.turn.are_parts one.turn.consumed;
  none_last = All-push (λ (r : Request). last r ≡ false) so_far.requests (request_of one.turn.parts) so_far.none_last goes_on;
  text = so_far.text ++ written_for (request_of one.turn.parts) one.response;
  replied = Replies-append may start mid after so_far.requests _ moments _ so_far.text _ so_far.replied
      (one_reply may mid after (request_of one.turn.parts) moment one.response one.turn.answer);
  written = Appends-trans taken then now so_far.text _ so_far.written one.written;
}

pub turn_made : {S : Type 0} (last : Request → Bool) (may : Serves S) (halts : Halts S) (start mid after : S) (input left rest taken then now : Option (List ℕ))
    (moments moments_now : List ℕ) (count : ℕ)
    → Progress last may start input left taken then moments mid count → IsTurn last may halts mid after moments moments_now left rest then now
    (Ok turns.Answered)
    → Progress last may start input rest taken now moments_now after (count + 1)
turn_made last may halts start mid after input left rest taken then now moments moments_now count so_far turn =
    subst (λ (m : List ℕ). Progress last may start input rest taken now m after (count + 1)) (sym turn.1) (record {
      done = one_more last may start mid after input left rest taken then now moments turn.0 so_far.done turn.2.0 turn.2.1;
      count_is = length-append so_far.done.requests (request_of turn.2.0.turn.parts ∷ []) ∙ ap (λ n. n + 1) so_far.count_is;
    })

-- a turn that answered nothing leaves the progress as it is
idle : {S : Type 0} (last : Request → Bool) (may : Serves S) (start mid after : S) (input rest taken now : Option (List ℕ)) (moments moments_now : List ℕ)
    (count : ℕ)
    → Progress last may start input rest taken now moments mid count → Idles mid after moments moments_now
    → Progress last may start input rest taken now moments_now after count
idle {S} last may start mid after input rest taken now moments moments_now count p idles =
    subst (λ (m : List ℕ). Progress last may start input rest taken now m after count) (sym idles.no_moment)
    (subst (λ (s : S). Progress last may start input rest taken now moments s count) (sym idles.same) p)

-- ---- ends

fewer : {S : Type 0} (last : Request → Bool) (may : Serves S) (start after : S) (input rest taken now : Option (List ℕ)) (moments : List ℕ) (count : ℕ)
    → (p : Progress last may start input rest taken now moments after count) → count < most_requests → length p.done.requests < most_requests
fewer last may start after input rest taken now moments count p few = subst (λ n. n < most_requests) (sym p.count_is) few

ended : {S : Type 0} (last : Request → Bool) (may : Serves S) (halts : Halts S) (start mid after : S) (source sink : Passage)
    (left rest then : Option (List ℕ))
    (moments moments_now : List ℕ) (count reads writes : ℕ)
    → Progress last may start source.before left sink.before then moments mid count → count < most_requests
    → IsTurn last may halts mid after moments moments_now left rest then sink.now (Ok turns.Ended) → IsAtEnd source.now
    → reads ≡ source.faults → writes ≡ sink.faults → (source.faults_now ≡ reads) × (sink.faults_now ≡ writes)
    → IsSession last may halts start source sink moments_now after (Ok tt)
ended last may halts start mid after source sink left rest then moments moments_now count reads writes so_far few turn at_end r w counted =
    let p = idle last may start mid after source.before left sink.before then moments moments_now count so_far turn.0 in (
      inl (
        record {
          rest = left;
          done = record {
            requests = p.done.requests;
            begins = p.done.begins;
            none_last = p.done.none_last;
            text = p.done.text;
            replied = p.done.replied;
            written = subst (Appends sink.before sink.now) (append-nil p.done.text)
                (Appends-trans sink.before then sink.now p.done.text [] p.done.written turn.2);
          };
          few = fewer last may start after source.before left sink.before then moments_now count p few;
          nothing_else = turn.1;
        },
        at_end,
      ),
      counted.0 ∙ r,
      counted.1 ∙ w,
    )

-- the last request was answered
closed : {S : Type 0} (last : Request → Bool) (may : Serves S) (halts : Halts S) (start mid after : S) (source sink : Passage)
    (left rest then : Option (List ℕ))
    (moments moments_now : List ℕ) (count reads writes : ℕ)
    → Progress last may start source.before left sink.before then moments mid count → count < most_requests
    → IsTurn last may halts mid after moments moments_now left rest then sink.now (Ok turns.Closed)
    → reads ≡ source.faults → writes ≡ sink.faults → (source.faults_now ≡ reads) × (sink.faults_now ≡ writes)
    → IsSession last may halts start source sink moments_now after (Ok tt)
closed last may halts start mid after source sink left rest then moments moments_now count reads writes so_far few turn r w counted = (
  inr (record {
    rest = left;
    mid = then;
    earlier = moments;
    then = mid;
    done = so_far.done;
    few = fewer last may start mid source.before left sink.before then moments count so_far few;
    moment = turn.0;
    moments_are = turn.1;
    behind = rest;
    end = turn.2;
  }),
  counted.0 ∙ r,
  counted.1 ∙ w,
)

-- a turn behind which the session doesn't go on ended it well
pub ended_well : {S : Type 0} (last : Request → Bool) (may : Serves S) (halts : Halts S) (start mid after : S) (source sink : Passage)
    (left rest then : Option (List ℕ)) (moments moments_now : List ℕ) (count reads writes : ℕ) (turned : Turned)
    → (turned ≡ turns.Closed) ⊎ (turned ≡ turns.Ended)
    → Progress last may start source.before left sink.before then moments mid count → count < most_requests
    → IsTurn last may halts mid after moments moments_now left rest then sink.now (Ok turned) → (turned ≡ turns.Ended → IsAtEnd source.now)
    → reads ≡ source.faults → writes ≡ sink.faults → (source.faults_now ≡ reads) × (sink.faults_now ≡ writes)
    → IsSession last may halts start source sink moments_now after (Ok tt)
ended_well last may halts start mid after source sink left rest then moments moments_now count reads writes turned (inl is) so_far few turn at_end r w counted =
    closed last may halts start mid after source sink left rest then moments moments_now count reads writes so_far few
    (subst (λ (t : Turned). IsTurn last may halts mid after moments moments_now left rest then sink.now (Ok t)) is turn) r w counted
ended_well last may halts start mid after source sink left rest then moments moments_now count reads writes turned (inr is) so_far few turn at_end r w counted =
    ended last may halts start mid after source sink left rest then moments moments_now count reads writes so_far few
    (subst (λ (t : Turned). IsTurn last may halts mid after moments moments_now left rest then sink.now (Ok t)) is turn) (at_end is) r w counted

pub filled : {S : Type 0} (last : Request → Bool) (may : Serves S) (start after : S) (input rest taken now : Option (List ℕ)) (moments : List ℕ) (count : ℕ)
    → Progress last may start input rest taken now moments after count → count ≡ most_requests → Full last may start input taken now moments after
filled last may start after input rest taken now moments count p full = record { rest = rest; done = p.done; most = p.count_is ∙ full }

-- a write failed or memory ran out
broken : {S : Type 0} (last : Request → Bool) (may : Serves S) (start mid after : S) (source sink : Passage) (left rest then : Option (List ℕ))
    (moments moments_now : List ℕ) (count : ℕ)
    → Progress last may start source.before left sink.before then moments mid count → count < most_requests
    → (Idles mid after moments moments_now × StopsBetween left then sink.now) ⊎ CutsReply may mid after moments moments_now left rest then sink.now
    → Broken last may start source.before sink.before sink.now moments_now after
broken last may start mid after source sink left rest then moments moments_now count p few (inl idles) =
    let still = idle last may start mid after source.before left sink.before then moments moments_now count p idles.0 in
    inl (record {
      rest = left;
      mid = then;
      done = still.done;
      few = fewer last may start after source.before left sink.before then moments_now count still few;
      end = idles.1;
    })
broken last may start mid after source sink left rest then moments moments_now count p few (inr cuts) = inr (record {
  rest = left;
  mid = then;
  earlier = moments;
  then = mid;
  done = p.done;
  few = fewer last may start mid source.before left sink.before then moments count p few;
  moment = cuts.0;
  moments_are = cuts.1;
  behind = rest;
  end = cuts.2;
})

-- the server halted
halted : {S : Type 0} (last : Request → Bool) (may : Serves S) (halts : Halts S) (start mid after : S) (source sink : Passage)
    (left rest then : Option (List ℕ))
    (moments moments_now : List ℕ) (count : ℕ) (fault : ServerFault)
    → Progress last may start source.before left sink.before then moments mid count → count < most_requests
    → HaltsTurn halts mid after moments moments_now left rest then sink.now fault
    → HaltedAt last may halts start source.before sink.before sink.now moments_now after fault
halted last may halts start mid after source sink left rest then moments moments_now count fault p few turn = record {
  rest = left;
  mid = then;
  earlier = moments;
  then = mid;
  done = p.done;
  few = fewer last may start mid source.before left sink.before then moments count p few;
  moment = turn.0;
  moments_are = turn.1;
  behind = rest;
  end = turn.2;
}

-- memory ran out, of a reply or of the server
out_of_memory : {S : Type 0} (last : Request → Bool) (may : Serves S) (halts : Halts S) (start mid after : S) (source sink : Passage)
    (left rest then : Option (List ℕ))
    (moments moments_now : List ℕ) (count : ℕ)
    → Progress last may start source.before left sink.before then moments mid count → count < most_requests
    → IsTurn last may halts mid after moments moments_now left rest then sink.now (Err faults.NoMemory)
    → Broken last may start source.before sink.before sink.now moments_now after
    ⊎ HaltedAt last may halts start source.before sink.before sink.now moments_now after servers.NoMemory
out_of_memory last may halts start mid after source sink left rest then moments moments_now count p few (inl idles) =
    inl (broken last may start mid after source sink left rest then moments moments_now count p few (inl idles))
out_of_memory last may halts start mid after source sink left rest then moments moments_now count p few (inr (inl cuts)) =
    inl (broken last may start mid after source sink left rest then moments moments_now count p few (inr cuts))
out_of_memory last may halts start mid after source sink left rest then moments moments_now count p few (inr (inr halt)) =
    inr (halted last may halts start mid after source sink left rest then moments moments_now count servers.NoMemory p few halt)

-- a turn that ended the session by a fault ended it so
pub ended_by : {S : Type 0} (last : Request → Bool) (may : Serves S) (halts : Halts S) (start mid after : S) (source sink : Passage)
    (left rest then : Option (List ℕ))
    (moments moments_now : List ℕ) (count reads writes : ℕ) (fault : SessionFault)
    → Progress last may start source.before left sink.before then moments mid count → count < most_requests
    → IsTurn last may halts mid after moments moments_now left rest then sink.now (Err fault)
    → reads ≡ source.faults → writes ≡ sink.faults → IsCounted {A = Bool} reads source.faults_now writes sink.faults_now (Err fault)
    → IsSession last may halts start source sink moments_now after (Err fault)
ended_by last may halts start mid after source sink left rest then moments moments_now count reads writes faults.ReadFault p few turn r w counted =
    let still = idle last may start mid after source.before left sink.before then moments moments_now count p turn.0 in (
      record {
        rest = left;
        mid = then;
        done = still.done;
        few = fewer last may start after source.before left sink.before then moments_now count still few;
        end = turn.1;
      },
      counted.0 ∙ ap raised r,
      counted.1 ∙ w,
    )
ended_by last may halts start mid after source sink left rest then moments moments_now count reads writes faults.WriteFault p few turn r w counted =
    (broken last may start mid after source sink left rest then moments moments_now count p few turn, counted.0 ∙ r, counted.1 ∙ ap raised w)
ended_by last may halts start mid after source sink left rest then moments moments_now count reads writes faults.TooLong p few turn r w counted = absurd turn
ended_by last may halts start mid after source sink left rest then moments moments_now count reads writes faults.BadInput p few turn r w counted =
    let still = idle last may start mid after source.before left sink.before then moments moments_now count p turn.0 in (
      record {
        rest = left;
        mid = then;
        done = still.done;
        few = fewer last may start after source.before left sink.before then moments_now count still few;
        end = turn.1;
      },
      counted.0 ∙ r,
      counted.1 ∙ w,
    )
ended_by last may halts start mid after source sink left rest then moments moments_now count reads writes faults.ServerFault p few turn r w counted =
    (halted last may halts start mid after source sink left rest then moments moments_now count servers.Failed p few turn, counted.0 ∙ r, counted.1 ∙ w)
ended_by last may halts start mid after source sink left rest then moments moments_now count reads writes faults.NoMemory p few turn r w counted =
    (out_of_memory last may halts start mid after source sink left rest then moments moments_now count p few turn, counted.0 ∙ r, counted.1 ∙ w)

-- where no request is a last one, none ends a session
pub whole : {S : Type 0} (may : Serves S) (halts : Halts S) → IsWhole may halts
whole may halts start source sink moments after s = by s.0
  where
    by : (Complete (λ request. false) may start source.before sink.before sink.now moments after × IsAtEnd source.now)
        ⊎ Closed (λ request. false) may start source.before sink.before sink.now moments after
        → Complete (λ request. false) may start source.before sink.before sink.now moments after × IsAtEnd source.now × IsSound source × IsSound sink
    by (inl complete) = (complete.0, complete.1, s.1, s.2)
    by (inr closed) = let no : false ≡ true = closed.end.1 in cc

-- ---- counts of the sink's calls

-- the loop has come so far: these requests were answered, and so many calls of the sink there were for them
pub record PutsSoFar {S : Type 0} (last : Request → Bool) (may : Serves S) (start : S) (input rest taken now : Option (List ℕ)) (moments : List ℕ)
    (after : S) (calls calls_now : ℕ) : Type 0 where
  pub done : SoFar last may start input rest taken now moments after
  pub called : calls_now ≡ puts_for done.requests calls

-- none, as it begins
pub none_put : {S : Type 0} (last : Request → Bool) (may : Serves S) (start : S) (left out : Option (List ℕ)) (calls : ℕ)
    → PutsSoFar last may start left (prepend_known [] left) out out [] start calls calls
none_put last may start None out calls = let first = begun last may start None out in record { done = first.done; called = refl }
none_put last may start (Some bytes) out calls = let first = begun last may start (Some bytes) out in record { done = first.done; called = refl }

-- the calls for one request more
puts_for-one : (requests : List Request) (request : Request) (calls : ℕ)
    → puts_for (requests ++ request ∷ []) calls ≡ raised (puts_after request.fields (puts_for requests calls))
puts_for-one [] request calls = refl
puts_for-one (r ∷ requests) request calls = puts_for-one requests request (raised (puts_after r.fields calls))

-- one request more was answered
pub turn_put : {S : Type 0} (last : Request → Bool) (may : Serves S) (start mid after : S) (input left rest taken then now : Option (List ℕ))
    (moments moments_now : List ℕ) (calls calls_then calls_now : ℕ)
    → PutsSoFar last may start input left taken then moments mid calls calls_then
    → AnswersByPuts last may mid after moments moments_now left rest then now false calls_then calls_now
    → PutsSoFar last may start input rest taken now moments_now after calls calls_now
turn_put last may start mid after input left rest taken then now moments moments_now calls calls_then calls_now so_far turn =
    let request = request_of turn.2.0.turn.parts in
    subst (λ (m : List ℕ). PutsSoFar last may start input rest taken now m after calls calls_now) (sym turn.1) (record {
      done = one_more last may start mid after input left rest taken then now moments turn.0 so_far.done turn.2.0 turn.2.1;
      called = turn.2.2 ∙ ap (λ (n : ℕ). raised (puts_after request.fields n)) so_far.called ∙ sym (puts_for-one so_far.done.requests request calls);
    })

-- behind the requests that were answered, the session ended so
ends_behind : {S : Type 0} (last : Request → Bool) (may : Serves S) (start mid : S) (input left taken then : Option (List ℕ)) (moments : List ℕ)
    (calls calls_then : ℕ) (ends : Option (List ℕ) → Option (List ℕ) → ℕ → Type 0)
    → PutsSoFar last may start input left taken then moments mid calls calls_then → ends left then calls_then
    → OwnPutsBehind last may start mid input taken moments calls ends
ends_behind last may start mid input left taken then moments calls calls_then ends so_far end =
    record { rest = left; mid = then; done = so_far.done; end = subst (ends left then) so_far.called end }

-- a turn that answered nothing kept no moment, and left the server as it was
ends_idle : {S : Type 0} (last : Request → Bool) (may : Serves S) (start mid after : S) (input left taken then : Option (List ℕ))
    (moments moments_now : List ℕ) (calls calls_then : ℕ) (ends : Option (List ℕ) → Option (List ℕ) → ℕ → Type 0)
    → PutsSoFar last may start input left taken then moments mid calls calls_then → Idles mid after moments moments_now → ends left then calls_then
    → OwnPutsBehind last may start after input taken moments_now calls ends
ends_idle {S} last may start mid after input left taken then moments moments_now calls calls_then ends so_far idles end =
    subst (λ (m : List ℕ). OwnPutsBehind last may start after input taken m calls ends) (sym idles.no_moment)
    (subst (λ (s : S). OwnPutsBehind last may start s input taken moments calls ends) (sym idles.same)
    (ends_behind last may start mid input left taken then moments calls calls_then ends so_far end))

-- as many requests were answered as a session has at most
pub full_put : {S : Type 0} (last : Request → Bool) (may : Serves S) (halts : Halts S) (start after : S) (input left taken now : Option (List ℕ))
    (moments : List ℕ) (calls calls_now : ℕ)
    → PutsSoFar last may start input left taken now moments after calls calls_now
    → OwnPuts last may halts start after input taken now moments calls calls_now (Err faults.TooLong)
full_put last may halts start after input left taken now moments calls calls_now so_far =
    ends_behind last may start after input left taken now moments calls calls_now (λ rest mid told. calls_now ≡ told) so_far refl

-- a turn behind which the session doesn't go on ended it well
pub well_put : {S : Type 0} (last : Request → Bool) (may : Serves S) (halts : Halts S) (start mid after : S)
    (input left rest taken then now : Option (List ℕ)) (moments moments_now : List ℕ) (calls calls_then calls_now : ℕ) (turned : Turned)
    → (turned ≡ turns.Closed) ⊎ (turned ≡ turns.Ended) → PutsSoFar last may start input left taken then moments mid calls calls_then
    → IsTurn last may halts mid after moments moments_now left rest then now (Ok turned)
    → PutsForTurn last may halts mid after moments moments_now left rest then now calls_then calls_now (Ok turned)
    → OwnPuts last may halts start after input taken now moments_now calls calls_now (Ok tt)
well_put last may halts start mid after input left rest taken then now moments moments_now calls calls_then calls_now turns.Closed is so_far turn puts =
    inr (
      mid,
      moments,
      puts.0,
      puts.1,
      ends_behind last may start mid input left taken then moments calls calls_then
          (λ rest_then mid_then told. (behind : Option (List ℕ)) × ((reply : Replied may mid after rest_then behind mid_then now puts.0)
          × (last (request_of reply.turn.parts) ≡ true) × (calls_now ≡ raised (puts_after (request_of reply.turn.parts).fields told))))
          so_far (rest, puts.2),
    )
well_put last may halts start mid after input left rest taken then now moments moments_now calls calls_then calls_now turns.Ended is so_far turn puts =
    inl (ends_idle last may start mid after input left taken then moments moments_now calls calls_then (λ rest mid told. calls_now ≡ told) so_far turn.0 puts)
well_put last may halts start mid after input left rest taken then now moments moments_now calls calls_then calls_now turns.Answered (inl is) so_far turn puts =
    cc
well_put last may halts start mid after input left rest taken then now moments moments_now calls calls_then calls_now turns.Answered (inr is) so_far turn puts =
    cc

-- a turn that ended the session by a fault ended it so
module _ {S : Type 0} (last : Request → Bool) (may : Serves S) (halts : Halts S) (start mid after : S)
    (input left rest taken then now : Option (List ℕ)) (moments moments_now : List ℕ) (calls calls_then calls_now : ℕ)
    (so_far : PutsSoFar last may start input left taken then moments mid calls calls_then) where
  idle_tells : Idles mid after moments moments_now → MayTell left calls_then calls_now
      → OwnPutsBehind last may start after input taken moments_now calls (λ rest mid told. MayTell rest told calls_now)
  idle_tells idles puts = ends_idle last may start mid after input left taken then moments moments_now calls calls_then
      (λ rest mid told. MayTell rest told calls_now) so_far idles puts

  idle_puts : Idles mid after moments moments_now → MayTellAndPuts left calls_then calls_now
      → OwnPutsBehind last may start after input taken moments_now calls (λ rest mid told. MayTellAndPuts rest told calls_now)
  idle_puts idles puts = ends_idle last may start mid after input left taken then moments moments_now calls calls_then
      (λ rest mid told. MayTellAndPuts rest told calls_now) so_far idles puts

  more_tells : (moment : ℕ) → moments_now ≡ moments ++ moment ∷ [] → MayTell left calls_then calls_now
      → OwnPutsAtOneMore last may start input taken moments_now calls (λ then moment rest mid told. MayTell rest told calls_now)
  more_tells moment is puts = (
    mid,
    moments,
    moment,
    is,
    ends_behind last may start mid input left taken then moments calls calls_then (λ rest mid told. MayTell rest told calls_now) so_far puts,
  )

  more_puts : (moment : ℕ) → moments_now ≡ moments ++ moment ∷ [] → MayTellAndPuts left calls_then calls_now
      → OwnPutsAtOneMore last may start input taken moments_now calls (λ then moment rest mid told. MayTellAndPuts rest told calls_now)
  more_puts moment is puts = (
    mid,
    moments,
    moment,
    is,
    ends_behind last may start mid input left taken then moments calls calls_then (λ rest mid told. MayTellAndPuts rest told calls_now) so_far puts,
  )

  pub fault_put : (fault : SessionFault)
      → IsTurn last may halts mid after moments moments_now left rest then now (Err fault)
      → PutsForTurn last may halts mid after moments moments_now left rest then now calls_then calls_now (Err fault)
      → OwnPuts last may halts start after input taken now moments_now calls calls_now (Err fault)
  fault_put faults.ReadFault turn puts = idle_tells turn.0 puts
  fault_put faults.BadInput turn puts = idle_puts turn.0 puts
  fault_put faults.WriteFault (inl idles) puts = inl (idle_puts idles.0 puts)
  fault_put faults.WriteFault (inr cuts) puts = inr (more_puts cuts.0 cuts.1 puts)
  fault_put faults.NoMemory (inl idles) puts = inl (idle_tells idles.0 puts)
  fault_put faults.NoMemory (inr (inl cuts)) puts = inr (more_tells cuts.0 cuts.1 puts)
  fault_put faults.NoMemory (inr (inr halt)) puts = inr (more_tells halt.0 halt.1 puts)
  fault_put faults.ServerFault turn puts = (
    mid,
    moments,
    puts.0,
    puts.1,
    ends_behind last may start mid input left taken then moments calls calls_then
        (λ rest_then mid_then told. (behind : Option (List ℕ)) × ((halt : Halted halts mid after rest_then behind mid_then now puts.0 servers.Failed)
        × (calls_now ≡ puts_after (request_of halt.parts).fields told)))
        so_far (rest, puts.2),
  )
  fault_put faults.TooLong turn puts = absurd turn

-- a read failed in a turn: no whole request was seen behind those that were answered
pub waits_behind : {S : Type 0} (last : Request → Bool) (may : Serves S) (halts : Halts S) (start mid after : S)
    (input left rest taken then now source_left : Option (List ℕ)) (moments moments_now : List ℕ) (calls calls_then calls_now : ℕ) (fault : SessionFault)
    → PutsSoFar last may start input left taken then moments mid calls calls_then
    → IsTurn last may halts mid after moments moments_now left rest then now (Err fault) → fault ≡ faults.ReadFault
    → IfSeen left source_left (IsCutShort then now calls_then calls_now)
    → WaitsForMore last may start after input source_left taken now moments_now calls calls_now
waits_behind last may halts start mid after input left rest taken then now source_left moments moments_now calls calls_then calls_now fault so_far turn
    is seen =
    let idles = (subst (λ (f : SessionFault). IsTurn last may halts mid after moments moments_now left rest then now (Err f)) is turn).0 in
    ends_idle last may start mid after input left taken then moments moments_now calls calls_then
    (λ rest mid told_by. IfSeen rest source_left (IsCutShort mid now told_by calls_now)) so_far idles seen

-- ---- reads

-- more was needed behind the requests that were answered
pub between : {S : Type 0} (last : Request → Bool) (may : Serves S) (start after : S) (input rest taken now seen_to : Option (List ℕ)) (moments more : List ℕ)
    → SoFar last may start input rest taken now moments after → IfSeen rest seen_to NeedsMore
    → IfSeen input seen_to (IsBetween last may start (moments ++ more))
between last may start after input rest taken now seen_to moments more done needs =
    let parts = done.begins.parts in
    seen_behind input rest seen_to (flat_map text_of parts) (IsBetween last may start (moments ++ more)) NeedsMore done.begins.texts
    (λ behind holds. record {
      parts = parts;
      rest = behind;
      reads = record { are_parts = done.begins.are_parts; whole = refl };
      none_last = subst (All (λ (r : Request). last r ≡ false)) done.begins.requests_are done.none_last;
      earlier = moments;
      later = more;
      moments_are = refl;
      text = done.text;
      then = after;
      replied = subst (λ (rs : List Request). Replies may start rs moments done.text after) done.begins.requests_are done.replied;
      needs = holds;
    }) needs

-- it still was, once further ones were answered
pub between_more : {S : Type 0} (last : Request → Bool) (may : Serves S) (start : S) (moments more bytes : List ℕ)
    → IsBetween last may start moments bytes → IsBetween last may start (moments ++ more) bytes
between_more last may start moments more bytes is = record {
  parts = is.parts;
  rest = is.rest;
  reads = is.reads;
  none_last = is.none_last;
  earlier = is.earlier;
  later = is.later ++ more;
  moments_are = ap (λ (m : List ℕ). m ++ more) is.moments_are ∙ append_assoc is.earlier is.later more;
  text = is.text;
  then = is.then;
  replied = is.replied;
  needs = is.needs;
}

-- a turn kept no moment, or one more
kept_more : {S : Type 0} (last : Request → Bool) (may : Serves S) (halts : Halts S) (mid after : S) (moments moments_now : List ℕ)
    (input rest taken now : Option (List ℕ)) (result : Result Turned SessionFault)
    → IsTurn last may halts mid after moments moments_now input rest taken now result → (more : List ℕ) × (moments_now ≡ moments ++ more)
kept_more last may halts mid after moments moments_now input rest taken now result turn = by result turn
  where
    none : Idles mid after moments moments_now → (more : List ℕ) × (moments_now ≡ moments ++ more)
    none idles = ([], idles.no_moment ∙ sym (append-nil moments))

    by : (result : Result Turned SessionFault) → IsTurn last may halts mid after moments moments_now input rest taken now result
        → (more : List ℕ) × (moments_now ≡ moments ++ more)
    by (Ok turns.Answered) turn = (turn.0 ∷ [], turn.1)
    by (Ok turns.Closed) turn = (turn.0 ∷ [], turn.1)
    by (Ok turns.Ended) turn = none turn.0
    by (Err faults.BadInput) turn = none turn.0
    by (Err faults.ReadFault) turn = none turn.0
    by (Err faults.WriteFault) (inl idles) = none idles.0
    by (Err faults.WriteFault) (inr cuts) = (cuts.0 ∷ [], cuts.1)
    by (Err faults.NoMemory) (inl idles) = none idles.0
    by (Err faults.NoMemory) (inr (inl cuts)) = (cuts.0 ∷ [], cuts.1)
    by (Err faults.NoMemory) (inr (inr halt)) = (halt.0 ∷ [], halt.1)
    by (Err faults.TooLong) turn = absurd turn
    by (Err faults.ServerFault) turn = (turn.0 ∷ [], turn.1)

-- the reads of one turn more
pub turn_reads : {S A : Type 0} {left : A → Option (List ℕ)} {calls : A → ℕ} {old then now : A} (last : Request → Bool) (may : Serves S) (halts : Halts S)
    (start mid after : S) (input held rest taken then_taken now_taken : Option (List ℕ)) (moments moments_now : List ℕ) (count : ℕ)
    (result : Result Turned SessionFault)
    → Progress last may start input held taken then_taken moments mid count
    → IsTurn last may halts mid after moments moments_now held rest then_taken now_taken result
    → ReadsWhile left calls old then input (IsBetween last may start moments) → ReadsWhile left calls then now held NeedsMore
    → ReadsWhile left calls old now input (IsBetween last may start moments_now)
turn_reads {left = left} {calls = calls} {old = old} {now = now} last may halts start mid after input held rest taken then_taken now_taken
    moments moments_now count result progress turn before reads =
    let kept = kept_more last may halts mid after moments moments_now held rest then_taken now_taken result turn in
    subst (λ (ms : List ℕ). ReadsWhile left calls old now input (IsBetween last may start ms)) (sym kept.1)
    (reads_then input (IsBetween last may start (moments ++ kept.0))
    (reads_map input input (IsBetween last may start moments) (IsBetween last may start (moments ++ kept.0)) before
    (λ seen_to seen. seen_map input seen_to (IsBetween last may start moments) (IsBetween last may start (moments ++ kept.0))
    (between_more last may start moments kept.0) seen))
    (reads_map held input NeedsMore (IsBetween last may start (moments ++ kept.0)) reads
    (λ seen_to seen. between last may start mid input held taken then_taken seen_to moments kept.0 progress.done seen)))
