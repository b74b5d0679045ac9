-- What one turn of a session's loop leaves.
use Rattle.std.proofs.Common.{◌≡◌, ℕ, List, [], ◌∷◌, ◌++◌, length, ◌+◌, Bool, Option, Result, Ok, Err, true, false, refl, sym, ap, ◌∙◌, subst, inl, inr}
use Rattle.std.proofs.Common.{◌≢◌, Some, None, append_assoc, if◌then◌else◌}
use Rattle.std.specs.Io.KnownBytes.{Appends, Consumes}
use Rattle.std.proofs.KnownBytes.{Appends-trans}
use Rattle.std.proofs.Math.Seq.{take-append-add}
use Rattle.httparse.specs.Grammar.{print_request}
use Rattle.sw_outside.specs.Counts.{raised}
use Rattle.sw_outside.specs.Readings.{Ticks, TicksEach}
use Rattle.sw_outside.specs.Taken.{AppendsPart}
use Rattle.sw_http.specs.Body.{print_body}
use Rattle.sw_http.specs.Continue.{Continues, HasHead, IsCut, FindsNoRequest, Takes, asks_continue, continue_of, puts_after}
use Rattle.sw_http.specs.Request.{AreParts, Parts, request_of, text_of}
use Rattle.sw_message.specs.Head.{fields_of}
use Rattle.sw_message.specs.Reply.{reply_text}
use Rattle.sw_message.specs.declared.request.Request.{Request}
use Rattle.sw_message.specs.declared.response.Response.{Response}
use Rattle.sw_message.specs.declared.writer.WriteFault.{WriteFault}
use Rattle.sw_message.specs.declared.writer.WriteFault.TheVariants as writes
use Rattle.sw_session.specs.Fault.{fault_of, halt_of}
use Rattle.sw_session.specs.Replies.{Halts, Serves}
use Rattle.sw_session.specs.Turn.{CutsReply, HaltsTurn, IsCounted, IsReadingFault, IsReceived, IsRefusal, IsTold, IsTurn, RefusesRestPart, Replied}
use Rattle.sw_session.specs.Turn.{MayTell, PutsForReading, PutsForTurn, TakesAndTells, TellsWhole, Turns, refusal}
use Rattle.sw_session.specs.declared.server.ServerFault.{ServerFault}
use Rattle.sw_session.specs.declared.server.ServerFault.TheVariants as servers
use Rattle.sw_session.specs.declared.session.SessionFault.{SessionFault}
use Rattle.sw_session.specs.declared.session.SessionFault.TheVariants as faults
use Rattle.sw_session.specs.declared.session.Turned.{Turned}
use Rattle.sw_session.specs.declared.session.Turned.TheVariants as turns

-- a front of a second text was written after the whole first one
part_behind : (a b c : Option (List ℕ)) (text tail : List ℕ) → Appends a b text → AppendsPart b c tail → AppendsPart a c (text ++ tail)
part_behind a b c text tail whole part =
    (length text + part.0, subst (Appends a c) (sym (take-append-add text tail part.0)) (Appends-trans a b c text _ whole part.1))

-- ---- counts

-- nothing failed before
pub counted_after : {A : Type 0} (reads reads_now writes mid now : ℕ) (result : Result A SessionFault) → reads_now ≡ reads → mid ≡ writes
    → IsCounted reads_now reads_now mid now result → IsCounted reads reads_now writes now result
counted_after reads reads_now writes mid now result r w counted =
    subst (λ (n : ℕ). IsCounted n reads_now writes now result) r (subst (λ (n : ℕ). IsCounted reads_now reads_now n now result) w counted)

-- ---- counts of the sink's calls

-- a front of what stands in front of the input stands there too
front_stands : (a b : Option (List ℕ)) (first second third : List ℕ) → Consumes a b (first ++ (second ++ third))
    → (c : Option (List ℕ)) × Consumes a c (first ++ second)
front_stands None b first second third stands = (None, tt)
front_stands (Some x) None first second third stands = absurd stands
front_stands (Some x) (Some y) first second third stands =
    let regrouped : (first ++ (second ++ third)) ++ y ≡ (first ++ second) ++ (third ++ y) = simp append_assoc in
    (Some (third ++ y), stands ∙ regrouped)

-- the head of a request that was taken off the input stood in front of it
head_stands : (input rest : Option (List ℕ)) (p : Parts) → AreParts p → Consumes input rest (text_of p) → HasHead input p.head
head_stands input rest p are consumed =
    let stands = front_stands input rest p.skipped (print_request p.head) (print_body p.body) consumed in
    record { skipped = p.skipped; are_skipped = are.skipped; is_head = are.head; rest = stands.0; stands = stands.1 }

-- the client of a request that was taken off the input may have been told
may_tell : (input rest : Option (List ℕ)) (calls told : ℕ) → TakesAndTells input rest calls told → MayTell input calls told
may_tell input rest calls told takes = by (asks_continue (fields_of takes.parts.head)) refl takes.told
  where
    by : (b : Bool) → asks_continue (fields_of takes.parts.head) ≡ b → told ≡ (if b then raised calls else calls) → MayTell input calls told
    by true asks once = inr (takes.parts.head, head_stands input rest takes.parts takes.are_parts takes.consumed, asks, once)
    by false unasked same = inl same

-- a request was taken off the input, and its client told
pub takes_and_tells : (input rest taken mid : Option (List ℕ)) (calls told : ℕ) (request : Request) → Takes input rest taken mid request
    → told ≡ puts_after request.fields calls → TakesAndTells input rest calls told
takes_and_tells input rest taken mid calls told request takes is = record {
  parts = takes.parts;
  are_parts = takes.are_parts;
  consumed = takes.consumed;
  told = subst (λ (q : Request). told ≡ puts_after q.fields calls) takes.request_is is;
}

-- ---- moments

-- the clock was read once more
pub one_more_tick : (start before after : Option (List ℕ)) (moments : List ℕ) (now : ℕ) → TicksEach start before moments → Ticks before after now
    → TicksEach start after (moments ++ now ∷ [])
one_more_tick start before after [] now each tick = (after, subst (λ (c : Option (List ℕ)). Ticks c after now) each tick, refl)
one_more_tick start before after (moment ∷ moments) now each tick =
    (each.0, each.1, one_more_tick each.0 before after moments now each.2 tick)

-- a moment was kept behind those before it
pub kept_moment : (moments same more : List ℕ) (now : ℕ) → same ≡ moments → more ≡ same ++ now ∷ [] → more ≡ moments ++ now ∷ []
kept_moment moments same more now same_is more_is = more_is ∙ ap (λ (m : List ℕ). m ++ now ∷ []) same_is

-- ---- turns that answered nothing

-- a read failed
pub told_whole : (before after taken taken_now : Option (List ℕ)) → IsCut before after taken taken_now → TellsWhole before taken taken_now
told_whole before after taken taken_now (inl skips) = inl skips.1
told_whole before after taken taken_now (inr told) = inr told

-- what a rest asked to be told, as a text
told_text : (input taken taken_now : Option (List ℕ)) → Continues input taken taken_now → (text : List ℕ) × IsTold input text × Appends taken taken_now text
told_text input taken taken_now (inl told) = (continue_of told.0, inl (told.0, told.1, refl), told.2)
told_text input taken taken_now (inr nothing) = ([], inr (nothing.0, refl), nothing.1)

-- the rest was refused, or its refusal not written whole
pub refused : (input rest taken mid now : Option (List ℕ)) (result : Result (Option Request) SessionFault)
    → FindsNoRequest input taken mid → IsRefusal mid now result → IsReceived input rest taken now result
refused input rest taken mid now result refuses refusal_is = by_result result refusal_is
  where
    text : (text : List ℕ) × IsTold input text × Appends taken mid text
    text = told_text input taken mid refuses.continued

    part : AppendsPart mid now refusal → RefusesRestPart input taken now
    part written = record {
      no_request = refuses.no_request;
      told = text.0;
      is_told = text.1;
      written = part_behind taken mid now text.0 refusal text.2 written;
    }

    by_result : (result : Result (Option Request) SessionFault) → IsRefusal mid now result → IsReceived input rest taken now result
    by_result (Err faults.BadInput) written = record {
      no_request = refuses.no_request;
      told = text.0;
      is_told = text.1;
      written = Appends-trans taken mid now text.0 refusal text.2 written;
    }
    by_result (Err faults.WriteFault) written = inr (part written)
    by_result (Err faults.NoMemory) written = inr (part written)
    by_result (Err faults.ReadFault) written = absurd written
    by_result (Err faults.TooLong) written = absurd written
    by_result (Err faults.ServerFault) written = absurd written
    by_result (Ok request) written = absurd written

-- the reading of a request ended the session
pub reading_step : {S : Type 0} (last : Request → Bool) (may : Serves S) (halts : Halts S) (before : S) (moments moments_now : List ℕ)
    (input rest taken now : Option (List ℕ)) (fault : SessionFault)
    → moments_now ≡ moments → IsReadingFault input taken now fault → IsTurn last may halts before before moments moments_now input rest taken now (Err fault)
reading_step last may halts before moments moments_now input rest taken now faults.BadInput same is = (record { same = refl; no_moment = same }, is)
reading_step last may halts before moments moments_now input rest taken now faults.ReadFault same is = (record { same = refl; no_moment = same }, is)
reading_step last may halts before moments moments_now input rest taken now faults.WriteFault same is = inl (record { same = refl; no_moment = same }, is)
reading_step last may halts before moments moments_now input rest taken now faults.NoMemory same is = inl (record { same = refl; no_moment = same }, is)
reading_step last may halts before moments moments_now input rest taken now faults.TooLong same is = absurd is
reading_step last may halts before moments moments_now input rest taken now faults.ServerFault same is = absurd is

-- ---- turns that answered a request

-- a request that was taken off the input, and then answered
abbrev turn_taken : {S : Type 0} (may : Serves S) (before after : S) (input rest taken mid : Option (List ℕ)) (request : Request) (moment : ℕ)
    (response : Response)
    → (takes : Takes input rest taken mid request) → may before request moment response after → Turns may before after input rest moment response
turn_taken may before after input rest taken mid request moment response takes answer = record {
  parts = takes.parts;
  are_parts = takes.are_parts;
  consumed = takes.consumed;
  answer = subst (λ (q : Request). may before q moment response after) takes.request_is answer;
}

-- what a turn did that answered a request
abbrev pub turned : Bool → Turned
turned true = turns.Closed
turned false = turns.Answered

-- the reply was written whole
pub answered_step : {S : Type 0} (last : Request → Bool) (may : Serves S) (halts : Halts S) (before after : S) (moments moments_now : List ℕ)
    (input rest taken mid now : Option (List ℕ)) (request : Request) (moment : ℕ) (response : Response) (is_last : Bool)
    → Takes input rest taken mid request → may before request moment response after → moments_now ≡ moments ++ moment ∷ []
    → Appends mid now (reply_text response) → is_last ≡ last request
    → IsTurn last may halts before after moments moments_now input rest taken now (Ok (turned is_last))
answered_step {S} last may halts before after moments moments_now input rest taken mid now request moment response is_last takes answer one_more written is =
    by is_last (ap last (sym takes.request_is) ∙ sym is)
  where
    reply : Replied may before after input rest taken now moment
    reply = record {
      response = response;
      turn = turn_taken may before after input rest taken mid request moment response takes answer;
      written = Appends-trans taken mid now _ _ takes.continued written;
    }

    by : (b : Bool) → last (request_of takes.parts) ≡ b → IsTurn last may halts before after moments moments_now input rest taken now (Ok (turned b))
    by true ends = (moment, one_more, (reply, ends))
    by false ends = (moment, one_more, (reply, ends))

-- or not
broken_turn : {S : Type 0} (may : Serves S) (before after : S) (moments moments_now : List ℕ) (input rest taken mid now : Option (List ℕ))
    (request : Request) (moment : ℕ) (response : Response)
    → Takes input rest taken mid request → may before request moment response after → moments_now ≡ moments ++ moment ∷ []
    → AppendsPart mid now (reply_text response) → CutsReply may before after moments moments_now input rest taken now
broken_turn may before after moments moments_now input rest taken mid now request moment response takes answer one_more written = (
  moment,
  one_more,
  record {
    response = response;
    turn = turn_taken may before after input rest taken mid request moment response takes answer;
    written = part_behind taken mid now _ _ takes.continued written;
  },
)

pub broken_step : {S : Type 0} (last : Request → Bool) (may : Serves S) (halts : Halts S) (before after : S) (moments moments_now : List ℕ)
    (input rest taken mid now : Option (List ℕ)) (request : Request) (moment : ℕ) (response : Response) (fault : WriteFault)
    → Takes input rest taken mid request → may before request moment response after → moments_now ≡ moments ++ moment ∷ []
    → AppendsPart mid now (reply_text response) → IsTurn last may halts before after moments moments_now input rest taken now (Err (fault_of fault))
broken_step last may halts before after moments moments_now input rest taken mid now request moment response writes.Failed takes answer one_more written =
    inr (broken_turn may before after moments moments_now input rest taken mid now request moment response takes answer one_more written)
broken_step last may halts before after moments moments_now input rest taken mid now request moment response writes.NoMemory takes answer one_more written =
    inr (inl (broken_turn may before after moments moments_now input rest taken mid now request moment response takes answer one_more written))

-- the server halted at a request that was taken off the input
abbrev halted_turn : {S : Type 0} (halts : Halts S) (before after : S) (moments moments_now : List ℕ)
    (input rest taken now : Option (List ℕ)) (request : Request) (moment : ℕ) (fault : ServerFault)
    → (takes : Takes input rest taken now request) → halts before request moment fault after → moments_now ≡ moments ++ moment ∷ []
    → HaltsTurn halts before after moments moments_now input rest taken now fault
halted_turn halts before after moments moments_now input rest taken now request moment fault takes halted one_more = (
  moment,
  one_more,
  record {
    parts = takes.parts;
    are_parts = takes.are_parts;
    consumed = takes.consumed;
    halted = subst (λ (q : Request). halts before q moment fault after) takes.request_is halted;
    written = takes.continued;
  },
)

pub halted_step : {S : Type 0} (last : Request → Bool) (may : Serves S) (halts : Halts S) (before after : S) (moments moments_now : List ℕ)
    (input rest taken now : Option (List ℕ)) (request : Request) (moment : ℕ) (fault : ServerFault)
    → Takes input rest taken now request → halts before request moment fault after → moments_now ≡ moments ++ moment ∷ []
    → IsTurn last may halts before after moments moments_now input rest taken now (Err (halt_of fault))
halted_step last may halts before after moments moments_now input rest taken now request moment servers.Failed takes halted one_more =
    halted_turn halts before after moments moments_now input rest taken now request moment servers.Failed takes halted one_more
halted_step last may halts before after moments moments_now input rest taken now request moment servers.NoMemory takes halted one_more =
    inr (inr (halted_turn halts before after moments moments_now input rest taken now request moment servers.NoMemory takes halted one_more))

-- ---- counts of the sink's calls in a turn

-- no request was read
pub reading_puts : {S : Type 0} (last : Request → Bool) (may : Serves S) (halts : Halts S) (before after : S) (moments moments_now : List ℕ)
    (input rest taken now : Option (List ℕ)) (calls calls_now : ℕ) (fault : SessionFault) → PutsForReading input calls calls_now (Err fault)
    → PutsForTurn last may halts before after moments moments_now input rest taken now calls calls_now (Err fault)
reading_puts last may halts before after moments moments_now input rest taken now calls calls_now faults.BadInput puts = puts
reading_puts last may halts before after moments moments_now input rest taken now calls calls_now faults.ReadFault puts = puts
reading_puts last may halts before after moments moments_now input rest taken now calls calls_now faults.WriteFault puts = puts
reading_puts last may halts before after moments moments_now input rest taken now calls calls_now faults.NoMemory puts = puts
reading_puts last may halts before after moments moments_now input rest taken now calls calls_now faults.TooLong puts = absurd puts
reading_puts last may halts before after moments moments_now input rest taken now calls calls_now faults.ServerFault puts = absurd puts

-- the calls for a request that was taken off the input
its_calls : (input rest taken mid : Option (List ℕ)) (calls told : ℕ) (request : Request) (takes : Takes input rest taken mid request)
    → told ≡ puts_after request.fields calls → told ≡ puts_after (request_of takes.parts).fields calls
its_calls input rest taken mid calls told request takes is = subst (λ (q : Request). told ≡ puts_after q.fields calls) takes.request_is is

-- the reply was written whole
pub answered_puts : {S : Type 0} (last : Request → Bool) (may : Serves S) (halts : Halts S) (before after : S) (moments moments_now : List ℕ)
    (input rest taken mid now : Option (List ℕ)) (request : Request) (moment : ℕ) (response : Response) (is_last : Bool) (calls told calls_now : ℕ)
    → Takes input rest taken mid request → may before request moment response after → moments_now ≡ moments ++ moment ∷ []
    → Appends mid now (reply_text response) → is_last ≡ last request → told ≡ puts_after request.fields calls → calls_now ≡ raised told
    → PutsForTurn last may halts before after moments moments_now input rest taken now calls calls_now (Ok (turned is_last))
answered_puts {S} last may halts before after moments moments_now input rest taken mid now request moment response is_last calls told calls_now takes answer
    one_more written is told_is once =
    by is_last (ap last (sym takes.request_is) ∙ sym is)
  where
    reply : Replied may before after input rest taken now moment
    reply = record {
      response = response;
      turn = turn_taken may before after input rest taken mid request moment response takes answer;
      written = Appends-trans taken mid now _ _ takes.continued written;
    }

    called : calls_now ≡ raised (puts_after (request_of takes.parts).fields calls)
    called = once ∙ ap raised (its_calls input rest taken mid calls told request takes told_is)

    by : (b : Bool) → last (request_of takes.parts) ≡ b
        → PutsForTurn last may halts before after moments moments_now input rest taken now calls calls_now (Ok (turned b))
    by true ends = (moment, one_more, (reply, ends, called))
    by false ends = (moment, one_more, (reply, ends, called))

-- the server halted at a request
pub halted_puts : {S : Type 0} (last : Request → Bool) (may : Serves S) (halts : Halts S) (before after : S) (moments moments_now : List ℕ)
    (input rest taken now : Option (List ℕ)) (request : Request) (moment calls calls_now : ℕ) (fault : ServerFault)
    → Takes input rest taken now request → halts before request moment fault after → moments_now ≡ moments ++ moment ∷ []
    → calls_now ≡ puts_after request.fields calls
    → PutsForTurn last may halts before after moments moments_now input rest taken now calls calls_now (Err (halt_of fault))
halted_puts last may halts before after moments moments_now input rest taken now request moment calls calls_now servers.Failed takes halted one_more is =
    let turn = halted_turn halts before after moments moments_now input rest taken now request moment servers.Failed takes halted one_more in
    (moment, one_more, (turn.2, its_calls input rest taken now calls calls_now request takes is))
halted_puts last may halts before after moments moments_now input rest taken now request moment calls calls_now servers.NoMemory takes halted one_more is =
    may_tell input rest calls calls_now (takes_and_tells input rest taken now calls calls_now request takes is)

-- the reply was not written whole
pub broken_puts : {S : Type 0} (last : Request → Bool) (may : Serves S) (halts : Halts S) (before after : S) (moments moments_now : List ℕ)
    (input rest taken now : Option (List ℕ)) (calls told calls_now : ℕ) (fault : WriteFault) → TakesAndTells input rest calls told
    → (fault ≢ writes.NoMemory → calls_now ≡ raised told) → (fault ≡ writes.NoMemory → calls_now ≡ told)
    → PutsForTurn last may halts before after moments moments_now input rest taken now calls calls_now (Err (fault_of fault))
broken_puts last may halts before after moments moments_now input rest taken now calls told calls_now writes.Failed takes once none =
    (told, may_tell input rest calls told takes, once (λ is. cc))
broken_puts last may halts before after moments moments_now input rest taken now calls told calls_now writes.NoMemory takes once none =
    subst (MayTell input calls) (sym (none refl)) (may_tell input rest calls told takes)
