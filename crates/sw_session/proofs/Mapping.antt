-- What each answer keeps of the server, a session keeps, and what the server is where it halts, it is at the end; and a session by one pair
-- of relations is one by another that says less, of a part of the server.
use Rattle.std.proofs.Common.{ℕ, Bool, List, [], ◌∷◌, Option, Result, Ok, Err, sym, ap, subst, inl, inr, lit<, ◌⊎◌}
use Rattle.std.specs.Bool.{⊤}
use Rattle.std.specs.Io.KnownBytes.{IsAtEnd}
use Rattle.std.proofs.KnownBytes.{Appends-nil}
use Rattle.sw_message.specs.declared.request.Request.{Request}
use Rattle.sw_message.specs.declared.response.Response.{Response}
use Rattle.sw_session.proofs.Ends.{begun}
use Rattle.sw_session.specs.Passages.{Passage}
use Rattle.sw_session.specs.Replies.{Halts, Replies, Serves}
use Rattle.sw_session.specs.Session.{AtOneMore, Between, Broken, Closed, Complete, EndsAs, HaltedAt, IsSession, SoFar}
use Rattle.sw_session.specs.Turn.{RefusesRest, RepliedPart, StopsBetween, TellsWhole, Turns}
use Rattle.sw_session.specs.declared.server.ServerFault.{ServerFault}
use Rattle.sw_session.specs.declared.server.ServerFault.TheVariants as servers
use Rattle.sw_session.specs.declared.session.SessionFault.{SessionFault}
use Rattle.sw_session.specs.declared.session.SessionFault.TheVariants as faults

-- before anything was read, nothing was answered
pub unbegun : {S : Type 0} (last : Request → Bool) (may : Serves S) (start : S) (input taken : Option (List ℕ))
    → Broken last may start input taken taken [] start
unbegun last may start input taken = inl (record {
  rest = input;
  mid = taken;
  done = (begun last may start input taken).done;
  few = lit< tt;
  end = inl (inl (Appends-nil taken));
})

module _ {S : Type 0} (last : Request → Bool) (may : Serves S) (halts : Halts S) (P : S → Type 0)
    (keeps : (before : S) (request : Request) (moment : ℕ) (response : Response) (after : S)
    → P before → may before request moment response after → P after) where
  replies-keep : (start : S) (requests : List Request) (moments text : List ℕ) (after : S) → P start → Replies may start requests moments text after → P after
  replies-keep start [] moments text after p r = subst P (sym r.1.1) p
  replies-keep start (request ∷ requests) moments text after p r =
      replies-keep r.1 requests r.3 r.4 after (keeps start request r.2 r.0 r.1 p r.5) r.8

  so_far-keeps : (start : S) (input rest taken now : Option (List ℕ)) (moments : List ℕ) (after : S)
      → P start → SoFar last may start input rest taken now moments after → P after
  so_far-keeps start input rest taken now moments after p s = replies-keep start s.requests moments s.text after p s.replied

  broken-keeps : (start : S) (input taken now : Option (List ℕ)) (moments : List ℕ) (after : S)
      → P start → Broken last may start input taken now moments after → P after
  broken-keeps start input taken now moments after p (inl b) = so_far-keeps start input b.rest taken b.mid moments after p b.done
  broken-keeps start input taken now moments after p (inr b) =
      keeps b.then _ b.moment b.end.response after (so_far-keeps start input b.rest taken b.mid b.earlier b.then p b.done) b.end.turn.answer

  module _ (Q : ServerFault → S → Type 0)
      (ends : (before : S) (request : Request) (moment : ℕ) (fault : ServerFault) (after : S)
      → P before → halts before request moment fault after → Q fault after) where
    halted-ends : (start : S) (input taken now : Option (List ℕ)) (moments : List ℕ) (after : S) (fault : ServerFault)
        → P start → HaltedAt last may halts start input taken now moments after fault → Q fault after
    halted-ends start input taken now moments after fault p h =
        ends h.then _ h.moment fault after (so_far-keeps start input h.rest taken h.mid h.earlier h.then p h.done) h.end.halted

    out_of_memory-ends : (start : S) (input taken now : Option (List ℕ)) (moments : List ℕ) (after : S)
        → P start → Broken last may start input taken now moments after ⊎ HaltedAt last may halts start input taken now moments after servers.NoMemory
        → P after ⊎ Q servers.NoMemory after
    out_of_memory-ends start input taken now moments after p (inl b) = inl (broken-keeps start input taken now moments after p b)
    out_of_memory-ends start input taken now moments after p (inr h) = inr (halted-ends start input taken now moments after servers.NoMemory p h)

    well-ends : (start : S) (source sink : Passage) (moments : List ℕ) (after : S) → P start
        → (Complete last may start source.before sink.before sink.now moments after × IsAtEnd source.now)
        ⊎ Closed last may start source.before sink.before sink.now moments after → P after
    well-ends start source sink moments after p (inl c) = so_far-keeps start source.before c.0.rest sink.before sink.now moments after p c.0.done
    well-ends start source sink moments after p (inr c) = keeps c.then _ c.moment c.end.0.response after
        (so_far-keeps start source.before c.rest sink.before c.mid c.earlier c.then p c.done) c.end.0.turn.answer

    pub session-ends : (start : S) (source sink : Passage) (moments : List ℕ) (after : S) (result : Result ⊤ SessionFault)
        → P start → IsSession last may halts start source sink moments after result → EndsAs P Q after result
    session-ends start source sink moments after (Ok done) p s = well-ends start source sink moments after p s.0
    session-ends start source sink moments after (Err faults.ReadFault) p s =
        so_far-keeps start source.before s.0.rest sink.before s.0.mid moments after p s.0.done
    session-ends start source sink moments after (Err faults.WriteFault) p s = broken-keeps start source.before sink.before sink.now moments after p s.0
    session-ends start source sink moments after (Err faults.TooLong) p s =
        so_far-keeps start source.before s.0.rest sink.before sink.now moments after p s.0.done
    session-ends start source sink moments after (Err faults.BadInput) p s =
        so_far-keeps start source.before s.0.rest sink.before s.0.mid moments after p s.0.done
    session-ends start source sink moments after (Err faults.ServerFault) p s =
        halted-ends start source.before sink.before sink.now moments after servers.Failed p s.0
    session-ends start source sink moments after (Err faults.NoMemory) p s = out_of_memory-ends start source.before sink.before sink.now moments after p s.0

  -- where it is the same however the session ends
  ends-same : (after : S) (result : Result ⊤ SessionFault) → EndsAs P (λ fault. P) after result → P after
  ends-same after (Ok done) p = p
  ends-same after (Err faults.ReadFault) p = p
  ends-same after (Err faults.WriteFault) p = p
  ends-same after (Err faults.TooLong) p = p
  ends-same after (Err faults.BadInput) p = p
  ends-same after (Err faults.ServerFault) p = p
  ends-same after (Err faults.NoMemory) (inl p) = p
  ends-same after (Err faults.NoMemory) (inr p) = p

  pub session-keeps : ((before : S) (request : Request) (moment : ℕ) (fault : ServerFault) (after : S)
      → P before → halts before request moment fault after → P after)
      → (start : S) (source sink : Passage) (moments : List ℕ) (after : S) (result : Result ⊤ SessionFault)
      → P start → IsSession last may halts start source sink moments after result → P after
  session-keeps keeps_halted start source sink moments after result p s =
      ends-same after result (session-ends (λ fault. P) keeps_halted start source sink moments after result p s)

  module _ {T : Type 0} (says : Serves T) (says_halts : Halts T) (part : S → T)
      (less : (before : S) (request : Request) (moment : ℕ) (response : Response) (after : S)
      → P before → may before request moment response after → says (part before) request moment response (part after))
      (less_halted : (before : S) (request : Request) (moment : ℕ) (fault : ServerFault) (after : S)
      → P before → halts before request moment fault after → says_halts (part before) request moment fault (part after)) where
    replies-mapped : (start : S) (requests : List Request) (moments text : List ℕ) (after : S)
        → P start → Replies may start requests moments text after → Replies says (part start) requests moments text (part after)
    replies-mapped start [] moments text after p r = (r.0, (r.1.0, ap part r.1.1))
    replies-mapped start (request ∷ requests) moments text after p r = (
      r.0,
      part r.1,
      r.2,
      r.3,
      r.4,
      less start request r.2 r.0 r.1 p r.5,
      r.6,
      r.7,
      replies-mapped r.1 requests r.3 r.4 after (keeps start request r.2 r.0 r.1 p r.5) r.8,
    )

    abbrev so_far-mapped : (start : S) (input rest taken now : Option (List ℕ)) (moments : List ℕ) (after : S)
        → P start → SoFar last may start input rest taken now moments after → SoFar last says (part start) input rest taken now moments (part after)
    so_far-mapped start input rest taken now moments after p s = record {
      requests = s.requests;
      begins = s.begins;
      none_last = s.none_last;
      text = s.text;
      replied = replies-mapped start s.requests moments s.text after p s.replied;
      written = s.written;
    }

    abbrev between-mapped : (start : S) (input taken now : Option (List ℕ)) (moments : List ℕ) (after : S)
        (ends : Option (List ℕ) → Option (List ℕ) → Option (List ℕ) → Type 0) → P start → Between last may start input taken now moments after ends
        → Between last says (part start) input taken now moments (part after) ends
    between-mapped start input taken now moments after ends p b = record {
      rest = b.rest;
      mid = b.mid;
      done = so_far-mapped start input b.rest taken b.mid moments after p b.done;
      few = b.few;
      end = b.end;
    }

    -- what the end says of the server, the other one says of its part
    abbrev one_more-mapped : (start : S) (input taken now : Option (List ℕ)) (moments : List ℕ) (after : S)
        (ends : S → S → Option (List ℕ) → Option (List ℕ) → Option (List ℕ) → Option (List ℕ) → ℕ → Type 0)
        (says_ends : T → T → Option (List ℕ) → Option (List ℕ) → Option (List ℕ) → Option (List ℕ) → ℕ → Type 0)
        → ((then : S) (rest behind mid : Option (List ℕ)) (moment : ℕ) → P then → ends then after rest behind mid now moment
        → says_ends (part then) (part after) rest behind mid now moment)
        → P start → AtOneMore last may start input taken now moments after ends
        → AtOneMore last says (part start) input taken now moments (part after) says_ends
    one_more-mapped start input taken now moments after ends says_ends end p b = record {
      rest = b.rest;
      mid = b.mid;
      earlier = b.earlier;
      then = part b.then;
      done = so_far-mapped start input b.rest taken b.mid b.earlier b.then p b.done;
      few = b.few;
      moment = b.moment;
      moments_are = b.moments_are;
      behind = b.behind;
      end = end b.then b.rest b.behind b.mid b.moment (so_far-keeps start input b.rest taken b.mid b.earlier b.then p b.done) b.end;
    }

    abbrev turns-mapped : (before after : S) (input rest : Option (List ℕ)) (moment : ℕ) (response : Response)
        → P before → Turns may before after input rest moment response → Turns says (part before) (part after) input rest moment response
    turns-mapped before after input rest moment response p t = record {
      parts = t.parts;
      are_parts = t.are_parts;
      consumed = t.consumed;
      answer = less before _ moment response after p t.answer;
    }

    broken-mapped : (start : S) (input taken now : Option (List ℕ)) (moments : List ℕ) (after : S)
        → P start → Broken last may start input taken now moments after → Broken last says (part start) input taken now moments (part after)
    broken-mapped start input taken now moments after p (inl b) = inl (between-mapped start input taken now moments after StopsBetween p b)
    broken-mapped start input taken now moments after p (inr b) =
        inr (one_more-mapped start input taken now moments after (RepliedPart may) (RepliedPart says) (λ then rest behind mid moment q cut. record {
          response = cut.response;
          turn = turns-mapped then after rest behind moment cut.response q cut.turn;
          written = cut.written;
        }) p b)

    halted-mapped : (start : S) (input taken now : Option (List ℕ)) (moments : List ℕ) (after : S) (fault : ServerFault)
        → P start → HaltedAt last may halts start input taken now moments after fault
        → HaltedAt last says says_halts (part start) input taken now moments (part after) fault
    halted-mapped start input taken now moments after fault p h =
        one_more-mapped start input taken now moments after _ _ (λ then rest behind mid moment q halt. record {
          parts = halt.parts;
          are_parts = halt.are_parts;
          consumed = halt.consumed;
          halted = less_halted then _ moment fault after q halt.halted;
          written = halt.written;
        }) p h

    out_of_memory-mapped : (start : S) (input taken now : Option (List ℕ)) (moments : List ℕ) (after : S)
        → P start → Broken last may start input taken now moments after ⊎ HaltedAt last may halts start input taken now moments after servers.NoMemory
        → Broken last says (part start) input taken now moments (part after)
        ⊎ HaltedAt last says says_halts (part start) input taken now moments (part after) servers.NoMemory
    out_of_memory-mapped start input taken now moments after p (inl b) = inl (broken-mapped start input taken now moments after p b)
    out_of_memory-mapped start input taken now moments after p (inr h) = inr (halted-mapped start input taken now moments after servers.NoMemory p h)

    well-mapped : (start : S) (source sink : Passage) (moments : List ℕ) (after : S) → P start
        → (Complete last may start source.before sink.before sink.now moments after × IsAtEnd source.now)
        ⊎ Closed last may start source.before sink.before sink.now moments after
        → (Complete last says (part start) source.before sink.before sink.now moments (part after) × IsAtEnd source.now)
        ⊎ Closed last says (part start) source.before sink.before sink.now moments (part after)
    well-mapped start source sink moments after p (inl c) = inl (
      record {
        rest = c.0.rest;
        done = so_far-mapped start source.before c.0.rest sink.before sink.now moments after p c.0.done;
        few = c.0.few;
        nothing_else = c.0.nothing_else;
      },
      c.1,
    )
    well-mapped start source sink moments after p (inr c) =
        inr (one_more-mapped start source.before sink.before sink.now moments after _ _ (λ then rest behind mid moment q closed. (
          record {
            response = closed.0.response;
            turn = turns-mapped then after rest behind moment closed.0.response q closed.0.turn;
            written = closed.0.written;
          },
          closed.1,
        )) p c)

    pub session-mapped : (start : S) (source sink : Passage) (moments : List ℕ) (after : S) (result : Result ⊤ SessionFault)
        → P start → IsSession last may halts start source sink moments after result → IsSession last says says_halts (part start) source sink moments
        (part after) result
    session-mapped start source sink moments after (Ok done) p s = (well-mapped start source sink moments after p s.0, s.1, s.2)
    session-mapped start source sink moments after (Err faults.ReadFault) p s =
        (between-mapped start source.before sink.before sink.now moments after TellsWhole p s.0, s.1, s.2)
    session-mapped start source sink moments after (Err faults.WriteFault) p s =
        (broken-mapped start source.before sink.before sink.now moments after p s.0, s.1, s.2)
    session-mapped start source sink moments after (Err faults.TooLong) p s = (
      record {
        rest = s.0.rest;
        done = so_far-mapped start source.before s.0.rest sink.before sink.now moments after p s.0.done;
        most = s.0.most;
      },
      s.1,
      s.2,
    )
    session-mapped start source sink moments after (Err faults.BadInput) p s =
        (between-mapped start source.before sink.before sink.now moments after RefusesRest p s.0, s.1, s.2)
    session-mapped start source sink moments after (Err faults.ServerFault) p s =
        (halted-mapped start source.before sink.before sink.now moments after servers.Failed p s.0, s.1, s.2)
    session-mapped start source sink moments after (Err faults.NoMemory) p s =
        (out_of_memory-mapped start source.before sink.before sink.now moments after p s.0, s.1, s.2)
