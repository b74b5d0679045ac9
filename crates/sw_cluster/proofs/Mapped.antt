-- How a session ended and when it read and wrote, by one pair of relations, is the same by another that says less, of a part of the server.
use Rattle.std.proofs.Common.{◌≡◌, ℕ, Bool, List, [], ◌∷◌, Option, None, Some, Result, Ok, Err, sym, ap, subst, inl, inr, ◌⊎◌}
use Rattle.std.specs.Bool.{⊤}
use Rattle.sw_http.specs.Input.{IfSeen}
use Rattle.sw_http.specs.Reads.{IsReadLast, ReadsWhile}
use Rattle.sw_message.specs.declared.request.Request.{Request}
use Rattle.sw_message.specs.declared.response.Response.{Response}
use Rattle.sw_outside.specs.Doors.{Giving}
use Rattle.sw_session.proofs.Mapping.{session-mapped}
use Rattle.sw_session.specs.Replies.{Halts, Replies, Serves}
use Rattle.sw_session.specs.Session.{IsBetween, IsSession, OwnPuts, OwnPutsAtOneMore, OwnPutsBehind, WaitsForMore}
use Rattle.sw_session.specs.Turn.{MayTell, MayTellAndPuts}
use Rattle.sw_session.specs.declared.server.ServerFault.{ServerFault}
use Rattle.sw_session.specs.declared.server.ServerFault.TheVariants as servers
use Rattle.sw_session.specs.declared.session.SessionFault.{SessionFault}
use Rattle.sw_session.specs.declared.session.SessionFault.TheVariants as faults
use Rattle.sw_cluster.specs.Ending.{Ends, ReadsInTurn, status_by}
use Rattle.sw_cluster.specs.Told.{Input, Output, input, read_of, written_of}

-- what was seen has a weaker property too
seen-less : (P Q : List ℕ → Type 0) → ((bytes : List ℕ) → P bytes → Q bytes) → (whole left : Option (List ℕ)) → IfSeen whole left P → IfSeen whole left Q
seen-less P Q less None left seen = tt
seen-less P Q less (Some whole) None seen = tt
seen-less P Q less (Some whole) (Some left) seen = (seen.0, seen.1, less seen.0 seen.2)

reads-less : {A : Type 0} (left : A → Option (List ℕ)) (calls : A → ℕ) (old new : A) (whole : Option (List ℕ)) (P Q : List ℕ → Type 0)
    → ((bytes : List ℕ) → P bytes → Q bytes) → ReadsWhile left calls old new whole P → ReadsWhile left calls old new whole Q
reads-less left calls old new whole P Q less reads = record { bytes = reads.bytes; given = reads.given; last = on reads.last }
  where
    on : (calls new ≡ calls old) ⊎ IsReadLast left calls old new whole P → (calls new ≡ calls old) ⊎ IsReadLast left calls old new whole Q
    on (inl none) = inl none
    on (inr l) = inr (record {
      source = l.source;
      called = l.called;
      bytes = l.bytes;
      given = l.given;
      needed = seen-less P Q less whole (left l.source) l.needed;
    })

-- a source was read so, and so it is with what it tells of itself
pub reads-told : {R : Type 0} (left : R → Option (List ℕ)) (faults calls : R → ℕ) (old new : R) {S : Type 0} (last : Request → Bool) (may : Serves S)
    (start : S) (moments : List ℕ) → ReadsWhile left calls old new (left old) (IsBetween last may start moments)
    → ReadsInTurn last may start moments (input left faults calls old new)
reads-told {R} left faults calls old new last may start moments reads = record { bytes = reads.bytes; given = reads.given; last = on reads.last }
  where
    on : (calls new ≡ calls old) ⊎ IsReadLast left calls old new (left old) (IsBetween last may start moments)
        → (calls new ≡ calls old) ⊎ IsReadLast (λ (g : Giving). g.left) (λ (g : Giving). g.calls)
        (record { left = left old; calls = calls old; faults = faults old }) (record { left = left new; calls = calls new; faults = faults new })
        (left old) (IsBetween last may start moments)
    on (inl none) = inl none
    on (inr l) = inr (record {
      source = record { left = left l.source; calls = calls l.source; faults = faults l.source };
      called = l.called;
      bytes = l.bytes;
      given = l.given;
      needed = l.needed;
    })

module _ {S T : Type 0} (last : Request → Bool) (may : Serves S) (halts : Halts S) (P : S → Type 0)
    (keeps : (before : S) (request : Request) (moment : ℕ) (response : Response) (after : S)
    → P before → may before request moment response after → P after)
    (says : Serves T) (says_halts : Halts T) (part : S → T)
    (less : (before : S) (request : Request) (moment : ℕ) (response : Response) (after : S)
    → P before → may before request moment response after → says (part before) request moment response (part after))
    (less_halted : (before : S) (request : Request) (moment : ℕ) (fault : ServerFault) (after : S)
    → P before → halts before request moment fault after → says_halts (part before) request moment fault (part after)) where
  replies-keep : (start : S) (requests : List Request) (moments text : List ℕ) (after : S) → P start → Replies may start requests moments text after → P after
  replies-keep start [] moments text after p r = subst P (sym r.1.1) p
  replies-keep start (request ∷ requests) moments text after p r =
      replies-keep r.1 requests r.3 r.4 after (keeps start request r.2 r.0 r.1 p r.5) r.8

  replies-mapped : (start : S) (requests : List Request) (moments text : List ℕ) (after : S)
      → P start → Replies may start requests moments text after → Replies says (part start) requests moments text (part after)
  replies-mapped start [] moments text after p r = (r.0, (r.1.0, ap part r.1.1))
  replies-mapped start (request ∷ requests) moments text after p r = (
    r.0,
    part r.1,
    r.2,
    r.3,
    r.4,
    less start request r.2 r.0 r.1 p r.5,
    r.6,
    r.7,
    replies-mapped r.1 requests r.3 r.4 after (keeps start request r.2 r.0 r.1 p r.5) r.8,
  )

  -- ---- calls of the sink

  abbrev behind-mapped : (start after : S) (whole taken : Option (List ℕ)) (moments : List ℕ) (calls : ℕ)
      (ends : Option (List ℕ) → Option (List ℕ) → ℕ → Type 0) → P start → OwnPutsBehind last may start after whole taken moments calls ends
      → OwnPutsBehind last says (part start) (part after) whole taken moments calls ends
  behind-mapped start after whole taken moments calls ends p b = record {
    rest = b.rest;
    mid = b.mid;
    done = record {
      requests = b.done.requests;
      begins = b.done.begins;
      none_last = b.done.none_last;
      text = b.done.text;
      replied = replies-mapped start b.done.requests moments b.done.text after p b.done.replied;
      written = b.done.written;
    };
    end = b.end;
  }

  -- what is told of the end with the server as it was before it, the other one tells with that one's part
  one_more-mapped : (start : S) (whole taken : Option (List ℕ)) (moments : List ℕ) (calls : ℕ)
      (ends : S → ℕ → Option (List ℕ) → Option (List ℕ) → ℕ → Type 0) (says_ends : T → ℕ → Option (List ℕ) → Option (List ℕ) → ℕ → Type 0)
      → ((then : S) (moment : ℕ) (rest mid : Option (List ℕ)) (told : ℕ) → P then → ends then moment rest mid told
      → says_ends (part then) moment rest mid told)
      → P start → OwnPutsAtOneMore last may start whole taken moments calls ends
      → OwnPutsAtOneMore last says (part start) whole taken moments calls says_ends
  one_more-mapped start whole taken moments calls ends says_ends end p (then, earlier, moment, moments_are, b) = (
    part then,
    earlier,
    moment,
    moments_are,
    record {
      rest = b.rest;
      mid = b.mid;
      done = record {
        requests = b.done.requests;
        begins = b.done.begins;
        none_last = b.done.none_last;
        text = b.done.text;
        replied = replies-mapped start b.done.requests earlier b.done.text then p b.done.replied;
        written = b.done.written;
      };
      end = end then moment b.rest b.mid _ (replies-keep start b.done.requests earlier b.done.text then p b.done.replied) b.end;
    },
  )

  puts-mapped : (start after : S) (whole taken taken_now : Option (List ℕ)) (moments : List ℕ) (calls calls_now : ℕ) (result : Result ⊤ SessionFault)
      → P start → OwnPuts last may halts start after whole taken taken_now moments calls calls_now result
      → OwnPuts last says says_halts (part start) (part after) whole taken taken_now moments calls calls_now result
  puts-mapped start after whole taken taken_now moments calls calls_now (Ok _) p (inl b) = inl (behind-mapped start after whole taken moments calls _ p b)
  puts-mapped start after whole taken taken_now moments calls calls_now (Ok _) p (inr b) =
      inr (one_more-mapped start whole taken moments calls _ _ (λ then moment rest mid told q closed. (
        closed.0,
        (
          record {
            response = closed.1.0.response;
            turn = record {
              parts = closed.1.0.turn.parts;
              are_parts = closed.1.0.turn.are_parts;
              consumed = closed.1.0.turn.consumed;
              answer = less then _ moment closed.1.0.response after q closed.1.0.turn.answer;
            };
            written = closed.1.0.written;
          },
          closed.1.1,
          closed.1.2,
        ),
      )) p b)
  puts-mapped start after whole taken taken_now moments calls calls_now (Err faults.ReadFault) p b = behind-mapped start after whole taken moments calls _ p b
  puts-mapped start after whole taken taken_now moments calls calls_now (Err faults.WriteFault) p (inl b) =
      inl (behind-mapped start after whole taken moments calls _ p b)
  puts-mapped start after whole taken taken_now moments calls calls_now (Err faults.WriteFault) p (inr b) =
      inr (one_more-mapped start whole taken moments calls (λ then moment rest mid told. MayTellAndPuts rest told calls_now)
      (λ then moment rest mid told. MayTellAndPuts rest told calls_now) (λ then moment rest mid told q told_so. told_so) p b)
  puts-mapped start after whole taken taken_now moments calls calls_now (Err faults.TooLong) p b = behind-mapped start after whole taken moments calls _ p b
  puts-mapped start after whole taken taken_now moments calls calls_now (Err faults.BadInput) p b = behind-mapped start after whole taken moments calls _ p b
  puts-mapped start after whole taken taken_now moments calls calls_now (Err faults.ServerFault) p b =
      one_more-mapped start whole taken moments calls _ _ (λ then moment rest mid told q halt. (
        halt.0,
        (
          record {
            parts = halt.1.0.parts;
            are_parts = halt.1.0.are_parts;
            consumed = halt.1.0.consumed;
            halted = less_halted then _ moment servers.Failed after q halt.1.0.halted;
            written = halt.1.0.written;
          },
          halt.1.1,
        ),
      )) p b
  puts-mapped start after whole taken taken_now moments calls calls_now (Err faults.NoMemory) p (inl b) =
      inl (behind-mapped start after whole taken moments calls _ p b)
  puts-mapped start after whole taken taken_now moments calls calls_now (Err faults.NoMemory) p (inr b) =
      inr (one_more-mapped start whole taken moments calls (λ then moment rest mid told. MayTell rest told calls_now)
      (λ then moment rest mid told. MayTell rest told calls_now) (λ then moment rest mid told q told_so. told_so) p b)

  -- ---- calls of the source

  between-mapped : (start : S) (moments bytes : List ℕ) → P start → IsBetween last may start moments bytes → IsBetween last says (part start) moments bytes
  between-mapped start moments bytes p b = record {
    parts = b.parts;
    rest = b.rest;
    reads = b.reads;
    none_last = b.none_last;
    earlier = b.earlier;
    later = b.later;
    moments_are = b.moments_are;
    text = b.text;
    then = part b.then;
    replied = replies-mapped start _ b.earlier b.text b.then p b.replied;
    needs = b.needs;
  }

  -- ---- all of it

  pub ends-mapped : (start : S) (source : Input) (sink : Output) (moments : List ℕ) (after : S) (result : Result ⊤ SessionFault) (status : ℕ) → P start
      → status ≡ status_by result → IsSession last may halts start (read_of source) (written_of sink) moments after result
      → OwnPuts last may halts start after source.before sink.before sink.now moments sink.calls sink.calls_now result
      → ReadsInTurn last may start moments source
      → (result ≡ Err faults.ReadFault
      → WaitsForMore last may start after source.before source.now sink.before sink.now moments sink.calls sink.calls_now)
      → Ends last says says_halts (part start) source sink moments (part after) status
  ends-mapped start source sink moments after result status p status_is session puts reads waits = record {
    ended = result;
    status_is = status_is;
    session = session-mapped last may halts P keeps says says_halts part less less_halted start (read_of source) (written_of sink) moments after result p
        session;
    puts = puts-mapped start after source.before sink.before sink.now moments sink.calls sink.calls_now result p puts;
    reads = reads-less _ _ _ _ source.before _ _ (λ bytes between. between-mapped start moments bytes p between) reads;
    waits = λ is. behind-mapped start after source.before sink.before moments sink.calls _ p (waits is);
  }
