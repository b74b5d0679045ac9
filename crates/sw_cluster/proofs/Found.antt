-- Where each reply of a session was given: how the server came to what it was then, and how it went on.
use Rattle.std.proofs.Common.{ℕ, Bool, List, [], ◌∷◌, ◌++◌, Result, Ok, Err, ◌⊎◌, inl, inr, sym, subst}
use Rattle.std.proofs.lemmas.List.Elements.{All-append, All-cons, All-nil}
use Rattle.std.specs.Bool.{⊤}
use Rattle.std.specs.Io.KnownBytes.{IsAtEnd}
use Rattle.std.specs.List.{All}
use Rattle.sw_message.specs.declared.request.Request.{Request}
use Rattle.sw_message.specs.declared.response.Response.{Response}
use Rattle.sw_session.specs.Passages.{Passage}
use Rattle.sw_session.specs.Replies.{Halts, Replies, Serves}
use Rattle.sw_session.specs.Session.{Broken, Closed, Complete, HaltedAt, IsSession}
use Rattle.sw_session.specs.declared.server.ServerFault.{ServerFault}
use Rattle.sw_session.specs.declared.server.ServerFault.TheVariants as servers
use Rattle.sw_session.specs.declared.session.SessionFault.{SessionFault}
use Rattle.sw_session.specs.declared.session.SessionFault.TheVariants as faults
use Rattle.sw_cluster.specs.Answered.{Answered, answered_in, broken, replied_in, wanting, well}

module _ {S : Type 0} (may : Serves S) where
  -- a server goes so by nothing, by one stretch and then another, and by an answer
  pub record GoesByAnswers (Goes : S → S → Type 0) : Type 0 where
    pub still : (w : S) → Goes w w
    pub join : (a b c : S) → Goes a b → Goes b c → Goes a c
    pub by_answer : (w : S) (r : Request) (moment : ℕ) (response : Response) (after : S) → may w r moment response after → Goes w after

  -- the server came to what it was as the request came, gave the reply, and went on from what it was then to the end
  pub record IsFound (Comes Goes : S → S → Type 0) (start after : S) (a : Answered S) : Type 0 where
    pub moment : ℕ
    pub from : Comes start a.before
    pub answer : may a.before a.request moment a.response a.after
    pub to : Goes a.after after

  pub replies-go : {Goes : S → S → Type 0} → GoesByAnswers Goes → (start : S) (requests : List Request) (moments text : List ℕ) (after : S)
      → Replies may start requests moments text after → Goes start after
  replies-go {Goes} by start [] moments text after r = subst (Goes start) (sym r.1.1) (by.still start)
  replies-go {Goes} by start (request ∷ requests) moments text after r =
      by.join start r.1 after (by.by_answer start request r.2 r.0 r.1 r.5) (replies-go by r.1 requests r.3 r.4 after r.8)

-- how a server comes and goes, and that it goes so too where it halts
module _ {S : Type 0} (last : Request → Bool) (may : Serves S) (halts : Halts S) (Comes Goes : S → S → Type 0) (comes : GoesByAnswers may Comes)
    (goes : GoesByAnswers may Goes)
    (by-halt : (w : S) (r : Request) (moment : ℕ) (fault : ServerFault) (after : S) → halts w r moment fault after → Goes w after) where
  abbrev AllFound : S → S → List (Answered S) → Type 0
  AllFound start after list = All (IsFound may Comes Goes start after) list

  one-earlier : (first start after : S) → Comes first start → (a : Answered S) → IsFound may Comes Goes start after a → IsFound may Comes Goes first after a
  one-earlier first start after so a f =
      record { moment = f.moment; from = comes.join first start a.before so f.from; answer = f.answer; to = f.to }

  pub earlier : (first start after : S) → Comes first start → (list : List (Answered S)) → AllFound start after list → AllFound first after list
  earlier first start after so list all k d within = one-earlier first start after so _ (all k d within)

  one-later : (start after end : S) → Goes after end → (a : Answered S) → IsFound may Comes Goes start after a → IsFound may Comes Goes start end a
  one-later start after end on a f = record { moment = f.moment; from = f.from; answer = f.answer; to = goes.join a.after after end f.to on }

  pub later : (start after end : S) → Goes after end → (list : List (Answered S)) → AllFound start after list → AllFound start end list
  later start after end on list all k d within = one-later start after end on _ (all k d within)

  abbrev Listed : (start : S) (requests : List Request) (moments text : List ℕ) (after : S) → Replies may start requests moments text after
      → List (Answered S)
  Listed = replied_in last may halts

  replies-found : (start : S) (requests : List Request) (moments text : List ℕ) (after : S) (replies : Replies may start requests moments text after)
      → AllFound start after (Listed start requests moments text after replies)
  replies-found start [] moments text after r = All-nil (IsFound may Comes Goes start after)
  replies-found start (request ∷ requests) moments text after r =
      All-cons (IsFound may Comes Goes start after) (record { request = request; response = r.0; before = start; after = r.1 })
      (Listed r.1 requests r.3 r.4 after r.8)
      (record { moment = r.2; from = comes.still start; answer = r.5; to = replies-go may goes r.1 requests r.3 r.4 after r.8 })
      (earlier start r.1 after (comes.by_answer start request r.2 r.0 r.1 r.5) (Listed r.1 requests r.3 r.4 after r.8)
      (replies-found r.1 requests r.3 r.4 after r.8))

  -- some first ones, and one request more
  with-one : (start then after : S) (requests : List Request) (moments text : List ℕ) (replies : Replies may start requests moments text then)
      (request : Request) (moment : ℕ) (response : Response) → may then request moment response after
      → AllFound start after
      (Listed start requests moments text then replies ++ record { request = request; response = response; before = then; after = after } ∷ [])
  with-one start then after requests moments text replies request moment response answer =
      All-append (IsFound may Comes Goes start after) (Listed start requests moments text then replies)
      (record { request = request; response = response; before = then; after = after } ∷ [])
      (later start then after (goes.by_answer then request moment response after answer) (Listed start requests moments text then replies)
      (replies-found start requests moments text then replies))
      (All-cons (IsFound may Comes Goes start after) (record { request = request; response = response; before = then; after = after }) []
      (record { moment = moment; from = replies-go may comes start requests moments text then replies; answer = answer; to = goes.still after })
      (All-nil (IsFound may Comes Goes start after)))

  -- some first ones, and one more at which the server halted
  with-halt : (start then after : S) (requests : List Request) (moments text : List ℕ) (replies : Replies may start requests moments text then)
      (request : Request) (moment : ℕ) (fault : ServerFault) → halts then request moment fault after
      → AllFound start after (Listed start requests moments text then replies)
  with-halt start then after requests moments text replies request moment fault halt =
      later start then after (by-halt then request moment fault after halt) (Listed start requests moments text then replies)
      (replies-found start requests moments text then replies)

  module _ (start : S) (source sink : Passage) (moments : List ℕ) (after : S) where
    well-found : (ends : (Complete last may start source.before sink.before sink.now moments after × IsAtEnd source.now)
        ⊎ Closed last may start source.before sink.before sink.now moments after)
        → AllFound start after (well last may halts start source sink moments after ends)
    well-found (inl complete) =
        replies-found start complete.0.done.requests moments complete.0.done.text after complete.0.done.replied
    well-found (inr closed) =
        with-one start closed.then after closed.done.requests closed.earlier closed.done.text closed.done.replied _ closed.moment closed.end.0.response
        closed.end.0.turn.answer

    broken-found : (ends : Broken last may start source.before sink.before sink.now moments after)
        → AllFound start after (broken last may halts start source.before sink.before sink.now moments after ends)
    broken-found (inl between) = replies-found start between.done.requests moments between.done.text after between.done.replied
    broken-found (inr one) =
        with-one start one.then after one.done.requests one.earlier one.done.text one.done.replied _ one.moment one.end.response one.end.turn.answer

    pub session-found : (result : Result ⊤ SessionFault) (session : IsSession last may halts start source sink moments after result)
        → AllFound start after (answered_in last may halts start source sink moments after result session)
    session-found (Ok done) s = well-found s.0
    session-found (Err faults.ReadFault) s = replies-found start s.0.done.requests moments s.0.done.text after s.0.done.replied
    session-found (Err faults.WriteFault) s = broken-found s.0
    session-found (Err faults.TooLong) s = replies-found start s.0.done.requests moments s.0.done.text after s.0.done.replied
    session-found (Err faults.BadInput) s = replies-found start s.0.done.requests moments s.0.done.text after s.0.done.replied
    session-found (Err faults.ServerFault) s =
        with-halt start s.0.then after s.0.done.requests s.0.earlier s.0.done.text s.0.done.replied _ s.0.moment servers.Failed s.0.end.halted
    session-found (Err faults.NoMemory) s = by s.0
      where
        by : (ends : Broken last may start source.before sink.before sink.now moments after
            ⊎ HaltedAt last may halts start source.before sink.before sink.now moments after servers.NoMemory)
            → AllFound start after (wanting last may halts start source sink moments after ends)
        by (inl ends) = broken-found ends
        by (inr halted) =
            with-halt start halted.then after halted.done.requests halted.earlier halted.done.text halted.done.replied _ halted.moment servers.NoMemory
            halted.end.halted
