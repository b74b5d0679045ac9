-- What two requests leave of which one pushed a partition from one device to another, and one back. (This project's own.)
use Rattle.std.specs.Prelude.{◌≡◌, ℕ, Bool, true, ◌++◌, ◌⊎◌}
use Rattle.sw_control.specs.Asking.{IsControl, is_control}
use Rattle.sw_control.specs.OutcomeText.{outcome_text}
use Rattle.sw_control.specs.Texts.{text_reply}
use Rattle.sw_control.specs.declared.asking.Control.TheVariants as controls
use Rattle.sw_control.specs.declared.replication.Replication.{Replication}
use Rattle.sw_core.specs.Worlds.{KeeperSeen, AllNodes, sight_of}
use Rattle.sw_message.specs.declared.request.Request.{Request}
use Rattle.sw_message.specs.declared.response.Response.{Response}
use Rattle.sw_pass.specs.declared.outcome.Outcome.{Outcome}
use Rattle.sw_object_steps.specs.Journals.{Hash}
use Rattle.sw_object_steps.specs.Parts.{IsOfPart}
use Rattle.sw_peer.specs.Sights.{Sight}
use Rattle.sw_replicator.specs.Laws.{BothTell, CollidesOnce, HoldSame}
use Rattle.sw_ring.specs.declared.ring.Ring.{Ring}
use Rattle.sw_state.specs.States.{Agree, state_of, writes_of}
use Rattle.sw_state.specs.declared.state.State.{State}
use Rattle.sw_volume.specs.Tree.{Folders}
use Rattle.sw_nodes.specs.Server.{MayAnswer}

-- the reply tells that a push is done
pub record TellsDone (response : Response) : Type 0 where
  pub outcome : Outcome
  pub is_reply : response ≡ text_reply (outcome_text outcome)
  pub done : outcome.done ≡ true

module _ {V K : Type 0} (tells : V → Bool) (files : V → Folders) (faults : V → ℕ) (keeps : KeeperSeen K) where
  abbrev pub seen : AllNodes V K → Sight
  seen w = sight_of tells files faults keeps w

  -- the state that a device holds under a hash
  abbrev pub held : AllNodes V K → ℕ → Hash → State
  held w device hash = ((seen w).objects.holds device hash).state

  -- a request asked for a push of this partition, and was told that it is done
  pub record IsDonePush (ring : Ring) (from to part : ℕ) (w after : AllNodes V K) : Type 0 where
    pub request : Request
    pub control : is_control request.path ≡ true
    pub asked : Replication
    pub asks : IsControl ring request (controls.Replicate asked)
    pub route : (asked.from ≡ from) × (asked.to ≡ to) × (asked.part ≡ part)
    pub moment : ℕ
    pub response : Response
    pub answered : MayAnswer tells files faults keeps ring w request moment response after
    pub told : TellsDone response

  -- Where a push there and one back were both done, and nothing changed what both devices hold of a hash of the partition in between, and
  -- the writes agree of what both held, then both hold the state of all of them. The only way out is two texts that one of the pushes compared,
  -- which differ and have one MD5
  abbrev pub ExchangeMeets : Type 0
  ExchangeMeets = (ring : Ring) (a b part : ℕ) (w m n after : AllNodes V K) → IsDonePush ring a b part w m → IsDonePush ring b a part n after
      → (seen n).nodes ≡ (seen w).nodes → BothTell a b part (seen w) → BothTell a b part (seen n)
      → (hash : Hash) → IsOfPart w.power part hash → HoldSame a b hash (seen m) (seen n)
      → Agree (writes_of (held w a hash) ++ writes_of (held w b hash))
      → ((held after a hash ≡ state_of (writes_of (held w a hash) ++ writes_of (held w b hash)))
      × (held after b hash ≡ state_of (writes_of (held w a hash) ++ writes_of (held w b hash))))
      ⊎ CollidesOnce a b part hash (seen w) (seen m) (seen n) (seen after)
