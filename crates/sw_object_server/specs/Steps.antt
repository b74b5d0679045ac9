-- The step that a request asks for which passes every test. (OpenStack Swift's object server.)
use Rattle.std.specs.Prelude.{◌≡◌, ℕ, true, false, List, Some, if◌then◌else◌}
use Rattle.md5.specs.Md5.{md5}
use Rattle.sw_fields.specs.Fields.{IsTimeOf, asks_for_none, is_replicated, type_of}
use Rattle.sw_fields.specs.Metadata.{IsHeads}
use Rattle.sw_hashpath.specs.declared.name.Name.{Name}
use Rattle.sw_message.specs.declared.fields.Field.{Field}
use Rattle.sw_message.specs.declared.request.Body.TheVariants.{Whole}
use Rattle.sw_message.specs.declared.request.Request.{Request}
use Rattle.sw_object_steps.specs.declared.change.Change.{Change}
use Rattle.sw_object_steps.specs.declared.change.Change.TheVariants as changes
use Rattle.sw_ring.specs.declared.ring.Ring.{Ring}
use Rattle.sw_state.specs.declared.content.Content.{Content}
use Rattle.sw_state.specs.declared.heads.Heads.{Heads}
use Rattle.sw_state.specs.declared.write.Kind.TheVariants as kinds
use Rattle.sw_state.specs.declared.write.Kind.{Kind}
use Rattle.sw_object_server.specs.Requirements.{IsVerb, expiry_text, name_of, second_in}
use Rattle.sw_object_server.specs.Places.{IsDevice}
use Rattle.sw_object_server.specs.Targets.{parts_of}
use Rattle.sw_object_server.specs.declared.asked.Asked.{Asked}
use Rattle.sw_object_server.specs.declared.asked.Asked.TheVariants as asks
use Rattle.sw_object_server.specs.declared.verb.Verb.{Verb}
use Rattle.sw_object_server.specs.declared.verb.Verb.TheVariants as verbs

-- ---- changes

-- the change that takes over another node's write
abbrev pub receive : ℕ → Kind → Change
receive time kind = changes.Receive (record { time = time; kind = kind })

abbrev pub put_change : ℕ → Content → List Field → Change
put_change time content fields =
    if is_replicated fields then receive time (kinds.Put content) else changes.Put time content (asks_for_none fields)

abbrev pub post_change : ℕ → List Field → Heads → Change
post_change time fields heads = if is_replicated fields then receive time (kinds.Meta heads) else changes.Post time heads

abbrev pub delete_change : ℕ → List Field → Change
delete_change time fields = if is_replicated fields then receive time kinds.Del else changes.Delete time (second_in (expiry_text fields))

-- what a PUT at this time writes under this name
pub record PutsContent (time : ℕ) (name : Name) (r : Request) (content : Content) : Type 0 where
  pub body : r.body ≡ Whole content.body
  pub type : type_of r.fields ≡ Some content.content_type
  pub etag : content.etag ≡ md5 content.body
  pub heads : IsHeads time name r.fields (Some content.heads)

-- ---- the step

-- what a verb asks for at this device and name
abbrev pub AsksBy : Verb → ℕ → Name → Request → Asked → Type 0
AsksBy verbs.Get device name r asked = asked ≡ asks.Read device name false
AsksBy verbs.Head device name r asked = asked ≡ asks.Read device name true
AsksBy verbs.Put device name r asked =
    (time : ℕ) × (content : Content) × IsTimeOf r.fields time × PutsContent time name r content
    × (asked ≡ asks.Change device name (put_change time content r.fields))
AsksBy verbs.Post device name r asked =
    (time : ℕ) × (heads : Heads) × IsTimeOf r.fields time × IsHeads time name r.fields (Some heads)
    × (asked ≡ asks.Change device name (post_change time r.fields heads))
AsksBy verbs.Delete device name r asked =
    (time : ℕ) × IsTimeOf r.fields time × (asked ≡ asks.Change device name (delete_change time r.fields))

-- what a request asks for: the step of its verb, at its device and name
abbrev pub AsksFor : Ring → Request → Asked → Type 0
AsksFor ring r asked =
    (verb : Verb) × (device : ℕ) × IsVerb verb r × IsDevice ring (parts_of r.path).device (Some device)
    × AsksBy verb device (name_of ring r) r asked
