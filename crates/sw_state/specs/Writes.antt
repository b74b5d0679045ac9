-- Writes of one name. OpenStack Swift's documentation of its object server has the three: data, tombstones and meta.
use Rattle.sw_state.specs.declared.write.Kind.{Kind}
use Rattle.sw_state.specs.declared.write.Kind.TheVariants as kinds
use Rattle.sw_timestamp.specs.declared.tag.Tag.{Tag}
use Rattle.sw_timestamp.specs.declared.tag.Tag.TheVariants as tags

-- the kind of a write without what it carries
abbrev pub tag_of : Kind → Tag
tag_of (kinds.Put content) = tags.Put
tag_of kinds.Del = tags.Del
tag_of (kinds.Meta heads) = tags.Meta
