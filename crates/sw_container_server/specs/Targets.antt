-- The targets of the container server: `/DEVICE/PARTITION/ACCOUNT/CONTAINER`, and with `/OBJECT` behind it those of a row, as proxies and object
-- servers of OpenStack Swift address a device. Each segment is percent-decoded by itself, as the URL Standard says. (That a field says that a
-- request is for a row is this project's own.)
use Rattle.std.specs.Prelude.{ℕ, Bool, true, false, List, codes, count_by, nat_eq, nat_le, ◌==◌, ◌&&◌, ◌||◌, Option, None, Some, if◌then◌else◌}
use Rattle.std.specs.List.{starts_with}
use Rattle.std.specs.Str.{bytes_eq}
use Rattle.sw_fields.specs.Fields.{has_value}
use Rattle.sw_message.specs.declared.request.Request.{Request}
use Rattle.sw_object_server.specs.Targets.{is_slash, parts_of}
use Rattle.sw_container_server.specs.declared.target.Target.{Target}
use Rattle.sw_container_server.specs.declared.verb.Verb.{Verb}
use Rattle.sw_container_server.specs.declared.verb.Verb.TheVariants.{Put, Delete, Get, Head, PutRow, DeleteRow}

-- ---- paths

-- how many slashes a path has: one before each of its segments
abbrev pub slashes : List ℕ → ℕ
slashes path = count_by is_slash path

-- whether a path is a row's: it has five segments or more
abbrev pub is_row : List ℕ → Bool
is_row path = nat_le 5 (slashes path)

-- whether a request is for this server: its path begins with a slash, and has four segments; or it has more, and a field says that it is a
-- container's row
abbrev pub is_for_containers : Request → Bool
is_for_containers r =
    starts_with nat_eq r.path (codes "/")
    && ((slashes r.path == 4) || (is_row r.path && has_value (codes "x-swc-server") (codes "container") r.fields))

-- what a path names: its segments are cut and decoded as those of an object's path. Where there are four, the object is empty
abbrev pub target_of : List ℕ → Target
target_of path = record {
  device = (parts_of path).device;
  partition = (parts_of path).partition;
  account = (parts_of path).account;
  container = (parts_of path).container;
  object = (parts_of path).object;
}

-- ---- verbs

-- the verb that a method is, where it is one of a container's
abbrev pub container_verb : List ℕ → Option Verb
container_verb method =
    if bytes_eq method (codes "PUT") then Some Put
    else if bytes_eq method (codes "DELETE") then Some Delete
    else if bytes_eq method (codes "GET") then Some Get
    else if bytes_eq method (codes "HEAD") then Some Head
    else None

-- the same of a row
abbrev pub row_verb : List ℕ → Option Verb
row_verb method =
    if bytes_eq method (codes "PUT") then Some PutRow
    else if bytes_eq method (codes "DELETE") then Some DeleteRow
    else None

-- the verb that a method is at a row, or at a container
abbrev pub verb_of : Bool → List ℕ → Option Verb
verb_of true method = row_verb method
verb_of false method = container_verb method

-- whether a verb is one of a row's
abbrev pub names_row : Verb → Bool
names_row Put = false
names_row Delete = false
names_row Get = false
names_row Head = false
names_row PutRow = true
names_row DeleteRow = true
