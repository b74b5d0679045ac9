-- When an object is to expire. (OpenStack Swift's documentation of object expiry. Ten digits at most are this project's own.)
use Rattle.std.specs.Prelude.{ℕ, ◌+◌, ◌*◌, Bool, false, ◌&&◌, List, length, codes, nat_le, nat_lt, Option, None, Some, if◌then◌else◌}
use Rattle.std.specs.Char.{is_ascii_digit}
use Rattle.std.specs.List.{list_all}
use Rattle.std.specs.Option.{option_map_or}
use Rattle.std.specs.Str.Parse.{digits_value}
use Rattle.sw_hashpath.specs.declared.name.Name.{Name}
use Rattle.sw_message.specs.Fields.{field_value_of}
use Rattle.sw_message.specs.declared.fields.Field.{Field}
use Rattle.sw_state.specs.declared.heads.Heads.{Heads}
use Rattle.sw_timestamp.specs.TimeText.{units_of_second}

-- whether a text is a second: 1 to 10 digits
abbrev pub is_second : List ℕ → Bool
is_second text = nat_le 1 (length text) && (nat_le (length text) 10 && list_all is_ascii_digit text)

-- the second that a text is
abbrev pub second_of : List ℕ → Option ℕ
second_of text = if is_second text then Some (digits_value 10 text) else None

-- how many bytes the names of an object's path have
abbrev pub path_size : Name → ℕ
path_size name = length name.account + (length name.container + length name.object)

-- whether an object that is written at this time may expire at this second: it does so later, and the expirer's queue can name it. The name
-- of its entry there has ten digits, three separators and the names of the path, and 2,048 bytes at most
abbrev pub may_expire : ℕ → Name → ℕ → Bool
may_expire time name second = nat_lt time (second * units_of_second) && nat_le (path_size name) 2035

abbrev pub checked_second : ℕ → Name → Option ℕ → Option (Option ℕ)
checked_second time name None = None
checked_second time name (Some second) = if may_expire time name second then Some (Some second) else None

abbrev pub expiry_in : ℕ → Name → Option (List ℕ) → Option (Option ℕ)
expiry_in time name None = Some None
expiry_in time name (Some text) = checked_second time name (second_of text)

-- the second at which a write of this time lets the name expire, if it does; nothing where what the fields say of it is refused
abbrev pub expiry_of : ℕ → Name → List Field → Option (Option ℕ)
expiry_of time name fields = expiry_in time name (field_value_of (codes "x-delete-at") fields)

-- whether an object with these heads has expired at this second
abbrev pub is_expired : Heads → ℕ → Bool
is_expired heads moment = option_map_or (λ second. nat_le second moment) heads.delete_at false
