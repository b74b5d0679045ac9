-- Where the file of a record is. OpenStack Swift's object server keeps the updates that it couldn't send in such folders, under
-- such names.
use Rattle.std.specs.Prelude.{ℕ, ◌≤◌, List, ◌∷◌, ◌++◌, take, drop, codes, Option, Some}
use Rattle.hex.specs.Hex.{encode_lower}
use Rattle.sw_timestamp.specs.TimeText.{text_of}
use Rattle.sw_hashpath.specs.HashParts.{IsDigest}
use Rattle.sw_metafile.specs.Reading.{◌>>=◌, cut, digest_of, time_of}
use Rattle.sw_pending.specs.declared.key.RecordKey.{RecordKey}

-- a key that a record can have: an MD5, and a time of up to 9999999999.99999 seconds, in units of 10 microseconds
pub record IsKey (key : RecordKey) : Type 0 where
  pub hash : IsDigest key.hash
  pub time : key.time ≤ 999999999999999

-- the folder of a hash: that of its last three digits
abbrev pub folder_text : List ℕ → List ℕ
folder_text hash = codes "async_pending/" ++ take 3 (drop 29 (encode_lower hash))

-- the name of a record's file: the digits of the hash, a dash, and the time
abbrev pub name_text : RecordKey → List ℕ
name_text key = encode_lower key.hash ++ 45 ∷ text_of key.time

-- the key whose record's file has this name
unfoldable pub named : List ℕ → Option RecordKey
named text = do
  parts ← cut 45 text
  hash ← digest_of parts.0
  time ← time_of parts.1
  Some (record { hash = hash; time = time })
