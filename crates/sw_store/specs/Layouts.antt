-- What a ring says of where things are, as the folder of a node keeps it: so a ring that would look for them elsewhere is told from the one for which
-- the folder was made. The secrets themselves aren't in it. (This project's own.)
use Rattle.std.specs.Prelude.{ℕ, ◌+◌, ◌++◌, List, [], ◌∷◌, codes}
use Rattle.std.specs.Fmt.{decimal}
use Rattle.hex.specs.Hex.{encode_lower}
use Rattle.md5.specs.Md5.{md5}
use Rattle.sw_ring.specs.RingData.{RingData}

-- a line: a word, a blank and a value
abbrev pub line : List ℕ → List ℕ → List ℕ
line word value = word ++ codes " " ++ value ++ 10 ∷ []

-- the MD5 of a secret, in hexadecimal digits
abbrev pub digest_text : List ℕ → List ℕ
digest_text secret = encode_lower (md5 secret)

-- the devices, each with its number, the first of which has this one
unfoldable pub device_lines : ℕ → List (List ℕ) → List ℕ
device_lines number [] = []
device_lines number (name ∷ names) = line (codes "device " ++ decimal number) name ++ device_lines (number + 1) names

-- the whole text, with the number of its format first
abbrev pub layout_text : RingData → List ℕ
layout_text ring =
    line (codes "swc-data") (decimal 1)
    ++ line (codes "part_power") (decimal ring.power)
    ++ line (codes "lock_bits") (decimal ring.lock_bits)
    ++ line (codes "hash_prefix_md5") (digest_text ring.secrets.prefix)
    ++ line (codes "hash_suffix_md5") (digest_text ring.secrets.suffix)
    ++ device_lines 0 ring.devices
