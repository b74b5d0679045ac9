-- What is promised of the definitions on times. (This project's own.)
use Rattle.std.specs.Prelude.{◌≡◌, ℕ, ◌≤◌, List, length}
use Rattle.sw_timestamp.specs.TimeText.{IsTimeText, normal_text, text_of}

-- a text reads as one time at most
abbrev pub ReadsAsOneTime : Type 0
ReadsAsOneTime = (text : List ℕ) (t u : ℕ) → IsTimeText text t → IsTimeText text u → t ≡ u

-- what a text reads as is a time
abbrev pub ReadsAsTime : Type 0
ReadsAsTime = (text : List ℕ) (t : ℕ) → IsTimeText text t → t ≤ 999999999999999

-- the normal form of a time reads as that time, and has 16 bytes
abbrev pub NormalTextReadsBack : Type 0
NormalTextReadsBack = (t : ℕ) → t ≤ 999999999999999 → IsTimeText (normal_text t) t × (length (normal_text t) ≡ 16)

-- two times have two texts
abbrev pub TextsDiffer : Type 0
TextsDiffer = (t u : ℕ) → t ≤ 999999999999999 → u ≤ 999999999999999 → text_of t ≡ text_of u → t ≡ u
