-- Two files have two names.
use Rattle.std.proofs.Common.{◌≡◌, ℕ, ◌≤◌, refl, sym, ◌∙◌, ap, take, drop, length, eqb, get_or, true≢false}
use Rattle.std.proofs.lemmas.List.{take_at, drop_at}
use Rattle.sw_timestamp.specs.TimeText.{text_of}
use Rattle.sw_timestamp.specs.declared.tag.Tag.{Tag}
use Rattle.sw_timestamp.specs.declared.tag.Tag.TheVariants.{Put, Del, Meta}
use Rattle.sw_timestamp.specs.declared.timestamp.TheConstants.{GREATEST}
use Rattle.sw_timestamp.proofs.TextLaws.{normal_text_reads_back, texts_differ}
use Rattle.sw_diskfile.specs.FileNames.{ending, name_text}
use Rattle.sw_diskfile.specs.declared.file_name.FileName.{FileName}

-- the byte after the point tells the endings apart
one_ending : (a b : Tag) → ending a ≡ ending b → a ≡ b
one_ending Put Put e = refl
one_ending Put Del e = absurd (true≢false (ap (λ l. eqb (get_or l 1 0) 100) e))
one_ending Put Meta e = absurd (true≢false (ap (λ l. eqb (get_or l 1 0) 100) e))
one_ending Del Put e = absurd (true≢false (ap (λ l. eqb (get_or l 1 0) 116) e))
one_ending Del Del e = refl
one_ending Del Meta e = absurd (true≢false (ap (λ l. eqb (get_or l 1 0) 116) e))
one_ending Meta Put e = absurd (true≢false (ap (λ l. eqb (get_or l 1 0) 109) e))
one_ending Meta Del e = absurd (true≢false (ap (λ l. eqb (get_or l 1 0) 109) e))
one_ending Meta Meta e = refl

sixteen : (t : ℕ) → t ≤ GREATEST → length (text_of t) ≡ 16
sixteen t le = (normal_text_reads_back t le).1

pub names_differ : (file other : FileName) → file.time ≤ GREATEST → other.time ≤ GREATEST → name_text file ≡ name_text other → file ≡ other
names_differ file other le le' e =
    let times : text_of file.time ≡ text_of other.time =
    sym (take_at (text_of file.time) (ending file.tag) 16 (sixteen file.time le)) ∙ ap (λ l. take 16 l) e ∙ take_at (text_of other.time) (ending other.tag) 16
    (sixteen other.time le') in
    let endings : ending file.tag ≡ ending other.tag =
    sym (drop_at (text_of file.time) (ending file.tag) 16 (sixteen file.time le)) ∙ ap (λ l. drop 16 l) e ∙ drop_at (text_of other.time) (ending other.tag) 16
    (sixteen other.time le') in
    ap (λ t. record { time = t; tag = file.tag }) (texts_differ file.time other.time le le' times) ∙ ap (λ a. record { time = other.time; tag = a })
    (one_ending file.tag other.tag endings)
