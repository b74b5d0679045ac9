-- One text for each time, and for each list of entries.
use Rattle.std.proofs.Common.{◌≡◌, false, Some, List, [], ◌∷◌, refl, sym, ◌∙◌, ap}
use Rattle.std.specs.List.{AllZip}
use Rattle.jiff.proofs.Family.{civil_nanos_injective, epoch_day_injective, time_nanos_injective}
use Rattle.jiff.specs.Types.{DateTime as Moment}
use Rattle.jiff.specs.Words.{civil_nanos, datetime_text}
use Rattle.serde_json.specs.Data.{Data, array}
use Rattle.serde_json.specs.View.{items_of}
use Rattle.serde_json.specs.Written.{compact_text}
use Rattle.sw_listing.specs.declared.entry.Entry.{Entry}
use Rattle.sw_listing.specs.declared.entry.Entry.TheVariants.{Row, Subdir}
use Rattle.sw_listing_json.specs.Json.{IsEntryData, row_data}
use Rattle.sw_listing_json.specs.Laws.{HasOneDate, HasOneJson}

-- one moment has one text
same_text : (a b : Moment) → civil_nanos a ≡ civil_nanos b → datetime_text false 84 (Some 6) a ≡ datetime_text false 84 (Some 6) b
same_text a b same =
    let parts = civil_nanos_injective a b same in
    let day = epoch_day_injective a.date b.date parts.0 in
    let time = time_nanos_injective a.time b.time parts.1 in
    rw (day.0, day.1, day.2, time.0, time.1, time.2, time.3) refl

pub has-one-date : HasOneDate
has-one-date units text other one two =
    one.is_text ∙ same_text one.shown two.shown (one.nanos ∙ sym two.nanos) ∙ sym two.is_text

one_object : (entry : Entry) (d e : Data) → IsEntryData entry d → IsEntryData entry e → d ≡ e
one_object (Row row) d e one two =
    one.is_data ∙ ap (λ date. row_data row date) (has-one-date row.created_at one.date two.date one.is_date two.is_date) ∙ sym two.is_data
one_object (Subdir text) d e one two = one ∙ sym two

one_list : (entries : List Entry) (ds es : List Data) → AllZip IsEntryData entries ds → AllZip IsEntryData entries es → ds ≡ es
one_list [] [] [] one two = refl
one_list [] [] (e ∷ es) one two = absurd two
one_list [] (d ∷ ds) es one two = absurd one
one_list (x ∷ xs) [] es one two = absurd one
one_list (x ∷ xs) (d ∷ ds) [] one two = absurd two
one_list (x ∷ xs) (d ∷ ds) (e ∷ es) one two =
    let first : d ≡ e = one_object x d e one.0 two.0 in
    let rest : ds ≡ es = one_list xs ds es one.1 two.1 in
    cc

pub has-one-json : HasOneJson
has-one-json entries bytes other one two =
    one.is_text ∙ ap (λ objects. compact_text (array (items_of objects))) (one_list entries one.objects two.objects one.each two.each) ∙ sym two.is_text
