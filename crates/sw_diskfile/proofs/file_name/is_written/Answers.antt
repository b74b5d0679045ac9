use Rattle.std.proofs.Common.{◌≡◌, take, sym, ◌∙◌, ap}
use Rattle.std.proofs.lemmas.List.{take_at}
use Rattle.std.proofs.lemmas.Bool.Decides.{Decides-eqb}
use Rattle.std.proofs.lemmas.Slice.Eq.{slice_eq-Decides}
use Rattle.std.specs.Bool.{Decides}
use Rattle.sw_timestamp.specs.TimeText.{text_of}
use Rattle.sw_diskfile.proofs.file_name.is_written.Goals as goal

pub returns : goal.returns
returns c =
    let text : take c.write_text-count.result c.write_text-count.new.out ≡ text_of c.args.time.now =
    ap (λ l. take c.write_text-count.result l) c.write_text-count.ensures.text ∙ take_at (text_of c.args.time.now) _ c.write_text-count.result
    (sym c.write_text-count.ensures.count) in
    let same : Decides c.eq.result (take c.write_text-count.result c.write_text-count.new.out ≡ c.args.text.now) =
    slice_eq-Decides Decides-eqb _ _ _ c.eq.ensures in
    (λ y. sym (same.0 y) ∙ text, λ e. same.1 (text ∙ sym e))
