use Rattle.std.proofs.Common.{◌≡◌, ◌++◌, ◌∷◌, [], ℕ, List, sym, ◌∙◌, ap, subst, inl, inr}
use Rattle.std.proofs.lemmas.List.{append-nil}
use Rattle.std.specs.declared.alloc.Global.{Global}
use Rattle.std.specs.declared.vec.Vec.{Vec}
use Rattle.sw_cleanup.specs.Directories.{AreNamesIn}
use Rattle.sw_diskfile.specs.declared.file_name.FileName.{FileName}
use Rattle.sw_diskfile.specs.declared.picking.Picked.{Picked}
use Rattle.sw_suffix.specs.SuffixTexts.{files}
use Rattle.sw_suffix.specs.declared.dir_line.DirLine.{DirLine}
use Rattle.sw_volume.specs.Tree.{contents}
use Rattle.sw_hashdir.specs.Partitions.{line_with}
use Rattle.sw_hashdir.specs.Places.{dir_text}
use Rattle.sw_hashdir.proofs.Lines.{line-none, line-there, picked-kinds, picked-times}
use Rattle.sw_hashdir.proofs.comparing.add_line.Goals as goal
use Rattle.sw_hashdir.proofs.comparing.add_line.Goals.{then-is_some+in_ok-push, then-is_some-via-then-is_some, then-is_some-via-else-is_some+then-is_some-2}
use Rattle.sw_hashdir.proofs.comparing.add_line.Goals.{else-is_some+else-is_some-2}

pub returns-in_err-picked-clause-only_lists : goal.returns-in_err-picked-clause-only_lists
returns-in_err-picked-clause-only_lists g c = (1, c.look.ensures.calls, c.look.ensures.lists)

pub returns-in_err-push-clause-only_lists : goal.returns-in_err-push-clause-only_lists
returns-in_err-push-clause-only_lists g c = (1, c.look.ensures.calls, c.look.ensures.lists)

pub returns-clause-only_lists : goal.returns-clause-only_lists
returns-clause-only_lists g c = (1, c.look.ensures.calls, c.look.ensures.lists)

pub returns-clause-adds : goal.returns-clause-adds
returns-clause-adds g c =
    let v = g.V.Volume in
    let hash : List ℕ = c.args.hash.now in
    let names : List FileName = c.in_ok-picked.field-0.names.items in
    let picked : Picked = c.in_ok-picked.field-0.picked in
    let dir : c.deref.result.now ≡ dir_text c.args.power hash = c.deref.ensures.value ∙ c.in_ok-dir.ensures.text in
    record {
      picked = picked;
      kinds = picked-kinds names picked c.in_ok-picked.ensures.picked;
      times = picked-times names picked c.in_ok-picked.ensures.picked c.in_ok-picked.ensures.times;
      is_shown = λ told. record {
        names = names;
        are = subst (λ (d : List ℕ). AreNamesIn (contents (v.holds c.args.volume.now)) d names) dir (c.in_ok-picked.ensures.names told).are_names;
        picks = c.in_ok-picked.ensures.picked;
      };
      adds = elim c.if-is_some.branch [
        | then-is_some+in_ok-push w ↦
            let old : List DirLine = c.args.lines.now.items in
            let there : line_with hash picked (files picked) ≡ record { hash = hash; picked = picked } ∷ [] = elim w.then-is_some.branch [
              | then-is_some-via-then-is_some x ↦ line-there hash picked (inl (sym c.is_some.ensures ∙ x.if-is_some.true))
              | then-is_some-via-else-is_some+then-is_some-2 x ↦ line-there hash picked (inr (sym x.is_some-else-is_some.ensures ∙ x.if-is_some-2.true))
            ] in
            let moved : c.if-is_some.lines.items ≡ w.push.new.self.items = ap (λ (l : Vec DirLine Global). l.items) w.lines-is in
            moved ∙ (w.in_ok-push.ensures.items ∙ ap (λ (l : List DirLine). old ++ l) (sym there))
        | else-is_some+else-is_some-2 w ↦
            let old : List DirLine = c.args.lines.now.items in
            let none = line-none hash picked (sym c.is_some.ensures ∙ w.if-is_some.false) (sym w.is_some-else-is_some.ensures ∙ w.if-is_some-2.false) in
            let moved : c.if-is_some.lines.items ≡ old = ap (λ (l : Vec DirLine Global). l.items) w.lines-is in
            moved ∙ (sym (append-nil old) ∙ ap (λ (l : List DirLine). old ++ l) (sym none))
      ];
    }
