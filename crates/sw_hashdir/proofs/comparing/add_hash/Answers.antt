use Rattle.std.proofs.Common.{◌≡◌, ◌++◌, ◌∷◌, [], ◌==◌, true, false, ℕ, List, sym, ◌∙◌, ap, length}
use Rattle.std.proofs.lemmas.List.{append-nil}
use Rattle.std.specs.declared.alloc.Global.{Global}
use Rattle.std.specs.declared.vec.Vec.{Vec}
use Rattle.md5.specs.Md5.{md5}
use Rattle.sw_suffix.specs.SuffixTexts.{suffix_text}
use Rattle.sw_suffix.specs.declared.dir_line.DirLine.{DirLine}
use Rattle.sw_suffix.specs.declared.told.SuffixHash.{SuffixHash}
use Rattle.sw_hashdir.proofs.Hashes.{told-none, told-there}
use Rattle.sw_hashdir.proofs.comparing.add_hash.Goals as goal
use Rattle.sw_hashdir.proofs.comparing.add_hash.Goals.{then-not-is_empty+in_ok-push, else-not-is_empty}

pub returns-clause-adds : goal.returns-clause-adds
returns-clause-adds g c =
    let suffix : ℕ = c.args.suffix in
    let lines : List DirLine = c.in_ok-lines.lines.items in
    let old : List SuffixHash = c.args.hashes.now.items in
    record {
      lines = lines;
      are = c.in_ok-lines.ensures.ordered;
      is_shown = c.in_ok-lines.ensures.listed;
      adds = elim c.if-not-is_empty.branch [
        | then-not-is_empty+in_ok-push w ↦
            let some : (length lines == 0) ≡ false = ap (λ (n : ℕ). n == 0) (sym c.in_ok-lines.lines.ok.0) ∙ (sym c.is_empty.ensures ∙ w.if-not-is_empty.true)
            in
            let digest : w.suffix_hash.result ≡ md5 (suffix_text lines) =
            w.suffix_hash.ensures ∙ ap (λ (ls : List DirLine). md5 (suffix_text ls)) w.deref.ensures.value in
            let moved : c.if-not-is_empty.hashes.items ≡ w.push.new.self.items = ap (λ (l : Vec SuffixHash Global). l.items) w.hashes-is in
            moved ∙ (w.in_ok-push.ensures.items
            ∙ (ap (λ (d : List ℕ). old ++ record { suffix = suffix; md5 = d } ∷ []) digest
            ∙ ap (λ (l : List SuffixHash). old ++ l) (sym (told-there suffix lines some))))
        | else-not-is_empty w ↦
            let none : (length lines == 0) ≡ true = ap (λ (n : ℕ). n == 0) (sym c.in_ok-lines.lines.ok.0) ∙ (sym c.is_empty.ensures ∙ w.if-not-is_empty.false)
            in
            let moved : c.if-not-is_empty.hashes.items ≡ old = ap (λ (l : Vec SuffixHash Global). l.items) w.hashes-is in
            moved ∙ (sym (append-nil old) ∙ ap (λ (l : List SuffixHash). old ++ l) (sym (told-none suffix lines none)))
      ];
    }
