-- How text lines grow.
use Rattle.std.proofs.Common.{◌≡◌, ℕ, ◌+◌, ◌<◌, List, [], ◌∷◌, ◌++◌, length, map, sym, ap, ◌∙◌, append_assoc, append-nil, length-append, arith, slice_index_or}
use Rattle.std.proofs.Common.{get_or, take}
use Rattle.std.proofs.lemmas.Grind.{flat_map-append}
use Rattle.std.proofs.lemmas.List.{map_more, take_more}
use Rattle.std.specs.List.{flat_map}
use Rattle.sw_object_steps.specs.Briefs.{brief_of}
use Rattle.sw_container_steps.specs.declared.cont_entry.ContEntry.{ContEntry}
use Rattle.sw_peer.specs.Lines.{entered_in, settled_in}
use Rattle.sw_object_steps.specs.declared.entry.Brief.{Brief}
use Rattle.sw_peer.specs.declared.line.Line.{Line}
use Rattle.sw_control.specs.Growth.{Adds}
use Rattle.sw_control.specs.TrailText.{entry_told, line_told, numbered, own_told, settled_told}
use Rattle.sw_control.specs.declared.trail_lines.TextLines.{TextLines}

pub numbered-append : (before : ℕ) (xs ys : List (List ℕ)) → numbered before (xs ++ ys) ≡ numbered before xs ++ numbered (before + length xs) ys
numbered-append before [] ys =
    let none : before ≡ before + 0 = omega arith in
    ap (λ n. numbered n ys) none
numbered-append before (x ∷ xs) ys =
    let number : before + 1 + length xs ≡ before + length (x ∷ xs) = omega arith in
    rw (numbered-append (before + 1) xs ys, number) (simp append_assoc)

-- what is added in two steps
pub added_both : (a b c : TextLines) (xs ys : List (List ℕ)) → Adds a xs b → Adds b ys c → Adds a (xs ++ ys) c
added_both a b c xs ys first second = record {
  text =
      let joined = numbered-append a.count xs ys in
      let regrouped = append_assoc a.text.items (numbered a.count xs) (numbered (a.count + length xs) ys) in
      cc;
  count = omega (arith, length-append xs ys);
  few = second.few;
}

-- a line adds what is said of its settled doubts, of its own write, and of what was entered at a container
pub line_added : (a b c d : TextLines) (devices : List (List ℕ)) (kept line : Line) (device : List ℕ) (briefs : List Brief) (entered : List ContEntry)
    → line ≡ kept → device ≡ slice_index_or devices line.device [] → briefs ≡ map brief_of (settled_in kept) → entered ≡ entered_in kept.event
    → Adds a (map (settled_told device) briefs) b → Adds b (own_told device line.event) c → Adds c (map (entry_told device) entered) d
    → Adds a (line_told devices kept) d
line_added a b c d devices kept line device briefs entered is named settled entries first second third =
    let of_line : device ≡ slice_index_or devices kept.device [] = named ∙ ap (λ l. slice_index_or devices l.device []) is in
    rw (← of_line, ← settled, ← entries)
    (added_both a b d (map (settled_told device) briefs) (own_told device kept.event ++ map (entry_told device) entered) first
    (added_both b c d (own_told device kept.event) (map (entry_told device) entered) (rw is at second) third))

-- what is added to text lines that are numbered from 1
added_to : (a b : TextLines) (told texts : List (List ℕ)) → a.text.items ≡ numbered 0 told → a.count ≡ length told → Adds a texts b
    → (b.text.items ≡ numbered 0 (told ++ texts)) × (b.count ≡ length (told ++ texts))
added_to a b told texts text count added =
    let of_told = ap (λ t. t ++ numbered a.count texts) text in
    let so_many : a.count ≡ 0 + length told = omega arith in
    let of_count = ap (λ n. numbered 0 told ++ numbered n texts) so_many in
    (added.text ∙ (of_told ∙ (of_count ∙ sym (numbered-append 0 told texts))), omega (arith, length-append told texts))

-- what is said of the items before the index was added, and then of the one at it
pub items_added : {X : Type 0} (says : X → List ℕ) (a b c : TextLines) (items : List X) (i : ℕ) (item : X) → i < length items → item ≡ get_or items i item
    → Adds a (map says (take i items)) b → Adds b (says item ∷ []) c → Adds a (map says (take (i + 1) items)) c
items_added {X} says a b c items i item within is first second =
    let more = map_more says items i item within in
    let here = ap says is in
    rw (more, ← here) (added_both a b c (map says (take i items)) (says item ∷ []) first second)

pub flat_map-more : {X A : Type 0} (f : X → List A) (xs : List X) (i : ℕ) (d : X) → i < length xs
    → flat_map f (take (i + 1) xs) ≡ flat_map f (take i xs) ++ f (get_or xs i d)
flat_map-more f xs i d within =
    let split = flat_map-append f (take i xs) (get_or xs i d ∷ []) in
    let alone = ap (λ t. flat_map f (take i xs) ++ t) (append-nil (f (get_or xs i d))) in
    ap (flat_map f) (take_more xs i d within) ∙ (split ∙ alone)

-- the text lines of the lines before the index, and those of the line at it
pub lines_added : (a b : TextLines) (devices : List (List ℕ)) (lines : List Line) (i : ℕ) (d : Line) → i < length lines
    → a.text.items ≡ numbered 0 (flat_map (line_told devices) (take i lines)) → a.count ≡ length (flat_map (line_told devices) (take i lines))
    → Adds a (line_told devices (get_or lines i d)) b
    → (b.text.items ≡ numbered 0 (flat_map (line_told devices) (take (i + 1) lines)))
    × (b.count ≡ length (flat_map (line_told devices) (take (i + 1) lines)))
lines_added a b devices lines i d within text count added =
    rw (flat_map-more (line_told devices) lines i d within)
    (added_to a b (flat_map (line_told devices) (take i lines)) (line_told devices (get_or lines i d)) text count added)
