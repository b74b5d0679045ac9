use Rattle.std.proofs.Common.{◌≡◌, ℕ, ◌<◌, ◌∷◌, ◌++◌, [], List, None, Some, All, refl, sym, ◌∙◌, ap, subst}
use Rattle.std.specs.Arc.{arc_value}
use Rattle.std.specs.List.{find}
use Rattle.std.specs.declared.vec.Vec.{Vec}
use Rattle.std.specs.declared.alloc.Global.{Global}
use Rattle.sw_rows.specs.Index.{AreNames, but, numbered_of, row_numbered}
use Rattle.sw_rows.specs.Rows.{find_named, is_named, IsNamedOnce, without}
use Rattle.sw_rows.specs.declared.held.Held.{Held}
use Rattle.sw_rows.specs.declared.numbered.Numbered.{Numbered}
use Rattle.sw_rows.specs.declared.row.Row.{Row}
use Rattle.sw_rows.proofs.Exchanging.{but-pushed, Over, pushed-new, pushed-over}
use Rattle.sw_rows.proofs.Entries.{led-to, names-put}
use Rattle.sw_rows.proofs.index.Index.put.Goals as goal

above_all : (old all : List Numbered) (rowid : ℕ) → old ≡ all → All (λ n. n.rowid < rowid) all → All (λ n. n.rowid < rowid) old
above_all old all rowid is above = let P : List Numbered → Type 0 = λ x. All (λ n. n.rowid < rowid) x in subst P (sym is) above

once_all : (old all : List Numbered) → old ≡ all → IsNamedOnce all → IsNamedOnce old
once_all old all is once = let P : List Numbered → Type 0 = λ x. IsNamedOnce x in subst P (sym is) once

names_as : (list list' : List Numbered) (names : List (Vec ℕ Global × Held)) → list' ≡ list → AreNames list names → AreNames list' names
names_as list list' names is are = let P : List Numbered → Type 0 = λ x. AreNames x names in subst P (sym is) are

numbered_as : (rowid : ℕ) (row row' : Row) → row' ≡ row → ◌≡◌ {A = Numbered} (record { rowid = rowid; row = row' }) (record { rowid = rowid; row = row })
numbered_as rowid row row' is = ap (λ (r : Row). let n : Numbered = record { rowid = rowid; row = r } in n) is

pub invariant_of-self-in-Ok-Some : goal.invariant_of-self-in-Ok-Some
invariant_of-self-in-Ok-Some c =
    let list = c.self.inside.numbers in
    let n : Numbered = record { rowid = c.args.rowid; row = arc_value c.args.row } in
    let key = c.in_ok-name.name in
    let named : key.items ≡ n.row.name = c.in_ok-name.ensures.items ∙ c.as_slice.ensures ∙ ap (λ (r : Row). r.name) c.deref.ensures in
    let held : Held = record { rowid = c.args.rowid; row = c.in_ok-try_clone.field-0 } in
    let found : find (is_named n.row.name) list ≡ Some (numbered_of c.in-Ok-Some.old) =
    sym (led-to list c.self.inside.names.entries key n.row.name (Some c.in-Ok-Some.old) c.self.invariant named
    (sym c.in-Ok-Some.field-0-is ∙ c.in-Ok-Some.ensures.old)) in
    let over : Over list n c.in-Ok-Some.old.rowid =
    pushed-over list n c.in-Ok-Some.old.rowid (numbered_of c.in-Ok-Some.old) c.in_ok-push.ensures.rising
    (once_all list c.args.self.now c.self.view_is c.requires.once)
    (above_all list c.args.self.now c.args.rowid c.self.view_is c.requires.above) found refl in
    names_as (without n.row.name list ++ n ∷ []) c.cut.new.self c.insert.new.self.entries
    (c.cut.ensures.rows ∙ ap (λ (l : List Numbered). but l c.in-Ok-Some.old.rowid) c.in_ok-push.ensures.rows ∙ over.rest)
    (names-put list c.self.inside.names.entries c.insert.new.self.entries key held n c.self.invariant named
    (numbered_as c.args.rowid (arc_value c.args.row) (arc_value c.in_ok-try_clone.field-0) c.in_ok-try_clone.ensures) c.in-Ok-Some.ensures.entries)

pub returns-in-Ok-Some-clause-old : goal.returns-in-Ok-Some-clause-old
returns-in-Ok-Some-clause-old c =
    let list = c.self.inside.numbers in
    let n : Numbered = record { rowid = c.args.rowid; row = arc_value c.args.row } in
    let key = c.in_ok-name.name in
    let named : key.items ≡ n.row.name = c.in_ok-name.ensures.items ∙ c.as_slice.ensures ∙ ap (λ (r : Row). r.name) c.deref.ensures in
    let found : find (is_named n.row.name) list ≡ Some (numbered_of c.in-Ok-Some.old) =
    sym (led-to list c.self.inside.names.entries key n.row.name (Some c.in-Ok-Some.old) c.self.invariant named
    (sym c.in-Ok-Some.field-0-is ∙ c.in-Ok-Some.ensures.old)) in
    let over : Over list n c.in-Ok-Some.old.rowid =
    pushed-over list n c.in-Ok-Some.old.rowid (numbered_of c.in-Ok-Some.old) c.in_ok-push.ensures.rising
    (once_all list c.args.self.now c.self.view_is c.requires.once)
    (above_all list c.args.self.now c.args.rowid c.self.view_is c.requires.above) found refl in
    c.cut.ensures.gone ∙ ap (λ (l : List Numbered). row_numbered l c.in-Ok-Some.old.rowid) c.in_ok-push.ensures.rows ∙ over.gone
    ∙ ap (λ (l : List Numbered). find_named l n.row.name) c.self.view_is

pub returns-in-Ok-Some-clause-rows : goal.returns-in-Ok-Some-clause-rows
returns-in-Ok-Some-clause-rows c =
    let list = c.self.inside.numbers in
    let n : Numbered = record { rowid = c.args.rowid; row = arc_value c.args.row } in
    let key = c.in_ok-name.name in
    let named : key.items ≡ n.row.name = c.in_ok-name.ensures.items ∙ c.as_slice.ensures ∙ ap (λ (r : Row). r.name) c.deref.ensures in
    let found : find (is_named n.row.name) list ≡ Some (numbered_of c.in-Ok-Some.old) =
    sym (led-to list c.self.inside.names.entries key n.row.name (Some c.in-Ok-Some.old) c.self.invariant named
    (sym c.in-Ok-Some.field-0-is ∙ c.in-Ok-Some.ensures.old)) in
    let over : Over list n c.in-Ok-Some.old.rowid =
    pushed-over list n c.in-Ok-Some.old.rowid (numbered_of c.in-Ok-Some.old) c.in_ok-push.ensures.rising
    (once_all list c.args.self.now c.self.view_is c.requires.once)
    (above_all list c.args.self.now c.args.rowid c.self.view_is c.requires.above) found refl in
    c.cut.ensures.rows ∙ ap (λ (l : List Numbered). but l c.in-Ok-Some.old.rowid) c.in_ok-push.ensures.rows ∙ over.rest
    ∙ ap (λ (l : List Numbered). without n.row.name l ++ n ∷ []) c.self.view_is

pub invariant_of-self-in-Ok-None : goal.invariant_of-self-in-Ok-None
invariant_of-self-in-Ok-None c =
    let list = c.self.inside.numbers in
    let n : Numbered = record { rowid = c.args.rowid; row = arc_value c.args.row } in
    let key = c.in_ok-name.name in
    let named : key.items ≡ n.row.name = c.in_ok-name.ensures.items ∙ c.as_slice.ensures ∙ ap (λ (r : Row). r.name) c.deref.ensures in
    let held : Held = record { rowid = c.args.rowid; row = c.in_ok-try_clone.field-0 } in
    let none : find (is_named n.row.name) list ≡ None =
    sym (led-to list c.self.inside.names.entries key n.row.name None c.self.invariant named (sym c.in-Ok-None.field-0-is ∙ c.in-Ok-None.ensures.old)) in
    names_as (without n.row.name list ++ n ∷ []) c.push.new.self c.insert.new.self.entries (c.in_ok-push.ensures.rows ∙ (pushed-new list n none).1)
    (names-put list c.self.inside.names.entries c.insert.new.self.entries key held n c.self.invariant named
    (numbered_as c.args.rowid (arc_value c.args.row) (arc_value c.in_ok-try_clone.field-0) c.in_ok-try_clone.ensures) c.in-Ok-None.ensures.entries)

pub returns-in-Ok-None-clause-old : goal.returns-in-Ok-None-clause-old
returns-in-Ok-None-clause-old c =
    let list = c.self.inside.numbers in
    let n : Numbered = record { rowid = c.args.rowid; row = arc_value c.args.row } in
    let key = c.in_ok-name.name in
    let named : key.items ≡ n.row.name = c.in_ok-name.ensures.items ∙ c.as_slice.ensures ∙ ap (λ (r : Row). r.name) c.deref.ensures in
    let none : find (is_named n.row.name) list ≡ None =
    sym (led-to list c.self.inside.names.entries key n.row.name None c.self.invariant named (sym c.in-Ok-None.field-0-is ∙ c.in-Ok-None.ensures.old)) in
    (pushed-new list n none).0 ∙ ap (λ (l : List Numbered). find_named l n.row.name) c.self.view_is

pub returns-in-Ok-None-clause-rows : goal.returns-in-Ok-None-clause-rows
returns-in-Ok-None-clause-rows c =
    let list = c.self.inside.numbers in
    let n : Numbered = record { rowid = c.args.rowid; row = arc_value c.args.row } in
    let key = c.in_ok-name.name in
    let named : key.items ≡ n.row.name = c.in_ok-name.ensures.items ∙ c.as_slice.ensures ∙ ap (λ (r : Row). r.name) c.deref.ensures in
    let none : find (is_named n.row.name) list ≡ None =
    sym (led-to list c.self.inside.names.entries key n.row.name None c.self.invariant named (sym c.in-Ok-None.field-0-is ∙ c.in-Ok-None.ensures.old)) in
    c.in_ok-push.ensures.rows ∙ (pushed-new list n none).1 ∙ ap (λ (l : List Numbered). without n.row.name l ++ n ∷ []) c.self.view_is

pub invariant_of-self-in-Err : goal.invariant_of-self-in-Err
invariant_of-self-in-Err c =
    let list = c.self.inside.numbers in
    let n : Numbered = record { rowid = c.args.rowid; row = arc_value c.args.row } in
    let left : c.cut-in-Err.new.self ≡ list =
    c.cut-in-Err.ensures.rows ∙ ap (λ (l : List Numbered). but l c.args.rowid) c.in_ok-push.ensures.rows
    ∙ but-pushed list n (above_all list c.args.self.now c.args.rowid c.self.view_is c.requires.above) in
    let P : List (Vec ℕ Global × Held) → Type 0 = λ x. AreNames list x in
    names_as list c.cut-in-Err.new.self c.insert.new.self.entries left (subst P (sym c.in-Err.ensures.err) c.self.invariant)

pub returns-clause-err : goal.returns-clause-err
returns-clause-err c =
    let list = c.self.inside.numbers in
    let n : Numbered = record { rowid = c.args.rowid; row = arc_value c.args.row } in
    c.cut-in-Err.ensures.rows ∙ ap (λ (l : List Numbered). but l c.args.rowid) c.in_ok-push.ensures.rows
    ∙ but-pushed list n (above_all list c.args.self.now c.args.rowid c.self.view_is c.requires.above) ∙ c.self.view_is
