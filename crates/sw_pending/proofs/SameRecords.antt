-- A record is what its plain form says: the proofs that its type has make no difference.
use Rattle.std.proofs.Common.{◌≡◌, Bool, true, false, refl, sym, ap, subst, ◌∙◌, Some, Ok}
use Rattle.std.proofs.Math.Bool.{Bool-set}
use Rattle.sw_pending.specs.Decoding.{decoded_from, record_if}
use Rattle.sw_pending.specs.Reading.{Plain, plain}
use Rattle.sw_pending.specs.Rules.{are_in_order, is_queue_right}
use Rattle.sw_pending.specs.declared.filed.Filed.{Filed}

abbrev pub record_with : (p : Plain) → is_queue_right p.queue p.name.account ≡ true → are_in_order p.done ≡ true → Filed
record_with p right order = record { name = p.name; time = p.time; queue = p.queue; done = p.done; queue_right = right; in_order = order }

same_proofs : (p : Plain) (right other : is_queue_right p.queue p.name.account ≡ true) (order another : are_in_order p.done ≡ true)
    → record_with p right order ≡ record_with p other another
same_proofs p right other order another =
    ap (λ (r : is_queue_right p.queue p.name.account ≡ true). record_with p r order) (Bool-set (is_queue_right p.queue p.name.account) true right other)
    ∙ ap (λ (o : are_in_order p.done ≡ true). record_with p other o) (Bool-set (are_in_order p.done) true order another)

pub same_records : (f g : Filed) → plain f ≡ plain g → f ≡ g
same_records f g same =
    let P : Plain → Type 0 = λ p. (right : is_queue_right p.queue p.name.account ≡ true) (order : are_in_order p.done ≡ true) → f ≡ record_with p right order in
    subst P same (λ right order. same_proofs (plain f) f.queue_right right f.in_order order) g.queue_right g.in_order

pub same_parts : (f g : Filed) → f.name ≡ g.name → f.time ≡ g.time → f.queue ≡ g.queue → f.done ≡ g.done → f ≡ g
same_parts f g name time queue done = same_records f g (rw (name, time, queue, done) refl)

-- with its proofs at hand, the plain form is the record
if_again : (p : Plain) (right : is_queue_right p.queue p.name.account ≡ true) (order : are_in_order p.done ≡ true) (a b : Bool)
    (e : is_queue_right p.queue p.name.account ≡ a) (f : are_in_order p.done ≡ b) → record_if p a b e f ≡ Some (record_with p right order)
if_again p right order true true e f = ap (λ (r : Filed). Some r) (same_proofs p e right f order)
if_again p right order true false e f = absurd (let no = sym f ∙ order in cc)
if_again p right order false b e f = absurd (let no = sym e ∙ right in cc)

pub decoded_plain : (f : Filed) → decoded_from (Ok (plain f)) ≡ Ok f
decoded_plain f = rw (if_again (plain f) f.queue_right f.in_order (is_queue_right f.queue f.name.account) (are_in_order f.done) refl refl) refl
