use Rattle.std.proofs.Common.{Some, refl}
use Rattle.sw_hashpath.specs.BadNames.{bad_name}
use Rattle.sw_hashpath.specs.Paths.{hash_of}
use Rattle.sw_hashpath.specs.declared.name.Name.{Name}
use Rattle.sw_expiry.proofs.Telling.{HasParts, no-parts, none-found, not-bad, parts-good, parts-tell, some-found}
use Rattle.sw_expiry.proofs.due.read_entry.Goals as goal

pub returns-in_default-clause-due : goal.returns-in_default-clause-due
returns-in_default-clause-due c =
    none-found c.args.secrets.now c.args.entry.now (no-parts c.args.secrets.now c.args.entry.now c.in_default.ensures)

pub returns-in-Ok-clause-due : goal.returns-in-Ok-clause-due
returns-in-Ok-clause-due c =
    let p = c.in-Some.parts in
    let k = c.in-Some.ensures in
    let parts : HasParts c.args.entry.now p.delete_at p.account.now p.container.now p.object.now =
    record { is_time = k.0; account_slash = k.1; container_slash = k.2; is_entry = k.3 } in
    some-found c.args.secrets.now c.args.entry.now (record { delete_at = p.delete_at; name = c.in-Ok.name })
    (parts-tell c.args.secrets.now c.args.entry.now p.delete_at p.account.now p.container.now p.object.now c.in-Ok.name parts c.in-Ok.ensures.good
    c.in-Ok.ensures.name)

pub returns-in-Err-Bad-clause-due : goal.returns-in-Err-Bad-clause-due
returns-in-Err-Bad-clause-due c =
    let p = c.in-Some.parts in
    let k = c.in-Some.ensures in
    let parts : HasParts c.args.entry.now p.delete_at p.account.now p.container.now p.object.now =
    record { is_time = k.0; account_slash = k.1; container_slash = k.2; is_entry = k.3 } in
    none-found c.args.secrets.now c.args.entry.now (λ due tells.
    let good = parts-good c.args.secrets.now c.args.entry.now p.delete_at p.account.now p.container.now p.object.now parts due tells in
    let bad = rw c.in-Err-Bad.field-0-is at c.in-Err-Bad.ensures.bad in
    let found = (bad c.in-Err-Bad.field-0-0).0 refl in
    cc)

pub returns-in-Err-NoMemory-clause-memory : goal.returns-in-Err-NoMemory-clause-memory
returns-in-Err-NoMemory-clause-memory c =
    let p = c.in-Some.parts in
    let k = c.in-Some.ensures in
    let parts : HasParts c.args.entry.now p.delete_at p.account.now p.container.now p.object.now =
    record { is_time = k.0; account_slash = k.1; container_slash = k.2; is_entry = k.3 } in
    let good = not-bad (bad_name p.account.now (Some p.container.now) (Some p.object.now)) (rw c.in-Err-NoMemory.field-0-is at c.in-Err-NoMemory.ensures.bad) in
    let made : Name = record {
      account = p.account.now;
      container = p.container.now;
      object = p.object.now;
      hash = hash_of c.args.secrets.now p.account.now (Some p.container.now) (Some p.object.now);
    } in (
      record { delete_at = p.delete_at; name = made },
      parts-tell c.args.secrets.now c.args.entry.now p.delete_at p.account.now p.container.now p.object.now made parts good refl,
    )
