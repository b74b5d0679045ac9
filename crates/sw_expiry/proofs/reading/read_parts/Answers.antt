use Rattle.std.proofs.Common.{◌≡◌, ◌∙◌, ◌++◌, ◌∷◌, List, ℕ, ap, subst, sym, false}
use Rattle.sw_hashpath.specs.BadNames.{has_slash}
use Rattle.sw_expiry.specs.TenDigits.{ten_digits}
use Rattle.sw_expiry.proofs.Entries.{entry-parts, same-path}
use Rattle.sw_expiry.proofs.Nones.{none-so}
use Rattle.sw_expiry.proofs.Slashes.{cut-once, has-slash}
use Rattle.sw_expiry.proofs.reading.read_parts.Goals as goal

pub returns-in_err-delete_at : goal.returns-in_err-delete_at
returns-in_err-delete_at c = none-so _ _ _ c.from_residual.ensures (λ t a c' o small none_a none_c same.
    c.in_err-delete_at.ensures t (a ++ 47 ∷ (c' ++ 47 ∷ o)) small (same ∙ entry-parts t a c' o))

pub returns-in_err-account : goal.returns-in_err-account
returns-in_err-account c = none-so _ _ _ c.from_residual-in_err-account.ensures (λ t a c' o small none_a none_c same.
    let time = c.in_ok-delete_at.ensures in
    let path = same-path c.in_ok-delete_at.delete_at t c.in_ok-delete_at.path.now a c' o time.0 small (sym time.1 ∙ same) in
    has-slash a (c' ++ 47 ∷ o) (subst (λ (x : List ℕ). has_slash x ≡ false) path c.in_err-account.ensures))

pub returns-in_err-container : goal.returns-in_err-container
returns-in_err-container c = none-so _ _ _ c.from_residual-in_err-container.ensures (λ t a c' o small none_a none_c same.
    let time = c.in_ok-delete_at.ensures in
    let account = c.in_ok-account.ensures in
    let path = same-path c.in_ok-delete_at.delete_at t c.in_ok-delete_at.path.now a c' o time.0 small (sym time.1 ∙ same) in
    let rest = cut-once c.in_ok-account.account.now a c.in_ok-account.rest.now (c' ++ 47 ∷ o) account.0 none_a (sym account.1 ∙ path) in
    has-slash c' o (subst (λ (x : List ℕ). has_slash x ≡ false) rest.1 c.in_err-container.ensures))

pub returns : goal.returns
returns c =
    let time = c.in_ok-delete_at.ensures in
    let account = c.in_ok-account.ensures in
    let container = c.in_ok-container.ensures in (
      time.0,
      account.0,
      container.0,
      time.1 ∙ ap (λ (x : List ℕ). ten_digits c.in_ok-delete_at.delete_at ++ 45 ∷ x)
          (account.1 ∙ ap (λ (x : List ℕ). c.in_ok-account.account.now ++ 47 ∷ x) container.1) ∙ sym (entry-parts _ _ _ _),
    )
