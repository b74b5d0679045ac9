-- Why an update isn't done.
use Rattle.std.proofs.Common.{◌≡◌, ◌≢◌, ◌≤◌, ℕ, true, false, List, [], ◌∷◌, ap, inl, inr, refl, subst, sym, ◌∙◌, ◌⊎◌, arith, Result, Ok, Err}
use Rattle.std.proofs.lemmas.Bool.{eqb-true}
use Rattle.std.specs.Prelude.{◌==◌}
use Rattle.sw_object_steps.specs.declared.dir_fault.DirFault.{DirFault}
use Rattle.sw_outside.specs.Faults.{HasRisen}
use Rattle.sw_pass.proofs.Counts.{HasCause}
use Rattle.sw_pass.specs.Outcomes.{fault_hindrance, finished, nothing_yet}
use Rattle.sw_pass.specs.Turns.{InTurn}
use Rattle.sw_pass.specs.declared.outcome.Outcome.{Outcome}
use Rattle.sw_peer.specs.Sights.{Sight}
use Rattle.sw_peer.specs.declared.link.Link.TheVariants.{Local}
use Rattle.sw_pending.specs.declared.filed.Filed.{Filed}
use Rattle.sw_ring.specs.declared.ring.Ring.{Ring}
use Rattle.sw_updater.proofs.Calling.{records-moves}
use Rattle.sw_updater.proofs.Passing.{Passes, apart, passes-hindered, passes-left, passes-same, passes-trans}
use Rattle.sw_updater.proofs.Told.{settled}
use Rattle.sw_updater.specs.Causes.{HasCauses}
use Rattle.sw_updater.specs.Reading.{AreRead}
use Rattle.sw_updater.specs.Updating.{IsGoneOver, IsUpdated}

read-faults : (device : ℕ) (stripes : List ℕ) (s : Sight) (got : Result (List Filed) DirFault) (t : Sight) → AreRead device stripes s got t
    → s.faults ≤ t.faults
read-faults device [] s got t is = let same : t.faults ≡ s.faults = ap (λ (x : Sight). x.faults) is.0 in omega (arith, same)
read-faults device (stripe ∷ stripes) s got t (inl read) =
    let one = (records-moves Local device stripe s (Ok (Ok read.0)) read.1 read.3).faults in
    let later = read-faults device stripes read.1 read.2 t read.4 in
    omega (arith, one, later)
read-faults device (stripe ∷ stripes) s got t (inr failed) = (records-moves Local device stripe s (Ok (Err failed.0)) t failed.1).faults

module _ (ring : Ring) (device : ℕ) where
  updated : (filed : Filed) (s : Sight) (o : Outcome) (t : Sight) (p : Outcome) → IsUpdated ring device filed s o t p true → Passes s o t p
  updated filed s o t p (inl is) =
      let d = is.2 in
      subst (λ (x : Sight). Passes s o x p) (sym is.7)
      (subst (λ (x : Outcome). Passes s o d.sight x) (sym is.8) (passes-left s o d is.3 (settled device filed ring is.0 is.1 s o d is.3 is.6)))
  updated filed s o t p (inr wants) = absurd (apart wants.2)

  each-updated : (records : List Filed) (s : Sight) (o : Outcome) (t : Sight) (p : Outcome) → InTurn (IsUpdated ring device) records s o t p true
      → Passes s o t p
  each-updated [] s o t p is =
      let same : t.faults ≡ s.faults = ap (λ (x : Sight). x.faults) is.0 in
      passes-same s o t p (omega (arith, same)) is.1
  each-updated (filed ∷ records) s o t p (inl went) =
      passes-trans s o went.0 went.1 t p (updated filed s o went.0 went.1 went.2) (each-updated records went.0 went.1 t p went.3)
  each-updated (filed ∷ records) s o t p (inr stopped) = absurd (apart stopped.1)

  gone-over : (got : Result (List Filed) DirFault) (s t : Sight) (p : Outcome) → IsGoneOver ring device got s t p true → Passes s nothing_yet t p
  gone-over (Ok records) s t p (inl is) = each-updated is.0 s nothing_yet t p is.2
  gone-over (Ok records) s t p (inr wants) = absurd (apart wants.2)
  gone-over (Err fault) s t p is =
      subst (λ (x : Sight). Passes s nothing_yet x p) (sym is.0) (passes-hindered (fault_hindrance fault) s nothing_yet p true is.1)

  pub update-causes : (stripes : List ℕ) (s : Sight) (got : Result (List Filed) DirFault) (mid t : Sight) (p o : Outcome) → AreRead device stripes s got mid
      → IsGoneOver ring device got mid t p true → o ≡ finished p → HasCauses s t o
  update-causes stripes s got mid t p o read is same = subst (λ (x : Outcome). HasCauses s t x) (sym same) (record {
    asked = passes.asked;
    done = λ done. eqb-true p.left 0 done;
    lost = λ some. losses some passes.counts.lost;
    hindered = λ undone. causes undone passes.counts.left;
  })
    where
      passes : Passes s nothing_yet t p
      passes = passes-trans s nothing_yet mid nothing_yet t p (passes-same s nothing_yet mid nothing_yet (read-faults device stripes s got mid read) refl)
          (gone-over got mid t p is)

      losses : p.lost ≢ 0 → (p.lost ≡ 0) ⊎ HasRisen s.faults t.faults → HasRisen s.faults t.faults
      losses some (inl none) = absurd (some none)
      losses some (inr risen) = risen

      causes : (p.left == 0) ≡ false → (p.left ≡ 0) ⊎ HasCause p → HasCause p
      causes undone (inl nothing) = absurd (apart (sym (ap (λ (n : ℕ). n == 0) nothing) ∙ undone))
      causes undone (inr cause) = cause
