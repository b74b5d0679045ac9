-- Settling a doubt by a listing keeps a directory.
use Rattle.std.proofs.Common.{◌≡◌, ℕ, Bool, true, [], sym, ◌∙◌, ap, subst, inl, inr}
use Rattle.std.specs.Str.{bytes_eq}
use Rattle.sw_journal.specs.Settling.{SettlesFirst}
use Rattle.sw_object_steps.specs.Singles.{History, single_journal}
use Rattle.sw_object_steps.specs.Rules.{obj_rules}
use Rattle.sw_objdir.proofs.Journaling.{one-gone, one-kept, one-settles}
use Rattle.sw_objdir.specs.Directories.{IsDir, IsKept, Kept, held, history_of, is_told, steps_of, values_of}
use Rattle.sw_object_steps.specs.Journals.{Hash, Journal, written}
use Rattle.sw_object_steps.specs.Outlines.{outline_of}
use Rattle.sw_object_steps.specs.declared.outline.Outline.{Outline}
use Rattle.sw_step.specs.Steps.{OnlySettles}
use Rattle.sw_volume.specs.Tree.{Folders}

module _ {V : Type 0} (tells : V → Bool) (files : V → Folders) (faults : V → ℕ) (k : Kept V) (dir : IsDir tells files faults k) (hash : Hash)
    (o : Outline) (j : Journal) where
  abbrev h : History
  h = history_of tells files faults k

  pub only-settles : SettlesFirst hash o k.journal j
      → OnlySettles obj_rules (λ key. bytes_eq key hash) (steps_of tells files faults k) (steps_of tells files faults (record k { journal = j }))
  only-settles (inl none) = (0, ap single_journal none.1)
  only-settles (inr one) = one-settles h (values_of tells files faults k) dir.kept hash o j one

  pub none-left : SettlesFirst hash o k.journal j → written hash j.doubts ≡ []
  none-left (inl none) = ap (λ (x : Journal). written hash x.doubts) none.1 ∙ none.0
  none-left (inr one) = one-gone h (values_of tells files faults k) dir.kept hash o j one

  pub dir-settled : (is_told tells files faults k ≡ true → o ≡ outline_of (held tells files faults k hash)) → SettlesFirst hash o k.journal j
      → IsDir tells files faults (record k { journal = j })
  dir-settled seen settles = record {
    same = dir.same;
    order = dir.order;
    records_order = dir.records_order;
    kept = by settles;
    least = dir.least;
    greatest = dir.greatest;
  }
    where
      by : SettlesFirst hash o k.journal j → IsKept (history_of tells files faults (record k { journal = j })) (values_of tells files faults k)
      by (inl none) = subst (λ (x : Journal). IsKept (record h { journal = x }) (values_of tells files faults k)) (sym none.1) dir.kept
      by (inr one) = one-kept h (values_of tells files faults k) dir.kept hash o j one seen
