-- What became of a record from one history of its lock to a later one.
use Rattle.std.proofs.Common.{◌≡◌, ℕ, true, ◌||◌, List, ◌++◌, ◌⊎◌, inl, inr, sym, ◌∙◌, ap, subst}
use Rattle.std.proofs.lemmas.Bool.{or_left, or_right}
use Rattle.std.proofs.lemmas.List.{append_cancel_left}
use Rattle.std.proofs.lemmas.List.Elements.{filter-append}
use Rattle.std.proofs.lemmas.List.Folds.{list_any-append}
use Rattle.std.specs.List.{fold, list_any}
use Rattle.sw_history.specs.Halves.{GrowsOf}
use Rattle.sw_object_steps.proofs.Ruling.{are-rules}
use Rattle.sw_object_steps.specs.Rules.{ObjHistory, obj_applied, obj_rules}
use Rattle.sw_object_steps.specs.Values.{ObjValue}
use Rattle.sw_object_steps.specs.declared.entry.ObjEntry.{ObjEntry}
use Rattle.sw_pending.specs.declared.key.RecordKey.{RecordKey}
use Rattle.sw_step.proofs.Keeping.{stand-more}
use Rattle.sw_step.specs.Rules.{about, stands}
use Rattle.sw_updater.proofs.Standing.{LeadAll, Stands, all-lead, any-unmarks-append}
use Rattle.sw_updater.specs.Laws.{any_unmarks, ends}

module _ (key : RecordKey) where
  -- an entry ended it, or a mark took a device back
  abbrev pub IsOver : ObjHistory → List ObjEntry → Type 0
  IsOver h more =
      (list_any (ends key) (about obj_rules key.hash more) ≡ true) ⊎ (any_unmarks key (stands obj_rules h key.hash) (about obj_rules key.hash more) ≡ true)

  -- by the entries it stands, with at least these devices done
  abbrev pub StandsAt : (ℕ → Type 0) → ObjHistory → Type 0
  StandsAt P g = Stands P key ((stands obj_rules g key.hash).records key)

  -- or else this
  abbrev pub Since : ObjHistory → List ObjEntry → Type 0 → Type 0
  Since h more X = IsOver h more ⊎ X

  module _ (h g : ObjHistory) (p : GrowsOf h g) where
    stood : stands obj_rules g key.hash ≡ fold obj_applied (stands obj_rules h key.hash) (about obj_rules key.hash p.entries.0)
    stood = stand-more obj_rules are-rules h g key.hash p.entries.0 p.opening p.entries.1

    -- whatever came
    pub since-grows : (P : ℕ → Type 0) → StandsAt P h → Since h p.entries.0 (StandsAt P g)
    since-grows P s = by (all-lead P key (stands obj_rules h key.hash) (about obj_rules key.hash p.entries.0) s)
      where
        by : LeadAll P key (stands obj_rules h key.hash) (about obj_rules key.hash p.entries.0) → Since h p.entries.0 (StandsAt P g)
        by (inl is) = inl (inl is)
        by (inr (inl is)) = inl (inr is)
        by (inr (inr stands)) = inr (subst (λ (v : ObjValue). Stands P key (v.records key)) (sym stood) stands)

    module _ (more : List ObjEntry) where
      both : about obj_rules key.hash (p.entries.0 ++ more) ≡ about obj_rules key.hash p.entries.0 ++ about obj_rules key.hash more
      both = filter-append (λ (e : ObjEntry). obj_rules.is_key (obj_rules.key_of e) key.hash) p.entries.0 more

      both-end : list_any (ends key) (about obj_rules key.hash (p.entries.0 ++ more))
          ≡ (list_any (ends key) (about obj_rules key.hash p.entries.0) || list_any (ends key) (about obj_rules key.hash more))
      both-end = ap (list_any (ends key)) both ∙ list_any-append (ends key) (about obj_rules key.hash p.entries.0) (about obj_rules key.hash more)

      both-unmark : any_unmarks key (stands obj_rules h key.hash) (about obj_rules key.hash (p.entries.0 ++ more))
          ≡ (any_unmarks key (stands obj_rules h key.hash) (about obj_rules key.hash p.entries.0)
          || any_unmarks key (stands obj_rules g key.hash) (about obj_rules key.hash more))
      both-unmark =
          ap (any_unmarks key (stands obj_rules h key.hash)) both
          ∙ (any-unmarks-append key (stands obj_rules h key.hash) (about obj_rules key.hash p.entries.0) (about obj_rules key.hash more)
          ∙ ap (λ (v : ObjValue). any_unmarks key (stands obj_rules h key.hash) (about obj_rules key.hash p.entries.0)
          || any_unmarks key v (about obj_rules key.hash more)) (sym stood))

      over-before : IsOver h p.entries.0 → IsOver h (p.entries.0 ++ more)
      over-before (inl is) = inl (both-end
          ∙ or_left (list_any (ends key) (about obj_rules key.hash p.entries.0)) (list_any (ends key) (about obj_rules key.hash more)) is)
      over-before (inr is) = inr (both-unmark
          ∙ or_left (any_unmarks key (stands obj_rules h key.hash) (about obj_rules key.hash p.entries.0))
          (any_unmarks key (stands obj_rules g key.hash) (about obj_rules key.hash more)) is)

      over-behind : IsOver g more → IsOver h (p.entries.0 ++ more)
      over-behind (inl is) = inl (both-end
          ∙ or_right (list_any (ends key) (about obj_rules key.hash p.entries.0)) (list_any (ends key) (about obj_rules key.hash more)) is)
      over-behind (inr is) = inr (both-unmark
          ∙ or_right (any_unmarks key (stands obj_rules h key.hash) (about obj_rules key.hash p.entries.0))
          (any_unmarks key (stands obj_rules g key.hash) (about obj_rules key.hash more)) is)

      -- first, and then
      pub since-on : (X Y : Type 0) → Since h p.entries.0 X → (X → Since g more Y) → Since h (p.entries.0 ++ more) Y
      since-on X Y (inl over) next = inl (over-before over)
      since-on X Y (inr x) next = by (next x)
        where
          by : Since g more Y → Since h (p.entries.0 ++ more) Y
          by (inl over) = inl (over-behind over)
          by (inr y) = inr y

  -- the entries that came are these, however that is known
  pub since-same : (h g : ObjHistory) (one other : List ObjEntry) (X : Type 0) → g.journal.entries ≡ h.journal.entries ++ one
      → g.journal.entries ≡ h.journal.entries ++ other → Since h one X → Since h other X
  since-same h g one other X is also =
      subst (λ (more : List ObjEntry). Since h more X) (append_cancel_left h.journal.entries one other (sym is ∙ also))
