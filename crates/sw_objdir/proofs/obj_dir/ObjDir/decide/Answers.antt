use Rattle.std.proofs.Common.{◌≡◌, ℕ, true, false, List, [], refl, sym, ◌∙◌, ap, subst, inl, inr, None, Some, arith}
use Rattle.sw_cleanup.specs.Cleaning.{AreListedIn}
use Rattle.sw_hashdir.specs.Places.{dir_text, is_place}
use Rattle.sw_hashdir.specs.Readings.{IsSecondRead, expiry_file}
use Rattle.sw_hashdir.specs.Steps.{IsOurs}
use Rattle.sw_object_steps.specs.Outlines.{picked_outline}
use Rattle.sw_journal.specs.Settling.{SettlesFirst}
use Rattle.sw_objdir.proofs.Deciding.{called-refused, dir-still, listed-still, looked-so, outline-still}
use Rattle.sw_objdir.proofs.Deciding.{refusal-unentered, risen-after, second-now, settled-by, step-refused}
use Rattle.sw_objdir.proofs.Guessing.{seen-as}
use Rattle.sw_objdir.proofs.Looking.{all-values, looks-refl, looks-trans, step-after, step-unsettled, told-same}
use Rattle.sw_objdir.proofs.Reading.{damage-before, second-before}
use Rattle.sw_objdir.specs.Calling.{Looked, reads_of}
use Rattle.sw_objdir.specs.Directories.{IsDir, Kept, is_told}
use Rattle.sw_objdir.specs.Stepping.{IsSeenAs}
use Rattle.sw_step.specs.Rules.{Damages, Fails, Wants}
use Rattle.sw_outside.specs.Counts.{raised}
use Rattle.sw_object_steps.proofs.Answering.{refusals}
use Rattle.sw_volume.specs.Volume.{raised_by}
use Rattle.sw_object_steps.specs.Journals.{Journal, written}
use Rattle.sw_object_steps.specs.Steps.{asks_expiry, refusal_by}
use Rattle.sw_object_steps.specs.declared.answer.Answer.TheVariants as answers
use Rattle.sw_object_steps.specs.declared.outline.Outline.{Outline}
use Rattle.sw_volume.specs.Tree.{contents}
use Rattle.sw_objdir.proofs.obj_dir.ObjDir.decide.Goals as goal

pub returns-in_default-clause-made : goal.returns-in_default-clause-made
returns-in_default-clause-made g c =
    let v = g.V.Volume in
    let k = c.args.self.now in let name = c.args.name.now in let change = c.args.change.now in
    let dir : IsDir v.tells v.holds v.faults k = subst (λ (x : Kept _). IsDir v.tells v.holds v.faults x) c.self.view_is c.self.invariant in
    step-unsettled v.tells v.holds v.faults k k (λ hash. refl) name (looks-refl v.tells v.holds v.faults k) change answers.NoMemory Wants refl
    (record { not_made = refl; same = refl }) dir (λ is. cc) (λ is. cc)

pub returns-in-Err-Failed-clause-made : goal.returns-in-Err-Failed-clause-made
returns-in-Err-Failed-clause-made g c =
    let v = g.V.Volume in
    let k = c.args.self.now in let m = c.list.new.self in let name = c.args.name.now in let change = c.args.change.now in
    let dir : IsDir v.tells v.holds v.faults k = subst (λ (x : Kept _). IsDir v.tells v.holds v.faults x) c.self.view_is c.self.invariant in
    step-unsettled v.tells v.holds v.faults k m (all-values v.tells v.holds v.faults _ k m c.list.ensures.looks dir) name
    c.list.ensures.looks change answers.Failed Fails refl (record { not_made = refl; same = refl })
    c.list.ensures.dir (λ is. cc) (λ is. rw c.in-Err-Failed.field-0-is at c.in-Err-Failed.ensures.cause.risen)

pub returns-in-Err-NoMemory-clause-made : goal.returns-in-Err-NoMemory-clause-made
returns-in-Err-NoMemory-clause-made g c =
    let v = g.V.Volume in
    let k = c.args.self.now in let m = c.list.new.self in let name = c.args.name.now in let change = c.args.change.now in
    let dir : IsDir v.tells v.holds v.faults k = subst (λ (x : Kept _). IsDir v.tells v.holds v.faults x) c.self.view_is c.self.invariant in
    step-unsettled v.tells v.holds v.faults k m (all-values v.tells v.holds v.faults _ k m c.list.ensures.looks dir) name
    c.list.ensures.looks change answers.NoMemory Wants refl (record { not_made = refl; same = refl })
    c.list.ensures.dir (λ is. cc) (λ is. cc)

pub expiry-requires-clause-names : goal.expiry-requires-clause-names
expiry-requires-clause-names g c =
    let v = g.V.Volume in
    let k = c.args.self.now in let m = c.list.new.self in let name = c.args.name.now in let change = c.args.change.now in
    let dir : IsDir v.tells v.holds v.faults k = subst (λ (x : Kept _). IsDir v.tells v.holds v.faults x) c.self.view_is c.self.invariant in
    let path_is : c.in-Ok.dir.items ≡ dir_text k.power name.hash = c.in-Ok.ensures.text ∙ ap (λ (x : Kept _). dir_text x.power name.hash) c.self.view_is in
    let names : v.tells k.volume ≡ true → AreListedIn (contents (v.holds k.volume)) (dir_text k.power name.hash) c.in-Ok-list.seen.names.items =
    λ told. subst (λ (d : List ℕ). AreListedIn (contents (v.holds k.volume)) d c.in-Ok-list.seen.names.items) (c.deref.ensures.value ∙ path_is)
    (c.in-Ok-list.ensures.names told) in
    λ told. subst (λ (d : List ℕ). AreListedIn (contents (v.holds m.volume)) d c.in-Ok-list.seen.names.items) (sym (c.deref-2.ensures.value ∙ path_is))
    (listed-still v.tells v.holds v.faults v.calls v.lists k m c.list.ensures.looks (dir_text k.power name.hash) c.in-Ok-list.seen.names.items names told)

pub returns-in-Err-Damaged-clause-made : goal.returns-in-Err-Damaged-clause-made
returns-in-Err-Damaged-clause-made g c =
    let v = g.V.Volume in
    let k = c.args.self.now in let m = c.list.new.self in let name = c.args.name.now in let change = c.args.change.now in
    let dir : IsDir v.tells v.holds v.faults k = subst (λ (x : Kept _). IsDir v.tells v.holds v.faults x) c.self.view_is c.self.invariant in
    let n = c.expiry.new.self in let both = looks-trans v.tells v.holds v.faults k m n c.list.ensures.looks c.expiry.ensures.looks in
    let told : is_told v.tells v.holds v.faults n ≡ false = told-same v.tells v.holds v.faults k n both.same
    ∙ (sym (told-same v.tells v.holds v.faults k m c.list.ensures.looks.same) ∙ (rw c.in-Err-Damaged.field-0-is at c.in-Err-Damaged.ensures.damaged)) in
    let dir_n : IsDir v.tells v.holds v.faults n = dir-still v.tells v.holds v.faults v.calls v.lists m n c.list.ensures.dir c.expiry.ensures.looks
    c.expiry.ensures.journal in
    step-unsettled v.tells v.holds v.faults k n (all-values v.tells v.holds v.faults _ k n both dir) name both
    change _ Damages refl (record { not_made = refl; same = refl }) dir_n (λ is. told) (λ is. cc)

pub returns-in-Err-Damaged-clause-called : goal.returns-in-Err-Damaged-clause-called
returns-in-Err-Damaged-clause-called g c =
    let v = g.V.Volume in
    let k = c.args.self.now in let m = c.list.new.self in let name = c.args.name.now in let change = c.args.change.now in
    let dir : IsDir v.tells v.holds v.faults k = subst (λ (x : Kept _). IsDir v.tells v.holds v.faults x) c.self.view_is c.self.invariant in
    let path_is : c.in-Ok.dir.items ≡ dir_text k.power name.hash = c.in-Ok.ensures.text ∙ ap (λ (x : Kept _). dir_text x.power name.hash) c.self.view_is in
    let names : v.tells k.volume ≡ true → AreListedIn (contents (v.holds k.volume)) (dir_text k.power name.hash) c.in-Ok-list.seen.names.items =
    λ told. subst (λ (d : List ℕ). AreListedIn (contents (v.holds k.volume)) d c.in-Ok-list.seen.names.items) (c.deref.ensures.value ∙ path_is)
    (c.in-Ok-list.ensures.names told) in
    let n = c.expiry.new.self in let both = looks-trans v.tells v.holds v.faults k m n c.list.ensures.looks c.expiry.ensures.looks in
    let reads : reads_of c.in-Ok-list.seen.picked change ≡ 1 = c.in-Err-Damaged.ensures.asked in
    inl (record {
      seen = record {
        names = c.in-Ok-list.seen.names.items;
        picked = c.in-Ok-list.seen.picked;
        are = names;
        picks = c.in-Ok-list.ensures.picked;
        journal = m.journal;
        settles = subst (λ (x : Outline). SettlesFirst name.hash x k.journal m.journal) c.in-Ok-list.ensures.shape c.in-Ok-list.ensures.settles;
      };
      reads = reads;
      damaged = damage-before v.tells v.holds v.faults k m c.list.ensures.looks name.hash c.deref-2.result.now
          (dir_text k.power name.hash) (c.deref-2.ensures.value ∙ path_is) (expiry_file c.in-Ok-list.seen.picked) c.in-Err-Damaged.bad
          (rw c.in-Err-Damaged.field-0-is at c.in-Err-Damaged.ensures.damage);
      same = both.still;
      counts = record {
        called = c.expiry.ensures.calls
            ∙ (ap (λ (r : ℕ). raised_by r (v.calls m.volume)) reads ∙ ap raised c.list.ensures.calls);
        listed = c.expiry.ensures.lists
            ∙ c.list.ensures.lists;
        failed = (rw c.in-Err-Damaged.field-0-is at c.in-Err-Damaged.ensures.kept) ∙ c.in-Ok-list.ensures.cause.kept;
      };
      kept = c.expiry.ensures.journal;
    })

pub returns-in-Err-Failed-expiry-clause-made : goal.returns-in-Err-Failed-expiry-clause-made
returns-in-Err-Failed-expiry-clause-made g c =
    let v = g.V.Volume in
    let k = c.args.self.now in let m = c.list.new.self in let name = c.args.name.now in let change = c.args.change.now in
    let dir : IsDir v.tells v.holds v.faults k = subst (λ (x : Kept _). IsDir v.tells v.holds v.faults x) c.self.view_is c.self.invariant in
    let n = c.expiry.new.self in let both = looks-trans v.tells v.holds v.faults k m n c.list.ensures.looks c.expiry.ensures.looks in
    let dir_n : IsDir v.tells v.holds v.faults n = dir-still v.tells v.holds v.faults v.calls v.lists m n c.list.ensures.dir c.expiry.ensures.looks
    c.expiry.ensures.journal in
    step-unsettled v.tells v.holds v.faults k n (all-values v.tells v.holds v.faults _ k n both dir) name both
    change answers.Failed Fails refl (record { not_made = refl; same = refl }) dir_n (λ is. cc)
    (λ is. risen-after (v.faults k.volume) (v.faults m.volume) (v.faults n.volume) c.in-Ok-list.ensures.cause.kept
    (rw c.in-Err-Failed-expiry.field-0-is at c.in-Err-Failed-expiry.ensures.failed) c.expiry.ensures.looks.later)

pub returns-in-Err-Failed-expiry-clause-called : goal.returns-in-Err-Failed-expiry-clause-called
returns-in-Err-Failed-expiry-clause-called g c =
    let v = g.V.Volume in
    let k = c.args.self.now in let m = c.list.new.self in let name = c.args.name.now in let change = c.args.change.now in
    let dir : IsDir v.tells v.holds v.faults k = subst (λ (x : Kept _). IsDir v.tells v.holds v.faults x) c.self.view_is c.self.invariant in
    let path_is : c.in-Ok.dir.items ≡ dir_text k.power name.hash = c.in-Ok.ensures.text ∙ ap (λ (x : Kept _). dir_text x.power name.hash) c.self.view_is in
    let names : v.tells k.volume ≡ true → AreListedIn (contents (v.holds k.volume)) (dir_text k.power name.hash) c.in-Ok-list.seen.names.items =
    λ told. subst (λ (d : List ℕ). AreListedIn (contents (v.holds k.volume)) d c.in-Ok-list.seen.names.items) (c.deref.ensures.value ∙ path_is)
    (c.in-Ok-list.ensures.names told) in
    let n = c.expiry.new.self in let both = looks-trans v.tells v.holds v.faults k m n c.list.ensures.looks c.expiry.ensures.looks in
    let reads : reads_of c.in-Ok-list.seen.picked change ≡ 1 = c.in-Err-Failed-expiry.ensures.asked in
    inl (inr (record {
      seen = record {
        names = c.in-Ok-list.seen.names.items;
        picked = c.in-Ok-list.seen.picked;
        are = names;
        picks = c.in-Ok-list.ensures.picked;
        journal = m.journal;
        settles = subst (λ (x : Outline). SettlesFirst name.hash x k.journal m.journal) c.in-Ok-list.ensures.shape c.in-Ok-list.ensures.settles;
      };
      reads = reads;
      same = both.still;
      counts = record {
        called = c.expiry.ensures.calls ∙ (ap (λ (r : ℕ). raised_by r (v.calls m.volume)) reads ∙ ap raised c.list.ensures.calls);
        listed =
            c.expiry.ensures.lists ∙ c.list.ensures.lists;
        failed = (rw c.in-Err-Failed-expiry.field-0-is at c.in-Err-Failed-expiry.ensures.failed)
            ∙ ap raised c.in-Ok-list.ensures.cause.kept;
      };
      settled = ap (λ (j : Journal). written name.hash j.doubts) c.expiry.ensures.journal ∙ c.in-Ok-list.ensures.settled;
      kept = c.expiry.ensures.journal;
    }))

pub returns-in-Err-NoMemory-expiry-clause-made : goal.returns-in-Err-NoMemory-expiry-clause-made
returns-in-Err-NoMemory-expiry-clause-made g c =
    let v = g.V.Volume in
    let k = c.args.self.now in let m = c.list.new.self in let name = c.args.name.now in let change = c.args.change.now in
    let dir : IsDir v.tells v.holds v.faults k = subst (λ (x : Kept _). IsDir v.tells v.holds v.faults x) c.self.view_is c.self.invariant in
    let n = c.expiry.new.self in let both = looks-trans v.tells v.holds v.faults k m n c.list.ensures.looks c.expiry.ensures.looks in
    let dir_n : IsDir v.tells v.holds v.faults n = dir-still v.tells v.holds v.faults v.calls v.lists m n c.list.ensures.dir c.expiry.ensures.looks
    c.expiry.ensures.journal in
    step-unsettled v.tells v.holds v.faults k n (all-values v.tells v.holds v.faults _ k n both dir) name both
    change answers.NoMemory Wants refl (record { not_made = refl; same = refl }) dir_n
    (λ is. cc) (λ is. cc)

pub returns-in-Err-NoMemory-expiry-clause-called : goal.returns-in-Err-NoMemory-expiry-clause-called
returns-in-Err-NoMemory-expiry-clause-called g c =
    let v = g.V.Volume in
    let k = c.args.self.now in let m = c.list.new.self in let name = c.args.name.now in let change = c.args.change.now in
    let path_is : c.in-Ok.dir.items ≡ dir_text k.power name.hash = c.in-Ok.ensures.text ∙ ap (λ (x : Kept _). dir_text x.power name.hash) c.self.view_is in
    let names : v.tells k.volume ≡ true → AreListedIn (contents (v.holds k.volume)) (dir_text k.power name.hash) c.in-Ok-list.seen.names.items =
    λ told. subst (λ (d : List ℕ). AreListedIn (contents (v.holds k.volume)) d c.in-Ok-list.seen.names.items) (c.deref.ensures.value ∙ path_is)
    (c.in-Ok-list.ensures.names told) in
    let n = c.expiry.new.self in let both = looks-trans v.tells v.holds v.faults k m n c.list.ensures.looks c.expiry.ensures.looks in
    let reads : reads_of c.in-Ok-list.seen.picked change ≡ 1 = c.in-Err-NoMemory-expiry.ensures.asked in
    inl (record {
      same = both.still;
      failed = (rw c.in-Err-NoMemory-expiry.field-0-is at c.in-Err-NoMemory-expiry.ensures.kept) ∙ c.in-Ok-list.ensures.cause.kept;
      called = inr (
        1,
        omega arith,
        c.expiry.ensures.calls ∙ (ap (λ (r : ℕ). raised_by r (v.calls m.volume)) reads ∙ ap raised c.list.ensures.calls),
        c.expiry.ensures.lists ∙ c.list.ensures.lists,
      );
      journal = inr (
        record {
          names = c.in-Ok-list.seen.names.items;
          picked = c.in-Ok-list.seen.picked;
          are = names;
          picks = c.in-Ok-list.ensures.picked;
          journal = m.journal;
          settles = subst (λ (x : Outline). SettlesFirst name.hash x k.journal m.journal) c.in-Ok-list.ensures.shape c.in-Ok-list.ensures.settles;
        },
        c.expiry.ensures.journal,
      );
    })

pub returns-in-Some-clause-made : goal.returns-in-Some-clause-made
returns-in-Some-clause-made g c =
    let v = g.V.Volume in
    let k = c.args.self.now in let m = c.list.new.self in let name = c.args.name.now in let change = c.args.change.now in
    let dir : IsDir v.tells v.holds v.faults k = subst (λ (x : Kept _). IsDir v.tells v.holds v.faults x) c.self.view_is c.self.invariant in
    let n = c.expiry.new.self in let both = looks-trans v.tells v.holds v.faults k m n c.list.ensures.looks c.expiry.ensures.looks in
    let dir_n : IsDir v.tells v.holds v.faults n = dir-still v.tells v.holds v.faults v.calls v.lists m n c.list.ensures.dir c.expiry.ensures.looks
    c.expiry.ensures.journal in
    let settled : written name.hash n.journal.doubts ≡ [] = ap (λ (j : Journal). written name.hash j.doubts) c.expiry.ensures.journal
    ∙ c.in-Ok-list.ensures.settled in
    let o = c.in-Ok-list.seen.outline in
    let fact : refusal_by o c.in-Ok-expiry.expiry change ≡ Some c.in-Some.refused = sym c.refusal.ensures ∙ c.in-Some.is in
    let is = refusals o c.in-Ok-expiry.expiry change c.in-Some.refused fact in
    let seen : IsSeenAs v.tells v.holds v.faults n name.hash o change (Some c.in-Some.refused) =
    seen-as v.tells v.holds v.faults n name.hash c.in-Ok-list.seen.names.items c.in-Ok-list.seen.picked o c.in-Ok-expiry.expiry change (Some c.in-Some.refused)
    c.in-Ok-list.ensures.picked c.in-Ok-list.ensures.shape c.in-Ok-expiry.ensures.said
    (outline-still v.tells v.holds v.faults v.calls v.lists k n dir both name.hash o c.in-Ok-list.ensures.outline)
    (second-now v.tells v.holds v.faults v.calls v.lists m n c.list.ensures.dir c.expiry.ensures.looks name.hash o (asks_expiry o change)
    c.in-Ok-expiry.expiry c.in-Ok-expiry.ensures.second) fact in
    step-after v.tells v.holds v.faults k n (all-values v.tells v.holds v.faults _ k n both dir) name both
    change c.in-Some.refused n
    (step-refused v.tells v.holds v.faults v.calls v.lists n dir_n name settled o change c.requires.writes c.in-Some.refused is seen)

pub returns-in-Some-clause-called : goal.returns-in-Some-clause-called
returns-in-Some-clause-called g c =
    let v = g.V.Volume in
    let k = c.args.self.now in let m = c.list.new.self in let name = c.args.name.now in let change = c.args.change.now in
    let dir : IsDir v.tells v.holds v.faults k = subst (λ (x : Kept _). IsDir v.tells v.holds v.faults x) c.self.view_is c.self.invariant in
    let path_is : c.in-Ok.dir.items ≡ dir_text k.power name.hash = c.in-Ok.ensures.text ∙ ap (λ (x : Kept _). dir_text x.power name.hash) c.self.view_is in
    let names : v.tells k.volume ≡ true → AreListedIn (contents (v.holds k.volume)) (dir_text k.power name.hash) c.in-Ok-list.seen.names.items =
    λ told. subst (λ (d : List ℕ). AreListedIn (contents (v.holds k.volume)) d c.in-Ok-list.seen.names.items) (c.deref.ensures.value ∙ path_is)
    (c.in-Ok-list.ensures.names told) in
    let n = c.expiry.new.self in let both = looks-trans v.tells v.holds v.faults k m n c.list.ensures.looks c.expiry.ensures.looks in
    let dir_n : IsDir v.tells v.holds v.faults n = dir-still v.tells v.holds v.faults v.calls v.lists m n c.list.ensures.dir c.expiry.ensures.looks
    c.expiry.ensures.journal in
    let settled : written name.hash n.journal.doubts ≡ [] = ap (λ (j : Journal). written name.hash j.doubts) c.expiry.ensures.journal
    ∙ c.in-Ok-list.ensures.settled in
    let o = c.in-Ok-list.seen.outline in
    let fact : refusal_by c.in-Ok-list.seen.outline c.in-Ok-expiry.expiry change ≡ Some c.in-Some.refused = sym c.refusal.ensures ∙ c.in-Some.is in
    let read = second-before v.tells v.holds v.faults k m c.list.ensures.looks name.hash c.deref-2.result.now (dir_text k.power name.hash)
    (c.deref-2.ensures.value ∙ path_is) c.in-Ok-list.seen.picked c.in-Ok-expiry.expiry (asks_expiry (picked_outline c.in-Ok-list.seen.picked) change ≡ true)
    (subst (λ (x : Outline). v.tells m.volume ≡ true → asks_expiry x change ≡ true → IsSecondRead m.secrets name.hash (v.holds m.volume)
    c.deref-2.result.now c.in-Ok-list.seen.picked c.in-Ok-expiry.expiry) c.in-Ok-list.ensures.shape c.in-Ok-expiry.ensures.read) in
    let looked : Looked v.tells v.holds v.faults v.calls v.lists k name change (Some c.in-Some.refused) n =
    looked-so v.tells v.holds v.faults v.calls v.lists k m n name change c.in-Ok-list.seen.names.items c.in-Ok-list.seen.picked names
    c.in-Ok-list.ensures.picked c.list.ensures.looks c.expiry.ensures.looks
    c.list.ensures.calls c.list.ensures.lists c.in-Ok-list.ensures.cause.kept c.expiry.ensures.calls c.expiry.ensures.lists c.in-Ok-expiry.ensures.kept
    (subst (λ (x : Outline). SettlesFirst name.hash x k.journal m.journal) c.in-Ok-list.ensures.shape c.in-Ok-list.ensures.settles) c.expiry.ensures.journal
    (Some c.in-Some.refused) c.in-Ok-expiry.expiry read
    (ap (λ (x : Outline). refusal_by x c.in-Ok-expiry.expiry change) (sym c.in-Ok-list.ensures.shape) ∙ fact) in
    let is = refusals o c.in-Ok-expiry.expiry change c.in-Some.refused fact in
    called-refused v.tells v.holds v.faults v.calls v.lists k n name change c.in-Some.refused is looked

pub returns-clause-planned : goal.returns-clause-planned
returns-clause-planned g c =
    let v = g.V.Volume in
    let k = c.args.self.now in let m = c.list.new.self in let name = c.args.name.now in let change = c.args.change.now in
    let dir : IsDir v.tells v.holds v.faults k = subst (λ (x : Kept _). IsDir v.tells v.holds v.faults x) c.self.view_is c.self.invariant in
    let path_is : c.in-Ok.dir.items ≡ dir_text k.power name.hash = c.in-Ok.ensures.text ∙ ap (λ (x : Kept _). dir_text x.power name.hash) c.self.view_is in
    let names : v.tells k.volume ≡ true → AreListedIn (contents (v.holds k.volume)) (dir_text k.power name.hash) c.in-Ok-list.seen.names.items =
    λ told. subst (λ (d : List ℕ). AreListedIn (contents (v.holds k.volume)) d c.in-Ok-list.seen.names.items) (c.deref.ensures.value ∙ path_is)
    (c.in-Ok-list.ensures.names told) in
    let n = c.expiry.new.self in let both = looks-trans v.tells v.holds v.faults k m n c.list.ensures.looks c.expiry.ensures.looks in
    let settled : written name.hash n.journal.doubts ≡ [] = ap (λ (j : Journal). written name.hash j.doubts) c.expiry.ensures.journal
    ∙ c.in-Ok-list.ensures.settled in
    let o = c.in-Ok-list.seen.outline in
    let fact : refusal_by o c.in-Ok-expiry.expiry change ≡ None = sym c.refusal.ensures ∙ c.in_default-refusal.is in
    let read = second-before v.tells v.holds v.faults k m c.list.ensures.looks name.hash c.deref-2.result.now (dir_text k.power name.hash)
    (c.deref-2.ensures.value ∙ path_is) c.in-Ok-list.seen.picked c.in-Ok-expiry.expiry (asks_expiry (picked_outline c.in-Ok-list.seen.picked) change ≡ true)
    (subst (λ (x : Outline). v.tells m.volume ≡ true → asks_expiry x change ≡ true → IsSecondRead m.secrets name.hash (v.holds m.volume)
    c.deref-2.result.now c.in-Ok-list.seen.picked c.in-Ok-expiry.expiry) c.in-Ok-list.ensures.shape c.in-Ok-expiry.ensures.read) in
    let ours : IsOurs k.secrets k.power name = record {
      place = subst (λ (x : Kept _). is_place x.power name.hash ≡ true) c.self.view_is c.in-Ok.ensures.place;
      hashed = c.requires.hashed.hashed;
      good = c.requires.hashed.good;
    } in
    record {
      looks = both;
      values = all-values v.tells v.holds v.faults _ k n both dir;
      settled = settled;
      ours = rw (both.same.secrets, both.same.power) ours;
      dir = path_is ∙ ap (λ (p : ℕ). dir_text p name.hash) (sym both.same.power);
      names = λ told. subst (λ (d : List ℕ). AreListedIn (contents (v.holds n.volume)) d c.in-Ok-list.seen.names.items) (sym path_is)
          (listed-still v.tells v.holds v.faults v.calls v.lists k n both (dir_text k.power name.hash) c.in-Ok-list.seen.names.items names told);
      stood = seen-as v.tells v.holds v.faults n name.hash c.in-Ok-list.seen.names.items c.in-Ok-list.seen.picked o c.in-Ok-expiry.expiry change None
          c.in-Ok-list.ensures.picked c.in-Ok-list.ensures.shape c.in-Ok-expiry.ensures.said
          (outline-still v.tells v.holds v.faults v.calls v.lists k n dir both name.hash o c.in-Ok-list.ensures.outline)
          (second-now v.tells v.holds v.faults v.calls v.lists m n c.list.ensures.dir c.expiry.ensures.looks name.hash o (asks_expiry o change)
          c.in-Ok-expiry.expiry c.in-Ok-expiry.ensures.second) fact;
      looked = looked-so v.tells v.holds v.faults v.calls v.lists k m n name change c.in-Ok-list.seen.names.items c.in-Ok-list.seen.picked names
          c.in-Ok-list.ensures.picked c.list.ensures.looks c.expiry.ensures.looks
          c.list.ensures.calls c.list.ensures.lists c.in-Ok-list.ensures.cause.kept c.expiry.ensures.calls c.expiry.ensures.lists c.in-Ok-expiry.ensures.kept
          (subst (λ (x : Outline). SettlesFirst name.hash x k.journal m.journal) c.in-Ok-list.ensures.shape c.in-Ok-list.ensures.settles)
          c.expiry.ensures.journal
          None c.in-Ok-expiry.expiry read
          (ap (λ (x : Outline). refusal_by x c.in-Ok-expiry.expiry change) (sym c.in-Ok-list.ensures.shape) ∙ fact);
      names_are = refl;
      shape = c.in-Ok-list.ensures.shape;
    }

pub returns-in-Err-NoMemory-clause-called : goal.returns-in-Err-NoMemory-clause-called
returns-in-Err-NoMemory-clause-called g c = inl (record {
  same = c.list.ensures.looks.still;
  failed = (rw c.in-Err-NoMemory.field-0-is at c.in-Err-NoMemory.ensures.cause).memory;
  called = inr (0, omega arith, c.list.ensures.calls, c.list.ensures.lists);
  journal = inl c.in-Err-NoMemory.ensures.unsettled;
})

pub returns-in-Err-Failed-clause-settles : goal.returns-in-Err-Failed-clause-settles
returns-in-Err-Failed-clause-settles g c = inl c.in-Err-Failed.ensures.unsettled

pub returns-in-Err-NoMemory-clause-settles : goal.returns-in-Err-NoMemory-clause-settles
returns-in-Err-NoMemory-clause-settles g c = inl c.in-Err-NoMemory.ensures.unsettled

pub returns-in-Err-Damaged-clause-settles : goal.returns-in-Err-Damaged-clause-settles
returns-in-Err-Damaged-clause-settles g c =
    settled-by _ c.args.name.now.hash c.in-Ok-list.seen.outline c.in-Ok-list.ensures.settles c.expiry.ensures.journal

pub returns-in-Err-Failed-expiry-clause-settles : goal.returns-in-Err-Failed-expiry-clause-settles
returns-in-Err-Failed-expiry-clause-settles g c =
    settled-by _ c.args.name.now.hash c.in-Ok-list.seen.outline c.in-Ok-list.ensures.settles c.expiry.ensures.journal

pub returns-in-Err-NoMemory-expiry-clause-settles : goal.returns-in-Err-NoMemory-expiry-clause-settles
returns-in-Err-NoMemory-expiry-clause-settles g c =
    settled-by _ c.args.name.now.hash c.in-Ok-list.seen.outline c.in-Ok-list.ensures.settles c.expiry.ensures.journal

pub returns-in-Some-clause-settles : goal.returns-in-Some-clause-settles
returns-in-Some-clause-settles g c =
    settled-by _ c.args.name.now.hash c.in-Ok-list.seen.outline c.in-Ok-list.ensures.settles c.expiry.ensures.journal

pub returns-clause-settles : goal.returns-clause-settles
returns-clause-settles g c =
    settled-by _ c.args.name.now.hash c.in-Ok-list.seen.outline c.in-Ok-list.ensures.settles c.expiry.ensures.journal

pub returns-in-Some-clause-unmade : goal.returns-in-Some-clause-unmade
returns-in-Some-clause-unmade g c =
    refusal-unentered c.in-Some.refused
    (refusals c.in-Ok-list.seen.outline c.in-Ok-expiry.expiry c.args.change.now c.in-Some.refused (sym c.refusal.ensures ∙ c.in-Some.is))

pub returns-in_default-clause-dir : goal.returns-in_default-clause-dir
returns-in_default-clause-dir g c =
    let v = g.V.Volume in subst (λ (x : Kept _). IsDir v.tells v.holds v.faults x) c.self.view_is c.self.invariant

pub returns-in-Err-Failed-clause-dir : goal.returns-in-Err-Failed-clause-dir
returns-in-Err-Failed-clause-dir g c = c.list.ensures.dir

pub returns-in-Err-NoMemory-clause-dir : goal.returns-in-Err-NoMemory-clause-dir
returns-in-Err-NoMemory-clause-dir g c = c.list.ensures.dir

pub returns-in-Err-Damaged-clause-dir : goal.returns-in-Err-Damaged-clause-dir
returns-in-Err-Damaged-clause-dir g c =
    let v = g.V.Volume in
    dir-still v.tells v.holds v.faults v.calls v.lists c.list.new.self c.expiry.new.self c.list.ensures.dir c.expiry.ensures.looks c.expiry.ensures.journal

pub returns-in-Err-Failed-expiry-clause-dir : goal.returns-in-Err-Failed-expiry-clause-dir
returns-in-Err-Failed-expiry-clause-dir g c =
    let v = g.V.Volume in
    dir-still v.tells v.holds v.faults v.calls v.lists c.list.new.self c.expiry.new.self c.list.ensures.dir c.expiry.ensures.looks c.expiry.ensures.journal

pub returns-in-Err-NoMemory-expiry-clause-dir : goal.returns-in-Err-NoMemory-expiry-clause-dir
returns-in-Err-NoMemory-expiry-clause-dir g c =
    let v = g.V.Volume in
    dir-still v.tells v.holds v.faults v.calls v.lists c.list.new.self c.expiry.new.self c.list.ensures.dir c.expiry.ensures.looks c.expiry.ensures.journal

pub returns-in-Some-clause-dir : goal.returns-in-Some-clause-dir
returns-in-Some-clause-dir g c =
    let v = g.V.Volume in
    dir-still v.tells v.holds v.faults v.calls v.lists c.list.new.self c.expiry.new.self c.list.ensures.dir c.expiry.ensures.looks c.expiry.ensures.journal

pub returns-clause-dir : goal.returns-clause-dir
returns-clause-dir g c =
    let v = g.V.Volume in
    dir-still v.tells v.holds v.faults v.calls v.lists c.list.new.self c.expiry.new.self c.list.ensures.dir c.expiry.ensures.looks c.expiry.ensures.journal
