-- The lines that reads of containers leave, where the door keeps its trail: they tell what was answered, and what is told behind it.
use Rattle.std.proofs.Common.{◌≡◌, ℕ, Bool, true, List, [], ◌∷◌, ◌++◌, append-nil, append_assoc, Option, Some, refl, sym, ap, ◌∙◌, subst, ◌⊎◌, inl, inr}
use Rattle.std.proofs.Common.{Result, Ok, Err}
use Rattle.std.specs.Option.{option_map}
use Rattle.sw_container_steps.specs.declared.cont_answer.ContAnswer.{ContAnswer}
use Rattle.sw_container_steps.specs.declared.cont_answer.ContAnswer.TheVariants as answers
use Rattle.sw_container_steps.specs.declared.cont_entry.ContEntry.{ContEntry}
use Rattle.sw_hashpath.specs.declared.place.Place.{Place}
use Rattle.sw_keeper.specs.declared.tables.Tables.{Tables}
use Rattle.sw_peer.specs.ContSights.{IsLooked, is_wanting_cont, is_wanting_look}
use Rattle.sw_peer.specs.Sights.{Calls, IsSame, Sight, Trails}
use Rattle.sw_peer.specs.declared.cont_event.ContEvent.{ContEvent}
use Rattle.sw_peer.specs.declared.line.Event.TheVariants.{AtContainer}
use Rattle.sw_peer.specs.declared.line.Line.{Line}
use Rattle.sw_peer.specs.declared.link.Link.TheVariants.{Local}
use Rattle.sw_sharded_listing.proofs.Looks.{came, err-is, err-ok}
use Rattle.sw_sharded_listing.proofs.Reading.{ok-is}

-- ---- the lines of one step

-- a step at the device itself, answered so
abbrev pub line_at : ℕ → ContEvent → List ContEntry → Line
line_at device event added = record { device = device; link = Local; event = AtContainer event added; added = [] }

-- one that wanted memory was answered so
pub wanted : (a : ContAnswer) → is_wanting_cont a ≡ true → a ≡ answers.NoMemory
wanted answers.NoMemory is = refl
wanted answer is = cc

pub wanted-look : {A : Type 0} (got : Result A ContAnswer) → is_wanting_look got ≡ true → got ≡ Err answers.NoMemory
wanted-look {A} (Ok told) is = cc
wanted-look {A} (Err a) is = ap Err (wanted a is)

-- behind the lines that there were stand more, of which this is told
abbrev pub Adds : (List Line → Type 0) → List Line → Sight → Type 0
Adds Told lines new = (more : List Line) × (new.trail ≡ Some (lines ++ more)) × Told more

module _ {X : Type 0} (device : ℕ) (event : X → ContEvent) (none : X) where
  -- these lines tell that a step was answered so: one line, or none where it wanted memory
  abbrev pub Tells : X → List Line → Type 0
  Tells x more = ((added : List ContEntry) × (more ≡ line_at device (event x) added ∷ [])) ⊎ ((x ≡ none) × (more ≡ []))

  pub heard : (lines : List Line) (x : X) (added : List ContEntry) (wanting : Bool) (old mid new : Sight) → (wanting ≡ true → x ≡ none)
      → old.trail ≡ Some lines → Trails old (line_at device (event x) added) wanting mid → IsSame mid new → Adds (Tells x) lines new
  heard lines x added wanting old mid new only is (inl p) same = (
    line_at device (event x) added ∷ [],
    ap (λ (s : Sight). s.trail) same.same ∙ (p ∙ ap (λ (t : Option (List Line)). option_map (λ ls. ls ++ line_at device (event x) added ∷ []) t) is),
    inl (added, refl),
  )
  heard lines x added wanting old mid new only is (inr p) same = (
    [],
    ap (λ (s : Sight). s.trail) same.same ∙ (ap (λ (s : Sight). s.trail) p.1.same ∙ (is ∙ ap Some (sym (append-nil lines)))),
    inr (only p.0, refl),
  )

-- a read of a container
pub heard-look : {X : Type 0} (device : ℕ) (place : Place) (reading : Option Tables → ℕ → Result X ContAnswer) (event : Result X ContAnswer → ContEvent)
    (lines : List Line) (old : Sight) (got : Result X ContAnswer) (new : Sight) → old.trail ≡ Some lines
    → Calls (IsLooked Local device place reading event) old Local (Ok got) new → Adds (Tells device event (Err answers.NoMemory) got) lines new
heard-look {X} device place reading event lines old got new is p =
    let comes = came (IsLooked Local device place reading event) old got new p in
    heard device event (Err answers.NoMemory) lines got comes.1.step.step.follows.entries.0 (is_wanting_look got) old comes.0 new (wanted-look got) is
    comes.1.trail comes.2

-- ---- a read, and what is told behind it

module _ {X B : Type 0} (device : ℕ) (event : Result X ContAnswer → ContEvent) (Next : X → Result B ContAnswer → List Line → Type 0) where
  -- these lines tell what the read was answered, and what came of it: where it told nothing, its answer, and else what the lines behind it tell
  abbrev pub Follows : Result B ContAnswer → List Line → Type 0
  Follows got more =
      ((answer : ContAnswer) × Tells device event (Err answers.NoMemory) (Err answer) more × (got ≡ Err answer))
      ⊎ ((x : X) × (added : List ContEntry) × (later : List Line) × (more ≡ line_at device (event (Ok x)) added ∷ later) × Next x got later)

  pub refused-adds : (place : Place) (reading : Option Tables → ℕ → Result X ContAnswer) (lines : List Line) (old : Sight) (got : Result B ContAnswer)
      (new : Sight) (answer : ContAnswer) → old.trail ≡ Some lines
      → Calls (IsLooked Local device place reading event) old Local (Ok (Err answer)) new → got ≡ Err answer → Adds (Follows got) lines new
  refused-adds place reading lines old got new answer is p refused =
      let told = heard-look device place reading event lines old (Err answer) new is p in
      (told.0, told.1, inl (answer, told.2, refused))

  pub told-adds : (place : Place) (reading : Option Tables → ℕ → Result X ContAnswer) (lines : List Line) (old : Sight) (got : Result B ContAnswer)
      (new : Sight) (x : X) (mid : Sight) → old.trail ≡ Some lines → Calls (IsLooked Local device place reading event) old Local (Ok (Ok x)) mid
      → ((ls : List Line) → mid.trail ≡ Some ls → Adds (Next x got) ls new) → Adds (Follows got) lines new
  told-adds place reading lines old got new x mid is p next = by (heard-look device place reading event lines old (Ok x) mid is p)
    where
      no : Ok x ≡ Err answers.NoMemory → ⊥
      no same = cc

      by : Adds (Tells device event (Err answers.NoMemory) (Ok x)) lines mid → Adds (Follows got) lines new
      by (more, trail, inl line) =
          let behind = next (lines ++ more) trail in (
            more ++ behind.0,
            behind.1 ∙ ap Some (append_assoc lines more behind.0),
            inr (x, line.0, behind.0, ap (λ (ls : List Line). ls ++ behind.0) line.1, behind.2),
          )
      by (more, trail, inr wants) = absurd (no wants.0)

-- ---- one answer

-- Two that leave the same lines, which others follow, were answered the same. Of one that found no memory `End` tells which others follow
abbrev pub IsOne : {B : Type 0} → (List Line → Type 0) → (Result B ContAnswer → List Line → Type 0) → Type 0
IsOne {B} End Told = (got told : Result B ContAnswer) (more others behind beyond : List Line) → Told got more → Told told others
    → (got ≡ Err answers.NoMemory → End behind) → (told ≡ Err answers.NoMemory → End beyond) → more ++ behind ≡ others ++ beyond
    → (got ≡ told) × (more ≡ others)

no-line : (line : Line) (lines : List Line) → line ∷ lines ≡ [] → ⊥
no-line line lines is = cc

module _ (End : List Line → Type 0) (ends : (behind : List Line) → End behind → behind ≡ []) {X B : Type 0} (device : ℕ)
    (event : Result X ContAnswer → ContEvent) (injective : (x y : Result X ContAnswer) → event x ≡ event y → x ≡ y)
    (Next : X → Result B ContAnswer → List Line → Type 0) (next : (x : X) → IsOne End (Next x)) where
  front : (x y : Result X ContAnswer) (a b : List ContEntry) (xs ys : List Line)
      → line_at device (event x) a ∷ xs ≡ line_at device (event y) b ∷ ys
      → (x ≡ y) × (line_at device (event x) a ≡ line_at device (event y) b) × (xs ≡ ys)
  front x y a b xs ys is =
      let lines : line_at device (event x) a ≡ line_at device (event y) b = cc in
      let events : AtContainer (event x) a ≡ AtContainer (event y) b = ap (λ (l : Line). l.event) lines in
      let same : event x ≡ event y = cc in
      let rest : xs ≡ ys = cc in
      (injective x y same, lines, rest)

  -- one that told nothing leaves other lines than one that told something
  apart : (a : ContAnswer) (x : X) (added : List ContEntry) (later more others behind beyond : List Line)
      → Tells device event (Err answers.NoMemory) (Err a) more → others ≡ line_at device (event (Ok x)) added ∷ later
      → (a ≡ answers.NoMemory → End behind) → more ++ behind ≡ others ++ beyond → ⊥
  apart a x added later more others behind beyond (inl p) is end same =
      err-ok a x
      (front (Err a) (Ok x) p.0 added behind (later ++ beyond)
      (sym (ap (λ (ls : List Line). ls ++ behind) p.1) ∙ (same ∙ ap (λ (ls : List Line). ls ++ beyond) is))).0
  apart a x added later more others behind beyond (inr p) is end same =
      no-line (line_at device (event (Ok x)) added) (later ++ beyond)
      (sym (ap (λ (ls : List Line). ls ++ beyond) is)
      ∙ (sym same ∙ (ap (λ (ls : List Line). ls ++ behind) p.1 ∙ ends behind (end (err-is X a answers.NoMemory p.0)))))

  -- two that told nothing
  both : (a b : ContAnswer) (more others behind beyond : List Line) → Tells device event (Err answers.NoMemory) (Err a) more
      → Tells device event (Err answers.NoMemory) (Err b) others → (a ≡ answers.NoMemory → End behind) → (b ≡ answers.NoMemory → End beyond)
      → more ++ behind ≡ others ++ beyond → (a ≡ b) × (more ≡ others)
  both a b more others behind beyond (inl p) (inl q) end end' same =
      let fronts = front (Err a) (Err b) p.0 q.0 behind beyond
      (sym (ap (λ (ls : List Line). ls ++ behind) p.1) ∙ (same ∙ ap (λ (ls : List Line). ls ++ beyond) q.1)) in
      (err-is X a b fronts.0, p.1 ∙ (ap (λ (l : Line). l ∷ []) fronts.1 ∙ sym q.1))
  both a b more others behind beyond (inl p) (inr q) end end' same =
      absurd (no-line (line_at device (event (Err a)) p.0) behind
      (sym (ap (λ (ls : List Line). ls ++ behind) p.1)
      ∙ (same ∙ (ap (λ (ls : List Line). ls ++ beyond) q.1 ∙ ends beyond (end' (err-is X b answers.NoMemory q.0))))))
  both a b more others behind beyond (inr p) (inl q) end end' same =
      absurd (no-line (line_at device (event (Err b)) q.0) beyond
      (sym (ap (λ (ls : List Line). ls ++ beyond) q.1)
      ∙ (sym same ∙ (ap (λ (ls : List Line). ls ++ behind) p.1 ∙ ends behind (end (err-is X a answers.NoMemory p.0))))))
  both a b more others behind beyond (inr p) (inr q) end end' same =
      (err-is X a answers.NoMemory p.0 ∙ sym (err-is X b answers.NoMemory q.0), p.1 ∙ sym q.1)

  pub one-follows : IsOne End (Follows device event Next)
  one-follows got told more others behind beyond (inl p) (inl q) end end' same =
      let one = both p.0 q.0 more others behind beyond p.1 q.1 (λ is. end (p.2 ∙ ap Err is)) (λ is. end' (q.2 ∙ ap Err is)) same in
      (p.2 ∙ (ap Err one.0 ∙ sym q.2), one.1)
  one-follows got told more others behind beyond (inl p) (inr q) end end' same =
      absurd (apart p.0 q.0 q.1 q.2 more others behind beyond p.1 q.3 (λ is. end (p.2 ∙ ap Err is)) same)
  one-follows got told more others behind beyond (inr p) (inl q) end end' same =
      absurd (apart q.0 p.0 p.1 p.2 others more beyond behind q.1 p.3 (λ is. end' (q.2 ∙ ap Err is)) (sym same))
  one-follows got told more others behind beyond (inr p) (inr q) end end' same =
      let fronts = front (Ok p.0) (Ok q.0) p.1 q.1 (p.2 ++ behind) (q.2 ++ beyond)
      (sym (ap (λ (ls : List Line). ls ++ behind) p.3) ∙ (same ∙ ap (λ (ls : List Line). ls ++ beyond) q.3)) in
      let one = next q.0 got told p.2 q.2 behind beyond (subst (λ (x : X). Next x got p.2) (ok-is p.0 q.0 fronts.0) p.4) q.4 end end' fronts.2 in (
        one.0,
        p.3
            ∙ (ap (λ (l : Line). l ∷ p.2) fronts.1
            ∙ (ap (λ (ls : List Line). line_at device (event (Ok q.0)) q.1 ∷ ls) one.1 ∙ sym q.3)),
      )
