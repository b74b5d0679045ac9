-- What was read of a container in a step that told something, and of parts in turn.
use Rattle.std.proofs.Common.{◌≡◌, ℕ, Bool, true, false, cond, List, [], ◌∷◌, ◌++◌, Option, None, Some, refl, sym, ◌∙◌, ap, subst, ◌⊎◌, inl, inr, Result, Ok}
use Rattle.std.proofs.Common.{Err}
use Rattle.sw_container_steps.specs.Presence.{deletion_after, is_no_time, is_present}
use Rattle.sw_container_steps.specs.Reads.{where_present}
use Rattle.sw_container_steps.specs.Serving.{unserved}
use Rattle.sw_container_steps.specs.declared.cont_answer.ContAnswer.{ContAnswer}
use Rattle.sw_container_steps.specs.declared.cont_answer.ContAnswer.TheVariants as answers
use Rattle.sw_hashpath.specs.declared.place.Place.{Place}
use Rattle.sw_keeper.specs.declared.tables.Tables.{Tables}
use Rattle.sw_listing.specs.Listing.{listing}
use Rattle.sw_listing.specs.declared.entry.Entry.{Entry}
use Rattle.sw_listing.specs.declared.query.Query.{Query}
use Rattle.sw_peer.specs.ContSights.{IsLooked}
use Rattle.sw_peer.specs.Sights.{Calls, Comes, Sight}
use Rattle.sw_peer.specs.declared.cont_event.ContEvent.{ContEvent}
use Rattle.sw_peer.specs.declared.cont_event.ContEvent.TheVariants.{Listed}
use Rattle.sw_peer.specs.declared.link.Link.TheVariants.{Local}
use Rattle.sw_shard_listing.specs.Ranges.{after_entries, listed_in_turn, moved}
use Rattle.sw_sharded_listing.specs.Across.{AreListed, GivesUp, IsListed, IsPartListed, Listing, are_some, preceded}
use Rattle.sw_sharded_listing.specs.Laws.{AreRead, IsReadAt, segments_of}
use Rattle.sw_sharded_listing.specs.Parts.{Part}

-- ---- one step

abbrev pub IsOk : {A : Type 0} → A → Result A ContAnswer → Type 0
IsOk x r = Ok x ≡ r

pub ok-is : {A : Type 0} (x y : A) → IsOk x (Ok y) → x ≡ y
ok-is x y same = cc

module _ {A : Type 0} (told : Tables → A) where
  -- what is told of a container is told of one that is there
  abbrev IsThere : Option Tables → A → Type 0
  IsThere t x = (tables : Tables) × (t ≡ Some tables) × (is_present (Some tables) ≡ true) × (x ≡ told tables)

  there : (t : Option Tables) (x : A) → IsOk x (where_present t told) → IsThere t x
  there None x shown = cc
  there (Some t) x shown = by (is_no_time (deletion_after t.put_time t.delete_time)) refl shown
    where
      by : (b : Bool) → is_no_time (deletion_after t.put_time t.delete_time) ≡ b → IsOk x (cond b (Ok (told t)) (Err answers.Absent)) → IsThere (Some t) x
      by true is shown = (t, refl, is, ok-is x (told t) shown)
      by false is shown = cc

  abbrev pub IsRead : ℕ → Place → A → Sight → Sight → Type 0
  IsRead device place x old new = (tables : Tables) × IsReadAt device place tables old new × (x ≡ told tables)

  pub read-of : (device : ℕ) (place : Place) (event : Result A ContAnswer → ContEvent) (old : Sight) (x : A) (new : Sight)
      → Calls (IsLooked Local device place (λ t front. where_present t told) event) old Local (Ok (Ok x)) new → IsRead device place x old new
  read-of device place event old x new calls =
      let comes = subst (λ (earlier : List (Result A ContAnswer)). Comes Step old (earlier ++ Ok x ∷ []) new) (calls.1 refl) calls.2 in
      let looked = comes.1 in
      let read = looked.step.step.read place in
      let is = there read x (looked.step.step.shown refl) in (
        is.0,
        record {
          at = comes.0;
          present = is.2;
          held = λ alone known. sym is.1 ∙ (looked.step.step.held alone known refl place refl ∙ looked.step.is_held alone place refl);
          moves = looked.moves;
          holds_all = looked.holds_all;
          same = comes.2;
        },
        is.3,
      )
    where
      Step : Sight → Result A ContAnswer → Sight → Type 0
      Step = IsLooked Local device place (λ t front. where_present t told) event

-- ---- parts in turn

pub no-answer : (es : List Entry) (answer : ContAnswer) → IsOk es (Err answer) → ⊥
no-answer es answer same = cc

pub given : (query : Query) (part : Part) (old : Sight) (es : List Entry) (mid : Sight) → IsPartListed query part old (Ok es) mid
    → IsListed part.device part.place (moved query part.lower part.upper) old (Ok es) mid
given query part old es mid (inl gives) = absurd (no-answer es answers.NoMemory gives.2)
given query part old es mid (inr listed) = listed

pub one : (device : ℕ) (place : Place) (query : Query) (old : Sight) (es : List Entry) (mid : Sight) → IsListed device place query old (Ok es) mid
    → IsRead (λ t. listing query (unserved t)) device place es old mid
one device place query old es mid listed =
    read-of (λ t. listing query (unserved t)) device place (λ read. Listed place query read) old es mid listed

abbrev pub AreAllRead : Query → List Part → Sight → List Entry → Sight → Type 0
AreAllRead query parts old es new = (read : List Tables) × AreRead parts read old new × (es ≡ listed_in_turn query (segments_of parts read))

preceded-ok : (found : List Entry) (later : Listing) (es : List Entry) → Ok es ≡ preceded found later
    → (rest : List Entry) × (later ≡ Ok rest) × (es ≡ found ++ rest)
preceded-ok found (Ok rest) es same = (rest, refl, ok-is es (found ++ rest) same)
preceded-ok found (Err answer) es same = cc

pub all : (query : Query) (parts : List Part) (old : Sight) (es : List Entry) (new : Sight) → AreListed query parts old (Ok es) new
    → AreAllRead query parts old es new
all query [] old es new listed = ([], listed.0, ok-is es [] listed.1)
all query (part ∷ parts) old es new (inl refused) = absurd (no-answer es refused.0 refused.2)
all query (part ∷ parts) old es new (inr listed) = by (λ rest h. all (after_entries query listed.0) parts listed.1 rest new h) listed.3
  where
    now : IsRead (λ t. listing (moved query part.lower part.upper) (unserved t)) part.device part.place listed.0 old listed.1
    now =
        one part.device part.place (moved query part.lower part.upper) old listed.0 listed.1 (given query part old listed.0 listed.1 listed.2)

    by : ((rest : List Entry) → AreListed (after_entries query listed.0) parts listed.1 (Ok rest) new
        → AreAllRead (after_entries query listed.0) parts listed.1 rest new)
        → GivesUp (are_some listed.0) listed.1 (Ok es) new
        ⊎ ((later : Listing) × AreListed (after_entries query listed.0) parts listed.1 later new × (Ok es ≡ preceded listed.0 later))
        → AreAllRead query (part ∷ parts) old es new
    by again (inl gives) = absurd (no-answer es answers.NoMemory gives.2)
    by again (inr later) =
        let split = preceded-ok listed.0 later.0 es later.2 in
        let rest = again split.0 (subst (λ (r : Listing). AreListed (after_entries query listed.0) parts listed.1 r new) split.1 later.1) in (
          now.0 ∷ rest.0,
          (listed.1, now.1, rest.1),
          split.2 ∙ (ap (λ (t : List Entry). listed.0 ++ t) rest.2
              ∙ ap (λ (t : List Entry). t ++ listed_in_turn (after_entries query t) (segments_of parts rest.0)) now.2),
        )
