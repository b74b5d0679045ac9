-- Which requests leave a line that tells of a restart, and how the calls of the stores add up.
use Rattle.std.proofs.Common.{◌≡◌, ℕ, ◌+◌, ◌*◌, ◌^◌, ◌≤◌, List, [], ◌∷◌, ◌++◌, length, Option, Some, None, Bool, refl, sym, ap, subst, ◌∙◌}
use Rattle.std.proofs.Common.{arith}
use Rattle.std.proofs.lemmas.List.{length-map}
use Rattle.std.proofs.lemmas.Nat.{rows}
use Rattle.std.specs.Option.{option_map}
use Rattle.sw_core.specs.Worlds.{AllNodes, KeeperSeen, Lifts, first_of, past_of, restart_line, volumes_in}
use Rattle.sw_message.specs.declared.response.Response.{Response}
use Rattle.sw_peer.specs.declared.line.Line.{Line}
use Rattle.sw_ring.specs.declared.ring.Ring.{Ring}
use Rattle.sw_stores.specs.Places.{ComeHome, is_among}
use Rattle.sw_stores.specs.Starting.{AreResting}
use Rattle.sw_volume.proofs.Counting.{raised_by-plus}
use Rattle.sw_volume.specs.Tree.{Folders}
use Rattle.sw_volume.specs.Volume.{raised_by}
use Rattle.sw_nodes.specs.Nodes.{FailsToStart}
use Rattle.sw_nodes.specs.Restarts.{AreCalled, restarts_in, restarts_of}
use Rattle.sw_nodes.specs.Server.{IsFiled, IsRestarted}

-- ---- lines

pub some_is : {A : Type 0} {x y : A} → Some x ≡ Some y → x ≡ y
some_is is = cc

pub one-line : (lines : List Line) (line : Line) → restarts_in (lines ++ line ∷ []) ≡ restarts_in lines + restarts_of line.event
one-line [] line = omega arith
one-line (first ∷ lines) line = let e = one-line lines line in omega (arith, e)

pub no-line : (before after : List Line) → after ≡ before → restarts_in after ≡ restarts_in before + 0
no-line before after same = let e = ap restarts_in same in omega (arith, e)

-- where a trail that is kept tells as many restarts as it did
pub same-restarts : (before after : List Line) → option_map restarts_in (Some after) ≡ option_map restarts_in (Some before)
    → restarts_in after ≡ restarts_in before + 0
same-restarts before after same = let e : restarts_in after ≡ restarts_in before = some_is same in omega (arith, e)

-- one line more, of an event that is none or a restart
line-of : (before after : List Line) (line : Line) (n : ℕ) → after ≡ before ++ line ∷ [] → restarts_of line.event ≡ n
    → restarts_in after ≡ restarts_in before + n
line-of before after line n is event = ap restarts_in is ∙ (one-line before line ∙ ap (λ (k : ℕ). restarts_in before + k) event)

module _ {V K : Type 0} (tells : V → Bool) (files : V → Folders) (faults : V → ℕ) (keeps : KeeperSeen K) where
  -- a listing leaves no line of a restart
  pub listed-lines : (w after : AllNodes V K) (device : ℕ) (response : Response) → IsFiled tells files faults keeps device w response after
      → restarts_in after.lines ≡ restarts_in w.lines + 0
  listed-lines w after device response filed = line-of w.lines after.lines _ 0 (some_is filed.moves.trail) refl

  -- but a restart does
  pub restart-lines : (w after : AllNodes V K) (device : ℕ) → IsRestarted tells files faults keeps device w after
      → restarts_in after.lines ≡ restarts_in w.lines + 1
  restart-lines w after device again = line-of w.lines after.lines (restart_line device) 1
      (ap (λ (x : AllNodes V K). x.lines) again.down.rest ∙ ap (λ (x : AllNodes V K). x.lines ++ restart_line device ∷ []) again.up.rest) refl

-- ---- calls

pub none-called : (stripes n now : ℕ) → now ≡ n → now ≡ raised_by (0 * stripes) n
none-called stripes n now same = let e : 0 ≡ 0 * stripes = omega arith in same ∙ ap (λ (k : ℕ). raised_by k n) e

pub once-called : (stripes n now : ℕ) → now ≡ raised_by stripes n → now ≡ raised_by (1 * stripes) n
once-called stripes n now called = let e : stripes ≡ 1 * stripes = omega arith in called ∙ ap (λ (k : ℕ). raised_by k n) e

pub called-on : (stripes restarts gained restarts_now n mid now : ℕ) → restarts_now ≡ restarts + gained → mid ≡ raised_by (restarts * stripes) n
    → now ≡ raised_by (gained * stripes) mid → now ≡ raised_by (restarts_now * stripes) n
called-on stripes restarts gained restarts_now n mid now is first later =
    later ∙ (ap (raised_by (gained * stripes)) first ∙ (raised_by-plus (gained * stripes) (restarts * stripes) n ∙ ap (λ (k : ℕ). raised_by k n) sum))
  where
    sum : gained * stripes + restarts * stripes ≡ restarts_now * stripes
    sum = rw is (let e : gained * stripes + restarts * stripes ≡ (restarts + gained) * stripes = grind (arith, rows) in e)

-- where no device is out
pub whole-called : (ring : Ring) (lifted : Option ℕ) (lines : List Line) (n now : ℕ) → now ≡ raised_by (restarts_in lines * 2 ^ ring.lock_bits) n
    → AreCalled ring lifted lines n now
whole-called ring lifted lines n now called = record {
  tried = 0;
  whole = λ _. refl;
  most = omega arith;
  calls_are = called ∙ ap (λ (k : ℕ). raised_by k n)
      (let e : restarts_in lines * 2 ^ ring.lock_bits ≡ 0 + restarts_in lines * 2 ^ ring.lock_bits = omega arith in e);
}

-- where one couldn't be started again
pub out-called : (ring : Ring) (lifted : Option ℕ) (device : ℕ) (lines before : List Line) (n mid now tried : ℕ) → lifted ≡ Some device → lines ≡ before
    → tried ≤ 2 ^ ring.lock_bits → mid ≡ raised_by (restarts_in before * 2 ^ ring.lock_bits) n → now ≡ raised_by tried mid
    → AreCalled ring lifted lines n now
out-called ring lifted device lines before n mid now tried out same most first later = record {
  tried = tried;
  whole = λ none. absurd (not-none (sym none ∙ out));
  most = most;
  calls_are = later ∙ (ap (raised_by tried) first ∙ (raised_by-plus tried (restarts_in before * 2 ^ ring.lock_bits) n
      ∙ ap (λ (ls : List Line). raised_by (tried + restarts_in ls * 2 ^ ring.lock_bits) n) (sym same)));
}
  where
    not-none : None ≡ Some device → ⊥
    not-none is = cc

-- ---- a device that stays out

module _ {V K S : Type 0} (tells : V → Bool) (files : V → Folders) (faults : V → ℕ) (keeps : KeeperSeen K) (store_calls : S → ℕ)
    (rests : S → ℕ → ℕ → Option (V × K)) (out : S → ℕ → ℕ → Bool) (ring : Ring) (device : ℕ) (w after : AllNodes V K) (stores stores_now : S)
    (given : List (V × K)) where
  -- what was lifted has a volume and a keeper for each lock of the device: so what is known of the places that were given back is known of them all
  pub fails-to-start : (stripes first : ℕ) → stripes ≡ 2 ^ ring.lock_bits → first ≡ first_of ring.lock_bits device → w.lock_bits ≡ ring.lock_bits
      → Lifts tells files faults keeps w device given after → ComeHome (is_among stripes first (length given)) (out stores) (out stores_now)
      → AreResting (rests stores_now) stripes first given
      → (tried : ℕ) × (tried ≤ length given) × (store_calls stores_now ≡ raised_by tried (store_calls stores))
      → FailsToStart tells files faults keeps store_calls rests out ring device w after stores stores_now
  fails-to-start stripes first stripes_are first_is bits up home resting tried =
      let lifted : first_of w.lock_bits device + length (volumes_in given) ≡ past_of w.lock_bits device = up.lifted.amount in
      let whole : length (volumes_in given) ≡ 2 ^ w.lock_bits = omega (arith, lifted) in
      let amount : length given ≡ 2 ^ ring.lock_bits =
      sym (length-map given (λ (part : V × K). part.0)) ∙ (whole ∙ ap (λ (b : ℕ). 2 ^ b) bits) in
      record {
        given = given;
        up = up;
        resting = subst (λ (n : ℕ). AreResting (rests stores_now) n (first_of ring.lock_bits device) given) stripes_are
            (subst (λ (n : ℕ). AreResting (rests stores_now) stripes n given) first_is resting);
        home = subst (λ (n : ℕ). ComeHome (is_among n (first_of ring.lock_bits device) (2 ^ ring.lock_bits)) (out stores) (out stores_now)) stripes_are
            (subst (λ (n : ℕ). ComeHome (is_among stripes n (2 ^ ring.lock_bits)) (out stores) (out stores_now)) first_is
            (subst (λ (n : ℕ). ComeHome (is_among stripes first n) (out stores) (out stores_now)) amount home));
        tried = tried.0;
        most = subst (λ (n : ℕ). tried.0 ≤ n) amount tried.1;
        calls_are = tried.2;
      }
