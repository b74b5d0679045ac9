-- Rows of puts and deletions: each of an object whose name is text has one row, which counts as much as it does.
use Rattle.std.proofs.Common.{◌≡◌, ℕ, true, false, length, codes, [], List, refl, sym, ◌∙◌}
use lib.Utf8.{encode}
use Rattle.std.specs.Str.{IsUtf8}
use mathlib.Core.HLevel.{is_prop→PathP}
use mathlib.Core.Logic.{∥∥₁_prop}
use Rattle.md5.specs.Md5.{md5}
use Rattle.sw_hashpath.specs.BadNames.{is_text}
use Rattle.sw_object_steps.specs.BaseRows.{IsRowOf}
use Rattle.sw_pending_laws.proofs.Rows.{row-flag, row-time}
use Rattle.sw_pending_laws.specs.Ledger.{counts, covers}
use Rattle.sw_rows.specs.Rows.{is_at_least}
use Rattle.sw_rows.specs.declared.row.Row.{Row}
use Rattle.sw_state.specs.declared.base.Base.{Base}
use Rattle.sw_state.specs.declared.base.Base.TheVariants as bases
use Rattle.sw_across_laws.proofs.Names.{text-utf8}

-- ---- there is one

deletion-type : IsUtf8 (codes "text/plain")
unfolding encode
deletion-type = (codes "text/plain", (refl, refl))

pub a-row : (object : List ℕ) (base : Base) → is_text object ≡ true → (row : Row) × IsRowOf object base row
a-row object (bases.Put time content) text = (
  record {
    name = object;
    created_at = time;
    size = length content.body;
    content_type = content.content_type;
    etag = content.etag;
    deleted = false;
    is_text = ∣ text-utf8 object text ∣₁;
    is_type_text = content.is_text;
  },
  record { name_is = refl; time_is = refl; size_is = refl; type_is = refl; etag_is = refl; live = refl },
)
a-row object (bases.Del time) text = (
  record {
    name = object;
    created_at = time;
    size = 0;
    content_type = codes "text/plain";
    etag = md5 [];
    deleted = true;
    is_text = ∣ text-utf8 object text ∣₁;
    is_type_text = ∣ deletion-type ∣₁;
  },
  record { name_is = refl; time_is = refl; size_is = refl; type_is = refl; etag_is = refl; deleted = refl },
)

-- ---- what it says

-- it counts as much as what it is of
pub row-covers : (object other : List ℕ) (b c : Base) (row r : Row) → IsRowOf object b row → IsRowOf other c r → is_at_least row r ≡ true → covers b c ≡ true
row-covers object other b c row r is_row is_r least =
    sym (λ i. counts (row-time object b row is_row i) (row-flag object b row is_row i) (row-time other c r is_r i) (row-flag other c r is_r i)) ∙ least

-- ---- there is no other

same-row : (a b : Row) → a.name ≡ b.name → a.created_at ≡ b.created_at → a.size ≡ b.size → a.content_type ≡ b.content_type → a.etag ≡ b.etag
    → a.deleted ≡ b.deleted → a ≡ b
same-row a b names times sizes types etags states =
    λ i. record {
      name = names i;
      created_at = times i;
      size = sizes i;
      content_type = types i;
      etag = etags i;
      deleted = states i;
      is_text = is_prop→PathP (λ j. ∥ IsUtf8 (names j) ∥₁) (λ j. ∥∥₁_prop) a.is_text b.is_text i;
      is_type_text = is_prop→PathP (λ j. ∥ IsUtf8 (types j) ∥₁) (λ j. ∥∥₁_prop) a.is_type_text b.is_type_text i;
    }

pub one-row : (object : List ℕ) (base : Base) (a b : Row) → IsRowOf object base a → IsRowOf object base b → a ≡ b
one-row object (bases.Put time content) a b p q =
    same-row a b (p.name_is ∙ sym q.name_is) (p.time_is ∙ sym q.time_is) (p.size_is ∙ sym q.size_is) (p.type_is ∙ sym q.type_is) (p.etag_is ∙ sym q.etag_is)
    (p.live ∙ sym q.live)
one-row object (bases.Del time) a b p q =
    same-row a b (p.name_is ∙ sym q.name_is) (p.time_is ∙ sym q.time_is) (p.size_is ∙ sym q.size_is) (p.type_is ∙ sym q.type_is) (p.etag_is ∙ sym q.etag_is)
    (p.deleted ∙ sym q.deleted)
