-- What is filed for a key is a record of that key, and stays so. Then a step finds what is filed.
use Rattle.std.proofs.Common.{◌≡◌, true, false, Bool, List, [], ◌∷◌, Option, Some, None, if◌then◌else◌, refl, sym, subst, bytes_eq}
use Rattle.std.specs.List.{fold}
use Rattle.sw_object_steps.proofs.Recording.{file_at, record_by, record-left, same-key, same-self}
use Rattle.sw_object_steps.specs.Journals.{Hash}
use Rattle.sw_object_steps.specs.Recorded.{found, of_key}
use Rattle.sw_object_steps.specs.Rules.{obj_applied}
use Rattle.sw_object_steps.specs.Values.{ObjValue, Records, is_same_key}
use Rattle.sw_object_steps.specs.declared.entry.ObjEntry.{ObjEntry}
use Rattle.sw_object_steps.specs.declared.entry.ObjEntry.TheVariants.{Dropped, Files, Marked, Wrote}
use Rattle.sw_pending.specs.Records.{key_of}
use Rattle.sw_pending.specs.declared.filed.Filed.{Filed}
use Rattle.sw_pending.specs.declared.key.RecordKey.{RecordKey}

abbrev pub IsAt : RecordKey → Option Filed → Type 0
IsAt key None = Unit {0}
IsAt key (Some filed) = key_of filed ≡ key

abbrev pub AreKeyed : Records → Type 0
AreKeyed records = (key : RecordKey) → IsAt key (records key)

at-chosen : (key : RecordKey) (o p : Option Filed) (b : Bool) → IsAt key p → (b ≡ true → IsAt key o) → IsAt key (if b then o else p)
at-chosen key o p true other here = here refl
at-chosen key o p false other here = other

at-filed : (key : RecordKey) (o : Option Filed) (filed : Filed) → IsAt key o → IsAt key (file_at key o filed)
at-filed key o filed is = at-chosen key (Some filed) o (is_same_key (key_of filed) key) is (λ same. same-key (key_of filed) key same)

at-all : (key : RecordKey) (o : Option Filed) (records : List Filed) → IsAt key o → IsAt key (fold (file_at key) o records)
at-all key o [] is = is
at-all key o (filed ∷ more) is = at-all key (file_at key o filed) more (at-filed key o filed is)

at-by : (key : RecordKey) (o : Option Filed) (e : ObjEntry) → IsAt key o → IsAt key (record_by key o e)
at-by key o (Wrote name w records) is = at-all key o records is
at-by key o (Files by filed) is = at-filed key o filed is
at-by key o (Marked by filed device) is = at-filed key o filed is
at-by key o (Dropped by filed) is = at-chosen key None o (is_same_key (key_of filed) key) is (λ same. tt)

at-left : (key : RecordKey) (o : Option Filed) (es : List ObjEntry) → IsAt key o → IsAt key (fold (record_by key) o es)
at-left key o [] is = is
at-left key o (e ∷ es) is = at-left key (record_by key o e) es (at-by key o e is)

-- entries keep it
pub keyed-left : (v : ObjValue) (es : List ObjEntry) → AreKeyed v.records → AreKeyed (fold obj_applied v es).records
keyed-left v es are key = subst (λ (o : Option Filed). IsAt key o) (sym (record-left v es key)) (at-left key (v.records key) es (are key))

of-key-at : (key : RecordKey) (o : Option Filed) → IsAt key o → of_key key o ≡ o
of-key-at key None is = refl
of-key-at key (Some filed) is =
    let same : is_same_key (key_of filed) key ≡ true = subst (λ (k : RecordKey). is_same_key k key ≡ true) (sym is) (same-self key) in
    rw same refl

pub found-keyed : (v : ObjValue) (hash : Hash) (filed : Filed) → AreKeyed v.records → bytes_eq filed.name.hash hash ≡ true
    → found v hash filed ≡ v.records (key_of filed)
found-keyed v hash filed are own = rw own (of-key-at (key_of filed) (v.records (key_of filed)) (are (key_of filed)))

pub found-other : (v : ObjValue) (hash : Hash) (filed : Filed) → bytes_eq filed.name.hash hash ≡ false → found v hash filed ≡ None
found-other v hash filed other = rw other refl
