-- Of the bytes of a file one thing is said, which is what its directory stands for.
use Rattle.std.proofs.Common.{◌≡◌, ◌≢◌, ℕ, ◌⊎◌, inl, inr, refl, sym, ◌∙◌, ap, true, false, List, Some, Result, Ok, Err}
use Rattle.std.proofs.lemmas.Bool.{cases_Bool}
use Rattle.std.proofs.lemmas.Bool.Decides.{eqb_tells}
use Rattle.std.proofs.lemmas.Option.{cond_some}
use Rattle.std.proofs.lemmas.Slice.Eq.{bytes_eq-Decides}
use Rattle.std.specs.Str.{bytes_eq}
use Rattle.sw_diskfile.specs.StateFiles.{name_of}
use Rattle.sw_diskfile.specs.declared.file_name.FileName.{FileName}
use Rattle.sw_hashpath.specs.declared.decode_error.BadFile.{BadFile}
use Rattle.sw_hashpath.specs.declared.decode_error.BadFile.TheVariants.{Field}
use Rattle.sw_hashpath.specs.declared.secrets.Secrets.{Secrets}
use Rattle.sw_metafile.specs.Decoding.{decoded}
use Rattle.sw_metafile.specs.declared.file_body.FileBody.{FileBody}
use Rattle.sw_state.specs.declared.write.Write.{Write}
use Rattle.sw_timestamp.specs.declared.tag.Tag.{Tag}
use Rattle.sw_timestamp.specs.declared.tag.Tag.TheVariants.{Put, Del, Meta}
use Rattle.sw_object_steps.specs.Journals.{Hash}
use Rattle.sw_hashdir.specs.Laws.{OneReading, ReadAsItStands}
use Rattle.sw_hashdir.specs.Places.{write_with}
use Rattle.sw_hashdir.specs.Readings.{IsDamage, IsFileOf, hash_said}
use Rattle.sw_hashdir.proofs.Sound.{file-decodes, ok_is, reads-sound}

-- ---- files are the same or not

same-tag : (a b : Tag) → (a ≡ b) ⊎ (a ≢ b)
same-tag Put Put = inl refl
same-tag Put Del = inr (λ e. cc)
same-tag Put Meta = inr (λ e. cc)
same-tag Del Put = inr (λ e. cc)
same-tag Del Del = inl refl
same-tag Del Meta = inr (λ e. cc)
same-tag Meta Put = inr (λ e. cc)
same-tag Meta Del = inr (λ e. cc)
same-tag Meta Meta = inl refl

same-time : (t u : ℕ) → (t ≡ u) ⊎ (t ≢ u)
same-time t u = elim (eqb_tells t u) [ inl is ↦ inl is.1 | inr other ↦ inr other.1 ]

same-file : (f g : FileName) → (f ≡ g) ⊎ (f ≢ g)
same-file f g = by (same-time f.time g.time) (same-tag f.tag g.tag)
  where
    by : (f.time ≡ g.time) ⊎ (f.time ≢ g.time) → (f.tag ≡ g.tag) ⊎ (f.tag ≢ g.tag) → (f ≡ g) ⊎ (f ≢ g)
    by (inr other) tags = inr (λ e. other (ap (λ (x : FileName). x.time) e))
    by (inl times) (inr other) = inr (λ e. other (ap (λ (x : FileName). x.tag) e))
    by (inl times) (inl tags) =
        inl (ap (λ (t : ℕ). let x : FileName = record { time = t; tag = f.tag } in x) times
        ∙ ap (λ (a : Tag). let x : FileName = record { time = g.time; tag = a } in x) tags)

-- ---- one thing is said

module _ (secrets : Secrets) (hash : Hash) (file : FileName) (bytes : List ℕ) where
  some-reading : (o : Result FileBody BadFile) → decoded bytes ≡ o
      → ((w : Write) × IsFileOf secrets hash file bytes w) ⊎ ((bad : BadFile) × IsDamage secrets hash file bytes bad)
  some-reading (Err bad) e = inr (bad, inl e)
  some-reading (Ok body) e = by (cases_Bool (bytes_eq said hash)) (same-file (name_of body.write) file)
    where
      said : Hash
      said = hash_said secrets hash file body

      by : (bytes_eq said hash ≡ true) ⊎ (bytes_eq said hash ≡ false) → (name_of body.write ≡ file) ⊎ (name_of body.write ≢ file)
          → ((w : Write) × IsFileOf secrets hash file bytes w) ⊎ ((bad : BadFile) × IsDamage secrets hash file bytes bad)
      by (inr away) names =
          let apart : said ≢ hash = λ same. let clash = sym away ∙ (bytes_eq-Decides said hash).1 same in cc in
          inr (Field, inr (refl, record { body = body; decodes = e; elsewhere = inl apart }))
      by (inl here) (inr other) = inr (Field, inr (refl, record { body = body; decodes = e; elsewhere = inr other }))
      by (inl here) (inl named) =
          inl (body.write, record { body = body; decodes = e; write = refl; hashed = (bytes_eq-Decides said hash).0 here; named = named })

  one-write : (v w : Write) → IsFileOf secrets hash file bytes v → IsFileOf secrets hash file bytes w → v ≡ w
  one-write v w x y = sym x.write ∙ (ap (λ (b : FileBody). b.write) (ok_is x.body y.body (sym x.decodes ∙ y.decodes)) ∙ y.write)

  one-fault : (bad other : BadFile) → IsDamage secrets hash file bytes bad → IsDamage secrets hash file bytes other → bad ≡ other
  one-fault bad other (inl x) (inl y) = let both = sym x ∙ y in cc
  one-fault bad other (inl x) (inr (fault, y)) = let both = sym x ∙ y.decodes in cc
  one-fault bad other (inr (fault, x)) (inl y) = let both = sym y ∙ x.decodes in cc
  one-fault bad other (inr (fault, x)) (inr (again, y)) = fault ∙ sym again

  stands-file : (o : Result FileBody BadFile) (w : Write) → decoded bytes ≡ o → write_with secrets hash o ≡ Some w → name_of w ≡ file
      → IsFileOf secrets hash file bytes w
  stands-file (Err bad) w e reads named = cc
  stands-file (Ok body) w e reads named =
      let said : Hash = hash_said secrets hash file body in
      let found = cond_some (bytes_eq said hash) body.write w reads in
      record { body = body; decodes = e; write = found.1; hashed = (bytes_eq-Decides said hash).0 found.0; named = named }

pub one_reading : OneReading
one_reading secrets hash file bytes = record {
  some = some-reading secrets hash file bytes (decoded bytes) refl;
  apart = λ w bad is damage. reads-sound secrets hash file bytes w bad (file-decodes secrets hash file bytes w is) is.named damage;
  one_write = one-write secrets hash file bytes;
  one_fault = one-fault secrets hash file bytes;
}

pub read_as_it_stands : ReadAsItStands
read_as_it_stands secrets hash file bytes w = (
  λ is. (file-decodes secrets hash file bytes w is, is.named),
  λ x. stands-file secrets hash file bytes (decoded bytes) w refl x.0 x.1,
)
