-- A file that was read, sent and acknowledged.
use Rattle.std.proofs.Common.{◌≡◌, ℕ, true, refl, sym, ◌∙◌, subst, inl, Some, Ok}
use Rattle.sw_diskfile.specs.declared.file_name.FileName.{FileName}
use Rattle.sw_object_steps.specs.Journals.{Hash}
use Rattle.sw_object_steps.specs.Parts.{IsOfPart, IsStored}
use Rattle.sw_peer.specs.Sights.{Nodes, Sight}
use Rattle.sw_object_steps.specs.declared.change.Change.TheVariants.{Receive}
use Rattle.sw_replicator.proofs.Going.{Passes}
use Rattle.sw_replicator.proofs.Making.{made-stands}
use Rattle.sw_replicator.proofs.Reading.{made-pair, pair-trans, write-pair, write-told}
use Rattle.sw_replicator.proofs.Taking.{Covers, file-alike}
use Rattle.sw_replicator.specs.Meeting.{PairMoves, known, state_by}
use Rattle.sw_state.specs.States.{joined}

module _ (from to part : ℕ) (h : Hash) (file : FileName) (a c : Sight) (p : Passes from to part h file a c) where
  pub pass-stored : IsOfPart a.nodes.power part h → IsStored a.nodes.fits h file (known p.mid from part).told (state_by (known p.mid from part)) p.stored
  pass-stored is = write-told from part h file a (Some p.stored) p.mid p.read is

  pub pass-read : PairMoves from to part a p.mid
  pass-read = write-pair from part h file from to (inl refl) a (Ok (Ok (Some p.stored))) p.mid p.read

  pub pass-part : IsOfPart a.nodes.power part h → IsOfPart p.mid.nodes.power part p.stored.name.hash
  pass-part is =
      subst (λ (k : Nodes). IsOfPart k.power part p.stored.name.hash) (sym pass-read.nodes)
      (subst (λ (x : Hash). IsOfPart a.nodes.power part x) (sym (pass-stored is).hash_is) is)

  pub pass-made : IsOfPart a.nodes.power part h → PairMoves from to part p.mid c
  pass-made is = made-pair from to part p.stored.name (Receive p.stored.write) p.mid (Ok p.answer) c (pass-part is) p.made

  pub pass-moves : IsOfPart a.nodes.power part h → PairMoves from to part a c
  pass-moves is = pair-trans from to part a p.mid c pass-read (pass-made is)

  -- what stands at the receiver has it
  pub pass-stands : IsOfPart a.nodes.power part h → (known c to part).told ≡ true → Covers (state_by (known c to part) h) file
  pass-stands is told v named =
      file-alike (state_by (known c to part) h) p.stored.write v ((pass-stored is).named ∙ sym named)
      (subst (λ (x : Hash). joined (state_by (known c to part) x) p.stored.write ≡ state_by (known c to part) x) (pass-stored is).hash_is
      (made-stands to p.stored.name p.stored.write part p.mid p.answer c (pass-part is) p.made p.held told))
