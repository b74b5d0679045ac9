use Rattle.std.proofs.Common.{◌≡◌, ◌+◌, ◌∙◌, List, [], drop, refl, subst, sym, arith, Ok, Err}
use Rattle.std.proofs.lemmas.List.{append-nil, drop_all}
use Rattle.sw_listing.specs.declared.entry.Entry.{Entry}
use Rattle.sw_peer.specs.Sights.{Sight}
use Rattle.sw_sharded_listing.proofs.Adding.{added-err, added-ok}
use Rattle.sw_sharded_listing.proofs.Ends.{at-here}
use Rattle.sw_sharded_listing.specs.Across.{AreAllListed, AreListed, Listing}
use Rattle.sw_sharded_listing.specs.Parts.{Part, parts_in}
use Rattle.sw_sharded_listing.proofs.asking.list_parts.Goals as goal

pub returns-in-Err-ask-clause-lists : goal.returns-in-Err-ask-clause-lists
returns-in-Err-ask-clause-lists g c =
    let s = g.D.Door.sight in
    let parts = parts_in c.args.split.now in
    let i = c.loop-index.index in
    c.loop-index.invariant.lists (Err c.in-Err-ask.answer) (s c.ask.new.door)
    (subst (λ (ps : List Part). AreListed c.loop-index.asked ps (s c.loop-index.door) (Err c.in-Err-ask.answer) (s c.ask.new.door))
    (sym (at-here parts i c.part.result c.part.ensures.part))
    (added-err c.part.result (drop (i + 1) parts) c.loop-index.asked c.loop-index.found.items (s c.loop-index.door) c.in-Err-ask.answer c.ask.new.asked
    c.ask.new.found.items (s c.ask.new.door) c.in-Err-ask.ensures.adds))

pub loop-index-preserved : goal.loop-index-preserved
loop-index-preserved g c =
    let s = g.D.Door.sight in
    let parts = parts_in c.args.split.now in
    let i = c.loop-index.index in
    record {
      lists = added-ok (λ (r : Listing) (new : Sight). AreAllListed c.args.query.now parts (s c.args.door.now) r new) c.part.result (drop (i + 1) parts)
          c.loop-index.asked c.loop-index.found.items (s c.loop-index.door) tt c.ask.new.asked c.ask.new.found.items (s c.ask.new.door)
          (λ later new h. c.loop-index.invariant.lists later new
          (subst (λ (ps : List Part). AreListed c.loop-index.asked ps (s c.loop-index.door) later new)
          (sym (at-here parts i c.part.result c.part.ensures.part)) h)) c.in-Ok-ask.ensures.adds;
      nodes = c.ask.ensures.nodes ∙ c.loop-index.invariant.nodes;
      asks = c.ask.ensures.asks ∙ c.loop-index.invariant.asks;
    }

pub returns-clause-lists : goal.returns-clause-lists
returns-clause-lists g c =
    let s = g.D.Door.sight in
    let parts = parts_in c.args.split.now in
    let none : drop c.loop-index.index parts ≡ [] = drop_all c.loop-index.index parts (omega (arith, c.loop-index-test.false, c.len-index-end.ensures)) in
    subst (λ (es : List Entry). AreAllListed c.args.query.now parts (s c.args.door.now) (Ok es) (s c.loop-index.door))
    (append-nil c.loop-index.found.items ∙ sym c.into.ensures)
    (c.loop-index.invariant.lists (Ok []) (s c.loop-index.door)
    (subst (λ (ps : List Part). AreListed c.loop-index.asked ps (s c.loop-index.door) (Ok []) (s c.loop-index.door)) (sym none) (refl, refl)))
