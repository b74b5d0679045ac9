use Rattle.std.proofs.Common.{◌∙◌}
use Rattle.sw_cleanup.proofs.Cleaned.{cleaned, cleaned_picks}
use Rattle.sw_cleanup.proofs.Keeping.{cleaning_keeps, same_keeps}
use Rattle.sw_cleanup.proofs.cleaning.cleanup.Goals as goal

pub returns-clause-cleans : goal.returns-clause-cleans
returns-clause-cleans g c = λ told.
    cleaned _ _ _ c.args.dir.now _ _ _ _ _ _ _ _ _ _ _ _ _ c.pick.result (c.in_ok-listing.ensures.files told) c.as_slice.ensures c.in_ok-names.ensures
    c.deref.ensures.value c.in_ok-superseded.ensures c.deref-2.ensures.value (c.in_ok-listing.ensures.same told) c.in_ok-listing.ensures.cause.kept
    (c.unlink_each.ensures.unlinks (c.in_ok-listing.ensures.told ∙ told)) c.in_ok-listing.ensures.calls c.unlink_each.ensures.calls c.deref-3.ensures.value
    c.pick.ensures

pub returns-clause-picks : goal.returns-clause-picks
returns-clause-picks g c = λ told. let c = returns-clause-cleans g c told in cleaned_picks _ _ _ c.0 _ _ _ c.1

pub returns-clause-stands : goal.returns-clause-stands
returns-clause-stands g c = λ told. let c = returns-clause-cleans g c told in cleaning_keeps _ _ _ c.0 _ _ _ c.1

pub returns-in_err-listing-clause-stands : goal.returns-in_err-listing-clause-stands
returns-in_err-listing-clause-stands g c = λ told. same_keeps _ _ c.args.dir.now (c.list.ensures.same told)

pub returns-in_err-names-clause-stands : goal.returns-in_err-names-clause-stands
returns-in_err-names-clause-stands g c = λ told. same_keeps _ _ c.args.dir.now (c.list.ensures.same told)

pub returns-in_err-superseded-clause-stands : goal.returns-in_err-superseded-clause-stands
returns-in_err-superseded-clause-stands g c = λ told. same_keeps _ _ c.args.dir.now (c.list.ensures.same told)
