use Rattle.xdr_codec.proofs.MoreLaws.{opaque_codec}
use Rattle.mount_calls.specs.Exports.{groups_at}
use Rattle.mount_calls.proofs.ListLaws.{list_broken, list_ends, list_refused, list_next, list_smaller, handed_on, passed_on}
use Rattle.mount_calls.proofs.exports.read_groups.Goals as goal

pub returns-in_err-flag : goal.returns-in_err-flag
unfolding groups_at
returns-in_err-flag c = handed_on _ _ _ _ c.from_residual.ensures.1 (list_broken _ _ _ _ _ c.names.invariant c.in_err-flag.ensures.exact.0)

pub returns-in_err-read_text : goal.returns-in_err-read_text
unfolding groups_at
returns-in_err-read_text c =
    passed_on _ _ _ _ _ c.from_residual-in_err-read_text.ensures.1 c.in_err-read_text.ensures
    (λ f e. list_refused _ _ _ _ _ f c.names.invariant (rw c.if-branch.true at c.in_ok-flag.ensures.exact) e)

pub names-smaller : goal.names-smaller
names-smaller c = list_smaller (opaque_codec 255) _ _ _ _ c.names.invariant.fits (rw c.if-branch.true at c.in_ok-flag.ensures.exact) c.in_ok-read_text.ensures

pub names-preserved : goal.names-preserved
names-preserved c = rw (c.in_ok-keep.ensures) (list_next (opaque_codec 255) _ _ _ _ _ _ c.names.invariant (rw c.if-branch.true at c.in_ok-flag.ensures.exact) c.in_ok-read_text.ensures)

pub returns : goal.returns
unfolding groups_at
returns c = list_ends _ _ _ _ _ c.names.invariant (rw c.if-branch.false at c.in_ok-flag.ensures.exact)
