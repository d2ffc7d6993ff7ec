use Rattle.mount_calls.proofs.Laws.{row_codec}
use Rattle.mount_calls.specs.Exports.{exports_at}
use Rattle.mount_calls.proofs.ListLaws.{list_broken, list_ends, list_refused, list_next, list_smaller, handed_on, passed_on}
use Rattle.mount_calls.proofs.exports.read_exports.Goals as goal

pub returns-in_err-flag : goal.returns-in_err-flag
unfolding exports_at
returns-in_err-flag c = handed_on _ _ _ _ c.from_residual.ensures.1 (list_broken _ _ _ _ _ c.rows.invariant c.in_err-flag.ensures.exact.0)

pub returns-in_err-read_row : goal.returns-in_err-read_row
unfolding exports_at
returns-in_err-read_row c =
    passed_on _ _ _ _ _ c.from_residual-in_err-read_row.ensures.1 c.in_err-read_row.ensures
    (λ f e. list_refused _ _ _ _ _ f c.rows.invariant (rw c.if-branch.true at c.in_ok-flag.ensures.exact) e)

pub rows-smaller : goal.rows-smaller
rows-smaller c = list_smaller row_codec _ _ _ _ c.rows.invariant.fits (rw c.if-branch.true at c.in_ok-flag.ensures.exact) c.in_ok-read_row.ensures

pub rows-preserved : goal.rows-preserved
rows-preserved c = rw (c.in_ok-keep.ensures) (list_next row_codec _ _ _ _ _ _ c.rows.invariant (rw c.if-branch.true at c.in_ok-flag.ensures.exact) c.in_ok-read_row.ensures)

pub returns : goal.returns
unfolding exports_at
returns c = list_ends _ _ _ _ _ c.rows.invariant (rw c.if-branch.false at c.in_ok-flag.ensures.exact)
