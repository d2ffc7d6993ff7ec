use Rattle.std.proofs.Common.{[], ◌++◌, refl}
use Rattle.std.proofs.lemmas.Result.{err_from_is_err_and}
use Rattle.nfs_dir_calls.specs.PlusPages.{plus_row_at}
use Rattle.nfs_dir_calls.proofs.PlusPages.{plus_row_codec}
use Rattle.nfs_dir_calls.proofs.Pages.{along_begins, along_end, along_next, along_refused, along_broken, rest_shorter, page_is}
use Rattle.nfs_dir_calls.proofs.plus_page.read_plus_page.Goals as goal

pub loop-at-init : goal.loop-at-init
loop-at-init c = rw (c.again-at.ensures) (along_begins plus_row_at _ c.holds_bytes.ensures)

pub returns-in_err-flag : goal.returns-in_err-flag
returns-in_err-flag c =
    let p = err_from_is_err_and c.from_residual.result c.from_residual.ensures.1 in
    rw (p.1, p.2) (along_broken plus_row_at _ _ _ c.loop-at.invariant c.in_err-flag.ensures.exact.0, refl)

pub loop-at-smaller : goal.loop-at-smaller
loop-at-smaller c = rest_shorter plus_row_codec _ _ _ _ c.loop-at.invariant.fits (rw c.if-branch.true at c.in_ok-flag.ensures.exact) c.in-Ok.ensures

pub loop-at-preserved : goal.loop-at-preserved
loop-at-preserved c = along_next plus_row_codec _ _ _ _ _ c.loop-at.invariant (rw c.if-branch.true at c.in_ok-flag.ensures.exact) c.in-Ok.ensures

pub returns-in-Err : goal.returns-in-Err
returns-in-Err c = (along_refused _ _ _ _ c.loop-at.invariant (rw c.if-branch.true at c.in_ok-flag.ensures.exact) c.in-Err.ensures.0, refl)

pub invariant_of-result : goal.invariant_of-result
invariant_of-result c = rw (c.again-start.ensures) (record {
  fits = c.holds_bytes.ensures;
  all = (c.loop-at.invariant.seen ++ [], c.flag.new.self);
  is = along_end _ _ _ c.loop-at.invariant (rw c.if-branch.false at c.in_ok-flag.ensures.exact);
})

pub returns : goal.returns
returns c = rw (c.again-start.ensures) (page_is plus_row_at _ _ (along_end _ _ _ c.loop-at.invariant (rw c.if-branch.false at c.in_ok-flag.ensures.exact)))
