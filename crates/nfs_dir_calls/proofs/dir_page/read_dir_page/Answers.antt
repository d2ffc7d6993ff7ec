use Rattle.std.proofs.Common.{[], ◌++◌, refl}
use Rattle.std.proofs.lemmas.Result.{err_from_is_err_and}
use Rattle.nfs_dir_calls.specs.DirPages.{dir_row_at}
use Rattle.nfs_dir_calls.proofs.DirPages.{dir_row_codec}
use Rattle.nfs_dir_calls.proofs.Pages.{along_begins, along_end, along_next, along_refused, along_broken, rest_shorter, page_is}
use Rattle.nfs_dir_calls.proofs.dir_page.read_dir_page.Goals as goal

pub loop-at-init : goal.loop-at-init
loop-at-init c = rw (c.again-at.ensures) (along_begins dir_row_at _ c.holds_bytes.ensures)

pub returns-in_err-flag : goal.returns-in_err-flag
returns-in_err-flag c =
    let p = err_from_is_err_and c.from_residual.result c.from_residual.ensures.1 in
    rw (p.1, p.2) (along_broken dir_row_at _ _ _ c.loop-at.invariant c.in_err-flag.ensures.exact.0, refl)

pub loop-at-smaller : goal.loop-at-smaller
loop-at-smaller c = rest_shorter dir_row_codec _ _ _ _ c.loop-at.invariant.fits (rw c.if-branch.true at c.in_ok-flag.ensures.exact) c.in_ok-read_dir_entry.ensures

pub loop-at-preserved : goal.loop-at-preserved
loop-at-preserved c = along_next dir_row_codec _ _ _ _ _ c.loop-at.invariant (rw c.if-branch.true at c.in_ok-flag.ensures.exact) c.in_ok-read_dir_entry.ensures

pub returns-in_err-read_dir_entry : goal.returns-in_err-read_dir_entry
returns-in_err-read_dir_entry c =
    let p = err_from_is_err_and c.from_residual-in_err-read_dir_entry.result c.from_residual-in_err-read_dir_entry.ensures.1 in
    rw (p.1, p.2) (along_refused _ _ _ _ c.loop-at.invariant (rw c.if-branch.true at c.in_ok-flag.ensures.exact) c.in_err-read_dir_entry.ensures.0, refl)

pub invariant_of-result : goal.invariant_of-result
invariant_of-result c = rw (c.again-start.ensures) (record {
  fits = c.holds_bytes.ensures;
  all = (c.loop-at.invariant.seen ++ [], c.flag.new.self);
  is = along_end _ _ _ c.loop-at.invariant (rw c.if-branch.false at c.in_ok-flag.ensures.exact);
})

pub returns : goal.returns
returns c = rw (c.again-start.ensures) (page_is dir_row_at _ _ (along_end _ _ _ c.loop-at.invariant (rw c.if-branch.false at c.in_ok-flag.ensures.exact)))
