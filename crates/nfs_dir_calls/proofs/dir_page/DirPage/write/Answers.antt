use Rattle.std.proofs.lemmas.Result.{err_from_is_err_and}
use Rattle.xdr_codec.proofs.Begins.{begins_then}
use Rattle.nfs_dir_calls.proofs.Pages.{writing_next, writing_end}
use Rattle.nfs_dir_calls.proofs.dir_page.DirPage.write.Goals as goal

pub loop-entry-preserved : goal.loop-entry-preserved
loop-entry-preserved c = writing_next _ _ _ _ _ _ _ _ (rw c.in-Some.ensures.0 at c.loop-entry.invariant) c.in_ok-write_dir_entry.ensures.ok c.in_ok-write_dir_entry.ensures.spelled

pub returns-in_err-write_dir_entry-clause-err : goal.returns-in_err-write_dir_entry-clause-err
returns-in_err-write_dir_entry-clause-err c =
    let p = err_from_is_err_and c.from_residual.result c.from_residual.ensures.1 in
    rw p.1 (begins_then _ _ _ c.loop-entry.invariant.begins c.in_err-write_dir_entry.ensures.err)

pub returns-clause-ok : goal.returns-clause-ok
returns-clause-ok c = writing_end _ _ _ _ _ _ (rw c.in_default.ensures.0 at c.loop-entry.invariant) c.in_ok-flag.ensures.ok

pub returns-clause-spelled : goal.returns-clause-spelled
returns-clause-spelled c = let w = rw c.in_default.ensures.0 at c.loop-entry.invariant in w.spells _ c.in_ok-flag.ensures.spelled
