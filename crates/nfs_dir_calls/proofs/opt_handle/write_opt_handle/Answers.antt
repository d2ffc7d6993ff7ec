use Rattle.nfs_dir_calls.proofs.Wrote.{wrote_then}
use Rattle.nfs_dir_calls.proofs.opt_handle.write_opt_handle.Goals as goal

pub returns-in_ok-write_handle-clause-spelled : goal.returns-in_ok-write_handle-clause-spelled
returns-in_ok-write_handle-clause-spelled c =
    rw c.in-Some.is (wrote_then _ _ _ _ _ c.in_ok-flag.ensures.spelled c.in_ok-write_handle.ensures.spelled)

pub returns-in_ok-flag-2-clause-spelled : goal.returns-in_ok-flag-2-clause-spelled
returns-in_ok-flag-2-clause-spelled c = rw c.in_default.is c.in_ok-flag-2.ensures.spelled
