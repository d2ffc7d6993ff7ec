use Rattle.nfs_dir_calls.proofs.Wrote.{wrote_then}
use Rattle.nfs_dir_calls.proofs.create.write_making.Goals as goal

pub returns-in_ok-write_set_attr-in-Unchecked-clause-spelled : goal.returns-in_ok-write_set_attr-in-Unchecked-clause-spelled
returns-in_ok-write_set_attr-in-Unchecked-clause-spelled c =
    rw c.in-Unchecked.is (wrote_then _ _ _ _ _ c.in_ok-u32-in-Unchecked.ensures.spelled c.in_ok-write_set_attr-in-Unchecked.ensures.spelled)

pub returns-in_ok-write_set_attr-in-Guarded-clause-spelled : goal.returns-in_ok-write_set_attr-in-Guarded-clause-spelled
returns-in_ok-write_set_attr-in-Guarded-clause-spelled c =
    rw c.in-Guarded.is (wrote_then _ _ _ _ _ c.in_ok-u32-in-Guarded.ensures.spelled c.in_ok-write_set_attr-in-Guarded.ensures.spelled)

pub returns-in_ok-write_verf-in-Exclusive-clause-spelled : goal.returns-in_ok-write_verf-in-Exclusive-clause-spelled
returns-in_ok-write_verf-in-Exclusive-clause-spelled c =
    rw c.in-Exclusive.is (wrote_then _ _ _ _ _ c.in_ok-u32-in-Exclusive.ensures.spelled c.in_ok-write_verf-in-Exclusive.ensures.spelled)
