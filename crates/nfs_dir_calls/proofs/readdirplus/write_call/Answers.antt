use Rattle.nfs_dir_calls.proofs.Wrote.{wrote_then}
use Rattle.nfs_dir_calls.proofs.readdirplus.write_call.Goals as goal

pub returns-clause-spelled : goal.returns-clause-spelled
returns-clause-spelled c = wrote_then _ _ _ _ _ c.in_ok-write_handle.ensures.spelled (wrote_then _ _ _ _ _ c.in_ok-u64.ensures.spelled (wrote_then _ _ _ _ _ c.in_ok-write_verf.ensures.spelled (wrote_then _ _ _ _ _ c.in_ok-u32.ensures.spelled c.in_ok-u32-2.ensures.spelled)))
