use Rattle.nfs_dir_calls.proofs.Wrote.{wrote_then}
use Rattle.nfs_dir_calls.proofs.place.write_place.Goals as goal

pub returns-clause-spelled : goal.returns-clause-spelled
returns-clause-spelled c = wrote_then _ _ _ _ _ c.in_ok-write_handle.ensures.spelled c.in_ok-write_name.ensures.spelled
