use Rattle.nfs_dir_calls.proofs.DirPages.{wrote_name}
use Rattle.nfs_dir_calls.proofs.listed_name.write_listed_name.Goals as goal

pub returns-clause-spelled : goal.returns-clause-spelled
returns-clause-spelled c = wrote_name _ _ _ c.requires (c.in_ok-opaque.ensures.spelled 255 c.requires.bound)
