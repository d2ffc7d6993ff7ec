use Rattle.nfs_types.specs.Spells.{SpellsWcc}
use Rattle.nfs_dir_calls.proofs.Wrote.{wrote_then, wrote_failure}
use Rattle.nfs_dir_calls.proofs.failure.write_wcc_failure.Goals as goal

pub returns-clause-spelled : goal.returns-clause-spelled
returns-clause-spelled c = wrote_failure SpellsWcc _ _ _ _ c.requires (wrote_then _ _ _ _ _ c.in_ok-u32.ensures.spelled c.in_ok-write_wcc.ensures.spelled)
