use Rattle.std.proofs.Common.{sym, ◌∙◌}
use Rattle.nfs_script.proofs.Sole.{sole}
use Rattle.nfs_script.proofs.file_commands.write.Goals as goal

pub returns-in-Some-2 : goal.returns-in-Some-2
returns-in-Some-2 c = rw (sole _ _ _ _ _ c.in-Some.ensures (sym c.in-Some-2.is ∙ c.in_ok-bytes.ensures)) c.write_at.ensures
