use Rattle.std.proofs.Common.{rules}
use Rattle.file_ops.proofs.write_file.WriteFile.follow.Goals as goal

-- src/write_file.rt:198:17
pub write-requires-clause-newest : goal.write-requires-clause-newest
write-requires-clause-newest c = c.requires.newest (search rules)
