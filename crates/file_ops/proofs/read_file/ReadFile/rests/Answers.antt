use Rattle.file_ops.proofs.Resting.{read-rests}
use Rattle.file_ops.proofs.read_file.ReadFile.rests.Goals as goal

pub returns-in-Some : goal.returns-in-Some
returns-in-Some c = read-rests c.args.self.now _ _ c.in-Some.is c.has_asked.ensures
