use Rattle.file_ops.proofs.Resting.{refused-rests}
use Rattle.file_ops.proofs.saving.Saving.rests.Goals as goal

pub returns-in-Some : goal.returns-in-Some
returns-in-Some c = refused-rests c.args.self.now c.args.back.now _ _ c.in-Some.is c.has_waiting.ensures
