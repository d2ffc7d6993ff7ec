use Rattle.std.proofs.Common.{sym, ◌∙◌}
use Rattle.file_ops.proofs.Resting.{sent-rests}
use Rattle.file_ops.proofs.saving.Saving.rests_sent.Goals as goal

pub returns-then-has_waiting : goal.returns-then-has_waiting
returns-then-has_waiting c = sent-rests c.args.self.now c.args.back.now _ c.requires.unrefused (sym c.has_waiting.ensures ∙ c.if-has_waiting.true) c.is_sent.ensures
